-- The protocol: what is answered to the lines of an input.
--
-- The verdict on an image and the outcome of a packet are parameters. `Served` has what is answered by the rules of the
-- product.
use Rattle.std.specs.Prelude.{◌≡◌, ℕ, ◌+◌, ◌-◌, ◌^◌, min, nat_lt, Bool, true, false, List, [], ◌∷◌, ◌++◌, length}
use Rattle.std.specs.Prelude.{Option, None}
use Rattle.tp_image.specs.Image.{ImageValue}
use Rattle.tp_answers.specs.Results.{RunResult}
use Rattle.tp_requests.specs.Lines.{Line, lines_of, said_in}
use Rattle.tp_requests.specs.Requests.{Asked}
use Rattle.tp_requests.specs.Protocol.{AsksFor}
use Rattle.tp_answers.specs.declared.answer.Answer.{Answer}
use Rattle.tp_answers.specs.Sessions.{Session}
use Rattle.tp_answers.specs.Answers.{Verdict, IsAnswer, IsAfter}
use Rattle.tp_answers.specs.Texts.{answer_text}

-- the most bytes of a line before its line feed
abbrev pub most_line : ℕ
most_line = 32768

-- lines are numbered from 1; at 2 ^ 64 - 1 the number stays
abbrev pub next_number : ℕ → ℕ
next_number number = min (number + 1) (2 ^ 64 - 1)

-- what is asked for; a line that is too long asks for nothing
abbrev pub IsAsked : (long : Bool) → List ℕ → Option Asked → Type 0
IsAsked true says asked = asked ≡ None
IsAsked false says asked = AsksFor says asked

abbrev pub IsAskedIn : Line → Option Asked → Type 0
IsAskedIn line asked = IsAsked (nat_lt most_line (length line.bytes)) (said_in line) asked

module _ (Judges : List ℕ → Verdict → Type 0) (HasOutcome : ImageValue → List ℕ → Option RunResult → Type 0) where
  -- what a line is answered with, and the sessions after it
  pub record IsAnswered (line : Line) (before : List Session) (answer : Answer) (after : List Session) : Type 0 where
    pub asked : Option Asked
    pub asks : IsAskedIn line asked
    pub answer_is : IsAnswer Judges HasOutcome asked before answer
    pub after_is : IsAfter Judges asked before after

  -- the texts of the answers to lines, the first of which has a number
  abbrev pub AreAnswers : Bool → ℕ → List Session → List Line → List ℕ → List Session → Type 0
  AreAnswers trace number before [] output after = (output ≡ []) × (after ≡ before)
  AreAnswers trace number before (line ∷ lines) output after =
      (answer : Answer) × (between : List Session) × (rest : List ℕ) × IsAnswered line before answer between
      × AreAnswers trace (next_number number) between lines rest after
      × (output ≡ answer_text trace number answer ++ rest)

  -- what is answered to the first lines of an input: before them no session is open
  abbrev pub AreAnswered : Bool → List Line → List ℕ → Type 0
  AreAnswered trace lines output = (after : List Session) × AreAnswers trace 1 [] lines output after

-- what is written for an input, where this is the verdict on each text and this is the outcome of each packet
abbrev pub IsServedBy : (List ℕ → Verdict) → (ImageValue → List ℕ → Option RunResult) → Bool → List ℕ → List ℕ → Type 0
IsServedBy verdict outcome trace input output =
    AreAnswered (λ text v. v ≡ verdict text) (λ image packet o. o ≡ outcome image packet) trace (lines_of input) output
