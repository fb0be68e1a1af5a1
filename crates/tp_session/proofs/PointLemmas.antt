-- From one point to the next.
use Rattle.std.proofs.Common.{◌≡◌, ℕ, ◌<◌, Bool, true, false, List, [], ◌∷◌, ◌++◌, length, refl, ap, sym, subst, ◌∙◌, arith}
use Rattle.std.proofs.Common.{append_assoc}
use Rattle.std.specs.List.{filter}
use Rattle.std.proofs.lemmas.List.{append-nil}
use Rattle.tp_requests.specs.Lines.{Line, line_feed, lines_of, ended_lines}
use Rattle.tp_answers.specs.declared.answer.Answer.{Answer}
use Rattle.tp_answers.specs.Sessions.{Session}
use Rattle.tp_answers.specs.Rules.{IsVerdict, IsOutcome}
use Rattle.tp_answers.specs.Texts.{answer_text}
use Rattle.tp_session.specs.Protocol.{next_number, AreAnswers}
use Rattle.tp_session.specs.Served.{AreAnswered}
use Rattle.tp_session.specs.Services.{AnswersLine}
use Rattle.tp_session.specs.Points.{Point, number_after, IsPlain, HasReached}
use Rattle.tp_session.proofs.LineLemmas.{plain_more, lines_plain, lines_none, lines_ended, ended_plain, filter-append}

-- ---- the answers to one line more

pub answers_more : (trace : Bool) (number : ℕ) (before : List Session) (lines : List Line) (output : List ℕ) (between : List Session)
    (line : Line) (answer : Answer) (after : List Session)
    → AreAnswers IsVerdict IsOutcome trace number before lines output between → AnswersLine line between answer after
    → AreAnswers IsVerdict IsOutcome trace number before (lines ++ line ∷ [])
    (output ++ answer_text trace (number_after number lines) answer) after
answers_more trace number before [] output between line answer after all one = (
  answer,
  after,
  [],
  subst (λ s. AnswersLine line s answer after) all.1 one,
  (refl, refl),
  ap (λ l. l ++ answer_text trace number answer) all.0 ∙ sym (append-nil (answer_text trace number answer)),
)
answers_more trace number before (first ∷ lines) output between line answer after (front, next, rest, is, others, told_is) one = (
  front,
  next,
  rest ++ answer_text trace (number_after (next_number number) lines) answer,
  is,
  answers_more trace (next_number number) next lines rest between line answer after others one,
  ap (λ l. l ++ answer_text trace (number_after (next_number number) lines) answer) told_is
      ∙ append_assoc (answer_text trace number front) rest (answer_text trace (number_after (next_number number) lines) answer),
)

pub number_more : (number : ℕ) (lines : List Line) (line : Line)
    → number_after number (lines ++ line ∷ []) ≡ next_number (number_after number lines)
number_more number [] line = refl
number_more number (first ∷ lines) line = number_more (next_number number) lines line

-- ---- points

abbrev pub start : Point
start = record { taken = []; lines = []; line = []; output = []; sessions = [] }

pub starts : (trace : Bool) → HasReached trace start
starts trace = record { ended = refl; goes = λ more. refl; plain = tt; answered = (refl, refl) }

-- more of a line
abbrev pub with_bytes : Point → List ℕ → Point
with_bytes s bytes = record s { taken = s.taken ++ bytes; line = s.line ++ bytes }

pub reached_more : (trace : Bool) (s : Point) (bytes : List ℕ) → HasReached trace s → IsPlain bytes → HasReached trace (with_bytes s bytes)
reached_more trace s bytes reached plain = record {
  ended = reached.ended;
  goes =
      λ more. ap lines_of (append_assoc s.taken bytes more) ∙ reached.goes (bytes ++ more)
      ∙ ap (λ l. s.lines ++ lines_of l) (sym (append_assoc s.line bytes more));
  plain = plain_more s.line bytes reached.plain plain;
  answered = reached.answered;
}

-- the line that is being read, by a line feed or by the end of the input
abbrev pub line_now : Point → Bool → Line
line_now s ended = record { bytes = s.line; ended = ended }

-- the lines with the one that is being read
abbrev pub lines_now : Point → Bool → List Line
lines_now s ended = s.lines ++ line_now s ended ∷ []

-- the text of its answer
abbrev pub text_now : Bool → Point → Answer → List ℕ
text_now trace s answer = answer_text trace (number_after 1 s.lines) answer

-- behind its line feed
abbrev pub with_line : Bool → Point → Answer → List Session → Point
with_line trace s answer after = record {
  taken = s.taken ++ line_feed ∷ [];
  lines = lines_now s true;
  line = [];
  output = s.output ++ text_now trace s answer;
  sessions = after;
}

-- whatever follows
pub begins_line : (trace : Bool) (s : Point) → HasReached trace s → (more : List ℕ)
    → lines_of ((s.taken ++ line_feed ∷ []) ++ more) ≡ lines_now s true ++ lines_of more
begins_line trace s reached more =
    ap lines_of (append_assoc s.taken (line_feed ∷ []) more) ∙ reached.goes (line_feed ∷ more)
    ∙ ap (λ l. s.lines ++ l) (lines_ended s.line more reached.plain)
    ∙ sym (append_assoc s.lines (line_now s true ∷ []) (lines_of more))

pub reached_line : (trace : Bool) (s : Point) (answer : Answer) (after : List Session) → HasReached trace s
    → AnswersLine (line_now s true) s.sessions answer after → HasReached trace (with_line trace s answer after)
reached_line trace s answer after reached is = record {
  ended = filter-append (λ line. line.ended) s.lines (line_now s true ∷ []) ∙ ap (λ l. l ++ line_now s true ∷ []) reached.ended;
  goes = begins_line trace s reached;
  plain = tt;
  answered = answers_more trace 1 [] s.lines s.output s.sessions (line_now s true) answer after reached.answered is;
}

-- the lines that the taken bytes end
pub ended_so_far : (trace : Bool) (s : Point) → HasReached trace s → ended_lines s.taken ≡ s.lines
ended_so_far trace s reached =
    ap ended_lines (sym (append-nil s.taken)) ∙ ap (filter (λ line. line.ended)) (reached.goes [])
    ∙ filter-append (λ line. line.ended) s.lines (lines_of (s.line ++ []))
    ∙ ap (λ l. filter (λ line. line.ended) s.lines ++ ended_lines l) (append-nil s.line)
    ∙ ap (λ l. filter (λ line. line.ended) s.lines ++ l) (ended_plain s.line reached.plain)
    ∙ append-nil (filter (λ line. line.ended) s.lines) ∙ reached.ended

pub told_ended : (trace : Bool) (s : Point) → HasReached trace s → AreAnswered trace (ended_lines s.taken) s.output
told_ended trace s reached = (s.sessions, rw (ended_so_far trace s reached) reached.answered)

-- all lines, where nothing is left
pub lines_whole : (trace : Bool) (s : Point) → HasReached trace s → s.line ≡ [] → lines_of s.taken ≡ s.lines
lines_whole trace s reached none =
    ap lines_of (sym (append-nil s.taken)) ∙ reached.goes [] ∙ ap (λ l. s.lines ++ lines_of (l ++ [])) none
    ∙ ap (λ l. s.lines ++ l) lines_none ∙ append-nil s.lines

pub told_whole : (trace : Bool) (s : Point) → HasReached trace s → s.line ≡ [] → AreAnswered trace (lines_of s.taken) s.output
told_whole trace s reached none = (s.sessions, rw (lines_whole trace s reached none) reached.answered)

-- all lines, where a rest is left
pub lines_rest : (trace : Bool) (s : Point) → HasReached trace s → 0 < length s.line → lines_of s.taken ≡ lines_now s false
lines_rest trace s reached some =
    ap lines_of (sym (append-nil s.taken)) ∙ reached.goes [] ∙ ap (λ l. s.lines ++ lines_of l) (append-nil s.line)
    ∙ ap (λ l. s.lines ++ l) (by_line s.line some reached.plain)
  where
    by_line : (line : List ℕ) → 0 < length line → IsPlain line → lines_of line ≡ record { bytes = line; ended = false } ∷ []
    by_line [] some plain = absurd (omega (arith, some))
    by_line (b ∷ line) some plain = lines_plain b line plain
