-- What is written for an input.
use Rattle.std.specs.Prelude.{◌≡◌, ℕ, ◌≤◌, Bool, List, ◌++◌, length, take, Option, IfSome}
use Rattle.std.specs.Io.KnownBytes.{Appends, Consumes, IsAtEnd}
use Rattle.tp_image.specs.Image.{ImageValue}
use Rattle.tp_answers.specs.Results.{RunResult}
use Rattle.tp_requests.specs.Lines.{Line, lines_of, ended_lines}
use Rattle.tp_answers.specs.Answers.{Verdict}
use Rattle.tp_answers.specs.Rules.{IsVerdict, IsOutcome}
use Rattle.tp_session.specs.Protocol as protocol

-- the most bytes that are read at a time
abbrev pub most_read : ℕ
most_read = 4096

-- what is answered to the first lines of an input, by the verifier's verdicts and the runs of packets alone
abbrev pub AreAnswered : Bool → List Line → List ℕ → Type 0
AreAnswered trace lines output = protocol.AreAnswered IsVerdict IsOutcome trace lines output

-- what is written for an input
abbrev pub IsServed : Bool → List ℕ → List ℕ → Type 0
IsServed trace input output = AreAnswered trace (lines_of input) output

-- the answers to these lines are written
pub record AreWritten (trace : Bool) (lines : List Line) (old new : Option (List ℕ)) : Type 0 where
  pub output : List ℕ
  pub is : AreAnswered trace lines output
  pub wrote : Appends old new output

-- some of the first bytes of these answers are
pub record AreWrittenInPart (trace : Bool) (lines : List Line) (old new : Option (List ℕ)) : Type 0 where
  pub output : List ℕ
  pub is : AreAnswered trace lines output
  pub some : ℕ
  pub wrote : Appends old new (take some output)

-- the answers to the whole lines before a byte are, which is among the last of those that were taken, or behind them
pub record AreWrittenBefore (trace : Bool) (taken : List ℕ) (last : ℕ) (old new : Option (List ℕ)) : Type 0 where
  pub before : List ℕ
  pub rest : List ℕ
  pub split : taken ≡ before ++ rest
  pub short : length rest ≤ last
  pub answers : AreWritten trace (ended_lines before) old new

-- all of the input is read, and the answers to its lines are written
pub record ServesAll (trace : Bool) (input left old new : Option (List ℕ)) : Type 0 where
  pub taken : List ℕ
  pub read : Consumes input left taken
  pub end : IsAtEnd left
  pub answers : AreWritten trace (lines_of taken) old new

-- the answers to the whole lines that were read are written
pub record ServesRead (trace : Bool) (input left old new : Option (List ℕ)) : Type 0 where
  pub taken : List ℕ
  pub read : Consumes input left taken
  pub answers : AreWritten trace (ended_lines taken) old new

-- the answers to the whole lines before the byte at which a growth or a thread was refused are: one of those that were
-- read last, or the end of the input
pub record ServesBefore (trace : Bool) (input left old new : Option (List ℕ)) : Type 0 where
  pub taken : List ℕ
  pub read : Consumes input left taken
  pub answers : AreWrittenBefore trace taken most_read old new

-- some of the first bytes of the answers to the first lines are
abbrev pub ServesSome : Bool → (input old new : Option (List ℕ)) → Type 0
ServesSome trace input old new =
    IfSome input (λ bytes. (lines : ℕ) × AreWrittenInPart trace (take lines (lines_of bytes)) old new)

-- functions that give the verifier's verdict on each text, and the outcome of each packet
pub record AreRuled (verdict : List ℕ → Verdict) (outcome : ImageValue → List ℕ → Option RunResult) : Type 0 where
  pub verdicts : (text : List ℕ) (v : Verdict) → IsVerdict text v → v ≡ verdict text
  pub outcomes : (image : ImageValue) (packet : List ℕ) (o : Option RunResult) → IsOutcome image packet o
      → o ≡ outcome image packet
