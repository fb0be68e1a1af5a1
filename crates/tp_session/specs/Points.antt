-- Where the reading of an input stands: between two stretches of its bytes.
use Rattle.std.specs.Prelude.{◌≡◌, ℕ, nat_lt, Bool, List, [], ◌∷◌, ◌++◌, length, take, Option, Some}
use Rattle.std.specs.List.{filter}
use Rattle.std.specs.Io.KnownBytes.{Appends}
use Rattle.tp_link.specs.Device.{DeviceState}
use Rattle.tp_requests.specs.Lines.{Line, line_feed, lines_of}
use Rattle.tp_requests.specs.Parts.{IsWithout}
use Rattle.tp_session.specs.declared.fault.ServeFault.{ServeFault}
use Rattle.tp_session.specs.declared.fault.ServeFault.TheVariants.{Read, Write, Memory, Thread}
use Rattle.tp_session.specs.declared.partial_line.PartialLine.{PartialLine}
use Rattle.tp_session.specs.declared.service.Service.{Service}
use Rattle.tp_answers.specs.Sessions.{Session}
use Rattle.tp_answers.specs.Rules.{IsVerdict, IsOutcome}
use Rattle.tp_session.specs.Protocol.{most_line, next_number, AreAnswers}
use Rattle.tp_session.specs.Served.{AreWrittenBefore, ServesSome}
use Rattle.tp_session.specs.Fitness.{AreFit}

-- the bytes that were taken, the lines that they end and what has come of the next line; what was answered to these
-- lines, and the sessions after them
pub record Point : Type 0 where
  pub taken : List ℕ
  pub lines : List Line
  pub line : List ℕ
  pub output : List ℕ
  pub sessions : List Session

-- the number of the line that follows these, the first of which has a number
abbrev pub number_after : ℕ → List Line → ℕ
number_after number [] = number
number_after number (line ∷ lines) = number_after (next_number number) lines

-- no line feed among the bytes
abbrev pub IsPlain : List ℕ → Type 0
IsPlain bytes = IsWithout line_feed bytes

-- it is so, whatever follows
pub record HasReached (trace : Bool) (s : Point) : Type 0 where
  pub ended : filter (λ line. line.ended) s.lines ≡ s.lines
  pub goes : (more : List ℕ) → lines_of (s.taken ++ more) ≡ s.lines ++ lines_of (s.line ++ more)
  pub plain : IsPlain s.line
  pub answered : AreAnswers IsVerdict IsOutcome trace 1 [] s.lines s.output s.sessions

-- The partial that is kept: of a line that is too long, its first bytes.
pub record Keeps (p : PartialLine) (number : ℕ) (line : List ℕ) : Type 0 where
  pub number_is : p.number ≡ number
  pub line_is : p.line.items ≡ take most_line line
  pub long_is : p.long ≡ nat_lt most_line (length line)

-- What is kept, and what was written since a beginning, is that of a point.
pub record IsAt {D : Type 0} (state : D → DeviceState) (trace : Bool) (begun : Option (List ℕ))
    (p : PartialLine) (service : Service D) (now : Option (List ℕ)) (s : Point) : Type 0 where
  pub reached : HasReached trace s
  pub keeps : Keeps p (number_after 1 s.lines) s.line
  pub sessions : service.sessions ≡ s.sessions
  pub trace_is : service.trace ≡ trace
  pub fit : AreFit state service.links.items
  pub wrote : Appends begun now s.output

-- it is so of each point that this may be
abbrev pub AtEachPoint : {D : Type 0} → (D → DeviceState) → PartialLine → Service D → (now : Option (List ℕ))
    → (Bool → Option (List ℕ) → Point → Type 0) → Type 0
AtEachPoint state p service now says =
    (trace : Bool) (begun : Option (List ℕ)) (s : Point) → IsAt state trace begun p service now s → says trace begun s

-- an input begins with these bytes
abbrev pub Begins : (input taken : List ℕ) → Type 0
Begins input taken = (rest : List ℕ) × (input ≡ taken ++ rest)

-- why serving ends within the last of the bytes that it took of an input, and what it has written
abbrev pub Fails : Bool → (input taken : List ℕ) → (last : ℕ) → (begun now : Option (List ℕ)) → ServeFault → Type 0
Fails trace input taken last begun now Memory = AreWrittenBefore trace taken last begun now
Fails trace input taken last begun now Thread = AreWrittenBefore trace taken last begun now
Fails trace input taken last begun now Write = ServesSome trace (Some input) begun now
Fails trace input taken last begun now Read = ⊥

-- one point further, by these bytes
pub record GoesOn {D : Type 0} (state : D → DeviceState) (trace : Bool) (begun : Option (List ℕ))
    (p : PartialLine) (service : Service D) (now : Option (List ℕ)) (taken : List ℕ) : Type 0 where
  pub point : Point
  pub taken_is : point.taken ≡ taken
  pub is : IsAt state trace begun p service now point
