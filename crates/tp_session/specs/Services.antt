-- Where serving stands, as it is kept.
use Rattle.std.specs.Prelude.{◌≡◌, ℕ, ◌≤◌, List, [], length, take, Option}
use Rattle.std.specs.Io.KnownBytes.{Appends}
use Rattle.tp_link.specs.Device.{DeviceState}
use Rattle.tp_session.specs.declared.fault.ServeFault.{ServeFault}
use Rattle.tp_session.specs.declared.fault.ServeFault.TheVariants.{Memory, Thread, Write}
use Rattle.tp_session.specs.declared.service.Service.{Service}
use Rattle.tp_requests.specs.Lines.{Line}
use Rattle.tp_requests.specs.Requests.{Asked, ToList}
use Rattle.tp_requests.specs.Protocol.{AsksFor}
use Rattle.tp_answers.specs.declared.answer.Answer.{Answer}
use Rattle.tp_answers.specs.Sessions.{Session}
use Rattle.tp_answers.specs.Answers.{IsAnswer, IsAfter}
use Rattle.tp_answers.specs.Rules.{IsVerdict, IsOutcome}
use Rattle.tp_session.specs.Protocol.{IsAnswered}
use Rattle.tp_session.specs.Fitness.{AreFit, AreAsMany}

-- there are as many members as before, their devices are as fit as they were, and traces are written as before
pub record StaysOn {D : Type 0} (state : D → DeviceState) (before after : Service D) : Type 0 where
  pub members : AreAsMany before.links.items after.links.items
  pub fit : AreFit state before.links.items → AreFit state after.links.items
  pub trace : after.trace ≡ before.trace

-- a growth or a thread was refused
abbrev pub IsResourceFault : ServeFault → Type 0
IsResourceFault Memory = Unit {0}
IsResourceFault Thread = Unit {0}
IsResourceFault fault = ⊥

-- a code that is to be listed has no more bytes than may be
abbrev pub IsListable : Asked → Type 0
IsListable (ToList code) = length code ≤ 65535
IsListable other = Unit {0}

-- what is asked for is answered so, which leads from one list of sessions to the other
abbrev pub AnswersRequest : Option Asked → List Session → Answer → List Session → Type 0
AnswersRequest asked before answer after =
    IsAnswer IsVerdict IsOutcome asked before answer × IsAfter IsVerdict asked before after

-- so is what a text asks for
abbrev pub AnswersText : List ℕ → List Session → Answer → List Session → Type 0
AnswersText text before answer after =
    (asked : Option Asked) × AsksFor text asked × AnswersRequest asked before answer after

-- and what a line asks for
abbrev pub AnswersLine : Line → List Session → Answer → List Session → Type 0
AnswersLine line before answer after = IsAnswered IsVerdict IsOutcome line before answer after

-- a text that was not written whole: nothing of it where memory was wanted, some of its first bytes where the writer
-- failed
abbrev pub IsSentInPart : (old new : Option (List ℕ)) → List ℕ → ServeFault → Type 0
IsSentInPart old new text Memory = Appends old new []
IsSentInPart old new text Write = (n : ℕ) × Appends old new (take n text)
IsSentInPart old new text fault = ⊥
