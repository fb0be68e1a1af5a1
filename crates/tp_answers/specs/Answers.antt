-- The protocol: what is answered to a line, and the sessions after it.
--
-- The verdict on an image and the outcome of a packet are parameters: this can be read without the rules of the
-- verifier and of the machine. `Rules` has those by which the product answers.
use Rattle.std.specs.Prelude.{◌≡◌, ℕ, ◌*◌, ◌==◌, nat_le, not, Bool, true, false, if◌then◌else◌, List, [], length, map}
use Rattle.std.specs.Prelude.{Option, Some, None}
use Rattle.std.specs.Prelude.{Result, Ok, Err}
use Rattle.std.specs.List.{AllZip}
use Rattle.tp_decode.specs.Cutting.{Cut, cutting}
use Rattle.tp_decode.specs.declared.fault.DecodeFault.{DecodeFault}
use Rattle.tp_decode.specs.declared.fault.DecodeFault.TheVariants as decode_fault
use Rattle.tp_image.specs.Image.{ImageValue}
use Rattle.tp_answers.specs.Results.{RunResult}
use Rattle.tp_accept.specs.declared.refusal.RefusalCode.{RefusalCode}
use Rattle.tp_board.specs.Limits.{most_packets}
use Rattle.tp_requests.specs.Requests.{Asked, ToList, ToOpen, ToKeep, ToRun, ToRunAll, ToDrop}
use Rattle.tp_answers.specs.declared.answer.LineFault.TheVariants.{E1, E2, P1, P2, P3, Code, Image}
use Rattle.tp_answers.specs.declared.answer.Answer.{Answer}
use Rattle.tp_answers.specs.declared.answer.Answer.TheVariants.{Listed, Yes, Kept, Ran, RanAll, Gone, Refused}
use Rattle.tp_answers.specs.Sessions.{Session, session_named, is_full, with_session, with_changed, without_session}
use Rattle.tp_answers.specs.Sessions.{with_packet}
use Rattle.tp_answers.specs.Sessions.{without_packets}

-- the verdict on the text of an image: the image that it spells and its budget, or why it is refused
pub data Verdict : Type 0 where
  Accepts : (image : ImageValue) → (budget : ℕ) → Verdict
  Refuses : (code : RefusalCode) → (place : ℕ) → Verdict

-- ---- LIST <hex>

abbrev pub IsAnswerToList : Result (List Cut) DecodeFault → Answer → Type 0
IsAnswerToList (Ok cuts) answer = answer ≡ Listed cuts
IsAnswerToList (Err (decode_fault.Refused code place)) answer = answer ≡ Refused (Code code place)
IsAnswerToList (Err decode_fault.Memory) answer = ⊥

-- ---- <name> PACKET <hex>

-- its length comes before the number of packets that are kept
abbrev pub answer_to_packet : Option Session → List ℕ → Answer
answer_to_packet None packet = Refused P2
answer_to_packet (Some s) packet =
    if not (length packet == 4 * s.image.packet) then Refused P1
    else if nat_le most_packets (length s.packets) then Refused P3
    else Kept (length s.packets)

-- where it is refused nothing changes
abbrev pub unless_refused : Answer → (before after : List Session) → List Session
unless_refused (Refused fault) before after = before
unless_refused answer before after = after

abbrev pub after_packet : (name packet : List ℕ) → List Session → List Session
after_packet name packet before =
    unless_refused (answer_to_packet (session_named name before) packet) before
    (with_changed (with_packet packet) name before)

-- ---- <name> DROP

abbrev pub answer_to_drop : Option Session → Answer
answer_to_drop None = Refused P2
answer_to_drop (Some s) = Gone

-- ---- <name> IMAGE <hex>

abbrev pub answer_by : Verdict → Answer
answer_by (Accepts image budget) = Yes (length image.code) budget
answer_by (Refuses code place) = Refused (Image code place)

-- the session opens with the image and no packet, in the place of the one of its name if that is open
abbrev pub after_verdict : (name : List ℕ) → Verdict → List Session → List Session
after_verdict name (Accepts image budget) before =
    with_session record { name = name; image = image; packets = [] } before
after_verdict name (Refuses code place) before = before

module _ (Judges : List ℕ → Verdict → Type 0) where
  -- whether there is no room for a session comes before the verdict
  abbrev pub IsAnswerToImage : (full : Bool) → (text : List ℕ) → Answer → Type 0
  IsAnswerToImage true text answer = answer ≡ Refused E2
  IsAnswerToImage false text answer = (verdict : Verdict) × Judges text verdict × (answer ≡ answer_by verdict)

  abbrev pub IsAfterImage : (full : Bool) → (name text : List ℕ) → (before after : List Session) → Type 0
  IsAfterImage true name text before after = after ≡ before
  IsAfterImage false name text before after =
      (verdict : Verdict) × Judges text verdict × (after ≡ after_verdict name verdict before)

-- ---- <name> RUN, RUN *

module _ (HasOutcome : ImageValue → List ℕ → Option RunResult → Type 0) where
  -- what the packets of a session come to, in order of number
  abbrev pub AreOutcomes : Session → List (Option RunResult) → Type 0
  AreOutcomes s outcomes = AllZip (HasOutcome s.image) s.packets outcomes

  abbrev pub IsAnswerToRun : Option Session → Answer → Type 0
  IsAnswerToRun None answer = answer ≡ Refused P2
  IsAnswerToRun (Some s) answer =
      (outcomes : List (Option RunResult)) × AreOutcomes s outcomes × (answer ≡ Ran outcomes)

  -- a session's name, and what its packets come to
  abbrev pub IsRun : Session → List ℕ × List (Option RunResult) → Type 0
  IsRun s run = (run.0 ≡ s.name) × AreOutcomes s run.1

  abbrev pub IsAnswerToRunAll : List Session → Answer → Type 0
  IsAnswerToRunAll sessions answer =
      (runs : List (List ℕ × List (Option RunResult))) × AllZip IsRun sessions runs × (answer ≡ RanAll runs)

-- ---- each line, by what it asks for

-- the answer
module _ (Judges : List ℕ → Verdict → Type 0) (HasOutcome : ImageValue → List ℕ → Option RunResult → Type 0) where
  abbrev pub IsAnswer : Option Asked → List Session → Answer → Type 0
  IsAnswer None sessions answer = answer ≡ Refused E1
  IsAnswer (Some (ToList code)) sessions answer = IsAnswerToList (cutting code) answer
  IsAnswer (Some (ToOpen name text)) sessions answer = IsAnswerToImage Judges (is_full name sessions) text answer
  IsAnswer (Some (ToKeep name packet)) sessions answer = answer ≡ answer_to_packet (session_named name sessions) packet
  IsAnswer (Some (ToRun name)) sessions answer = IsAnswerToRun HasOutcome (session_named name sessions) answer
  IsAnswer (Some ToRunAll) sessions answer = IsAnswerToRunAll HasOutcome sessions answer
  IsAnswer (Some (ToDrop name)) sessions answer = answer ≡ answer_to_drop (session_named name sessions)

-- the sessions after it
module _ (Judges : List ℕ → Verdict → Type 0) where
  abbrev pub IsAfter : Option Asked → (before after : List Session) → Type 0
  IsAfter None before after = after ≡ before
  IsAfter (Some (ToList code)) before after = after ≡ before
  IsAfter (Some (ToOpen name text)) before after = IsAfterImage Judges (is_full name before) name text before after
  IsAfter (Some (ToKeep name packet)) before after = after ≡ after_packet name packet before
  IsAfter (Some (ToRun name)) before after = after ≡ with_changed without_packets name before
  IsAfter (Some ToRunAll) before after = after ≡ map without_packets before
  IsAfter (Some (ToDrop name)) before after = after ≡ without_session name before
