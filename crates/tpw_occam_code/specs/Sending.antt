-- What the code of messages that go out does.
use Rattle.std.specs.Prelude.{◌≡◌, ℕ, ◌+◌, ◌≤◌, ◌++◌, Bool, List, length, IsTrue}
use Rattle.std.specs.List.{list_any}
use Rattle.tp_step.specs.Effects.{link0_output, link1_output}
use Rattle.tpw_occam_core.specs.declared.worker.Storage.{Storage}
use Rattle.tpw_occam_core.specs.declared.scope.Entry.{Entry}
use Rattle.tpw_occam_core.specs.declared.expression.Expression.{Expression}
use Rattle.tpw_occam_core.specs.declared.process.Message.{Message}
use Rattle.tpw_occam_core.specs.Meaning.{Store, value_of, flagged, bytes_of, flag_of}
use Rattle.tpw_occam_core.specs.Sound.{is_name, is_sound_message}
use Rattle.tpw_occam_symbolic.specs.declared.items.Item.{Item}
use Rattle.tpw_occam_symbolic.specs.declared.items.Item.TheVariants.{Variable}
use Rattle.tpw_occam_code.specs.declared.messages.Channel.{Channel}
use Rattle.tpw_occam_code.specs.declared.messages.Channel.TheVariants.{Result, Trace}
use Rattle.tpw_occam_symbolic.specs.declared.code.Step.TheVariants.{Pointer}
use Rattle.tpw_occam_symbolic.specs.Code.{Lines}
use Rattle.tpw_occam_symbolic.specs.Blocks.{bytes_at}
use Rattle.tpw_occam_symbolic.specs.Symbolic.{Machine}
use Rattle.tpw_occam_symbolic.specs.Leading.{Does, Serves, HasConstants, HasWord}
use Rattle.tpw_occam_expressions.specs.Agreement.{Knowledge}
use Rattle.tpw_occam_expressions.specs.Computing.{MayStand}
use Rattle.tpw_occam_code.specs.Moving.{Provides}
use Rattle.tpw_occam_code.specs.Executing.{IsProcessPlace, MayRun, KnowsState, Matches, LeavesCounts, first_in_message}

-- the address of a channel
abbrev pub address_of : Channel → ℕ
address_of Result = link0_output
address_of Trace = link1_output

-- what has gone out on a link, once a message has gone out on a channel
abbrev pub sent_with : Channel → (bytes sent : List ℕ) → List ℕ
sent_with Result bytes sent = sent ++ bytes
sent_with Trace bytes sent = sent

abbrev pub traced_with : Channel → (bytes traced : List ℕ) → List ℕ
traced_with Result bytes traced = traced
traced_with Trace bytes traced = traced ++ bytes

-- A message has gone out, and nothing else is changed but registers.
pub record HasSent (channel : Channel) (bytes : List ℕ) (m end : Machine) : Type 0 where
  pub sent : end.sent ≡ sent_with channel bytes m.sent
  pub traced : end.traced ≡ traced_with channel bytes m.traced
  pub blocks : end.blocks ≡ m.blocks
  pub error : end.error ≡ m.error
  pub to_come : end.to_come ≡ m.to_come

-- the lines send this many bytes of an item, from its first on
abbrev pub SendsBytes : (old new : Lines) → Channel → Item → ℕ → Type 0
SendsBytes old new channel item bytes =
    (arrays : List ℕ) → Does arrays old new
    (λ m. HasConstants m × Provides arrays m (Pointer item 0) item bytes)
    (λ m end. HasSent channel (bytes_at m.blocks item 0 bytes) m end)

-- where code points to an item it has a word
abbrev pub HasRoom : Item → Type 0
HasRoom item = (arrays : List ℕ) (sizes : Item → ℕ) → Serves arrays sizes (Pointer item 0) → 4 ≤ sizes item

-- the lines leave the value of an expression in the word of an item, and set the error flag where its evaluation does
abbrev pub KeepsValue : Knowledge → (old new : Lines) → Expression → Item → Type 0
KeepsValue k old new e item =
    (storages : List Storage) (scope : List Entry) (unset : ℕ → Bool) (s : Store) → IsProcessPlace k storages scope
    → MayStand k storages scope unset e → KnowsState k scope s
    → Does k.arrays old new (Matches k storages scope unset s)
    (λ m end. HasWord item (value_of e s).word end × Matches k storages scope unset (flagged (value_of e s).flag s) end
    × LeavesCounts scope m end)

-- A machine that matches a state has sent a message.
pub record HasSentMessage (k : Knowledge) (storages : List Storage) (scope : List Entry) (unset : ℕ → Bool)
    (channel : Channel)
    (message : Message) (s : Store) (m end : Machine) : Type 0 where
  pub sent : end.sent ≡ sent_with channel (bytes_of message s) m.sent
  pub traced : end.traced ≡ traced_with channel (bytes_of message s) m.traced
  pub to_come : end.to_come ≡ m.to_come
  pub matches : Matches k storages scope unset (record (flagged (flag_of message s) s) { traced = end.traced }) end
  pub counts : (x i : ℕ) → IsTrue (list_any (is_name x) scope)
      → end.blocks (Variable x) (4 + i) ≡ m.blocks (Variable x) (4 + i)

-- the code of a message that goes out
abbrev pub SendsMessage : Knowledge → (old new : Lines) → Channel → Message → Type 0
SendsMessage k old new channel message =
    (storages : List Storage) (scope : List Entry) (unset : ℕ → Bool) (s : Store) → IsProcessPlace k storages scope
    → MayRun scope unset (is_sound_message (length k.kinds) storages scope message) (first_in_message message)
    → KnowsState k scope s
    → Does k.arrays old new (Matches k storages scope unset s)
    (HasSentMessage k storages scope unset channel message s)
