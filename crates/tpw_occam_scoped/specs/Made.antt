-- What is made, in the words in which the meaning of a text is said.
use Rattle.std.specs.Prelude.{ℕ, ◌+◌, false, Some, List}
use Rattle.tpw_occam_meaning.specs.Assignments.{Target}
use Rattle.tpw_occam_meaning.specs.Effects.{Effect, within_value}
use Rattle.tpw_occam_meaning.specs.Messages.{Message}
use Rattle.tpw_occam_meaning.specs.Names.{Word, Constant, Kept, Storage, Array, Table}
use Rattle.tpw_occam_meaning.specs.States.{with_cell}
use Rattle.tpw_occam_meaning.specs.Values.{Value, Known, Varying, known, at}
use Rattle.tpw_occam_core.specs.Meaning.{bind}
use Rattle.tpw_occam_terms.specs.declared.name.Primitive.{Primitive}
use Rattle.tpw_occam_scoped.specs.declared.value.Value as made
use Rattle.tpw_occam_scoped.specs.declared.value.Value.TheVariants as value
use Rattle.tpw_occam_scoped.specs.declared.process.Assignment.{Assignment}
use Rattle.tpw_occam_scoped.specs.declared.process.Process.{Process}
use Rattle.tpw_occam_scoped.specs.declared.process.Target as made_target
use Rattle.tpw_occam_scoped.specs.declared.process.Bytes.{Bytes}
use Rattle.tpw_occam_scoped.specs.declared.process.Bytes.TheVariants as bytes
use Rattle.tpw_occam_scoped.specs.declared.process.Message as made_message
use Rattle.tpw_occam_scoped.specs.Meaning.{value_of, run, all_assigned, subscript_of, put, bytes_of, flag_of}

-- the value that is made of an expression
abbrev pub value_made : made.Value → Value
value_made (value.Known a) = known a
value_made (value.Varying e) = Varying (value_of e)

-- the effect of what is made of a process
unfoldable pub effect_of : Process → Effect
effect_of p = Some (run p)

-- .. and of the assignments that are made
unfoldable pub effect_of_all : List Assignment → Effect
effect_of_all list = Some (all_assigned list)

-- what stands for a value that is passed: a constant for itself, and a cell for another value, which lies in it
abbrev pub word_passed : ℕ → Value → Word
word_passed d (Known word false) = Constant word
word_passed d v = Kept d

-- how much is declared where it is passed
abbrev pub depth_behind : ℕ → Value → ℕ
depth_behind d (Known word false) = d
depth_behind d v = d + 1

-- a process behind a value that is passed
abbrev pub passed_to : ℕ → Value → Effect → Effect
passed_to d (Known word false) body = body
passed_to d v body = within_value d v body

-- .. and an expression
abbrev pub passed_into : ℕ → Value → Value → Value
passed_into d (Known word false) rest = rest
passed_into d v rest = Varying (λ s. bind (at v s) (λ a. at rest (with_cell d a s)))

-- what is assigned to, of a type
abbrev pub target_made : Primitive → made_target.Target → Target
target_made of t = record { of = of; subscript = subscript_of t; put = put t }

-- the bytes that are copied or sent
abbrev pub storage_made : Bytes → Storage
storage_made (bytes.Array a) = Array a
storage_made (bytes.Table table) = Table table.items

abbrev pub message_made : made_message.Message → Message
message_made m = record { bytes = bytes_of m; flag = flag_of m }
