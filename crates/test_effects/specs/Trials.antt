-- The workers of short runs, and their states.
use Rattle.std.specs.Prelude.{ℕ, ◌+◌, ◌*◌, true, List, [], ◌∷◌, map, flat_map, Option, Some, None}
use Rattle.std.specs.Int.{w32, to_le_bytes}
use Rattle.tp_image.specs.declared.image.Version.TheVariants.{One, Two}
use Rattle.tp_image.specs.Image.{ImageValue}
use Rattle.tp_step.specs.Memory.{word_at, with_bytes, undefined}
use Rattle.tp_step.specs.State.{State, mem_start, no_registers}
use Rattle.tp_step.specs.Runs.{start}
use Rattle.test_effects.specs.declared.rows.Setting.{Setting}
use Rattle.test_effects.specs.declared.rows.Setting.TheVariants as setting
use Rattle.test_effects.specs.declared.rows.Worker.{Worker}
use Rattle.test_effects.specs.declared.rows.Worker.TheVariants as worker

-- A worker with this code and this many workspace words. Wptr begins at word 8, whose address is 80000068 hex.
abbrev pub roomy_trial : ℕ → List ℕ → ImageValue
roomy_trial workspace code = record {
  version = One;
  workspace = workspace;
  start = 8;
  packet = 1;
  result = 1;
  loops = [];
  initial = [];
  code = code;
}

-- sixteen words, so the workspace ends below 80000088 hex
abbrev pub trial : List ℕ → ImageValue
trial code = roomy_trial 16 code

-- the same in version 2
abbrev pub second_trial : List ℕ → ImageValue
second_trial code = record (trial code) { version = Two }

-- a worker with this code
abbrev pub image_of : Worker → List ℕ → ImageValue
image_of worker.Plain code = trial code
image_of worker.Second code = second_trial code
image_of worker.Roomy code = roomy_trial 80 code
image_of worker.TwoWordPacket code = record (trial code) { packet = 2 }
image_of worker.TwoWordResult code = record (trial code) { result = 2 }

-- nothing on the stack, all words 0
abbrev pub bare : State
bare = start (trial []) []

-- workspace words from this one on hold these
abbrev pub holding : ℕ → List ℕ → State → State
holding word words s =
    record s { memory = with_bytes s.memory (mem_start + 4 * word) (flat_map (to_le_bytes w32) words) }

-- this many workspace words from this one on are undefined
abbrev pub lacking : ℕ → ℕ → State → State
lacking word count s = record s { memory = undefined s.memory (mem_start + 4 * word) (4 * count) }

-- the byte at an address is undefined
abbrev pub lacking_byte : ℕ → State → State
lacking_byte a s = record s { memory = undefined s.memory a 1 }

-- what a descheduling leaves: no registers, and the words 3 to 7 undefined, which are the five below Wptr
abbrev pub given_way : State → State
given_way s = lacking 3 5 (no_registers s)

-- every byte is defined, in the workspace and outside
abbrev pub filled : State → State
filled s = record s { memory = λ a. Some 7 }

-- a state with one setting more
abbrev pub set : Setting → State → State
set (setting.One a) s = record s { areg = Some a; breg = None; creg = None }
set (setting.Two a b) s = record s { areg = Some a; breg = Some b; creg = None }
set (setting.Three a b c) s = record s { areg = Some a; breg = Some b; creg = Some c }
set (setting.WithoutAreg b c) s = record s { areg = None; breg = Some b; creg = Some c }
set setting.Flagged s = record s { error = true }
set (setting.Wptr a) s = record s { wptr = a }
set (setting.Oreg n) s = record s { oreg = n }
set (setting.Iptr n) s = record s { iptr = n }
set setting.AfterPacket s = record s { phase = 1 }
set setting.AfterResult s = record s { phase = 2 }
set setting.Stopped s = record s { phase = 2; stopped = true }
set (setting.Holding word words) s = holding word words.now s
set (setting.Lacking word count) s = lacking word count s
set (setting.LackingByte a) s = lacking_byte a s
set setting.GivenWay s = given_way s
set setting.Filled s = filled s
set (setting.Coming bytes) s = record s { to_come = bytes.now }
set (setting.Sent bytes) s = record s { sent = bytes.now }
set (setting.Traced bytes) s = record s { traced = bytes.now }

-- and with some, one after another
abbrev pub set_all : List Setting → State → State
set_all [] s = s
set_all (one ∷ settings) s = set_all settings (set one s)

-- the workspace words of these numbers, each if all of its bytes are defined
abbrev pub words_at : List ℕ → State → List (Option ℕ)
words_at numbers s = map (λ i. word_at s.memory (mem_start + 4 * i)) numbers
