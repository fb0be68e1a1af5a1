-- Small states and images to try the rules on.
use Rattle.std.specs.Prelude.{ℕ, ◌-◌, ◌^◌, ◌++◌, ℤ, pos, negsuc, List, [], ◌∷◌, replicate, Result}
use Rattle.tp_decode.specs.declared.instr.Instr.{Instr}
use Rattle.tp_image.specs.declared.image.Version.{Version}
use Rattle.tp_image.specs.declared.image.Version.TheVariants.{One}
use Rattle.tp_image.specs.Image.{ImageValue}
use Rattle.tp_flow.specs.declared.edge.Edge.TheVariants.{Next}
use Rattle.tp_state.specs.declared.kind.Kind.{Kind}
use Rattle.tp_state.specs.declared.kind.Kind.TheVariants.{Undef, Int}
use Rattle.tp_state.specs.declared.cell.Cell.{Cell}
use Rattle.tp_state.specs.declared.cell.Cell.TheVariants as cell
use Rattle.tp_state.specs.declared.state.State.{State}
use Rattle.tp_state.specs.declared.fault.StateCode.{StateCode}
use Rattle.tp_state.specs.After.{after}

-- a number below 0
abbrev pub minus : ℕ → ℤ
minus n = negsuc (n - 1)

-- numbers from 0 up
abbrev pub ints : ℕ → ℕ → Kind
ints low high = Int (pos low) (pos high)

abbrev pub one : ℕ → Kind
one n = ints n n

-- any number
abbrev pub any : Kind
any = Int (negsuc (2 ^ 31 - 1)) (pos (2 ^ 31 - 1))

-- the channels of link 0's input, on which the packet comes, of link 0's output, for the result, and of link 1's, for
-- traces
abbrev pub packet_channel : Kind
packet_channel = Int (minus 2147483632) (minus 2147483632)

abbrev pub result_channel : Kind
result_channel = Int (minus 2147483648) (minus 2147483648)

abbrev pub trace_channel : Kind
trace_channel = Int (minus 2147483644) (minus 2147483644)

-- An image of 12 words. Loop 0 goes from 10 to 40, with its block in words 8 and 9: 3 turns from 5 on. Loop 1 lies
-- within it, from 20 to 30, with its block in words 10 and 11: 2 turns from 1 on.
abbrev pub image_of : Version → (packet result : ℕ) → ImageValue
image_of version packet result = record {
  version = version;
  workspace = 12;
  start = 7;
  packet = packet;
  result = result;
  loops =
      record { head = 10; lend = 40; control = 8; count = 3; start = pos 5 }
      ∷ record { head = 20; lend = 30; control = 10; count = 2; start = pos 1 } ∷ [];
  initial = [];
  code = [];
}

abbrev pub image : ImageValue
image = image_of One 1 1

-- within loop 0, Wptr at word 7
abbrev pub words : List Cell
words =
    cell.Known (pos 0) ∷ cell.Known (minus 1) ∷ cell.Any ∷ replicate 4 (cell.Known (pos 0))
    ++ (cell.Known (pos 9) ∷ cell.Index 0 ∷ cell.Count 0 ∷ cell.Undef ∷ cell.Any ∷ [])

-- the same after a place to deschedule
abbrev pub words_after : List Cell
words_after =
    cell.Known (pos 0) ∷ cell.Known (minus 1) ∷ replicate 5 cell.Undef
    ++ (cell.Known (pos 9) ∷ cell.Index 0 ∷ cell.Count 0 ∷ cell.Undef ∷ cell.Any ∷ [])

-- such words, but for words 7 to 11
abbrev pub words_with : List Cell → List Cell
words_with those = cell.Known (pos 0) ∷ cell.Known (minus 1) ∷ cell.Any ∷ replicate 4 (cell.Known (pos 0)) ++ those

abbrev pub words_after_with : List Cell → List Cell
words_after_with those = cell.Known (pos 0) ∷ cell.Known (minus 1) ∷ replicate 5 cell.Undef ++ those

-- a state with these registers
abbrev pub regs : Kind → Kind → Kind → State
regs a b c = record { wptr = 7; a = a; b = b; c = c; phase = 0; cells = words }

-- and with these words
abbrev pub regs_words : Kind → Kind → Kind → List Cell → State
regs_words a b c cells = record { wptr = 7; a = a; b = b; c = c; phase = 0; cells = cells }

-- and after a place to deschedule: no registers, this phase, and such words, but for these
abbrev pub descheduled : (phase : ℕ) → List Cell → State
descheduled phase those = record (regs_words Undef Undef Undef (words_after_with those)) { phase = phase }

-- what is known after an instruction at address 12 on its way to the next one
abbrev pub next_of : Instr → State → Result State StateCode
next_of instr t = after image 12 14 instr Next t

-- an image without loops, Wptr at word 8 of this many words
abbrev pub worker : Version → (workspace : ℕ) → ImageValue
worker version workspace = record (image_of version 1 1) { workspace = workspace; start = 8; loops = [] }

-- after the packet was taken to word 8, of this many words more
abbrev pub words_taken : ℕ → List Cell
words_taken more =
    replicate 3 (cell.Known (pos 0)) ++ (replicate 5 cell.Undef ++ (cell.Any ∷ replicate more (cell.Known (pos 0))))

abbrev pub taken : Kind → Kind → Kind → (more : ℕ) → State
taken a b c more = record { wptr = 8; a = a; b = b; c = c; phase = 1; cells = words_taken more }
