-- Small workers to compute with. Each takes a packet of one word and sends a result of one word. It begins by receiving
-- its packet into local 0, and ends by sending a local and stopping.
use Rattle.std.specs.Prelude.{ℕ, ◌+◌, pos, List, [], ◌∷◌, ◌++◌}
use Rattle.tp_image.specs.declared.image.Version.TheVariants.{One, Two}
use Rattle.tp_image.specs.Image.{ImageValue}

-- ldlp 0; mint; ldnlp 4; ldc 4; in
abbrev pub receive : List ℕ
receive = 0x10 ∷ 0x24 ∷ 0xF2 ∷ 0x54 ∷ 0x44 ∷ 0xF7 ∷ []

-- ldlp n; mint; ldc 4; out; stopp
abbrev pub send_and_stop : ℕ → List ℕ
send_and_stop n = (0x10 + n) ∷ 0x24 ∷ 0xF2 ∷ 0x44 ∷ 0xFB ∷ 0x21 ∷ 0xF5 ∷ []

-- a worker of version 1, with this many workspace words, that does this in between, and sends a local
abbrev pub worker : (workspace : ℕ) → (body : List ℕ) → (sends : ℕ) → ImageValue
worker workspace body sends = record {
  version = One;
  workspace = workspace;
  start = 8;
  packet = 1;
  result = 1;
  loops = [];
  initial = [];
  code = receive ++ body ++ send_and_stop sends;
}

-- adds one to its packet: ldl 0; adc 1; stl 0
abbrev pub increment : ImageValue
increment = worker 12 (0x70 ∷ 0x81 ∷ 0xD0 ∷ []) 0

-- sums the indices from 0 in local 1, over a loop whose block is local 2:
-- ldc 0; stl 1; ldc 0; stl 2; ldc turns; stl 3; at 12: ldl 1; ldl 2; add; stl 1; ldlp 2; ldc 8; lend
abbrev pub sums : (turns : ℕ) → List ℕ
sums turns =
    0x40 ∷ 0xD1 ∷ 0x40 ∷ 0xD2 ∷ (0x40 + turns) ∷ 0xD3 ∷ 0x71 ∷ 0x72 ∷ 0xF5 ∷ 0xD1 ∷ 0x12 ∷ 0x48 ∷ 0x22 ∷ 0xF1 ∷ []

abbrev pub sum_of : (turns : ℕ) → ImageValue
sum_of turns =
    record (worker 16 (sums turns) 1) {
      loops = record { head = 12; lend = 18; control = 10; count = turns; start = pos 0 } ∷ [];
    }

abbrev pub sum_to_ten : ImageValue
sum_to_ten = sum_of 10

abbrev pub loop_once : ImageValue
loop_once = sum_of 1

-- sends its packet where that is 0, else 5: ldl 0; cj 2; ldc 5; stl 0
abbrev pub early_exit : ImageValue
early_exit = worker 12 (0x70 ∷ 0xA2 ∷ 0x45 ∷ 0xD0 ∷ []) 0

-- adds what j has left undefined: j 0; ldl 0; add; stl 0
abbrev pub reads_after_jump : ImageValue
reads_after_jump = worker 12 (0x00 ∷ 0x70 ∷ 0xF5 ∷ 0xD0 ∷ []) 0

-- jumps into the second byte of a spelling, or reads it whole: ldl 0; cj 1; ldc 16 (21 40); stl 0
abbrev pub jumps_into_spelling : ImageValue
jumps_into_spelling = worker 12 (0x70 ∷ 0xA1 ∷ 0x21 ∷ 0x40 ∷ 0xD0 ∷ []) 0

-- stores 1 or 2 in local 1 by two ways that meet: ldl 0; cj 3; ldc 1; stl 1; j 2; ldc 2; stl 1; ldl 1; stl 0
abbrev pub two_ways : ImageValue
two_ways = worker 12 (0x70 ∷ 0xA3 ∷ 0x41 ∷ 0xD1 ∷ 0x02 ∷ 0x42 ∷ 0xD1 ∷ 0x71 ∷ 0xD0 ∷ []) 0

-- loads a word that its packet picks: ldl 0; ldc 7; and; ldlp 2; wsub; ldnl 0; stl 0
abbrev pub picks_a_word : ImageValue
picks_a_word = worker 20 (0x70 ∷ 0x47 ∷ 0x24 ∷ 0xF6 ∷ 0x12 ∷ 0xFA ∷ 0x30 ∷ 0xD0 ∷ []) 0

-- sends its packet as a trace message too: ldlp 0; mint; ldnlp 1; ldc 4; out
abbrev pub traces : ImageValue
traces = worker 12 (0x10 ∷ 0x24 ∷ 0xF2 ∷ 0x51 ∷ 0x44 ∷ 0xFB ∷ []) 0

-- moves workspace word 0, which is 42 at first, to local 0: ldlp -8; ldlp 0; ldc 4; move
abbrev pub moves_a_word : ImageValue
moves_a_word =
    record (worker 16 (0x60 ∷ 0x18 ∷ 0x10 ∷ 0x44 ∷ 0x24 ∷ 0xFA ∷ []) 0) { version = Two; initial = 42 ∷ [] }
