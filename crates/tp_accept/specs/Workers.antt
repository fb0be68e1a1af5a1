-- Small workers, as loop rows and code bytes, to compute their bounds.
use Rattle.std.specs.Prelude.{ℕ, ◌==◌, if◌then◌else◌, pos, List, [], ◌∷◌, ◌++◌, Option, Some, None, Result, Ok, Err}
use Rattle.tp_image.specs.declared.image.LoopRow.{LoopRow}
use Rattle.tp_decode.specs.declared.fault.DecodeFault.{DecodeFault}
use Rattle.tp_decode.specs.Cutting.{Cut, cutting}
use Rattle.tp_accept.specs.Bound.{bound}
use Rattle.tp_accept.specs.Measure.{Counts, measure}

-- a number of the cutting, where there is one
abbrev pub if_cut : (List Cut → ℕ) → Result (List Cut) DecodeFault → Option ℕ
if_cut number (Ok cuts) = Some (number cuts)
if_cut number (Err e) = None

abbrev pub bound_of_bytes : List LoopRow → List ℕ → Option ℕ
bound_of_bytes rows bytes = if_cut (bound rows) (cutting bytes)

abbrev pub measure_of_bytes : List LoopRow → List ℕ → ℕ → ℕ → Counts → Option ℕ
measure_of_bytes rows bytes at executed counts = if_cut (λ cuts. measure rows cuts at executed counts) (cutting bytes)

abbrev pub row : ℕ → ℕ → ℕ → ℕ → LoopRow
row head lend control count = record { head = head; lend = lend; control = control; count = count; start = pos 0 }

-- ldlp 0, mint, ldnlp 4, ldc 4, in
abbrev pub receives : List ℕ
receives = 0x10 ∷ 0x24 ∷ 0xF2 ∷ 0x54 ∷ 0x44 ∷ 0xF7 ∷ []

-- ldlp n, mint, ldc 4, out, stopp, where the first byte is that of ldlp n
abbrev pub sends : ℕ → List ℕ
sends first = first ∷ 0x24 ∷ 0xF2 ∷ 0x44 ∷ 0xFB ∷ 0x21 ∷ 0xF5 ∷ []

-- ldl 0, adc 1, stl 0
abbrev pub increment : List ℕ
increment = receives ++ (0x70 ∷ 0x81 ∷ 0xD0 ∷ []) ++ sends 0x10

-- ldc 0, stl 1, ldc 0, stl 2
abbrev pub clears : List ℕ
clears = 0x40 ∷ 0xD1 ∷ 0x40 ∷ 0xD2 ∷ []

-- ldl 1, ldl 2, add, stl 1, ldlp 2, ldc 8, lend: eight bytes
abbrev pub sums : List ℕ
sums = 0x71 ∷ 0x72 ∷ 0xF5 ∷ 0xD1 ∷ 0x12 ∷ 0x48 ∷ 0x22 ∷ 0xF1 ∷ []

-- the bytes of `ldc n` come before stl 3
abbrev pub sum_to : List ℕ → List ℕ
sum_to turns = receives ++ clears ++ turns ++ (0xD3 ∷ []) ++ sums ++ sends 0x11

-- ldc 10000
abbrev pub ten_thousand : List ℕ
ten_thousand = 0x22 ∷ 0x27 ∷ 0x21 ∷ 0x40 ∷ []

-- ldc 10 in four bytes
abbrev pub ten : List ℕ
ten = 0x20 ∷ 0x20 ∷ 0x20 ∷ 0x4A ∷ []

-- a loop of 10,000 turns of four bytes in another: seven bytes lead to it, and four end the turn behind it
abbrev pub loop_in_a_loop : List ℕ → List ℕ
loop_in_a_loop turns =
    receives ++ (0x40 ∷ 0xD2 ∷ []) ++ turns ++ (0xD3 ∷ []) ++ (0x40 ∷ 0xD4 ∷ []) ++ ten_thousand ++ (0xD5 ∷ [])
    ++ (0x14 ∷ 0x44 ∷ 0x22 ∷ 0xF1 ∷ []) ++ (0x12 ∷ 0x4F ∷ 0x22 ∷ 0xF1 ∷ []) ++ sends 0x10

abbrev pub outer_and_inner : ℕ → List LoopRow
outer_and_inner turns = row 13 26 10 turns ∷ row 20 22 12 10000 ∷ []

-- in the last turn but one of the outer loop, and the last but two of the inner one
abbrev pub two_and_three : Counts
two_and_three row = if row.head == 13 then 2 else 3

-- ldl 0, cj over ldc 5, stl 0
abbrev pub early_exit : List ℕ
early_exit = receives ++ (0x70 ∷ 0xA2 ∷ 0x45 ∷ 0xD0 ∷ []) ++ sends 0x10

-- ldl 0, cj over ldc 1, stl 1, j over ldc 2, stl 1; ldl 1, stl 0
abbrev pub two_ways : List ℕ
two_ways = receives ++ (0x70 ∷ 0xA3 ∷ 0x41 ∷ 0xD1 ∷ 0x02 ∷ 0x42 ∷ 0xD1 ∷ 0x71 ∷ 0xD0 ∷ []) ++ sends 0x10

-- two loops, one behind the other, with nothing in between
abbrev pub neighbours : List ℕ
neighbours = 0x40 ∷ 0x41 ∷ 0x22 ∷ 0xF1 ∷ 0x42 ∷ 0x22 ∷ 0xF1 ∷ 0x21 ∷ 0xF5 ∷ []
