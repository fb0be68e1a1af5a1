-- When a loop row is bad.
use Rattle.std.specs.Prelude.{ℕ, ◌+◌, Bool, true, false, ◌||◌, not, nat_lt, nat_le, ◌==◌, ℤ, pos, ◌+ℤ◌, ◌-ℤ◌, int_lt}
use Rattle.std.specs.Prelude.{List, ◌++◌, take, drop, count_by, Option, Some, None, is_some}
use Rattle.std.specs.List.{list_any}
use Rattle.tp_image.specs.declared.image.LoopRow.{LoopRow}
use Rattle.tp_image.specs.Image.{ImageValue}
use Rattle.tp_decode.specs.declared.instr.Instr.{Instr}
use Rattle.tp_decode.specs.declared.instr.Instr.TheVariants.{Lend}
use Rattle.tp_decode.specs.Cutting.{Cut, cut_at}
use Rattle.tp_flow.specs.declared.range.LoopRange.{LoopRange}
use Rattle.tp_flow.specs.Limits.{most_turns, greatest_index, most_depth}
use Rattle.tp_flow.specs.NestRanges.{range_of, ranges, lies_within, crosses, shares_an_end}

-- an instruction starts at the address
abbrev pub is_start : List Cut → ℕ → Bool
is_start cuts at = is_some (cut_at cuts at)

abbrev pub is_lend : Instr → Bool
is_lend Lend = true
is_lend instr = false

abbrev pub is_lend_cut : Option Cut → Bool
is_lend_cut None = false
is_lend_cut (Some cut) = is_lend cut.instr

-- a lend is at the address
abbrev pub is_lend_at : List Cut → ℕ → Bool
is_lend_at cuts at = is_lend_cut (cut_at cuts at)

-- The rules on a row by itself. The head or the lend is no instruction start:
abbrev pub has_no_start : List Cut → LoopRow → Bool
has_no_start cuts row = not (is_start cuts row.head) || not (is_start cuts row.lend)

-- the head is the first instruction
abbrev pub begins_the_code : LoopRow → Bool
begins_the_code row = row.head == 0

-- the head is not before the lend
abbrev pub has_no_body : LoopRow → Bool
has_no_body row = nat_le row.lend row.head

-- no lend is at the row's lend
abbrev pub has_no_lend : List Cut → LoopRow → Bool
has_no_lend cuts row = not (is_lend_at cuts row.lend)

-- the control word and the word after it do not both lie in the workspace
abbrev pub has_no_block : ImageValue → LoopRow → Bool
has_no_block image row = nat_le image.workspace (row.control + 1)

-- the loop makes no turn, or too many
abbrev pub turns_badly : LoopRow → Bool
turns_badly row = nat_lt row.count 1 || nat_lt most_turns row.count

-- the index of the last turn
abbrev pub last_index : LoopRow → ℤ
last_index row = row.start +ℤ pos row.count -ℤ pos 1

-- it is not a word
abbrev pub counts_too_far : LoopRow → Bool
counts_too_far row = int_lt (pos greatest_index) (last_index row)

-- The rules on a range among others. It overlaps an earlier row's without one lying within the other:
abbrev pub crosses_earlier : List LoopRange → LoopRange → Bool
crosses_earlier earlier range = list_any (λ other. crosses range other) earlier

-- the head or the lend is that of an earlier row
abbrev pub shares_with_earlier : List LoopRange → LoopRange → Bool
shares_with_earlier earlier range = list_any (λ other. shares_an_end range other) earlier

-- it lies within more others than loops may nest
abbrev pub lies_too_deep : List LoopRange → LoopRange → Bool
lies_too_deep others range = nat_le most_depth (count_by (λ other. lies_within range other) others)

abbrev pub is_bad_alone : ImageValue → List Cut → LoopRow → Bool
is_bad_alone image cuts row =
    has_no_start cuts row || begins_the_code row || has_no_body row || has_no_lend cuts row || has_no_block image row
    || turns_badly row
    || counts_too_far row

-- row i is bad among the rows of a nest
abbrev pub is_bad_among : List LoopRange → ℕ → LoopRange → Bool
is_bad_among nest i range =
    crosses_earlier (take i nest) range || shares_with_earlier (take i nest) range
    || lies_too_deep (take i nest ++ drop (i + 1) nest) range

-- row i of an image is bad
abbrev pub is_bad_row : ImageValue → List Cut → ℕ → LoopRow → Bool
is_bad_row image cuts i row = is_bad_alone image cuts row || is_bad_among (ranges image.loops) i (range_of row)
