-- What lend's rule asked for, and what it says of the machine.
use Rattle.std.proofs.Common.{◌≡◌, ℕ, ◌<◌, true, ◌&&◌, pos, ◌-ℤ◌, List, slice_get, Option, Some, None, Ok, refl, sym, ◌∙◌, subst}
use Rattle.std.specs.Option.{option_and_then}
use Rattle.std.proofs.lemmas.Bool.{and_parts}
use Rattle.std.proofs.lemmas.Option.{same_Some}
use Rattle.tp_decode.specs.declared.instr.Instr.TheVariants.{Lend}
use Rattle.tp_image.specs.declared.image.LoopRow.{LoopRow}
use Rattle.tp_image.specs.Image.{ImageValue}
use Rattle.tp_flow.specs.RowRules.{last_index}
use Rattle.tp_flow.specs.declared.edge.Edge.{Edge}
use Rattle.tp_flow.specs.NestRanges.{ranges, number_ended_at}
use Rattle.tp_step.specs.Memory.{Memory, word_at}
use Rattle.tp_state.specs.declared.cell.Cell.{Cell}
use Rattle.tp_state.specs.declared.cell.Cell.TheVariants as cell
use Rattle.tp_state.specs.declared.state.State.{State}
use Rattle.tp_state.specs.declared.fault.StateCode.TheVariants.{S5}
use Rattle.tp_state.specs.Answer.{found}
use Rattle.tp_state.specs.Kinds.{known, number, pointer, is_exactly, points_at}
use Rattle.tp_state.specs.CellRules.{cell_at}
use Rattle.tp_state.specs.Rules.{rule, row_ended_at, descheduled, leaving}
use Rattle.tp_state.specs.Fits.{InRange, CellFits, WordsFit, word_address}
use Rattle.tp_state.proofs.Passing.{through, past, held, found_is, same_Ok}

pub record LendRuled (next : ℕ) (row : LoopRow) (e : Edge) (t t' : State) : Type 0 where
  pub pointer : points_at row.control t.b ≡ true
  pub distance : is_exactly (pos next -ℤ pos row.head) t.a ≡ true
  pub rest : State
  pub rests : descheduled t ≡ Ok rest
  pub is : leaving e row rest ≡ t'

ruled_row : (image : ImageValue) (at next : ℕ) (e : Edge) (t t' : State) → rule image at next Lend e t ≡ Ok t' → (row : LoopRow) × (row_ended_at image at ≡ Some row) × LendRuled next row e t t'
unfolding rule
ruled_row image at next e t t' ok =
    past (known t.a) _ t' ok λ ok.
    past (known t.b) _ t' ok λ ok.
    past (number t.a) _ t' ok λ ok.
    past (pointer t.b) _ t' ok λ ok.
    through (found S5 (row_ended_at image at)) _ t' ok λ row is_found ok.
    held S5 (points_at row.control t.b && is_exactly (pos next -ℤ pos row.head) t.a) _ t' ok λ tests ok.
    through (descheduled t) _ t' ok λ rest is_rest ok.
    let parts = and_parts (points_at row.control t.b) (is_exactly (pos next -ℤ pos row.head) t.a) tests in
    (row, found_is S5 _ row is_found, record { pointer = parts.0; distance = parts.1; rest = rest; rests = is_rest; is = same_Ok _ _ ok })

-- the loop that ends at a lend whose rule refuses nothing
pub record Ends (image : ImageValue) (at l : ℕ) (row : LoopRow) : Type 0 where
  pub number : number_ended_at (ranges image.loops) at ≡ Some l
  pub row_is : slice_get image.loops l ≡ Some row

ended : (image : ImageValue) (at : ℕ) (row : LoopRow) → row_ended_at image at ≡ Some row → (l : ℕ) × Ends image at l row
unfolding row_ended_at
ended image at row e = by_number (number_ended_at (ranges image.loops) at) refl e
  where
    by_number : (o : Option ℕ) → number_ended_at (ranges image.loops) at ≡ o → option_and_then (slice_get image.loops) o ≡ Some row → (l : ℕ) × Ends image at l row
    by_number None is e = cc
    by_number (Some l) is e = (l, record { number = is; row_is = e })

pub lend_ends : (image : ImageValue) (at next : ℕ) (e : Edge) (t t' : State) → rule image at next Lend e t ≡ Ok t' → (l : ℕ) × (row : LoopRow) × Ends image at l row
lend_ends image at next e t t' ok =
    let found = ruled_row image at next e t t' ok in
    let its = ended image at found.0 found.1 in
    (its.0, found.0, its.1)

pub lend_ruled : (image : ImageValue) (at next l : ℕ) (row : LoopRow) (e : Edge) (t t' : State) → Ends image at l row → rule image at next Lend e t ≡ Ok t' → LendRuled next row e t t'
unfolding row_ended_at
lend_ruled image at next l row e t t' ends ok =
    let found = ruled_row image at next e t t' ok in
    let is : row_ended_at image at ≡ Some row = rw ends.number ends.row_is in
    subst (λ r. LendRuled next r e t t') (same_Some _ _ (sym found.1 ∙ is)) found.2

-- ---- words

pub cell_word : (rows : List LoopRow) (workspace : ℕ) (cells : List Cell) (m : Memory) (i : ℕ) (c : Cell) (v : ℕ) →
    WordsFit rows workspace cells m → i < workspace → cell_at cells i ≡ c → word_at m (word_address i) ≡ Some v →
    CellFits rows c (Some v)
cell_word rows workspace cells m i c v f lt c_is is = subst (λ r. CellFits rows c r) is (subst (λ u. CellFits rows u (word_at m (word_address i))) c_is (f.word i lt))

pub index_range : (rows : List LoopRow) (l : ℕ) (row : LoopRow) (v : ℕ) → slice_get rows l ≡ Some row → CellFits rows (cell.Index l) (Some v) → InRange row.start (last_index row) v
index_range rows l row v row_is (r, r_is, w, is, range) =
    subst (λ u. InRange row.start (last_index row) u) (same_Some _ _ (sym is)) (subst (λ u. InRange u.start (last_index u) w) (same_Some _ _ (sym r_is ∙ row_is)) range)

pub count_range : (rows : List LoopRow) (l : ℕ) (row : LoopRow) (v : ℕ) → slice_get rows l ≡ Some row → CellFits rows (cell.Count l) (Some v) → InRange (pos 1) (pos row.count) v
count_range rows l row v row_is (r, r_is, w, is, range) =
    subst (λ u. InRange (pos 1) (pos row.count) u) (same_Some _ _ (sym is)) (subst (λ u. InRange (pos 1) (pos u.count) w) (same_Some _ _ (sym r_is ∙ row_is)) range)
