-- What entering a loop makes of a state that fits, whatever the instruction.
use Rattle.std.proofs.Common.{◌≡◌, ℕ, ◌+◌, ◌<◌, ◌^◌, Bool, true, ◌&&◌, ℤ, pos, ◌+ℤ◌, ◌≤ℤ◌, List, length, length-set}
use Rattle.std.proofs.Common.{slice_set, slice_get, Option, Some, None, Result, Ok, refl, sym, ap, ◌∙◌, subst, arith}
use Rattle.std.specs.Prelude.{unwrap_or}
use Rattle.std.proofs.lemmas.Int.{ints}
use Rattle.std.proofs.lemmas.Bool.{and_parts}
use Rattle.std.proofs.lemmas.Bool.Decides.{Decides-int_eq}
use Rattle.tp_words.specs.Words.{signed}
use Rattle.tp_image.specs.declared.image.LoopRow.{LoopRow}
use Rattle.tp_image.specs.Image.{ImageValue}
use Rattle.tp_flow.specs.RowRules.{last_index}
use Rattle.tp_flow.specs.LoopsAround.{along_with}
use Rattle.tp_flow.specs.NestKept.{IsGood}
use Rattle.tp_flow.proofs.FlowNest.{at_place}
use Rattle.tp_step.specs.Memory.{word_at}
use Rattle.tp_step.specs.State.{State as Machine}
use Rattle.tp_state.specs.declared.cell.Cell.{Cell}
use Rattle.tp_state.specs.declared.cell.Cell.TheVariants as cell
use Rattle.tp_state.specs.declared.state.State.{State}
use Rattle.tp_state.specs.declared.fault.StateCode.{StateCode}
use Rattle.tp_state.specs.declared.fault.StateCode.TheVariants.{S5}
use Rattle.tp_state.specs.Answer.{found}
use Rattle.tp_state.specs.CellRules.{cell_at, is_free}
use Rattle.tp_state.specs.Conditions.{HasGoodLoops}
use Rattle.tp_state.specs.Rules.{with_block}
use Rattle.tp_state.specs.After.{is_known, entering}
use Rattle.tp_state.specs.Fits.{CellFits, FitsAmong, word_address}
use Rattle.tp_state.specs.GoesOn.{turns_in}
use Rattle.tp_state.proofs.Passing.{through, held, found_is, same_Ok}
use Rattle.tp_state.proofs.WordLemmas.{natural_signed}
use Rattle.tp_state.proofs.LiveLoops.{with_two, first_set, second_set, others_set}
use Rattle.tp_state.proofs.LoopsPart.{loops_entered, words_block}

pub good_row : (image : ImageValue) (l : ℕ) (row : LoopRow) → HasGoodLoops image → slice_get image.loops l ≡ Some row → IsGood image.workspace row
good_row image l row good is = at_place (IsGood image.workspace) image.loops l row good is

-- a word of a known value
record HasValue (c : Cell) (r : Option ℕ) (n : ℤ) : Type 0 where
  free : is_free c ≡ true
  value : ℕ
  is : r ≡ Some value
  word : value < 2 ^ 32
  signed_is : signed value ≡ n

value_is : (rows : List LoopRow) (n : ℤ) (c : Cell) (r : Option ℕ) → is_known n c ≡ true → CellFits rows c r → HasValue c r n
value_is rows n (cell.Known m) r e (v, is, range) =
    let same : m ≡ n = (Decides-int_eq m n).0 e in
    let above = range.above in
    let below = range.below in
    record { free = refl; value = v; is = is; word = range.word; signed_is = omega (arith, ints) }
value_is rows n cell.Undef r e h = cc
value_is rows n cell.Any r e h = cc
value_is rows n (cell.Index l) r e h = cc
value_is rows n (cell.Count l) r e h = cc

-- the loop that is entered, if one is, has all its turns
abbrev pub HasAllTurns : ImageValue → Option ℕ → Machine → Type 0
HasAllTurns image o s = (l : ℕ) (row : LoopRow) → o ≡ Some l → slice_get image.loops l ≡ Some row → turns_in s.memory row ≡ row.count

pub record Enters (image : ImageValue) (around : ℕ → Bool) (at : ℕ) (o : Option ℕ) (t' : State) (s : Machine) : Type 0 where
  pub fits : FitsAmong image (along_with o around) at t' s
  pub turns : HasAllTurns image o s

pub entered : (image : ImageValue) (around : ℕ → Bool) (at : ℕ) (o : Option ℕ) (t t' : State) (s : Machine) →
    HasGoodLoops image → FitsAmong image around at t s → entering image.loops o t ≡ Ok t' → Enters image around at o t' s
unfolding entering
entered image around at None t t' s good f ok = record { fits = subst (λ u. FitsAmong image around at u s) (same_Ok _ _ ok) f; turns = λ l row is row_is. cc }
entered image around at (Some l) t t' s good f ok =
    through (found S5 (slice_get image.loops l)) _ t' ok λ row is_found ok.
    held S5 (is_known row.start (cell_at t.cells row.control) && is_known (pos row.count) (cell_at t.cells (row.control + 1))) _ t' ok λ tests ok.
    by_row row (found_is S5 _ row is_found) (and_parts (is_known row.start (cell_at t.cells row.control)) (is_known (pos row.count) (cell_at t.cells (row.control + 1))) tests) ok
  where
    by_row : (row : LoopRow) → slice_get image.loops l ≡ Some row →
        (is_known row.start (cell_at t.cells row.control) ≡ true) ×
        (is_known (pos row.count) (cell_at t.cells (row.control + 1)) ≡ true) →
        ◌≡◌ {A = Result State StateCode} (Ok (with_block row (cell.Index l) (cell.Count l) t)) (Ok t') →
        Enters image around at (Some l) t' s
    by_row row row_is tests ok =
        let g = good_row image l row good row_is in
        let block = g.block in
        let least = g.turns_least in
        let sized = f.words.sized in
        let room : row.control + 1 < length t.cells = omega arith in
        let first = value_is image.loops row.start (cell_at t.cells row.control) (word_at s.memory (word_address row.control)) tests.0 (f.words.word row.control (omega arith)) in
        let second = value_is image.loops (pos row.count) (cell_at t.cells (row.control + 1)) (word_at s.memory (word_address (row.control + 1))) tests.1 (f.words.word (row.control + 1) block) in
        let index = first.value in
        let count = second.value in
        let index_at = first.signed_is in
        let count_at = second.signed_is in
        let index_low : row.start ≤ℤ signed index = omega (arith, ints) in
        let index_high : signed index ≤ℤ last_index row = omega (arith, ints) in
        let count_low : pos 1 ≤ℤ signed count = omega (arith, ints) in
        let count_high : signed count ≤ℤ pos row.count = omega (arith, ints) in
        let index_fits : CellFits image.loops (cell.Index l) (Some index) = (row, row_is, index, refl, record { word = first.word; above = index_low; below = index_high }) in
        let count_fits : CellFits image.loops (cell.Count l) (Some count) = (row, row_is, count, refl, record { word = second.word; above = count_low; below = count_high }) in
        let sum : (signed index +ℤ signed count) ≡ (row.start +ℤ pos row.count) = omega (arith, ints) in
        record {
          fits = subst (λ u. FitsAmong image (along_with (Some l) around) at u s) (same_Ok _ _ ok) record {
            place = record { running = f.place.running; iptr = f.place.iptr; oreg = f.place.oreg; wptr = f.place.wptr; roomy = f.place.roomy; inside = f.place.inside };
            phase = f.phase;
            registers = record { a = f.registers.a; b = f.registers.b; c = f.registers.c };
            words = words_block image.loops image.workspace t.cells (with_two t.cells row.control (cell.Index l) (cell.Count l)) s.memory s.memory row.control
                (length-set (slice_set t.cells row.control (cell.Index l)) (row.control + 1) (cell.Count l) ∙ length-set t.cells row.control (cell.Index l))
                (others_set t.cells row.control (cell.Index l) (cell.Count l) room)
                (λ i n. refl)
                (rw (first_set t.cells row.control (cell.Index l) (cell.Count l) room, first.is) index_fits)
                (rw (second_set t.cells row.control (cell.Index l) (cell.Count l) room, second.is) count_fits)
                f.words;
            bytes = record { memory = f.bytes.memory; packet = f.bytes.packet };
            packet = f.packet;
            loops = loops_entered image.loops around t.cells s.memory l row row_is room first.free second.free f.loops index count first.is second.is sum;
          };
          turns = all_turns row row_is count second.is second.word count_at;
        }
      where
        all_turns : (row : LoopRow) → slice_get image.loops l ≡ Some row → (count : ℕ) →
            word_at s.memory (word_address (row.control + 1)) ≡ Some count → count < 2 ^ 32 →
            signed count ≡ pos row.count → HasAllTurns image (Some l) s
        all_turns row row_is count is word at_count k other k_is other_is =
            let same_number : l ≡ k = cc in
            let same_row : other ≡ row = same_of (ap (slice_get image.loops) same_number ∙ other_is) row_is in
            ap (λ r. turns_in s.memory r) same_row ∙ ap (λ o. unwrap_or o 0) is ∙ natural_signed count row.count word at_count ∙ ap (λ (r : LoopRow). r.count) (sym same_row)
          where
            same_of : {a b : LoopRow} {o : Option LoopRow} → o ≡ Some a → o ≡ Some b → a ≡ b
            same_of ea eb = cc
