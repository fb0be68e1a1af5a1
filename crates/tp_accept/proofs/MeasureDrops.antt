-- Along each edge the measure goes down by the bytes of the instruction.
use Rattle.std.proofs.Common.{◌≡◌, ℕ, ◌+◌, ◌-◌, ◌*◌, ◌<◌, ◌≤◌, Bool, true, false, ◌==◌, cond, if◌then◌else◌, ℤ, List}
use Rattle.std.proofs.Common.{[], ◌∷◌, length, get_or, slice_get, Contains, filter, sum_by, Option, Some, None, refl}
use Rattle.std.proofs.Common.{ap, sym, ◌∙◌, arith}
use Rattle.std.proofs.lemmas.List.Sums.{sum_by-cons}
use Rattle.std.specs.Option.{is_some, option_map, option_map_or, option_and_then}
use Rattle.std.proofs.lemmas.Bool.Decides.{nat_tests}
use Rattle.std.proofs.lemmas.Option.{slice_get_within, get_or_from_slice_get}
use Rattle.std.proofs.lemmas.List.Elements.{All-contains}
use Rattle.std.proofs.lemmas.List.Quantifiers.{position-Some}
use Rattle.tp_image.specs.declared.image.LoopRow.{LoopRow}
use Rattle.tp_decode.specs.declared.instr.Instr.{Instr}
use Rattle.tp_decode.specs.declared.instr.Instr.TheVariants.{Jump, Cj, Lend}
use Rattle.tp_decode.specs.Cutting.{Cut, cut_at}
use Rattle.tp_flow.specs.declared.edge.Edge.{Edge}
use Rattle.tp_flow.specs.declared.edge.Edge.TheVariants.{Next, Taken, Back, Out}
use Rattle.tp_flow.specs.declared.range.LoopRange.{LoopRange}
use Rattle.tp_flow.specs.NestRanges.{range_of, ranges, contains, number_ended_at, head_of}
use Rattle.tp_flow.specs.Edges.{has_edge, jump_operand, jump_target, target, is_edge}
use Rattle.tp_flow.specs.RowRules.{is_start}
use Rattle.tp_flow.specs.NestKept.{IsGood, IsLoop, IsEdge, KeepsNest}
use Rattle.tp_flow.proofs.FlowNest.{row_of, body_of}
use Rattle.tp_flow.proofs.FlowCuts.{none_between}
use Rattle.tp_flow.proofs.FlowSpelled.{some_bytes}
use Rattle.tp_accept.specs.Bound.{Costs, left_of, behind, begun_at, whole_of, cost_of, costs_of, bound}
use Rattle.tp_accept.specs.Measure.{Counts, turns_left, measure, AreCountsAfter, HasTurns}
use Rattle.tp_accept.proofs.CostTable.{LooksForward, costs_here}
use Rattle.tp_accept.proofs.CostEdges.{left_least, left_next, left_taken, left_out, left_back}
use Rattle.tp_accept.proofs.LoopSums.{sums_le, part_le, sum_zero, begun_sum, same_loop}
use Rattle.tp_accept.proofs.LookedUp.{behind_least, behind_is, found, found_none, map_contains}
use Rattle.tp_accept.proofs.LoopSteps.{one_turn, forward_step, back_step}

-- what follows from a test or an edge
pub some_is : {X : Type 0} (o : Option X) → is_some o ≡ true → (x : X) × (o ≡ Some x)
some_is None is = absurd cc
some_is (Some x) is = (x, refl)

pub operand_taken : (instr : Instr) (n : ℤ) → jump_operand instr ≡ Some n → has_edge instr Taken ≡ true
operand_taken (Jump m) n is = refl
operand_taken (Cj m) n is = refl
operand_taken instr n is = absurd cc

out_is_back : (instr : Instr) → has_edge instr Out ≡ true → has_edge instr Back ≡ true
out_is_back Lend has = refl
out_is_back instr has = absurd cc

pub from_if : (b : Bool) (o : Option ℕ) (to : ℕ) → (if b then o else None) ≡ Some to → (b ≡ true) × (o ≡ Some to)
from_if true o to is = (refl, is)
from_if false o to is = absurd cc

pub from_jump : (next to : ℕ) (o : Option ℤ) → option_and_then (jump_target next) o ≡ Some to → (n : ℤ) × (o ≡ Some n) × (jump_target next n ≡ Some to)
from_jump next to None is = absurd cc
from_jump next to (Some n) is = (n, refl, is)

from_back : (nest : List LoopRange) (to : ℕ) (o : Option ℕ) → option_and_then (head_of nest) o ≡ Some to → (l : ℕ) × (o ≡ Some l) × (head_of nest l ≡ Some to)
from_back nest to None is = absurd cc
from_back nest to (Some l) is = (l, refl, is)

from_head : (to : ℕ) (o : Option LoopRange) → option_map (λ range. range.head) o ≡ Some to → (range : LoopRange) × (o ≡ Some range) × (range.head ≡ to)
from_head to None is = absurd cc
from_head to (Some range) is = (range, refl, cc)

-- a loop contains the addresses from its head to its lend
contained : (row : LoopRow) (at : ℕ) → row.head ≤ at → at ≤ row.lend → contains (range_of row) at ≡ true
contained row at low high = grind (arith, nat_tests)

container : (row : LoopRow) (at : ℕ) → contains (range_of row) at ≡ true → (row.head ≤ at) × (at ≤ row.lend)
container row at is = (grind (arith, nat_tests), grind (arith, nat_tests))

-- what a loop adds at an address
abbrev added_at : List Cut → Costs → ℕ → Counts → LoopRow → ℕ
added_at code costs at counts row = if contains (range_of row) at then turns_left code costs row (counts row) else 0

-- a sum over some of a list
sum_chosen : (p : LoopRow → Bool) (f : LoopRow → ℕ) (rows : List LoopRow) → sum_by f (filter p rows) ≡ sum_by (λ row. if p row then f row else 0) rows
sum_chosen p f [] = refl
sum_chosen p f (row ∷ rows) = by_test (sum_chosen p f rows) (p row) refl
  where
    by_test : sum_by f (filter p rows) ≡ sum_by (λ row. if p row then f row else 0) rows → (b : Bool) → p row ≡ b →
        sum_by f (cond b (row ∷ filter p rows) (filter p rows)) ≡ sum_by (λ row. if p row then f row else 0) (row ∷ rows)
    by_test go true e =
        let here : (if p row then f row else 0) ≡ f row = ap (λ b. cond b (f row) 0) e in
        omega (arith, sum_by-cons f row (filter p rows), sum_by-cons (λ row. if p row then f row else 0) row rows, go, here)
    by_test go false e =
        let here : (if p row then f row else 0) ≡ 0 = ap (λ b. cond b (f row) 0) e in
        omega (arith, sum_by-cons (λ row. if p row then f row else 0) row rows, go, here)

-- the measure as a sum over all rows
measure_is : (rows : List LoopRow) (code : List Cut) (at executed : ℕ) (counts : Counts) →
    measure rows code at executed counts ≡ (costs_of rows code at).left - executed + sum_by
    (added_at code (costs_of rows code) at counts) rows
unfolding measure
measure_is rows code at executed counts =
    ap (λ n. (costs_of rows code at).left - executed + n) (sum_chosen (λ row. contains (range_of row) at) (λ row. turns_left code (costs_of rows code) row (counts row)) rows)

module _ (rows : List LoopRow) (workspace : ℕ) (code : List Cut) (nest : KeepsNest rows workspace code) where
  -- where a loop stands, and that it makes a turn
  pub loop_of : (row : LoopRow) → Contains rows row → IsLoop code row
  loop_of row row_in = All-contains (IsLoop code) rows row nest.loops row_in

  turns_of : (row : LoopRow) → Contains rows row → 0 < row.count
  turns_of row row_in = let good = All-contains (IsGood workspace) rows row nest.good row_in in omega (arith, good.turns_least)

  -- an instruction reads costs behind it alone
  looks : (at : ℕ) (cut : Cut) → cut_at code at ≡ Some cut → LooksForward rows code at cut
  looks at cut stands = record {
    jumps = λ n to is goes.
        let has = operand_taken cut.instr n is in
        let edge : IsEdge (ranges rows) code at Taken to =
        record {
          cut = cut;
          stands = stands;
          goes = ap (λ b. cond b (option_and_then (jump_target (at + length cut.bytes)) (jump_operand cut.instr)) None) has ∙ ap (option_and_then (jump_target (at + length cut.bytes))) is ∙ goes;
        }
        in
        nest.forward at to Taken edge (λ e. absurd cc);
    lends = λ row is.
        let begun = found (λ (r : LoopRow). r.head == at) rows row is in
        let good = loop_of row begun.0 in
        let test : (row.head == at) ≡ true = begun.1 in
        let here : row.head ≡ at = grind (arith, nat_tests) in
        let body : row.head < row.lend = good.body in
        omega (arith, none_between code at cut row.lend stands ((body_of code row good).lend) (omega arith), behind_least code row.lend);
  }

  -- the equation of the costs
  pub cost_at : (at : ℕ) (cut : Cut) → cut_at code at ≡ Some cut → costs_of rows code at ≡ cost_of rows code (costs_of rows code) at (length cut.bytes) cut.instr
  cost_at at cut stands =
      costs_here rows code at cut (some_bytes code at cut nest.spelled stands) (looks at cut stands) code 0 at nest.spelled stands (omega arith)

  pub left_at : (at : ℕ) (cut : Cut) → cut_at code at ≡ Some cut → (costs_of rows code at).left ≡ left_of (costs_of rows code) (length cut.bytes) (at + length cut.bytes) cut.instr
  left_at at cut stands = ap (λ c. c.left) (cost_at at cut stands)

  -- what the loop that begins there adds
  pub whole_is : (to : ℕ) → is_start code to ≡ true → (costs_of rows code to).whole ≡ (costs_of rows code to).left +
      option_map_or (λ row. turns_left code (costs_of rows code) row row.count) (begun_at rows to) 0
  whole_is to starts = let cut = some_is (cut_at code to) starts in let costs = costs_of rows code in
      ap (λ c. c.whole) (cost_at to cut.0 cut.1) ∙ by_case (begun_at rows to) refl _ (sym (left_at to cut.0 cut.1))
    where
      by_case : (o : Option LoopRow) → begun_at rows to ≡ o → (l : ℕ) → l ≡ (costs_of rows code to).left →
          whole_of code (costs_of rows code) l o ≡ (costs_of rows code to).left + option_map_or
          (λ row. turns_left code (costs_of rows code) row row.count) o 0
      by_case None is l e = omega (arith, e)
      by_case (Some row) is l e =
          let begun = found (λ (r : LoopRow). r.head == to) rows row is in
          let test : (row.head == to) ≡ true = begun.1 in
          let here : row.head ≡ to = grind (arith, nat_tests) in
          let turns : 0 < row.count = turns_of row begun.0 in
          let head : (costs_of rows code row.head).left ≡ l = ap (λ a. (costs_of rows code a).left) here ∙ sym e in
          let product : (row.count - 1) * (costs_of rows code row.head).left ≡ (row.count - 1) * l = ap (λ x. (row.count - 1) * x) head in
          omega (arith, e, product, one_turn row.count l turns)

  -- the loop that a lend ends
  ended : (at to : ℕ) → option_and_then (head_of (ranges rows)) (number_ended_at (ranges rows) at) ≡ Some to → (row : LoopRow) × Contains rows row × (row.lend ≡ at) × (row.head ≡ to)
  ended at to is =
      let number = from_back (ranges rows) to (number_ended_at (ranges rows) at) is in
      let range = from_head to (slice_get (ranges rows) number.0) number.2 in
      let row = row_of rows number.0 range.0 range.1 in
      let passes = (position-Some (λ (r : LoopRange). r.lend == at) (ranges rows) number.0 range.0 number.1).1 in
      let there : get_or (ranges rows) number.0 range.0 ≡ range.0 = get_or_from_slice_get (ranges rows) number.0 range.0 range.0 range.1 in
      let test : (range.0.lend == at) ≡ true = sym (ap (λ (r : LoopRange). r.lend == at) there) ∙ passes in
      let here : range.0.lend ≡ at = grind (arith, nat_tests) in
      (row.0, (number.0, slice_get_within rows number.0 row.0 row.1, get_or_from_slice_get rows number.0 row.0 row.0 row.1), ap (λ r. r.lend) row.2 ∙ here, ap (λ r. r.head) row.2 ∙ range.2)

  -- a loop is entered at its head
  enters : (at to : ℕ) (edge : Edge) → IsEdge (ranges rows) code at edge to → (row : LoopRow) → Contains rows row →
      contains (range_of row) at ≡ false → contains (range_of row) to ≡ true → to ≡ row.head
  enters at to edge e row row_in out in_to = nest.enters at to edge (range_of row) e (map_contains range_of rows row row_in) (λ h. absurd cc) in_to

  -- what loops add, before and after an edge that goes forward
  forward_sums : (at to : ℕ) (edge : Edge) (counts later : Counts) → IsEdge (ranges rows) code at edge to → is_edge edge Back ≡ false → at < to → AreCountsAfter rows at edge to counts later
      → sum_by (added_at code (costs_of rows code) to later) rows + sum_by (λ row. if row.lend == at then added_at code (costs_of rows code) at counts row else 0) rows
      ≤ sum_by (added_at code (costs_of rows code) at counts) rows + option_map_or (λ row. turns_left code (costs_of rows code) row row.count) (begun_at rows to) 0
  forward_sums at to edge counts later e not_back on after =
      let begun = begun_sum (λ row. turns_left code (costs_of rows code) row row.count) rows to nest.heads in
      let sums = sums_le (added_at code (costs_of rows code) to later)
      (λ row. if row.lend == at then added_at code (costs_of rows code) at counts row else 0)
      (added_at code (costs_of rows code) at counts) (λ row. if row.head == to then turns_left code
      (costs_of rows code) row row.count else 0) rows each in
      omega (arith, begun, sums)
    where
      each : (row : LoopRow) → Contains rows row → added_at code (costs_of rows code) to later row +
          (if row.lend == at then added_at code (costs_of rows code) at counts row else 0) ≤ added_at code
          (costs_of rows code) at counts row + (if row.head == to then turns_left code (costs_of rows code) row row.count
          else 0)
      each row row_in =
          forward_step (costs_of rows code (behind code row.lend)).whole (costs_of rows code row.head).left (counts row)
          row.count (later row) (contains (range_of row) at) (contains (range_of row) to) (row.lend == at)
          (row.head == to) (is_edge edge Back) not_back (after row row_in)
          (λ out in_to. let same = enters at to edge e row row_in out in_to in begins same)
          (λ in_to ends. past in_to ends)
        where
          begins : to ≡ row.head → (row.head == to) ≡ true
          begins same = grind (arith, nat_tests)

          past : contains (range_of row) to ≡ true → (row.lend == at) ≡ true → ⊥
          past in_to ends = let last : row.lend ≡ at = grind (arith, nat_tests) in omega (arith, (container row to in_to).1)

  -- and before and after an edge back
  back_sums : (at to : ℕ) (counts later : Counts) → IsEdge (ranges rows) code at Back to → (own : LoopRow) →
      Contains rows own → own.lend ≡ at → own.head ≡ to → HasTurns rows at counts →
      AreCountsAfter rows at Back to counts later
      → sum_by (added_at code (costs_of rows code) to later) rows + (costs_of rows code to).left ≤ sum_by (added_at code (costs_of rows code) at counts) rows
  back_sums at to counts later e own own_in lend head turns after =
      let zeros : (row : LoopRow) → ℕ = λ row. 0 in
      let sums = sums_le (added_at code (costs_of rows code) to later)
      (λ row. if row.lend == at then (costs_of rows code row.head).left else 0)
      (added_at code (costs_of rows code) at counts) (λ row. 0) rows each in
      let part = part_le (λ (row : LoopRow). if row.lend == at then (costs_of rows code row.head).left else 0) rows own own_in in
      let test : (own.lend == at) ≡ true = grind (arith, nat_tests) in
      let own_part : (if own.lend == at then (costs_of rows code own.head).left else 0) ≡ (costs_of rows code to).left =
      ap (λ b. cond b (costs_of rows code own.head).left 0) test ∙ ap (λ a. (costs_of rows code a).left) head in
      omega (arith, sums, part, own_part, sum_zero zeros rows (λ row row_in. refl))
    where
      each : (row : LoopRow) → Contains rows row → added_at code (costs_of rows code) to later row +
          (if row.lend == at then (costs_of rows code row.head).left else 0) ≤ added_at code (costs_of rows code) at
          counts row + 0
      each row row_in =
          back_step (costs_of rows code (behind code row.lend)).whole (costs_of rows code row.head).left (counts row)
          row.count (later row) (contains (range_of row) at) (contains (range_of row) to) (row.lend == at)
          (after row row_in)
          (λ ends. turns row row_in (at_lend ends))
          (λ ends. let last = at_lend ends in let body : row.head < row.lend = (loop_of row row_in).body in contained row at (omega arith) (omega arith))
          (λ out in_to. not_entered out in_to)
        where
          at_lend : (row.lend == at) ≡ true → row.lend ≡ at
          at_lend ends = grind (arith, nat_tests)

          not_entered : contains (range_of row) at ≡ false → contains (range_of row) to ≡ true → ⊥
          not_entered out in_to =
              let same : row ≡ own = same_loop rows row own nest.heads row_in own_in (sym (enters at to Back e row row_in out in_to) ∙ sym head) in
              let body : own.head < own.lend = (loop_of own own_in).body in
              let within : contains (range_of own) at ≡ true = contained own at (omega arith) (omega arith) in
              let clash : true ≡ false = sym within ∙ ap (λ r. contains (range_of r) at) (sym same) ∙ out in
              absurd cc

  -- along an edge
  pub drops : (at to executed : ℕ) (edge : Edge) (counts later : Counts) (e : IsEdge (ranges rows) code at edge to) →
      (edge ≡ Back → HasTurns rows at counts) → AreCountsAfter rows at edge to counts later →
      executed ≤ length e.cut.bytes → length e.cut.bytes + measure rows code to 0 later ≤ executed + measure rows code at
      executed counts
  drops at to executed Next counts later e turns after within =
      let n = length e.cut.bytes in
      let goes = from_if (has_edge e.cut.instr Next) (Some (at + n)) to e.goes in
      let same : at + n ≡ to = cc in
      let some = some_bytes code at e.cut nest.spelled e.stands in
      let before : at < to = omega arith in
      let sums = forward_sums at to Next counts later e refl before after in
      let whole = whole_is to (nest.starts at to Next e) in
      let left = left_at at e.cut e.stands in
      let next = left_next (costs_of rows code) n (at + n) e.cut.instr goes.0 in
      let there : (costs_of rows code (at + n)).whole ≡ (costs_of rows code to).whole = ap (λ a. (costs_of rows code a).whole) same in
      omega (arith, sums, whole, left, next, there, measure_is rows code at executed counts, measure_is rows code to 0 later)
  drops at to executed Taken counts later e turns after within =
      let n = length e.cut.bytes in
      let goes = from_if (has_edge e.cut.instr Taken) (option_and_then (jump_target (at + n)) (jump_operand e.cut.instr)) to e.goes in
      let jump = from_jump (at + n) to (jump_operand e.cut.instr) goes.1 in
      let some = some_bytes code at e.cut nest.spelled e.stands in
      let on = nest.forward at to Taken e (λ h. absurd cc) in
      let before : at < to = omega arith in
      let sums = forward_sums at to Taken counts later e refl before after in
      let whole = whole_is to (nest.starts at to Taken e) in
      let left = left_at at e.cut e.stands in
      let taken = left_taken (costs_of rows code) n (at + n) e.cut.instr jump.0 to jump.1 jump.2 in
      omega (arith, sums, whole, left, taken, measure_is rows code at executed counts, measure_is rows code to 0 later)
  drops at to executed Back counts later e turns after within =
      let n = length e.cut.bytes in
      let goes = from_if (has_edge e.cut.instr Back) (option_and_then (head_of (ranges rows)) (number_ended_at (ranges rows) at)) to e.goes in
      let own = ended at to goes.1 in
      let sums = back_sums at to counts later e own.0 own.1 own.2 own.3 (turns refl) after in
      let left = left_at at e.cut e.stands in
      let lend = left_back (costs_of rows code) n (at + n) e.cut.instr goes.0 in
      omega (arith, sums, left, lend, measure_is rows code at executed counts, measure_is rows code to 0 later)
  drops at to executed Out counts later e turns after within =
      let n = length e.cut.bytes in
      let goes = from_if (has_edge e.cut.instr Out) (Some (at + n)) to e.goes in
      let same : at + n ≡ to = cc in
      let some = some_bytes code at e.cut nest.spelled e.stands in
      let before : at < to = omega arith in
      let sums = forward_sums at to Out counts later e refl before after in
      let whole = whole_is to (nest.starts at to Out e) in
      let left = left_at at e.cut e.stands in
      let lend = left_out (costs_of rows code) n (at + n) e.cut.instr goes.0 in
      let part = ended_part at e.cut e.stands goes.0 counts in
      let there : (costs_of rows code (at + n)).whole ≡ (costs_of rows code to).whole = ap (λ a. (costs_of rows code a).whole) same in
      omega (arith, sums, whole, left, lend, part, there, measure_is rows code at executed counts, measure_is rows code to 0 later)
    where
      ended_part : (at : ℕ) (cut : Cut) → cut_at code at ≡ Some cut → has_edge cut.instr Out ≡ true →
          (counts : Counts) → (costs_of rows code (at + length cut.bytes)).whole ≤ sum_by
          (λ row. if row.lend == at then added_at code (costs_of rows code) at counts row else 0) rows
      ended_part at cut stands has counts =
          let back = out_is_back cut.instr has in
          let there : is_some (target (ranges rows) at (at + length cut.bytes) cut.instr Back) ≡ true = nest.targets at cut Back stands back in
          let goes = some_is (target (ranges rows) at (at + length cut.bytes) cut.instr Back) there in
          let head = from_if (has_edge cut.instr Back) (option_and_then (head_of (ranges rows)) (number_ended_at (ranges rows) at)) goes.0 goes.1 in
          let own = ended at goes.0 head.1 in
          let body : own.0.head < own.0.lend = (loop_of own.0 own.1).body in
          let lend : own.0.lend ≡ at = own.2 in
          let test : (own.0.lend == at) ≡ true = grind (arith, nat_tests) in
          let within : contains (range_of own.0) at ≡ true = contained own.0 at (omega arith) (omega arith) in
          let turns = turns_left code (costs_of rows code) own.0 (counts own.0) in
          let own_part : (if own.0.lend == at then added_at code (costs_of rows code) at counts own.0 else 0) ≡ turns =
          ap (λ b. cond b (added_at code (costs_of rows code) at counts own.0) 0) test ∙
          ap (λ b. cond b turns 0) within in
          let next : behind code own.0.lend ≡ at + length cut.bytes = ap (behind code) lend ∙ behind_is code at cut stands in
          let next_whole : (costs_of rows code (behind code own.0.lend)).whole ≡ (costs_of rows code (at + length cut.bytes)).whole = ap (λ a. (costs_of rows code a).whole) next in
          let part = part_le (λ (row : LoopRow). if row.lend == at then added_at code (costs_of rows code) at counts row else 0) rows own.0 own.1 in
          omega (arith, own_part, next_whole, part)

  -- what is left at the first instruction is the bound: no loop begins there
  pub first_is_bound : is_start code 0 ≡ true → (costs_of rows code 0).left ≡ bound rows code
  unfolding bound
  first_is_bound starts =
      let none = found_none (λ (row : LoopRow). row.head == 0) rows (λ row row_in. not_first row row_in) in
      let whole = whole_is 0 starts in
      let extra : option_map_or (λ row. turns_left code (costs_of rows code) row row.count) (begun_at rows 0) 0 ≡ 0 =
      ap (λ o. option_map_or (λ row. turns_left code (costs_of rows code) row row.count) o 0) none in
      omega (arith, whole, extra)
    where
      not_first : (row : LoopRow) → Contains rows row → (row.head == 0) ≡ false
      not_first row row_in = let later : 0 < row.head = (loop_of row row_in).later in grind (arith, nat_tests)

  -- at the start
  pub starts_with_bound : is_start code 0 ≡ true → (counts : Counts) → measure rows code 0 0 counts ≡ bound rows code
  starts_with_bound starts counts =
      omega (arith, measure_is rows code 0 0 counts, first_is_bound starts, sum_zero (added_at code (costs_of rows code) 0 counts) rows (λ row row_in. not_around row row_in))
    where
      not_around : (row : LoopRow) → Contains rows row → added_at code (costs_of rows code) 0 counts row ≡ 0
      not_around row row_in =
          let later : 0 < row.head = (loop_of row row_in).later in
          let out : contains (range_of row) 0 ≡ false = grind (arith, nat_tests) in
          ap (λ b. cond b (turns_left code (costs_of rows code) row (counts row)) 0) out

  -- each byte of an instruction takes one
  pub each_byte : (at executed : ℕ) (cut : Cut) (counts : Counts) → cut_at code at ≡ Some cut →
      executed ≤ length cut.bytes → executed + measure rows code at executed counts ≡ measure rows code at 0 counts
  each_byte at executed cut counts stands within =
      omega (
        arith,
        measure_is rows code at executed counts,
        measure_is rows code at 0 counts,
        left_at at cut stands,
        left_least (costs_of rows code) (length cut.bytes) (at + length cut.bytes) cut.instr,
      )

  -- and there are enough for them
  pub bytes_counted : (at : ℕ) (cut : Cut) (counts : Counts) → cut_at code at ≡ Some cut → length cut.bytes ≤ measure rows code at 0 counts
  bytes_counted at cut counts stands =
      omega (arith, measure_is rows code at 0 counts, left_at at cut stands, left_least (costs_of rows code) (length cut.bytes) (at + length cut.bytes) cut.instr)
