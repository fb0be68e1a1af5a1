-- Where no rule of flow is broken, edges go to instructions and keep to the nest.
use Rattle.std.proofs.Common.{◌≡◌, ◌≢◌, ℕ, ◌+◌, ◌^◌, ◌<◌, ◌≤◌, Bool, true, false, ◌&&◌, ◌||◌, not, ◌⊎◌, inl, inr}
use Rattle.std.proofs.Common.{nat_le, nat_lt, nat_eq, ◌==◌, if◌then◌else◌, ℤ, pos, negsuc, List, [], ◌∷◌, length}
use Rattle.std.proofs.Common.{get_or, slice_get, Contains, Option, Some, None, refl, ap, sym, ◌∙◌, arith, IsSome}
use Rattle.std.specs.Option.{option_map, option_and_then, is_some, is_none}
use Rattle.std.proofs.lemmas.List.Folds.{list_any_at}
use Rattle.std.proofs.lemmas.Bool.{or_parts}
use Rattle.std.proofs.lemmas.Bool.Decides.{nat_tests, Decides-eqb}
use Rattle.std.proofs.lemmas.List.Quantifiers.{position-Some}
use Rattle.std.proofs.lemmas.Option.{slice_get-get_or, slice_get_within, get_or_from_slice_get}
use Rattle.tp_image.specs.Image.{ImageValue}
use Rattle.tp_decode.specs.declared.instr.Instr.{Instr}
use Rattle.tp_decode.specs.declared.instr.Instr.TheVariants.{Jump, Cj, Lend}
use Rattle.tp_decode.specs.Cutting.{Cut, cut_at, IsCutting}
use Rattle.tp_flow.specs.declared.edge.Edge.{Edge}
use Rattle.tp_flow.specs.declared.edge.Edge.TheVariants.{Next, Taken, Back, Out}
use Rattle.tp_flow.specs.declared.range.LoopRange.{LoopRange}
use Rattle.tp_flow.specs.declared.fault.FlowCode.TheVariants.{J1, J2, J3, J4}
use Rattle.tp_flow.specs.NestRanges.{ranges, contains, overlaps, lies_within, number_ended_at, head_of}
use Rattle.tp_flow.specs.Edges.{has_edge, jump_operand, jump_target, goes_to, target}
use Rattle.tp_flow.specs.RowRules.{is_start, is_lend}
use Rattle.tp_flow.specs.JumpRules.{rule, is_outside, goes_back, is_no_start, breaks_the_nest, leaves, enters_inside, runs_off}
use Rattle.tp_flow.specs.FlowFaults.{first_flow_fault}
use Rattle.tp_flow.specs.NestKept.{IsEdge, KeepsNest}
use Rattle.tp_flow.proofs.FlowCuts.{start_behind, none_between}
use Rattle.tp_flow.proofs.FlowPassed.{unbroken, instruction_passes}
use Rattle.tp_flow.proofs.FlowNest.{not_false, IsBody, good_at, all_good, all_loops, own_heads, own_lends, loops_nested, none_around_start}
use Rattle.tp_flow.proofs.FlowDepth.{loops_shallow}
use Rattle.tp_flow.proofs.FlowSpelled.{each_some}

inside : (range : LoopRange) (at : ℕ) → contains range at ≡ true → (range.head ≤ at) × (at ≤ range.lend)
inside range at is = (grind (arith, nat_tests), grind (arith, nat_tests))

outside : (range : LoopRange) (at : ℕ) → (contains range at ≡ true → ⊥) → range.head ≤ at → range.lend < at
outside range at no_part low = by_test (nat_le at range.lend) refl
  where
    by_test : (p : Bool) → nat_le at range.lend ≡ p → range.lend < at
    by_test true e = absurd (no_part (grind (arith, nat_tests)))
    by_test false e = grind (arith, nat_tests)

-- an edge to the next instruction
module _ (cuts : List Cut) (at : ℕ) (cut : Cut) (range : LoopRange) (stands : cut_at cuts at ≡ Some cut) (loop : IsBody cuts range) where
  enters_next : (contains range at ≡ true → ⊥) → contains range (at + length cut.bytes) ≡ true → at + length cut.bytes ≡ range.head
  enters_next out in_range = by_test (nat_lt at range.head) refl
    where
      ends : (range.head ≤ at + length cut.bytes) × (at + length cut.bytes ≤ range.lend)
      ends = inside range (at + length cut.bytes) in_range

      by_test : (p : Bool) → nat_lt at range.head ≡ p → at + length cut.bytes ≡ range.head
      by_test true e =
          let before : at < range.head = grind (arith, nat_tests) in omega (arith, ends.0, none_between cuts at cut range.head stands loop.head before)
      by_test false e =
          let low : range.head ≤ at = grind (arith, nat_tests) in absurd (omega (arith, ends.1, outside range at out low))

  leaves_next : contains range at ≡ true → (contains range (at + length cut.bytes) ≡ true → ⊥) → at ≡ range.lend
  leaves_next in_range out = by_test (nat_lt at range.lend) refl
    where
      ends : (range.head ≤ at) × (at ≤ range.lend)
      ends = inside range at in_range

      past : range.lend < at + length cut.bytes
      past = outside range (at + length cut.bytes) out (omega (arith, ends.0))

      by_test : (p : Bool) → nat_lt at range.lend ≡ p → at ≡ range.lend
      by_test true e =
          let before : at < range.lend = grind (arith, nat_tests) in absurd (omega (arith, past, none_between cuts at cut range.lend stands loop.lend before))
      by_test false e = let high : range.lend ≤ at = grind (arith, nat_tests) in omega (arith, ends.1)

-- a jump that breaks no rule
not_true : (b : Bool) → (b ≡ true → ⊥) → b ≡ false
not_true true h = absurd (h refl)
not_true false h = refl

keeps : (nest : List LoopRange) (at to : ℕ) (range : LoopRange) → breaks_the_nest nest at (Some to) ≡ false → Contains nest range → (leaves at to range ≡ false) × (enters_inside at to range ≡ false)
keeps nest at to range is (k, k_in, at_k) = or_parts (leaves at to range) (enters_inside at to range) (by_test (leaves at to range || enters_inside at to range) refl)
  where
    by_test : (b : Bool) → (leaves at to range || enters_inside at to range) ≡ b → b ≡ false
    by_test false e = refl
    by_test true e =
        let any : breaks_the_nest nest at (Some to) ≡ true =
        list_any_at (λ r. leaves at to r || enters_inside at to r) nest k range k_in
        (ap (λ r. leaves at to r || enters_inside at to r) at_k ∙ e) in
        absurd cc

enters_jump : (at to : ℕ) (range : LoopRange) → enters_inside at to range ≡ false → (contains range at ≡ true → ⊥) → contains range to ≡ true → to ≡ range.head
enters_jump at to range is out in_range = by_test (contains range at) (not_true _ out) (contains range to) in_range (nat_eq to range.head) refl is
  where
    by_test : (p : Bool) → p ≡ false → (q : Bool) → q ≡ true → (r : Bool) → nat_eq to range.head ≡ r → (not p && q && not r) ≡ false → to ≡ range.head
    by_test p e q e' true f is = grind (arith, nat_tests)
    by_test true e q e' false f is = absurd cc
    by_test false e false e' false f is = absurd cc
    by_test false e true e' false f is = absurd cc

leaves_jump : (at to : ℕ) (range : LoopRange) → leaves at to range ≡ false → contains range at ≡ true → (contains range to ≡ true → ⊥) → ⊥
leaves_jump at to range is in_range out = by_test (contains range at) in_range (contains range to) (not_true _ out) is
  where
    by_test : (p : Bool) → p ≡ true → (q : Bool) → q ≡ false → (p && not q) ≡ false → ⊥
    by_test false e q e' is = cc
    by_test true e true e' is = cc
    by_test true e false e' is = cc

-- an edge from a lend back to its head
module _ (range other : LoopRange) (body : range.head < range.lend) (nested : overlaps range other ≡ true → (lies_within range other ≡ true) ⊎ (lies_within other range ≡ true)) where
  enters_back : (contains other range.lend ≡ true → ⊥) → contains other range.head ≡ true → range.head ≡ other.head
  enters_back out in_other =
      let ends = inside other range.head in_other in
      let past : other.lend < range.lend = outside other range.lend out (omega (arith, ends.0)) in
      let over : overlaps range other ≡ true = over_by ends.1 (omega (arith, ends.0)) in
      by_case ends past (nested over)
    where
      over_by : range.head ≤ other.lend → other.head ≤ range.lend → overlaps range other ≡ true
      over_by low high = grind (arith, nat_tests)

      by_case : (other.head ≤ range.head) × (range.head ≤ other.lend) → other.lend < range.lend → (lies_within range other ≡ true) ⊎ (lies_within other range ≡ true) → range.head ≡ other.head
      by_case ends past (inl within) = let high : range.lend ≤ other.lend = grind (arith, nat_tests) in absurd (omega arith)
      by_case ends past (inr within) = let low : range.head ≤ other.head = grind (arith, nat_tests) in omega (arith, ends.0)

  leaves_back : contains other range.lend ≡ true → (contains other range.head ≡ true → ⊥) → range.lend ≡ other.lend
  leaves_back in_other out =
      let ends = inside other range.lend in_other in
      let before : range.head < other.head = before_by ends (nat_lt range.head other.head) refl in
      let over : overlaps range other ≡ true = over_by (omega (arith, ends.1)) ends.0 in
      by_case ends before (nested over)
    where
      before_by : (other.head ≤ range.lend) × (range.lend ≤ other.lend) → (p : Bool) → nat_lt range.head other.head ≡ p → range.head < other.head
      before_by ends true e = grind (arith, nat_tests)
      before_by ends false e =
          let low : other.head ≤ range.head = grind (arith, nat_tests) in absurd (omega (arith, ends.1, outside other range.head out low))

      over_by : range.head ≤ other.lend → other.head ≤ range.lend → overlaps range other ≡ true
      over_by low high = grind (arith, nat_tests)

      by_case : (other.head ≤ range.lend) × (range.lend ≤ other.lend) → range.head < other.head → (lies_within range other ≡ true) ⊎ (lies_within other range ≡ true) → range.lend ≡ other.lend
      by_case ends before (inl within) = let low : other.head ≤ range.head = grind (arith, nat_tests) in absurd (omega arith)
      by_case ends before (inr within) = let high : other.lend ≤ range.lend = grind (arith, nat_tests) in omega (arith, ends.1)

-- what an edge is: to the next instruction, a jump, or back to the head of the loop that ends there
pub record IsOn (cuts : List Cut) (at : ℕ) (cut : Cut) (to : ℕ) : Type 0 where
  pub next : at + length cut.bytes ≡ to
  pub starts : is_start cuts to ≡ true

pub record IsJump (nest : List LoopRange) (cuts : List Cut) (at next to : ℕ) : Type 0 where
  pub starts : is_start cuts to ≡ true
  pub forward : next ≤ to
  pub keeps : breaks_the_nest nest at (Some to) ≡ false

pub record IsBack (nest : List LoopRange) (at to : ℕ) : Type 0 where
  pub range : LoopRange
  pub in_nest : Contains nest range
  pub lend : range.lend ≡ at
  pub head : range.head ≡ to

from_if : (b : Bool) (o : Option ℕ) (to : ℕ) → (if b then o else None) ≡ Some to → (b ≡ true) × (o ≡ Some to)
from_if true o to is = (refl, is)
from_if false o to is = absurd cc

goes_on : (code : List ℕ) (next : ℕ) (instr : Instr) → runs_off code next instr ≡ false → (has_edge instr Next || has_edge instr Out) ≡ true → next ≢ length code
goes_on code next instr is has = by_test (has_edge instr Next || has_edge instr Out) has (nat_eq next (length code)) refl is
  where
    by_test : (p : Bool) → p ≡ true → (q : Bool) → nat_eq next (length code) ≡ q → (p && q) ≡ false → next ≢ length code
    by_test true e true e' is = absurd cc
    by_test true e false e' is = λ same. grind (arith, nat_tests)
    by_test false e q e' is = absurd cc

from_jump : (next to : ℕ) (o : Option ℤ) → option_and_then (jump_target next) o ≡ Some to → (n : ℤ) × (o ≡ Some n) × (jump_target next n ≡ Some to)
from_jump next to None is = absurd cc
from_jump next to (Some n) is = (n, refl, is)

-- the loop that ends at an address, and its head
module _ (nest : List LoopRange) (at : ℕ) where
  pub record Ends (l : ℕ) : Type 0 where
    pub range : LoopRange
    pub there : slice_get nest l ≡ Some range
    pub lend : range.lend ≡ at

  pub ends_here : (l : ℕ) → number_ended_at nest at ≡ Some l → Ends l
  ends_here l is =
      let none : LoopRange = record { head = 0; lend = 0 } in
      let found = position-Some (λ range. range.lend == at) nest l none is in
      record { range = get_or nest l none; there = slice_get-get_or nest l none found.0; lend = (Decides-eqb (get_or nest l none).lend at).0 found.1 }

  from_back : (to : ℕ) (o : Option ℕ) → number_ended_at nest at ≡ o → option_and_then (head_of nest) o ≡ Some to → IsBack nest at to
  from_back to None is goes = absurd cc
  from_back to (Some l) is goes =
      let ends = ends_here l is in
      let head : option_map (λ (r : LoopRange). r.head) (Some ends.range) ≡ Some to = ap (option_map (λ r. r.head)) (sym ends.there) ∙ goes in
      record { range = ends.range; in_nest = (l, slice_get_within nest l ends.range ends.there, get_or_from_slice_get nest l ends.range ends.range ends.there); lend = ends.lend; head = cc }

  named_some : (lend : Bool) (o : Option ℕ) → number_ended_at nest at ≡ o → lend ≡ true → (lend && is_none o) ≡ false → is_some (option_and_then (head_of nest) o) ≡ true
  named_some lend (Some l) e is_lend is = ap (λ o. is_some (option_map (λ (r : LoopRange). r.head) o)) (ends_here l e).there
  named_some true None e is_lend is = absurd cc
  named_some false None e is_lend is = absurd cc

-- a jump that does not go back
onward : (next to : ℕ) (n : ℤ) → goes_back n ≡ false → jump_target next n ≡ Some to → next ≤ to
onward next to (pos k) is goes = by_test (nat_lt (next + k) (2 ^ 64)) goes
  where
    by_test : (b : Bool) → (if b then Some (next + k) else None) ≡ Some to → next ≤ to
    by_test true e = let same : next + k ≡ to = cc in omega arith
    by_test false e = absurd cc
onward next to (negsuc k) is goes = absurd cc

or_left : (a b : Bool) → a ≡ true → (a || b) ≡ true
or_left true b is = refl
or_left false b is = absurd cc

or_right : (a b : Bool) → b ≡ true → (a || b) ≡ true
or_right true b is = refl
or_right false b is = is

-- which instructions have an edge taken or back
taken_jumps : (instr : Instr) → has_edge instr Taken ≡ true → is_some (jump_operand instr) ≡ true
taken_jumps (Jump n) has = refl
taken_jumps (Cj n) has = refl
taken_jumps instr has = has

back_is_lend : (instr : Instr) → has_edge instr Back ≡ true → is_lend instr ≡ true
back_is_lend Lend has = refl
back_is_lend instr has = has

some_is : {X : Type 0} (o : Option X) → is_some o ≡ true → (x : X) × (o ≡ Some x)
some_is None is = absurd cc
some_is (Some x) is = (x, refl)

not_outside : (code : List ℕ) (o : Option ℕ) → is_outside code o ≡ false → is_some o ≡ true
not_outside code None is = absurd cc
not_outside code (Some to) is = refl

module _ (image : ImageValue) (cuts : List Cut) (cutting : IsCutting image.code cuts) (is : first_flow_fault image cuts ≡ None) where
  on_way : (at : ℕ) (cut : Cut) (to : ℕ) → cut_at cuts at ≡ Some cut → (has_edge cut.instr Next || has_edge cut.instr Out) ≡ true → Some (at + length cut.bytes) ≡ Some to → IsOn cuts at cut to
  on_way at cut to stands has same =
      let next : at + length cut.bytes ≡ to = cc in
      let passes = instruction_passes image cuts is at cut stands in
      let more = goes_on image.code (at + length cut.bytes) cut.instr passes.goes_on has in
      let starts = start_behind cuts at cut stands (λ e. more (e ∙ ap length cutting.joined)) in
      record { next = next; starts = ap (is_start cuts) (sym next) ∙ starts }

  jump_way : (at : ℕ) (cut : Cut) (to : ℕ) → cut_at cuts at ≡ Some cut →
      option_and_then (jump_target (at + length cut.bytes)) (jump_operand cut.instr) ≡ Some to →
      IsJump (ranges image.loops) cuts at (at + length cut.bytes) to
  jump_way at cut to stands goes =
      let next = at + length cut.bytes in
      let jump = from_jump next to (jump_operand cut.instr) goes in
      let passes = (instruction_passes image cuts is at cut stands).jumps jump.0 jump.1 in
      let two = unbroken (rule (is_outside image.code (jump_target next jump.0)) J2)
      (rule (goes_back jump.0) J3 ∷ rule (is_no_start cuts (jump_target next jump.0)) J1 ∷ rule
      (breaks_the_nest (ranges image.loops) at (jump_target next jump.0)) J4 ∷ []) passes in
      let three = unbroken (rule (goes_back jump.0) J3) (rule (is_no_start cuts (jump_target next jump.0)) J1 ∷ rule
      (breaks_the_nest (ranges image.loops) at (jump_target next jump.0)) J4 ∷ []) two.1 in
      let one = unbroken (rule (is_no_start cuts (jump_target next jump.0)) J1) (rule (breaks_the_nest (ranges image.loops) at (jump_target next jump.0)) J4 ∷ []) three.1 in
      let four = unbroken (rule (breaks_the_nest (ranges image.loops) at (jump_target next jump.0)) J4) [] one.1 in
      record {
        starts = not_false (is_start cuts to) (ap (is_no_start cuts) (sym jump.2) ∙ one.0);
        forward = onward next to jump.0 three.0 jump.2;
        keeps = ap (breaks_the_nest (ranges image.loops) at) (sym jump.2) ∙ four.0;
      }

  back_way : (at to : ℕ) → option_and_then (head_of (ranges image.loops)) (number_ended_at (ranges image.loops) at) ≡ Some to → IsBack (ranges image.loops) at to
  back_way at to goes = from_back (ranges image.loops) at to (number_ended_at (ranges image.loops) at) refl goes

  way : (at : ℕ) (cut : Cut) (to : ℕ) (edge : Edge) → cut_at cuts at ≡ Some cut →
      target (ranges image.loops) at (at + length cut.bytes) cut.instr edge ≡ Some to →
      IsOn cuts at cut to ⊎ (IsJump (ranges image.loops) cuts at (at + length cut.bytes) to ⊎ IsBack (ranges image.loops)
      at to)
  way at cut to Next stands goes =
      let has = from_if (has_edge cut.instr Next) (Some (at + length cut.bytes)) to goes in inl (on_way at cut to stands (or_left _ _ has.0) has.1)
  way at cut to Out stands goes =
      let has = from_if (has_edge cut.instr Out) (Some (at + length cut.bytes)) to goes in inl (on_way at cut to stands (or_right (has_edge cut.instr Next) _ has.0) has.1)
  way at cut to Taken stands goes =
      let has = from_if (has_edge cut.instr Taken) (option_and_then (jump_target (at + length cut.bytes)) (jump_operand cut.instr)) to goes in inr (inl (jump_way at cut to stands has.1))
  way at cut to Back stands goes =
      let has = from_if (has_edge cut.instr Back) (option_and_then (head_of (ranges image.loops)) (number_ended_at (ranges image.loops) at)) to goes in inr (inr (back_way at to has.1))

  loop_in : (range : LoopRange) → Contains (ranges image.loops) range → IsBody cuts range
  loop_in range (k, k_in, at_k) = (good_at image cuts is k range k_in at_k).0

  starts_of : (at : ℕ) (cut : Cut) (to : ℕ) → IsOn cuts at cut to ⊎ (IsJump (ranges image.loops) cuts at (at + length cut.bytes) to ⊎ IsBack (ranges image.loops) at to) → is_start cuts to ≡ true
  starts_of at cut to (inl on) = on.starts
  starts_of at cut to (inr (inl jump)) = jump.starts
  starts_of at cut to (inr (inr back)) =
      ap (is_start cuts) (sym back.head) ∙ (loop_in back.range back.in_nest).head

  enters_of : (at : ℕ) (cut : Cut) (to : ℕ) (range : LoopRange) → cut_at cuts at ≡ Some cut → Contains (ranges image.loops) range → (contains range at ≡ true → ⊥) → contains range to ≡ true
      → IsOn cuts at cut to ⊎ (IsJump (ranges image.loops) cuts at (at + length cut.bytes) to ⊎ IsBack (ranges image.loops) at to) → to ≡ range.head
  enters_of at cut to range stands in_nest out in_range (inl on) =
      sym on.next ∙ enters_next cuts at cut range stands (loop_in range in_nest) out (ap (contains range) on.next ∙ in_range)
  enters_of at cut to range stands in_nest out in_range (inr (inl jump)) =
      enters_jump at to range (keeps (ranges image.loops) at to range jump.keeps in_nest).1 out in_range
  enters_of at cut to range stands in_nest out in_range (inr (inr back)) =
      let loop = loop_in back.range back.in_nest in
      sym back.head
      ∙ enters_back back.range range loop.body (loops_nested image cuts is back.range range back.in_nest in_nest)
      (λ e. out (ap (contains range) (sym back.lend) ∙ e)) (ap (contains range) back.head ∙ in_range)

  leaves_of : (at : ℕ) (cut : Cut) (to : ℕ) (range : LoopRange) → cut_at cuts at ≡ Some cut → Contains (ranges image.loops) range → contains range at ≡ true → (contains range to ≡ true → ⊥)
      → IsOn cuts at cut to ⊎ (IsJump (ranges image.loops) cuts at (at + length cut.bytes) to ⊎ IsBack (ranges image.loops) at to) → at ≡ range.lend
  leaves_of at cut to range stands in_nest in_range out (inl on) =
      leaves_next cuts at cut range stands (loop_in range in_nest) in_range (λ e. out (ap (contains range) (sym on.next) ∙ e))
  leaves_of at cut to range stands in_nest in_range out (inr (inl jump)) =
      absurd (leaves_jump at to range (keeps (ranges image.loops) at to range jump.keeps in_nest).0 in_range out)
  leaves_of at cut to range stands in_nest in_range out (inr (inr back)) =
      let loop = loop_in back.range back.in_nest in
      sym back.lend
      ∙ leaves_back back.range range loop.body (loops_nested image cuts is back.range range back.in_nest in_nest)
      (ap (contains range) back.lend ∙ in_range) (λ e. out (ap (contains range) (sym back.head) ∙ e))

  forward_of : (at to : ℕ) (edge : Edge) (e : IsEdge (ranges image.loops) cuts at edge to) → edge ≢ Back → at + length e.cut.bytes ≤ to
  forward_of at to Next e other =
      let goes = from_if (has_edge e.cut.instr Next) (Some (at + length e.cut.bytes)) to e.goes in let same : at + length e.cut.bytes ≡ to = cc in omega arith
  forward_of at to Out e other =
      let goes = from_if (has_edge e.cut.instr Out) (Some (at + length e.cut.bytes)) to e.goes in let same : at + length e.cut.bytes ≡ to = cc in omega arith
  forward_of at to Back e other = absurd (other refl)
  forward_of at to Taken e other =
      let goes = from_if (has_edge e.cut.instr Taken) (option_and_then (jump_target (at + length e.cut.bytes)) (jump_operand e.cut.instr)) to e.goes in
      (jump_way at e.cut to e.stands goes.1).forward

  target_of : (at : ℕ) (cut : Cut) (edge : Edge) → cut_at cuts at ≡ Some cut → has_edge cut.instr edge ≡ true → is_some (goes_to (ranges image.loops) at (at + length cut.bytes) cut.instr edge) ≡ true
  target_of at cut Next stands has = refl
  target_of at cut Out stands has = refl
  target_of at cut Taken stands has =
      let next = at + length cut.bytes in
      let jump = some_is (jump_operand cut.instr) (taken_jumps cut.instr has) in
      let passes = (instruction_passes image cuts is at cut stands).jumps jump.0 jump.1 in
      let two = unbroken (rule (is_outside image.code (jump_target next jump.0)) J2)
      (rule (goes_back jump.0) J3 ∷ rule (is_no_start cuts (jump_target next jump.0)) J1 ∷ rule
      (breaks_the_nest (ranges image.loops) at (jump_target next jump.0)) J4 ∷ []) passes in
      ap (λ o. is_some (option_and_then (jump_target next) o)) jump.1 ∙ not_outside image.code (jump_target next jump.0) two.0
  target_of at cut Back stands has =
      named_some (ranges image.loops) at (is_lend cut.instr) (number_ended_at (ranges image.loops) at) refl (back_is_lend cut.instr has) (instruction_passes image cuts is at cut stands).named

  pub nest_kept : KeepsNest image.loops image.workspace cuts
  nest_kept = record {
    good = all_good image cuts is;
    loops = all_loops image cuts is;
    heads = own_heads image cuts is;
    lends = own_lends image cuts is;
    nested = loops_nested image cuts is;
    shallow = loops_shallow image cuts is;
    begins = none_around_start image cuts is;
    spelled = each_some cuts cutting.each;
    targets = λ at cut edge stands has. targets_of at cut edge has (target_of at cut edge stands has);
    starts = λ at to edge e. starts_of at e.cut to (way at e.cut to edge e.stands e.goes);
    forward = forward_of;
    enters = λ at to edge range e in_nest out in_range. enters_of at e.cut to range e.stands in_nest out in_range (way at e.cut to edge e.stands e.goes);
    leaves = λ at to edge range e in_nest in_range out. leaves_of at e.cut to range e.stands in_nest in_range out (way at e.cut to edge e.stands e.goes);
  }
    where
      targets_of : (at : ℕ) (cut : Cut) (edge : Edge) → has_edge cut.instr edge ≡ true →
          is_some (goes_to (ranges image.loops) at (at + length cut.bytes) cut.instr edge) ≡ true →
          IsSome (target (ranges image.loops) at (at + length cut.bytes) cut.instr edge)
      targets_of at cut edge has some = rw has some
