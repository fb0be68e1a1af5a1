-- Where loops are a nest and edges keep to it, no rule of flow is broken.
use Rattle.std.proofs.Common.{◌≡◌, ◌≢◌, ℕ, zero, suc, ◌+◌, ◌-◌, ◌^◌, ◌<◌, ◌≤◌, Bool, true, false, ◌&&◌, ◌||◌, ◌==◌, not}
use Rattle.std.proofs.Common.{◌⊎◌, inl, inr, nat_le, nat_lt, nat_eq, cond, if◌then◌else◌, ℤ, pos, negsuc, ◌+ℤ◌, ◌≤ℤ◌}
use Rattle.std.proofs.Common.{int_lt, List, [], ◌∷◌, ◌++◌, length, take, drop, get_or, slice_get, Contains, Option}
use Rattle.std.proofs.Common.{Some, None, IsSome, refl, ap, sym, ◌∙◌, subst, arith, length-append}
use Rattle.std.specs.List.{find, filter_map, enumerate_from, AllByRecursion, cons_option}
use Rattle.std.specs.Option.{option_map, option_and_then, is_some, is_none}
use Rattle.std.proofs.Math.ListN.{get_or-map}
use Rattle.std.proofs.lemmas.Int.{ints}
use Rattle.std.proofs.lemmas.Bool.Decides.{nat_tests}
use Rattle.std.proofs.lemmas.List.{get_or_default, length-map, get_or-take, length-take}
use Rattle.std.proofs.lemmas.List.Folds.{list_any_none}
use Rattle.std.proofs.lemmas.List.FromFn.{length-enumerate_from, get_or-enumerate_from}
use Rattle.std.proofs.lemmas.Option.{same_Some, slice_get-get_or}
use Rattle.tp_image.specs.declared.image.LoopRow.{LoopRow}
use Rattle.tp_image.specs.Image.{ImageValue}
use Rattle.tp_decode.specs.declared.instr.Instr.{Instr}
use Rattle.tp_decode.specs.declared.instr.Instr.TheVariants.{Jump, Cj, Lend}
use Rattle.tp_decode.specs.declared.placed.Placed.{Placed}
use Rattle.tp_decode.specs.Cutting.{Cut, IsCutting, code_of, placed_from, cut_at}
use Rattle.tp_decode.proofs.NumberLemmas.{placed}
use Rattle.tp_flow.specs.declared.edge.Edge.{Edge}
use Rattle.tp_flow.specs.declared.edge.Edge.TheVariants.{Next, Taken, Back, Out}
use Rattle.tp_flow.specs.declared.fault.FlowCode.TheVariants.{J1, J2, J3, J4, J5, J7}
use Rattle.tp_flow.specs.declared.range.LoopRange.{LoopRange}
use Rattle.tp_flow.specs.NestRanges.{range_of, ranges, contains, overlaps, lies_within, crosses, shares_an_end, number_ended_at, head_of}
use Rattle.tp_flow.specs.Edges.{has_edge, address, jump_operand, jump_target, goes_to, target}
use Rattle.tp_flow.specs.RowRules.{is_start, is_lend, last_index, is_bad_alone, is_bad_row, crosses_earlier, shares_with_earlier, lies_too_deep}
use Rattle.tp_flow.specs.JumpRules.{Rule, rule, first_broken, is_orphan_lend, is_outside, goes_back, is_no_start, leaves}
use Rattle.tp_flow.specs.JumpRules.{enters_inside, breaks_the_nest, runs_off, jump_rules, rules_on_jump, broken_rule}
use Rattle.tp_flow.specs.FlowFaults.{bad_row, fault_of, instruction_faults, first_flow_fault}
use Rattle.tp_flow.specs.NestKept.{IsGood, IsLoop, IsEdge, KeepsNest}
use Rattle.tp_flow.proofs.FlowNest.{body_of}
use Rattle.tp_flow.proofs.FlowFirst.{no_fault}
use Rattle.tp_flow.proofs.FlowDepth.{count_implied, count_all, all_by_place, within_itself}
use Rattle.tp_flow.proofs.LoopMoves.{is_lend_of, lend_stands}

-- ---- tests

neither : (a b : Bool) → a ≡ false → b ≡ false → (a || b) ≡ false
neither false false e f = refl
neither true b e f = cc
neither false true e f = cc

not_both : (a b : Bool) → (a ≡ true → b ≡ false) → (a && b) ≡ false
not_both true b h = h refl
not_both false b h = refl

not_of : (b : Bool) → b ≡ true → not b ≡ false
not_of b e = ap not e

contradict : {P : Type 0} (b : Bool) → b ≡ true → b ≡ false → P
contradict true e f = cc
contradict false e f = cc

-- ---- searches that find nothing

find_none_of : {X : Type 0} (p : X → Bool) (xs : List X) → ((k : ℕ) (d : X) → k < length xs → p (get_or xs k d) ≡ false) → find p xs ≡ None
find_none_of p [] each = refl
find_none_of {X} p (x ∷ xs) each = ap (λ b. cond b (Some x) (find p xs)) (each 0 x (omega arith)) ∙ find_none_of p xs (λ k d lt. each (suc k) d (omega arith))

given_none_of : {X Y : Type 0} (h : X → Option Y) (xs : List X) → ((k : ℕ) (d : X) → k < length xs → h (get_or xs k d) ≡ None) → filter_map h xs ≡ []
given_none_of h [] each = refl
given_none_of {X} {Y} h (x ∷ xs) each = ap (λ (o : Option Y). cons_option o (filter_map h xs)) (each 0 x (omega arith)) ∙ given_none_of h xs (λ k d lt. each (suc k) d (omega arith))

-- ---- places of instructions

-- an instruction starts within the code
start_within : (cuts : List Cut) (to : ℕ) → AllByRecursion (λ c. 0 < length c.bytes) cuts → is_start cuts to ≡ true → to < length (code_of cuts)
start_within [] to all is = absurd cc
start_within (c ∷ cuts) to all is = by_test (start_within cuts (to - length c.bytes) all.1) (nat_eq to 0) refl (nat_lt to (length c.bytes)) refl is
  where
    some : 0 < length c.bytes
    some = all.0

    by_test : (is_start cuts (to - length c.bytes) ≡ true → to - length c.bytes < length (code_of cuts)) → (p : Bool) →
        nat_eq to 0 ≡ p → (q : Bool) → nat_lt to (length c.bytes) ≡ q →
        is_some (if p then Some c else if q then None else cut_at cuts (to - length c.bytes)) ≡ true →
        to < length (c.bytes ++ code_of cuts)
    by_test go true e q f is = let none : to ≡ 0 = grind (arith, nat_tests) in omega (arith, some, length-append c.bytes (code_of cuts))
    by_test go false e true f is = absurd cc
    by_test go false e false f is =
        let past : length c.bytes ≤ to = grind (arith, nat_tests) in omega (arith, go is, length-append c.bytes (code_of cuts))

-- an instruction with its place stands there
record IsPlacedFrom (from : ℕ) (cuts : List Cut) (p : Placed) : Type 0 where
  cut : Cut
  least : from ≤ p.at
  stands : cut_at cuts (p.at - from) ≡ Some cut
  same : p ≡ placed p.at cut

placed_stands : (from : ℕ) (cuts : List Cut) (i : ℕ) (p : Placed) → AllByRecursion (λ c. 0 < length c.bytes) cuts → slice_get (placed_from from cuts) i ≡ Some p → IsPlacedFrom from cuts p
placed_stands from [] i p all is = absurd cc
placed_stands from (c ∷ cuts) zero p all is =
    let same : placed from c ≡ p = same_Some _ _ is in subst (IsPlacedFrom from (c ∷ cuts)) same record {
      cut = c;
      least = omega arith;
      stands = ap (cut_at (c ∷ cuts))
          (let none : from - from ≡ 0 = omega arith in none);
      same = refl;
    }
placed_stands from (c ∷ cuts) (suc i) p all is = later (placed_stands (from + length c.bytes) cuts i p all.1 is)
  where
    some : 0 < length c.bytes
    some = all.0

    later : IsPlacedFrom (from + length c.bytes) cuts p → IsPlacedFrom from (c ∷ cuts) p
    later s = record { cut = s.cut; least = omega (arith, s.least); stands = by_test (nat_eq (p.at - from) 0) refl (nat_lt (p.at - from) (length c.bytes)) refl; same = s.same }
      where
        by_test : (b : Bool) → nat_eq (p.at - from) 0 ≡ b → (q : Bool) → nat_lt (p.at - from) (length c.bytes) ≡ q →
            (if b then Some c else if q then None else cut_at cuts (p.at - from - length c.bytes)) ≡ Some s.cut
        by_test true e q f = let none : p.at - from ≡ 0 = grind (arith, nat_tests) in absurd (omega (arith, s.least, some))
        by_test false e true f = let low : p.at - from < length c.bytes = grind (arith, nat_tests) in absurd (omega (arith, s.least))
        by_test false e false f =
            let there : p.at - from - length c.bytes ≡ p.at - (from + length c.bytes) = omega (arith, s.least) in ap (cut_at cuts) there ∙ s.stands

-- ---- a row by itself

good_alone : (image : ImageValue) (cuts : List Cut) (row : LoopRow) → IsGood image.workspace row → IsLoop cuts row → is_bad_alone image cuts row ≡ false
good_alone image cuts row good loop =
    neither _ _ (neither _ _ (neither _ _ (neither _ _ (neither _ _ (neither _ _
    (neither _ _ (not_of _ loop.head) (not_of _ (body_of cuts row loop).lend))
    (later row.head loop.later)) (ends row.lend row.head loop.body)) (not_of _ loop.lend)) (within image.workspace (row.control + 1) good.block))
    (neither _ _ (least row.count good.turns_least) (most row.count good.turns_most))) (word (last_index row) good.ends)
  where
    later : (n : ℕ) → 0 < n → (n == 0) ≡ false
    later n h = grind (arith, nat_tests)

    ends : (m n : ℕ) → n < m → nat_le m n ≡ false
    ends m n h = grind (arith, nat_tests)

    within : (m n : ℕ) → n < m → nat_le m n ≡ false
    within m n h = grind (arith, nat_tests)

    least : (n : ℕ) → 1 ≤ n → nat_lt n 1 ≡ false
    least n h = grind (arith, nat_tests)

    most : (n : ℕ) → n ≤ 10000 → nat_lt 10000 n ≡ false
    most n h = grind (arith, nat_tests)

    word : (z : ℤ) → z ≤ℤ pos 2147483647 → int_lt (pos 2147483647) z ≡ false
    word z h = grind (arith, ints, nat_tests)

-- ---- a row among others

crosses_not : (range other : LoopRange) → (overlaps range other ≡ true → (lies_within range other ≡ true) ⊎ (lies_within other range ≡ true)) → crosses range other ≡ false
crosses_not range other nested = not_both (overlaps range other) _ (λ over. either (lies_within range other) (lies_within other range) (nested over))
  where
    either : (a b : Bool) → (a ≡ true) ⊎ (b ≡ true) → not (a || b) ≡ false
    either true b e = refl
    either false true e = refl
    either false false (inl e) = cc
    either false false (inr e) = cc

differs : (range other : LoopRange) → other.head ≢ range.head → other.lend ≢ range.lend → shares_an_end range other ≡ false
differs range other heads lends = neither _ _ (unlike range.head other.head (λ e. heads (sym e))) (unlike range.lend other.lend (λ e. lends (sym e)))
  where
    unlike : (m n : ℕ) → m ≢ n → (m == n) ≡ false
    unlike m n h = grind (arith, nat_tests)

around_head : (range other : LoopRange) → range.head < range.lend → lies_within range other ≡ true → contains other range.head ≡ true
around_head range other body within = grind (arith, nat_tests)

few : (n : ℕ) → n < 4 → nat_le 4 n ≡ false
few n h = grind (arith, nat_tests)

module _ (image : ImageValue) (cuts : List Cut) (kept : KeepsNest image.loops image.workspace cuts) where
  contained : (k : ℕ) (d : LoopRange) → k < length (ranges image.loops) → Contains (ranges image.loops) (get_or (ranges image.loops) k d)
  contained k d lt = (k, lt, get_or_default (ranges image.loops) k (get_or (ranges image.loops) k d) d lt)

  crosses_none : (k : ℕ) (d : LoopRange) → k < length (ranges image.loops) → crosses_earlier (take k (ranges image.loops)) (get_or (ranges image.loops) k d) ≡ false
  crosses_none k d lt =
      list_any_none (λ other. crosses (get_or (ranges image.loops) k d) other) (take k (ranges image.loops)) λ j e before.
      let low : j < k = omega (arith, length-take k (ranges image.loops)) in
      ap (crosses (get_or (ranges image.loops) k d)) (get_or-take k (ranges image.loops) j e low)
      ∙ crosses_not (get_or (ranges image.loops) k d) (get_or (ranges image.loops) j e) (kept.nested _ _ (contained k d lt) (contained j e (omega arith)))

  shares_none : (k : ℕ) (d : LoopRow) → k < length image.loops → shares_with_earlier (take k (ranges image.loops)) (range_of (get_or image.loops k d)) ≡ false
  shares_none k d lt =
      list_any_none (λ other. shares_an_end (range_of (get_or image.loops k d)) other) (take k (ranges image.loops)) λ j e before.
      let low : j < k = omega (arith, length-take k (ranges image.loops)) in
      let within : j < length (ranges image.loops) = omega (arith, length-map image.loops range_of) in
      let there : get_or (take k (ranges image.loops)) j e ≡ range_of (get_or image.loops j d) =
      get_or-take k (ranges image.loops) j e low ∙ get_or_default (ranges image.loops) j e (range_of d) within ∙ get_or-map range_of image.loops j d
      in
      ap (shares_an_end (range_of (get_or image.loops k d))) there
      ∙ differs (range_of (get_or image.loops k d)) (range_of (get_or image.loops j d)) (kept.heads j k d low lt) (kept.lends j k d low lt)

  deep_not : (k : ℕ) (d : LoopRange) (range : LoopRange) → k < length (ranges image.loops) →
      get_or (ranges image.loops) k d ≡ range → range.head < range.lend →
      lies_too_deep (take k (ranges image.loops) ++ drop (k + 1) (ranges image.loops)) range ≡ false
  deep_not k d range lt there body =
      let nest = ranges image.loops in
      let all = count_all (λ other. lies_within range other) nest k d lt (ap (lies_within range) there ∙ within_itself range) in
      let around = count_implied (λ other. lies_within range other) (λ other. contains other range.head) nest
      (all_by_place _ nest (λ j e in_nest within. around_head range (get_or nest j e) body within)) in
      few _ (omega (arith, all, around, kept.shallow range.head))

  rows_pass : (k : ℕ) (d : LoopRow) → k < length image.loops → is_bad_row image cuts k (get_or image.loops k d) ≡ false
  rows_pass k d lt =
      let range : LoopRange = range_of (get_or image.loops k d) in
      let there : get_or (ranges image.loops) k (range_of d) ≡ range = get_or-map range_of image.loops k d in
      let within : k < length (ranges image.loops) = omega (arith, length-map image.loops range_of) in
      neither _ _ (good_alone image cuts (get_or image.loops k d) (kept.good k d lt) (kept.loops k d lt))
      (neither _ _ (neither _ _ (ap (crosses_earlier (take k (ranges image.loops))) (sym there) ∙
      crosses_none k (range_of d) within) (shares_none k d lt))
      (deep_not k (range_of d) range within there (kept.loops k d lt).body))

  no_bad_row : bad_row image cuts ≡ None
  no_bad_row =
      let test : ℕ × LoopRow → Bool = λ row. is_bad_row image cuts row.0 row.1 in
      ap (option_map (λ (row : ℕ × LoopRow). row.0)) (find_none_of test (enumerate_from 0 image.loops) λ k d lt.
      let within : k < length image.loops = omega (arith, length-enumerate_from 0 image.loops) in
      let there : get_or (enumerate_from 0 image.loops) k d ≡ (k, get_or image.loops k d.1) =
      get_or_default (enumerate_from 0 image.loops) k d (k, d.1) lt ∙ get_or-enumerate_from 0 image.loops k (k, d.1) within ∙ ap (λ n. (n, get_or image.loops k d.1)) (omega arith)
      in
      ap test there ∙ rows_pass k d.1 within)

-- ---- an instruction

jumps_have : (instr : Instr) (n : ℤ) → jump_operand instr ≡ Some n → has_edge instr Taken ≡ true
jumps_have (Jump m) n is = refl
jumps_have (Cj m) n is = refl
jumps_have instr n is = cc

no_lend_jumps : (instr : Instr) (n : ℤ) → jump_operand instr ≡ Some n → instr ≡ Lend → ⊥
no_lend_jumps Lend n is same = cc
no_lend_jumps instr n is same = cc

target_some : (o : Option ℕ) → IsSome o → (to : ℕ) × (o ≡ Some to)
target_some None has = absurd cc
target_some (Some to) has = (to, refl)

named_not : (f : ℕ → Option ℕ) (o : Option ℕ) → IsSome (option_and_then f o) → is_none o ≡ false
named_not f None has = absurd cc
named_not f (Some l) has = refl

onward : (next to : ℕ) (n : ℤ) → next ≤ to → jump_target next n ≡ Some to → goes_back n ≡ false
onward next to (pos k) le goes = grind (arith, ints, nat_tests)
onward next to (negsuc k) le goes = absurd (back (pos next +ℤ negsuc k) refl goes)
  where
    back : (z : ℤ) → z ≡ pos next +ℤ negsuc k → address z ≡ Some to → ⊥
    back (pos m) e is = by_test (nat_lt m (2 ^ 64)) is
      where
        by_test : (b : Bool) → (if b then Some m else None) ≡ Some to → ⊥
        by_test true is = let same : m ≡ to = cc in omega (arith, ints, e)
        by_test false is = cc
    back (negsuc m) e is = cc

below : (m n : ℕ) → m < n → nat_le n m ≡ false
below m n h = grind (arith, nat_tests)

unequal : (m n : ℕ) → m < n → (m == n) ≡ false
unequal m n h = grind (arith, nat_tests)

same_test : (m n : ℕ) → m ≡ n → (m == n) ≡ true
same_test m n h = grind (arith, nat_tests)

-- the rules in their order
none_broken : (a b : Bool) (rules : List Rule) → a ≡ false → first_broken rules ≡ None → b ≡ false → first_broken ((rule a J7 ∷ []) ++ rules ++ (rule b J5 ∷ [])) ≡ None
none_broken a b rules first between last = ap (λ x. if x then Some J7 else first_broken (rules ++ (rule b J5 ∷ []))) first ∙ through rules between
  where
    through : (rules : List Rule) → first_broken rules ≡ None → first_broken (rules ++ (rule b J5 ∷ [])) ≡ None
    through [] is = ap (λ x. if x then Some J5 else None) last
    through (r ∷ rules) is = by_test (through rules) r.is_broken is
      where
        by_test : (first_broken rules ≡ None → first_broken (rules ++ (rule b J5 ∷ [])) ≡ None) → (x : Bool) →
            (if x then Some r.code else first_broken rules) ≡ None →
            (if x then Some r.code else first_broken (rules ++ (rule b J5 ∷ []))) ≡ None
        by_test go true is = cc
        by_test go false is = go is

module _ (image : ImageValue) (cuts : List Cut) (cutting : IsCutting image.code cuts)
    (kept : KeepsNest image.loops image.workspace cuts) (at : ℕ) (cut : Cut) (stands : cut_at cuts at ≡ Some cut) where
  within_code : (to : ℕ) → is_start cuts to ≡ true → to < length image.code
  within_code to starts = omega (arith, start_within cuts to kept.spelled starts, ap length cutting.joined)

  next_within : (edge : Edge) → target (ranges image.loops) at (at + length cut.bytes) cut.instr edge ≡ Some (at + length cut.bytes) → (at + length cut.bytes == length image.code) ≡ false
  next_within edge goes =
      unequal _ _ (within_code (at + length cut.bytes) (kept.starts at (at + length cut.bytes) edge record { cut = cut; stands = stands; goes = goes }))

  unnamed_not : is_orphan_lend (ranges image.loops) at cut.instr ≡ false
  unnamed_not = not_both (is_lend cut.instr) _ λ lend.
      let same = is_lend_of cut.instr lend in
      let P : Instr → Type 0 = λ i. is_lend i ≡ true → IsSome (target (ranges image.loops) at (at + length cut.bytes) i Back) in
      let has : has_edge cut.instr Back ≡ true = ap (λ i. has_edge i Back) same in
      named_not (head_of (ranges image.loops)) (number_ended_at (ranges image.loops) at)
      (subst (λ i. IsSome (target (ranges image.loops) at (at + length cut.bytes) i Back)) same
      (kept.targets at cut Back stands has))

  off_not : runs_off image.code (at + length cut.bytes) cut.instr ≡ false
  off_not = not_both (has_edge cut.instr Next || has_edge cut.instr Out) _ λ has. by_edge (has_edge cut.instr Next) refl (has_edge cut.instr Out) refl has
    where
      by_edge : (b : Bool) → has_edge cut.instr Next ≡ b → (c : Bool) → has_edge cut.instr Out ≡ c → (b || c) ≡ true → (at + length cut.bytes == length image.code) ≡ false
      by_edge true e c f has = next_within Next (ap (λ b. if b then Some (at + length cut.bytes) else None) e)
      by_edge false e true f has = next_within Out (ap (λ b. if b then Some (at + length cut.bytes) else None) f)
      by_edge false e false f has = cc

  module _ (n : ℤ) (operand : jump_operand cut.instr ≡ Some n) where
    has : has_edge cut.instr Taken ≡ true
    has = jumps_have cut.instr n operand

    some : (to : ℕ) × (target (ranges image.loops) at (at + length cut.bytes) cut.instr Taken ≡ Some to)
    some = target_some (target (ranges image.loops) at (at + length cut.bytes) cut.instr Taken) (kept.targets at cut Taken stands has)

    to_there : (to : ℕ) → target (ranges image.loops) at (at + length cut.bytes) cut.instr Taken ≡ Some to → jump_target (at + length cut.bytes) n ≡ Some to
    to_there to goes =
        sym (ap (λ b. if b then goes_to (ranges image.loops) at (at + length cut.bytes) cut.instr Taken else None) has ∙ ap (option_and_then (jump_target (at + length cut.bytes))) operand) ∙ goes

    keeps_loops : (to : ℕ) → IsEdge (ranges image.loops) cuts at Taken to → breaks_the_nest (ranges image.loops) at (Some to) ≡ false
    keeps_loops to e =
        list_any_none (λ range. leaves at to range || enters_inside at to range) (ranges image.loops) λ k d lt.
        let range = get_or (ranges image.loops) k d in
        let in_nest : Contains (ranges image.loops) range = (k, lt, get_or_default (ranges image.loops) k range d lt) in
        neither _ _ (left_not range in_nest (contains range at) refl (contains range to) refl) (entered_not range in_nest (contains range at) refl (contains range to) refl)
      where
        left_not : (range : LoopRange) → Contains (ranges image.loops) range → (a : Bool) → contains range at ≡ a → (t : Bool) → contains range to ≡ t → (a && not t) ≡ false
        left_not range in_nest false e1 t e2 = refl
        left_not range in_nest true e1 true e2 = refl
        left_not range in_nest true e1 false e2 =
            let ends : at ≡ range.lend = kept.leaves at to Taken range e in_nest e1 (λ yes. contradict _ yes e2) in
            absurd (no_lend_jumps cut.instr n operand (lend_stands image.loops image.workspace cuts kept range cut in_nest (ap (cut_at cuts) (sym ends) ∙ stands)))

        entered_not : (range : LoopRange) → Contains (ranges image.loops) range → (a : Bool) → contains range at ≡ a →
            (t : Bool) → contains range to ≡ t → (not a && t && not (to == range.head)) ≡ false
        entered_not range in_nest true e1 t e2 = refl
        entered_not range in_nest false e1 false e2 = refl
        entered_not range in_nest false e1 true e2 =
            not_of (to == range.head) (same_test to range.head (kept.enters at to Taken range e in_nest (λ yes. contradict _ yes e1) e2))

    jump_passes : first_broken (jump_rules image cuts at (at + length cut.bytes) n) ≡ None
    jump_passes =
        let to = some.0 in
        let e : IsEdge (ranges image.loops) cuts at Taken to = record { cut = cut; stands = stands; goes = some.1 } in
        let there = to_there to some.1 in
        let starts = kept.starts at to Taken e in
        four_kept _ _ _ _ (ap (is_outside image.code) there ∙ below to (length image.code) (within_code to starts))
        (onward (at + length cut.bytes) to n (kept.forward at to Taken e (λ same. cc)) there)
        (ap (is_no_start cuts) there ∙ not_of (is_start cuts to) starts) (ap (breaks_the_nest (ranges image.loops) at) there ∙ keeps_loops to e)
      where
        four_kept : (a b c d : Bool) → a ≡ false → b ≡ false → c ≡ false → d ≡ false → first_broken (rule a J2 ∷ rule b J3 ∷ rule c J1 ∷ rule d J4 ∷ []) ≡ None
        four_kept a b c d e f g h = rw (e, f, g, h) refl

  instruction_kept : broken_rule image cuts (placed at cut) ≡ None
  instruction_kept = by_operand (jump_operand cut.instr) refl
    where
      by_operand : (o : Option ℤ) → jump_operand cut.instr ≡ o →
          first_broken ((rule (is_orphan_lend (ranges image.loops) at cut.instr) J7 ∷ []) ++
          rules_on_jump image cuts at (at + length cut.bytes) o ++
          (rule (runs_off image.code (at + length cut.bytes) cut.instr) J5 ∷ [])) ≡ None
      by_operand None is = none_broken _ _ [] unnamed_not refl off_not
      by_operand (Some n) is = none_broken _ _ (jump_rules image cuts at (at + length cut.bytes) n) unnamed_not (jump_passes n is) off_not

-- ---- all of them

module _ (image : ImageValue) (cuts : List Cut) (cutting : IsCutting image.code cuts) (kept : KeepsNest image.loops image.workspace cuts) where
  none_refused : slice_get (instruction_faults image cuts) 0 ≡ None
  none_refused = ap (λ xs. slice_get xs 0) (given_none_of (fault_of image cuts) (placed_from 0 cuts) λ k d lt.
      of_place (get_or (placed_from 0 cuts) k d) (placed_stands 0 cuts k (get_or (placed_from 0 cuts) k d) kept.spelled (slice_get-get_or (placed_from 0 cuts) k d lt)))
    where
      of_place : (p : Placed) → IsPlacedFrom 0 cuts p → fault_of image cuts p ≡ None
      of_place p s =
          let here : p.at ≡ p.at - 0 = omega arith in
          let fits = ap (cut_at cuts) here ∙ s.stands in
          ap (fault_of image cuts) s.same ∙ ap (option_map (λ code. record { code = code; place = p.at })) (instruction_kept image cuts cutting kept p.at s.cut fits)

  pub nest_passes : first_flow_fault image cuts ≡ None
  nest_passes = no_fault image cuts (no_bad_row image cuts kept) none_refused
