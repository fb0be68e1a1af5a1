-- The loops around the target of an edge.
use Rattle.std.proofs.Common.{◌≡◌, ◌≢◌, ℕ, ◌+◌, ◌<◌, ◌⊎◌, inl, inr, Bool, true, false, ◌&&◌, ◌||◌, not, ◌==◌, nat_lt}
use Rattle.std.proofs.Common.{if◌then◌else◌, List, length, get_or, slice_get, Contains, AllPairs, Option, Some, None}
use Rattle.std.proofs.Common.{refl, sym, ap, ◌∙◌, subst, arith}
use Rattle.std.specs.List.{position, position_or_len}
use Rattle.std.proofs.lemmas.Bool.{and_parts, and_from, or_right, and_right, cases_Bool, not-true, not_from_true, not_from_false, false_from_ne_true}
use Rattle.std.proofs.lemmas.Bool.Decides.{nat_tests, Decides-eqb}
use Rattle.std.proofs.lemmas.Option.{same_Some, slice_get_within, slice_get-get_or, get_or_from_slice_get}
use Rattle.std.proofs.lemmas.List.Quantifiers.{position-Some}
use Rattle.std.proofs.lemmas.List.Sums.{position_or_len_is}
use Rattle.tp_image.specs.declared.image.LoopRow.{LoopRow}
use Rattle.tp_decode.specs.Cutting.{Cut, cut_at}
use Rattle.tp_decode.specs.declared.instr.Instr.{Instr}
use Rattle.tp_decode.specs.declared.instr.Instr.TheVariants.{Lend}
use Rattle.tp_flow.specs.declared.edge.Edge.{Edge}
use Rattle.tp_flow.specs.declared.edge.Edge.TheVariants.{Next, Taken, Back, Out}
use Rattle.tp_flow.specs.declared.range.LoopRange.{LoopRange}
use Rattle.tp_flow.specs.NestRanges.{range_of, ranges, contains, number_ended_at}
use Rattle.tp_flow.specs.Edges.{has_edge, target}
use Rattle.tp_flow.specs.RowRules.{is_lend, is_lend_cut}
use Rattle.tp_flow.specs.NestKept.{IsLoop, IsEdge, KeepsNest}
use Rattle.tp_flow.specs.LoopsAround.{is_around, is_entered, entered_by, left_by, without, along_with, around_after}
use Rattle.tp_flow.specs.AroundKept.{KeepsAround}
use Rattle.tp_flow.proofs.FlowNest.{true_false, row_of, range_at, at_place}
use Rattle.tp_flow.proofs.FlowSpelled.{some_bytes}

-- ---- places in lists

-- what stands at the place that is found
pub found_passes : {X : Type 0} (p : X → Bool) (xs : List X) (l : ℕ) (x : X) → slice_get xs l ≡ Some x → position p xs ≡ Some l → p x ≡ true
found_passes p xs l x is e = ap p (sym (get_or_from_slice_get xs l x x is)) ∙ (position-Some p xs l x e).1

-- the one that passes is found
only_one : {X : Type 0} (p : X → Bool) (xs : List X) (l : ℕ) (x : X) → slice_get xs l ≡ Some x → p x ≡ true → ((k : ℕ) (y : X) → slice_get xs k ≡ Some y → p y ≡ true → k ≡ l) → position p xs ≡ Some l
only_one p xs l x is passes unique =
    let lt = slice_get_within xs l x is in
    let here = ap p (get_or_from_slice_get xs l x x is) ∙ passes in
    let place : position_or_len p xs ≡ l = position_or_len_is p xs l x (omega arith) (λ k before. false_from_ne_true (p (get_or xs k x)) (λ t. no_earlier k before t)) (λ _. here) in
    let test : nat_lt l (length xs) ≡ true = grind (arith, nat_tests) in
    rw (place, test) refl
  where
    no_earlier : (k : ℕ) → k < l → p (get_or xs k x) ≡ true → ⊥
    no_earlier k before t =
        let lt = slice_get_within xs l x is in
        let e = unique k (get_or xs k x) (slice_get-get_or xs k x (omega arith)) t in omega arith

-- ---- membership after an edge

not_entered : (entered : Option ℕ) (around : ℕ → Bool) (l : ℕ) → (entered ≡ Some l → ⊥) → along_with entered around l ≡ around l
not_entered None around l differ = refl
not_entered (Some k) around l differ =
    let other : (l == k) ≡ false = false_from_ne_true (l == k) (λ e. differ (ap Some (sym ((Decides-eqb l k).0 e)))) in
    by_case (around l) (l == k) other
  where
    by_case : (a b : Bool) → b ≡ false → (a || b) ≡ a
    by_case true b e = refl
    by_case false b e = e

not_left : (left : Option ℕ) (around : ℕ → Bool) (l : ℕ) → (left ≡ Some l → ⊥) → without left around l ≡ around l
not_left None around l differ = refl
not_left (Some k) around l differ =
    let other : (l == k) ≡ false = false_from_ne_true (l == k) (λ e. differ (ap Some (sym ((Decides-eqb l k).0 e)))) in
    by_case (around l) (l == k) other
  where
    by_case : (a b : Bool) → b ≡ false → (a && not b) ≡ a
    by_case true b e = not_from_false b e
    by_case false b e = refl

now_entered : (entered : Option ℕ) (around : ℕ → Bool) (l : ℕ) → entered ≡ Some l → along_with entered around l ≡ true
now_entered entered around l e = rw e (or_right (around l) (l == l) ((Decides-eqb l l).1 refl))

now_left : (left : Option ℕ) (around : ℕ → Bool) (l : ℕ) → left ≡ Some l → without left around l ≡ false
now_left left around l e = rw e (and_right (around l) (not (l == l)) (not_from_true (l == l) ((Decides-eqb l l).1 refl)))

some_if : (b : Bool) (o : Option ℕ) (to : ℕ) → (if b then o else None) ≡ Some to → (b ≡ true) × (o ≡ Some to)
some_if true o to e = (refl, e)
some_if false o to e = cc

-- ---- the loops of a nest, by their numbers

head_in : (r : LoopRange) (x : ℕ) → r.head < r.lend → r.head ≡ x → contains r x ≡ true
head_in r x body head = grind (arith, nat_tests)

lend_in : (r : LoopRange) (x : ℕ) → r.head < r.lend → r.lend ≡ x → contains r x ≡ true
lend_in r x body lend = grind (arith, nat_tests)

past : (r : LoopRange) (a n x : ℕ) → r.lend ≡ a → 0 < n → a + n ≡ x → contains r x ≡ false
past r a n x here some there = grind (arith, nat_tests)

-- those that differ pairwise in something that two of them share are one
pub one_of : {X : Type 0} (f : X → ℕ) (xs : List X) (l k : ℕ) (x y : X) → AllPairs (λ a b. f a ≢ f b) xs → slice_get xs l ≡ Some x → slice_get xs k ≡ Some y → f x ≡ f y → l ≡ k
one_of f xs l k x y differ at_l at_k same = by_order (nat_lt l k) refl (nat_lt k l) refl
  where
    clash : (i j : ℕ) → i < j → j < length xs → f (get_or xs i x) ≡ f (get_or xs j x) → ⊥
    clash i j lt within e = differ i j x lt within e

    here : f (get_or xs l x) ≡ f (get_or xs k x)
    here = ap f (get_or_from_slice_get xs l x x at_l) ∙ same ∙ ap f (sym (get_or_from_slice_get xs k y x at_k))

    by_order : (p : Bool) → nat_lt l k ≡ p → (q : Bool) → nat_lt k l ≡ q → l ≡ k
    by_order true e q f' = absurd (clash l k (grind (arith, nat_tests)) (slice_get_within xs k y at_k) here)
    by_order false e true f' = absurd (clash k l (grind (arith, nat_tests)) (slice_get_within xs l x at_l) (sym here))
    by_order false e false f' = grind (arith, nat_tests)

pub is_lend_of : (i : Instr) → is_lend i ≡ true → i ≡ Lend
is_lend_of Lend e = refl
is_lend_of i e = cc

module _ (rows : List LoopRow) (workspace : ℕ) (cuts : List Cut) (kept : KeepsNest rows workspace cuts) where
  abbrev nest : List LoopRange
  nest = ranges rows

  -- the row of a loop
  loop : (l : ℕ) (range : LoopRange) → slice_get nest l ≡ Some range → (row : LoopRow) × (slice_get rows l ≡ Some row) × (range_of row ≡ range) × IsLoop cuts row
  loop l range is = let row = row_of rows l range is in (row.0, row.1, row.2, at_place (IsLoop cuts) rows l row.0 kept.loops row.1)

  body : (l : ℕ) (range : LoopRange) → slice_get nest l ≡ Some range → range.head < range.lend
  body l range is = let row = loop l range is in subst (λ r. r.head < r.lend) row.2 row.3.body

  lend_there : (l : ℕ) (range : LoopRange) (cut : Cut) → slice_get nest l ≡ Some range → cut_at cuts range.lend ≡ Some cut → cut.instr ≡ Lend
  lend_there l range cut is stands =
      let row = loop l range is in
      let there = ap (cut_at cuts) (ap (λ r. r.lend) row.2) ∙ stands in
      is_lend_of cut.instr (ap is_lend_cut (sym there) ∙ row.3.lend)

  -- the instruction at a loop's lend
  pub lend_stands : (range : LoopRange) (cut : Cut) → Contains (ranges rows) range → cut_at cuts range.lend ≡ Some cut → cut.instr ≡ Lend
  lend_stands range cut (k, lt, at_k) stands = lend_there k range cut (slice_get-get_or (ranges rows) k range lt ∙ ap Some at_k) stands

  own_head : (l k : ℕ) (range other : LoopRange) → slice_get nest l ≡ Some range → slice_get nest k ≡ Some other → range.head ≡ other.head → l ≡ k
  own_head l k range other at_l at_k same =
      let row = loop l range at_l in
      let row' = loop k other at_k in
      one_of (λ r. r.head) rows l k row.0 row'.0 kept.heads row.1 row'.1 (ap (λ r. r.head) row.2 ∙ same ∙ sym (ap (λ r. r.head) row'.2))

  own_lend : (l k : ℕ) (range other : LoopRange) → slice_get nest l ≡ Some range → slice_get nest k ≡ Some other → range.lend ≡ other.lend → l ≡ k
  own_lend l k range other at_l at_k same =
      let row = loop l range at_l in
      let row' = loop k other at_k in
      one_of (λ r. r.lend) rows l k row.0 row'.0 kept.lends row.1 row'.1 (ap (λ r. r.lend) row.2 ∙ same ∙ sym (ap (λ r. r.lend) row'.2))

  module _ (at : ℕ) (cut : Cut) (stands : cut_at cuts at ≡ Some cut) where
    -- a loop that ends here
    lend_here : (l : ℕ) (range : LoopRange) → slice_get nest l ≡ Some range → range.lend ≡ at → number_ended_at nest at ≡ Some l
    lend_here l range is e =
        only_one (λ r. r.lend == at) nest l range is ((Decides-eqb range.lend at).1 e)
        (λ k other its t. own_lend k l other range its is ((Decides-eqb other.lend at).0 t ∙ sym e))

    ends_here : (l : ℕ) (range : LoopRange) → slice_get nest l ≡ Some range → number_ended_at nest at ≡ Some l → (range.lend ≡ at) × (contains range at ≡ true)
    ends_here l range is e =
        let here = (Decides-eqb range.lend at).0 (found_passes (λ r. r.lend == at) nest l range is e) in
        (here, lend_in range at (body l range is) here)

    -- another turn begins at its head
    pub back_goes : (l : ℕ) (range : LoopRange) (next : ℕ) → slice_get nest l ≡ Some range → number_ended_at nest at ≡ Some l → target nest at next Lend Back ≡ Some range.head
    back_goes l range next is e = rw (e, is) refl

    pub ends_around : (l : ℕ) (range : LoopRange) → slice_get nest l ≡ Some range → number_ended_at nest at ≡ Some l → is_around nest at l ≡ true
    ends_around l range is e = rw is (ends_here l range is e).1

    module _ (e : Edge) (to : ℕ) (goes : target nest at (at + length cut.bytes) cut.instr e ≡ Some to) where
      the_edge : IsEdge nest cuts at e to
      the_edge = record { cut = cut; stands = stands; goes = goes }

      contained : (l : ℕ) (range : LoopRange) → slice_get nest l ≡ Some range → Contains nest range
      contained l range is = (l, slice_get_within nest l range is, get_or_from_slice_get nest l range range is)

      entered_is : (l : ℕ) (range : LoopRange) → slice_get nest l ≡ Some range → entered_by nest at to ≡ Some l → (contains range at ≡ false) × (contains range to ≡ true)
      entered_is l range is found =
          let parts = and_parts (range.head == to) (not (contains range at)) (found_passes (is_entered at to) nest l range is found) in
          let head = (Decides-eqb range.head to).0 parts.0 in
          (not-true (contains range at) parts.1, head_in range to (body l range is) head)

      enters : (l : ℕ) (range : LoopRange) → slice_get nest l ≡ Some range → contains range at ≡ false → contains range to ≡ true → entered_by nest at to ≡ Some l
      enters l range is out in_it =
          let head : to ≡ range.head = kept.enters at to e range the_edge (contained l range is) (λ t. true_false (sym t ∙ out)) in_it in
          only_one (is_entered at to) nest l range is
          (and_from (range.head == to) (not (contains range at)) ((Decides-eqb range.head to).1 (sym head)) (not_from_false (contains range at) out))
          (λ k other its t. own_head k l other range its is ((Decides-eqb other.head to).0 (and_parts (other.head == to) (not (contains other at)) t).0 ∙ head))

      left_is : (l : ℕ) (range : LoopRange) → slice_get nest l ≡ Some range → left_by nest at e ≡ Some l → (contains range at ≡ true) × (contains range to ≡ false)
      left_is l range is found = by_edge e goes found
        where
          by_edge : (d : Edge) → target nest at (at + length cut.bytes) cut.instr d ≡ Some to → left_by nest at d ≡ Some l → (contains range at ≡ true) × (contains range to ≡ false)
          by_edge Next goes found = cc
          by_edge Taken goes found = cc
          by_edge Back goes found = cc
          by_edge Out goes found =
              let here = ends_here l range is found in
              let there = same_Some _ _ (some_if (has_edge cut.instr Out) (Some (at + length cut.bytes)) to goes).1 in
              (here.1, past range at (length cut.bytes) to here.0 (some_bytes cuts at cut kept.spelled stands) there)

      leaves : (l : ℕ) (range : LoopRange) → slice_get nest l ≡ Some range → contains range at ≡ true → contains range to ≡ false → left_by nest at e ≡ Some l
      leaves l range is in_it out = by_edge e (subst (λ i. target nest at (at + length cut.bytes) i e ≡ Some to) lend goes)
        where
          ends : at ≡ range.lend
          ends = kept.leaves at to e range the_edge (contained l range is) in_it (λ t. true_false (sym t ∙ out))

          lend : cut.instr ≡ Lend
          lend = lend_there l range cut is (ap (cut_at cuts) (sym ends) ∙ stands)

          number : number_ended_at nest at ≡ Some l
          number = lend_here l range is (sym ends)

          by_edge : (d : Edge) → target nest at (at + length cut.bytes) Lend d ≡ Some to → left_by nest at d ≡ Some l
          by_edge Next goes = cc
          by_edge Taken goes = cc
          by_edge Out goes = number
          by_edge Back goes =
              let same : range.head ≡ to = same_Some _ _ (sym (back_goes l range (at + length cut.bytes) is number) ∙ goes) in
              true_false (sym (head_in range to (body l range is) same) ∙ out)

      moves_row : (l : ℕ) (range : LoopRange) → slice_get nest l ≡ Some range → is_around nest at l ≡ contains range at → contains range to ≡ around_after nest at e to l
      moves_row l range is here = by_case (cases_Bool (contains range at)) (cases_Bool (contains range to))
        where
          not_in : contains range at ≡ true → entered_by nest at to ≡ Some l → ⊥
          not_in t found = true_false (sym t ∙ (entered_is l range is found).0)

          by_case : (contains range at ≡ true) ⊎ (contains range at ≡ false) → (contains range to ≡ true) ⊎ (contains range to ≡ false) → contains range to ≡ around_after nest at e to l
          by_case (inl p) (inl q) =
              q ∙ sym (not_entered (entered_by nest at to) (without (left_by nest at e) (is_around nest at)) l (not_in p)
              ∙ not_left (left_by nest at e) (is_around nest at) l (λ found. true_false (sym q ∙ (left_is l range is found).1))
              ∙ here ∙ p)
          by_case (inl p) (inr q) =
              q ∙ sym (not_entered (entered_by nest at to) (without (left_by nest at e) (is_around nest at)) l (not_in p)
              ∙ now_left (left_by nest at e) (is_around nest at) l (leaves l range is p q))
          by_case (inr p) (inl q) = q ∙ sym (now_entered (entered_by nest at to) (without (left_by nest at e) (is_around nest at)) l (enters l range is p q))
          by_case (inr p) (inr q) =
              q ∙ sym (not_entered (entered_by nest at to) (without (left_by nest at e) (is_around nest at)) l (λ found. true_false (sym (entered_is l range is found).1 ∙ q))
              ∙ not_left (left_by nest at e) (is_around nest at) l (λ found. true_false (sym (left_is l range is found).0 ∙ p))
              ∙ here ∙ p)

      pub moves : (l : ℕ) → is_around nest to l ≡ around_after nest at e to l
      moves l = by_row (slice_get nest l) refl
        where
          -- where there is no such row
          none_found : (p : LoopRange → Bool) → slice_get nest l ≡ None → position p nest ≡ Some l → ⊥
          none_found p none found =
              let d : LoopRange = record { head = 0; lend = 0 } in
              none_some _ (sym none ∙ slice_get-get_or nest l d (position-Some p nest l d found).0)
            where
              none_some : (r : LoopRange) → None ≡ Some r → ⊥
              none_some r e = cc

          none_left : (d : Edge) → slice_get nest l ≡ None → left_by nest at d ≡ Some l → ⊥
          none_left Next none found = cc
          none_left Taken none found = cc
          none_left Back none found = cc
          none_left Out none found = none_found (λ r. r.lend == at) none found

          by_row : (o : Option LoopRange) → slice_get nest l ≡ o → is_around nest to l ≡ around_after nest at e to l
          by_row (Some range) is =
              let here : is_around nest at l ≡ contains range at = rw is refl in
              let there : is_around nest to l ≡ contains range to = rw is refl in
              there ∙ moves_row l range is here
          by_row None is =
              let here : is_around nest at l ≡ false = rw is refl in
              let there : is_around nest to l ≡ false = rw is refl in
              there ∙ sym (not_entered (entered_by nest at to) (without (left_by nest at e) (is_around nest at)) l (none_found (is_entered at to) is)
              ∙ not_left (left_by nest at e) (is_around nest at) l (none_left e is)
              ∙ here)

    -- what holds of the instruction that stands here
    pub keeps_around : KeepsAround rows workspace at (at + length cut.bytes) cut.instr
    keeps_around = record {
      good = kept.good;
      begins = kept.begins;
      targets = λ edge has. kept.targets at cut edge stands has;
      moves = moves;
      ends = λ l row number is. record {
        around = ends_around l (range_of row) (range_at rows l row is) number;
        back = back_goes l (range_of row) (at + length cut.bytes) (range_at rows l row is) number;
      };
    }
