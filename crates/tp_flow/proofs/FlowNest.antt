-- The rows of a code that breaks no rule of flow, and their ranges.
use Rattle.std.proofs.Common.{◌≡◌, ◌≢◌, ℕ, ◌+◌, ◌<◌, ◌≤◌, Bool, true, false, ◌&&◌, ◌||◌, ◌==◌, not, ◌⊎◌, nat_le, nat_lt}
use Rattle.std.proofs.Common.{nat_eq, ℤ, pos, int_lt, ◌≤ℤ◌, List, length, take, get_or, slice_get, All, Option, Some}
use Rattle.std.proofs.Common.{None, refl, ap, sym, ◌∙◌, inl, inr, arith, subst, drop, ◌++◌}
use Rattle.std.specs.Option.{option_map, is_some}
use Rattle.std.proofs.Math.ListN.{get_or-map}
use Rattle.std.proofs.lemmas.Int.{ints}
use Rattle.std.proofs.lemmas.List.{get_or_default, length-map, get_or-take, length-take}
use Rattle.std.proofs.lemmas.List.Folds.{list_any_at}
use Rattle.std.proofs.lemmas.Option.{same_Some, slice_get-map, slice_get_within, get_or_from_slice_get}
use Rattle.std.proofs.lemmas.Bool.{or_parts}
use Rattle.std.proofs.lemmas.Bool.Decides.{nat_tests}
use Rattle.tp_image.specs.declared.image.LoopRow.{LoopRow}
use Rattle.tp_image.specs.Image.{ImageValue}
use Rattle.tp_decode.specs.Cutting.{Cut}
use Rattle.tp_flow.specs.declared.range.LoopRange.{LoopRange}
use Rattle.tp_flow.specs.NestRanges.{range_of, ranges, contains, overlaps, lies_within, crosses, shares_an_end}
use Rattle.tp_flow.specs.RowRules.{is_start, is_lend_cut, last_index, is_bad_alone, is_bad_among, crosses_earlier}
use Rattle.tp_flow.specs.RowRules.{has_no_start, has_no_body, begins_the_code, has_no_lend, has_no_block, turns_badly}
use Rattle.tp_flow.specs.RowRules.{counts_too_far, shares_with_earlier, lies_too_deep}
use Rattle.tp_flow.specs.FlowFaults.{first_flow_fault}
use Rattle.tp_flow.specs.LoopsAround.{is_around, IsOutside}
use Rattle.tp_flow.specs.NestKept.{IsGood, IsLoop, IsNested, HasOwnHeads, HasOwnLends}
use Rattle.tp_flow.proofs.FlowPassed.{row_passes}

-- ---- a row by itself

pub not_false : (b : Bool) → not b ≡ false → b ≡ true
not_false true is = refl
not_false false is = absurd cc

-- a row that breaks no rule by itself
pub passes_alone : (image : ImageValue) (cuts : List Cut) (row : LoopRow) → is_bad_alone image cuts row ≡ false → IsGood image.workspace row × IsLoop cuts row
passes_alone image cuts row is =
    let six = or_parts _ (counts_too_far row) is in
    let five = or_parts _ (turns_badly row) six.0 in
    let four = or_parts _ (has_no_block image row) five.0 in
    let three = or_parts _ (has_no_lend cuts row) four.0 in
    let two = or_parts _ (has_no_body row) three.0 in
    let one = or_parts (has_no_start cuts row) (begins_the_code row) two.0 in
    let ends = or_parts (not (is_start cuts row.head)) (not (is_start cuts row.lend)) one.0 in
    let turns = or_parts (nat_lt row.count 1) (nat_lt 10000 row.count) five.1 in
    let first : nat_eq row.head 0 ≡ false = one.1 in
    let body : nat_le row.lend row.head ≡ false = two.1 in
    let block : nat_le image.workspace (row.control + 1) ≡ false = four.1 in (
      record { block = grind (arith, nat_tests); turns_least = at_least row.count turns.0; turns_most = at_most row.count turns.1; ends = a_word (last_index row) six.1 },
      record { later = grind (arith, nat_tests); body = grind (arith, nat_tests); head = not_false _ ends.0; lend = not_false _ three.1 },
    )
  where
    at_least : (n : ℕ) → nat_lt n 1 ≡ false → 1 ≤ n
    at_least n e = grind (arith, nat_tests)

    at_most : (n : ℕ) → nat_lt 10000 n ≡ false → n ≤ 10000
    at_most n e = grind (arith, nat_tests)

    a_word : (z : ℤ) → int_lt (pos 2147483647) z ≡ false → z ≤ℤ pos 2147483647
    a_word z e = grind (arith, ints, nat_tests)

-- the range of such a row
pub record IsBody (cuts : List Cut) (range : LoopRange) : Type 0 where
  pub head : is_start cuts range.head ≡ true
  pub lend : is_start cuts range.lend ≡ true
  pub body : range.head < range.lend

pub body_of : (cuts : List Cut) (row : LoopRow) → IsLoop cuts row → IsBody cuts (range_of row)
body_of cuts row loop = record { head = loop.head; lend = lend_starts _ loop.lend; body = loop.body }
  where
    lend_starts : (o : Option Cut) → is_lend_cut o ≡ true → is_some o ≡ true
    lend_starts None is = absurd cc
    lend_starts (Some cut) is = refl

-- ---- two ranges

-- ranges that do not cross
pub not_crossing : (range other : LoopRange) → crosses range other ≡ false → overlaps range other ≡ true → (lies_within range other ≡ true) ⊎ (lies_within other range ≡ true)
not_crossing range other apart over = by_test (overlaps range other) over (lies_within range other) refl (lies_within other range) refl apart
  where
    by_test : (o : Bool) → o ≡ true → (p : Bool) → lies_within range other ≡ p → (q : Bool) →
        lies_within other range ≡ q → (o && not (p || q)) ≡ false →
        (lies_within range other ≡ true) ⊎ (lies_within other range ≡ true)
    by_test o is true e q e' apart = inl e
    by_test o is false e true e' apart = inr e'
    by_test true is false e false e' apart = absurd cc
    by_test false is false e false e' apart = absurd cc

pub overlaps_comm : (range other : LoopRange) → overlaps range other ≡ true → overlaps other range ≡ true
overlaps_comm range other is = grind (arith, nat_tests)

-- ranges that share no end
apart : (range other : LoopRange) → shares_an_end range other ≡ false → (other.head ≢ range.head) × (other.lend ≢ range.lend)
apart range other is =
    let ends = or_parts (range.head == other.head) (range.lend == other.lend) is in
    let h : nat_eq range.head other.head ≡ false = ends.0 in
    let l : nat_eq range.lend other.lend ≡ false = ends.1 in
    (λ same. grind (arith, nat_tests), λ same. grind (arith, nat_tests))

-- what no range among some does, one of them does not
none_does : (does : LoopRange → Bool) (earlier : List LoopRange) (i : ℕ) (d : LoopRange) →
    ((k : ℕ) (d : LoopRange) → k < length earlier → does (get_or earlier k d) ≡ true → ⊥) → i < length earlier →
    does (get_or earlier i d) ≡ false
none_does does earlier i d none lt = by_test (does (get_or earlier i d)) refl
  where
    by_test : (b : Bool) → does (get_or earlier i d) ≡ b → b ≡ false
    by_test false e = refl
    by_test true e = absurd (none i d lt e)

pub true_false : {P : Type 0} → ◌≡◌ {A = Bool} true false → P
true_false e = cc

-- none of some ranges is crossed, and none shares an end
pub none_crossed : (range : LoopRange) (earlier : List LoopRange) (i : ℕ) (d : LoopRange) → crosses_earlier earlier range ≡ false → i < length earlier → crosses range (get_or earlier i d) ≡ false
none_crossed range earlier i d is lt =
    none_does (crosses range) earlier i d (λ k d within e. true_false (sym (list_any_at (λ other. crosses range other) earlier k d within e) ∙ is)) lt

none_shared : (range : LoopRange) (earlier : List LoopRange) (i : ℕ) (d : LoopRange) → shares_with_earlier earlier range ≡ false → i < length earlier → shares_an_end range (get_or earlier i d) ≡ false
none_shared range earlier i d is lt =
    none_does (shares_an_end range) earlier i d (λ k d within e. true_false (sym (list_any_at (λ other. shares_an_end range other) earlier k d within e) ∙ is)) lt

-- the rules on a range among others
pub record PassesAmong (nest : List LoopRange) (k : ℕ) (range : LoopRange) : Type 0 where
  pub crosses : crosses_earlier (take k nest) range ≡ false
  pub shares : shares_with_earlier (take k nest) range ≡ false
  pub depth : lies_too_deep (take k nest ++ drop (k + 1) nest) range ≡ false

passes_among : (nest : List LoopRange) (k : ℕ) (range : LoopRange) → is_bad_among nest k range ≡ false → PassesAmong nest k range
passes_among nest k range is =
    let two = or_parts (crosses_earlier (take k nest) range || shares_with_earlier (take k nest) range) (lies_too_deep (take k nest ++ drop (k + 1) nest) range) is in
    let one = or_parts (crosses_earlier (take k nest) range) (shares_with_earlier (take k nest) range) two.0 in
    record { crosses = one.0; shares = one.1; depth = two.1 }

within_itself : (range other : LoopRange) → range ≡ other → lies_within range other ≡ true
within_itself range other same = let P : LoopRange → Type 0 = λ r. lies_within range r ≡ true in subst P same (itself range)
  where
    itself : (r : LoopRange) → lies_within r r ≡ true
    itself r = grind (arith, nat_tests)

either : {A B : Type 0} → A ⊎ B → B ⊎ A
either (inl a) = inr a
either (inr b) = inl b

-- ---- rows by their numbers

pub row_of : (rows : List LoopRow) (l : ℕ) (range : LoopRange) → slice_get (ranges rows) l ≡ Some range → (row : LoopRow) × (slice_get rows l ≡ Some row) × (range_of row ≡ range)
row_of rows l range e = by_row (slice_get rows l) refl (sym (slice_get-map range_of rows l) ∙ e)
  where
    by_row : (o : Option LoopRow) → slice_get rows l ≡ o → option_map range_of o ≡ Some range → (row : LoopRow) × (slice_get rows l ≡ Some row) × (range_of row ≡ range)
    by_row None there e = cc
    by_row (Some row) there e = (row, there, same_Some _ _ e)

pub range_at : (rows : List LoopRow) (l : ℕ) (row : LoopRow) → slice_get rows l ≡ Some row → slice_get (ranges rows) l ≡ Some (range_of row)
range_at rows l row e = slice_get-map range_of rows l ∙ ap (option_map range_of) e

-- what holds of all holds of the one at a place
pub at_place : {X : Type 0} (P : X → Type 0) (xs : List X) (l : ℕ) (x : X) → All P xs → slice_get xs l ≡ Some x → P x
at_place P xs l x all e = subst P (get_or_from_slice_get xs l x x e) (all l x (slice_get_within xs l x e))

module _ (image : ImageValue) (cuts : List Cut) (is : first_flow_fault image cuts ≡ None) where
  -- row k breaks no rule
  passes : (k : ℕ) (d : LoopRow) → k < length image.loops → (is_bad_alone image cuts (get_or image.loops k d) ≡ false) ×
      (is_bad_among (ranges image.loops) k (range_of (get_or image.loops k d)) ≡ false)
  passes k d lt = or_parts (is_bad_alone image cuts (get_or image.loops k d)) (is_bad_among (ranges image.loops) k (range_of (get_or image.loops k d))) (row_passes image cuts is k d lt)

  pub all_good : All (IsGood image.workspace) image.loops
  all_good k d lt = (passes_alone image cuts (get_or image.loops k d) (passes k d lt).0).0

  pub all_loops : All (IsLoop cuts) image.loops
  all_loops k d lt = (passes_alone image cuts (get_or image.loops k d) (passes k d lt).0).1

  -- each range of the nest, by the row that it is of
  pub good_at : (k : ℕ) (range : LoopRange) → k < length (ranges image.loops) → get_or (ranges image.loops) k range ≡ range → IsBody cuts range × PassesAmong (ranges image.loops) k range
  good_at k range lt at =
      let row : LoopRow = record { head = range.head; lend = range.lend; control = 0; count = 0; start = pos 0 } in
      let there : range_of (get_or image.loops k row) ≡ range = sym (get_or-map range_of image.loops k row) ∙ at in
      let within : k < length image.loops = omega (arith, length-map image.loops range_of) in
      let P : LoopRange → Type 0 = λ r. IsBody cuts r × PassesAmong (ranges image.loops) k r in
      subst P there (body_of cuts (get_or image.loops k row) (all_loops k row within), passes_among (ranges image.loops) k (range_of (get_or image.loops k row)) (passes k row within).1)

  -- a later range does not cross an earlier one
  earlier_nested : (j k : ℕ) (range other : LoopRange) → j < k → k < length (ranges image.loops) →
      get_or (ranges image.loops) k range ≡ range → get_or (ranges image.loops) j other ≡ other →
      overlaps range other ≡ true → (lies_within range other ≡ true) ⊎ (lies_within other range ≡ true)
  earlier_nested j k range other lt in_nest at_k at_j over =
      let free = (good_at k range in_nest at_k).1.crosses in
      let here : get_or (take k (ranges image.loops)) j other ≡ other = get_or-take k (ranges image.loops) j other lt ∙ at_j in
      let apart = none_crossed range (take k (ranges image.loops)) j other free (omega (arith, length-take k (ranges image.loops))) in
      not_crossing range other (ap (crosses range) (sym here) ∙ apart) over

  -- any two
  pub loops_nested : IsNested (ranges image.loops)
  loops_nested range other (j, j_in, at_j) (k, k_in, at_k) over = by_order (nat_lt j k) refl (nat_lt k j) refl
    where
      by_order : (p : Bool) → nat_lt j k ≡ p → (q : Bool) → nat_lt k j ≡ q → (lies_within range other ≡ true) ⊎ (lies_within other range ≡ true)
      by_order true e q e' = either (earlier_nested j k other range (grind (arith, nat_tests)) k_in at_k at_j (overlaps_comm range other over))
      by_order false e true e' = earlier_nested k j range other (grind (arith, nat_tests)) j_in at_j at_k over
      by_order false e false e' =
          let same : j ≡ k = grind (arith, nat_tests) in
          inl (within_itself range other (sym at_j ∙ ap (λ i. get_or (ranges image.loops) i range) same ∙ get_or_default (ranges image.loops) k range other k_in ∙ at_k))

  -- a later row shares no end with an earlier one
  own_ends : (i j : ℕ) (d : LoopRow) → i < j → j < length image.loops →
      ((get_or image.loops i d).head ≢ (get_or image.loops j d).head) ×
      ((get_or image.loops i d).lend ≢ (get_or image.loops j d).lend)
  own_ends i j d lt in_rows =
      let nest = ranges image.loops in
      let range : LoopRange = range_of (get_or image.loops j d) in
      let shares = (passes_among nest j range (passes j d in_rows).1).shares in
      let there : get_or (take j nest) i (range_of d) ≡ range_of (get_or image.loops i d) = get_or-take j nest i (range_of d) lt ∙ get_or-map range_of image.loops i d in
      let low : i < length (take j nest) = omega (arith, length-take j nest, length-map image.loops range_of) in
      apart range (range_of (get_or image.loops i d)) (ap (shares_an_end range) (sym there) ∙ none_shared range (take j nest) i (range_of d) shares low)

  pub own_heads : HasOwnHeads image.loops
  own_heads i j d lt in_rows = (own_ends i j d lt in_rows).0

  pub own_lends : HasOwnLends image.loops
  own_lends i j d lt in_rows = (own_ends i j d lt in_rows).1

  -- no loop contains the first instruction
  pub none_around_start : IsOutside (ranges image.loops) 0
  none_around_start l = by_row (slice_get image.loops l) refl
    where
      starts_later : (r : LoopRange) → 0 < r.head → contains r 0 ≡ false
      starts_later r e = grind (arith, nat_tests)

      by_row : (o : Option LoopRow) → slice_get image.loops l ≡ o → is_around (ranges image.loops) 0 l ≡ false
      by_row None there = rw (slice_get-map range_of image.loops l, there) refl
      by_row (Some row) there = rw (range_at image.loops l row there) (starts_later (range_of row) (at_place (IsLoop cuts) image.loops l row all_loops there).later)
