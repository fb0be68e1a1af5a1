-- The costs that are counted while a table is filled from the last instruction to the first.
use Rattle.std.proofs.Common.{◌≡◌, ◌≢◌, ℕ, zero, suc, ◌+◌, ◌-◌, ◌<◌, ◌≤◌, Bool, true, false, nat_eq, List, [], ◌∷◌}
use Rattle.std.proofs.Common.{length, get_or, set, replicate, slice_get, Some, refl, ap, sym, ◌∙◌, subst, arith}
use Rattle.std.proofs.Common.{length-append}
use Rattle.std.specs.List.{AllByRecursion}
use Rattle.std.proofs.lemmas.List.{get_or-set_same, get_or-set_other, get_or_default, length-set, length-replicate}
use Rattle.std.proofs.lemmas.Option.{same_Some}
use Rattle.std.proofs.lemmas.Bool.Decides.{nat_tests}
use Rattle.tp_image.specs.declared.image.LoopRow.{LoopRow}
use Rattle.tp_decode.specs.declared.placed.Placed.{Placed}
use Rattle.tp_decode.specs.Cutting.{Cut, code_of, placed_from}
use Rattle.tp_accept.specs.declared.counting.Counted.{Counted}
use Rattle.tp_accept.specs.Bound.{Cost, Costs, nothing, with_cost, whole_at, cost_of, costs_from, costs_of, bound}
use Rattle.tp_accept.specs.Capped.{capped, counted, uncounted, counted_at, table, AreCapped, AreCounted}
use Rattle.tp_accept.proofs.CostTable.{with_cost-here, with_cost-other}
use Rattle.tp_accept.proofs.CappedCosts.{counted_cost_of}

-- with the cost of an instruction that stands at a place
abbrev pub with_placed : List LoopRow → List Cut → Costs → Placed → Costs
with_placed rows code costs p = with_cost costs p.at (cost_of rows code costs p.at (p.next - p.at) p.instr)

module _ (rows : List LoopRow) (code : List Cut) where
  -- the costs of the instructions from number i on, where the first stands at an address
  pub costs_past : ℕ → List Cut → ℕ → Costs
  costs_past at cuts zero = costs_from rows code at cuts
  costs_past at [] (suc i) = λ to. nothing
  costs_past at (cut ∷ cuts) (suc i) = costs_past (at + length cut.bytes) cuts i

  -- none behind the last
  pub past_all : (at : ℕ) (cuts : List Cut) (to : ℕ) → costs_past at cuts (length cuts) to ≡ nothing
  unfolding costs_past
  past_all at [] to = refl
  past_all at (cut ∷ cuts) to = past_all (at + length cut.bytes) cuts to

  -- one more before them
  pub past_one : (at : ℕ) (cuts : List Cut) (i : ℕ) (p : Placed) → slice_get (placed_from at cuts) i ≡ Some p →
      (to : ℕ) → costs_past at cuts i to ≡ with_placed rows code (costs_past at cuts (suc i)) p to
  unfolding costs_past
  past_one at [] i p is to = absurd cc
  past_one at (cut ∷ cuts) zero p is to =
      let later = costs_from rows code (at + length cut.bytes) cuts in
      let bytes : at + length cut.bytes - at ≡ length cut.bytes = omega arith in
      sym (ap (λ n. with_cost later at (cost_of rows code later at n cut.instr) to) bytes) ∙ ap (λ q. with_placed rows code later q to) (same_Some _ _ is)
  past_one at (cut ∷ cuts) (suc i) p is to = past_one (at + length cut.bytes) cuts i p is to

-- where an instruction stands
pub record IsPlaced (cuts : List Cut) (from : ℕ) (p : Placed) : Type 0 where
  pub order : p.at ≤ p.next
  pub within : p.at < from + length (code_of cuts)

-- each instruction has bytes, all of them in the code
pub placed_within : (from : ℕ) (cuts : List Cut) (i : ℕ) (p : Placed) → AllByRecursion (λ c. 0 < length c.bytes) cuts → slice_get (placed_from from cuts) i ≡ Some p → IsPlaced cuts from p
placed_within from [] i p all is = absurd cc
placed_within from (cut ∷ cuts) zero p all is =
    let some : 0 < length cut.bytes = all.0 in
    let here = same_Some _ _ is in
    subst (IsPlaced (cut ∷ cuts) from) here (record { order = omega arith; within = omega (arith, length-append cut.bytes (code_of cuts), some) })
placed_within from (cut ∷ cuts) (suc i) p all is =
    let rest = placed_within (from + length cut.bytes) cuts i p all.1 is in
    record { order = rest.order; within = omega (arith, rest.within, length-append cut.bytes (code_of cuts)) }

-- what is kept: those of the instructions from i on are there
pub record HasCostsFrom (rows : List LoopRow) (code : List Cut) (items : List Counted) (i : ℕ) : Type 0 where
  pub long : length items ≡ length (code_of code)
  pub each : (to : ℕ) → counted_at items to ≡ counted (costs_past rows code 0 code i to)

-- what was counted is capped
capped_of : (items : List Counted) (costs : Costs) → ((to : ℕ) → counted_at items to ≡ counted (costs to)) → AreCapped items
capped_of items costs each k d lt =
    let e : get_or items k d ≡ counted (costs k) = get_or_default items k d uncounted lt ∙ each k in
    record { left = omega (arith, ap (λ c. c.left) e); whole = omega (arith, ap (λ c. c.whole) e) }

pub all_capped : (rows : List LoopRow) (code : List Cut) (items : List Counted) (i : ℕ) → HasCostsFrom rows code items i → AreCapped items
all_capped rows code items i has = capped_of items (costs_past rows code 0 code i) has.each

pub counted_capped : (rows : List LoopRow) (code : List Cut) (items : List Counted) → AreCounted rows code items → AreCapped items
counted_capped rows code items counted = capped_of items (costs_of rows code) counted.each

-- a table that is not filled
nothing_at : (n to : ℕ) → get_or (replicate n uncounted) to uncounted ≡ uncounted
nothing_at zero to = refl
nothing_at (suc n) zero = refl
nothing_at (suc n) (suc to) = nothing_at n to

-- none at first
pub none_yet : (rows : List LoopRow) (code : List Cut) (n : ℕ) → n ≡ length (code_of code) → HasCostsFrom rows code (replicate n uncounted) (length code)
none_yet rows code n e =
    record {
      long = length-replicate n uncounted ∙ e;
      each = λ to. nothing_at n to ∙ sym (ap counted (past_all rows code 0 code to));
    }

-- one more
pub one_more : (rows : List LoopRow) (code : List Cut) (items : List Counted) (i : ℕ) (p : Placed) (cost : Counted) →
    AllByRecursion (λ c. 0 < length c.bytes) code → slice_get (placed_from 0 code) i ≡ Some p →
    cost ≡ counted (cost_of rows code (table items) p.at (p.next - p.at) p.instr) → HasCostsFrom rows code items (suc i) →
    HasCostsFrom rows code (set items p.at cost) i
one_more rows code items i p cost some there is has =
    record {
      long = length-set items p.at cost ∙ has.long;
      each = λ to. by_place to (nat_eq to p.at) refl ∙ sym (ap counted (past_one rows code 0 code i p there to));
    }
  where
    later : Costs
    later = costs_past rows code 0 code (suc i)

    cost_there : Cost
    cost_there = cost_of rows code later p.at (p.next - p.at) p.instr

    below : p.at < length items
    below = omega (arith, (placed_within 0 code i p some there).within, has.long)

    by_place : (to : ℕ) (b : Bool) → nat_eq to p.at ≡ b → get_or (set items p.at cost) to uncounted ≡ counted (with_cost later p.at cost_there to)
    by_place to true e =
        let here : to ≡ p.at = grind (arith, nat_tests) in
        ap (λ k. get_or (set items p.at cost) k uncounted) here ∙ get_or-set_same items p.at cost uncounted below ∙ is
        ∙ counted_cost_of (table items) later (λ b. ap (λ c. c.whole) (has.each b)) rows code p.at (p.next - p.at) p.instr
        ∙ sym (ap counted (with_cost-here later p.at to cost_there here))
    by_place to false e =
        let other : to ≢ p.at = grind (arith, nat_tests) in
        get_or-set_other items p.at to cost uncounted other ∙ has.each to ∙ sym (ap counted (with_cost-other later p.at to cost_there other))

-- all are there
pub all_counted : (rows : List LoopRow) (code : List Cut) (items : List Counted) (i : ℕ) → i ≤ 0 → HasCostsFrom rows code items i → AreCounted rows code items
unfolding costs_past
all_counted rows code items i none has =
    let last : HasCostsFrom rows code items 0 = subst (HasCostsFrom rows code items) (omega arith) has in
    record { long = last.long; each = last.each }

-- what was counted of the whole is the bound, capped
pub counted_bound : (rows : List LoopRow) (code : List Cut) (read items : List Counted) (bytes : ℕ) →
    bytes ≡ whole_at (table read) (Some 0) → read ≡ items → AreCounted rows code items → bytes ≡ capped (bound rows code)
unfolding bound
counted_bound rows code read items bytes is same all =
    is ∙ ap (λ xs. whole_at (table xs) (Some 0)) same ∙ ap (λ c. c.whole) (all.each 0)
