-- Totals over views, and how often a number stands in a list.
use Rattle.std.proofs.Common.{replicate, length, ◌≡◌, ◌≢◌, ℕ, zero, suc, ◌+◌, ◌≤◌, List, [], ◌∷◌, ◌++◌, set, sym, refl, ap, ◌∙◌}
use Rattle.std.proofs.Common.{subst, ⊎_elim, arith, length-append}
use mathlib.Core.Option.{some, some-ne-none, some-injective}
use lib.ListN.{get_elem?}
use Rattle.atomic_table.proofs.Lists.{at_set, at_snoc}
use Rattle.tp_board.specs.Counting.{times}
use Rattle.tp_board.specs.Views.{concat_of}
use Rattle.tp_board.specs.Rule.{total}
use Rattle.tp_board.proofs.Counting.{times-append}
use Rattle.tp_board.specs.declared.view.View.{View}

pub total_set : {V : Type 0} (f : V → ℕ) (views : List V) (id : ℕ) (v w : V) → get_elem? views id ≡ some v
    → total f (set views id w) + f v ≡ total f views + f w
total_set f [] id v w at = absurd (some-ne-none v (sym at))
total_set f (u ∷ us) zero v w at = let e : f u ≡ f v = ap f (some-injective u v at) in omega arith
total_set f (u ∷ us) (suc id) v w at = let ih = total_set f us id v w at in omega arith

pub total_snoc : {V : Type 0} (f : V → ℕ) (views : List V) (w : V) → total f (views ++ w ∷ []) ≡ total f views + f w
total_snoc f [] w = omega arith
total_snoc f (u ∷ us) w = let ih = total_snoc f us w in omega arith

pub le_total : {V : Type 0} (f : V → ℕ) (views : List V) (id : ℕ) (v : V) → get_elem? views id ≡ some v → f v ≤ total f views
le_total f [] id v at = absurd (some-ne-none v (sym at))
le_total f (u ∷ us) zero v at = let e : f u ≡ f v = ap f (some-injective u v at) in omega arith
le_total f (u ∷ us) (suc id) v at = let ih = le_total f us id v at in omega arith

pub total_le : {V : Type 0} (f g : V → ℕ) (views : List V) → ((id : ℕ) (v : V) → get_elem? views id ≡ some v → f v ≤ g v)
    → total f views ≤ total g views
total_le f g [] h = omega arith
total_le f g (u ∷ us) h = let here = h 0 u refl in let ih = total_le f g us (λ id v at. h (suc id) v at) in omega arith

-- where one view has all of f, the others have none
pub others_none : {V : Type 0} (f : V → ℕ) (views : List V) (id : ℕ) (v : V) → get_elem? views id ≡ some v → total f views ≡ f v
    → (j : ℕ) (u : V) → j ≢ id → get_elem? views j ≡ some u → f u ≡ 0
others_none f [] id v at all j u apart there = absurd (some-ne-none v (sym at))
others_none f (y ∷ ys) zero v at all zero u apart there = absurd (apart refl)
others_none f (y ∷ ys) zero v at all (suc j) u apart there =
    let e : f y ≡ f v = ap f (some-injective y v at) in let b = le_total f ys j u there in omega arith
others_none f (y ∷ ys) (suc id) v at all zero u apart there =
    let e : f y ≡ f u = ap f (some-injective y u there) in let b = le_total f ys id v at in omega arith
others_none f (y ∷ ys) (suc id) v at all (suc j) u apart there =
    let b = le_total f ys id v at in others_none f ys id v at (omega arith) j u (λ e. apart (ap suc e)) there

total_none : {V : Type 0} (f : V → ℕ) (views : List V) → ((j : ℕ) (u : V) → get_elem? views j ≡ some u → f u ≡ 0)
    → total f views ≡ 0
total_none f [] h = refl
total_none f (y ∷ ys) h = let a = h 0 y refl in let b = total_none f ys (λ j u at. h (suc j) u at) in omega arith

-- where the others have none of f, one view has all of it
pub all_of : {V : Type 0} (f : V → ℕ) (views : List V) (id : ℕ) (v : V) → get_elem? views id ≡ some v
    → ((j : ℕ) (u : V) → j ≢ id → get_elem? views j ≡ some u → f u ≡ 0) → total f views ≡ f v
all_of f [] id v at h = absurd (some-ne-none v (sym at))
all_of f (y ∷ ys) zero v at h =
    let e : f y ≡ f v =
    ap f (some-injective y v at) in let b = total_none f ys (λ j u there. h (suc j) u (λ k. omega arith) there) in omega arith
all_of f (y ∷ ys) (suc id) v at h =
    let a =
    h 0 y (λ k. omega arith) refl in let b =
    all_of f ys id v at (λ j u apart there. h (suc j) u (λ k. apart (omega arith)) there) in omega arith

-- what holds of the new view and of the others holds of all
pub each_set : {V : Type 0} (P : V → Type 0) (views : List V) (id : ℕ) (w : V) → P w
    → ((j : ℕ) (u : V) → j ≢ id → get_elem? views j ≡ some u → P u) → (j : ℕ) (u : V) → get_elem? (set views id w) j ≡ some u
    → P u
each_set P views id w mine others j u e =
    ⊎_elim (λ (t : (j ≡ id) × (w ≡ u)). subst P t.1 mine) (λ (t : (j ≢ id) × (get_elem? views j ≡ some u)). others j u t.0 t.1)
    (at_set views id j w u e)

pub each_snoc : {V : Type 0} (P : V → Type 0) (views : List V) (w : V) → ((j : ℕ) (u : V) → get_elem? views j ≡ some u → P u) → P w
    → (j : ℕ) (u : V) → get_elem? (views ++ w ∷ []) j ≡ some u → P u
each_snoc P views w others mine j u e = ⊎_elim (λ was. others j u was) (λ (same : w ≡ u). subst P same mine) (at_snoc views w u j e)

-- ---- views are exchanged for others
module _ {V : Type 0} where
  -- `olds` have gone and `news` have come
  abbrev pub Exchange : List V → List V → List V → List V → Type 0
  Exchange views olds views' news = (f : V → ℕ) → total f views' + total f olds ≡ total f views + total f news

  -- a count goes from `was` to `now` as the total of f does
  abbrev pub Goes : (olds news : List V) → (V → ℕ) → ℕ → ℕ → Type 0
  Goes olds news f was now = now + total f olds ≡ was + total f news

  pub one_changed : (views : List V) (id : ℕ) (v u : V) → get_elem? views id ≡ some v
      → Exchange views (v ∷ []) (set views id u) (u ∷ [])
  one_changed views id v u at f = let a = total_set f views id v u at in omega arith

  pub one_cut : (views : List V) (id : ℕ) (v u w : V) → get_elem? views id ≡ some v
      → Exchange views (v ∷ []) (set views id u ++ w ∷ []) (u ∷ w ∷ [])
  one_cut views id v u w at f =
      let a = total_set f views id v u at in let b = total_snoc f (set views id u) w in omega arith

  pub two_joined : (views : List V) (id : ℕ) (v b : V) (other : ℕ) (u s : V) → get_elem? views id ≡ some v
      → get_elem? (set views id b) other ≡ some u → Exchange views (v ∷ u ∷ []) (set (set views id b) other s) (b ∷ s ∷ [])
  two_joined views id v b other u s at there f =
      let a = total_set f views id v b at in let c = total_set f (set views id b) other u s there in omega arith

  pub still_there : (views : List V) (id : ℕ) (b : V) (other : ℕ) (u : V) → other ≢ id → get_elem? (set views id b) other ≡ some u
      → get_elem? views other ≡ some u
  still_there views id b other u apart there =
      ⊎_elim (λ (t : (other ≡ id) × (b ≡ u)). absurd (apart t.0)) (λ (t : (other ≢ id) × (get_elem? views other ≡ some u)). t.1)
      (at_set views id other b u there)

-- where f of each view is g, h and i of it together, so are the totals
pub total_parts : {V : Type 0} (f g h i : V → ℕ) (views : List V)
    → ((id : ℕ) (v : V) → get_elem? views id ≡ some v → f v ≡ g v + h v + i v)
    → total f views ≡ total g views + total h views + total i views
total_parts f g h i [] e = omega arith
total_parts f g h i (v ∷ vs) e =
    let here = e 0 v refl in let ih = total_parts f g h i vs (λ id u at. e (suc id) u at) in omega arith

pub total_same : {V : Type 0} (f : V → ℕ) (v : V) (n : ℕ) → f v ≡ 0 → total f (replicate n v) ≡ 0
total_same f v zero e = refl
total_same f v (suc n) e = let ih = total_same f v n e in omega arith

pub total_each : {V : Type 0} (f : V → ℕ) (v : V) (n : ℕ) → f v ≡ 1 → total f (replicate n v) ≡ n
total_each f v zero e = refl
total_each f v (suc n) e = let ih = total_each f v n e in omega arith

pub at_replicate : {V : Type 0} (v u : V) (n id : ℕ) → get_elem? (replicate n v) id ≡ some u → v ≡ u
at_replicate v u zero id at = absurd (some-ne-none u (sym at))
at_replicate v u (suc n) zero at = some-injective v u at
at_replicate v u (suc n) (suc id) at = at_replicate v u n id at

-- ---- what all views have, one after another
pub times_gathered : (f : View → List ℕ) (x : ℕ) (views : List View)
    → times x (concat_of f views) ≡ total (λ v. times x (f v)) views
times_gathered f x [] = refl
times_gathered f x (v ∷ vs) = let a = times-append x (f v) (concat_of f vs) in let b = times_gathered f x vs in omega arith

pub length_gathered : (f : View → List ℕ) (views : List View) → length (concat_of f views) ≡ total (λ v. length (f v)) views
length_gathered f [] = refl
length_gathered f (v ∷ vs) = let a = length-append (f v) (concat_of f vs) in let b = length_gathered f vs in omega arith

pub gathered_set : (f : View → List ℕ) (x : ℕ) (views : List View) (id : ℕ) (v u : View) → get_elem? views id ≡ some v
    → times x (concat_of f (set views id u)) + times x (f v) ≡ times x (concat_of f views) + times x (f u)
gathered_set f x views id v u at =
    let a =
    times_gathered f x views in let b =
    times_gathered f x (set views id u) in let c = total_set (λ v. times x (f v)) views id v u at in omega arith

pub none_gathered : (f : View → List ℕ) (v : View) (n : ℕ) → f v ≡ [] → concat_of f (replicate n v) ≡ []
none_gathered f v zero e = refl
none_gathered f v (suc n) e = ap (λ l. l ++ concat_of f (replicate n v)) e ∙ none_gathered f v n e
