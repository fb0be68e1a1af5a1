-- Sums over loops.
use Rattle.std.proofs.Common.{◌≡◌, ◌≢◌, ℕ, suc, ◌+◌, ◌<◌, ◌≤◌, Bool, true, false, nat_eq, nat_lt, ◌==◌, cond}
use Rattle.std.proofs.Common.{if◌then◌else◌, List, [], ◌∷◌, get_or, Contains, sum_by, Some, refl, ap, sym, ◌∙◌, subst}
use Rattle.std.proofs.Common.{arith}
use Rattle.std.specs.Option.{option_map_or}
use Rattle.std.proofs.lemmas.List.Sums.{sum_by-cons, get_or-le-sum_by}
use Rattle.std.proofs.lemmas.List.{get_or_default}
use Rattle.std.proofs.lemmas.Bool.Decides.{nat_tests}
use Rattle.tp_image.specs.declared.image.LoopRow.{LoopRow}
use Rattle.tp_accept.specs.Bound.{begun_at}
use Rattle.tp_flow.specs.NestKept.{HasOwnHeads}

-- what a list contains that has one more at its front
pub contains_first : {X : Type 0} (x : X) (xs : List X) → Contains (x ∷ xs) x
contains_first x xs = (0, omega arith, refl)

pub contains_later : {X : Type 0} (x : X) (xs : List X) (y : X) → Contains xs y → Contains (x ∷ xs) y
contains_later x xs y (k, k_in, at_k) = (suc k, omega arith, at_k)

-- two sums beside two others
pub sums_le : {X : Type 0} (f g h i : X → ℕ) (xs : List X) → ((x : X) → Contains xs x → f x + g x ≤ h x + i x) → sum_by f xs + sum_by g xs ≤ sum_by h xs + sum_by i xs
sums_le f g h i [] each = omega arith
sums_le f g h i (x ∷ xs) each =
    let here = each x (contains_first x xs) in
    let rest = sums_le f g h i xs (λ y y_in. each y (contains_later x xs y y_in)) in
    omega (arith, sum_by-cons f x xs, sum_by-cons g x xs, sum_by-cons h x xs, sum_by-cons i x xs)

-- one of the parts
pub part_le : {X : Type 0} (f : X → ℕ) (xs : List X) (x : X) → Contains xs x → f x ≤ sum_by f xs
part_le f xs x (k, k_in, at_k) = subst (λ y. f y ≤ sum_by f xs) at_k (get_or-le-sum_by f xs k x k_in)

-- nothing
pub sum_zero : {X : Type 0} (f : X → ℕ) (xs : List X) → ((x : X) → Contains xs x → f x ≡ 0) → sum_by f xs ≡ 0
sum_zero f [] each = refl
sum_zero f (x ∷ xs) each =
    omega (arith, sum_by-cons f x xs, each x (contains_first x xs), sum_zero f xs (λ y y_in. each y (contains_later x xs y y_in)))

-- the heads of the other loops
later_heads : (row : LoopRow) (rows : List LoopRow) → HasOwnHeads (row ∷ rows) → HasOwnHeads rows
later_heads row rows heads i j d lt lt_j = heads (suc i) (suc j) d (omega arith) (omega arith)

-- the first loop has none of them
own_head : (row : LoopRow) (rows : List LoopRow) (other : LoopRow) → HasOwnHeads (row ∷ rows) → Contains rows other → row.head ≢ other.head
own_head row rows other heads (k, k_in, at_k) e = heads 0 (suc k) other (omega arith) (omega arith) (e ∙ sym (ap (λ r. r.head) at_k))

-- only the loop that begins there counts
pub begun_sum : (f : LoopRow → ℕ) (rows : List LoopRow) (to : ℕ) → HasOwnHeads rows → sum_by (λ row. if row.head == to then f row else 0) rows ≡ option_map_or f (begun_at rows to) 0
begun_sum f [] to heads = refl
begun_sum f (row ∷ rows) to heads = sum_by-cons part row rows ∙ by_test (begun_sum f rows to (later_heads row rows heads)) (nat_eq row.head to) refl
  where
    part : LoopRow → ℕ
    part = λ row. if row.head == to then f row else 0

    other_zero : (other : LoopRow) → row.head ≡ to → row.head ≢ other.head → part other ≡ 0
    other_zero other e ne = by_case (nat_eq other.head to) refl
      where
        by_case : (b : Bool) → nat_eq other.head to ≡ b → cond b (f other) 0 ≡ 0
        by_case true h = absurd (let same : other.head ≡ to = grind (arith, nat_tests) in ne (e ∙ sym same))
        by_case false h = refl

    by_test : sum_by part rows ≡ option_map_or f (begun_at rows to) 0 → (b : Bool) → nat_eq row.head to ≡ b →
        cond b (f row) 0 + sum_by part rows ≡ option_map_or f (cond b (Some row) (begun_at rows to)) 0
    by_test go true e =
        let same : row.head ≡ to = grind (arith, nat_tests) in
        let none = sum_zero part rows (λ other other_in. other_zero other same (own_head row rows other heads other_in)) in
        omega (arith, none)
    by_test go false e = omega (arith, go)

-- a loop is known by its head
pub same_loop : (rows : List LoopRow) (row other : LoopRow) → HasOwnHeads rows → Contains rows row → Contains rows other → row.head ≡ other.head → row ≡ other
same_loop rows row other heads (i, i_in, at_i) (j, j_in, at_j) e = by_order (nat_eq i j) refl (nat_lt i j) refl
  where
    at_j' : get_or rows j row ≡ other
    at_j' = get_or_default rows j row other j_in ∙ at_j

    by_order : (p : Bool) → nat_eq i j ≡ p → (q : Bool) → nat_lt i j ≡ q → row ≡ other
    by_order true e1 q e2 = let same : i ≡ j = grind (arith, nat_tests) in sym at_i ∙ ap (λ k. get_or rows k row) same ∙ at_j'
    by_order false e1 true e2 =
        let before : i < j = grind (arith, nat_tests) in
        absurd (heads i j row before j_in (ap (λ r. r.head) at_i ∙ e ∙ sym (ap (λ r. r.head) at_j')))
    by_order false e1 false e2 =
        let behind : j < i = grind (arith, nat_tests) in
        absurd (heads j i row behind i_in (ap (λ r. r.head) at_j' ∙ sym e ∙ sym (ap (λ r. r.head) at_i)))
