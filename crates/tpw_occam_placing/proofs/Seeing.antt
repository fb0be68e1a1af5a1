-- Cells that have the words of others.
use Rattle.std.proofs.Common.{◌≡◌, ◌∙◌, ℕ, nat_eq, Bool, true, false, ◌||◌, if◌then◌else◌, List, refl, sym, ap, subst}
use Rattle.std.proofs.lemmas.Bool.{eqb-true, eq-eqb}
use Rattle.tpw_occam_meaning.specs.States.{State, with_cell}
use Rattle.tpw_occam_placing.specs.declared.aliases.Aliases.{Aliases}
use Rattle.tpw_occam_placing.specs.declared.aliases.Aliases.TheVariants.{None, Alias'}
use Rattle.tpw_occam_placing.specs.Placing.{seen, is_mentioned}

-- arrays are as they were
pub arrays_seen : (aliases : Aliases) (s : State) → (seen aliases s).arrays ≡ s.arrays
arrays_seen None s = refl
arrays_seen (Alias' x of p before) s = arrays_seen before s

-- ---- a cell that no alias mentions takes a word

or_left : (p q : Bool) → (p || q) ≡ false → p ≡ false
or_left true q h = cc
or_left false q h = refl

or_right : (p q : Bool) → (p || q) ≡ false → q ≡ false
or_right true q h = cc
or_right false q h = h

-- two cells take words in either order
both_orders : (x y z a b : ℕ) (f : ℕ → ℕ) (p q : Bool) → nat_eq z x ≡ p → nat_eq z y ≡ q → nat_eq x y ≡ false
    → (if q then b else (if p then a else f z)) ≡ (if p then a else (if q then b else f z))
both_orders x y z a b f true true e g apart =
    let same : nat_eq x y ≡ true = eq-eqb x y (sym (eqb-true z x e) ∙ eqb-true z y g) in cc
both_orders x y z a b f true false e g apart = refl
both_orders x y z a b f false true e g apart = refl
both_orders x y z a b f false false e g apart = refl

commutes : (x y a b : ℕ) (s : State) → nat_eq x y ≡ false
    → with_cell y b (with_cell x a s) ≡ with_cell x a (with_cell y b s)
commutes x y a b s apart =
    λ i. record s { cells = λ z. both_orders x y z a b s.cells (nat_eq z x) (nat_eq z y) refl refl apart i }

-- what another cell has is as it was
kept : (x of a : ℕ) (s : State) (b : Bool) → nat_eq x of ≡ b → b ≡ false → (c : Bool) → nat_eq of x ≡ c
    → (if c then a else s.cells of) ≡ s.cells of
kept x of a s b e other true g =
    let same : nat_eq x of ≡ true = eq-eqb x of (sym (eqb-true of x g)) in cc
kept x of a s b e other false g = refl

pub seen_behind : (aliases : Aliases) (x a : ℕ) (s : State) → is_mentioned aliases x ≡ false
    → seen aliases (with_cell x a s) ≡ with_cell x a (seen aliases s)
seen_behind None x a s h = refl
seen_behind (Alias' y of p before) x a s h =
    let both : (nat_eq x y || nat_eq x of) ≡ false = or_left (nat_eq x y || nat_eq x of) (is_mentioned before x) h in
    let rest : is_mentioned before x ≡ false = or_right (nat_eq x y || nat_eq x of) (is_mentioned before x) h in
    let apart : nat_eq x y ≡ false = or_left (nat_eq x y) (nat_eq x of) both in
    let alone : nat_eq x of ≡ false = or_right (nat_eq x y) (nat_eq x of) both in
    ap (λ m. with_cell y (m.cells of) m) (seen_behind before x a s rest)
    ∙ ap (λ word. with_cell y word (with_cell x a (seen before s)))
    (kept x of a (seen before s) (nat_eq x of) refl alone (nat_eq of x) refl)
    ∙ commutes x y a ((seen before s).cells of) (seen before s) apart
