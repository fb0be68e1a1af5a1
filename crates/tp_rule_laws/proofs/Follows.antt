-- Answers that follow others, and chains of tests that do.
use Rattle.std.proofs.Common.{◌≡◌, Bool, true, false, Result, Ok, Err, refl}
use Rattle.tp_state.specs.declared.fault.StateCode.{StateCode}
use Rattle.tp_state.specs.Answer.{◌>>=◌, ◌>>◌, unless}

-- where the second answer is no refusal, the first is none either, and the two are related
abbrev pub Follows : {A B E : Type 0} → (A → B → Type 0) → Result A E → Result B E → Type 0
Follows R r (Err e) = Unit {0}
Follows R (Ok x) (Ok y) = R x y
Follows R (Err e) (Ok y) = ⊥

-- no more than that neither is a refusal
abbrev pub Both : {A B : Type 0} → A → B → Type 0
Both x y = Unit {0}

-- ---- chains

-- the same answer follows itself
pub same : {A : Type 0} (R : A → A → Type 0) (r : Result A StateCode) → ((x : A) → R x x) → Follows R r r
same R (Ok x) all = all x
same R (Err e) all = tt

pub same_as : {A : Type 0} (r q : Result A StateCode) → r ≡ q → Follows (λ (x y : A). x ≡ y) r q
same_as r q e = rw e (same (λ x y. x ≡ y) q (λ x. refl))

pub weaker : {A B : Type 0} (R S : A → B → Type 0) (r : Result A StateCode) (q : Result B StateCode) → ((x : A) (y : B) → R x y → S x y) → Follows R r q → Follows S r q
weaker R S (Ok x) (Ok y) go h = go x y h
weaker R S (Err x) (Ok y) go h = absurd h
weaker R S r (Err y) go h = tt

pub both : {A B : Type 0} (R : A → B → Type 0) (r : Result A StateCode) (q : Result B StateCode) → Follows R r q → Follows Both r q
both R r q h = weaker R Both r q (λ x y h. tt) h

module _ {C D : Type 0} (S : C → D → Type 0) where
  pub bind : {A B : Type 0} (R : A → B → Type 0) (r : Result A StateCode) (q : Result B StateCode) (f : A → Result C StateCode) (g : B → Result D StateCode)
      → Follows R r q → ((x : A) (y : B) → R x y → Follows S (f x) (g y)) → Follows S (r >>= f) (q >>= g)
  bind R (Ok x) (Ok y) f g h go = go x y h
  bind R (Err x) (Ok y) f g h go = absurd h
  bind R r (Err y) f g h go = tt

  -- with what the second answer is
  pub bind_is : {A B : Type 0} (R : A → B → Type 0) (r : Result A StateCode) (q : Result B StateCode) (f : A → Result C StateCode) (g : B → Result D StateCode)
      → Follows R r q → ((x : A) (y : B) → q ≡ Ok y → R x y → Follows S (f x) (g y)) → Follows S (r >>= f) (q >>= g)
  bind_is R (Ok x) (Ok y) f g h go = go x y refl h
  bind_is R (Err x) (Ok y) f g h go = absurd h
  bind_is R r (Err y) f g h go = tt

  pub also : {A B : Type 0} (r : Result A StateCode) (q : Result B StateCode) (f : Result C StateCode) (g : Result D StateCode)
      → Follows Both r q → Follows S f g → Follows S (r >> f) (q >> g)
  also (Ok x) (Ok y) f g h go = go
  also (Err x) (Ok y) f g h go = absurd h
  also r (Err y) f g h go = tt

  pub tested : (e : StateCode) (b c : Bool) (f : Result C StateCode) (g : Result D StateCode)
      → (c ≡ true → b ≡ true) → (c ≡ true → Follows S f g) → Follows S (unless e b >> f) (unless e c >> g)
  tested e true true f g h go = go refl
  tested e false true f g h go = let is : false ≡ true = h refl in cc
  tested e b false f g h go = tt
