-- Which edges wait, and which are said to have been taken before.
use Rattle.std.proofs.Common.{◌≡◌, ℕ, ◌⊎◌, inl, inr, ◌==◌, ◌&&◌, if◌then◌else◌, Bool, true, false, Option, Some, None, refl, sym, ap, ◌∙◌, arith}
use Rattle.std.proofs.lemmas.Bool.{cases_eq}
use Rattle.std.proofs.lemmas.Bool.Decides.{nat_tests}
use Rattle.std.proofs.lemmas.Option.{same_Some}
use Rattle.tp_check.specs.declared.passes.Passes.{Passes}
use Rattle.tp_check.specs.UnderWay.{is_in, waits, repeats}

pub both_true : (b c : Bool) → (b && c) ≡ true → (b ≡ true) × (c ≡ true)
both_true true c is = (refl, is)
both_true false c is = absurd cc

pub same_number : (x y : ℕ) → (x == y) ≡ true → x ≡ y
same_number x y is = grind (arith, nat_tests)

pub itself : (x : ℕ) → (x == x) ≡ true
itself x = grind (arith, nat_tests)

pub leads_there : (o : Option ℕ) (n : ℕ) → (o ≡ Some n) ⊎ (o ≡ Some n → ⊥)
leads_there None n = inr (λ e. cc)
leads_there (Some m) n = by_number (cases_eq m n)
  where
    by_number : (m ≡ n) ⊎ (m ≡ n → ⊥) → (Some m ≡ Some n) ⊎ (Some m ≡ Some n → ⊥)
    by_number (inl same) = inl (ap Some same)
    by_number (inr other) = inr (λ e. other (same_Some m n e))

module _ (is_join : ℕ → Bool) (p : Passes) (ahead at : ℕ) where
  pub waits_join : is_join at ≡ true → waits is_join p ahead at ≡ is_in p.changed.items at
  waits_join is = ap (λ c. if c then is_in p.changed.items at else (at == ahead) && p.is_carried) is

  pub waits_alone : is_join at ≡ false → waits is_join p ahead at ≡ ((at == ahead) && p.is_carried)
  waits_alone is = ap (λ c. if c then is_in p.changed.items at else (at == ahead) && p.is_carried) is

  pub repeats_join : is_join at ≡ true → repeats is_join p ahead at ≡ is_in p.taken.items at
  repeats_join is = ap (λ c. if c then is_in p.taken.items at else (at == ahead) && (p.is_carried && p.is_again)) is

  pub repeats_alone : is_join at ≡ false → repeats is_join p ahead at ≡ ((at == ahead) && (p.is_carried && p.is_again))
  repeats_alone is = ap (λ c. if c then is_in p.taken.items at else (at == ahead) && (p.is_carried && p.is_again)) is

  -- an edge that waits leaves a marked join, or the address to which a state is carried
  pub waiting : waits is_join p ahead at ≡ true → ((is_join at ≡ true) × (is_in p.changed.items at ≡ true)) ⊎ ((is_join at ≡ false) × (at ≡ ahead) × (p.is_carried ≡ true))
  waiting is = by_join (is_join at) refl
    where
      by_join : (b : Bool) → is_join at ≡ b → ((is_join at ≡ true) × (is_in p.changed.items at ≡ true)) ⊎ ((is_join at ≡ false) × (at ≡ ahead) × (p.is_carried ≡ true))
      by_join true e = inl (e, sym (waits_join e) ∙ is)
      by_join false e = let parts = both_true (at == ahead) p.is_carried (sym (waits_alone e) ∙ is) in inr (e, same_number at ahead parts.0, parts.1)

  pub marked_waits : is_join at ≡ true → is_in p.changed.items at ≡ true → waits is_join p ahead at ≡ true
  marked_waits is on = waits_join is ∙ on

  pub carried_waits : is_join at ≡ false → at ≡ ahead → p.is_carried ≡ true → waits is_join p ahead at ≡ true
  carried_waits alone same on = waits_alone alone ∙ ap (λ n. (at == n) && p.is_carried) (sym same) ∙ ap (λ b. b && p.is_carried) (itself at) ∙ on

  -- so is one that is said to have been taken before
  pub repeating : repeats is_join p ahead at ≡ true → ((is_join at ≡ true) × (is_in p.taken.items at ≡ true)) ⊎ ((is_join at ≡ false) × (at ≡ ahead) × (p.is_carried ≡ true) × (p.is_again ≡ true))
  repeating is = by_join (is_join at) refl
    where
      by_join : (b : Bool) → is_join at ≡ b → ((is_join at ≡ true) × (is_in p.taken.items at ≡ true)) ⊎ ((is_join at ≡ false) × (at ≡ ahead) × (p.is_carried ≡ true) × (p.is_again ≡ true))
      by_join true e = inl (e, sym (repeats_join e) ∙ is)
      by_join false e =
          let parts = both_true (at == ahead) (p.is_carried && p.is_again) (sym (repeats_alone e) ∙ is) in
          let both = both_true p.is_carried p.is_again parts.1 in
          inr (e, same_number at ahead parts.0, both.0, both.1)

  pub taken_repeats : is_join at ≡ true → is_in p.taken.items at ≡ true → repeats is_join p ahead at ≡ true
  taken_repeats is on = repeats_join is ∙ on

  pub carried_repeats : is_join at ≡ false → at ≡ ahead → p.is_carried ≡ true → p.is_again ≡ true → repeats is_join p ahead at ≡ true
  carried_repeats alone same on again =
      repeats_alone alone ∙ ap (λ n. (at == n) && (p.is_carried && p.is_again)) (sym same) ∙ ap (λ b. b && (p.is_carried && p.is_again)) (itself at) ∙ ap (λ b. b && p.is_again) on ∙ again
