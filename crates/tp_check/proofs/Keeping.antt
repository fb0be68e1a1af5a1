-- What is kept of a table, address by address.
use Rattle.std.proofs.Common.{◌≡◌, ℕ, zero, suc, ◌+◌, ◌<◌, ◌≤◌, ◌⊎◌, inl, inr, Bool, true, IsTrue, List, [], ◌∷◌, ◌++◌, length, slice_get, Option, Some, None, refl, sym, ap, ◌∙◌, subst, arith}
use Rattle.std.specs.Option.{option_and_then}
use Rattle.std.proofs.lemmas.Bool.{cases_eq, cases_lt}
use Rattle.std.proofs.lemmas.Option.{same_Some, slice_get_past, slice_get_within}
use Rattle.tp_state.specs.declared.state.State.{State}
use Rattle.tp_check.specs.Tables.{Table, table_of}
use Rattle.tp_check.specs.Carried.{AreStatesOf}

-- those below an address
pub record AreSome (keeps : ℕ → Bool) (table : Table) (k : ℕ) (states : List (ℕ × State)) : Type 0 where
  pub rising : (i j : ℕ) (a b : ℕ × State) → i < j → slice_get states i ≡ Some a → slice_get states j ≡ Some b → a.0 < b.0
  pub below : (i : ℕ) (a : ℕ × State) → slice_get states i ≡ Some a → a.0 < k
  pub each : (i : ℕ) (a : ℕ × State) → slice_get states i ≡ Some a → IsTrue (keeps a.0) × (table a.0 ≡ Some a.1)
  pub all : (at : ℕ) (s : State) → at < k → IsTrue (keeps at) → table at ≡ Some s → (i : ℕ) × (slice_get states i ≡ Some (at, s))

there_first : (xs ys : List (ℕ × State)) (i : ℕ) (a : ℕ × State) → slice_get xs i ≡ Some a → slice_get (xs ++ ys) i ≡ Some a
there_first [] ys i a is = absurd cc
there_first (x ∷ xs) ys zero a is = is
there_first (x ∷ xs) ys (suc i) a is = there_first xs ys i a is

there_last : (xs : List (ℕ × State)) (y : ℕ × State) → slice_get (xs ++ y ∷ []) (length xs) ≡ Some y
there_last [] y = refl
there_last (x ∷ xs) y = there_last xs y

there_one : (xs : List (ℕ × State)) (y : ℕ × State) (i : ℕ) (a : ℕ × State) → slice_get (xs ++ y ∷ []) i ≡ Some a → (slice_get xs i ≡ Some a) ⊎ ((i ≡ length xs) × (y ≡ a))
there_one [] y zero a is = inr (refl, same_Some y a is)
there_one [] y (suc i) a is = absurd cc
there_one (x ∷ xs) y zero a is = inl is
there_one (x ∷ xs) y (suc i) a is = by_place (there_one xs y i a is)
  where
    by_place : (slice_get xs i ≡ Some a) ⊎ ((i ≡ length xs) × (y ≡ a)) → (slice_get (x ∷ xs) (suc i) ≡ Some a) ⊎ ((suc i ≡ length (x ∷ xs)) × (y ≡ a))
    by_place (inl is) = inl is
    by_place (inr (last, same)) = inr (omega (arith, last), same)

module _ (keeps : ℕ → Bool) (table : Table) (k : ℕ) (states : List (ℕ × State)) (some : AreSome keeps table k states) where
  -- an address at which none is kept
  pub some_skip : ((s : State) → keeps k ≡ true → table k ≡ Some s → ⊥) → AreSome keeps table (k + 1) states
  some_skip none = record {
    rising = some.rising;
    below = λ i a is. (let lt = some.below i a is in omega (arith, lt));
    each = some.each;
    all = λ at s lt is stood. by_place at s lt is stood (cases_eq at k);
  }
    where
      by_place : (at : ℕ) (s : State) → at < k + 1 → keeps at ≡ true → table at ≡ Some s → (at ≡ k) ⊎ (at ≡ k → ⊥) → (i : ℕ) × (slice_get states i ≡ Some (at, s))
      by_place at s lt is stood (inl same) = absurd (none s (sym (ap keeps same) ∙ is) (sym (ap table same) ∙ stood))
      by_place at s lt is stood (inr other) = some.all at s (omega (arith, lt, other)) is stood

  -- and one at which one is
  pub some_push : (s : State) (new : List (ℕ × State)) → new ≡ states ++ (k, s) ∷ [] → keeps k ≡ true → table k ≡ Some s → AreSome keeps table (k + 1) new
  some_push s new made is stood = subst (AreSome keeps table (k + 1)) (sym made) (record { rising = rising; below = below; each = each; all = all })
    where
      more : List (ℕ × State)
      more = states ++ (k, s) ∷ []

      below : (i : ℕ) (a : ℕ × State) → slice_get (states ++ (k, s) ∷ []) i ≡ Some a → a.0 < k + 1
      below i a there = by_place (there_one states (k, s) i a there)
        where
          by_place : (slice_get states i ≡ Some a) ⊎ ((i ≡ length states) × (◌≡◌ {A = ℕ × State} (k, s) a)) → a.0 < k + 1
          by_place (inl early) = let lt = some.below i a early in omega (arith, lt)
          by_place (inr (last, same)) = let e = ap (λ (p : ℕ × State). p.0) same in omega (arith, e)

      each : (i : ℕ) (a : ℕ × State) → slice_get (states ++ (k, s) ∷ []) i ≡ Some a → (keeps a.0 ≡ true) × (table a.0 ≡ Some a.1)
      each i a there = by_place (there_one states (k, s) i a there)
        where
          by_place : (slice_get states i ≡ Some a) ⊎ ((i ≡ length states) × (◌≡◌ {A = ℕ × State} (k, s) a)) → (keeps a.0 ≡ true) × (table a.0 ≡ Some a.1)
          by_place (inl early) = some.each i a early
          by_place (inr (last, same)) = subst (λ (p : ℕ × State). (keeps p.0 ≡ true) × (table p.0 ≡ Some p.1)) same (is, stood)

      rising : (i j : ℕ) (a b : ℕ × State) → i < j → slice_get (states ++ (k, s) ∷ []) i ≡ Some a → slice_get (states ++ (k, s) ∷ []) j ≡ Some b → a.0 < b.0
      rising i j a b lt here there = by_place (there_one states (k, s) i a here) (there_one states (k, s) j b there)
        where
          by_place : (slice_get states i ≡ Some a) ⊎ ((i ≡ length states) × (◌≡◌ {A = ℕ × State} (k, s) a)) →
              (slice_get states j ≡ Some b) ⊎ ((j ≡ length states) × (◌≡◌ {A = ℕ × State} (k, s) b)) → a.0 < b.0
          by_place (inl early) (inl late) = some.rising i j a b lt early late
          by_place (inl early) (inr (last, same)) = let less = some.below i a early in let e = ap (λ (p : ℕ × State). p.0) same in omega (arith, less, e)
          by_place (inr (last, same)) (inl late) = absurd (let within = slice_get_within states j b late in omega (arith, lt, last, within))
          by_place (inr (last, same)) (inr (end, also)) = absurd (omega (arith, lt, last, end))

      all : (at : ℕ) (t : State) → at < k + 1 → keeps at ≡ true → table at ≡ Some t → (i : ℕ) × (slice_get (states ++ (k, s) ∷ []) i ≡ Some (at, t))
      all at t lt kept stands = by_place (cases_eq at k)
        where
          by_place : (at ≡ k) ⊎ (at ≡ k → ⊥) → (i : ℕ) × (slice_get (states ++ (k, s) ∷ []) i ≡ Some (at, t))
          by_place (inl same) =
              let one : s ≡ t = same_Some s t (sym stood ∙ sym (ap table same) ∙ stands) in
              (length states, rw (same, ← one) (there_last states (k, s)))
          by_place (inr other) = let early = some.all at t (omega (arith, lt, other)) kept stands in (early.0, there_first states ((k, s) ∷ []) early.0 (at, t) early.1)

no_state_past : (states : List (Option State)) (at : ℕ) (s : State) → length states ≤ at → table_of states at ≡ Some s → ⊥
no_state_past states at s past is = let none : table_of states at ≡ None = ap (option_and_then (λ x. x)) (slice_get_past states at past) in let no : None ≡ Some s = sym none ∙ is in cc

pub some_all : (keeps : ℕ → Bool) (slots : List (Option State)) (k : ℕ) (states : List (ℕ × State)) → length slots ≤ k →
    AreSome keeps (table_of slots) k states → AreStatesOf keeps (table_of slots) states
some_all keeps slots k states end some = record { rising = some.rising; each = some.each; all = λ at s is stood. by_place at s is stood (cases_lt at k) }
  where
    by_place : (at : ℕ) (s : State) → keeps at ≡ true → table_of slots at ≡ Some s → (at < k) ⊎ (k ≤ at) → (i : ℕ) × (slice_get states i ≡ Some (at, s))
    by_place at s is stood (inl lt) = some.all at s lt is stood
    by_place at s is stood (inr past) = absurd (no_state_past slots at s (omega (arith, end, past)) stood)
