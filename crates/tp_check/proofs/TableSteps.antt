-- What a table becomes where a state reaches an address.
use Rattle.std.proofs.Common.{◌≡◌, ℕ, zero, suc, ◌<◌, ◌==◌, nat_eq, if◌then◌else◌, Bool, true, false, List, [], ◌∷◌}
use Rattle.std.proofs.Common.{length, replicate, ◌++◌, slice_set, slice_index_or, Option, Some, None, Result, Ok, Err}
use Rattle.std.proofs.Common.{refl, sym, ap, ◌∙◌, subst, arith}
use mathlib.Core.Path.{fun_ext}
use Rattle.std.specs.Option.{option_and_then}
use Rattle.std.proofs.lemmas.Bool.Decides.{nat_tests}
use Rattle.std.specs.Prelude.{IfSome}
use Rattle.std.proofs.Common.{length-set, get_or-set_same, inl, inr, subst}
use Rattle.std.proofs.lemmas.Option.{same_Some}
use Rattle.std.proofs.lemmas.List.{set-get_or, length-replicate}
use Rattle.tp_image.specs.Image.{ImageValue}
use Rattle.tp_state.specs.declared.state.State.{State}
use Rattle.tp_state.specs.declared.fault.StateCode.{StateCode}
use Rattle.tp_state.specs.Order.{IsBelow, join, ReportsChange}
use Rattle.tp_state.specs.declared.fault.StateFault.{StateFault}
use Rattle.tp_state.specs.declared.fault.StateFault.TheVariants.{Refused, Memory}
use Rattle.tp_state.specs.Answer.{◌>>=◌}
use Rattle.tp_state.specs.Entry.{entry}
use Rattle.tp_check.specs.Tables.{table_of, with_state, no_states}
use Rattle.tp_check.specs.Passes.{enter, first_table, with_place, meeting_if_any}
use Rattle.tp_check.specs.Rising.{Moves, state_height, table_height}
use Rattle.tp_check.specs.Arrivals.{Gives}
use Rattle.tp_check.proofs.Entering.{Becomes, Entered, entered}
use Rattle.tp_check.proofs.Heights.{Sinks, HasWords, state_sinks, state_light, table_sinks}

-- an answer is the definition's where a state reaches an address, or a want of memory
abbrev pub GivesState : {X : Type 0} → Result X StateFault → Option State → Result State StateFault → Type 0
GivesState (Ok x) new wanted = (t : State) × (new ≡ Some t) × (wanted ≡ Ok t)
GivesState (Err (Refused code place)) new wanted = wanted ≡ Err (Refused code place)
GivesState (Err Memory) new wanted = Unit {0}

-- ---- reading

pub table_at : (states : List (Option State)) (i : ℕ) → i < length states → table_of states i ≡ slice_index_or states i None
table_at [] i h = absurd (omega (arith, h))
table_at (o ∷ states) zero h = whole o
  where
    whole : (o : Option State) → option_and_then (λ s. s) (Some o) ≡ o
    whole None = refl
    whole (Some s) = refl
table_at (o ∷ states) (suc i) h = table_at states i (omega (arith, h))

-- ---- writing

set_there : (states : List (Option State)) (i : ℕ) (t : State) (x : ℕ) → i < length states → table_of (slice_set states i (Some t)) x ≡ with_state i t (table_of states) x
set_there [] i t x h = absurd (omega (arith, h))
set_there (o ∷ states) zero t zero h = refl
set_there (o ∷ states) zero t (suc x) h = let other : nat_eq (suc x) 0 ≡ false = grind (arith, nat_tests) in rw other refl
set_there (o ∷ states) (suc i) t zero h = let other : nat_eq 0 (suc i) ≡ false = grind (arith, nat_tests) in rw other refl
set_there (o ∷ states) (suc i) t (suc x) h =
    let same : nat_eq (suc x) (suc i) ≡ nat_eq x i = grind (arith, nat_tests) in
    set_there states i t x (omega (arith, h)) ∙ sym (ap (λ b. if b then Some t else table_of states x) same)

pub table_set : (states : List (Option State)) (i : ℕ) (t : State) → i < length states → table_of (slice_set states i (Some t)) ≡ with_state i t (table_of states)
table_set states i t h = fun_ext λ x. set_there states i t x h

-- ---- a state reaches an address

pub enter_gives : (states : List (Option State)) (i : ℕ) (there new : Option State) (s : State)
    (r : Result Bool StateFault) → i < length states → there ≡ slice_index_or states i None →
    GivesState r new (with_place i (meeting_if_any there s)) →
    Gives r (table_of (slice_set states i new)) (enter (Some i) s (table_of states))
unfolding enter
enter_gives states i there new s r h is given = by_answer r (with_place i (meeting_if_any there s)) (ap (λ o. with_place i (meeting_if_any o s)) (table_at states i h ∙ sym is)) given
  where
    by_answer : (r : Result Bool StateFault) (wanted : Result State StateFault) →
        with_place i (meeting_if_any (table_of states i) s) ≡ wanted → GivesState r new wanted →
        Gives r (table_of (slice_set states i new)) (with_place i (meeting_if_any (table_of states i) s)
        >>= (λ t. Ok (with_state i t (table_of states))))
    by_answer (Ok x) wanted e (t, new_is, gives) = ap (λ r. r >>= (λ t. Ok (with_state i t (table_of states))))
        (e ∙ gives) ∙ ap Ok (sym (table_set states i t h) ∙ ap (λ o. table_of (slice_set states i o)) (sym new_is))
    by_answer (Err (Refused code place)) wanted e gives = ap (λ r. r >>= (λ t. Ok (with_state i t (table_of states)))) (e ∙ gives)
    by_answer (Err Memory) wanted e gives = tt

-- a list reports a change where an address does
set_tells : (states : List (Option State)) (i : ℕ) (there new : Option State) (moved : Bool) → i < length states →
    there ≡ slice_index_or states i None → ReportsChange moved there new →
    ReportsChange moved states (slice_set states i new)
set_tells states i there new moved h is reports = record {
  stays = λ same. ap (slice_set states i) (reports.stays same ∙ is) ∙ set-get_or states i None;
  moves = λ differs same. reports.moves differs (sym (get_or-set_same states i new None h) ∙ ap (λ items. slice_index_or items i None) same ∙ sym is);
}

pub some_tells : (moved : Bool) (t new : State) → ReportsChange moved t new → ReportsChange moved (Some t) (Some new)
some_tells moved t new reports = record { stays = λ same. ap Some (reports.stays same); moves = λ differs same. reports.moves differs (same_Some new t same) }

pub first_tells : (s : State) → ReportsChange true None (Some s)
first_tells s = record { stays = λ e. absurd cc; moves = λ e same. cc }

same_lists : (xs ys : List (Option State)) → length xs ≡ length ys → ((x : ℕ) → table_of xs x ≡ table_of ys x) → xs ≡ ys
same_lists [] [] sized each = refl
same_lists [] (y ∷ ys) sized each = absurd (omega (arith, sized))
same_lists (x ∷ xs) [] sized each = absurd (omega (arith, sized))
same_lists (x ∷ xs) (y ∷ ys) sized each =
    let first : x ≡ y = sym (table_at (x ∷ xs) 0 (omega arith)) ∙ each 0 ∙ table_at (y ∷ ys) 0 (omega arith) in
    let others : xs ≡ ys = same_lists xs ys (omega (arith, sized)) (λ n. each (suc n)) in
    ap (λ o. o ∷ xs) first ∙ ap (λ items. y ∷ items) others

-- where a state reaches an address, the table is as before or has fewer changes left
pub enter_sinks : (image : ImageValue) (states : List (Option State)) (to : ℕ) (s t : State) → to < length states →
    HasWords s → length s.cells ≡ image.workspace → IfSome (table_of states to) (λ u. length s.cells ≡ length u.cells) →
    Becomes (table_of states to) s t
    → Sinks (table_height image) states (slice_set states to (Some t))
enter_sinks image states to s t inside words long sized becomes = by_state (table_of states to) refl sized becomes
  where
    there_is : slice_index_or states to None ≡ table_of states to
    there_is = sym (table_at states to inside)

    by_state : (o : Option State) → table_of states to ≡ o → IfSome o (λ u. length s.cells ≡ length u.cells) → Becomes o s t → Sinks (table_height image) states (slice_set states to (Some t))
    by_state None is alike same = inr (table_sinks image states to (Some t) inside (rw (there_is ∙ is, same) (state_light image s words long)))
    by_state (Some u) is alike (wptr, phase, same) = by_sink (state_sinks u s words alike)
      where
        by_sink : Sinks state_height u (join u s) → Sinks (table_height image) states (slice_set states to (Some t))
        by_sink (inl stays) = inl (ap (λ o. slice_set states to o) (ap Some (same ∙ stays) ∙ sym (there_is ∙ is)) ∙ set-get_or states to None)
        by_sink (inr less) = inr (table_sinks image states to (Some t) inside (rw (there_is ∙ is, same) less))

-- so a list that reports a change has fewer changes left
pub enter_moves : (image : ImageValue) (moved : Bool) (old new : List (Option State)) (to : ℕ) (s : State) →
    to < length old → length new ≡ length old → enter (Some to) s (table_of old) ≡ Ok (table_of new) →
    ReportsChange moved old new → HasWords s → length s.cells ≡ image.workspace
    → IfSome (table_of old to) (λ u. length s.cells ≡ length u.cells) → Moves image moved old new
enter_moves image moved old new to s inside sized gives reports words long alike =
    record {
      sized = sized;
      stays = reports.stays;
      falls = λ differs. by_sink differs
          (subst (Sinks (table_height image) old) (sym set) sinks);
    }
  where
    it : Entered (table_of old) to s (table_of new)
    it = entered (table_of old) to s (table_of new) gives

    set : new ≡ slice_set old to (Some it.state)
    set = same_lists new (slice_set old to (Some it.state)) (sized ∙ sym (length-set old to (Some it.state))) (λ x. ap (λ (t : ℕ → Option State). t x) (it.is ∙ sym (table_set old to it.state inside)))

    sinks : Sinks (table_height image) old (slice_set old to (Some it.state))
    sinks = enter_sinks image old to s it.state inside words long alike it.becomes

    by_sink : moved ≡ true → Sinks (table_height image) old new → table_height image new < table_height image old
    by_sink differs (inl same) = absurd (reports.moves differs same)
    by_sink differs (inr less) = less

-- ---- a state is joined to another

same_test : (n m : ℕ) → n ≡ m → (n == m) ≡ true
same_test n m e = grind (arith, nat_tests)

pub meets_agreeing : (to : ℕ) (t s other : State) → IsBelow t s → IsBelow t other → with_place to (meeting_if_any (Some s) other) ≡ Ok (join s other)
meets_agreeing to t s other below also = rw (same_test s.wptr other.wptr (sym below.wptr ∙ also.wptr), same_test s.phase other.phase (sym below.phase ∙ also.phase)) refl

slot_is : (states : List (Option State)) (i : ℕ) (d o : Option State) → i < length states → slice_index_or states i d ≡ o → o ≡ slice_index_or states i None
slot_is [] i d o h is = absurd (omega (arith, h))
slot_is (x ∷ states) zero d o h is = sym is
slot_is (x ∷ states) (suc i) d o h is = slot_is states i d o (omega (arith, h)) is

module _ (states : List (Option State)) (i : ℕ) (inside : i < length states) (d there : Option State) (is : slice_index_or states i d ≡ there) where
  pub stands : table_of states i ≡ there
  stands = table_at states i inside ∙ sym (slot_is states i d there inside is)

  module _ (s new : State) where
    pub comes_to : with_place i (meeting_if_any there s) ≡ Ok new → enter (Some i) s (table_of states) ≡ Ok (table_of (slice_set states i (Some new)))
    comes_to e = enter_gives states i there (Some new) s (Ok true) inside (slot_is states i d there inside is) (new, refl, e)

    pub changes : (moved : Bool) → ReportsChange moved there (Some new) → ReportsChange moved states (slice_set states i (Some new))
    changes moved reports = set_tells states i there (Some new) moved inside (slot_is states i d there inside is) reports

  pub refused_there : (s : State) (code : StateCode) → with_place i (meeting_if_any there s) ≡ Err (Refused code i) → enter (Some i) s (table_of states) ≡ Err (Refused code i)
  refused_there s code e = enter_gives states i there there s (Err (Refused code i)) inside (slot_is states i d there inside is) e

-- what stands behind an address that takes something else
pub set_before : (states : List (Option State)) (i x : ℕ) (o : Option State) → i < x → table_of (slice_set states i o) x ≡ table_of states x
set_before [] i x o lt = refl
set_before (y ∷ states) i zero o lt = absurd (omega (arith, lt))
set_before (y ∷ states) zero (suc x) o lt = refl
set_before (y ∷ states) (suc i) (suc x) o lt = set_before states i x o (omega (arith, lt))

-- ---- no states

pub one_more : {A : Type 0} (n : ℕ) (x : A) → replicate (suc n) x ≡ replicate n x ++ x ∷ []
one_more zero x = refl
one_more (suc n) x = ap (λ xs. x ∷ xs) (one_more n x)

no_state : (n x : ℕ) → table_of (replicate n None) x ≡ None
no_state zero x = refl
no_state (suc n) zero = refl
no_state (suc n) (suc x) = no_state n x

pub first_is : (image : ImageValue) (places : ℕ) (s : State) → 0 < places → s ≡ entry image → table_of (slice_set (replicate places None) 0 (Some s)) ≡ first_table image
first_is image places s some is =
    table_set (replicate places None) 0 s (omega (arith, some, length-replicate {A = Option State} places None))
    ∙ ap (λ table. with_state 0 s table) (fun_ext λ x. no_state places x)
    ∙ ap (λ t. with_state 0 t no_states) is
