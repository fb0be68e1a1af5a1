-- What j, cj and stopp make of a state that fits.
use Rattle.std.proofs.Common.{◌≡◌, ℕ, ◌^◌, ◌<◌, Bool, true, false, ◌==◌, nat_eq, if◌then◌else◌, ℤ, pos, ◌+ℤ◌, Option, Some, None, Ok, refl, sym, ap, ◌∙◌, subst, arith}
use Rattle.std.proofs.lemmas.Bool.Decides.{nat_tests}
use Rattle.std.specs.Option.{option_and_then}
use Rattle.tp_decode.specs.declared.instr.Instr.TheVariants.{Jump, Cj, Stopp}
use Rattle.tp_image.specs.Image.{ImageValue}
use Rattle.tp_flow.specs.declared.edge.Edge.{Edge}
use Rattle.tp_flow.specs.declared.edge.Edge.TheVariants.{Next, Taken}
use Rattle.tp_step.specs.State.{State as Machine, descheduled as machine_descheduled, pop as machine_pop}
use Rattle.tp_step.specs.Effects.{effect, go}
use Rattle.tp_step.specs.Runs.{has_ended}
use Rattle.tp_state.specs.declared.kind.Kind.TheVariants as kind
use Rattle.tp_state.specs.declared.state.State.{State}
use Rattle.tp_state.specs.declared.fault.StateCode.TheVariants.{S9}
use Rattle.tp_state.specs.Kinds.{exactly}
use Rattle.tp_state.specs.Rules.{rule, one_number, set_areg}
use Rattle.tp_state.specs.Fits.{KindFits, FitsAmong}
use Rattle.tp_state.proofs.Passing.{past_is, held, same_Ok}
use Rattle.tp_state.proofs.KindLemmas.{exactly_fits, number_is, one_number_is}
use Rattle.tp_state.proofs.Makes.{Makes, one_there, registers_fit, registers_made}
use Rattle.tp_state.proofs.RestLemmas.{rested, rests, rest, fits_at}

-- one step after another, on states
pub gone_there : {X : Type 0} (g : Machine → X) (o : Option Machine) (s' : Machine) → o ≡ Some s' → option_and_then (λ s. Some (g s)) o ≡ Some (g s')
gone_there g o s' is = rw is

module _ (image : ImageValue) (around : ℕ → Bool) (next : ℕ) (t : State) (s : Machine) (f : FitsAmong image around next t s) (at : ℕ) (t' : State) where
  pub jump_makes : (n : ℤ) (to : ℕ) (e : Edge) → pos next +ℤ n ≡ pos to → rule image at next (Jump n) e t ≡ Ok t' → Makes image around None to (Jump n) t' s
  unfolding rule effect
  jump_makes n to e target ok =
      rest image around next t s f t' ok λ free fits turns same. record {
        end = go n (rested s);
        made = gone_there (go n) (machine_descheduled image s) (rested s) (rests image around next t s f);
        fits = fits_at image around next to t' (rested s) (s.iptr +ℤ n) (ap (λ z. z +ℤ n) f.place.iptr ∙ target) fits;
        turns = turns;
      }

  -- cj looks at a number
  pub cj_looks : {P : Type 0} (n : ℤ) (e : Edge) → rule image at next (Cj n) Next t ≡ Ok t' → ((v : ℕ) → s.areg ≡ Some v → v < 2 ^ 32 → P) → P
  unfolding rule
  cj_looks n e ok look =
      past_is (one_number t) _ t' ok λ a a_is ok.
      one_number_is image t a a_is λ a_is.
      number_is image t.a s.areg a a_is f.registers.a λ v v_is in_a. look v v_is in_a.word

  pub cj_stays : (n : ℤ) (v : ℕ) → s.areg ≡ Some v → (v ≡ 0 → ⊥) → rule image at next (Cj n) Next t ≡ Ok t' → Makes image around None next (Cj n) t' s
  unfolding rule effect
  cj_stays n v v_is some ok =
      past_is (one_number t) _ t' ok λ a a_is ok.
      let test : nat_eq v 0 ≡ false = grind (arith, nat_tests) in
      registers_made image around next t s f (Cj n) t' t.b t.c kind.Undef s.breg s.creg None s.error
      (one_there (λ a. if a == 0 then go n s else machine_pop s) s.areg v v_is ∙ ap (λ b. Some (if b then go n s else machine_pop s)) test) ok f.registers.b f.registers.c tt

  pub cj_goes : (n : ℤ) (to : ℕ) → s.areg ≡ Some 0 → pos next +ℤ n ≡ pos to → rule image at next (Cj n) Taken t ≡ Ok t' → Makes image around None to (Cj n) t' s
  unfolding rule effect
  cj_goes n to is target ok =
      past_is (one_number t) _ t' ok λ a a_is ok.
      let zero_fits : KindFits image (exactly (pos 0)) s.areg = subst (KindFits image (exactly (pos 0))) (sym is) (exactly_fits image (pos 0) 0 (omega arith) refl) in
      let fits = registers_fit image around next t s f (exactly (pos 0)) t.b t.c s.areg s.breg s.creg s.error zero_fits f.registers.b f.registers.c in
      record {
        end = go n s;
        made = one_there (λ a. if a == 0 then go n s else machine_pop s) s.areg 0 is;
        fits = subst (λ u. FitsAmong image around to u (go n s)) (same_Ok (set_areg (exactly (pos 0)) t) t' ok)
            (fits_at image around next to (set_areg (exactly (pos 0)) t) s (s.iptr +ℤ n)
            (ap (λ z. z +ℤ n) f.place.iptr ∙ target) fits);
        turns = λ l row is row_is. refl;
      }

  -- stopp stops the worker after its result
  pub stopp_stops : (e : Edge) → rule image at next Stopp e t ≡ Ok t' → (end : Machine) × (effect image Stopp s ≡ Some end) × (has_ended end ≡ true)
  unfolding rule effect
  stopp_stops e ok =
      held S9 (t.phase == 2) _ t' ok λ after_result ok.
      let test : (s.phase == 2) ≡ true = ap (λ p. p == 2) f.phase ∙ after_result in
      (record s { stopped = true }, rw test, test)
