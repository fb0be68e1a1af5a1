-- Places to deschedule: registers and the five words below Wptr become undefined.
use Rattle.std.proofs.Common.{◌≡◌, ℕ, ◌-◌, ◌<◌, ◌≤◌, Bool, true, ℤ, pos, replicate, Some, None, Ok, subst, arith}
use Rattle.std.proofs.lemmas.Bool.Decides.{nat_tests}
use Rattle.tp_image.specs.Image.{ImageValue}
use Rattle.tp_step.specs.Memory.{undefined}
use Rattle.tp_step.specs.State.{State as Machine, in_workspace, no_registers as machine_no_registers, descheduled as machine_descheduled}
use Rattle.tp_state.specs.declared.cell.Cell.TheVariants as cell
use Rattle.tp_state.specs.declared.state.State.{State}
use Rattle.tp_state.specs.declared.fault.StateCode.TheVariants.{S5}
use Rattle.tp_state.specs.CellRules.{with_cells, are_free}
use Rattle.tp_state.specs.Rules.{below_wptr, suspended, descheduled}
use Rattle.tp_state.specs.Fits.{FitsAmong, word_address}
use Rattle.tp_state.proofs.Passing.{held, same_Ok}
use Rattle.tp_state.proofs.WordsChange.{Change}
use Rattle.tp_state.proofs.StretchLemmas.{undefined_taken}
use Rattle.tp_state.proofs.ByteLemmas.{undefined_small}
use Rattle.tp_state.proofs.Makes.{KeepsTurns, words_fit, words_turns}

-- the machine after a place to deschedule
abbrev pub rested : Machine → Machine
rested s = machine_no_registers (record s { memory = undefined s.memory (s.wptr - 20) 20 })

-- the five words below Wptr are words of the workspace
pub five_below : (image : ImageValue) (x wptr : ℕ) → 5 ≤ x → x < image.workspace → wptr ≡ word_address x → in_workspace image (wptr - 20) 20 ≡ true
five_below image x wptr roomy inside is = grind (arith, nat_tests)

pub rested_is : (image : ImageValue) (x : ℕ) (s : Machine) → 5 ≤ x → x < image.workspace → s.wptr ≡ word_address x → machine_descheduled image s ≡ Some (rested s)
unfolding machine_descheduled
rested_is image x s roomy inside wptr = rw (five_below image x s.wptr roomy inside wptr)

module _ (image : ImageValue) (around : ℕ → Bool) (at : ℕ) (t : State) (s : Machine) (f : FitsAmong image around at t s) where
  pub rests : machine_descheduled image s ≡ Some (rested s)
  rests = rested_is image t.wptr s f.place.roomy f.place.inside f.place.wptr

  module _ (free : are_free (below_wptr t) ≡ true) where
    rest_change : Change image.loops image.workspace t.cells (with_cells t.cells (t.wptr - 5) (replicate 5 cell.Undef)) s.memory (undefined s.memory (s.wptr - 20) 20)
    rest_change =
        let roomy = f.place.roomy in
        let inside = f.place.inside in
        let from : word_address (t.wptr - 5) ≡ s.wptr - 20 = omega (arith, f.place.wptr) in
        subst (λ a. Change image.loops image.workspace t.cells (with_cells t.cells (t.wptr - 5) (replicate 5 cell.Undef)) s.memory (undefined s.memory a 20)) from
        (undefined_taken image.loops image.workspace t.cells s.memory (t.wptr - 5) 5 (omega (arith, f.words.sized)) free)

    pub suspended_fits : FitsAmong image around at (suspended t) (rested s)
    suspended_fits =
        let w = words_fit image around at t s f (with_cells t.cells (t.wptr - 5) (replicate 5 cell.Undef))
        (undefined s.memory (s.wptr - 20) 20) rest_change (undefined_small s.memory (s.wptr - 20) 20
        f.bytes.memory) in
        record {
          place = record { running = w.place.running; iptr = w.place.iptr; oreg = w.place.oreg; wptr = w.place.wptr; roomy = w.place.roomy; inside = w.place.inside };
          phase = w.phase;
          registers = record { a = tt; b = tt; c = tt };
          words = w.words;
          bytes = record { memory = w.bytes.memory; packet = w.bytes.packet };
          packet = w.packet;
          loops = w.loops;
        }

    pub rest_turns : KeepsTurns image.loops around None s.memory (rested s).memory
    rest_turns = words_turns image around at t s f (with_cells t.cells (t.wptr - 5) (replicate 5 cell.Undef)) (undefined s.memory (s.wptr - 20) 20) rest_change

  -- the rule of descheduling refused nothing
  pub rest : {P : Type 0} (t' : State) → descheduled t ≡ Ok t' →
      (are_free (below_wptr t) ≡ true → FitsAmong image around at t' (rested s) →
      KeepsTurns image.loops around None s.memory (rested s).memory → suspended t ≡ t' → P) → P
  unfolding descheduled
  rest t' ok go =
      held S5 (are_free (below_wptr t)) _ t' ok λ free ok.
      let same = same_Ok (suspended t) t' ok in
      go free (subst (λ u. FitsAmong image around at u (rested s)) same (suspended_fits free)) (rest_turns free) same

-- a state that fits, at another place
pub fits_at : (image : ImageValue) (around : ℕ → Bool) (at to : ℕ) (t : State) (s : Machine) (z : ℤ) → z ≡ pos to → FitsAmong image around at t s → FitsAmong image around to t (record s { iptr = z })
fits_at image around at to t s z is f = record {
  place = record { running = f.place.running; iptr = is; oreg = f.place.oreg; wptr = f.place.wptr; roomy = f.place.roomy; inside = f.place.inside };
  phase = f.phase;
  registers = record { a = f.registers.a; b = f.registers.b; c = f.registers.c };
  words = f.words;
  bytes = record { memory = f.bytes.memory; packet = f.bytes.packet };
  packet = f.packet;
  loops = f.loops;
}
