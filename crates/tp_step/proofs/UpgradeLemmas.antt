-- Steps of an image are steps of the upgraded one.
use Rattle.std.proofs.Common.{◌≡◌, ℕ, zero, suc, ◌+◌, Bool, true, false, ◌&&◌, not, if◌then◌else◌, pos, List, Option, Some, None, refl, sym, ap, ◌∙◌, subst}
use Rattle.std.specs.Prelude.{option_and_then, ◌+ℤ◌}
use Rattle.tp_words.specs.Words.{signed}
use Rattle.tp_decode.specs.Spelling.{function_of, digit_of, is_pfix, is_nfix}
use Rattle.tp_decode.specs.Table.{instruction}
use Rattle.tp_decode.specs.declared.instr.Instr.{Instr}
use Rattle.tp_decode.specs.declared.instr.Instr.TheVariants.{MoveBytes}
use Rattle.tp_image.specs.declared.image.Version.{Version}
use Rattle.tp_image.specs.declared.image.Version.TheVariants.{One, Two}
use Rattle.tp_image.specs.Image.{ImageValue}
use Rattle.tp_image.specs.Upgrade.{upgraded}
use Rattle.tp_step.specs.Maybe.{◌>>=◌, ◌>>◌, only_if}
use Rattle.tp_step.specs.Memory.{with_bytes, bytes_at}
use Rattle.tp_step.specs.State.{State, load, store, descheduled, no_registers}
use Rattle.tp_step.specs.Effects.{effect, has_move, may_move}
use Rattle.tp_step.specs.Steps.{code_byte, performed, executed, step, steps}
use Rattle.tp_step.specs.Runs.{start, has_ended, Run, run_of, RunsAlone}

-- an image of version 2 stays as it is
pub upgraded_two : (image : ImageValue) → image.version ≡ Two → upgraded image ≡ image
upgraded_two image is = ap (λ v. record image { version = v }) (sym is)

-- version 1 has no move
no_move : (image : ImageValue) (s : State) → image.version ≡ One → effect image MoveBytes s ≡ None
unfolding effect
no_move image s is = by_registers s.areg s.breg s.creg
  where
    by_registers : (a b c : Option ℕ) → (a >>= λ n. b >>= λ target. c >>= λ source. only_if
        (has_move image.version && may_move image n target source) >>
        (bytes_at s.memory source n >>= λ bytes. Some (no_registers
        (record s { memory = with_bytes s.memory target bytes })))) ≡ None
    by_registers None b c = refl
    by_registers (Some n) None c = refl
    by_registers (Some n) (Some target) None = refl
    by_registers (Some n) (Some target) (Some source) = rw is refl

effect_upgraded : (image : ImageValue) (instr : Instr) (s t : State) → image.version ≡ One → effect image instr s ≡ Some t → effect (upgraded image) instr s ≡ Some t
unfolding effect load store descheduled
effect_upgraded image MoveBytes s t is e = absurd (let none : ◌≡◌ {A = Option State} None (Some t) = sym (no_move image s is) ∙ e in cc)
effect_upgraded image instr s t is e = e

step_upgraded : (image : ImageValue) (s t : State) → image.version ≡ One → step image s ≡ Some t → step (upgraded image) s ≡ Some t
unfolding step
step_upgraded image s t is = by_runs (not s.stopped) (code_byte image.code s.iptr)
  where
    ahead : State
    ahead = record s { iptr = s.iptr +ℤ pos 1 }

    by_instruction : (o : Option Instr) → option_and_then (λ instr. effect image instr (record ahead { oreg = 0 })) o ≡
        Some t → option_and_then (λ instr. effect (upgraded image) instr (record ahead { oreg = 0 })) o ≡ Some t
    by_instruction None e = cc
    by_instruction (Some instr) e = effect_upgraded image instr (record ahead { oreg = 0 }) t is e

    by_test : (byte oreg : ℕ) (p q : Bool) (u v : State) →
        (if p then Some u else if q then Some v else performed image (function_of byte) (signed oreg) ahead) ≡ Some t →
        (if p then Some u else if q then Some v else performed (upgraded image) (function_of byte) (signed oreg) ahead) ≡
        Some t
    by_test byte oreg true q u v e = e
    by_test byte oreg false true u v e = e
    by_test byte oreg false false u v e = by_instruction (instruction (function_of byte) (signed oreg)) e

    by_runs : (runs : Bool) (o : Option ℕ) → (only_if runs >> option_and_then
        (λ byte. executed image byte (s.oreg + digit_of byte) ahead) o) ≡ Some t →
        (only_if runs >> option_and_then (λ byte. executed (upgraded image) byte (s.oreg + digit_of byte) ahead) o) ≡ Some
        t
    by_runs false o e = cc
    by_runs true None e = cc
    by_runs true (Some byte) e = by_test byte (s.oreg + digit_of byte) (is_pfix byte) (is_nfix byte) _ _ e

steps_of_one : (image : ImageValue) (n : ℕ) (s t : State) → image.version ≡ One → steps image n s ≡ Some t → steps (upgraded image) n s ≡ Some t
unfolding steps
steps_of_one image zero s t is e = e
steps_of_one image (suc n) s t is e = by_step (λ u. steps_of_one image n u t is) (step image s) refl e
  where
    by_step : ((u : State) → steps image n u ≡ Some t → steps (upgraded image) n u ≡ Some t) → (o : Option State) →
        step image s ≡ o → (o >>= steps image n) ≡ Some t → (step (upgraded image) s >>= steps (upgraded image) n) ≡ Some
        t
    by_step go None here e = cc
    by_step go (Some u) here e = rw (step_upgraded image s u is here) (go u e)

pub steps_upgraded : (image : ImageValue) (n : ℕ) (s t : State) → steps image n s ≡ Some t → steps (upgraded image) n s ≡ Some t
steps_upgraded image n s t e = by_version image.version refl
  where
    by_version : (v : Version) → image.version ≡ v → steps (upgraded image) n s ≡ Some t
    by_version One is = steps_of_one image n s t is e
    by_version Two is = subst (λ i. steps i n s ≡ Some t) (sym (upgraded_two image is)) e

-- the start is the same
start_upgraded : (image : ImageValue) (packet : List ℕ) → start (upgraded image) packet ≡ start image packet
unfolding start
start_upgraded image packet = refl

pub run_upgraded : (image : ImageValue) (packet : List ℕ) (run : Run) → RunsAlone image packet run → RunsAlone (upgraded image) packet run
unfolding run_of
run_upgraded image packet run e = rw (start_upgraded image packet) (by_end (steps image run.steps (start image packet)) refl e)
  where
    ended : State → Option Run
    ended s = only_if (has_ended s) >> Some record { result = s.sent; error = s.error; steps = run.steps; trace = s.traced }

    by_end : (o : Option State) → steps image run.steps (start image packet) ≡ o → (o >>= ended) ≡ Some run → (steps (upgraded image) run.steps (start image packet) >>= ended) ≡ Some run
    by_end None here e = cc
    by_end (Some s) here e = rw (steps_upgraded image run.steps (start image packet) s here) e
