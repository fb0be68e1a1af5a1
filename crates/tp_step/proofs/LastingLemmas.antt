-- Steps take nothing back.
use Rattle.std.proofs.Common.{◌≡◌, ℕ, ◌+◌, ◌-◌, ◌≤◌, Bool, true, List, [], ◌++◌, length, take, drop, Some, refl, sym, ap, subst, ◌∙◌, arith, append_assoc, append-nil, length-append}
use Rattle.std.specs.Prelude.{option_and_then}
use Rattle.std.proofs.lemmas.List.{take-append-drop}
use Rattle.tp_image.specs.Image.{ImageValue}
use Rattle.tp_step.specs.State.{State}
use Rattle.tp_step.specs.Steps.{steps}
use Rattle.tp_step.specs.Runs.{start, Run, RunsAlone}
use Rattle.tp_step.specs.Lasting.{Begins, Ends, TakesNothingBack}
use Rattle.tp_step.proofs.StepLemmas.{steps_add, within_run, ends_in}
use Rattle.tp_step.proofs.EffectsKeep.{IsKept, steps_keep}

begins_more : (first all more : List ℕ) → Begins first all → Begins first (all ++ more)
begins_more first all more b = record { rest = b.rest ++ more; is = ap (λ xs. xs ++ more) b.is ∙ append_assoc first b.rest more }

begins_same : (all : List ℕ) → Begins all all
begins_same all = record { rest = []; is = sym (append-nil all) }

pub begins_length : (first all : List ℕ) → Begins first all → length first ≤ length all
begins_length first all b = omega (arith, ap length b.is, length-append first b.rest)

ends_less : (n : ℕ) (last all : List ℕ) → Ends last all → Ends (drop n last) all
ends_less n last all e = record {
  taken = e.taken ++ take n last;
  is = e.is ∙ ap (λ xs. e.taken ++ xs) (sym (take-append-drop n last)) ∙ sym (append_assoc e.taken (take n last) (drop n last));
}

pub ends_length : (last all : List ℕ) → Ends last all → length last ≤ length all
ends_length last all e = omega (arith, ap length e.is, length-append e.taken last)

-- what has become of the error flag, the phase, the bytes to come, those sent and those traced
record HasLasted (before : State) (error : Bool) (phase : ℕ) (to_come sent traced : List ℕ) : Type 0 where
  flag : before.error ≡ true → error ≡ true
  phase_up : before.phase ≤ phase
  left : Ends to_come before.to_come
  result : Begins before.sent sent
  trace : Begins before.traced traced

same_lasts : (s : State) → HasLasted s s.error s.phase s.to_come s.sent s.traced
same_lasts s = record { flag = λ is. is; phase_up = omega arith; left = record { taken = []; is = refl }; result = begins_same s.sent; trace = begins_same s.traced }

lasts : (image : ImageValue) (before : State) → IsKept image (HasLasted before)
lasts image before = record {
  flag = λ e p c r w h. record { flag = λ is. refl; phase_up = h.phase_up; left = h.left; result = h.result; trace = h.trace };
  packet = λ e c r w k long there h. record { flag = h.flag; phase_up = omega (arith, h.phase_up); left = ends_less k c before.to_come h.left; result = h.result; trace = h.trace };
  result = λ e c r w bytes long h. record { flag = h.flag; phase_up = omega (arith, h.phase_up); left = h.left; result = begins_more before.sent r bytes h.result; trace = h.trace };
  trace = λ e p c r w bytes h. record { flag = h.flag; phase_up = h.phase_up; left = h.left; result = h.result; trace = begins_more before.traced w bytes h.trace };
}

pub steps_last : (image : ImageValue) (n : ℕ) (s t : State) → steps image n s ≡ Some t → TakesNothingBack s t
steps_last image n s t leads =
    let lasted : HasLasted s t.error t.phase t.to_come t.sent t.traced = steps_keep image (HasLasted s) (lasts image s) n s t leads (same_lasts s) in
    record { flag = lasted.flag; sent = lasted.result; traced = lasted.trace; to_come = lasted.left; phase = lasted.phase_up }

-- what a state on the way of a packet's run has sent, the run sends first
pub sends_first : (image : ImageValue) (packet : List ℕ) (run : Run) → RunsAlone image packet run →
    (n : ℕ) (s : State) → steps image n (start image packet) ≡ Some s → Begins s.sent run.result ×
    Begins s.traced run.trace
sends_first image packet run alone n s leads =
    let last = ends_in image packet run alone in
    let within : n ≤ run.steps = within_run image packet run s alone record { count = n; leads = leads } in
    let count : n + (run.steps - n) ≡ run.steps = omega arith in
    let rest : steps image (run.steps - n) s ≡ Some last.0 =
    sym (steps_add image n (run.steps - n) (start image packet) ∙ ap (option_and_then (steps image (run.steps - n))) leads)
    ∙ ap (λ k. steps image k (start image packet)) count
    ∙ last.1.leads
    in
    let lasted = steps_last image (run.steps - n) s last.0 rest in
    (subst (Begins s.sent) (sym (ap (λ (r : Run). r.result) last.1.gives)) lasted.sent, subst (Begins s.traced) (sym (ap (λ (r : Run). r.trace) last.1.gives)) lasted.traced)
