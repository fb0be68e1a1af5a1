-- The worker of an acceptable image never goes wrong.
use Rattle.std.proofs.Common.{◌≡◌, ◌⊎◌, inl, inr, ℕ, zero, suc, ◌<◌, ◌≤◌, Bool, true, false, List, Option, Some, None, refl, ap, sym, ◌∙◌, arith}
use Rattle.std.proofs.Math.Logic.{∥∥₁_elim}
use Rattle.std.proofs.lemmas.Bool.{cases_lt}
use Rattle.std.proofs.lemmas.Option.{same_Some}
use Rattle.tp_image.specs.Image.{ImageValue}
use Rattle.tp_step.specs.Maybe.{◌>>=◌, ◌>>◌, only_if}
use Rattle.tp_step.specs.State.{State}
use Rattle.tp_step.specs.Steps.{steps}
use Rattle.tp_step.specs.Runs.{start, has_ended, Run, run_of, RunsAlone}
use Rattle.tp_step.proofs.StepLemmas.{never_stuck}
use Rattle.tp_step.proofs.SentLemmas.{result_length}
use Rattle.tp_accept.specs.Acceptance.{IsAcceptable}
use Rattle.tp_accept.specs.Ending.{EndsWithin, NeverGoesWrong}
use Rattle.tp_accept.proofs.RunEnds.{Ends, ends}

-- a run alone within this many steps
record RunsWithin (image : ImageValue) (budget : ℕ) (packet : List ℕ) : Type 0 where
  run : Run
  alone : RunsAlone image packet run
  within : run.steps ≤ budget

of_run : (image : ImageValue) (budget : ℕ) (packet : List ℕ) → RunsWithin image budget packet → EndsWithin image budget packet
of_run image budget packet r = record {
  run = r.run;
  alone = r.alone;
  within = r.within;
  result = result_length image packet r.run r.alone;
  never_stuck = λ s way. never_stuck image packet r.run s r.alone way;
}

-- what ends is a run alone
runs_within : (image : ImageValue) (budget : ℕ) (packet : List ℕ) → Ends image budget (start image packet) → RunsWithin image budget packet
unfolding run_of
runs_within image budget packet e = record {
  run = record { result = e.end.sent; error = e.end.error; steps = e.count; trace = e.end.traced };
  alone = rw (e.leads, e.ended) refl;
  within = e.within;
}

pub never_goes_wrong : (image : ImageValue) (budget : ℕ) → IsAcceptable image budget → NeverGoesWrong image budget
never_goes_wrong image budget a packet is = of_run image budget packet (runs_within image budget packet (ends image budget a packet is))

-- ---- the same, where no more is known than that the image is acceptable: the run is found by trying each number of steps

steps_of : (image : ImageValue) (packet : List ℕ) (k : ℕ) (run : Run) → run_of image packet k ≡ Some run → run.steps ≡ k
unfolding run_of
steps_of image packet k run = by_end (steps image k (start image packet))
  where
    by_end : (o : Option State) → (o >>= λ s. only_if (has_ended s) >> Some record { result = s.sent; error = s.error; steps = k; trace = s.traced }) ≡ Some run → run.steps ≡ k
    by_end None e = absurd cc
    by_end (Some s) e = by_test (has_ended s) e
      where
        by_test : (b : Bool) → (only_if b >> Some record { result = s.sent; error = s.error; steps = k; trace = s.traced }) ≡ Some run → run.steps ≡ k
        by_test false e = absurd cc
        by_test true e = sym (ap (λ (r : Run). r.steps) (same_Some _ _ e))

-- no run alone within this many steps
abbrev NoRun : ImageValue → ℕ → List ℕ → Type 0
NoRun image n packet = (run : Run) → RunsAlone image packet run → run.steps ≤ n → ⊥

at_step : (image : ImageValue) (packet : List ℕ) (k : ℕ) → RunsWithin image k packet ⊎ (run_of image packet k ≡ None)
at_step image packet k = by_run (run_of image packet k) refl
  where
    by_run : (o : Option Run) → run_of image packet k ≡ o → RunsWithin image k packet ⊎ (run_of image packet k ≡ None)
    by_run None is = inr is
    by_run (Some run) is =
        let count = steps_of image packet k run is in
        inl record { run = run; alone = ap (run_of image packet) count ∙ is; within = omega (arith, count) }

none_at : (image : ImageValue) (packet : List ℕ) (k : ℕ) (run : Run) → run_of image packet k ≡ None → RunsAlone image packet run → run.steps ≡ k → ⊥
none_at image packet k run none alone count =
    let is : run_of image packet k ≡ Some run = ap (run_of image packet) (sym count) ∙ alone in
    let clash : None ≡ Some run = sym none ∙ is in
    cc

tried : (image : ImageValue) (packet : List ℕ) (n : ℕ) → RunsWithin image n packet ⊎ NoRun image n packet
tried image packet zero = by_step (at_step image packet zero)
  where
    by_step : RunsWithin image zero packet ⊎ (run_of image packet zero ≡ None) → RunsWithin image zero packet ⊎ NoRun image zero packet
    by_step (inl r) = inl r
    by_step (inr none) = inr (λ run alone le. none_at image packet zero run none alone (omega arith))
tried image packet (suc n) = by_before (tried image packet n) (at_step image packet (suc n))
  where
    by_before : RunsWithin image n packet ⊎ NoRun image n packet → RunsWithin image (suc n) packet ⊎ (run_of image packet (suc n) ≡ None) → RunsWithin image (suc n) packet ⊎ NoRun image (suc n) packet
    by_before (inl r) here = inl record { run = r.run; alone = r.alone; within = omega (arith, r.within) }
    by_before (inr before) (inl r) = inl r
    by_before (inr before) (inr none) = inr (λ run alone le. by_count run alone le (cases_lt n run.steps))
      where
        by_count : (run : Run) → RunsAlone image packet run → run.steps ≤ suc n → (n < run.steps) ⊎ (run.steps ≤ n) → ⊥
        by_count run alone le (inl last) = none_at image packet (suc n) run none alone (omega arith)
        by_count run alone le (inr earlier) = before run alone earlier

pub never_goes_wrong_of : (image : ImageValue) (budget : ℕ) → ∥ IsAcceptable image budget ∥₁ → NeverGoesWrong image budget
never_goes_wrong_of image budget acceptable packet is = by_tries (tried image packet budget)
  where
    by_tries : RunsWithin image budget packet ⊎ NoRun image budget packet → EndsWithin image budget packet
    by_tries (inl r) = of_run image budget packet r
    by_tries (inr none) =
        let never : ⊥ = ∥∥₁_elim acceptable (hlevel) (λ a. let r = runs_within image budget packet (ends image budget a packet is) in none r.run r.alone r.within) in
        absurd never
