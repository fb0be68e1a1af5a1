-- The calls of a faulty wire, counted no further than the failing one.
use Rattle.std.proofs.Common.{◌≡◌, ◌↔◌, ◌+◌, ℕ, List, [], ◌∷◌, ◌++◌, length, min, nat_le, ◌&&◌, if◌then◌else◌, ap, ◌∙◌, arith}
use Rattle.std.proofs.lemmas.Bool.Decides.{nat_tests}
use Rattle.std.specs.Prelude.{IsTrue, IsErrOf}
use Rattle.tp_link.specs.declared.device.DeviceFault.TheVariants.{Failed}
use Rattle.tp_link.specs.Device.{Answer}
use Rattle.tp_link.specs.FaultyWire.{FaultPlan, new_plan, fails_next, after_call, faults_of}
use Rattle.tp_link.specs.Calls.{AreAnswers}

-- the plan of a wire after n calls
counted : ℕ → ℕ → FaultPlan
counted k n = record { failing_call = k; calls = min n k }

one_more : (k n : ℕ) → after_call (counted k n) ≡ counted k (n + 1)
unfolding counted
one_more k n = ap (λ calls. record { failing_call = k; calls = calls }) (omega arith)

fails : (k n : ℕ) → IsTrue (fails_next (counted k n)) ↔ (n + 1 ≡ k)
unfolding counted
fails k n = (λ h. grind (arith, nat_tests), λ h. grind (arith, nat_tests))

failing_from : (k n : ℕ) (before : List Answer) (answer : Answer) (later : List Answer) (q : FaultPlan)
    → AreAnswers (counted k n) (before ++ answer ∷ later) q → IsErrOf answer Failed ↔ (n + (length before + 1) ≡ k)
unfolding AreAnswers
failing_from k n [] answer later q (next, follows, more) =
    let f = fails k n in
    (λ e. f.0 (follows.failing.0 e), λ e. follows.failing.1 (f.1 e))
failing_from k n (first ∷ before) answer later q (next, follows, more) =
    let rest = failing_from k (n + 1) before answer later q (rw (← one_more k n, ← follows.counted) more) in
    (λ e. omega (arith, rest.0 e), λ e. rest.1 (omega (arith, e)))

counted_from : (k n : ℕ) (answers : List Answer) (q : FaultPlan) → AreAnswers (counted k n) answers q
    → q ≡ counted k (n + length answers)
unfolding AreAnswers
counted_from k n [] q e = e ∙ ap (counted k) (omega arith)
counted_from k n (first ∷ answers) q (next, follows, more) =
    counted_from k (n + 1) answers q (rw (← one_more k n, ← follows.counted) more) ∙ ap (counted k) (omega arith)

begins : (k : ℕ) → new_plan k ≡ counted k 0
unfolding counted
begins k = ap (λ calls. record { failing_call = k; calls = calls }) (omega arith)

pub failing : (k : ℕ) (before : List Answer) (answer : Answer) (later : List Answer) (q : FaultPlan)
    → AreAnswers (new_plan k) (before ++ answer ∷ later) q → IsErrOf answer Failed ↔ (length before + 1 ≡ k)
failing k before answer later q h =
    let all = failing_from k 0 before answer later q (rw (← begins k) h) in
    (λ e. omega (arith, all.0 e), λ e. all.1 (omega (arith, e)))

pub count : (k : ℕ) (answers : List Answer) (q : FaultPlan)
    → AreAnswers (new_plan k) answers q → faults_of q ≡ (if nat_le 1 k && nat_le k (length answers) then 1 else 0)
unfolding counted
count k answers q h = rw (counted_from k 0 answers q (rw (← begins k) h)) (grind (arith, nat_tests))
