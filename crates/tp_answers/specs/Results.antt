-- What the run of a packet gives, as it is written.
use Rattle.std.specs.Prelude.{ℕ, Bool, List}

-- the bytes sent on link 0, the error flag at the end, the instruction bytes executed, and the bytes sent on link 1
pub record RunResult : Type 0 where
  pub result : List ℕ
  pub error : Bool
  pub steps : ℕ
  pub trace : List ℕ

abbrev pub run_result : (result : List ℕ) → (error : Bool) → (steps : ℕ) → (trace : List ℕ) → RunResult
run_result result error steps trace = record { result = result; error = error; steps = steps; trace = trace }
