-- The verdict on bytes.
use Rattle.std.specs.Prelude.{ℕ, Bool, true, false, List, Err, ⊤}
use Rattle.tp_image.specs.Image.{ImageValue}
use Rattle.tp_image.specs.Text.{IsTextOf}
use Rattle.tp_accept.specs.Acceptance.{IsAcceptable}
use Rattle.tp_accept.specs.Verdict.{IsAnswer}
use Rattle.tp_accept.specs.declared.refusal.Refusal.TheVariants as refusal
use Rattle.tpw_why.specs.declared.judging.Verdict.{Verdict}
use Rattle.tpw_why.specs.declared.judging.Verdict.TheVariants.{Accepted, Refused}

-- the bytes are an image that may be run, or they are refused so
abbrev pub IsVerdictOn : List ℕ → Verdict → Type 0
IsVerdictOn text (Accepted accepted) = IsTextOf text accepted.image × IsAcceptable accepted.image accepted.budget
IsVerdictOn text (Refused code place) = IsAnswer text (Err (refusal.Refused code place))

-- the bytes are no image that may be run
abbrev pub MayNotBeRun : List ℕ → Type 0
MayNotBeRun text = (image : ImageValue) (budget : ℕ) → IsTextOf text image → ¬ IsAcceptable image budget

-- nothing that may be run is refused
abbrev pub IsExactOn : List ℕ → Verdict → Type 0
IsExactOn text (Accepted accepted) = ⊤
IsExactOn text (Refused code place) = MayNotBeRun text

abbrev pub is_accepted : Verdict → Bool
is_accepted (Accepted accepted) = true
is_accepted (Refused code place) = false
