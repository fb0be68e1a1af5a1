-- Each result that is told is that of a run which ends within the budget that was told for its image.
use Rattle.std.proofs.Common.{ℕ, suc, ◌<◌, ◌≤◌, Bool, List, [], ◌∷◌, ◌++◌, Ok, All, Option, Some, None, subst}
use Rattle.std.specs.List.{AllByRecursion, AllZip}
use Rattle.std.proofs.lemmas.List.Elements.{All-nil, All-cons}
use Rattle.hex.specs.Hex.{IsBytes}
use Rattle.tp_image.specs.Image.{ImageValue}
use Rattle.tp_image.specs.Text.{IsTextOf}
use Rattle.tp_step.specs.Runs.{Run}
use Rattle.tp_step.proofs.StepLemmas.{one_run}
use Rattle.tp_accept.specs.Ending.{IsPacket}
use Rattle.tp_accept.specs.Verdict.{allowed}
use Rattle.tp_accept.specs.Acceptance.{IsAcceptable}
use Rattle.tp_accept.specs.Verdict as accept
use Rattle.tp_accept.proofs.NeverWrong.{never_goes_wrong}
use Rattle.tp_collect.specs.DoneValue.{run_of_parts}
use Rattle.tp_requests.specs.Lines.{Line}
use Rattle.tp_answers.specs.Results.{RunResult}
use Rattle.tp_answers.specs.Sessions.{Session}
use Rattle.tp_answers.specs.Rules.{IsVerdict, IsOutcome}
use Rattle.tp_session.specs.Protocol.{AreAnswered}
use Rattle.tp_session.specs.InTime.{IsBudgetOf, IsOutcomeInTime}
use Rattle.tp_session.proofs.OtherRules.{told_so}

-- an image that is answered so is acceptable
abbrev pub AllowedAlone : Type 0
AllowedAlone = (text : List ℕ) (image : ImageValue) (budget : ℕ) → IsTextOf text image → accept.IsAnswer text (Ok (allowed image budget))
    → IsAcceptable image budget

-- a session whose image was accepted, and whose packets are packets
record IsGood (s : Session) : Type 0 where
  budget : ℕ
  is_stated : IsBudgetOf s.image budget
  packets : AllByRecursion (IsPacket s.image) s.packets

one_more : (image : ImageValue) (packets : List (List ℕ)) (p : List ℕ) → AllByRecursion (IsPacket image) packets → IsPacket image p
    → AllByRecursion (IsPacket image) (packets ++ p ∷ [])
one_more image [] p all is = (is, tt)
one_more image (q ∷ packets) p all is = (all.0, one_more image packets p all.1 is)

bytes_below : (packet : List ℕ) → IsBytes packet → All (λ byte. byte < 256) packet
bytes_below [] is = All-nil (λ byte. byte < 256)
bytes_below (b ∷ packet) is = All-cons (λ byte. byte < 256) b packet (is 0) (bytes_below packet (λ i. is (suc i)))

module _ (alone : AllowedAlone) where
  in_time : (image : ImageValue) (budget : ℕ) → IsBudgetOf image budget → (packet : List ℕ) → IsPacket image packet → (o : Option RunResult)
      → IsOutcome image packet o → IsOutcomeInTime image packet o
  in_time image budget is_stated packet is (Some run) outcome =
      let ends = never_goes_wrong image budget (alone is_stated.0 image budget is_stated.1.0 is_stated.1.1) packet is in
      let same = one_run image packet ends.run (run_of_parts run.result run.error run.steps run.trace) ends.alone outcome.0 in
      record { is = outcome; whole = is; budget = budget; is_stated = is_stated; ends = ends; steps = subst (λ (r : Run). r.steps ≤ budget) same ends.within }
  in_time image budget is_stated packet is None outcome =
      let ends = never_goes_wrong image budget (alone is_stated.0 image budget is_stated.1.0 is_stated.1.1) packet is in
      record { is = outcome; whole = is; budget = budget; is_stated = is_stated; ends = ends; steps = tt }

  all_in_time : (image : ImageValue) (budget : ℕ) → IsBudgetOf image budget → (packets : List (List ℕ)) (os : List (Option RunResult))
      → AllByRecursion (IsPacket image) packets → AllZip (IsOutcome image) packets os → AllZip (IsOutcomeInTime image) packets os
  all_in_time image budget is_stated [] [] all are = tt
  all_in_time image budget is_stated [] (o ∷ os) all are = absurd are
  all_in_time image budget is_stated (p ∷ packets) [] all are = absurd are
  all_in_time image budget is_stated (p ∷ packets) (o ∷ os) all are =
      (in_time image budget is_stated p all.0 o are.0, all_in_time image budget is_stated packets os all.1 are.1)

  pub served_in_time : (trace : Bool) (lines : List Line) (output : List ℕ) → AreAnswered IsVerdict IsOutcome trace lines output
      → AreAnswered IsVerdict IsOutcomeInTime trace lines output
  served_in_time =
      told_so IsVerdict IsVerdict IsOutcome IsOutcomeInTime (λ text v judged. judged) IsGood
      (λ name text image budget judged. record { budget = budget; is_stated = (text, judged); packets = tt })
      (λ s packet bytes long g.
      let is : IsPacket s.image packet = record { long = long; bytes = bytes_below packet bytes } in
      record { budget = g.budget; is_stated = g.is_stated; packets = one_more s.image s.packets packet g.packets is })
      (λ s g. record { budget = g.budget; is_stated = g.is_stated; packets = tt })
      (λ s os g are. all_in_time s.image g.budget g.is_stated s.packets os g.packets are)
