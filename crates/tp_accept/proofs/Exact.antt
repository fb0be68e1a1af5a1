-- An image may be run exactly where it is acceptable.
use Rattle.std.proofs.Common.{◌≡◌, ◌≢◌, ℕ, ◌<◌, ◌≤◌, nat_lt, if◌then◌else◌, Bool, true, false, List, Option, Some, None, Result, Ok, Err, refl, sym, ap, ◌∙◌, subst, arith}
use Rattle.std.specs.Prelude.{IfErr}
use Rattle.std.proofs.lemmas.Bool.Decides.{nat_tests}
use Rattle.tp_image.specs.Image.{ImageValue, InRange}
use Rattle.tp_image.specs.Text.{IsTextOf}
use Rattle.tp_image.specs.Faults.{first_fault}
use Rattle.tp_image.proofs.Bodies.{first_fault-text}
use Rattle.tp_image.proofs.Unique.{one_image}
use Rattle.tp_decode.specs.declared.fault.DecodeFault.{DecodeFault}
use Rattle.tp_decode.specs.Cutting.{Cut, IsCutting, cutting}
use Rattle.tp_decode.proofs.Verdicts.{is_cutting, sound_ok}
use Rattle.tp_flow.specs.declared.fault.FlowFault.{FlowFault}
use Rattle.tp_flow.specs.FlowFaults.{first_flow_fault}
use Rattle.tp_flow.specs.NestKept.{KeepsNest}
use Rattle.tp_flow.proofs.FlowKept.{nest_kept}
use Rattle.tp_flow.proofs.FlowExact.{nest_passes}
use Rattle.tp_state.specs.declared.fault.StateCode.{StateCode}
use Rattle.tp_state.specs.declared.fault.StateFault.{StateFault}
use Rattle.tp_check.specs.Tables.{Table}
use Rattle.tp_check.specs.Passes.{IsVerdict}
use Rattle.tp_check.specs.EdgesRespect.{HasNoTable}
use Rattle.tp_check.proofs.PassLemmas.{one_verdict}
use Rattle.tp_check.proofs.Ending.{a_verdict}
use Rattle.tp_check.proofs.Least.{no_refusal}
use Rattle.tp_check.proofs.Respected.{respected}
use Rattle.tp_accept.specs.declared.refusal.Refusal.{Refusal}
use Rattle.tp_accept.specs.declared.refusal.Refusal.TheVariants as refusal
use Rattle.tp_accept.specs.declared.refusal.RefusalCode.TheVariants as code
use Rattle.tp_accept.specs.Limits.{most_budget}
use Rattle.tp_accept.specs.Bound.{bound}
use Rattle.tp_accept.specs.Refusals.{too_long}
use Rattle.tp_accept.specs.Verdict.{Answer, Allowed, allowed, answer_on, IsStateAnswer, IsFlowAnswer, IsCutAnswer, IsTextAnswer, IsAnswer}
use Rattle.tp_accept.specs.Acceptance.{IsAcceptable}
use Rattle.tp_accept.proofs.AnswerLemmas.{one_answer, state_answer}

allowed_refused : {a : Allowed} {e : Refusal} → ◌≡◌ {A = Answer} (Ok a) (Err e) → ⊥
allowed_refused is = cc

same_allowed : {a b : Allowed} → ◌≡◌ {A = Answer} (Ok a) (Ok b) → a ≡ b
same_allowed is = cc

not_above : (n m : ℕ) → nat_lt n m ≡ false → m ≤ n
not_above n m e = grind (arith, nat_tests)

is_within : (n m : ℕ) → m ≤ n → nat_lt n m ≡ false
is_within n m le = grind (arith, nat_tests)

-- an image whose table was found
pub acceptable_of : (image : ImageValue) (cuts : List Cut) (budget : ℕ) → InRange image → IsCutting image.code cuts →
    KeepsNest image.loops image.workspace cuts → (table : Table) × IsVerdict image cuts (Ok table) →
    budget ≡ bound image.loops cuts → bound image.loops cuts ≤ most_budget → IsAcceptable image budget
acceptable_of image cuts budget range cut kept (table, verdict) bounded within = record {
  in_range = range;
  cuts = cuts;
  cutting = cut;
  kept = kept;
  table = table;
  respected = respected image cuts range cut.each kept table verdict;
  bounded = bounded;
  within = omega (arith, within, bounded);
}

-- what is answered of it
pub settled_allowed : (image : ImageValue) (cuts : List Cut) → (table : Table) × IsVerdict image cuts (Ok table) →
    (budget : ℕ) → budget ≡ bound image.loops cuts → bound image.loops cuts ≤ most_budget →
    IsStateAnswer image cuts (Ok (allowed image budget))
settled_allowed image cuts (table, passes) budget bounded within =
    let low : nat_lt most_budget (bound image.loops cuts) ≡ false = is_within most_budget (bound image.loops cuts) within in
    record { verdict = Ok table; passes = passes; answers = rw (low, bounded) refl }

pub settled_refused : (image : ImageValue) (cuts : List Cut) → (table : Table) × IsVerdict image cuts (Ok table) →
    (e : Refusal) → (e ≢ refusal.Memory → (e ≡ too_long) × (most_budget < bound image.loops cuts)) → e ≢ refusal.Memory →
    IsStateAnswer image cuts (Err e)
settled_refused image cuts (table, passes) e is some = by_bound (is some)
  where
    by_bound : (e ≡ too_long) × (most_budget < bound image.loops cuts) → IsStateAnswer image cuts (Err e)
    by_bound (long, less) =
        let above : nat_lt most_budget (bound image.loops cuts) ≡ true = grind (arith, nat_tests, less) in
        record { verdict = Ok table; passes = passes; answers = rw (above, long) refl }

module _ (text : List ℕ) (image : ImageValue) (spelled : IsTextOf text image) where
  no_fault_there : first_fault text ≡ None
  no_fault_there = first_fault-text text image spelled

  -- the answer on the image itself
  on_image : (answer : Answer) → IsAnswer text answer → IsCutAnswer (cutting image.code) image answer
  on_image answer is =
      let by_text = subst (λ o. IsTextAnswer o text answer) no_fault_there is in
      subst (λ (i : ImageValue). IsCutAnswer (cutting i.code) i answer) (one_image text by_text.image image by_text.spelled spelled) by_text.answers

  -- ---- what may be run is acceptable

  -- what is found of it: its code bytes, and a budget with which it is acceptable
  abbrev IsFound : Allowed → Type 0
  IsFound found = (found ≡ allowed image found.budget) × IsAcceptable image found.budget

  module _ (cuts : List Cut) (cut : IsCutting image.code cuts) (found : Allowed) where
    by_bound : KeepsNest image.loops image.workspace cuts → (table : Table) → IsVerdict image cuts (Ok table) → (b : Bool) → nat_lt most_budget (bound image.loops cuts) ≡ b
        → Ok found ≡ (if b then Err too_long else Ok (allowed image (bound image.loops cuts))) → IsFound found
    by_bound kept table passes true above answers = absurd (allowed_refused answers)
    by_bound kept table passes false above answers =
        let same = same_allowed answers in
        let bounded : found.budget ≡ bound image.loops cuts = ap (λ (a : Allowed). a.budget) same in
        let low = not_above most_budget (bound image.loops cuts) above in (
          same ∙ ap (allowed image) (sym bounded),
          record {
            in_range = spelled.0;
            cuts = cuts;
            cutting = cut;
            kept = kept;
            table = table;
            respected = respected image cuts spelled.0 cut.each kept table passes;
            bounded = bounded;
            within = omega (arith, low, bounded);
          },
        )

    by_verdict : KeepsNest image.loops image.workspace cuts → (v : Result Table StateFault) → IsVerdict image cuts v → Ok found ≡ answer_on image cuts v → IsFound found
    by_verdict kept (Err fault) passes answers = absurd (allowed_refused answers)
    by_verdict kept (Ok table) passes answers = by_bound kept table passes (nat_lt most_budget (bound image.loops cuts)) refl answers

    by_flow : (o : Option FlowFault) → first_flow_fault image cuts ≡ o → IsFlowAnswer o image cuts (Ok found) → IsFound found
    by_flow (Some fault) flows answers = absurd (allowed_refused answers)
    by_flow None flows is = by_verdict (nest_kept image cuts cut flows) is.verdict is.passes is.answers

  pub found_acceptable : (found : Allowed) → IsAnswer text (Ok found) → (found ≡ allowed image found.budget) × IsAcceptable image found.budget
  found_acceptable found is = by_cutting (cutting image.code) refl (on_image (Ok found) is)
    where
      by_cutting : (r : Result (List Cut) DecodeFault) → cutting image.code ≡ r → IsCutAnswer r image (Ok found) → IsFound found
      by_cutting (Err fault) cut answers = absurd (allowed_refused answers)
      by_cutting (Ok cuts) cut answers = by_flow cuts (sound_ok image.code cuts cut) found (first_flow_fault image cuts) refl answers

  -- ---- and what is acceptable may be run

  pub may_be_run : (budget : ℕ) → IsAcceptable image budget → IsAnswer text (Ok (allowed image budget))
  may_be_run budget a = by_passes (a_verdict image a.cuts a.in_range a.cutting.each a.kept)
    where
      answers : (table : Table) → Ok (allowed image budget) ≡ answer_on image a.cuts (Ok table)
      answers table =
          let within = a.within in let bounded = a.bounded in
          let low : nat_lt most_budget (bound image.loops a.cuts) ≡ false = is_within most_budget (bound image.loops a.cuts) (omega (arith, within, bounded)) in
          rw (low, ← bounded) refl

      by_passes : (v : Result Table StateFault) × IsVerdict image a.cuts v → IsAnswer text (Ok (allowed image budget))
      by_passes (Err fault, passes) = absurd (no_refusal image a.cuts a.in_range a.cutting.each a.kept a.table a.respected fault passes)
      by_passes (Ok table, passes) =
          state_answer text image a.cuts (Ok (allowed image budget)) no_fault_there spelled (is_cutting image.code a.cuts a.cutting) (nest_passes image a.cuts a.cutting a.kept)
          (record { verdict = Ok table; passes = passes; answers = answers table })

  -- ---- what is refused for its states

  module _ (state : StateCode) (place : ℕ) (cuts : List Cut) (cut : IsCutting image.code cuts) where
    refused_by : (v : Result Table StateFault) → IsVerdict image cuts v → KeepsNest image.loops image.workspace cuts →
        Err (refusal.Refused (code.State state) place) ≡ answer_on image cuts v → HasNoTable image cuts
    refused_by (Err fault) passes kept answers = λ table every. no_refusal image cuts spelled.0 cut.each kept table every fault passes
    refused_by (Ok table) passes kept answers = by_test (nat_lt most_budget (bound image.loops cuts)) answers
      where
        by_test : (b : Bool) → Err (refusal.Refused (code.State state) place) ≡ (if b then Err too_long else Ok (allowed image (bound image.loops cuts))) → HasNoTable image cuts
        by_test true e = absurd cc
        by_test false e = absurd cc

    by_fault : (o : Option FlowFault) → first_flow_fault image cuts ≡ o → IsFlowAnswer o image cuts (Err (refusal.Refused (code.State state) place)) → HasNoTable image cuts
    by_fault (Some fault) flows answers = absurd cc
    by_fault None flows is = refused_by is.verdict is.passes (nest_kept image cuts cut flows) is.answers

    pub no_table : IsAnswer text (Err (refusal.Refused (code.State state) place)) → HasNoTable image cuts
    no_table is =
        by_fault (first_flow_fault image cuts) refl
        (subst (λ r. IsCutAnswer r image (Err (refusal.Refused (code.State state) place))) (is_cutting image.code cuts cut) (on_image (Err (refusal.Refused (code.State state) place)) is))

-- a text that is refused is that of no acceptable image
pub not_acceptable : (text : List ℕ) (e : Refusal) → IsAnswer text (Err e) → (image : ImageValue) (budget : ℕ) → IsTextOf text image → ¬ IsAcceptable image budget
not_acceptable text e is image budget spelled a =
    allowed_refused (one_answer one_verdict text (Ok (allowed image budget)) (Err e) (may_be_run text image spelled budget a) is)

pub refused_alike : {X : Type 0} (text : List ℕ) (r : Result X Refusal) → IfErr r (λ e. e ≢ refusal.Memory → IsAnswer text (Err e))
    → IfErr r (λ e. e ≢ refusal.Memory → (image : ImageValue) (budget : ℕ) → IsTextOf text image → ¬ IsAcceptable image budget)
refused_alike text (Ok x) is = tt
refused_alike text (Err e) is = λ some. not_acceptable text e (is some)
