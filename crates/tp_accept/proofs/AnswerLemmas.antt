-- Answers to texts.
use Rattle.std.proofs.Common.{◌≡◌, ◌≢◌, ℕ, ◌<◌, List, Option, Some, None, Result, Ok, Err, refl, ap, sym, ◌∙◌, subst}
use Rattle.std.specs.Prelude.{IfSome, All}
use Rattle.std.specs.List.{AllByRecursion}
use Rattle.tp_image.specs.Image.{ImageValue, InRange}
use Rattle.tp_image.specs.declared.fault.ImageFault.{ImageFault}
use Rattle.tp_image.specs.Text.{IsTextOf}
use Rattle.tp_image.specs.Faults.{first_fault}
use Rattle.tp_image.proofs.Unique.{one_image}
use Rattle.tp_image.proofs.Readable.{image_found}
use Rattle.tp_decode.specs.declared.fault.DecodeFault.{DecodeFault}
use Rattle.tp_decode.specs.Cutting.{Cut, IsSpelled, IsCutting, cutting}
use Rattle.tp_decode.proofs.Verdicts.{is_cutting, sound_ok}
use Rattle.tp_flow.specs.declared.fault.FlowFault.{FlowFault}
use Rattle.tp_flow.specs.FlowFaults.{first_flow_fault}
use Rattle.tp_flow.specs.NestKept.{KeepsNest}
use Rattle.tp_flow.proofs.FlowKept.{nest_kept}
use Rattle.tp_state.specs.declared.fault.StateFault.{StateFault}
use Rattle.tp_state.specs.declared.fault.StateFault.TheVariants as state_fault
use Rattle.tp_check.specs.Tables.{Table}
use Rattle.tp_check.specs.Passes.{IsVerdict, IsRefusalOf}
use Rattle.tp_accept.specs.declared.refusal.Refusal.TheVariants.{Memory}
use Rattle.tp_accept.specs.Refusals.{of_image, of_cutting, of_flow, of_state}
use Rattle.tp_accept.specs.Verdict.{Answer, answer_on, IsStateAnswer, IsFlowAnswer, IsCutAnswer, IsImageAnswer, IsTextAnswer, IsAnswer}

-- a code has one cutting
pub one_cutting : (code : List ℕ) (a b : List Cut) → IsCutting code a → IsCutting code b → a ≡ b
one_cutting code a b x y = let e : Ok a ≡ Ok b = sym (is_cutting code a x) ∙ is_cutting code b y in cc

-- what was read passes each test
pub no_fault : (text : List ℕ) (image : ImageValue) → IfSome (first_fault text) (λ fault. Ok image ≡ Err fault) → first_fault text ≡ None
no_fault text image = by_case (first_fault text)
  where
    by_case : (found : Option ImageFault) → IfSome found (λ fault. Ok image ≡ Err fault) → found ≡ None
    by_case None h = refl
    by_case (Some fault) h = cc

-- the answer on a code in which no rule of flow is broken is the answer on the text
pub state_answer : (text : List ℕ) (image : ImageValue) (cuts : List Cut) (answer : Answer) → first_fault text ≡ None →
    IsTextOf text image → cutting image.code ≡ Ok cuts → first_flow_fault image cuts ≡ None →
    IsStateAnswer image cuts answer → IsAnswer text answer
state_answer text image cuts answer no_fault spelled cut flows is =
    subst (λ o. IsTextAnswer o text answer) (sym no_fault) record {
      image = image;
      spelled = spelled;
      answers = subst (λ r. IsCutAnswer r image answer) (sym cut) (subst (λ o. IsFlowAnswer o image cuts answer) (sym flows) is);
    }

-- a refusal of the passes, unless memory ran out
pub refused_states : (text : List ℕ) (image : ImageValue) (cuts : List Cut) (fault : StateFault) →
    first_fault text ≡ None → IsTextOf text image → cutting image.code ≡ Ok cuts → first_flow_fault image cuts ≡ None →
    IsRefusalOf image cuts fault → of_state fault ≢ Memory → IsAnswer text (Err (of_state fault))
refused_states text image cuts (state_fault.Refused code place) none spelled cut flows says some =
    state_answer text image cuts _ none spelled cut flows record { verdict = Err (state_fault.Refused code place); passes = says; answers = refl }
refused_states text image cuts state_fault.Memory none spelled cut flows says some = absurd (some refl)

-- ---- one text has one answer, since the passes have one verdict

abbrev OneVerdict : Type 0
OneVerdict = (image : ImageValue) (cuts : List Cut) (verdict other : Result Table StateFault) → IsVerdict image cuts verdict → IsVerdict image cuts other → verdict ≡ other

one_state_answer : OneVerdict → (image : ImageValue) (cuts : List Cut) (answer other : Answer) → IsStateAnswer image cuts answer → IsStateAnswer image cuts other → answer ≡ other
one_state_answer one image cuts answer other is also =
    is.answers ∙ ap (answer_on image cuts) (one image cuts is.verdict also.verdict is.passes also.passes) ∙ sym also.answers

one_flow_answer : OneVerdict → (found : Option FlowFault) (image : ImageValue) (cuts : List Cut) (answer other : Answer)
    → IsFlowAnswer found image cuts answer → IsFlowAnswer found image cuts other → answer ≡ other
one_flow_answer one (Some fault) image cuts answer other is also = is ∙ sym also
one_flow_answer one None image cuts answer other is also = one_state_answer one image cuts answer other is also

one_cut_answer : OneVerdict → (cut : Result (List Cut) DecodeFault) (image : ImageValue) (answer other : Answer) → IsCutAnswer cut image answer → IsCutAnswer cut image other → answer ≡ other
one_cut_answer one (Err fault) image answer other is also = is ∙ sym also
one_cut_answer one (Ok cuts) image answer other is also = one_flow_answer one (first_flow_fault image cuts) image cuts answer other is also

one_image_answer : OneVerdict → (text : List ℕ) (answer other : Answer) → IsImageAnswer text answer → IsImageAnswer text other → answer ≡ other
one_image_answer one text answer other is also =
    let same : also.image ≡ is.image = one_image text also.image is.image also.spelled is.spelled in
    one_cut_answer one (cutting is.image.code) is.image answer other is.answers (subst (λ image. IsCutAnswer (cutting image.code) image other) same also.answers)

one_text_answer : OneVerdict → (found : Option ImageFault) (text : List ℕ) (answer other : Answer) → IsTextAnswer found text answer → IsTextAnswer found text other → answer ≡ other
one_text_answer one (Some fault) text answer other is also = is ∙ sym also
one_text_answer one None text answer other is also = one_image_answer one text answer other is also

pub one_answer : OneVerdict → (text : List ℕ) (answer other : Answer) → IsAnswer text answer → IsAnswer text other → answer ≡ other
one_answer one text answer other = one_text_answer one (first_fault text) text answer other

-- ---- each text of bytes has an answer, since the passes have a verdict

-- over a code whose flow passes
abbrev HaveVerdict : Type 0
HaveVerdict =
    (image : ImageValue) (cuts : List Cut) → InRange image → AllByRecursion IsSpelled cuts →
    KeepsNest image.loops image.workspace cuts → (verdict : Result Table StateFault) × IsVerdict image cuts verdict

a_state_answer : HaveVerdict → (image : ImageValue) (cuts : List Cut) → InRange image → IsCutting image.code cuts →
    first_flow_fault image cuts ≡ None → (answer : Answer) × IsStateAnswer image cuts answer
a_state_answer have image cuts range cut flows =
    let v = have image cuts range cut.each (nest_kept image cuts cut flows) in
    (answer_on image cuts v.0, record { verdict = v.0; passes = v.1; answers = refl })

a_flow_answer : HaveVerdict → (image : ImageValue) (cuts : List Cut) → InRange image → IsCutting image.code cuts →
    (found : Option FlowFault) → first_flow_fault image cuts ≡ found → (answer : Answer) ×
    IsFlowAnswer found image cuts answer
a_flow_answer have image cuts range cut (Some fault) is = (Err (of_flow fault), refl)
a_flow_answer have image cuts range cut None is = a_state_answer have image cuts range cut is

a_cut_answer : HaveVerdict → (image : ImageValue) → InRange image → (cut : Result (List Cut) DecodeFault) → cutting image.code ≡ cut → (answer : Answer) × IsCutAnswer cut image answer
a_cut_answer have image range (Err fault) is = (Err (of_cutting fault), refl)
a_cut_answer have image range (Ok cuts) is = a_flow_answer have image cuts range (sound_ok image.code cuts is) (first_flow_fault image cuts) refl

a_text_answer : HaveVerdict → (text : List ℕ) → All (λ byte. byte < 256) text → (found : Option ImageFault) → first_fault text ≡ found → (answer : Answer) × IsTextAnswer found text answer
a_text_answer have text bytes (Some fault) is = (Err (of_image fault), refl)
a_text_answer have text bytes None is =
    let read = image_found text bytes is in
    let answer = a_cut_answer have read.0 read.1.0 (cutting read.0.code) refl in
    (answer.0, record { image = read.0; spelled = read.1; answers = answer.1 })

pub an_answer : HaveVerdict → (text : List ℕ) → All (λ byte. byte < 256) text → (answer : Answer) × IsAnswer text answer
an_answer have text bytes = a_text_answer have text bytes (first_fault text) refl
