-- One line has one answer, and so has one input.
use Rattle.std.proofs.Common.{◌≡◌, ℕ, Bool, true, false, nat_lt, List, [], ◌∷◌, ◌++◌, length, Option, Some, None, Result, Ok, Err}
use Rattle.std.proofs.Common.{refl, ap, sym, subst, ◌∙◌, arith}
use Rattle.std.specs.List.{AllZip}
use Rattle.tp_decode.specs.Cutting.{Cut, cutting}
use Rattle.tp_decode.specs.declared.fault.DecodeFault.{DecodeFault}
use Rattle.tp_decode.specs.declared.fault.DecodeFault.TheVariants as decode_fault
use Rattle.tp_image.specs.Image.{ImageValue}
use Rattle.tp_image.proofs.Unique.{one_image}
use Rattle.tp_answers.specs.Results.{RunResult, run_result}
use Rattle.tp_step.proofs.StepLemmas.{one_run}
use Rattle.tp_step.proofs.LastingLemmas.{begins_length, sends_first}
use Rattle.tp_accept.specs.Verdict as accept
use Rattle.tp_requests.specs.Lines.{Line, said_in}
use Rattle.tp_requests.specs.Requests.{Asked, ToList, ToOpen, ToKeep, ToRun, ToRunAll, ToDrop}
use Rattle.tp_requests.proofs.LineLemmas.{one_request}
use Rattle.tp_answers.specs.declared.answer.Answer.{Answer}
use Rattle.tp_answers.specs.declared.answer.Answer.TheVariants.{Ran, RanAll}
use Rattle.tp_answers.specs.Sessions.{Session, session_named, is_full}
use Rattle.tp_answers.specs.Texts.{answer_text}
use Rattle.tp_answers.specs.Answers.{Verdict, Accepts, Refuses, answer_by, after_verdict, IsAnswerToList, IsAnswerToImage, IsAfterImage, IsRun}
use Rattle.tp_answers.specs.Answers.{IsAnswerToRun, IsAnswer, IsAfter}
use Rattle.tp_answers.specs.Rules.{IsVerdict, IsOutcome}
use Rattle.tp_session.specs.Protocol.{most_line, next_number, IsAsked, IsAnswered, AreAnswers, AreAnswered}

-- ---- a line asks for one thing

asked_once : (long : Bool) (says : List ℕ) (a b : Option Asked) → IsAsked long says a → IsAsked long says b → a ≡ b
asked_once true says a b is is' = is ∙ sym is'
asked_once false says (Some a) (Some b) is is' = ap Some (one_request says a b is is')
asked_once false says (Some a) None is is' = absurd (is' a is)
asked_once false says None (Some b) is is' = absurd (is b is')
asked_once false says None None is is' = refl

list_once : (cut : Result (List Cut) DecodeFault) (a b : Answer) → IsAnswerToList cut a → IsAnswerToList cut b → a ≡ b
list_once (Ok cuts) a b is is' = is ∙ sym is'
list_once (Err (decode_fault.Refused code place)) a b is is' = is ∙ sym is'
list_once (Err decode_fault.Memory) a b is is' = absurd is

module _ (Judges : List ℕ → Verdict → Type 0) (HasOutcome : ImageValue → List ℕ → Option RunResult → Type 0) where
  -- ---- under verdicts and outcomes of which there is one each

  module _ (one_verdict : (text : List ℕ) (v w : Verdict) → Judges text v → Judges text w → v ≡ w)
      (one_outcome : (image : ImageValue) (packet : List ℕ) (o p : Option RunResult) → HasOutcome image packet o → HasOutcome image packet p → o ≡ p)
    where
      outcomes_once : (image : ImageValue) (packets : List (List ℕ)) (os ps : List (Option RunResult)) → AllZip (HasOutcome image) packets os
          → AllZip (HasOutcome image) packets ps → os ≡ ps
      outcomes_once image [] [] [] is is' = refl
      outcomes_once image [] (o ∷ os) ps is is' = absurd is
      outcomes_once image [] [] (p ∷ ps) is is' = absurd is'
      outcomes_once image (packet ∷ packets) [] ps is is' = absurd is
      outcomes_once image (packet ∷ packets) (o ∷ os) [] is is' = absurd is'
      outcomes_once image (packet ∷ packets) (o ∷ os) (p ∷ ps) is is' =
          ap (λ x. x ∷ os) (one_outcome image packet o p is.0 is'.0) ∙ ap (λ xs. p ∷ xs) (outcomes_once image packets os ps is.1 is'.1)

      runs_once : (sessions : List Session) (rs qs : List (List ℕ × List (Option RunResult))) → AllZip (IsRun HasOutcome) sessions rs
          → AllZip (IsRun HasOutcome) sessions qs → rs ≡ qs
      runs_once [] [] [] is is' = refl
      runs_once [] (r ∷ rs) qs is is' = absurd is
      runs_once [] [] (q ∷ qs) is is' = absurd is'
      runs_once (s ∷ sessions) [] qs is is' = absurd is
      runs_once (s ∷ sessions) (r ∷ rs) [] is is' = absurd is'
      runs_once (s ∷ sessions) ((n, os) ∷ rs) ((m, ps) ∷ qs) is is' =
          ap (λ x. (x, os) ∷ rs) (is.0.0 ∙ sym is'.0.0)
          ∙ ap (λ xs. (m, xs) ∷ rs) (outcomes_once s.image s.packets os ps is.0.1 is'.0.1)
          ∙ ap (λ xs. (m, ps) ∷ xs) (runs_once sessions rs qs is.1 is'.1)

      image_once : (full : Bool) (text : List ℕ) (a b : Answer) → IsAnswerToImage Judges full text a
          → IsAnswerToImage Judges full text b → a ≡ b
      image_once true text a b is is' = is ∙ sym is'
      image_once false text a b (v, judged, is) (w, judged', is') =
          is ∙ ap answer_by (one_verdict text v w judged judged') ∙ sym is'

      run_once : (o : Option Session) (a b : Answer) → IsAnswerToRun HasOutcome o a → IsAnswerToRun HasOutcome o b → a ≡ b
      run_once None a b is is' = is ∙ sym is'
      run_once (Some s) a b (os, each, is) (ps, each', is') =
          is ∙ ap Ran (outcomes_once s.image s.packets os ps each each') ∙ sym is'

      answer_once : (asked : Option Asked) (before : List Session) (a b : Answer) → IsAnswer Judges HasOutcome asked before a
          → IsAnswer Judges HasOutcome asked before b → a ≡ b
      answer_once None before a b is is' = is ∙ sym is'
      answer_once (Some (ToList code)) before a b is is' = list_once (cutting code) a b is is'
      answer_once (Some (ToOpen name text)) before a b is is' = image_once (is_full name before) text a b is is'
      answer_once (Some (ToKeep name packet)) before a b is is' = is ∙ sym is'
      answer_once (Some (ToRun name)) before a b is is' = run_once (session_named name before) a b is is'
      answer_once (Some ToRunAll) before a b (rs, each, is) (qs, each', is') = is ∙ ap RanAll (runs_once before rs qs each each') ∙ sym is'
      answer_once (Some (ToDrop name)) before a b is is' = is ∙ sym is'

      image_after_once : (full : Bool) (name text : List ℕ) (before s t : List Session) → IsAfterImage Judges full name text before s
          → IsAfterImage Judges full name text before t → s ≡ t
      image_after_once true name text before s t is is' = is ∙ sym is'
      image_after_once false name text before s t (v, judged, is) (w, judged', is') =
          is ∙ ap (λ x. after_verdict name x before) (one_verdict text v w judged judged') ∙ sym is'

      after_once : (asked : Option Asked) (before s t : List Session) → IsAfter Judges asked before s → IsAfter Judges asked before t → s ≡ t
      after_once None before s t is is' = is ∙ sym is'
      after_once (Some (ToList code)) before s t is is' = is ∙ sym is'
      after_once (Some (ToOpen name text)) before s t is is' = image_after_once (is_full name before) name text before s t is is'
      after_once (Some (ToKeep name packet)) before s t is is' = is ∙ sym is'
      after_once (Some (ToRun name)) before s t is is' = is ∙ sym is'
      after_once (Some ToRunAll) before s t is is' = is ∙ sym is'
      after_once (Some (ToDrop name)) before s t is is' = is ∙ sym is'

      pub one_line : (line : Line) (before : List Session) (a b : Answer) (s t : List Session) → IsAnswered Judges HasOutcome line before a s
          → IsAnswered Judges HasOutcome line before b t → (a ≡ b) × (s ≡ t)
      one_line line before a b s t is is' =
          let asked = asked_once (nat_lt most_line (length line.bytes)) (said_in line) is.asked is'.asked is.asks is'.asks in
          let same = subst (λ o. IsAnswer Judges HasOutcome o before a × IsAfter Judges o before s) asked (is.answer_is, is.after_is) in
          (answer_once is'.asked before a b same.0 is'.answer_is, after_once is'.asked before s t same.1 is'.after_is)

      one_list : (trace : Bool) (number : ℕ) (before : List Session) (lines : List Line) (output output' : List ℕ) (s t : List Session)
          → AreAnswers Judges HasOutcome trace number before lines output s → AreAnswers Judges HasOutcome trace number before lines output' t
          → output ≡ output'
      one_list trace number before [] output output' s t is is' = is.0 ∙ sym is'.0
      one_list trace n before (line ∷ lines) output output' s t (a, next, rest, one, each, is) (b, next', rest', one', each', is') =
          let first = one_line line before a b next next' one one' in
          let then =
          one_list trace (next_number n) next' lines rest rest' s t
          (subst (λ between. AreAnswers Judges HasOutcome trace (next_number n) between lines rest s) first.1 each) each' in
          is ∙ ap (λ x. answer_text trace n x ++ rest) first.0 ∙ ap (λ l. answer_text trace n b ++ l) then ∙ sym is'

      pub one_told : (trace : Bool) (lines : List Line) (output output' : List ℕ) → AreAnswered Judges HasOutcome trace lines output
          → AreAnswered Judges HasOutcome trace lines output' → output ≡ output'
      one_told trace lines output output' (s, is) (t, is') = one_list trace 1 [] lines output output' s t is is'

-- ---- the rules of the product: one verdict, and one outcome

pub verdict_once : ((text : List ℕ) (a b : accept.Answer) → accept.IsAnswer text a → accept.IsAnswer text b → a ≡ b)
    → (text : List ℕ) (v w : Verdict) → IsVerdict text v → IsVerdict text w → v ≡ w
verdict_once one_text text (Accepts image budget) (Accepts image' budget') is is' =
    let answers = one_text text _ _ is.1 is'.1 in
    ap (λ i. Accepts i budget) (one_image text image image' is.0 is'.0) ∙ ap (Accepts image') (ap budget_of answers)
  where
    budget_of : accept.Answer → ℕ
    budget_of (Ok allowed) = allowed.budget
    budget_of (Err refusal) = 0
verdict_once one_text text (Accepts image budget) (Refuses code place) is is' = cc (one_text text _ _ is.1 is')
verdict_once one_text text (Refuses code place) (Accepts image budget) is is' = cc (one_text text _ _ is is'.1)
verdict_once one_text text (Refuses code place) (Refuses code' place') is is' = cc (one_text text _ _ is is')

pub outcome_once : (image : ImageValue) (packet : List ℕ) (o p : Option RunResult) → IsOutcome image packet o
    → IsOutcome image packet p → o ≡ p
outcome_once image packet (Some run) (Some run') is is' =
    ap (λ r. Some (run_result r.result r.error r.steps r.trace)) (one_run image packet _ _ is.0 is'.0)
outcome_once image packet (Some run) None is is' =
    let sent = sends_first image packet _ is.0 is'.way.count is'.state is'.way.leads in
    absurd (omega (arith, is.1, is'.more, begins_length is'.state.traced run.trace sent.1))
outcome_once image packet None (Some run) is is' =
    let sent = sends_first image packet _ is'.0 is.way.count is.state is.way.leads in
    absurd (omega (arith, is'.1, is.more, begins_length is.state.traced run.trace sent.1))
outcome_once image packet None None is is' = refl
