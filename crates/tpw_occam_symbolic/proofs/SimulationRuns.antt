-- Runs carry over: what the symbolic machine gets to, a worker gets to whose run ends.
use Rattle.std.proofs.Common.{◌≡◌, ℕ, zero, suc, ◌+◌, ◌-◌, ◌≤◌, Bool, true, false, not, if◌then◌else◌, ℤ, pos}
use Rattle.std.proofs.Common.{List, [], ◌∷◌, length, slice_get, slice_range, Option, Some, None, refl, ap, sym, subst, ◌∙◌, arith}
use Rattle.std.proofs.lemmas.Option.{same_Some}
use Rattle.tp_decode.specs.Spelling.{digit_of, is_pfix, is_nfix, shifted, shifted_complement, spelled}
use Rattle.tp_decode.specs.Table.{entry}
use Rattle.tp_image.specs.Image.{ImageValue}
use Rattle.tp_step.specs.Maybe.{◌>>=◌, ◌>>◌, only_if}
use Rattle.tp_step.specs.State.{State}
use Rattle.tp_step.specs.Steps.{step as step_in, steps}
use Rattle.tp_step.proofs.StepLemmas.{steps_add, stopped_stays}
use Rattle.tp_step.proofs.SpellingLemmas.{at, HasBytesAt, pfix_step, nfix_step, stand_range, length-range, instruction_runs}
use Rattle.tpw_occam_symbolic.specs.declared.code.CodeLine.{CodeLine}
use Rattle.tpw_occam_symbolic.specs.Symbolic.{Machine, performed, at_place, step, Leads, nowhere, onward}
use Rattle.tpw_occam_symbolic.specs.MatchStates.{Site, address_of, instr_of, LiesIn, MatchStates}
use Rattle.tpw_occam_symbolic.proofs.Simulation.{with_place}
use Rattle.tpw_occam_symbolic.proofs.SimulationSteps.{performed_carries}

true_false : ◌≡◌ {A = Bool} true false → ⊥
true_false e = cc

-- ---- spellings

after_step : (image : ImageValue) (s t end : State) (n : ℕ) → step_in image s ≡ Some t → steps image (suc n) s ≡ Some end → steps image n t ≡ Some end
unfolding steps
after_step image s t end n one all = sym (ap (λ o. o >>= steps image n) one) ∙ all

no_way : (image : ImageValue) (s : State) → steps image 0 s ≡ Some s
unfolding steps
no_way image s = refl

no_steps : (image : ImageValue) (s end : State) → steps image zero s ≡ Some end → s ≡ end
unfolding steps
no_steps image s end is = same_Some _ _ is

running_ends : (image : ImageValue) (s end : State) → s.stopped ≡ false → steps image zero s ≡ Some end → end.stopped ≡ true → ⊥
running_ends image s end running is stopped =
    true_false (sym stopped ∙ ap (λ (u : State). u.stopped) (sym (no_steps image s end is)) ∙ running)

-- a run that ends does not end within a spelling
spelled_within : (image : ImageValue) (bytes : List ℕ) (s : State) (a : ℕ) (fn : ℕ × ℤ) (n : ℕ) (end : State) → s.stopped ≡ false
    → s.iptr ≡ pos a → HasBytesAt image.code a bytes → spelled s.oreg bytes ≡ Some fn → steps image n s ≡ Some end
    → end.stopped ≡ true → length bytes ≤ n
unfolding spelled
spelled_within image [] s a fn n end running place stand e is stopped = omega arith
spelled_within image (b ∷ rest) s a fn zero end running place stand e is stopped = absurd (running_ends image s end running is stopped)
spelled_within image (b ∷ []) s a fn (suc n) end running place stand e is stopped = omega arith
spelled_within image (b ∷ c ∷ rest) s a fn (suc n) end running place stand e is stopped =
    by_test (λ o e' is'. spelled_within image (c ∷ rest) (at s (a + 1) o) (a + 1) fn n end running refl stand.1 e' is' stopped)
    (is_pfix b) refl (is_nfix b) refl e
  where
    by_test : ((o : ℕ) → spelled o (c ∷ rest) ≡ Some fn → steps image n (at s (a + 1) o) ≡ Some end → length (c ∷ rest) ≤ n)
        → (p : Bool) → is_pfix b ≡ p → (q : Bool) → is_nfix b ≡ q → ◌≡◌ {A = Option (ℕ × ℤ)}
        (if p then spelled (shifted (s.oreg + digit_of b)) (c ∷ rest) else if q then spelled
        (shifted_complement (s.oreg + digit_of b)) (c ∷ rest) else None) (Some fn) → length (b ∷ c ∷ rest) ≤ suc n
    by_test go true p q q' e =
        omega (arith, go _ e (after_step image s _ end n (pfix_step image s a b running place stand.0 p) is))
    by_test go false p true q e =
        omega (arith, go _ e (after_step image s _ end n (nfix_step image s a b running place stand.0 p q) is))
    by_test go false p false q e = absurd cc

-- what comes after some of the steps of a run
pub record Passes (image : ImageValue) (k n : ℕ) (s end : State) : Type 0 where
  pub state : State
  pub way : steps image k s ≡ Some state
  pub rest : steps image (n - k) state ≡ Some end

passes : (image : ImageValue) (k n : ℕ) (s end : State) → k ≤ n → steps image n s ≡ Some end → Passes image k n s end
passes image k n s end within is =
    by_state (steps image k s) refl (sym (steps_add image k (n - k) s) ∙ ap (λ j. steps image j s) (omega (arith, within)) ∙ is)
  where
    by_state : (o : Option State) → steps image k s ≡ o → (o >>= steps image (n - k)) ≡ Some end → Passes image k n s end
    by_state None e is' = absurd cc
    by_state (Some t) e is' = record { state = t; way = e; rest = is' }

-- ---- a step

-- what a step of the symbolic machine is
record Stepped (m next : Machine) : Type 0 where
  running : m.stopped ≡ false
  line : CodeLine
  here : slice_get m.code m.place ≡ Some line
  does : performed line.step (at_place (m.place + 1) m) ≡ Some next

stepped : (m next : Machine) → step m ≡ Some next → Stepped m next
unfolding step
stepped m next is = by_test m.stopped refl (slice_get m.code m.place) refl is
  where
    by_test : (b : Bool) → m.stopped ≡ b → (o : Option CodeLine) → slice_get m.code m.place ≡ o
        → (only_if (not b) >> (o >>= λ line. performed line.step (at_place (m.place + 1) m))) ≡ Some next → Stepped m next
    by_test true e o f is' = absurd cc
    by_test false e None f is' = absurd cc
    by_test false e (Some line) f is' = record { running = e; line = line; here = f; does = is' }

-- a worker gets to a state that carries a machine, and goes on to its end
pub record Reaches (image : ImageValue) (site : Site) (m : Machine) (s end : State) : Type 0 where
  pub state : State
  pub count : ℕ
  pub way : steps image count s ≡ Some state
  pub more : ℕ
  pub rest : steps image more state ≡ Some end
  pub is : MatchStates site m state

module _ (image : ImageValue) (site : Site) (lies : LiesIn image site) where
  -- a step of the symbolic machine is carried by those of its line's spelling
  pub step_carries : (m next : Machine) (s end : State) (n : ℕ) → MatchStates site m s → step m ≡ Some next
      → steps image n s ≡ Some end → end.stopped ≡ true → Reaches image site next s end
  step_carries m next s end n is steps_on run stopped =
      let one = stepped m next steps_on in
      let a = address_of site m.place in
      let b = address_of site (m.place + 1) in
      let instr = instr_of site m.place one.line.step in
      let lies_there = lies.lines m.place one.line (ap (λ c. slice_get c m.place) (sym is.code) ∙ one.here) in
      let spelling = lies_there.spelled in
      let running : s.stopped ≡ false = is.stopped ∙ one.running in
      let bytes = slice_range image.code a b in
      let roomy : a + (b - a) ≤ length image.code = omega (arith, spelling.forward, spelling.within) in
      let long : length bytes ≡ b - a = length-range (b - a) image.code a roomy in
      let spells : spelled s.oreg bytes ≡ Some ((entry instr).function, (entry instr).operand) =
      ap (λ o. spelled o bytes) is.oreg ∙ spelling.spelling.spells in
      let within : b - a ≤ n =
      omega (arith, long, spelled_within image bytes s a _ n end running is.place (stand_range (b - a) image.code a roomy) spells run stopped) in
      let pass = passes image (b - a) n s end within run in
      let runs = instruction_runs image s a b instr running is.oreg is.place spelling in
      let before = with_place site m s (m.place + 1) (pos b) is refl in
      let carried = performed_carries image site lies (at_place (m.place + 1) m) (record s { iptr = pos b }) before m.place one.line.step refl lies_there.goes_on in
      record {
        state = pass.state;
        count = b - a;
        way = pass.way;
        more = n - (b - a);
        rest = pass.rest;
        is = carried.carries next pass.state one.does (sym runs ∙ pass.way);
      }

  -- and so are steps, one after another
  pub leads_carries : {m last : Machine} → Leads m last → (s end : State) (n : ℕ) → MatchStates site m s → steps image n s ≡ Some end
      → end.stopped ≡ true → Reaches image site last s end
  leads_carries (nowhere m) s end n is run stopped = record {
    state = s;
    count = 0;
    way = no_way image s;
    more = n;
    rest = run;
    is = is;
  }
  leads_carries (onward m next last steps_on more) s end n is run stopped =
      let one = step_carries m next s end n is steps_on run stopped in
      let all = leads_carries more one.state end one.more one.is one.rest stopped in
      record {
        state = all.state;
        count = one.count + all.count;
        way = steps_add image one.count all.count s ∙ ap (λ o. o >>= steps image all.count) one.way ∙ all.way;
        more = all.more;
        rest = all.rest;
        is = all.is;
      }

  -- a machine that has stopped is carried by the end
  pub end_carries : {m last : Machine} → Leads m last → (s end : State) (n : ℕ) → MatchStates site m s → steps image n s ≡ Some end
      → end.stopped ≡ true → last.stopped ≡ true → MatchStates site last end
  end_carries {m} {last} way s end n is run stopped over =
      let there = leads_carries way s end n is run stopped in
      by_more there.state there.more there.rest there.is
    where
      by_more : (t : State) (more : ℕ) → steps image more t ≡ Some end → MatchStates site last t → MatchStates site last end
      by_more t zero rest is' = subst (MatchStates site last) (no_steps image t end rest) is'
      by_more t (suc more) rest is' =
          let none = sym (stopped_stays image more t (is'.stopped ∙ over)) ∙ rest in absurd cc
