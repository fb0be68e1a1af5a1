-- Farms that are one but for the order of what is done and of what is lost.
use Rattle.std.proofs.Common.{◌≡◌, ℕ, ◌+◌, ◌<◌, ◌==◌, ltb, Bool, true, false, List, [], ◌∷◌, length, Option, Some, None, refl, ap}
use Rattle.std.proofs.Common.{◌∙◌, subst, ⊎_elim, arith}
use Rattle.std.specs.Prelude.{if◌then◌else◌}
use Rattle.std.proofs.lemmas.Bool.{eq-eqb, ne_eqb, cases_eq}
use Rattle.tp_board.specs.declared.event.Event.{Event}
use Rattle.tp_board.specs.declared.event.Event.TheVariants.{Claim, Finish, Abandon, Stop, Look}
use Rattle.tp_board.specs.declared.event.Shown.TheVariants as shown
use Rattle.tp_board.specs.declared.event.Reply.TheVariants.{Number, NoMore, Value}
use Rattle.tp_board.specs.Counting.{times}
use Rattle.tp_board.specs.CoreState.{CoreState, Step, core_state, step, claim_step, finish_step, abandon_step, hand_of, hands_with}
use Rattle.tp_board.specs.CoreOf.{IsSame}
use Rattle.tp_board.proofs.Counting.{times-append}

-- ---- lists with the same elements have one length
without : ℕ → List ℕ → List ℕ
without x [] = []
without x (y ∷ ys) = if y == x then ys else y ∷ without x ys

further : (x y n : ℕ) → (y ≡ x → ⊥) → 0 < (if y == x then 1 else 0) + n → 0 < n
further x y n apart h = let k = subst (λ (b : Bool). 0 < (if b then 1 else 0) + n) (ne_eqb y x apart) h in omega arith

without_times : (x : ℕ) (ys : List ℕ) → 0 < times x ys → (z : ℕ) → times z ys ≡ times z (x ∷ []) + times z (without x ys)
unfolding without
without_times x [] h z = absurd (omega arith)
without_times x (y ∷ ys) h z = ⊎_elim
    (λ (e : y ≡ x). rw (eq-eqb y x e) (ap (λ w. times z (w ∷ ys)) e ∙ omega arith))
    (λ (apart : y ≡ x → ⊥).
    let more = further x y (times x ys) apart h in
    let ih = without_times x ys more z in
    rw (ne_eqb y x apart) (omega arith))
    (cases_eq y x)

without_length : (x : ℕ) (ys : List ℕ) → 0 < times x ys → length ys ≡ length (without x ys) + 1
unfolding without
without_length x [] h = absurd (omega arith)
without_length x (y ∷ ys) h = ⊎_elim
    (λ (e : y ≡ x). rw (eq-eqb y x e) (omega arith))
    (λ (apart : y ≡ x → ⊥).
    let more = further x y (times x ys) apart h in
    let ih = without_length x ys more in
    rw (ne_eqb y x apart) (omega arith))
    (cases_eq y x)

here : (x : ℕ) → times x (x ∷ []) ≡ 1
here x = ap (λ (b : Bool). (if b then 1 else 0) + 0) (eq-eqb x x refl)

pub same_length : (xs ys : List ℕ) → ((x : ℕ) → times x xs ≡ times x ys) → length xs ≡ length ys
same_length [] [] h = refl
same_length [] (y ∷ ys) h = absurd (let a = h y in let b = here y in omega arith)
same_length (x ∷ xs) ys h =
    let some_x : 0 < times x ys = (let a = h x in let b = here x in omega arith) in
    let rest : (z : ℕ) → times z xs ≡ times z (without x ys) =
    λ z. let a = h z in let b = without_times x ys some_x z in omega arith in
    let ih = same_length xs (without x ys) rest in
    let l = without_length x ys some_x in
    omega arith

-- ---- a step of either is one step, but for that order
abbrev Agree : Step → Step → Type 0
Agree a b = IsSame a.1 b.1 × (a.0 ≡ b.0)

module _ (p d : ℕ) (hs : List (Option ℕ)) (stop : Bool) (done lost done' lost' : List ℕ)
    (e : (x : ℕ) → times x done ≡ times x done') (l : (x : ℕ) → times x lost ≡ times x lost') where
  same_farm : (q : ℕ) (gs : List (Option ℕ)) (b : Bool) → IsSame (core_state p q gs done lost b) (core_state p q gs done' lost' b)
  same_farm q gs b = record { packets = refl; drawn = refl; hands = refl; done = e; lost = l; stop = refl }

  claims : (m : ℕ) (h : Option ℕ) → Agree (claim_step (core_state p d hs done lost stop) m h)
      (claim_step (core_state p d hs done' lost' stop) m h)
  claims m (Some n) = (same_farm d hs stop, refl)
  claims m None = draws (ltb d p)
    where
      draws : (b : Bool) → Agree (if b then (
        Number d,
        core_state p (d + 1) (hands_with (core_state p d hs done lost stop) m (Some d)) done
            lost stop,
      ) else (NoMore, core_state p d hs done lost stop))
          (if b then (Number d, core_state p (d + 1) (hands_with (core_state p d hs done' lost' stop) m (Some d)) done' lost' stop) else
          (NoMore, core_state p d hs done' lost' stop))
      draws true = (same_farm (d + 1) (hands_with (core_state p d hs done lost stop) m (Some d)) stop, refl)
      draws false = (same_farm d hs stop, refl)

  finishes : (m : ℕ) (h : Option ℕ) → Agree (finish_step (core_state p d hs done lost stop) m h)
      (finish_step (core_state p d hs done' lost' stop) m h)
  finishes m None = (same_farm d hs stop, refl)
  finishes m (Some n) = (
    record {
      packets = refl;
      drawn = refl;
      hands = refl;
      done = (λ x. let a = times-append x done (n ∷ []) in let b = times-append x done' (n ∷ []) in let c = e x in omega arith);
      lost = l;
      stop = refl;
    },
    refl,
  )

  abandons : (m : ℕ) (h : Option ℕ) → Agree (abandon_step (core_state p d hs done lost stop) m h)
      (abandon_step (core_state p d hs done' lost' stop) m h)
  abandons m None = (same_farm d hs stop, refl)
  abandons m (Some n) = (
    record {
      packets = refl;
      drawn = refl;
      hands = refl;
      done = e;
      lost = (λ x. let a = times-append x lost (n ∷ []) in let b = times-append x lost' (n ∷ []) in let c = l x in omega arith);
      stop = refl;
    },
    refl,
  )

  steps : (m : ℕ) (event : Event) → Agree (step (core_state p d hs done lost stop) m event)
      (step (core_state p d hs done' lost' stop) m event)
  steps m Claim = claims m (hand_of (core_state p d hs done lost stop) m)
  steps m Finish = finishes m (hand_of (core_state p d hs done lost stop) m)
  steps m Abandon = abandons m (hand_of (core_state p d hs done lost stop) m)
  steps m Stop = (same_farm d hs true, refl)
  steps m (Look shown.Claimed) = (same_farm d hs stop, refl)
  steps m (Look shown.Done) = (same_farm d hs stop, ap (λ n. Value n) (same_length done done' e))
  steps m (Look shown.Lost) = (same_farm d hs stop, ap (λ n. Value n) (same_length lost lost' l))
  steps m (Look shown.Stop) = (same_farm d hs stop, refl)

pub same_step : (s t : CoreState) (m : ℕ) (event : Event) → IsSame s t → Agree (step s m event) (step t m event)
same_step s t m event h =
    subst (λ p. Agree (step s m event) (step (core_state p t.drawn t.hands t.done t.lost t.stop) m event)) h.packets
    (subst (λ d. Agree (step s m event) (step (core_state s.packets d t.hands t.done t.lost t.stop) m event)) h.drawn
    (subst (λ hs. Agree (step s m event) (step (core_state s.packets s.drawn hs t.done t.lost t.stop) m event)) h.hands
    (subst (λ b. Agree (step s m event) (step (core_state s.packets s.drawn s.hands t.done t.lost b) m event)) h.stop
    (steps s.packets s.drawn s.hands s.stop s.done s.lost t.done t.lost h.done h.lost m event))))

pub same_then : (s t u : CoreState) → IsSame s t → IsSame t u → IsSame s u
same_then s t u a b = record {
  packets = a.packets ∙ b.packets;
  drawn = a.drawn ∙ b.drawn;
  hands = a.hands ∙ b.hands;
  done = (λ x. a.done x ∙ b.done x);
  lost = (λ x. a.lost x ∙ b.lost x);
  stop = a.stop ∙ b.stop;
}

pub same_self : (s : CoreState) → IsSame s s
same_self s = record { packets = refl; drawn = refl; hands = refl; done = (λ x. refl); lost = (λ x. refl); stop = refl }
