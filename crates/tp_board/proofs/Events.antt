-- Each kind of step of the board is one event of the farm.
use Rattle.std.proofs.Common.{All, ◌≡◌, ℕ, zero, suc, ◌+◌, ◌<◌, ◌≤◌, ltb, min, nat_eq, bit_or, Bool, true, false, List, [], ◌∷◌}
use Rattle.std.proofs.Common.{◌++◌, length, map, set, get_or, Some, None, sym, refl, ap, ◌∙◌, subst, ⊎_elim, arith}
use Rattle.std.specs.Prelude.{slice_index, slice_set, if◌then◌else◌}
use Rattle.std.proofs.lemmas.Bool.{lt-ltb, le-ltb, cases_lt}
use Rattle.std.proofs.lemmas.List.Elements.{All-head, All-tail}
use mathlib.Core.Option.{some, some-ne-none, some-injective}
use lib.ListN.{get_elem?}
use Rattle.tp_board.specs.Counting.{times, times_in_hands, hand_list}
use Rattle.tp_board.specs.CoreState.{CoreState, Step, core_state, step, claim_step, finish_step, abandon_step, hand_of, hands_with}
use Rattle.tp_board.specs.Runs.{Accounts}
use Rattle.tp_board.specs.Words.{word_of, place_of, words_of}
use Rattle.tp_board.specs.Views.{first_of, all_finished, all_abandoned}
use Rattle.tp_board.specs.Rule.{total, Rule}
use Rattle.tp_board.specs.Steps.{answer_for, claim_reply, hand_reply, with_number, with_end, after_draw, after_finish}
use Rattle.tp_board.specs.Steps.{after_abandon, after_stop, after_look, row_of, MayStep, word_found, words_after}
use Rattle.tp_board.specs.CoreOf.{core_of, IsSame}
use Rattle.tp_board.specs.Freshness.{IsFresh}
use Rattle.tp_board.specs.Laws.{AccountsLaw, StepLaw, IsEvent, IsSeatAt}
use Rattle.tp_board.proofs.Counting.{times-append}
use Rattle.tp_board.proofs.Moves.{moves, set_same, word_fresh, claimed_small, finished_small, abandoned_small, added, one_or}
use Rattle.tp_board.proofs.Totals.{total_parts, length_gathered, times_gathered, gathered_set}
use Rattle.tp_board.specs.declared.event.Event.{Event}
use Rattle.tp_board.specs.declared.event.Event.TheVariants.{Claim, Finish, Abandon, Stop, Look}
use Rattle.tp_board.specs.declared.event.Shown.{Shown}
use Rattle.tp_board.specs.declared.event.Shown.TheVariants as shown
use Rattle.tp_board.specs.declared.event.Reply.{Reply}
use Rattle.tp_board.specs.declared.event.Reply.TheVariants.{Number, NoMore, Made, Value}
use Rattle.tp_board.specs.declared.view.Counters.{Counters}
use Rattle.tp_board.specs.declared.view.View.{View}
use Rattle.tp_board.specs.declared.rule.Size.{Size}

module _ where
  hands_set : (views : List View) (id : ℕ) (u : View)
      → map (λ v. first_of v.hand) (set views id u) ≡ set (map (λ v. first_of v.hand) views) id (first_of u.hand)
  hands_set [] id u = refl
  hands_set (v ∷ vs) zero u = refl
  hands_set (v ∷ vs) (suc id) u = ap (λ l. first_of v.hand ∷ l) (hands_set vs id u)

  hand_at : (views : List View) (id : ℕ) (v : View) → get_elem? views id ≡ some v
      → get_or (map (λ v. first_of v.hand) views) id None ≡ first_of v.hand
  hand_at [] id v at = absurd (some-ne-none v (sym at))
  hand_at (y ∷ ys) zero v at = ap (λ (u : View). first_of u.hand) (some-injective y v at)
  hand_at (y ∷ ys) (suc id) v at = hand_at ys id v at

  same_hand : (views : List View) (id : ℕ) (v u : View) → get_elem? views id ≡ some v → u.hand ≡ v.hand
      → map (λ v. first_of v.hand) (set views id u) ≡ map (λ v. first_of v.hand) views
  same_hand [] id v u at e = refl
  same_hand (y ∷ ys) zero v u at e =
      ap (λ h. first_of h ∷ map (λ v. first_of v.hand) ys) (e ∙ ap (λ (y : View). y.hand) (sym (some-injective y v at)))
  same_hand (y ∷ ys) (suc id) v u at e = ap (λ l. first_of y.hand ∷ l) (same_hand ys id v u at e)

-- the farm after these words and views is what the event makes of the farm before, with this reply
abbrev Told : Size → List ℕ → List ℕ → List View → List View → ℕ → Event → Reply → Type 0
Told k words words' views views' id event r =
    IsSame (core_of k words' views') (step (core_of k words views) id event).1 × ((step (core_of k words views) id event).0 ≡ r)

-- where the words are known by their names
by_name : (k : Size) (words : List ℕ) (w w' : Counters) (views views' : List View) (id : ℕ) (event : Event) (r : Reply)
    → words ≡ words_of w → words_after event (words_of w) ≡ words_of w'
    → Told k (words_of w) (words_of w') views views' id event r → Told k words (words_after event words) views views' id event r
by_name k words w w' views views' id event r is next told =
    subst (λ ws. Told k ws (words_after event ws) views views' id event r) (sym is)
    (subst (λ ws. Told k (words_of w) ws views views' id event r) (sym next) told)

-- an event's law holds, since each step keeps the rule and finds its word fresh
event_law : (event : Event) (k : Size) (words : List ℕ) (views : List View) (id : ℕ) (v : View) → IsSeatAt k words views id v
    → MayStep event v
    → let n = word_found event words in
    let row = row_of event in
    Told k words (words_after event words) views (set views id (row.view v n)) id event (row.reply v n)
    → IsFresh v row.word n
    × IsEvent k words views (words_after event words) (set views id (row.view v n)) id event (row.reply v n)
event_law event k words views id v (h, at, one) may told = (
  word_fresh k words views id v h at (row_of event).word one,
  record { rule = moves k words views id v h at event may one; core_state = told.0; answered = told.1 },
)

-- a seat whose hand and reports stay leaves the farm's
unmoved : (k : Size) (w w' : Counters) (views : List View) (id : ℕ) (v u : View) → get_elem? views id ≡ some v → u.hand ≡ v.hand
    → u.finished ≡ v.finished → u.abandoned ≡ v.abandoned → min w'.claimed k.packets ≡ min w.claimed k.packets
    → IsSame (core_of k (words_of w') (set views id u)) (core_of k (words_of (record w { stop = w'.stop })) views)
unmoved k w w' views id v u at hand finished abandoned drawn = record {
  packets = refl;
  drawn = drawn;
  hands = same_hand views id v u at hand;
  done =
      (λ x. let a = gathered_set (λ v. v.finished) x views id v u at in let b = ap (times x) finished in omega arith);
  lost =
      (λ x. let a = gathered_set (λ v. v.abandoned) x views id v u at in let b = ap (times x) abandoned in omega arith);
  stop = refl;
}

-- a claim by one with nothing in hand, where a number is left and where none is
drawn_by : (s t : CoreState) (id : ℕ) (r : Reply) (b : Bool) → hand_of s id ≡ None → ltb s.drawn s.packets ≡ b
    → (let given : Step =
    if b then (Number s.drawn, core_state s.packets (s.drawn + 1) (hands_with s id (Some s.drawn)) s.done s.lost s.stop)
    else (NoMore, s) in IsSame t given.1 × (given.0 ≡ r))
    → IsSame t (step s id Claim).1 × ((step s id Claim).0 ≡ r)
drawn_by s t id r b none test h =
    subst (λ o. IsSame t (claim_step s id o).1 × ((claim_step s id o).0 ≡ r)) (sym none)
    (subst (λ b. let given : Step =
    if b then (Number s.drawn, core_state s.packets (s.drawn + 1) (hands_with s id (Some s.drawn)) s.done s.lost s.stop)
    else (NoMore, s) in IsSame t given.1 × (given.0 ≡ r)) (sym test) h)

module _ (k : Size) (w : Counters) (views : List View) (id : ℕ) (v : View) (at : get_elem? views id ≡ some v)
    (none : v.hand ≡ []) where
  draw_below : w.claimed < k.packets
      → Told k (words_of w) (words_of (record w { claimed = w.claimed + 1 })) views (set views id (with_number v w.claimed)) id Claim
      (Number w.claimed)
  draw_below below =
      let u = with_number v w.claimed in
      let was : min w.claimed k.packets ≡ w.claimed = omega arith in
      let now : min (w.claimed + 1) k.packets ≡ w.claimed + 1 = omega arith in
      drawn_by (core_of k (words_of w) views) (core_of k (words_of (record w { claimed = w.claimed + 1 })) (set views id u)) id
      (Number w.claimed) true (hand_at views id v at ∙ ap first_of none)
      (lt-ltb (min w.claimed k.packets) k.packets (omega arith)) (
        record {
          packets = refl;
          drawn = (omega arith);
          hands =
              hands_set views id u ∙ ap (λ h. set (map (λ v. first_of v.hand) views) id (first_of h))
              (ap (λ l. l ++ w.claimed ∷ []) none)
              ∙ ap (λ n. set (map (λ v. first_of v.hand) views) id (Some n)) (sym was);
          done = (λ x. let a = gathered_set (λ v. v.finished) x views id v u at in omega arith);
          lost = (λ x. let a = gathered_set (λ v. v.abandoned) x views id v u at in omega arith);
          stop = refl;
        },
        ap (λ n. Number n) was,
      )

  draw_above : k.packets ≤ w.claimed
      → Told k (words_of w) (words_of (record w { claimed = w.claimed + 1 })) views (set views id (with_end v)) id Claim NoMore
  draw_above above =
      drawn_by (core_of k (words_of w) views)
      (core_of k (words_of (record w { claimed = w.claimed + 1 })) (set views id (with_end v))) id NoMore false
      (hand_at views id v at ∙ ap first_of none) (le-ltb (min w.claimed k.packets) k.packets (omega arith))
      (unmoved k w (record w { claimed = w.claimed + 1 }) views id v (with_end v) at refl refl refl (omega arith), refl)

pub claim_law : StepLaw Claim
claim_law k words views id v (h, at, one) may =
    let w = h.0 in
    let packets : v.packets ≡ k.packets = (h.2.fits id v at).packets (omega arith) in
    let w' : Counters = record w { claimed = w.claimed + 1 } in
    let next : words_after Claim (words_of w) ≡ words_of w' =
    ap (λ n. n ∷ w.done ∷ w.lost ∷ w.stop ∷ []) (added w.claimed (let z = claimed_small k w views h.2 in omega arith)) in
    let Branch : Bool → Type 0 =
    λ b. Told k (words_of w) (words_of w') views (set views id (if b then with_number v w.claimed else with_end v)) id Claim
    (if b then Number w.claimed else NoMore) in
    let drew : Branch (ltb w.claimed v.packets) = ⊎_elim
    (λ (below : w.claimed < v.packets). subst Branch (sym (lt-ltb w.claimed v.packets below))
    (draw_below k w views id v at may.0 (omega arith)))
    (λ (above : v.packets ≤ w.claimed). subst Branch (sym (le-ltb w.claimed v.packets above))
    (draw_above k w views id v at may.0 (omega arith)))
    (cases_lt w.claimed v.packets) in
    let told =
    subst (λ n. Told k words (words_after Claim words) views (set views id (after_draw v n)) id Claim (claim_reply v.packets n))
    (sym (ap (λ ws. slice_index ws 0) h.1))
    (by_name k words w w' views (set views id (after_draw v w.claimed)) id Claim (claim_reply v.packets w.claimed) h.1 next drew) in
    event_law Claim k words views id v (h, at, one) may told

pub finish_law : StepLaw Finish
finish_law k words views id v (h, at, one) (n, full) =
    let w = h.0 in
    let u = after_finish v in
    let w' : Counters = record w { done = w.done + 1 } in
    let small = finished_small k w views h.2 in
    let next : words_after Finish (words_of w) ≡ words_of w' =
    ap (λ n. w.claimed ∷ n ∷ w.lost ∷ w.stop ∷ []) (added w.done (omega arith)) in
    let told = by_name k words w w' views (set views id u) id Finish (Number n) h.1 next
    (subst (λ o. let given = finish_step (core_of k (words_of w) views) id o in
    IsSame (core_of k (words_of w') (set views id u)) given.1 × (given.0 ≡ Number n))
    (sym (hand_at views id v at ∙ ap first_of full)) (
      record {
        packets = refl;
        drawn = refl;
        hands = hands_set views id u;
        done =
            (λ x. let a = gathered_set (λ v. v.finished) x views id v u at in let b = times-append x v.finished
            v.hand in let c = times-append x (all_finished views) (n ∷ []) in let d = ap (times x) full in omega arith);
        lost = (λ x. let a = gathered_set (λ v. v.abandoned) x views id v u at in omega arith);
        stop = refl;
      },
      refl,
    )) in
    event_law Finish k words views id v (h, at, one) (n, full) (told.0, told.1 ∙ ap hand_reply (sym full))

pub abandon_law : StepLaw Abandon
abandon_law k words views id v (h, at, one) (n, full) =
    let w = h.0 in
    let u = after_abandon v in
    let w' : Counters = record w { lost = w.lost + 1 } in
    let small = abandoned_small k w views h.2 in
    let next : words_after Abandon (words_of w) ≡ words_of w' =
    ap (λ n. w.claimed ∷ w.done ∷ n ∷ w.stop ∷ []) (added w.lost (omega arith)) in
    let told = by_name k words w w' views (set views id u) id Abandon (Number n) h.1 next
    (subst (λ o. let given = abandon_step (core_of k (words_of w) views) id o in
    IsSame (core_of k (words_of w') (set views id u)) given.1 × (given.0 ≡ Number n))
    (sym (hand_at views id v at ∙ ap first_of full)) (
      record {
        packets = refl;
        drawn = refl;
        hands = hands_set views id u;
        done = (λ x. let a = gathered_set (λ v. v.finished) x views id v u at in omega arith);
        lost =
            (λ x. let a = gathered_set (λ v. v.abandoned) x views id v u at in let b = times-append x v.abandoned
            v.hand in let c = times-append x (all_abandoned views) (n ∷ []) in let d = ap (times x) full in omega arith);
        stop = refl;
      },
      refl,
    )) in
    event_law Abandon k words views id v (h, at, one) (n, full) (told.0, told.1 ∙ ap hand_reply (sym full))

pub stop_law : StepLaw Stop
stop_law k words views id v (h, at, one) may =
    let w = h.0 in
    let w' : Counters = record w { stop = 1 } in
    let next : words_after Stop (words_of w) ≡ words_of w' =
    ap (λ n. w.claimed ∷ w.done ∷ w.lost ∷ n ∷ []) (ap (λ n. bit_or n 1) h.2.stop ∙ one_or (total (λ v. v.stop_callers) views)) in
    let told = by_name k words w w' views (set views id (after_stop v)) id Stop Made h.1 next
    (unmoved k w w' views id v (after_stop v) at refl refl refl refl, refl) in
    event_law Stop k words views id v (h, at, one) may told

stop_shown : (t : ℕ) → (if nat_eq (min 1 t) 1 then 1 else 0) ≡ min 1 t
stop_shown zero = refl
stop_shown (suc t) = let e : min 1 (suc t) ≡ 1 = omega arith in rw e refl

look_at : (k : Size) (w : Counters) (views : List View) (id : ℕ) (v : View) (what : Shown) → Rule k w views
    → get_elem? views id ≡ some v
    → let n = word_of what (words_of w) in
    Told k (words_of w) (words_of w) views (slice_set views id (after_look v what n)) id (Look what) (Value (answer_for what k.packets n))
look_at k w views id v shown.Claimed r at =
    (unmoved k w w views id v (after_look v shown.Claimed w.claimed) at refl refl refl refl, refl)
look_at k w views id v shown.Done r at = (
  unmoved k w w views id v (after_look v shown.Done w.done) at refl refl refl refl,
  ap (λ n. Value n) (length_gathered (λ v. v.finished) views ∙ sym r.done),
)
look_at k w views id v shown.Lost r at = (
  unmoved k w w views id v (after_look v shown.Lost w.lost) at refl refl refl refl,
  ap (λ n. Value n) (length_gathered (λ v. v.abandoned) views ∙ sym r.lost),
)
look_at k w views id v shown.Stop r at = (
  unmoved k w w views id v (after_look v shown.Stop w.stop) at refl refl refl refl,
  ap (λ n. Value n) (ap (λ n. if nat_eq n 1 then 1 else 0) r.stop ∙ stop_shown (total (λ v. v.stop_callers) views)
      ∙ sym r.stop),
)

pub look_law : (what : Shown) → StepLaw (Look what)
look_law what k words views id v (h, at, one) may =
    let packets : v.packets ≡ k.packets = (h.2.fits id v at).packets (omega arith) in
    let told =
    subst (λ ws. let n = word_of what ws in
    Told k ws ws views (slice_set views id (after_look v what n)) id (Look what) (Value (answer_for what k.packets n))) (sym h.1)
    (look_at k h.0 views id v what h.2 at) in
    event_law (Look what) k words views id v (h, at, one) may (
      subst (λ ws. IsSame (core_of k ws (set views id (after_look v what (word_of what words))))
          (step (core_of k words views) id (Look what)).1) (sym (set_same (place_of what) words)) told.0,
      told.1 ∙ ap (λ p. Value (answer_for what p (word_of what words))) (sym packets),
    )

-- ---- the accounts
hand_times : (x : ℕ) (ns : List ℕ) → length ns ≤ 1 → times x (hand_list (first_of ns)) ≡ times x ns
hand_times x [] h = refl
hand_times x (n ∷ []) h = refl
hand_times x (n ∷ m ∷ ns) h = absurd (omega arith)

hands_total : (x : ℕ) (views : List View) → All (λ v. length v.hand ≤ 1) views
    → times_in_hands x (map (λ v. first_of v.hand) views) ≡ total (λ v. times x v.hand) views
hands_total x [] h = refl
hands_total x (v ∷ vs) h =
    let a =
    hand_times x v.hand (All-head (λ u. length u.hand ≤ 1) v vs h) in let ih =
    hands_total x vs (All-tail (λ u. length u.hand ≤ 1) v vs h) in omega arith

pub accounts_law : AccountsLaw
accounts_law k words views h one =
    let w = h.0 in
    let r = h.2 in
    subst (λ ws. Accounts (core_of k ws views)) (sym h.1) (record {
      within = omega arith;
      each_once = (λ x.
          let a = hands_total x views one in
          let b = times_gathered (λ v. v.finished) x views in
          let c = times_gathered (λ v. v.abandoned) x views in
          let d =
          total_parts (λ v. times x v.drawn) (λ v. times x v.finished) (λ v. times x v.abandoned) (λ v. times x v.hand) views
          (λ id v at. (r.fits id v at).each_once x) in
          let e = r.each_once x in omega arith);
    })
