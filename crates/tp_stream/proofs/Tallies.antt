-- Each step at a stream's three words keeps their rule.
use Rattle.std.proofs.Common.{◌≡◌, ◌≢◌, ℕ, zero, suc, ◌+◌, ◌-◌, ◌*◌, ◌%◌, ◌^◌, ◌<◌, ◌≤◌, min, bit_or, List, [], ◌∷◌, ◌++◌, length}
use Rattle.std.proofs.Common.{set, sym, refl, ap, ◌∙◌, subst, arith, length-append}
use Rattle.std.specs.Prelude.{slice_index, slice_set}
use mathlib.Core.Option.{some, none, some-ne-none, some-injective}
use lib.ListN.{get_elem?}
use Rattle.atomic_table.specs.Table.{State, Me, keeps, step, Allows, Splits, Joins, Seen, opening}
use Rattle.tp_board.specs.declared.event.Event.TheVariants.{Finish, Abandon, Stop, Look}
use Rattle.tp_board.specs.declared.event.Shown.{Shown}
use Rattle.tp_board.specs.declared.event.Shown.TheVariants as shown
use Rattle.tp_board.specs.declared.view.Counters.{Counters}
use Rattle.tp_board.specs.declared.view.View.{View}
use Rattle.tp_board.specs.declared.rule.Size.{Size}
use Rattle.tp_board.specs.Words.{size, counters, place_of}
use Rattle.tp_board.specs.Views.{newcomer, nothing_seen, join_of}
use Rattle.tp_board.specs.Rule.{total, AtMost}
use Rattle.tp_board.specs.Steps.{after_finish, after_abandon, after_stop, after_look, with_seen}
use Rattle.tp_board.specs.Plays.{HasStepped}
use Rattle.tp_stream.specs.Tallies.{FitsTally, TallyRule, KeepsTally, TallyHolds, with_numbers, Reports}
use Rattle.tp_stream.specs.Tallies.{tally_words_of, tally_place_of}
use Rattle.tp_board.proofs.Moves.{added, one_or, set_same}
use Rattle.tp_board.proofs.Steps.{wider, both_at_most}
use Rattle.tp_board.proofs.Totals.{total_set, le_total, total_le, others_none, all_of, each_set, each_snoc, Exchange, Goes}
use Rattle.tp_board.proofs.Totals.{one_changed, one_cut, two_joined, still_there}

grown : (k : Size) (w u : Counters) (v : View) → AtMost w u → FitsTally k w v → FitsTally k u v
grown k w u v a f = record { few = f.few; seen = wider v.seen w u f.seen a; idle = f.idle }

total_times : (c : ℕ) (views : List View) → total (λ v. c * v.parts) views ≡ c * total (λ v. v.parts) views
total_times c [] = omega arith
total_times c (v ∷ vs) = let ih = total_times c vs in grind arith

done_small : (k : Size) (w : Counters) (views : List View) → TallyRule k w views → w.done ≤ 66560
done_small k w views r =
    let a =
    total_le (λ v. length v.finished) (λ v. 1024 * v.parts) views (λ id v at. let f = (r.fits id v at).few in omega arith) in
    let b = total_times 1024 views in let c = r.parts in let d = r.few_seats in let e = r.done in omega arith

lost_small : (k : Size) (w : Counters) (views : List View) → TallyRule k w views → w.lost ≤ 66560
lost_small k w views r =
    let a =
    total_le (λ v. length v.abandoned) (λ v. 1024 * v.parts) views (λ id v at. let f = (r.fits id v at).few in omega arith) in
    let b = total_times 1024 views in let c = r.parts in let d = r.few_seats in let e = r.lost in omega arith

-- views are exchanged for others, and the words change with them
changed : (k : Size) (w w' : Counters) (views olds views' news : List View) → TallyRule k w views
    → Exchange views olds views' news → w'.claimed ≡ 0
    → Goes olds news (λ v. v.parts) k.members k.members
    → Goes olds news (λ v. length v.finished) w.done w'.done
    → Goes olds news (λ v. length v.abandoned) w.lost w'.lost
    → w'.stop ≡ min 1 (total (λ v. v.stop_callers) views')
    → ((id : ℕ) (v : View) → get_elem? views' id ≡ some v → FitsTally k w' v) → TallyRule k w' views'
changed k w w' views olds views' news r e unclaimed same done lost stop fits = record {
  few_seats = r.few_seats;
  no_claim = unclaimed;
  parts = (let a = e (λ v. v.parts) in let b = r.parts in omega arith);
  done = (let a = e (λ v. length v.finished) in let b = r.done in omega arith);
  lost = (let a = e (λ v. length v.abandoned) in let b = r.lost in omega arith);
  stop = stop;
  fits = fits;
}

-- one seat makes a step
stepped : (k : Size) (w w' : Counters) (views : List View) (id : ℕ) (v u : View) → TallyRule k w views
    → get_elem? views id ≡ some v → w'.claimed ≡ 0 → u.parts ≡ v.parts
    → w'.done + length v.finished ≡ w.done + length u.finished
    → w'.lost + length v.abandoned ≡ w.lost + length u.abandoned
    → w'.stop ≡ min 1 (total (λ v. v.stop_callers) (set views id u)) → AtMost w w' → FitsTally k w' u
    → TallyRule k w' (set views id u)
stepped k w w' views id v u r at unclaimed same done lost stop more mine =
    changed k w w' views (v ∷ []) (set views id u) (u ∷ []) r (one_changed views id v u at) unclaimed (omega arith) (omega arith)
    (omega arith) stop (each_set (FitsTally k w') views id u mine (λ j y _ e. grown k w w' y more (r.fits j y e)))

module _ (k : Size) (words : List ℕ) (views : List View) (id : ℕ) (v : View) (h : KeepsTally k words views)
    (at : get_elem? views id ≡ some v) where
  pub finish_keeps : (n : ℕ) → v.parts ≡ 1 → length v.finished + length v.abandoned < 1024
      → KeepsTally k (slice_set words 0 ((slice_index words 0 + 1) % 2 ^ 64)) (set views id (after_finish (with_numbers v (n ∷ []))))
  finish_keeps n one room =
      let w = h.0 in let r = h.2 in let small = done_small k w views r in let f = r.fits id v at in
      let u = after_finish (with_numbers v (n ∷ [])) in
      let w' : Counters = counters w.claimed (w.done + 1) w.lost w.stop in
      let long = length-append v.finished (n ∷ []) in
      let more : AtMost w w' = record { claimed = omega arith; done = omega arith; lost = omega arith; stop = omega arith } in (
        w',
        ap (λ ws. slice_set ws 0 ((slice_index ws 0 + 1) % 2 ^ 64)) h.1
            ∙ ap (λ d. d ∷ w.lost ∷ w.stop ∷ []) (added w.done (omega arith)),
        stepped k w w' views id v u r at r.no_claim refl (omega arith) (omega arith)
            (let a = total_set (λ v. v.stop_callers) views id v u at in let b = r.stop in omega arith) more
            (record { few = omega arith; seen = wider v.seen w w' f.seen more; idle = (λ e. absurd (omega arith)) }),
      )

  pub abandon_keeps : (n : ℕ) → v.parts ≡ 1 → length v.finished + length v.abandoned < 1024
      → KeepsTally k (slice_set words 1 ((slice_index words 1 + 1) % 2 ^ 64)) (set views id (after_abandon (with_numbers v (n ∷ []))))
  abandon_keeps n one room =
      let w = h.0 in let r = h.2 in let small = lost_small k w views r in let f = r.fits id v at in
      let u = after_abandon (with_numbers v (n ∷ [])) in
      let w' : Counters = counters w.claimed w.done (w.lost + 1) w.stop in
      let long = length-append v.abandoned (n ∷ []) in
      let more : AtMost w w' = record { claimed = omega arith; done = omega arith; lost = omega arith; stop = omega arith } in (
        w',
        ap (λ ws. slice_set ws 1 ((slice_index ws 1 + 1) % 2 ^ 64)) h.1
            ∙ ap (λ d. w.done ∷ d ∷ w.stop ∷ []) (added w.lost (omega arith)),
        stepped k w w' views id v u r at r.no_claim refl (omega arith) (omega arith)
            (let a = total_set (λ v. v.stop_callers) views id v u at in let b = r.stop in omega arith) more
            (record { few = omega arith; seen = wider v.seen w w' f.seen more; idle = (λ e. absurd (omega arith)) }),
      )

  pub stop_keeps : v.parts ≡ 1 → KeepsTally k (slice_set words 2 (bit_or (slice_index words 2) 1)) (set views id (after_stop v))
  stop_keeps one =
      let w = h.0 in let r = h.2 in let f = r.fits id v at in
      let u = after_stop v in
      let w' : Counters = counters w.claimed w.done w.lost 1 in
      let was = r.stop in
      let more : AtMost w w' = record { claimed = omega arith; done = omega arith; lost = omega arith; stop = omega arith } in (
        w',
        ap (λ ws. slice_set ws 2 (bit_or (slice_index ws 2) 1)) h.1 ∙ ap (λ n. w.done ∷ w.lost ∷ n ∷ [])
            (ap (λ n. bit_or n 1) r.stop ∙ one_or (total (λ v. v.stop_callers) views)),
        stepped k w w' views id v u r at r.no_claim refl (omega arith) (omega arith)
            (let a = total_set (λ v. v.stop_callers) views id v u at in let b = le_total
            (λ v. v.stop_callers) views id v at in omega arith) more
            (record { few = f.few; seen = wider v.seen w w' f.seen more; idle = (λ e. absurd (omega arith)) }),
      )

  pub look_keeps : (what : Shown) → 0 < place_of what
      → let n =
      slice_index words (tally_place_of what) in KeepsTally k (slice_set words (tally_place_of what) n)
      (set views id (after_look v what n))
  look_keeps what kept =
      let place = tally_place_of what in
      subst (λ ws. KeepsTally k ws (set views id (after_look v what (slice_index words place)))) (sym (set_same place words))
      (subst (λ ws. KeepsTally k words (set views id (after_look v what (slice_index ws place)))) (sym h.1)
      (h.0, h.1, looked h.0 h.2 what kept))
    where
      saw : (w : Counters) → TallyRule k w views → (seen : Counters) → AtMost seen w
          → TallyRule k w (set views id (with_seen v seen))
      saw w r seen least =
          let f = r.fits id v at in let u = with_seen v seen in
          let same : AtMost w w = record { claimed = omega arith; done = omega arith; lost = omega arith; stop = omega arith } in
          stepped k w w views id v u r at r.no_claim refl (omega arith) (omega arith)
          (let a = total_set (λ v. v.stop_callers) views id v u at in let b = r.stop in omega arith) same
          (record { few = f.few; seen = least; idle = f.idle })

      looked : (w : Counters) → TallyRule k w views → (what : Shown) → 0 < place_of what
          → TallyRule k w (set views id (after_look v what (slice_index (tally_words_of w) (tally_place_of what))))
      looked w r shown.Claimed kept = absurd (omega arith)
      looked w r shown.Done kept =
          let s =
          (r.fits id v at).seen in saw w r (counters v.seen.claimed w.done v.seen.lost v.seen.stop)
          (record { claimed = s.claimed; done = omega arith; lost = s.lost; stop = s.stop })
      looked w r shown.Lost kept =
          let s =
          (r.fits id v at).seen in saw w r (counters v.seen.claimed v.seen.done w.lost v.seen.stop)
          (record { claimed = s.claimed; done = s.done; lost = omega arith; stop = s.stop })
      looked w r shown.Stop kept =
          let s =
          (r.fits id v at).seen in saw w r (counters v.seen.claimed v.seen.done v.seen.lost w.stop)
          (record { claimed = s.claimed; done = s.done; lost = s.lost; stop = omega arith })

  pub stop_fresh : let n = slice_index words 2 in (v.seen.stop ≤ n) × (min 1 v.stop_callers ≤ n) × (n ≤ 1)
  stop_fresh =
      let found : slice_index words 2 ≡ h.0.stop = ap (λ ws. slice_index ws 2) h.1 in
      let s = (h.2.fits id v at).seen.stop in let a = le_total (λ v. v.stop_callers) views id v at in let b = h.2.stop in
      (omega arith, omega arith, omega arith)

  pub done_fresh : (v.seen.done ≤ slice_index words 0) × (length v.finished ≤ slice_index words 0)
  done_fresh =
      let found : slice_index words 0 ≡ h.0.done = ap (λ ws. slice_index ws 0) h.1 in
      let s = (h.2.fits id v at).seen.done in let a = le_total (λ v. length v.finished) views id v at in let b = h.2.done in
      (omega arith, omega arith)

  pub lost_fresh : (v.seen.lost ≤ slice_index words 1) × (length v.abandoned ≤ slice_index words 1)
  lost_fresh =
      let found : slice_index words 1 ≡ h.0.lost = ap (λ ws. slice_index ws 1) h.1 in
      let s = (h.2.fits id v at).seen.lost in let a = le_total (λ v. length v.abandoned) views id v at in let b = h.2.lost in
      (omega arith, omega arith)

module _ {S : Type 0} (k : Size) (slots id : ℕ) (me : Me S View) where
  pub finishes : (n : ℕ) → me.0.parts ≡ 1 → length me.0.finished + length me.0.abandoned < 1024
      → Allows (TallyHolds k) slots id me 0 (λ n. (n + 1) % 2 ^ 64) (Reports Finish n (step slots 0 1 0 none) me)
  finishes n one room s h _ at _ = (
    after_finish (with_numbers me.0 (n ∷ [])),
    keeps,
    tt,
    finish_keeps k s.words s.views id me.0 h at n one room,
    (refl, (n, refl), done_fresh k s.words s.views id me.0 h at),
  )

  pub abandons : (n : ℕ) → me.0.parts ≡ 1 → length me.0.finished + length me.0.abandoned < 1024
      → Allows (TallyHolds k) slots id me 1 (λ n. (n + 1) % 2 ^ 64) (Reports Abandon n (step slots 1 1 0 none) me)
  abandons n one room s h _ at _ = (
    after_abandon (with_numbers me.0 (n ∷ [])),
    keeps,
    tt,
    abandon_keeps k s.words s.views id me.0 h at n one room,
    (refl, (n, refl), lost_fresh k s.words s.views id me.0 h at),
  )

  pub stops : me.0.parts ≡ 1 → Allows (TallyHolds k) slots id me 2 (λ n. bit_or n 1) (HasStepped Stop (step slots 2 1 0 none) me)
  stops one s h _ at _ = (
    after_stop me.0,
    keeps,
    tt,
    stop_keeps k s.words s.views id me.0 h at one,
    (refl, tt, stop_fresh k s.words s.views id me.0 h at),
  )

  pub looks : Allows (TallyHolds k) slots id me 2 (λ n. n) (HasStepped (Look shown.Stop) (step slots 2 0 0 none) me)
  looks s h _ at _ = (
    after_look me.0 shown.Stop (slice_index s.words 2),
    keeps,
    tt,
    look_keeps k s.words s.views id me.0 h at shown.Stop (omega arith),
    (refl, tt, stop_fresh k s.words s.views id me.0 h at),
  )

pub newcomer_fits : (k : Size) (w : Counters) (p m : ℕ) → FitsTally k w (newcomer p m)
newcomer_fits k w p m = record {
  few = omega arith;
  seen = record { claimed = omega arith; done = omega arith; lost = omega arith; stop = omega arith };
  idle = (λ _. (refl, refl, refl));
}

split_rule : (k : Size) (w : Counters) (views : List View) (id p m : ℕ) → 0 < m → TallyRule k w views
    → get_elem? views id ≡ some (newcomer p m)
    → TallyRule k w (set views id (newcomer p (m - 1)) ++ newcomer p 1 ∷ [])
split_rule k w views id p m some_part r at =
    let v : View = newcomer p m in let u : View = newcomer p (m - 1) in let n : View = newcomer p 1 in
    let e = one_cut views id v u n at in
    changed k w w views (v ∷ []) (set views id u ++ n ∷ []) (u ∷ n ∷ []) r e r.no_claim (omega arith) refl refl
    (let a = e (λ v. v.stop_callers) in let b = r.stop in omega arith)
    (each_snoc (FitsTally k w) (set views id u) n
    (each_set (FitsTally k w) views id u (newcomer_fits k w p (m - 1)) (λ j y _ e. r.fits j y e)) (newcomer_fits k w p 1))

joined_fits : (k : Size) (w : Counters) (v u : View) → 0 < v.parts → FitsTally k w v → FitsTally k w u → FitsTally k w (join_of v u)
joined_fits k w v u some_part f g = record {
  few =
      (let a = f.few in let b = g.few in let d = length-append v.finished u.finished in let e = length-append v.abandoned
      u.abandoned in omega arith);
  seen = both_at_most v.seen u.seen w f.seen g.seen;
  idle = (λ e. absurd (omega arith));
}

join_rule : (k : Size) (w : Counters) (views : List View) (id : ℕ) (v : View) (other : ℕ) (u : View) → 0 < v.parts
    → TallyRule k w views → get_elem? views id ≡ some v → other ≢ id → get_elem? (set views id (join_of v u)) other ≡ some u
    → TallyRule k w (set (set views id (join_of v u)) other (newcomer 0 0))
join_rule k w views id v other u some_part r at apart there =
    let b : View = join_of v u in let s : View = newcomer 0 0 in let vs = set views id b in
    let e = two_joined views id v b other u s at there in
    let done = length-append v.finished u.finished in
    let lost = length-append v.abandoned u.abandoned in
    changed k w w views (v ∷ u ∷ []) (set vs other s) (b ∷ s ∷ []) r e r.no_claim (omega arith) (omega arith) (omega arith)
    (let a = e (λ v. v.stop_callers) in let b = r.stop in omega arith)
    (each_set (FitsTally k w) vs other s (newcomer_fits k w 0 0) (λ j y _ e. each_set (FitsTally k w) views id b
    (joined_fits k w v u some_part (r.fits id v at) (r.fits other u (still_there views id b other u apart there)))
    (λ j y _ e. r.fits j y e) j y e))

module _ {S : Type 0} (k : Size) (id : ℕ) (v : View) where
  pub splits : (p m : ℕ) → 0 < m → v ≡ newcomer p m
      → Splits {S = S} (TallyHolds k) id v (newcomer v.packets (v.parts - 1)) (newcomer v.packets 1)
  splits p m some_part is =
      subst (λ (v : View). Splits {S = S} (TallyHolds k) id v (newcomer v.packets (v.parts - 1)) (newcomer v.packets 1)) (sym is)
      (λ s h at. (h.0, h.1, split_rule k h.0 s.views id p m some_part h.2 at))

  pub joins : (other : ℕ) (u : View) → 0 < v.parts → Joins {S = S} (TallyHolds k) id v other u (join_of v u) (newcomer 0 0)
  joins other u some_part s h at apart there = (h.0, h.1, join_rule k h.0 s.views id v other u some_part h.2 at apart there)

pub opens : (S : Type 0) (p m : ℕ) → m ≤ 65 → TallyHolds {S = S} (size p m) (opening (0 ∷ 0 ∷ 0 ∷ []) [] (newcomer p m))
opens S p m few_seats = (
  nothing_seen,
  refl,
  record {
    few_seats = few_seats;
    no_claim = refl;
    parts = omega arith;
    done = refl;
    lost = refl;
    stop = omega arith;
    fits = only;
  },
)
  where
    only : (id : ℕ) (v : View) → get_elem? (newcomer p m ∷ []) id ≡ some v → FitsTally (size p m) nothing_seen v
    only zero v at =
        subst (FitsTally (size p m) nothing_seen) (some-injective (newcomer p m) v at) (newcomer_fits (size p m) nothing_seen p m)
    only (suc id) v at = absurd (some-ne-none v (sym at))

-- what the rule says of the view that has every part
pub record WholeTally (w : Counters) (v : View) : Type 0 where
  pub no_claim : w.claimed ≡ 0
  pub done : w.done ≡ length v.finished
  pub lost : w.lost ≡ length v.abandoned
  pub stop : w.stop ≡ min 1 v.stop_callers
  pub seen : AtMost v.seen w

pub closes : (S : Type 0) (k : Size) (id : ℕ) (v : View) (ws : List ℕ) (s : State S View) → k.members ≤ v.parts
    → Seen (TallyHolds k) id v s → s.words ≡ ws → (w : Counters) × (ws ≡ tally_words_of w) × WholeTally w v × (v.parts ≡ k.members)
closes S k id v ws s most h e =
    let r = h.0.2 in
    let every : v.parts ≡ k.members = (let a = le_total (λ v. v.parts) s.views id v h.1 in let b = r.parts in omega arith) in
    let none = others_none (λ v. v.parts) s.views id v h.1 (r.parts ∙ sym every) in
    let of =
    λ (f : View → ℕ) (g : (u : View) → FitsTally k h.0.0 u → u.parts ≡ 0 → f u ≡ 0). all_of f s.views id v h.1
    (λ j u apart there. g u (r.fits j u there) (none j u apart there)) in (
      h.0.0,
      sym e ∙ h.0.1,
      record {
        no_claim = r.no_claim;
        done = r.done ∙ of (λ v. length v.finished) (λ u f e. ap length (f.idle e).0);
        lost = r.lost ∙ of (λ v. length v.abandoned) (λ u f e. ap length (f.idle e).1);
        stop = r.stop ∙ ap (λ n. min 1 n) (of (λ v. v.stop_callers) (λ u f e. (f.idle e).2));
        seen = (r.fits id v h.1).seen;
      },
      every,
    )
