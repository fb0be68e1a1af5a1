-- Each kind of step keeps the rule.
use Rattle.std.proofs.Common.{◌≡◌, ◌≢◌, ℕ, ◌+◌, ◌-◌, ◌<◌, ◌≤◌, ltb, min, List, [], ◌∷◌, ◌++◌, length, set, sym, refl, ap, ◌∙◌}
use Rattle.std.proofs.Common.{arith, length-append}
use Rattle.std.proofs.lemmas.Bool.{cond_both, ltb-true, ltb-false}
use mathlib.Core.Option.{some}
use lib.ListN.{get_elem?}
use Rattle.tp_board.specs.Counting.{times, once_below}
use Rattle.tp_board.specs.Words.{counters}
use Rattle.tp_board.specs.Views.{newcomer, greater_counters, join_of}
use Rattle.tp_board.specs.Rule.{total, AtMost, Fits, Rule}
use Rattle.tp_board.specs.Steps.{with_number, with_end, after_draw, after_finish, after_abandon, after_stop, with_seen}
use Rattle.tp_board.proofs.Counting.{times-append, once_more}
use Rattle.tp_board.proofs.Reports.{Adds, to_finished, to_abandoned, reported}
use Rattle.tp_board.proofs.Totals.{le_total, others_none, all_of, each_set, each_snoc, Exchange, Goes, one_changed, one_cut}
use Rattle.tp_board.proofs.Totals.{two_joined, still_there}
use Rattle.tp_board.specs.declared.view.Counters.{Counters}
use Rattle.tp_board.specs.declared.view.View.{View}
use Rattle.tp_board.specs.declared.rule.Size.{Size}

-- what the rule says of the view that has every part
pub record Whole (k : Size) (w : Counters) (v : View) : Type 0 where
  pub each_once : (x : ℕ) → times x v.drawn ≡ once_below x (min w.claimed k.packets)
  pub drawn : length v.drawn ≡ min w.claimed k.packets
  pub ended : v.ended ≡ w.claimed - k.packets
  pub done : w.done ≡ length v.finished
  pub lost : w.lost ≡ length v.abandoned
  pub stop : w.stop ≡ min 1 v.stop_callers
  pub fits : Fits k w v

pub wider : (s w u : Counters) → AtMost s w → AtMost w u → AtMost s u
wider s w u a b =
    let a0 =
    a.claimed in let b0 =
    b.claimed in let a1 = a.done in let b1 = b.done in let a2 = a.lost in let b2 = b.lost in let a3 = a.stop in let b3 = b.stop in
    record { claimed = omega arith; done = omega arith; lost = omega arith; stop = omega arith }

pub both_at_most : (s t w : Counters) → AtMost s w → AtMost t w → AtMost (greater_counters s t) w
both_at_most s t w a b =
    let a0 =
    a.claimed in let b0 =
    b.claimed in let a1 = a.done in let b1 = b.done in let a2 = a.lost in let b2 = b.lost in let a3 = a.stop in let b3 = b.stop in
    record { claimed = omega arith; done = omega arith; lost = omega arith; stop = omega arith }

grown : (k : Size) (w u : Counters) (v : View) → AtMost w u → Fits k w v → Fits k u v
grown k w u v a f =
    record {
      packets = f.packets;
      ended = f.ended;
      in_hand = f.in_hand;
      each_once = f.each_once;
      counted = f.counted;
      seen = wider v.seen w u f.seen a;
      idle = f.idle;
    }

-- views are exchanged for others, and the words change with them
module _ (k : Size) (w w' : Counters) (views olds views' news : List View) (r : Rule k w views)
    (e : Exchange views olds views' news) where
  changed : Goes olds news (λ v. v.parts) k.members k.members
      → ((x : ℕ) → Goes olds news (λ v. times x v.drawn) (once_below x (min w.claimed k.packets))
      (once_below x (min w'.claimed k.packets)))
      → Goes olds news (λ v. length v.drawn) (min w.claimed k.packets) (min w'.claimed k.packets)
      → Goes olds news (λ v. v.ended) (w.claimed - k.packets) (w'.claimed - k.packets)
      → Goes olds news (λ v. length v.finished) w.done w'.done
      → Goes olds news (λ v. length v.abandoned) w.lost w'.lost
      → w'.stop ≡ min 1 (total (λ v. v.stop_callers) views')
      → ((id : ℕ) (v : View) → get_elem? views' id ≡ some v → Fits k w' v)
      → Rule k w' views'
  changed parts each_once drawn ended done lost stop fits = record {
    few_packets = r.few_packets;
    few_members = r.few_members;
    parts = (let a = e (λ v. v.parts) in let b = r.parts in omega arith);
    each_once = (λ x. let a = e (λ v. times x v.drawn) in let b = r.each_once x in let c = each_once x in omega arith);
    drawn = (let a = e (λ v. length v.drawn) in let b = r.drawn in omega arith);
    ended = (let a = e (λ v. v.ended) in let b = r.ended in omega arith);
    done = (let a = e (λ v. length v.finished) in let b = r.done in omega arith);
    lost = (let a = e (λ v. length v.abandoned) in let b = r.lost in omega arith);
    stop = stop;
    fits = fits;
  }

-- one seat makes a step
module _ (k : Size) (w : Counters) (views : List View) (id : ℕ) (v : View) (r : Rule k w views)
    (at : get_elem? views id ≡ some v) where
  fits_after : (w' : Counters) (u : View) → AtMost w w' → Fits k w u → (j : ℕ) (y : View) → get_elem? (set views id u) j ≡ some y
      → Fits k w' y
  fits_after w' u more mine =
      each_set (Fits k w') views id u (grown k w w' u more mine) (λ j y _ e. grown k w w' y more (r.fits j y e))

  -- where it calls no stop
  stepped : (w' : Counters) (u : View) → u.parts ≡ v.parts → u.stop_callers ≡ v.stop_callers → w'.stop ≡ w.stop
      → ((x : ℕ) → once_below x (min w'.claimed k.packets) + times x v.drawn ≡
      once_below x (min w.claimed k.packets) + times x u.drawn)
      → min w'.claimed k.packets + length v.drawn ≡ min w.claimed k.packets + length u.drawn
      → (w'.claimed - k.packets) + v.ended ≡ (w.claimed - k.packets) + u.ended
      → w'.done + length v.finished ≡ w.done + length u.finished
      → w'.lost + length v.abandoned ≡ w.lost + length u.abandoned
      → AtMost w w' → Fits k w u → Rule k w' (set views id u)
  stepped w' u parts callers stop each_once drawn ended done lost more mine =
      let e = one_changed views id v u at in
      changed k w w' views (v ∷ []) (set views id u) (u ∷ []) r e (omega arith) (λ x. let a = each_once x in omega arith)
      (omega arith) (omega arith) (omega arith) (omega arith)
      (let a = e (λ v. v.stop_callers) in let b = r.stop in omega arith) (fits_after w' u more mine)

given_fits : (k : Size) (w : Counters) (v : View) (n : ℕ) → v.hand ≡ [] → v.parts ≡ 1 → Fits k w v → Fits k w (with_number v n)
given_fits k w v n none one f = record {
  packets = f.packets;
  ended = f.ended;
  in_hand = (let e : length v.hand ≡ 0 = ap length none in let a = length-append v.hand (n ∷ []) in omega arith);
  each_once =
      (λ x. let a = times-append x v.drawn (n ∷ []) in let b = times-append x v.hand
      (n ∷ []) in let c = f.each_once x in omega arith);
  counted = (let a = length-append v.drawn (n ∷ []) in let b = length-append v.hand (n ∷ []) in let c = f.counted in omega arith);
  seen = f.seen;
  idle = (λ e. absurd (omega arith));
}

at_end_fits : (k : Size) (w : Counters) (v : View) → v.ended ≡ 0 → v.parts ≡ 1 → Fits k w v → Fits k w (with_end v)
at_end_fits k w v none one f =
    record {
      packets = f.packets;
      ended = omega arith;
      in_hand = f.in_hand;
      each_once = f.each_once;
      counted = f.counted;
      seen = f.seen;
      idle = (λ e. absurd (omega arith));
    }

pub drew_rule : (k : Size) (w : Counters) (views : List View) (id : ℕ) (v : View) → v.hand ≡ [] → v.ended ≡ 0 → v.parts ≡ 1
    → Rule k w views → get_elem? views id ≡ some v
    → Rule k (counters (w.claimed + 1) w.done w.lost w.stop) (set views id (after_draw v w.claimed))
drew_rule k w views id v none going one r at =
    let f = r.fits id v at in
    let packets : v.packets ≡ k.packets = f.packets (omega arith) in
    let w' : Counters = counters (w.claimed + 1) w.done w.lost w.stop in
    let more : AtMost w w' = record { claimed = omega arith; done = omega arith; lost = omega arith; stop = omega arith } in
    cond_both (ltb w.claimed v.packets) (with_number v w.claimed) (with_end v) (λ u. Rule k w' (set views id u))
    (λ t. let below : w.claimed < v.packets = ltb-true w.claimed v.packets t in
    let now : min (w.claimed + 1) k.packets ≡ w.claimed + 1 = omega arith in
    let was : min w.claimed k.packets ≡ w.claimed = omega arith in
    let long = length-append v.drawn (w.claimed ∷ []) in
    stepped k w views id v r at w' (with_number v w.claimed) refl refl refl
    (λ x. let a = times-append x v.drawn (w.claimed ∷ []) in let b = once_more x w.claimed in
    let c = ap (once_below x) now in let d = ap (once_below x) was in omega arith)
    (omega arith) (omega arith) refl refl more (given_fits k w v w.claimed none one f))
    (λ t. let above : v.packets ≤ w.claimed = ltb-false w.claimed v.packets t in
    let same : min (w.claimed + 1) k.packets ≡ min w.claimed k.packets = omega arith in
    stepped k w views id v r at w' (with_end v) refl refl refl (λ x. let a = ap (once_below x) same in omega arith)
    (omega arith) (omega arith) refl refl more (at_end_fits k w v going one f))

-- what was in hand is reported
reported_fits : (k : Size) (w : Counters) (v : View) (done lost : List ℕ) → Adds v v.hand done lost → Fits k w v
    → Fits k w (reported v (v.steps + 1) done lost)
reported_fits k w v done lost adds f = record {
  packets = f.packets;
  ended = f.ended;
  in_hand = omega arith;
  each_once = (λ x. let a = adds.each_once x in let b = f.each_once x in omega arith);
  counted = (let a = adds.counted in let b = f.counted in omega arith);
  seen = f.seen;
  idle = f.idle;
}

pub finish_rule : (k : Size) (w : Counters) (views : List View) (id : ℕ) (v : View) → length v.hand ≡ 1 → Rule k w views
    → get_elem? views id ≡ some v
    → Rule k (counters w.claimed (w.done + 1) w.lost w.stop) (set views id (after_finish v))
finish_rule k w views id v one r at =
    let long = length-append v.finished v.hand in
    stepped k w views id v r at (counters w.claimed (w.done + 1) w.lost w.stop) (after_finish v) refl refl refl (λ x. refl) refl
    refl (omega arith) refl (record { claimed = omega arith; done = omega arith; lost = omega arith; stop = omega arith })
    (reported_fits k w v (v.finished ++ v.hand) v.abandoned (to_finished v v.hand) (r.fits id v at))

pub abandon_rule : (k : Size) (w : Counters) (views : List View) (id : ℕ) (v : View) → length v.hand ≡ 1 → Rule k w views
    → get_elem? views id ≡ some v
    → Rule k (counters w.claimed w.done (w.lost + 1) w.stop) (set views id (after_abandon v))
abandon_rule k w views id v one r at =
    let long = length-append v.abandoned v.hand in
    stepped k w views id v r at (counters w.claimed w.done (w.lost + 1) w.stop) (after_abandon v) refl refl refl (λ x. refl) refl
    refl refl (omega arith) (record { claimed = omega arith; done = omega arith; lost = omega arith; stop = omega arith })
    (reported_fits k w v v.finished (v.abandoned ++ v.hand) (to_abandoned v v.hand) (r.fits id v at))

pub stop_rule : (k : Size) (w : Counters) (views : List View) (id : ℕ) (v : View) → v.parts ≡ 1 → Rule k w views
    → get_elem? views id ≡ some v
    → Rule k (counters w.claimed w.done w.lost 1) (set views id (after_stop v))
stop_rule k w views id v one r at =
    let f = r.fits id v at in
    let w' : Counters = counters w.claimed w.done w.lost 1 in
    let was = r.stop in
    let u : View = after_stop v in
    let e = one_changed views id v u at in
    changed k w w' views (v ∷ []) (set views id u) (u ∷ []) r e refl (λ x. refl) refl refl refl refl
    (let a = e (λ v. v.stop_callers) in let b = le_total (λ v. v.stop_callers) views id v at in omega arith)
    (fits_after k w views id v r at w' u
    (record { claimed = omega arith; done = omega arith; lost = omega arith; stop = omega arith }) (record {
      packets = f.packets;
      ended = f.ended;
      in_hand = f.in_hand;
      each_once = f.each_once;
      counted = f.counted;
      seen = f.seen;
      idle = (λ e. absurd (omega arith));
    }))

pub saw_rule : (k : Size) (w : Counters) (views : List View) (id : ℕ) (v : View) (s : Counters) → AtMost s w → Rule k w views
    → get_elem? views id ≡ some v → Rule k w (set views id (with_seen v s))
saw_rule k w views id v s within r at =
    let f = r.fits id v at in
    stepped k w views id v r at w (with_seen v s) refl refl refl (λ x. refl) refl refl refl refl
    (record { claimed = omega arith; done = omega arith; lost = omega arith; stop = omega arith }) (record {
      packets = f.packets;
      ended = f.ended;
      in_hand = f.in_hand;
      each_once = f.each_once;
      counted = f.counted;
      seen = within;
      idle = f.idle;
    })

pub newcomer_fits : (k : Size) (w : Counters) (p m : ℕ) → (0 < m → p ≡ k.packets) → Fits k w (newcomer p m)
newcomer_fits k w p m e = record {
  packets = e;
  ended = omega arith;
  in_hand = omega arith;
  each_once = (λ x. refl);
  counted = refl;
  seen = record { claimed = omega arith; done = omega arith; lost = omega arith; stop = omega arith };
  idle = (λ _. (refl, refl));
}

pub split_rule : (k : Size) (w : Counters) (views : List View) (id p m : ℕ) → 0 < m → Rule k w views
    → get_elem? views id ≡ some (newcomer p m)
    → Rule k w (set views id (newcomer p (m - 1)) ++ newcomer p 1 ∷ [])
split_rule k w views id p m some_part r at =
    let packets : p ≡ k.packets = (r.fits id (newcomer p m) at).packets some_part in
    let v : View = newcomer p m in let u : View = newcomer p (m - 1) in let n : View = newcomer p 1 in
    let e = one_cut views id v u n at in
    changed k w w views (v ∷ []) (set views id u ++ n ∷ []) (u ∷ n ∷ []) r e (omega arith) (λ x. refl) refl refl refl refl
    (let a = e (λ v. v.stop_callers) in let b = r.stop in omega arith)
    (each_snoc (Fits k w) (set views id u) n
    (each_set (Fits k w) views id u (newcomer_fits k w p (m - 1) (λ _. packets)) (λ j y _ e. r.fits j y e))
    (newcomer_fits k w p 1 (λ _. packets)))

joined_fits : (k : Size) (w : Counters) (v u : View) → 0 < v.parts → Fits k w v → Fits k w u → Fits k w (join_of v u)
joined_fits k w v u some_part f g = record {
  packets = (λ _. f.packets some_part);
  ended = (let a = f.ended in let b = g.ended in omega arith);
  in_hand = (let a = f.in_hand in let b = g.in_hand in let c = length-append v.hand u.hand in omega arith);
  each_once =
      (λ x. let a = f.each_once x in let b = g.each_once x in let c = times-append x v.drawn u.drawn in let d = times-append x
      v.finished u.finished in let e = times-append x v.abandoned u.abandoned in let h = times-append x v.hand u.hand in omega
      arith);
  counted =
      (let a = f.counted in let b = g.counted in let c = length-append v.drawn u.drawn in let d = length-append v.finished
      u.finished in let e = length-append v.abandoned u.abandoned in let h = length-append v.hand u.hand in omega arith);
  seen = both_at_most v.seen u.seen w f.seen g.seen;
  idle = (λ e. absurd (omega arith));
}

pub join_rule : (k : Size) (w : Counters) (views : List View) (id : ℕ) (v : View) (other : ℕ) (u : View) → 0 < v.parts
    → Rule k w views → get_elem? views id ≡ some v → other ≢ id → get_elem? (set views id (join_of v u)) other ≡ some u
    → Rule k w (set (set views id (join_of v u)) other (newcomer 0 0))
join_rule k w views id v other u some_part r at apart there =
    let b : View = join_of v u in let s : View = newcomer 0 0 in let vs = set views id b in
    let e = two_joined views id v b other u s at there in
    let drawn = length-append v.drawn u.drawn in
    let done = length-append v.finished u.finished in
    let lost = length-append v.abandoned u.abandoned in
    changed k w w views (v ∷ u ∷ []) (set vs other s) (b ∷ s ∷ []) r e (omega arith)
    (λ x. let a = times-append x v.drawn u.drawn in omega arith) (omega arith) (omega arith) (omega arith) (omega arith)
    (let a = e (λ v. v.stop_callers) in let b = r.stop in omega arith)
    (each_set (Fits k w) vs other s (newcomer_fits k w 0 0 (λ e. absurd (omega arith)))
    (λ j y _ e. each_set (Fits k w) views id b
    (joined_fits k w v u some_part (r.fits id v at) (r.fits other u (still_there views id b other u apart there)))
    (λ j y _ e. r.fits j y e) j y e))

-- the view that has every part has all that the rule speaks of
pub whole_rule : (k : Size) (w : Counters) (views : List View) (id : ℕ) (v : View) → v.parts ≡ k.members → Rule k w views
    → get_elem? views id ≡ some v → Whole k w v
whole_rule k w views id v every r at =
    let none = others_none (λ v. v.parts) views id v at (r.parts ∙ sym every) in
    let of =
    λ (f : View → ℕ) (h : (u : View) → Fits k w u → u.parts ≡ 0 → f u ≡ 0). all_of f views id v at
    (λ j u apart there. h u (r.fits j u there) (none j u apart there)) in record {
      each_once = (λ x. sym (of (λ v. times x v.drawn) (λ u f e. ap (times x) (f.idle e).0)) ∙ r.each_once x);
      drawn = sym (of (λ v. length v.drawn) (λ u f e. ap length (f.idle e).0)) ∙ r.drawn;
      ended = (let a = of (λ v. v.ended) (λ u f e. let b = f.ended in omega arith) in let b = r.ended in omega arith);
      done =
          r.done ∙ of (λ v. length v.finished) (λ u f e. let b : length u.drawn ≡ 0 = ap length
          (f.idle e).0 in let c = f.counted in omega arith);
      lost =
          r.lost ∙ of (λ v. length v.abandoned) (λ u f e. let b : length u.drawn ≡ 0 = ap length
          (f.idle e).0 in let c = f.counted in omega arith);
      stop = r.stop ∙ ap (λ n. min 1 n) (of (λ v. v.stop_callers) (λ u f e. (f.idle e).1));
      fits = r.fits id v at;
    }
