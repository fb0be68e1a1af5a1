-- Each kind of step, on any words and views, keeps the rule, and finds its word fresh.
use Rattle.std.proofs.Common.{◌≡◌, ℕ, zero, suc, ◌+◌, ◌%◌, ◌^◌, ◌≤◌, min, List, [], ◌∷◌, length, set, sym, refl, ap, ◌∙◌, subst}
use Rattle.std.proofs.Common.{arith, bit_or}
use Rattle.std.specs.Prelude.{slice_index, slice_set}
use Rattle.std.proofs.Math.Nat.{mod-eq_of_lt}
use mathlib.Core.Option.{some}
use lib.ListN.{get_elem?}
use Rattle.tp_board.specs.declared.event.Event.{Event}
use Rattle.tp_board.specs.declared.event.Event.TheVariants.{Claim, Finish, Abandon, Stop, Look}
use Rattle.tp_board.specs.declared.event.Shown.{Shown}
use Rattle.tp_board.specs.declared.event.Shown.TheVariants as shown
use Rattle.tp_board.specs.declared.view.Counters.{Counters}
use Rattle.tp_board.specs.declared.view.View.{View}
use Rattle.tp_board.specs.declared.rule.Size.{Size}
use Rattle.tp_board.specs.Words.{word_of, place_of, one_more, words_of, counters}
use Rattle.tp_board.specs.Rule.{total, Rule, KeepsRule}
use Rattle.tp_board.specs.Freshness.{IsFresh}
use Rattle.tp_board.specs.Steps.{after_draw, after_finish, after_abandon, after_stop, after_look, row_of, MayStep, word_found}
use Rattle.tp_board.specs.Steps.{words_after}
use Rattle.tp_board.proofs.Steps.{drew_rule, finish_rule, abandon_rule, stop_rule, saw_rule}
use Rattle.tp_board.proofs.Totals.{le_total, total_le}

pub claimed_small : (k : Size) (w : Counters) (views : List View) → Rule k w views → w.claimed ≤ 1089
claimed_small k w views r =
    let a =
    total_le (λ v. v.ended) (λ v. v.parts) views (λ id v at. (r.fits id v at).ended) in let b =
    r.ended in let c = r.parts in let d = r.few_packets in let e = r.few_members in omega arith

pub finished_small : (k : Size) (w : Counters) (views : List View) → Rule k w views → w.done ≤ 1024
finished_small k w views r =
    let a =
    total_le (λ v. length v.finished) (λ v. length v.drawn) views
    (λ id v at. let c = (r.fits id v at).counted in omega arith) in let b =
    r.done in let c = r.drawn in let d = r.few_packets in omega arith

pub abandoned_small : (k : Size) (w : Counters) (views : List View) → Rule k w views → w.lost ≤ 1024
abandoned_small k w views r =
    let a =
    total_le (λ v. length v.abandoned) (λ v. length v.drawn) views
    (λ id v at. let c = (r.fits id v at).counted in omega arith) in let b =
    r.lost in let c = r.drawn in let d = r.few_packets in omega arith

pub added : (n : ℕ) → n ≤ 66560 → (n + 1) % 2 ^ 64 ≡ n + 1
added n h = mod-eq_of_lt (omega arith)

pub one_or : (t : ℕ) → bit_or (min 1 t) 1 ≡ 1
one_or zero = refl
one_or (suc t) = let e : min 1 (suc t) ≡ 1 = omega arith in rw e refl

-- a word that stays as it was
pub set_same : (i : ℕ) (ws : List ℕ) → slice_set ws i (slice_index ws i) ≡ ws
set_same i [] = refl
set_same zero (x ∷ xs) = refl
set_same (suc i) (x ∷ xs) = ap (λ ys. x ∷ ys) (set_same i xs)

module _ (k : Size) (words : List ℕ) (views : List View) (id : ℕ) (v : View) (h : KeepsRule k words views)
    (at : get_elem? views id ≡ some v) where
  claim_moves : v.hand ≡ [] → v.ended ≡ 0 → v.parts ≡ 1
      → KeepsRule k (slice_set words 0 (one_more (slice_index words 0))) (set views id (after_draw v (slice_index words 0)))
  claim_moves no_hand going one =
      let w = h.0 in let e = h.1 in let r = h.2 in
      let found : slice_index words 0 ≡ w.claimed = ap (λ ws. slice_index ws 0) e in
      subst (λ n. KeepsRule k (slice_set words 0 (one_more (slice_index words 0))) (set views id (after_draw v n))) (sym found) (
        counters (w.claimed + 1) w.done w.lost w.stop,
        ap (λ ws. slice_set ws 0 (one_more (slice_index ws 0))) e ∙ ap (λ n. n ∷ w.done ∷ w.lost ∷ w.stop ∷ [])
            (added w.claimed (let z = claimed_small k w views r in omega arith)),
        drew_rule k w views id v no_hand going one r at,
      )

  finish_moves : length v.hand ≡ 1 → KeepsRule k (slice_set words 1 (one_more (slice_index words 1)))
      (set views id (after_finish v))
  finish_moves one =
      let w = h.0 in let e = h.1 in let r = h.2 in let b = finished_small k w views r in (
        counters w.claimed (w.done + 1) w.lost w.stop,
        ap (λ ws. slice_set ws 1 (one_more (slice_index ws 1))) e ∙ ap (λ n. w.claimed ∷ n ∷ w.lost ∷ w.stop ∷ [])
            (added w.done (omega arith)),
        finish_rule k w views id v one r at,
      )

  abandon_moves : length v.hand ≡ 1 → KeepsRule k (slice_set words 2 (one_more (slice_index words 2)))
      (set views id (after_abandon v))
  abandon_moves one =
      let w = h.0 in let e = h.1 in let r = h.2 in let b = abandoned_small k w views r in (
        counters w.claimed w.done (w.lost + 1) w.stop,
        ap (λ ws. slice_set ws 2 (one_more (slice_index ws 2))) e ∙ ap (λ n. w.claimed ∷ w.done ∷ n ∷ w.stop ∷ [])
            (added w.lost (omega arith)),
        abandon_rule k w views id v one r at,
      )

  stop_moves : v.parts ≡ 1 → KeepsRule k (slice_set words 3 (bit_or (slice_index words 3) 1)) (set views id (after_stop v))
  stop_moves one =
      let w = h.0 in let e = h.1 in let r = h.2 in (
        counters w.claimed w.done w.lost 1,
        ap (λ ws. slice_set ws 3 (bit_or (slice_index ws 3) 1)) e ∙ ap (λ n. w.claimed ∷ w.done ∷ w.lost ∷ n ∷ [])
            (ap (λ n. bit_or n 1) r.stop ∙ one_or (total (λ v. v.stop_callers) views)),
        stop_rule k w views id v one r at,
      )

  look_moves : (what : Shown) → KeepsRule k words (set views id (after_look v what (word_of what words)))
  look_moves what =
      let w = h.0 in let e = h.1 in let r = h.2 in
      subst (λ ws. KeepsRule k words (set views id (after_look v what (word_of what ws)))) (sym e) (w, e, looked w r what)
    where
      looked : (w : Counters) → Rule k w views → (what : Shown)
          → Rule k w (set views id (after_look v what (word_of what (words_of w))))
      looked w r shown.Claimed =
          let f =
          (r.fits id v at).seen in saw_rule k w views id v (counters w.claimed v.seen.done v.seen.lost v.seen.stop)
          (record { claimed = omega arith; done = f.done; lost = f.lost; stop = f.stop }) r at
      looked w r shown.Done =
          let f =
          (r.fits id v at).seen in saw_rule k w views id v (counters v.seen.claimed w.done v.seen.lost v.seen.stop)
          (record { claimed = f.claimed; done = omega arith; lost = f.lost; stop = f.stop }) r at
      looked w r shown.Lost =
          let f =
          (r.fits id v at).seen in saw_rule k w views id v (counters v.seen.claimed v.seen.done w.lost v.seen.stop)
          (record { claimed = f.claimed; done = f.done; lost = omega arith; stop = f.stop }) r at
      looked w r shown.Stop =
          let f =
          (r.fits id v at).seen in saw_rule k w views id v (counters v.seen.claimed v.seen.done v.seen.lost w.stop)
          (record { claimed = f.claimed; done = f.done; lost = f.lost; stop = omega arith }) r at

  -- the step of a seat that may make it keeps the rule
  pub moves : (event : Event) → MayStep event v → v.parts ≡ 1
      → KeepsRule k (words_after event words) (set views id ((row_of event).view v (word_found event words)))
  moves Claim may one = claim_moves may.0 may.1 one
  moves Finish may one = finish_moves (ap length may.1)
  moves Abandon may one = abandon_moves (ap length may.1)
  moves Stop may one = stop_moves one
  moves (Look what) may one =
      subst (λ ws. KeepsRule k ws (set views id (after_look v what (word_of what words)))) (sym (set_same (place_of what) words))
      (look_moves what)

  -- what a seat is shown of a word is no less than what it has seen of it, and than what its own steps made
  pub word_fresh : (what : Shown) → v.parts ≡ 1 → IsFresh v what (word_of what words)
  word_fresh what one = subst (λ ws. IsFresh v what (word_of what ws)) (sym h.1) (fresh h.0 h.2 what)
    where
      fresh : (w : Counters) → Rule k w views → (what : Shown) → IsFresh v what (word_of what (words_of w))
      fresh w r shown.Claimed =
          let f =
          (r.fits id v at).seen in let a =
          le_total (λ v. length v.drawn) views id v at in let b =
          r.drawn in let c = le_total (λ v. v.ended) views id v at in let d = r.ended in
          let g =
          f.claimed in let p : v.packets ≡ k.packets =
          (r.fits id v at).packets (omega arith) in (g, (omega arith), (omega arith), (λ e. omega arith))
      fresh w r shown.Done =
          let f =
          (r.fits id v at).seen in let a =
          le_total (λ v. length v.finished) views id v at in let b = r.done in (f.done, (omega arith))
      fresh w r shown.Lost =
          let f =
          (r.fits id v at).seen in let a =
          le_total (λ v. length v.abandoned) views id v at in let b = r.lost in (f.lost, (omega arith))
      fresh w r shown.Stop =
          let f =
          (r.fits id v at).seen in let a =
          le_total (λ v. v.stop_callers) views id v at in let b = r.stop in (f.stop, (omega arith), (omega arith))
