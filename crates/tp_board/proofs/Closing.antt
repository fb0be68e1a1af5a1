-- What the close reads off the seat that has taken in all others.
use Rattle.std.proofs.Common.{◌≤◌, zero, suc, ◌≡◌, ℕ, ◌+◌, nat_lt, min, List, [], ◌∷◌, ◌++◌, length, sym, refl, ap, ◌∙◌, arith}
use Rattle.std.proofs.Common.{length-append}
use Rattle.std.proofs.lemmas.Bool.{ltb-true, lt-ltb}
use mathlib.Core.Option.{some, some-ne-none, some-injective}
use lib.ListN.{get_elem?}
use Rattle.tp_board.specs.Counting.{times, once_below}
use Rattle.tp_board.specs.Words.{words_of, size}
use Rattle.tp_board.specs.Views.{all_finished, all_abandoned, all_in_hand, join_of}
use Rattle.tp_board.specs.Rule.{total}
use Rattle.tp_board.specs.Boards.{SeatView, views_of}
use Rattle.tp_board.specs.Ledgers.{join_of_all, Balances}
use Rattle.tp_board.proofs.Counting.{times-append}
use Rattle.tp_board.proofs.Steps.{Whole}
use Rattle.tp_board.proofs.Totals.{total_snoc, times_gathered, length_gathered}
use Rattle.tp_board.specs.declared.view.Counters.{Counters}
use Rattle.tp_board.specs.declared.view.View.{View}
use Rattle.tp_board.specs.declared.answer.Ledger.{Ledger}

f_folded : (f : View → ℕ) → ((v u : View) → f (join_of v u) ≡ f v + f u) → (v : View) (us : List View)
    → f (join_of_all v us) ≡ total f us + f v
f_folded f h v [] = omega arith
f_folded f h v (u ∷ us) = let a = h (join_of_all v us) u in let b = f_folded f h v us in omega arith

pub total_folded : (f : View → ℕ) → ((v u : View) → f (join_of v u) ≡ f v + f u) → (v : View) (us : List View)
    → f (join_of_all v us) ≡ total f (us ++ v ∷ [])
total_folded f h v us = f_folded f h v us ∙ sym (total_snoc f us v)

pub folded_snoc : (v : View) (us : List View) (u : View) → join_of_all v (us ++ u ∷ []) ≡ join_of_all (join_of v u) us
folded_snoc v [] u = refl
folded_snoc v (y ∷ us) u = ap (λ z. join_of z y) (folded_snoc v us u)

pub seen_folded : (v : View) (us : List View) (j : ℕ) (u : View) → get_elem? (us ++ v ∷ []) j ≡ some u
    → u.seen.stop ≤ (join_of_all v us).seen.stop
seen_folded v [] zero u at =
    let e : v.seen.stop ≡ u.seen.stop = ap (λ (y : View). y.seen.stop) (some-injective v u at) in omega arith
seen_folded v [] (suc j) u at = absurd (some-ne-none u (sym at))
seen_folded v (y ∷ us) zero u at =
    let e : y.seen.stop ≡ u.seen.stop = ap (λ (y : View). y.seen.stop) (some-injective y u at) in omega arith
seen_folded v (y ∷ us) (suc j) u at = let ih = seen_folded v us j u at in omega arith

views_snoc : (xs : List SeatView) (y : SeatView) → views_of (xs ++ y ∷ []) ≡ views_of xs ++ y.view ∷ []
views_snoc [] y = refl
views_snoc (x ∷ xs) y = ap (λ vs. x.view ∷ vs) (views_snoc xs y)

pub views_pop : (old new : List SeatView) (y : SeatView) → old ≡ new ++ y ∷ [] → views_of old ≡ views_of new ++ y.view ∷ []
views_pop old new y e = ap views_of e ∙ views_snoc new y

pub folded_pop : (v u w : View) (old new : List SeatView) (y : SeatView) → old ≡ new ++ y ∷ [] → u ≡ y.view → w ≡ join_of v u
    → join_of_all w (views_of new) ≡ join_of_all v (views_of old)
folded_pop v u w old new y e same is =
    ap (λ z. join_of_all z (views_of new)) (is ∙ ap (join_of v) same) ∙ sym (folded_snoc v (views_of new) y.view)
    ∙ ap (join_of_all v) (sym (views_pop old new y e))

pub word_at : (ws : List ℕ) (w : Counters) (i a b : ℕ) → ws ≡ words_of w → get_elem? (words_of w) i ≡ some b
    → get_elem? ws i ≡ some a → a ≡ b
word_at ws w i a b e there here = some-injective a b (sym here ∙ ap (λ l. get_elem? l i) e ∙ there)

pub accounts : (packets members : ℕ) (w : Counters) (v : View) (us : List View) (l : Ledger)
    → Whole (size packets members) w (join_of_all v us)
    → l.drawn ≡ min w.claimed packets → l.done ≡ w.done → l.lost ≡ w.lost → l.drawn ≡ w.done + w.lost + l.in_hand
    → l.stopped ≡ nat_lt 0 w.stop → Balances packets (us ++ v ∷ []) l
accounts packets members w v us l h drawn done lost rest stopped =
    let sum = λ (f : View → ℕ) (more : (v u : View) → f (join_of v u) ≡ f v + f u). total_folded f more v us in
    let all = us ++ v ∷ [] in
    let callers = sum (λ v. v.stop_callers) (λ v u. refl) in
    let was = h.stop in record {
      drew =
          (λ x. times_gathered (λ v. v.drawn) x all ∙ sym (sum (λ v. times x v.drawn) (λ v u. times-append x v.drawn u.drawn))
          ∙ h.each_once x ∙ ap (once_below x) (sym drawn));
      went = (λ x.
          let kinds = times-append x (all_finished all ++ all_abandoned all) (all_in_hand all) in
          let others = times-append x (all_finished all) (all_abandoned all) in
          let finished = times_gathered (λ v. v.finished) x all in
          let abandoned = times_gathered (λ v. v.abandoned) x all in
          let held = times_gathered (λ v. v.hand) x all in
          let a = sum (λ v. times x v.finished) (λ v u. times-append x v.finished u.finished) in
          let b = sum (λ v. times x v.abandoned) (λ v u. times-append x v.abandoned u.abandoned) in
          let c = sum (λ v. times x v.hand) (λ v u. times-append x v.hand u.hand) in
          let split = h.fits.each_once x in
          let every = h.each_once x in
          let same : once_below x l.drawn ≡ once_below x (min w.claimed packets) = ap (once_below x) drawn in
          omega arith);
      drawn =
          drawn ∙ sym h.drawn ∙ sum (λ v. length v.drawn) (λ v u. length-append v.drawn u.drawn)
          ∙ sym (length_gathered (λ v. v.drawn) all);
      done =
          done ∙ h.done ∙ sum (λ v. length v.finished) (λ v u. length-append v.finished u.finished)
          ∙ sym (length_gathered (λ v. v.finished) all);
      lost =
          lost ∙ h.lost ∙ sum (λ v. length v.abandoned) (λ v u. length-append v.abandoned u.abandoned)
          ∙ sym (length_gathered (λ v. v.abandoned) all);
      in_hand =
          (let g = length_gathered (λ v. v.hand) all in let a = sum (λ v. length v.hand)
          (λ v u. length-append v.hand
          u.hand) in let b = h.fits.counted in let c = h.drawn in let d = h.done in let e = h.lost in omega arith);
      all = (omega arith);
      within = (omega arith);
      stopped =
          ((λ t. let a = ltb-true 0 w.stop (sym stopped ∙ t) in omega arith), (λ t. stopped ∙ lt-ltb 0 w.stop (omega arith)));
      ended = (λ some_end. let a = sum (λ v. v.ended) (λ v u. refl) in let b = h.ended in omega arith);
      stop_seen =
          (λ j u at seen. let a = seen_folded v us j u at in let b = h.fits.seen.stop in stopped ∙ lt-ltb 0 w.stop (omega arith));
    }
