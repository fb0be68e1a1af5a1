-- What the close of a stream says of the views of its hands and its feeder, as a close says of any source's hands.
use Rattle.std.proofs.Common.{◌≡◌, ℕ, ◌+◌, ◌<◌, ◌≤◌, true, false, List, [], ◌∷◌, ◌++◌, map, length, None, nat_lt, suc, refl, ap}
use Rattle.std.proofs.Common.{subst, arith, length-append}
use Rattle.std.proofs.lemmas.Bool.Decides.{nat_tests}
use Rattle.std.proofs.lemmas.List.Elements.{All-nil, All-cons, All-head, All-tail, All-push}
use Rattle.std.specs.List.{All}
use mathlib.Core.Option.{some}
use lib.ListN.{get_elem?}
use Rattle.tp_board.specs.declared.view.View.{View}
use Rattle.tp_board.specs.declared.answer.Ledger.{Ledger}
use Rattle.tp_board.specs.Counting.{times, once_below}
use Rattle.tp_board.specs.Views as view
use Rattle.tp_board.specs.Rule.{total}
use Rattle.tp_board.specs.Ledgers.{Balances}
use Rattle.tp_board.specs.Sources.{Progress, progress_of}
use Rattle.tp_stream.specs.Streams.{HandView, FeederView, hand_seen, hand_progress, feeder_seen, all_seen}
use Rattle.tp_farm.specs.Closing.{all_finished, all_abandoned, times_put_down, IsBorneOut, AddsUp}
use Rattle.tp_farm.specs.Feeding.{HasOnlyFed}
use Rattle.tp_farm.proofs.Numbers.{times-append}

module _ (n : ℕ) (views : List View) (l : Ledger) (b : Balances n views l) where
  finished_is : (vs : List View) → all_finished (map progress_of vs) ≡ view.all_finished vs
  finished_is [] = refl
  finished_is (v ∷ vs) = ap (λ xs. v.finished ++ xs) (finished_is vs)

  abandoned_is : (vs : List View) → all_abandoned (map progress_of vs) ≡ view.all_abandoned vs
  abandoned_is [] = refl
  abandoned_is (v ∷ vs) = ap (λ xs. v.abandoned ++ xs) (abandoned_is vs)

  went : (x : ℕ) → times_put_down x (map progress_of views) + times x (view.all_in_hand views) ≡ once_below x l.drawn
  went x =
      omega (
        arith,
        ap (times x) (finished_is views),
        ap (times x) (abandoned_is views),
        b.went x,
        times-append x (view.all_finished views) (view.all_abandoned views ++ view.all_in_hand views),
        times-append x (view.all_abandoned views) (view.all_in_hand views),
        times-append x (view.all_finished views ++ view.all_abandoned views) (view.all_in_hand views),
        times-append x (view.all_finished views) (view.all_abandoned views),
      )

  nothing_in_hand : (vs : List View) → All (λ p. p.in_hand ≡ None) (map progress_of vs) → view.all_in_hand vs ≡ []
  nothing_in_hand [] h = refl
  nothing_in_hand (v ∷ vs) h =
      rw (none_left v.hand (All-head (λ p. p.in_hand ≡ None) (progress_of v) (map progress_of vs) h))
      (nothing_in_hand vs (All-tail (λ p. p.in_hand ≡ None) (progress_of v) (map progress_of vs) h))
    where
      none_left : (hand : List ℕ) → view.first_of hand ≡ None → hand ≡ []
      none_left [] e = refl
      none_left (x ∷ hand) e = cc

  was_true : (k : ℕ) → nat_lt 0 k ≡ true → 0 < k
  was_true k e = grind (arith, nat_tests, e)

  was_false : (k : ℕ) → nat_lt 0 k ≡ false → k ≡ 0
  was_false k e = grind (arith, nat_tests, e)

  none_calls : (vs : List View) → All (λ p. p.stop_called ≡ false) (map progress_of vs) → total (λ v. v.stop_callers) vs ≡ 0
  none_calls [] h = refl
  none_calls (v ∷ vs) h =
      omega (
        arith,
        was_false v.stop_callers (All-head (λ p. p.stop_called ≡ false) (progress_of v) (map progress_of vs) h),
        none_calls vs (All-tail (λ p. p.stop_called ≡ false) (progress_of v) (map progress_of vs) h),
      )

  -- of views of which some others stand before
  borne_out : (k : ℕ) (vs : List View) → ((i : ℕ) (v : View) → get_elem? vs i ≡ some v → get_elem? views (k + i) ≡ some v)
      → total (λ v. v.ended) vs ≤ total (λ v. v.ended) views → length (view.all_drawn vs) ≤ length (view.all_drawn views)
      → All (IsBorneOut n l) (map progress_of vs)
  borne_out k [] at ended drawn = All-nil (IsBorneOut n l)
  borne_out k (v ∷ vs) at ended drawn =
      All-cons (IsBorneOut n l) (progress_of v) (map progress_of vs)
      (record {
        taken = omega (arith, length-append v.drawn (view.all_drawn vs), drawn, b.drawn);
        ended = λ is. b.ended (omega (arith, was_true v.ended is, ended));
        stop_seen =
            λ is. b.stop_seen k v (subst (λ j. get_elem? views j ≡ some v) (omega arith) (at 0 v refl)) (was_true v.seen.stop is);
      })
      (borne_out (k + 1) vs (λ i u is. subst (λ j. get_elem? views j ≡ some u) (omega arith) (at (suc i) u is))
      (omega (arith, ended)) (omega (arith, length-append v.drawn (view.all_drawn vs), drawn)))

  pub adds_up : AddsUp n (map progress_of views) l
  adds_up = record {
    within = b.within;
    few = λ x. omega (arith, went x);
    all = λ none x. omega (arith, went x, ap (times x) (nothing_in_hand views none));
    learnt = borne_out 0 views (λ i v is. subst (λ j. get_elem? views j ≡ some v) (omega arith) is) (omega arith) (omega arith);
    stopped = λ is none. omega (arith, b.stopped.0 is, none_calls views none);
  }

-- ---- a hand that has put nothing down, behind the others

times_finished : (x : ℕ) (ps : List Progress) (last : Progress)
    → times x (all_finished (ps ++ last ∷ [])) ≡ times x (all_finished ps) + times x last.finished
times_finished x [] last = omega (arith, times-append x last.finished [])
times_finished x (p ∷ ps) last =
    omega (
      arith,
      times-append x p.finished (all_finished (ps ++ last ∷ [])),
      times-append x p.finished (all_finished ps),
      times_finished x ps last,
    )

times_abandoned : (x : ℕ) (ps : List Progress) (last : Progress)
    → times x (all_abandoned (ps ++ last ∷ [])) ≡ times x (all_abandoned ps) + times x last.abandoned
times_abandoned x [] last = omega (arith, times-append x last.abandoned [])
times_abandoned x (p ∷ ps) last =
    omega (
      arith,
      times-append x p.abandoned (all_abandoned (ps ++ last ∷ [])),
      times-append x p.abandoned (all_abandoned ps),
      times_abandoned x ps last,
    )

all_before : {X : Type 0} (P : X → Type 0) (xs : List X) (last : X) → All P (xs ++ last ∷ []) → All P xs
all_before P [] last h = All-nil P
all_before P (x ∷ xs) last h =
    All-cons P x xs (All-head P x (xs ++ last ∷ []) h) (all_before P xs last (All-tail P x (xs ++ last ∷ []) h))

module _ (n : ℕ) (ps : List Progress) (last : Progress) (l : Ledger) (finished : last.finished ≡ [])
    (abandoned : last.abandoned ≡ []) (in_hand : last.in_hand ≡ None) (going : last.stop_called ≡ false)
    (b : AddsUp n (ps ++ last ∷ []) l) where
  none_put_down : (x : ℕ) → times_put_down x (ps ++ last ∷ []) ≡ times_put_down x ps
  none_put_down x =
      omega (arith, times_finished x ps last, times_abandoned x ps last, ap (times x) finished, ap (times x) abandoned)

  without_last : AddsUp n ps l
  without_last = record {
    within = b.within;
    few = λ x. omega (arith, none_put_down x, b.few x);
    all = λ none x. omega (arith, none_put_down x, b.all (All-push (λ p. p.in_hand ≡ None) ps last none in_hand) x);
    learnt = all_before (IsBorneOut n l) ps last b.learnt;
    stopped = λ is none. b.stopped is (All-push (λ p. p.stop_called ≡ false) ps last none going);
  }

-- ---- the hands of a stream, and its feeder

same_hands : (hands : List HandView) (last : View)
    → map progress_of (map hand_seen hands ++ last ∷ []) ≡ map hand_progress hands ++ progress_of last ∷ []
same_hands [] last = refl
same_hands (h ∷ hands) last = ap (λ ps. hand_progress h ∷ ps) (same_hands hands last)

pub hands_add_up : (n : ℕ) (hands : List HandView) (f : FeederView) (l : Ledger) → HasOnlyFed f → Balances n (all_seen hands f) l
    → AddsUp n (map hand_progress hands) l
hands_add_up n hands f l fed b =
    without_last n (map hand_progress hands) (progress_of (feeder_seen f)) l fed.none_finished fed.none_abandoned refl
    (ap (nat_lt 0) fed.not_stopped)
    (subst (λ ps. AddsUp n ps l) (same_hands hands (feeder_seen f)) (adds_up n (all_seen hands f) l b))
