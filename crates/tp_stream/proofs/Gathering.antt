-- What the passes and seats of a stream are together, and what its close reads off them.
use Rattle.std.proofs.Common.{◌≡◌, ℕ, zero, suc, ◌+◌, ◌-◌, ◌<◌, ◌≤◌, min, List, [], ◌∷◌, ◌++◌, length, map, sym, refl, ap, ◌∙◌}
use Rattle.std.proofs.Common.{⊎_elim, arith, length-append}
use Rattle.std.proofs.lemmas.Bool.{cases_lt}
use Rattle.tp_stream.specs.declared.queue.PassView.{PassView}
use Rattle.tp_board.specs.declared.view.Counters.{Counters}
use Rattle.tp_board.specs.declared.view.View.{View}
use mathlib.Core.Option.{some, some-injective}
use lib.ListN.{get_elem?}
use Rattle.tp_board.specs.Counting.{times, once_below, AreBelow}
use Rattle.tp_board.specs.Ledgers.{join_of_all}
use Rattle.tp_stream.specs.Queues.{join_of_passes, LeftAt, TookRest}
use Rattle.tp_board.specs.Runs.{numbers_from}
use Rattle.tp_stream.specs.Streams.{HandView, hand_seen, seen_of, Agrees, IsLeft}
use Rattle.tp_board.specs.Views.{join_of, all_drawn}
use Rattle.tp_board.specs.Words.{size, counters}
use Rattle.tp_stream.specs.Tallies.{tally_words_of}
use Rattle.tp_board.proofs.Closing.{folded_snoc}
use Rattle.tp_board.proofs.Counting.{times-append, once_more}
use Rattle.tp_stream.proofs.Tallies.{WholeTally}
use Rattle.tp_board.proofs.Steps.{Whole}

-- ---- joining
pub seen_join : (t u : PassView) (p q : View) (ns ms : List ℕ)
    → join_of (seen_of t p ns) (seen_of u q ms) ≡ seen_of (join_of_passes t u) (join_of p q) (ns ++ ms)
seen_join t u p q ns ms =
    let long = length-append t.popped u.popped in
    let steps : length t.popped + t.ended + p.steps + (length u.popped + u.ended + q.steps) ≡ length (t.popped ++ u.popped) +
    (t.ended + u.ended) + (p.steps + q.steps) = omega arith in
    ap (λ (k : ℕ). record (seen_of (join_of_passes t u) (join_of p q) (ns ++ ms)) { steps = k }) steps

pub agrees_join : (v u : View) → Agrees v → Agrees u → Agrees (join_of v u)
agrees_join v u a b = record {
  ended = (let c = a.ended in let d = b.ended in omega arith);
  in_hand = (let c = a.in_hand in let d = b.in_hand in let e = length-append v.hand u.hand in omega arith);
  each_once =
      (λ x. let c = a.each_once x in let d = b.each_once x in let e = times-append x v.drawn u.drawn in let f = times-append x
      v.finished u.finished in let g = times-append x v.abandoned u.abandoned in let h = times-append x v.hand u.hand in omega
      arith);
  counted =
      (let c = a.counted in let d = b.counted in let e = length-append v.drawn u.drawn in let f = length-append v.finished
      u.finished in let g = length-append v.abandoned u.abandoned in let h = length-append v.hand u.hand in omega arith);
}

hands_snoc : (xs : List HandView) (y : HandView) → map hand_seen (xs ++ y ∷ []) ≡ map hand_seen xs ++ hand_seen y ∷ []
hands_snoc [] y = refl
hands_snoc (x ∷ xs) y = ap (λ l. hand_seen x ∷ l) (hands_snoc xs y)

-- the last hand is taken in
pub gathered_hand : (v w : View) (old new : List HandView) (y : HandView) → old ≡ new ++ y ∷ [] → w ≡ join_of v (hand_seen y)
    → join_of_all w (map hand_seen new) ≡ join_of_all v (map hand_seen old)
gathered_hand v w old new y e is =
    ap (λ z. join_of_all z (map hand_seen new)) is ∙ sym (folded_snoc v (map hand_seen new) (hand_seen y))
    ∙ ap (join_of_all v) (sym (ap (map hand_seen) e ∙ hands_snoc new y))

-- ---- the end
-- the count of claims that the pops stand for
pub claims_at : (n ended packets : ℕ) → n ≤ packets → (0 < ended → n ≡ packets)
    → (min (n + ended) packets ≡ n) × (ended ≡ n + ended - packets)
claims_at n ended packets within last = ⊎_elim
    (λ (some_end : 0 < ended). let a = last some_end in (omega arith, omega arith))
    (λ (none : ended ≤ 0). (omega arith, omega arith))
    (cases_lt 0 ended)

-- the view that has every part has all that the board's rule speaks of
pub whole_stream : (packets members n : ℕ) (t : PassView) (p : View) (ns : List ℕ) (w : Counters) → t.packets ≡ packets → LeftAt t n
    → WholeTally w p → 0 < p.parts → Agrees (seen_of t p ns)
    → Whole (size packets members) (counters (n + t.ended) w.done w.lost w.stop) (seen_of t p ns)
whole_stream packets members n t p ns w same left tally some_part agrees =
    let within : n ≤ packets = (let a = left.behind in let b = left.within in omega arith) in
    let claims = claims_at n t.ended packets within (λ some_end. left.ended some_end ∙ same) in
    let seen = tally.seen in
    let unclaimed = tally.no_claim in
    let least = seen.claimed in record {
      each_once = (λ x. left.each_once x ∙ ap (once_below x) (sym claims.0));
      drawn = left.counted ∙ sym claims.0;
      ended = claims.1;
      done = tally.done;
      lost = tally.lost;
      stop = tally.stop;
      fits = record {
        packets = (λ _. same);
        ended = agrees.ended;
        in_hand = agrees.in_hand;
        each_once = agrees.each_once;
        counted = agrees.counted;
        seen = record { claimed = omega arith; done = seen.done; lost = seen.lost; stop = seen.stop };
        idle = (λ none. absurd (omega arith));
      };
    }

pub drawn_at : (n ended packets : ℕ) → n ≤ packets → (0 < ended → n ≡ packets) → n ≡ min (n + ended) packets
drawn_at n ended packets within last = sym (claims_at n ended packets within last).0

-- the numbers below n, and those from there on
pub below_and_from : (x n k : ℕ) → once_below x n + times x (numbers_from n k) ≡ once_below x (n + k)
below_and_from x n zero =
    let same : once_below x n ≡ once_below x (n + 0) = ap (once_below x) (let e : n ≡ n + 0 = omega arith in e) in omega arith
below_and_from x n (suc k) =
    let ih = below_and_from x (n + 1) k in
    let one = once_more x n in
    let same : once_below x (n + 1 + k) ≡ once_below x (n + suc k) =
    ap (once_below x) (let e : n + 1 + k ≡ n + suc k = omega arith in e) in
    omega arith

-- the numbers popped, and those that the close takes out
pub left_over : (views : List View) (t u : PassView) (n : ℕ) → LeftAt t n → AreBelow (all_drawn views) n → TookRest t u
    → IsLeft views t.pushed
left_over views t u n before drew (left, is, below) = (
  left,
  λ x. let a = times-append x (all_drawn views) left in let b = times-append x t.popped left in let c = drew x in let d =
      before.each_once x in let e = ap (times x) is in let f = below x in omega arith,
)

pub tally_word_at : (ws : List ℕ) (w : Counters) (i a b : ℕ) → ws ≡ tally_words_of w → get_elem? (tally_words_of w) i ≡ some b
    → get_elem? ws i ≡ some a → a ≡ b
tally_word_at ws w i a b e there here = some-injective a b (sym here ∙ ap (λ l. get_elem? l i) e ∙ there)
