-- What the steps of a stream's hand keep of it, and what they are in its view.
use Rattle.std.proofs.Common.{◌≡◌, ℕ, zero, suc, ◌+◌, ◌<◌, ◌≤◌, min, nat_lt, Bool, true, false, List, [], ◌∷◌, ◌++◌, length, map}
use Rattle.std.proofs.Common.{replicate, get_or, Option, Some, None, sym, refl, ap, ◌∙◌, subst, inl, inr, ⊎_elim, arith}
use Rattle.std.proofs.Common.{length-append}
use Rattle.std.specs.Prelude.{slice_get, if◌then◌else◌}
use Rattle.std.proofs.lemmas.Bool.{lt-ltb, le-ltb}
use Rattle.std.proofs.lemmas.List.{length-map}
use Rattle.tp_board.specs.declared.answer.Claim.{Claim}
use Rattle.tp_board.specs.declared.answer.Claim.TheVariants as claim
use Rattle.tp_board.specs.declared.event.Event.TheVariants as event
use Rattle.tp_board.specs.declared.event.Reply.TheVariants as reply
use Rattle.tp_board.specs.declared.event.Shown.TheVariants as shown
use Rattle.tp_stream.specs.declared.queue.Item.TheVariants.{Number, End}
use Rattle.tp_stream.specs.declared.queue.PassView.{PassView}
use Rattle.tp_board.specs.declared.source.Work.{Work}
use Rattle.tp_board.specs.declared.source.Work.TheVariants as work
use Rattle.tp_board.specs.declared.view.View.{View}
use Rattle.tp_board.specs.Calls.{MadeStep, made, Makes, sees_no_stop, sees_stop}
use Rattle.tp_board.specs.Counting.{times, hand_list}
use Rattle.tp_stream.specs.Queues.{after_take, IsNext}
use Rattle.tp_board.specs.Sources.{progress_of, claim_of, NextSays, IsAnswerable, HasBytes}
use Rattle.tp_board.specs.Views.{first_of}
use Rattle.tp_stream.specs.Tallies.{with_numbers}
use Rattle.tp_board.specs.Steps.{with_number, with_end, after_draw, after_finish, after_abandon, after_look}
use Rattle.tp_stream.specs.Streams.{seen_of, Agrees, IsHand, NextAfter, NextMakes}
use Rattle.tp_board.proofs.Counting.{times-append}
use Rattle.tp_board.proofs.Reports.{Adds, to_finished, to_abandoned, reported}
use Rattle.tp_stream.proofs.Reports.{agrees_reported}

pub no_number : (m : Option ℕ) → first_of (hand_list m) ≡ None → m ≡ None
no_number None e = refl
no_number (Some n) e = e

pub none_of : {X : Type 0} (m : Option X) → ((x : X) → m ≡ Some x → ⊥) → m ≡ None
none_of None h = refl
none_of (Some x) h = absurd (h x refl)

-- ---- a pop, after a look that found no stop
popped_hand : (t : PassView) (p : View) (ended stop_seen : Bool) (n : ℕ) → IsHand t p None ended stop_seen → p.seen.stop ≡ 0
    → IsNext t (Number n) → IsHand (after_take t (Number n)) (after_look p shown.Stop 0) (Some n) ended stop_seen
popped_hand t p ended stop_seen n ok none next =
    let a = ok.agrees in
    let long = length-append t.popped (n ∷ []) in record {
      one_pass = ok.one_pass;
      one_seat = ok.one_seat;
      feeds = ok.feeds;
      pushed = ok.pushed;
      marks = ok.marks;
      few_packets = ok.few_packets;
      few_popped = (let b = next.0 in let c = next.1 in omega arith);
      no_claim = ok.no_claim;
      agrees = record {
        ended = a.ended;
        in_hand = (let one = ok.one_seat in omega arith);
        each_once = (λ x. let b = a.each_once x in let c = times-append x t.popped (n ∷ []) in omega arith);
        counted = (let b = a.counted in omega arith);
      };
      ended_is = ok.ended_is;
      stop_seen_is = sym none ∙ ok.stop_seen_is;
    }

pub hand_popped : (t u : PassView) (p q : View) (number : Option ℕ) (ended stop_seen : Bool) (n r : ℕ) → number ≡ None
    → IsHand t p number ended stop_seen → p.seen.stop ≡ 0 → r ≡ 0 → q ≡ after_look p shown.Stop r → u ≡ after_take t (Number n)
    → IsNext t (Number n) → IsHand u q (Some n) ended stop_seen
hand_popped t u p q number ended stop_seen n r empty ok none was looked is next =
    subst (λ u. IsHand u q (Some n) ended stop_seen) (sym is)
    (subst (λ q. IsHand (after_take t (Number n)) q (Some n) ended stop_seen) (sym (looked ∙ ap (after_look p shown.Stop) was))
    (popped_hand t p ended stop_seen n (subst (λ m. IsHand t p m ended stop_seen) empty ok) none next))

seen_number : (t : PassView) (p : View) (n : ℕ) → n < t.packets
    → seen_of (after_take t (Number n)) (after_look p shown.Stop 0) (n ∷ []) ≡ after_draw (after_look (seen_of t p []) shown.Stop 0) n
seen_number t p n below =
    let v = after_look (seen_of t p []) shown.Stop 0 in
    let long = length-append t.popped (n ∷ []) in
    let steps : length (t.popped ++ n ∷ []) + t.ended + (p.steps + 1) ≡ length t.popped + t.ended + p.steps + 1 + 1 =
    omega arith in
    ap (λ (k : ℕ). record (with_number v n) { steps = k }) steps
    ∙ ap (λ (b : Bool). if b then with_number v n else with_end v) (sym (lt-ltb n t.packets below))

seen_end : (t : PassView) (p : View) (n : ℕ) → t.packets ≤ n
    → seen_of (after_take t End) (after_look p shown.Stop 0) [] ≡ after_draw (after_look (seen_of t p []) shown.Stop 0) n
seen_end t p n above =
    let v = after_look (seen_of t p []) shown.Stop 0 in
    let steps : length t.popped + (t.ended + 1) + (p.steps + 1) ≡ length t.popped + t.ended + p.steps + 1 + 1 = omega arith in
    ap (λ (k : ℕ). record (with_end v) { steps = k }) steps
    ∙ ap (λ (b : Bool). if b then with_number v n else with_end v) (sym (le-ltb n t.packets above))

abbrev NoStop : View → Type 0
NoStop p = (p.seen.stop ≤ 0) × (min 1 p.stop_callers ≤ 0) × (0 ≤ 1)

number_made : (t : PassView) (p : View) (ended stop_seen : Bool) (n : ℕ) → IsHand t p None ended stop_seen → t.ended ≡ 0 → NoStop p
    → IsNext t (Number n)
    → Makes (seen_of t p []) (sees_no_stop ∷ made event.Claim n (reply.Number n) ∷ [])
    (seen_of (after_take t (Number n)) (after_look p shown.Stop 0) (n ∷ []))
number_made t p ended stop_seen n ok going fresh next =
    let unclaimed = ok.no_claim in
    let below = next.0 in
    let least = next.1 in (
      tt,
      fresh,
      refl,
      (
        (refl, going),
        (omega arith, omega arith, omega arith, λ e. absurd (omega arith)),
        ap (λ (b : Bool). if b then reply.Number n else reply.NoMore) (lt-ltb n t.packets below),
        seen_number t p n below,
      ),
    )

end_made : (t : PassView) (p : View) (ended stop_seen : Bool) → IsHand t p None ended stop_seen → t.ended ≡ 0 → NoStop p
    → Makes (seen_of t p []) (sees_no_stop ∷ made event.Claim t.packets reply.NoMore ∷ [])
    (seen_of (after_take t End) (after_look p shown.Stop 0) [])
end_made t p ended stop_seen ok going fresh =
    let unclaimed = ok.no_claim in
    let few = ok.few_popped in (
      tt,
      fresh,
      refl,
      (
        (refl, going),
        (omega arith, omega arith, omega arith, λ e. absurd (omega arith)),
        ap (λ (b : Bool). if b then reply.Number t.packets else reply.NoMore) (le-ltb t.packets t.packets (omega arith)),
        seen_end t p t.packets (omega arith),
      ),
    )

module _ (t u : PassView) (p q : View) (number : Option ℕ) (ended stop_seen : Bool) (r : ℕ) (empty : number ≡ None)
    (ok : IsHand t p number ended stop_seen) (going : t.ended ≡ 0) (was : r ≡ 0) (looked : q ≡ after_look p shown.Stop r)
    (fresh : (p.seen.stop ≤ r) × (min 1 p.stop_callers ≤ r) × (r ≤ 1)) where
  no_stop : NoStop p
  no_stop = let a = fresh.0 in let b = fresh.1 in (omega arith, omega arith, omega arith)

  pub says_number : (n : ℕ) (numbers : List ℕ) → numbers ≡ n ∷ [] → u ≡ after_take t (Number n) → IsNext t (Number n)
      → Makes (seen_of t p (hand_list number)) (sees_no_stop ∷ made event.Claim n (reply.Number n) ∷ []) (seen_of u q numbers)
  says_number n numbers has is next =
      rw (has, is, looked, was, empty)
      (number_made t p ended stop_seen n (subst (λ m. IsHand t p m ended stop_seen) empty ok) going no_stop next)

  pub says_end : u ≡ after_take t End → Makes (seen_of t p (hand_list number))
      (sees_no_stop ∷ made event.Claim t.packets reply.NoMore ∷ []) (seen_of u q (hand_list number))
  says_end is =
      rw (is, looked, was, empty)
      (end_made t p ended stop_seen (subst (λ m. IsHand t p m ended stop_seen) empty ok) going no_stop)

-- ---- several looks, and then a call
pub makes_then : (xs : List MadeStep) (v : View) (ys : List MadeStep) (u w : View) → Makes v xs u → Makes u ys w
    → Makes v (xs ++ ys) w
makes_then [] v ys u w a b = subst (λ z. Makes z ys w) a b
makes_then (x ∷ xs) v ys u w a b = (a.0, a.1, a.2, makes_then xs _ ys u w a.3 b)

snoc_looks : (k : ℕ) → replicate k sees_no_stop ++ sees_no_stop ∷ [] ≡ replicate (suc k) sees_no_stop
snoc_looks zero = refl
snoc_looks (suc k) = ap (λ l. sees_no_stop ∷ l) (snoc_looks k)

pub one_more_look : (v u w : View) (k : ℕ) → Makes v (replicate k sees_no_stop) u → Makes u (sees_no_stop ∷ []) w
    → Makes v (replicate (suc k) sees_no_stop) w
one_more_look v u w k a b =
    subst (λ l. Makes v l w) (snoc_looks k) (makes_then (replicate k sees_no_stop) v (sees_no_stop ∷ []) u w a b)

-- looks that found no stop leave all but the count of steps
looks_keep : (k : ℕ) (v u : View) → v.seen.stop ≡ 0 → Makes v (replicate k sees_no_stop) u
    → (u.ended ≡ v.ended) × (u.seen.stop ≡ 0) × (u.packets ≡ v.packets) × (u.drawn ≡ v.drawn) × (progress_of u ≡ progress_of v)
looks_keep zero v u none h = (
  ap (λ (u : View). u.ended) h,
  ap (λ (u : View). u.seen.stop) h ∙ none,
  ap (λ (u : View). u.packets) h,
  ap (λ (u : View). u.drawn) h,
  ap progress_of h,
)
looks_keep (suc k) v u none h =
    let w = after_look v shown.Stop 0 in
    let ih = looks_keep k w u refl h.3 in
    (ih.0, ih.1, ih.2, ih.3, ih.4 ∙ ap (λ n. record (progress_of v) { stop_seen = nat_lt 0 n }) (sym none))

-- what was found, as the answer that carries it
pub next_after : (v u w : View) (k : ℕ) (given : Claim) → v.seen.stop ≡ 0 → Makes v (replicate k sees_no_stop) u
    → NextAfter [] u given w → v.ended ≡ 0 → NextAfter (replicate k sees_no_stop) v given w
next_after v u w k (claim.Busy n) none made_looks says going = says
next_after v u w k (claim.Packet n) none made_looks says going =
    let same = looks_keep k v u none made_looks in
    let packets = same.2 in
    let below = says.2 in (
      going,
      none,
      omega arith,
      (λ y some_time. says.3 y (subst (λ l. 0 < times y l) (sym same.3) some_time)),
      makes_then _ v _ u w made_looks says.4,
    )
next_after v u w k claim.NoMore none made_looks says going = ⊎_elim
    (λ known. let same = (looks_keep k v u none made_looks).0 in let a = known.0 in absurd (omega arith))
    (λ learnt. let same = (looks_keep k v u none made_looks).2 in let m = learnt.2.0 in let above = learnt.2.1 in inr
    (going, none, (m, omega arith, makes_then _ v _ u w made_looks learnt.2.2)))
    says
next_after v u w k claim.Stopped none made_looks says going = (
  going,
  ⊎_elim
      (λ known. let same = (looks_keep k v u none made_looks).1 in let a = known.0 in absurd (omega arith))
      (λ learnt. inr (none, makes_then _ v _ u w made_looks learnt.1))
      says.1,
)

-- ---- what a call is to a source of work
drew : (packets : List (List ℕ)) (v w : View) (k n : ℕ) (bytes : List ℕ) → v.hand ≡ [] → NoStop v → v.ended ≡ 0 → n < v.packets
    → slice_get packets n ≡ Some bytes
    → Makes v (replicate k sees_no_stop ++ sees_no_stop ∷ made event.Claim n (reply.Number n) ∷ []) w
    → progress_of w ≡ record (progress_of v) { taken = v.drawn ++ n ∷ []; in_hand = Some n }
drew packets v w zero n bytes empty none going below got h =
    let u = after_look v shown.Stop 0 in
    let is : w ≡ with_number u n =
    h.3.3 ∙ ap (λ (b : Bool). if b then with_number u n else with_end u) (lt-ltb n v.packets below) in
    let zero_stop : v.seen.stop ≡ 0 = let a = none.0 in omega arith in
    ap progress_of is ∙ ap (λ hs. record (progress_of v)
    { taken = v.drawn ++ n ∷ []; in_hand = first_of (hs ++ n ∷ []); stop_seen = false }) empty
    ∙ ap (λ m. record (progress_of v) { taken = v.drawn ++ n ∷ []; in_hand = Some n; stop_seen = nat_lt 0 m }) (sym zero_stop)
drew packets v w (suc k) n bytes empty none going below got h =
    let zero_stop : v.seen.stop ≡ 0 = let a = none.0 in omega arith in
    drew packets (after_look v shown.Stop 0) w k n bytes empty (omega arith, none.1, omega arith) going below got h.3
    ∙ ap (λ m. record (progress_of v) { taken = v.drawn ++ n ∷ []; in_hand = Some n; stop_seen = nat_lt 0 m }) (sym zero_stop)

learnt_end : (v w : View) (k n : ℕ) → v.packets ≤ n → v.seen.stop ≡ 0
    → Makes v (replicate k sees_no_stop ++ sees_no_stop ∷ made event.Claim n reply.NoMore ∷ []) w
    → progress_of w ≡ record (progress_of v) { ended = true }
learnt_end v w zero n above none h =
    let u = after_look v shown.Stop 0 in
    let is : w ≡ with_end u = h.3.3 ∙ ap (λ (b : Bool). if b then with_number u n else with_end u) (le-ltb n v.packets above) in
    ap progress_of is ∙ ap (λ b. record (progress_of v) { ended = b; stop_seen = false }) (lt-ltb 0 (v.ended + 1) (omega arith))
    ∙ ap (λ m. record (progress_of v) { ended = true; stop_seen = nat_lt 0 m }) (sym none)
learnt_end v w (suc k) n above none h =
    learnt_end (after_look v shown.Stop 0) w k n above refl h.3
    ∙ ap (λ m. record (progress_of v) { ended = true; stop_seen = nat_lt 0 m }) (sym none)

saw_stop : (v w : View) (k : ℕ) → Makes v (replicate k sees_no_stop ++ sees_stop ∷ []) w
    → progress_of w ≡ record (progress_of v) { stop_seen = true }
saw_stop v w zero h = ap progress_of h.3
saw_stop v w (suc k) h = saw_stop (after_look v shown.Stop 0) w k h.3

first_fresh : (v w : View) (k : ℕ) (rest : List MadeStep) → Makes v (replicate k sees_no_stop ++ sees_no_stop ∷ rest) w → NoStop v
first_fresh v w zero rest h = h.1
first_fresh v w (suc k) rest h = h.1

pub next_says : (packets : List (List ℕ)) (v w : View) (given : Work) → v.hand ≡ [] → NextMakes v (claim_of given) w
    → HasBytes packets given → NextSays packets (progress_of v) given (progress_of w)
next_says packets v w (work.Packet n bytes) empty (k, (going, none, below, rises, h)) got =
    let fresh = first_fresh v w k _ h in
    let no_call : v.stop_callers ≡ 0 = let a = fresh.1 in omega arith in (
      ap (nat_lt 0) going,
      ap (nat_lt 0) none,
      ap (nat_lt 0) no_call,
      got,
      drew packets v w k n bytes.items empty fresh going below got h,
    )
next_says packets v w work.NoMore empty (k, says) got = ⊎_elim
    (λ known. (
      inl (ap (nat_lt 0) known.0),
      ap progress_of known.1
          ∙ ap (λ b. record (progress_of v) { ended = b }) (ap (nat_lt 0) known.0),
    ))
    (λ learnt.
    let fresh = first_fresh v w k _ learnt.2.2 in
    let no_call : v.stop_callers ≡ 0 = let a = fresh.1 in omega arith in
    (inr (ap (nat_lt 0) learnt.1, ap (nat_lt 0) no_call), learnt_end v w k learnt.2.0 learnt.2.1 learnt.1 learnt.2.2))
    says
next_says packets v w work.Stopped empty (k, (going, says)) got = (
  ap (nat_lt 0) going,
  ⊎_elim
      (λ known. ap progress_of known.1 ∙ ap (λ b. record (progress_of v) { stop_seen = b }) (ap (nat_lt 0) known.0))
      (λ learnt. saw_stop v w k learnt.1)
      says,
)

-- what is claimed is a number of the packets', or no number
pub answerable : (packets : ℕ) (v w : View) (claimed : Claim) → v.packets ≡ packets → NextMakes v claimed w
    → IsAnswerable packets claimed
answerable packets v w (claim.Packet n) same (k, says) = let below = says.2 in omega arith
answerable packets v w (claim.Busy n) same (k, says) = absurd says
answerable packets v w claim.NoMore same makes = tt
answerable packets v w claim.Stopped same makes = tt

-- ---- the bytes
pub get_map : {X Y : Type 0} (f : X → Y) (xs : List X) (n : ℕ) (d : X) → n < length xs
    → slice_get (map f xs) n ≡ Some (f (get_or xs n d))
get_map f [] n d l = absurd (omega arith)
get_map f (x ∷ xs) zero d l = refl
get_map f (x ∷ xs) (suc n) d l = get_map f xs n d (omega arith)

pub below_map : {X Y : Type 0} (f : X → Y) (xs : List X) (n m : ℕ) → m ≡ length (map f xs) → n < m → n < length xs
below_map f xs n m e l = omega (arith, length-map xs f)

-- ---- a report
-- a hand with a number in hand may report it
pub has_room : (t : PassView) (p : View) (number : Option ℕ) (ended stop_seen : Bool) (n : ℕ) → number ≡ Some n
    → IsHand t p number ended stop_seen → length p.finished + length p.abandoned < 1024
has_room t p number ended stop_seen n full ok =
    let a =
    ok.agrees.counted in let b =
    ok.few_popped in let d = ok.few_packets in let c = ap (λ m. length (hand_list m)) full in omega arith

-- the number in hand is reported
hand_reported : (t : PassView) (p : View) (number : Option ℕ) (ended stop_seen : Bool) (n : ℕ) (done lost : List ℕ) → number ≡ Some n
    → Adds p (n ∷ []) done lost → IsHand t p number ended stop_seen
    → IsHand t (reported p (p.steps + 1) done lost) None ended stop_seen
hand_reported t p number ended stop_seen n done lost full adds ok = record {
  one_pass = ok.one_pass;
  one_seat = ok.one_seat;
  feeds = ok.feeds;
  pushed = ok.pushed;
  marks = ok.marks;
  few_packets = ok.few_packets;
  few_popped = ok.few_popped;
  no_claim = ok.no_claim;
  agrees =
      agrees_reported (seen_of t p (n ∷ [])) (length t.popped + t.ended + (p.steps + 1)) done lost
      (record { each_once = adds.each_once; counted = adds.counted })
      (subst (λ m. Agrees (seen_of t p (hand_list m))) full ok.agrees);
  ended_is = ok.ended_is;
  stop_seen_is = ok.stop_seen_is;
}

pub hand_finished : (t : PassView) (p q : View) (number : Option ℕ) (ended stop_seen : Bool) (n : ℕ) → number ≡ Some n
    → q ≡ after_finish (with_numbers p (n ∷ [])) → IsHand t p number ended stop_seen → IsHand t q None ended stop_seen
hand_finished t p q number ended stop_seen n full is ok =
    subst (λ (q : View). IsHand t q None ended stop_seen) (sym is)
    (hand_reported t p number ended stop_seen n (p.finished ++ n ∷ []) p.abandoned full (to_finished p (n ∷ [])) ok)

pub hand_abandoned : (t : PassView) (p q : View) (number : Option ℕ) (ended stop_seen : Bool) (n : ℕ) → number ≡ Some n
    → q ≡ after_abandon (with_numbers p (n ∷ [])) → IsHand t p number ended stop_seen → IsHand t q None ended stop_seen
hand_abandoned t p q number ended stop_seen n full is ok =
    subst (λ (q : View). IsHand t q None ended stop_seen) (sym is)
    (hand_reported t p number ended stop_seen n p.finished (p.abandoned ++ n ∷ []) full (to_abandoned p (n ∷ [])) ok)
