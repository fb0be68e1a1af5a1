-- The steps at a stream's three words: each is one event of the board that the stream stands for.
use Rattle.std.proofs.Common.{◌≡◌, ℕ, ◌+◌, ◌<◌, List, [], ◌∷◌, ◌++◌, length, map, set, sym, refl, ap, ◌∙◌, subst, arith}
use mathlib.Core.Option.{some}
use lib.ListN.{get_elem?}
use Rattle.tp_board.specs.declared.event.Event.{Event}
use Rattle.tp_board.specs.declared.event.Event.TheVariants.{Finish, Abandon, Stop, Look}
use Rattle.tp_board.specs.declared.event.Shown.{Shown}
use Rattle.tp_board.specs.declared.event.Shown.TheVariants as shown
use Rattle.tp_board.specs.declared.event.Reply.{Reply}
use Rattle.tp_board.specs.declared.event.Reply.TheVariants.{Value}
use Rattle.tp_stream.specs.declared.queue.Item.{Item}
use Rattle.tp_stream.specs.declared.queue.PassView.{PassView}
use Rattle.tp_board.specs.declared.view.View.{View}
use Rattle.tp_board.specs.Counting.{times}
use Rattle.tp_stream.specs.Tallies.{KeepsTally, with_numbers}
use Rattle.tp_board.specs.Freshness.{IsFresh}
use Rattle.tp_board.specs.Laws.{IsEvent, IsSeatAt}
use Rattle.tp_stream.specs.Queues.{Streamed}
use Rattle.tp_stream.specs.Stages.{HandState, hand_seen, IsHandState, KeepsStream, pops, IsStreamEvent, IsAtWords, tally_found}
use Rattle.tp_stream.specs.Stages.{words_with, WordLaw}
use Rattle.tp_board.specs.Steps.{answer_for, after_finish, after_abandon, after_stop, after_look}
use Rattle.tp_stream.specs.Streams.{seen_of}
use Rattle.tp_board.specs.Words.{size}
use Rattle.tp_stream.proofs.Tallies.{finish_keeps, abandon_keeps, stop_keeps, look_keeps}
use Rattle.tp_board.proofs.Events.{finish_law, abandon_law, stop_law, look_law}
use Rattle.tp_board.proofs.Reports.{Adds, to_finished, to_abandoned, reported}
use Rattle.tp_stream.proofs.Reports.{agrees_reported}
use Rattle.tp_stream.proofs.Stages.{total_map, map_at, sizes_told, stand_law}
use Rattle.tp_stream.proofs.StreamSteps.{map_set, map_same}
use Rattle.tp_board.proofs.Totals.{le_total, total_set, each_set}

-- one with a number in hand has reported fewer than all packets
room : (packets members : ℕ) (items : List Item) (words : List ℕ) (stands : List HandState) (id : ℕ) (s : HandState) (n : ℕ)
    → KeepsStream packets members items words stands → get_elem? stands id ≡ some s → s.numbers ≡ n ∷ []
    → length s.place.finished + length s.place.abandoned < 1024
room packets members items words stands id s n h at full =
    let told = sizes_told packets members items words stands h in
    let counted = (h.each id s at).agrees.counted in
    let one = ap length full in
    let mine = le_total (λ (s : HandState). length s.turn.popped) stands id s at in
    let all = sym (total_map (λ (t : PassView). length t.popped) (λ (s : HandState). s.turn) stands) ∙ h.queue.counted in
    let a = h.queue.behind in let b = h.queue.within in let c = h.in_range.2 in omega arith

-- what every step at the words leaves, where the stand is as after the event
worded : (packets members : ℕ) (items : List Item) (words words' : List ℕ) (stands : List HandState) (id : ℕ) (s : HandState)
    (p : View) (numbers : List ℕ) (u : View) (event : Event) (r : Reply)
    → KeepsStream packets members items words stands → get_elem? stands id ≡ some s
    → KeepsTally (size packets (members + 1)) words' (set (map (λ (s : HandState). s.place) stands) id p)
    → IsHandState packets (record s { place = p; numbers = numbers })
    → seen_of s.turn p numbers ≡ u
    → IsEvent (size packets (members + 1)) (pops stands ∷ words) (map hand_seen stands) (pops stands ∷ words')
    (set (map hand_seen stands) id u) id event r
    → IsStreamEvent packets members words stands items words' (set stands id (record s { place = p; numbers = numbers })) id
    event r
worded packets members items words words' stands id s p numbers u event r h at tally so seen made =
    let s' : HandState = record s { place = p; numbers = numbers } in
    let k = size packets (members + 1) in
    let views : set (map hand_seen stands) id u ≡ map hand_seen (set stands id s') =
    ap (set (map hand_seen stands) id) (sym seen) ∙ sym (map_set hand_seen stands id s') in
    let count : pops stands ≡ pops (set stands id s') =
    (let a = total_set (λ (s : HandState). length s.turn.popped + s.turn.ended) stands id s s' at in omega arith) in record {
      rule = record {
        in_range = h.in_range;
        queue = subst (Streamed items) (sym (map_same (λ (s : HandState). s.turn) stands id s s' at refl)) h.queue;
        tally = subst (KeepsTally k words') (sym (map_set (λ (s : HandState). s.place) stands id s')) tally;
        each = each_set (IsHandState packets) stands id s' so (λ j y _ e. h.each j y e);
      };
      made =
          subst (λ vs. IsEvent k (pops stands ∷ words) (map hand_seen stands) (pops (set stands id s') ∷ words') vs id event r)
          views
          (subst (λ n. IsEvent k (pops stands ∷ words) (map hand_seen stands) (n ∷ words')
          (set (map hand_seen stands) id u) id event r) count made);
    }

-- one more step at the words is one more step of all
one_more_step : (s : HandState) (v : View) → record v { steps = length s.turn.popped + s.turn.ended + (s.place.steps + 1) }
    ≡ record v { steps = (hand_seen s).steps + 1 }
one_more_step s v = ap (λ (m : ℕ). record v { steps = m }) (omega arith)

-- what was in hand is reported
so_reported : (packets : ℕ) (s : HandState) (done lost : List ℕ) → Adds s.place s.numbers done lost → IsHandState packets s
    → IsHandState packets (record s { place = reported s.place (s.place.steps + 1) done lost; numbers = [] })
so_reported packets s done lost adds so = record {
  packets_is = so.packets_is;
  one_pass = so.one_pass;
  one_seat = so.one_seat;
  agrees =
      agrees_reported (hand_seen s) (length s.turn.popped + s.turn.ended + (s.place.steps + 1)) done lost
      (record { each_once = adds.each_once; counted = adds.counted }) so.agrees;
}

-- a step that reports nothing
so_kept : (packets : ℕ) (s : HandState) (p : View) → p.parts ≡ s.place.parts → p.finished ≡ s.place.finished
    → p.abandoned ≡ s.place.abandoned → IsHandState packets s → IsHandState packets (record s { place = p })
so_kept packets s p parts finished abandoned so =
    let a = so.agrees in let one = so.one_seat in record {
      packets_is = so.packets_is;
      one_pass = so.one_pass;
      one_seat = omega arith;
      agrees = record {
        ended = (let b = a.ended in omega arith);
        in_hand = (let b = a.in_hand in omega arith);
        each_once =
            (λ x. let b = a.each_once x in let c = ap (times x) finished in let d = ap (times x) abandoned in omega arith);
        counted = (let b = a.counted in let c = ap length finished in let d = ap length abandoned in omega arith);
      };
    }

module _ (packets members : ℕ) (items : List Item) (words : List ℕ) (stands : List HandState) (id : ℕ) (s : HandState)
    (h : KeepsStream packets members items words stands) (at : get_elem? stands id ≡ some s) where
  -- the board that the stream stands for has the one that steps in a seat, and so have the words
  board_seat : IsSeatAt (size packets (members + 1)) (pops stands ∷ words) (map hand_seen stands) id (hand_seen s)
  board_seat = (stand_law packets members items words stands h, map_at hand_seen stands id s at, (h.each id s at).one_seat)

  place_at : get_elem? (map (λ (s : HandState). s.place) stands) id ≡ some s.place
  place_at = map_at (λ (s : HandState). s.place) stands id s at

  -- a report of the number in hand
  after_report : (event : Event) (done lost : List ℕ) → Adds s.place s.numbers done lost
      → KeepsTally (size packets (members + 1)) (words_with event words)
      (set (map (λ (s : HandState). s.place) stands) id (reported s.place (s.place.steps + 1) done lost))
      → (r : Reply)
      → IsEvent (size packets (members + 1)) (pops stands ∷ words) (map hand_seen stands) (pops stands ∷ words_with event words)
      (set (map hand_seen stands) id (reported (hand_seen s) ((hand_seen s).steps + 1) done lost)) id event r
      → IsStreamEvent packets members words stands items (words_with event words)
      (set stands id (record s { place = reported s.place (s.place.steps + 1) done lost; numbers = [] })) id event r
  after_report event done lost adds tally r made =
      worded packets members items words (words_with event words) stands id s (reported s.place (s.place.steps + 1) done lost) []
      (reported (hand_seen s) ((hand_seen s).steps + 1) done lost) event r h at tally
      (so_reported packets s done lost adds (h.each id s at))
      (one_more_step s (reported (hand_seen s) ((hand_seen s).steps + 1) done lost)) made

  saw : (what : Shown) (n : ℕ) → IsHandState packets (record s { place = after_look s.place what n })
  saw shown.Claimed n = so_kept packets s (after_look s.place shown.Claimed n) refl refl refl (h.each id s at)
  saw shown.Done n = so_kept packets s (after_look s.place shown.Done n) refl refl refl (h.each id s at)
  saw shown.Lost n = so_kept packets s (after_look s.place shown.Lost n) refl refl refl (h.each id s at)
  saw shown.Stop n = so_kept packets s (after_look s.place shown.Stop n) refl refl refl (h.each id s at)

  looked : (what : Shown) (n : ℕ) → seen_of s.turn (after_look s.place what n) s.numbers ≡ after_look (hand_seen s) what n
  looked shown.Claimed n = one_more_step s (after_look (hand_seen s) shown.Claimed n)
  looked shown.Done n = one_more_step s (after_look (hand_seen s) shown.Done n)
  looked shown.Lost n = one_more_step s (after_look (hand_seen s) shown.Lost n)
  looked shown.Stop n = one_more_step s (after_look (hand_seen s) shown.Stop n)

  -- the look at the board's word, which is the one before in the stream's
  board_look : (what : Shown) → IsAtWords (Look what)
      → let n = tally_found (Look what) words in
      IsFresh (hand_seen s) what n
      × IsEvent (size packets (members + 1)) (pops stands ∷ words) (map hand_seen stands) (pops stands ∷ words_with (Look what) words)
      (set (map hand_seen stands) id (after_look (hand_seen s) what n)) id (Look what)
      (Value (answer_for what (hand_seen s).packets n))
  board_look shown.Claimed kept = absurd (omega arith)
  board_look shown.Done kept =
      look_law shown.Done (size packets (members + 1)) (pops stands ∷ words) (map hand_seen stands) id (hand_seen s) board_seat tt
  board_look shown.Lost kept =
      look_law shown.Lost (size packets (members + 1)) (pops stands ∷ words) (map hand_seen stands) id (hand_seen s) board_seat tt
  board_look shown.Stop kept =
      look_law shown.Stop (size packets (members + 1)) (pops stands ∷ words) (map hand_seen stands) id (hand_seen s) board_seat tt

-- a look leaves what is in hand
same_hand : (v : View) (what : Shown) (n : ℕ) → v.hand ≡ (after_look v what n).hand
same_hand v shown.Claimed n = refl
same_hand v shown.Done n = refl
same_hand v shown.Lost n = refl
same_hand v shown.Stop n = refl

pub finish_word : WordLaw Finish
finish_word packets members items words stands id s h at (n, full) =
    let k = size packets (members + 1) in
    let law =
    finish_law k (pops stands ∷ words) (map hand_seen stands) id (hand_seen s)
    (board_seat packets members items words stands id s h at) (n, full) in
    let tally =
    finish_keeps k words (map (λ (s : HandState). s.place) stands) id s.place h.tally
    (place_at packets members items words stands id s h at) n (h.each id s at).one_seat
    (room packets members items words stands id s n h at full) in (
      law.0,
      after_report packets members items words stands id s h at Finish (s.place.finished ++ s.numbers) s.place.abandoned
          (to_finished s.place s.numbers)
          (subst (λ ns. KeepsTally k (words_with Finish words)
          (set (map (λ (s : HandState). s.place) stands) id (after_finish (with_numbers s.place ns)))) (sym full) tally)
          _ law.1,
    )

pub abandon_word : WordLaw Abandon
abandon_word packets members items words stands id s h at (n, full) =
    let k = size packets (members + 1) in
    let law =
    abandon_law k (pops stands ∷ words) (map hand_seen stands) id (hand_seen s)
    (board_seat packets members items words stands id s h at) (n, full) in
    let tally =
    abandon_keeps k words (map (λ (s : HandState). s.place) stands) id s.place h.tally
    (place_at packets members items words stands id s h at) n (h.each id s at).one_seat
    (room packets members items words stands id s n h at full) in (
      law.0,
      after_report packets members items words stands id s h at Abandon s.place.finished (s.place.abandoned ++ s.numbers)
          (to_abandoned s.place s.numbers)
          (subst (λ ns. KeepsTally k (words_with Abandon words)
          (set (map (λ (s : HandState). s.place) stands) id (after_abandon (with_numbers s.place ns)))) (sym full) tally)
          _ law.1,
    )

pub stop_word : WordLaw Stop
stop_word packets members items words stands id s h at may =
    let k = size packets (members + 1) in
    let so = h.each id s at in
    let law =
    stop_law k (pops stands ∷ words) (map hand_seen stands) id (hand_seen s)
    (board_seat packets members items words stands id s h at) may in (
      law.0,
      worded packets members items words (words_with Stop words) stands id s (after_stop s.place) s.numbers
          (after_stop (hand_seen s)) Stop _ h at
          (stop_keeps k words (map (λ (s : HandState). s.place) stands) id s.place h.tally
          (place_at packets members items words stands id s h at) so.one_seat)
          (so_kept packets s (after_stop s.place) refl refl refl so)
          (one_more_step s (after_stop (hand_seen s)))
          law.1,
    )

pub look_word : (what : Shown) → IsAtWords (Look what) → WordLaw (Look what)
look_word what kept packets members items words stands id s h at may =
    let k = size packets (members + 1) in
    let n = tally_found (Look what) words in
    let law = board_look packets members items words stands id s h at what kept in (
      law.0,
      subst (λ ns. IsStreamEvent packets members words stands items (words_with (Look what) words)
          (set stands id (record s { place = after_look s.place what n; numbers = ns })) id (Look what)
          (Value (answer_for what (hand_seen s).packets n))) (same_hand (hand_seen s) what n)
          (worded packets members items words (words_with (Look what) words) stands id s (after_look s.place what n) s.numbers
          (after_look (hand_seen s) what n) (Look what) _ h at
          (look_keeps k words (map (λ (s : HandState). s.place) stands) id s.place h.tally
          (place_at packets members items words stands id s h at) what kept)
          (saw packets members items words stands id s h at what n)
          (looked packets members items words stands id s h at what n)
          law.1),
    )
