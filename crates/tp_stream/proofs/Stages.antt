-- A stream's queue and words stand for a board under the board's rule.
use Rattle.std.proofs.Common.{◌≡◌, ℕ, zero, suc, ◌+◌, ◌-◌, min, List, [], ◌∷◌, length, map, replicate, sym, refl, ap, ◌∙◌, subst, arith}
use mathlib.Core.Option.{some, some-ne-none, some-injective}
use lib.ListN.{get_elem?}
use Rattle.tp_stream.specs.declared.queue.Item.{Item}
use Rattle.tp_stream.specs.declared.queue.Item.TheVariants.{End}
use Rattle.tp_stream.specs.declared.queue.PassView.{PassView}
use Rattle.tp_board.specs.declared.view.Counters.{Counters}
use Rattle.tp_board.specs.declared.view.View.{View}
use Rattle.tp_board.specs.Counting.{times, once_below}
use Rattle.tp_stream.specs.Queues.{queue}
use Rattle.tp_board.specs.Rule.{total, Fits}
use Rattle.tp_board.specs.Runs.{numbers_from}
use Rattle.tp_stream.specs.Stages.{HandState, hand_seen, KeepsStream, pops, pushes, numbers_held, QueueLaw, StreamIsBoardLaw}
use Rattle.tp_board.specs.Views.{all_drawn}
use Rattle.tp_board.specs.Words.{size, counters}
use Rattle.tp_board.proofs.Counting.{times-append}
use Rattle.tp_stream.proofs.Gathering.{claims_at, below_and_from}
use Rattle.tp_board.proofs.Totals.{times_gathered}

pub total_map : {X Y : Type 0} (f : Y → ℕ) (g : X → Y) (xs : List X) → total f (map g xs) ≡ total (λ x. f (g x)) xs
total_map f g [] = refl
total_map f g (x ∷ xs) = ap (λ n. f (g x) + n) (total_map f g xs)

total_two : {X : Type 0} (f g : X → ℕ) (xs : List X) → total (λ x. f x + g x) xs ≡ total f xs + total g xs
total_two f g [] = refl
total_two f g (x ∷ xs) = let ih = total_two f g xs in omega arith

pub at_map : {X Y : Type 0} (g : X → Y) (xs : List X) (id : ℕ) (y : Y) → get_elem? (map g xs) id ≡ some y
    → (x : X) × (get_elem? xs id ≡ some x) × (g x ≡ y)
at_map g [] id y at = absurd (some-ne-none y (sym at))
at_map g (x ∷ xs) zero y at = (x, refl, some-injective (g x) y at)
at_map g (x ∷ xs) (suc id) y at = at_map g xs id y at

pub map_at : {X Y : Type 0} (g : X → Y) (xs : List X) (id : ℕ) (x : X) → get_elem? xs id ≡ some x
    → get_elem? (map g xs) id ≡ some (g x)
map_at g [] id x at = absurd (some-ne-none x (sym at))
map_at g (y ∷ ys) zero x at = ap (λ z. some (g z)) (some-injective y x at)
map_at g (y ∷ ys) (suc id) x at = map_at g ys id x at

-- the queue's rule is over these packets, since somebody has a stand
pub sizes_told : (packets members : ℕ) (items : List Item) (words : List ℕ) (stands : List HandState)
    → (h : KeepsStream packets members items words stands) → h.queue.packets ≡ packets
sizes_told packets members items words [] h = let a = h.queue.parts in absurd (omega arith)
sizes_told packets members items words (s ∷ ss) h =
    let so = h.each 0 s refl in
    let one = so.one_pass in
    sym ((h.queue.fits 0 s.turn refl).sizes (omega arith)).0 ∙ so.packets_is

pub pops_are : (packets members : ℕ) (items : List Item) (words : List ℕ) (stands : List HandState)
    → (h : KeepsStream packets members items words stands) → pops stands ≡ h.queue.drawn + h.queue.ended
pops_are packets members items words stands h =
    let r = h.queue in
    let popped = sym (total_map (λ (t : PassView). length t.popped) (λ (s : HandState). s.turn) stands) ∙ r.counted in
    let ended = sym (total_map (λ (t : PassView). t.ended) (λ (s : HandState). s.turn) stands) ∙ r.ended_is in
    let both = total_two (λ (s : HandState). length s.turn.popped) (λ (s : HandState). s.turn.ended) stands in
    omega arith

pub stand_law : StreamIsBoardLaw
stand_law packets members items words stands h =
    let r = h.queue in
    let d = h.tally.2 in
    let w : Counters = counters (pops stands) h.tally.0.done h.tally.0.lost h.tally.0.stop in
    let told = sizes_told packets members items words stands h in
    let popped = sym (total_map (λ (t : PassView). length t.popped) (λ (s : HandState). s.turn) stands) ∙ r.counted in
    let ended = sym (total_map (λ (t : PassView). t.ended) (λ (s : HandState). s.turn) stands) ∙ r.ended_is in
    let claims =
    claims_at r.drawn r.ended packets (let a = r.behind in let b = r.within in omega arith)
    (λ some_end. let t = r.taken in let a = r.marks_last (omega arith) in let b = r.ends_last some_end in omega arith) in
    let least = claims.0 in
    let over = claims.1 in
    let all = pops_are packets members items words stands h in
    let drawn : min (pops stands) packets ≡ r.drawn = ap (λ n. min n packets) all ∙ least in
    let place = λ (f : View → ℕ). sym (total_map f (λ (s : HandState). s.place) stands) in
    let fits = λ (id : ℕ) (v : View) (at : get_elem? (map hand_seen stands) id ≡ some v).
    let s = at_map hand_seen stands id v at in
    let so = h.each id s.0 s.1 in
    let one = so.one_seat in
    let seen = (d.fits id s.0.place (map_at (λ (s : HandState). s.place) stands id s.0 s.1)).seen in
    let none = d.no_claim in
    let first = seen.claimed in
    let f : Fits (size packets (members + 1)) w (hand_seen s.0) = record {
      packets = (λ _. so.packets_is);
      ended = so.agrees.ended;
      in_hand = so.agrees.in_hand;
      each_once = so.agrees.each_once;
      counted = so.agrees.counted;
      seen = record { claimed = omega arith; done = seen.done; lost = seen.lost; stop = seen.stop };
      idle = (λ e. absurd (omega arith));
    } in
    subst (Fits (size packets (members + 1)) w) s.2 f in (
      w,
      ap (λ l. pops stands ∷ l) h.tally.1,
      record {
        few_packets = h.in_range.2;
        few_members = (let a = h.in_range.1 in omega arith);
        parts = total_map (λ (v : View). v.parts) hand_seen stands ∙ place (λ (v : View). v.parts) ∙ d.parts;
        each_once =
            (λ x. total_map (λ (v : View). times x v.drawn) hand_seen stands
            ∙ sym (total_map (λ (t : PassView). times x t.popped) (λ (s : HandState). s.turn) stands) ∙ r.each_once x
            ∙ ap (once_below x) (sym drawn));
        drawn = total_map (λ (v : View). length v.drawn) hand_seen stands ∙ popped ∙ sym drawn;
        ended = (let a = total_map (λ (v : View). v.ended) hand_seen stands in let b = ended in omega arith);
        done =
            d.done ∙ sym (total_map (λ (v : View). length v.finished) hand_seen stands ∙ place (λ (v : View). length v.finished));
        lost =
            d.lost ∙ sym (total_map (λ (v : View). length v.abandoned) hand_seen stands
            ∙ place (λ (v : View). length v.abandoned));
        stop =
            d.stop ∙ ap (min 1) (sym (total_map (λ (v : View). v.stop_callers) hand_seen stands
            ∙ place (λ (v : View). v.stop_callers)));
        fits = fits;
      },
    )

-- ---- what the queue holds
queued_marks : (marks : ℕ) → numbers_held (replicate marks End) ≡ []
queued_marks zero = refl
queued_marks (suc marks) = queued_marks marks

queued_line : (from count marks : ℕ) → numbers_held (queue from count marks) ≡ numbers_from from count
queued_line from zero marks = queued_marks marks
queued_line from (suc count) marks = ap (λ l. from ∷ l) (queued_line (from + 1) count marks)

pub queue_law : QueueLaw
queue_law packets members items words stands h =
    let r = h.queue in
    let views = map hand_seen stands in
    let count : r.drawn + (r.pushed - r.drawn) ≡ pushes stands =
    (let a = r.behind in let b = total_map (λ (t : PassView). t.pushed) (λ (s : HandState). s.turn) stands in let c =
    r.pushed_is in omega arith) in
    let held : numbers_held items ≡ numbers_from r.drawn (r.pushed - r.drawn) =
    ap numbers_held r.in_line ∙ queued_line r.drawn (r.pushed - r.drawn) (r.marks - r.ended) in
    λ x. let a = times-append x (all_drawn views) (numbers_held items) in
    let b = ap (times x) held in
    let c = times_gathered (λ (v : View). v.drawn) x views in
    let d = total_map (λ (v : View). times x v.drawn) hand_seen stands in
    let e = total_map (λ (t : PassView). times x t.popped) (λ (s : HandState). s.turn) stands in
    let f = r.each_once x in
    let g = below_and_from x r.drawn (r.pushed - r.drawn) in
    let k = ap (once_below x) count in
    omega arith
