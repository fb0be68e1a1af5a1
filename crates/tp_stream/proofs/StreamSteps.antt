-- The steps at a stream's queue: a pop is Claim at the board that the stream stands for, and a push
-- leaves that board as it was.
use Rattle.std.proofs.Common.{◌≡◌, ℕ, zero, suc, ◌+◌, ◌-◌, ◌<◌, ◌≤◌, Bool, List, [], ◌∷◌, ◌++◌, length, map, set, sym, refl, ap}
use Rattle.std.proofs.Common.{◌∙◌, subst, ⊎_elim, arith, length-append}
use Rattle.std.specs.Prelude.{slice_index, if◌then◌else◌}
use Rattle.std.proofs.lemmas.Bool.{lt-ltb, le-ltb, cases_lt}
use Rattle.std.proofs.lemmas.List.{append-nil}
use mathlib.Core.Option.{some, some-injective}
use lib.ListN.{get_elem?}
use Rattle.tp_board.specs.declared.event.Event.TheVariants.{Claim}
use Rattle.tp_board.specs.declared.event.Reply.{Reply}
use Rattle.tp_board.specs.declared.event.Reply.TheVariants as reply
use Rattle.tp_stream.specs.declared.queue.Item.{Item}
use Rattle.tp_stream.specs.declared.queue.Item.TheVariants.{Number, End}
use Rattle.tp_stream.specs.declared.queue.PassView.{PassView}
use Rattle.tp_stream.specs.Tallies.{KeepsTally}
use Rattle.tp_board.specs.Laws.{IsEvent}
use Rattle.tp_stream.specs.Queues.{queue, item_of, Streamed}
use Rattle.tp_stream.specs.Stages.{HandState, hand_seen, IsHandState, KeepsStream, pops, after_pop, after_push, IsStreamEvent}
use Rattle.tp_stream.specs.Stages.{PopLaw, PushLaw}
use Rattle.tp_board.specs.Steps.{MayStep, with_number, with_end, after_draw}
use Rattle.tp_board.specs.Words.{size, one_more}
use Rattle.tp_board.proofs.Counting.{times-append}
use Rattle.tp_board.proofs.Events.{claim_law}
use Rattle.tp_board.proofs.Moves.{added, claimed_small}
use Rattle.tp_stream.proofs.Stages.{map_at, pops_are, sizes_told, stand_law}
use Rattle.tp_board.proofs.Totals.{total_set, each_set}
use Rattle.tp_stream.proofs.PassViews.{feeds, takes}

pub map_set : {X Y : Type 0} (g : X → Y) (xs : List X) (id : ℕ) (x : X) → map g (set xs id x) ≡ set (map g xs) id (g x)
map_set g [] id x = refl
map_set g (y ∷ ys) zero x = refl
map_set g (y ∷ ys) (suc id) x = ap (λ l. g y ∷ l) (map_set g ys id x)

pub map_same : {X Y : Type 0} (g : X → Y) (xs : List X) (id : ℕ) (x y : X) → get_elem? xs id ≡ some x → g y ≡ g x
    → map g (set xs id y) ≡ map g xs
map_same g [] id x y at e = refl
map_same g (z ∷ zs) zero x y at e = ap (λ w. w ∷ map g zs) (e ∙ ap g (sym (some-injective z x at)))
map_same g (z ∷ zs) (suc id) x y at e = ap (λ l. g z ∷ l) (map_same g zs id x y at e)

-- ---- a push
seen_put : (s : HandState) (x : Item) → hand_seen (after_push s x) ≡ hand_seen s
seen_put s (Number n) = refl
seen_put s End = refl

so_put : (packets : ℕ) (s : HandState) (x : Item) → IsHandState packets s → IsHandState packets (after_push s x)
so_put packets s (Number n) so =
    record { packets_is = so.packets_is; one_pass = so.one_pass; one_seat = so.one_seat; agrees = so.agrees }
so_put packets s End so =
    record { packets_is = so.packets_is; one_pass = so.one_pass; one_seat = so.one_seat; agrees = so.agrees }

popped_put : (s : HandState) (x : Item) → length (after_push s x).turn.popped +
    (after_push s x).turn.ended ≡ length s.turn.popped + s.turn.ended
popped_put s (Number n) = refl
popped_put s End = refl

pub push_law : PushLaw
push_law packets members items words stands id s h at may =
    let x = item_of s.turn in
    let s' = after_push s x in
    let turns = map (λ (s : HandState). s.turn) stands in
    let pushed =
    feeds (length items + 1) id s.turn x may refl items turns (omega arith) h.queue
    (map_at (λ (s : HandState). s.turn) stands id s at) in
    let joined : Streamed (items ++ x ∷ []) (map (λ (s : HandState). s.turn) (set stands id s')) =
    subst (Streamed (items ++ x ∷ [])) (sym (map_set (λ (s : HandState). s.turn) stands id s'))
    (subst (λ (w : PassView). Streamed (items ++ x ∷ []) (set turns id w)) pushed.2 pushed.1) in
    let places = map_same (λ (s : HandState). s.place) stands id s s' at refl in (
      record {
        in_range = h.in_range;
        queue = joined;
        tally = subst (KeepsTally (size packets (members + 1)) words) (sym places) h.tally;
        each = each_set (IsHandState packets) stands id s' (so_put packets s x (h.each id s at)) (λ j y _ e. h.each j y e);
      },
      (let a = total_set (λ (s : HandState). length s.turn.popped + s.turn.ended) stands id s s' at in let b = popped_put s
          x in omega arith),
      map_same hand_seen stands id s s' at (seen_put s x),
    )

-- ---- what is popped first
abbrev tag : Item → ℕ
tag (Number n) = 1
tag End = 0

abbrev number_of : Item → ℕ
number_of (Number n) = n
number_of End = 0

abbrev first_of : List Item → Item
first_of [] = End
first_of (x ∷ xs) = x

number_first : (n : ℕ) (items : List Item) (d c m : ℕ) → Number n ∷ items ≡ queue d c m → (0 < c) × (n ≡ d)
number_first n items d zero zero e = absurd (let z : suc (length items) ≡ 0 = ap length e in omega arith)
number_first n items d zero (suc m) e = absurd (let z : 1 ≡ 0 = ap (λ l. tag (first_of l)) e in omega arith)
number_first n items d (suc c) m e = (omega arith, ap (λ l. number_of (first_of l)) e)

end_first : (items : List Item) (d c m : ℕ) → End ∷ items ≡ queue d c m → (c ≡ 0) × (0 < m)
end_first items d zero zero e = absurd (let z : suc (length items) ≡ 0 = ap length e in omega arith)
end_first items d zero (suc m) e = (refl, omega arith)
end_first items d (suc c) m e = absurd (let z : 0 ≡ 1 = ap (λ l. tag (first_of l)) e in omega arith)

-- ---- a pop
seen_number : (s : HandState) (n : ℕ) → n < s.turn.packets → hand_seen (after_pop s (Number n)) ≡ after_draw (hand_seen s) n
seen_number s n below =
    let v = hand_seen s in
    let long = length-append s.turn.popped (n ∷ []) in
    let steps : length (s.turn.popped ++ n ∷ []) + s.turn.ended + s.place.steps ≡ length
    s.turn.popped + s.turn.ended + s.place.steps + 1 = omega arith in
    ap (λ (k : ℕ). record (with_number v n) { steps = k }) steps
    ∙ ap (λ (b : Bool). if b then with_number v n else with_end v) (sym (lt-ltb n s.turn.packets below))

seen_end : (s : HandState) (n : ℕ) → s.turn.packets ≤ n → hand_seen (after_pop s End) ≡ after_draw (hand_seen s) n
seen_end s n above =
    let v = hand_seen s in
    let steps : length s.turn.popped + (s.turn.ended + 1) + s.place.steps ≡ length
    s.turn.popped + s.turn.ended + s.place.steps + 1 = omega arith in
    ap (λ (k : ℕ). record (with_end v) { steps = k; hand = s.numbers ++ [] }) steps
    ∙ ap (λ (l : List ℕ). record (with_end v) { hand = l }) (append-nil s.numbers)
    ∙ ap (λ (b : Bool). if b then with_number v n else with_end v) (sym (le-ltb n s.turn.packets above))

so_number : (packets n : ℕ) (s : HandState) → s.numbers ≡ [] → IsHandState packets s
    → IsHandState packets (after_pop s (Number n))
so_number packets n s none so =
    let a = so.agrees in let one = so.one_seat in let e : length s.numbers ≡ 0 = ap length none in
    let long = length-append s.numbers (n ∷ []) in let popped = length-append s.turn.popped (n ∷ []) in record {
      packets_is = so.packets_is;
      one_pass = so.one_pass;
      one_seat = so.one_seat;
      agrees = record {
        ended = a.ended;
        in_hand = omega arith;
        each_once =
            (λ x. let b = a.each_once x in let c = times-append x s.turn.popped (n ∷ []) in let d = times-append x s.numbers
            (n ∷ []) in omega arith);
        counted = (let b = a.counted in omega arith);
      };
    }

so_end : (packets : ℕ) (s : HandState) → s.turn.ended ≡ 0 → IsHandState packets s → IsHandState packets (after_pop s End)
so_end packets s going so =
    let a = so.agrees in let one = so.one_seat in let long = length-append s.numbers [] in record {
      packets_is = so.packets_is;
      one_pass = so.one_pass;
      one_seat = so.one_seat;
      agrees = record {
        ended = omega arith;
        in_hand = (let b = a.in_hand in omega arith);
        each_once = (λ x. let b = a.each_once x in let d = times-append x s.numbers [] in omega arith);
        counted = (let b = a.counted in omega arith);
      };
    }

-- what every pop leaves, where the one that pops stands as by a draw at the count of pops
popped : (packets members : ℕ) (x : Item) (items : List Item) (words : List ℕ) (stands : List HandState) (id : ℕ) (s : HandState)
    (r : Reply)
    → KeepsStream packets members (x ∷ items) words stands → get_elem? stands id ≡ some s → MayStep Claim (hand_seen s)
    → IsHandState packets (after_pop s x) → length (after_pop s x).turn.popped +
    (after_pop s x).turn.ended ≡ length s.turn.popped + s.turn.ended + 1
    → hand_seen (after_pop s x) ≡ after_draw (hand_seen s) (pops stands)
    → IsEvent (size packets (members + 1)) (pops stands ∷ words) (map hand_seen stands) (one_more (pops stands) ∷ words)
    (set (map hand_seen stands) id (after_draw (hand_seen s) (pops stands))) id Claim r
    → IsStreamEvent packets members words stands items words (set stands id (after_pop s x)) id Claim r
popped packets members x items words stands id s r h at may so one_more_pop is event =
    let s' = after_pop s x in
    let turns = map (λ (s : HandState). s.turn) stands in
    let mine = (h.each id s at).one_pass in
    let taken = takes id s.turn (omega arith) x items turns h.queue (map_at (λ (s : HandState). s.turn) stands id s at) in
    let left : Streamed items (map (λ (s : HandState). s.turn) (set stands id s')) =
    subst (Streamed items) (sym (map_set (λ (s : HandState). s.turn) stands id s'))
    (subst (λ (w : PassView). Streamed items (set turns id w)) taken.2.0 taken.1) in
    let places = map_same (λ (s : HandState). s.place) stands id s s' at refl in
    let k = size packets (members + 1) in
    let board = stand_law packets members (x ∷ items) words stands h in
    let few = claimed_small k board.0 (map hand_seen stands) board.2 in
    let count : pops stands ≡ board.0.claimed = ap (λ ws. slice_index ws 0) board.1 in
    let next : one_more (pops stands) ≡ pops (set stands id s') =
    added (pops stands) (omega arith) ∙ (let a = total_set (λ (s : HandState). length s.turn.popped + s.turn.ended) stands id s
    s' at in omega arith) in
    let views : set (map hand_seen stands) id (after_draw (hand_seen s) (pops stands)) ≡ map hand_seen (set stands id s') =
    ap (set (map hand_seen stands) id) (sym is) ∙ sym (map_set hand_seen stands id s') in record {
      rule = record {
        in_range = h.in_range;
        queue = left;
        tally = subst (KeepsTally k words) (sym places) h.tally;
        each = each_set (IsHandState packets) stands id s' so (λ j y _ e. h.each j y e);
      };
      made =
          subst (λ vs. IsEvent k (pops stands ∷ words) (map hand_seen stands) (pops (set stands id s') ∷ words) vs id Claim r)
          views
          (subst (λ n. IsEvent k (pops stands ∷ words) (map hand_seen stands) (n ∷ words)
          (set (map hand_seen stands) id (after_draw (hand_seen s) (pops stands))) id Claim r) next event);
    }

pub pop_law : PopLaw
pop_law packets members (Number n) items words stands id s h at may =
    let r = h.queue in
    let k = size packets (members + 1) in
    let so = h.each id s at in
    let told = sizes_told packets members (Number n ∷ items) words stands h in
    let mine = so.packets_is in
    let one = so.one_seat in
    let first = number_first n items r.drawn (r.pushed - r.drawn) (r.marks - r.ended) r.in_line in
    let some = first.0 in
    let same = first.1 in
    let all = pops_are packets members (Number n ∷ items) words stands h in
    let within = r.within in
    let none : r.ended ≡ 0 =
    ⊎_elim (λ (e : 0 < r.ended). absurd (let z = r.ends_last e in omega arith)) (λ (e : r.ended ≤ 0). omega arith)
    (cases_lt 0 r.ended) in
    let count : n ≡ pops stands = omega arith in
    let below : pops stands < s.turn.packets = omega arith in
    let law =
    claim_law k (pops stands ∷ words) (map hand_seen stands) id (hand_seen s)
    (stand_law packets members (Number n ∷ items) words stands h, map_at hand_seen stands id s at, one) may in
    let answer =
    ap (λ (b : Bool). if b then reply.Number (pops stands) else reply.NoMore) (lt-ltb (pops stands) s.turn.packets below)
    ∙ ap (λ m. reply.Number m) (sym count) in (
      law.0,
      popped packets members (Number n) items words stands id s (reply.Number n) h at may (so_number packets n s may.0 so)
          (let a = length-append s.turn.popped (n ∷ []) in omega arith)
          (seen_number s n (omega arith) ∙ ap (after_draw (hand_seen s)) count)
          (subst (IsEvent k (pops stands ∷ words) (map hand_seen stands) (one_more (pops stands) ∷ words)
          (set (map hand_seen stands) id (after_draw (hand_seen s) (pops stands))) id Claim) answer law.1),
    )
pop_law packets members End items words stands id s h at may =
    let r = h.queue in
    let k = size packets (members + 1) in
    let so = h.each id s at in
    let told = sizes_told packets members (End ∷ items) words stands h in
    let mine = so.packets_is in
    let one = so.one_seat in
    let first = end_first items r.drawn (r.pushed - r.drawn) (r.marks - r.ended) r.in_line in
    let none = first.0 in
    let some = first.1 in
    let all = pops_are packets members (End ∷ items) words stands h in
    let last = r.marks_last (omega arith) in
    let above : s.turn.packets ≤ pops stands = omega arith in
    let law =
    claim_law k (pops stands ∷ words) (map hand_seen stands) id (hand_seen s)
    (stand_law packets members (End ∷ items) words stands h, map_at hand_seen stands id s at, one) may in
    let answer =
    ap (λ (b : Bool). if b then reply.Number (pops stands) else reply.NoMore) (le-ltb (pops stands) s.turn.packets above) in (
      law.0,
      popped packets members End items words stands id s reply.NoMore h at may (so_end packets s may.1 so)
          (omega arith)
          (seen_end s (pops stands) above)
          (subst (IsEvent k (pops stands ∷ words) (map hand_seen stands) (one_more (pops stands) ∷ words)
          (set (map hand_seen stands) id (after_draw (hand_seen s) (pops stands))) id Claim) answer law.1),
    )
