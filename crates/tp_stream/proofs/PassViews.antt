-- Each step at the queue of a stream keeps its rule.
use Rattle.std.specs.Prelude.{if◌then◌else◌}
use Rattle.std.proofs.Common.{Bool, ◌≡◌, ◌≢◌, ℕ, zero, suc, ◌+◌, ◌-◌, ◌<◌, ◌≤◌, List, [], ◌∷◌, ◌++◌, length, map, replicate, set}
use Rattle.std.proofs.Common.{sym, refl, ap, ◌∙◌, subst, ⊎_elim, arith, length-append, append_assoc}
use Rattle.std.proofs.lemmas.Bool.{lt-ltb, le-ltb, cases_lt}
use Rattle.std.proofs.lemmas.List.{append-nil}
use mathlib.Core.Option.{some}
use lib.ListN.{get_elem?}
use Rattle.crossbeam_queue.specs.Fifo.{Pushes, Pops, Forks, Merges, Learns}
use Rattle.tp_board.specs.Counting.{times, once_below}
use Rattle.tp_board.specs.Runs.{numbers_from}
use Rattle.tp_board.specs.Rule.{total}
use Rattle.tp_stream.specs.declared.queue.Item.{Item}
use Rattle.tp_stream.specs.declared.queue.Item.TheVariants.{Number, End}
use Rattle.tp_stream.specs.declared.queue.PassView.{PassView}
use Rattle.tp_stream.specs.Queues.{first, feeder, hand, nobody, without_one, join_of_passes, put, after_take, Took, item_of, MayPut, queue}
use Rattle.tp_stream.specs.Queues.{FitsQueue, Streamed, Waits, Left, LeftAt, TookRest}
use Rattle.tp_board.proofs.Counting.{times-append, once_more}
use Rattle.tp_board.proofs.Totals.{le_total, others_none, all_of, each_set, each_snoc, Exchange, Goes, one_changed, one_cut, two_joined}
use Rattle.tp_board.proofs.Totals.{still_there}

count_snoc : (from n : ℕ) → numbers_from from (suc n) ≡ numbers_from from n ++ (from + n) ∷ []
count_snoc from zero = ap (λ x. x ∷ []) (let e : from ≡ from + 0 = omega arith in e)
count_snoc from (suc n) =
    ap (λ l. from ∷ l) (count_snoc (from + 1) n ∙ ap (λ x. numbers_from (from + 1) n ++ x ∷ [])
    (let e : from + 1 + n ≡ from + suc n = omega arith in e))

numbers_snoc : (xs : List ℕ) (n : ℕ) → map (λ n. Number n) (xs ++ n ∷ []) ≡ map (λ n. Number n) xs ++ Number n ∷ []
numbers_snoc [] n = refl
numbers_snoc (x ∷ xs) n = ap (λ l. Number x ∷ l) (numbers_snoc xs n)

ends_snoc : (n : ℕ) → replicate n End ++ End ∷ [] ≡ replicate (suc n) End
ends_snoc zero = refl
ends_snoc (suc n) = ap (λ l. End ∷ l) (ends_snoc n)

-- the pass that feeds has pushed all that is pushed
fed_alone : (items : List Item) (views : List PassView) (id : ℕ) (v : PassView) → v.feeds ≡ 1 → (r : Streamed items views)
    → get_elem? views id ≡ some v → (r.pushed ≡ v.pushed) × (r.marks ≡ v.marks)
fed_alone items views id v one r at =
    let none = others_none (λ v. v.feeds) views id v at (r.feeds ∙ sym one) in (
      sym r.pushed_is ∙ all_of (λ v. v.pushed) views id v at (λ j u apart there. ((r.fits j u there).fed (none j u apart there)).0),
      sym r.marks_is ∙ all_of (λ v. v.marks) views id v at (λ j u apart there. ((r.fits j u there).fed (none j u apart there)).1),
    )

-- the pass that has every part has done all that is done
record WholeQueue (items : List Item) (views : List PassView) (r : Streamed items views) (v : PassView) : Type 0 where
  pub pushed : r.pushed ≡ v.pushed
  pub marks : r.marks ≡ v.marks
  pub ended : r.ended ≡ v.ended
  pub each_once : (x : ℕ) → times x v.popped ≡ once_below x r.drawn
  pub counted : length v.popped ≡ r.drawn

all_done : (items : List Item) (views : List PassView) (id : ℕ) (v : PassView) (r : Streamed items views)
    → get_elem? views id ≡ some v → r.members + 1 ≡ v.parts → WholeQueue items views r v
all_done items views id v r at every =
    let none = others_none (λ v. v.parts) views id v at (r.parts ∙ every) in
    let of =
    λ (f : PassView → ℕ) (h : (u : PassView) → FitsQueue r.packets r.members u → u.parts ≡ 0 → f u ≡ 0). all_of f views id v at
    (λ j u apart there. h u (r.fits j u there) (none j u apart there)) in record {
      pushed = sym r.pushed_is ∙ of (λ v. v.pushed) (λ u f e. (f.fed (f.idle e).0).0);
      marks = sym r.marks_is ∙ of (λ v. v.marks) (λ u f e. (f.fed (f.idle e).0).1);
      ended = sym r.ended_is ∙ of (λ v. v.ended) (λ u f e. (f.idle e).2);
      each_once = (λ x. sym (of (λ v. times x v.popped) (λ u f e. ap (times x) (f.idle e).1)) ∙ r.each_once x);
      counted = sym (of (λ v. length v.popped) (λ u f e. ap length (f.idle e).1)) ∙ r.counted;
    }

abbrev heads : Item → List Item → Item
heads d [] = d
heads d (x ∷ xs) = x

abbrev tails : List Item → List Item
tails [] = []
tails (x ∷ xs) = xs

-- none popped so far is as great as the number drawn
all_below : (x : ℕ) (views : List PassView) (id : ℕ) (v : PassView) (n : ℕ) → get_elem? views id ≡ some v
    → total (λ v. times x v.popped) views ≡ once_below x n → 0 < times x v.popped → x < n
all_below x views id v n at e some_time = ⊎_elim (λ l. l)
    (λ (past : n ≤ x). let a = le_total (λ v. times x v.popped) views id v at in let b : once_below x n ≡ 0 = rw
    (le-ltb x n past) refl in absurd (omega arith))
    (cases_lt x n)

-- what the queue holds, by the counts of the numbers and marks that were pushed and popped
record Line (items : List Item) (packets members drawn pushed marks ended : ℕ) : Type 0 where
  pub in_line : items ≡ queue drawn (pushed - drawn) (marks - ended)
  pub behind : drawn ≤ pushed
  pub within : pushed ≤ packets
  pub marked : marks ≤ members
  pub taken : ended ≤ marks
  pub marks_last : 0 < marks → pushed ≡ packets
  pub ends_last : 0 < ended → drawn ≡ pushed

-- passes are exchanged for others, and the queue changes with them
module _ (items : List Item) (views olds views' news : List PassView) (r : Streamed items views)
    (e : Exchange views olds views' news) where
  changed : (items' : List Item) (packets members drawn pushed marks ended : ℕ)
      → Line items' packets members drawn pushed marks ended
      → Goes olds news (λ v. v.parts) r.members members
      → Goes olds news (λ v. v.feeds) 0 0
      → Goes olds news (λ v. v.pushed) r.pushed pushed
      → Goes olds news (λ v. v.marks) r.marks marks
      → Goes olds news (λ v. v.ended) r.ended ended
      → ((x : ℕ) → Goes olds news (λ v. times x v.popped) (once_below x r.drawn) (once_below x drawn))
      → Goes olds news (λ v. length v.popped) r.drawn drawn
      → ((id : ℕ) (v : PassView) → get_elem? views' id ≡ some v → FitsQueue packets members v)
      → Streamed items' views'
  changed items' packets members drawn pushed marks ended l parts feeds pushed_is marks_is ended_is each_once counted fits =
      record {
        packets = packets;
        members = members;
        drawn = drawn;
        pushed = pushed;
        marks = marks;
        ended = ended;
        pushed_is = (let a = e (λ v. v.pushed) in let b = r.pushed_is in omega arith);
        marks_is = (let a = e (λ v. v.marks) in let b = r.marks_is in omega arith);
        ended_is = (let a = e (λ v. v.ended) in let b = r.ended_is in omega arith);
        parts = (let a = e (λ v. v.parts) in let b = r.parts in omega arith);
        feeds = (let a = e (λ v. v.feeds) in let b = r.feeds in omega arith);
        in_line = l.in_line;
        behind = l.behind;
        within = l.within;
        marked = l.marked;
        taken = l.taken;
        marks_last = l.marks_last;
        ends_last = l.ends_last;
        each_once = (λ x. let a = e (λ v. times x v.popped) in let b = r.each_once x in let c = each_once x in omega arith);
        counted = (let a = e (λ v. length v.popped) in let b = r.counted in omega arith);
        fits = fits;
      }

  -- where the queue stays as it is
  kept : (packets members : ℕ) → r.pushed ≤ packets → r.marks ≤ members → (0 < r.marks → r.pushed ≡ packets)
      → Goes olds news (λ v. v.parts) r.members members
      → Goes olds news (λ v. v.feeds) 0 0
      → Goes olds news (λ v. v.pushed) 0 0
      → Goes olds news (λ v. v.marks) 0 0
      → Goes olds news (λ v. v.ended) 0 0
      → ((x : ℕ) → Goes olds news (λ v. times x v.popped) 0 0)
      → Goes olds news (λ v. length v.popped) 0 0
      → ((id : ℕ) (v : PassView) → get_elem? views' id ≡ some v → FitsQueue packets members v)
      → Streamed items views'
  kept packets members within marked marks_last parts feeds pushed marks ended each_once counted fits =
      changed items packets members r.drawn r.pushed r.marks r.ended
      (record {
        in_line = r.in_line;
        behind = r.behind;
        within = within;
        marked = marked;
        taken = r.taken;
        marks_last = marks_last;
        ends_last = r.ends_last;
      }) parts feeds (omega arith) (omega arith) (omega arith) (λ x. let a = each_once x in omega arith) (omega arith) fits

-- one pass makes a step
stepped : (items : List Item) (views : List PassView) (id : ℕ) (v : PassView) (r : Streamed items views)
    → get_elem? views id ≡ some v → (items' : List Item) (u : PassView) (drawn pushed marks ended : ℕ)
    → u.parts ≡ v.parts → u.feeds ≡ v.feeds → pushed + v.pushed ≡ r.pushed + u.pushed → marks + v.marks ≡ r.marks + u.marks
    → ended + v.ended ≡ r.ended + u.ended
    → ((x : ℕ) → once_below x drawn + times x v.popped ≡ once_below x r.drawn + times x u.popped)
    → drawn + length v.popped ≡ r.drawn + length u.popped
    → FitsQueue r.packets r.members u
    → Line items' r.packets r.members drawn pushed marks ended → Streamed items' (set views id u)
stepped items views id v r at items' u drawn pushed marks ended parts feeds pushed_is marks_is ended_is each_once counted mine l =
    changed items views (v ∷ []) (set views id u) (u ∷ []) r (one_changed views id v u at) items' r.packets r.members drawn pushed
    marks ended l (omega arith) (omega arith) (omega arith) (omega arith) (omega arith) (λ x. let a = each_once x in omega arith)
    (omega arith) (each_set (FitsQueue r.packets r.members) views id u mine (λ j y _ e. r.fits j y e))

module _ where
  feeds_number : (n id : ℕ) (v : PassView) (next : ℕ) → v.feeds ≡ 1 → v.pushed ≡ next → v.marks ≡ 0 → next < v.packets → 0 < v.parts
      → Pushes Streamed n id v (Number next) (λ w. w ≡ put v (Number next))
  feeds_number n id v next one same none below some_part items views _ r at =
      let mine = r.fits id v at in
      let size = (mine.sizes some_part).0 in
      let alone = fed_alone items views id v one r at in
      let pushed : r.pushed ≡ next = alone.0 ∙ same in
      let marks : r.marks ≡ 0 = alone.1 ∙ none in
      let behind = r.behind in let taken = r.taken in
      let no_end : r.marks - r.ended ≡ 0 = omega arith in
      let long : r.pushed + 1 - r.drawn ≡ suc (r.pushed - r.drawn) = omega arith in
      let last : r.drawn + (r.pushed - r.drawn) ≡ next = omega arith in (
        put v (Number next),
        stepped items views id v r at (items ++ Number next ∷ []) (put v (Number next)) r.drawn (r.pushed + 1) r.marks r.ended
            refl refl (omega arith) refl refl (λ x. refl) refl
            (record {
              sizes = mine.sizes;
              fed = (λ e. absurd (omega arith));
              idle = (λ e. absurd (let z = (mine.idle e).0 in omega arith));
            })
            (record {
              in_line =
                  ap (λ l. l ++ Number next ∷ []) (r.in_line ∙ ap
                  (λ k. map (λ n. Number n) (numbers_from r.drawn (r.pushed - r.drawn)) ++ replicate k End) no_end
                  ∙ append-nil (map (λ n. Number n) (numbers_from r.drawn (r.pushed - r.drawn))))
                  ∙ sym (ap (λ k. map (λ n. Number n) (numbers_from r.drawn (r.pushed + 1 - r.drawn)) ++ replicate k End) no_end
                  ∙ append-nil (map (λ n. Number n) (numbers_from r.drawn (r.pushed + 1 - r.drawn)))
                  ∙ ap (λ k. map (λ n. Number n) (numbers_from r.drawn k)) long
                  ∙ ap (map (λ n. Number n)) (count_snoc r.drawn (r.pushed - r.drawn))
                  ∙ numbers_snoc (numbers_from r.drawn (r.pushed - r.drawn)) (r.drawn + (r.pushed - r.drawn))
                  ∙ ap (λ x. map (λ n. Number n) (numbers_from r.drawn (r.pushed - r.drawn)) ++ Number x ∷ []) last);
              behind = (omega arith);
              within = (omega arith);
              marked = r.marked;
              taken = r.taken;
              marks_last = (λ some_mark. absurd (omega arith));
              ends_last = (λ some_end. absurd (omega arith));
            }),
        refl,
      )

  feeds_end : (n id : ℕ) (v : PassView) → v.feeds ≡ 1 → v.pushed ≡ v.packets → v.marks < v.members → 0 < v.parts
      → Pushes Streamed n id v End (λ w. w ≡ put v End)
  feeds_end n id v one all few some_part items views _ r at =
      let mine = r.fits id v at in
      let size = mine.sizes some_part in let size1 = size.1 in
      let alone = fed_alone items views id v one r at in
      let marks = alone.1 in
      let taken = r.taken in
      let long : r.marks + 1 - r.ended ≡ suc (r.marks - r.ended) = omega arith in
      let numbers = map (λ n. Number n) (numbers_from r.drawn (r.pushed - r.drawn)) in (
        put v End,
        stepped items views id v r at (items ++ End ∷ []) (put v End) r.drawn r.pushed (r.marks + 1) r.ended
            refl refl refl (omega arith) refl (λ x. refl) refl
            (record {
              sizes = mine.sizes;
              fed = (λ e. absurd (omega arith));
              idle = (λ e. absurd (let z = (mine.idle e).0 in omega arith));
            })
            (record {
              in_line =
                  ap (λ l. l ++ End ∷ []) r.in_line ∙ append_assoc numbers (replicate (r.marks - r.ended) End) (End ∷ [])
                  ∙ ap (λ l. numbers ++ l) (ends_snoc (r.marks - r.ended) ∙ ap (λ k. replicate k End) (sym long));
              behind = r.behind;
              within = r.within;
              marked = (omega arith);
              taken = (omega arith);
              marks_last = (λ _. alone.0 ∙ all ∙ size.0);
              ends_last = r.ends_last;
            }),
        refl,
      )

  abbrev Taken : (items : List Item) (views : List PassView) (id : ℕ) (v : PassView) → Item → Type 0
  Taken items views id v x = (w : PassView) × Streamed items (set views id w) × Took v x w

  takes_number : (items : List Item) (x : Item) (views : List PassView) (id : ℕ) (v : PassView) → 0 < v.parts
      → (r : Streamed (x ∷ items) views) → get_elem? views id ≡ some v → r.drawn < r.pushed → Taken items views id v x
  takes_number items x views id v some_part r at below =
      let mine = r.fits id v at in
      let size = (mine.sizes some_part).0 in
      let within = r.within in
      let popped = length-append v.popped (r.drawn ∷ []) in
      let long : r.pushed - r.drawn ≡ suc (r.pushed - (r.drawn + 1)) = omega arith in
      let is = r.in_line ∙ ap (λ k. queue r.drawn k (r.marks - r.ended)) long in
      let kind : x ≡ Number r.drawn = ap (heads x) is in
      let rest : items ≡ queue (r.drawn + 1) (r.pushed - (r.drawn + 1)) (r.marks - r.ended) = ap tails is in
      subst (Taken items views id v) (sym kind) (
        after_take v (Number r.drawn),
        stepped (x ∷ items) views id v r at items (after_take v (Number r.drawn)) (r.drawn + 1) r.pushed r.marks r.ended
            refl refl refl refl refl
            (λ x. let c = times-append x v.popped (r.drawn ∷ []) in let d = once_more x r.drawn in omega arith) (omega arith)
            (record { sizes = mine.sizes; fed = mine.fed; idle = (λ e. absurd (omega arith)) })
            (record {
              in_line = rest;
              behind = (omega arith);
              within = r.within;
              marked = r.marked;
              taken = r.taken;
              marks_last = r.marks_last;
              ends_last = (λ some_end. absurd (let z = r.ends_last some_end in omega arith));
            }),
        (
          refl,
          (
            omega arith,
            (let a = le_total (λ v. length v.popped) views id v at in let b = r.counted in omega arith),
            λ y some_time. all_below y views id v r.drawn at (r.each_once y) some_time,
          ),
        ),
      )

  takes_end : (items : List Item) (x : Item) (views : List PassView) (id : ℕ) (v : PassView) → 0 < v.parts
      → (r : Streamed (x ∷ items) views) → get_elem? views id ≡ some v → r.pushed ≤ r.drawn → r.ended < r.marks
      → Taken items views id v x
  takes_end items x views id v some_part r at above more =
      let mine = r.fits id v at in
      let behind = r.behind in
      let none : r.pushed - r.drawn ≡ 0 = omega arith in
      let long : r.marks - r.ended ≡ suc (r.marks - (r.ended + 1)) = omega arith in
      let is = r.in_line ∙ ap (λ k. queue r.drawn k (r.marks - r.ended)) none ∙ ap (queue r.drawn 0) long in
      let kind : x ≡ End = ap (heads x) is in
      let rest : items ≡ queue r.drawn (r.pushed - r.drawn) (r.marks - (r.ended + 1)) =
      ap tails is ∙ ap (λ k. queue r.drawn k (r.marks - (r.ended + 1))) (sym none) in
      subst (Taken items views id v) (sym kind) (
        after_take v End,
        stepped (x ∷ items) views id v r at items (after_take v End) r.drawn r.pushed r.marks (r.ended + 1)
            refl refl refl refl (omega arith) (λ x. refl) refl
            (record { sizes = mine.sizes; fed = mine.fed; idle = (λ e. absurd (omega arith)) })
            (record {
              in_line = rest;
              behind = r.behind;
              within = r.within;
              marked = r.marked;
              taken = (omega arith);
              marks_last = r.marks_last;
              ends_last = (λ _. let z : r.drawn ≡ r.pushed = omega arith in z);
            }),
        (refl, tt),
      )

  pub takes : (id : ℕ) (v : PassView) → 0 < v.parts → Pops Streamed id v (Took v)
  takes id v some_part x items views r at = ⊎_elim
      (λ (below : r.drawn < r.pushed). takes_number items x views id v some_part r at below)
      (λ (above : r.pushed ≤ r.drawn). ⊎_elim
      (λ (more : r.ended < r.marks). takes_end items x views id v some_part r at above more)
      (λ (no_more : r.marks ≤ r.ended).
      let none : r.pushed - r.drawn ≡ 0 = omega arith in
      let no_mark : r.marks - r.ended ≡ 0 = omega arith in
      let empty = r.in_line ∙ ap (λ k. queue r.drawn k (r.marks - r.ended)) none ∙ ap (queue r.drawn 0) no_mark in
      absurd (let z : suc (length items) ≡ 0 = ap length empty in omega arith))
      (cases_lt r.ended r.marks))
      (cases_lt r.drawn r.pushed)

  pub left : (id : ℕ) (v : PassView) → v.members + 1 ≤ v.parts → Learns Streamed id v (Left v)
  left id v every items views r at =
      let size = ((r.fits id v at).sizes (omega arith)).1 in
      let all =
      all_done items views id v r at (let a = r.parts in let b = le_total (λ v. v.parts) views id v at in omega arith) in
      let pushed = all.pushed in let ended = all.ended in (
        r.drawn,
        r.in_line ∙ ap (λ n. queue r.drawn (n - r.drawn) (r.marks - r.ended)) pushed
            ∙ ap (λ n. queue r.drawn (v.pushed - r.drawn) (n - r.ended)) all.marks
            ∙ ap (λ n. queue r.drawn (v.pushed - r.drawn) (v.marks - n)) ended,
        (let z = r.behind in omega arith),
        all.each_once,
        all.counted,
        (let z = r.within in let size = ((r.fits id v at).sizes (omega arith)).0 in omega arith),
        (λ some_end. let taken = r.taken in let a = r.marks_last (omega arith) in let b = r.ends_last
            (omega arith) in let size = ((r.fits id v at).sizes (omega arith)).0 in omega arith),
      )

  -- the pass that feeds has pushed all that was pushed
  pub waits : (id : ℕ) (v : PassView) → v.feeds ≡ 1 → Learns Streamed id v (Waits v)
  waits id v one items views r at =
      let alone = fed_alone items views id v one r at in
      let pushed = alone.0 in let marks = alone.1 in (
        r.drawn,
        r.ended,
        r.in_line ∙ ap (λ n. queue r.drawn (n - r.drawn) (r.marks - r.ended)) pushed
            ∙ ap (λ n. queue r.drawn (v.pushed - r.drawn) (n - r.ended)) marks,
        (let z = r.behind in omega arith),
        (let z = r.taken in omega arith),
      )

  -- the item that is next may be pushed
  pub feeds : (n id : ℕ) (v : PassView) (x : Item) → MayPut v → x ≡ item_of v → Pushes Streamed n id v x (λ w. w ≡ put v x)
  feeds n id v x may is = ⊎_elim
      (λ (below : v.pushed < v.packets).
      let kind : x ≡ Number v.pushed =
      is ∙ ap (λ (b : Bool). if b then Number v.pushed else End) (lt-ltb v.pushed v.packets below) in
      subst (λ x. Pushes Streamed n id v x (λ w. w ≡ put v x)) (sym kind)
      (feeds_number n id v v.pushed may.1 refl (may.3 below) below may.0))
      (λ (above : v.packets ≤ v.pushed).
      let kind : x ≡ End = is ∙ ap (λ (b : Bool). if b then Number v.pushed else End) (le-ltb v.pushed v.packets above) in
      let within = may.2 in
      subst (λ x. Pushes Streamed n id v x (λ w. w ≡ put v x)) (sym kind)
      (feeds_end n id v may.1 (omega arith) (may.4 above) may.0))
      (cases_lt v.pushed v.packets)

  -- a hand is cut from a pass, which goes on with these sizes and n parts
  cut : (id : ℕ) (v : PassView) (p m n : ℕ) (items : List Item) (views : List PassView) (r : Streamed items views)
      → get_elem? views id ≡ some v → 0 < n → v.parts + m ≡ n + 1 + r.members → r.pushed ≤ p → r.marks ≤ m
      → (0 < r.marks → r.pushed ≡ p)
      → ((j : ℕ) (y : PassView) → j ≢ id → get_elem? views j ≡ some y → FitsQueue p m y)
      → Streamed items (set views id (record v { packets = p; members = m; parts = n }) ++ hand p m ∷ [])
  cut id v p m n items views r at some_part parts within marked marks_last others =
      let u = record v { packets = p; members = m; parts = n } in let new = hand p m in
      kept items views (v ∷ []) (set views id u ++ new ∷ []) (u ∷ new ∷ []) r (one_cut views id v u new at) p m within marked
      marks_last (omega arith) refl refl refl refl (λ x. refl) refl
      (each_snoc (FitsQueue p m) (set views id u) new
      (each_set (FitsQueue p m) views id u
      (record { sizes = (λ _. (refl, refl)); fed = (r.fits id v at).fed; idle = (λ e. absurd (omega arith)) }) others)
      (record { sizes = (λ _. (refl, refl)); fed = (λ _. (refl, refl)); idle = (λ e. absurd (omega arith)) }))

  pub forks : (id : ℕ) (v : PassView) → 1 < v.parts → v.feeds ≡ 1 → Forks Streamed id v (without_one v) (hand v.packets v.members)
  forks id v many one items views r at =
      let size = (r.fits id v at).sizes (omega arith) in let size0 = size.0 in let size1 = size.1 in
      let within = r.within in let marked = r.marked in
      cut id v v.packets v.members (v.parts - 1) items views r at (omega arith) (omega arith) (omega arith) (omega arith)
      (λ some_mark. let a = r.marks_last some_mark in omega arith)
      (λ j y _ e. subst (λ m. FitsQueue v.packets m y) (sym size1) (subst (λ p. FitsQueue p r.members y) (sym size0) (r.fits j y e)))

  -- where the first pass has made no step, the sizes are told, and the first hand is made
  pub deals : (id : ℕ) (v : PassView) (p m : ℕ) → 0 < m → v ≡ first → Forks Streamed id v (feeder p m m) (hand p m)
  deals id v p m some_member is items views r at =
      let at_first : get_elem? views id ≡ some first = at ∙ ap some is in
      let size = ((r.fits id first at_first).sizes (omega arith)).1 in
      let all = all_done items views id first r at_first (omega arith) in
      let pushed = all.pushed in let marks = all.marks in
      let none = others_none (λ v. v.parts) views id first at_first (let a = r.parts in omega arith) in
      cut id first p m m items views r at_first some_member (omega arith) (omega arith) (omega arith)
      (λ some_mark. absurd (omega arith))
      (λ j y apart e. let g = r.fits j y e in record {
        sizes = (λ some_part. absurd (let z = none j y apart e in omega arith));
        fed = g.fed;
        idle = g.idle;
      })

  pub merges : (id : ℕ) (v : PassView) (other : ℕ) (u : PassView) → 0 < v.parts → Merges Streamed id v other u (join_of_passes v u) nobody
  merges id v other u some_part items views r at apart there =
      let b = join_of_passes v u in let vs = set views id b in
      let mine = r.fits id v at in
      let theirs = r.fits other u (still_there views id b other u apart there) in
      let popped = length-append v.popped u.popped in
      kept items views (v ∷ u ∷ []) (set vs other nobody) (b ∷ nobody ∷ []) r (two_joined views id v b other u nobody at there)
      r.packets r.members r.within r.marked r.marks_last (omega arith) (omega arith) (omega arith) (omega arith) (omega arith)
      (λ x. let a = times-append x v.popped u.popped in omega arith) (omega arith)
      (each_set (FitsQueue r.packets r.members) vs other nobody
      (record { sizes = (λ e. absurd (omega arith)); fed = (λ _. (refl, refl)); idle = (λ _. (refl, refl, refl)) })
      (λ j y _ e. each_set (FitsQueue r.packets r.members) views id b
      (record {
        sizes = (λ _. mine.sizes some_part);
        fed = (λ (none : v.feeds + u.feeds ≡ 0).
            let a = mine.fed (omega arith) in let c = theirs.fed (omega arith) in
            let a0 = a.0 in let a1 = a.1 in let c0 = c.0 in let c1 = c.1 in (omega arith, omega arith));
        idle = (λ e. absurd (omega arith));
      }) (λ j y _ e. r.fits j y e) j y e))

-- a queue that holds nothing has no number left
pub none_left : (from n marks : ℕ) → [] ≡ queue from n marks → n ≡ 0
none_left from zero marks e = refl
none_left from (suc n) marks e = absurd (let z : 0 ≡ suc (length (queue (from + 1) n marks)) = ap length e in omega arith)

-- where the pass with every part has drained the queue, it has popped what it pushed
pub all_popped : (v : PassView) → Left v [] → length v.popped ≡ v.pushed
all_popped v h = let a = none_left h.0 (v.pushed - h.0) (v.marks - v.ended) h.1 in let b = h.2 in let c = h.4 in omega arith

-- and took out the rest of it
pub took_rest : (v u w : PassView) (left : List ℕ) → w ≡ u → u.popped ≡ v.popped ++ left → u.pushed ≡ v.pushed → Left u []
    → TookRest v w
took_rest v u w left same is pushed h =
    let all : h.0 ≡ v.pushed = (let a = all_popped u h in let b = h.4 in omega arith) in (
      left,
      ap (λ (t : PassView). t.popped) same ∙ is,
      λ x. ap (λ (t : PassView). times x t.popped) same ∙ h.3 x ∙ ap (once_below x) all,
    )

-- what it knew before, where that many were popped
pub left_at : (v : PassView) (n : ℕ) → length v.popped ≡ n → (items : List Item) × Left v items → LeftAt v n
left_at v n popped h =
    let l = h.1 in
    let same : l.0 ≡ n = sym l.4 ∙ popped in record {
      behind = (let a = l.2 in omega arith);
      each_once = (λ x. l.3 x ∙ ap (once_below x) same);
      counted = popped;
      within = l.5;
      ended = (λ some_end. sym same ∙ l.6 some_end);
    }
