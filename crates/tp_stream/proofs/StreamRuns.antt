-- Every list of steps at a stream's queue and words is a run of the farm core, from a new stream on.
use Rattle.std.proofs.Common.{◌≡◌, ℕ, zero, suc, ◌+◌, ◌-◌, ◌≤◌, min, List, [], ◌∷◌, ◌++◌, length, map, replicate, sym, refl, ap}
use Rattle.std.proofs.Common.{◌∙◌, subst, arith}
use Rattle.std.specs.Prelude.{slice_index_or}
use mathlib.Core.Option.{some, some-injective}
use lib.ListN.{get_elem?}
use Rattle.tp_board.specs.declared.event.Event.{Event}
use Rattle.tp_board.specs.declared.event.Event.TheVariants.{Claim, Finish, Abandon, Stop, Look}
use Rattle.tp_stream.specs.declared.queue.Item.{Item}
use Rattle.tp_stream.specs.declared.queue.PassView.{PassView}
use Rattle.tp_board.specs.Counting.{times}
use Rattle.tp_stream.specs.Tallies.{FitsTally, TallyRule}
use Rattle.tp_board.specs.CoreState.{CoreState, opening_core, step}
use Rattle.tp_board.specs.CoreOf.{core_of, IsSame}
use Rattle.tp_stream.specs.Queues.{feeder, hand, Streamed, FitsQueue}
use Rattle.tp_board.specs.Runs.{core_after, replies, numbers_from}
use Rattle.tp_stream.specs.Stages.{HandState, hand_seen, IsHandState, pops, IsAtWords, WordLaw}
use Rattle.tp_stream.specs.StreamRuns.{StreamStep, push, pop, at_words, Stage, stage, KeepsStage, core_at, no_hand_state}
use Rattle.tp_stream.specs.StreamRuns.{hand_state_at, MayPop, MayMake, stage_after, event_of, reply_to, IsStreamSchedule}
use Rattle.tp_stream.specs.StreamRuns.{stage_at_end, events_of, stream_replies, StreamScheduleLaw, opening_hand_states}
use Rattle.tp_stream.specs.StreamRuns.{StreamOpeningLaw}
use Rattle.tp_board.specs.Views.{newcomer, nothing_seen}
use Rattle.tp_board.specs.Words.{size}
use Rattle.tp_board.proofs.Counting.{none_below}
use Rattle.tp_stream.proofs.Tallies.{newcomer_fits}
use Rattle.tp_board.proofs.Opening.{opening_stands_for}
use Rattle.tp_board.proofs.Runs.{drawn_run}
use Rattle.tp_board.proofs.Same.{same_then, same_self}
use Rattle.tp_board.proofs.Schedule.{same_after}
use Rattle.tp_stream.proofs.StreamSteps.{push_law, pop_law}
use Rattle.tp_stream.proofs.StreamWords.{finish_word, abandon_word, stop_word, look_word}
use Rattle.tp_board.proofs.Totals.{total_same, total_each, at_replicate}

word_law : (event : Event) → IsAtWords event → WordLaw event
word_law Claim kept = absurd (omega arith)
word_law Finish kept = finish_word
word_law Abandon kept = abandon_word
word_law Stop kept = stop_word
word_law (Look what) kept = look_word what kept

-- one that has a stand is among the stands
stand_there : (stands : List HandState) (id : ℕ) → (slice_index_or stands id no_hand_state).turn.parts ≡ 1
    → get_elem? stands id ≡ some (slice_index_or stands id no_hand_state)
stand_there [] id one = absurd (omega arith)
stand_there (s ∷ ss) zero one = refl
stand_there (s ∷ ss) (suc id) one = stand_there ss id one

-- ---- one step
abbrev One : ℕ → ℕ → Stage → ℕ × StreamStep → Type 0
One packets members g e =
    KeepsStage packets members (stage_after g e)
    × IsSame (core_at packets members (stage_after g e)) (core_after (core_at packets members g) (event_of e))
    × (reply_to g e ≡ replies (core_at packets members g) (event_of e))

pop_made : (packets members id : ℕ) (items : List Item) (words : List ℕ) (stands : List HandState)
    → KeepsStage packets members (stage items words stands)
    → (slice_index_or stands id no_hand_state).turn.parts ≡ 1 → MayPop items (slice_index_or stands id no_hand_state)
    → One packets members (stage items words stands) (id, pop)
pop_made packets members id [] words stands h there may = absurd may
pop_made packets members id (x ∷ items) words stands h there may =
    let law =
    pop_law packets members x items words stands id (slice_index_or stands id no_hand_state) h
    (stand_there stands id there) may in
    (law.1.rule, law.1.made.core_state, ap (λ r. r ∷ []) (sym law.1.made.answered))

step_made : (packets members : ℕ) (g : Stage) (e : ℕ × StreamStep) → KeepsStage packets members g → MayMake g e
    → One packets members g e
step_made packets members g (id, push) h (there, may) =
    let k = size packets (members + 1) in
    let law = push_law packets members g.items g.words g.stands id (hand_state_at g id) h (stand_there g.stands id there) may in
    let same : core_at packets members (stage_after g (id, push)) ≡ core_at packets members g =
    ap (λ n. core_of k (n ∷ g.words) (map hand_seen (stage_after g (id, push)).stands)) law.1
    ∙ ap (core_of k (pops g.stands ∷ g.words)) law.2 in
    (law.0, subst (λ f. IsSame f (core_at packets members g)) (sym same) (same_self (core_at packets members g)), refl)
step_made packets members g (id, pop) h (there, may) = pop_made packets members id g.items g.words g.stands h there may
step_made packets members g (id, at_words event) h (there, kept, may) =
    let law =
    word_law event kept packets members g.items g.words g.stands id (hand_state_at g id) h (stand_there g.stands id there) may in
    (law.1.rule, law.1.made.core_state, ap (λ r. r ∷ []) (sym law.1.made.answered))

-- ---- many steps
after_append : (s : CoreState) (es more : List (ℕ × Event)) → core_after s (es ++ more) ≡ core_after (core_after s es) more
after_append s [] more = refl
after_append s (e ∷ es) more = after_append (step s e.0 e.1).1 es more

replies_append : (s : CoreState) (es more : List (ℕ × Event)) → replies s (es ++ more) ≡ replies s es ++ replies (core_after s es) more
replies_append s [] more = refl
replies_append s (e ∷ es) more = ap (λ rs. (step s e.0 e.1).0 ∷ rs) (replies_append (step s e.0 e.1).1 es more)

abbrev Told : ℕ → ℕ → Stage → List (ℕ × StreamStep) → Type 0
Told packets members g steps =
    KeepsStage packets members (stage_at_end g steps)
    × IsSame (core_at packets members (stage_at_end g steps)) (core_after (core_at packets members g) (events_of steps))
    × (stream_replies g steps ≡ replies (core_at packets members g) (events_of steps))

told : (packets members : ℕ) (g : Stage) (steps : List (ℕ × StreamStep)) → KeepsStage packets members g
    → IsStreamSchedule g steps → Told packets members g steps
told packets members g [] h s = (h, same_self (core_at packets members g), refl)
told packets members g (e ∷ es) h (may, rest) =
    let first = step_made packets members g e h may in
    let next = stage_after g e in
    let ih = told packets members next es first.0 rest in
    let before = core_at packets members g in
    let run = same_after (core_at packets members next) (core_after before (event_of e)) (events_of es) first.1 in (
      ih.0,
      subst (IsSame (core_at packets members (stage_at_end next es))) (sym (after_append before (event_of e) (events_of es)))
          (same_then _ _ _ ih.1 run.0),
      ap (λ rs. rs ++ stream_replies next es) first.2 ∙ ap (λ rs. replies before (event_of e) ++ rs) (ih.2 ∙ run.1)
          ∙ sym (replies_append before (event_of e) (events_of es)),
    )

pub stream_schedule_law : StreamScheduleLaw
stream_schedule_law packets members g steps h s =
    let t = told packets members g steps h s in
    let before = core_at packets members g in record {
      rule = t.0;
      core_state = t.1;
      answered = t.2;
      in_order =
          drawn_run before (core_after before (events_of steps)) (events_of steps) (stream_replies g steps) t.2 refl
          ∙ ap (λ n. numbers_from before.drawn (n - before.drawn)) (sym t.1.drawn);
    }

-- ---- the start
map_replicate : {X Y : Type 0} (f : X → Y) (x : X) (n : ℕ) → map f (replicate n x) ≡ replicate n (f x)
map_replicate f x zero = refl
map_replicate f x (suc n) = ap (λ l. f x ∷ l) (map_replicate f x n)

turns_fit : (p m : ℕ) (id : ℕ) (v : PassView) → get_elem? (feeder p m 1 ∷ replicate m (hand p m)) id ≡ some v → FitsQueue p m v
turns_fit p m zero v at =
    subst (FitsQueue p m) (some-injective (feeder p m 1) v at)
    (record { sizes = (λ _. (refl, refl)); fed = (λ e. absurd (omega arith)); idle = (λ e. absurd (omega arith)) })
turns_fit p m (suc id) v at =
    subst (FitsQueue p m) (at_replicate (hand p m) v m id at)
    (record { sizes = (λ _. (refl, refl)); fed = (λ _. (refl, refl)); idle = (λ e. absurd (omega arith)) })

opening_line : (p m : ℕ) → Streamed [] (feeder p m 1 ∷ replicate m (hand p m))
opening_line p m =
    let v = hand p m in record {
      packets = p;
      members = m;
      drawn = 0;
      pushed = 0;
      marks = 0;
      ended = 0;
      pushed_is = (let a = total_same (λ t. t.pushed) v m refl in omega arith);
      marks_is = (let a = total_same (λ t. t.marks) v m refl in omega arith);
      ended_is = (let a = total_same (λ t. t.ended) v m refl in omega arith);
      parts = (let a = total_each (λ t. t.parts) v m refl in omega arith);
      feeds = (let a = total_same (λ t. t.feeds) v m refl in omega arith);
      in_line = refl;
      behind = omega arith;
      within = omega arith;
      marked = omega arith;
      taken = omega arith;
      marks_last = (λ e. absurd (omega arith));
      ends_last = (λ e. absurd (omega arith));
      each_once = (λ x. let a = total_same (λ t. times x t.popped) v m refl in let b = none_below x in omega arith);
      counted = (let a = total_same (λ t. length t.popped) v m refl in omega arith);
      fits = turns_fit p m;
    }

opening_tally : (p m : ℕ) → m ≤ 64 → TallyRule (size p (m + 1)) nothing_seen (replicate (suc m) (newcomer p 1))
opening_tally p m few =
    let v = newcomer p 1 in record {
      few_seats = omega arith;
      no_claim = refl;
      parts = (let a = total_each (λ u. u.parts) v (suc m) refl in omega arith);
      done = sym (total_same (λ u. length u.finished) v (suc m) refl);
      lost = sym (total_same (λ u. length u.abandoned) v (suc m) refl);
      stop = sym (ap (min 1) (total_same (λ u. u.stop_callers) v (suc m) refl));
      fits =
          (λ id u at. subst (FitsTally (size p (m + 1)) nothing_seen) (at_replicate v u (suc m) id at)
          (newcomer_fits (size p (m + 1)) nothing_seen p 1));
    }

abbrev new_hand_state : ℕ → PassView → HandState
new_hand_state p t = record { turn = t; place = newcomer p 1; numbers = [] }

stands_new : (p m : ℕ) (id : ℕ) (s : HandState) → get_elem? (opening_hand_states p m) id ≡ some s → IsHandState p s
stands_new p m zero s at =
    subst (IsHandState p) (some-injective (new_hand_state p (feeder p m 1)) s at)
    (record {
      packets_is = refl;
      one_pass = refl;
      one_seat = refl;
      agrees = record { ended = omega arith; in_hand = omega arith; each_once = (λ x. refl); counted = refl };
    })
stands_new p m (suc id) s at =
    subst (IsHandState p) (at_replicate (new_hand_state p (hand p m)) s m id at)
    (record {
      packets_is = refl;
      one_pass = refl;
      one_seat = refl;
      agrees = record { ended = omega arith; in_hand = omega arith; each_once = (λ x. refl); counted = refl };
    })

pub stream_opening_law : StreamOpeningLaw
stream_opening_law p m range =
    let k = size p (m + 1) in
    let s = new_hand_state p (hand p m) in
    let stands = opening_hand_states p m in
    let words : List ℕ = 0 ∷ 0 ∷ 0 ∷ [] in
    let none : pops stands ≡ 0 =
    (let a = total_same (λ (s : HandState). length s.turn.popped + s.turn.ended) s m refl in omega arith) in
    let all : suc m ≡ m + 1 = omega arith in (
      record {
        in_range = range;
        queue =
            subst (λ ts. Streamed [] (feeder p m 1 ∷ ts)) (sym (map_replicate (λ (s : HandState). s.turn) s m))
            (opening_line p m);
        tally = (
          nothing_seen,
          refl,
          subst (λ vs. TallyRule k nothing_seen (newcomer p 1 ∷ vs))
              (sym (map_replicate (λ (s : HandState). s.place) s m)) (opening_tally p m range.1),
        );
        each = stands_new p m;
      },
      ap (λ n. core_of k (n ∷ words) (map hand_seen stands)) none
          ∙ ap (λ vs. core_of k (0 ∷ words) (newcomer p 1 ∷ vs)) (map_replicate hand_seen s m)
          ∙ opening_stands_for p (suc m)
          ∙ ap (opening_core p) all,
    )
