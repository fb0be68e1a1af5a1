-- Every schedule of the seats' steps is a run of the farm core.
use Rattle.std.proofs.Common.{◌≡◌, ℕ, zero, suc, ◌-◌, List, [], ◌∷◌, sym, refl, ap, ◌∙◌, arith}
use mathlib.Core.Option.{some}
use lib.ListN.{get_elem?}
use Rattle.tp_board.specs.declared.event.Event.{Event}
use Rattle.tp_board.specs.declared.event.Event.TheVariants.{Claim, Finish, Abandon, Stop, Look}
use Rattle.tp_board.specs.declared.view.View.{View}
use Rattle.tp_board.specs.declared.rule.Size.{Size}
use Rattle.tp_board.specs.CoreState.{CoreState, step}
use Rattle.tp_board.specs.Runs.{core_after, replies, numbers_from}
use Rattle.tp_board.specs.Rule.{KeepsRule}
use Rattle.tp_board.specs.Steps.{words_after}
use Rattle.tp_board.specs.CoreOf.{core_of, IsSame}
use Rattle.tp_board.specs.Laws.{StepLaw}
use Rattle.tp_board.specs.Schedules.{view_at, views_after, IsSchedule, board_after, board_replies, ScheduleLaw}
use Rattle.tp_board.proofs.Events.{claim_law, finish_law, abandon_law, stop_law, look_law}
use Rattle.tp_board.proofs.Runs.{drawn_run}
use Rattle.tp_board.proofs.Same.{same_step, same_then, same_self}

step_law : (event : Event) → StepLaw event
step_law Claim = claim_law
step_law Finish = finish_law
step_law Abandon = abandon_law
step_law Stop = stop_law
step_law (Look what) = look_law what

-- a view that is a seat's stands among the views
seat_there : (views : List View) (id : ℕ) → (view_at views id).parts ≡ 1 → get_elem? views id ≡ some (view_at views id)
seat_there [] id one = absurd (omega arith)
seat_there (v ∷ vs) zero one = refl
seat_there (v ∷ vs) (suc id) one = seat_there vs id one

-- farms that are one but for an order run alike
pub same_after : (s t : CoreState) (events : List (ℕ × Event)) → IsSame s t
    → IsSame (core_after s events) (core_after t events) × (replies s events ≡ replies t events)
same_after s t [] h = (h, refl)
same_after s t (e ∷ es) h =
    let first = same_step s t e.0 e.1 h in
    let rest = same_after (step s e.0 e.1).1 (step t e.0 e.1).1 es first.0 in
    (rest.0, ap (λ r. r ∷ replies (step s e.0 e.1).1 es) first.1 ∙ ap (λ rs. (step t e.0 e.1).0 ∷ rs) rest.1)

abbrev Told : Size → List ℕ → List View → List (ℕ × Event) → Type 0
Told k words views events =
    let board = board_after words views events in
    KeepsRule k board.0 board.1 × IsSame (core_of k board.0 board.1) (core_after (core_of k words views) events)
    × (board_replies words views events ≡ replies (core_of k words views) events)

told : (k : Size) (words : List ℕ) (views : List View) (events : List (ℕ × Event)) → KeepsRule k words views
    → IsSchedule words views events → Told k words views events
told k words views [] h s = (h, same_self (core_of k words views), refl)
told k words views (e ∷ es) h s =
    let made = step_law e.1 k words views e.0 (view_at views e.0) (h, seat_there views e.0 s.0, s.0) s.1 in
    let ih = told k (words_after e.1 words) (views_after words views e) es made.1.rule s.2 in
    let before = step (core_of k words views) e.0 e.1 in
    let run = same_after (core_of k (words_after e.1 words) (views_after words views e)) before.1 es made.1.core_state in (
      ih.0,
      same_then _ _ _ ih.1 run.0,
      ap (λ r. r ∷ board_replies (words_after e.1 words) (views_after words views e) es) (sym made.1.answered)
          ∙ ap (λ rs. before.0 ∷ rs) (ih.2 ∙ run.1),
    )

pub schedule_law : ScheduleLaw
schedule_law k words views events h s =
    let t = told k words views events h s in
    let board = board_after words views events in
    let first = (core_of k words views).drawn in record {
      rule = t.0;
      core_state = t.1;
      answered = t.2;
      in_order =
          drawn_run (core_of k words views) (core_after (core_of k words views) events) events
          (board_replies words views events) t.2 refl ∙ ap (λ n. numbers_from first (n - first)) (sym t.1.drawn);
    }
