use Rattle.std.proofs.Common.{Some, sym, subst}
use Rattle.std.proofs.lemmas.List.Elements.{All-pop}
use Rattle.std.specs.Arc.{arc_value}
use Rattle.tp_board.specs.Boards.{BoardView, IsSeatOf}
use Rattle.bench_farm.proofs.board.post.posts_for.Goals as goal

pub new-requires-in-loop-own : goal.new-requires-in-loop-own
new-requires-in-loop-own c =
    let popped = All-pop (IsSeatOf (arc_value c.in_ok-shared.shared)) _ _ (Some c.in-Some.seat) c.in-Some.ensures.items c.loop-own.invariant in
    subst (λ (b : BoardView). IsSeatOf b c.in-Some.seat) (sym c.in_ok-try_clone.ensures) popped.1

pub loop-own-preserved : goal.loop-own-preserved
loop-own-preserved c = (All-pop (IsSeatOf (arc_value c.in_ok-shared.shared)) _ _ (Some c.in-Some.seat) c.in-Some.ensures.items c.loop-own.invariant).0
