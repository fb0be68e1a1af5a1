use Rattle.std.proofs.Common.{sym, subst, ◌∙◌, arith}
use Rattle.tp_check.specs.Joining.{ArePredecessors}
use Rattle.tp_check.proofs.Counting.{among_of, next_instruction, no_instructions, are_joins, are_kept}
use Rattle.tp_check.proofs.Passing.{may_be_taken, no_instruction}
use Rattle.tp_check.proofs.Places.{stands_at}
use Rattle.tp_decode.specs.Cutting.{placed_from}
use Rattle.tp_check.proofs.predecessors.Predecessors.of.Goals as goal
use Rattle.tp_check.proofs.predecessors.Predecessors.of.Goals.{in-Some, in_default}

pub count-requires-clause-place : goal.count-requires-clause-place
count-requires-clause-place c =
    may_be_taken c.args.image.now c.args.listing.now _ c.in-Some.place c.requires.kept (λ at starts. rw c.loop-i.invariant.sized (c.requires.places at starts))
    (stands_at c.args.listing.now c.loop-i.i c.in-Some.place c.requires.kept.spelled (sym c.in-Some.ensures))

pub loop-i-preserved : goal.loop-i-preserved
loop-i-preserved c =
    elim c.match-get.branch [
      | in-Some w ↦ (rw w.predecessors-is (record {
        sized = w.count.ensures.sized ∙ c.loop-i.invariant.sized;
        reports = w.count.ensures.reports c.args.listing.now _ (among_of (placed_from 0 c.args.listing.now) c.loop-i.i w.in-Some.place (sym w.in-Some.ensures))
            (subst (λ es. ArePredecessors c.args.image.now c.args.listing.now es c.loop-i.predecessors)
            (next_instruction c.args.listing.now c.loop-i.i w.in-Some.place (sym w.in-Some.ensures))
            c.loop-i.invariant.reports);
      }))
      | in_default w ↦ absurd (no_instruction c.args.listing.now c.loop-i.i (let e = c.len-i-end.ensures in let f = c.loop-i-test.true in omega (arith, e, f)) (sym w.in_default.ensures))
    ]

pub returns-clause-is_join : goal.returns-clause-is_join
returns-clause-is_join c =
    are_joins c.args.image.now c.args.listing.now c.loop-i.predecessors
    (subst (λ es. ArePredecessors c.args.image.now c.args.listing.now es c.loop-i.predecessors)
    (no_instructions c.args.listing.now c.loop-i.i (let e = c.len-i-end.ensures in let f = c.loop-i-test.false in
    omega (arith, e, f))) c.loop-i.invariant.reports) c.requires.kept

pub returns-clause-is_kept : goal.returns-clause-is_kept
returns-clause-is_kept c =
    are_kept c.args.image.now c.args.listing.now c.loop-i.predecessors
    (subst (λ es. ArePredecessors c.args.image.now c.args.listing.now es c.loop-i.predecessors)
    (no_instructions c.args.listing.now c.loop-i.i (let e = c.len-i-end.ensures in let f = c.loop-i-test.false in
    omega (arith, e, f))) c.loop-i.invariant.reports)
