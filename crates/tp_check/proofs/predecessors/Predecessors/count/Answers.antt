use Rattle.std.proofs.Common.{◌≡◌, ◌++◌, [], sym, ap, subst, ◌∙◌, arith, length, ◌≤◌, drop, slice_index_or, length-set}
use Rattle.std.proofs.lemmas.List.{drop_all}
use Rattle.tp_flow.specs.declared.edge.Edge.TheVariants.{Next}
use Rattle.tp_flow.specs.Edges.{target}
use Rattle.tp_check.specs.Tables.{asked}
use Rattle.tp_check.specs.Passes.{edges_from}
use Rattle.tp_check.specs.Joining.{ArePredecessors}
use Rattle.tp_check.proofs.Counting.{next_nowhere, next_there}
use Rattle.tp_check.proofs.predecessors.Predecessors.count.Goals as goal
use Rattle.tp_check.proofs.predecessors.Predecessors.count.Goals.{in-Some, in_default}

pub loop-edge-preserved : goal.loop-edge-preserved
loop-edge-preserved c =
    elim c.match-target.branch [
      | in-Some w ↦ (rw w.self-inside-is (record {
        edges = c.asked-edges.ensures;
        sized = length-set c.loop-edge.self-inside.predecessors.items _ _ ∙ c.loop-edge.invariant.sized;
        reports = λ cuts rest among before. next_there c.args.image.now cuts c.args.place c.asked-edges.result.now
            (asked c.args.place.instr) c.asked-edges.ensures c.loop-edge.edge-index Next c.loop-edge-test.true rest
            c.loop-edge.self-inside.predecessors.items among (c.loop-edge.invariant.reports cuts rest among before)
            w.in-Some.to (sym (w.in-Some.ensures ∙ ap (λ nest. target nest c.args.place.at c.args.place.next
            c.args.place.instr (slice_index_or c.asked-edges.result.now c.loop-edge.edge-index Next))
            c.requires.nest))
            (λ edge to leads. let lt = c.requires.place.targets edge to leads in let sized = c.loop-edge.invariant.sized in let view = ap length c.self.view_is in omega (arith, lt, sized, view))
            w.index.result.now w.with_edge.result _ w.index.ensures w.with_edge.ensures;
      }))
      | in_default w ↦ (rw w.self-inside-is (record {
        edges = c.asked-edges.ensures;
        sized = c.loop-edge.invariant.sized;
        reports = λ cuts rest among before. next_nowhere c.args.image.now cuts c.args.place c.asked-edges.result.now
            (asked c.args.place.instr) c.asked-edges.ensures c.loop-edge.edge-index Next c.loop-edge-test.true rest
            c.loop-edge.self-inside.predecessors.items among (c.loop-edge.invariant.reports cuts rest among before)
            (sym (w.in_default.ensures ∙ ap (λ nest. target nest c.args.place.at c.args.place.next c.args.place.instr
            (slice_index_or c.asked-edges.result.now c.loop-edge.edge-index Next)) c.requires.nest));
      }))
    ]

pub returns-clause-reports : goal.returns-clause-reports
returns-clause-reports c cuts rest among before =
    subst (λ es. ArePredecessors c.args.image.now cuts (edges_from c.args.place es ++ rest) c.loop-edge.self-inside.predecessors.items) none
    (c.loop-edge.invariant.reports cuts rest among (subst (ArePredecessors c.args.image.now cuts (edges_from c.args.place (asked c.args.place.instr) ++ rest)) (sym c.self.view_is) before))
  where
    none : drop c.loop-edge.edge-index (asked c.args.place.instr) ≡ []
    none = drop_all c.loop-edge.edge-index (asked c.args.place.instr) (subst (λ es. length es ≤ c.loop-edge.edge-index) c.asked-edges.ensures (let e = c.loop-edge-test.false in omega (arith, e)))
