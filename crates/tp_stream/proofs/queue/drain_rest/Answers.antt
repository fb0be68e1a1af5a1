use Rattle.std.proofs.Common.{◌-◌, ◌++◌, length, ap, ◌∙◌, arith}
use Rattle.crossbeam_queue.specs.Passes.{view}
use Rattle.tp_stream.specs.declared.queue.PassView.{PassView}
use Rattle.tp_stream.proofs.PassViews.{left, left_at, all_popped, took_rest}
use Rattle.tp_stream.proofs.queue.drain_rest.Goals as goal

pub learn_as-requires-clause-rule : goal.learn_as-requires-clause-rule
learn_as-requires-clause-rule g c = left _ _ c.requires.parts

pub returns-in-None-drain-clause-rest : goal.returns-in-None-drain-clause-rest
returns-in-None-drain-clause-rest g c =
    let i = c.loop.invariant in
    let same = c.learn_as.ensures.queue.1 in
    took_rest (view c.args.pass.now) (view c.loop.pass) (view c.drain.new.pass) i.taken.0 c.in-None-drain.ensures.1.0
    (i.taken.1 ∙ ap (λ (t : PassView). t.popped ++ i.taken.0) same) (i.pushed ∙ ap (λ (t : PassView). t.pushed) same)
    c.in-None-drain.ensures.1.1

pub returns-in-None-drain-clause-before : goal.returns-in-None-drain-clause-before
returns-in-None-drain-clause-before g c =
    let i = c.loop.invariant in
    let same = c.learn_as.ensures.queue.1 in
    let was = ap (λ (t : PassView). length t.popped) same in
    let had = ap (λ (t : PassView). t.pushed) same in
    let all = all_popped (view c.loop.pass) c.in-None-drain.ensures.1.1 in
    let count = i.count in
    let pushed = i.pushed in
    let fed = c.requires.pushed.0 in
    left_at (view c.args.pass.now) (c.args.pushed - c.loop.left) (omega arith) c.learn_as.ensures.rule
