use Rattle.std.proofs.Common.{subst, ◌∙◌, arith}
use Rattle.std.proofs.lemmas.Result.{on_ok_weaker}
use Rattle.tpw_occam_core.specs.declared.process.Assignment.{Assignment}
use Rattle.tpw_occam_expressions.specs.Computing.{ComputesTo}
use Rattle.tpw_occam_code.specs.Assigning.{HasSmallValue, taken_value}
use Rattle.tpw_occam_code.specs.Ordering.{KeepsValue}
use Rattle.tpw_occam_code.proofs.Ordering.{get_same}
use Rattle.tpw_occam_code.proofs.Settling.{value_keeps}
use Rattle.tpw_occam_code.proofs.assignments.keep.Goals as goal

pub returns-clause-small : goal.returns-clause-small
returns-clause-small c = on_ok_weaker c.emit.result (λ is.
    let e = c.index-all-i.is ∙ get_same c.args.all.now c.args.i c.index-all-i.result _ c.requires in
    subst (λ (a : Assignment). HasSmallValue c.args.emitter.now a.value) e c.in_ok-value.ensures.small) c.emit.ensures

pub returns-clause-keeps : goal.returns-clause-keeps
returns-clause-keeps c = on_ok_weaker c.emit.result (λ is three.
    let k = c.args.emitter.now in
    let a = c.index-all-i.result in
    let e = c.index-all-i.is ∙ get_same c.args.all.now c.args.i c.index-all-i.result _ c.requires in
    subst (λ (a : Assignment). KeepsValue k c.args.code.now c.emit.new.self a c.args.i c.args.room.next_temporary) e
    (value_keeps k c.args.code.now c.value.new.code c.emit.new.self c.args.room.line a c.args.i c.args.room.next_temporary
    (subst (λ n. ComputesTo k c.args.code.now c.value.new.code a.value (taken_value k.kinds a) n c.args.room.next_temporary) three
    (c.in_ok-value.ensures.computes (omega (arith, three)))) is)) c.emit.ensures
