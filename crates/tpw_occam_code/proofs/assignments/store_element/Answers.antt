use Rattle.std.proofs.Common.{sym, subst}
use Rattle.std.proofs.lemmas.Result.{on_ok_weaker}
use Rattle.tpw_occam_core.specs.declared.process.Target.TheVariants as target
use Rattle.tpw_occam_expressions.specs.Computing.{IsOffset}
use Rattle.tpw_occam_code.specs.Assigning.{StoresIn}
use Rattle.tpw_occam_code.proofs.Assigning.{offset_stores, element_stores}
use Rattle.tpw_occam_code.proofs.assignments.store_element.Goals as goal

pub returns-in-Some-clause-stores : goal.returns-in-Some-clause-stores
returns-in-Some-clause-stores c = on_ok_weaker c.store_offset.result (λ stores three.
    let k = c.args.emitter.now in
    let o = c.in-Some in
    subst (λ v. StoresIn k c.args.code.now c.store_offset.new.code (target.Element c.args.array v c.args.subscript.now) c.args.room.next_temporary) (sym o.ensures.offset.words)
    (offset_stores k c.args.code.now c.store_offset.new.code c.args.array c.args.subscript.now o.offset.variable o.offset.constant c.args.room.next_temporary
    (subst (λ v. IsOffset k c.args.array v c.args.subscript.now o.offset.variable o.offset.constant) o.ensures.offset.words o.ensures) stores))
    c.store_offset.ensures

pub returns-clause-stores : goal.returns-clause-stores
returns-clause-stores c = on_ok_weaker c.store_at.result (λ stores three.
    element_stores c.args.emitter.now c.args.code.now c.subscript_over.new.code c.indexed.new.code c.store_at.new.code c.args.array c.args.kind c.args.subscript.now
    c.elements-size.result c.args.room.next_temporary c.elements-size.ensures
    (λ positive small. c.in_ok-subscript_over.ensures.computes positive small three) c.in_ok-indexed.ensures stores) c.store_at.ensures
