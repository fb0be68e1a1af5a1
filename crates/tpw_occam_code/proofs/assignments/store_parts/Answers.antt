use Rattle.std.proofs.Common.{◌≡◌, ◌∷◌, [], subst, ap}
use Rattle.std.proofs.lemmas.Result.{on_ok_weaker}
use Rattle.tpw_occam_expressions.specs.declared.emitter.Allocation.{Allocation}
use Rattle.tpw_occam_symbolic.specs.Code.{followed_by, line_of}
use Rattle.tpw_occam_symbolic.specs.declared.code.Step.TheVariants.{Load}
use Rattle.tpw_occam_code.specs.Assigning.{StoresKept}
use Rattle.tpw_occam_code.proofs.KeptParts.{variable_stored, element_stored}
use Rattle.tpw_occam_code.proofs.assignments.store_parts.Goals as goal

pub returns-in-Variable : goal.returns-in-Variable
returns-in-Variable c = on_ok_weaker c.store_variable.result (λ stores.
    rw c.in-Variable.is (variable_stored c.args.emitter.now c.args.code.now c.emit.new.self c.store_variable.new.code c.args.room.line c.in-Variable.x c.args.room.next_temporary
    (subst (λ i. c.emit.new.self ≡ followed_by c.args.code.now (line_of c.args.room.line (Load i 0) ∷ [])) c.word.ensures c.in_ok-emit.ensures) stores))
    c.store_variable.ensures

pub returns-in_ok-beside-in-Element : goal.returns-in_ok-beside-in-Element
returns-in_ok-beside-in-Element c = on_ok_weaker c.store_kept.result (λ stores.
    rw c.in-Element.is (element_stored c.args.emitter.now c.args.code.now c.emit.new.self c.store_kept.new.code c.args.room.line
    c.in-Element.array c.in-Element.kind c.in-Element.subscript c.args.room.next_temporary
    (subst (λ i. c.emit.new.self ≡ followed_by c.args.code.now (line_of c.args.room.line (Load i 0) ∷ [])) c.word.ensures c.in_ok-emit.ensures)
    (subst (λ n. StoresKept c.args.emitter.now c.emit.new.self c.store_kept.new.code c.in-Element.array c.in-Element.kind n)
    (ap (λ (r : Allocation). r.next_temporary) c.in_ok-beside-in-Element.ensures) stores)))
    c.store_kept.ensures
