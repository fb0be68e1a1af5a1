use Rattle.std.proofs.Common.{◌≡◌, ◌<◌, ◌^◌, ◌∷◌, [], subst}
use Rattle.std.proofs.lemmas.Result.{on_ok_weaker}
use Rattle.tpw_occam_expressions.specs.Agreement.{Knowledge, elements_of}
use Rattle.tpw_occam_symbolic.specs.Code.{followed_by, line_of}
use Rattle.tpw_occam_symbolic.specs.declared.code.Step.TheVariants.{Store as StoreTo}
use Rattle.tpw_occam_expressions.specs.Computing.{Computes}
use Rattle.std.specs.Prelude.{slice_index}
use Rattle.tpw_occam_code.proofs.KeptParts.{subscript_keeps}
use Rattle.tpw_occam_code.proofs.assignments.keep_subscript.Goals as goal

pub returns-clause-keeps : goal.returns-clause-keeps
returns-clause-keeps c = on_ok_weaker c.emit.result (λ is three.
    let k = c.args.emitter.now in
    let e = c.args.subscript.now in
    subscript_keeps k c.args.code.now c.expression.new.code c.checked.new.code c.emit.new.self c.args.room.line c.args.array c.args.kind e
    c.in_ok-i.i c.elements.result c.args.room.next_temporary
    (subst (λ (k : Knowledge). slice_index k.arrays c.args.array < 2 ^ 32 → c.elements.result ≡ elements_of c.args.kind (slice_index k.arrays c.args.array))
    c.in_ok-i.ensures.knowledge c.elements.ensures)
    (subst (λ n. Computes k c.args.code.now c.expression.new.code e n c.args.room.next_temporary) three c.in_ok-i.ensures.computes)
    c.in_ok-i.ensures.known c.in_ok-checked.ensures.makes
    (subst (λ i. c.emit.new.self ≡ followed_by c.checked.new.code (line_of c.args.room.line (StoreTo i 0) ∷ [])) c.word.ensures is)) c.emit.ensures
