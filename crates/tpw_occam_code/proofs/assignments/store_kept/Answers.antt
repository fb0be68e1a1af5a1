use Rattle.std.proofs.Common.{◌≡◌, ◌∷◌, [], subst}
use Rattle.std.proofs.lemmas.Result.{on_ok_weaker}
use Rattle.tpw_occam_symbolic.specs.Code.{followed_by, line_of}
use Rattle.tpw_occam_symbolic.specs.declared.code.Step.TheVariants.{Load}
use Rattle.tpw_occam_code.proofs.KeptParts.{kept_stores}
use Rattle.tpw_occam_code.proofs.assignments.store_kept.Goals as goal

pub returns : goal.returns
returns c = on_ok_weaker c.store_at.result (λ stores.
    kept_stores c.args.emitter.now c.args.code.now c.emit.new.self c.reduce.new.code c.indexed.new.code c.store_at.new.code c.args.room.line
    c.args.array c.args.kind c.elements.result c.args.room.next_temporary c.elements.ensures
    (subst (λ i. c.emit.new.self ≡ followed_by c.args.code.now (line_of c.args.room.line (Load i 0) ∷ [])) c.word.ensures c.in_ok-emit.ensures)
    c.in_ok-reduce.ensures.makes c.in_ok-indexed.ensures stores) c.store_at.ensures
