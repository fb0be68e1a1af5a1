use Rattle.std.proofs.Common.{◌≡◌, None, [], ◌∷◌, ap, sym, subst, ◌∙◌}
use Rattle.tpw_occam_symbolic.specs.declared.items.Item.TheVariants.{Variable, Temporary}
use Rattle.tpw_occam_symbolic.specs.declared.code.Step.TheVariants.{Store as StoreTo}
use Rattle.tpw_occam_expressions.specs.declared.emitter.Fact.{Fact}
use Rattle.tpw_occam_expressions.specs.declared.emitter.Allocation.{Allocation}
use Rattle.tpw_occam_symbolic.specs.Code.{followed_by, line_of}
use Rattle.tpw_occam_expressions.specs.Agreement.{fact_at}
use Rattle.tpw_occam_expressions.specs.Computing.{Computes}
use Rattle.tpw_occam_code.specs.Sending.{KeepsValue, HasRoom}
use Rattle.tpw_occam_code.proofs.Sending.{variable_kept, value_kept, has_none}
use Rattle.tpw_occam_code.proofs.messages.keep_value.Goals as goal

-- src/messages.rt:82:17
pub returns-then-is_none-clause-keeps : goal.returns-then-is_none-clause-keeps
returns-then-is_none-clause-keeps c =
    let none : (fact_at c.args.emitter.now c.in-Variable.x).constant ≡ None = ap (λ (f : Fact). f.constant) (sym c.fact.ensures) ∙ has_none c.fact.result.constant c.if-is_none.ensures in
    subst (λ e. KeepsValue c.args.emitter.now c.args.code.now c.args.code.now e (Variable c.in-Variable.x)) (sym c.in-Variable.is)
    (variable_kept c.args.emitter.now c.args.code.now c.in-Variable.x none)

pub returns : goal.returns
returns c =
    let room = c.from_word-room.ensures in
    let kept : c.word-2.result ≡ Temporary 0 = c.word-2.ensures ∙ ap (λ (r : Allocation). Temporary r.next_temporary) room in
    let computes = subst (λ (r : Allocation). Computes c.args.emitter.now c.args.code.now c.expression.new.code c.args.e.now r.registers r.next_temporary) room c.in_ok-expression.ensures.computes in
    let is = c.in_ok-emit.ensures
    ∙ ap (λ i. followed_by c.expression.new.code (line_of c.args.line (StoreTo i 0) ∷ [])) (c.word.ensures ∙ ap (λ (r : Allocation). Temporary r.next_temporary) room) in
    record {
      knowledge = c.in_ok-expression.ensures.knowledge;
      room = subst HasRoom (sym kept) (λ arrays sizes h. h);
      keeps = subst (KeepsValue c.args.emitter.now c.args.code.now c.emit.new.self c.args.e.now) (sym kept)
          (value_kept c.args.emitter.now c.args.code.now c.expression.new.code c.emit.new.self c.args.line c.args.e.now computes is);
    }
