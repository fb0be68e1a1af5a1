use Rattle.std.proofs.Common.{ap, sym, ◌∙◌}
use Rattle.std.proofs.lemmas.Result.{on_ok_weaker, IfOk-weaker}
use Rattle.tpw_occam_expressions.proofs.Computing.{name_known, name_computes, constant_name_known, constant_name_computes}
use Rattle.tpw_occam_expressions.proofs.emitter.Emitter.name.Goals as goal

pub returns-in-Some-clause-computes : goal.returns-in-Some-clause-computes
returns-in-Some-clause-computes c =
    let some = ap (λ f. f.constant) (sym c.fact-fact.ensures) ∙ c.in-Some.is in
    on_ok_weaker c.number.result (λ makes registers kept.
    constant_name_computes c.args.self.now c.args.code.now c.number.new.code c.args.x c.in-Some.c registers kept some makes) c.number.ensures.makes

pub returns-in-Some-clause-known : goal.returns-in-Some-clause-known
returns-in-Some-clause-known c =
    let some = ap (λ f. f.constant) (sym c.fact-fact.ensures) ∙ c.in-Some.is in
    IfOk-weaker c.number.result _ _ (λ value holds.
    constant_name_known c.args.self.now c.args.x c.in-Some.c value some holds) c.number.ensures.holds

pub returns-in_ok-emit-in-None-clause-computes : goal.returns-in_ok-emit-in-None-clause-computes
returns-in_ok-emit-in-None-clause-computes c registers kept =
    name_computes c.args.self.now c.args.code.now c.emit.new.self c.args.line c.args.x registers kept
    (ap (λ f. f.constant) (sym c.fact-fact.ensures) ∙ c.in-None.is) c.in_ok-emit-in-None.ensures

pub returns-in_ok-emit-in-None-clause-known : goal.returns-in_ok-emit-in-None-clause-known
returns-in_ok-emit-in-None-clause-known c =
    name_known c.args.self.now c.args.x _ (ap (λ f. f.source) c.fact-fact.ensures) (ap (λ f. f.known) c.fact-fact.ensures)
