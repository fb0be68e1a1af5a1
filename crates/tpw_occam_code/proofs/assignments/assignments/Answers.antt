use Rattle.std.proofs.Common.{false, ap, sym, subst}
use Rattle.std.proofs.lemmas.Result.{on_ok_weaker}
use Rattle.tpw_occam_expressions.specs.declared.emitter.Allocation.{Allocation}
use Rattle.tpw_occam_code.specs.Executing.{Assigns}
use Rattle.tpw_occam_code.specs.Assigning.{MakesOne}
use Rattle.tpw_occam_code.proofs.Matching.{alone_assigns, one_of}
use Rattle.tpw_occam_code.proofs.assignments.assignments.Goals as goal

pub returns-in-len1-clause-assigns : goal.returns-in-len1-clause-assigns
returns-in-len1-clause-assigns c = on_ok_weaker c.make.result (λ makes.
    let k = c.args.emitter.now in
    let one = c.one-item.result in
    subst (λ all. Assigns k c.args.code.now c.make.new.code all) (sym (one_of c.args.all.now one c.in-len1.len_at_least c.in-len1.len_below c.one-item.is))
    (alone_assigns k c.args.code.now c.make.new.code one
    (subst (λ n. MakesOne k c.args.code.now c.make.new.code one 0 false n) (ap (λ (r : Allocation). r.next_temporary) c.from_word.ensures)
    (makes (ap (λ (r : Allocation). r.registers) c.from_word.ensures))))) c.make.ensures.makes
