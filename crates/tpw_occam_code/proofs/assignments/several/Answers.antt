use Rattle.std.proofs.Common.{ap, sym, subst, IfSome}
use Rattle.std.proofs.lemmas.Result.{on_ok_weaker}
use Rattle.tpw_occam_expressions.specs.declared.emitter.Allocation.{Allocation}
use Rattle.tpw_occam_code.specs.Assigning.{AssignsAbove}
use Rattle.tpw_occam_code.specs.Ordering.{SettleAll}
use Rattle.tpw_occam_code.proofs.KeptParts.{words_assign}
use Rattle.tpw_occam_code.proofs.assignments.several.Goals as goal

pub by_moves-requires : goal.by_moves-requires
by_moves-requires c =
    subst (SettleAll c.args.all.now) (sym c.deref.ensures.value)
    (subst (λ o. IfSome o (λ moves. SettleAll c.args.all.now moves.items)) c.in-Some.is c.in_ok-moves.ensures)

pub returns-clause-assigns : goal.returns-clause-assigns
returns-clause-assigns c = on_ok_weaker c.assign_by_words.result (λ assigns.
    words_assign c.args.emitter.now c.args.code.now c.assign_by_words.new.code c.args.all.now
    (subst (λ n. AssignsAbove c.args.emitter.now c.args.code.now c.assign_by_words.new.code c.args.all.now n) (ap (λ (r : Allocation). r.next_temporary) c.from_word.ensures)
    (assigns (ap (λ (r : Allocation). r.registers) c.from_word.ensures)))) c.assign_by_words.ensures.assigns
