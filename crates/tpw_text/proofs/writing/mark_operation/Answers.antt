use Rattle.std.proofs.Common.{◌==◌, sym, subst, arith}
use Rattle.tpw_asm.specs.declared.program.Operation.{Operation}
use Rattle.tpw_text.specs.Written.{IsMarked, names_from_operation}
use Rattle.tpw_text.proofs.Written.{marked_nothing, marked_both}
use Rattle.tpw_text.proofs.writing.mark_operation.Goals as goal

pub returns-in-Plain : goal.returns-in-Plain
returns-in-Plain c =
    subst (λ (o : Operation). IsMarked (λ k. names_from_operation k o) c.args.marks.now c.args.marks.now) (sym c.in-Plain.is) (marked_nothing c.args.marks.now)

pub returns-in-Distance : goal.returns-in-Distance
returns-in-Distance c =
    subst (λ (o : Operation). IsMarked (λ k. names_from_operation k o) c.args.marks.now c.mark-in-Distance-2.new.marks) (sym c.in-Distance.is)
    (marked_both (λ k. c.in-Distance.from == k) (λ k. c.in-Distance.to == k) c.args.marks.now
    c.mark-in-Distance.new.marks c.mark-in-Distance-2.new.marks (omega arith) c.mark-in-Distance.ensures
    c.mark-in-Distance-2.ensures)
