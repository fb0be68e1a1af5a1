use Rattle.std.proofs.Common.{sym, subst}
use Rattle.std.proofs.lemmas.Result.{on_ok_weaker}
use Rattle.tpw_occam_core.specs.declared.process.Target.TheVariants as target
use Rattle.tpw_occam_expressions.specs.Computing.{IsFixed}
use Rattle.tpw_occam_code.specs.Assigning.{StoresIn}
use Rattle.tpw_occam_code.specs.Registers.{IsWordTarget, StoresWord}
use Rattle.tpw_occam_code.proofs.Assigning.{variable_stores, fixed_stores}
use Rattle.tpw_occam_code.proofs.Registers.{variable_word, fixed_word_stored}
use Rattle.tpw_occam_code.proofs.assignments.store_in_word.Goals as goal

pub returns-in-Variable-clause-stores : goal.returns-in-Variable-clause-stores
returns-in-Variable-clause-stores c = on_ok_weaker c.store_variable.result (λ stores is.
    rw c.in-Variable.is (variable_word c.args.emitter.now c.args.code.now c.store_variable.new.code c.in-Variable.x
    (subst (IsWordTarget c.args.emitter.now) c.in-Variable.is is) stores)) c.store_variable.ensures

pub returns-in-Some-clause-stores : goal.returns-in-Some-clause-stores
returns-in-Some-clause-stores c = on_ok_weaker c.store_word.result (λ stores is.
    rw c.in-Element.is
    (subst (λ v. StoresWord c.args.emitter.now c.args.code.now c.store_word.new.code (target.Element c.in-Element.array v c.in-Element.subscript)) (sym c.in-Some.ensures.words)
    (fixed_word_stored c.args.emitter.now c.args.code.now c.store_word.new.code c.in-Element.array c.in-Element.subscript c.in-Some.word
    (subst (λ v. IsFixed c.args.emitter.now c.in-Element.array v c.in-Element.subscript c.in-Some.word) c.in-Some.ensures.words c.in-Some.ensures.fixed) stores)))
    c.store_word.ensures

pub returns-in-Variable-clause-alone : goal.returns-in-Variable-clause-alone
returns-in-Variable-clause-alone c = on_ok_weaker c.store_variable.result (λ stores three.
    rw c.in-Variable.is (variable_stores c.args.emitter.now c.args.code.now c.store_variable.new.code c.in-Variable.x c.args.room.next_temporary stores)) c.store_variable.ensures

pub returns-in-Some-clause-alone : goal.returns-in-Some-clause-alone
returns-in-Some-clause-alone c = on_ok_weaker c.store_word.result (λ stores three.
    rw c.in-Element.is
    (subst (λ v. StoresIn c.args.emitter.now c.args.code.now c.store_word.new.code (target.Element c.in-Element.array v c.in-Element.subscript) c.args.room.next_temporary) (sym c.in-Some.ensures.words)
    (fixed_stores c.args.emitter.now c.args.code.now c.store_word.new.code c.in-Element.array c.in-Element.subscript c.in-Some.word c.args.room.next_temporary
    (subst (λ v. IsFixed c.args.emitter.now c.in-Element.array v c.in-Element.subscript c.in-Some.word) c.in-Some.ensures.words c.in-Some.ensures.fixed) stores)))
    c.store_word.ensures
