use Rattle.std.proofs.Common.{◌≡◌, Bool, true, false, sym, subst, ◌∙◌, arith}
use Rattle.std.proofs.lemmas.Result.{on_ok_weaker}
use Rattle.tpw_occam_expressions.specs.Computing.{ComputesTo}
use Rattle.tpw_occam_code.specs.Assigning.{StoresIn, taken_value}
use Rattle.tpw_occam_code.proofs.Matching.{one_evaluated, one_kept}
use Rattle.tpw_occam_code.proofs.assignments.make.Goals as goal

true_false : ◌≡◌ {A = Bool} true false → ⊥
true_false e = cc

pub returns-then-is_kept-clause-makes : goal.returns-then-is_kept-clause-makes
returns-then-is_kept-clause-makes c = on_ok_weaker c.store.result (λ stores three.
    one_kept c.args.emitter.now c.args.code.now c.emit.new.self c.store.new.code c.args.room.line c.args.assignment.now c.args.number c.args.is_kept c.args.room.next_temporary
    c.if-is_kept.true c.in_ok-emit.ensures (stores three)) c.store.ensures.stores

pub returns-clause-makes : goal.returns-clause-makes
returns-clause-makes c = on_ok_weaker c.store-2.result (λ stores three.
    let k = c.args.emitter.now in
    let a = c.args.assignment.now in
    one_evaluated k c.args.code.now c.value.new.code c.store-2.new.code a c.args.number c.args.is_kept c.args.room.next_temporary
    c.if-is_kept.false
    (subst (λ n. ComputesTo k c.args.code.now c.value.new.code a.value (taken_value k.kinds a) n c.args.room.next_temporary) three
    (c.in_ok-value.ensures.computes (omega (arith, three))))
    c.in_ok-value.ensures.small
    (subst (λ k. StoresIn k c.value.new.code c.store-2.new.code a.target c.args.room.next_temporary) c.in_ok-value.ensures.knowledge (stores three))) c.store-2.ensures.stores

pub returns-then-is_kept-clause-small : goal.returns-then-is_kept-clause-small
returns-then-is_kept-clause-small c = on_ok_weaker c.store.result (λ stores none. absurd (true_false (sym c.if-is_kept.true ∙ none))) c.store.ensures.stores

pub returns-clause-small : goal.returns-clause-small
returns-clause-small c = on_ok_weaker c.store-2.result (λ stores none. c.in_ok-value.ensures.small) c.store-2.ensures.stores
