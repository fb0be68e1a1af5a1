use Rattle.std.proofs.Common.{◌≡◌, ◌+◌, sym, subst, ap, ◌∙◌, arith}
use Rattle.std.proofs.lemmas.Result.{on_ok_weaker}
use Rattle.tpw_occam_expressions.specs.declared.emitter.Allocation.{Allocation}
use Rattle.tpw_occam_code.specs.Assigning.{AssignsAbove, StoresParts}
use Rattle.tpw_occam_code.proofs.Matching.{none_of, more_of, rest_of}
use Rattle.tpw_occam_code.proofs.KeptParts.{words_none, words_more}
use Rattle.tpw_occam_code.proofs.assignments.+assign_by_words.Goals as goal

pub returns-in_default-clause-assigns : goal.returns-in_default-clause-assigns
returns-in_default-clause-assigns t c three =
    subst (λ all. AssignsAbove c.args.emitter.now c.args.code.now c.args.code.now all c.args.room.next_temporary) (sym (none_of c.args.all.now c.in_default.len_below))
    (words_none c.args.emitter.now c.args.code.now c.args.room.next_temporary)

pub returns-clause-assigns : goal.returns-clause-assigns
returns-clause-assigns t c = on_ok_weaker c.store_parts.result (λ stores three.
    let k = c.args.emitter.now in
    let k1 = c.keep_parts.new.emitter in
    let k2 = c.assign_by_words.new.emitter in
    let one = c.one-item.result in
    let rest = rest_of c.args.all.now in
    let next = c.in_ok-beside-2.field-0 in
    let first : k1 ≡ k = c.in_ok-keep_parts.ensures.knowledge in
    let both : k2 ≡ k = c.in_ok-assign_by_words.ensures.knowledge ∙ first in
    let registers : next.registers ≡ 3 = ap (λ (r : Allocation). r.registers) c.in_ok-beside-2.ensures ∙ ap (λ (r : Allocation). r.registers) c.in_ok-beside.ensures ∙ three in
    let kept : next.next_temporary ≡ c.args.room.next_temporary + 2 = ap (λ (r : Allocation). r.next_temporary) c.in_ok-beside-2.ensures
    ∙ ap (λ (r : Allocation). r.next_temporary + 1) c.in_ok-beside.ensures ∙ omega arith in
    subst (λ all. AssignsAbove k c.args.code.now c.store_parts.new.code all c.args.room.next_temporary) (sym (more_of c.args.all.now one c.in-len1-up.len_at_least c.one-item.is))
    (words_more k c.args.code.now c.keep_parts.new.code c.assign_by_words.new.code c.store_parts.new.code one rest c.args.room.next_temporary
    (c.in_ok-keep_parts.ensures.keeps three) c.in_ok-keep_parts.ensures.small
    (subst (λ n. AssignsAbove k c.keep_parts.new.code c.assign_by_words.new.code rest n) kept
    (subst (λ k. AssignsAbove k c.keep_parts.new.code c.assign_by_words.new.code rest next.next_temporary) first (c.in_ok-assign_by_words.ensures.assigns registers)))
    (subst (λ k. StoresParts k c.assign_by_words.new.code c.store_parts.new.code one.target c.args.room.next_temporary) both stores))) c.store_parts.ensures
