use Rattle.std.proofs.Common.{arith, ◌-◌, ◌≡◌, ◌∙◌, sym, below_more, length, length-take, length-drop, rules}
use Rattle.tpw_machine.proofs.BytesLemmas.{tag_at}
use Rattle.tpw_machine.proofs.MessageLemmas.{all_defined, one_undefined}
use Rattle.tpw_machine.proofs.machine.Machine.is_defined.Goals as goal

pub returns-then-not-tag : goal.returns-then-not-tag
returns-then-not-tag c =
    let i = c.args.a - 2147483720 in
    let room : length c.args.self.now.defined ≡ 2048 = search rules in
    let lt = simp (length-take, length-drop) at c.loop-tag-test.true in
    one_undefined c.args.self.now.defined c.args.self.now.bytes c.args.n i c.args.a c.loop-tag.tag-index (omega arith) (omega arith)
    (sym (tag_at c.args.self.now.defined i _ c.loop-tag.tag-index (omega arith)) ∙ c.if-not-tag.true)

pub returns : goal.returns
returns c =
    let room : length c.args.self.now.defined ≡ 2048 = search rules in
    let room' : length c.args.self.now.bytes ≡ 2048 = search rules in
    let all = simp (length-take, length-drop) at c.loop-tag-test.false in
    all_defined c.args.self.now.defined c.args.self.now.bytes c.args.n (c.args.a - 2147483720) c.args.a (omega arith) (omega arith) (λ k lt. c.loop-tag.invariant k (omega arith))

pub loop-tag-preserved : goal.loop-tag-preserved
loop-tag-preserved c =
    let i = c.args.a - 2147483720 in
    let room : length c.args.self.now.defined ≡ 2048 = search rules in
    let lt = simp (length-take, length-drop) at c.loop-tag-test.true in
    below_more _ _ c.loop-tag.invariant (sym (tag_at c.args.self.now.defined i _ c.loop-tag.tag-index (omega arith)) ∙ c.if-not-tag.false)
