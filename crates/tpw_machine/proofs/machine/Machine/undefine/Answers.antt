use Rattle.std.proofs.Common.{arith, ap, ◌+◌, ◌-◌, ◌≡◌, ◌∙◌, length, length-take, length-drop, false, replicate, rules}
use Rattle.tpw_machine.proofs.BytesLemmas.{memory_undefine}
use Rattle.tpw_machine.proofs.machine.Machine.undefine.Goals as goal

pub returns-clause-memory : goal.returns-clause-memory
returns-clause-memory c =
    let k = c.args.a - 2147483720 + c.args.n - (c.args.a - 2147483720) in
    let k_is : k ≡ c.args.n = omega arith in
    let room : length c.args.self.now.defined ≡ 2048 = search rules in
    let all_false : c.fill.new.self ≡ replicate k false =
    c.fill.ensures.after (λ y e. e)
    ∙ ap (λ n. replicate n false) (simp (length-take, length-drop) (omega arith)) in
    rw (all_false, memory_undefine c.args.self.now.defined c.args.self.now.bytes c.args.a (c.args.a - 2147483720) k (omega arith) (omega arith), k_is)
