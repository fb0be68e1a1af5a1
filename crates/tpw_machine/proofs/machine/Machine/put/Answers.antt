use Rattle.std.proofs.Common.{arith, ap, ◌+◌, ◌-◌, ◌≡◌, ◌∙◌, length, length-take, length-drop, true, replicate, rules}
use Rattle.tpw_machine.proofs.BytesLemmas.{memory_put}
use Rattle.tpw_machine.proofs.machine.Machine.put.Goals as goal

pub returns-clause-memory : goal.returns-clause-memory
returns-clause-memory c =
    let k = c.args.a - 2147483720 + length c.args.bytes.now - (c.args.a - 2147483720) in
    let room : length c.args.self.now.defined ≡ 2048 = search rules in
    let room' : length c.args.self.now.bytes ≡ 2048 = search rules in
    let all_true : c.fill.new.self ≡ replicate k true =
    c.fill.ensures.after (λ y e. e)
    ∙ ap (λ n. replicate n true) (simp (length-take, length-drop) (omega arith)) in
    rw (
      all_true,
      c.copy_from_slice.ensures.after,
      memory_put c.args.self.now.defined c.args.self.now.bytes c.args.a
          (c.args.a - 2147483720) k c.args.bytes.now (omega arith) (omega arith) (omega arith) (omega arith),
    )
