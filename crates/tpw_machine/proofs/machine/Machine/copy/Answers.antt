use Rattle.std.proofs.Common.{arith, ap, ◌+◌, ◌-◌, ◌≡◌, ◌∙◌, take, drop, length, length-take, length-drop, true, replicate, rules}
use Rattle.tpw_machine.proofs.BytesLemmas.{memory_put, paste_put}
use Rattle.tpw_machine.proofs.machine.Machine.copy.Goals as goal

pub returns-clause-memory : goal.returns-clause-memory
returns-clause-memory c =
    let k = c.args.target - 2147483720 + c.args.n - (c.args.target - 2147483720) in
    let from = drop (c.args.source - 2147483720) c.args.self.now.bytes in
    let room : length c.args.self.now.defined ≡ 2048 = search rules in
    let room' : length c.args.self.now.bytes ≡ 2048 = search rules in
    let all_true : c.fill.new.self ≡ replicate k true =
    c.fill.ensures.after (λ y e. e)
    ∙ ap (λ n. replicate n true) (simp (length-take, length-drop) (omega arith)) in
    let long : length (take k from) ≡ k = simp (length-take, length-drop) (omega arith) in
    let count : c.args.source - 2147483720 + c.args.n - (c.args.source - 2147483720) ≡ k = omega arith in
    let n_is : k ≡ c.args.n = omega arith in
    let after = c.copy_within.ensures.after in
    rw (
      all_true,
      after,
      count,
      paste_put c.args.self.now.bytes from (c.args.target - 2147483720) k,
      memory_put c.args.self.now.defined c.args.self.now.bytes c.args.target (c.args.target - 2147483720) k
          (take k from) (omega arith) long (omega arith) (omega arith),
      n_is,
    )
