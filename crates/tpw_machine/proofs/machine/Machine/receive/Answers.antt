use Rattle.std.proofs.Common.{arith, ap, ◌+◌, ◌-◌, ◌≡◌, ◌∙◌, take, length, length-take, length-drop, true, replicate, rules}
use Rattle.tpw_machine.proofs.BytesLemmas.{memory_put}
use Rattle.tpw_machine.proofs.machine.Machine.receive.Goals as goal

pub returns-clause-memory : goal.returns-clause-memory
returns-clause-memory g c =
    let k = c.args.a - 2147483720 + c.args.n - (c.args.a - 2147483720) in
    let held = (g.D.LinkDevice.state c.args.device.now).held in
    let room : length c.args.self.now.defined ≡ 2048 = search rules in
    let room' : length c.args.self.now.bytes ≡ 2048 = search rules in
    let all_true : c.fill.new.self ≡ replicate k true =
    c.fill.ensures.after (λ y e. e)
    ∙ ap (λ n. replicate n true) (simp (length-take, length-drop) (omega arith)) in
    let into_is : c.receive.new.into ≡ take c.args.n held = c.in_ok-receive.ensures.into ∙ ap (λ n. take n held) (simp (length-take, length-drop) (omega arith)) in
    let long : length c.receive.new.into ≡ k = c.receive.auto.into ∙ simp (length-take, length-drop) (omega arith) in
    rw (all_true, memory_put c.args.self.now.defined c.args.self.now.bytes c.args.a (c.args.a - 2147483720) k c.receive.new.into (omega arith) long (omega arith) (omega arith), into_is)
