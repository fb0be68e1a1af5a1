use Rattle.std.proofs.Common.{◌∙◌, ap}
use Rattle.tpw_machine.specs.Meaning.{memory_of}
use Rattle.tpw_machine.proofs.StartLemmas.{all_clear}
use Rattle.tpw_machine.proofs.machine.Machine.clear.Goals as goal

pub returns-clause-memory : goal.returns-clause-memory
returns-clause-memory c =
    let all_false = c.fill.ensures.after (λ y e. e) in
    ap (λ tags. memory_of tags c.args.self.now.bytes) all_false ∙ all_clear _ c.args.self.now.bytes
