use Rattle.std.proofs.lemmas.Result.{IfOk-weaker}
use Rattle.tpw_occam_code.proofs.Starting.{built_means}
use Rattle.tpw_occam_code.proofs.compiled.compile.Goals as goal

pub returns-clause-means : goal.returns-clause-means
returns-clause-means c =
    IfOk-weaker c.program_of.result _ _
    (λ compiled built sound. built_means c.args.worker.now _ compiled.placed.items compiled.program sound built (c.in_ok-code.ensures.works sound))
    c.program_of.ensures.built

pub returns-clause-rules : goal.returns-clause-rules
returns-clause-rules c =
    IfOk-weaker c.program_of.result _ _
    (λ compiled rules sound. rules (c.in_ok-code.ensures.works sound).base c.in_ok-code.ensures.ends)
    c.program_of.ensures.rules
