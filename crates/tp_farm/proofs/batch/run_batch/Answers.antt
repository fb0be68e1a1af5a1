use Rattle.std.proofs.Common.{◌≡◌, length, None, Err, IfSome, sym, ap, ◌∙◌, subst, arith}
use Rattle.tp_accept.proofs.NeverWrong.{never_goes_wrong_of}
use Rattle.tp_farm.specs.Jobs.{value_of_job}
use Rattle.tp_farm.specs.Refused.{job_fault}
use Rattle.tp_farm.proofs.Beginning.{if_ok}
use Rattle.tp_farm.proofs.Promising.{keeps_promise}
use Rattle.tp_farm.proofs.batch.run_batch.Goals as goal

pub returns-clause-keeps_promise : goal.returns-clause-keeps_promise
returns-clause-keeps_promise g c =
    let accepted = c.args.job.now.image.now in
    if_ok _ _ c.run_begun.result c.run_begun.ensures.batch λ b is.
    keeps_promise (value_of_job c.args.job.now) accepted.budget
    (never_goes_wrong_of accepted.image accepted.budget accepted.acceptable) _ _ _ b.collected is

pub returns-clause-refused : goal.returns-clause-refused
returns-clause-refused g c =
    let batch = value_of_job c.args.job.now in
    let long : length c.args.links.items ≡ c.len.result = omega (arith, c.args.links.ok.0, c.len.ensures) in
    let none = ap (λ n. job_fault n batch) long ∙ c.in-Ok.ensures.begins in
    subst (λ o. IfSome o (λ fault. c.run_begun.result ≡ Err fault)) (sym none) tt
