use Rattle.std.proofs.Common.{subst, sym}
use Rattle.std.proofs.lemmas.Result.{err_from_is_err_and}
use Rattle.tp_link.specs.Wire.{device_of}
use Rattle.tp_session.specs.Fitness.{AreFit}
use Rattle.tp_program.proofs.Unserved.{nothing_served}
use Rattle.tp_program.proofs.members.serve_members.Goals as goal

pub returns-in_err-media : goal.returns-in_err-media
returns-in_err-media g c =
    let p = err_from_is_err_and c.from_residual.result c.from_residual.ensures.1 in
    rw (p.1, p.2) record { all = tt; read = λ is. cc; want = λ is. nothing_served _ _ _; write = λ is. cc }

pub returns-in_err-links : goal.returns-in_err-links
returns-in_err-links g c =
    let p = err_from_is_err_and c.from_residual-in_err-links.result c.from_residual-in_err-links.ensures.1 in
    rw (p.1, p.2) record { all = tt; read = λ is. cc; want = λ is. nothing_served _ _ _; write = λ is. cc }

pub serve_as_asked-requires-clause-fit : goal.serve_as_asked-requires-clause-fit
serve_as_asked-requires-clause-fit g c κs within = subst (λ v. AreFit (λ b. device_of b.value) v.items) (sym c.new-farm.ensures.links) c.in_ok-links.ensures.fit
