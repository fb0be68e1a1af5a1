use Rattle.std.proofs.Common.{sym, ◌∙◌, subst, length, ◌≡◌}
use Rattle.std.specs.PromisedHandle.{KeepsEach}
use Rattle.tp_farm.proofs.Joining.{kept_zip}
use Rattle.tp_farm.proofs.members.join_all.Goals as goal

pub returns-then-started-clause-joined : goal.returns-then-started-clause-joined
returns-then-started-clause-joined g c =
    let hs = c.args.started.handles in let rs = c.in-Ok.returned in
    let same : length rs.items ≡ length hs.items = sym rs.ok.0 ∙ c.in-Ok.ensures.len ∙ hs.ok.0 in
    let each = subst (λ n. KeepsEach _ n hs.items rs.items) hs.ok.0 c.in-Ok.ensures.each in
    (c.if-started.true, kept_zip _ hs.items rs.items same each)
