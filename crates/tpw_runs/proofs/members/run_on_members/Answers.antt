use Rattle.std.proofs.Common.{◌≡◌, All, length, ap, sym, subst, arith}
use Rattle.tp_link.specs.Wired.{empty_media}
use Rattle.tpw_runs.proofs.Ready.{all_take}
use Rattle.tpw_runs.proofs.members.run_on_members.Goals as goal

pub run_packets-requires-clause-ready : goal.run_packets-requires-clause-ready
run_packets-requires-clause-ready g c κs within =
    let image = c.args.image.now in
    let media = c.deref_mut.result.now in
    let many : length c.in_ok-links.links.items ≡ c.args.members =
    omega (
      arith,
      c.in_ok-links.ensures.count,
      c.in_ok-links.links.ok.0,
      ap length c.deref_mut.ensures.value,
      c.in_ok-media.media.ok.0,
      c.in_ok-media.ensures.count,
    ) in
    record {
      least = omega (arith, many, c.requires.least);
      most = omega (arith, many, c.requires.most);
      take = all_take image.image image.budget image.acceptable media c.in_ok-links.links.items c.in_ok-links.ensures.wires
          (subst (All (λ one. one ≡ empty_media 256 256 256)) (sym c.deref_mut.ensures.value) c.in_ok-media.ensures.empty);
    }
