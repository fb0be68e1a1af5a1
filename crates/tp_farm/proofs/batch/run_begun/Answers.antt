use Rattle.std.proofs.Common.{length, ap, subst, arith}
use Rattle.std.proofs.lemmas.Slice.Zip.{AllZip-long}
use Rattle.tp_farm.specs.Reserved.{HasRoom}
use Rattle.tp_farm.specs.BatchWork.{batch_work}
use Rattle.tp_farm.proofs.Feeding.{fresh_hands, fresh_feeder}
use Rattle.tp_farm.proofs.Settled.{to_settle}
use Rattle.tp_farm.proofs.batch.run_begun.Goals as goal

pub run_members-requires-clause-set : goal.run_members-requires-clause-set
run_members-requires-clause-set g c κs within = record {
  packets = ap (λ s. s.packets) c.in-Ok.ensures.stream;
  whole = c.requires.begins.whole;
}

pub run_members-requires-clause-fresh : goal.run_members-requires-clause-fresh
run_members-requires-clause-fresh g c κs within = fresh_hands _ _ _ c.in-Ok.ensures.hands

pub run_members-requires-clause-fed : goal.run_members-requires-clause-fed
run_members-requires-clause-fed g c κs within = fresh_feeder _ _ c.in-Ok.ensures.feeder

pub settle-requires-clause-members : goal.settle-requires-clause-members
settle-requires-clause-members g c =
    let long = AllZip-long _ _ _ c.in_ok-returned.ensures.worked in
    omega (
      arith,
      ap (λ q. q.members) c.in-Ok.ensures.stream,
      long,
      c.in_ok-returned.returned.ok.0,
      c.args.links.ok.0,
      c.len-members.ensures,
    )

pub settle-requires-clause-some : goal.settle-requires-clause-some
settle-requires-clause-some g c =
    let long = AllZip-long _ _ _ c.in_ok-returned.ensures.worked in
    omega (arith, c.requires.begins.some, long, c.in_ok-returned.returned.ok.0, c.args.links.ok.0)

pub settle-requires-clause-room : goal.settle-requires-clause-room
settle-requires-clause-room g c =
    let long = AllZip-long _ _ _ c.in_ok-returned.ensures.worked in
    subst (λ n. HasRoom n c.in_ok-room.room)
    (omega (arith, long, c.in_ok-returned.returned.ok.0, c.args.links.ok.0, c.len-members.ensures)) c.in_ok-room.ensures

pub settle-requires-clause-worked : goal.settle-requires-clause-worked
settle-requires-clause-worked g c =
    let work = batch_work g.G.Gate.open_for_good c.args.job.now c.args.gate.now in
    let stream = c.in-Ok.stream in (
      work,
      c.args.links.items,
      to_settle g.D.LinkDevice.state stream work c.args.links.items
          c.in_ok-returned.returned.items c.args.collector c.in_ok-returned.ensures.worked
          (ap (λ s. length s.packets) c.in-Ok.ensures.stream) c.requires.begins.whole c.requires.collector,
    )

pub returns-clause-batch : goal.returns-clause-batch
returns-clause-batch g c =
    let work = batch_work g.G.Gate.open_for_good c.args.job.now c.args.gate.now in
    let stream = c.in-Ok.stream in
    c.settle.ensures.batch work c.args.links.items
    (to_settle g.D.LinkDevice.state stream work c.args.links.items
    c.in_ok-returned.returned.items c.args.collector c.in_ok-returned.ensures.worked
    (ap (λ s. length s.packets) c.in-Ok.ensures.stream) c.requires.begins.whole c.requires.collector)
