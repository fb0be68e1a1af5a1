use Rattle.std.proofs.Common.{length, arith}
use Rattle.tp_farm.proofs.Views.{hands_add_up}
use Rattle.tp_farm.proofs.Settled.{own_hands, kept_of_batch, vacant_at_first, is_batch}
use Rattle.tp_farm.proofs.batch.settle.Goals as goal

pub close_stream-ledger-requires-clause-own : goal.close_stream-ledger-requires-clause-own
close_stream-ledger-requires-clause-own g c =
    let s = c.in_ok-take_hands.ensures in
    let some = c.requires.worked in
    own_hands g.D.LinkDevice.state c.args.stream some.0 some.1 c.args.returned.items some.2.worked
    c.args.room.hands.items c.take_hands.new.hands.items c.requires.room.no_hands s.hands

pub gather_all-requires-clause-of : goal.gather_all-requires-clause-of
gather_all-requires-clause-of g c =
    let s = c.in_ok-take_hands.ensures in
    let some = c.requires.worked in
    kept_of_batch g.D.LinkDevice.state c.args.stream some.0 some.1 c.args.returned.items some.2.worked
    c.args.collector (length c.args.stream.packets) some.2.empty c.args.room.kept.items
    c.take_hands.new.kept.items c.requires.room.no_kept s.kept

pub gather_all-requires-clause-vacant : goal.gather_all-requires-clause-vacant
gather_all-requires-clause-vacant g c =
    let s = c.in_ok-take_hands.ensures in
    let some = c.requires.worked in
    let closed =
    hands_add_up (length c.args.stream.packets) c.take_hands.new.hands.items c.args.feeder c.close_stream-ledger.result
    c.requires.fed c.close_stream-ledger.ensures in
    vacant_at_first g.D.LinkDevice.state c.args.stream some.0 some.1 c.args.returned.items some.2.worked
    c.args.collector (length c.args.stream.packets) some.2.empty c.args.room.kept.items c.take_hands.new.kept.items
    c.requires.room.no_kept s.kept s.well c.args.room.hands.items c.take_hands.new.hands.items c.requires.room.no_hands s.hands
    c.close_stream-ledger.result closed some.2.sized some.2.whole

pub returns-clause-batch : goal.returns-clause-batch
returns-clause-batch g c work before made =
    let s = c.in_ok-take_hands.ensures in
    let closed =
    hands_add_up (length c.args.stream.packets) c.take_hands.new.hands.items c.args.feeder c.close_stream-ledger.result
    c.requires.fed c.close_stream-ledger.ensures in
    is_batch g.D.LinkDevice.state c.args.stream work before c.args.returned.items made.worked
    c.args.collector (length c.args.stream.packets) made.empty c.args.room.kept.items c.take_hands.new.kept.items
    c.requires.room.no_kept s.kept s.well c.args.room.hands.items c.take_hands.new.hands.items c.requires.room.no_hands s.hands
    c.close_stream-ledger.result closed made.sized made.whole c.gather_all.new.collector c.gather_all.ensures.entries c.finish.result
    c.finish.ensures.entries c.finish.ensures.collected (omega (arith, c.requires.some, c.args.returned.ok.0))
    c.args.room.links.items c.gather_all.new.links.items c.requires.room.no_links c.gather_all.ensures.links
