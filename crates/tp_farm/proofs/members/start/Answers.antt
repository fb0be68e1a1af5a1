use denote.RattleType.{RattleType}
use denote.Exit.{no}
use denote.Param.Send.{IsSend, param_send, arg_send, sendable}
use denote.Param.SendFields.{declared_send}
use Rattle.std.proofs.Crossing.{crosses}
use Rattle.tp_stream.proofs.hand.StreamHand.TheSendSync as hand
use Rattle.tp_farm.proofs.member.End.TheSendSync as end
use Rattle.tp_link.proofs.links.Links.TheSendSync as links
use Rattle.tp_farm.specs.contracts.thread.Returned as returned
use Rattle.tp_farm.proofs.members.start.Goals as goal

-- what a member gives back may go to another thread
returned_send : (D : RattleType) → IsSend D → IsSend (returned.the_row D)
returned_send D d =
    declared_send (returned.the_type D)
    (hand.the_send, (links.the_send D d, (search (sendable, crosses) depth 40, (end.the_send, tt))))

pub spawn_with-started-requires-send-T : goal.spawn_with-started-requires-send-T
spawn_with-started-requires-send-T g c κs within = param_send 3 _ (arg_send _ no _ (returned_send _ c.type_bounds.send-D))
