use Rattle.std.proofs.Common.{◌≡◌, map, take}
use Rattle.tp_link.specs.Wired.{seen_in_boxes, wired_media}
use Rattle.tp_link.proofs.members.boxed.Given as goal

abbrev pub invariant-loop-one : goal.invariant-loop-one
invariant-loop-one l = map seen_in_boxes l.links.items ≡ map wired_media (take l.one-index l.fn.media)
