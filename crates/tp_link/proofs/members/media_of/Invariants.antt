use Rattle.std.proofs.Common.{◌≡◌, All, vec_len}
use Rattle.tp_link.specs.Wired.{empty_media}
use Rattle.tp_link.proofs.members.media_of.Given as goal

abbrev pub invariant-loop : goal.invariant-loop
invariant-loop l = (vec_len l.media ≡ l.counter) × All (λ one. one ≡ empty_media l.room l.room l.room) l.media.items
