use Rattle.std.proofs.Common.{◌≡◌, List, length, arith}
use Rattle.std.specs.List.{refill}
use Rattle.std.proofs.lemmas.Grind.{common_steps}
use Rattle.tp_requests.proofs.SpellingLemmas.{spelled_are_bytes}
use Rattle.tp_answers.proofs.answers.packet_of.Goals as goal

-- as many in the place of all
all_new : {X : Type 0} (xs ws : List X) → length ws ≡ length xs → refill (length xs) xs ws ≡ ws
all_new xs ws e = grind (arith, common_steps)

pub returns-clause-bytes : goal.returns-clause-bytes
returns-clause-bytes c =
    let kept : length c.decode_into.new.bytes ≡ length c.truncate.new.self.items =
    grind (arith, c.decode_into.auto.bytes, c.as_mut_slice.ensures.value) in
    rw (all_new c.truncate.new.self.items c.decode_into.new.bytes kept, c.decode_into.ensures)
    (spelled_are_bytes c.args.bytes.now.digits.now)
