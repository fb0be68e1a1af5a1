use Rattle.std.proofs.Common.{◌<◌, None, length, sym, ap, ◌∙◌, arith}
use Rattle.std.proofs.lemmas.List.{get_or_read}
use Rattle.tp_board.proofs.Runs.{accounts_claim}
use Rattle.tp_board.proofs.farm_core.Core.claim.Goals as goal

pub invariant_of-self : goal.invariant_of-self
invariant_of-self c =
    let long = ap (λ s. length s.hands) c.self.view_is in
    let m : c.args.member < length c.self.inside.hands.items = (let r = c.requires in omega arith) in
    accounts_claim _ _ _ _ _ _ _ m (sym (get_or_read c.self.inside.hands.items _ _ m c.index.ensures None) ∙ c.in_default.is)
    c.if-self.false c.self.invariant
