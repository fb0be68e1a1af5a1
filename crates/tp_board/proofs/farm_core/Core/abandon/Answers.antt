use Rattle.std.proofs.Common.{ℕ, ◌<◌, List, [], ◌∷◌, ◌++◌, None, length, set, sym, ap, ◌∙◌, subst, arith}
use Rattle.std.proofs.lemmas.List.{get_or_read}
use Rattle.tp_board.specs.CoreState.{core_state}
use Rattle.tp_board.specs.Runs.{Accounts}
use Rattle.tp_board.proofs.Runs.{accounts_abandon}
use Rattle.tp_board.proofs.farm_core.Core.abandon.Goals as goal

pub invariant_of-self-2 : goal.invariant_of-self-2
invariant_of-self-2 c =
    let long = ap (λ s. length s.hands) c.self.view_is in
    let m : c.args.member < length c.self.inside.hands.items = (let r = c.requires in omega arith) in
    let kept =
    accounts_abandon c.self.inside.packets c.self.inside.drawn c.self.inside.hands.items c.self.inside.done.items
    c.self.inside.lost.items c.self.inside.stop c.args.member c.in-Some.number m
    (sym (get_or_read c.self.inside.hands.items _ _ m c.index.ensures None) ∙ c.in-Some.is) c.self.invariant in
    let pushed = c.push_reserved.ensures.items ∙ ap (λ l. l ++ c.in-Some.number ∷ []) c.reserve.ensures.items in
    subst (λ (d : List ℕ). Accounts (core_state c.self.inside.packets c.self.inside.drawn
    (set c.self.inside.hands.items c.args.member None) c.self.inside.done.items d c.self.inside.stop)) (sym pushed) kept
