use Rattle.std.proofs.Common.{◌≡◌, ℕ, List, [], false, Option, None, replicate, sym, subst, rules}
use Rattle.tp_board.specs.CoreState.{core_state}
use Rattle.tp_board.specs.Runs.{Accounts}
use Rattle.tp_board.proofs.Runs.{accounts_opening}
use Rattle.tp_board.proofs.farm_core.Core.new.Goals as goal

pub invariant_of-result : goal.invariant_of-result
invariant_of-result c =
    let P = λ (hs : List (Option ℕ)) (done lost : List ℕ). Accounts (core_state c.args.packets 0 hs done lost false) in
    let h = accounts_opening c.args.packets c.args.members in
    let hands : c.in_ok-hands.hands.items ≡ replicate c.args.members None = search rules in
    subst (λ hs. P hs c.new.result.items c.new-2.result.items) (sym hands)
    (subst (λ done. P (replicate c.args.members None) done c.new-2.result.items) (sym c.new.ensures.items)
    (subst (λ lost. P (replicate c.args.members None) [] lost) (sym c.new-2.ensures.items) h))
