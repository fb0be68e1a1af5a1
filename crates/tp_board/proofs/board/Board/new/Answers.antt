use Rattle.std.proofs.Common.{◌<◌, List, sym, ap, ◌∙◌, subst, arith}
use Rattle.tp_board.specs.declared.view.View.{View}
use Rattle.tp_board.specs.Boards.{board_of, views_of}
use Rattle.tp_board.specs.Openings.{Opens}
use Rattle.tp_board.proofs.Allowed.{opens}
use Rattle.tp_board.proofs.Opening.{opening_law, new_views}
use Rattle.tp_board.proofs.board.Board.new.Goals as goal

pub of_words-requires : goal.of_words-requires
of_words-requires c =
    let a =
    c.from.ensures in let b = c.from-2.ensures in opens (Unit {0}) c.from.result c.from-2.result (omega arith) (omega arith)

pub returns-clause-opens : goal.returns-clause-opens
returns-clause-opens c =
    let board = board_of c.in_ok-table.table.shared.table_id c.args.packets c.args.members in
    let some_member : 0 < c.args.members = omega arith in
    subst (λ (views : List View). Opens c.args.packets c.args.members views)
    (sym (ap views_of c.deal_seats.ensures ∙ new_views board c.args.members))
    (opening_law c.args.packets c.args.members (some_member, omega arith, omega arith))
