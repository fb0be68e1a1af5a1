use Rattle.std.proofs.Common.{◌<◌, ◌∷◌, length, sym, subst, arith}
use Rattle.std.proofs.lemmas.Result.{on_ok_weaker}
use Rattle.std.specs.Prelude.{slice_index_or}
use Rattle.tpw_occam_code.specs.declared.order.Move.TheVariants.{Keep}
use Rattle.tpw_occam_code.specs.Ordering.{MakesMoves}
use Rattle.tpw_occam_code.proofs.Matching.{none_of, more_of, rest_of}
use Rattle.tpw_occam_code.proofs.Ordering.{get_same, numbered_parts}
use Rattle.tpw_occam_code.proofs.Settling.{moves_none}
use Rattle.tpw_occam_code.proofs.assignments.+make_moves.Goals as goal

pub make_move-requires : goal.make_move-requires
make_move-requires t c = (numbered_parts (length c.args.all.now) c.args.moves.now c.in-len1-up.len_at_least c.requires).0

pub returns-in_default-clause-makes : goal.returns-in_default-clause-makes
returns-in_default-clause-makes t c three =
    subst (λ moves. MakesMoves c.args.emitter.now c.args.code.now c.args.code.now c.args.all.now moves c.args.room.next_temporary) (sym (none_of c.args.moves.now c.in_default.len_below))
    (moves_none c.args.emitter.now c.args.code.now c.args.all.now c.args.room.next_temporary)

pub returns-clause-makes : goal.returns-clause-makes
returns-clause-makes t c = on_ok_weaker c.make_moves.result (λ makes three.
    let k = c.args.emitter.now in
    let moves = c.args.moves.now in
    let next = slice_index_or moves 0 (Keep 0) in
    let first : 0 < length moves = let some = c.in-len1-up.len_at_least in omega (arith, some) in
    let made : MakesMoves k c.args.code.now c.make_moves.new.code c.args.all.now (next ∷ rest_of moves) c.args.room.next_temporary =
    c.in_ok-make_move.ensures.makes three c.make_moves.new.code (rest_of moves)
    (subst (λ k. MakesMoves k c.make_move.new.code c.make_moves.new.code c.args.all.now (rest_of moves) c.args.room.next_temporary) c.in_ok-make_move.ensures.knowledge (makes three)) in
    subst (λ moves. MakesMoves k c.args.code.now c.make_moves.new.code c.args.all.now moves c.args.room.next_temporary)
    (sym (more_of moves next c.in-len1-up.len_at_least (get_same moves 0 (Keep 0) next first))) made) c.make_moves.ensures.makes
