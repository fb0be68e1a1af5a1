use Rattle.std.proofs.Common.{◌++◌, [], ◌∷◌, map, take, ap, sym, ◌∙◌}
use Rattle.std.proofs.lemmas.List.{take_more, map-append}
use Rattle.std.proofs.lemmas.List.Elements.{All-more}
use Rattle.tpw_occam_symbolic.specs.declared.code.Turns.{Turns}
use Rattle.tpw_occam_symbolic.specs.Placing.{places, loop_at, IsRow}
use Rattle.tpw_occam_symbolic.proofs.lines.rows_of.Goals as goal

no_turns : Turns
no_turns = record { head = 0; lend = 0; index = 0; start = 0; count = 0; source = 0 }

pub loop-turns-preserved : goal.loop-turns-preserved
unfolding no_turns
loop-turns-preserved c =
    let f = loop_at (places c.args.placed.now) 5 in
    let i = c.loop-turns.turns-index in
    record {
      rows = c.in_ok-push.ensures.items
          ∙ ap (λ rows. rows ++ c.in_ok-row.row ∷ []) c.loop-turns.invariant.rows
          ∙ ap (λ row. map f (take i c.args.loops.now) ++ row ∷ []) c.in_ok-row.ensures.row
          ∙ sym (ap (map f) (take_more c.args.loops.now i no_turns c.loop-turns-test.true) ∙ map-append f (take i c.args.loops.now) _);
      good = All-more (IsRow c.args.placed.now) c.args.loops.now i no_turns c.loop-turns-test.true c.loop-turns.invariant.good c.in_ok-row.ensures.good;
    }
