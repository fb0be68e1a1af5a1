use Rattle.std.proofs.Common.{◌++◌, [], ◌∷◌, pos, map, take, None, ap, sym, ◌∙◌}
use Rattle.std.proofs.lemmas.List.{take_more, map-append}
use Rattle.std.proofs.lemmas.List.Elements.{All-more}
use Rattle.tp_decode.specs.declared.instr.Instr.TheVariants.{Jump}
use Rattle.tpw_asm.specs.declared.program.Line.TheVariants.{Spelled}
use Rattle.tpw_occam_symbolic.specs.declared.code.Step.TheVariants.{Plain}
use Rattle.tpw_occam_symbolic.specs.declared.code.CodeLine.{CodeLine}
use Rattle.tpw_occam_symbolic.specs.Placing.{places, line_at, IsPlaced}
use Rattle.tpw_occam_symbolic.proofs.lines.lines_of.Goals as goal

nothing : CodeLine
nothing = record { step = Plain (Jump (pos 0)); source = 0 }

pub loop-line-preserved : goal.loop-line-preserved
unfolding nothing
loop-line-preserved c =
    let f = line_at (places c.args.placed.now) in
    let i = c.loop-line.line-index in
    record {
      lines = c.in_ok-push.ensures.items
          ∙ ap (λ ls. ls ++ Spelled c.in_ok-operation.operation None ∷ []) c.loop-line.invariant.lines
          ∙ ap (λ o. map f (take i c.args.code.now) ++ Spelled o None ∷ []) c.in_ok-operation.ensures.operation
          ∙ sym (ap (map f) (take_more c.args.code.now i nothing c.loop-line-test.true) ∙ map-append f (take i c.args.code.now) _);
      placed = All-more (IsPlaced c.args.worker.now c.args.placed.now) c.args.code.now i nothing c.loop-line-test.true c.loop-line.invariant.placed
          record { operand = c.in_ok-operation.ensures.operand; served = c.in_ok-operation.ensures.served };
    }
