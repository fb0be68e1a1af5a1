use Rattle.std.proofs.Common.{All, sym, subst}
use Rattle.std.proofs.lemmas.List.Elements.{All-push}
use Rattle.tpw_debug.specs.declared.diagnostic.Diagnostic.{Diagnostic}
use Rattle.tpw_occam.specs.Compilation.{IsPlaced}
use Rattle.tpw_occam.proofs.diagnosing.warnings_of.Goals as goal

pub loop-note-preserved : goal.loop-note-preserved
loop-note-preserved c =
    subst (All (λ (d : Diagnostic). IsPlaced c.args.text.now d.span)) (sym c.in_ok-push.ensures.items)
    (All-push (λ (d : Diagnostic). IsPlaced c.args.text.now d.span) c.loop-note.diagnostics.items _ c.loop-note.invariant c.span_of.ensures)
