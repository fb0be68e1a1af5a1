use Rattle.std.proofs.Common.{All, sym, subst, arith}
use Rattle.std.proofs.lemmas.Bool.Decides.{nat_tests}
use Rattle.std.proofs.lemmas.List.Elements.{All-push}
use Rattle.tpw_debug.specs.declared.diagnostic.Diagnostic.{Diagnostic}
use Rattle.tpw_occam.specs.Compilation.{IsPlaced}
use Rattle.tpw_occam.proofs.diagnosing.faults_of.Goals as goal

pub loop-fault-preserved : goal.loop-fault-preserved
loop-fault-preserved c = (
  subst (All (λ (d : Diagnostic). IsPlaced c.args.text.now d.span)) (sym c.in_ok-push.ensures.items)
      (All-push (λ (d : Diagnostic). IsPlaced c.args.text.now d.span) c.loop-fault.diagnostics.items _ c.loop-fault.invariant.0 c.span_of.ensures),
  grind (arith, nat_tests, c.in_ok-push.ensures.len, c.len.ensures, c.if-len-ge-MAX_DIAGNOSTICS.false),
)
