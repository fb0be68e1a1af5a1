use Rattle.std.proofs.Common.{◌+◌, ◌-◌, ⊎_elim, arith, refl}
use Rattle.std.proofs.lemmas.Bool.{cases_eq}
use Rattle.tpw_occam_terms.proofs.PlaceLemmas.{no_feed}
use Rattle.tpw_occam_terms.proofs.places.width_at.Goals as goal
use Rattle.tpw_occam_terms.proofs.places.width_at.Goals.{then-width-most-via-then-width-most, then-width-most-via-else-width-most+then-text-at-eq10}

pub returns-then-width-most-clause-kept : goal.returns-then-width-most-clause-kept
returns-then-width-most-clause-kept c r = let le = c.loop-at.invariant.kept r in elim c.then-width-most.branch [
  | then-width-most-via-then-width-most w ↦ omega arith
  | then-width-most-via-else-width-most+then-text-at-eq10 w ↦ ⊎_elim (λ same. omega arith)
      (λ other. absurd (no_feed c.args.text.now c.loop-at.at (c.args.from.bytes + c.args.most) c.args.from.line
      (c.args.from.column + (c.loop-at.at - c.args.from.bytes)) c.args.from.line (c.args.from.column + c.args.most)
      c.loop-at.invariant.reached r (omega arith) refl w.if-text-at-eq10.true))
      (cases_eq c.loop-at.at (c.args.from.bytes + c.args.most))
]
