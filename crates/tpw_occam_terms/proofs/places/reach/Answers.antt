use Rattle.std.proofs.Common.{⊎_elim, arith}
use Rattle.std.proofs.lemmas.Bool.{cases_eq}
use Rattle.tpw_occam_terms.proofs.PlaceLemmas.{is_before, no_feed}
use Rattle.tpw_occam_terms.proofs.places.reach.Goals as goal
use Rattle.tpw_occam_terms.proofs.places.reach.Goals.{then-column-span, else-column-span, then-line-span-via-then-line-span, then-line-span-via-else-line-span+then-not-is_in_line, then-line-span-2, else-line-span-2}

pub returns-then-line-span-clause-kept : goal.returns-then-line-span-clause-kept
returns-then-line-span-clause-kept c bytes low r = ⊎_elim
    (λ same. same)
    (λ other. absurd
    (let le = c.loop-at.invariant.kept bytes low r in
    let before = is_before c.args.text.now c.loop-at.at bytes c.loop-at.line c.loop-at.column c.args.span.line c.args.span.column
    c.loop-at.invariant.reached r (omega arith) in
    let feed = no_feed c.args.text.now c.loop-at.at bytes c.loop-at.line c.loop-at.column c.args.span.line c.args.span.column
    c.loop-at.invariant.reached r (omega arith) in
    let lines = before.lines in let columns = before.columns in
    elim c.then-line-span.branch [
      | then-line-span-via-then-line-span w ↦ let p = w.if-line-span.true in omega arith
      | then-line-span-via-else-line-span+then-not-is_in_line w ↦ elim w.if-line-span-2.branch [
        | then-line-span-2 v ↦ grind arith
        | else-line-span-2 v ↦ grind arith
      ]
    ]))
    (cases_eq c.loop-at.at bytes)
