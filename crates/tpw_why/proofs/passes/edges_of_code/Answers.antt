use Rattle.std.proofs.Common.{◌++◌, sym, ap, ◌∙◌, arith}
use Rattle.std.specs.List.{flat_map}
use Rattle.std.proofs.lemmas.List.{take_all}
use Rattle.tp_decode.specs.Cutting.{placed_from}
use Rattle.tp_check.specs.Passes.{edges_of}
use Rattle.tp_check.proofs.Passing.{no_instruction}
use Rattle.tpw_why.proofs.Passing.{flat_on, count_placed}
use Rattle.tpw_why.proofs.passes.edges_of_code.Goals as goal
use Rattle.tpw_why.proofs.passes.edges_of_code.Goals.{in-Some+in_ok-add_edges, in_default}

pub loop-i-preserved : goal.loop-i-preserved
loop-i-preserved c =
    elim c.match-get.branch [
      | in-Some+in_ok-add_edges w ↦ (
          ap (λ v. v.items) w.all-is ∙ w.in_ok-add_edges.ensures ∙ ap (λ xs. xs ++ edges_of w.in-Some.place) c.loop-i.invariant
          ∙ sym (flat_on edges_of (placed_from 0 c.args.listing.now) c.loop-i.i w.in-Some.place (sym w.in-Some.ensures)))
      | in_default w ↦ absurd (no_instruction c.args.listing.now c.loop-i.i (let e = c.len-i-end.ensures in let f = c.loop-i-test.true in omega (arith, e, f)) (sym w.in_default.ensures))
    ]

pub returns : goal.returns
returns c =
    c.loop-i.invariant
    ∙ ap (flat_map edges_of) (take_all c.loop-i.i (placed_from 0 c.args.listing.now)
    (let e = c.len-i-end.ensures in let f = c.loop-i-test.false in let n = count_placed c.args.listing.now in
    omega (arith, e, f, n)))
