use Rattle.std.proofs.Common.{◌<◌, ◌≤◌, ◌++◌, ◌∷◌, [], length, take, add-one, sym, ap, ◌∙◌, arith}
use Rattle.std.proofs.Math.Seq.{take-suc}
use Rattle.std.proofs.lemmas.List.{take_all}
use Rattle.tp_state.specs.declared.cell.Cell.TheVariants.{Undef}
use Rattle.tp_state.proofs.SeenLemmas.{length_seen}
use Rattle.tp_state.proofs.cells.Cells.to_vec.Goals as goal

pub loop-x-preserved : goal.loop-x-preserved
loop-x-preserved c =
    let long = sym (ap length c.self.view_is) ∙ length_seen c.self.inside.values.items c.self.inside.planes.items in
    let inside : c.loop-x.x < length c.args.self.now = (let test = c.loop-x-test.true in let words = c.len-words.ensures in omega (arith, long, test, words)) in
    c.in_ok-push.ensures.items ∙ ap (λ xs. xs ++ (c.get.result ∷ [])) c.loop-x.invariant ∙
    ap (λ x. take c.loop-x.x c.args.self.now ++ (x ∷ [])) c.get.ensures ∙
    sym (rw add-one (take-suc c.args.self.now c.loop-x.x Undef inside))

pub returns : goal.returns
returns c =
    let long = sym (ap length c.self.view_is) ∙ length_seen c.self.inside.values.items c.self.inside.planes.items in
    let past : length c.args.self.now ≤ c.loop-x.x = (let test = c.loop-x-test.false in let words = c.len-words.ensures in omega (arith, long, test, words)) in
    c.loop-x.invariant ∙ take_all c.loop-x.x c.args.self.now past
