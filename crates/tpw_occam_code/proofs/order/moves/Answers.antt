use Rattle.std.proofs.Common.{ap, sym, subst, ◌∙◌, [], ◌∷◌, ◌++◌, append_assoc, arith}
use Rattle.std.proofs.lemmas.List.{append-nil}
use Rattle.std.proofs.lemmas.Bool.{eqb-true}
use Rattle.std.specs.Prelude.{vec_len}
use Rattle.tpw_occam_code.specs.Ordering.{Settles}
use Rattle.tpw_occam_code.proofs.Matching.{none_of}
use Rattle.tpw_occam_code.proofs.order.moves.Goals as goal

pub loop-preserved : goal.loop-preserved
loop-preserved c rest settled =
    subst (λ l. Settles c.args.all.now c.in_ok-waiting.waiting.items l)
    (sym (append_assoc c.loop.moves.items (c.in-Some.next ∷ []) rest) ∙ ap (λ l. l ++ rest) (sym c.in_ok-push-in-Some.ensures.items))
    (c.loop.invariant (c.in-Some.next ∷ rest) (c.next_move.new.waiting.items, (c.in-Some.ensures, settled)))

pub returns : goal.returns
returns c = (
  c.in_ok-waiting.waiting.items,
  (
    c.in_ok-waiting.ensures,
    subst (λ l. Settles c.args.all.now c.in_ok-waiting.waiting.items l) (append-nil c.loop.moves.items)
        (c.loop.invariant [] (none_of c.loop.waiting.items
        (let zero = eqb-true (vec_len c.loop.waiting) 0 (sym c.if-not-is_empty.ensures) in omega (arith, zero, c.loop.waiting.ok.0)))),
  ),
)
