use Rattle.std.proofs.Common.{◌<◌, [], ◌∷◌, ◌++◌, length, ap, sym, ◌∙◌, arith}
use Rattle.tp_flow.specs.LoopsAround.{is_around}
use Rattle.tp_flow.proofs.RowNumbers.{few_pass, passes_more, fails_more, all_tested}
use Rattle.tp_flow.proofs.nest.Nest.around.Goals as goal
use Rattle.tp_flow.proofs.nest.Nest.around.Goals.{then-contains, else-contains}

pub push-requires : goal.push-requires
push-requires c =
    omega (arith, ap length c.loop-row.invariant, few_pass (is_around c.args.self.now c.args.at) (length c.args.self.now) c.loop-row.row, c.loops-row-end.ensures.few)

pub loop-row-preserved : goal.loop-row-preserved
loop-row-preserved c =
    let lt : c.loop-row.row < length c.args.self.now = omega (arith, ap length c.loops-row-end.ensures.value) in
    elim c.if-contains.branch [
      | then-contains w ↦
          ap (λ rows. rows.items) w.rows-is ∙ w.push.ensures.items ∙ ap (λ xs. xs ++ c.loop-row.row ∷ []) c.loop-row.invariant
          ∙ sym (passes_more (is_around c.args.self.now c.args.at) (length c.args.self.now) c.loop-row.row lt (sym c.contains.ensures ∙ w.if-contains.true))
      | else-contains w ↦
          ap (λ rows. rows.items) w.rows-is ∙ c.loop-row.invariant
          ∙ sym (fails_more (is_around c.args.self.now c.args.at) (length c.args.self.now) c.loop-row.row lt (sym c.contains.ensures ∙ w.if-contains.false))
    ]

pub returns : goal.returns
returns c =
    c.loop-row.invariant ∙ all_tested (is_around c.args.self.now c.args.at) (length c.args.self.now) c.loop-row.row (omega (arith, ap length c.loops-row-end.ensures.value))
