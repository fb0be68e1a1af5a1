use Rattle.std.proofs.Common.{◌≡◌, Bool, true, false, sym, ◌∙◌, below_more, arith}
use Rattle.tpw_occam_symbolic.proofs.uses.zeros.Goals as goal
use Rattle.tpw_occam_symbolic.proofs.uses.zeros.Goals.{then-not-is_global, else-not-is_global}

true_false : ◌≡◌ {A = Bool} true false → ⊥
true_false e = cc

pub loop-a-preserved : goal.loop-a-preserved
loop-a-preserved c =
    elim c.if-not-is_global.branch [
      | then-not-is_global w ↦
          let same = w.words-is ∙ w.max-words.ensures in
          below_more _ c.loop-a.a
          (λ a below outside small. omega (arith, c.loop-a.invariant a below outside small, same))
          (λ outside small. omega (arith, w.array_words.ensures small, same))
      | else-not-is_global w ↦
          below_more _ c.loop-a.a
          (λ a below outside small. omega (arith, c.loop-a.invariant a below outside small, w.words-is))
          (λ outside small. absurd (true_false (sym w.if-not-is_global.false ∙ c.is_global.ensures ∙ outside)))
    ]
