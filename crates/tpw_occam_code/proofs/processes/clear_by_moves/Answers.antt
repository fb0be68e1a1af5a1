use Rattle.std.proofs.Common.{◌≡◌, ◌≤◌, ◌<◌, ◌*◌, ◌+◌, ◌-◌, min, ap, sym, subst, ◌∙◌, arith}
use Rattle.std.proofs.Math.Nat.{min-eq_left, min-le_left, min-le_right}
use Rattle.tpw_occam_code.specs.Moving.{ClearsWords, Moves}
use Rattle.tpw_occam_symbolic.specs.declared.items.Item.TheVariants.{Array, Zeros}
use Rattle.tpw_occam_code.proofs.Moving.{clears_nothing, clears_part, cleared_part, next_part}
use Rattle.tpw_occam_code.proofs.processes.clear_by_moves.Goals as goal

-- src/processes.rt:70:5
pub loop-part-init : goal.loop-part-init
loop-part-init c small =
    subst (ClearsWords c.args.code.now c.args.code.now c.args.a c.args.words) (sym (min-eq_left (omega arith)))
    (clears_nothing c.args.code.now c.args.a c.args.words)

-- src/processes.rt:70:5
pub loop-part-preserved : goal.loop-part-preserved
loop-part-preserved c small =
    let done = 32 * c.loop-part.part in
    let count = c.min-count.result in
    let before : done < c.args.words = omega (arith, c.div_ceil-part-end.ensures, c.loop-part-test.true) in
    let first : c.saturating_mul-first.result ≡ done =
    c.saturating_mul-first.ensures ∙ min-eq_left (omega (arith, before, small)) ∙ omega arith in
    let left : c.saturating_sub.result ≡ c.args.words - done = c.saturating_sub.ensures ∙ ap (λ n. c.args.words - n) first in
    let made : count ≡ min (c.args.words - done) 32 = c.min-count.ensures ∙ ap (λ n. min n 32) left in
    let few : count ≤ 32 = subst (λ n. n ≤ 32) (sym made) (min-le_right (c.args.words - done) 32) in
    let inside : done + count ≤ c.args.words =
    omega (arith, before, subst (λ n. n ≤ c.args.words - done) (sym made) (min-le_left (c.args.words - done) 32)) in
    let next : done + count ≡ min (32 * (c.loop-part.part + 1)) c.args.words = next_part c.args.words c.loop-part.part count before made in
    subst (ClearsWords c.args.code.now c.move_words.new.code c.args.a c.args.words) next
    (clears_part c.args.code.now c.loop-part.code c.move_words.new.code c.args.a c.args.words done count inside
    (cleared_part c.args.words count (omega (arith, inside)) few)
    (subst (ClearsWords c.args.code.now c.loop-part.code c.args.a c.args.words) (min-eq_left (omega (arith, before))) (c.loop-part.invariant small))
    (subst (λ n. Moves c.loop-part.code c.move_words.new.code Zeros (Array c.args.a) n (4 * count)) first
    (c.in_ok-move_words.ensures (omega (arith, few)))))
