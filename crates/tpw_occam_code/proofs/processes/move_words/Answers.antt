use Rattle.std.proofs.Common.{◌≡◌, ◌*◌, subst, ◌∙◌, arith}
use Rattle.std.proofs.Math.Nat.{min-eq_left}
use Rattle.std.proofs.lemmas.Result.{on_ok_weaker}
use Rattle.tpw_occam_code.specs.Moving.{Moves}
use Rattle.tpw_occam_code.proofs.Moving.{moves}
use Rattle.tpw_occam_code.proofs.processes.move_words.Goals as goal

-- src/processes.rt:51:1
pub returns : goal.returns
returns c =
    on_ok_weaker c.instr.result (λ last small.
    let whole : c.saturating_mul.result ≡ 4 * c.args.words = c.saturating_mul.ensures ∙ min-eq_left (omega (arith, small)) ∙ omega arith in
    subst (Moves c.args.code.now c.instr.new.self c.args.from c.args.to.0 c.args.to.1) whole
    (moves c.args.code.now c.emit.new.self c.emit-2.new.self c.constant.new.self c.instr.new.self c.args.line c.args.from c.args.to.0 c.args.to.1
    c.saturating_mul.result c.in_ok-emit.ensures c.in_ok-emit-2.ensures c.in_ok-constant.ensures last))
    c.instr.ensures
