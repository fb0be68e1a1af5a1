use Rattle.std.proofs.Common.{◌≡◌, ◌*◌, ◌-◌, ◌^◌, ap, ◌∙◌, append_assoc}
use Rattle.std.specs.Prelude.{min}
use Rattle.tpw_text.specs.Written.{loop_remark}
use Rattle.tpw_text.proofs.Written.{written_on}
use Rattle.tpw_text.proofs.remarks.put_loop_remark.Goals as goal

pub returns : goal.returns
unfolding loop_remark
returns c =
    let remark = c.args.remark.now in
    let all : c.saturating_mul-all.result ≡ min (remark.turns * remark.turn) (2 ^ 64 - 1) =
    c.saturating_mul-all.ensures ∙ ap (λ turns. min (turns * remark.turn) (2 ^ 64 - 1)) c.from.ensures in
    written_on c.writeln.result _ _ _ c.writeln.ensures.bytes (rw all (simp append_assoc))
