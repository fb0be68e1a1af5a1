use Rattle.std.proofs.Common.{rules}
use Rattle.tpw_occam_symbolic.proofs.Flowing.{code_at, keeps_line}
use Rattle.tpw_occam_symbolic.proofs.code.Code.emit.Goals as goal

pub invariant_of-self-2 : goal.invariant_of-self-2
invariant_of-self-2 c =
    keeps_line (code_at c.self.inside.base c.self.inside.lines.items c.self.inside.loops.items) record { step = c.args.step; source = c.args.source } c.push.new.self.items
    c.self.invariant (search rules) c.requires (search rules)
