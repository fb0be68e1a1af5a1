use Rattle.std.proofs.Common.{rules, ◌+◌, length, refl}
use Rattle.tpw_occam_symbolic.specs.declared.code.Step.TheVariants.{CjTo}
use Rattle.tpw_occam_symbolic.proofs.Flowing.{code_at, keeps_passed}
use Rattle.tpw_occam_symbolic.proofs.code.Code.branch.Goals as goal

pub invariant_of-self-2 : goal.invariant_of-self-2
invariant_of-self-2 c =
    keeps_passed (code_at c.self.inside.base c.self.inside.lines.items c.self.inside.loops.items)
    (code_at c.more.inside.base c.more.inside.lines.items c.more.inside.loops.items)
    record { step = CjTo (c.more.inside.base + length c.more.inside.lines.items); source = c.args.source } c.extend.new.lines.items c.extend.new.loops.items
    c.self.invariant c.more.invariant (search rules) refl (search rules) (search rules)
