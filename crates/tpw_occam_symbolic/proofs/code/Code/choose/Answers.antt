use Rattle.std.proofs.Common.{rules, ◌+◌, length, refl}
use Rattle.tpw_occam_symbolic.specs.declared.code.Step.TheVariants.{CjTo, JumpTo}
use Rattle.tpw_occam_symbolic.proofs.Flowing.{code_at, keeps_chosen}
use Rattle.tpw_occam_symbolic.proofs.code.Code.choose.Goals as goal

pub invariant_of-self-2 : goal.invariant_of-self-2
invariant_of-self-2 c =
    keeps_chosen (code_at c.self.inside.base c.self.inside.lines.items c.self.inside.loops.items)
    (code_at c.some.inside.base c.some.inside.lines.items c.some.inside.loops.items)
    (code_at c.none.inside.base c.none.inside.lines.items c.none.inside.loops.items)
    record { step = CjTo (c.some.inside.base + length c.some.inside.lines.items + 1); source = c.args.source }
    record { step = JumpTo (c.none.inside.base + length c.none.inside.lines.items); source = c.args.source }
    c.extend.new.lines.items c.extend.new.loops.items
    c.self.invariant c.some.invariant c.none.invariant (search rules) (search rules) refl refl (search rules) (search rules)
