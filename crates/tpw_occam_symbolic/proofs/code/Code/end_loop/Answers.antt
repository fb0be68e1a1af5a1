use Rattle.std.proofs.Common.{rules, ◌+◌, length, refl}
use Rattle.tp_decode.specs.declared.instr.Instr.TheVariants.{Lend}
use Rattle.tpw_occam_symbolic.specs.declared.items.Item.TheVariants.{Variable}
use Rattle.tpw_occam_symbolic.specs.declared.code.Step.TheVariants.{Plain, Pointer, Distance}
use Rattle.tpw_occam_symbolic.specs.declared.code.Turns.{Turns}
use Rattle.tpw_occam_symbolic.specs.Code.{line_of}
use Rattle.tpw_occam_symbolic.proofs.Flowing.{code_at, keeps_turn}
use Rattle.tpw_occam_symbolic.proofs.code.Code.end_loop.Goals as goal

pub invariant_of-self-2 : goal.invariant_of-self-2
invariant_of-self-2 c =
    let turns = c.args.turns in
    let behind = c.turn.inside.base + length c.turn.inside.lines.items in
    let ended : Turns = record turns { lend = behind + 2 } in
    keeps_turn (code_at c.self.inside.base c.self.inside.lines.items c.self.inside.loops.items)
    (code_at c.turn.inside.base c.turn.inside.lines.items c.turn.inside.loops.items) ended
    (line_of turns.source (Pointer (Variable turns.index) 0)) (line_of turns.source (Distance turns.head (behind + 3))) (line_of turns.source (Plain Lend))
    c.push.new.self.items c.push-2.new.self.items c.push-3.new.self.items c.extend.new.lines.items c.extend.new.loops.items
    c.self.invariant c.turn.invariant (search rules) (search rules) (search rules) (search rules) refl refl refl refl
    (search rules) (search rules) (search rules) (search rules) (search rules)
