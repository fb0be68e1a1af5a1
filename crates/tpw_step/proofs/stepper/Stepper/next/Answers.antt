use Rattle.std.proofs.Common.{rules, refl, arith}
use Rattle.tpw_step.proofs.Along.{along_first, along_more, is_made, is_stuck, is_refused}
use Rattle.tpw_step.proofs.stepper.Stepper.next.Goals as goal

pub loop-init : goal.loop-init
loop-init g c = (refl, along_first c.args.self.now.image c.prefixes_at-prefixes.result c.args.self.now.machine c.args.self.now.phase _ c.in_default.not-Stopped)

pub loop-preserved : goal.loop-preserved
loop-preserved g c = (
  search rules,
  along_more c.args.self.now.image c.prefixes_at-prefixes.result
      c.args.self.now.machine c.args.self.now.phase _ (search rules) c.loop.counter c.loop.self.machine c.step.new.self
      c.loop.self.phase c.step.new.phase _ _ c.loop.invariant.1 (search rules),
)

pub returns : goal.returns
returns g c = record {
  comes = is_made c.args.self.now.image c.prefixes_at-prefixes.result c.args.self.now.machine c.args.self.now.phase _
      (search rules) c.loop.counter c.loop.self.machine c.loop.self.phase _ (search rules) c.loop.invariant.1;
  image = c.loop.invariant.0;
}

pub returns-in-Stuck : goal.returns-in-Stuck
returns-in-Stuck g c =
    let lt = c.loop-test.true in
    record {
      comes = is_stuck c.args.self.now.image c.prefixes_at-prefixes.result c.args.self.now.machine c.args.self.now.phase
          _ (search rules) c.loop.counter c.loop.self.machine c.step.new.self c.loop.self.phase c.step.new.phase _ _
          (omega (arith, lt)) c.loop.invariant.1 (search rules);
      image = c.loop.invariant.0;
    }

pub returns-in-Refused : goal.returns-in-Refused
returns-in-Refused g c =
    let lt = c.loop-test.true in
    record {
      comes = is_refused c.args.self.now.image c.prefixes_at-prefixes.result c.args.self.now.machine
          c.args.self.now.phase _ (search rules) c.loop.counter c.loop.self.machine c.step.new.self c.loop.self.phase
          c.step.new.phase _ _ _ (omega (arith, lt)) c.loop.invariant.1 (search rules);
      image = c.loop.invariant.0;
    }
