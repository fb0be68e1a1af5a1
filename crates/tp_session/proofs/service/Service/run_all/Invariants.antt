use Rattle.std.proofs.Common.{◌≡◌, take}
use Rattle.std.specs.List.{AllZip}
use Rattle.tp_answers.specs.Rules.{IsOutcome}
use Rattle.tp_answers.specs.Answers.{IsRun}
use Rattle.tp_session.specs.Fitness.{AreFit}
use Rattle.tp_session.specs.Services.{StaysOn}
use Rattle.tp_session.proofs.ServiceLemmas.{partly}
use Rattle.tp_session.proofs.service.Service.run_all.Given as goal

-- this many sessions were run, and their packets are forgotten
abbrev pub invariant-loop-index : goal.invariant-loop-index
invariant-loop-index g l = record {
  stays : StaysOn g.D.LinkDevice.state l.fn.self l.self;
  runs : AreFit g.D.LinkDevice.state l.fn.self.links.items
      → AllZip (IsRun IsOutcome) (take l.index l.fn.self.sessions) l.all;
  forgotten : l.self.sessions ≡ partly l.fn.self.sessions l.index;
}
