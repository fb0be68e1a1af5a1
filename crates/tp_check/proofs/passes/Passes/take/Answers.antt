use Rattle.std.proofs.Common.{refl}
use Rattle.tp_check.specs.Joining.{is_join_at}
use Rattle.tp_check.proofs.Turning.{ready, as_long, rises_to, passed_by, begins}
use Rattle.tp_check.proofs.passes.Passes.take.Goals as goal

pub start-requires-clause-sized : goal.start-requires-clause-sized
start-requires-clause-sized c is = as_long c.args.image.now (is_join_at c.args.predecessors.now) c.args.self.now c.requires.way.3.0 c.requires.way.3.1.way.keeps c.args.place.at is

pub start-requires-clause-below : goal.start-requires-clause-below
start-requires-clause-below c is on = rises_to c.args.image.now c.requires.way.0 (is_join_at c.args.predecessors.now) c.args.self.now c.args.place.at c.requires.way.3.0 c.requires.way.3.1 is on

pub returns-then-not-self-clause-gives : goal.returns-then-not-self-clause-gives
returns-then-not-self-clause-gives c cuts stands join whole before =
    passed_by c.args.image.now cuts (is_join_at c.args.predecessors.now) c.args.self.now c.start.new.self c.args.place stands whole before
    (ready c.args.image.now cuts (is_join_at c.args.predecessors.now) c.args.self.now c.start.new.self c.args.place.at
    whole before c.requires.step.place.inside c.start.ensures.started c.start.ensures.other) c.if-not-self.true

pub take_edges-requires-clause-way : goal.take_edges-requires-clause-way
take_edges-requires-clause-way c =
    begins c.args.image.now c.requires.way.0 (is_join_at c.args.predecessors.now) c.args.self.now c.start.new.self c.args.place c.requires.way.1 c.requires.way.3.0 c.requires.way.3.1
    (ready c.args.image.now c.requires.way.0 (is_join_at c.args.predecessors.now) c.args.self.now c.start.new.self
    c.args.place.at c.requires.way.3.0 c.requires.way.3.1 c.requires.step.place.inside c.start.ensures.started
    c.start.ensures.other)
    _ refl refl refl refl refl refl c.if-not-self.false c.requires.way.2

pub returns-clause-gives : goal.returns-clause-gives
returns-clause-gives c cuts stands join whole before =
    c.take_edges.ensures.gives
    (begins c.args.image.now cuts (is_join_at c.args.predecessors.now) c.args.self.now c.start.new.self c.args.place stands whole before
    (ready c.args.image.now cuts (is_join_at c.args.predecessors.now) c.args.self.now c.start.new.self c.args.place.at
    whole before c.requires.step.place.inside c.start.ensures.started c.start.ensures.other)
    _ refl refl refl refl refl refl c.if-not-self.false join)
