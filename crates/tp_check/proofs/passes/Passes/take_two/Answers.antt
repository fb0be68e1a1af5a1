use Rattle.std.proofs.Common.{◌≡◌, [], ◌∷◌, ap, ◌∙◌}
use Rattle.tp_state.specs.declared.state.State.{State}
use Rattle.tp_check.specs.Joining.{is_join_at}
use Rattle.tp_check.specs.declared.passes.Passes.{Passes}
use Rattle.tp_check.proofs.Two.{none_apart, first_apart, on_first, first_refuses, on_last, last_refuses, last_done, first_done}
use Rattle.tp_check.proofs.HandedOn.{carried_on}
use Rattle.tp_check.proofs.passes.Passes.take_two.Goals as goal
use Rattle.tp_check.proofs.passes.Passes.take_two.Goals.{then-is_next, else-is_next}

pub take_edge-requires-clause-way : goal.take_edge-requires-clause-way
take_edge-requires-clause-way c = (
  c.args.last ∷ [],
  first_apart c.args.image.now (is_join_at c.args.predecessors.now)
      c.args.self.now c.args.place c.args.first c.args.last c.requires.edges c.requires.way,
  on_first c.args.image.now (is_join_at c.args.predecessors.now) c.args.self.now c.args.place c.args.first c.args.last
      c.requires.edges c.requires.way,
)

pub returns-in_err-moved-clause-gives : goal.returns-in_err-moved-clause-gives
returns-in_err-moved-clause-gives c way =
    carried_on c.from_residual-in_err-moved.result c.in_err-moved.field-0.0 _ (λ _. Unit {0}) _ c.from_residual-in_err-moved.ensures.1
    (first_refuses c.args.image.now (is_join_at c.args.predecessors.now) c.args.self.now c.args.place c.args.first c.args.last c.requires.edges way c.in_err-moved.field-0.0 _ (λ _. Unit {0})
    (c.in_err-moved.ensures.gives (c.args.last ∷ []) (first_apart c.args.image.now (is_join_at c.args.predecessors.now)
    c.args.self.now c.args.place c.args.first c.args.last c.requires.edges way)
    (on_first c.args.image.now (is_join_at c.args.predecessors.now) c.args.self.now c.args.place c.args.first
    c.args.last c.requires.edges way)))

-- what is carried again is the copy
is_back : (fallen : Passes) (again other carried : State) → again ≡ other → other ≡ carried → record fallen { carried = again } ≡ record fallen { carried = carried }
is_back fallen again other carried swapped copied = ap (λ s. record fallen { carried = s }) (swapped ∙ copied)

pub take_edge-requires-2-clause-way : goal.take_edge-requires-2-clause-way
take_edge-requires-2-clause-way c =
    let fallen = c.in_ok-moved.ensures.gives (c.args.last ∷ [])
    (first_apart c.args.image.now (is_join_at c.args.predecessors.now) c.args.self.now c.args.place c.args.first
    c.args.last c.requires.edges c.requires.way) (on_first c.args.image.now (is_join_at c.args.predecessors.now)
    c.args.self.now c.args.place c.args.first c.args.last c.requires.edges c.requires.way) in (
      [],
      none_apart c.args.last,
      on_last c.args.image.now (is_join_at c.args.predecessors.now) c.args.self.now
          c.args.place c.args.first c.args.last c.requires.edges c.requires.way c.take_edge.new.self fallen.0 fallen.1
          fallen.2 _ (is_back c.take_edge.new.self c.swap.new.x c.in_ok-other.other c.args.self.now.carried
          c.swap.ensures.x_after c.in_ok-other.ensures),
    )

pub returns-in_err-also-clause-gives : goal.returns-in_err-also-clause-gives
returns-in_err-also-clause-gives c way =
    let fallen = c.in_ok-moved.ensures.gives (c.args.last ∷ [])
    (first_apart c.args.image.now (is_join_at c.args.predecessors.now) c.args.self.now c.args.place c.args.first
    c.args.last c.requires.edges way) (on_first c.args.image.now (is_join_at c.args.predecessors.now) c.args.self.now
    c.args.place c.args.first c.args.last c.requires.edges way) in
    let back = is_back c.take_edge.new.self c.swap.new.x c.in_ok-other.other c.args.self.now.carried c.swap.ensures.x_after c.in_ok-other.ensures in
    carried_on c.from_residual-in_err-also.result c.in_err-also.field-0.0 _ (λ _. Unit {0}) _ c.from_residual-in_err-also.ensures.1
    (last_refuses c.args.image.now (is_join_at c.args.predecessors.now) c.args.self.now c.args.place c.args.first
    c.args.last c.requires.edges way c.take_edge.new.self fallen.0 fallen.1 fallen.2 _ back c.in_err-also.field-0.0 _
    (λ _. Unit {0})
    (c.in_err-also.ensures.gives [] (none_apart c.args.last)
    (on_last c.args.image.now (is_join_at c.args.predecessors.now) c.args.self.now c.args.place c.args.first
    c.args.last c.requires.edges way c.take_edge.new.self fallen.0 fallen.1 fallen.2 _ back)))

pub returns-clause-gives : goal.returns-clause-gives
returns-clause-gives c way =
    let fallen = c.in_ok-moved.ensures.gives (c.args.last ∷ [])
    (first_apart c.args.image.now (is_join_at c.args.predecessors.now) c.args.self.now c.args.place c.args.first
    c.args.last c.requires.edges way) (on_first c.args.image.now (is_join_at c.args.predecessors.now) c.args.self.now
    c.args.place c.args.first c.args.last c.requires.edges way) in
    let back = is_back c.take_edge.new.self c.swap.new.x c.in_ok-other.other c.args.self.now.carried c.swap.ensures.x_after c.in_ok-other.ensures in
    let taken = c.in_ok-also.ensures.gives [] (none_apart c.args.last)
    (on_last c.args.image.now (is_join_at c.args.predecessors.now) c.args.self.now c.args.place c.args.first
    c.args.last c.requires.edges way c.take_edge.new.self fallen.0 fallen.1 fallen.2 _ back) in
    elim c.if-is_next.branch [
      | then-is_next w ↦ rw w.self-is (first_done c.args.image.now (is_join_at c.args.predecessors.now) c.args.self.now
          c.args.place c.args.first c.args.last c.requires.edges way c.take_edge.new.self fallen.0 fallen.1 fallen.2 _
          back c.take_edge-2.new.self c.in_ok-also.also taken c.requires.rests w.if-is_next.true _
          (is_back c.take_edge-2.new.self w.swap-then-is_next.new.x c.swap.new.y c.take_edge.new.self.carried w.swap-then-is_next.ensures.x_after c.swap.ensures.y_after) c.if-moved.result)
      | else-is_next w ↦ rw w.self-is (last_done c.args.image.now (is_join_at c.args.predecessors.now) c.args.self.now
          c.args.place c.args.first c.args.last c.requires.edges way c.take_edge.new.self fallen.0 fallen.1 fallen.2 _
          back c.take_edge-2.new.self c.in_ok-also.also taken c.if-moved.result w.if-is_next.false)
    ]
