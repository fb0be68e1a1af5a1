use Rattle.std.proofs.Common.{◌≡◌, ◌+◌, ◌*◌, ◌∙◌, ap, subst, refl}
use Rattle.std.specs.Prelude.{flat_map}
use Rattle.std.specs.Int.{w32, to_le_bytes}
use Rattle.std.specs.Coded.{le_prop}
use Rattle.std.proofs.Math.Logic.{∥∥₁_elim}
use Rattle.tp_step.specs.Memory.{with_bytes, nothing_defined}
use Rattle.tp_step.specs.State.{mem_start}
use Rattle.tp_step.specs.Runs.{first_words}
use Rattle.tp_accept.proofs.NeverWrong.{never_goes_wrong_of}
use Rattle.tp_outcome.specs.Devices.{devices_of}
use Rattle.tp_machine.specs.Representation.{Holds}
use Rattle.tp_machine.proofs.Kept.{begins, ends}
use Rattle.tp_machine.proofs.Alone.{answered_alone}
use Rattle.tp_machine.proofs.PromiseKept.{keeps_promise}
use Rattle.tp_machine.proofs.machine.Machine.run.Goals as goal

pub go-answer-requires-clause-starts : goal.go-answer-requires-clause-starts
go-answer-requires-clause-starts g c =
    let image = c.args.accepted.now.image in
    let before = devices_of g.D.LinkDevice.state c.args.links.now in
    let first : 2147483720 + 4 * c.image.inside.start ≡ mem_start + 4 * image.start = ap (λ i. mem_start + 4 * i.start) (c.image.view_is ∙ c.image-image.ensures) in
    let held = subst (λ i. Holds (with_bytes nothing_defined mem_start (flat_map (to_le_bytes w32) (first_words i))) c.fill.new.workspace) c.image-image.ensures c.fill.ensures in
    begins image before _ c.fill.new.workspace refl first refl held

pub go-answer-requires-clause-promise : goal.go-answer-requires-clause-promise
go-answer-requires-clause-promise g c =
    let before = devices_of g.D.LinkDevice.state c.args.links.now in
    ends c.args.accepted.now.image c.args.accepted.now.budget before (never_goes_wrong_of c.args.accepted.now.image c.args.accepted.now.budget c.args.accepted.now.acceptable) c.held-held.ensures.bytes

pub go-answer-requires-clause-budget : goal.go-answer-requires-clause-budget
go-answer-requires-clause-budget g c = ∥∥₁_elim c.args.accepted.now.acceptable le_prop (λ a. a.within)

pub returns-clause-answered : goal.returns-clause-answered
returns-clause-answered g c = answered_alone c.args.accepted.now.image c.args.accepted.now.budget _ _ c.go-answer.result.1 c.go-answer.ensures

pub returns-clause-promise : goal.returns-clause-promise
returns-clause-promise g c =
    keeps_promise c.args.accepted.now.image c.args.accepted.now.budget _ _ c.go-answer.result.1 (never_goes_wrong_of c.args.accepted.now.image c.args.accepted.now.budget c.args.accepted.now.acceptable) c.held-held.ensures.bytes
    (answered_alone c.args.accepted.now.image c.args.accepted.now.budget _ _ c.go-answer.result.1 c.go-answer.ensures)
