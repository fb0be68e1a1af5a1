use Rattle.std.proofs.Common.{◌≡◌, ◌≤◌, Option, Some, None, refl, ap, sym, subst, ◌∙◌, arith, length}
use Rattle.std.specs.Prelude.{slice_get}
use Rattle.std.proofs.lemmas.Option.{same_Some}
use Rattle.tp_accept.specs.Ending.{IsPacket}
use Rattle.tp_farm.specs.Jobs.{value_of_job}
use Rattle.tp_step.specs.Runs.{RunsAlone}
use Rattle.tp_collect.specs.declared.collected.Entry.TheVariants as entry
use Rattle.tp_collect.specs.DoneValue.{DoneValue, run_of_done}
use Rattle.tpw_occam_core.specs.Meaning.{Meant}
use Rattle.tpw_occam_scoped.specs.Meaning.{meaning}
use Rattle.tpw_occam_symbolic.specs.Program.{GivesMeaning}
use Rattle.tpw_occam_symbolic.proofs.Beginning.{all_get}
use Rattle.tpw_occam.proofs.Doing.{gives}
use Rattle.tpw_occam.proofs.laws.batches_give_meanings.Goals as goal

-- a run that is collected has a trace that is no longer than it may be, so its packet means something
given : (done : DoneValue) (meant : Option Meant) → GivesMeaning (run_of_done done) meant → length done.trace ≤ 256
    → meant ≡ Some (record { result = done.result; flag = done.error; traced = done.trace })
given done (Some meant) gives short = rw gives.0 (rw gives.1 (rw gives.2 refl))
given done None long short = absurd (omega (arith, long, short))

pub returns : goal.returns
returns c text made open_for_good before after entries compiled assembly batch i done packet there packet_there =
    let job = value_of_job c.args.job.now in
    let result = batch.collected.each i (entry.Done done) there in
    let whole = all_get (IsPacket job.image) job.packets i packet batch.packets packet_there in
    let same : packet ≡ done.bytes = same_Some _ _ (sym packet_there ∙ ap (slice_get _) (sym result.number) ∙ result.names.packet) in
    let run = subst (λ image. RunsAlone image packet (run_of_done done)) result.names.image
    (subst (λ b. RunsAlone done.image b (run_of_done done)) (sym same) result.alone.run) in
    given done (meaning made.core packet)
    (gives made.core made.program compiled.does _ packet (run_of_done done) assembly
    (record { size = whole.long; bytes = whole.bytes }) run)
    result.alone.short
