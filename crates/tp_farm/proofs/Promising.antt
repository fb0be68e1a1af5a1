-- What a batch of accepted code ends with.
use Rattle.std.proofs.Common.{◌≡◌, ℕ, ◌*◌, ◌<◌, ◌≤◌, Bool, true, false, List, length, All, get_or, Some, slice_get, refl, sym, ap}
use Rattle.std.proofs.Common.{◌∙◌, subst, arith}
use Rattle.std.proofs.lemmas.Option.{slice_get_within, get_or_from_slice_get, slice_get-get_or, same_Some}
use Rattle.tp_link.specs.Device.{DeviceState}
use Rattle.tp_link.specs.declared.device.DeviceFault.{DeviceFault}
use Rattle.tp_link.specs.declared.device.DeviceFault.TheVariants.{Closed, Full, Short, Failed}
use Rattle.tp_link.specs.declared.links.Link.{Link}
use Rattle.tp_link.specs.declared.links.Link.TheVariants.{Source, Sink, Trace}
use Rattle.tp_link.specs.declared.links.LinkFault.{LinkFault}
use Rattle.tp_image.specs.Image.{ImageValue}
use Rattle.tp_step.specs.Runs.{Run, RunsAlone}
use Rattle.tp_step.proofs.StepLemmas.{one_run}
use Rattle.tp_accept.specs.Ending as ending
use Rattle.tp_outcome.specs.Devices.{Devices}
use Rattle.tp_step.proofs.LastingLemmas.{begins_length, sends_first}
use Rattle.tp_collect.specs.declared.collected.Entry.{Entry}
use Rattle.tp_collect.specs.declared.collected.Entry.TheVariants as entry
use Rattle.tp_collect.specs.declared.collected.LostCause.TheVariants as cause
use Rattle.tp_collect.specs.DoneValue.{DoneValue, run_of_done, most_trace}
use Rattle.tp_collect.specs.Collected.{JobValue, IsResult}
use Rattle.tp_farm.specs.Losses.{HasCause, MayLose, TracesMore}
use Rattle.tp_farm.specs.Batches.{IsBatch}
use Rattle.tp_farm.specs.Promised.{GivesRun, GoesWell, Takes, TakeAll, IsEntryOf, LosesLongTracesAlone}

one_of : {A : Type 0} (P : A → Type 0) (xs : List A) (i : ℕ) (x : A) → All P xs → slice_get xs i ≡ Some x → P x
one_of P xs i x all at = subst P (get_or_from_slice_get xs i x x at) (all i x (slice_get_within xs i x at))

-- ---- a loss by devices that do their work

-- such a device refuses for want of room alone
lacks_room : {X : Type 0} (n : ℕ) (d : DeviceState) (P : Type 0) (code : DeviceFault) → Takes n d → HasCause d P code
    → (code ≡ Full → P → X) → X
lacks_room n d P Failed takes h room = absurd (both (sym h ∙ takes.sure))
  where
    both : true ≡ false → ⊥
    both e = cc
lacks_room n d P Closed takes h room = absurd (both (sym takes.opened ∙ h))
  where
    both : true ≡ false → ⊥
    both e = cc
lacks_room n d P Full takes h room = room refl h
lacks_room n d P Short takes h room = absurd h

module _ (image : ImageValue) (packet : List ℕ) (run : Run) (alone : RunsAlone image packet run) where
  -- what a worker sends on link 1 on its way is no more than its run's trace
  traced_more : (room : ℕ) → most_trace ≤ room → TracesMore image packet room → most_trace < length run.trace
  traced_more room enough more =
      let sent = sends_first image packet run alone more.way.count more.state more.way.leads in
      omega (arith, more.more, enough, begins_length more.state.traced run.trace sent.1)

  -- so devices that take all lose it by a long trace alone
  lost_by_trace : {X : Type 0} (devices : Devices) (which : Link) (code : DeviceFault) → TakeAll image devices
      → MayLose image packet devices which code → (which ≡ Trace → code ≡ Full → most_trace < length run.trace → X) → X
  lost_by_trace devices Source code take h go =
      lacks_room (4 * image.packet) devices.source (devices.source.room < 4 * image.packet) code take.source h λ is lacks.
      absurd (omega (arith, lacks, take.source.room))
  lost_by_trace devices Sink code take h go =
      lacks_room (4 * image.result) devices.sink (devices.sink.room < 4 * image.result) code take.sink h λ is lacks.
      absurd (omega (arith, lacks, take.sink.room))
  lost_by_trace devices Trace code take h go =
      lacks_room most_trace devices.trace (TracesMore image packet devices.trace.room) code take.trace h λ is more.
      go refl is (traced_more devices.trace.room take.trace.room more)

same_fault : (fault : LinkFault) → fault.link ≡ Trace → fault.code ≡ Full → fault ≡ record { link = Trace; code = Full }
same_fault fault which code =
    subst (λ l. fault ≡ record { link = l; code = Full }) which
    (subst (λ c. fault ≡ record { link = fault.link; code = c }) code refl)

-- ---- a batch

module _ (batch : JobValue) (budget : ℕ) (never : ending.NeverGoesWrong batch.image budget)
    (open_for_good : Bool) (before after : List Devices) (entries : List Entry)
    (b : IsBatch batch open_for_good before after entries) where
  module _ (i : ℕ) (packet : List ℕ) (at : slice_get batch.packets i ≡ Some packet) where
    ends : ending.EndsWithin batch.image budget packet
    ends = never packet (one_of (ending.IsPacket batch.image) batch.packets i packet b.packets at)

    -- its entry
    is_there : i < length entries
    is_there = omega (arith, slice_get_within batch.packets i packet at, b.collected.count)

    entry_of : Entry
    entry_of = get_or entries i (entry.Lost cause.Stopped)

    there : slice_get entries i ≡ Some entry_of
    unfolding entry_of
    there = slice_get-get_or entries i (entry.Lost cause.Stopped) is_there

    -- the result of the packet is what its run gives
    result_is : (done : DoneValue) → IsResult batch i done → run_of_done done ≡ ends.run
    result_is done r =
        let same : done.bytes ≡ packet =
        same_Some done.bytes packet (sym r.names.packet ∙ ap (slice_get batch.packets) r.number ∙ at) in
        let alone : RunsAlone batch.image packet (run_of_done done) =
        subst (λ im. RunsAlone im packet (run_of_done done)) r.names.image
        (subst (λ p. RunsAlone done.image p (run_of_done done)) same r.alone.run) in
        one_run batch.image packet (run_of_done done) ends.run alone ends.alone

    gives : (e : Entry) → slice_get entries i ≡ Some e → GivesRun ends.run e
    gives (entry.Done done) is = result_is done (b.collected.each i (entry.Done done) is)
    gives (entry.Lost cause) is = tt

    comes : open_for_good ≡ true → All (TakeAll batch.image) before → (e : Entry) → slice_get entries i ≡ Some e
        → IsEntryOf ends.run e
    comes opened take (entry.Done done) is =
        let r = b.collected.each i (entry.Done done) is in
        let same = result_is done r in
        (same, subst (λ (run : Run). length run.trace ≤ most_trace) same r.alone.short)
    comes opened take (entry.Lost (cause.Link fault)) is =
        let lost = b.losses i fault is in
        let same : lost.packet ≡ packet = same_Some lost.packet packet (sym lost.is ∙ at) in
        let may : MayLose batch.image packet lost.devices fault.link fault.code =
        subst (λ p. MayLose batch.image p lost.devices fault.link fault.code) same lost.cause in
        lost_by_trace batch.image packet ends.run ends.alone lost.devices fault.link fault.code
        (one_of (TakeAll batch.image) before lost.member lost.devices take lost.there) may λ which code more.
        (same_fault fault which code, more)
    comes opened take (entry.Lost cause.Stopped) is = absurd (both (sym opened ∙ b.stopped i is))
      where
        both : true ≡ false → ⊥
        both e = cc

  pub keeps_promise : GoesWell batch budget entries
  keeps_promise i packet at =
      record {
        ends = ends i packet at;
        entry = entry_of i packet at;
        there = there i packet at;
        gives = gives i packet at (entry_of i packet at) (there i packet at);
      }

  pub loses_long_traces : open_for_good ≡ true → All (TakeAll batch.image) before → LosesLongTracesAlone batch budget entries
  loses_long_traces opened take i packet at =
      record {
        ends = ends i packet at;
        entry = entry_of i packet at;
        there = there i packet at;
        comes = comes i packet at opened take (entry_of i packet at) (there i packet at);
      }
