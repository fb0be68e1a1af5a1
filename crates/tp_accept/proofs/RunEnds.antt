-- Runs of acceptable images end: instruction by instruction the measure goes down, and the state still fits.
use Rattle.std.proofs.Common.{◌≡◌, ◌⊎◌, inl, inr, ℕ, zero, suc, ◌+◌, ◌<◌, ◌≤◌, Bool, true, false, nat_lt, if◌then◌else◌, List, length, Some, Result, Ok, Err, refl, ap, sym, ◌∙◌, subst, arith}
use Rattle.std.specs.Prelude.{IsOk, Contains}
use Rattle.std.specs.Option.{option_and_then}
use Rattle.std.proofs.lemmas.Bool.Decides.{nat_tests}
use Rattle.tp_image.specs.Image.{ImageValue}
use Rattle.tp_decode.specs.declared.instr.Instr.{Instr}
use Rattle.tp_decode.specs.declared.instr.Instr.TheVariants.{Jump, Cj, Lend, Stopp}
use Rattle.tp_decode.specs.Cutting.{Cut, cut_at}
use Rattle.tp_flow.specs.declared.edge.Edge.{Edge}
use Rattle.tp_flow.specs.declared.edge.Edge.TheVariants.{Next, Taken, Back, Out}
use Rattle.tp_flow.specs.NestRanges.{ranges}
use Rattle.tp_flow.specs.NestKept.{IsEdge}
use Rattle.tp_flow.specs.Edges.{has_edge, goes_to}
use Rattle.tp_flow.specs.RowRules.{is_start}
use Rattle.tp_flow.proofs.FlowSpelled.{some_bytes}
use Rattle.tp_step.specs.State.{State as Machine}
use Rattle.tp_step.specs.Steps.{steps}
use Rattle.tp_step.specs.Runs.{start, has_ended}
use Rattle.tp_step.proofs.StepLemmas.{steps_add}
use Rattle.tp_state.specs.declared.state.State.{State}
use Rattle.tp_state.specs.After.{asked}
use Rattle.tp_state.specs.Entry.{entry}
use Rattle.tp_state.specs.Fits.{Fits}
use Rattle.tp_state.specs.GoesOn.{IsAccepted, turns_in, GoesAlong, HasStopped, GoesOn}
use Rattle.tp_flow.specs.LoopsAround.{is_around}
use Rattle.tp_state.proofs.FitsAbove.{fits_above}
use Rattle.tp_state.proofs.EntryFits.{start_fits}
use Rattle.tp_state.proofs.GoingOn.{accepted_goes_on}
use Rattle.tp_check.specs.EdgesRespect.{HasAbove, Respects}
use Rattle.tp_accept.specs.Measure.{Counts, measure, HasTurns}
use Rattle.tp_accept.specs.Acceptance.{IsAcceptable}
use Rattle.tp_accept.specs.Ending.{IsPacket}
use Rattle.tp_accept.proofs.LookedUp.{first_starts}
use Rattle.tp_accept.proofs.MeasureDrops.{some_is, from_if, drops, bytes_counted, starts_with_bound}

-- ---- edges

-- an edge that an instruction has is among those that its rule is asked on
asked_on : (instr : Instr) (edge : Edge) → has_edge instr edge ≡ true → Contains (asked instr) edge
asked_on Stopp edge has = absurd cc
asked_on (Jump n) Taken has = (0, omega arith, refl)
asked_on (Jump n) Next has = absurd cc
asked_on (Jump n) Back has = absurd cc
asked_on (Jump n) Out has = absurd cc
asked_on (Cj n) Next has = (0, omega arith, refl)
asked_on (Cj n) Taken has = (1, omega arith, refl)
asked_on (Cj n) Back has = absurd cc
asked_on (Cj n) Out has = absurd cc
asked_on Lend Back has = (0, omega arith, refl)
asked_on Lend Out has = (1, omega arith, refl)
asked_on Lend Next has = absurd cc
asked_on Lend Taken has = absurd cc
asked_on instr Next has = (0, omega arith, refl)
asked_on instr Taken has = absurd cc
asked_on instr Back has = absurd cc
asked_on instr Out has = absurd cc

back_lends : (instr : Instr) → has_edge instr Back ≡ true → instr ≡ Lend
back_lends Lend has = refl
back_lends instr has = absurd cc

-- a loop goes back only where it has more turns to make
more_turns : (n : ℕ) → Back ≡ (if nat_lt 1 n then Back else Out) → 1 < n
more_turns n = by_test (nat_lt 1 n) refl
  where
    by_test : (b : Bool) → nat_lt 1 n ≡ b → Back ≡ (if b then Back else Out) → 1 < n
    by_test true e is = grind (arith, nat_tests)
    by_test false e is = absurd cc

-- ---- instruction by instruction

-- the turns that the loops still have to make
abbrev pub turns_of : Machine → Counts
turns_of s row = turns_in s.memory row

-- steps lead to the end, no more than these
pub record Ends (image : ImageValue) (most : ℕ) (s : Machine) : Type 0 where
  pub end : Machine
  pub count : ℕ
  pub within : count ≤ most
  pub leads : steps image count s ≡ Some end
  pub ended : has_ended end ≡ true

module _ (image : ImageValue) (budget : ℕ) (a : IsAcceptable image budget) where
  -- nothing is refused from the table's states
  accepted : (at : ℕ) (cut : Cut) (t : State) → cut_at a.cuts at ≡ Some cut → a.table at ≡ Some t → IsAccepted image at (at + length cut.bytes) cut.instr t
  accepted at cut t stands there k edge lt =
      let respects = a.respected.each at cut t stands there k edge lt in
      ok_of _ respects.outcome respects.goes_on
    where
      ok_of : {A E : Type 0} (r : Result A E) (x : A) → r ≡ Ok x → IsOk r
      ok_of (Ok y) x is = refl
      ok_of (Err e) x is = absurd cc

  -- what is known after an edge is known at its target, or less
  entered : (at : ℕ) (cut : Cut) (t : State) (s end : Machine) → cut_at a.cuts at ≡ Some cut → a.table at ≡ Some t →
      (g : GoesAlong image at (at + length cut.bytes) cut.instr t s end) → HasAbove a.table g.to g.outcome
  entered at cut t s end stands there g =
      let has = from_if (has_edge cut.instr g.edge) (goes_to (ranges image.loops) at (at + length cut.bytes) cut.instr g.edge) g.to g.leads in
      let own = asked_on cut.instr g.edge has.0 in
      let respects : Respects image a.table at (at + length cut.bytes) cut.instr t g.edge =
      subst (Respects image a.table at (at + length cut.bytes) cut.instr t) own.2 (a.respected.each at cut t stands there own.0 g.edge own.1)
      in
      let same : respects.outcome ≡ g.outcome = let e : Ok respects.outcome ≡ Ok g.outcome = sym respects.goes_on ∙ g.known in cc in
      subst (HasAbove a.table g.to) same (respects.enters g.to g.leads)

  -- along an edge the measure goes down by the instruction's bytes
  falls : (at : ℕ) (cut : Cut) (t : State) (s end : Machine) → cut_at a.cuts at ≡ Some cut →
      (g : GoesAlong image at (at + length cut.bytes) cut.instr t s end) →
      length cut.bytes + measure image.loops a.cuts g.to 0 (turns_of end) ≤ measure image.loops a.cuts at 0 (turns_of s)
  falls at cut t s end stands g =
      let has = from_if (has_edge cut.instr g.edge) (goes_to (ranges image.loops) at (at + length cut.bytes) cut.instr g.edge) g.to g.leads in
      let edge : IsEdge (ranges image.loops) a.cuts at g.edge g.to = record { cut = cut; stands = stands; goes = g.leads } in
      omega (arith, drops image.loops image.workspace a.cuts a.kept at g.to 0 g.edge (turns_of s) (turns_of end) edge (turns has.0) g.turns (omega arith))
    where
      turns : has_edge cut.instr g.edge ≡ true → g.edge ≡ Back → HasTurns image.loops at (turns_of s)
      turns has back row row_in ends =
          let lend : cut.instr ≡ Lend = back_lends cut.instr (ap (has_edge cut.instr) (sym back) ∙ has) in
          more_turns (turns_in s.memory row) (sym back ∙ g.follows lend row row_in ends)

  -- from a state that fits the table's
  ends_from : (n at : ℕ) (t : State) (s : Machine) → is_start a.cuts at ≡ true → a.table at ≡ Some t →
      Fits image at t s → measure image.loops a.cuts at 0 (turns_of s) ≤ n →
      Ends image (measure image.loops a.cuts at 0 (turns_of s)) s
  ends_from zero at t s starts there fits few =
      let cut = some_is (cut_at a.cuts at) starts in
      let some = some_bytes a.cuts at cut.0 a.kept.spelled cut.1 in
      absurd (omega (arith, some, bytes_counted image.loops image.workspace a.cuts a.kept at cut.0 (turns_of s) cut.1))
  ends_from (suc n) at t s starts there fits few =
      let cut = some_is (cut_at a.cuts at) starts in
      let goes = accepted_goes_on image a.cuts a.in_range a.cutting a.kept at cut.0 cut.1 t s fits (accepted at cut.0 t cut.1 there) in
      by_way cut.0 cut.1 (λ at t s. ends_from n at t s) goes goes.goes
    where
      by_way : (cut : Cut) → cut_at a.cuts at ≡ Some cut
          → ((at : ℕ) (t : State) (s : Machine) → is_start a.cuts at ≡ true → a.table at ≡ Some t → Fits image at t s →
          measure image.loops a.cuts at 0 (turns_of s) ≤ n →
          Ends image (measure image.loops a.cuts at 0 (turns_of s)) s)
          → (goes : GoesOn image at cut t s) → HasStopped cut.instr goes.end ⊎ GoesAlong image at (at + length cut.bytes) cut.instr t s goes.end
          → Ends image (measure image.loops a.cuts at 0 (turns_of s)) s
      by_way cut stands later goes (inl stopped) = record {
        end = goes.end;
        count = length cut.bytes;
        within = bytes_counted image.loops image.workspace a.cuts a.kept at cut (turns_of s) stands;
        leads = goes.runs;
        ended = stopped.1;
      }
      by_way cut stands later goes (inr g) =
          let above = entered at cut t s goes.end stands there g in
          let fits_there : Fits image g.to above.state goes.end = fits_above image (is_around (ranges image.loops) g.to) g.to g.outcome above.state goes.end above.below g.fits in
          let fall = falls at cut t s goes.end stands g in
          let some = some_bytes a.cuts at cut a.kept.spelled stands in
          let starts_there = a.kept.starts at g.to g.edge record { cut = cut; stands = stands; goes = g.leads } in
          let rest = later g.to above.state goes.end starts_there above.there fits_there (omega (arith, fall, some, few)) in
          record {
            end = rest.end;
            count = length cut.bytes + rest.count;
            within = omega (arith, rest.within, fall);
            leads = steps_add image (length cut.bytes) rest.count s ∙ ap (option_and_then (steps image rest.count)) goes.runs ∙ rest.leads;
            ended = rest.ended;
          }

  -- from the start
  pub ends : (packet : List ℕ) → IsPacket image packet → Ends image budget (start image packet)
  ends packet is =
      let s = start image packet in
      let above = a.respected.begins in
      let fits = start_fits image packet a.in_range (omega (arith, is.long)) is.bytes a.kept.begins in
      let fits_there : Fits image 0 above.state (start image packet) = fits_above image (is_around (ranges image.loops) 0) 0 (entry image) above.state (start image packet) above.below fits in
      let starts = first_starts image a.cuts a.in_range a.cutting in
      let most = starts_with_bound image.loops image.workspace a.cuts a.kept starts (turns_of (start image packet)) in
      let e = ends_from (measure image.loops a.cuts 0 0 (turns_of (start image packet))) 0 above.state (start image packet) starts above.there fits_there (omega arith) in
      record { end = e.end; count = e.count; within = omega (arith, e.within, most, a.bounded); leads = e.leads; ended = e.ended }
