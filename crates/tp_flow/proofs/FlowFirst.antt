-- The first fault of a flow, in a search from the front.
use Rattle.std.proofs.Common.{◌≡◌, ℕ, ◌+◌, ◌<◌, ◌≤◌, List, [], length, take, slice_get, Option, Some, None, IsSome, refl, ap, sym, ◌∙◌, arith, add-one}
use Rattle.std.specs.List.{filter_map}
use Rattle.std.proofs.lemmas.List.{take_all}
use Rattle.std.specs.Option.{option_map}
use Rattle.std.proofs.lemmas.Option.{slice_get_within, get_or_from_slice_get, slice_get-get_or}
use Rattle.tp_image.specs.Image.{ImageValue}
use Rattle.tp_decode.specs.declared.instr.Instr.TheVariants.{Lend}
use Rattle.tp_decode.specs.declared.placed.Placed.{Placed}
use Rattle.tp_decode.specs.Cutting.{Cut, placed_from}
use Rattle.tp_decode.proofs.NumberLemmas.{length-placed}
use Rattle.tp_flow.specs.declared.fault.FlowCode.{FlowCode}
use Rattle.tp_flow.specs.JumpRules.{broken_rule}
use Rattle.tp_flow.specs.FlowFaults.{bad_row, fault_of, instruction_faults, first_flow_fault}
use Rattle.tp_flow.proofs.FlowSearch.{given_more, given_here}

module _ (image : ImageValue) (cuts : List Cut) (i : ℕ) (placed : Placed)
    (is : slice_get (placed_from 0 cuts) i ≡ Some placed) (before : filter_map (fault_of image cuts)
    (take i (placed_from 0 cuts)) ≡ []) where
  -- the instruction there is refused
  pub refused_here : (code : FlowCode) → broken_rule image cuts placed ≡ Some code → slice_get (instruction_faults image cuts) 0 ≡ Some (record { code = code; place = placed.at })
  refused_here code broken =
      given_here (fault_of image cuts) (placed_from 0 cuts) i placed _ (slice_get_within (placed_from 0 cuts) i placed is) before
      (ap (fault_of image cuts) (get_or_from_slice_get (placed_from 0 cuts) i placed placed is) ∙ ap (option_map (λ c. record { code = c; place = placed.at })) broken)

  -- it is not
  pub passed_here : broken_rule image cuts placed ≡ None → filter_map (fault_of image cuts) (take (i + 1) (placed_from 0 cuts)) ≡ []
  passed_here kept =
      rw add-one (given_more (fault_of image cuts) (placed_from 0 cuts) i placed (slice_get_within (placed_from 0 cuts) i placed is) before
      (ap (fault_of image cuts) (get_or_from_slice_get (placed_from 0 cuts) i placed placed is) ∙ ap (option_map (λ c. record { code = c; place = placed.at })) kept))

-- all instructions are passed
pub all_passed : (image : ImageValue) (cuts : List Cut) (i : ℕ) → length cuts ≤ i →
    filter_map (fault_of image cuts) (take i (placed_from 0 cuts)) ≡ [] →
    slice_get (instruction_faults image cuts) 0 ≡ None
all_passed image cuts i all before =
    let whole : take i (placed_from 0 cuts) ≡ placed_from 0 cuts = take_all i (placed_from 0 cuts) (omega (arith, length-placed 0 cuts)) in
    ap (λ xs. slice_get xs 0) (ap (filter_map (fault_of image cuts)) (sym whole) ∙ before)

-- an instruction is there
pub is_there : (cuts : List Cut) (i : ℕ) (o : Option Placed) → i < length cuts → o ≡ slice_get (placed_from 0 cuts) i → IsSome o
is_there cuts i o lt e = by_case o e
  where
    within : i < length (placed_from 0 cuts)
    within = omega (arith, length-placed 0 cuts)

    none : Placed
    none = record { at = 0; instr = Lend; next = 0 }

    by_case : (o : Option Placed) → o ≡ slice_get (placed_from 0 cuts) i → IsSome o
    by_case (Some placed) e = refl
    by_case None e = let there = slice_get-get_or (placed_from 0 cuts) i none within in absurd cc

-- no row and no instruction is refused
pub no_fault : (image : ImageValue) (cuts : List Cut) → bad_row image cuts ≡ None → slice_get (instruction_faults image cuts) 0 ≡ None → first_flow_fault image cuts ≡ None
unfolding first_flow_fault
no_fault image cuts rows instructions = rw (rows, instructions) refl
