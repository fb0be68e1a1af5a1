-- The first fault of a code's flow: loop rows first, then instructions by their addresses.
use Rattle.std.specs.Prelude.{ℕ, List, Option, slice_get}
use Rattle.std.specs.List.{find, filter_map, enumerate_from}
use Rattle.std.specs.Option.{option_map, option_or}
use Rattle.tp_image.specs.Image.{ImageValue}
use Rattle.tp_decode.specs.declared.placed.Placed.{Placed}
use Rattle.tp_decode.specs.Cutting.{Cut, placed_from}
use Rattle.tp_flow.specs.declared.fault.FlowCode.TheVariants.{J6}
use Rattle.tp_flow.specs.declared.fault.FlowFault.{FlowFault}
use Rattle.tp_flow.specs.RowRules.{is_bad_row}
use Rattle.tp_flow.specs.JumpRules.{broken_rule}

-- the least number of a bad row
abbrev pub bad_row : ImageValue → List Cut → Option ℕ
bad_row image cuts =
    option_map (λ row. row.0) (find (λ row. is_bad_row image cuts row.0 row.1) (enumerate_from 0 image.loops))

-- J6: the place is the row's number
abbrev pub row_fault : ImageValue → List Cut → Option FlowFault
row_fault image cuts = option_map (λ i. record { code = J6; place = i }) (bad_row image cuts)

-- the fault of an instruction: the place is its address
abbrev pub fault_of : ImageValue → List Cut → Placed → Option FlowFault
fault_of image cuts placed =
    option_map (λ code. record { code = code; place = placed.at }) (broken_rule image cuts placed)

-- the faults of instructions, by rising address
abbrev pub instruction_faults : ImageValue → List Cut → List FlowFault
instruction_faults image cuts = filter_map (fault_of image cuts) (placed_from 0 cuts)

unfoldable pub first_flow_fault : ImageValue → List Cut → Option FlowFault
first_flow_fault image cuts = option_or (row_fault image cuts) (slice_get (instruction_faults image cuts) 0)
