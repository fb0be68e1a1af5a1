-- The failure of each fault.
use Rattle.std.specs.Prelude.{ℕ, ◌-◌, List, Option, Some, None, slice_get}
use Rattle.tpw_asm.specs.declared.fault.LineFault.{LineFault}
use Rattle.tpw_asm.specs.declared.fault.AssemblyFault.{AssemblyFault}
use Rattle.tpw_asm.specs.declared.fault.AssemblyFault.TheVariants as assembly
use Rattle.tpw_text.specs.declared.words.Position.{Position}
use Rattle.tp_image.specs.declared.fault.ImageFault.{ImageFault}
use Rattle.tp_image.specs.declared.fault.ImageFault.TheVariants as image
use Rattle.tpw_text.specs.declared.fault.SourceFault.{SourceFault}
use Rattle.tpw_text.specs.declared.fault.TextFault.TheVariants as source
use Rattle.tpw_text.specs.declared.fault.TextFault.{TextFault as SourceKind}
use Rattle.tpw_files.specs.declared.failure.Failure.{Failure}
use Rattle.tpw_files.specs.declared.failure.Failure.TheVariants as failure
use Rattle.tpw_files.specs.declared.fault.InputFault.TheVariants as input
use Rattle.tpw_files.specs.declared.input.TextFault.{TextFault}
use Rattle.tpw_files.specs.declared.input.TextFault.TheVariants as text
use Rattle.tpw_files.specs.Positions.{position_behind}

-- by a fault of an input; to be out of memory is a failure of its own
abbrev pub of_text : List ℕ → TextFault → Failure
of_text bytes (text.NotADigit column) = failure.Input (input.NotADigit (position_behind bytes (column - 1)))
of_text bytes (text.HalfAByte column) = failure.Input (input.HalfAByte (position_behind bytes (column - 1)))
of_text bytes text.Memory = failure.Memory

abbrev pub of_image : ImageFault → Failure
of_image image.Memory = failure.Memory
of_image fault = failure.Input (input.Image fault)

abbrev pub of_kind : SourceKind → SourceFault → Failure
of_kind source.Memory fault = failure.Memory
of_kind kind fault = failure.Input (input.Source fault)

abbrev pub of_source : SourceFault → Failure
of_source fault = of_kind fault.fault fault

abbrev pub of_assembler : AssemblyFault → Failure
of_assembler assembly.Memory = failure.Memory
of_assembler fault = failure.Input (input.Assembly fault)

-- by why a program has no image: a line's fault comes with the place of the word that asks for the line
abbrev pub of_line : ℕ → LineFault → Option Position → Failure
of_line line wrong None = failure.Input (input.Assembly (assembly.Line line wrong))
of_line line wrong (Some position) = failure.Input (input.Line position wrong)

abbrev pub of_narrow : ℕ → Option Position → Failure
of_narrow line None = failure.Input (input.Assembly (assembly.Narrow line))
of_narrow line (Some position) = failure.Input (input.Narrow position)

abbrev pub of_assembly : List Position → AssemblyFault → Failure
of_assembly positions (assembly.Line line wrong) = of_line line wrong (slice_get positions line)
of_assembly positions (assembly.Narrow line) = of_narrow line (slice_get positions line)
of_assembly positions assembly.Memory = failure.Memory
of_assembly positions fault = failure.Input (input.Assembly fault)
