-- The images of programs that texts say, and how a text that says none is reported.
use Rattle.std.specs.Prelude.{◌≡◌, ◌⊎◌, ℕ, List, Ok, ⊤}
use Rattle.tp_image.specs.Image.{ImageValue}
use Rattle.tp_image.specs.Text.{text as image_text}
use Rattle.tpw_asm.specs.declared.program.Program.{Program}
use Rattle.tpw_asm.specs.declared.fault.AssemblyFault.{AssemblyFault}
use Rattle.tpw_asm.specs.declared.fault.AssemblyFault.TheVariants as assembly
use Rattle.tpw_asm.specs.Assembly.{IsAssembly, IsRefused}
use Rattle.tpw_text.specs.declared.finish.Source.{Source}
use Rattle.tpw_text.specs.declared.fault.SourceFault.{SourceFault}
use Rattle.tpw_text.specs.Faults.{IsRefusal}
use Rattle.tpw_text.specs.Programs.{source_said}
use Rattle.tpw_text.specs.Texts.{source_of}
use Rattle.tpw_files.specs.declared.failure.Failure.{Failure}
use Rattle.tpw_files.specs.declared.failure.Failure.TheVariants as failure
use Rattle.tpw_files.specs.declared.fault.InputFault.TheVariants as input
use Rattle.tpw_files.specs.Failures.{of_assembly, of_source}
use Rattle.tpw_files.specs.Unread.{IsNoText}

-- bytes are a program's image
pub record AreImageOf (program : Program) (bytes : List ℕ) : Type 0 where
  pub image : ImageValue
  pub assembly : IsAssembly program image
  pub spelled : bytes ≡ image_text image

-- bytes are the image of the program that an assembly text says
pub record IsAssembledTo (text bytes : List ℕ) : Type 0 where
  pub source : Source
  pub program : source_of text ≡ Ok (source_said source)
  pub image : AreImageOf source.program bytes

-- a failure says why the program of a source has no image, or that a growth was refused
pub record IsRefusalOf (source : Source) (e : Failure) : Type 0 where
  pub fault : AssemblyFault
  pub refused : IsRefused source.program fault
  pub reported : e ≡ of_assembly source.positions.items fault

-- a field out of range is reported at a statement, and not of the whole text
abbrev pub IsAtStatement : (whole e : Failure) → Type 0
IsAtStatement (failure.Input (input.Assembly (assembly.Field code))) (failure.Input (input.Field position range)) = ⊤
IsAtStatement whole e = ⊥

-- the same; a field out of range may be reported at the statement that says it
pub record IsRefusalIn (source : Source) (e : Failure) : Type 0 where
  pub whole : Failure
  pub refused : IsRefusalOf source whole
  pub reported : (e ≡ whole) ⊎ IsAtStatement whole e

-- a text says no program, or a growth was refused
pub record IsNoProgram (text : List ℕ) (e : Failure) : Type 0 where
  pub fault : SourceFault
  pub refused : IsRefusal (source_of text) fault
  pub reported : e ≡ of_source fault

-- a text says a program that has no image, or a growth was refused
pub record HasNoImage (text : List ℕ) (e : Failure) : Type 0 where
  pub source : Source
  pub program : source_of text ≡ Ok (source_said source)
  pub refused : IsRefusalIn source e

-- why an assembly text is assembled to nothing: want of memory, or what is wrong with the text
abbrev pub IsUnassembled : List ℕ → Failure → Type 0
IsUnassembled text e = (e ≡ failure.Memory) ⊎ (IsNoText text e ⊎ (IsNoProgram text e ⊎ HasNoImage text e))
