-- The text of an image.
use Rattle.std.specs.Prelude.{◌≡◌, ℕ, List, Option}
use Rattle.tpw_asm.specs.declared.program.Program.{Program}
use Rattle.tpw_text.specs.declared.remarks.Remarks.{Remarks}
use Rattle.tpw_text.specs.Programs.{program_said}
use Rattle.tpw_text.specs.Written.{text_of}
use Rattle.tp_image.specs.Image.{ImageValue}
use Rattle.tp_image.specs.Text.{IsTextOf}
use Rattle.tpw_asm.specs.Assembly.{IsAssembly}
use Rattle.tpw_files.specs.Texts.{Says}

-- bytes are a program's text, with some remarks or none
pub record AreTextOf (program : Program) (bytes : List ℕ) : Type 0 where
  pub remarks : Option Remarks
  pub written : bytes ≡ text_of (program_said program) remarks

-- a text has the image that another says in hexadecimal: it is that of a program which is assembled to the image
pub record IsDisassembled (text written : List ℕ) : Type 0 where
  pub bytes : List ℕ
  pub said : Says text bytes
  pub image : ImageValue
  pub read : IsTextOf bytes image
  pub program : Program
  pub assembled : IsAssembly program image
  pub shown : AreTextOf program written
