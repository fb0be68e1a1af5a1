-- What a text is assembled to, and what is reported where it is to nothing.
use Rattle.std.proofs.Common.{◌≡◌, ◌∙◌, ℕ, List, Result, Ok, Err, IfErr, ap, sym, refl, inl, inr}
use Rattle.std.specs.Result.{IsErrAnd}
use Rattle.tpw_asm.specs.declared.fault.AssemblyFault.TheVariants as assembly
use Rattle.tpw_text.specs.declared.finish.Source.{Source}
use Rattle.tpw_text.specs.Programs.{source_said}
use Rattle.tpw_text.specs.Texts.{source_of}
use Rattle.tpw_files.specs.declared.failure.Failure.{Failure}
use Rattle.tpw_files.specs.declared.failure.Failure.TheVariants as failure
use Rattle.tpw_assembly.specs.Programs.{AreImageOf, IsAssembledTo, IsRefusalIn, IsUnassembled}

-- a growth that is refused while a fault is reported
pub without_memory : {A : Type 0} (source : Source) (r : Result A Failure) (e : Failure) → e ≡ failure.Memory → IsErrAnd r (λ x. x ≡ e)
    → IfErr r (IsRefusalIn source)
without_memory source (Ok a) e memory is = tt
without_memory source (Err x) e memory is = record {
  whole = failure.Memory;
  refused = record { fault = assembly.Memory; refused = tt; reported = refl };
  reported = inl (is ∙ memory);
}

-- what a text that is read is assembled to, or why it is not
pub is_assembled : (text read bytes : List ℕ) (source : Source) → read ≡ text → source_of read ≡ Ok (source_said source)
    → AreImageOf source.program bytes → IsAssembledTo text bytes
is_assembled text read bytes source same said image =
    record { source = source; program = ap source_of (sym same) ∙ said; image = image }

pub is_unassembled : (text read : List ℕ) (source : Source) (e : Failure) → read ≡ text → source_of read ≡ Ok (source_said source)
    → IsRefusalIn source e → IsUnassembled text e
is_unassembled text read source e same said refused =
    inr (inr (inr (record { source = source; program = ap source_of (sym same) ∙ said; refused = refused })))
