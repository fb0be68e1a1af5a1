-- The names of inputs, and failures that name a file.
use Rattle.std.specs.Prelude.{◌≡◌, ℕ, Bool, true, false, List, codes, string_bytes}
use Rattle.std.specs.Str.{bytes_eq}
use Rattle.tpw_files.specs.declared.failure.Failure.{Failure}
use Rattle.tpw_files.specs.declared.failure.Failure.TheVariants as failure

-- a file's name is that of standard input
abbrev pub is_standard : List ℕ → Bool
is_standard name = bytes_eq name (codes "-")

-- a failure is another, where a fault of an input is one of the file of a name
abbrev pub IsInFile : (name : List ℕ) → (why e : Failure) → Type 0
IsInFile name (failure.Input fault) (failure.InStandard again) = (is_standard name ≡ true) × (again ≡ fault)
IsInFile name (failure.Input fault) (failure.File text again) =
    (is_standard name ≡ false) × (string_bytes text ≡ name) × (again ≡ fault)
IsInFile name (failure.Input fault) e = ⊥
IsInFile name why e = e ≡ why
