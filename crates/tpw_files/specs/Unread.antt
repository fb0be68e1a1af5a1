-- Bytes that are no text whose lines are read, and how that is reported.
use Rattle.std.specs.Prelude.{◌≡◌, ◌⊎◌, ◌==◌, ◌∷◌, [], ℕ, List, false, true, nat_eq}
use Rattle.std.specs.List.{list_any, starts_with}
use Rattle.std.specs.Str.{IsValidUpTo}
use Rattle.tpw_files.specs.declared.failure.Failure.{Failure}
use Rattle.tpw_files.specs.declared.failure.Failure.TheVariants as failure
use Rattle.tpw_files.specs.declared.fault.InputFault.TheVariants as input
use Rattle.tpw_files.specs.Positions.{position_behind}

-- a text is UTF-8 as far as the place that is reported
pub record IsNotUtf8 (text : List ℕ) (e : Failure) : Type 0 where
  pub bytes : ℕ
  pub valid : IsValidUpTo text bytes
  pub reported : e ≡ failure.Input (input.NotUtf8 (position_behind text bytes))

-- a text has no line feed, and is said to have carriage returns alone
pub record HasReturnsAlone (text : List ℕ) (e : Failure) : Type 0 where
  pub feeds : list_any (λ b. b == 10) text ≡ false
  pub reported : e ≡ failure.Input input.CarriageReturns

-- a text begins with a byte order mark
pub record IsMarked (text : List ℕ) (e : Failure) : Type 0 where
  pub begins : starts_with nat_eq text (239 ∷ 187 ∷ 191 ∷ []) ≡ true
  pub reported : e ≡ failure.Input input.ByteOrderMark

-- bytes are no text whose lines are read
abbrev pub IsNoText : List ℕ → Failure → Type 0
IsNoText text e = IsMarked text e ⊎ HasReturnsAlone text e ⊎ IsNotUtf8 text e
