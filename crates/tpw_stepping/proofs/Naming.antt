-- A word that begins with neither a plus nor 0x names what its decimal digits write.
use Rattle.std.proofs.Common.{◌≡◌, ◌<◌, ◌^◌, ℕ, List, ◌++◌, codes, Option, Some, None, MatchOption, inl, inr}
use Rattle.tpw_step.specs.declared.span.Place.{Place}
use Rattle.tpw_step.specs.declared.span.Place.TheVariants.{Address, Count}
use Rattle.tpw_stepping.specs.Places.{Names, Writes}

-- what the digits of a text write as an address
abbrev WritesAddress : List ℕ → Option Place → Type 0
WritesAddress word o = MatchOption o ((address : ℕ) → address < 2 ^ 32 → Writes 10 word address → ⊥)
    (λ place. (address : ℕ) × (place ≡ Address address) × (address < 2 ^ 32) × Writes 10 word address)

pub names_decimal : (word : List ℕ) (o : Option Place) → ((rest : List ℕ) → word ≡ codes "+" ++ rest → ⊥)
    → ((rest : List ℕ) → word ≡ codes "0x" ++ rest → ⊥) → WritesAddress word o → MatchOption o ((place : Place) → Names word place → ⊥) (Names word)
names_decimal word None plus hex none = by
  where
    by : (place : Place) → Names word place → ⊥
    by (Address address) (small, inl digits) = none address small digits
    by (Address address) (small, inr is) = hex is.0 is.1
    by (Count steps) (small, is) = plus is.0 is.1
names_decimal word (Some place) plus hex some = rw some.1 (some.2, inl some.3)
