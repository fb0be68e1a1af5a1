-- The faults of a text.
use Rattle.std.specs.Prelude.{◌≡◌, ◌⊎◌, List, [], ◌∷◌, Result, Ok, Err}
use Rattle.tpw_text.specs.declared.words.Word.{Word}
use Rattle.tpw_text.specs.declared.fault.TextFault.{TextFault}
use Rattle.tpw_text.specs.declared.fault.TextFault.TheVariants.{Memory}
use Rattle.tpw_text.specs.declared.fault.SourceFault.{SourceFault}

-- at a word
abbrev pub fault_at : Word → TextFault → SourceFault
fault_at word fault = record { line = word.line; column = word.column; fault = fault }

-- a growth was refused: this fault has no place
abbrev pub out_of_memory : SourceFault
out_of_memory = record { line = 0; column = 0; fault = Memory }

-- what is read next, where there is no fault so far
abbrev pub then_read : {A B : Type 0} → Result A SourceFault → (A → Result B SourceFault) → Result B SourceFault
then_read (Ok a) next = next a
then_read (Err e) next = Err e

infixl 10 ◌>>=◌
abbrev pub ◌>>=◌ : {A B : Type 0} → Result A SourceFault → (A → Result B SourceFault) → Result B SourceFault
said >>= next = then_read said next

-- a fault is what the text has, or that a growth was refused
abbrev pub IsRefusal : {A : Type 0} → Result A SourceFault → SourceFault → Type 0
IsRefusal said e = (e ≡ out_of_memory) ⊎ (said ≡ Err e)

-- each of a list is read, and the first fault ends it
abbrev pub each_read : {A B : Type 0} → (A → Result B SourceFault) → List A → Result (List B) SourceFault
each_read read [] = Ok []
each_read read (x ∷ xs) = then_read (read x) (λ y. then_read (each_read read xs) (λ ys. Ok (y ∷ ys)))
