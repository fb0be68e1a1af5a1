-- What may be refused, one thing after another: the `do` of the rules.
use Rattle.std.specs.Prelude.{Bool, true, false, Option, Some, None, Result, Ok, Err}

-- the first refusal is that of the whole
infixl 1 ◌>>=◌ ◌>>◌
abbrev pub ◌>>=◌ : {A B E : Type 0} → Result A E → (A → Result B E) → Result B E
Err e >>= f = Err e
Ok x >>= f = f x

abbrev pub ◌>>◌ : {A B E : Type 0} → Result A E → Result B E → Result B E
Err e >> p = Err e
Ok x >> p = p

-- refused, unless the test holds
abbrev pub unless : {E : Type 0} → E → Bool → Result Bool E
unless e true = Ok true
unless e false = Err e

-- refused, unless it is there
abbrev pub found : {A E : Type 0} → E → Option A → Result A E
found e (Some x) = Ok x
found e None = Err e

-- what a call that changes a value in place has answered, with the value that it left
abbrev pub answered : {A B E : Type 0} → Result A E → B → Result B E
answered (Ok x) new = Ok new
answered (Err e) new = Err e
