-- What a rule that refused nothing passed through.
use Rattle.std.proofs.Common.{◌≡◌, Bool, true, false, Result, Ok, Err, Option, Some, None, refl}
use Rattle.tp_state.specs.Answer.{◌>>=◌, ◌>>◌, unless, found}

pub through : {A B E P : Type 0} (r : Result A E) (f : A → Result B E) (y : B) → (r >>= f) ≡ Ok y → ((x : A) → r ≡ Ok x → f x ≡ Ok y → P) → P
through (Ok x) f y e go = go x refl e
through (Err x) f y e go = cc

pub past : {A B E P : Type 0} (r : Result A E) (q : Result B E) (y : B) → (r >> q) ≡ Ok y → (q ≡ Ok y → P) → P
past (Ok x) q y e go = go e
past (Err x) q y e go = cc

-- the first of the two is there, too
pub past_is : {A B E P : Type 0} (r : Result A E) (q : Result B E) (y : B) → (r >> q) ≡ Ok y → ((x : A) → r ≡ Ok x → q ≡ Ok y → P) → P
past_is (Ok x) q y e go = go x refl e
past_is (Err x) q y e go = cc

-- it does not matter what it is
pub bound : {A B E : Type 0} (r : Result A E) (q : Result B E) (y : B) → (r >> q) ≡ Ok y → (r >>= (λ x. q)) ≡ Ok y
bound (Ok x) q y e = e
bound (Err x) q y e = cc

pub held : {B E P : Type 0} (c : E) (b : Bool) (r : Result B E) (y : B) → (unless c b >> r) ≡ Ok y → (b ≡ true → r ≡ Ok y → P) → P
held c true r y e go = go refl e
held c false r y e go = cc

pub holds : {E : Type 0} (c : E) (b x : Bool) → unless c b ≡ Ok x → b ≡ true
holds c true x e = refl
holds c false x e = cc

pub found_is : {A E : Type 0} (c : E) (o : Option A) (x : A) → found c o ≡ Ok x → o ≡ Some x
found_is c (Some y) x e = cc
found_is c None x e = cc

pub same_Ok : {A E : Type 0} (x y : A) → ◌≡◌ {A = Result A E} (Ok x) (Ok y) → x ≡ y
same_Ok x y e = cc

pub true_false : {P : Type 0} → ◌≡◌ {A = Bool} true false → P
true_false e = cc
