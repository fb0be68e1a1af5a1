-- An order: where the one means something, the other means it too. Names are ordered by what their PROCs and FUNCTIONs do.
use Rattle.std.proofs.Common.{◌≡◌, ℕ, ◌==◌, Bool, true, false, if◌then◌else◌, List, [], ◌∷◌, Option, Some, None, refl, sym, ap, ◌∙◌, subst}
use lib.Pointwise.{pointwise}
use Rattle.tpw_occam_terms.specs.declared.name.Primitive.{Primitive}
use Rattle.tpw_occam_terms.specs.declared.name.Primitive.TheVariants.{Int, Bool as Truth, Byte}
use Rattle.tpw_occam_terms.specs.declared.name.Name.{Name}
use Rattle.tpw_occam_meaning.specs.Maybe.{and_then, where_true}
use Rattle.tpw_occam_meaning.specs.Names.{Place, Form, Body, behind, Entry, Is, Procedure, Function, Routine, Nothing, Names, found}
use Rattle.tpw_occam_meaning.specs.States.{State}
use Rattle.tpw_occam_meaning.specs.Values.{Value, as_type}
use Rattle.tpw_occam_reading_laws.proofs.Plain.{name_of}

pub record Below {A : Type 0} (o p : Option A) : Type 0 where
  pub holds : (x : A) → o ≡ Some x → p ≡ Some x

pub below_refl : {A : Type 0} {o : Option A} → Below o o
below_refl = record { holds = λ x h. h }

pub below_none : {A : Type 0} {p : Option A} → Below None p
below_none = record { holds = λ x h. cc }

pub below_eq : {A : Type 0} {o p : Option A} → p ≡ o → Below o p
below_eq e = record { holds = λ x h. e ∙ h }

then_below : {A B : Type 0} (o p : Option A) (f g : A → Option B) → Below o p → ((x : A) → Below (f x) (g x))
    → (y : B) → and_then o f ≡ Some y → and_then p g ≡ Some y
then_below None p f g n m y h = cc
then_below (Some x) p f g n m y h = ap (λ q. and_then q g) (n.holds x refl) ∙ (m x).holds y h

pub below_then : {A B : Type 0} {o p : Option A} {f g : A → Option B} → Below o p → ((x : A) → Below (f x) (g x))
    → Below (and_then o f) (and_then p g)
below_then {o = o} {p = p} {f = f} {g = g} n m = record { holds = then_below o p f g n m }

pub below_where : {A : Type 0} (b : Bool) {o p : Option A} → Below o p → Below (where_true b o) (where_true b p)
below_where true n = n
below_where false n = below_none

pub below_as : {A : Type 0} (s t : Primitive) {o p : Option A} → Below o p → Below (as_type s t o) (as_type s t p)
below_as Int Int n = n
below_as Truth Truth n = n
below_as Byte Byte n = n
below_as s t n = below_none

-- ---- bodies, entries, names

pub record BodyBelow {R : Type 0} (does other : Body R) : Type 0 where
  pub at : (places : List Place) (d : ℕ) → Below (does places d) (other places d)

pub behind_below : {R : Type 0} {does other : Body R} (place : Place) → BodyBelow does other → BodyBelow (behind place does) (behind place other)
behind_below place n = record { at = λ places d. n.at (place ∷ places) d }

pub record RoutineBelow (does other : List Place → Body (State → State)) : Type 0 where
  pub at : (results : List Place) → BodyBelow (does results) (other results)

abbrev pub EntryBelow : Entry → Entry → Type 0
EntryBelow (Is place) entry = entry ≡ Is place
EntryBelow (Procedure forms does) entry = (other : Body (State → State)) × (entry ≡ Procedure forms other) × BodyBelow does other
EntryBelow (Function of forms gives) entry = (other : Body Value) × (entry ≡ Function of forms other) × BodyBelow gives other
EntryBelow (Routine types forms does) entry =
    (other : List Place → Body (State → State)) × (entry ≡ Routine types forms other) × RoutineBelow does other
EntryBelow Nothing entry = entry ≡ Nothing

abbrev pub ListBelow : Names → Names → Type 0
ListBelow [] n = n ≡ []
ListBelow ((name, entry) ∷ more) n =
    (other : Entry) × (others : Names) × (n ≡ (name, other) ∷ others) × EntryBelow entry other × ListBelow more others

pub record NamesBelow (m n : Names) : Type 0 where
  pub listed : ListBelow m n

pub entry_refl : (entry : Entry) → EntryBelow entry entry
entry_refl (Is place) = refl
entry_refl (Procedure forms does) = (does, refl, record { at = λ places d. below_refl })
entry_refl (Function of forms gives) = (gives, refl, record { at = λ places d. below_refl })
entry_refl (Routine types forms does) = (does, refl, record { at = λ results. record { at = λ places d. below_refl } })
entry_refl Nothing = refl

list_refl : (names : Names) → ListBelow names names
list_refl [] = refl
list_refl ((name, entry) ∷ more) = (entry, more, refl, entry_refl entry, list_refl more)

pub names_refl : (names : Names) → NamesBelow names names
names_refl names = record { listed = list_refl names }

pub names_more : {m n : Names} (bytes : List ℕ) (entry other : Entry) → EntryBelow entry other → NamesBelow m n
    → NamesBelow ((bytes, entry) ∷ m) ((bytes, other) ∷ n)
names_more {n = n} bytes entry other e h = record { listed = (other, n, refl, e, h.listed) }

either : (b : Bool) (x y u v : Entry) → EntryBelow x u → EntryBelow y v → EntryBelow (if b then x else y) (if b then u else v)
either true x y u v h k = h
either false x y u v h k = k

list_found : (name : Name) (m n : Names) → ListBelow m n → EntryBelow (found name m) (found (name_of name.text.now) n)
list_found name [] n h = ap (found (name_of name.text.now)) h
list_found name ((bytes, entry) ∷ more) n h =
    subst (λ l. EntryBelow (found name ((bytes, entry) ∷ more)) (found (name_of name.text.now) l)) (sym h.2)
    (either (pointwise (λ a b. a == b) name.text.now bytes) entry (found name more) h.0 (found (name_of name.text.now) h.1) h.3
    (list_found name more h.1 h.4))

pub found_below : (name : Name) (m n : Names) → NamesBelow m n → EntryBelow (found name m) (found (name_of name.text.now) n)
found_below name m n h = list_found name m n h.listed

-- what does not look into bodies is the same
pub same_lookup : {A : Type 0} (f : Entry → A)
    → ((forms : List Form) (b c : Body (State → State)) → f (Procedure forms b) ≡ f (Procedure forms c))
    → ((of : Primitive) (forms : List Form) (b c : Body Value) → f (Function of forms b) ≡ f (Function of forms c))
    → ((types : List Primitive) (forms : List Form) (b c : List Place → Body (State → State)) → f (Routine types forms b) ≡ f (Routine types forms c))
    → (x y : Entry) → EntryBelow x y → f y ≡ f x
same_lookup f p q r (Is place) y h = ap f h
same_lookup f p q r (Procedure forms does) y h = ap f h.1 ∙ p forms h.0 does
same_lookup f p q r (Function of forms gives) y h = ap f h.1 ∙ q of forms h.0 gives
same_lookup f p q r (Routine types forms does) y h = ap f h.1 ∙ r types forms h.0 does
same_lookup f p q r Nothing y h = ap f h
