-- Two things agree where they are one if there are both. Names are joined where there are names above both.
use Rattle.std.proofs.Common.{◌≡◌, ℕ, ◌+◌, Bool, true, false, if◌then◌else◌, List, ◌∷◌, Option, Some, None, refl, sym, ap, ◌∙◌, subst}
use Rattle.tpw_occam_terms.specs.declared.name.Primitive.{Primitive}
use Rattle.tpw_occam_terms.specs.declared.name.Primitive.TheVariants.{Int, Bool as Truth, Byte}
use Rattle.tpw_occam_meaning.specs.declared.types.Sizes.{Sizes}
use Rattle.tpw_occam_meaning.specs.declared.types.Sizes.TheVariants as sizes
use Rattle.tpw_occam_meaning.specs.declared.types.Parameters.{Parameters}
use Rattle.tpw_occam_meaning.specs.Maybe.{and_then, where_true}
use Rattle.tpw_occam_meaning.specs.Names.{Word, Constant, Kept, Place, Form, Body, Entry, Procedure, Function, Routine, Names, bound, taking}
use Rattle.tpw_occam_meaning.specs.Effects.{Effect, given}
use Rattle.tpw_occam_meaning.specs.Types.{by_sizes}
use Rattle.tpw_occam_meaning.specs.States.{State}
use Rattle.tpw_occam_meaning.specs.Values.{Value, Known, Varying, as_type}
use Rattle.tpw_occam_reading_laws.proofs.PlainTypes.{plain_sizes, plain_parameters}
use Rattle.tpw_occam_reading_laws.proofs.Order.{Below, BodyBelow, EntryBelow, entry_refl, NamesBelow, names_more, names_refl}
use Rattle.tpw_occam_reading_laws.proofs.TypeMeanings.{BoundBelow, bound_below}

pub record Agree {A : Type 0} (o p : Option A) : Type 0 where
  pub same : (x y : A) → o ≡ Some x → p ≡ Some y → x ≡ y

some_one : {A : Type 0} (o : Option A) (x y : A) → o ≡ Some x → o ≡ Some y → x ≡ y
some_one o x y h k = cc (sym h ∙ k)

pub agree_refl : {A : Type 0} {o : Option A} → Agree o o
agree_refl {o = o} = record { same = some_one o }

pub agree_left_none : {A : Type 0} {p : Option A} → Agree None p
agree_left_none = record { same = λ x y h k. cc }

pub agree_right_none : {A : Type 0} {o : Option A} → Agree o None
agree_right_none = record { same = λ x y h k. cc }

pub agree_between : {A : Type 0} {o p q r : Option A} → Below o q → Below p r → q ≡ r → Agree o p
agree_between {r = r} n m e = record { same = λ x y h k. some_one r x y (sym e ∙ n.holds x h) (m.holds y k) }

then_same : {A B : Type 0} (o p : Option A) (f g : A → Option B) → Agree o p → ((x : A) → Agree (f x) (g x))
    → (x y : B) → and_then o f ≡ Some x → and_then p g ≡ Some y → x ≡ y
then_same None p f g a b x y h k = cc
then_same (Some u) None f g a b x y h k = cc
then_same (Some u) (Some v) f g a b x y h k = (b u).same x y h (ap g (a.same u v refl refl) ∙ k)

pub agree_then : {A B : Type 0} {o p : Option A} {f g : A → Option B} → Agree o p → ((x : A) → Agree (f x) (g x))
    → Agree (and_then o f) (and_then p g)
agree_then {o = o} {p = p} {f = f} {g = g} a b = record { same = then_same o p f g a b }

any_same : {A C B : Type 0} (o : Option A) (p : Option C) (f : A → Option B) (g : C → Option B) → ((x : A) (y : C) → Agree (f x) (g y))
    → (x y : B) → and_then o f ≡ Some x → and_then p g ≡ Some y → x ≡ y
any_same None p f g b x y h k = cc
any_same (Some u) None f g b x y h k = cc
any_same (Some u) (Some v) f g b x y h k = (b u v).same x y h k

-- whatever the first of each is
pub agree_any : {A C B : Type 0} (o : Option A) (p : Option C) {f : A → Option B} {g : C → Option B} → ((x : A) (y : C) → Agree (f x) (g y))
    → Agree (and_then o f) (and_then p g)
agree_any o p {f = f} {g = g} b = record { same = any_same o p f g b }

pub agree_where : {A : Type 0} (b c : Bool) {o p : Option A} → Agree o p → Agree (where_true b o) (where_true c p)
agree_where true true a = a
agree_where true false a = agree_right_none
agree_where false c a = agree_left_none

pub agree_if : {A : Type 0} (b c : Bool) → b ≡ c → {x y u v : Option A} → Agree x u → Agree y v
    → Agree (if b then x else y) (if c then u else v)
agree_if true true e a b = a
agree_if false false e a b = b
agree_if true false e a b = cc
agree_if false true e a b = cc

pub agree_given : (d : ℕ) (v : Value) (next other : Word → ℕ → Effect) → ((w : Word) (k : ℕ) → Agree (next w k) (other w k))
    → Agree (given d v next) (given d v other)
agree_given d (Known word false) next other h = h (Constant word) d
agree_given d (Known word true) next other h = agree_then (h (Kept d) (d + 1)) (λ f. agree_refl)
agree_given d (Varying f) next other h = agree_then (h (Kept d) (d + 1)) (λ f. agree_refl)

pub agree_below : {A : Type 0} {o p q r : Option A} → Below o q → Below p r → Agree q r → Agree o p
agree_below n m a = record { same = λ x y h k. a.same x y (n.holds x h) (m.holds y k) }

pub agree_as : {A : Type 0} (s t : Primitive) {o p : Option A} → Agree o p → Agree (as_type s t o) (as_type s t p)
agree_as Int Int a = a
agree_as Truth Truth a = a
agree_as Byte Byte a = a
agree_as s t a = agree_left_none

-- ---- of types that are the same but for places

by_sizes_plain : {A : Type 0} (s : Sizes) (one other : A) → by_sizes (plain_sizes s) one other ≡ by_sizes s one other
by_sizes_plain sizes.End one other = refl
by_sizes_plain (sizes.Open' p others) one other = refl
by_sizes_plain (sizes.Of' e p others) one other = refl

by_one_sizes : {A : Type 0} (s : Sizes) {one other uno altro : Option A} → Agree one uno → Agree other altro
    → Agree (by_sizes s one other) (by_sizes s uno altro)
by_one_sizes sizes.End a b = a
by_one_sizes (sizes.Open' p others) a b = b
by_one_sizes (sizes.Of' e p others) a b = b

pub agree_by_sizes : {A : Type 0} (s t : Sizes) (one other uno altro : Option A) → plain_sizes s ≡ plain_sizes t → Agree one uno → Agree other altro
    → Agree (by_sizes s one other) (by_sizes t uno altro)
agree_by_sizes s t one other uno altro e a b =
    subst (λ z. Agree z (by_sizes t uno altro)) (by_sizes_plain s one other)
    (subst (λ z. Agree (by_sizes (plain_sizes s) one other) z) (ap (λ r. by_sizes r uno altro) e ∙ by_sizes_plain t uno altro)
    (by_one_sizes (plain_sizes s) a b))

-- ---- names

pub record Joined (m n : Names) : Type 0 where
  pub upper : Names
  pub left : NamesBelow m upper
  pub right : NamesBelow n upper

pub joined_refl : (m : Names) → Joined m m
joined_refl m = record { upper = m; left = names_refl m; right = names_refl m }

joined_more : {m n : Names} → Joined m n → (a b : List ℕ) → a ≡ b → (x y z : Entry) → EntryBelow x z → EntryBelow y z
    → Joined ((a, x) ∷ m) ((b, y) ∷ n)
joined_more {m} {n} j a b e x y z h k = record {
  upper = (a, z) ∷ j.upper;
  left = names_more a x z h j.left;
  right = subst (λ c. NamesBelow ((b, y) ∷ n) ((c, z) ∷ j.upper)) (sym e) (names_more b y z k j.right);
}

pub joined_same : {m n : Names} → Joined m n → (a b : List ℕ) → a ≡ b → (entry : Entry) → Joined ((a, entry) ∷ m) ((b, entry) ∷ n)
joined_same j a b e entry = joined_more j a b e entry entry entry (entry_refl entry) (entry_refl entry)

-- one of two, and else the other
abbrev joint : {R : Type 0} → Option R → Option R → Option R
joint None p = p
joint (Some x) p = Some x

joint_left : {R : Type 0} (o p : Option R) → Below o (joint o p)
joint_left None p = record { holds = λ x h. cc }
joint_left (Some y) p = record { holds = λ x h. h }

joint_right : {R : Type 0} (o p : Option R) → Agree o p → Below p (joint o p)
joint_right None p a = record { holds = λ x h. h }
joint_right (Some y) p a = record { holds = λ x h. ap (λ z. Some z) (a.same y x refl h) }

pub record BodiesAgree {R : Type 0} (does other : Body R) : Type 0 where
  pub at : (places : List Place) (d : ℕ) → Agree (does places d) (other places d)

abbrev joint_body : {R : Type 0} → Body R → Body R → Body R
joint_body does other places d = joint (does places d) (other places d)

body_left : {R : Type 0} (does other : Body R) → BodyBelow does (joint_body does other)
body_left does other = record { at = λ places d. joint_left (does places d) (other places d) }

body_right : {R : Type 0} (does other : Body R) → BodiesAgree does other → BodyBelow other (joint_body does other)
body_right does other a = record { at = λ places d. joint_right (does places d) (other places d) (a.at places d) }

pub joined_procedure : {m n : Names} → Joined m n → (a b : List ℕ) → a ≡ b → (forms : List Form) (does other : Body (State → State))
    → BodiesAgree does other → Joined ((a, Procedure forms does) ∷ m) ((b, Procedure forms other) ∷ n)
joined_procedure j a b e forms does other h =
    joined_more j a b e (Procedure forms does) (Procedure forms other) (Procedure forms (joint_body does other))
    (joint_body does other, refl, body_left does other) (joint_body does other, refl, body_right does other h)

pub joined_function : {m n : Names} → Joined m n → (a b : List ℕ) → a ≡ b → (of : Primitive) (forms : List Form) (gives other : Body Value)
    → BodiesAgree gives other → Joined ((a, Function of forms gives) ∷ m) ((b, Function of forms other) ∷ n)
joined_function j a b e of forms gives other h =
    joined_more j a b e (Function of forms gives) (Function of forms other) (Function of forms (joint_body gives other))
    (joint_body gives other, refl, body_left gives other) (joint_body gives other, refl, body_right gives other h)

pub record RoutinesAgree (does other : List Place → Body (State → State)) : Type 0 where
  pub at : (results : List Place) → BodiesAgree (does results) (other results)

abbrev joint_routine : (List Place → Body (State → State)) → (List Place → Body (State → State)) → List Place → Body (State → State)
joint_routine does other results = joint_body (does results) (other results)

pub joined_routine : {m n : Names} → Joined m n → (a b : List ℕ) → a ≡ b → (types : List Primitive) (forms : List Form)
    (does other : List Place → Body (State → State)) → RoutinesAgree does other
    → Joined ((a, Routine types forms does) ∷ m) ((b, Routine types forms other) ∷ n)
joined_routine j a b e types forms does other h =
    joined_more j a b e (Routine types forms does) (Routine types forms other) (Routine types forms (joint_routine does other))
    (joint_routine does other, refl, record { at = λ results. body_left (does results) (other results) })
    (joint_routine does other, refl, record { at = λ results. body_right (does results) (other results) (h.at results) })

-- ---- bodies by their parameters

pub record WithNames {R : Type 0} (body other : Names → ℕ → Option R) : Type 0 where
  pub at : (m n : Names) → Joined m n → (d : ℕ) → Agree (body m d) (other n d)

bound_joined : (p q : Option Names) (own others upper other : Names) → p ≡ Some upper → NamesBelow own upper → q ≡ Some other
    → NamesBelow others other → p ≡ q → Joined own others
bound_joined p q own others upper other h l k r e =
    let same : other ≡ upper = some_one q other upper k (sym e ∙ h) in
    record { upper = upper; left = l; right = subst (λ z. NamesBelow others z) same r }

taken_same : {R : Type 0} (o p q r : Option Names) (body other : Names → ℕ → Option R) (d : ℕ) → BoundBelow o q → BoundBelow p r → q ≡ r
    → WithNames body other → (x y : R) → and_then o (λ own. body own d) ≡ Some x → and_then p (λ own. other own d) ≡ Some y → x ≡ y
taken_same None p q r body other d b c e w x y h k = cc
taken_same (Some own) None q r body other d b c e w x y h k = cc
taken_same (Some own) (Some others) q r body other d b c e w x y h k =
    let l = b.holds own refl in
    let m = c.holds others refl in
    (w.at own others (bound_joined q r own others l.0 m.0 l.1 l.2 m.1 m.2 e) d).same x y h k

pub agree_taking : {R : Type 0} (a b : Parameters) → plain_parameters a ≡ plain_parameters b → (body other : Names → ℕ → Option R)
    → WithNames body other → (m n : Names) → Joined m n → BodiesAgree (taking a body m) (taking b other n)
agree_taking a b e body other w m n j = record {
  at = λ places d. record {
    same = taken_same (bound a places m) (bound b places n) (bound (plain_parameters a) places j.upper) (bound (plain_parameters b) places j.upper)
        body other d (bound_below a places m j.upper j.left) (bound_below b places n j.upper j.right) (ap (λ t. bound t places j.upper) e) w;
  };
}
