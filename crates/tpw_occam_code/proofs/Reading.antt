-- The value of an expression depends on what it reads alone.
use Rattle.std.proofs.Common.{◌≡◌, ◌⊎◌, inl, inr, ◌≤◌, ◌<◌, [], ◌∷◌, ℕ, zero, suc, List, length, Bool, false, true, nat_eq, refl, ap, sym, ◌∙◌, arith}
use Rattle.std.specs.Prelude.{slice_index, slice_set, ◌||◌, ◌==◌}
use Rattle.std.proofs.Math.Bool.{or_assoc, or_comm}
use Rattle.std.proofs.lemmas.Bool.{eqb-true, eq-eqb, cases_lt}
use Rattle.tpw_occam_core.specs.declared.arithmetic.Answer.{Answer}
use Rattle.tpw_occam_core.specs.declared.kind.Kind.{Kind}
use Rattle.tpw_occam_core.specs.declared.expression.Expression.{Expression}
use Rattle.tpw_occam_core.specs.declared.expression.Expression.TheVariants.{Constant, Variable, Element', Checked', Binary', Complement', Not', LowByte', And', Or', Let'}
use Rattle.tpw_occam_core.specs.declared.process.Target.{Target}
use Rattle.tpw_occam_core.specs.declared.process.Target.TheVariants as target
use Rattle.tpw_occam_core.specs.declared.process.Assignment.{Assignment}
use Rattle.tp_words.specs.Words.{complement}
use Rattle.tp_words.specs.Numbers.{truth}
use Rattle.tpw_occam_core.specs.Arithmetic.{answer, pure, subscript, low_byte, applied}
use Rattle.tpw_occam_core.specs.Arrays.{size}
use Rattle.tpw_occam_core.specs.Meaning.{Store, value_of, bind, element_at, both, either, array_of, with_value, subscript_of, stored, flagged, assigned}
use Rattle.tpw_occam_expressions.specs.Computing.{reads}
use Rattle.tpw_occam_code.specs.Assigning.{reads_array}
use Rattle.tpw_occam_expressions.proofs.Naming.{slice_same, slice_other, slice_length}

-- two states are the same in what an expression reads
pub record SameFor (e : Expression) (s t : Store) : Type 0 where
  pub count : length s.values ≡ length t.values
  pub values : (x : ℕ) → reads e x ≡ true → slice_index s.values x ≡ slice_index t.values x
  pub arrays : (a : ℕ) → reads_array e a ≡ true → array_of s a ≡ array_of t a

or_left : (a b : Bool) → a ≡ true → (a || b) ≡ true
or_left true b e = refl
or_left false b e = cc

or_right : (a b : Bool) → b ≡ true → (a || b) ≡ true
or_right true b e = refl
or_right false b e = e

-- for parts of an expression
same_part : (whole part : Expression) (s t : Store) → ((x : ℕ) → reads part x ≡ true → reads whole x ≡ true)
    → ((a : ℕ) → reads_array part a ≡ true → reads_array whole a ≡ true) → SameFor whole s t → SameFor part s t
same_part whole part s t values arrays same = record {
  count = same.count;
  values = λ x h. same.values x (values x h);
  arrays = λ a h. same.arrays a (arrays a h);
}

pub set_beyond : (xs : List ℕ) (x w : ℕ) → length xs ≤ x → slice_set xs x w ≡ xs
set_beyond [] x w h = refl
set_beyond (y ∷ xs) zero w h = absurd (omega (arith, h))
set_beyond (y ∷ xs) (suc x) w h = ap (λ l. y ∷ l) (set_beyond xs x w (omega (arith, h)))

-- a variable that takes a word in both
same_set : (xs ys : List ℕ) (y w x : ℕ) → length xs ≡ length ys → slice_index xs x ≡ slice_index ys x
    → slice_index (slice_set xs y w) x ≡ slice_index (slice_set ys y w) x
same_set xs ys y w x long same = by_name (nat_eq y x) refl
  where
    by_length : y ≡ x → (x < length xs) ⊎ (length xs ≤ x) → slice_index (slice_set xs y w) x ≡ slice_index (slice_set ys y w) x
    by_length is (inl less) =
        ap (λ z. slice_index (slice_set xs z w) x) is ∙ slice_same xs x w 0 less
        ∙ sym (ap (λ z. slice_index (slice_set ys z w) x) is ∙ slice_same ys x w 0 (omega (arith, long, less)))
    by_length is (inr more) =
        ap (λ l. slice_index l x) (set_beyond xs y w (omega (arith, is, more))) ∙ same
        ∙ sym (ap (λ l. slice_index l x) (set_beyond ys y w (omega (arith, is, long, more))))

    by_name : (b : Bool) → nat_eq y x ≡ b → slice_index (slice_set xs y w) x ≡ slice_index (slice_set ys y w) x
    by_name false e = slice_other xs y x w 0 e ∙ same ∙ sym (slice_other ys y x w 0 e)
    by_name true e = by_length (eqb-true y x e) (cases_lt x (length xs))

same_within : (e : Expression) (s t : Store) (y w : ℕ) → SameFor e s t → SameFor e (with_value y w s) (with_value y w t)
same_within e s t y w same = record {
  count = slice_length s.values y w ∙ same.count ∙ sym (slice_length t.values y w);
  values = λ x h. same_set s.values t.values y w x same.count (same.values x h);
  arrays = same.arrays;
}

-- the value is the same
pub value_same : (e : Expression) (s t : Store) → SameFor e s t → value_of e s ≡ value_of e t
value_same (Constant c) s t same = refl
value_same (Variable x) s t same = ap pure (same.values x (eq-eqb x x refl))
value_same (Element' a view p e) s t same =
    let one = value_same e s t (same_part (Element' a view p e) e s t (λ x h. h) (λ b h. or_right (a == b) _ h) same) in
    ap (λ v. bind v (element_at view (array_of s a))) one
    ∙ ap (λ l. bind (value_of e t) (element_at view l)) (same.arrays a (or_left (a == a) _ (eq-eqb a a refl)))
value_same (Checked' below p e) s t same =
    ap (λ v. bind v (subscript below)) (value_same e s t (same_part (Checked' below p e) e s t (λ x h. h) (λ b h. h) same))
value_same (Binary' operator p e q f) s t same =
    let one = value_same e s t (same_part (Binary' operator p e q f) e s t (λ x h. or_left (reads e x) _ h) (λ b h. or_left (reads_array e b) _ h) same) in
    let two = value_same f s t (same_part (Binary' operator p e q f) f s t (λ x h. or_right (reads e x) _ h) (λ b h. or_right (reads_array e b) _ h) same) in
    ap (λ v. bind v (λ b. bind (value_of f s) (applied operator b))) one
    ∙ ap (λ v. bind (value_of e t) (λ b. bind v (applied operator b))) two
value_same (Complement' p e) s t same =
    ap (λ v. bind v (λ a. pure (complement a))) (value_same e s t (same_part (Complement' p e) e s t (λ x h. h) (λ b h. h) same))
value_same (Not' p e) s t same =
    ap (λ v. bind v (λ a. pure (truth (a == 0)))) (value_same e s t (same_part (Not' p e) e s t (λ x h. h) (λ b h. h) same))
value_same (LowByte' p e) s t same =
    ap (λ v. bind v low_byte) (value_same e s t (same_part (LowByte' p e) e s t (λ x h. h) (λ b h. h) same))
value_same (And' p e q f) s t same =
    let one = value_same e s t (same_part (And' p e q f) e s t (λ x h. or_left (reads e x) _ h) (λ b h. or_left (reads_array e b) _ h) same) in
    let two = value_same f s t (same_part (And' p e q f) f s t (λ x h. or_right (reads e x) _ h) (λ b h. or_right (reads_array e b) _ h) same) in
    ap (λ v. bind v (λ a. both a (value_of f s))) one ∙ ap (λ v. bind (value_of e t) (λ a. both a v)) two
value_same (Or' p e q f) s t same =
    let one = value_same e s t (same_part (Or' p e q f) e s t (λ x h. or_left (reads e x) _ h) (λ b h. or_left (reads_array e b) _ h) same) in
    let two = value_same f s t (same_part (Or' p e q f) f s t (λ x h. or_right (reads e x) _ h) (λ b h. or_right (reads_array e b) _ h) same) in
    ap (λ v. bind v (λ a. either a (value_of f s))) one ∙ ap (λ v. bind (value_of e t) (λ a. either a v)) two
value_same (Let' y p e q f) s t same =
    let one = value_same e s t (same_part (Let' y p e q f) e s t (λ x h. or_left (reads e x) _ h) (λ b h. or_left (reads_array e b) _ h) same) in
    let inner = same_part (Let' y p e q f) f s t (λ x h. or_right (reads e x) _ h) (λ b h. or_right (reads_array e b) _ h) same in
    let w = (value_of e t).word in
    let two = value_same f (with_value y w s) (with_value y w t) (same_within f s t y w inner) in
    ap (λ v. bind v (λ a. value_of f (with_value y a s))) one
    ∙ ap (λ v. answer v.word ((value_of e t).flag || v.flag)) two

-- ---- the flag is not read

pub value_flagged : (e : Expression) (flag : Bool) (s : Store) → value_of e (flagged flag s) ≡ value_of e s
value_flagged e flag s = value_same e (flagged flag s) s (record { count = refl; values = λ x h. refl; arrays = λ a h. refl })

pub subscript_flagged : (t : Target) (flag : Bool) (s : Store) → subscript_of t (flagged flag s) ≡ subscript_of t s
subscript_flagged (target.Variable x) flag s = refl
subscript_flagged (target.Element a view e) flag s = ap (λ v. bind v (subscript (size view (array_of s a)))) (value_flagged e flag s)

pub stored_flagged : (kinds : List Kind) (t : Target) (i word : ℕ) (flag : Bool) (s : Store)
    → stored kinds t i word (flagged flag s) ≡ flagged flag (stored kinds t i word s)
stored_flagged kinds (target.Variable x) i word flag s = refl
stored_flagged kinds (target.Element a view e) i word flag s = refl

pub flagged_both : (f g : Bool) (s : Store) → flagged g (flagged f s) ≡ flagged f (flagged g s)
flagged_both f g s = ap (λ h. record s { flag = h }) (or_assoc s.flag f g ∙ ap (λ h. s.flag || h) (or_comm f g) ∙ sym (or_assoc s.flag g f))

pub assigned_flagged : (kinds : List Kind) (all : List Assignment) (flag : Bool) (s : Store)
    → assigned kinds all (flagged flag s) ≡ flagged flag (assigned kinds all s)
assigned_flagged kinds [] flag s = refl
assigned_flagged kinds (a ∷ more) flag s =
    let v = value_of a.value s in
    let i = subscript_of a.target s in
    let t = flagged flag s in
    ap (λ (w : Answer). flagged (w.flag || (subscript_of a.target t).flag) (stored kinds a.target (subscript_of a.target t).word w.word (assigned kinds more t)))
    (value_flagged a.value flag s)
    ∙ ap (λ (j : Answer). flagged (v.flag || j.flag) (stored kinds a.target j.word v.word (assigned kinds more t))) (subscript_flagged a.target flag s)
    ∙ ap (λ r. flagged (v.flag || i.flag) (stored kinds a.target i.word v.word r)) (assigned_flagged kinds more flag s)
    ∙ ap (flagged (v.flag || i.flag)) (stored_flagged kinds a.target i.word v.word flag (assigned kinds more s))
    ∙ flagged_both flag (v.flag || i.flag) (stored kinds a.target i.word v.word (assigned kinds more s))
