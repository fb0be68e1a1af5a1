-- What each of a list says, one by one.
use Rattle.std.proofs.Common.{◌≡◌, ℕ, zero, suc, ◌+◌, Bool, true, false, if◌then◌else◌, List, [], ◌∷◌, ◌++◌, length}
use Rattle.std.proofs.Common.{map, take, get_or, Some, Result, Ok, Err, IsUtf8, inr, refl, ap, sym, ◌∙◌, ◌<◌, add-one}
use Rattle.std.proofs.Common.{append_assoc, slice_get, arith}
use Rattle.std.specs.List.{flat_map}
use Rattle.std.specs.Str.{is_utf8}
use Rattle.std.proofs.lemmas.Option.{same_Some}
use Rattle.std.proofs.lemmas.List.{append-nil}
use Rattle.std.proofs.lemmas.Str.{IsUtf8-from_is_utf8, is_utf8-from_IsUtf8}
use Rattle.tpw_text.specs.declared.fault.SourceFault.{SourceFault}
use Rattle.tpw_text.specs.Faults.{then_read, IsRefusal}
use Rattle.tpw_text.specs.declared.draft.LabelName.{LabelName}
use Rattle.tpw_text.specs.declared.finish.Label.{Label}
use Rattle.tpw_text.specs.Programs.{under, label_of, label_listed}
use Rattle.tpw_text.specs.Faults.{each_read}

-- a first one in front of the others
abbrev front : {B : Type 0} → Result B SourceFault → Result (List B) SourceFault → Result (List B) SourceFault
front r rest = then_read r (λ y. then_read rest (λ ys. Ok (y ∷ ys)))

parts : {B : Type 0} (r : Result B SourceFault) (rest : Result (List B) SourceFault) (ys : List B) → front r rest ≡ Ok ys → (z : B) × (zs : List B) × (r ≡ Ok z) × (rest ≡ Ok zs) × (ys ≡ z ∷ zs)
parts (Ok z) (Ok zs) ys e = (z, zs, refl, refl, cc)
parts (Ok z) (Err f) ys e = absurd (cc)
parts (Err f) rest ys e = absurd (cc)

-- one more, that has no fault
pub each_more : {A B : Type 0} (says : A → Result B SourceFault) (xs : List A) (i : ℕ) (d : A) (y : B) (ys : List B) →
    i < length xs → Ok y ≡ says (get_or xs i d) → each_read says (take i xs) ≡ Ok ys →
    each_read says (take (i + 1) xs) ≡ Ok (ys ++ y ∷ [])
each_more says xs i d y ys within here so_far = ap (λ n. each_read says (take n xs)) (add-one i) ∙ by_recursion says xs i d y ys within here so_far
  where
    by_recursion : {A B : Type 0} (says : A → Result B SourceFault) (xs : List A) (i : ℕ) (d : A) (y : B) (ys : List B)
        → i < length xs → Ok y ≡ says (get_or xs i d) → each_read says (take i xs) ≡ Ok ys →
        each_read says (take (suc i) xs) ≡ Ok (ys ++ y ∷ [])
    by_recursion says [] i d y ys within here so_far = absurd (omega arith)
    by_recursion says (w ∷ xs) zero d y ys within here so_far =
        let none : [] ≡ ys = cc in
        ap (λ r. front r (Ok [])) (sym here) ∙ ap (λ zs. Ok (zs ++ y ∷ [])) none
    by_recursion says (w ∷ xs) (suc i) d y ys within here so_far =
        let p = parts (says w) (each_read says (take i xs)) ys so_far in
        ap (λ r. front r (each_read says (take (suc i) xs))) p.2
        ∙ ap (λ r. front (Ok p.0) r) (by_recursion says xs i d y p.1 (omega arith) here p.3)
        ∙ ap (λ zs. Ok (zs ++ y ∷ [])) (sym p.4)

-- the first that has a fault
pub each_fault : {A B : Type 0} (says : A → Result B SourceFault) (xs : List A) (i : ℕ) (d : A) (e : SourceFault)
    (ys : List B) → i < length xs → Err e ≡ says (get_or xs i d) → each_read says (take i xs) ≡ Ok ys →
    IsRefusal (each_read says xs) e
each_fault says xs i d e ys within here so_far = inr (by_recursion says xs i d e ys within here so_far)
  where
    by_recursion : {A B : Type 0} (says : A → Result B SourceFault) (xs : List A) (i : ℕ) (d : A) (e : SourceFault)
        (ys : List B) → i < length xs → Err e ≡ says (get_or xs i d) → each_read says (take i xs) ≡ Ok ys →
        each_read says xs ≡ Err e
    by_recursion says [] i d e ys within here so_far = absurd (omega arith)
    by_recursion says (w ∷ xs) zero d e ys within here so_far = ap (λ r. front r (each_read says xs)) (sym here)
    by_recursion says (w ∷ xs) (suc i) d e ys within here so_far =
        let p = parts (says w) (each_read says (take i xs)) ys so_far in
        ap (λ r. front r (each_read says xs)) p.2 ∙ ap (λ r. front (Ok p.0) r) (by_recursion says xs i d e p.1 (omega arith) here p.3)

-- one more of what a list says, part by part
pub flat_map_more : {A B : Type 0} (says : A → List B) (xs : List A) (i : ℕ) (x : A) → slice_get xs i ≡ Some x → flat_map says (take (i + 1) xs) ≡ flat_map says (take i xs) ++ says x
flat_map_more says xs i x there = ap (λ n. flat_map says (take n xs)) (add-one i) ∙ by_recursion says xs i x there
  where
    by_recursion : {A B : Type 0} (says : A → List B) (xs : List A) (i : ℕ) (x : A) → slice_get xs i ≡ Some x → flat_map says (take (suc i) xs) ≡ flat_map says (take i xs) ++ says x
    by_recursion says [] i x there = absurd (cc)
    by_recursion says (w ∷ xs) zero x there = append-nil (says w) ∙ ap says (same_Some w x there)
    by_recursion says (w ∷ xs) (suc i) x there = ap (λ ys. says w ++ ys) (by_recursion says xs i x there) ∙ sym (append_assoc (says w) (flat_map says (take i xs)) (says x))

-- under a name that is UTF-8, and under one that is not
under_text : {A : Type 0} (name : List ℕ) (a : A) → IsUtf8 name → under name a ≡ a ∷ []
under_text name a text = rw (is_utf8-from_IsUtf8 name text) refl

under_other : {A : Type 0} (name : List ℕ) (a : A) → ¬ (IsUtf8 name) → under name a ≡ []
under_other name a other = by_test (is_utf8 name) a (λ e. other (IsUtf8-from_is_utf8 name e))
  where
    by_test : {A : Type 0} (b : Bool) (a : A) → (b ≡ true → ⊥) → (if b then a ∷ [] else []) ≡ []
    by_test true a never = absurd (never refl)
    by_test false a never = refl

mapped : {A B : Type 0} (f : A → B) (xs ys : List A) → map f (xs ++ ys) ≡ map f xs ++ map f ys
mapped f [] ys = refl
mapped f (x ∷ xs) ys = ap (λ zs. f x ∷ zs) (mapped f xs ys)

-- a label that is handed out, and one that is not
pub label_more : (labels labels' : List Label) (label : Label) (name : LabelName) → labels' ≡ labels ++ label ∷ [] →
    label.name.now ≡ name.word.text.now → label.place ≡ name.place → IsUtf8 name.word.text.now →
    map label_of labels' ≡ map label_of labels ++ label_listed name
unfolding label_listed
label_more labels labels' label name more named placed text =
    let same : label_of label ≡ record { name = name.word.text.now; place = name.place } = cc in
    ap (map label_of) more ∙ mapped label_of labels (label ∷ []) ∙ ap (λ l. map label_of labels ++ l ∷ []) same
    ∙ ap (λ ls. map label_of labels ++ ls) (sym (under_text name.word.text.now _ text))

pub label_none : (labels : List Label) (name : LabelName) → ¬ (IsUtf8 name.word.text.now) → map label_of labels ≡ map label_of labels ++ label_listed name
unfolding label_listed
label_none labels name other = sym (append-nil (map label_of labels)) ∙ ap (λ ls. map label_of labels ++ ls) (sym (under_other name.word.text.now _ other))
