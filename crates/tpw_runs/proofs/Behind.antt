-- Batches, one behind another.
use Rattle.std.proofs.Common.{◌≡◌, ℕ, zero, suc, ◌+◌, ◌-◌, ◌≤◌, ◌<◌, List, map, Result, Ok, Err, false, [], ◌∷◌, ◌++◌}
use Rattle.std.proofs.Common.{length, take, drop, Option, Some, None, refl, ap, sym, ◌∙◌, arith, subst}
use Rattle.std.proofs.Common.{length-take, length-drop, All, get_or}
use Rattle.std.proofs.lemmas.List.Elements.{All-nil, All-cons, All-head, All-rest}
use Rattle.std.proofs.lemmas.List.{take-map, drop-map, take_more, append-nil}
use Rattle.std.specs.Io.KnownBytes.{Appends}
use Rattle.std.specs.Result.{is_err, OnOk}
use Rattle.tp_image.specs.Image.{ImageValue}
use Rattle.tp_collect.specs.declared.collected.Entry.{Entry}
use Rattle.tpw_runs.specs.Results.{AreResults}
use Rattle.tpw_runs.proofs.Results.{results_and}

abbrev none_of : (A : Type 0) → List A
none_of A = []

taken_none : {A : Type 0} (k : ℕ) → take k (none_of A) ≡ none_of A
taken_none zero = refl
taken_none (suc k) = refl

pub taken_and : {A : Type 0} (n m : ℕ) (xs : List A) → take (n + m) xs ≡ take n xs ++ take m (drop n xs)
taken_and zero m xs = ap (λ k. take k xs) (let same : zero + m ≡ m = omega arith in same)
taken_and (suc n) m [] = taken_none (suc n + m) ∙ sym (taken_none m)
taken_and (suc n) m (x ∷ xs) =
    ap (λ k. take k (x ∷ xs)) (let same : suc n + m ≡ suc (n + m) = omega arith in same) ∙ ap (λ l. x ∷ l) (taken_and n m xs)

-- a batch of some packets from a number on
pub of_slice : {A B : Type 0} (f : A → B) (n m : ℕ) (xs : List A) → map f (take ((n + m) - n) (drop n xs)) ≡ take m (drop n (map f xs))
of_slice f n m xs =
    let same : (n + m) - n ≡ m = omega arith in
    ap (λ k. map f (take k (drop n xs))) same ∙ sym (take-map f m (drop n xs)) ∙ ap (take m) (sym (drop-map f n xs))

pub of_ok : {A E : Type 0} (r : Result A E) (P : Type 0) → is_err r ≡ false → OnOk r P → P
of_ok (Ok a) P e p = p
of_ok (Err x) P e p = cc

-- the packets of a batch behind others
pub batch_more : (image : ImageValue) (budget n m : ℕ) (all batch : List (List ℕ)) (entries more : List Entry)
    → batch ≡ take m (drop n all) → AreResults image budget (take n all) entries → AreResults image budget batch more
    → AreResults image budget (take (n + m) all) (entries ++ more)
batch_more image budget n m all batch entries more is one two =
    subst (λ ps. AreResults image budget ps (entries ++ more)) (ap (λ b. take n all ++ b) is ∙ sym (taken_and n m all))
    (results_and image budget (take n all) batch entries more one two)

pub long_taken : {A : Type 0} (n : ℕ) (xs : List A) → n ≤ length xs → length (take n xs) ≡ n
long_taken n xs h = omega (arith, h, length-take n xs)

pub long_batch : {A : Type 0} (n m : ℕ) (xs : List A) → n + m ≤ length xs → length (take m (drop n xs)) ≡ m
long_batch n m xs h = long_taken m (drop n xs) (omega (arith, h, length-drop n xs))

-- what holds of each of some things holds of others that are the same
pub same_all : {A B C : Type 0} (f : A → C) (g : B → C) (P : C → Type 0) (xs : List A) (ys : List B) → map f xs ≡ map g ys
    → All (λ y. P (g y)) ys → All (λ x. P (f x)) xs
same_all f g P [] ys same all = All-nil (λ x. P (f x))
same_all f g P (x ∷ xs) [] same all = absurd (omega (arith, ap length same))
same_all f g P (x ∷ xs) (y ∷ ys) same all =
    let one : f x ≡ g y = ap (λ l. get_or l 0 (f x)) same in
    All-cons (λ z. P (f z)) x xs (subst P (sym one) (All-head (λ z. P (g z)) y ys all))
    (same_all f g P xs ys (ap (drop 1) same) (All-rest (λ z. P (g z)) y ys (y ∷ ys) refl all))

and_one : {A B : Type 0} (f : A → B) (xs : List A) (x : A) → map f (xs ++ x ∷ []) ≡ map f xs ++ f x ∷ []
and_one f [] x = refl
and_one f (y ∷ xs) x = ap (λ l. f y ∷ l) (and_one f xs x)

pub take_more_map : {A B : Type 0} (f : A → B) (xs : List A) (i : ℕ) (d : A) → i < length xs
    → take (i + 1) (map f xs) ≡ take i (map f xs) ++ f (get_or xs i d) ∷ []
take_more_map f xs i d within =
    take-map f (i + 1) xs ∙ ap (map f) (take_more xs i d within) ∙ and_one f (take i xs) (get_or xs i d)
    ∙ ap (λ l. l ++ f (get_or xs i d) ∷ []) (sym (take-map f i xs))

-- one packet more, as the message at its place
pub one_packet : {A B C : Type 0} (f : A → C) (g : B → C) (ps qs : List A) (q : A) (ms : List B) (i : ℕ) (m : B)
    → qs ≡ ps ++ q ∷ [] → map f ps ≡ take i (map g ms) → i < length ms → m ≡ get_or ms i m → f q ≡ g m
    → map f qs ≡ take (i + 1) (map g ms)
one_packet f g ps qs q ms i m is so_far within there same =
    ap (map f) is ∙ and_one f ps q ∙ ap (λ l. l ++ f q ∷ []) so_far
    ∙ ap (λ x. take i (map g ms) ++ x ∷ []) (same ∙ ap g there) ∙ sym (take_more_map g ms i m within)

pub appends_none : (known : Option (List ℕ)) → Appends known known []
appends_none None = tt
appends_none (Some xs) = sym (append-nil xs)
