-- Where the packets of a command line are said, by their numbers.
use Rattle.std.proofs.Common.{◌≡◌, ◌≤◌, ◌<◌, ℕ, zero, suc, ◌+◌, ◌-◌, min, List, [], ◌∷◌, ◌++◌, length, map, take, drop, get_or, slice_get, Some, None, length-take, refl, ap, ◌∙◌, arith}
use Rattle.std.proofs.lemmas.List.{length-map}
use Rattle.tp_decode.proofs.NumberLemmas.{get_left, get_right}
use Rattle.tpw_command_line.specs.Asked.{InWords, InFile, in_file, words_said}

pub said_at : {S : Type 0} (f : S → List ℕ) (words : List S) (n : ℕ) (w : S) → n < length words → w ≡ get_or words n w
    → Some (InWords (f w)) ≡ slice_get (words_said (map f words)) n
said_at f [] n w h is = absurd (omega (arith, h))
said_at f (v ∷ words) zero w h is = ap (λ x. Some (InWords (f x))) is
said_at f (v ∷ words) (suc n) w h is = said_at f words n w (omega (arith, h)) is

pub said_none : {S : Type 0} (f : S → List ℕ) (words : List S) (n : ℕ) → length words ≤ n → None ≡ slice_get (words_said (map f words)) n
said_none f [] n h = refl
said_none f (v ∷ words) zero h = absurd (omega (arith, h))
said_none f (v ∷ words) (suc n) h = said_none f words n (omega (arith, h))

long_file : (name : List ℕ) (number count : ℕ) → length (in_file name number count) ≡ count
long_file name number zero = refl
long_file name number (suc count) = ap suc (long_file name (suc number) count)

of_file : (name : List ℕ) (number count i : ℕ) → i < count → slice_get (in_file name number count) i ≡ Some (InFile name (number + i))
of_file name number zero i h = absurd (omega (arith, h))
of_file name number (suc count) zero h = ap (λ n. Some (InFile name n)) (let same : number ≡ number + zero = omega arith in same)
of_file name number (suc count) (suc i) h =
    of_file name (suc number) count i (omega (arith, h))
    ∙ ap (λ n. Some (InFile name n)) (let same : suc number + i ≡ number + suc i = omega arith in same)

of_taken : (words : List (List ℕ)) (a i : ℕ) → i < a → slice_get (words_said (take a words)) i ≡ slice_get (words_said words) i
of_taken words zero i h = absurd (omega (arith, h))
of_taken [] (suc a) i h = refl
of_taken (w ∷ words) (suc a) zero h = refl
of_taken (w ∷ words) (suc a) (suc i) h = of_taken words a i (omega (arith, h))

of_dropped : (words : List (List ℕ)) (a i n : ℕ) → n ≡ min a (length words) + i → slice_get (words_said (drop a words)) i ≡ slice_get (words_said words) n
of_dropped words zero i n is = ap (slice_get (words_said words)) (let same : i ≡ n = omega (arith, is) in same)
of_dropped [] (suc a) i n is = refl
of_dropped (w ∷ words) (suc a) i zero is = absurd (omega (arith, is))
of_dropped (w ∷ words) (suc a) i (suc n) is = of_dropped words a i n (omega (arith, is))

long : (words : List (List ℕ)) (a : ℕ) → length (words_said (take a words)) ≡ min a (length words)
long words a = length-map (take a words) InWords ∙ length-take a words

pub before_file : (words : List (List ℕ)) (a : ℕ) (name : List ℕ) (count i : ℕ) → i < min a (length words)
    → slice_get (words_said (take a words) ++ (in_file name 0 count ++ words_said (drop a words))) i ≡ slice_get (words_said words) i
before_file words a name count i h =
    get_left (words_said (take a words)) (in_file name 0 count ++ words_said (drop a words)) i (omega (arith, h, long words a))
    ∙ of_taken words a i (omega (arith, h))

pub within_file : (words : List (List ℕ)) (a : ℕ) (name : List ℕ) (count i n : ℕ) → min a (length words) ≤ i
    → n ≡ i - min a (length words) → n < count
    → slice_get (words_said (take a words) ++ (in_file name 0 count ++ words_said (drop a words))) i ≡ Some (InFile name n)
within_file words a name count i n h is few =
    get_right (words_said (take a words)) (in_file name 0 count ++ words_said (drop a words)) i (omega (arith, h, long words a))
    ∙ ap (slice_get (in_file name 0 count ++ words_said (drop a words))) (let same : i - length (words_said (take a words)) ≡ n = omega (arith, is, long words a) in same)
    ∙ get_left (in_file name 0 count) (words_said (drop a words)) n (omega (arith, few, long_file name 0 count))
    ∙ of_file name 0 count n few ∙ ap (λ k. Some (InFile name k)) (let same : 0 + n ≡ n = omega arith in same)

pub behind_file : (words : List (List ℕ)) (a : ℕ) (name : List ℕ) (count i n : ℕ) → min a (length words) ≤ i
    → count ≤ i - min a (length words) → n ≡ i - count
    → slice_get (words_said (take a words) ++ (in_file name 0 count ++ words_said (drop a words))) i ≡ slice_get (words_said words) n
behind_file words a name count i n h many is =
    let k = (i - length (words_said (take a words))) - length (in_file name 0 count) in
    get_right (words_said (take a words)) (in_file name 0 count ++ words_said (drop a words)) i (omega (arith, h, long words a))
    ∙ get_right (in_file name 0 count) (words_said (drop a words)) (i - length (words_said (take a words)))
    (omega (arith, many, long words a, long_file name 0 count))
    ∙ of_dropped words a k n (omega (arith, is, h, many, long words a, long_file name 0 count))
