-- What the canonical spelling spells, and how long it is.
use Rattle.std.proofs.Common.{◌≡◌, ◌≢◌, ℕ, zero, suc, ◌+◌, ◌-◌, ◌*◌, ◌/◌, ◌%◌, ◌^◌, ◌<◌, ◌≤◌, Bool, true, false, ◌||◌}
use Rattle.std.proofs.Common.{◌&&◌, nat_eq, nat_lt, if◌then◌else◌, pos, negsuc, List, [], ◌∷◌, ◌++◌, length, Some, refl}
use Rattle.std.proofs.Common.{ap, sym, ◌∙◌, arith, length-append}
use Rattle.std.specs.List.{list_all}
use Rattle.std.proofs.lemmas.Bool.Decides.{nat_tests}
use Rattle.tp_words.specs.Words.{signed}
use Rattle.tp_prefix.specs.Spelling.{function_of, digit_of, is_pfix, is_nfix, is_prefix, shifted, shifted_complement, spelled}
use Rattle.tp_prefix.specs.Canonical.{natural_spelling, canonical}
use Rattle.tp_prefix.proofs.SpellingLemmas.{ArePrefixes, prefixed, prefix_first, last_byte}

-- 16 ^ (n + 1)
unfoldable pub bound : ℕ → ℕ
bound zero = 16
bound (suc n) = 16 * bound n

-- what Oreg holds behind prefixes
pub loaded : ℕ → List ℕ → ℕ
loaded o [] = o
loaded o (b ∷ bytes) = loaded (prefixed o b) bytes

loaded-append : (o : ℕ) (xs ys : List ℕ) → loaded o (xs ++ ys) ≡ loaded (loaded o xs) ys
unfolding loaded
loaded-append o [] ys = refl
loaded-append o (x ∷ xs) ys = loaded-append (prefixed o x) xs ys

-- a spelling is read behind its prefixes
pub spelled_behind : (o b : ℕ) (bytes : List ℕ) → ArePrefixes bytes → spelled o (bytes ++ b ∷ []) ≡ spelled (loaded o bytes) (b ∷ [])
unfolding loaded
spelled_behind o b [] are = refl
spelled_behind o b (c ∷ []) are = by_test (is_prefix c) refl are
  where
    by_test : (p : Bool) → is_prefix c ≡ p → (p && true) ≡ true → spelled o (c ∷ b ∷ []) ≡ spelled (prefixed o c) (b ∷ [])
    by_test true e are = prefix_first o c b [] e
    by_test false e are = cc
spelled_behind o b (c ∷ d ∷ bytes) are = by_test (λ o. spelled_behind o b (d ∷ bytes)) (is_prefix c) refl are
  where
    by_test : ((o : ℕ) → ArePrefixes (d ∷ bytes) → spelled o ((d ∷ bytes) ++ b ∷ []) ≡ spelled (loaded o (d ∷ bytes))
        (b ∷ [])) → (p : Bool) → is_prefix c ≡ p → (p && list_all is_prefix (d ∷ bytes)) ≡ true →
        spelled o (c ∷ d ∷ bytes ++ b ∷ []) ≡ spelled (loaded (prefixed o c) (d ∷ bytes)) (b ∷ [])
    by_test go true e are = prefix_first o c d (bytes ++ b ∷ []) e ∙ go _ are
    by_test go false e are = cc

pub ArePrefixes-append : (xs ys : List ℕ) → ArePrefixes xs → ArePrefixes ys → ArePrefixes (xs ++ ys)
ArePrefixes-append [] ys are are' = are'
ArePrefixes-append (x ∷ xs) ys are are' = by_test (ArePrefixes-append xs ys) (is_prefix x) refl are
  where
    by_test : (ArePrefixes xs → ArePrefixes ys → ArePrefixes (xs ++ ys)) → (p : Bool) → is_prefix x ≡ p → (p && list_all is_prefix xs) ≡ true → (is_prefix x && list_all is_prefix (xs ++ ys)) ≡ true
    by_test go true e are = rw e (go are are')
    by_test go false e are = cc

-- the prefixes of a spelling, and its last digit
pub record Parts (digits f e : ℕ) : Type 0 where
  pub front : List ℕ
  pub is : natural_spelling digits f e ≡ front ++ (16 * f + e % 16) ∷ []
  pub are : ArePrefixes front
  pub operand : loaded 0 front + e % 16 ≡ e
  pub short : length front < digits

byte_parts : (f d : ℕ) → d < 16 → (function_of (16 * f + d) ≡ f) × (digit_of (16 * f + d) ≡ d)
byte_parts f d h = (omega arith, omega arith)

is_pfix_byte : (d : ℕ) → d < 16 → is_pfix (16 * 2 + d) ≡ true
is_pfix_byte d h = rw ((byte_parts 2 d h).0) refl

pub natural_parts : (digits f e : ℕ) → e < bound digits → e < 2 ^ 32 → Parts (suc digits) f e
unfolding natural_spelling bound loaded
natural_parts zero f e h h' =
    let test : nat_lt e 16 ≡ true = grind (arith, nat_tests) in
    let small : e % 16 ≡ e = omega arith in
    record { front = []; is = rw (test, small) refl; are = refl; operand = omega arith; short = omega arith }
natural_parts (suc digits) f e h h' = by_test (natural_parts digits 2 (e / 16)) (nat_lt e 16) refl
  where
    by_test : (e / 16 < bound digits → e / 16 < 2 ^ 32 → Parts (suc digits) 2 (e / 16)) → (p : Bool) → nat_lt e 16 ≡ p → Parts (suc (suc digits)) f e
    by_test go true test =
        let lt : e < 16 = grind (arith, nat_tests) in
        let small : e % 16 ≡ e = omega arith in
        record { front = []; is = rw (test, small) refl; are = refl; operand = omega arith; short = omega arith }
    by_test go false test =
        let ge : 16 ≤ e = grind (arith, nat_tests) in
        let parts = go (omega arith) (omega arith) in
        let byte = 16 * 2 + e / 16 % 16 in
        let whole = natural_spelling (suc digits) 2 (e / 16) in
        let pfix : is_pfix byte ≡ true = is_pfix_byte (e / 16 % 16) (omega arith) in
        let digit : digit_of byte ≡ e / 16 % 16 = (byte_parts 2 (e / 16 % 16) (omega arith)).1 in
        let reads : prefixed (loaded 0 parts.front) byte ≡ shifted (e / 16) = rw (pfix, digit, parts.operand) refl in
        let all : loaded 0 whole ≡ shifted (e / 16) = ap (loaded 0) parts.is ∙ loaded-append 0 parts.front (byte ∷ []) ∙ reads in
        let value : shifted (e / 16) ≡ 16 * (e / 16) = omega arith in
        record {
          front = whole;
          is = rw test refl;
          are = rw parts.is (ArePrefixes-append parts.front (byte ∷ []) parts.are (rw pfix refl));
          operand = rw (all, value) (omega arith);
          short = rw (ap length parts.is ∙ length-append parts.front (byte ∷ [])) (omega (arith, parts.short));
        }

-- a function that is neither of the two is no prefix
other_function : (f : ℕ) → f ≢ 2 → f ≢ 6 → (nat_eq f 2 || nat_eq f 6) ≡ false
other_function f no_pfix no_nfix = grind (arith, nat_tests)

-- the canonical spelling of a number that is not negative reads so
pub natural_reads : (digits f e : ℕ) → e < bound digits → e < 2 ^ 32 → f < 16 → f ≢ 2 → f ≢ 6 → spelled 0 (natural_spelling (suc digits) f e) ≡ Some (f, signed e)
natural_reads digits f e h h' small no_pfix no_nfix =
    let parts = natural_parts digits f e h h' in
    let byte = 16 * f + e % 16 in
    let function = (byte_parts f (e % 16) (omega arith)).0 in
    let digit = (byte_parts f (e % 16) (omega arith)).1 in
    ap (spelled 0) parts.is ∙ spelled_behind 0 byte parts.front parts.are ∙
    last_byte (loaded 0 parts.front) byte (rw function (other_function f no_pfix no_nfix)) ∙
    rw (function, digit, parts.operand) refl

signed_complement : (c : ℕ) → c < 2 ^ 31 → signed (2 ^ 32 - 1 - c) ≡ negsuc c
signed_complement c h = by_test (nat_lt (2 ^ 32 - 1 - c) (2 ^ 31)) refl
  where
    by_test : (p : Bool) → nat_lt (2 ^ 32 - 1 - c) (2 ^ 31) ≡ p → (if p then pos (2 ^ 32 - 1 - c) else negsuc (2 ^ 32 - suc (2 ^ 32 - 1 - c))) ≡ negsuc c
    by_test true test = absurd (grind (arith, nat_tests))
    by_test false test = ap negsuc (omega arith)

-- that of a negative number
pub negative_reads : (f c : ℕ) → c < 2 ^ 31 → f < 16 → f ≢ 2 → f ≢ 6 → spelled 0 (canonical f (negsuc c)) ≡ Some (f, negsuc c)
unfolding canonical bound loaded
negative_reads f c h small no_pfix no_nfix =
    let parts = natural_parts 6 6 (c / 16) (omega arith) (omega arith) in
    let last = 16 * f + (15 - c % 16) in
    let byte = 16 * 6 + c / 16 % 16 in
    let whole = natural_spelling 7 6 (c / 16) in
    let nfix : is_pfix byte ≡ false = rw ((byte_parts 6 (c / 16 % 16) (omega arith)).0) refl in
    let nfix' : is_nfix byte ≡ true = rw ((byte_parts 6 (c / 16 % 16) (omega arith)).0) refl in
    let digit : digit_of byte ≡ c / 16 % 16 = (byte_parts 6 (c / 16 % 16) (omega arith)).1 in
    let reads : prefixed (loaded 0 parts.front) byte ≡ shifted_complement (c / 16) = rw (nfix, digit, parts.operand) refl in
    let all : loaded 0 whole ≡ shifted_complement (c / 16) = ap (loaded 0) parts.is ∙ loaded-append 0 parts.front (byte ∷ []) ∙ reads in
    let are : ArePrefixes whole = rw parts.is (ArePrefixes-append parts.front (byte ∷ []) parts.are (rw (nfix, nfix') refl)) in
    let function = (byte_parts f (15 - c % 16) (omega arith)).0 in
    let digit' = (byte_parts f (15 - c % 16) (omega arith)).1 in
    let word : shifted_complement (c / 16) + (15 - c % 16) ≡ 2 ^ 32 - 1 - c = omega arith in
    let value : signed (shifted_complement (c / 16) + (15 - c % 16)) ≡ negsuc c = ap signed word ∙ signed_complement c h in
    spelled_behind 0 last whole are ∙ last_byte (loaded 0 whole) last (rw function (other_function f no_pfix no_nfix)) ∙ rw (function, digit', all, value) refl

-- it takes at most this many digits
pub natural_length : (digits f e : ℕ) → length (natural_spelling digits f e) ≤ digits
unfolding natural_spelling
natural_length zero f e = omega arith
natural_length (suc digits) f e = by_test (natural_length digits 2 (e / 16)) (nat_lt e 16) refl
  where
    by_test : length (natural_spelling digits 2 (e / 16)) ≤ digits → (p : Bool) → nat_lt e 16 ≡ p →
        length (if nat_lt e 16 then (16 * f + e) ∷ [] else natural_spelling digits 2 (e / 16) ++ (16 * f + e % 16) ∷ []) ≤
        suc digits
    by_test go true test = rw test (omega arith)
    by_test go false test = rw (test, length-append) (omega arith)

-- one digit more changes nothing where they suffice
more_digits : (n f e : ℕ) → e < bound n → natural_spelling (suc n) f e ≡ natural_spelling (suc (suc n)) f e
unfolding natural_spelling bound
more_digits zero f e h =
    let test : nat_lt e 16 ≡ true = grind (arith, nat_tests) in rw test refl
more_digits (suc n) f e h = by_test (more_digits n 2 (e / 16)) (nat_lt e 16) refl
  where
    by_test : (e / 16 < bound n → natural_spelling (suc n) 2 (e / 16) ≡ natural_spelling (suc (suc n)) 2 (e / 16)) →
        (p : Bool) → nat_lt e 16 ≡ p → natural_spelling (suc (suc n)) f e ≡ natural_spelling (suc (suc (suc n))) f e
    by_test go true test = rw test refl
    by_test go false test = rw test (ap (λ bytes. bytes ++ (16 * f + e % 16) ∷ []) (go (omega arith)))

-- the rule as it is applied to words
pub natural_byte : (f e : ℕ) → e < 16 → natural_spelling 8 f e ≡ (16 * f + e % 16) ∷ []
unfolding natural_spelling
natural_byte f e h =
    let test : nat_lt e 16 ≡ true = grind (arith, nat_tests) in
    let small : e % 16 ≡ e = omega arith in
    rw (test, small) refl

natural_step : (n f e : ℕ) → 16 ≤ e → natural_spelling (suc n) f e ≡ natural_spelling n 2 (e / 16) ++ (16 * f + e % 16) ∷ []
unfolding natural_spelling
natural_step n f e h =
    let test : nat_lt e 16 ≡ false = grind (arith, nat_tests) in rw test refl

top : bound 6 ≡ 2 ^ 28
unfolding bound
top = refl

pub natural_longer : (f e : ℕ) → 16 ≤ e → e < 2 ^ 32 → natural_spelling 8 f e ≡ natural_spelling 8 2 (e / 16) ++ (16 * f + e % 16) ∷ []
natural_longer f e h h' =
    natural_step 7 f e h ∙ ap (λ bytes. bytes ++ (16 * f + e % 16) ∷ []) (more_digits 6 2 (e / 16) (rw top (omega arith)))

-- a number that leaves room for a digit
pub natural_room : (f e : ℕ) → e < 2 ^ 28 → (length (natural_spelling 8 f e) < 8) × (natural_spelling 8 f e ≡ natural_spelling 7 f e)
natural_room f e h =
    let same = more_digits 6 f e (rw top h) in
    (rw (← same) (omega (arith, natural_length 7 f e)), sym same)
