-- What a reader of bytes has found, and that it is all that is there.
use Rattle.std.proofs.Common.{◌≡◌, ℕ, zero, suc, ◌+◌, ◌-◌, ◌/◌, ◌%◌, ◌<◌, ◌≤◌, Bool, true, false, ◌&&◌, ℤ, List, []}
use Rattle.std.proofs.Common.{◌∷◌, ◌++◌, length, take, drop, get_or, Result, Ok, Err, refl, ap, sym, ◌∙◌, arith}
use Rattle.std.proofs.Common.{append_assoc, length-drop}
use Rattle.std.specs.List.{list_all}
use Rattle.std.proofs.lemmas.List.{take_more, take-append-drop, length-take}
use Rattle.std.proofs.Math.Seq.{take-length, drop-append_seam, take-append_seam}
use Rattle.tp_words.specs.Words.{signed}
use Rattle.tp_prefix.specs.declared.spelled.Spelled.{Spelled}
use Rattle.tp_prefix.specs.declared.spelled.PrefixFault.{PrefixFault}
use Rattle.tp_prefix.specs.declared.spelled.PrefixFault.TheVariants.{D1, D2}
use Rattle.tp_prefix.specs.Spelling.{is_prefix, spelled, IsSpelling, IsCutOff, IsTooLong}
use Rattle.tp_prefix.specs.Reading.{Reads}
use Rattle.tp_prefix.proofs.SpellingLemmas.{ArePrefixes, prefixed, prefix_first, last_byte, prefixes_spell_none, one_reading, none_some}
use Rattle.tp_prefix.proofs.CanonicalLemmas.{ArePrefixes-append}

-- behind i bytes, which are prefixes, Oreg holds o
abbrev pub Behind : List ℕ → ℕ → ℕ → Type 0
Behind bytes i o = (b : ℕ) (tail : List ℕ) → spelled 0 (take i bytes ++ b ∷ tail) ≡ spelled o (b ∷ tail)

pub found : (bytes : List ℕ) (i o : ℕ) → i < length bytes → i < 8 → Behind bytes i o →
    is_prefix (get_or bytes i 0) ≡ false → IsSpelling (take (i + 1) bytes) (get_or bytes i 0 / 16)
    (signed (o + get_or bytes i 0 % 16))
found bytes i o h few behind other =
    let b = get_or bytes i 0 in
    let more : take (i + 1) bytes ≡ take i bytes ++ b ∷ [] = take_more bytes i 0 h in
    record {
      short = rw length-take (omega arith);
      spells = ap (spelled 0) more ∙ behind b [] ∙ last_byte o b other;
    }

pub more_behind : (bytes : List ℕ) (i o o' : ℕ) → i < length bytes → Behind bytes i o → is_prefix (get_or bytes i 0) ≡ true → prefixed o (get_or bytes i 0) ≡ o' → Behind bytes (i + 1) o'
more_behind bytes i o o' h behind is e c tail =
    let b = get_or bytes i 0 in
    let more : take (i + 1) bytes ≡ take i bytes ++ b ∷ [] = take_more bytes i 0 h in
    ap (λ front. spelled 0 (front ++ c ∷ tail)) more ∙ ap (spelled 0) (append_assoc (take i bytes) (b ∷ []) (c ∷ tail))
    ∙ behind b (c ∷ tail) ∙ prefix_first o b c tail is ∙ ap (λ n. spelled n (c ∷ tail)) e

pub more_prefixes : (bytes : List ℕ) (i : ℕ) → i < length bytes → ArePrefixes (take i bytes) → is_prefix (get_or bytes i 0) ≡ true → ArePrefixes (take (i + 1) bytes)
more_prefixes bytes i h are is =
    let b = get_or bytes i 0 in
    let more : take (i + 1) bytes ≡ take i bytes ++ b ∷ [] = take_more bytes i 0 h in
    rw more (ArePrefixes-append (take i bytes) (b ∷ []) are (rw is refl))

ArePrefixes-take : (n : ℕ) (bytes : List ℕ) → ArePrefixes bytes → ArePrefixes (take n bytes)
ArePrefixes-take zero bytes are = refl
ArePrefixes-take (suc n) [] are = refl
ArePrefixes-take (suc n) (b ∷ bytes) are = by_test (ArePrefixes-take n bytes) (is_prefix b) refl are
  where
    by_test : (ArePrefixes bytes → ArePrefixes (take n bytes)) → (p : Bool) → is_prefix b ≡ p → (p && list_all is_prefix bytes) ≡ true → (is_prefix b && list_all is_prefix (take n bytes)) ≡ true
    by_test go true e are = rw e (go are)
    by_test go false e are = cc

take-take : (n m : ℕ) (bytes : List ℕ) → n ≤ m → take n (take m bytes) ≡ take n bytes
take-take zero m bytes h = refl
take-take (suc n) zero bytes h = absurd (omega arith)
take-take (suc n) (suc m) [] h = refl
take-take (suc n) (suc m) (b ∷ bytes) h = ap (λ tail. b ∷ tail) (take-take n m bytes (omega arith))

-- prefixes are no spelling
no_spelling : (bytes : List ℕ) (f : ℕ) (e : ℤ) → ArePrefixes bytes → IsSpelling bytes f e → ⊥
no_spelling bytes f e are is = none_some (spelled 0 bytes) (f, e) (prefixes_spell_none 0 bytes are) is.spells

cut_off_none : (bytes : List ℕ) (n f : ℕ) (e : ℤ) → IsCutOff bytes → IsSpelling (take n bytes) f e → ⊥
cut_off_none bytes n f e cut is = no_spelling (take n bytes) f e (ArePrefixes-take n bytes cut.prefixes) is

too_long_none : (bytes : List ℕ) (n f : ℕ) (e : ℤ) → n ≤ length bytes → IsTooLong bytes → IsSpelling (take n bytes) f e → ⊥
too_long_none bytes n f e within long is =
    let few : n ≤ 8 = omega (arith, is.short, length-take n bytes) in
    no_spelling (take n bytes) f e (rw (← take-take n 8 bytes few) (ArePrefixes-take n (take 8 bytes) long.prefixes)) is

-- bytes that stand at an address begin with this spelling
abbrev pub Begins : List ℕ → ℕ → Spelled → Type 0
Begins bytes at s = (at ≤ s.next) × (s.next ≤ at + length bytes) × IsSpelling (take (s.next - at) bytes) s.function s.operand

spelled_of : ℕ → ℤ → ℕ → Spelled
spelled_of f e n = record { function = f; operand = e; next = n }

same_spelled : (s t : Spelled) → s.function ≡ t.function → s.operand ≡ t.operand → s.next ≡ t.next → s ≡ t
unfolding spelled_of
same_spelled s t e e' e'' =
    let all : spelled_of s.function s.operand s.next ≡ spelled_of t.function t.operand t.next = cc in all

pub only_one : (bytes : List ℕ) (at : ℕ) (r : Result Spelled PrefixFault) (s : Spelled) → Reads bytes at r → Begins bytes at s → r ≡ Ok s
only_one bytes at (Ok t) s reads begins =
    let n = t.next - at in
    let m = s.next - at in
    let same = one_reading 0 (take n bytes) (take m bytes) (drop n bytes) (drop m bytes) (t.function, t.operand)
    (s.function, s.operand) reads.2.spells begins.2.spells
    (take-append-drop n bytes ∙ sym (take-append-drop m bytes)) in
    let lengths : n ≡ m = omega (arith, length-take n bytes, length-take m bytes, ap length same.0) in
    ap Ok (same_spelled t s (ap (λ p. p.0) same.1) (ap (λ p. p.1) same.1) (omega arith))
only_one bytes at (Err (D1 place)) s reads begins = absurd (cut_off_none bytes (s.next - at) s.function s.operand reads.1 begins.2)
only_one bytes at (Err (D2 place)) s reads begins = absurd (too_long_none bytes (s.next - at) s.function s.operand (omega arith) reads.1 begins.2)

pub is_cut_off : (bytes : List ℕ) (at : ℕ) (r : Result Spelled PrefixFault) → Reads bytes at r → IsCutOff bytes → r ≡ Err (D1 at)
is_cut_off bytes at (Ok t) reads cut = absurd (cut_off_none bytes (t.next - at) t.function t.operand cut reads.2)
is_cut_off bytes at (Err (D1 place)) reads cut = ap (λ p. Err (D1 p)) reads.0
is_cut_off bytes at (Err (D2 place)) reads cut = absurd (omega (arith, cut.few, reads.1.many))

pub is_too_long : (bytes : List ℕ) (at : ℕ) (r : Result Spelled PrefixFault) → Reads bytes at r → IsTooLong bytes → r ≡ Err (D2 at)
is_too_long bytes at (Ok t) reads long = absurd (too_long_none bytes (t.next - at) t.function t.operand (omega arith) long reads.2)
is_too_long bytes at (Err (D1 place)) reads long = absurd (omega (arith, long.many, reads.1.few))
is_too_long bytes at (Err (D2 place)) reads long = ap (λ p. Err (D2 p)) reads.0

pub said_cut_off : (bytes : List ℕ) (at : ℕ) (r : Result Spelled PrefixFault) → Reads bytes at r → r ≡ Err (D1 at) → IsCutOff bytes
said_cut_off bytes at (Ok t) reads e = cc
said_cut_off bytes at (Err (D1 place)) reads e = reads.1
said_cut_off bytes at (Err (D2 place)) reads e = cc

pub said_too_long : (bytes : List ℕ) (at : ℕ) (r : Result Spelled PrefixFault) → Reads bytes at r → r ≡ Err (D2 at) → IsTooLong bytes
said_too_long bytes at (Ok t) reads e = cc
said_too_long bytes at (Err (D1 place)) reads e = cc
said_too_long bytes at (Err (D2 place)) reads e = reads.1

-- the rest of a code as a slice of it
pub rest_is : (code : List ℕ) (at : ℕ) → take (length code - at) (drop at code) ≡ drop at code
rest_is code at = ap (λ n. take n (drop at code)) (sym (length-drop at code)) ∙ take-length (drop at code)

pub moved : (bytes : List ℕ) (n m f : ℕ) (e e' : ℤ) → n ≡ m → e ≡ e' → IsSpelling (take n bytes) f e → IsSpelling (take m bytes) f e'
moved bytes n m f e e' p q is = rw (← p, ← q) is

-- what stands between two parts
pub middle : (before bytes after : List ℕ) → take (length before + length bytes - length before) (drop (length before) (before ++ bytes ++ after)) ≡ bytes
middle before bytes after =
    let count : length before + length bytes - length before ≡ length bytes = omega arith in
    rw (count, append_assoc, drop-append_seam, take-append_seam) refl
