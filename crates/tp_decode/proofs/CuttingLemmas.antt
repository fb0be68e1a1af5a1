-- The cutting as a function is the cutting as a relation.
use Rattle.std.proofs.Common.{◌≡◌, ◌≢◌, ℕ, zero, suc, ◌+◌, ◌<◌, ◌≤◌, Bool, true, false, ◌&&◌, nat_lt, ℤ, List, [], ◌∷◌}
use Rattle.std.proofs.Common.{◌++◌, length, take, Option, Some, None, Ok, Err, refl, ap, sym, ◌∙◌, arith, append_assoc}
use Rattle.std.proofs.Common.{length-append}
use Rattle.std.specs.List.{list_all}
use Rattle.std.proofs.lemmas.Bool.Decides.{nat_tests}
use Rattle.tp_prefix.specs.Spelling.{is_prefix, spelled}
use Rattle.tp_prefix.proofs.SpellingLemmas.{ArePrefixes, no_last, not_last, none_some, prefix_first}
use Rattle.tp_decode.specs.declared.instr.Instr.{Instr}
use Rattle.tp_decode.specs.declared.fault.DecodeFault.{DecodeFault}
use Rattle.tp_decode.specs.declared.fault.DecodeCode.TheVariants.{D1, D2, D3}
use Rattle.tp_decode.specs.declared.fault.DecodeFault.TheVariants.{Refused, Memory}
use Rattle.tp_decode.specs.Table.{entry, instruction}
use Rattle.tp_decode.specs.Cutting.{Cut, IsSpelled, IsUnknown, spelled_instruction, before, cutting_from}
use Rattle.tp_decode.specs.Front.{Stops}
use Rattle.tp_decode.proofs.TableLemmas.{entry_gives, given_entry}

-- one byte more of a spelling, and its end
pub one_prefix : (at b : ℕ) (rest prefixes : List ℕ) → is_prefix b ≡ true → length (prefixes ++ b ∷ []) < 8 → cutting_from at (b ∷ rest) prefixes ≡ cutting_from at rest (prefixes ++ b ∷ [])
unfolding cutting_from
one_prefix at b rest prefixes is few =
    let test : nat_lt (length (prefixes ++ b ∷ [])) 8 ≡ true = grind (arith, nat_tests) in rw (is, test) refl

pub eighth_prefix : (at b : ℕ) (rest prefixes : List ℕ) → is_prefix b ≡ true → 8 ≤ length (prefixes ++ b ∷ []) → cutting_from at (b ∷ rest) prefixes ≡ Err (Refused D2 at)
unfolding cutting_from
eighth_prefix at b rest prefixes is many =
    let test : nat_lt (length (prefixes ++ b ∷ [])) 8 ≡ false = grind (arith, nat_tests) in rw (is, test) refl

pub last_of_spelling : (at b : ℕ) (rest prefixes : List ℕ) → is_prefix b ≡ false →
    cutting_from at (b ∷ rest) prefixes ≡ before at (prefixes ++ b ∷ []) (spelled_instruction (prefixes ++ b ∷ []))
    (cutting_from (at + length (prefixes ++ b ∷ [])) rest [])
unfolding cutting_from
last_of_spelling at b rest prefixes is = rw is refl

-- a spelling behind some of its prefixes
cut_spelling : (at o : ℕ) (bytes rest prefixes : List ℕ) (r : ℕ × ℤ) → spelled o bytes ≡ Some r → length prefixes + length bytes ≤ 8 →
    cutting_from at (bytes ++ rest) prefixes ≡ before at (prefixes ++ bytes) (spelled_instruction (prefixes ++ bytes)) (cutting_from (at + length (prefixes ++ bytes)) rest [])
unfolding spelled
cut_spelling at o [] rest prefixes r is few = absurd (none_some None r refl is)
cut_spelling at o (b ∷ []) rest prefixes r is few = by_test (is_prefix b) refl
  where
    by_test : (p : Bool) → is_prefix b ≡ p → cutting_from at (b ∷ rest) prefixes ≡ before at (prefixes ++ b ∷ [])
        (spelled_instruction (prefixes ++ b ∷ [])) (cutting_from (at + length (prefixes ++ b ∷ [])) rest [])
    by_test true e = absurd (none_some _ r (no_last o b e) is)
    by_test false e = last_of_spelling at b rest prefixes e
cut_spelling at o (b ∷ c ∷ bytes) rest prefixes r is few = by_test (λ o'. cut_spelling at o' (c ∷ bytes) rest (prefixes ++ b ∷ []) r) (is_prefix b) refl
  where
    joined : (prefixes ++ b ∷ []) ++ c ∷ bytes ≡ prefixes ++ b ∷ c ∷ bytes
    joined = append_assoc prefixes (b ∷ []) (c ∷ bytes)

    longer : length (prefixes ++ b ∷ []) ≡ length prefixes + 1
    longer = length-append prefixes (b ∷ [])

    by_test : ((o' : ℕ) → spelled o' (c ∷ bytes) ≡ Some r → length (prefixes ++ b ∷ []) + length (c ∷ bytes) ≤ 8 →
        cutting_from at (c ∷ bytes ++ rest) (prefixes ++ b ∷ []) ≡ before at ((prefixes ++ b ∷ []) ++ c ∷ bytes)
        (spelled_instruction ((prefixes ++ b ∷ []) ++ c ∷ bytes))
        (cutting_from (at + length ((prefixes ++ b ∷ []) ++ c ∷ bytes)) rest [])) → (p : Bool) → is_prefix b ≡ p →
        cutting_from at (b ∷ c ∷ bytes ++ rest) prefixes ≡ before at (prefixes ++ b ∷ c ∷ bytes)
        (spelled_instruction (prefixes ++ b ∷ c ∷ bytes)) (cutting_from (at + length (prefixes ++ b ∷ c ∷ bytes)) rest [])
    by_test go true e =
        one_prefix at b (c ∷ bytes ++ rest) prefixes e (omega (arith, longer)) ∙ go _ (sym (prefix_first o b c bytes e) ∙ is) (omega (arith, longer))
        ∙ ap (λ whole. before at whole (spelled_instruction whole) (cutting_from (at + length whole) rest [])) joined
    by_test go false e = absurd (none_some _ r (not_last o b c bytes e) is)

-- an instruction in front
pub cut_one : (at : ℕ) (cut : Cut) (rest : List ℕ) → IsSpelled cut → cutting_from at (cut.bytes ++ rest) [] ≡ before at cut.bytes (Some cut.instr) (cutting_from (at + length cut.bytes) rest [])
unfolding spelled_instruction
cut_one at cut rest is =
    let instr : spelled_instruction cut.bytes ≡ Some cut.instr = rw is.spells (entry_gives cut.instr) in
    cut_spelling at 0 cut.bytes rest [] _ is.spells (omega (arith, is.short)) ∙ ap (λ i. before at cut.bytes i (cutting_from (at + length cut.bytes) rest [])) instr

pub nothing_left : (at : ℕ) → cutting_from at [] [] ≡ Ok []
unfolding cutting_from
nothing_left at = refl

pub ended : (at p : ℕ) (prefixes : List ℕ) → cutting_from at [] (p ∷ prefixes) ≡ Err (Refused D1 at)
unfolding cutting_from
ended at p prefixes = refl

-- no instruction in front
pub cut_off : (at : ℕ) (code prefixes : List ℕ) → ArePrefixes code → 0 < length prefixes + length code → length prefixes + length code < 8 → cutting_from at code prefixes ≡ Err (Refused D1 at)
cut_off at [] [] are some few = absurd (omega arith)
cut_off at [] (p ∷ prefixes) are some few = ended at p prefixes
cut_off at (b ∷ code) prefixes are some few = by_test (cut_off at code (prefixes ++ b ∷ [])) (is_prefix b) refl are
  where
    longer : length (prefixes ++ b ∷ []) ≡ length prefixes + 1
    longer = length-append prefixes (b ∷ [])

    by_test : (ArePrefixes code → 0 < length (prefixes ++ b ∷ []) + length code →
        length (prefixes ++ b ∷ []) + length code < 8 → cutting_from at code (prefixes ++ b ∷ []) ≡ Err (Refused D1 at)) →
        (p : Bool) → is_prefix b ≡ p → (p && list_all is_prefix code) ≡ true →
        cutting_from at (b ∷ code) prefixes ≡ Err (Refused D1 at)
    by_test go true e are = one_prefix at b code prefixes e (omega (arith, longer)) ∙ go are (omega (arith, longer)) (omega (arith, longer))
    by_test go false e are = cc

pub cut_too_long : (at n : ℕ) (code prefixes : List ℕ) → length prefixes + suc n ≡ 8 → suc n ≤ length code → ArePrefixes (take (suc n) code) → cutting_from at code prefixes ≡ Err (Refused D2 at)
cut_too_long at n [] prefixes eight many are = absurd (omega arith)
cut_too_long at zero (b ∷ code) prefixes eight many are = by_test (is_prefix b) refl are
  where
    by_test : (p : Bool) → is_prefix b ≡ p → (p && true) ≡ true → cutting_from at (b ∷ code) prefixes ≡ Err (Refused D2 at)
    by_test true e are = eighth_prefix at b code prefixes e (omega (arith, length-append prefixes (b ∷ [])))
    by_test false e are = cc
cut_too_long at (suc n) (b ∷ code) prefixes eight many are = by_test (cut_too_long at n code (prefixes ++ b ∷ [])) (is_prefix b) refl are
  where
    longer : length (prefixes ++ b ∷ []) ≡ length prefixes + 1
    longer = length-append prefixes (b ∷ [])

    by_test : (length (prefixes ++ b ∷ []) + suc n ≡ 8 → suc n ≤ length code → ArePrefixes (take (suc n) code) →
        cutting_from at code (prefixes ++ b ∷ []) ≡ Err (Refused D2 at)) → (p : Bool) → is_prefix b ≡ p →
        (p && list_all is_prefix (take (suc n) code)) ≡ true → cutting_from at (b ∷ code) prefixes ≡ Err (Refused D2 at)
    by_test go true e are = one_prefix at b code prefixes e (omega (arith, longer)) ∙ go (omega (arith, longer)) (omega arith) are
    by_test go false e are = cc

no_instruction : (f : ℕ) (e : ℤ) → ((i : Instr) → (entry i).function ≡ f → (entry i).operand ≢ e) → instruction f e ≡ None
no_instruction f e unknown = by_case (instruction f e) refl
  where
    by_case : (o : Option Instr) → instruction f e ≡ o → o ≡ None
    by_case None is = refl
    by_case (Some i) is = let has = given_entry f e i is in absurd (unknown i has.0 has.1)

pub cut_unknown : (at : ℕ) (code : List ℕ) → IsUnknown code → cutting_from at code [] ≡ Err (Refused D3 at)
unfolding spelled_instruction
cut_unknown at code is =
    let none : spelled_instruction is.bytes ≡ None = rw is.spelling.spells (no_instruction is.function is.operand is.unknown) in
    ap (λ c. cutting_from at c []) is.front ∙ cut_spelling at 0 is.bytes is.after [] _ is.spelling.spells (omega (arith, is.spelling.short))
    ∙ ap (λ i. before at is.bytes i (cutting_from (at + length is.bytes) is.after [])) none

-- what stops a cutting in front
pub stops : (at : ℕ) (code : List ℕ) (e : DecodeFault) → Stops code at e → cutting_from at code [] ≡ Err e
stops at code (Refused D1 place) is = cut_off at code [] is.1.prefixes (omega (arith, is.1.some)) (omega (arith, is.1.few)) ∙ ap (λ p. Err (Refused D1 p)) (sym is.0)
stops at code (Refused D2 place) is = cut_too_long at 7 code [] refl is.1.many is.1.prefixes ∙ ap (λ p. Err (Refused D2 p)) (sym is.0)
stops at code (Refused D3 place) is = cut_unknown at code is.1 ∙ ap (λ p. Err (Refused D3 p)) (sym is.0)
stops at code Memory is = absurd is
