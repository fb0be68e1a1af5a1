-- The cutting as a function says what the relations say.
use Rattle.std.proofs.Common.{◌≡◌, ℕ, ◌+◌, ◌<◌, ◌≤◌, Bool, true, false, nat_lt, ℤ, List, [], ◌∷◌, ◌++◌, length, take}
use Rattle.std.proofs.Common.{Option, Some, None, Result, Ok, Err, refl, ap, sym, ◌∙◌, arith, append_assoc}
use Rattle.std.proofs.Common.{length-append}
use Rattle.std.specs.List.{AllByRecursion}
use Rattle.std.proofs.lemmas.List.{append-nil}
use Rattle.std.proofs.Math.Seq.{take-append_seam}
use Rattle.std.proofs.lemmas.Bool.Decides.{nat_tests}
use Rattle.tp_prefix.specs.Spelling.{is_prefix, IsSpelling, IsCutOff, IsTooLong}
use Rattle.tp_prefix.proofs.SpellingLemmas.{ArePrefixes, last_byte}
use Rattle.tp_prefix.proofs.CanonicalLemmas.{loaded, spelled_behind, ArePrefixes-append}
use Rattle.tp_decode.specs.declared.instr.Instr.{Instr}
use Rattle.tp_decode.specs.declared.fault.DecodeFault.{DecodeFault}
use Rattle.tp_decode.specs.declared.fault.DecodeCode.TheVariants.{D1, D2, D3}
use Rattle.tp_decode.specs.declared.fault.DecodeFault.TheVariants.{Refused, Memory}
use Rattle.tp_decode.specs.Table.{entry, instruction}
use Rattle.tp_decode.specs.Cutting.{Cut, IsSpelled, code_of, IsCutting, IsUnknown, BreaksAt, IsRefused, spelled_instruction, before, cutting_from, cutting}
use Rattle.tp_decode.specs.Front.{Stops}
use Rattle.tp_decode.proofs.TableLemmas.{entry_gives, given_entry}
use Rattle.tp_decode.proofs.CuttingLemmas.{cut_one, stops, ended, nothing_left, one_prefix, eighth_prefix, last_of_spelling}

-- instructions in front, and what follows them
abbrev pub with_front : List Cut → Result (List Cut) DecodeFault → Result (List Cut) DecodeFault
with_front front (Ok cuts) = Ok (front ++ cuts)
with_front front (Err e) = Err e

pub with_front-nil : (r : Result (List Cut) DecodeFault) → with_front [] r ≡ r
with_front-nil (Ok cuts) = refl
with_front-nil (Err e) = refl

pub before_is : (at : ℕ) (cut : Cut) (r : Result (List Cut) DecodeFault) → before at cut.bytes (Some cut.instr) r ≡ with_front (cut ∷ []) r
before_is at cut (Ok cuts) = refl
before_is at cut (Err e) = refl

pub with_front-append : (xs ys : List Cut) (r : Result (List Cut) DecodeFault) → with_front xs (with_front ys r) ≡ with_front (xs ++ ys) r
with_front-append xs ys (Ok cuts) = ap Ok (sym (append_assoc xs ys cuts))
with_front-append xs ys (Err e) = refl

-- all that is cut in front
pub cut_all : (at : ℕ) (cuts : List Cut) (rest : List ℕ) → AllByRecursion IsSpelled cuts →
    cutting_from at (code_of cuts ++ rest) [] ≡ with_front cuts (cutting_from (at + length (code_of cuts)) rest [])
cut_all at [] rest all = sym (with_front-nil _ ∙ ap (λ n. cutting_from n rest []) (omega arith))
cut_all at (cut ∷ cuts) rest all =
    let place : at + length cut.bytes + length (code_of cuts) ≡ at + length (cut.bytes ++ code_of cuts) = omega (arith, length-append cut.bytes (code_of cuts)) in
    ap (λ c. cutting_from at c []) (append_assoc cut.bytes (code_of cuts) rest)
    ∙ cut_one at cut (code_of cuts ++ rest) all.0
    ∙ before_is at cut _
    ∙ ap (with_front (cut ∷ [])) (cut_all (at + length cut.bytes) cuts rest all.1)
    ∙ with_front-append (cut ∷ []) cuts _
    ∙ ap (λ n. with_front (cut ∷ cuts) (cutting_from n rest [])) place

-- a cutting is the cutting
pub is_cutting : (code : List ℕ) (cuts : List Cut) → IsCutting code cuts → cutting code ≡ Ok cuts
is_cutting code cuts is =
    ap (λ c. cutting_from 0 c []) (sym is.joined ∙ sym (append-nil (code_of cuts))) ∙ cut_all 0 cuts [] is.each
    ∙ ap (with_front cuts) (nothing_left _) ∙ ap Ok (append-nil cuts)

-- a refusal is the refusal
breaks : (code : List ℕ) (at : ℕ) (B : List ℕ → Type 0) (e : DecodeFault) → ((rest : List ℕ) → B rest → Stops rest at e) → BreaksAt code at B → cutting code ≡ Err e
breaks code at B e stop is =
    ap (λ c. cutting_from 0 c []) is.joined ∙ cut_all 0 is.cuts is.rest is.each
    ∙ ap (λ n. with_front is.cuts (cutting_from n is.rest [])) (omega (arith, is.place)) ∙ ap (with_front is.cuts) (stops at is.rest e (stop is.rest is.breaks))

pub is_refused : (code : List ℕ) (e : DecodeFault) → IsRefused code e → cutting code ≡ Err e
is_refused code (Refused D1 at) is = breaks code at IsCutOff (Refused D1 at) (λ rest b. (refl, b)) is
is_refused code (Refused D2 at) is = breaks code at IsTooLong (Refused D2 at) (λ rest b. (refl, b)) is
is_refused code (Refused D3 at) is = breaks code at IsUnknown (Refused D3 at) (λ rest b. (refl, b)) is
is_refused code Memory is = absurd is

-- what a cutting from an address on says of the code
pub record BreaksFrom (code : List ℕ) (first at : ℕ) (Breaks : List ℕ → Type 0) : Type 0 where
  cuts : List Cut
  rest : List ℕ
  joined : code ≡ code_of cuts ++ rest
  each : AllByRecursion IsSpelled cuts
  place : at ≡ first + length (code_of cuts)
  breaks : Breaks rest

abbrev Sound : List ℕ → ℕ → Result (List Cut) DecodeFault → Type 0
Sound code first (Ok cuts) = IsCutting code cuts
Sound code first (Err (Refused D1 at)) = BreaksFrom code first at IsCutOff
Sound code first (Err (Refused D2 at)) = BreaksFrom code first at IsTooLong
Sound code first (Err (Refused D3 at)) = BreaksFrom code first at IsUnknown
Sound code first (Err Memory) = ⊥

-- a break in front
in_front : (code : List ℕ) (first : ℕ) (B : List ℕ → Type 0) → B code → BreaksFrom code first first B
in_front code first B b = record { cuts = []; rest = code; joined = refl; each = tt; place = omega arith; breaks = b }

-- a break behind one more instruction
behind : (cut : Cut) (code : List ℕ) (first at : ℕ) (B : List ℕ → Type 0) → IsSpelled cut → BreaksFrom code (first + length cut.bytes) at B → BreaksFrom (cut.bytes ++ code) first at B
behind cut code first at B is b = record {
  cuts = cut ∷ b.cuts;
  rest = b.rest;
  joined = ap (λ c. cut.bytes ++ c) b.joined ∙ sym (append_assoc cut.bytes (code_of b.cuts) b.rest);
  each = (is, b.each);
  place = omega (arith, b.place, length-append cut.bytes (code_of b.cuts));
  breaks = b.breaks;
}

sound_before : (cut : Cut) (code : List ℕ) (first : ℕ) (r : Result (List Cut) DecodeFault) → IsSpelled cut →
    Sound code (first + length cut.bytes) r → Sound (cut.bytes ++ code) first (before first cut.bytes (Some cut.instr) r)
sound_before cut code first (Ok cuts) is s = record { joined = ap (λ c. cut.bytes ++ c) s.joined; each = (is, s.each) }
sound_before cut code first (Err (Refused D1 at)) is s = behind cut code first at IsCutOff is s
sound_before cut code first (Err (Refused D2 at)) is s = behind cut code first at IsTooLong is s
sound_before cut code first (Err (Refused D3 at)) is s = behind cut code first at IsUnknown is s
sound_before cut code first (Err Memory) is s = absurd s

none_some' : (o : Option Instr) (i : Instr) → o ≡ None → o ≡ Some i → ⊥
none_some' None i e f = cc
none_some' (Some j) i e f = cc

-- one spelling in front, of an instruction or of none
sound_spelling : (bytes code : List ℕ) (first f : ℕ) (e : ℤ) (r : Result (List Cut) DecodeFault) →
    IsSpelling bytes f e → Sound code (first + length bytes) r →
    Sound (bytes ++ code) first (before first bytes (spelled_instruction bytes) r)
unfolding spelled_instruction
sound_spelling bytes code first f e r is s = by_case (instruction f e) refl
  where
    names : spelled_instruction bytes ≡ instruction f e
    names = rw is.spells refl

    by_case : (o : Option Instr) → instruction f e ≡ o → Sound (bytes ++ code) first (before first bytes (spelled_instruction bytes) r)
    by_case None none =
        rw (names ∙ none) (in_front (bytes ++ code) first IsUnknown record {
          bytes = bytes;
          after = code;
          function = f;
          operand = e;
          front = refl;
          spelling = is;
          unknown = λ i has has'. absurd (none_some' (instruction f e) i none (sym (ap (λ g. instruction g (entry i).operand) has ∙ ap (instruction f) has') ∙ entry_gives i));
        })
    by_case (Some i) found =
        let has = given_entry f e i found in
        rw (names ∙ found) (sound_before record { bytes = bytes; instr = i } code first r (rw (has.0, has.1) is) s)

pub sound : (first : ℕ) (code prefixes : List ℕ) → ArePrefixes prefixes → length prefixes < 8 → Sound (prefixes ++ code) first (cutting_from first code prefixes)
sound first [] [] are few = rw (nothing_left first) record { joined = refl; each = tt }
sound first [] (p ∷ prefixes) are few =
    let all : (p ∷ prefixes) ++ [] ≡ p ∷ prefixes = append-nil (p ∷ prefixes) in
    rw (ended first p prefixes, all) (in_front (p ∷ prefixes) first IsCutOff record { some = omega arith; few = few; prefixes = are })
sound first (b ∷ code) prefixes are few = by_test (sound first code (prefixes ++ b ∷ []))
    (sound (first + length (prefixes ++ b ∷ [])) code []) (is_prefix b) refl (nat_lt (length (prefixes ++ b ∷ [])) 8) refl
  where
    joined : (prefixes ++ b ∷ []) ++ code ≡ prefixes ++ b ∷ code
    joined = append_assoc prefixes (b ∷ []) code

    longer : length (prefixes ++ b ∷ []) ≡ length prefixes + 1
    longer = length-append prefixes (b ∷ [])

    by_test : (ArePrefixes (prefixes ++ b ∷ []) → length (prefixes ++ b ∷ []) < 8 → Sound ((prefixes ++ b ∷ []) ++ code) first (cutting_from first code (prefixes ++ b ∷ [])))
        → (ArePrefixes [] → length {A = ℕ} [] < 8 → Sound code (first + length (prefixes ++ b ∷ [])) (cutting_from (first + length (prefixes ++ b ∷ [])) code []))
        → (p : Bool) → is_prefix b ≡ p → (q : Bool) → nat_lt (length (prefixes ++ b ∷ [])) 8 ≡ q → Sound (prefixes ++ b ∷ code) first (cutting_from first (b ∷ code) prefixes)
    by_test more next true is true short =
        let lt : length (prefixes ++ b ∷ []) < 8 = grind (arith, nat_tests) in
        rw (one_prefix first b code prefixes is lt, ← joined) (more (ArePrefixes-append prefixes (b ∷ []) are (rw is refl)) lt)
    by_test more next true is false long =
        let ge : 8 ≤ length (prefixes ++ b ∷ []) = grind (arith, nat_tests) in
        let eight : length (prefixes ++ b ∷ []) ≡ 8 = omega (arith, longer) in
        let front : take 8 ((prefixes ++ b ∷ []) ++ code) ≡ prefixes ++ b ∷ [] = ap (λ n. take n ((prefixes ++ b ∷ []) ++ code)) (sym eight) ∙ take-append_seam (prefixes ++ b ∷ []) code in
        rw (eighth_prefix first b code prefixes is ge, ← joined) (in_front ((prefixes ++ b ∷ []) ++ code) first IsTooLong record {
          many = rw length-append (omega arith);
          prefixes = rw front (ArePrefixes-append prefixes (b ∷ []) are (rw is refl));
        })
    by_test more next false is q short =
        let reads = spelled_behind 0 b prefixes are ∙ last_byte (loaded 0 prefixes) b is in
        rw (last_of_spelling first b code prefixes is, ← joined)
        (sound_spelling (prefixes ++ b ∷ []) code first _ _ _ record { short = omega (arith, longer); spells = reads }
        (next refl (omega arith)))

-- the whole code
pub sound_ok : (code : List ℕ) (cuts : List Cut) → cutting code ≡ Ok cuts → IsCutting code cuts
sound_ok code cuts is = rw is at (sound 0 code [] refl (omega arith))

abbrev at_zero : {code : List ℕ} {at : ℕ} {B : List ℕ → Type 0} → BreaksFrom code 0 at B → BreaksAt code at B
at_zero b = record { cuts = b.cuts; rest = b.rest; joined = b.joined; each = b.each; place = b.place ∙ omega arith; breaks = b.breaks }

pub sound_err : (code : List ℕ) (e : DecodeFault) → cutting code ≡ Err e → IsRefused code e
sound_err code (Refused D1 at) is = at_zero (rw is at (sound 0 code [] refl (omega arith)))
sound_err code (Refused D2 at) is = at_zero (rw is at (sound 0 code [] refl (omega arith)))
sound_err code (Refused D3 at) is = at_zero (rw is at (sound 0 code [] refl (omega arith)))
sound_err code Memory is = rw is at (sound 0 code [] refl (omega arith))
