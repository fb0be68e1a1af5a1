-- One instruction more in a listing, and what an answer says.
use Rattle.std.proofs.Common.{◌≡◌, ◌≢◌, ℕ, ◌+◌, ◌-◌, ◌<◌, true, nat_lt, List, [], ◌∷◌, ◌++◌, length, take, drop, Option}
use Rattle.std.proofs.Common.{Some, None, Result, Ok, Err, MatchResult, IfOk, IfErr, refl, subst, ap, sym, ◌∙◌, arith}
use Rattle.std.proofs.Common.{length-append, length-drop, slice_range}
use Rattle.std.specs.List.{list_all, AllByRecursion}
use Rattle.std.proofs.lemmas.List.{length-map, append-nil, take-append-drop, drop-drop, map-append, length-take}
use Rattle.std.proofs.lemmas.List.Folds.{list_all-append}
use Rattle.std.proofs.lemmas.Grind.{flat_map-append}
use Rattle.std.proofs.lemmas.Bool.Decides.{nat_tests}
use Rattle.tp_decode.specs.declared.fault.DecodeFault.{DecodeFault}
use Rattle.tp_decode.specs.declared.fault.DecodeCode.TheVariants.{D1, D2, D3}
use Rattle.tp_decode.specs.declared.fault.DecodeFault.TheVariants.{Refused, Memory}
use Rattle.tp_decode.specs.declared.piece.Piece.{Piece}
use Rattle.tp_decode.specs.Cutting.{Cut, IsSpelled, code_of, IsCutting, IsRefused, IsUnknown, cutting_from, cutting, starts_from}
use Rattle.tp_prefix.specs.Spelling.{spelled, IsSpelledAt}
use Rattle.tp_prefix.specs.declared.spelled.Spelled.{Spelled}
use Rattle.tp_decode.specs.declared.instr.Instr.{Instr}
use Rattle.tp_decode.proofs.TableLemmas.{entry_gives, given_entry}
use Rattle.tp_prefix.proofs.SpellingLemmas.{none_some}
use Rattle.tp_decode.specs.Table.{entry, instruction}
use Rattle.tp_decode.specs.Front.{BeginsWith, Stops}
use Rattle.tp_decode.specs.Listings.{cut_of, cuts_of, IsListing, numbered, numbers_from, Gives}
use Rattle.tp_decode.proofs.NumberLemmas.{numbers_more}
use Rattle.tp_decode.proofs.CuttingLemmas.{cut_one, stops, nothing_left}
use Rattle.tp_decode.proofs.Verdicts.{with_front, with_front-append, before_is, is_cutting, is_refused, sound_ok, sound_err}

-- the instruction in front is cut
pub one_more : (code : List ℕ) (at : ℕ) (cuts : List Cut) (cut : Cut) → with_front cuts (cutting_from at (drop at code) []) ≡ cutting code → BeginsWith (drop at code) cut →
    with_front (cuts ++ cut ∷ []) (cutting_from (at + length cut.bytes) (drop (at + length cut.bytes) code) []) ≡ cutting code
one_more code at cuts cut so_far begins =
    let n = length cut.bytes in
    let rest = drop (at + n) code in
    let split : drop at code ≡ cut.bytes ++ rest = sym (take-append-drop n (drop at code)) ∙
    ap (λ front. front ++ drop n (drop at code)) begins.front ∙ ap (λ r. cut.bytes ++ r) (drop-drop n at code) in
    sym (with_front-append cuts (cut ∷ []) (cutting_from (at + n) rest []))
    ∙ ap (with_front cuts) (sym (ap (λ c. cutting_from at c []) split ∙ cut_one at cut rest begins.spelled ∙ before_is at cut _))
    ∙ so_far

-- the end of the code
pub all_cut : (code : List ℕ) (at : ℕ) (cuts : List Cut) → with_front cuts (cutting_from at (drop at code) []) ≡ cutting code → drop at code ≡ [] → cutting code ≡ Ok cuts
all_cut code at cuts so_far end =
    sym so_far ∙ ap (with_front cuts) (ap (λ c. cutting_from at c []) end ∙ nothing_left at) ∙ ap Ok (append-nil cuts)

pub gives_err : (e : DecodeFault) (said : Result (List Cut) DecodeFault) → said ≡ Err e → Gives (Err e) said
gives_err (Refused D1 at) said is = is
gives_err (Refused D2 at) said is = is
gives_err (Refused D3 at) said is = is
gives_err Memory said is = tt

-- no instruction in front
pub stopped : (code : List ℕ) (at : ℕ) (cuts : List Cut) (e : DecodeFault) →
    with_front cuts (cutting_from at (drop at code) []) ≡ cutting code → Stops (drop at code) at e →
    Gives (Err e) (cutting code)
stopped code at cuts e so_far is = gives_err e (cutting code) (sym so_far ∙ ap (with_front cuts) (stops at (drop at code) e is))

starts_more : (at : ℕ) (cuts : List Cut) (cut : Cut) → starts_from at (cuts ++ cut ∷ []) ≡ starts_from at cuts ++ (at + length (code_of cuts)) ∷ []
starts_more at [] cut = ap (λ n. n ∷ []) (omega arith)
starts_more at (c ∷ cuts) cut =
    let place : at + length c.bytes + length (code_of cuts) ≡ at + length (c.bytes ++ code_of cuts) = omega (arith, length-append c.bytes (code_of cuts)) in
    ap (λ xs. at ∷ xs) (starts_more (at + length c.bytes) cuts cut ∙ ap (λ n. starts_from (at + length c.bytes) cuts ++ n ∷ []) place)

all_more : (cuts : List Cut) (cut : Cut) → AllByRecursion IsSpelled cuts → IsSpelled cut → AllByRecursion IsSpelled (cuts ++ cut ∷ [])
all_more [] cut all is = (is, tt)
all_more (c ∷ cuts) cut all is = (all.0, all_more cuts cut all.1 is)

-- a listing with one instruction more
pub listing_more : (starts : List ℕ) (numbers : List (Option ℕ)) (pieces : List Piece) (piece : Piece) (at : ℕ) →
    IsListing starts numbers pieces → length (code_of (cuts_of pieces)) ≡ at → 0 < length (cut_of piece).bytes →
    IsSpelled (cut_of piece) →
    IsListing (starts ++ at ∷ []) (numbers ++ numbered (length pieces) (cut_of piece)) (pieces ++ piece ∷ [])
listing_more starts numbers pieces piece at is place some spelled = record {
  counted =
      ap (λ ns. ns ++ numbered (length pieces) (cut_of piece)) is.counted
      ∙ sym (ap (numbers_from 0) (map-append cut_of pieces (piece ∷ [])) ∙
      numbers_more 0 (cuts_of pieces) (cut_of piece) ∙ ap
      (λ n. numbers_from 0 (cuts_of pieces) ++ numbered n (cut_of piece)) (omega (arith, length-map pieces cut_of)));
  each = subst (AllByRecursion IsSpelled) (sym (map-append cut_of pieces (piece ∷ []))) (all_more (cuts_of pieces) (cut_of piece) is.each spelled);
  rising = ap (λ xs. xs ++ at ∷ []) is.rising ∙ sym (ap (starts_from 0) (map-append cut_of pieces (piece ∷ [])) ∙
      starts_more 0 (cuts_of pieces) (cut_of piece) ∙ ap (λ n. starts_from 0 (cuts_of pieces) ++ n ∷ [])
      (omega (arith, place)));
  some =
      let test : nat_lt 0 (length (cut_of piece).bytes) ≡ true = grind (arith, nat_tests) in
      ap (list_all (λ cut. nat_lt 0 (length cut.bytes))) (map-append cut_of pieces (piece ∷ [])) ∙
      list_all-append (λ cut. nat_lt 0 (length cut.bytes)) (cuts_of pieces) (cut_of piece ∷ []) ∙
      rw (is.some, test) refl;
}

pub code_more : (pieces : List Piece) (piece : Piece) → length (code_of (cuts_of (pieces ++ piece ∷ []))) ≡ length (code_of (cuts_of pieces)) + length (cut_of piece).bytes
code_more pieces piece =
    ap (λ cuts. length (code_of cuts)) (map-append cut_of pieces (piece ∷ [])) ∙
    ap length (flat_map-append (λ cut. cut.bytes) (cuts_of pieces) (cut_of piece ∷ [])) ∙
    length-append (code_of (cuts_of pieces)) _ ∙ ap (λ bytes. length (code_of (cuts_of pieces)) + length bytes)
    (append-nil (cut_of piece).bytes)

-- what an answer says of the code
pub said_cutting : (code : List ℕ) (r : Result (List Cut) DecodeFault) → Gives r (cutting code) → IfOk r (λ cuts. IsCutting code cuts)
said_cutting code (Ok cuts) gives = sound_ok code cuts gives
said_cutting code (Err e) gives = tt

pub said_only : (code : List ℕ) (r : Result (List Cut) DecodeFault) (cuts : List Cut) → Gives r (cutting code) → IsCutting code cuts → MatchResult r (λ listing. listing ≡ cuts) (λ e. e ≡ Memory)
said_only code (Ok cs) cuts gives is = let e = sym gives ∙ is_cutting code cuts is in cc
said_only code (Err (Refused D1 at)) cuts gives is = let e = sym gives ∙ is_cutting code cuts is in cc
said_only code (Err (Refused D2 at)) cuts gives is = let e = sym gives ∙ is_cutting code cuts is in cc
said_only code (Err (Refused D3 at)) cuts gives is = let e = sym gives ∙ is_cutting code cuts is in cc
said_only code (Err Memory) cuts gives is = refl

pub said_refused : (code : List ℕ) (r : Result (List Cut) DecodeFault) → Gives r (cutting code) → IfErr r (λ e. e ≢ Memory → IsRefused code e)
said_refused code (Ok cuts) gives = tt
said_refused code (Err (Refused D1 at)) gives = λ other. sound_err code (Refused D1 at) gives
said_refused code (Err (Refused D2 at)) gives = λ other. sound_err code (Refused D2 at) gives
said_refused code (Err (Refused D3 at)) gives = λ other. sound_err code (Refused D3 at) gives
said_refused code (Err Memory) gives = λ other. absurd (other refl)

pub said_first : (code : List ℕ) (r : Result (List Cut) DecodeFault) (e : DecodeFault) → Gives r (cutting code) → IsRefused code e → MatchResult r (λ listing. ⊥) (λ f. f ≢ Memory → f ≡ e)
said_first code (Ok cuts) e gives is = let same = sym gives ∙ is_refused code e is in no_cutting cuts e same
  where
    no_cutting : (cuts : List Cut) (e : DecodeFault) → ◌≡◌ {A = Result (List Cut) DecodeFault} (Ok cuts) (Err e) → ⊥
    no_cutting cuts e same = cc
said_first code (Err (Refused D1 at)) e gives is = λ other. let same = sym gives ∙ is_refused code e is in cc
said_first code (Err (Refused D2 at)) e gives is = λ other. let same = sym gives ∙ is_refused code e is in cc
said_first code (Err (Refused D3 at)) e gives is = λ other. let same = sym gives ∙ is_refused code e is in cc
said_first code (Err Memory) e gives is = λ other. absurd (other refl)

-- a spelling is not empty
pub spelled_some : (cut : Cut) → IsSpelled cut → 0 < length cut.bytes
unfolding spelled
spelled_some cut is = by_case cut.bytes is.spells
  where
    by_case : (bytes : List ℕ) → spelled 0 bytes ≡ Some ((entry cut.instr).function, (entry cut.instr).operand) → 0 < length bytes
    by_case [] is = absurd (none_some None _ refl is)
    by_case (b ∷ bytes) is = omega arith

-- what is read in front, as an instruction or as none
pub unknown_in_front : (code : List ℕ) (at : ℕ) (s : Spelled) → IsSpelledAt code at s → instruction s.function s.operand ≡ None → IsUnknown (drop at code)
unknown_in_front code at s stands none = record {
  bytes = slice_range code at s.next;
  after = drop (s.next - at) (drop at code);
  function = s.function;
  operand = s.operand;
  front = sym (take-append-drop (s.next - at) (drop at code));
  spelling = stands.spelling;
  unknown = λ i f e. absurd (missing (instruction s.function s.operand) i none (sym (ap (λ g. instruction g (entry i).operand) f ∙ ap (instruction s.function) e) ∙ entry_gives i));
}
  where
    missing : (o : Option Instr) (i : Instr) → o ≡ None → o ≡ Some i → ⊥
    missing None i e f = cc
    missing (Some j) i e f = cc

pub known_in_front : (code : List ℕ) (at : ℕ) (s : Spelled) (bytes : List ℕ) (i : Instr) → IsSpelledAt code at s →
    instruction s.function s.operand ≡ Some i → bytes ≡ take (s.next - at) (drop at code) →
    BeginsWith (drop at code) record { bytes = bytes; instr = i }
known_in_front code at s bytes i stands found is =
    let has = given_entry s.function s.operand i found in
    let count : length bytes ≡ s.next - at = omega (arith, ap length is, length-take (s.next - at) (drop at code), length-drop at code, stands.within) in
    record {
      within = omega (arith, count, length-drop at code, stands.within, stands.forward);
      front = ap (λ n. take n (drop at code)) count ∙ sym is;
      spelled = rw (has.0, has.1, is) stands.spelling;
    }
