-- Instructions in front of a code, and their lines.
use Rattle.std.proofs.Common.{◌≡◌, ◌↔◌, ◌⊎◌, inl, inr, ℕ, ◌-◌, ◌≤◌, List, [], ◌∷◌, ◌++◌, length, take, drop, Result, Err, IfErr, refl, sym, ap, subst, ◌∙◌, arith, append_assoc}
use Rattle.std.specs.List.{flat_map, AllByRecursion}
use Rattle.std.proofs.Math.Seq.{take-add}
use Rattle.std.proofs.lemmas.List.Concat.{flat_map-append}
use Rattle.tp_prefix.specs.Spelling.{IsCutOff, IsTooLong}
use Rattle.tp_prefix.specs.declared.spelled.Spelled.{Spelled}
use Rattle.tp_prefix.specs.declared.spelled.PrefixFault.{PrefixFault}
use Rattle.tp_prefix.specs.declared.spelled.PrefixFault.TheVariants as prefix
use Rattle.tp_decode.specs.declared.fault.DecodeFault.{DecodeFault}
use Rattle.tp_decode.specs.declared.fault.DecodeCode.TheVariants as code_variant
use Rattle.tp_decode.specs.declared.fault.DecodeFault.TheVariants.{Refused}
use Rattle.tp_decode.specs.Cutting.{Cut, IsSpelled, code_of}
use Rattle.tp_decode.specs.Front.{BeginsWith, Stops}
use Rattle.tpw_asm.specs.declared.program.Line.{Line}
use Rattle.tpw_asm.specs.CodeLines.{cut_lines}

-- where no spelling is read, none is cut
pub stops_unread : (bytes : List ℕ) (at : ℕ) (r : Result Spelled PrefixFault) (e : PrefixFault) → r ≡ Err e → IfErr r (λ e. (e ≡ prefix.D1 at) ⊎ (e ≡ prefix.D2 at))
    → ((r ≡ Err (prefix.D1 at)) ↔ IsCutOff bytes) → ((r ≡ Err (prefix.D2 at)) ↔ IsTooLong bytes) → (f : DecodeFault) × Stops bytes at f
stops_unread bytes at r e is refused cut long = by_case (subst (λ (r : Result Spelled PrefixFault). IfErr r (λ e. (e ≡ prefix.D1 at) ⊎ (e ≡ prefix.D2 at))) is refused)
  where
    by_case : (e ≡ prefix.D1 at) ⊎ (e ≡ prefix.D2 at) → (f : DecodeFault) × Stops bytes at f
    by_case (inl one) = (Refused code_variant.D1 at, (refl, cut.0 (is ∙ ap Err one)))
    by_case (inr two) = (Refused code_variant.D2 at, (refl, long.0 (is ∙ ap Err two)))

pub append_nil : {A : Type 0} (xs : List A) → xs ++ [] ≡ xs
append_nil [] = refl
append_nil (x ∷ xs) = ap (λ ys. x ∷ ys) (append_nil xs)

take_range : (code : List ℕ) (at next : ℕ) → at ≤ next → take at code ++ take (next - at) (drop at code) ≡ take next code
take_range code at next h = sym (take-add at (next - at) code) ∙ ap (λ n. take n code) (omega arith)

code_of-push : (cuts : List Cut) (cut : Cut) → code_of (cuts ++ cut ∷ []) ≡ code_of cuts ++ cut.bytes
code_of-push [] cut = append_nil cut.bytes
code_of-push (c ∷ cuts) cut = ap (λ xs. c.bytes ++ xs) (code_of-push cuts cut) ∙ sym (append_assoc c.bytes (code_of cuts) cut.bytes)

all_push : (cuts : List Cut) (cut : Cut) → AllByRecursion IsSpelled cuts → IsSpelled cut → AllByRecursion IsSpelled (cuts ++ cut ∷ [])
all_push [] cut all is = (is, tt)
all_push (c ∷ cuts) cut all is = (all.0, all_push cuts cut all.1 is)

lines-push : (cuts : List Cut) (cut : Cut) → flat_map cut_lines (cuts ++ cut ∷ []) ≡ flat_map cut_lines cuts ++ cut_lines cut
lines-push cuts cut = flat_map-append cut_lines cuts (cut ∷ []) ∙ ap (λ xs. flat_map cut_lines cuts ++ xs) (append_nil (cut_lines cut))

-- the lines of a code up to an address
pub record LinesTo (code : List ℕ) (at : ℕ) (lines : List Line) : Type 0 where
  pub cuts : List Cut
  pub joined : code_of cuts ≡ take at code
  pub each : AllByRecursion IsSpelled cuts
  pub are : lines ≡ flat_map cut_lines cuts

-- one instruction more
pub lines_more : (code : List ℕ) (at next : ℕ) (lines : List Line) (cut : Cut) → at ≤ next → next ≤ length code → LinesTo code at lines → BeginsWith (drop at code) cut → length cut.bytes ≡ next - at
    → LinesTo code next (lines ++ cut_lines cut)
lines_more code at next lines cut h h' so_far begins size = record {
  cuts = so_far.cuts ++ cut ∷ [];
  joined = code_of-push so_far.cuts cut ∙ ap (λ xs. xs ++ cut.bytes) so_far.joined ∙
      ap (λ xs. take at code ++ xs) (sym begins.front ∙ ap (λ n. take n (drop at code)) size) ∙ take_range code at next h;
  each = all_push so_far.cuts cut so_far.each begins.spelled;
  are = ap (λ xs. xs ++ cut_lines cut) so_far.are ∙ sym (lines-push so_far.cuts cut);
}
