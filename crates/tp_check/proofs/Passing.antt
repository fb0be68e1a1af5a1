-- The instructions of a code, one after another.
use Rattle.std.proofs.Common.{◌≡◌, ◌≢◌, ℕ, zero, suc, ◌+◌, ◌<◌, ◌⊎◌, inl, inr, IsTrue, Bool, true, false, if◌then◌else◌}
use Rattle.std.proofs.Common.{List, [], ◌∷◌, length, slice_get, Option, Some, None, refl, sym, ap, ◌∙◌, subst, rules}
use Rattle.std.proofs.Common.{arith}
use Rattle.std.specs.Prelude.{All}
use Rattle.std.specs.Option.{is_some, option_and_then, option_map}
use Rattle.std.proofs.lemmas.Option.{same_Some}
use Rattle.tp_decode.specs.declared.placed.Placed.{Placed}
use Rattle.tp_decode.specs.Cutting.{Cut, cut_at, placed_from}
use Rattle.tp_flow.specs.declared.edge.Edge.{Edge}
use Rattle.tp_flow.specs.declared.edge.Edge.TheVariants.{Next, Taken, Back, Out}
use Rattle.tp_image.specs.declared.image.LoopRow.{LoopRow}
use Rattle.tp_flow.specs.declared.range.LoopRange.{LoopRange}
use Rattle.tp_flow.specs.NestRanges.{ranges, number_ended_at, head_of}
use Rattle.tp_flow.specs.Edges.{target, has_edge}
use Rattle.tp_flow.specs.NestKept.{KeepsNest, IsLoop}
use Rattle.tp_flow.specs.RowRules.{is_start}
use Rattle.tp_flow.proofs.FlowFirst.{is_there}
use Rattle.tp_flow.proofs.FlowKept.{ends_here}
use Rattle.tp_flow.proofs.FlowSpelled.{some_bytes}
use Rattle.tp_flow.proofs.LoopMoves.{keeps_around}
use Rattle.tp_image.specs.Image.{ImageValue}
use Rattle.tp_check.specs.UnderWay.{MayBeTaken}
use Rattle.tp_check.proofs.Places.{IsInItsPlace}

-- ---- an instruction of the code

body_there : (cuts : List Cut) (rows : List LoopRow) → All (IsLoop cuts) rows → (l : ℕ) (range : LoopRange) → slice_get (ranges rows) l ≡ Some range → range.head < range.lend
body_there cuts [] all l range is = absurd cc
body_there cuts (row ∷ rows) all zero range is = subst (λ (r : LoopRange). r.head < r.lend) (same_Some _ _ is) (all 0 row (omega arith)).body
body_there cuts (row ∷ rows) all (suc l) range is = body_there cuts rows (λ k d lt. all (suc k) d (omega (arith, lt))) l range is

is_back : (edge : Edge) → (edge ≡ Back) ⊎ (edge ≢ Back)
is_back Next = inr (λ e. cc)
is_back Taken = inr (λ e. cc)
is_back Back = inl refl
is_back Out = inr (λ e. cc)

-- no edge leads to its own instruction
on_another : (image : ImageValue) (cuts : List Cut) → KeepsNest image.loops image.workspace cuts →
    (at to : ℕ) (edge : Edge) (cut : Cut) → cut_at cuts at ≡ Some cut →
    target (ranges image.loops) at (at + length cut.bytes) cut.instr edge ≡ Some to → to ≢ at
on_another image cuts kept at to edge cut stands leads = by_edge (is_back edge)
  where
    by_number : (o : Option ℕ) → number_ended_at (ranges image.loops) at ≡ o → option_and_then (head_of (ranges image.loops)) o ≡ Some to → to ≢ at
    by_number None e goes same = cc
    by_number (Some l) e goes same =
        let ends = ends_here (ranges image.loops) at l e in
        let head : Some ends.range.head ≡ Some to = ap (option_map (λ r. r.head)) (sym ends.there) ∙ goes in
        let head_is : ends.range.head ≡ to = same_Some _ _ head in
        let body = body_there cuts image.loops kept.loops l ends.range ends.there in
        omega (arith, head_is, body, ends.lend, same)

    by_test : (b : Bool) → (if b then option_and_then (head_of (ranges image.loops)) (number_ended_at (ranges image.loops) at) else None) ≡ Some to → to ≢ at
    by_test true goes = by_number (number_ended_at (ranges image.loops) at) refl goes
    by_test false goes = λ same. cc

    by_edge : (edge ≡ Back) ⊎ (edge ≢ Back) → to ≢ at
    by_edge (inl back) same = by_test (has_edge cut.instr Back) (ap (target (ranges image.loops) at (at + length cut.bytes) cut.instr) (sym back) ∙ leads) same
    by_edge (inr other) same =
        let up = kept.forward at to edge (record { cut = cut; stands = stands; goes = leads }) other in
        let some = some_bytes cuts at cut kept.spelled stands in
        omega (arith, up, some, same)

pub may_be_taken : (image : ImageValue) (cuts : List Cut) (places : ℕ) (p : Placed) →
    KeepsNest image.loops image.workspace cuts → ((at : ℕ) → IsTrue (is_start cuts at) → at < places) →
    IsInItsPlace cuts p → MayBeTaken image places p
may_be_taken image cuts places p kept inside stands = subst (MayBeTaken image places) (sym stands.is) (record {
  inside = inside p.at (ap is_some stands.there);
  targets = λ edge to leads. inside to (kept.starts p.at to edge (record { cut = stands.cut; stands = stands.there; goes = leads }));
  elsewhere = λ edge to leads. on_another image cuts kept p.at to edge stands.cut stands.there leads;
  around = keeps_around image.loops image.workspace cuts kept p.at stands.cut stands.there;
})

-- an instruction is there
pub no_instruction : (cuts : List Cut) (i : ℕ) → i < length cuts → slice_get (placed_from 0 cuts) i ≡ None → ⊥
no_instruction cuts i inside none = let there = is_there cuts i None inside (sym none) in search rules
