-- Every edge respects the table of the verdict.
use Rattle.std.proofs.Common.{◌≡◌, ℕ, zero, suc, ◌<◌, List, [], ◌∷◌, ◌++◌, length, slice_get, get_or, Some, Result, Ok, Err, refl, subst, arith}
use Rattle.std.specs.List.{flat_map, AllByRecursion}
use Rattle.std.proofs.lemmas.Option.{same_Some}
use Rattle.std.proofs.lemmas.List.Concat.{flat_map-cons}
use Rattle.tp_decode.specs.declared.placed.Placed.{Placed}
use Rattle.tp_decode.specs.Cutting.{Cut, placed_from, IsSpelled}
use Rattle.tp_decode.proofs.NumberLemmas.{placed as placed_cut}
use Rattle.tp_flow.specs.declared.edge.Edge.{Edge}
use Rattle.tp_flow.specs.NestKept.{KeepsNest}
use Rattle.tp_image.specs.Image.{ImageValue, InRange}
use Rattle.tp_state.specs.declared.state.State.{State}
use Rattle.tp_state.specs.declared.fault.StateFault.{StateFault}
use Rattle.tp_state.specs.Answer.{◌>>=◌}
use Rattle.tp_state.specs.Entry.{entry}
use Rattle.tp_state.specs.Sound.{IsSound}
use Rattle.tp_state.proofs.StateOrder.{is_below-self, is_below-trans}
use Rattle.tp_state.proofs.Passing.{same_Ok}
use Rattle.tp_check.specs.Tables.{Table, asked}
use Rattle.tp_check.specs.Passes.{edges_from, edges_of, edges_in, pass, passes, IsVerdict}
use Rattle.tp_check.specs.EdgesRespect.{HasAbove, RespectsFrom, EveryEdgeRespects}
use Rattle.tp_check.specs.Carried.{is_kept}
use Rattle.tp_check.proofs.Lone.{IsAmong, IsStateAt}
use Rattle.tp_check.proofs.Places.{number_of}
use Rattle.tp_check.proofs.Nests.{IsOne, lone, are_states}
use Rattle.tp_check.proofs.Trails.{placed_ok}
use Rattle.tp_check.proofs.Staying.{HasGone, stays_on, tables_rise}
use Rattle.tp_check.proofs.CarriedPasses.{Good, good_after}

-- ---- edges among others

pub left_among : (xs ys : List (Placed × Edge)) (i : ℕ) (e : Placed × Edge) → slice_get xs i ≡ Some e → slice_get (xs ++ ys) i ≡ Some e
left_among [] ys i e is = absurd cc
left_among (x ∷ xs) ys zero e is = is
left_among (x ∷ xs) ys (suc i) e is = left_among xs ys i e is

pub right_among : (xs ys : List (Placed × Edge)) (e : Placed × Edge) → IsAmong ys e → IsAmong (xs ++ ys) e
right_among [] ys e among = among
right_among (x ∷ xs) ys e among = let later = right_among xs ys e among in (suc later.0, later.1)

pub way_there : (p : Placed) (ways : List Edge) (k : ℕ) (d : Edge) → k < length ways → slice_get (edges_from p ways) k ≡ Some (p, get_or ways k d)
way_there p [] k d lt = absurd (omega (arith, lt))
way_there p (w ∷ ways) zero d lt = refl
way_there p (w ∷ ways) (suc k) d lt = way_there p ways k d (omega (arith, lt))

pub edge_there : (ps : List Placed) (i : ℕ) (p : Placed) → slice_get ps i ≡ Some p → (k : ℕ) (d : Edge) → k < length (asked p.instr) → IsAmong (flat_map edges_of ps) (p, get_or (asked p.instr) k d)
edge_there [] i p is k d lt = absurd cc
edge_there (q ∷ ps) zero p is k d lt =
    let same : q ≡ p = same_Some q p is in
    rw (flat_map-cons edges_of q ps, same) (k, left_among (edges_of p) (flat_map edges_of ps) k (p, get_or (asked p.instr) k d) (way_there p (asked p.instr) k d lt))
edge_there (q ∷ ps) (suc i) p is k d lt =
    rw (flat_map-cons edges_of q ps) (right_among (edges_of q) (flat_map edges_of ps) (p, get_or (asked p.instr) k d) (edge_there ps i p is k d lt))

module _ (image : ImageValue) (cuts : List Cut) (range : InRange image) (spelled : AllByRecursion IsSpelled cuts) (kept : KeepsNest image.loops image.workspace cuts) where
  abbrev Gone : Placed × Edge → Table → Table → Type 0
  Gone e table new = HasGone image range.rows kept.good (is_kept image cuts)
      (IsOne image cuts kept (is_kept image cuts) (λ at e. e)) (IsStateAt image)
      (lone image cuts kept (is_kept image cuts) (λ at e. e))
      (are_states image cuts kept (is_kept image cuts) (λ at e. e) range spelled) e table new

  each_goes : (table : Table) → Good image cuts range spelled kept (is_kept image cuts) (λ at e. e) table →
      pass image cuts table ≡ Ok table → (e : Placed × Edge) → IsAmong (edges_in cuts) e → Gone e table table
  each_goes table good stays e among =
      stays_on image range.rows kept.good (is_kept image cuts) (IsOne image cuts kept (is_kept image cuts) (λ at e. e))
      (IsStateAt image) (lone image cuts kept (is_kept image cuts) (λ at e. e))
      (are_states image cuts kept (is_kept image cuts) (λ at e. e) range spelled) (edges_in cuts) (λ i e is. (i, is))
      table good stays among.0 e among.1

  respects_from : (table : Table) → Good image cuts range spelled kept (is_kept image cuts) (λ at e. e) table → pass image cuts table ≡ Ok table → (at : ℕ) → RespectsFrom image cuts table at
  respects_from table good stays at cut s stands there k d lt =
      let number = number_of cuts at cut stands in
      let e : Placed × Edge = (placed_cut at cut, get_or (asked cut.instr) k d) in
      let gone = each_goes table good stays (placed_cut at cut, get_or (asked cut.instr) k d) (edge_there (placed_from 0 cuts) number.0 (placed_cut at cut) number.1 k d lt) in
      let done = gone.respects s there in
      record { outcome = done.0; goes_on = placed_ok at _ done.0 done.1; enters = done.2 }

  -- each pass leaves the first state below what stands at the first instruction
  begins_after : (n : ℕ) (table : Table) → passes image cuts n ≡ Ok table → HasAbove table 0 (entry image)
  begins_after zero table is = subst (λ t. HasAbove t 0 (entry image)) (same_Ok _ _ is) (record { state = entry image; there = refl; below = is_below-self (entry image) })
  begins_after (suc n) table is = by_answer (passes image cuts n) refl is (begins_after n)
    where
      by_answer : (r : Result Table StateFault) → passes image cuts n ≡ r → (r >>= pass image cuts) ≡ Ok table →
          ((t : Table) → passes image cuts n ≡ Ok t → HasAbove t 0 (entry image)) → HasAbove table 0 (entry image)
      by_answer (Ok t) before is go =
          let first = go t before in
          let up = tables_rise image range.rows kept.good (is_kept image cuts)
          (IsOne image cuts kept (is_kept image cuts) (λ at e. e)) (IsStateAt image)
          (lone image cuts kept (is_kept image cuts) (λ at e. e))
          (are_states image cuts kept (is_kept image cuts) (λ at e. e) range spelled) (edges_in cuts)
          (λ i e is. (i, is)) t table (good_after image cuts range spelled kept (is_kept image cuts) (λ at e. e) n t
          before) is 0 first.state first.there in
          record { state = up.state; there = up.there; below = is_below-trans (entry image) first.state up.state first.below up.below }
      by_answer (Err f) before is go = cc

  pub respected : (table : Table) → IsVerdict image cuts (Ok table) → EveryEdgeRespects image cuts table
  respected table verdict = record {
    begins = begins_after verdict.number table verdict.arrives;
    each = respects_from table (good_after image cuts range spelled kept (is_kept image cuts) (λ at e. e) verdict.number table verdict.arrives) verdict.stays;
  }

  pub stands_there : (n : ℕ) (table : Table) → passes image cuts n ≡ Ok table → (at : ℕ) (s : State) → table at ≡ Some s → IsStateAt image at s
  stands_there n table is at s there = (good_after image cuts range spelled kept (is_kept image cuts) (λ at e. e) n table is).stand at s there

  pub sound_there : (n : ℕ) (table : Table) → passes image cuts n ≡ Ok table → (at : ℕ) (s : State) → table at ≡ Some s → IsSound image s
  sound_there n table is at s there = (stands_there n table is at s there).sound
