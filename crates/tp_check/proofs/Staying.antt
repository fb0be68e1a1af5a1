-- Every edge respects the table of the verdict.
use Rattle.std.proofs.Common.{◌≡◌, ℕ, zero, suc, ◌==◌, Bool, true, false, List, [], ◌∷◌, slice_get, Option, Some, None, Result, Ok, Err, refl, sym, ap, ◌∙◌, subst, arith}
use Rattle.std.specs.Prelude.{IfOk, All}
use mathlib.Core.Path.{fun_ext}
use Rattle.std.proofs.lemmas.Bool.Decides.{nat_tests, Decides-eqb}
use Rattle.std.proofs.lemmas.Option.{same_Some}
use Rattle.tp_decode.specs.declared.placed.Placed.{Placed}
use Rattle.tp_flow.specs.declared.edge.Edge.{Edge}
use Rattle.tp_flow.specs.NestKept.{IsGood}
use Rattle.tp_image.specs.Image.{ImageValue, IsRow}
use Rattle.tp_state.specs.declared.state.State.{State}
use Rattle.tp_state.specs.declared.fault.StateCode.{StateCode}
use Rattle.tp_state.specs.declared.fault.StateFault.{StateFault}
use Rattle.tp_state.specs.Answer.{◌>>=◌}
use Rattle.tp_state.specs.Order.{IsBelow, meeting}
use Rattle.tp_state.proofs.StateOrder.{is_below-self, is_below-trans, is_below-antisym, is_below-join_left, is_below-join_right}
use Rattle.tp_state.proofs.Passing.{same_Ok}
use Rattle.tp_check.specs.Tables.{Table, with_state}
use Rattle.tp_check.specs.Passes.{with_place, meeting_if_any, enter, go_along, along_edges}
use Rattle.tp_check.specs.EdgesRespect.{HasAbove}
use Rattle.tp_check.specs.Carried.{target_of, outcome_of}
use Rattle.tp_check.proofs.Lone.{IsLone, AreStates}
use Rattle.tp_check.proofs.Trails.{Trails, one_edge, met_is}

-- each state of the first table has one above it in the second
abbrev pub IsUnder : Table → Table → Type 0
IsUnder table new = (at : ℕ) (s : State) → table at ≡ Some s → HasAbove new at s

under_self : (table : Table) → IsUnder table table
under_self table at s is = record { state = s; there = is; below = is_below-self s }

under_trans : (table new last : Table) → IsUnder table new → IsUnder new last → IsUnder table last
under_trans table new last h g at s is =
    let first = h at s is in let next = g at first.state first.there in
    record { state = next.state; there = next.there; below = is_below-trans s first.state next.state first.below next.below }

under_both : (table new : Table) → IsUnder table new → IsUnder new table → new ≡ table
under_both table new h g = fun_ext λ at. by_states at (table at) refl (new at) refl
  where
    by_states : (at : ℕ) (o : Option State) → table at ≡ o → (p : Option State) → new at ≡ p → new at ≡ table at
    by_states at None e None f = f ∙ sym e
    by_states at None e (Some t) f = let above = g at t f in absurd (let no : None ≡ Some above.state = sym e ∙ above.there in cc)
    by_states at (Some s) e None f = let above = h at s e in absurd (let no : None ≡ Some above.state = sym f ∙ above.there in cc)
    by_states at (Some s) e (Some t) f =
        let up = h at s e in let down = g at t f in
        let up_is : up.state ≡ t = same_Some up.state t (sym up.there ∙ f) in
        let down_is : down.state ≡ s = same_Some down.state s (sym down.there ∙ e) in
        let same : t ≡ s = is_below-antisym t s (subst (IsBelow t) down_is down.below) (subst (IsBelow s) up_is up.below) in
        f ∙ ap Some same ∙ sym e

under_with : (to : ℕ) (v : State) (table : Table) → ((u : State) → table to ≡ Some u → IsBelow u v) → IsUnder table (with_state to v table)
under_with to v table above at s is = by_test (at == to) refl
  where
    by_test : (b : Bool) → (at == to) ≡ b → HasAbove (with_state to v table) at s
    by_test true e =
        let here : at ≡ to = (Decides-eqb at to).0 e in
        record { state = v; there = rw e refl; below = above s (ap table (sym here) ∙ is) }
    by_test false e = record { state = s; there = rw e is; below = is_below-self s }

module _ (image : ImageValue) (are : All IsRow image.loops) (good : All (IsGood image.workspace) image.loops) (is_join : ℕ → Bool)
    (IsEdge : Placed × Edge → Type 0) (MayOccur : ℕ → State → Type 0) (lone : IsLone image is_join IsEdge) (states : AreStates image IsEdge MayOccur) where
  abbrev HasTrails : Table → Type 0
  HasTrails table = Trails image are good is_join IsEdge MayOccur lone states table

  -- where a state reaches an address, what was known there is below what is known there then, and so is the state
  arrived : (to : ℕ) (t : State) (table new : Table) → HasTrails table → MayOccur to t → enter (Some to) t table ≡ Ok new → IsUnder table new × HasAbove new to t
  unfolding enter
  arrived to t table new kept stands is = by_state (table to) refl is
    where
      here : (v : State) → with_state to v table to ≡ Some v
      here v = let same : (to == to) ≡ true = grind (arith, nat_tests) in rw same refl

      by_table : (v : State) → with_state to v table ≡ new → ((u : State) → table to ≡ Some u → IsBelow u v) → IsBelow t v → IsUnder table new × HasAbove new to t
      by_table v same above below = subst (λ n. IsUnder table n × HasAbove n to t) same (under_with to v table above, record { state = v; there = here v; below = below })

      by_meeting : (x : State) → table to ≡ Some x → (r : Result State StateCode) → meeting x t ≡ r →
          (with_place to r >>= λ v. Ok (with_state to v table)) ≡ Ok new → IsUnder table new × HasAbove new to t
      by_meeting x stood (Err c) m is = cc
      by_meeting x stood (Ok v) m is =
          let made = met_is image are good is_join IsEdge MayOccur lone states x t v m in
          let may = states.meet to x t (kept.stand to x stood) stands made.0 made.1 in
          by_table v (same_Ok _ _ is)
          (λ u stood_u. subst (λ z. IsBelow z v) (same_Some x u (sym stood ∙ stood_u)) (subst (IsBelow x) (sym made.2) (is_below-join_left x t may)))
          (subst (IsBelow t) (sym made.2) (is_below-join_right x t may))

      by_state : (o : Option State) → table to ≡ o → (with_place to (meeting_if_any o t) >>= λ v. Ok (with_state to v table)) ≡ Ok new → IsUnder table new × HasAbove new to t
      by_state None stood is = by_table t (same_Ok _ _ is) (λ u stood_u. absurd (let no : None ≡ Some u = sym stood ∙ stood_u in cc)) (is_below-self t)
      by_state (Some x) stood is = by_meeting x stood (meeting x t) refl is

  -- what an edge has done
  pub record HasGone (e : Placed × Edge) (table new : Table) : Type 0 where
    pub under : IsUnder table new
    pub respects : (s : State) → table e.0.at ≡ Some s → (t : State) × (outcome_of image e s ≡ Ok t) × ((to : ℕ) → target_of image e ≡ Some to → HasAbove new to t)

  has_gone : (e : Placed × Edge) → IsEdge e → (table new : Table) → HasTrails table → go_along image e.0 e.1 (table e.0.at) table ≡ Ok new → HasGone e table new
  unfolding go_along enter
  has_gone e is_e table new kept is = by_state (table e.0.at) refl is
    where
      by_target : (s t : State) → table e.0.at ≡ Some s → outcome_of image e s ≡ Ok t → (o : Option ℕ) → target_of image e ≡ o → enter o t table ≡ Ok new → HasGone e table new
      by_target s t there gives None goes is =
          let same : table ≡ new = same_Ok _ _ is in
          record {
            under = subst (IsUnder table) same (under_self table);
            respects = λ u also. (
              t,
              ap (outcome_of image e) (same_Some u s (sym also ∙ there)) ∙ gives,
              λ to goes_too. absurd (let no : None ≡ Some to = sym goes ∙ goes_too in cc),
            );
          }
      by_target s t there gives (Some to) goes is =
          let done = arrived to t table new kept (states.after e s t to is_e (kept.stand e.0.at s there) goes gives) is in
          record {
            under = done.0;
            respects = λ u also. (
              t,
              ap (outcome_of image e) (same_Some u s (sym also ∙ there)) ∙
                  gives,
              λ x goes_too. subst (λ y. HasAbove new y t) (same_Some to x (sym goes ∙ goes_too)) done.1,
            );
          }

      by_outcome : (s : State) → table e.0.at ≡ Some s → (r : Result State StateFault) → outcome_of image e s ≡ r → (r >>= λ t. enter (target_of image e) t table) ≡ Ok new → HasGone e table new
      by_outcome s there (Ok t) gives is = by_target s t there gives (target_of image e) refl is
      by_outcome s there (Err f) gives is = cc

      by_state : (o : Option State) → table e.0.at ≡ o → go_along image e.0 e.1 o table ≡ Ok new → HasGone e table new
      by_state None there is =
          let same : table ≡ new = same_Ok _ _ is in
          record { under = subst (IsUnder table) same (under_self table); respects = λ u also. absurd (let no : None ≡ Some u = sym there ∙ also in cc) }
      by_state (Some s) there is = by_outcome s there (outcome_of image e s) refl is

  kept_on : (e : Placed × Edge) → IsEdge e → (table new : Table) → HasTrails table → go_along image e.0 e.1 (table e.0.at) table ≡ Ok new → HasTrails new
  kept_on e is_e table new kept is = let one = one_edge image are good is_join IsEdge MayOccur lone states e is_e table kept in by_answer _ (sym one.0 ∙ is) one.1
    where
      by_answer : (r : Result Table StateFault) → r ≡ Ok new → IfOk r HasTrails → HasTrails new
      by_answer (Ok t) e h = let same : t ≡ new = cc in subst HasTrails same h
      by_answer (Err f) e h = cc

  pub tables_rise : (es : List (Placed × Edge)) → ((i : ℕ) (e : Placed × Edge) → slice_get es i ≡ Some e → IsEdge e) →
      (table new : Table) → HasTrails table → along_edges image es table ≡ Ok new → IsUnder table new
  tables_rise [] edges table new kept is = subst (IsUnder table) (same_Ok _ _ is) (under_self table)
  tables_rise (e ∷ more) edges table new kept is = by_answer (go_along image e.0 e.1 (table e.0.at) table) refl is (tables_rise more (λ i f is. edges (suc i) f is))
    where
      by_answer : (r : Result Table StateFault) → go_along image e.0 e.1 (table e.0.at) table ≡ r →
          (r >>= along_edges image more) ≡ Ok new → ((t n : Table) → HasTrails t → along_edges image more t ≡ Ok n →
          IsUnder t n) → IsUnder table new
      by_answer (Ok t) first is go = under_trans table t new (has_gone e (edges 0 e refl) table t kept first).under (go t new (kept_on e (edges 0 e refl) table t kept first) is)
      by_answer (Err f) first is go = cc

  -- a pass that leaves its table as it is leaves it so on each edge
  pub stays_on : (es : List (Placed × Edge)) → ((i : ℕ) (e : Placed × Edge) → slice_get es i ≡ Some e → IsEdge e) → (table : Table) → HasTrails table → along_edges image es table ≡ Ok table
      → (i : ℕ) (e : Placed × Edge) → slice_get es i ≡ Some e → HasGone e table table
  stays_on [] edges table kept is i e there = absurd cc
  stays_on (f ∷ more) edges table kept is i e there = by_answer (go_along image f.0 f.1 (table f.0.at) table) refl is i there (stays_on more (λ i g is. edges (suc i) g is) table kept)
    where
      by_answer : (r : Result Table StateFault) → go_along image f.0 f.1 (table f.0.at) table ≡ r → (r >>= along_edges image more) ≡ Ok table → (i : ℕ) → slice_get (f ∷ more) i ≡ Some e
          → (along_edges image more table ≡ Ok table → (j : ℕ) (g : Placed × Edge) → slice_get more j ≡ Some g → HasGone g table table) → HasGone e table table
      by_answer (Err c) first is i there go = cc
      by_answer (Ok t) first is i there go =
          let up = (has_gone f (edges 0 f refl) table t kept first).under in
          let down = tables_rise more (λ i g is. edges (suc i) g is) t table (kept_on f (edges 0 f refl) table t kept first) is in
          let same : t ≡ table = under_both table t up down in
          let stays : along_edges image more table ≡ Ok table = ap (along_edges image more) (sym same) ∙ is in
          by_place i there (has_gone f (edges 0 f refl) table table kept (first ∙ ap Ok same)) (go stays)
        where
          by_place : (i : ℕ) → slice_get (f ∷ more) i ≡ Some e → HasGone f table table → ((j : ℕ) (g : Placed × Edge) → slice_get more j ≡ Some g → HasGone g table table) → HasGone e table table
          by_place zero there gone go = subst (λ g. HasGone g table table) (same_Some f e there) gone
          by_place (suc j) there gone go = go j e there
