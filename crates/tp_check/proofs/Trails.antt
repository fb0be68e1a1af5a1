-- At an address that one edge alone reaches, a pass leaves the outcome of that edge.
use Rattle.std.proofs.Common.{◌≡◌, ℕ, suc, slice_get, ◌==◌, Bool, true, false, if◌then◌else◌, List, [], ◌∷◌, Option, Some, None, Result, Ok, Err, refl, sym, ap, ◌∙◌, subst}
use Rattle.std.specs.Prelude.{IfOk, All}
use Rattle.std.proofs.lemmas.Bool.Decides.{Decides-eqb}
use Rattle.std.proofs.lemmas.Option.{same_Some}
use Rattle.tp_decode.specs.declared.placed.Placed.{Placed}
use Rattle.tp_flow.specs.declared.edge.Edge.{Edge}
use Rattle.tp_flow.specs.NestKept.{IsGood}
use Rattle.tp_image.specs.Image.{ImageValue, IsRow}
use Rattle.tp_state.specs.declared.state.State.{State}
use Rattle.tp_state.specs.declared.fault.StateCode.{StateCode}
use Rattle.tp_state.specs.declared.fault.StateCode.TheVariants.{S6, S9}
use Rattle.tp_state.specs.declared.fault.StateFault.{StateFault}
use Rattle.tp_state.specs.Answer.{◌>>=◌, ◌>>◌, unless}
use Rattle.tp_state.specs.Order.{IsBelow, MayMeet, join, meeting}
use Rattle.tp_state.specs.After.{after}
use Rattle.tp_state.proofs.StateOrder.{is_below-self, is_below-trans, is_below-least, is_below-antisym, is_below-join_left, is_below-join_right}
use Rattle.tp_state.proofs.Passing.{same_Ok}
use Rattle.tp_check.specs.Tables.{Table, with_state}
use Rattle.tp_check.specs.Passes.{with_place, meeting_if_any, enter, go_along, along_edges}
use Rattle.tp_state.specs.Sound.{IsSound}
use Rattle.tp_rule_laws.proofs.Follows.{Follows}
use Rattle.tp_check.specs.Carried.{target_of, outcome_of, arrive, go_over, over}
use Rattle.tp_check.proofs.Lone.{IsLone, AreStates}
use Rattle.tp_rule_laws.proofs.Rules.{after_follows}
use Rattle.tp_check.proofs.Least.{meet}

-- a join with what is above is that
join-above : (s t : State) → IsBelow s t → MayMeet s t → join s t ≡ t
join-above s t h m = is_below-antisym (join s t) t (is_below-least s t t h (is_below-self t)) (is_below-join_right s t m)

-- what was refused or not below is not refused above
pub placed_ok : (at : ℕ) (r : Result State StateCode) (t : State) → with_place at r ≡ Ok t → r ≡ Ok t
placed_ok at (Ok u) t e = let same : u ≡ t = same_Ok _ _ e in ap Ok same
placed_ok at (Err c) t e = cc

enter_none : (t : State) (table : Table) → enter None t table ≡ Ok table
unfolding enter
enter_none t table = refl

module _ (image : ImageValue) (are : All IsRow image.loops) (good : All (IsGood image.workspace) image.loops) (is_join : ℕ → Bool)
    (IsEdge : Placed × Edge → Type 0) (MayOccur : ℕ → State → Type 0) (lone : IsLone image is_join IsEdge) (states : AreStates image IsEdge MayOccur) where
  -- outcomes rise with what is known before
  pub rises : (e : Placed × Edge) (s t u v : State) → IsSound image s → IsBelow s t → outcome_of image e s ≡ Ok u → outcome_of image e t ≡ Ok v → IsBelow u v
  rises e s t u v sound below was is =
      by_answers (after image e.0.at e.0.next e.0.instr e.1 s) (after image e.0.at e.0.next e.0.instr e.1 t)
      (after_follows image are good e.0.at e.0.next e.0.instr e.1 s t sound below) (placed_ok e.0.at _ u was)
      (placed_ok e.0.at _ v is)
    where
      by_answers : (r q : Result State StateCode) → Follows IsBelow r q → r ≡ Ok u → q ≡ Ok v → IsBelow u v
      by_answers (Ok x) (Ok y) h f g = let a : x ≡ u = cc in let b : y ≡ v = cc in subst (λ z. IsBelow z v) a (subst (IsBelow x) b h)
      by_answers (Err x) (Ok y) h f g = absurd h
      by_answers r (Err y) h f g = cc

  -- what stands at a lone target came along its edge from something below what is now before it
  pub record HasTrail (table : Table) (to : ℕ) (t : State) : Type 0 where
    pub edge : Placed × Edge
    pub is : IsEdge edge
    pub goes : target_of image edge ≡ Some to
    pub now : State
    pub there : table edge.0.at ≡ Some now
    pub old : State
    pub stood : MayOccur edge.0.at old
    pub below : IsBelow old now
    pub gave : outcome_of image edge old ≡ Ok t

  pub record Trails (table : Table) : Type 0 where
    pub stand : (at : ℕ) (s : State) → table at ≡ Some s → MayOccur at s
    pub trail : (to : ℕ) (t : State) → is_join to ≡ false → table to ≡ Some t → HasTrail table to t

  -- a state takes an address, where it is above what stood there
  takes : (to : ℕ) (v : State) (table : Table) → Trails table → MayOccur to v → ((u : State) → table to ≡ Some u → IsBelow u v)
      → (is_join to ≡ false → HasTrail (with_state to v table) to v) → Trails (with_state to v table)
  takes to v table h stands above trail = record { stand = λ at s is. stand_at at s (at == to) refl is; trail = λ at s lone is. trail_at at s lone (at == to) refl is }
    where
      stand_at : (at : ℕ) (s : State) (b : Bool) → (at == to) ≡ b → (if b then Some v else table at) ≡ Some s → MayOccur at s
      stand_at at s true e is =
          let here : at ≡ to = (Decides-eqb at to).0 e in
          let same : v ≡ s = cc in
          rw (here, ← same) stands
      stand_at at s false e is = h.stand at s is

      -- what stands before an edge has not sunk
      still : (x : ℕ) (now : State) (b : Bool) → (x == to) ≡ b → table x ≡ Some now → (later : State) × ((if b then Some v else table x) ≡ Some later) × IsBelow now later
      still x now true e is = let here : x ≡ to = (Decides-eqb x to).0 e in (v, refl, above now (ap table (sym here) ∙ is))
      still x now false e is = (now, is, is_below-self now)

      trail_at : (at : ℕ) (s : State) → is_join at ≡ false → (b : Bool) → (at == to) ≡ b → (if b then Some v else table at) ≡ Some s → HasTrail (with_state to v table) at s
      trail_at at s lone_at true e is =
          let here : at ≡ to = (Decides-eqb at to).0 e in
          let same : v ≡ s = cc in
          rw (here, ← same) (trail (ap is_join (sym here) ∙ lone_at))
      trail_at at s lone_at false e is =
          let t = h.trail at s lone_at is in
          let after_it = still t.edge.0.at t.now (t.edge.0.at == to) refl t.there in
          record {
            edge = t.edge;
            is = t.is;
            goes = t.goes;
            now = after_it.0;
            there = after_it.1;
            old = t.old;
            stood = t.stood;
            below = is_below-trans t.old t.now after_it.0 t.below after_it.2;
            gave = t.gave;
          }

  -- the outcome that takes a lone target is above what stood there
  above_old : (e : Placed × Edge) → IsEdge e → (to : ℕ) → target_of image e ≡ Some to → is_join to ≡ false →
      (table : Table) → Trails table → (s t : State) → table e.0.at ≡ Some s → outcome_of image e s ≡ Ok t
      → (u : State) → table to ≡ Some u → IsBelow u t
  above_old e is_e to goes lone_to table h s t there gives u stood =
      let trail = h.trail to u lone_to stood in
      let same : trail.edge ≡ e = lone.one trail.edge e to trail.is is_e lone_to trail.goes goes in
      let now_is : trail.now ≡ s = same_Some trail.now s (sym trail.there ∙ ap (λ (f : Placed × Edge). table f.0.at) same ∙ there) in
      rises e trail.old s u t
      (states.sound trail.edge.0.at trail.old trail.stood)
      (subst (IsBelow trail.old) now_is trail.below)
      (ap (λ (f : Placed × Edge). outcome_of image f trail.old) (sym same) ∙ trail.gave)
      gives

  -- ---- one edge

  -- what a meeting makes
  pub met_is : (x t v : State) → meeting x t ≡ Ok v → (x.wptr ≡ t.wptr) × (x.phase ≡ t.phase) × (v ≡ join x t)
  met_is x t v is = by_tests (x.wptr == t.wptr) refl (x.phase == t.phase) refl is
    where
      by_tests : (p : Bool) → (x.wptr == t.wptr) ≡ p → (q : Bool) → (x.phase == t.phase) ≡ q →
          (unless S6 p >> (unless S9 q >> Ok (join x t))) ≡ Ok v → (x.wptr ≡ t.wptr) × (x.phase ≡ t.phase) ×
          (v ≡ join x t)
      by_tests true e true f is = ((Decides-eqb x.wptr t.wptr).0 e, (Decides-eqb x.phase t.phase).0 f, sym (same_Ok _ _ is))
      by_tests true e false f is = cc
      by_tests false e q f is = cc

  module _ (e : Placed × Edge) (is_e : IsEdge e) (table : Table) (h : Trails table) (s : State) (there : table e.0.at ≡ Some s) (t : State) (gives : outcome_of image e s ≡ Ok t) where
    -- the state before the edge stays, since the edge does not lead to it
    source_stays : (to : ℕ) (v : State) → is_join to ≡ false → target_of image e ≡ Some to → with_state to v table e.0.at ≡ Some s
    source_stays to v lone_to goes = by_test (e.0.at == to) refl
      where
        by_test : (b : Bool) → (e.0.at == to) ≡ b → (if b then Some v else table e.0.at) ≡ Some s
        by_test true same = absurd (lone.on e to is_e lone_to goes (sym ((Decides-eqb e.0.at to).0 same)))
        by_test false other = there

    stands_there : (to : ℕ) → target_of image e ≡ Some to → MayOccur to t
    stands_there to goes = states.after e s t to is_e (h.stand e.0.at s there) goes gives

    -- at a lone target the outcome takes the place of what was known: nothing is refused there
    lone_target : (to : ℕ) → target_of image e ≡ Some to → is_join to ≡ false → (enter (Some to) t table ≡ Ok (with_state to t table)) × Trails (with_state to t table)
    unfolding enter
    lone_target to goes lone_to = (by_state (table to) refl, takes to t table h (stands_there to goes) above (λ _. trail))
      where
        above : (u : State) → table to ≡ Some u → IsBelow u t
        above = above_old e is_e to goes lone_to table h s t there gives

        trail : HasTrail (with_state to t table) to t
        trail = record { edge = e; is = is_e; goes = goes; now = s; there = source_stays to t lone_to goes; old = s; stood = h.stand e.0.at s there; below = is_below-self s; gave = gives }

        by_state : (o : Option State) → table to ≡ o → (with_place to (meeting_if_any o t) >>= λ v. Ok (with_state to v table)) ≡ Ok (with_state to t table)
        by_state None stood = refl
        by_state (Some u) stood =
            let below = above u stood in
            let may = states.meet to u t (h.stand to u stood) (stands_there to goes) below.wptr below.phase in
            rw (meet u t t below (is_below-self t), join-above u t below may) refl

    -- where edges join, what stands there rises
    joined_target : (to : ℕ) → target_of image e ≡ Some to → is_join to ≡ true → IfOk (enter (Some to) t table) Trails
    unfolding enter
    joined_target to goes joined = by_state (table to) refl
      where
        no_trail : (v : State) → is_join to ≡ false → HasTrail (with_state to v table) to v
        no_trail v lone_to = absurd (let no : true ≡ false = sym joined ∙ lone_to in cc)

        by_meeting : (x : State) → table to ≡ Some x → (r : Result State StateCode) → meeting x t ≡ r → IfOk (with_place to r >>= λ v. Ok (with_state to v table)) Trails
        by_meeting x stood (Err c) m = tt
        by_meeting x stood (Ok v) m =
            let is = met_is x t v m in
            let may = states.meet to x t (h.stand to x stood) (stands_there to goes) is.0 is.1 in
            rw is.2 (takes to (join x t) table h (states.join to x t (h.stand to x stood) (stands_there to goes) is.0 is.1)
            (λ u stood_u. subst (λ z. IsBelow z (join x t)) (same_Some x u (sym stood ∙ stood_u)) (is_below-join_left x t may)) (no_trail (join x t)))

        by_state : (o : Option State) → table to ≡ o → IfOk (with_place to (meeting_if_any o t) >>= λ v. Ok (with_state to v table)) Trails
        by_state None stood = takes to t table h (stands_there to goes) (λ u stood_u. absurd (let no : None ≡ Some u = sym stood ∙ stood_u in cc)) (no_trail t)
        by_state (Some x) stood = by_meeting x stood (meeting x t) refl

    pub arrives : (o : Option ℕ) → target_of image e ≡ o → (enter o t table ≡ arrive is_join o t table) × IfOk (arrive is_join o t table) Trails
    arrives None goes = (enter_none t table, h)
    arrives (Some to) goes = by_test (is_join to) refl
      where
        by_test : (b : Bool) → is_join to ≡ b → (enter (Some to) t table ≡
            (if b then enter (Some to) t table else Ok (with_state to t table))) ×
            IfOk (if b then enter (Some to) t table else Ok (with_state to t table)) Trails
        by_test true joined = (refl, joined_target to goes joined)
        by_test false lone_to = lone_target to goes lone_to

  -- an edge does the same whichever way
  pub one_edge : (e : Placed × Edge) → IsEdge e → (table : Table) → Trails table →
      (go_along image e.0 e.1 (table e.0.at) table ≡ go_over image is_join e (table e.0.at) table) ×
      IfOk (go_over image is_join e (table e.0.at) table) Trails
  unfolding go_along
  one_edge e is_e table h = by_state (table e.0.at) refl
    where
      by_outcome : (s : State) → table e.0.at ≡ Some s → (r : Result State StateFault) → outcome_of image e s ≡ r
          → ((r >>= λ t. enter (target_of image e) t table) ≡ (r >>= λ t. arrive is_join (target_of image e) t table)) × IfOk (r >>= λ t. arrive is_join (target_of image e) t table) Trails
      by_outcome s there (Ok t) gives = arrives e is_e table h s there t gives (target_of image e) refl
      by_outcome s there (Err f) gives = (refl, tt)

      by_state : (o : Option State) → table e.0.at ≡ o → (go_along image e.0 e.1 o table ≡ go_over image is_join e o table) × IfOk (go_over image is_join e o table) Trails
      by_state None there = (refl, h)
      by_state (Some s) there = by_outcome s there (outcome_of image e s) refl

  -- ---- a pass

  pub edge_by_edge : (es : List (Placed × Edge)) → ((i : ℕ) (e : Placed × Edge) → slice_get es i ≡ Some e → IsEdge e) →
      (table : Table) → Trails table → (along_edges image es table ≡ over image is_join es table) ×
      IfOk (over image is_join es table) Trails
  edge_by_edge [] edges table h = (refl, h)
  edge_by_edge (e ∷ more) edges table h =
      let first = one_edge e (edges 0 e refl) table h in
      in_turn (go_along image e.0 e.1 (table e.0.at) table) (go_over image is_join e (table e.0.at) table) first.0 first.1 (edge_by_edge more (λ i f is. edges (suc i) f is))
    where
      in_turn : (r q : Result Table StateFault) → r ≡ q → IfOk q Trails → ((t : Table) → Trails t → (along_edges image more t ≡ over image is_join more t) × IfOk (over image is_join more t) Trails)
          → ((r >>= along_edges image more) ≡ (q >>= over image is_join more)) × IfOk (q >>= over image is_join more) Trails
      in_turn r (Ok t) same trails go = let rest = go t trails in (rw same rest.0, rest.1)
      in_turn r (Err f) same trails go = (rw same refl, tt)
