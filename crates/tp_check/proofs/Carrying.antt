-- A pass needs what stands where edges join, and nothing else.
use Rattle.std.proofs.Common.{◌≡◌, ◌≢◌, ℕ, zero, suc, ◌⊎◌, inl, inr, ◌==◌, Bool, true, false, if◌then◌else◌, List, [], ◌∷◌, slice_get, Option, Some, None, Result, Ok, Err, refl, sym, ap, ◌∙◌, arith}
use Rattle.std.specs.Prelude.{IfOk, All}
use mathlib.Core.Path.{fun_ext}
use Rattle.std.proofs.lemmas.Bool.Decides.{nat_tests}
use Rattle.std.proofs.lemmas.Option.{same_Some}
use Rattle.tp_decode.specs.declared.placed.Placed.{Placed}
use Rattle.tp_flow.specs.declared.edge.Edge.{Edge}
use Rattle.tp_flow.specs.NestKept.{IsGood}
use Rattle.tp_image.specs.Image.{ImageValue, IsRow}
use Rattle.tp_state.specs.declared.state.State.{State}
use Rattle.tp_state.specs.declared.fault.StateFault.{StateFault}
use Rattle.tp_state.specs.Answer.{◌>>=◌}
use Rattle.tp_check.specs.Tables.{Table, with_state}
use Rattle.tp_check.specs.Passes.{with_place, meeting_if_any, enter, along_edges}
use Rattle.tp_check.specs.Carried.{target_of, outcome_of, arrive, go_over, over, only_joins}
use Rattle.tp_check.proofs.Lone.{IsLone, AreStates, IsAmong, LeadsOn}
use Rattle.tp_check.proofs.Trails.{Trails, one_edge, edge_by_edge}

same_number : (n m : ℕ) → n ≡ m → (n == m) ≡ true
same_number n m e = grind (arith, nat_tests)

enter_at : (to : ℕ) (t : State) (table : Table) → enter (Some to) t table ≡ (with_place to (meeting_if_any (table to) t) >>= λ v. Ok (with_state to v table))
unfolding enter
enter_at to t table = refl

module _ (image : ImageValue) (are : All IsRow image.loops) (good : All (IsGood image.workspace) image.loops) (is_join : ℕ → Bool)
    (IsEdge : Placed × Edge → Type 0) (MayOccur : ℕ → State → Type 0) (lone : IsLone image is_join IsEdge) (states : AreStates image IsEdge MayOccur) where
  abbrev HasTrails : Table → Type 0
  HasTrails table = Trails image are good is_join IsEdge MayOccur lone states table

  -- two tables differ at most where an edge that is still to be taken leads, and only where edges do not join
  abbrev Awaits : List (Placed × Edge) → Table → ℕ → Type 0
  Awaits rest other at = (is_join at ≡ false) × (other at ≡ None) × ((e : Placed × Edge) × IsAmong rest e × IsEdge e × (target_of image e ≡ Some at))

  abbrev Agree : List (Placed × Edge) → Table → Table → Type 0
  Agree rest table other = (at : ℕ) → (table at ≡ other at) ⊎ Awaits rest other at

  abbrev AgreeOk : List (Placed × Edge) → Result Table StateFault → Result Table StateFault → Type 0
  AgreeOk rest (Ok table) (Ok other) = Agree rest table other
  AgreeOk rest (Err e) (Err f) = e ≡ f
  AgreeOk rest (Ok table) (Err f) = ⊥
  AgreeOk rest (Err e) (Ok other) = ⊥

  joined_alike : (rest : List (Placed × Edge)) (table other : Table) → Agree rest table other → (to : ℕ) → is_join to ≡ true → table to ≡ other to
  joined_alike rest table other h to joined = by_way (h to)
    where
      by_way : (table to ≡ other to) ⊎ Awaits rest other to → table to ≡ other to
      by_way (inl same) = same
      by_way (inr (lone_to, none, more)) = absurd (let no : true ≡ false = sym joined ∙ lone_to in cc)

  -- once an edge is taken, the others are awaited
  later : (f : Placed × Edge) (more : List (Placed × Edge)) (table other : Table) → Agree (f ∷ more) table other →
      (at : ℕ) → (target_of image f ≢ Some at) → (table at ≡ other at) ⊎ Awaits more other at
  later f more table other h at elsewhere = by_way (h at)
    where
      by_place : (e : Placed × Edge) → (i : ℕ) → slice_get (f ∷ more) i ≡ Some e → target_of image e ≡ Some at → IsAmong more e
      by_place e zero is goes = let same : f ≡ e = same_Some f e is in absurd (elsewhere (ap (target_of image) same ∙ goes))
      by_place e (suc i) is goes = (i, is)

      by_way : (table at ≡ other at) ⊎ Awaits (f ∷ more) other at → (table at ≡ other at) ⊎ Awaits more other at
      by_way (inl same) = inl same
      by_way (inr (lone_at, none, (e, among, is_e, goes))) = inr (lone_at, none, (e, by_place e among.0 among.1 goes, is_e, goes))

  set_alike : (f : Placed × Edge) (more : List (Placed × Edge)) (table other : Table) → Agree (f ∷ more) table other →
      (to : ℕ) → target_of image f ≡ Some to → (v : State) → Agree more (with_state to v table) (with_state to v other)
  set_alike f more table other h to goes v at = by_test (at == to) refl
    where
      by_test : (b : Bool) → (at == to) ≡ b → ((if b then Some v else table at) ≡ (if b then Some v else other at)) ⊎
          ((is_join at ≡ false) × ((if b then Some v else other at) ≡ None) ×
          ((e : Placed × Edge) × IsAmong more e × IsEdge e × (target_of image e ≡ Some at)))
      by_test true same = inl refl
      by_test false differ = later f more table other h at (λ is. not_there (same_Some to at (sym goes ∙ is)))
        where
          not_there : to ≡ at → ⊥
          not_there e = let no : (at == to) ≡ true = same_number at to (sym e) in let never : true ≡ false = sym no ∙ differ in cc

  -- one edge
  step : (f : Placed × Edge) (more : List (Placed × Edge)) → IsEdge f → (table other : Table) → HasTrails table → Agree (f ∷ more) table other → table f.0.at ≡ other f.0.at
      → AgreeOk more (go_over image is_join f (table f.0.at) table) (go_over image is_join f (other f.0.at) other)
  step f more is_f table other kept h alike = rw (← alike) (by_state (table f.0.at) refl)
    where
      -- nothing is known before the edge, so nothing is known at a lone target
      none_before : table f.0.at ≡ None → (at : ℕ) → (table at ≡ other at) ⊎ Awaits more other at
      none_before none at = by_way (h at)
        where
          by_known : (o : Option State) → table at ≡ o → is_join at ≡ false → other at ≡ None → target_of image f ≡ Some at → table at ≡ other at
          by_known None is lone_at empty goes = is ∙ sym empty
          by_known (Some y) is lone_at empty goes =
              let trail = kept.trail at y lone_at is in
              let same : trail.edge ≡ f = lone.one trail.edge f at trail.is is_f lone_at trail.goes goes in
              absurd (let no : None ≡ Some trail.now = sym none ∙ ap (λ (g : Placed × Edge). table g.0.at) (sym same) ∙ trail.there in cc)

          by_place : (e : Placed × Edge) (i : ℕ) → slice_get (f ∷ more) i ≡ Some e → is_join at ≡ false →
              other at ≡ None → IsEdge e → target_of image e ≡ Some at → (table at ≡ other at) ⊎ Awaits more other at
          by_place e zero is lone_at empty is_e goes = let same : f ≡ e = same_Some f e is in inl (by_known (table at) refl lone_at empty (ap (target_of image) same ∙ goes))
          by_place e (suc i) is lone_at empty is_e goes = inr (lone_at, empty, (e, (i, is), is_e, goes))

          by_way : (table at ≡ other at) ⊎ Awaits (f ∷ more) other at → (table at ≡ other at) ⊎ Awaits more other at
          by_way (inl same) = inl same
          by_way (inr (lone_at, empty, (e, among, is_e, goes))) = by_place e among.0 among.1 lone_at empty is_e goes

      entered : (to : ℕ) → target_of image f ≡ Some to → (r : Result State StateFault) → AgreeOk more (r >>= λ v. Ok (with_state to v table)) (r >>= λ v. Ok (with_state to v other))
      entered to goes (Ok v) = set_alike f more table other h to goes v
      entered to goes (Err e) = refl

      by_target : (t : State) (o : Option ℕ) → target_of image f ≡ o → AgreeOk more (arrive is_join o t table) (arrive is_join o t other)
      by_target t None goes = λ at. later f more table other h at (λ is. let no : None ≡ Some at = sym goes ∙ is in cc)
      by_target t (Some to) goes = by_test (is_join to) refl
        where
          by_test : (b : Bool) → is_join to ≡ b → AgreeOk more (if b then enter (Some to) t table else Ok (with_state to t table)) (if b then enter (Some to) t other else Ok (with_state to t other))
          by_test true joined = rw (enter_at to t table, enter_at to t other, ← joined_alike (f ∷ more) table other h to joined) (entered to goes (with_place to (meeting_if_any (table to) t)))
          by_test false lone_to = set_alike f more table other h to goes t

      by_outcome : (r : Result State StateFault) → AgreeOk more (r >>= λ t. arrive is_join (target_of image f) t table) (r >>= λ t. arrive is_join (target_of image f) t other)
      by_outcome (Ok t) = by_target t (target_of image f) refl
      by_outcome (Err e) = refl

      by_state : (o : Option State) → table f.0.at ≡ o → AgreeOk more (go_over image is_join f o table) (go_over image is_join f o other)
      by_state None none = none_before none
      by_state (Some s) there = by_outcome (outcome_of image f s)

  -- what is known before an edge is alike: no edge that is still to be taken leads there, but to where edges join
  source_alike : (f : Placed × Edge) (more : List (Placed × Edge)) (table other : Table) →
      Agree (f ∷ more) table other → ((e : Placed × Edge) → IsAmong (f ∷ more) e → is_join f.0.at ≡ false →
      target_of image e ≢ Some f.0.at) → table f.0.at ≡ other f.0.at
  source_alike f more table other h on = by_way (h f.0.at)
    where
      by_way : (table f.0.at ≡ other f.0.at) ⊎ Awaits (f ∷ more) other f.0.at → table f.0.at ≡ other f.0.at
      by_way (inl same) = same
      by_way (inr (lone_at, none, (e, among, is_e, goes))) = absurd (on e among lone_at goes)

  pub over_alike : (es : List (Placed × Edge)) → ((i : ℕ) (e : Placed × Edge) → slice_get es i ≡ Some e → IsEdge e) →
      LeadsOn image is_join es → (table other : Table) → HasTrails table → Agree es table other
      → AgreeOk [] (over image is_join es table) (over image is_join es other)
  over_alike [] edges on table other kept h = h
  over_alike (f ∷ more) edges on table other kept h =
      in_turn (go_over image is_join f (table f.0.at) table) (go_over image is_join f (other f.0.at) other)
      (one_edge image are good is_join IsEdge MayOccur lone states f (edges 0 f refl) table kept).1
      (step f more (edges 0 f refl) table other kept h (source_alike f more table other h on.0))
      (λ t o kept h. over_alike more (λ i e is. edges (suc i) e is) on.1 t o kept h)
    where
      in_turn : (r q : Result Table StateFault) → IfOk r HasTrails → AgreeOk more r q →
          ((t o : Table) → HasTrails t → Agree more t o → AgreeOk [] (over image is_join more t)
          (over image is_join more o))
          → AgreeOk [] (r >>= over image is_join more) (q >>= over image is_join more)
      in_turn (Ok t) (Ok o) kept h go = go t o kept h
      in_turn (Err e) (Err f) kept h go = h
      in_turn (Ok t) (Err f) kept h go = absurd h
      in_turn (Err e) (Ok o) kept h go = absurd h

  -- A pass over a table gives what the pass with carried outcomes gives, from what is known where edges join: the
  -- same refusal, or the same whole table.
  pub carried_pass : (es : List (Placed × Edge)) → ((i : ℕ) (e : Placed × Edge) → slice_get es i ≡ Some e → IsEdge e) →
      ((e : Placed × Edge) → IsEdge e → IsAmong es e) → LeadsOn image is_join es → (table : Table) → HasTrails table
      → along_edges image es table ≡ over image is_join es (only_joins is_join table)
  carried_pass es edges all on table kept =
      (edge_by_edge image are good is_join IsEdge MayOccur lone states es edges table kept).0 ∙
      alike (over image is_join es table) (over image is_join es (only_joins is_join table))
      (over_alike es edges on table (only_joins is_join table) kept first)
    where
      alike : (r q : Result Table StateFault) → AgreeOk [] r q → r ≡ q
      alike (Ok t) (Ok o) h = ap Ok (fun_ext λ at. at_end t o at (h at))
        where
          at_end : (t o : Table) (at : ℕ) → (t at ≡ o at) ⊎ Awaits [] o at → t at ≡ o at
          at_end t o at (inl same) = same
          at_end t o at (inr (lone_at, none, (e, among, is_e, goes))) = let never = among.1 in absurd cc
      alike (Err e) (Err f) h = ap Err h
      alike (Ok t) (Err f) h = absurd h
      alike (Err e) (Ok o) h = absurd h

      first : Agree es table (only_joins is_join table)
      first at = by_test (is_join at) refl (table at) refl
        where
          by_test : (b : Bool) → is_join at ≡ b → (o : Option State) → table at ≡ o →
              (table at ≡ (if b then table at else None)) ⊎ ((is_join at ≡ false) ×
              ((if b then table at else None) ≡ None) × ((e : Placed × Edge) × IsAmong es e × IsEdge e ×
              (target_of image e ≡ Some at)))
          by_test true joined o is = inl refl
          by_test false lone_at None is = inl is
          by_test false lone_at (Some y) is = let trail = kept.trail at y lone_at is in inr (lone_at, refl, (trail.edge, all trail.edge trail.is, trail.is, trail.goes))
