-- Each table of the passes is below every table that each edge respects, and so they refuse only where there is none.
use Rattle.std.proofs.Common.{◌≡◌, ◌≢◌, ℕ, zero, suc, ◌==◌, if◌then◌else◌, Bool, true, false, List, [], ◌∷◌, ◌++◌, slice_get, Option, Some, None, Result, Ok, Err, refl, sym, ap, ◌∙◌, subst, arith}
use Rattle.std.specs.Prelude.{IfOk, IfErr, All}
use Rattle.std.specs.List.{AllByRecursion, flat_map}
use Rattle.std.proofs.lemmas.Bool.Decides.{nat_tests, Decides-eqb}
use Rattle.std.proofs.lemmas.Option.{same_Some}
use Rattle.std.proofs.lemmas.List.Concat.{flat_map-cons}
use Rattle.tp_decode.specs.declared.placed.Placed.{Placed}
use Rattle.tp_decode.specs.Cutting.{Cut, IsSpelled, placed_from}
use Rattle.tp_image.specs.Image.{ImageValue, InRange}
use Rattle.tp_flow.specs.declared.edge.Edge.{Edge}
use Rattle.tp_flow.specs.NestKept.{KeepsNest}
use Rattle.tp_flow.specs.NestRanges.{ranges}
use Rattle.tp_flow.specs.Edges.{target}
use Rattle.tp_state.specs.declared.state.State.{State}
use Rattle.tp_state.specs.declared.fault.StateCode.{StateCode}
use Rattle.tp_state.specs.declared.fault.StateFault.{StateFault}
use Rattle.tp_state.specs.declared.fault.StateFault.TheVariants as state_fault
use Rattle.tp_state.specs.Answer.{◌>>=◌}
use Rattle.tp_state.specs.Order.{join}
use Rattle.tp_state.specs.Entry.{entry}
use Rattle.tp_state.specs.After.{after}
use Rattle.tp_check.specs.Tables.{Table, with_state, no_states, asked}
use Rattle.tp_check.specs.Passes.{enter, go_along, with_place, meeting_if_any, along_edges, edges_from, edges_of, pass, passes, first_table, IsVerdict, IsRefusalOf}
use Rattle.tp_check.specs.EdgesRespect.{HasAbove, Respects, EveryEdgeRespects, HasNoTable}
use Rattle.tp_state.specs.Order.{IsBelow, meeting}
use Rattle.tp_state.proofs.StateOrder.{is_below-trans, is_below-least}
use Rattle.tp_state.specs.Conditions.{HasGoodLoops}
use Rattle.tp_state.specs.Sound.{IsSound, LoadsWord}
use Rattle.tp_rule_laws.proofs.Follows.{Follows}
use Rattle.tp_check.proofs.Places.{stands_at}
use Rattle.tp_rule_laws.proofs.Rules.{after_follows, after_sound}
use Rattle.tp_rule_laws.proofs.SoundJoins.{entry_sound, join_sound}
use Rattle.tp_check.proofs.Loading.{loads_word}

-- ---- one edge

-- where something is above both, they meet
pub meet : (t s u : State) → IsBelow t u → IsBelow s u → meeting t s ≡ Ok (join t s)
meet t s u h g = rw (same_number t.wptr s.wptr (h.wptr ∙ sym g.wptr), same_number t.phase s.phase (h.phase ∙ sym g.phase)) refl
  where
    same_number : (n m : ℕ) → n ≡ m → (n == m) ≡ true
    same_number n m e = grind (arith, nat_tests)

module _ (image : ImageValue) (range : InRange image) (good : HasGoodLoops image) (respected : Table) where
  -- its states are sound, and below those of the table that is respected
  pub record IsLower (table : Table) : Type 0 where
    pub sound : (at : ℕ) (s : State) → table at ≡ Some s → IsSound image s
    pub below : (at : ℕ) (s : State) → table at ≡ Some s → HasAbove respected at s

  abbrev pub IsLowerOk : Result Table StateFault → Type 0
  IsLowerOk r = (new : Table) × (r ≡ Ok new) × IsLower new

  lower_with : (to : ℕ) (t : State) (table : Table) → IsLower table → IsSound image t → HasAbove respected to t → IsLower (with_state to t table)
  lower_with to t table h sound above = record { sound = λ at s is. sound_at at s (at == to) refl is; below = λ at s is. below_at at s (at == to) refl is }
    where
      sound_at : (at : ℕ) (s : State) (b : Bool) → (at == to) ≡ b → (if b then Some t else table at) ≡ Some s → IsSound image s
      sound_at at s true e is = let same : t ≡ s = cc in subst (IsSound image) same sound
      sound_at at s false e is = h.sound at s is

      below_at : (at : ℕ) (s : State) (b : Bool) → (at == to) ≡ b → (if b then Some t else table at) ≡ Some s → HasAbove respected at s
      below_at at s true e is =
          let same : t ≡ s = cc in
          let here : at ≡ to = (Decides-eqb at to).0 e in
          rw (here, ← same) above
      below_at at s false e is = h.below at s is

  above_join : (to : ℕ) (x w : State) → HasAbove respected to x → HasAbove respected to w → (meeting x w ≡ Ok (join x w)) × HasAbove respected to (join x w)
  above_join to x w f g =
      let same : f.state ≡ g.state = same_Some f.state g.state (sym f.there ∙ g.there) in
      let also : IsBelow x g.state = subst (IsBelow x) same f.below in
      (meet x w g.state also g.below, record { state = g.state; there = g.there; below = is_below-least x w g.state also g.below })

  enters_lower : (to : Option ℕ) (w : State) (table : Table) → IsSound image w → ((x : ℕ) → to ≡ Some x → HasAbove respected x w) → IsLower table → IsLowerOk (enter to w table)
  unfolding enter
  enters_lower None w table sound above h = (table, refl, h)
  enters_lower (Some to) w table sound above h = by_state (table to) refl
    where
      by_state : (o : Option State) → table to ≡ o → IsLowerOk (with_place to (meeting_if_any o w) >>= λ t. Ok (with_state to t table))
      by_state None e = (with_state to w table, refl, lower_with to w table h sound (above to refl))
      by_state (Some x) e =
          let both = above_join to x w (h.below to x e) (above to refl) in
          (with_state to (join x w) table, rw both.0 refl, lower_with to (join x w) table h (join_sound image x w (h.sound to x e) sound) both.1)

  goes_lower : (p : Placed) (edge : Edge) → LoadsWord p.instr →
      ((u : State) → respected p.at ≡ Some u → Respects image respected p.at p.next p.instr u edge) → (table : Table) →
      IsLower table → IsLowerOk (go_along image p edge (table p.at) table)
  unfolding go_along
  goes_lower p edge loads respects table h = by_state (table p.at) refl
    where
      by_outcome : (s u v : State) → IsSound image s → IsBelow s u → (r q : Result State StateCode) →
          Follows IsBelow r q → IfOk r (IsSound image) → q ≡ Ok v →
          ((to : ℕ) → target (ranges image.loops) p.at p.next p.instr edge ≡ Some to → HasAbove respected to v)
          → IsLowerOk (with_place p.at r >>= λ t. enter (target (ranges image.loops) p.at p.next p.instr edge) t table)
      by_outcome s u v sound below (Ok w) (Ok y) follows w_sound is enters =
          let same : y ≡ v = cc in
          enters_lower (target (ranges image.loops) p.at p.next p.instr edge) w table w_sound
          (λ to e. let above = enters to e in record { state = above.state; there = above.there; below = is_below-trans w v above.state (subst (IsBelow w) same follows) above.below })
          h
      by_outcome s u v sound below (Err e) (Ok y) follows w_sound is enters = absurd follows
      by_outcome s u v sound below r (Err e) follows w_sound is enters = cc

      by_state : (o : Option State) → table p.at ≡ o → IsLowerOk (go_along image p edge o table)
      by_state None e = (table, refl, h)
      by_state (Some s) e =
          let above = h.below p.at s e in
          let sound = h.sound p.at s e in
          let keeps = respects above.state above.there in
          by_outcome s above.state keeps.outcome sound above.below (after image p.at p.next p.instr edge s) (after image p.at p.next p.instr edge above.state)
          (after_follows image range.rows good p.at p.next p.instr edge s above.state sound above.below)
          (after_sound image range good p.at p.next p.instr edge s loads sound) keeps.goes_on keeps.enters

  -- ---- one edge after another

  then_lower : (r : Result Table StateFault) (f : Table → Result Table StateFault) → IsLowerOk r → ((table : Table) → IsLower table → IsLowerOk (f table)) → IsLowerOk (r >>= f)
  then_lower r f (table, is, h) go = rw is (go table h)

  ways_lower : (p : Placed) → LoadsWord p.instr → (ways : List Edge) →
      ((u : State) → respected p.at ≡ Some u → All (Respects image respected p.at p.next p.instr u) ways) →
      (table : Table) → IsLower table → IsLowerOk (along_edges image (edges_from p ways) table)
  ways_lower p loads [] respects table h = (table, refl, h)
  ways_lower p loads (e ∷ more) respects table h =
      then_lower (go_along image p e (table p.at) table) (along_edges image (edges_from p more)) (goes_lower p e loads (λ u there. respects u there 0 e (omega arith)) table h)
      λ table h. ways_lower p loads more (λ u there i d lt. respects u there (suc i) d (omega (arith, lt))) table h

  in_turn : (r : Result Table StateFault) (all first then_ : Table → Result Table StateFault) → ((t : Table) → all t ≡ (first t >>= then_)) → (r >>= all) ≡ ((r >>= first) >>= then_)
  in_turn (Ok table) all first then_ go = go table
  in_turn (Err e) all first then_ go = refl

  along_append : (xs ys : List (Placed × Edge)) (table : Table) → along_edges image (xs ++ ys) table ≡ (along_edges image xs table >>= along_edges image ys)
  along_append [] ys table = refl
  along_append (x ∷ xs) ys table = in_turn (go_along image x.0 x.1 (table x.0.at) table) (along_edges image (xs ++ ys)) (along_edges image xs) (along_edges image ys) (along_append xs ys)

  -- what is known of an instruction in its place
  pub record IsReady (p : Placed) : Type 0 where
    pub loads : LoadsWord p.instr
    pub respects : (u : State) → respected p.at ≡ Some u → All (Respects image respected p.at p.next p.instr u) (asked p.instr)

  pub all_lower : (ps : List Placed) → ((i : ℕ) (p : Placed) → slice_get ps i ≡ Some p → IsReady p) → (table : Table) → IsLower table → IsLowerOk (along_edges image (flat_map edges_of ps) table)
  all_lower [] ready table h = (table, refl, h)
  all_lower (p ∷ ps) ready table h =
      let first = ready 0 p refl in
      rw (flat_map-cons edges_of p ps, along_append (edges_of p) (flat_map edges_of ps) table)
      (then_lower (along_edges image (edges_of p) table) (along_edges image (flat_map edges_of ps)) (ways_lower p first.loads (asked p.instr) first.respects table h)
      λ table h. all_lower ps (λ i q is. ready (suc i) q is) table h)

-- ---- the passes

module _ (image : ImageValue) (cuts : List Cut) (range : InRange image) (spelled : AllByRecursion IsSpelled cuts)
    (nest : KeepsNest image.loops image.workspace cuts) (respected : Table)
    (every : EveryEdgeRespects image cuts respected) where
  ready_at : (i : ℕ) (p : Placed) → slice_get (placed_from 0 cuts) i ≡ Some p → IsReady image range nest.good respected p
  ready_at i p is =
      let stands = stands_at cuts i p nest.spelled is in
      record {
        loads = loads_word cuts spelled p stands;
        respects = λ u there. subst (λ q. All (Respects image respected q.at q.next q.instr u) (asked q.instr)) (sym stands.is) (every.each p.at stands.cut u stands.there there);
      }

  first_lower : IsLower image range nest.good respected (first_table image)
  first_lower = lower_with image range nest.good respected 0 (entry image) no_states (record { sound = λ at s is. cc; below = λ at s is. cc }) (entry_sound image range) every.begins

  -- none of the passes refuses, and each comes to a table below the one that is respected
  pub passes_lower : (n : ℕ) → IsLowerOk image range nest.good respected (passes image cuts n)
  passes_lower zero = (first_table image, refl, first_lower)
  passes_lower (suc n) =
      then_lower image range nest.good respected (passes image cuts n) (pass image cuts) (passes_lower n)
      λ table h. all_lower image range nest.good respected (placed_from 0 cuts) ready_at table h

  pub least : (table : Table) → IsVerdict image cuts (Ok table) → (at : ℕ) (s : State) → table at ≡ Some s → HasAbove respected at s
  least table verdict at s there =
      let made = passes_lower verdict.number in
      let same : made.0 ≡ table = same_tables made.0 table (sym made.1 ∙ verdict.arrives) in
      made.2.below at s (ap (λ (t : Table). t at) same ∙ there)
    where
      same_tables : (x y : Table) → ◌≡◌ {A = Result Table StateFault} (Ok x) (Ok y) → x ≡ y
      same_tables x y e = cc

  pub no_refusal : (fault : StateFault) → IsVerdict image cuts (Err fault) → ⊥
  no_refusal fault verdict =
      let made = passes_lower verdict.number in
      differ made.0 fault (sym made.1 ∙ verdict.arrives)
    where
      differ : (x : Table) (e : StateFault) → ◌≡◌ {A = Result Table StateFault} (Ok x) (Err e) → ⊥
      differ x e is = cc

-- where the passes have a fault, there is none
pub none_respected : {X : Type 0} (image : ImageValue) (cuts : List Cut) → InRange image →
    KeepsNest image.loops image.workspace cuts → AllByRecursion IsSpelled cuts → (r : Result X StateFault) →
    IfErr r (IsRefusalOf image cuts)
    → IfErr r (λ e. e ≢ state_fault.Memory → HasNoTable image cuts)
none_respected image cuts range nest spelled (Ok x) says = tt
none_respected image cuts range nest spelled (Err (state_fault.Refused code place)) says =
    λ some table every. no_refusal image cuts range spelled nest table every (state_fault.Refused code place) says
none_respected image cuts range nest spelled (Err state_fault.Memory) says = λ some table every. some refl
