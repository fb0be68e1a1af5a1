-- What the passes' definition answers on an edge, where states are kept only where edges join.
use Rattle.std.proofs.Common.{◌≡◌, ◌≢◌, ℕ, ◌==◌, if◌then◌else◌, Bool, true, false, [], ◌∷◌, Some, None, Result, Ok, Err, refl, sym, ap, ◌∙◌, arith}
use Rattle.std.proofs.lemmas.Bool.Decides.{nat_tests}
use Rattle.tp_decode.specs.declared.placed.Placed.{Placed}
use Rattle.tp_flow.specs.declared.edge.Edge.{Edge}
use Rattle.tp_image.specs.Image.{ImageValue}
use Rattle.tp_state.specs.declared.state.State.{State}
use Rattle.tp_state.specs.declared.fault.StateFault.{StateFault}
use Rattle.tp_state.specs.Answer.{◌>>=◌}
use Rattle.tp_state.specs.After.{after}
use Rattle.tp_check.specs.Tables.{Table, with_state}
use Rattle.tp_check.specs.Passes.{enter, with_place, meeting_if_any}
use Rattle.tp_check.specs.Carried.{target_of, arrive, over}

-- ---- the definition's answers on an edge

bind_ok : (r : Result Table StateFault) → (r >>= λ t. Ok t) ≡ r
bind_ok (Ok t) = refl
bind_ok (Err e) = refl

module _ (image : ImageValue) (is_join : ℕ → Bool) (p : Placed) (edge : Edge) (table : Table) (s : State) (here : table p.at ≡ Some s) where
  module _ (v : State) (goes : after image p.at p.next p.instr edge s ≡ Ok v) where
    over_arrives : over image is_join ((p, edge) ∷ []) table ≡ arrive is_join (target_of image (p, edge)) v table
    over_arrives = rw (here, goes) (bind_ok (arrive is_join (target_of image (p, edge)) v table))

    pub over_nowhere : target_of image (p, edge) ≡ None → over image is_join ((p, edge) ∷ []) table ≡ Ok table
    over_nowhere leads = over_arrives ∙ ap (λ o. arrive is_join o v table) leads

    module _ (to : ℕ) (leads : target_of image (p, edge) ≡ Some to) where
      pub over_joined : is_join to ≡ true → over image is_join ((p, edge) ∷ []) table ≡ enter (Some to) v table
      over_joined is = over_arrives ∙ ap (λ o. arrive is_join o v table) leads ∙ ap (λ b. if b then enter (Some to) v table else Ok (with_state to v table)) is

      pub over_alone : is_join to ≡ false → over image is_join ((p, edge) ∷ []) table ≡ Ok (with_state to v table)
      over_alone is = over_arrives ∙ ap (λ o. arrive is_join o v table) leads ∙ ap (λ b. if b then enter (Some to) v table else Ok (with_state to v table)) is

-- from an address without a state nothing goes
pub over_none : (image : ImageValue) (is_join : ℕ → Bool) (p : Placed) (edge : Edge) (table : Table) → table p.at ≡ None → over image is_join ((p, edge) ∷ []) table ≡ Ok table
over_none image is_join p edge table none = rw none refl

-- ---- a state comes where edges join, to tables that have the same there

pub record EntersAlike (to : ℕ) (s : State) (table other new : Table) : Type 0 where
  pub state : State
  pub is : new ≡ with_state to state other
  pub enters : enter (Some to) s table ≡ Ok (with_state to state table)

pub enters_alike : (to : ℕ) (s : State) (table other new : Table) → table to ≡ other to → enter (Some to) s other ≡ Ok new → EntersAlike to s table other new
unfolding enter
enters_alike to s table other new same is = by_meeting (with_place to (meeting_if_any (other to) s)) refl is
  where
    by_meeting : (r : Result State StateFault) → with_place to (meeting_if_any (other to) s) ≡ r → (r >>= (λ t. Ok (with_state to t other))) ≡ Ok new → EntersAlike to s table other new
    by_meeting (Ok t) e is =
        let made : with_state to t other ≡ new = cc in
        record { state = t; is = sym made; enters = ap (λ o. with_place to (meeting_if_any o s) >>= (λ t. Ok (with_state to t table))) same ∙ ap (λ r. r >>= (λ t. Ok (with_state to t table))) e }
    by_meeting (Err f) e is = absurd cc

pub refuses_alike : (to : ℕ) (s : State) (table other : Table) (fault : StateFault) → table to ≡ other to → enter (Some to) s other ≡ Err fault → enter (Some to) s table ≡ Err fault
unfolding enter
refuses_alike to s table other fault same is = by_meeting (with_place to (meeting_if_any (other to) s)) refl is
  where
    by_meeting : (r : Result State StateFault) → with_place to (meeting_if_any (other to) s) ≡ r →
        (r >>= (λ t. Ok (with_state to t other))) ≡ Err fault →
        (with_place to (meeting_if_any (table to) s) >>= (λ t. Ok (with_state to t table))) ≡ Err fault
    by_meeting (Ok t) e is = absurd cc
    by_meeting (Err f) e is =
        let one : f ≡ fault = cc in
        ap (λ o. with_place to (meeting_if_any o s) >>= (λ t. Ok (with_state to t table))) same ∙ ap (λ r. r >>= (λ t. Ok (with_state to t table))) e ∙ ap Err one

-- ---- tables that differ at one address

pub with_there : (to : ℕ) (v : State) (table : Table) → with_state to v table to ≡ Some v
with_there to v table = let same : (to == to) ≡ true = grind (arith, nat_tests) in ap (λ b. if b then Some v else table to) same

pub with_elsewhere : (to : ℕ) (v : State) (table : Table) (x : ℕ) → x ≢ to → with_state to v table x ≡ table x
with_elsewhere to v table x other = let differs : (x == to) ≡ false = grind (arith, nat_tests) in ap (λ b. if b then Some v else table x) differs

pub differ : (is_join : ℕ → Bool) (x to : ℕ) → is_join x ≡ false → is_join to ≡ true → x ≢ to
differ is_join x to alone is same = let no : false ≡ true = sym alone ∙ ap is_join same ∙ is in cc

pub differ_too : (is_join : ℕ → Bool) (x to : ℕ) → is_join x ≡ true → is_join to ≡ false → x ≢ to
differ_too is_join x to is alone same = let no : true ≡ false = sym is ∙ ap is_join same ∙ alone in cc
