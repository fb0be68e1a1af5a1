-- The passes come to the same with one state carried between the addresses where edges join.
use Rattle.std.proofs.Common.{◌≡◌, ℕ, zero, suc, ◌==◌, nat_le, Bool, true, false, if◌then◌else◌, List, Some, None, Result, Ok, Err, refl, sym, ap, ◌∙◌, subst}
use Rattle.std.specs.Prelude.{IfOk}
use Rattle.std.specs.List.{AllByRecursion}
use Rattle.std.proofs.lemmas.Bool.Decides.{Decides-eqb}
use Rattle.tp_decode.specs.Cutting.{Cut, IsSpelled}
use Rattle.tp_flow.specs.NestKept.{KeepsNest}
use Rattle.tp_image.specs.Image.{ImageValue, InRange}
use Rattle.tp_state.specs.declared.state.State.{State}
use Rattle.tp_state.specs.declared.fault.StateFault.{StateFault}
use Rattle.tp_state.specs.Answer.{◌>>=◌}
use Rattle.tp_state.specs.Entry.{entry}
use Rattle.tp_state.proofs.LiveWords.{none_live}
use Rattle.tp_check.specs.Tables.{Table}
use Rattle.tp_check.specs.Passes.{along_edges, edges_in, pass, passes, first_table, IsVerdict}
use Rattle.tp_check.specs.Carried.{over, only_joins, is_head, reached, AreWide, carried, carried_pass}
use Rattle.tp_check.proofs.Lone.{IsStateAt}
use Rattle.tp_rule_laws.proofs.SoundJoins.{entry_sound}
use Rattle.tp_check.proofs.Nests.{IsOne, lone, edges_lead_on, are_states, or_left}
use Rattle.tp_check.proofs.Trails.{Trails, edge_by_edge}
use Rattle.tp_check.proofs.Carrying.{carried_pass as pass_carried}

module _ (image : ImageValue) (cuts : List Cut) (range : InRange image) (spelled : AllByRecursion IsSpelled cuts)
    (kept : KeepsNest image.loops image.workspace cuts) (is_join : ℕ → Bool) (wide : AreWide image cuts is_join) where
  abbrev pub Good : Table → Type 0
  Good table = Trails image range.rows kept.good is_join (IsOne image cuts kept is_join wide) (IsStateAt image)
      (lone image cuts kept is_join wide) (are_states image cuts kept is_join wide range spelled) table

  entry_stands : IsStateAt image 0 (entry image)
  entry_stands = record { sound = entry_sound image range; live = none_live image kept.begins }

  first_good : Good (first_table image)
  first_good = record { stand = λ at s is. stand_at at s (at == 0) refl is; trail = λ to t lone_to is. absurd (no_trail to t lone_to (to == 0) refl is) }
    where
      stand_at : (at : ℕ) (s : State) (b : Bool) → (at == 0) ≡ b → (if b then Some (entry image) else None) ≡ Some s → IsStateAt image at s
      stand_at at s true e is =
          let here : at ≡ 0 = (Decides-eqb at 0).0 e in
          let same : entry image ≡ s = cc in
          rw (here, ← same) entry_stands
      stand_at at s false e is = absurd cc

      no_trail : (to : ℕ) (t : State) → is_join to ≡ false → (b : Bool) → (to == 0) ≡ b → (if b then Some (entry image) else None) ≡ Some t → ⊥
      no_trail to t lone_to true e is = let no = or_left (to == 0) (is_head image to) (nat_le 2 (reached image cuts to)) (wide to lone_to) in let never : true ≡ false = sym e ∙ no in cc
      no_trail to t lone_to false e is = cc

  pub one_pass : (table : Table) → Good table → (pass image cuts table ≡ carried_pass image cuts is_join table) × IfOk (pass image cuts table) Good
  one_pass table good = (
    pass_carried image range.rows kept.good is_join (IsOne image cuts kept is_join wide) (IsStateAt image)
        (lone image cuts kept is_join wide) (are_states image cuts kept is_join wide range spelled) (edges_in cuts)
        (λ i e is. (i, is)) (λ e among. among) (edges_lead_on image cuts kept is_join wide) table good,
    subst (λ r. IfOk r Good) (sym edges.0) edges.1,
  )
    where
      edges : (along_edges image (edges_in cuts) table ≡ over image is_join (edges_in cuts) table) × IfOk (over image is_join (edges_in cuts) table) Good
      edges = edge_by_edge image range.rows kept.good is_join (IsOne image cuts kept is_join wide) (IsStateAt image)
          (lone image cuts kept is_join wide) (are_states image cuts kept is_join wide range spelled) (edges_in cuts)
          (λ i e is. (i, is)) table good

  pub all_passes : (n : ℕ) → (passes image cuts n ≡ carried image cuts is_join n) × IfOk (passes image cuts n) Good
  all_passes zero = (refl, first_good)
  all_passes (suc n) = let before = all_passes n in in_turn (passes image cuts n) (carried image cuts is_join n) before.0 before.1
    where
      in_turn : (r q : Result Table StateFault) → r ≡ q → IfOk r Good → ((r >>= pass image cuts) ≡ (q >>= carried_pass image cuts is_join)) × IfOk (r >>= pass image cuts) Good
      in_turn (Ok table) q same good = let one = one_pass table good in (rw (← same) one.0, one.1)
      in_turn (Err e) q same good = (rw (← same) refl, tt)

  pub good_after : (n : ℕ) (table : Table) → passes image cuts n ≡ Ok table → Good table
  good_after n table is = by_answer (passes image cuts n) is (all_passes n).1
    where
      by_answer : (r : Result Table StateFault) → r ≡ Ok table → IfOk r Good → Good table
      by_answer (Ok t) e good = let same : t ≡ table = cc in subst Good same good
      by_answer (Err f) e good = cc

  -- a pass that leaves what stands where edges join has come to the verdict: the whole table of that pass
  pub ends : (n : ℕ) (table new : Table) → carried image cuts is_join n ≡ Ok table →
      carried_pass image cuts is_join table ≡ Ok new → only_joins is_join new ≡ only_joins is_join table →
      IsVerdict image cuts (Ok new)
  ends n table new arrives gives stays =
      let first : passes image cuts n ≡ Ok table = (all_passes n).0 ∙ arrives in
      let next : passes image cuts (suc n) ≡ Ok new = ap (λ r. r >>= pass image cuts) first ∙ (one_pass table (good_after n table first)).0 ∙ gives in
      record {
        number = suc n;
        arrives = next;
        stays = (one_pass new (good_after (suc n) new next)).0 ∙ ap (over image is_join (edges_in cuts)) stays ∙ gives;
      }

  pub refuses : (n : ℕ) (table : Table) (fault : StateFault) → carried image cuts is_join n ≡ Ok table → carried_pass image cuts is_join table ≡ Err fault → IsVerdict image cuts (Err fault)
  refuses n table fault arrives gives =
      let first : passes image cuts n ≡ Ok table = (all_passes n).0 ∙ arrives in
      record { number = suc n; arrives = ap (λ r. r >>= pass image cuts) first ∙ (one_pass table (good_after n table first)).0 ∙ gives; stays = refl }
