-- The passes come to a verdict: each of them refuses, leaves the table as it is, or leaves fewer changes to be made.
use Rattle.std.proofs.Common.{◌≡◌, ℕ, zero, suc, ◌-◌, ◌<◌, ◌⊎◌, inl, inr, ◌==◌, nat_eq, if◌then◌else◌, false, IsTrue}
use Rattle.std.proofs.Common.{List, [], ◌∷◌, replicate, length, length-set, slice_get, slice_set, Option, Some, None}
use Rattle.std.proofs.Common.{Result, Ok, Err, refl, sym, ap, ◌∙◌, subst, arith}
use Rattle.std.specs.Prelude.{IfOk, IfSome}
use Rattle.std.specs.List.{AllByRecursion, flat_map}
use mathlib.Core.Path.{fun_ext}
use Rattle.std.proofs.lemmas.Bool.{cases_eq}
use Rattle.std.proofs.lemmas.Bool.Decides.{nat_tests}
use Rattle.std.proofs.lemmas.Option.{same_Some}
use Rattle.std.proofs.lemmas.List.{length-replicate}
use Rattle.std.proofs.lemmas.List.Concat.{flat_map-cons}
use Rattle.tp_decode.specs.declared.placed.Placed.{Placed}
use Rattle.tp_decode.specs.Cutting.{Cut, IsSpelled, placed_from, starts_from}
use Rattle.tp_image.specs.Image.{ImageValue, InRange}
use Rattle.tp_flow.specs.declared.edge.Edge.{Edge}
use Rattle.tp_flow.specs.NestKept.{KeepsNest}
use Rattle.tp_flow.specs.NestRanges.{ranges}
use Rattle.tp_flow.specs.Edges.{target}
use Rattle.tp_flow.specs.RowRules.{is_start}
use Rattle.tp_state.specs.declared.state.State.{State}
use Rattle.tp_state.specs.declared.fault.StateCode.{StateCode}
use Rattle.tp_state.specs.declared.fault.StateFault.{StateFault}
use Rattle.tp_state.specs.Answer.{◌>>=◌}
use Rattle.tp_state.specs.Entry.{entry}
use Rattle.tp_state.specs.After.{after}
use Rattle.tp_check.specs.Tables.{Table, table_of, asked}
use Rattle.tp_check.specs.Passes.{enter, go_along, with_place, along_edges, edges_from, edges_of, pass, passes, first_table, IsVerdict}
use Rattle.tp_check.specs.UnderWay.{IsPlacedAt, HasGrown, MayBeTaken}
use Rattle.tp_check.specs.Rising.{table_height}
use Rattle.tp_check.proofs.Heights.{Sinks, sound_words}
use Rattle.tp_check.proofs.TableSteps.{table_set, enter_sinks}
use Rattle.tp_check.proofs.Places.{last_above, no_last, stands_at}
use Rattle.tp_check.proofs.Entering.{Becomes, Entered, entered, elsewhere, there, grows, first_grown}
use Rattle.tp_check.proofs.Taking.{along_none, along_some, enter_none, arrives_at}
use Rattle.tp_check.proofs.Moving.{along_append}
use Rattle.tp_check.proofs.Passing.{may_be_taken}
use Rattle.tp_check.proofs.Loading.{loads_word}
use Rattle.tp_rule_laws.proofs.Rules.{after_sound}
use Rattle.tp_rule_laws.proofs.SoundJoins.{entry_sound, join_sound}
use Rattle.tp_state.specs.Sound.{IsSound, LoadsWord}

-- ---- tables in a list, whose states are sound

pub record IsKept (image : ImageValue) (places : ℕ) (states : List (Option State)) : Type 0 where
  pub grown : HasGrown image (table_of states)
  pub sound : (at : ℕ) (s : State) → table_of states at ≡ Some s → IsSound image s
  pub sized : length states ≡ places

-- a table that is as before, or has fewer changes left
pub record Leads (image : ImageValue) (places : ℕ) (states : List (Option State)) (table : Table) : Type 0 where
  pub new : List (Option State)
  pub is : table ≡ table_of new
  pub kept : IsKept image places new
  pub sinks : Sinks (table_height image) states new

module _ (image : ImageValue) (places : ℕ) where
  stays : (states : List (Option State)) → IsKept image places states → Leads image places states (table_of states)
  stays states kept = record { new = states; is = refl; kept = kept; sinks = inl refl }

  both_sink : (first then_ last : List (Option State)) → Sinks (table_height image) first then_ → Sinks (table_height image) then_ last → Sinks (table_height image) first last
  both_sink first then_ last (inl e) (inl f) = inl (f ∙ e)
  both_sink first then_ last (inl e) (inr less) = inr (rw e at less)
  both_sink first then_ last (inr less) (inl f) = inr (rw f less)
  both_sink first then_ last (inr less) (inr fewer) = inr (omega (arith, less, fewer))

  -- one step after another
  in_turn : (states : List (Option State)) (r : Result Table StateFault) (f : Table → Result Table StateFault) → IfOk r (Leads image places states)
      → ((new : List (Option State)) → IsKept image places new → IfOk (f (table_of new)) (Leads image places new)) → IfOk (r >>= f) (Leads image places states)
  in_turn states (Err e) f l go = tt
  in_turn states (Ok table) f l go = onward (f table) (subst (λ t. IfOk (f t) (Leads image places l.new)) (sym l.is) (go l.new l.kept))
    where
      onward : (r : Result Table StateFault) → IfOk r (Leads image places l.new) → IfOk r (Leads image places states)
      onward (Err e) m = tt
      onward (Ok t) m = record { new = m.new; is = m.is; kept = m.kept; sinks = both_sink states l.new m.new l.sinks m.sinks }

  -- ---- a state reaches an address

  module _ (states : List (Option State)) (kept : IsKept image places states) (to : ℕ) (inside : to < length states) (s : State) (fits : IsPlacedAt image to s) (sound : IsSound image s) where
    module _ (new : Table) (e : Entered (table_of states) to s new) where
      new_states : List (Option State)
      new_states = slice_set states to (Some e.state)

      made : new ≡ table_of (slice_set states to (Some e.state))
      made = e.is ∙ sym (table_set states to e.state inside)

      grown : HasGrown image new
      grown = grows image (table_of states) to s kept.grown fits new e

      sound_there : (o : Option State) → table_of states to ≡ o → Becomes o s e.state → IsSound image e.state
      sound_there None is same = rw same sound
      sound_there (Some u) is (wptr, phase, same) = rw same (join_sound image u s (kept.sound to u is) sound)

      sound_at : (at : ℕ) (t : State) → new at ≡ Some t → IsSound image t
      sound_at at t is = by_place (cases_eq at to)
        where
          by_place : (at ≡ to) ⊎ (at ≡ to → ⊥) → IsSound image t
          by_place (inl same) =
              let here : e.state ≡ t = same_Some _ _ (sym (there (table_of states) to s new e) ∙ sym (ap new same) ∙ is) in
              subst (IsSound image) here (sound_there (table_of states to) refl e.becomes)
          by_place (inr other) = kept.sound at t (sym (elsewhere (table_of states) to s new at e other) ∙ is)

      alike : (o : Option State) → table_of states to ≡ o → IfSome o (λ u. length s.cells ≡ length u.cells)
      alike None is = tt
      alike (Some u) is = sound.placed.sized ∙ sym (kept.sound to u is).placed.sized

      leads : Leads image places states new
      leads = record {
        new = slice_set states to (Some e.state);
        is = made;
        kept = record {
          grown = subst (HasGrown image) made grown;
          sound = λ at t is. sound_at at t (ap (λ (table : Table). table at) made ∙ is);
          sized = length-set states to (Some e.state) ∙ kept.sized;
        };
        sinks = enter_sinks image states to s e.state inside (sound_words image s sound) sound.placed.sized (alike (table_of states to) refl) e.becomes;
      }

    arrives : IfOk (enter (Some to) s (table_of states)) (Leads image places states)
    arrives = by_answer (enter (Some to) s (table_of states)) refl
      where
        by_answer : (r : Result Table StateFault) → enter (Some to) s (table_of states) ≡ r → IfOk r (Leads image places states)
        by_answer (Err e) is = tt
        by_answer (Ok new) is = leads new (entered (table_of states) to s new is)

-- ---- edges

-- an instruction that may be taken, and loads a word
pub record IsReady (image : ImageValue) (places : ℕ) (p : Placed) : Type 0 where
  pub may : MayBeTaken image places p
  pub loads : LoadsWord p.instr

module _ (image : ImageValue) (cuts : List Cut) (range : InRange image) (spelled : AllByRecursion IsSpelled cuts) (nest : KeepsNest image.loops image.workspace cuts) (places : ℕ) where
  module _ (p : Placed) (ready : IsReady image places p) where
    edge_leads : (edge : Edge) (states : List (Option State)) → IsKept image places states → IfOk (go_along image p edge (table_of states p.at) (table_of states)) (Leads image places states)
    edge_leads edge states kept = by_state (table_of states p.at) refl
      where
        goes : Result Table StateFault → Type 0
        goes r = IfOk r (Leads image places states)

        by_target : (s v : State) → table_of states p.at ≡ Some s → after image p.at p.next p.instr edge s ≡ Ok v →
            IsSound image v → (o : Option ℕ) → target (ranges image.loops) p.at p.next p.instr edge ≡ o
            → IfOk (enter o v (table_of states)) (Leads image places states)
        by_target s v here is sound None leads = subst (λ r. IfOk r (Leads image places states)) (sym (enter_none v (table_of states))) (stays image places states kept)
        by_target s v here is sound (Some to) leads =
            let inside : to < length states = (let lt = ready.may.targets edge to leads in omega (arith, lt, kept.sized)) in
            arrives image places states kept to inside v (arrives_at image p edge places to (table_of states) s v ready.may kept.grown here is sound.placed leads) sound

        by_outcome : (s : State) → table_of states p.at ≡ Some s → (r : Result State StateCode) → after image p.at p.next p.instr edge s ≡ r → IfOk r (IsSound image)
            → IfOk (with_place p.at r >>= (λ t. enter (target (ranges image.loops) p.at p.next p.instr edge) t (table_of states))) (Leads image places states)
        by_outcome s here (Err code) is sound = tt
        by_outcome s here (Ok v) is sound = by_target s v here is sound (target (ranges image.loops) p.at p.next p.instr edge) refl

        by_state : (o : Option State) → table_of states p.at ≡ o → IfOk (go_along image p edge (table_of states p.at) (table_of states)) (Leads image places states)
        by_state None here = subst (λ r. IfOk r (Leads image places states)) (sym (along_none image p edge (table_of states) (table_of states p.at) here)) (stays image places states kept)
        by_state (Some s) here =
            let sound = after_sound image range nest.good p.at p.next p.instr edge s ready.loads (kept.sound p.at s here) in
            subst (λ r. IfOk r (Leads image places states)) (sym (along_some image p edge (table_of states) (table_of states p.at) s (after image p.at p.next p.instr edge s) here refl))
            (by_outcome s here (after image p.at p.next p.instr edge s) refl sound)

    ways_lead : (ways : List Edge) (states : List (Option State)) → IsKept image places states → IfOk (along_edges image (edges_from p ways) (table_of states)) (Leads image places states)
    ways_lead [] states kept = stays image places states kept
    ways_lead (edge ∷ ways) states kept =
        in_turn image places states (go_along image p edge (table_of states p.at) (table_of states)) (along_edges image (edges_from p ways)) (edge_leads edge states kept) (ways_lead ways)

  all_lead : (ps : List Placed) → ((i : ℕ) (p : Placed) → slice_get ps i ≡ Some p → IsReady image places p) → (states : List (Option State)) → IsKept image places states
      → IfOk (along_edges image (flat_map edges_of ps) (table_of states)) (Leads image places states)
  all_lead [] ready states kept = stays image places states kept
  all_lead (p ∷ ps) ready states kept =
      subst (λ r. IfOk r (Leads image places states)) (sym
      (ap (λ es. along_edges image es (table_of states)) (flat_map-cons edges_of p ps) ∙
      along_append image (edges_of p) (flat_map edges_of ps) (table_of states)))
      (in_turn image places states (along_edges image (edges_of p) (table_of states))
      (along_edges image (flat_map edges_of ps)) (ways_lead p (ready 0 p refl) (asked p.instr) states kept)
      (all_lead ps (λ i q is. ready (suc i) q is)))

  module _ (inside : (at : ℕ) → IsTrue (is_start cuts at) → at < places) where
    ready_at : (i : ℕ) (p : Placed) → slice_get (placed_from 0 cuts) i ≡ Some p → IsReady image places p
    ready_at i p is =
        let stands = stands_at cuts i p nest.spelled is in
        record { may = may_be_taken image cuts places p nest inside stands; loads = loads_word cuts spelled p stands }

    pass_leads : (states : List (Option State)) → IsKept image places states → IfOk (pass image cuts (table_of states)) (Leads image places states)
    pass_leads states kept = all_lead (placed_from 0 cuts) ready_at states kept

    -- ---- the passes end

    -- a pass refuses, leaves the table as it is, or there are fewer changes left
    one_more : (states : List (Option State)) → IsKept image places states → (number : ℕ) → passes image cuts number ≡ Ok (table_of states)
        → ((l : List (Option State)) → IsKept image places l → passes image cuts (suc number) ≡ Ok (table_of l) →
        table_height image l < table_height image states → (verdict : Result Table StateFault) ×
        IsVerdict image cuts verdict)
        → (verdict : Result Table StateFault) × IsVerdict image cuts verdict
    one_more states kept number arrives go = by_answer (pass image cuts (table_of states)) refl (pass_leads states kept)
      where
        comes_on : passes image cuts (suc number) ≡ pass image cuts (table_of states)
        comes_on = ap (λ r. r >>= pass image cuts) arrives

        by_sink : (new : List (Option State)) → IsKept image places new →
            pass image cuts (table_of states) ≡ Ok (table_of new) → Sinks (table_height image) states new →
            (verdict : Result Table StateFault) × IsVerdict image cuts verdict
        by_sink new kept is (inl same) = (Ok (table_of states), record { number = number; arrives = arrives; stays = is ∙ ap (λ states. Ok (table_of states)) same })
        by_sink new kept is (inr fewer) = go new kept (comes_on ∙ is) fewer

        by_answer : (r : Result Table StateFault) → pass image cuts (table_of states) ≡ r → IfOk r (Leads image places states) → (verdict : Result Table StateFault) × IsVerdict image cuts verdict
        by_answer (Err e) is l = (Err e, record { number = suc number; arrives = comes_on ∙ is; stays = refl })
        by_answer (Ok table) is l = by_sink l.new l.kept (is ∙ ap Ok l.is) l.sinks

    ends : (n : ℕ) (states : List (Option State)) → IsKept image places states → (number : ℕ) → passes image cuts number ≡ Ok (table_of states) → table_height image states < n
        → (verdict : Result Table StateFault) × IsVerdict image cuts verdict
    ends zero states kept number arrives less = absurd (omega (arith, less))
    ends (suc n) states kept number arrives less = one_more states kept number arrives λ new kept arrives fewer. ends n new kept (suc number) arrives (omega (arith, less, fewer))

-- ---- the first table

no_state : (n x : ℕ) → table_of (replicate n None) x ≡ None
no_state zero x = refl
no_state (suc n) zero = refl
no_state (suc n) (suc x) = no_state n x

first_is : (image : ImageValue) (n : ℕ) → table_of (Some (entry image) ∷ replicate n None) ≡ first_table image
first_is image n = fun_ext λ x. at x
  where
    at : (x : ℕ) → table_of (Some (entry image) ∷ replicate n None) x ≡ first_table image x
    at zero = refl
    at (suc x) = let other : nat_eq (suc x) 0 ≡ false = grind (arith, nat_tests) in rw other (no_state n x)

module _ (image : ImageValue) (cuts : List Cut) (range : InRange image) (spelled : AllByRecursion IsSpelled cuts) (nest : KeepsNest image.loops image.workspace cuts) where
  first_kept : (n : ℕ) → IsKept image (suc n) (Some (entry image) ∷ replicate n None)
  first_kept n = record { grown = grown; sound = λ at s is. sound at s is (cases_eq at 0); sized = sized }
    where
      grown : HasGrown image (table_of (Some (entry image) ∷ replicate n None))
      grown = first_grown image _ nest.begins (entry_sound image range).placed (first_is image n)

      sound : (at : ℕ) (s : State) → table_of (Some (entry image) ∷ replicate n None) at ≡ Some s → (at ≡ 0) ⊎ (at ≡ 0 → ⊥) → IsSound image s
      sound at s is (inl same) =
          let here : entry image ≡ s = same_Some _ _ (sym (ap (table_of (Some (entry image) ∷ replicate n None)) same) ∙ is) in
          subst (IsSound image) here (entry_sound image range)
      sound at s is (inr other) =
          let no : (at == 0) ≡ false = grind (arith, nat_tests) in
          absurd (let none : None ≡ Some s = sym (ap (λ (table : Table). table at) (first_is image n) ∙ ap (λ b. if b then Some (entry image) else None) no) ∙ is in cc)

      sized : length (Some (entry image) ∷ replicate n None) ≡ suc n
      sized = omega (arith, length-replicate {A = Option State} n None)

  from_places : (n : ℕ) → ((at : ℕ) → IsTrue (is_start cuts at) → at < suc n) → (verdict : Result Table StateFault) × IsVerdict image cuts verdict
  from_places n inside =
      ends image cuts range spelled nest (suc n) inside (suc
      (table_height image (Some (entry image) ∷ replicate n None))) (Some (entry image) ∷ replicate n None)
      (first_kept n) 0 (ap Ok (sym (first_is image n))) (omega arith)

  pub a_verdict : (verdict : Result Table StateFault) × IsVerdict image cuts verdict
  a_verdict = by_last (slice_get (starts_from 0 cuts) (length (starts_from 0 cuts) - 1)) refl
    where
      by_last : (o : Option ℕ) → slice_get (starts_from 0 cuts) (length (starts_from 0 cuts) - 1) ≡ o → (verdict : Result Table StateFault) × IsVerdict image cuts verdict
      by_last (Some last) is = from_places last λ at starts. (let le = last_above 0 cuts at last (sym is) starts in omega (arith, le))
      by_last None is = from_places 0 λ at starts. absurd (no_last 0 cuts at (sym is) starts)
