-- What an edge that is taken leaves under way.
use Rattle.std.proofs.Common.{◌≡◌, ◌≢◌, ℕ, zero, suc, ◌<◌, ◌⊎◌, inl, inr, Bool, true, false, List, [], ◌∷◌, length}
use Rattle.std.proofs.Common.{slice_set, Option, Some, None, Result, Ok, Err, refl, sym, ap, ◌∙◌, subst, rules, arith}
use Rattle.std.proofs.Common.{length-set, get_or-set_same, get_or-set_other}
use Rattle.std.specs.Prelude.{IfOk, IfSome}
use Rattle.std.proofs.lemmas.Bool.{cases_eq}
use Rattle.std.proofs.lemmas.Option.{same_Some}
use Rattle.tp_decode.specs.declared.placed.Placed.{Placed}
use Rattle.tp_flow.specs.declared.edge.Edge.{Edge}
use Rattle.tp_image.specs.Image.{ImageValue}
use Rattle.tp_state.specs.declared.state.State.{State}
use Rattle.tp_state.specs.declared.fault.StateFault.{StateFault}
use Rattle.tp_state.specs.declared.fault.StateFault.TheVariants.{Refused, Memory}
use Rattle.tp_state.specs.Conditions.{IsPlaced}
use Rattle.tp_state.specs.Order.{IsBelow, ReportsChange}
use Rattle.tp_state.specs.Sound.{IsSound}
use Rattle.tp_state.proofs.StateOrder.{is_below-self, is_below-trans}
use Rattle.tp_state.specs.After.{after}
use Rattle.tp_check.specs.declared.passes.Passes.{Passes}
use Rattle.tp_check.specs.Tables.{Table, table_of, with_state}
use Rattle.tp_check.specs.EdgesRespect.{HasAbove}
use Rattle.tp_check.specs.Passes.{enter, edges_from, edges_in}
use Rattle.tp_check.specs.Carried.{target_of, over, is_head, IsAmong}
use Rattle.tp_check.specs.UnderWay.{IsPlacedAt, HasGrown, MayBeTaken, is_in, IsPropagated, IsDone, WasTaken, KeepsSound, HasArrived, waits, repeats, Waits, KeepsWhole, AreLeft, IsApart}
use Rattle.tp_check.specs.Steps.{IsAfterEdge, IsLedOn, SameButStates, Carries, marked}
use Rattle.tp_check.specs.Rising.{Moves}
use Rattle.tp_check.specs.Arrivals.{ArrivedBefore, Gives}
use Rattle.tp_check.proofs.Again.{rises_after, sound_after, sound_joined, sound_alone}
use Rattle.tp_check.proofs.Entering.{Entered, entered, elsewhere, grows, comes_below, rises}
use Rattle.tp_check.proofs.Heights.{HasWords, sound_words}
use Rattle.tp_check.proofs.Moving.{moves_none}
use Rattle.tp_check.proofs.TableSteps.{enter_moves}
use Rattle.tp_check.proofs.Taking.{arrives_at}
use Rattle.tp_check.proofs.Nests.{ways_at, or_left}
use Rattle.tp_check.proofs.Settling.{differ, differ_too, enters_alike, refuses_alike, with_there, with_elsewhere, over_nowhere, over_joined, over_alone}
use Rattle.tp_check.proofs.Waiting.{itself, leads_there, waiting, marked_waits, carried_waits, repeating, taken_repeats, carried_repeats}

-- of all that is not kept where edges join the state that is carried alone has changed
pub record IsMoved (v : State) (old new : Passes) : Type 0 where
  pub carried : new.carried ≡ v
  pub is_again : new.is_again ≡ old.is_again
  pub taken : new.taken.items ≡ old.taken.items

-- the states that are kept where edges join are those of the image's worker
pub kept_is_placed : (image : ImageValue) (is_join : ℕ → Bool) (p : Passes) (whole : Table) →
    KeepsWhole image is_join p whole → (at : ℕ) → is_join at ≡ true → IfSome (table_of p.states.items at) (IsPlaced image)
kept_is_placed image is_join p whole keeps at is = by_state (table_of p.states.items at) refl
  where
    by_state : (o : Option State) → table_of p.states.items at ≡ o → IfSome o (IsPlaced image)
    by_state None e = search rules
    by_state (Some s) e = (keeps.grown.states at s (keeps.states at is ∙ e)).placed

pub as_many_words : (image : ImageValue) (o : Option State) (v : State) → IfSome o (IsPlaced image) → IsPlaced image v → IfSome o (λ s. length v.cells ≡ length s.cells)
as_many_words image None v stands fits = tt
as_many_words image (Some s) v stands fits = fits.sized ∙ sym stands.sized

module _ (image : ImageValue) (is_join : ℕ → Bool) (old : Passes) (place : Placed) (edge : Edge) (later : List Edge)
    (apart : IsApart edge later) (on : AreLeft image is_join old place (edge ∷ later))
    (may : MayBeTaken image (length old.states.items) place) (sure : KeepsSound image place) (v : State)
    (goes : after image place.at place.next place.instr edge old.carried ≡ Ok v) (fits : IsPlaced image v) where
  sound_v : IsSound image v
  sound_v = sound_after image sure.range may.around.good place.at place.next place.instr edge old.carried v sure.loads (on.way.keeps.sound place.at old.carried on.here) goes

  off : (to : ℕ) → target_of image (place, edge) ≡ Some to → place.at ≢ to
  off to leads same = may.elsewhere edge to leads (sym same)

  one : IsAmong (edges_in on.cuts) (place, edge)
  one = on.among (place, edge) (0, refl)

  source : (f : Placed × Edge) → IsAmong (edges_from place (edge ∷ later)) f → f.0.at ≡ place.at
  source f among = ap (λ (p : Placed). p.at) (ways_at place (edge ∷ later) f among)

  -- what came of the edge when it was taken before
  module _ (again : old.is_again ≡ true) where
    taken_before : WasTaken image is_join on.whole (place, edge)
    taken_before = on.way.left_again again (place, edge) (0, refl)

    rose : IsBelow taken_before.propagated.outcome v
    rose =
        rises_after image sure.range may.around.good place.at place.next place.instr edge taken_before.before old.carried taken_before.propagated.outcome v taken_before.sound
        (subst (IsBelow taken_before.before) (same_Some _ _ (sym taken_before.above.there ∙ on.here)) taken_before.above.below) taken_before.propagated.goes_on goes

    came_before : (to : ℕ) → target_of image (place, edge) ≡ Some to → is_join to ≡ true → ArrivedBefore (table_of old.states.items to) v
    came_before to leads is =
        let above = (taken_before.propagated.arrives to leads).joined is in
        record { before = taken_before.propagated.outcome; state = above.state; is = sym (on.way.keeps.states to is) ∙ above.there; rose = above.below; below = rose }

  -- ---- a table to which what is known after it has come

  module _ (table : Table) (same : table place.at ≡ on.whole place.at) (come : (x : ℕ) → target_of image (place, edge) ≡ Some x → HasArrived is_join table x v) where
    along : IsPropagated image is_join table (place, edge) old.carried
    along = record { outcome = v; goes_on = goes; arrives = come }

    now_done : (f : Placed × Edge) → ◌≡◌ {A = Placed × Edge} (place, edge) f → IsDone image is_join table f
    now_done f is = subst (IsDone image is_join table) is (λ s there. subst (IsPropagated image is_join table (place, edge)) (same_Some _ _ (sym (same ∙ on.here) ∙ there)) along)

    now_taken : (f : Placed × Edge) → ◌≡◌ {A = Placed × Edge} (place, edge) f → WasTaken image is_join table f
    now_taken f is = subst (WasTaken image is_join table) is (record {
      before = old.carried;
      sound = on.way.keeps.sound place.at old.carried on.here;
      above = record { state = old.carried; there = same ∙ on.here; below = is_below-self old.carried };
      propagated = along;
    })

    module _ (new : Passes) (grow : (x : ℕ) → waits is_join old place.next x ≡ true → waits is_join new place.next x ≡ true)
        (still : (f : Placed × Edge) → IsAmong (edges_in on.cuts) f → IsDone image is_join on.whole f → (waits is_join new place.next f.0.at ≡ true) ⊎ IsDone image is_join table f)
        (repeated : (f : Placed × Edge) → IsAmong (edges_in on.cuts) f → repeats is_join new place.next f.0.at ≡ true →
        IsAmong (edges_from place (edge ∷ later)) f ⊎ WasTaken image is_join table f) where
      each : (f : Placed × Edge) → IsAmong (edges_in on.cuts) f → Waits is_join new (edges_from place later) place.next f ⊎ IsDone image is_join table f
      each f among = by_old (on.way.each f among)
        where
          by_still : (waits is_join new place.next f.0.at ≡ true) ⊎ IsDone image is_join table f → Waits is_join new (edges_from place later) place.next f ⊎ IsDone image is_join table f
          by_still (inl is) = inl (inr is)
          by_still (inr done) = inr done

          by_old : Waits is_join old (edges_from place (edge ∷ later)) place.next f ⊎ IsDone image is_join on.whole f →
              Waits is_join new (edges_from place later) place.next f ⊎ IsDone image is_join table f
          by_old (inl (inl (zero, is))) = inr (now_done f (same_Some (place, edge) f is))
          by_old (inl (inl (suc i, is))) = inl (inl (i, is))
          by_old (inl (inr is)) = inl (inr (grow f.0.at is))
          by_old (inr done) = by_still (still f among done)

      again : (f : Placed × Edge) → IsAmong (edges_in on.cuts) f → repeats is_join new place.next f.0.at ≡ true → IsAmong (edges_from place later) f ⊎ WasTaken image is_join table f
      again f among is = by_old (repeated f among is)
        where
          by_old : IsAmong (edges_from place (edge ∷ later)) f ⊎ WasTaken image is_join table f → IsAmong (edges_from place later) f ⊎ WasTaken image is_join table f
          by_old (inl (zero, is)) = inr (now_taken f (same_Some (place, edge) f is))
          by_old (inl (suc i, is)) = inl (i, is)
          by_old (inr was) = inr was

  -- ---- it leads nowhere

  pub nowhere : (new : Passes) → new.states.items ≡ old.states.items → new.changed.items ≡ old.changed.items →
      IsMoved v old new → new.is_carried ≡ old.is_carried → target_of image (place, edge) ≡ None
      → Carries {X = Bool} (Ok false) (over image is_join ((place, edge) ∷ []) on.whole) (IsAfterEdge image on.cuts is_join old new place edge later on.whole)
  nowhere new states changed rest is_carried leads = (
    on.whole,
    over_nowhere image is_join place edge on.whole old.carried on.here v goes leads,
    record {
      way = record {
        keeps = record {
          flags = ap length changed ∙ on.way.keeps.flags ∙ ap length (sym states);
          takes = ap length rest.taken ∙ on.way.keeps.takes ∙ ap length (sym states);
          carried = rw rest.carried fits;
          states = λ at is. on.way.keeps.states at is ∙ ap (λ items. table_of items at) (sym states);
          grown = on.way.keeps.grown;
          sound = on.way.keeps.sound;
        };
        each = each on.whole refl none new grow (λ f among done. inr done) repeated;
        again = again on.whole refl none new grow (λ f among done. inr done) repeated;
        left_again = λ is f among. on.way.left_again (sym rest.is_again ∙ is) f (suc among.0, among.1);
      };
      arrives = λ to also. absurd (let no : None ≡ Some to = sym leads ∙ also in cc);
      here = refl;
      rises = λ x s _ above. above;
      stays = λ x _ _. refl;
      goes = λ also. absurd (let no : None ≡ Some place.next = sym leads ∙ also in cc);
      rests = λ _. is_carried;
    },
  )
    where
      none : (x : ℕ) → target_of image (place, edge) ≡ Some x → HasArrived is_join on.whole x v
      none x also = absurd (let no : None ≡ Some x = sym leads ∙ also in cc)

      grow : (x : ℕ) → waits is_join old place.next x ≡ true → waits is_join new place.next x ≡ true
      grow x is = rw (changed, is_carried) is

      repeated : (f : Placed × Edge) → IsAmong (edges_in on.cuts) f → repeats is_join new place.next f.0.at ≡ true → IsAmong (edges_from place (edge ∷ later)) f ⊎ WasTaken image is_join on.whole f
      repeated f among is = on.way.again f among (rw (sym rest.taken, sym is_carried, sym rest.is_again) is)

  module _ (to : ℕ) (leads : target_of image (place, edge) ≡ Some to) where
    stands_there : IsPlacedAt image to v
    stands_there = arrives_at image place edge (length old.states.items) to on.whole old.carried v may on.way.keeps.grown on.here goes fits leads

    inside : to < length old.changed.items
    inside = let le = may.targets edge to leads in let long = on.way.keeps.flags in omega (arith, le, long)

    -- ---- it leads to where edges join

    module _ (is_joined : is_join to ≡ true) (new : Passes) (rest : IsMoved v old new)
        (on_next : to ≡ place.next → new.is_carried ≡ true) (off_next : to ≢ place.next → new.is_carried ≡ old.is_carried)
      where
        -- elsewhere it is not carried on
        same_carried : (x : ℕ) → is_join x ≡ false → x ≡ place.next → new.is_carried ≡ old.is_carried
        same_carried x alone same = off_next (λ also. absurd (let no : false ≡ true = sym alone ∙ ap is_join (same ∙ sym also) ∙ is_joined in cc))

        module _ (moved : Bool) (arrives : enter (Some to) v (table_of old.states.items) ≡ Ok (table_of new.states.items))
            (flags : new.changed.items ≡ marked moved to old.changed.items)
            (moves : Moves image moved old.states.items new.states.items) where
          same_there : on.whole to ≡ table_of old.states.items to
          same_there = on.way.keeps.states to is_joined

          set_there : is_in (slice_set old.changed.items to true) to ≡ true
          set_there = get_or-set_same old.changed.items to true false inside

          module _ (table : Table) (it : Entered on.whole to v table) (made : (x : ℕ) → is_join x ≡ true → table x ≡ table_of new.states.items x) where
            stays : moved ≡ false → (x : ℕ) → table x ≡ on.whole x
            stays still x = by_place (cases_eq x to)
              where
                by_place : (x ≡ to) ⊎ (x ≡ to → ⊥) → table x ≡ on.whole x
                by_place (inl same) = ap table same ∙ made to is_joined ∙ ap (λ states. table_of states to) (moves.stays still) ∙ sym same_there ∙ ap on.whole (sym same)
                by_place (inr other) = elsewhere on.whole to v table x it other

            come_joined : (x : ℕ) → target_of image (place, edge) ≡ Some x → HasArrived is_join table x v
            come_joined x also = subst (λ y. HasArrived is_join table y v) (same_Some to x (sym leads ∙ also)) (record {
              joined = λ _. comes_below image on.whole to v on.way.keeps.grown stands_there table it;
              alone = λ alone. absurd (let no : false ≡ true = sym alone ∙ is_joined in cc);
            })

            here_joined : table place.at ≡ on.whole place.at
            here_joined = elsewhere on.whole to v table place.at it (off to leads)

            grow_joined : (x : ℕ) → waits is_join old place.next x ≡ true → waits is_join new place.next x ≡ true
            grow_joined x is = by_case (waiting is_join old place.next x is)
              where
                by_place : is_in old.changed.items x ≡ true → (x ≡ to) ⊎ (x ≡ to → ⊥) → is_in (slice_set old.changed.items to true) x ≡ true
                by_place on_flag (inl same) = ap (is_in (slice_set old.changed.items to true)) same ∙ set_there
                by_place on_flag (inr other) = get_or-set_other old.changed.items to x true false other ∙ on_flag

                by_move : (m : Bool) → is_in old.changed.items x ≡ true → is_in (marked m to old.changed.items) x ≡ true
                by_move false on_flag = on_flag
                by_move true on_flag = by_place on_flag (cases_eq x to)

                by_case : ((is_join x ≡ true) × (is_in old.changed.items x ≡ true)) ⊎ ((is_join x ≡ false) × (x ≡ place.next) × (old.is_carried ≡ true)) → waits is_join new place.next x ≡ true
                by_case (inl (joins, on_flag)) = marked_waits is_join new place.next x joins (ap (λ items. is_in items x) flags ∙ by_move moved on_flag)
                by_case (inr (alone, same, carried)) = carried_waits is_join new place.next x alone same (same_carried x alone same ∙ carried)

            propagated_joined : (f : Placed × Edge) (s : State) → IsPropagated image is_join on.whole f s → IsPropagated image is_join table f s
            propagated_joined f s r = record {
              outcome = r.outcome;
              goes_on = r.goes_on;
              arrives = λ x also. record {
                joined = λ is. rises image on.whole to v on.way.keeps.grown stands_there table it x r.outcome ((r.arrives x also).joined is);
                alone = λ alone. elsewhere on.whole to v table x it (differ is_join x to alone is_joined) ∙ (r.arrives x also).alone alone;
              };
            }

            still_joined : (f : Placed × Edge) → IsAmong (edges_in on.cuts) f → IsDone image is_join on.whole f → (waits is_join new place.next f.0.at ≡ true) ⊎ IsDone image is_join table f
            still_joined f among done = by_place (cases_eq f.0.at to)
              where
                done_at : table f.0.at ≡ on.whole f.0.at → IsDone image is_join table f
                done_at same s there = propagated_joined f s (done s (sym same ∙ there))

                by_move : (m : Bool) → moved ≡ m → f.0.at ≡ to → (waits is_join new place.next f.0.at ≡ true) ⊎ IsDone image is_join table f
                by_move true e same = inl (marked_waits is_join new place.next f.0.at (ap is_join same ∙ is_joined)
                    (ap (λ items. is_in items f.0.at) (flags ∙ ap (λ m. marked m to old.changed.items) e) ∙
                    ap (is_in (slice_set old.changed.items to true)) same ∙ set_there))
                by_move false e same = inr (done_at (stays e f.0.at))

                by_place : (f.0.at ≡ to) ⊎ (f.0.at ≡ to → ⊥) → (waits is_join new place.next f.0.at ≡ true) ⊎ IsDone image is_join table f
                by_place (inl same) = by_move moved refl same
                by_place (inr other) = inr (done_at (elsewhere on.whole to v table f.0.at it other))

            was_joined : (f : Placed × Edge) → WasTaken image is_join on.whole f → WasTaken image is_join table f
            was_joined f w = record {
              before = w.before;
              sound = w.sound;
              above = rises image on.whole to v on.way.keeps.grown stands_there table it f.0.at w.before w.above;
              propagated = propagated_joined f w.before w.propagated;
            }

            repeated_joined : (f : Placed × Edge) → IsAmong (edges_in on.cuts) f →
                repeats is_join new place.next f.0.at ≡ true → IsAmong (edges_from place (edge ∷ later)) f ⊎ WasTaken image
                is_join table f
            repeated_joined f among is = by_old (on.way.again f among (by_case (repeating is_join new place.next f.0.at is)))
              where
                by_case : ((is_join f.0.at ≡ true) × (is_in new.taken.items f.0.at ≡ true)) ⊎
                    ((is_join f.0.at ≡ false) × (f.0.at ≡ place.next) × (new.is_carried ≡ true) × (new.is_again ≡ true)) →
                    repeats is_join old place.next f.0.at ≡ true
                by_case (inl (joins, taken)) = taken_repeats is_join old place.next f.0.at joins (sym (ap (λ items. is_in items f.0.at) rest.taken) ∙ taken)
                by_case (inr (alone, same, carried, again)) = carried_repeats is_join old place.next f.0.at alone same (sym (same_carried f.0.at alone same) ∙ carried) (sym rest.is_again ∙ again)

                by_old : IsAmong (edges_from place (edge ∷ later)) f ⊎ WasTaken image is_join on.whole f → IsAmong (edges_from place (edge ∷ later)) f ⊎ WasTaken image is_join table f
                by_old (inl left) = inl left
                by_old (inr w) = inr (was_joined f w)

            after_joined : IsAfterEdge image on.cuts is_join old new place edge later on.whole table
            after_joined = record {
              way = record {
                keeps = record {
                  flags = ap length flags ∙ long moved ∙ on.way.keeps.flags ∙ sym moves.sized;
                  takes = ap length rest.taken ∙ on.way.keeps.takes ∙ sym moves.sized;
                  carried = rw rest.carried fits;
                  states = made;
                  grown = grows image on.whole to v on.way.keeps.grown stands_there table it;
                  sound = sound_joined image on.whole to v table it on.way.keeps.sound sound_v;
                };
                each = each table here_joined come_joined new grow_joined still_joined repeated_joined;
                again = again table here_joined come_joined new grow_joined still_joined repeated_joined;
                left_again = λ is f among. was_joined f (on.way.left_again (sym rest.is_again ∙ is) f (suc among.0, among.1));
              };
              arrives = λ x also. subst (HasArrived is_join table x) (sym rest.carried) (come_joined x also);
              here = here_joined;
              rises = λ x s _ above. rises image on.whole to v on.way.keeps.grown stands_there table it x s above;
              stays = λ x _ other. elsewhere on.whole to v table x it (λ same. other (leads ∙ ap Some (sym same)));
              goes = λ also. on_next (same_Some to place.next (sym leads ∙ also));
              rests = λ other. off_next (λ same. other (leads ∙ ap Some same));
            }
              where
                long : (b : Bool) → length (marked b to old.changed.items) ≡ length old.changed.items
                long true = length-set old.changed.items to true
                long false = refl

          at_join : Carries {X = Bool} (Ok moved) (over image is_join ((place, edge) ∷ []) on.whole) (IsAfterEdge image on.cuts is_join old new place edge later on.whole)
          at_join =
              let alike = enters_alike to v on.whole (table_of old.states.items) (table_of new.states.items) same_there arrives in
              let gives = over_joined image is_join place edge on.whole old.carried on.here v goes to leads is_joined ∙ alike.enters in
              let e = entered on.whole to v (with_state to alike.state on.whole) alike.enters in
              (with_state to alike.state on.whole, gives, after_joined (with_state to alike.state on.whole) e (λ x is. at_place alike.state alike.is x is (cases_eq x to)))
            where
              at_place : (u : State) → table_of new.states.items ≡ with_state to u (table_of old.states.items) → (x : ℕ) →
                  is_join x ≡ true → (x ≡ to) ⊎ (x ≡ to → ⊥) → with_state to u on.whole x ≡ table_of new.states.items x
              at_place u made x is (inl same) = ap (with_state to u on.whole) same ∙ with_there to u on.whole ∙
                  sym (with_there to u (table_of old.states.items)) ∙
                  ap (with_state to u (table_of old.states.items)) (sym same) ∙ sym (ap (λ (t : Table). t x) made)
              at_place u made x is (inr other) = with_elsewhere to u on.whole x other ∙ on.way.keeps.states x is ∙
                  sym (with_elsewhere to u (table_of old.states.items) x other) ∙ sym (ap (λ (t : Table). t x) made)

        to_join : (r : Result Bool StateFault) → Gives r (table_of new.states.items)
            (enter (Some to) v (table_of old.states.items)) → IfOk r
            (λ moved. new.changed.items ≡ marked moved to old.changed.items) →
            IfOk r (λ moved. Moves image moved old.states.items new.states.items)
            → Carries r (over image is_join ((place, edge) ∷ []) on.whole) (IsAfterEdge image on.cuts is_join old new place edge later on.whole)
        to_join (Ok moved) gives flags moves = at_join moved gives flags moves
        to_join (Err (Refused code at)) gives flags moves =
            over_joined image is_join place edge on.whole old.carried on.here v goes to leads is_joined ∙
            refuses_alike to v on.whole (table_of old.states.items) (Refused code at) (on.way.keeps.states to is_joined)
            gives
        to_join (Err Memory) gives flags moves = tt

    -- ---- it alone leads there: control falls to the next instruction

    module _ (is_alone : is_join to ≡ false) (new : Passes) (states : new.states.items ≡ old.states.items)
        (changed : new.changed.items ≡ old.changed.items) (rest : IsMoved v old new)
        (on_next : to ≡ place.next → new.is_carried ≡ true) where
      falls : to ≡ place.next
      falls = on.join.falls (place, edge) to one is_alone leads

      is_carried : new.is_carried ≡ true
      is_carried = on_next falls

      abbrev table : Table
      table = with_state to v on.whole

      come : (x : ℕ) → target_of image (place, edge) ≡ Some x → HasArrived is_join table x v
      come x also = subst (λ y. HasArrived is_join table y v) (same_Some to x (sym leads ∙ also)) (record {
        joined = λ is. absurd (let no : true ≡ false = sym is ∙ is_alone in cc);
        alone = λ _. with_there to v on.whole;
      })

      here : table place.at ≡ on.whole place.at
      here = with_elsewhere to v on.whole place.at (off to leads)

      grow : (x : ℕ) → waits is_join old place.next x ≡ true → waits is_join new place.next x ≡ true
      grow x is = by_case (waiting is_join old place.next x is)
        where
          by_case : ((is_join x ≡ true) × (is_in old.changed.items x ≡ true)) ⊎ ((is_join x ≡ false) × (x ≡ place.next) × (old.is_carried ≡ true)) → waits is_join new place.next x ≡ true
          by_case (inl (joins, on_flag)) = marked_waits is_join new place.next x joins (ap (λ items. is_in items x) changed ∙ on_flag)
          by_case (inr (alone, same, carried)) = carried_waits is_join new place.next x alone same is_carried

      above_still : (x : ℕ) (s : State) → x ≢ to → HasAbove on.whole x s → HasAbove table x s
      above_still x s other above = record { state = above.state; there = with_elsewhere to v on.whole x other ∙ above.there; below = above.below }

      -- along another edge
      propagated : (f : Placed × Edge) (s : State) → (target_of image f ≡ Some to → ⊥) → IsPropagated image is_join on.whole f s → IsPropagated image is_join table f s
      propagated f s other r = record {
        outcome = r.outcome;
        goes_on = r.goes_on;
        arrives = λ x also. record {
          joined = λ is. above_still x r.outcome (differ_too is_join x to is is_alone) ((r.arrives x also).joined is);
          alone = λ alone. with_elsewhere to v on.whole x (λ same. other (also ∙ ap Some same)) ∙ (r.arrives x also).alone alone;
        };
      }

      same_edge : (f : Placed × Edge) → IsAmong (edges_in on.cuts) f → target_of image f ≡ Some to → ◌≡◌ {A = Placed × Edge} (place, edge) f
      same_edge f among also = on.join.lone.one (place, edge) f to one among is_alone leads also

      still : (f : Placed × Edge) → IsAmong (edges_in on.cuts) f → IsDone image is_join on.whole f → (waits is_join new place.next f.0.at ≡ true) ⊎ IsDone image is_join table f
      still f among done = by_place (cases_eq f.0.at to)
        where
          by_target : (f.0.at ≡ to → ⊥) → (target_of image f ≡ Some to) ⊎ (target_of image f ≡ Some to → ⊥) → IsDone image is_join table f
          by_target off_to (inl also) = now_done table here come f (same_edge f among also)
          by_target off_to (inr other) = λ s there. propagated f s other (done s (sym (with_elsewhere to v on.whole f.0.at off_to) ∙ there))

          by_place : (f.0.at ≡ to) ⊎ (f.0.at ≡ to → ⊥) → (waits is_join new place.next f.0.at ≡ true) ⊎ IsDone image is_join table f
          by_place (inl same) = inl (carried_waits is_join new place.next f.0.at (ap is_join same ∙ is_alone) (same ∙ falls) is_carried)
          by_place (inr off_to) = inr (by_target off_to (leads_there (target_of image f) to))

      -- an edge from elsewhere that was taken before
      was : (f : Placed × Edge) → IsAmong (edges_in on.cuts) f → f.0.at ≢ to → WasTaken image is_join on.whole f → WasTaken image is_join table f
      was f among off_to w = by_target (leads_there (target_of image f) to)
        where
          by_target : (target_of image f ≡ Some to) ⊎ (target_of image f ≡ Some to → ⊥) → WasTaken image is_join table f
          by_target (inl also) = now_taken table here come f (same_edge f among also)
          by_target (inr other) = record { before = w.before; sound = w.sound; above = above_still f.0.at w.before off_to w.above; propagated = propagated f w.before other w.propagated }

      -- an edge of the target, where this one was taken before
      was_next : old.is_again ≡ true → (f : Placed × Edge) → IsAmong (edges_in on.cuts) f → f.0.at ≡ to → WasTaken image is_join table f
      was_next again f among same = by_old (on.way.each f among)
        where
          stood : on.whole f.0.at ≡ Some (taken_before again).propagated.outcome
          stood = ap on.whole same ∙ ((taken_before again).propagated.arrives to leads).alone is_alone

          other : target_of image f ≡ Some to → ⊥
          other also = off to leads (ap (λ (e : Placed × Edge). e.0.at) (same_edge f among also) ∙ same)

          risen : (s : State) → IsBelow s (taken_before again).propagated.outcome → HasAbove table f.0.at s
          risen s below = record { state = v; there = ap table same ∙ with_there to v on.whole; below = is_below-trans s (taken_before again).propagated.outcome v below (rose again) }

          not_left : IsAmong (edges_from place (edge ∷ later)) f → ⊥
          not_left left = off to leads (sym (source f left) ∙ same)

          by_again : IsAmong (edges_from place (edge ∷ later)) f ⊎ WasTaken image is_join on.whole f → WasTaken image is_join table f
          by_again (inl left) = absurd (not_left left)
          by_again (inr w) = record {
            before = w.before;
            sound = w.sound;
            above = risen w.before (subst (IsBelow w.before) (same_Some _ _ (sym w.above.there ∙ stood)) w.above.below);
            propagated = propagated f w.before other w.propagated;
          }

          by_waits : ((is_join f.0.at ≡ true) × (is_in old.changed.items f.0.at ≡ true)) ⊎ ((is_join f.0.at ≡ false) × (f.0.at ≡ place.next) × (old.is_carried ≡ true)) → WasTaken image is_join table f
          by_waits (inl (joins, on_flag)) = absurd (let no : true ≡ false = sym joins ∙ ap is_join same ∙ is_alone in cc)
          by_waits (inr (alone, next, carried)) = by_again (on.way.again f among (carried_repeats is_join old place.next f.0.at alone next carried again))

          by_old : Waits is_join old (edges_from place (edge ∷ later)) place.next f ⊎ IsDone image is_join on.whole f → WasTaken image is_join table f
          by_old (inl (inl left)) = absurd (not_left left)
          by_old (inl (inr is)) = by_waits (waiting is_join old place.next f.0.at is)
          by_old (inr done) = record {
            before = (taken_before again).propagated.outcome;
            sound = on.way.keeps.sound f.0.at (taken_before again).propagated.outcome stood;
            above = risen (taken_before again).propagated.outcome (is_below-self (taken_before again).propagated.outcome);
            propagated = propagated f (taken_before again).propagated.outcome other (done (taken_before again).propagated.outcome stood);
          }

      repeated : (f : Placed × Edge) → IsAmong (edges_in on.cuts) f → repeats is_join new place.next f.0.at ≡ true → IsAmong (edges_from place (edge ∷ later)) f ⊎ WasTaken image is_join table f
      repeated f among is = by_case (repeating is_join new place.next f.0.at is)
        where
          by_old : f.0.at ≢ to → IsAmong (edges_from place (edge ∷ later)) f ⊎ WasTaken image is_join on.whole f → IsAmong (edges_from place (edge ∷ later)) f ⊎ WasTaken image is_join table f
          by_old off_to (inl left) = inl left
          by_old off_to (inr w) = inr (was f among off_to w)

          by_case : ((is_join f.0.at ≡ true) × (is_in new.taken.items f.0.at ≡ true)) ⊎
              ((is_join f.0.at ≡ false) × (f.0.at ≡ place.next) × (new.is_carried ≡ true) × (new.is_again ≡ true)) →
              IsAmong (edges_from place (edge ∷ later)) f ⊎ WasTaken image is_join table f
          by_case (inl (joins, taken)) = by_old (differ_too is_join f.0.at to joins is_alone)
              (on.way.again f among (taken_repeats is_join old place.next f.0.at joins
              (sym (ap (λ items. is_in items f.0.at) rest.taken) ∙ taken)))
          by_case (inr (alone, next, carried, again)) = inr (was_next (sym rest.is_again ∙ again) f among (next ∙ sym falls))

      left_again : new.is_again ≡ true → (f : Placed × Edge) → IsAmong (edges_from place later) f → WasTaken image is_join table f
      left_again is f (i, there) =
          was f (on.among f (suc i, there)) (λ same. off to leads (sym (source f (suc i, there)) ∙ same)) (on.way.left_again (sym rest.is_again ∙ is) f (suc i, there))

      -- the first address joins, so it is another
      not_first : 0 ≢ to
      not_first same =
          let no = or_left _ (is_head image to) _ (on.join.wide to is_alone) in
          absurd (let never : true ≡ false = sym (itself 0) ∙ sym (ap (λ n. Rattle.std.proofs.Common.◌==◌ n 0) (sym same)) ∙ no in cc)

      grown : HasGrown image table
      grown = record { states = λ at t is. at_place at t is (cases_eq at to); begins = above_still 0 _ not_first on.way.keeps.grown.begins }
        where
          at_place : (at : ℕ) (t : State) → table at ≡ Some t → (at ≡ to) ⊎ (at ≡ to → ⊥) → IsPlacedAt image at t
          at_place at t is (inl same) =
              let here : v ≡ t = same_Some _ _ (sym (with_there to v on.whole) ∙ sym (ap table same) ∙ is) in
              subst (λ x. IsPlacedAt image x t) (sym same) (subst (IsPlacedAt image to) here stands_there)
          at_place at t is (inr other) = on.way.keeps.grown.states at t (sym (with_elsewhere to v on.whole at other) ∙ is)

      to_next : Carries {X = Bool} (Ok false) (over image is_join ((place, edge) ∷ []) on.whole) (IsAfterEdge image on.cuts is_join old new place edge later on.whole)
      to_next = (
        with_state to v on.whole,
        over_alone image is_join place edge on.whole old.carried on.here v goes to leads is_alone,
        record {
          way = record {
            keeps = record {
              flags = ap length changed ∙ on.way.keeps.flags ∙ ap length (sym states);
              takes = ap length rest.taken ∙ on.way.keeps.takes ∙ ap length (sym states);
              carried = rw rest.carried fits;
              states = λ at is. with_elsewhere to v on.whole at (differ_too is_join at to is is_alone) ∙ on.way.keeps.states at is ∙ ap (λ items. table_of items at) (sym states);
              grown = grown;
              sound = sound_alone image on.whole to v on.way.keeps.sound sound_v;
            };
            each = each table here come new grow still repeated;
            again = again table here come new grow still repeated;
            left_again = left_again;
          };
          arrives = λ x also. subst (HasArrived is_join table x) (sym rest.carried) (come x also);
          here = here;
          rises = λ x s is above. above_still x s (differ_too is_join x to is is_alone) above;
          stays = λ x _ other. with_elsewhere to v on.whole x (λ same. other (leads ∙ ap Some (sym same)));
          goes = λ _. is_carried;
          rests = λ other. absurd (other (leads ∙ ap Some falls));
        },
      )

    -- ---- what is carried is led on, and comes there

    module _ (led new : Passes) (led_on : IsLedOn to place.next (record old { carried = v }) led) where
      led_states : led.states.items ≡ old.states.items
      led_states = ap (λ (p : Passes). p.states.items) led_on.same

      led_changed : led.changed.items ≡ old.changed.items
      led_changed = ap (λ (p : Passes). p.changed.items) led_on.same

      led_carried : led.carried ≡ v
      led_carried = ap (λ (p : Passes). p.carried) led_on.same

      module _ (r : Result Bool StateFault) (rest : SameButStates led new) where
        moved_so : IsMoved v old new
        moved_so = record {
          carried = rest.carried ∙ led_carried;
          is_again = rest.is_again ∙
              ap (λ (p : Passes). p.is_again) led_on.same;
          taken = rest.taken ∙
              ap (λ (p : Passes). p.taken.items) led_on.same;
        }

        pub arrived : (is_join to ≡ true → Gives r (table_of new.states.items)
            (enter (Some to) led.carried (table_of led.states.items))) →
            (is_join to ≡ true → IfOk r (λ moved. new.changed.items ≡ marked moved to led.changed.items)) →
            (is_join to ≡ false → (r ≡ Ok false) × (new ≡ led)) →
            IfOk r (λ moved. Moves image moved led.states.items new.states.items)
            → Carries r (over image is_join ((place, edge) ∷ []) on.whole) (IsAfterEdge image on.cuts is_join old new place edge later on.whole)
        arrived gives marks alone moves = by_join (is_join to) refl
          where
            by_join : (b : Bool) → is_join to ≡ b → Carries r (over image is_join ((place, edge) ∷ []) on.whole) (IsAfterEdge image on.cuts is_join old new place edge later on.whole)
            by_join true is =
                to_join is new moved_so (λ same. rest.is_carried ∙ led_on.next same) (λ other. rest.is_carried ∙ led_on.elsewhere other) r
                (subst (λ s. Gives r (table_of new.states.items) (enter (Some to) s (table_of old.states.items)))
                led_carried (subst (λ items. Gives r (table_of new.states.items)
                (enter (Some to) led.carried (table_of items))) led_states (gives is)))
                (subst (λ items. IfOk r (λ moved. new.changed.items ≡ marked moved to items)) led_changed (marks is))
                (subst (λ items. IfOk r (λ moved. Moves image moved items new.states.items)) led_states moves)
            by_join false is =
                let stays = alone is in
                subst (λ a. Carries a (over image is_join ((place, edge) ∷ []) on.whole) (IsAfterEdge image on.cuts is_join old new place edge later on.whole)) (sym stays.0)
                (to_next is new (ap (λ (p : Passes). p.states.items) stays.1 ∙ led_states)
                (ap (λ (p : Passes). p.changed.items) stays.1 ∙ led_changed) moved_so
                (λ same. rest.is_carried ∙ led_on.next same))

      -- where a change is reported, fewer are left
      pub moves_led : (r : Result Bool StateFault) → (is_join to ≡ true →
          Gives r (table_of new.states.items) (enter (Some to) led.carried (table_of led.states.items))) →
          (is_join to ≡ true → IfOk r (λ moved. ReportsChange moved led.states.items new.states.items)) →
          (is_join to ≡ false → (r ≡ Ok false) × (new ≡ led))
          → length new.states.items ≡ length led.states.items → IfOk r (λ moved. Moves image moved led.states.items new.states.items)
      moves_led r gives reports alone sized = by_join (is_join to) refl
        where
          by_answer : (r : Result Bool StateFault) → is_join to ≡ true →
              Gives r (table_of new.states.items) (enter (Some to) led.carried (table_of led.states.items)) →
              IfOk r (λ moved. ReportsChange moved led.states.items new.states.items) →
              IfOk r (λ moved. Moves image moved led.states.items new.states.items)
          by_answer (Ok moved) is gives reports =
              enter_moves image moved led.states.items new.states.items to led.carried
              (let le = may.targets edge to leads in let same = ap length led_states in omega (arith, le, same)) sized
              gives reports (subst HasWords (sym led_carried) (sound_words image v sound_v))
              (ap (λ (s : State). length s.cells) led_carried ∙ fits.sized)
              (as_many_words image (table_of led.states.items to) led.carried
              (subst (λ items. IfSome (table_of items to) (IsPlaced image)) (sym led_states)
              (kept_is_placed image is_join old on.whole on.way.keeps to is))
              (subst (IsPlaced image) (sym led_carried) fits))
          by_answer (Err e) is gives reports = tt

          by_join : (b : Bool) → is_join to ≡ b → IfOk r (λ moved. Moves image moved led.states.items new.states.items)
          by_join true is = by_answer r is (gives is) (reports is)
          by_join false is =
              let stays = alone is in
              subst (λ a. IfOk a (λ moved. Moves image moved led.states.items new.states.items)) (sym stays.0)
              (subst (λ (p : Passes). Moves image false led.states.items p.states.items) (sym stays.1)
              (moves_none image led.states.items))

      pub came_led : is_join to ≡ true → led.is_again ≡ true → ArrivedBefore (table_of led.states.items to) led.carried
      came_led is again =
          subst (λ s. ArrivedBefore (table_of led.states.items to) s) (sym led_carried)
          (subst (λ items. ArrivedBefore (table_of items to) v) (sym led_states) (came_before (sym (ap (λ (p : Passes). p.is_again) led_on.same) ∙ again) to leads is))
