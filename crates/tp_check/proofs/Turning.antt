-- An instruction's turn in a pass begins, or it is passed by.
use Rattle.std.proofs.Common.{◌≡◌, ◌≢◌, ℕ, suc, ◌<◌, ◌⊎◌, inl, inr, Bool, true, false, List, [], ◌∷◌, length, Option}
use Rattle.std.proofs.Common.{Some, None, Result, Ok, Err, refl, sym, ap, ◌∙◌, subst, rules, length-set}
use Rattle.std.proofs.Common.{get_or-set_other}
use Rattle.std.specs.Prelude.{IfSome}
use Rattle.std.proofs.lemmas.Bool.{cases_eq}
use Rattle.tp_decode.specs.declared.placed.Placed.{Placed}
use Rattle.tp_decode.specs.Cutting.{Cut}
use Rattle.tp_flow.specs.declared.edge.Edge.{Edge}
use Rattle.tp_image.specs.Image.{ImageValue}
use Rattle.tp_state.specs.declared.state.State.{State}
use Rattle.tp_state.specs.declared.fault.StateFault.{StateFault}
use Rattle.tp_state.specs.Answer.{◌>>=◌}
use Rattle.tp_state.specs.Conditions.{IsPlaced}
use Rattle.tp_state.specs.Order.{IsBelow}
use Rattle.tp_check.specs.declared.passes.Passes.{Passes}
use Rattle.tp_check.specs.Tables.{Table, table_of, asked}
use Rattle.tp_check.specs.Passes.{edges_of, edges_in}
use Rattle.tp_check.specs.Carried.{target_of, over, go_over, IsAmong}
use Rattle.tp_check.specs.UnderWay.{is_in, AreJoins, AreLeft, IsDone, IsPropagated, WasTaken, waits, repeats, Waits, KeepsWhole, IsUnderWay, IsBefore, IsInCode}
use Rattle.tp_check.specs.Steps.{Carries, IsStarted}
use Rattle.tp_check.proofs.Entering.{enters_below, same_there}
use Rattle.tp_check.proofs.Nests.{ways_at}
use Rattle.tp_check.proofs.Settling.{over_none, over_nowhere, over_joined, over_alone}
use Rattle.tp_check.proofs.Waiting.{waiting, marked_waits, repeating, taken_repeats, carried_repeats}

-- ---- edges that change nothing

pub over_one : (image : ImageValue) (is_join : ℕ → Bool) (e : Placed × Edge) (more : List (Placed × Edge))
    (table : Table) → over image is_join (e ∷ more) table ≡
    (over image is_join (e ∷ []) table >>= over image is_join more)
over_one image is_join e more table = in_turn (go_over image is_join e (table e.0.at) table)
  where
    in_turn : (r : Result Table StateFault) → (r >>= over image is_join more) ≡ ((r >>= over image is_join []) >>= over image is_join more)
    in_turn (Ok t) = refl
    in_turn (Err f) = refl

module _ (image : ImageValue) (is_join : ℕ → Bool) (table : Table) where
  -- an edge that is done changes nothing
  pub edge_stays : (p : Placed) (edge : Edge) → IsDone image is_join table (p, edge) → over image is_join ((p, edge) ∷ []) table ≡ Ok table
  edge_stays p edge done = by_state (table p.at) refl
    where
      by_join : (s : State) (here : table p.at ≡ Some s) (r : IsPropagated image is_join table (p, edge) s) (to : ℕ) →
          target_of image (p, edge) ≡ Some to → (b : Bool) → is_join to ≡ b →
          over image is_join ((p, edge) ∷ []) table ≡ Ok table
      by_join s here r to leads true e = over_joined image is_join p edge table s here r.outcome r.goes_on to leads e ∙ enters_below table to r.outcome ((r.arrives to leads).joined e)
      by_join s here r to leads false e = over_alone image is_join p edge table s here r.outcome r.goes_on to leads e ∙ ap Ok (same_there table to r.outcome ((r.arrives to leads).alone e))

      by_target : (s : State) (here : table p.at ≡ Some s) (r : IsPropagated image is_join table (p, edge) s)
          (o : Option ℕ) → target_of image (p, edge) ≡ o → over image is_join ((p, edge) ∷ []) table ≡ Ok table
      by_target s here r None leads = over_nowhere image is_join p edge table s here r.outcome r.goes_on leads
      by_target s here r (Some to) leads = by_join s here r to leads (is_join to) refl

      by_state : (o : Option State) → table p.at ≡ o → over image is_join ((p, edge) ∷ []) table ≡ Ok table
      by_state None e = over_none image is_join p edge table e
      by_state (Some s) e = by_target s e (done s e) (target_of image (p, edge)) refl

  pub edges_stay : (es : List (Placed × Edge)) → ((e : Placed × Edge) → IsAmong es e → IsDone image is_join table e) → over image is_join es table ≡ Ok table
  edges_stay [] done = refl
  edges_stay (e ∷ es) done =
      over_one image is_join e es table ∙ ap (λ r. r >>= over image is_join es) (edge_stays e.0 e.1 (done e (0, refl))) ∙ edges_stay es (λ f among. done f (suc among.0, among.1))

-- ---- the turn begins

-- before an instruction whose state, if it is to be taken, is carried now
pub record IsReady (image : ImageValue) (is_join : ℕ → Bool) (old mid : Passes) (at : ℕ) (whole : Table) : Type 0 where
  pub keeps : KeepsWhole image is_join mid whole
  pub here : mid.is_carried ≡ true → whole at ≡ Some mid.carried
  pub marks : (x : ℕ) → x ≢ at → is_in mid.changed.items x ≡ is_in old.changed.items x
  pub takes : (x : ℕ) → x ≢ at → is_in mid.taken.items x ≡ is_in old.taken.items x
  pub again : mid.is_carried ≡ true → mid.is_again ≡ true → repeats is_join old at at ≡ true
  pub quiet : mid.is_carried ≡ false → waits is_join old at at ≡ true → whole at ≡ None
  pub rests : mid.is_carried ≡ false → mid.taken.items ≡ old.taken.items

module _ (image : ImageValue) (cuts : List Cut) (is_join : ℕ → Bool) (old mid : Passes) (at : ℕ) (whole : Table)
    (before : IsBefore image cuts is_join old at whole) (inside : at < length old.states.items) where
  ready_joined : is_join at ≡ true → IsStarted at old mid → IsReady image is_join old mid at whole
  ready_joined is st = record {
    keeps = record {
      flags = ap length st.changed ∙ length-set old.changed.items at false ∙ before.way.keeps.flags ∙ ap length (sym st.states);
      takes = long mid.is_carried refl ∙ before.way.keeps.takes ∙ ap length (sym st.states);
      carried = by_flag mid.is_carried refl;
      states = λ x sure. before.way.keeps.states x sure ∙ ap (λ items. table_of items x) (sym st.states);
      grown = before.way.keeps.grown;
      sound = before.way.keeps.sound;
    };
    here = here;
    marks = λ x other. ap (λ items. is_in items x) st.changed ∙ get_or-set_other old.changed.items at x false false other;
    takes = λ x other. was_taken x other mid.is_carried refl;
    again = λ on sure. taken_repeats is_join old at at is (sym (st.again on) ∙ sure);
    quiet = λ rests on. by_reason on (st.no rests).1;
    rests = st.rests;
  }
    where
      long : (b : Bool) → mid.is_carried ≡ b → length mid.taken.items ≡ length old.taken.items
      long true e = ap length (st.takes e) ∙ length-set old.taken.items at true
      long false e = ap length (st.rests e)

      was_taken : (x : ℕ) → x ≢ at → (b : Bool) → mid.is_carried ≡ b → is_in mid.taken.items x ≡ is_in old.taken.items x
      was_taken x other true e = ap (λ items. is_in items x) (st.takes e) ∙ get_or-set_other old.taken.items at x true false other
      was_taken x other false e = ap (λ items. is_in items x) (st.rests e)

      here : mid.is_carried ≡ true → whole at ≡ Some mid.carried
      here on = before.way.keeps.states at is ∙ st.yes on

      by_flag : (b : Bool) → mid.is_carried ≡ b → IsPlaced image mid.carried
      by_flag true e = (before.way.keeps.grown.states at mid.carried (here e)).placed
      by_flag false e = rw (st.no e).0 before.way.keeps.carried

      by_waits : is_in old.changed.items at ≡ false → ((is_join at ≡ true) × (is_in old.changed.items at ≡ true)) ⊎ ((is_join at ≡ false) × (at ≡ at) × (old.is_carried ≡ true)) → whole at ≡ None
      by_waits off (inl (joins, on)) = absurd (let no : true ≡ false = sym on ∙ off in cc)
      by_waits off (inr (alone, same, on)) = absurd (let no : true ≡ false = sym is ∙ alone in cc)

      by_reason : waits is_join old at at ≡ true → (is_in old.changed.items at ≡ false) ⊎ (table_of old.states.items at ≡ None) → whole at ≡ None
      by_reason on (inl off) = by_waits off (waiting is_join old at at on)
      by_reason on (inr none) = before.way.keeps.states at is ∙ none

  ready_alone : is_join at ≡ false → IsReady image is_join old old at whole
  ready_alone alone = record {
    keeps = before.way.keeps;
    here = λ sure. (before.here sure).alone alone;
    marks = λ x _. refl;
    takes = λ x _. refl;
    again = λ on sure. carried_repeats is_join old at at alone refl on sure;
    quiet = λ rests on. by_waits rests (waiting is_join old at at on);
    rests = λ _. refl;
  }
    where
      by_waits : old.is_carried ≡ false → ((is_join at ≡ true) × (is_in old.changed.items at ≡ true)) ⊎ ((is_join at ≡ false) × (at ≡ at) × (old.is_carried ≡ true)) → whole at ≡ None
      by_waits rests (inl (joins, on)) = absurd (let no : true ≡ false = sym joins ∙ alone in cc)
      by_waits rests (inr (also, same, on)) = absurd (let no : true ≡ false = sym on ∙ rests in cc)

  pub ready : (is_join at ≡ true → IsStarted at old mid) → (is_join at ≡ false → mid ≡ old) → IsReady image is_join old mid at whole
  ready started other = by_join (is_join at) refl
    where
      by_join : (b : Bool) → is_join at ≡ b → IsReady image is_join old mid at whole
      by_join true e = ready_joined e (started e)
      by_join false e = subst (λ p. IsReady image is_join old p at whole) (sym (other e)) (ready_alone e)

-- a state that is carried to where edges join is below the one that is kept there
pub rises_to : (image : ImageValue) (cuts : List Cut) (is_join : ℕ → Bool) (p : Passes) (at : ℕ) (whole : Table) →
    IsBefore image cuts is_join p at whole → is_join at ≡ true → p.is_carried ≡ true →
    IfSome (table_of p.states.items at) (IsBelow p.carried)
rises_to image cuts is_join p at whole before is on =
    let above = (before.here on).joined is in
    subst (λ o. IfSome o (IsBelow p.carried)) (sym above.there ∙ before.way.keeps.states at is) above.below

-- a state that is kept has as many words as the one that is carried
pub as_long : (image : ImageValue) (is_join : ℕ → Bool) (p : Passes) (whole : Table) →
    KeepsWhole image is_join p whole → (at : ℕ) → is_join at ≡ true →
    IfSome (table_of p.states.items at) (λ s. length s.cells ≡ length p.carried.cells)
as_long image is_join p whole keeps at is = by_state (table_of p.states.items at) refl
  where
    by_state : (o : Option State) → table_of p.states.items at ≡ o → IfSome o (λ s. length s.cells ≡ length p.carried.cells)
    by_state None e = search rules
    by_state (Some s) e = (keeps.grown.states at s (keeps.states at is ∙ e)).placed.sized ∙ sym keeps.carried.sized

module _ (image : ImageValue) (cuts : List Cut) (is_join : ℕ → Bool) (old mid : Passes) (place : Placed)
    (stands : IsInCode cuts place) (whole : Table) (before : IsBefore image cuts is_join old place.at whole)
    (now : IsReady image is_join old mid place.at whole) where
  source : (e : Placed × Edge) → IsAmong (edges_of place) e → e.0.at ≡ place.at
  source e among = ap (λ (p : Placed). p.at) (ways_at place (asked place.instr) e among)

  none_left : (e : Placed × Edge) → IsAmong [] e → ⊥
  none_left e (i, is) = cc

  was : (e : Placed × Edge) → IsAmong (edges_in cuts) e → repeats is_join old place.at e.0.at ≡ true → WasTaken image is_join whole e
  was e among is = by_old (before.way.again e among is)
    where
      by_old : IsAmong [] e ⊎ WasTaken image is_join whole e → WasTaken image is_join whole e
      by_old (inl left) = absurd (none_left e left)
      by_old (inr taken) = taken

  -- ---- nothing is carried

  module _ (rests : mid.is_carried ≡ false) where
    -- an edge still waits, at another address, or is done
    still : (e : Placed × Edge) → IsAmong (edges_in cuts) e → ((e.0.at ≢ place.at) × (is_join e.0.at ≡ true) × (is_in mid.changed.items e.0.at ≡ true)) ⊎ IsDone image is_join whole e
    still e among = by_old (before.way.each e among)
      where
        nothing : e.0.at ≡ place.at → waits is_join old place.at e.0.at ≡ true → IsDone image is_join whole e
        nothing same on s there =
            let none : whole e.0.at ≡ None = ap whole same ∙ now.quiet rests (sym (ap (waits is_join old place.at) same) ∙ on) in
            absurd (let no : None ≡ Some s = sym none ∙ there in cc)

        by_case : e.0.at ≢ place.at → ((is_join e.0.at ≡ true) × (is_in old.changed.items e.0.at ≡ true)) ⊎ ((is_join e.0.at ≡ false) × (e.0.at ≡ place.at) × (old.is_carried ≡ true))
            → ((e.0.at ≢ place.at) × (is_join e.0.at ≡ true) × (is_in mid.changed.items e.0.at ≡ true)) ⊎ IsDone image is_join whole e
        by_case other (inl (joins, on)) = inl (other, joins, now.marks e.0.at other ∙ on)
        by_case other (inr (alone, same, on)) = absurd (other same)

        by_place : waits is_join old place.at e.0.at ≡ true → (e.0.at ≡ place.at) ⊎ (e.0.at ≡ place.at → ⊥) →
            ((e.0.at ≢ place.at) × (is_join e.0.at ≡ true) × (is_in mid.changed.items e.0.at ≡ true)) ⊎ IsDone image
            is_join whole e
        by_place on (inl same) = inr (nothing same on)
        by_place on (inr other) = by_case other (waiting is_join old place.at e.0.at on)

        by_old : Waits is_join old [] place.at e ⊎ IsDone image is_join whole e →
            ((e.0.at ≢ place.at) × (is_join e.0.at ≡ true) × (is_in mid.changed.items e.0.at ≡ true)) ⊎ IsDone image
            is_join whole e
        by_old (inl (inl left)) = absurd (none_left e left)
        by_old (inl (inr on)) = by_place on (cases_eq e.0.at place.at)
        by_old (inr done) = inr done

    own_done : (e : Placed × Edge) → IsAmong (edges_of place) e → e.0.at ≡ place.at → IsDone image is_join whole e
    own_done e among same = by_case (still e (stands.all e among))
      where
        by_case : ((e.0.at ≢ place.at) × (is_join e.0.at ≡ true) × (is_in mid.changed.items e.0.at ≡ true)) ⊎ IsDone image is_join whole e → IsDone image is_join whole e
        by_case (inl (other, joins, on)) = absurd (other same)
        by_case (inr done) = done

    pub passed_by : Carries {X = Bool} (Ok false) (over image is_join (edges_of place) whole) (IsBefore image cuts is_join mid place.next)
    passed_by = (
      whole,
      edges_stay image is_join whole (edges_of place) (λ e among. own_done e among (source e among)),
      record {
        way = record {
          keeps = now.keeps;
          each = λ e among. each e (still e among);
          again = λ e among is. inr (was e among (by_case e (repeating is_join mid place.next e.0.at is)));
          left_again = λ _ e left. absurd (none_left e left);
        };
        here = λ sure. absurd (let no : false ≡ true = sym rests ∙ sure in cc);
      },
    )
      where
        each : (e : Placed × Edge) → ((e.0.at ≢ place.at) × (is_join e.0.at ≡ true) ×
            (is_in mid.changed.items e.0.at ≡ true)) ⊎ IsDone image is_join whole e →
            Waits is_join mid [] place.next e ⊎ IsDone image is_join whole e
        each e (inl (other, joins, on)) = inl (inr (marked_waits is_join mid place.next e.0.at joins on))
        each e (inr done) = inr done

        by_case : (e : Placed × Edge) → ((is_join e.0.at ≡ true) × (is_in mid.taken.items e.0.at ≡ true)) ⊎
            ((is_join e.0.at ≡ false) × (e.0.at ≡ place.next) × (mid.is_carried ≡ true) × (mid.is_again ≡ true)) →
            repeats is_join old place.at e.0.at ≡ true
        by_case e (inl (joins, taken)) = taken_repeats is_join old place.at e.0.at joins (sym (ap (λ items. is_in items e.0.at) (now.rests rests)) ∙ taken)
        by_case e (inr (alone, same, on, again)) = absurd (let no : true ≡ false = sym on ∙ rests in cc)

  -- ---- a state is carried

  module _ (new : Passes) (states : new.states.items ≡ mid.states.items)
      (changed : new.changed.items ≡ mid.changed.items) (carried : new.carried ≡ mid.carried)
      (takes : new.taken.items ≡ mid.taken.items) (is_again : new.is_again ≡ mid.is_again)
      (rests : new.is_carried ≡ false) (on : mid.is_carried ≡ true) where
    pub begun : IsUnderWay image cuts is_join new (edges_of place) place.next whole
    begun = record {
      keeps = record {
        flags = ap length changed ∙ now.keeps.flags ∙ ap length (sym states);
        takes = ap length takes ∙ now.keeps.takes ∙ ap length (sym states);
        carried = rw carried now.keeps.carried;
        states = λ x is. now.keeps.states x is ∙ ap (λ items. table_of items x) (sym states);
        grown = now.keeps.grown;
        sound = now.keeps.sound;
      };
      each = λ e among. by_old e among (before.way.each e among);
      again = λ e among is. by_repeat e among (cases_eq e.0.at place.at) (repeating is_join new place.next e.0.at is);
      left_again = λ sure e among. was e (stands.all e among) (ap (repeats is_join old place.at) (source e among) ∙ now.again on (sym is_again ∙ sure));
    }
      where
        by_case : (e : Placed × Edge) → IsAmong (edges_in cuts) e → e.0.at ≢ place.at →
            ((is_join e.0.at ≡ true) × (is_in old.changed.items e.0.at ≡ true)) ⊎
            ((is_join e.0.at ≡ false) × (e.0.at ≡ place.at) × (old.is_carried ≡ true)) →
            Waits is_join new (edges_of place) place.next e
        by_case e among other (inl (joins, on_flag)) = inr (marked_waits is_join new place.next e.0.at joins (ap (λ items. is_in items e.0.at) changed ∙ now.marks e.0.at other ∙ on_flag))
        by_case e among other (inr (alone, same, carried)) = absurd (other same)

        by_place : (e : Placed × Edge) → IsAmong (edges_in cuts) e → waits is_join old place.at e.0.at ≡ true →
            (e.0.at ≡ place.at) ⊎ (e.0.at ≡ place.at → ⊥) → Waits is_join new (edges_of place) place.next e
        by_place e among is (inl same) = inl (stands.only e among same)
        by_place e among is (inr other) = by_case e among other (waiting is_join old place.at e.0.at is)

        by_old : (e : Placed × Edge) → IsAmong (edges_in cuts) e →
            Waits is_join old [] place.at e ⊎ IsDone image is_join whole e →
            Waits is_join new (edges_of place) place.next e ⊎ IsDone image is_join whole e
        by_old e among (inl (inl left)) = absurd (none_left e left)
        by_old e among (inl (inr is)) = inl (by_place e among is (cases_eq e.0.at place.at))
        by_old e among (inr done) = inr done

        by_repeat : (e : Placed × Edge) → IsAmong (edges_in cuts) e → (e.0.at ≡ place.at) ⊎ (e.0.at ≡ place.at → ⊥)
            → ((is_join e.0.at ≡ true) × (is_in new.taken.items e.0.at ≡ true)) ⊎
            ((is_join e.0.at ≡ false) × (e.0.at ≡ place.next) × (new.is_carried ≡ true) × (new.is_again ≡ true)) →
            IsAmong (edges_of place) e ⊎ WasTaken image is_join whole e
        by_repeat e among (inl same) is = inl (stands.only e among same)
        by_repeat e among (inr other) (inl (joins, taken)) =
            inr (was e among (taken_repeats is_join old place.at e.0.at joins
            (sym (now.takes e.0.at other) ∙ sym (ap (λ items. is_in items e.0.at) takes) ∙ taken)))
        by_repeat e among (inr other) (inr (alone, same, sure, again)) = absurd (let no : true ≡ false = sym sure ∙ rests in cc)

    abbrev pub begins : AreJoins image cuts is_join → AreLeft image is_join new place (asked place.instr)
    begins join = record { cuts = cuts; join = join; among = stands.all; whole = whole; way = begun; here = now.here on ∙ ap Some (sym carried) }
