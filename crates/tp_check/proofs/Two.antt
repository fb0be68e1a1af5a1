-- The edges of an instruction: one, or two.
use Rattle.std.proofs.Common.{◌≡◌, ◌≢◌, ℕ, zero, suc, ◌<◌, ◌≤◌, ◌⊎◌, inl, inr, Bool, true, false, List, [], ◌∷◌, length, slice_index_or, Some, Result, Ok, Err, refl, sym, ap, ◌∙◌, subst, arith}
use Rattle.std.proofs.lemmas.Option.{same_Some}
use Rattle.tp_decode.specs.declared.placed.Placed.{Placed}
use Rattle.tp_decode.specs.Cutting.{Cut}
use Rattle.tp_flow.specs.declared.edge.Edge.{Edge}
use Rattle.tp_image.specs.Image.{ImageValue}
use Rattle.tp_state.specs.declared.state.State.{State}
use Rattle.tp_state.specs.declared.fault.StateFault.{StateFault}
use Rattle.tp_state.specs.declared.fault.StateFault.TheVariants.{Refused, Memory}
use Rattle.tp_state.specs.Answer.{◌>>=◌}
use Rattle.tp_state.specs.Conditions.{IsPlaced}
use Rattle.tp_check.specs.declared.passes.Passes.{Passes}
use Rattle.tp_check.specs.Tables.{Table, asked}
use Rattle.tp_check.specs.Passes.{edges_from, edges_of, edges_in}
use Rattle.tp_check.specs.Carried.{target_of, over, IsAmong}
use Rattle.tp_check.specs.UnderWay.{HasArrived, IsUnderWay, IsBefore, AreLeft, IsApart}
use Rattle.tp_check.specs.Steps.{IsAfterEdge, Carries}
use Rattle.tp_check.proofs.Again.{asked_apart}
use Rattle.tp_check.proofs.HandedOn.{then_more}
use Rattle.tp_check.proofs.Turning.{over_one}
use Rattle.tp_check.proofs.Waiting.{leads_there}

-- ---- one edge after the other

-- whatever is carried
pub way_with : (image : ImageValue) (cuts : List Cut) (is_join : ℕ → Bool) (p : Passes) (left : List (Placed × Edge))
    (ahead : ℕ) (whole : Table) (x : State) → IsPlaced image x → IsUnderWay image cuts is_join p left ahead whole →
    IsUnderWay image cuts is_join (record p { carried = x }) left ahead whole
way_with image cuts is_join p left ahead whole x fits way = record {
  keeps = record { flags = way.keeps.flags; takes = way.keeps.takes; carried = fits; states = way.keeps.states; grown = way.keeps.grown; sound = way.keeps.sound };
  each = way.each;
  again = way.again;
  left_again = way.left_again;
}

-- an edge that leads to the next instruction was taken last, or it was not
came_on : (image : ImageValue) (cuts : List Cut) (is_join : ℕ → Bool) (old new : Passes) (place : Placed) (edge : Edge)
    (later : List Edge) (whole table : Table) → IsAfterEdge image cuts is_join old new place edge later whole table →
    old.is_carried ≡ false → new.is_carried ≡ true
    → target_of image (place, edge) ≡ Some place.next
came_on image cuts is_join old new place edge later whole table it rests sure = by_target (leads_there (target_of image (place, edge)) place.next)
  where
    by_target : (target_of image (place, edge) ≡ Some place.next) ⊎ (target_of image (place, edge) ≡ Some place.next → ⊥) → target_of image (place, edge) ≡ Some place.next
    by_target (inl leads) = leads
    by_target (inr other) = absurd (let no : false ≡ true = sym rests ∙ sym (it.rests other) ∙ sure in cc)

pub none_apart : (edge : Edge) → IsApart edge []
none_apart edge place (i, is) = cc

-- the edges that are left are those that an instruction has
abbrev pub left_as : (image : ImageValue) (is_join : ℕ → Bool) (p : Passes) (place : Placed) (asks left : List Edge) →
    asks ≡ left → AreLeft image is_join p place asks → AreLeft image is_join p place left
left_as image is_join p place asks left same way = record {
  cuts = way.cuts;
  join = way.join;
  among = subst (λ ways. (e : Placed × Edge) → IsAmong (edges_from place ways) e → IsAmong (edges_in way.cuts) e) same way.among;
  whole = way.whole;
  way = subst (λ ways. IsUnderWay image way.cuts is_join p (edges_from place ways) place.next way.whole) same way.way;
  here = way.here;
}

-- ---- an instruction of one edge

pub one_of : (ways : List Edge) (d : Edge) → 1 ≤ length ways → length ways < 2 → ways ≡ slice_index_or ways 0 d ∷ []
one_of [] d some few = absurd (omega (arith, some))
one_of (e ∷ []) d some few = refl
one_of (e ∷ f ∷ ways) d some few = absurd (omega (arith, few))

module _ (image : ImageValue) (is_join : ℕ → Bool) (p : Passes) (place : Placed) (edge : Edge) (alone : asked place.instr ≡ edge ∷ []) (way : AreLeft image is_join p place (asked place.instr)) where
  abbrev pub on_one : AreLeft image is_join p place (edge ∷ [])
  on_one = left_as image is_join p place (asked place.instr) (edge ∷ []) alone way

  over_it : over image is_join (edges_of place) way.whole ≡ over image is_join ((place, edge) ∷ []) way.whole
  over_it = ap (λ ways. over image is_join (edges_from place ways) way.whole) alone

  pub one_done : p.is_carried ≡ false → (new : Passes) (r : Result Bool StateFault) →
      Carries r (over image is_join ((place, edge) ∷ []) way.whole)
      (IsAfterEdge image way.cuts is_join p new place edge [] way.whole)
      → Carries r (over image is_join (edges_of place) way.whole) (IsBefore image way.cuts is_join new place.next)
  one_done rests new (Err (Refused code at)) gives = over_it ∙ gives
  one_done rests new (Err Memory) gives = tt
  one_done rests new (Ok moved) (table, is, it) = (
    table,
    over_it ∙ is,
    record {
      way = it.way;
      here = λ sure. it.arrives place.next
          (came_on image way.cuts is_join p new place edge [] way.whole table it rests sure);
    },
  )

-- ---- an instruction of two

module _ (image : ImageValue) (is_join : ℕ → Bool) (p : Passes) (place : Placed) (first last : Edge)
    (two : asked place.instr ≡ first ∷ last ∷ []) (way : AreLeft image is_join p place (asked place.instr)) where
  unlike : first ≢ last
  unlike same = asked_apart place.instr 0 1 first last (subst (λ ways. 0 < length ways) (sym two) (omega arith))
      (subst (λ ways. 1 < length ways) (sym two) (omega arith)) (λ e. cc)
      (ap (λ ways. slice_index_or ways 0 first) two ∙ same ∙ sym (ap (λ ways. slice_index_or ways 1 last) two))

  pub first_apart : IsApart first (last ∷ [])
  first_apart q (zero, is) = unlike (sym (ap (λ (e : Placed × Edge). e.1) (same_Some (q, last) (q, first) is)))
  first_apart q (suc i, is) = cc

  abbrev pub on_first : AreLeft image is_join p place (first ∷ last ∷ [])
  on_first = left_as image is_join p place (asked place.instr) (first ∷ last ∷ []) two way

  over_two : over image is_join (edges_of place) way.whole ≡ (over image is_join ((place, first) ∷ []) way.whole >>= over image is_join ((place, last) ∷ []))
  over_two = ap (λ ways. over image is_join (edges_from place ways) way.whole) two ∙ over_one image is_join (place, first) ((place, last) ∷ []) way.whole

  pub first_refuses : (e : StateFault) (P Q : Table → Type 0) →
      Carries {X = Bool} (Err e) (over image is_join ((place, first) ∷ []) way.whole) P →
      Carries {X = Bool} (Err e) (over image is_join (edges_of place) way.whole) Q
  first_refuses e P Q refuses = then_more e _ (over image is_join ((place, first) ∷ []) way.whole) (over image is_join ((place, last) ∷ [])) P Q over_two refuses

  -- ---- after the first edge: what was carried before is carried again

  module _ (fallen : Passes) (middle : Table) (goes : over image is_join ((place, first) ∷ []) way.whole ≡ Ok middle)
      (it : IsAfterEdge image way.cuts is_join p fallen place first (last ∷ []) way.whole middle) (back : Passes)
      (is_back : back ≡ record fallen { carried = p.carried }) where
    abbrev pub on_last : AreLeft image is_join back place (last ∷ [])
    on_last = record {
      cuts = way.cuts;
      join = way.join;
      among = λ e (i, is). on_first.among e (suc i, is);
      whole = middle;
      way = subst (λ q. IsUnderWay image way.cuts is_join q (edges_from place (last ∷ [])) place.next middle)
          (sym is_back) (way_with image way.cuts is_join fallen (edges_from place (last ∷ [])) place.next middle p.carried
          way.way.keeps.carried it.way);
      here = it.here ∙ way.here ∙ ap Some (sym (ap (λ (q : Passes). q.carried) is_back));
    }

    over_last : over image is_join (edges_of place) way.whole ≡ over image is_join ((place, last) ∷ []) middle
    over_last = over_two ∙ ap (λ r. r >>= over image is_join ((place, last) ∷ [])) goes

    pub last_refuses : (e : StateFault) (P Q : Table → Type 0) →
        Carries {X = Bool} (Err e) (over image is_join ((place, last) ∷ []) middle) P →
        Carries {X = Bool} (Err e) (over image is_join (edges_of place) way.whole) Q
    last_refuses (Refused code at) P Q refuses = over_last ∙ refuses
    last_refuses Memory P Q refuses = tt

    -- ---- after both

    module _ (jumped : Passes) (moved : Bool) (taken : Carries (Ok moved) (over image is_join ((place, last) ∷ []) middle) (IsAfterEdge image way.cuts is_join back jumped place last [] middle)) where
      -- the second edge alone leads to the next instruction, or none
      pub last_done : (any : Bool) → fallen.is_carried ≡ false → Carries (Ok any) (over image is_join (edges_of place) way.whole) (IsBefore image way.cuts is_join jumped place.next)
      last_done any rests = (
        taken.0,
        over_last ∙ taken.1,
        record {
          way = taken.2.way;
          here = λ sure. taken.2.arrives place.next (came_on image way.cuts is_join back jumped place last [] middle taken.0 taken.2 (ap (λ (q : Passes). q.is_carried) is_back ∙ rests) sure);
        },
      )

      -- the first one leads there
      module _ (rests : p.is_carried ≡ false) (on : fallen.is_carried ≡ true) (new : Passes) (is_new : new ≡ record jumped { carried = fallen.carried }) where
        leads : target_of image (place, first) ≡ Some place.next
        leads = came_on image way.cuts is_join p fallen place first (last ∷ []) way.whole middle it rests on

        still_there : HasArrived is_join taken.0 place.next fallen.carried
        still_there = let came = it.arrives place.next leads in record {
          joined = λ is. taken.2.rises place.next fallen.carried is (came.joined is);
          alone = λ alone. taken.2.stays place.next alone (λ also. unlike
              (ap (λ (e : Placed × Edge). e.1) (way.join.lone.one (place, first) (place, last) place.next
              (on_first.among (place, first) (0, refl)) (on_first.among (place, last) (1, refl)) alone leads also))) ∙
              came.alone alone;
        }

        pub first_done : (any : Bool) → Carries (Ok any) (over image is_join (edges_of place) way.whole) (IsBefore image way.cuts is_join new place.next)
        first_done any = (
          taken.0,
          over_last ∙ taken.1,
          subst (λ q. IsBefore image way.cuts is_join q place.next taken.0) (sym is_new) (record {
            way = way_with image way.cuts is_join jumped [] place.next taken.0 fallen.carried it.way.keeps.carried taken.2.way;
            here = λ _. still_there;
          }),
        )
