-- One pass, instruction by instruction, and one after another.
use Rattle.std.proofs.Common.{◌≡◌, ℕ, zero, suc, ◌+◌, ◌<◌, ◌≤◌, ◌^◌, ◌⊎◌, inl, inr, ◌==◌, nat_le, if◌then◌else◌, Bool}
use Rattle.std.proofs.Common.{true, false, List, [], ◌∷◌, ◌++◌, length, slice_get, Option, Some, None, Result, Ok, Err}
use Rattle.std.proofs.Common.{refl, sym, ap, ◌∙◌, subst, rules, arith, drop, add-one, drop-cons}
use mathlib.Core.Path.{fun_ext}
use Rattle.std.specs.Prelude.{IfErr, IsErrAnd}
use Rattle.std.specs.List.{flat_map, AllByRecursion}
use Rattle.std.specs.Option.{is_some}
use Rattle.std.proofs.lemmas.Bool.{cases_eq}
use Rattle.std.proofs.lemmas.Bool.Decides.{nat_tests}
use Rattle.std.proofs.lemmas.Option.{same_Some, slice_get_within, get_or_from_slice_get}
use Rattle.std.proofs.lemmas.List.{drop_all}
use Rattle.std.proofs.lemmas.List.Concat.{flat_map-cons}
use Rattle.tp_decode.specs.declared.placed.Placed.{Placed}
use Rattle.tp_decode.specs.Cutting.{Cut, cut_at, placed_from, IsSpelled}
use Rattle.tp_decode.proofs.NumberLemmas.{placed, length-placed}
use Rattle.tp_flow.specs.declared.edge.Edge.{Edge}
use Rattle.tp_flow.specs.NestKept.{KeepsNest}
use Rattle.tp_flow.proofs.FlowSpelled.{some_bytes}
use Rattle.tp_image.specs.Image.{ImageValue, InRange}
use Rattle.tp_state.specs.declared.state.State.{State}
use Rattle.tp_state.specs.declared.fault.StateFault.{StateFault}
use Rattle.tp_state.specs.declared.fault.StateFault.TheVariants.{Refused, Memory}
use Rattle.tp_state.specs.Answer.{◌>>=◌}
use Rattle.tp_state.specs.Conditions.{IsPlaced}
use Rattle.tp_state.specs.Entry.{entry}
use Rattle.tp_state.specs.Sound.{IsSound}
use Rattle.tp_check.specs.declared.passes.Passes.{Passes}
use Rattle.tp_check.specs.Tables.{Table, table_of, asked}
use Rattle.tp_check.specs.Passes.{edges_of, edges_in, first_table, pass, passes, IsVerdict, IsRefusalOf}
use Rattle.tp_check.specs.Carried.{IsAmong, over, only_joins, is_kept, is_head, reached, AreStatesOf, IsTableOf}
use Rattle.tp_check.specs.StatesThere.{AreStatesThere}
use Rattle.tp_check.specs.UnderWay.{is_in, AreJoins, IsDone, waits, repeats, Waits, IsBefore, IsInCode}
use Rattle.tp_check.specs.Steps.{Carries, IsAfter, Leaves, IsSettled}
use Rattle.tp_check.specs.Rising.{table_height}
use Rattle.tp_check.specs.Arrivals.{HasPlaces}
use Rattle.tp_check.proofs.Places.{stands_at}
use Rattle.tp_check.proofs.Entering.{first_grown}
use Rattle.tp_check.proofs.Nests.{or_left}
use Rattle.tp_check.proofs.CarriedPasses.{good_after, one_pass}
use Rattle.tp_check.proofs.Trails.{edge_by_edge}
use Rattle.tp_check.proofs.Nests.{IsOne, lone, are_states, among_placed, among_either, ways_at}
use Rattle.tp_check.proofs.Lone.{IsStateAt}
use Rattle.tp_check.proofs.Counting.{among_of}
use Rattle.tp_check.proofs.Turning.{edges_stay}
use Rattle.tp_check.proofs.Waiting.{waiting, marked_waits, repeating, taken_repeats}
use Rattle.tp_check.proofs.HandedOn.{then_more}
use Rattle.tp_check.proofs.Respected.{stands_there}
use Rattle.tp_rule_laws.proofs.SoundJoins.{entry_sound}

-- ---- instructions in their order

-- an edge of some instructions is one of those of its own
own_among : (ps : List Placed) (e : Placed × Edge) → IsAmong (flat_map edges_of ps) e → IsAmong (edges_of e.0) e
own_among [] e (i, is) = absurd cc
own_among (p ∷ ps) e among = by_way (own_among ps e) (among_either (edges_of p) (flat_map edges_of ps) e (subst (λ es. IsAmong es e) (flat_map-cons edges_of p ps) among))
  where
    by_way : (IsAmong (flat_map edges_of ps) e → IsAmong (edges_of e.0) e) → IsAmong (edges_of p) e ⊎ IsAmong (flat_map edges_of ps) e → IsAmong (edges_of e.0) e
    by_way go (inl here) = subst (λ q. IsAmong (edges_of q) e) (sym (ways_at p (asked p.instr) e here)) here
    by_way go (inr later) = go later

pub stands_in : (cuts : List Cut) (i : ℕ) (p : Placed) → AllByRecursion (λ c. 0 < length c.bytes) cuts → slice_get (placed_from 0 cuts) i ≡ Some p → IsInCode cuts p
stands_in cuts i p spelled is = record {
  all = among_of (placed_from 0 cuts) i p is;
  only = λ e among same. subst (λ q. IsAmong (edges_of q) e) (same_place e among same)
      (own_among (placed_from 0 cuts) e among);
}
  where
    same_place : (e : Placed × Edge) → IsAmong (edges_in cuts) e → e.0.at ≡ p.at → e.0 ≡ p
    same_place e among same =
        let number = among_placed (placed_from 0 cuts) e among in
        let one = stands_at cuts number.0 e.0 spelled number.1 in
        let other = stands_at cuts i p spelled is in
        let cuts_are : one.cut ≡ other.cut = same_Some _ _ (sym one.there ∙ ap (cut_at cuts) same ∙ other.there) in
        one.is ∙ ap (λ at. placed at one.cut) same ∙ ap (placed p.at) cuts_are ∙ sym other.is

first_at : (from : ℕ) (cuts : List Cut) (p : Placed) → slice_get (placed_from from cuts) 0 ≡ Some p → p.at ≡ from
first_at from [] p is = absurd cc
first_at from (c ∷ cuts) p is = sym (ap (λ (q : Placed). q.at) (same_Some _ _ is))

-- each stands where the one before it ends
next_at : (from : ℕ) (cuts : List Cut) (i : ℕ) (p q : Placed) → slice_get (placed_from from cuts) i ≡ Some p → slice_get (placed_from from cuts) (suc i) ≡ Some q → q.at ≡ p.next
next_at from [] i p q is also = absurd cc
next_at from (c ∷ cuts) zero p q is also = first_at (from + length c.bytes) cuts q also ∙ ap (λ (q : Placed). q.next) (same_Some _ _ is)
next_at from (c ∷ cuts) (suc i) p q is also = next_at (from + length c.bytes) cuts i p q is also

over_append : (image : ImageValue) (is_join : ℕ → Bool) (xs ys : List (Placed × Edge)) (table : Table) → over image is_join (xs ++ ys) table ≡ (over image is_join xs table >>= over image is_join ys)
over_append image is_join [] ys table = refl
over_append image is_join (x ∷ xs) ys table = ap (λ f. first >>= f) (fun_ext λ t. over_append image is_join xs ys t) ∙ sym (in_turn first (over image is_join xs) (over image is_join ys))
  where
    first : Result Table StateFault
    first = Rattle.tp_check.specs.Carried.go_over image is_join x (table x.0.at) table

    in_turn : (r : Result Table StateFault) (f g : Table → Result Table StateFault) → ((r >>= f) >>= g) ≡ (r >>= (λ t. f t >>= g))
    in_turn (Ok t) f g = refl
    in_turn (Err e) f g = refl

-- ---- a pass

module _ (image : ImageValue) (cuts : List Cut) (is_join : ℕ → Bool) where
  -- after some of the instructions
  pub record Comes (first now : Passes) (i : ℕ) (begun : Table) : Type 0 where
    pub at : ℕ
    pub whole : Table
    pub gives : over image is_join (edges_in cuts) begun ≡ over image is_join (flat_map edges_of (drop i (placed_from 0 cuts))) whole
    pub before : IsBefore image cuts is_join now at whole
    pub past : (j : ℕ) (q : Placed) → j < i → slice_get (placed_from 0 cuts) j ≡ Some q → q.at < at
    pub next : (q : Placed) → slice_get (placed_from 0 cuts) i ≡ Some q → q.at ≡ at

  pub none_come : (first : Passes) (begun : Table) → IsBefore image cuts is_join first 0 begun → Comes first first 0 begun
  none_come first begun before = record { at = 0; whole = begun; gives = refl; before = before; past = λ j q lt. absurd (omega (arith, lt)); next = λ q is. first_at 0 cuts q is }

  module _ (i : ℕ) (p : Placed) (is : slice_get (placed_from 0 cuts) i ≡ Some p) where
    next_edges : (table : Table) → over image is_join (flat_map edges_of (drop i (placed_from 0 cuts))) table ≡
        (over image is_join (edges_of p) table >>= over image is_join
        (flat_map edges_of (drop (i + 1) (placed_from 0 cuts))))
    next_edges table =
        ap (λ ps. over image is_join (flat_map edges_of ps) table) next_one ∙
        ap (λ es. over image is_join es table) (flat_map-cons edges_of p (drop (i + 1) (placed_from 0 cuts))) ∙
        over_append image is_join (edges_of p) _ table
      where
        next_one : drop i (placed_from 0 cuts) ≡ p ∷ drop (i + 1) (placed_from 0 cuts)
        next_one = drop-cons (placed_from 0 cuts) i p (slice_get_within (placed_from 0 cuts) i p is) ∙
            ap (λ q. q ∷ drop (suc i) (placed_from 0 cuts)) (get_or_from_slice_get (placed_from 0 cuts) i p p is) ∙
            ap (λ n. p ∷ drop n (placed_from 0 cuts)) (sym (add-one i))

    module _ (first now : Passes) (begun : Table) (on : Comes first now i begun) where
      pub here_before : IsBefore image cuts is_join now p.at on.whole
      here_before = subst (λ at. IsBefore image cuts is_join now at on.whole) (sym (on.next p is)) on.before

      goes : over image is_join (edges_in cuts) begun ≡ (over image is_join (edges_of p) on.whole >>= over image is_join (flat_map edges_of (drop (i + 1) (placed_from 0 cuts))))
      goes = on.gives ∙ next_edges on.whole

      pub stop_there : (e : StateFault) (P Q : Table → Type 0) →
          Carries {X = Bool} (Err e) (over image is_join (edges_of p) on.whole) P →
          Carries {X = Bool} (Err e) (over image is_join (edges_in cuts) begun) Q
      stop_there e P Q refuses = then_more e _ (over image is_join (edges_of p) on.whole) (over image is_join (flat_map edges_of (drop (i + 1) (placed_from 0 cuts)))) P Q goes refuses

      pub come_on : AllByRecursion (λ c. 0 < length c.bytes) cuts → (new : Passes) (moved : Bool) →
          Carries (Ok moved) (over image is_join (edges_of p) on.whole) (IsBefore image cuts is_join new p.next) →
          Comes first new (i + 1) begun
      come_on spelled new moved done = record {
        at = p.next;
        whole = done.0;
        gives = goes ∙ ap (λ r. r >>= over image is_join (flat_map edges_of (drop (i + 1) (placed_from 0 cuts)))) done.1;
        before = done.2;
        past = λ j q lt there. passed j q lt there (cases_eq j i);
        next = λ q there. next_at 0 cuts i p q is (sym (ap (slice_get (placed_from 0 cuts)) (add-one i)) ∙ there);
      }
        where
          longer : p.at < p.next
          longer =
              let stands = stands_at cuts i p spelled is in
              let some = some_bytes cuts p.at stands.cut spelled stands.there in
              let next = ap (λ (q : Placed). q.next) stands.is in
              omega (arith, some, next)

          passed : (j : ℕ) (q : Placed) → j < i + 1 → slice_get (placed_from 0 cuts) j ≡ Some q → (j ≡ i) ⊎ (j ≡ i → ⊥) → q.at < p.next
          passed j q lt there (inl same) = let one = ap (λ (q : Placed). q.at) (same_Some q p (sym there ∙ ap (slice_get (placed_from 0 cuts)) same ∙ is)) in omega (arith, longer, one)
          passed j q lt there (inr other) = let less = on.past j q (omega (arith, lt, other)) there in let here = on.next p is in omega (arith, longer, less, here)

  -- after all of them
  pub come_all : (first now new : Passes) (i : ℕ) (begun : Table) → length cuts ≤ i → Comes first now i begun →
      new.states.items ≡ now.states.items → new.changed.items ≡ now.changed.items → new.carried ≡ now.carried →
      new.taken.items ≡ now.taken.items → new.is_carried ≡ false → (moved : Bool)
      → Carries (Ok moved) (over image is_join (edges_in cuts) begun) (IsBefore image cuts is_join new 0)
  come_all first now new i begun end on states changed carried takes rests moved = (
    on.whole,
    on.gives ∙ ap (λ ps. over image is_join (flat_map edges_of ps) on.whole) none,
    record {
      way = record {
        keeps = record {
          flags = ap length changed ∙ on.before.way.keeps.flags ∙ ap length (sym states);
          takes = ap length takes ∙ on.before.way.keeps.takes ∙ ap length (sym states);
          carried = rw carried on.before.way.keeps.carried;
          states = λ x is. on.before.way.keeps.states x is ∙ ap (λ items. table_of items x) (sym states);
          grown = on.before.way.keeps.grown;
          sound = on.before.way.keeps.sound;
        };
        each = λ e among. by_old e among (on.before.way.each e among);
        again = λ e among is. on.before.way.again e among (by_repeat e (repeating is_join new 0 e.0.at is));
        left_again = λ _ e (k, there). absurd cc;
      };
      here = λ sure. absurd (let no : false ≡ true = sym rests ∙ sure in cc);
    },
  )
    where
      none : drop i (placed_from 0 cuts) ≡ []
      none = drop_all i (placed_from 0 cuts) (omega (arith, end, length-placed 0 cuts))

      earlier : (e : Placed × Edge) → IsAmong (edges_in cuts) e → e.0.at < on.at
      earlier e among =
          let number = among_placed (placed_from 0 cuts) e among in
          let within = slice_get_within (placed_from 0 cuts) number.0 e.0 number.1 in
          on.past number.0 e.0 (omega (arith, within, end, length-placed 0 cuts)) number.1

      by_waits : (e : Placed × Edge) → IsAmong (edges_in cuts) e →
          ((is_join e.0.at ≡ true) × (is_in now.changed.items e.0.at ≡ true)) ⊎
          ((is_join e.0.at ≡ false) × (e.0.at ≡ on.at) × (now.is_carried ≡ true)) → waits is_join new 0 e.0.at ≡ true
      by_waits e among (inl (joins, flag)) = marked_waits is_join new 0 e.0.at joins (ap (λ items. is_in items e.0.at) changed ∙ flag)
      by_waits e among (inr (alone, same, sure)) = absurd (let less = earlier e among in omega (arith, less, same))

      by_old : (e : Placed × Edge) → IsAmong (edges_in cuts) e → Waits is_join now [] on.at e ⊎ IsDone image is_join on.whole e → Waits is_join new [] 0 e ⊎ IsDone image is_join on.whole e
      by_old e among (inl (inl left)) = inl (inl left)
      by_old e among (inl (inr is)) = inl (inr (by_waits e among (waiting is_join now on.at e.0.at is)))
      by_old e among (inr done) = inr done

      by_repeat : (e : Placed × Edge) → ((is_join e.0.at ≡ true) × (is_in new.taken.items e.0.at ≡ true)) ⊎
          ((is_join e.0.at ≡ false) × (e.0.at ≡ 0) × (new.is_carried ≡ true) × (new.is_again ≡ true)) →
          repeats is_join now on.at e.0.at ≡ true
      by_repeat e (inl (joins, taken)) = taken_repeats is_join now on.at e.0.at joins (sym (ap (λ items. is_in items e.0.at) takes) ∙ taken)
      by_repeat e (inr (alone, same, sure, again)) = absurd (let no : true ≡ false = sym sure ∙ rests in cc)

-- ---- a pass that changes nothing

-- where no address is marked, each edge is done
nothing_marked : (image : ImageValue) (cuts : List Cut) (is_join : ℕ → Bool) (p : Passes) (whole : Table) →
    IsBefore image cuts is_join p 0 whole → p.is_carried ≡ false → ((at : ℕ) → is_in p.changed.items at ≡ false) →
    over image is_join (edges_in cuts) whole ≡ Ok whole
nothing_marked image cuts is_join p whole before rests none = edges_stay image is_join whole (edges_in cuts) (λ e among. by_old e (before.way.each e among))
  where
    by_waits : (e : Placed × Edge) → ((is_join e.0.at ≡ true) × (is_in p.changed.items e.0.at ≡ true)) ⊎
        ((is_join e.0.at ≡ false) × (e.0.at ≡ 0) × (p.is_carried ≡ true)) → IsDone image is_join whole e
    by_waits e (inl (joins, flag)) = absurd (let no : true ≡ false = sym flag ∙ none e.0.at in cc)
    by_waits e (inr (alone, same, sure)) = absurd (let no : true ≡ false = sym sure ∙ rests in cc)

    by_old : (e : Placed × Edge) → Waits is_join p [] 0 e ⊎ IsDone image is_join whole e → IsDone image is_join whole e
    by_old e (inl (inl (k, there))) = absurd cc
    by_old e (inl (inr is)) = by_waits e (waiting is_join p 0 e.0.at is)
    by_old e (inr done) = done

-- ---- the passes

-- between two passes; whether the last one left edges to be taken
pub record IsBetween (image : ImageValue) (cuts : List Cut) (is_join : ℕ → Bool) (p : Passes) (is_left : Bool) : Type 0 where
  pub number : ℕ
  pub after : IsAfter image cuts is_join p number
  pub stays : is_left ≡ false → IsVerdict image cuts (Ok after.whole)

-- the passes that are left
abbrev pub left_of : ImageValue → Bool → Passes → ℕ
left_of image true p = 1 + table_height image p.states.items
left_of image false p = 0

module _ (image : ImageValue) (cuts : List Cut) (is_join : ℕ → Bool) (join : AreJoins image cuts is_join) where
  pub zero_joins : is_join 0 ≡ true
  zero_joins = by_join (is_join 0) refl
    where
      by_join : (b : Bool) → is_join 0 ≡ b → is_join 0 ≡ true
      by_join true e = e
      by_join false e = let no : true ≡ false = or_left true (is_head image 0) (nat_le 2 (reached image cuts 0)) (join.wide 0 e) in cc

  -- before the first pass
  pub none_made : InRange image → KeepsNest image.loops image.workspace cuts → (p : Passes) (places : ℕ) →
      HasPlaces cuts places → places ≤ 2 ^ 32 → length p.states.items ≡ places → length p.changed.items ≡ places
      → table_of p.states.items ≡ first_table image → is_in p.changed.items 0 ≡ true → length p.taken.items ≡ places → ((at : ℕ) → at < places → is_in p.taken.items at ≡ false)
      → p.is_carried ≡ false → IsPlaced image p.carried → IsAfter image cuts is_join p 0
  none_made range kept p places inside few sized flags table marked takes fresh rests carried = record {
    places = λ at starts. rw sized (inside at starts);
    few = rw sized few;
    rests = rests;
    whole = first_table image;
    before = record {
      way = record {
        keeps = record {
          flags = flags ∙ sym sized;
          takes = takes ∙ sym sized;
          carried = carried;
          states = λ x is. sym (ap (λ (t : Table). t x) table);
          grown = first_grown image (first_table image) kept.begins (entry_sound image range).placed refl;
          sound = λ x s stood. sound_first x s stood (cases_eq x 0);
        };
        each = λ e among. by_place e (cases_eq e.0.at 0);
        again = λ e among is. absurd (never e among (repeating is_join p 0 e.0.at is));
        left_again = λ _ e (k, there). absurd cc;
      };
      here = λ sure. absurd (let no : false ≡ true = sym rests ∙ sure in cc);
    };
    arrives = refl;
  }
    where
      sound_first : (x : ℕ) (s : State) → first_table image x ≡ Some s → (x ≡ 0) ⊎ (x ≡ 0 → ⊥) → IsSound image s
      sound_first x s stood (inl same) = subst (IsSound image) (same_Some _ _ (sym (ap (first_table image) same) ∙ stood)) (entry_sound image range)
      sound_first x s stood (inr other) =
          let no : (x == 0) ≡ false = grind (arith, nat_tests) in
          absurd (let none : None ≡ Some s = sym (ap (λ b. if b then Some (entry image) else None) no) ∙ stood in cc)

      by_place : (e : Placed × Edge) → (e.0.at ≡ 0) ⊎ (e.0.at ≡ 0 → ⊥) → Waits is_join p [] 0 e ⊎ IsDone image is_join (first_table image) e
      by_place e (inl same) = inl (inr (marked_waits is_join p 0 e.0.at (ap is_join same ∙ zero_joins) (ap (is_in p.changed.items) same ∙ marked)))
      by_place e (inr other) = inr (λ s there.
          let no : (e.0.at == 0) ≡ false = differs other in
          absurd (let none : None ≡ Some s = sym (ap (λ b. if b then Some (entry image) else None) no) ∙ there in cc))
        where
          differs : (e.0.at ≡ 0 → ⊥) → (e.0.at == 0) ≡ false
          differs other = grind (arith, nat_tests)

      starts : (e : Placed × Edge) → IsAmong (edges_in cuts) e → e.0.at < places
      starts e among =
          let number = among_placed (placed_from 0 cuts) e among in
          inside e.0.at (ap is_some (stands_at cuts number.0 e.0 kept.spelled number.1).there)

      never : (e : Placed × Edge) → IsAmong (edges_in cuts) e →
          ((is_join e.0.at ≡ true) × (is_in p.taken.items e.0.at ≡ true)) ⊎
          ((is_join e.0.at ≡ false) × (e.0.at ≡ 0) × (p.is_carried ≡ true) × (p.is_again ≡ true)) → ⊥
      never e among (inl (joins, taken)) = let no : true ≡ false = sym taken ∙ fresh e.0.at (starts e among) in cc
      never e among (inr (alone, same, sure, again)) = let no : true ≡ false = sym sure ∙ rests in cc

module _ (image : ImageValue) (cuts : List Cut) (range : InRange image) (spelled : AllByRecursion IsSpelled cuts)
    (kept : KeepsNest image.loops image.workspace cuts) (is_join : ℕ → Bool) (join : AreJoins image cuts is_join) where
  pub none_between : (p : Passes) → IsAfter image cuts is_join p 0 → IsBetween image cuts is_join p true
  none_between p none = record { number = 0; after = none; stays = λ e. absurd cc }

  -- one pass more
  pub one_as_defined : (n : ℕ) (table : Table) → passes image cuts n ≡ Ok table → passes image cuts (suc n) ≡ over image is_join (edges_in cuts) table
  one_as_defined n table arrives =
      ap (λ r. r >>= pass image cuts) arrives
      ∙ (edge_by_edge image range.rows kept.good is_join (IsOne image cuts kept is_join join.wide) (IsStateAt image)
      (lone image cuts kept is_join join.wide) (are_states image cuts kept is_join join.wide range spelled)
      (edges_in cuts) (λ i e is. (i, is)) table
      (good_after image cuts range spelled kept is_join join.wide n table arrives)).0

  pub one_after : (old new : Passes) (n : ℕ) (m : Bool) → IsAfter image cuts is_join old n → new.is_carried ≡ false → Leaves image m old new
      → ((whole : Table) → IsBefore image cuts is_join old 0 whole → Carries (Ok m) (over image is_join (edges_in cuts) whole) (IsBefore image cuts is_join new 0))
      → (after : IsAfter image cuts is_join new (suc n)) × (m ≡ false → IsVerdict image cuts (Ok after.whole))
  one_after old new n m on rests leaves gives = (
    record {
      places = λ at starts. rw leaves.sized (on.places at starts);
      few = rw leaves.sized on.few;
      rests = rests;
      whole = done.0;
      before = done.2;
      arrives = arrives;
    },
    stays,
  )
    where
      done : (new_whole : Table) × (over image is_join (edges_in cuts) on.whole ≡ Ok new_whole) × IsBefore image cuts is_join new 0 new_whole
      done = gives on.whole on.before

      arrives : passes image cuts (suc n) ≡ Ok done.0
      arrives = one_as_defined n on.whole on.arrives ∙ done.1

      stays : m ≡ false → IsVerdict image cuts (Ok done.0)
      stays e = record { number = suc n; arrives = arrives; stays = by_end (leaves.ends e) }
        where
          alike : new.states.items ≡ old.states.items → (x : ℕ) (b : Bool) → is_join x ≡ b → only_joins is_join done.0 x ≡ only_joins is_join on.whole x
          alike same x true is =
              ap (λ c. if c then done.0 x else None) is ∙ done.2.way.keeps.states x is ∙
              ap (λ states. table_of states x) same ∙ sym (on.before.way.keeps.states x is) ∙
              sym (ap (λ c. if c then on.whole x else None) is)
          alike same x false is = ap (λ c. if c then done.0 x else None) is ∙ sym (ap (λ c. if c then on.whole x else None) is)

          by_end : (new.states.items ≡ old.states.items) ⊎ ((at : ℕ) → is_in new.changed.items at ≡ false) → pass image cuts done.0 ≡ Ok done.0
          by_end (inl same) =
              (one_pass image cuts range spelled kept is_join join.wide done.0 (good_after image cuts range spelled kept is_join join.wide (suc n) done.0 arrives)).0
              ∙ ap (over image is_join (edges_in cuts)) (fun_ext λ x. alike same x (is_join x) refl)
              ∙ sym (one_pass image cuts range spelled kept is_join join.wide on.whole (good_after image cuts range spelled kept is_join join.wide n on.whole on.arrives)).0
              ∙ sym (ap (λ r. r >>= pass image cuts) on.arrives) ∙ arrives
          by_end (inr none) =
              sym (ap (λ r. r >>= pass image cuts) arrives) ∙ one_as_defined (suc n) done.0 arrives ∙ nothing_marked image cuts is_join new done.0 done.2 rests none

  pub one_more : (old new : Passes) (was m : Bool) → IsBetween image cuts is_join old was → new.is_carried ≡ false → Leaves image m old new
      → ((whole : Table) → IsBefore image cuts is_join old 0 whole → Carries (Ok m) (over image is_join (edges_in cuts) whole) (IsBefore image cuts is_join new 0)) → IsBetween image cuts is_join new m
  one_more old new was m on rests leaves gives =
      let one = one_after old new on.number m on.after rests leaves gives in
      record { number = suc on.number; after = one.0; stays = one.1 }

  -- the refusal of a pass is the verdict
  pub is_refusal : (old : Passes) (moved : Bool) (on : IsBetween image cuts is_join old moved) (e : StateFault)
      (P : Table → Type 0) → Carries {X = Bool} (Err e) (over image is_join (edges_in cuts) on.after.whole) P →
      IsRefusalOf image cuts e
  is_refusal old moved on (Refused code place) P gives = record { number = suc on.number; arrives = one_as_defined on.number on.after.whole on.after.arrives ∙ gives; stays = refl }
  is_refusal old moved on Memory P gives = tt

  -- after the last pass
  pub is_settled : (p : Passes) → IsBetween image cuts is_join p false → IsSettled image cuts is_join p.states.items
  is_settled p on = record { few = on.after.few; whole = on.after.whole; verdict = on.stays refl; there = on.after.before.way.keeps.states }

  pub is_table : (joined : List (Option State)) (keeps : ℕ → Bool) (states : List (ℕ × State)) →
      IsSettled image cuts is_join joined → ((at : ℕ) → keeps at ≡ is_kept image cuts at) →
      AreStatesOf keeps (table_of joined) states → IsTableOf image cuts states
  is_table joined keeps states on same are = record {
    whole = on.whole;
    verdict = on.verdict;
    kept = record {
      rising = are.rising;
      each = λ i a there. let one = are.each i a there in (sym (same a.0) ∙ one.0, there_too a.0 (sym (same a.0) ∙ one.0) ∙ one.1);
      all = λ at s is stood. are.all at s (same at ∙ is) (sym (there_too at is) ∙ stood);
    };
  }
    where
      there_too : (at : ℕ) → is_kept image cuts at ≡ true → on.whole at ≡ table_of joined at
      there_too at is = by_join (is_join at) refl
        where
          by_join : (b : Bool) → is_join at ≡ b → on.whole at ≡ table_of joined at
          by_join true e = on.there at e
          by_join false e = absurd (let no : true ≡ false = sym is ∙ join.wide at e in cc)

  pub are_states_there : (states : List (ℕ × State)) → IsTableOf image cuts states → AreStatesThere image states
  are_states_there states t i a there = stands_there image cuts range spelled kept t.verdict.number t.whole t.verdict.arrives a.0 a.1 (t.kept.each i a there).1

pub refusal_handed_on : {X : Type 0} (image : ImageValue) (cuts : List Cut) (r : Result X StateFault) (e : StateFault) →
    IsErrAnd r (λ x. x ≡ e) → IsRefusalOf image cuts e → IfErr r (IsRefusalOf image cuts)
refusal_handed_on image cuts (Ok x) e is refusal = search rules
refusal_handed_on image cuts (Err x) e is refusal = rw is refusal
