-- How control reaches addresses, edge by edge.
use Rattle.std.proofs.Common.{◌≡◌, ◌≢◌, ℕ, zero, suc, ◌+◌, ◌<◌, ◌≤◌, ◌⊎◌, inl, inr, ◌==◌, ◌||◌, nat_le, if◌then◌else◌}
use Rattle.std.proofs.Common.{Bool, true, false, List, [], ◌∷◌, ◌++◌, length, slice_get, slice_set, slice_index_or}
use Rattle.std.proofs.Common.{get_or, drop, drop-cons, Some, None, refl, sym, ap, ◌∙◌, subst, arith, add-one}
use Rattle.std.proofs.Common.{get_or-set_same, get_or-set_other}
use Rattle.std.specs.Prelude.{All}
use Rattle.std.specs.List.{list_any, flat_map}
use Rattle.std.proofs.lemmas.Bool.{cases_eq}
use Rattle.std.proofs.lemmas.Bool.Decides.{nat_tests}
use Rattle.std.proofs.lemmas.Option.{same_Some, slice_get_within, get_or_from_slice_get}
use Rattle.std.proofs.lemmas.List.{drop_all}
use Rattle.std.proofs.lemmas.List.Concat.{flat_map-cons}
use Rattle.tp_decode.proofs.NumberLemmas.{length-placed}
use Rattle.tp_check.proofs.Respected.{way_there, left_among, right_among}
use Rattle.std.proofs.lemmas.List.Sums.{sum_by-cons}
use Rattle.tp_decode.specs.declared.placed.Placed.{Placed}
use Rattle.tp_decode.specs.Cutting.{Cut, placed_from}
use Rattle.tp_flow.specs.declared.edge.Edge.{Edge}
use Rattle.tp_flow.specs.NestRanges.{ranges}
use Rattle.tp_flow.specs.NestKept.{KeepsNest, IsLoop}
use Rattle.tp_image.specs.Image.{ImageValue}
use Rattle.tp_image.specs.declared.image.LoopRow.{LoopRow}
use Rattle.tp_check.specs.declared.predecessors.Predecessor.{Predecessor}
use Rattle.tp_check.specs.declared.predecessors.Predecessor.TheVariants as predecessor
use Rattle.tp_check.specs.Passes.{edges_from, edges_of, edges_in}
use Rattle.tp_check.specs.Carried.{IsAmong, target_of, leads_to, reached, is_head, is_kept}
use Rattle.tp_check.specs.Joining.{predecessor_at, is_join, is_joined, is_join_at, is_kept_at, with_edge, IsInner, leading, IsPredecessor, ArePredecessors}
use Rattle.tp_check.specs.UnderWay.{AreJoins}
use Rattle.tp_check.specs.Arrivals.{HasPlaces}
use Rattle.tp_check.proofs.Moving.{next_way}
use Rattle.tp_check.proofs.Nests.{lone, count_one}

-- ---- an edge is counted

leading_cons : (image : ImageValue) (at : ℕ) (e : Placed × Edge) (rest : List (Placed × Edge)) →
    leading image at (e ∷ rest) ≡ (if leads_to at (target_of image e) then 1 else 0) + leading image at rest
leading_cons image at e rest = sum_by-cons (λ x. if leads_to at (target_of image x) then 1 else 0) e rest

leads_elsewhere : (image : ImageValue) (at : ℕ) (e : Placed × Edge) (rest : List (Placed × Edge)) → leads_to at (target_of image e) ≡ false → leading image at (e ∷ rest) ≡ leading image at rest
leads_elsewhere image at e rest is = leading_cons image at e rest ∙ ap (λ b. (if b then 1 else 0) + leading image at rest) is ∙ none (leading image at rest)
  where
    none : (n : ℕ) → 0 + n ≡ n
    none n = omega arith

tells_same : (image : ImageValue) (cuts : List Cut) (at : ℕ) (more rest : List (Placed × Edge)) →
    leading image at more ≡ leading image at rest → (w : Predecessor) → IsPredecessor image cuts more at w →
    IsPredecessor image cuts rest at w
tells_same image cuts at more rest same predecessor.Joined reports = reports
tells_same image cuts at more rest same predecessor.Unreached reports = (reports.0, reports.1 ∙ same)
tells_same image cuts at more rest same predecessor.Jump reports = (reports.0, reports.1 ∙ ap suc same)
tells_same image cuts at more rest same predecessor.FallThrough reports = (reports.0, reports.1 ∙ ap suc same, reports.2)

or_last : (p q r : Bool) → r ≡ true → (p || q || r) ≡ true
or_last true q r is = refl
or_last false true r is = refl
or_last false false r is = is

two_kept : (image : ImageValue) (cuts : List Cut) (at n : ℕ) → reached image cuts at ≡ suc (suc n) → is_kept image cuts at ≡ true
two_kept image cuts at n is = or_last (at == 0) (is_head image at) (nat_le 2 (reached image cuts at)) (two (reached image cuts at) is)
  where
    two : (m : ℕ) → m ≡ suc (suc n) → nat_le 2 m ≡ true
    two m is = grind (arith, nat_tests)

module _ (image : ImageValue) (cuts : List Cut) (e : Placed × Edge) (rest : List (Placed × Edge)) (predecessors : List Predecessor) (reports : ArePredecessors image cuts (e ∷ rest) predecessors) where
  pub counted_nowhere : target_of image e ≡ None → ArePredecessors image cuts rest predecessors
  counted_nowhere leads at = tells_same image cuts at (e ∷ rest) rest (leads_elsewhere image at e rest (ap (leads_to at) leads)) (predecessor_at predecessors at) (reports at)

  module _ (one : IsAmong (edges_in cuts) e) (to : ℕ) (leads : target_of image e ≡ Some to) (inside : to < length predecessors) where
    one_more : leading image to (e ∷ rest) ≡ suc (leading image to rest)
    one_more = leading_cons image to e rest ∙ ap (λ b. (if b then 1 else 0) + leading image to rest) (ap (leads_to to) leads ∙ here) ∙ counts (leading image to rest)
      where
        here : (to == to) ≡ true
        here = grind (arith, nat_tests)

        counts : (n : ℕ) → 1 + n ≡ suc n
        counts n = omega arith

    there : (w : Predecessor) → IsPredecessor image cuts (e ∷ rest) to w → (b : Bool) → (to == e.0.next) ≡ b → IsPredecessor image cuts rest to (with_edge b w)
    there predecessor.Joined reports b is = reports
    there predecessor.Jump reports b is = two_kept image cuts to (leading image to rest) (reports.1 ∙ ap suc one_more)
    there predecessor.FallThrough reports b is = two_kept image cuts to (leading image to rest) (reports.1 ∙ ap suc one_more)
    there predecessor.Unreached reports false is = (reports.0, reports.1 ∙ one_more)
    there predecessor.Unreached reports true is = (reports.0, reports.1 ∙ one_more, record { edge = e; is = one; leads = leads; falls = same })
      where
        same : to ≡ e.0.next
        same = grind (arith, nat_tests)

    pub counted_there : ArePredecessors image cuts rest (slice_set predecessors to (with_edge (to == e.0.next) (predecessor_at predecessors to)))
    counted_there at = by_place (cases_eq at to)
      where
        by_place : (at ≡ to) ⊎ (at ≡ to → ⊥) → IsPredecessor image cuts rest at (predecessor_at (slice_set predecessors to (with_edge (to == e.0.next) (predecessor_at predecessors to))) at)
        by_place (inl same) =
            subst (λ x. IsPredecessor image cuts rest x (predecessor_at (slice_set predecessors to (with_edge (to == e.0.next) (predecessor_at predecessors to))) x)) (sym same)
            (subst (IsPredecessor image cuts rest to) (sym (get_or-set_same predecessors to
            (with_edge (to == e.0.next) (predecessor_at predecessors to)) predecessor.Unreached inside))
            (there (predecessor_at predecessors to) (reports to) (to == e.0.next) refl))
        by_place (inr other) =
            subst (IsPredecessor image cuts rest at) (sym (get_or-set_other predecessors to at (with_edge (to == e.0.next) (predecessor_at predecessors to)) predecessor.Unreached other))
            (tells_same image cuts at (e ∷ rest) rest (leads_elsewhere image at e rest (ap (leads_to at) leads ∙ no other)) (predecessor_at predecessors at) (reports at))
          where
            no : (at ≡ to → ⊥) → (to == at) ≡ false
            no other = grind (arith, nat_tests)

next_counted : (image : ImageValue) (cuts : List Cut) (p : Placed) (edges : List Edge) (i : ℕ) (d : Edge) →
    i < length edges → (rest : List (Placed × Edge)) (predecessors : List Predecessor) →
    ArePredecessors image cuts (edges_from p (drop i edges) ++ rest) predecessors →
    ArePredecessors image cuts ((p, get_or edges i d) ∷ (edges_from p (drop (i + 1) edges) ++ rest)) predecessors
next_counted image cuts p edges i d inside rest predecessors reports = subst (λ es. ArePredecessors image cuts (es ++ rest) predecessors) (next_way p edges i d inside) reports

any_way : (predecessors : List Predecessor) (to : ℕ) (d : Predecessor) → to < length predecessors → slice_index_or predecessors to d ≡ predecessor_at predecessors to
any_way [] to d lt = absurd (omega (arith, lt))
any_way (w ∷ predecessors) zero d lt = refl
any_way (w ∷ predecessors) (suc to) d lt = any_way predecessors to d (omega (arith, lt))

-- an edge of an instruction, among those that are asked
module _ (image : ImageValue) (cuts : List Cut) (p : Placed) (edges asks : List Edge) (same : edges ≡ asks) (i : ℕ)
    (d : Edge) (inside : i < length edges) (rest : List (Placed × Edge)) (predecessors : List Predecessor)
    (among : (e : Placed × Edge) → IsAmong (edges_from p asks) e → IsAmong (edges_in cuts) e) (reports : ArePredecessors image cuts (edges_from p (drop i asks) ++ rest) predecessors) where
  same_edge : slice_index_or edges i d ≡ get_or asks i d
  same_edge = ap (λ xs. slice_index_or xs i d) same

  less : i < length asks
  less = subst (λ xs. i < length xs) same inside

  one : IsAmong (edges_in cuts) (p, slice_index_or edges i d)
  one = subst (λ e. IsAmong (edges_in cuts) (p, e)) (sym same_edge) (among (p, get_or asks i d) (i, way_there p asks i d less))

  here : ArePredecessors image cuts ((p, slice_index_or edges i d) ∷ (edges_from p (drop (i + 1) asks) ++ rest)) predecessors
  here = subst (λ e. ArePredecessors image cuts ((p, e) ∷ (edges_from p (drop (i + 1) asks) ++ rest)) predecessors) (sym same_edge) (next_counted image cuts p asks i d less rest predecessors reports)

  pub next_nowhere : target_of image (p, slice_index_or edges i d) ≡ None → ArePredecessors image cuts (edges_from p (drop (i + 1) asks) ++ rest) predecessors
  next_nowhere leads = counted_nowhere image cuts (p, slice_index_or edges i d) (edges_from p (drop (i + 1) asks) ++ rest) predecessors here leads

  pub next_there : (to : ℕ) → target_of image (p, slice_index_or edges i d) ≡ Some to →
      ((edge : Edge) (to : ℕ) → target_of image (p, edge) ≡ Some to → to < length predecessors) →
      (w new default : Predecessor) → w ≡ slice_index_or predecessors to default → new ≡ with_edge (to == p.next) w →
      ArePredecessors image cuts (edges_from p (drop (i + 1) asks) ++ rest) (slice_set predecessors to new)
  next_there to leads within w new default was is =
      subst (λ x. ArePredecessors image cuts (edges_from p (drop (i + 1) asks) ++ rest) (slice_set predecessors to x))
      (sym (is ∙ ap (with_edge (to == p.next)) (was ∙ any_way predecessors to default
      (within (slice_index_or edges i d) to leads))))
      (counted_there image cuts (p, slice_index_or edges i d) (edges_from p (drop (i + 1) asks) ++ rest) predecessors here one to leads (within (slice_index_or edges i d) to leads))

-- the edges of an instruction are those of a code
pub among_of : (ps : List Placed) (i : ℕ) (p : Placed) → slice_get ps i ≡ Some p → (e : Placed × Edge) → IsAmong (edges_of p) e → IsAmong (flat_map edges_of ps) e
among_of [] i p is e among = absurd cc
among_of (q ∷ ps) zero p is e (k, there) =
    let same : q ≡ p = same_Some q p is in
    rw (flat_map-cons edges_of q ps, same) (k, left_among (edges_of p) (flat_map edges_of ps) k e there)
among_of (q ∷ ps) (suc i) p is e among = rw (flat_map-cons edges_of q ps) (right_among (edges_of q) (flat_map edges_of ps) e (among_of ps i p is e among))

pub next_instruction : (cuts : List Cut) (i : ℕ) (p : Placed) → slice_get (placed_from 0 cuts) i ≡ Some p →
    flat_map edges_of (drop i (placed_from 0 cuts)) ≡ edges_of p ++ flat_map edges_of (drop (i + 1) (placed_from 0 cuts))
next_instruction cuts i p is =
    ap (flat_map edges_of) (drop-cons (placed_from 0 cuts) i p (slice_get_within (placed_from 0 cuts) i p is) ∙
    ap (λ q. q ∷ drop (suc i) (placed_from 0 cuts)) (get_or_from_slice_get (placed_from 0 cuts) i p p is) ∙
    ap (λ n. p ∷ drop n (placed_from 0 cuts)) (sym (add-one i)))
    ∙ flat_map-cons edges_of p (drop (i + 1) (placed_from 0 cuts))

pub no_instructions : (cuts : List Cut) (i : ℕ) → length cuts ≤ i → flat_map edges_of (drop i (placed_from 0 cuts)) ≡ []
no_instructions cuts i end = ap (flat_map edges_of) (drop_all i (placed_from 0 cuts) (omega (arith, end, length-placed 0 cuts)))

-- ---- before any edge is counted

-- this many loops' heads are marked
abbrev pub Begun : ImageValue → ℕ → ℕ → Predecessor → Type 0
Begun image k at predecessor.Joined = ((at == 0) || is_head image at) ≡ true
Begun image k at predecessor.Unreached = ((at == 0) ≡ false) × ((i : ℕ) (d : LoopRow) → i < k → (get_or image.loops i d).head ≢ at)
Begun image k at predecessor.FallThrough = ⊥
Begun image k at predecessor.Jump = ⊥

head_among : (rows : List LoopRow) (i : ℕ) (d : LoopRow) → i < length rows → (at : ℕ) → (get_or rows i d).head ≡ at → list_any (λ range. range.head == at) (ranges rows) ≡ true
head_among [] i d lt at is = absurd (omega (arith, lt))
head_among (r ∷ rows) zero d lt at is = let here : (r.head == at) ≡ true = grind (arith, nat_tests) in rw here refl
head_among (r ∷ rows) (suc i) d lt at is = by_test (r.head == at) (head_among rows i d (omega (arith, lt)) at is)
  where
    by_test : (b : Bool) → list_any (λ range. range.head == at) (ranges rows) ≡ true → (b || list_any (λ range. range.head == at) (ranges rows)) ≡ true
    by_test true go = refl
    by_test false go = go

no_head : (rows : List LoopRow) (at : ℕ) → ((i : ℕ) (d : LoopRow) → i < length rows → (get_or rows i d).head ≢ at) → list_any (λ range. range.head == at) (ranges rows) ≡ false
no_head [] at none = refl
no_head (r ∷ rows) at none =
    let here : (r.head == at) ≡ false = differs r.head (none 0 r (omega arith)) in
    rw here (no_head rows at (λ i d lt. none (suc i) d (omega (arith, lt))))
  where
    differs : (h : ℕ) → h ≢ at → (h == at) ≡ false
    differs h other = grind (arith, nat_tests)

or_right : (p q : Bool) → q ≡ true → (p || q) ≡ true
or_right true q is = refl
or_right false q is = is

-- a head more
pub begun_more : (image : ImageValue) (k : ℕ) (d : LoopRow) → k < length image.loops →
    (predecessors : List Predecessor) → (get_or image.loops k d).head < length predecessors →
    ((at : ℕ) → Begun image k at (predecessor_at predecessors at)) → (at : ℕ) →
    Begun image (k + 1) at (predecessor_at (slice_set predecessors (get_or image.loops k d).head predecessor.Joined) at)
begun_more image k d lt predecessors inside begun at = by_place (cases_eq at (get_or image.loops k d).head)
  where
    same_row : (rows : List LoopRow) (k i : ℕ) (d c : LoopRow) → k < length rows → i ≡ k → get_or rows i c ≡ get_or rows k d
    same_row rows k i d c lt same = ap (λ n. get_or rows n c) same ∙ any_default rows k d c lt
      where
        any_default : (rows : List LoopRow) (k : ℕ) (d c : LoopRow) → k < length rows → get_or rows k c ≡ get_or rows k d
        any_default [] k d c lt = absurd (omega (arith, lt))
        any_default (r ∷ rows) zero d c lt = refl
        any_default (r ∷ rows) (suc k) d c lt = any_default rows k d c (omega (arith, lt))

    keeps_on : (w : Predecessor) → at ≢ (get_or image.loops k d).head → Begun image k at w → Begun image (k + 1) at w
    keeps_on predecessor.Joined other is = is
    keeps_on predecessor.Unreached other is = (is.0, λ i c less. by_number i c less (cases_eq i k))
      where
        by_number : (i : ℕ) (c : LoopRow) → i < k + 1 → (i ≡ k) ⊎ (i ≡ k → ⊥) → (get_or image.loops i c).head ≢ at
        by_number i c less (inl same) = λ here. other (sym here ∙ ap (λ (r : LoopRow). r.head) (same_row image.loops k i d c lt same))
        by_number i c less (inr differs) = is.1 i c (omega (arith, less, differs))
    keeps_on predecessor.FallThrough other is = absurd is
    keeps_on predecessor.Jump other is = absurd is

    by_place : (at ≡ (get_or image.loops k d).head) ⊎ (at ≡ (get_or image.loops k d).head → ⊥) →
        Begun image (k + 1) at (predecessor_at (slice_set predecessors (get_or image.loops k d).head predecessor.Joined)
        at)
    by_place (inl same) =
        subst (λ x. Begun image (k + 1) x (predecessor_at (slice_set predecessors (get_or image.loops k d).head predecessor.Joined) x)) (sym same)
        (subst (Begun image (k + 1) (get_or image.loops k d).head) (sym (get_or-set_same predecessors (get_or image.loops k d).head predecessor.Joined predecessor.Unreached inside))
        (or_right ((get_or image.loops k d).head == 0) (is_head image (get_or image.loops k d).head) (head_among image.loops k d lt (get_or image.loops k d).head refl)))
    by_place (inr other) = subst (Begun image (k + 1) at)
        (sym (get_or-set_other predecessors (get_or image.loops k d).head at predecessor.Joined predecessor.Unreached
        other)) (keeps_on (predecessor_at predecessors at) other (begun at))

pub begun_next : (image : ImageValue) (cuts : List Cut) (rows : List LoopRow) → rows ≡ image.loops →
    (k : ℕ) (d : LoopRow) → k < length rows → (predecessors : List Predecessor) (places : ℕ) →
    length predecessors ≡ places → All (IsLoop cuts) image.loops → HasPlaces cuts places
    → ((at : ℕ) → Begun image k at (predecessor_at predecessors at)) → (at : ℕ) → Begun image (k + 1) at (predecessor_at (slice_set predecessors (slice_index_or rows k d).head predecessor.Joined) at)
begun_next image cuts rows same k d lt predecessors places sized loops inside begun at =
    subst (λ xs. Begun image (k + 1) at (predecessor_at (slice_set predecessors (get_or xs k d).head predecessor.Joined) at)) (sym same)
    (begun_more image k d less predecessors (let head = inside (get_or image.loops k d).head (loops k d less).head in omega (arith, head, sized)) begun at)
  where
    less : k < length image.loops
    less = subst (λ xs. k < length xs) same lt

pub begun_all : (image : ImageValue) (cuts : List Cut) (k : ℕ) → length image.loops ≤ k →
    (predecessors : List Predecessor) → ((at : ℕ) → Begun image k at (predecessor_at predecessors at)) →
    ArePredecessors image cuts (edges_in cuts) predecessors
begun_all image cuts k end predecessors begun at = reports (predecessor_at predecessors at) (begun at)
  where
    or_both : (p q r : Bool) → (p || q) ≡ true → (p || q || r) ≡ true
    or_both true q r is = refl
    or_both false true r is = refl
    or_both false false r is = absurd cc

    reports : (w : Predecessor) → Begun image k at w → IsPredecessor image cuts (edges_in cuts) at w
    reports predecessor.Joined is = or_both (at == 0) (is_head image at) (nat_le 2 (reached image cuts at)) is
    reports predecessor.Unreached is = (record { first = is.0; head = no_head image.loops at (λ i d lt. is.1 i d (omega (arith, lt, end))) }, refl)
    reports predecessor.FallThrough is = absurd is
    reports predecessor.Jump is = absurd is

-- ---- after all edges

module _ (image : ImageValue) (cuts : List Cut) (predecessors : List Predecessor) (reports : ArePredecessors image cuts [] predecessors) where
  not_kept : (at n : ℕ) → IsInner image at → reached image cuts at ≡ n → n < 2 → false ≡ is_kept image cuts at
  not_kept at n inner is few = rw (inner.first, inner.head, is) (sym (less n few))
    where
      less : (n : ℕ) → n < 2 → nat_le 2 n ≡ false
      less n few = grind (arith, nat_tests)

  pub are_kept : (at : ℕ) → is_kept_at predecessors at ≡ is_kept image cuts at
  are_kept at = by_way (predecessor_at predecessors at) (reports at)
    where
      by_way : (w : Predecessor) → IsPredecessor image cuts [] at w → is_joined w ≡ is_kept image cuts at
      by_way predecessor.Joined is = sym is
      by_way predecessor.Unreached is = not_kept at 0 is.0 is.1 (omega arith)
      by_way predecessor.Jump is = not_kept at 1 is.0 is.1 (omega arith)
      by_way predecessor.FallThrough is = not_kept at 1 is.0 is.1 (omega arith)

  are_wide : (at : ℕ) → is_join_at predecessors at ≡ false → is_kept image cuts at ≡ false
  are_wide at alone = sym (are_kept at) ∙ by_way (predecessor_at predecessors at) alone
    where
      by_way : (w : Predecessor) → is_join w ≡ false → is_joined w ≡ false
      by_way predecessor.Unreached is = refl
      by_way predecessor.FallThrough is = refl
      by_way predecessor.Jump is = absurd cc
      by_way predecessor.Joined is = absurd cc

  pub are_joins : KeepsNest image.loops image.workspace cuts → AreJoins image cuts (is_join_at predecessors)
  are_joins kept = record {
    wide = are_wide;
    lone = lone image cuts kept (is_join_at predecessors) are_wide;
    falls = λ e to one alone leads. by_way e to one alone leads (predecessor_at predecessors to) refl (reports to);
  }
    where
      by_way : (e : Placed × Edge) (to : ℕ) → IsAmong (edges_in cuts) e → is_join_at predecessors to ≡ false →
          target_of image e ≡ Some to → (w : Predecessor) → predecessor_at predecessors to ≡ w →
          IsPredecessor image cuts [] to w → to ≡ e.0.next
      by_way e to one alone leads predecessor.Unreached same is =
          let here : leads_to to (target_of image e) ≡ true = ap (leads_to to) leads ∙ itself in
          let some = count_one (λ g. leads_to to (target_of image g)) (edges_in cuts) one.0 e one.1 here in
          absurd (let none = is.1 in omega (arith, some, none))
        where
          itself : (to == to) ≡ true
          itself = grind (arith, nat_tests)
      by_way e to one alone leads predecessor.FallThrough same is =
          let edges : e ≡ is.2.edge = (lone image cuts kept (is_join_at predecessors) are_wide).one e is.2.edge to one is.2.is alone leads is.2.leads in
          is.2.falls ∙ sym (ap (λ (g : Placed × Edge). g.0.next) edges)
      by_way e to one alone leads predecessor.Jump same is = absurd (let no : true ≡ false = sym (ap is_join same) ∙ alone in cc)
      by_way e to one alone leads predecessor.Joined same is = absurd (let no : true ≡ false = sym (ap is_join same) ∙ alone in cc)
