-- The cells that planes and values are seen as.
use Rattle.std.proofs.Common.{◌≡◌, ◌⊎◌, inl, inr, ℕ, ◌+◌, ◌-◌, ◌*◌, ◌/◌, ◌%◌, ◌<◌, ◌≤◌, Bool, true, false, IsTrue, List}
use Rattle.std.proofs.Common.{[], ◌∷◌, ◌++◌, length, map, take, drop, replicate, slice_set, min, pos, get_or}
use Rattle.std.proofs.Common.{length-set, get_or-set_same, get_or-set_other, if◌then◌else◌, ◌==◌, zero, suc, refl, sym}
use Rattle.std.proofs.Common.{ap, ◌∙◌, arith, rules}
use Rattle.std.specs.List.{list_all}
use Rattle.std.proofs.lemmas.Bool.{cases_lt, cases_eq, false≢true}
use Rattle.std.proofs.lemmas.List.{places, ext_get_or, get_or-map, length-map, map-append}
use Rattle.std.specs.Ordering.{int_eq}
use Rattle.std.proofs.lemmas.List.FromFn.{length-map-range_with_len, get_or-map-range_with_len}
use Rattle.std.proofs.lemmas.List.Folds.{list_all_at}
use Rattle.std.proofs.Math.ListN.{get_or-eq_default}
use Rattle.tp_words.specs.Words.{signed}
use Rattle.tp_state.specs.declared.cell.Cell.{Cell}
use Rattle.tp_state.specs.declared.cell.Cell.TheVariants.{Undef, Any, Known, Index, Count}
use Rattle.tp_state.specs.declared.planes.Bits.{Bits}
use Rattle.tp_state.specs.CellRules.{cell_at, cells_from, with_cells, blurred}
use Rattle.tp_state.specs.Order.{join_cells, joined_cells, cell_below, ReportsChange}
use Rattle.tp_state.specs.Planes.{cell_of, bits_cell, no_bits, HasByteRow, cell_in, seen, IsWhole, ChangesPlanes}
use Rattle.tp_state.proofs.CellLemmas.{ChangesFrom, changes_all, length-cells_from, cell_at-cells_from, blurred_part}
use Rattle.tp_state.proofs.PlaneBits.{none_set}
use Rattle.tp_state.proofs.PlaneLoops.{cell_in-word}
use Rattle.tp_state.proofs.JoinLemmas.{length-joined, cell_at-joined}

pub length_seen : (values : List ℕ) (planes : List Bits) → length (seen values planes) ≡ length values
unfolding seen
length_seen values planes = length-map-range_with_len (cell_in values planes) 0 (length values)

pub cell_at-seen : (values : List ℕ) (planes : List Bits) (i : ℕ) → i < length values → cell_at (seen values planes) i ≡ cell_in values planes i
unfolding seen
cell_at-seen values planes i lt = get_or-map-range_with_len (cell_in values planes) 0 (length values) i i Undef lt (omega arith)

pub cell_at-seen_past : (values : List ℕ) (planes : List Bits) (i : ℕ) → length values ≤ i → cell_at (seen values planes) i ≡ Undef
cell_at-seen_past values planes i past = get_or-eq_default (seen values planes) Undef (omega (arith, length_seen values planes, past))

pub seen_is : (values : List ℕ) (planes : List Bits) (cells : List Cell) → length values ≡ length cells →
    ((i : ℕ) → i < length values → cell_in values planes i ≡ cell_at cells i) → seen values planes ≡ cells
seen_is values planes cells long same = ext_get_or Undef (seen values planes) cells (length_seen values planes ∙ long) (λ i lt. at i (omega (arith, length_seen values planes, lt)))
  where
    at : (i : ℕ) → i < length values → get_or (seen values planes) i Undef ≡ get_or cells i Undef
    at i lt = cell_at-seen values planes i lt ∙ same i lt

-- ---- planes stay whole

pub whole_after : (values values' : List ℕ) (planes planes' : List Bits) → IsWhole values planes → length values' ≡ length values → length planes' ≡ length planes
    → ((i : ℕ) → i < 64 * length planes → (cell_in values' planes' i ≡ cell_in values planes i) ⊎ ((i < length values) × HasByteRow (cell_in values' planes' i)))
    → IsWhole values' planes'
whole_after values values' planes planes' h long longer each = record {
  few = omega (arith, h.few, long);
  enough = omega (arith, h.enough, long, longer);
  no_more = omega (arith, h.no_more, long, longer);
  padded = λ i past lt. padded i (omega (arith, past, long)) (omega (arith, lt, longer)) (each i (omega (arith, lt, longer)));
  rows = λ i lt. row i (omega (arith, lt, long)) (each i (omega (arith, lt, long, h.enough)));
}
  where
    padded : (i : ℕ) → length values ≤ i → i < 64 * length planes →
        (cell_in values' planes' i ≡ cell_in values planes i) ⊎
        ((i < length values) × HasByteRow (cell_in values' planes' i)) → cell_in values' planes' i ≡ Undef
    padded i past lt (inl same) = same ∙ h.padded i past lt
    padded i past lt (inr (inside, _)) = absurd (omega (arith, past, inside))

    row : (i : ℕ) → i < length values → (cell_in values' planes' i ≡ cell_in values planes i) ⊎ ((i < length values) × HasByteRow (cell_in values' planes' i)) → HasByteRow (cell_in values' planes' i)
    row i lt (inl same) = rw same (h.rows i lt)
    row i lt (inr (_, byte)) = byte

-- ---- one word that is set

cell_in-set_value_other : (values : List ℕ) (planes : List Bits) (x v i : ℕ) → (i ≡ x → ⊥) → cell_in (slice_set values x v) planes i ≡ cell_in values planes i
unfolding cell_in
cell_in-set_value_other values planes x v i other = rw (get_or-set_other values x i v 0 other) refl

-- how planes change where words take a cell's bits
abbrev pub Puts : (first second : Bool) (x end : ℕ) → List Bits → List Bits → Type 0
Puts first second x end planes planes' = (values : List ℕ) → ChangesPlanes values planes planes' (λ i c. cell_of first second (get_or values i 0)) x end

set_at : (values : List ℕ) (planes planes' : List Bits) (x v : ℕ) (first second : Bool) (c : Cell) → x < length values →
    Puts first second x (x + 1) planes planes' → cell_of first second v ≡ c → cell_in (slice_set values x v) planes' x ≡ c
set_at values planes planes' x v first second c lt puts is = (puts (slice_set values x v)).inside x (omega arith) (omega arith) ∙ ap (cell_of first second) (get_or-set_same values x v 0 lt) ∙ is

set_beside : (values : List ℕ) (planes planes' : List Bits) (x v i : ℕ) (first second : Bool) →
    Puts first second x (x + 1) planes planes' → (i ≡ x → ⊥) →
    cell_in (slice_set values x v) planes' i ≡ cell_in values planes i
set_beside values planes planes' x v i first second puts other = (puts (slice_set values x v)).outside i (apart (cases_lt i x)) ∙ cell_in-set_value_other values planes x v i other
  where
    apart : (i < x) ⊎ (x ≤ i) → (i < x) ⊎ (x + 1 ≤ i)
    apart (inl below) = inl below
    apart (inr above) = inr (omega (arith, above, other))

pub whole_set : (values : List ℕ) (planes planes' : List Bits) (x v : ℕ) (first second : Bool) (c : Cell) →
    IsWhole values planes → x < length values → Puts first second x (x + 1) planes planes' → cell_of first second v ≡ c →
    HasByteRow c → IsWhole (slice_set values x v) planes'
whole_set values planes planes' x v first second c h lt puts is byte =
    whole_after values (slice_set values x v) planes planes' h (length-set values x v) (puts values).long
    (λ i _. at i (cases_eq i x))
  where
    at : (i : ℕ) → (i ≡ x) ⊎ (i ≡ x → ⊥) → (cell_in (slice_set values x v) planes' i ≡ cell_in values planes i) ⊎ ((i < length values) × HasByteRow (cell_in (slice_set values x v) planes' i))
    at i (inl same) = rw same (inr (lt, rw (set_at values planes planes' x v first second c lt puts is) byte))
    at i (inr other) = inl (set_beside values planes planes' x v i first second puts other)

pub seen_set : (values : List ℕ) (planes planes' : List Bits) (x v : ℕ) (first second : Bool) (c : Cell) →
    x < length values → Puts first second x (x + 1) planes planes' → cell_of first second v ≡ c →
    seen (slice_set values x v) planes' ≡ slice_set (seen values planes) x c
seen_set values planes planes' x v first second c lt puts is =
    seen_is (slice_set values x v) planes' (slice_set (seen values planes) x c)
    (length-set values x v ∙ sym (length-set (seen values planes) x c ∙ length_seen values planes))
    (λ i inside. at i (omega (arith, inside, length-set values x v)) (cases_eq i x))
  where
    at : (i : ℕ) → i < length values → (i ≡ x) ⊎ (i ≡ x → ⊥) → cell_in (slice_set values x v) planes' i ≡ cell_at (slice_set (seen values planes) x c) i
    at i inside (inl same) = rw same (set_at values planes planes' x v first second c lt puts is ∙ sym (get_or-set_same (seen values planes) x c Undef (omega (arith, lt, length_seen values planes))))
    at i inside (inr other) = set_beside values planes planes' x v i first second puts other ∙ sym (get_or-set_other (seen values planes) x i c Undef other ∙ cell_at-seen values planes i inside)

-- ---- words that may have taken something

row_blurred : (c : Cell) → HasByteRow c → HasByteRow (blurred c)
row_blurred Undef h = h
row_blurred Any h = h
row_blurred (Known n) h = h
row_blurred (Index l) h = h
row_blurred (Count l) h = h

abbrev pub Blurs : (x end : ℕ) → List Bits → List Bits → Type 0
Blurs x end planes planes' = (values : List ℕ) → ChangesPlanes values planes planes' (λ i c. blurred c) x end

by_part : (x end i : ℕ) → (i < x) ⊎ ((x ≤ i) × (i < end)) ⊎ (end ≤ i)
by_part x end i = first (cases_lt i x) (cases_lt i end)
  where
    first : (i < x) ⊎ (x ≤ i) → (i < end) ⊎ (end ≤ i) → (i < x) ⊎ ((x ≤ i) × (i < end)) ⊎ (end ≤ i)
    first (inl below) _ = inl below
    first (inr from) (inl under) = inr (inl (from, under))
    first (inr from) (inr past) = inr (inr past)

pub whole_blurred : (values : List ℕ) (planes planes' : List Bits) (x end : ℕ) → IsWhole values planes → end ≤ length values → Blurs x end planes planes' → IsWhole values planes'
whole_blurred values planes planes' x end h room blurs = whole_after values values planes planes' h refl (blurs values).long (λ i _. at i (by_part x end i))
  where
    at : (i : ℕ) → (i < x) ⊎ ((x ≤ i) × (i < end)) ⊎ (end ≤ i) → (cell_in values planes' i ≡ cell_in values planes i) ⊎ ((i < length values) × HasByteRow (cell_in values planes' i))
    at i (inl below) = inl ((blurs values).outside i (inl below))
    at i (inr (inl (from, under))) =
        let lt : i < length values = omega (arith, under, room) in
        inr (lt, rw ((blurs values).inside i from under) (row_blurred (cell_in values planes i) (h.rows i lt)))
    at i (inr (inr past)) = inl ((blurs values).outside i (inr past))

changes_seen : (values : List ℕ) (planes planes' : List Bits) (x n : ℕ) → x + n ≤ length values → Blurs x (x + n) planes planes' → ChangesFrom (seen values planes) (seen values planes') blurred x x n
changes_seen values planes planes' x n room blurs = record {
  long = length_seen values planes' ∙ sym (length_seen values planes);
  inside = λ i lt. inside i lt;
  outside = λ i out. outside i out (cases_lt i (length values));
}
  where
    inside : (i : ℕ) → i < n → cell_at (seen values planes') (x + i) ≡ blurred (cell_at (seen values planes) (x + i))
    inside i lt =
        let in_values : x + i < length values = omega (arith, lt, room) in
        cell_at-seen values planes' (x + i) in_values ∙ (blurs values).inside (x + i) (omega arith) (omega (arith, lt)) ∙ ap blurred (sym (cell_at-seen values planes (x + i) in_values))

    outside : (i : ℕ) → (i < x) ⊎ (x + n ≤ i) → (i < length values) ⊎ (length values ≤ i) → cell_at (seen values planes') i ≡ cell_at (seen values planes) i
    outside i out (inl lt) = cell_at-seen values planes' i lt ∙ (blurs values).outside i out ∙ sym (cell_at-seen values planes i lt)
    outside i out (inr past) = cell_at-seen_past values planes' i past ∙ sym (cell_at-seen_past values planes i past)

pub seen_blurred : (values : List ℕ) (planes planes' : List Bits) (x n : ℕ) →
    Blurs (min x (length values)) (min x (length values) + min n (length values - min x (length values))) planes planes' →
    seen values planes' ≡ with_cells (seen values planes) x (map blurred (cells_from (seen values planes) x n))
seen_blurred values planes planes' x n blurs =
    let long : length (seen values planes) ≡ length values = length_seen values planes in
    let first : ℕ = min x (length values) in
    let many : ℕ = min n (length values - min x (length values)) in
    let room : min x (length values) + min n (length values - min x (length values)) ≤ length values = omega arith in
    let room' : min x (length values) + min n (length values - min x (length values)) ≤ length (seen values planes) = omega (arith, room, long) in
    changes_all (seen values planes) (seen values planes') blurred first first many (changes_seen values planes planes' first many room blurs) room' room'
    ∙ ap (λ l. with_cells (seen values planes) (min x l) (map blurred (cells_from (seen values planes) (min x l) (min n (l - min x l))))) (sym long)
    ∙ blurred_part (seen values planes) x n

-- ---- words that take one cell

map_one : (cells : List Cell) (c : Cell) → map (λ _. c) cells ≡ replicate (length cells) c
map_one [] c = refl
map_one (d ∷ cells) c = ap (λ l. c ∷ l) (map_one cells c)

-- the values of words from x on, as far as n, are one value, and no others changed
pub record FillsValues (old new : List ℕ) (x n v : ℕ) : Type 0 where
  pub long : length new ≡ length old
  pub inside : (i : ℕ) → x ≤ i → i < x + n → get_or new i 0 ≡ v
  pub outside : (i : ℕ) → (i < x) ⊎ (x + n ≤ i) → get_or new i 0 ≡ get_or old i 0

filled_in : (values values' : List ℕ) (planes planes' : List Bits) (x n v : ℕ) (first second : Bool) (c : Cell) →
    FillsValues values values' x n v → Puts first second x (x + n) planes planes' → cell_of first second v ≡ c → (i : ℕ) →
    x ≤ i → i < x + n → cell_in values' planes' i ≡ c
filled_in values values' planes planes' x n v first second c fills puts is i low high = (puts values').inside i low high ∙ ap (cell_of first second) (fills.inside i low high) ∙ is

filled_out : (values values' : List ℕ) (planes planes' : List Bits) (x n v : ℕ) (first second : Bool) →
    FillsValues values values' x n v → Puts first second x (x + n) planes planes' → (i : ℕ) → (i < x) ⊎ (x + n ≤ i) →
    cell_in values' planes' i ≡ cell_in values planes i
unfolding cell_in
filled_out values values' planes planes' x n v first second fills puts i out = (puts values').outside i out ∙ rw (fills.outside i out) refl

pub whole_filled : (values values' : List ℕ) (planes planes' : List Bits) (x n v : ℕ) (first second : Bool) (c : Cell) →
    IsWhole values planes → x + n ≤ length values → FillsValues values values' x n v →
    Puts first second x (x + n) planes planes' → cell_of first second v ≡ c → HasByteRow c → IsWhole values' planes'
whole_filled values values' planes planes' x n v first second c h room fills puts is byte =
    whole_after values values' planes planes' h fills.long (puts values).long (λ i _. at i (by_part x (x + n) i))
  where
    at : (i : ℕ) → (i < x) ⊎ ((x ≤ i) × (i < x + n)) ⊎ (x + n ≤ i) → (cell_in values' planes' i ≡ cell_in values planes i) ⊎ ((i < length values) × HasByteRow (cell_in values' planes' i))
    at i (inl below) = inl (filled_out values values' planes planes' x n v first second fills puts i (inl below))
    at i (inr (inl (from, under))) =
        let lt : i < length values = omega (arith, under, room) in
        inr (lt, rw (filled_in values values' planes planes' x n v first second c fills puts is i from under) byte)
    at i (inr (inr past)) = inl (filled_out values values' planes planes' x n v first second fills puts i (inr past))

pub seen_filled : (values values' : List ℕ) (planes planes' : List Bits) (x n v : ℕ) (first second : Bool) (c : Cell) →
    x + n ≤ length values → FillsValues values values' x n v → Puts first second x (x + n) planes planes' →
    cell_of first second v ≡ c → seen values' planes' ≡ with_cells (seen values planes) x (replicate n c)
seen_filled values values' planes planes' x n v first second c room fills puts is =
    let room' : x + n ≤ length (seen values planes) = omega (arith, room, length_seen values planes) in
    changes_all (seen values planes) (seen values' planes') (λ _. c) x x n changes room' room'
    ∙ ap (with_cells (seen values planes) x) (map_one (cells_from (seen values planes) x n) c ∙ ap (λ k. replicate k c) (length-cells_from (seen values planes) x n room'))
  where
    inside : (i : ℕ) → i < n → cell_at (seen values' planes') (x + i) ≡ c
    inside i lt = cell_at-seen values' planes' (x + i) (omega (arith, lt, room, fills.long)) ∙
        filled_in values values' planes planes' x n v first second c fills puts is (x + i) (omega arith)
        (omega (arith, lt))

    outside : (i : ℕ) → (i < x) ⊎ (x + n ≤ i) → (i < length values) ⊎ (length values ≤ i) → cell_at (seen values' planes') i ≡ cell_at (seen values planes) i
    outside i out (inl lt) = cell_at-seen values' planes' i (omega (arith, lt, fills.long)) ∙
        filled_out values values' planes planes' x n v first second fills puts i out ∙
        sym (cell_at-seen values planes i lt)
    outside i out (inr past) = cell_at-seen_past values' planes' i (omega (arith, past, fills.long)) ∙ sym (cell_at-seen_past values planes i past)

    changes : ChangesFrom (seen values planes) (seen values' planes') (λ _. c) x x n
    changes = record {
      long = length_seen values' planes' ∙ fills.long ∙ sym (length_seen values planes);
      inside = inside;
      outside = λ i out. outside i out (cases_lt i (length values));
    }

-- ---- joins

row_join : (c d : Cell) → HasByteRow c → HasByteRow (join_cells c d)
row_join Undef d h = h
row_join Any Undef h = h
row_join Any Any h = h
row_join Any (Known n) h = h
row_join Any (Index l) h = h
row_join Any (Count l) h = h
row_join (Known n) Undef h = h
row_join (Known n) Any h = h
row_join (Known n) (Known m) h = by_test (int_eq n m)
  where
    by_test : (b : Bool) → HasByteRow (if b then Known n else Any)
    by_test true = tt
    by_test false = tt
row_join (Known n) (Index l) h = h
row_join (Known n) (Count l) h = h
row_join (Index l) Undef h = tt
row_join (Index l) Any h = tt
row_join (Index l) (Known n) h = tt
row_join (Index l) (Index k) h = by_test (l == k)
  where
    by_test : (b : Bool) → HasByteRow (if b then Index l else Undef)
    by_test true = h
    by_test false = tt
row_join (Index l) (Count k) h = tt
row_join (Count l) Undef h = tt
row_join (Count l) Any h = tt
row_join (Count l) (Known n) h = tt
row_join (Count l) (Index k) h = tt
row_join (Count l) (Count k) h = by_test (l == k)
  where
    by_test : (b : Bool) → HasByteRow (if b then Count l else Undef)
    by_test true = h
    by_test false = tt

abbrev pub Joins : List ℕ → List ℕ → List Bits → List Bits → List Bits → Type 0
Joins values other_values old others new = ChangesPlanes values old new (λ i c. join_cells c (cell_in other_values others i)) 0 (64 * length old)

pub whole_joined : (values other_values : List ℕ) (old others new : List Bits) → IsWhole values old →
    IsWhole other_values others → length other_values ≡ length values → Joins values other_values old others new →
    IsWhole values new
whole_joined values other_values old others new h g long joins = whole_after values values old new h refl joins.long (λ i lt. at i lt (cases_lt i (length values)))
  where
    at : (i : ℕ) → i < 64 * length old → (i < length values) ⊎ (length values ≤ i) → (cell_in values new i ≡ cell_in values old i) ⊎ ((i < length values) × HasByteRow (cell_in values new i))
    at i lt (inl inside) = inr (inside, rw (joins.inside i (omega arith) lt) (row_join (cell_in values old i) (cell_in other_values others i) (h.rows i inside)))
    at i lt (inr past) = inl (joins.inside i (omega arith) lt ∙ ap (λ c. join_cells c (cell_in other_values others i)) (h.padded i past lt) ∙ sym (h.padded i past lt))

pub seen_joined : (values other_values : List ℕ) (old others new : List Bits) → IsWhole values old →
    length other_values ≡ length values → Joins values other_values old others new →
    seen values new ≡ joined_cells (seen values old) (seen other_values others)
seen_joined values other_values old others new h long joins =
    seen_is values new (joined_cells (seen values old) (seen other_values others))
    (sym (length-joined (seen values old) (seen other_values others) longs ∙ length_seen values old)) at
  where
    longs : length (seen other_values others) ≡ length (seen values old)
    longs = length_seen other_values others ∙ long ∙ sym (length_seen values old)

    at : (i : ℕ) → i < length values → cell_in values new i ≡ cell_at (joined_cells (seen values old) (seen other_values others)) i
    at i lt =
        joins.inside i (omega arith) (omega (arith, lt, h.enough))
        ∙ ap (λ c. join_cells c (cell_in other_values others i)) (sym (cell_at-seen values old i lt))
        ∙ ap (join_cells (cell_at (seen values old) i)) (sym (cell_at-seen other_values others i (omega (arith, lt, long))))
        ∙ sym (cell_at-joined (seen values old) (seen other_values others) i longs)

pub tells_seen : (values : List ℕ) (old new : List Bits) (changed : Bool) → IsWhole values old → IsWhole values new → length new ≡ length old
    → (changed ≡ false → new ≡ old) → (changed ≡ true → (i : ℕ) × (i < 64 * length old) × ¬ (cell_in values new i ≡ cell_in values old i))
    → ReportsChange changed (seen values old) (seen values new)
tells_seen values old new changed h g longer stays moves = record {
  stays = λ e. ap (seen values) (stays e);
  moves = λ e all. at (moves e) all;
}
  where
    at : ((i : ℕ) × (i < 64 * length old) × ¬ (cell_in values new i ≡ cell_in values old i)) → seen values new ≡ seen values old → ⊥
    at (i, lt, other) all = by_place (cases_lt i (length values))
      where
        by_place : (i < length values) ⊎ (length values ≤ i) → ⊥
        by_place (inl inside) = other (sym (cell_at-seen values new i inside) ∙ ap (λ cells. cell_at cells i) all ∙ cell_at-seen values old i inside)
        by_place (inr past) = other (g.padded i past (omega (arith, lt, longer)) ∙ sym (h.padded i past lt))

-- ---- comparisons

pub below_seen : (values other_values : List ℕ) (planes others : List Bits) → IsWhole values planes → length other_values ≡ length values
    → ((i : ℕ) → i < 64 * length planes → cell_below (cell_in values planes i) (cell_in other_values others i) ≡ true)
    → (i : ℕ) → IsTrue (cell_below (cell_at (seen values planes) i) (cell_at (seen other_values others) i))
below_seen values other_values planes others h long all i = by_place (cases_lt i (length values))
  where
    by_place : (i < length values) ⊎ (length values ≤ i) → IsTrue (cell_below (cell_at (seen values planes) i) (cell_at (seen other_values others) i))
    by_place (inl inside) =
        let mine = cell_at-seen values planes i inside in
        let theirs = cell_at-seen other_values others i (omega (arith, inside, long)) in
        rw (mine, theirs, all i (omega (arith, inside, h.enough))) (search rules)
    by_place (inr past) =
        let mine = cell_at-seen_past values planes i past in
        let theirs = cell_at-seen_past other_values others i (omega (arith, past, long)) in
        rw (mine, theirs) (search rules)

pub not_below_seen : (values other_values : List ℕ) (planes others : List Bits) → IsWhole values planes →
    IsWhole other_values others → length other_values ≡ length values → length others ≡ length planes
    → ((i : ℕ) × (i < 64 * length planes) × (cell_below (cell_in values planes i) (cell_in other_values others i) ≡ false))
    → (i : ℕ) × (cell_below (cell_at (seen values planes) i) (cell_at (seen other_values others) i) ≡ false)
not_below_seen values other_values planes others h g long longer (i, lt, fails) = by_place (cases_lt i (length values))
  where
    by_place : (i < length values) ⊎ (length values ≤ i) → (i : ℕ) × (cell_below (cell_at (seen values planes) i) (cell_at (seen other_values others) i) ≡ false)
    by_place (inl inside) =
        let mine = cell_at-seen values planes i inside in
        let theirs = cell_at-seen other_values others i (omega (arith, inside, long)) in
        (i, rw (mine, theirs) fails)
    by_place (inr past) =
        let mine = h.padded i past lt in
        let theirs = g.padded i (omega (arith, past, long)) (omega (arith, lt, longer)) in
        absurd (false≢true (sym fails ∙ rw (mine, theirs) refl))

-- ---- tests of some words

all_true : (p : Cell → Bool) (cells : List Cell) → ((i : ℕ) → i < length cells → p (get_or cells i Undef) ≡ true) → list_all p cells ≡ true
all_true p [] each = refl
all_true p (c ∷ cells) each = rw (each 0 (omega arith)) (all_true p cells (λ i lt. each (suc i) (omega (arith, lt))))

from_part : (values : List ℕ) (planes : List Bits) (x n i : ℕ) → i < length (cells_from (seen values planes) x n) → (i < n) × (x + i < length values)
unfolding cells_from
from_part values planes x n i lt =
    let long = length_seen values planes in
    let short : length (take n (drop x (seen values planes))) ≤ n = grind (arith, places) in
    let inside : length (take n (drop x (seen values planes))) ≤ length values - x = grind (arith, places) in
    (omega (arith, lt, short), omega (arith, lt, inside))

part_at : (values : List ℕ) (planes : List Bits) (x n i : ℕ) → i < n → x + i < length values → cell_at (cells_from (seen values planes) x n) i ≡ cell_in values planes (x + i)
part_at values planes x n i lt inside = cell_at-cells_from (seen values planes) x n i lt ∙ cell_at-seen values planes (x + i) inside

part_long : (values : List ℕ) (planes : List Bits) (x n i : ℕ) → i < n → x + i < length values → i < length (cells_from (seen values planes) x n)
unfolding cells_from
part_long values planes x n i lt inside =
    let long = length_seen values planes in
    grind (arith, places)

pub tested_seen : (p : Cell → Bool) (values : List ℕ) (planes : List Bits) (x n first end : ℕ) (answer : Bool) →
    first ≡ min x (length values) → end ≡ min x (length values) + min n (length values - min x (length values))
    → (answer ≡ true → (values : List ℕ) (i : ℕ) → first ≤ i → i < end → p (cell_in values planes i) ≡ true)
    → (answer ≡ false → (values : List ℕ) → (i : ℕ) × (first ≤ i) × (i < end) × (p (cell_in values planes i) ≡ false))
    → answer ≡ list_all p (cells_from (seen values planes) x n)
tested_seen p values planes x n first end true from to holds lacks = sym (all_true p (cells_from (seen values planes) x n) (λ i lt. at i (from_part values planes x n i lt)))
  where
    at : (i : ℕ) → (i < n) × (x + i < length values) → p (cell_at (cells_from (seen values planes) x n) i) ≡ true
    at i (lt, inside) = ap p (part_at values planes x n i lt inside) ∙ holds refl values (x + i) (omega (arith, from, inside)) (omega (arith, to, lt, inside))
tested_seen p values planes x n first end false from to holds lacks = at (lacks refl values)
  where
    at : ((i : ℕ) × (first ≤ i) × (i < end) × (p (cell_in values planes i) ≡ false)) → false ≡ list_all p (cells_from (seen values planes) x n)
    at (i, low, high, fails) =
        let inside : i < length values = omega (arith, from, to, low, high) in
        let behind : x ≤ i = omega (arith, from, to, low, high) in
        let back : x + (i - x) ≡ i = omega (arith, behind) in
        let few : i - x < n = omega (arith, from, to, low, high) in
        let in_values : x + (i - x) < length values = omega (arith, back, inside) in
        let here : p (cell_at (cells_from (seen values planes) x n) (i - x)) ≡ false = ap p (part_at values planes x n (i - x) few in_values) ∙ ap (λ k. p (cell_in values planes k)) back ∙ fails in
        sym (list_all_at p (cells_from (seen values planes) x n) (i - x) Undef (part_long values planes x n (i - x) few in_values) here)

-- ---- values that are filled

pub fills_cut : (values : List ℕ) (x n v : ℕ) → x + n ≤ length values → FillsValues values (take x values ++ (replicate n v ++ drop (x + length (replicate n v)) values)) x n v
fills_cut values x n v room = record {
  long = grind (arith, places);
  inside = λ i low high. grind (arith, places);
  outside = λ i out. outside i out;
}
  where
    outside : (i : ℕ) → (i < x) ⊎ (x + n ≤ i) → get_or (take x values ++ (replicate n v ++ drop (x + length (replicate n v)) values)) i 0 ≡ get_or values i 0
    outside i (inl below) = grind (arith, places)
    outside i (inr past) = grind (arith, places)

-- ---- the first cells

pub clear_known : (planes : List Bits) → ((k : ℕ) → k < length planes → get_or planes k no_bits ≡ no_bits) →
    (values : List ℕ) (i : ℕ) → cell_in values planes i ≡ cell_of false false (get_or values i 0)
clear_known planes clear values i = cell_in-word values planes i (i / 64) refl ∙
    ap (λ b. bits_cell b (i % 64) (get_or values i 0)) (by_place (cases_lt (i / 64) (length planes))) ∙
    ap (λ t. cell_of t t (get_or values i 0)) (none_set (i % 64))
  where
    by_place : (i / 64 < length planes) ⊎ (length planes ≤ i / 64) → get_or planes (i / 64) no_bits ≡ no_bits
    by_place (inl lt) = clear (i / 64) lt
    by_place (inr past) = get_or-eq_default planes no_bits past

pub seen_known : (values : List ℕ) (planes : List Bits) →
    ((i : ℕ) → i < length values → cell_in values planes i ≡ cell_of false false (get_or values i 0)) →
    seen values planes ≡ map (λ word. Known (signed word)) values
seen_known values planes known = seen_is values planes (map (λ word. Known (signed word)) values)
    (sym (length-map values (λ word. Known (signed word))))
    (λ i lt. known i lt ∙ sym (get_or-map (λ (word : ℕ). Known (signed word)) values i 0 Undef lt))

map_replicate : (n : ℕ) → map (λ word. Known (signed word)) (replicate n 0) ≡ replicate n (Known (pos 0))
map_replicate zero = refl
map_replicate (suc n) = ap (λ l. Known (pos 0) ∷ l) (map_replicate n)

pub first_seen : (values : List ℕ) (planes : List Bits) (words : List ℕ) (n : ℕ) →
    ((i : ℕ) → i < length values → cell_in values planes i ≡ cell_of false false (get_or values i 0)) → values ≡ words ++
    replicate n 0 → seen values planes ≡ map (λ word. Known (signed word)) words ++ replicate n (Known (pos 0))
first_seen values planes words n known is = seen_known values planes known ∙ ap (map (λ word. Known (signed word))) is ∙
    map-append (λ word. Known (signed word)) words (replicate n 0) ∙
    ap (λ l. map (λ word. Known (signed word)) words ++ l) (map_replicate n)
