-- Words of planes that are joined, or compared.
use Rattle.std.proofs.Common.{◌≡◌, ◌⊎◌, inl, inr, ℕ, zero, suc, ◌+◌, ◌-◌, ◌*◌, ◌/◌, ◌%◌, ◌^◌, ◌<◌, ◌≤◌, ◌==◌, nat_lt}
use Rattle.std.proofs.Common.{Bool, true, false, not, ◌||◌, List, length, min, slice_set, get_or, bit_or, bit_xor, refl}
use Rattle.std.proofs.Common.{sym, ap, ◌∙◌, arith}
use Rattle.std.proofs.lemmas.Bool.{cases_lt, cases_eq, false≢true}
use Rattle.std.proofs.lemmas.Bool.Decides.{nat_tests}
use Rattle.std.proofs.lemmas.List.{set-get_or}
use Rattle.std.proofs.lemmas.Nat.{le_or_l, le_or_r}
use Rattle.std.specs.Int.Bits.{or_zero_r}
use Rattle.tp_state.specs.declared.cell.Cell.TheVariants.{Undef, Any}
use Rattle.tp_state.specs.declared.planes.Bits.{Bits}
use Rattle.tp_state.specs.Planes.{is_set, live_of, cell_of, bits_cell, no_bits, cell_in, Moves, ChangesPlanes, joined_bits, failing_bits}
use Rattle.tp_state.proofs.PlaneBits.{one_of, set_ones, set-or, set-xor, xor_none, none_set, some_set}
use Rattle.tp_state.specs.Order.{join_cells, cell_below}
use Rattle.tp_state.proofs.PlaneCells.{LiveWays, live_ways, joined_where, failing_where}
use Rattle.tp_state.proofs.PlaneLoops.{cell_in-word, cell_in-set_same, changes_more, in_word, not_false, not_true}

moved_bits : Bits → Bits → ℕ
moved_bits new old = bit_or (bit_xor new.first old.first) (bit_xor new.second old.second)

is_none : (n : ℕ) → not (n == 0) ≡ false → n ≡ 0
is_none n e = grind (arith, nat_tests)

is_some : (n : ℕ) → not (n == 0) ≡ true → 0 < n
is_some n e = grind (arith, nat_tests)

pub is_zero : (n : ℕ) → n ≡ 0 → not (n == 0) ≡ false
is_zero n e = grind (arith, nat_tests)

pub is_positive : (n : ℕ) → 0 < n → not (n == 0) ≡ true
is_positive n h = grind (arith, nat_tests)

pub none_moved : (new old : Bits) → not (bit_or (bit_xor new.first old.first) (bit_xor new.second old.second) == 0) ≡ false → new ≡ old
none_moved new old e =
    let none : bit_or (bit_xor new.first old.first) (bit_xor new.second old.second) ≡ 0 = is_none (bit_or (bit_xor new.first old.first) (bit_xor new.second old.second)) e in
    let first : new.first ≡ old.first = xor_none new.first old.first (omega (arith, le_or_l (bit_xor new.first old.first) (bit_xor new.second old.second), none)) in
    let second : new.second ≡ old.second = xor_none new.second old.second (omega (arith, le_or_r (bit_xor new.first old.first) (bit_xor new.second old.second), none)) in
    ap (λ n. let b : Bits = record { first = n; second = new.second } in b) first ∙ ap (λ n. let b : Bits = record { first = old.first; second = n } in b) second

same_none : (a b : Bool) → a ≡ b → one_of a b ≡ false
same_none true b e = rw (← e) refl
same_none false b e = sym e

pub some_moved : (new old : Bits) → not (bit_or (bit_xor new.first old.first) (bit_xor new.second old.second) == 0) ≡
    true → bit_or (bit_xor new.first old.first) (bit_xor new.second old.second) < 2 ^ 64 → Moves old new
some_moved new old e small =
    let found = some_set (bit_or (bit_xor new.first old.first) (bit_xor new.second old.second)) (is_some (bit_or (bit_xor new.first old.first) (bit_xor new.second old.second)) e) small in
    (found.0, found.1, λ same. false≢true (sym (clear found.0 same) ∙ found.2))
  where
    clear : (j : ℕ) → (is_set new.first j ≡ is_set old.first j) × (is_set new.second j ≡ is_set old.second j) → is_set (bit_or (bit_xor new.first old.first) (bit_xor new.second old.second)) j ≡ false
    clear j same =
        set-or (bit_xor new.first old.first) (bit_xor new.second old.second) j
        ∙ ap (λ t. t || is_set (bit_xor new.second old.second) j) (set-xor new.first old.first j ∙ same_none (is_set new.first j) (is_set old.first j) same.0)
        ∙ set-xor new.second old.second j ∙ same_none (is_set new.second j) (is_set old.second j) same.1

-- ---- two cells of one value are alike only where their bits are

pub known_not_live : (n v : ℕ) → LiveWays v → live_of v ≡ cell_of false false n → ⊥
known_not_live n v (inl (is, _)) e = absurd (cc)
known_not_live n v (inr (is, _)) e = absurd (cc)

pub any_not_live : (v : ℕ) → LiveWays v → live_of v ≡ Any → ⊥
any_not_live v (inl (is, _)) e = absurd (cc)
any_not_live v (inr (is, _)) e = absurd (cc)

pub undef_not_live : (v : ℕ) → LiveWays v → live_of v ≡ Undef → ⊥
undef_not_live v (inl (is, _)) e = absurd (cc)
undef_not_live v (inr (is, _)) e = absurd (cc)

pub same_bits : (p q p' q' : Bool) (v : ℕ) → cell_of p q v ≡ cell_of p' q' v → (p ≡ p') × (q ≡ q')
same_bits true true true true v e = (refl, refl)
same_bits true false true false v e = (refl, refl)
same_bits false true false true v e = (refl, refl)
same_bits false false false false v e = (refl, refl)
same_bits true true true false v e = absurd (cc)
same_bits true true false false v e = absurd (cc)
same_bits true true false true v e = absurd (undef_not_live v (live_ways v) (sym e))
same_bits true false true true v e = absurd (cc)
same_bits true false false false v e = absurd (cc)
same_bits true false false true v e = absurd (any_not_live v (live_ways v) (sym e))
same_bits false false true true v e = absurd (cc)
same_bits false false true false v e = absurd (cc)
same_bits false false false true v e = absurd (known_not_live v v (live_ways v) (sym e))
same_bits false true true true v e = absurd (undef_not_live v (live_ways v) e)
same_bits false true true false v e = absurd (any_not_live v (live_ways v) e)
same_bits false true false false v e = absurd (known_not_live v v (live_ways v) e)

-- ---- words that are joined, one after another

-- the values that a word of a plane tells of, and which of them differ, where the bit of a mask is not set
abbrev pub DifferAt : List ℕ → List ℕ → (w k d : ℕ) → Type 0
DifferAt values others w k d = (j : ℕ) → j < 64 → 64 * w + j < length values → is_set k j ≡ false → is_set d j ≡ not (get_or values (64 * w + j) 0 == get_or others (64 * w + j) 0)

-- the mask is set where a word is neither known nor live in one of two planes' words
abbrev pub Closes : ℕ → Bits → Bits → Type 0
Closes k b c = k ≡ bit_or b.first c.first

not_closed : (k : ℕ) (b c : Bits) (j : ℕ) → Closes k b c → is_set b.first j ≡ false → is_set c.first j ≡ false → is_set k j ≡ false
not_closed k b c j closes clear other = ap (λ n. is_set n j) closes ∙ set-or b.first c.first j ∙ (rw (clear, other) refl)

-- a mask with each bit set leaves nothing to tell
pub all_closed : (k j : ℕ) → k ≡ 2 ^ 64 - 1 → j < 64 → is_set k j ≡ false → ⊥
all_closed k j full lt clear =
    let on : nat_lt j 64 ≡ true = grind (arith, nat_tests) in
    false≢true (sym clear ∙ ap (λ n. is_set n j) full ∙ set_ones 64 j ∙ on)

-- of words that have a value in both of two planes' words, it is told which values differ
abbrev pub TellsDiffer : List ℕ → List ℕ → (w d : ℕ) → Bits → Bits → Type 0
TellsDiffer values others w d b c = (p : ℕ) → p / 64 ≡ w → is_set b.first (p % 64) ≡ false → is_set c.first (p % 64) ≡ false → is_set d (p % 64) ≡ not (get_or values p 0 == get_or others p 0)

-- words behind the workspace have none
open_inside : (values : List ℕ) (planes : List Bits) (w p : ℕ) →
    ((x : ℕ) → length values ≤ x → x / 64 ≡ w → cell_in values planes x ≡ Undef) → p / 64 ≡ w →
    is_set (get_or planes w no_bits).first (p % 64) ≡ false → p < length values
open_inside values planes w p padded here clear = by_place (cases_lt p (length values))
  where
    by_place : (p < length values) ⊎ (length values ≤ p) → p < length values
    by_place (inl lt) = lt
    by_place (inr past) =
        let undefined : bits_cell (get_or planes w no_bits) (p % 64) (get_or values p 0) ≡ Undef = sym (cell_in-word values planes p w here) ∙ padded p past here in
        let on : is_set (get_or planes w no_bits).first (p % 64) ≡ true =
        (same_bits (is_set (get_or planes w no_bits).first (p % 64))
        (is_set (get_or planes w no_bits).second (p % 64)) true true (get_or values p 0) undefined).0 in
        absurd (false≢true (sym clear ∙ on))

tells_inside : (values others : List ℕ) (w k d : ℕ) (b c : Bits) → DifferAt values others w k d → Closes k b c →
    (p : ℕ) → p / 64 ≡ w → p < length values → is_set b.first (p % 64) ≡ false → is_set c.first (p % 64) ≡ false →
    is_set d (p % 64) ≡ not (get_or values p 0 == get_or others p 0)
tells_inside values others w k d b c differ closes p here lt clear other =
    let back : 64 * w + p % 64 ≡ p = omega (arith, here) in
    differ (p % 64) (in_word p) (omega (arith, back, lt)) (not_closed k b c (p % 64) closes clear other) ∙ ap (λ i. not (get_or values i 0 == get_or others i 0)) back

-- where values are compared
pub tells_joining : (values other_values : List ℕ) (old others mid : List Bits) (w k d : ℕ) → ((x : ℕ) → length values ≤ x → x < 64 * length old → cell_in values old x ≡ Undef) → w < length mid
    → ChangesPlanes values old mid (λ i c. join_cells c (cell_in other_values others i)) 0 (min (64 * length old) (64 * w))
    → DifferAt values other_values w k d → Closes k (get_or mid w no_bits) (get_or others w no_bits)
    → TellsDiffer values other_values w d (get_or mid w no_bits) (get_or others w no_bits)
tells_joining values other_values old others mid w k d padded room h differ closes p here clear other =
    tells_inside values other_values w k d (get_or mid w no_bits) (get_or others w no_bits) differ closes p here
    (open_inside values mid w p still here clear) clear other
  where
    -- the words from w on are as they were
    still : (x : ℕ) → length values ≤ x → x / 64 ≡ w → cell_in values mid x ≡ Undef
    still x past at = h.outside x (inr (omega (arith, at))) ∙ padded x past (omega (arith, at, room, h.long))

pub tells_comparing : (values other_values : List ℕ) (planes others : List Bits) (w k d : ℕ) →
    ((x : ℕ) → length other_values ≤ x → x < 64 * length others → cell_in other_values others x ≡ Undef) →
    w < length others → length other_values ≡ length values
    → DifferAt values other_values w k d → Closes k (get_or planes w no_bits) (get_or others w no_bits)
    → TellsDiffer values other_values w d (get_or planes w no_bits) (get_or others w no_bits)
tells_comparing values other_values planes others w k d padded room long differ closes p here clear other =
    let inside : p < length other_values = open_inside other_values others w p (λ x past at. padded x past (omega (arith, at, room))) here other in
    tells_inside values other_values w k d (get_or planes w no_bits) (get_or others w no_bits) differ closes p here (omega (arith, inside, long)) clear other

abbrev pub AreWords : List ℕ → Type 0
AreWords values = (i : ℕ) → get_or values i 0 < 2 ^ 32

-- the first w words of the planes are joins, and no others changed; whether any of them did
pub record JoinsPlanes (values other_values : List ℕ) (old others new : List Bits) (w : ℕ) (changed : Bool) : Type 0 where
  pub joined : ChangesPlanes values old new (λ i c. join_cells c (cell_in other_values others i)) 0 (min (64 * length old) (64 * w))
  pub stays : changed ≡ false → new ≡ old
  pub moves : changed ≡ true → (i : ℕ) × (i < 64 * w) × ¬ (cell_in values new i ≡ cell_in values old i)

pub joined_more : (values other_values : List ℕ) (old others mid : List Bits) (w d : ℕ) (b : Bits)
    → AreWords values → AreWords other_values → TellsDiffer values other_values w d (get_or mid w no_bits) (get_or others w no_bits) → w < length mid
    → ChangesPlanes values old mid (λ i c. join_cells c (cell_in other_values others i)) 0 (min (64 * length old) (64 * w))
    → b ≡ joined_bits d (get_or mid w no_bits) (get_or others w no_bits)
    → ChangesPlanes values old (slice_set mid w b) (λ i c. join_cells c (cell_in other_values others i)) 0 (min (64 * length old) (64 * (w + 1)))
joined_more values other_values old others mid w d b words other_words reports room h is =
    changes_more values old mid (λ i c. join_cells c (cell_in other_values others i)) 0 (64 * length old) w b h room takes
    keeps
  where
    was : Bits
    was = get_or mid w no_bits

    takes : (p : ℕ) → p / 64 ≡ w → 0 ≤ p → p < 64 * length old → bits_cell b (p % 64) (get_or values p 0) ≡ join_cells (bits_cell was (p % 64) (get_or values p 0)) (cell_in other_values others p)
    takes p here low high =
        ap (λ c. bits_cell c (p % 64) (get_or values p 0)) is
        ∙ joined_where d was (get_or others w no_bits) (p % 64) (get_or values p 0) (get_or other_values p 0) (words p) (other_words p) (reports p here)
        ∙ ap (λ c. join_cells (bits_cell was (p % 64) (get_or values p 0)) c) (sym (cell_in-word other_values others p w here))

    keeps : (p : ℕ) → p / 64 ≡ w → (p < 0) ⊎ (64 * length old ≤ p) → bits_cell b (p % 64) (get_or values p 0) ≡ bits_cell was (p % 64) (get_or values p 0)
    keeps p here (inl below) = absurd (omega (arith, below))
    keeps p here (inr past) = absurd (omega (arith, here, past, room, h.long))

-- a word that moved moved a cell
moved_cell : (values : List ℕ) (mid : List Bits) (w : ℕ) (b : Bits) → w < length mid → Moves (get_or mid w no_bits) b →
    (i : ℕ) × (i / 64 ≡ w) × ¬ (cell_in values (slice_set mid w b) i ≡ cell_in values mid i)
moved_cell values mid w b room moves =
    let word_of : (64 * w + moves.0) / 64 ≡ w = omega (arith, moves.1) in
    let bit_of : (64 * w + moves.0) % 64 ≡ moves.0 = omega (arith, moves.1) in
    (64 * w + moves.0, word_of, λ same. moves.2 (at moves.0 (64 * w + moves.0) word_of bit_of same))
  where
    at : (j p : ℕ) → p / 64 ≡ w → p % 64 ≡ j → cell_in values (slice_set mid w b) p ≡ cell_in values mid p →
        (is_set b.first j ≡ is_set (get_or mid w no_bits).first j) ×
        (is_set b.second j ≡ is_set (get_or mid w no_bits).second j)
    at j p word_of bit_of same =
        let new : cell_in values (slice_set mid w b) p ≡ bits_cell b j (get_or values p 0) = cell_in-set_same values mid w b p room word_of ∙ ap (λ k. bits_cell b k (get_or values p 0)) bit_of in
        let old : cell_in values mid p ≡ bits_cell (get_or mid w no_bits) j (get_or values p 0) =
        cell_in-word values mid p w word_of ∙ ap (λ k. bits_cell (get_or mid w no_bits) k (get_or values p 0))
        bit_of in
        same_bits (is_set b.first j) (is_set b.second j) (is_set (get_or mid w no_bits).first j) (is_set (get_or mid w no_bits).second j) (get_or values p 0) (sym new ∙ same ∙ old)

pub joins_none : (values other_values : List ℕ) (old others : List Bits) → JoinsPlanes values other_values old others old 0 false
joins_none values other_values old others = record {
  joined = record { long = refl; inside = λ i low high. absurd (omega (arith, high)); outside = λ i out. refl };
  stays = λ e. refl;
  moves = λ e. absurd (false≢true e);
}

-- one more, which moves
pub joins_moved : (values other_values : List ℕ) (old others mid : List Bits) (w d : ℕ) (b : Bits) (changed : Bool)
    → AreWords values → AreWords other_values → TellsDiffer values other_values w d (get_or mid w no_bits) (get_or others w no_bits) → w < length mid
    → JoinsPlanes values other_values old others mid w changed
    → b ≡ joined_bits d (get_or mid w no_bits) (get_or others w no_bits) → Moves (get_or mid w no_bits) b
    → JoinsPlanes values other_values old others (slice_set mid w b) (w + 1) true
joins_moved values other_values old others mid w d b changed words other_words reports room h is moves = record {
  joined = joined_more values other_values old others mid w d b words other_words reports room h.joined is;
  stays = λ e. absurd (false≢true (sym e));
  moves = λ _. here (moved_cell values mid w b room moves);
}
  where
    here : ((i : ℕ) × (i / 64 ≡ w) × ¬ (cell_in values (slice_set mid w b) i ≡ cell_in values mid i)) → (i : ℕ) × (i < 64 * (w + 1)) × ¬ (cell_in values (slice_set mid w b) i ≡ cell_in values old i)
    here (i, word_of, other) = (i, omega (arith, word_of), λ same. other (same ∙ sym (h.joined.outside i (inr (omega (arith, word_of))))))

-- one more, which stays
pub joins_kept : (values other_values : List ℕ) (old others mid : List Bits) (w d : ℕ) (b : Bits) (changed : Bool)
    → AreWords values → AreWords other_values → TellsDiffer values other_values w d (get_or mid w no_bits) (get_or others w no_bits) → w < length mid
    → JoinsPlanes values other_values old others mid w changed
    → b ≡ joined_bits d (get_or mid w no_bits) (get_or others w no_bits) → b ≡ get_or mid w no_bits
    → JoinsPlanes values other_values old others (slice_set mid w b) (w + 1) changed
joins_kept values other_values old others mid w d b changed words other_words reports room h is kept = record {
  joined = joined_more values other_values old others mid w d b words other_words reports room h.joined is;
  stays = λ e. same ∙ h.stays e;
  moves = λ e. before (h.moves e);
}
  where
    same : slice_set mid w b ≡ mid
    same = ap (slice_set mid w) kept ∙ set-get_or mid w no_bits

    before : ((i : ℕ) × (i < 64 * w) × ¬ (cell_in values mid i ≡ cell_in values old i)) → (i : ℕ) × (i < 64 * (w + 1)) × ¬ (cell_in values (slice_set mid w b) i ≡ cell_in values old i)
    before (i, lt, other) = (i, omega (arith, lt), λ e. other (sym (ap (λ planes. cell_in values planes i) same) ∙ e))

-- this many bits in all that have changed, and then more
pub none_before : (before moved : ℕ) → not (bit_or before moved == 0) ≡ false → (not (before == 0) ≡ false) × (moved ≡ 0)
none_before before moved e =
    let none : bit_or before moved ≡ 0 = is_none (bit_or before moved) e in
    (is_zero before (omega (arith, le_or_l before moved, none)), omega (arith, le_or_r before moved, none))

-- one more, whether it moves or not
pub joins_more : (values other_values : List ℕ) (old others mid : List Bits) (w d : ℕ) (b : Bits) (before moved : ℕ)
    → AreWords values → AreWords other_values → TellsDiffer values other_values w d (get_or mid w no_bits) (get_or others w no_bits) → w < length mid
    → JoinsPlanes values other_values old others mid w (not (before == 0))
    → b ≡ joined_bits d (get_or mid w no_bits) (get_or others w no_bits)
    → (moved ≡ 0 → b ≡ get_or mid w no_bits) → (0 < moved → Moves (get_or mid w no_bits) b)
    → JoinsPlanes values other_values old others (slice_set mid w b) (w + 1) (not (bit_or before moved == 0))
joins_more values other_values old others mid w d b before zero words other_words reports room h is stays moves =
    rw (or_zero_r before) (joins_kept values other_values old others mid w d b (not (before == 0)) words other_words reports room h is (stays refl))
joins_more values other_values old others mid w d b before (suc m) words other_words reports room h is stays moves =
    let some : 0 < bit_or before (suc m) = omega (arith, le_or_r before (suc m)) in
    rw (is_positive (bit_or before (suc m)) some) (joins_moved values other_values old others mid w d b (not (before == 0)) words other_words reports room h is (moves (omega arith)))

pub joined_end : (values other_values : List ℕ) (old others new : List Bits) (w : ℕ) (changed : Bool) →
    JoinsPlanes values other_values old others new w changed → w ≡ length old →
    ChangesPlanes values old new (λ i c. join_cells c (cell_in other_values others i)) 0 (64 * length old)
joined_end values other_values old others new w changed h end =
    let whole : min (64 * length old) (64 * w) ≡ 64 * length old = omega (arith, end) in
    rw whole at h.joined

-- ---- words that are compared, one after another

fails_here : (values other_values : List ℕ) (planes others : List Bits) (w d n p : ℕ)
    → AreWords values → AreWords other_values → TellsDiffer values other_values w d (get_or planes w no_bits) (get_or others w no_bits) → w < length others
    → n ≡ failing_bits d (get_or planes w no_bits) (get_or others w no_bits) → p / 64 ≡ w
    → is_set n (p % 64) ≡ not (cell_below (cell_in values planes p) (cell_in other_values others p))
fails_here values other_values planes others w d n p words other_words reports room is here =
    ap (λ m. is_set m (p % 64)) is
    ∙ failing_where d (get_or planes w no_bits) (get_or others w no_bits) (p % 64) (get_or values p 0) (get_or other_values p 0) (words p) (other_words p) (reports p here)
    ∙ ap (λ c. not (cell_below c (bits_cell (get_or others w no_bits) (p % 64) (get_or other_values p 0)))) (sym (cell_in-word values planes p w here))
    ∙ ap (λ c. not (cell_below (cell_in values planes p) c)) (sym (cell_in-word other_values others p w here))

pub below_more : (values other_values : List ℕ) (planes others : List Bits) (w d n : ℕ)
    → AreWords values → AreWords other_values → TellsDiffer values other_values w d (get_or planes w no_bits) (get_or others w no_bits) → w < length others
    → n ≡ failing_bits d (get_or planes w no_bits) (get_or others w no_bits) → n ≡ 0
    → ((i : ℕ) → i < 64 * w → cell_below (cell_in values planes i) (cell_in other_values others i) ≡ true)
    → (i : ℕ) → i < 64 * (w + 1) → cell_below (cell_in values planes i) (cell_in other_values others i) ≡ true
below_more values other_values planes others w d n words other_words reports room is none h i lt = by_word (cases_eq (i / 64) w)
  where
    by_word : (i / 64 ≡ w) ⊎ (i / 64 ≡ w → ⊥) → cell_below (cell_in values planes i) (cell_in other_values others i) ≡ true
    by_word (inl at) = not_false (cell_below (cell_in values planes i) (cell_in other_values others i))
        (sym (fails_here values other_values planes others w d n i words other_words reports room is at) ∙
        ap (λ m. is_set m (i % 64)) none ∙ none_set (i % 64))
    by_word (inr other) = h i (omega (arith, lt, other))

pub below_found : (values other_values : List ℕ) (planes others : List Bits) (w d n : ℕ)
    → AreWords values → AreWords other_values → TellsDiffer values other_values w d (get_or planes w no_bits) (get_or others w no_bits) → w < length others
    → n ≡ failing_bits d (get_or planes w no_bits) (get_or others w no_bits) → n < 2 ^ 64 → (n ≡ 0 → ⊥)
    → (i : ℕ) × (i < 64 * length others) × (cell_below (cell_in values planes i) (cell_in other_values others i) ≡ false)
below_found values other_values planes others w d n words other_words reports room is small some =
    let found = some_set n (omega (arith, some)) small in
    at found.0 found.1 found.2
  where
    at : (j : ℕ) → j < 64 → is_set n j ≡ true → (i : ℕ) × (i < 64 * length others) × (cell_below (cell_in values planes i) (cell_in other_values others i) ≡ false)
    at j lt on =
        let word_of : (64 * w + j) / 64 ≡ w = omega (arith, lt) in
        let bit_of : (64 * w + j) % 64 ≡ j = omega (arith, lt) in
        let fails : not (cell_below (cell_in values planes (64 * w + j)) (cell_in other_values others (64 * w + j))) ≡
        true = sym (fails_here values other_values planes others w d n (64 * w + j) words other_words reports room is
        word_of) ∙ ap (λ k. is_set n k) bit_of ∙ on in
        (64 * w + j, omega (arith, lt, room), not_true (cell_below (cell_in values planes (64 * w + j)) (cell_in other_values others (64 * w + j))) fails)

-- bits that say Undef say it with any value
pub undefined_bits : (first second : Bool) (v u : ℕ) → cell_of first second v ≡ Undef → cell_of first second u ≡ Undef
undefined_bits first second v u e =
    let same = same_bits first second true true v e in
    rw (same.0, same.1) refl
