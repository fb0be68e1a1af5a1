-- Cells that agree where both have a value: planes alone tell what becomes of them.
use Rattle.std.proofs.Common.{◌≡◌, ◌⊎◌, inl, inr, ℕ, ◌-◌, ◌*◌, ◌/◌, ◌%◌, ◌^◌, ◌<◌, ◌≤◌, ◌==◌, Bool, true, false, not, IsTrue, List, ◌++◌, length, take, drop, get_or, refl, sym, ap, ◌∙◌, arith}
use Rattle.std.proofs.lemmas.Bool.{cases_lt, false≢true}
use Rattle.std.proofs.Math.Seq.{take-append_seam}
use Rattle.tp_state.specs.declared.cell.Cell.{Cell}
use Rattle.tp_state.specs.declared.cell.Cell.TheVariants.{Undef, Index, Count}
use Rattle.tp_state.specs.declared.planes.Bits.{Bits}
use Rattle.tp_state.specs.CellRules.{cell_at, has_value}
use Rattle.tp_state.specs.Order.{cell_below}
use Rattle.tp_state.specs.Planes.{is_set, live_of, cell_of, bits_cell, no_bits, cell_in, seen, IsWhole, Agree}
use Rattle.tp_state.proofs.CellOrder.{BelowWays, below_ways}
use Rattle.tp_state.proofs.PlaneBits.{none_set}
use Rattle.tp_state.proofs.PlaneCells.{LiveWays, live_ways, same_signed, same_test}
use Rattle.tp_state.proofs.PlaneJoins.{known_not_live, any_not_live, undef_not_live, undefined_bits, TellsDiffer, AreWords}
use Rattle.tp_state.proofs.PlaneLoops.{cell_in-word}
use Rattle.tp_state.proofs.SeenLemmas.{length_seen, cell_at-seen, seen_is, whole_after}

-- ---- two cells that some cell is below

pub both_valued : (t c d : Cell) → IsTrue (cell_below t c) → IsTrue (cell_below t d) → has_value c ≡ true → has_value d ≡ true → c ≡ d
both_valued t c d h g valued valued' = sym (same c (below_ways t c h) valued) ∙ same d (below_ways t d g) valued'
  where
    same : (e : Cell) → BelowWays t e → has_value e ≡ true → t ≡ e
    same e (inl is) on = is
    same e (inr (inl (is, _))) on = absurd (false≢true (rw is at on))
    same e (inr (inr (is, _))) on = absurd (false≢true (rw is at on))

-- ---- a word's bits with another value

same_value : (p q p' q' : Bool) (v u : ℕ) → cell_of p q v ≡ cell_of p' q' u → cell_of p' q' v ≡ cell_of p' q' u
same_value p q true true v u e = refl
same_value p q true false v u e = refl
same_value true true false false v u e = absurd (cc)
same_value true false false false v u e = absurd (cc)
same_value false true false false v u e = absurd (known_not_live u v (live_ways v) e)
same_value false false false false v u e = e
same_value true true false true v u e = absurd (undef_not_live u (live_ways u) (sym e))
same_value true false false true v u e = absurd (any_not_live u (live_ways u) (sym e))
same_value false true false true v u e = e
same_value false false false true v u e = absurd (known_not_live v u (live_ways u) (sym e))

live_valued : (v : ℕ) → LiveWays v → has_value (live_of v) ≡ true
live_valued v (inl (is, _)) = rw is refl
live_valued v (inr (is, _)) = rw is refl

no_value : (p' q' : Bool) (v u : ℕ) → has_value (cell_of p' q' u) ≡ false → cell_of p' q' v ≡ cell_of p' q' u
no_value true true v u off = refl
no_value true false v u off = refl
no_value false true v u off = absurd (false≢true (sym off ∙ live_valued u (live_ways u)))
no_value false false v u off = absurd (false≢true (sym off))

risen_cell : (p q p' q' : Bool) (v u : ℕ) → IsTrue (cell_below (cell_of p q v) (cell_of p' q' u)) → cell_of p' q' v ≡ cell_of p' q' u
risen_cell p q p' q' v u h = by_ways (below_ways (cell_of p q v) (cell_of p' q' u) h)
  where
    by_ways : BelowWays (cell_of p q v) (cell_of p' q' u) → cell_of p' q' v ≡ cell_of p' q' u
    by_ways (inl same) = same_value p q p' q' v u same
    by_ways (inr (inl (is, _))) = no_value p' q' v u (ap has_value is)
    by_ways (inr (inr (is, _))) = no_value p' q' v u (ap has_value is)

-- ---- planes that rise to others

pub risen : (values other_values : List ℕ) (planes others : List Bits) → IsWhole values planes → IsWhole other_values others → length other_values ≡ length values
    → ((i : ℕ) → IsTrue (cell_below (cell_at (seen values planes) i) (cell_at (seen other_values others) i)))
    → (i : ℕ) → i < 64 * length others → cell_in values others i ≡ cell_in other_values others i
risen values other_values planes others h g long below i lt = cell_in-word values others i (i / 64) refl ∙
    by_place (cases_lt i (length values)) ∙ sym (cell_in-word other_values others i (i / 64) refl)
  where
    mine : Bits
    mine = get_or planes (i / 64) no_bits

    theirs : Bits
    theirs = get_or others (i / 64) no_bits

    by_place : (i < length values) ⊎ (length values ≤ i) → bits_cell theirs (i % 64) (get_or values i 0) ≡ bits_cell theirs (i % 64) (get_or other_values i 0)
    by_place (inl inside) =
        let own : cell_at (seen values planes) i ≡ bits_cell mine (i % 64) (get_or values i 0) = cell_at-seen values planes i inside ∙ cell_in-word values planes i (i / 64) refl in
        let their : cell_at (seen other_values others) i ≡ bits_cell theirs (i % 64) (get_or other_values i 0) =
        cell_at-seen other_values others i (omega (arith, inside, long)) ∙
        cell_in-word other_values others i (i / 64) refl in
        let here : IsTrue (cell_below (cell_at (seen values planes) i) (cell_at (seen other_values others) i)) = below i in
        risen_cell (is_set mine.first (i % 64)) (is_set mine.second (i % 64)) (is_set theirs.first (i % 64))
        (is_set theirs.second (i % 64)) (get_or values i 0) (get_or other_values i 0) (rw (own, their) at here)
    by_place (inr past) =
        let undefined : bits_cell theirs (i % 64) (get_or other_values i 0) ≡ Undef = sym (cell_in-word other_values others i (i / 64) refl) ∙ g.padded i (omega (arith, past, long)) lt in
        undefined_bits (is_set theirs.first (i % 64)) (is_set theirs.second (i % 64)) (get_or other_values i 0) (get_or values i 0) undefined ∙ sym undefined

pub whole_risen : (values other_values : List ℕ) (planes others : List Bits) → IsWhole values planes → IsWhole other_values others → length other_values ≡ length values
    → ((i : ℕ) → IsTrue (cell_below (cell_at (seen values planes) i) (cell_at (seen other_values others) i)))
    → IsWhole values others
whole_risen values other_values planes others h g long below =
    whole_after other_values values others others g (sym long) refl
    (λ i lt. inl (risen values other_values planes others h g long below i lt))

pub seen_risen : (values other_values : List ℕ) (planes others : List Bits) → IsWhole values planes → IsWhole other_values others → length other_values ≡ length values
    → ((i : ℕ) → IsTrue (cell_below (cell_at (seen values planes) i) (cell_at (seen other_values others) i)))
    → seen values others ≡ seen other_values others
seen_risen values other_values planes others h g long below =
    seen_is values others (seen other_values others) (sym (length_seen other_values others ∙ long))
    (λ i lt. risen values other_values planes others h g long below i (omega (arith, lt, long, g.enough)) ∙
    sym (cell_at-seen other_values others i (omega (arith, lt, long))))

-- ---- planes that are joined

same_live : (v u : ℕ) → LiveWays v → LiveWays u → live_of v ≡ live_of u → v ≡ u
same_live v u (inl (is, _)) (inl (is', _)) e =
    let alike : Index v ≡ Index u = sym is ∙ e ∙ is' in
    cc
same_live v u (inl (is, _)) (inr (is', _)) e = absurd (cc)
same_live v u (inr (is, _)) (inl (is', _)) e = absurd (cc)
same_live v u (inr (is, ge)) (inr (is', ge')) e =
    let alike : Count (v - 256) ≡ Count (u - 256) = sym is ∙ e ∙ is' in
    let rows : v - 256 ≡ u - 256 = cc in
    omega (arith, rows, ge, ge')

same_known : (v u : ℕ) → v < 2 ^ 32 → u < 2 ^ 32 → cell_of false false v ≡ cell_of false false u → v ≡ u
same_known v u small small' e = same_signed v u small small' (cc)

-- cells of two values that are alike, and have a value, have the same
values_alike : (q q' : Bool) (v u : ℕ) → v < 2 ^ 32 → u < 2 ^ 32 → cell_of false q v ≡ cell_of false q' u → v ≡ u
values_alike true true v u small small' e = same_live v u (live_ways v) (live_ways u) e
values_alike true false v u small small' e = absurd (known_not_live u v (live_ways v) e)
values_alike false true v u small small' e = absurd (known_not_live v u (live_ways u) (sym e))
values_alike false false v u small small' e = same_known v u small small' e

value_open : (q : Bool) (v : ℕ) → has_value (cell_of false q v) ≡ true
value_open true v = live_valued v (live_ways v)
value_open false v = refl

-- no value differs
pub tells_agreeing : (values other_values : List ℕ) (old others mid : List Bits) (w : ℕ) → Agree values other_values old others → w < length old
    → ((p : ℕ) → p / 64 ≡ w → cell_in values mid p ≡ cell_in values old p)
    → TellsDiffer values other_values w 0 (get_or mid w no_bits) (get_or others w no_bits)
tells_agreeing values other_values old others mid w agree room still p here clear other =
    none_set (p % 64) ∙ sym (ap (λ u. not (get_or values p 0 == u)) (sym alike) ∙ same_test (get_or values p 0))
  where
    mine : cell_in values old p ≡ cell_of false (is_set (get_or mid w no_bits).second (p % 64)) (get_or values p 0)
    mine = sym (still p here) ∙ cell_in-word values mid p w here ∙ ap (λ t. cell_of t (is_set (get_or mid w no_bits).second (p % 64)) (get_or values p 0)) clear

    theirs : cell_in other_values others p ≡ cell_of false (is_set (get_or others w no_bits).second (p % 64)) (get_or other_values p 0)
    theirs = cell_in-word other_values others p w here ∙ ap (λ t. cell_of t (is_set (get_or others w no_bits).second (p % 64)) (get_or other_values p 0)) other

    valued : has_value (cell_in values old p) ≡ true
    valued = ap has_value mine ∙ value_open (is_set (get_or mid w no_bits).second (p % 64)) (get_or values p 0)

    valued' : has_value (cell_in other_values others p) ≡ true
    valued' = ap has_value theirs ∙ value_open (is_set (get_or others w no_bits).second (p % 64)) (get_or other_values p 0)

    alike : get_or values p 0 ≡ get_or other_values p 0
    alike = values_alike (is_set (get_or mid w no_bits).second (p % 64))
        (is_set (get_or others w no_bits).second (p % 64)) (get_or values p 0) (get_or other_values p 0) (agree.words p)
        (agree.other_words p) (sym mine ∙ agree.alike p (omega (arith, here, room)) valued valued' ∙ theirs)

pub agree_seen : (values other_values : List ℕ) (planes others : List Bits) → IsWhole values planes → length other_values ≡ length values → AreWords values → AreWords other_values
    → ((i : ℕ) → has_value (cell_at (seen values planes) i) ≡ true → has_value (cell_at (seen other_values others) i) ≡ true → cell_at (seen values planes) i ≡ cell_at (seen other_values others) i)
    → Agree values other_values planes others
agree_seen values other_values planes others h long words other_words same =
    record {
      words = words;
      other_words = other_words;
      alike = λ i lt valued valued'. at i lt valued valued'
          (cases_lt i (length values));
    }
  where
    at : (i : ℕ) → i < 64 * length planes → has_value (cell_in values planes i) ≡ true →
        has_value (cell_in other_values others i) ≡ true → (i < length values) ⊎ (length values ≤ i) →
        cell_in values planes i ≡ cell_in other_values others i
    at i lt valued valued' (inl inside) =
        let mine : cell_at (seen values planes) i ≡ cell_in values planes i = cell_at-seen values planes i inside in
        let theirs : cell_at (seen other_values others) i ≡ cell_in other_values others i = cell_at-seen other_values others i (omega (arith, inside, long)) in
        sym mine ∙ same i (ap has_value mine ∙ valued) (ap has_value theirs ∙ valued') ∙ theirs
    at i lt valued valued' (inr past) = absurd (false≢true (sym (ap has_value (h.padded i past lt)) ∙ valued))

-- ---- what is written through a borrow of all of a vector

pub written : {X : Type 0} (items new : List X) (n : ℕ) → n ≡ length items → length new ≡ length items → take n (new ++ drop (length new) items) ≡ new
written items new n whole long = ap (λ k. take k (new ++ drop (length new) items)) (whole ∙ sym long) ∙ take-append_seam new (drop (length new) items)
