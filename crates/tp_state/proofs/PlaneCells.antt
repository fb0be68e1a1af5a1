-- What words of planes say of cells, bit by bit.
use Rattle.std.proofs.Common.{◌≡◌, ◌⊎◌, inl, inr, ℕ, ◌-◌, ◌^◌, ◌<◌, ◌≤◌, ◌==◌, nat_lt, Bool, true, false, not, IsTrue}
use Rattle.std.proofs.Common.{if◌then◌else◌, ◌&&◌, ◌||◌, bit_and, bit_or, bit_xor, ℤ, w32, refl, sym, ap, ◌∙◌, arith}
use Rattle.std.proofs.Common.{rules}
use Rattle.std.proofs.lemmas.Bool.{cases_lt, cases_eq}
use Rattle.std.proofs.lemmas.Bool.Decides.{nat_tests}
use Rattle.std.proofs.lemmas.Int.{of_z-to_z}
use Rattle.std.specs.Ordering.{int_eq}
use Rattle.std.specs.Int.{cast_unsigned}
use Rattle.tp_words.specs.Words.{signed}
use Rattle.tp_state.specs.declared.cell.Cell.TheVariants.{Undef, Any, Known, Index, Count}
use Rattle.tp_state.specs.declared.planes.Bits.{Bits}
use Rattle.tp_state.specs.CellRules.{blurred, is_free, is_defined}
use Rattle.tp_state.specs.Order.{cell_below, join_cells}
use Rattle.tp_state.specs.Planes.{is_set, live_of, cell_of, bits_cell, with_mask, blurred_bits, live_bits, undefined_bits, joined_bits, failing_bits}
use Rattle.tp_state.proofs.CellOrder.{same_int, int_self, nat_self}
use Rattle.tp_state.proofs.PlaneBits.{one_of, set-or, set-and, set-xor}

-- ---- live control words

abbrev pub LiveWays : ℕ → Type 0
LiveWays v = ((live_of v ≡ Index v) × (v < 256)) ⊎ ((live_of v ≡ Count (v - 256)) × (256 ≤ v))

pub live_ways : (v : ℕ) → LiveWays v
live_ways v = by_place (cases_lt v 256)
  where
    by_place : (v < 256) ⊎ (256 ≤ v) → LiveWays v
    by_place (inl lt) =
        let yes : nat_lt v 256 ≡ true = grind (arith, nat_tests) in
        inl (rw yes refl, lt)
    by_place (inr ge) =
        let no : nat_lt v 256 ≡ false = grind (arith, nat_tests) in
        inr (rw no refl, ge)

blurred_live : (v : ℕ) → LiveWays v → blurred (live_of v) ≡ live_of v
blurred_live v (inl (is, _)) = rw is refl
blurred_live v (inr (is, _)) = rw is refl

live_not_free : (v : ℕ) → LiveWays v → is_free (live_of v) ≡ false
live_not_free v (inl (is, _)) = rw is refl
live_not_free v (inr (is, _)) = rw is refl

live_defined : (v : ℕ) → LiveWays v → is_defined (live_of v) ≡ true
live_defined v (inl (is, _)) = rw is refl
live_defined v (inr (is, _)) = rw is refl

-- ---- one word's bits

pub set-mask_in : (bit : Bool) (mask n j : ℕ) → is_set mask j ≡ true → is_set (with_mask bit mask n) j ≡ bit
set-mask_in true mask n j e = set-or n mask j ∙ rw e (always (is_set n j))
  where
    always : (b : Bool) → (b || true) ≡ true
    always true = refl
    always false = refl
set-mask_in false mask n j e = set-xor (bit_or n mask) mask j ∙ rw (set-or n mask j, e) (never (is_set n j))
  where
    never : (b : Bool) → one_of (b || true) true ≡ false
    never true = refl
    never false = refl

pub set-mask_out : (bit : Bool) (mask n j : ℕ) → is_set mask j ≡ false → is_set (with_mask bit mask n) j ≡ is_set n j
set-mask_out true mask n j e = set-or n mask j ∙ rw e (as_it_was (is_set n j))
  where
    as_it_was : (b : Bool) → (b || false) ≡ b
    as_it_was true = refl
    as_it_was false = refl
set-mask_out false mask n j e = set-xor (bit_or n mask) mask j ∙ rw (set-or n mask j, e) (as_it_was (is_set n j))
  where
    as_it_was : (b : Bool) → one_of (b || false) false ≡ b
    as_it_was true = refl
    as_it_was false = refl

-- a mask's bit, of a word that may have taken something
blurred_bit : (p q : Bool) (v : ℕ) → cell_of (p || one_of (q && true) true) q v ≡ blurred (cell_of p q v)
blurred_bit true true v = refl
blurred_bit true false v = refl
blurred_bit false false v = refl
blurred_bit false true v = sym (blurred_live v (live_ways v))

kept_bit : (p q : Bool) (v : ℕ) → cell_of (p || one_of (q && false) false) q v ≡ cell_of p q v
kept_bit true true v = refl
kept_bit true false v = refl
kept_bit false false v = refl
kept_bit false true v = refl

set-blurred : (mask : ℕ) (b : Bits) (j : ℕ) → is_set (bit_or b.first (bit_xor (bit_and b.second mask) mask)) j ≡ (is_set b.first j || one_of (is_set b.second j && is_set mask j) (is_set mask j))
set-blurred mask b j = set-or b.first (bit_xor (bit_and b.second mask) mask) j ∙
    ap (λ t. is_set b.first j || t) (set-xor (bit_and b.second mask) mask j ∙
    ap (λ t. one_of t (is_set mask j)) (set-and b.second mask j))

pub blurred_in : (mask : ℕ) (b : Bits) (j v : ℕ) → is_set mask j ≡ true → bits_cell (blurred_bits mask b) j v ≡ blurred (bits_cell b j v)
blurred_in mask b j v e = ap (λ t. cell_of t (is_set b.second j) v)
    (set-blurred mask b j ∙ ap (λ t. is_set b.first j || one_of (is_set b.second j && t) t) e) ∙
    blurred_bit (is_set b.first j) (is_set b.second j) v

pub blurred_out : (mask : ℕ) (b : Bits) (j v : ℕ) → is_set mask j ≡ false → bits_cell (blurred_bits mask b) j v ≡ bits_cell b j v
blurred_out mask b j v e = ap (λ t. cell_of t (is_set b.second j) v)
    (set-blurred mask b j ∙ ap (λ t. is_set b.first j || one_of (is_set b.second j && t) t) e) ∙
    kept_bit (is_set b.first j) (is_set b.second j) v

live_bit : (p q : Bool) (v : ℕ) → (q && one_of p q) ≡ not (is_free (cell_of p q v))
live_bit true true v = refl
live_bit true false v = refl
live_bit false false v = refl
live_bit false true v = rw (live_not_free v (live_ways v)) refl

pub live_where : (b : Bits) (j v : ℕ) → is_set (live_bits b) j ≡ not (is_free (bits_cell b j v))
live_where b j v = set-and b.second (bit_xor b.first b.second) j ∙ ap (λ t. is_set b.second j && t) (set-xor b.first b.second j) ∙ live_bit (is_set b.first j) (is_set b.second j) v

undefined_bit : (p q : Bool) (v : ℕ) → (p && q) ≡ not (is_defined (cell_of p q v))
undefined_bit true true v = refl
undefined_bit true false v = refl
undefined_bit false false v = refl
undefined_bit false true v = rw (live_defined v (live_ways v)) refl

pub undefined_where : (b : Bits) (j v : ℕ) → is_set (undefined_bits b) j ≡ not (is_defined (bits_cell b j v))
undefined_where b j v = set-and b.first b.second j ∙ undefined_bit (is_set b.first j) (is_set b.second j) v

-- ---- two words' bits

pub same_signed : (v u : ℕ) → v < 2 ^ 32 → u < 2 ^ 32 → signed v ≡ signed u → v ≡ u
same_signed v u small small' e = sym (of_z-to_z w32 v small) ∙ ap (cast_unsigned w32) e ∙ of_z-to_z w32 u small'

other_int : (n m : ℤ) → (n ≡ m → ⊥) → int_eq n m ≡ false
other_int n m other = by_test (int_eq n m) refl
  where
    by_test : (b : Bool) → int_eq n m ≡ b → b ≡ false
    by_test false e = refl
    by_test true e = absurd (other (same_int n m (rw e (search rules))))

true_test : (b : Bool) → IsTrue b → b ≡ true
true_test true h = refl
true_test false h = absurd (search rules)

pub same_test : (v : ℕ) → not (v == v) ≡ false
same_test v = grind (arith, nat_tests)

other_test : (v u : ℕ) → (v ≡ u → ⊥) → not (v == u) ≡ true
other_test v u other = grind (arith, nat_tests)

join_known_same : (v : ℕ) → join_cells (Known (signed v)) (Known (signed v)) ≡ Known (signed v)
join_known_same v = ap (λ t. if t then Known (signed v) else Any) (true_test (int_eq (signed v) (signed v)) (int_self (signed v)))

join_known_other : (v u : ℕ) → v < 2 ^ 32 → u < 2 ^ 32 → (v ≡ u → ⊥) → join_cells (Known (signed v)) (Known (signed u)) ≡ Any
join_known_other v u small small' other = ap (λ t. if t then Known (signed v) else Any) (other_int (signed v) (signed u) (λ e. other (same_signed v u small small' e)))

join_live_same : (v : ℕ) → LiveWays v → join_cells (live_of v) (live_of v) ≡ live_of v
join_live_same v (inl (is, _)) = rw is (ap (λ t. if t then Index v else Undef) (true_test (v == v) (nat_self v)))
join_live_same v (inr (is, _)) = rw is (ap (λ t. if t then Count (v - 256) else Undef) (true_test (v - 256 == v - 256) (nat_self (v - 256))))

other_nat : (v u : ℕ) → (v ≡ u → ⊥) → (v == u) ≡ false
other_nat v u other = grind (arith, nat_tests)

join_live_other : (v u : ℕ) → LiveWays v → LiveWays u → (v ≡ u → ⊥) → join_cells (live_of v) (live_of u) ≡ Undef
join_live_other v u (inl (is, _)) (inl (is', _)) other = rw (is, is') (ap (λ t. if t then Index v else Undef) (other_nat v u other))
join_live_other v u (inl (is, _)) (inr (is', _)) other = rw (is, is') refl
join_live_other v u (inr (is, _)) (inl (is', _)) other = rw (is, is') refl
join_live_other v u (inr (is, ge)) (inr (is', ge')) other = rw (is, is') (ap (λ t. if t then Count (v - 256) else Undef) (other_nat (v - 256) (u - 256) (λ e. other (omega (arith, e, ge, ge')))))

join_live_known : (v : ℕ) (n : ℤ) → LiveWays v → join_cells (live_of v) (Known n) ≡ Undef
join_live_known v n (inl (is, _)) = rw is refl
join_live_known v n (inr (is, _)) = rw is refl

join_live_any : (v : ℕ) → LiveWays v → join_cells (live_of v) Any ≡ Undef
join_live_any v (inl (is, _)) = rw is refl
join_live_any v (inr (is, _)) = rw is refl

join_live_undef : (v : ℕ) → LiveWays v → join_cells (live_of v) Undef ≡ Undef
join_live_undef v (inl (is, _)) = rw is refl
join_live_undef v (inr (is, _)) = rw is refl

join_known_live : (n : ℤ) (u : ℕ) → LiveWays u → join_cells (Known n) (live_of u) ≡ Undef
join_known_live n u (inl (is, _)) = rw is refl
join_known_live n u (inr (is, _)) = rw is refl

join_any_live : (u : ℕ) → LiveWays u → join_cells Any (live_of u) ≡ Undef
join_any_live u (inl (is, _)) = rw is refl
join_any_live u (inr (is, _)) = rw is refl

-- a join is an OR, and the first bit of words whose second bits or values differ
pub join_bit : (p q p' q' d : Bool) (v u : ℕ) → v < 2 ^ 32 → u < 2 ^ 32 → (p ≡ false → p' ≡ false → d ≡ not (v == u)) →
    cell_of (((p || p') || one_of q q') || d) (q || q') v ≡ join_cells (cell_of p q v) (cell_of p' q' u)
join_bit true true p' q' d v u small small' reports = refl
join_bit true false true true d v u small small' reports = refl
join_bit true false true false d v u small small' reports = refl
join_bit true false false false d v u small small' reports = refl
join_bit true false false true d v u small small' reports = sym (join_any_live u (live_ways u))
join_bit false true true true d v u small small' reports = sym (join_live_undef v (live_ways v))
join_bit false true true false d v u small small' reports = sym (join_live_any v (live_ways v))
join_bit false true false false d v u small small' reports = sym (join_live_known v (signed u) (live_ways v))
join_bit false true false true d v u small small' reports = by_values (cases_eq v u)
  where
    by_values : (v ≡ u) ⊎ (v ≡ u → ⊥) → cell_of d true v ≡ join_cells (live_of v) (live_of u)
    by_values (inl same) =
        let off : d ≡ false = reports refl refl ∙ ap (λ n. not (v == n)) (sym same) ∙ same_test v in
        rw (off, ← same) (sym (join_live_same v (live_ways v)))
    by_values (inr other) =
        let on : d ≡ true = reports refl refl ∙ other_test v u other in
        rw on (sym (join_live_other v u (live_ways v) (live_ways u) other))
join_bit false false true true d v u small small' reports = refl
join_bit false false true false d v u small small' reports = refl
join_bit false false false true d v u small small' reports = sym (join_known_live (signed v) u (live_ways u))
join_bit false false false false d v u small small' reports = by_values (cases_eq v u)
  where
    by_values : (v ≡ u) ⊎ (v ≡ u → ⊥) → cell_of d false v ≡ join_cells (Known (signed v)) (Known (signed u))
    by_values (inl same) =
        let off : d ≡ false = reports refl refl ∙ ap (λ n. not (v == n)) (sym same) ∙ same_test v in
        rw (off, ← same) (sym (join_known_same v))
    by_values (inr other) =
        let on : d ≡ true = reports refl refl ∙ other_test v u other in
        rw on (sym (join_known_other v u small small' other))

pub joined_where : (d : ℕ) (b c : Bits) (j v u : ℕ) → v < 2 ^ 32 → u < 2 ^ 32 →
    (is_set b.first j ≡ false → is_set c.first j ≡ false → is_set d j ≡ not (v == u)) →
    bits_cell (joined_bits d b c) j v ≡ join_cells (bits_cell b j v) (bits_cell c j u)
joined_where d b c j v u small small' reports =
    ap (λ t. cell_of t (is_set (bit_or b.second c.second) j) v) first
    ∙ ap (λ t. cell_of (((is_set b.first j || is_set c.first j) || one_of (is_set b.second j) (is_set c.second j)) || is_set d j) t v) (set-or b.second c.second j)
    ∙ join_bit (is_set b.first j) (is_set b.second j) (is_set c.first j) (is_set c.second j) (is_set d j) v u small small' reports
  where
    first : is_set (bit_or (bit_or (bit_or b.first c.first) (bit_xor b.second c.second)) d) j ≡
        (((is_set b.first j || is_set c.first j) || one_of (is_set b.second j) (is_set c.second j)) || is_set d j)
    first =
        set-or (bit_or (bit_or b.first c.first) (bit_xor b.second c.second)) d j
        ∙ ap (λ t. t || is_set d j) (set-or (bit_or b.first c.first) (bit_xor b.second c.second) j
        ∙ ap (λ t. t || is_set (bit_xor b.second c.second) j) (set-or b.first c.first j)
        ∙ ap (λ t. (is_set b.first j || is_set c.first j) || t) (set-xor b.second c.second j))

-- ---- below

below_live_known : (v : ℕ) (n : ℤ) → LiveWays v → cell_below (live_of v) (Known n) ≡ false
below_live_known v n (inl (is, _)) = rw is refl
below_live_known v n (inr (is, _)) = rw is refl

below_live_any : (v : ℕ) → LiveWays v → cell_below (live_of v) Any ≡ false
below_live_any v (inl (is, _)) = rw is refl
below_live_any v (inr (is, _)) = rw is refl

below_known_live : (n : ℤ) (u : ℕ) → LiveWays u → cell_below (Known n) (live_of u) ≡ false
below_known_live n u (inl (is, _)) = rw is refl
below_known_live n u (inr (is, _)) = rw is refl

below_any_live : (u : ℕ) → LiveWays u → cell_below Any (live_of u) ≡ false
below_any_live u (inl (is, _)) = rw is refl
below_any_live u (inr (is, _)) = rw is refl

below_undef_live : (u : ℕ) → LiveWays u → cell_below Undef (live_of u) ≡ false
below_undef_live u (inl (is, _)) = rw is refl
below_undef_live u (inr (is, _)) = rw is refl

below_live_same : (v : ℕ) → LiveWays v → cell_below (live_of v) (live_of v) ≡ true
below_live_same v (inl (is, _)) = rw is (true_test (v == v) (nat_self v))
below_live_same v (inr (is, _)) = rw is (true_test (v - 256 == v - 256) (nat_self (v - 256)))

below_live_other : (v u : ℕ) → LiveWays v → LiveWays u → (v ≡ u → ⊥) → cell_below (live_of v) (live_of u) ≡ false
below_live_other v u (inl (is, _)) (inl (is', _)) other = rw (is, is') (other_nat v u other)
below_live_other v u (inl (is, _)) (inr (is', _)) other = rw (is, is') refl
below_live_other v u (inr (is, _)) (inl (is', _)) other = rw (is, is') refl
below_live_other v u (inr (is, ge)) (inr (is', ge')) other = rw (is, is') (other_nat (v - 256) (u - 256) (λ e. other (omega (arith, e, ge, ge'))))

-- whether a word fails to be below another, by its bits
abbrev pub fails : (p q p' q' d : Bool) → Bool
fails p q p' q' d = one_of ((p || one_of q q') || d) (((p || one_of q q') || d) && p') || one_of (p' && q) (((p' && q) && q') && p)

pub below_bit : (p q p' q' d : Bool) (v u : ℕ) → v < 2 ^ 32 → u < 2 ^ 32 → (p ≡ false → p' ≡ false → d ≡ not (v == u)) → fails p q p' q' d ≡ not (cell_below (cell_of p q v) (cell_of p' q' u))
below_bit true true true true d v u small small' reports = refl
below_bit true true true false d v u small small' reports = refl
below_bit true true false false d v u small small' reports = refl
below_bit true true false true d v u small small' reports = rw (below_undef_live u (live_ways u)) refl
below_bit true false true true d v u small small' reports = refl
below_bit true false true false d v u small small' reports = refl
below_bit true false false false d v u small small' reports = refl
below_bit true false false true d v u small small' reports = rw (below_any_live u (live_ways u)) refl
below_bit false true true true true v u small small' reports = rw (live_not_free v (live_ways v)) refl
below_bit false true true true false v u small small' reports = rw (live_not_free v (live_ways v)) refl
below_bit false true true false d v u small small' reports = rw (below_live_any v (live_ways v)) refl
below_bit false true false false d v u small small' reports = rw (below_live_known v (signed u) (live_ways v)) refl
below_bit false true false true d v u small small' reports = by_values (cases_eq v u)
  where
    by_values : (v ≡ u) ⊎ (v ≡ u → ⊥) → fails false true false true d ≡ not (cell_below (live_of v) (live_of u))
    by_values (inl same) =
        let off : d ≡ false = reports refl refl ∙ ap (λ n. not (v == n)) (sym same) ∙ same_test v in
        rw (off, ← same, below_live_same v (live_ways v)) refl
    by_values (inr other) =
        let on : d ≡ true = reports refl refl ∙ other_test v u other in
        rw (on, below_live_other v u (live_ways v) (live_ways u) other) refl
below_bit false false true true d v u small small' reports = refl
below_bit false false true false true v u small small' reports = refl
below_bit false false true false false v u small small' reports = refl
below_bit false false false true d v u small small' reports = rw (below_known_live (signed v) u (live_ways u)) refl
below_bit false false false false d v u small small' reports = by_values (cases_eq v u)
  where
    by_values : (v ≡ u) ⊎ (v ≡ u → ⊥) → fails false false false false d ≡ not (cell_below (Known (signed v)) (Known (signed u)))
    by_values (inl same) =
        let off : d ≡ false = reports refl refl ∙ ap (λ n. not (v == n)) (sym same) ∙ same_test v in
        rw (off, ← same, true_test (int_eq (signed v) (signed v)) (int_self (signed v))) refl
    by_values (inr other) =
        let on : d ≡ true = reports refl refl ∙ other_test v u other in
        rw (on, other_int (signed v) (signed u) (λ e. other (same_signed v u small small' e))) refl

set-failing : (d : ℕ) (b c : Bits) (j : ℕ) → is_set (failing_bits d b c) j ≡ fails (is_set b.first j) (is_set b.second j) (is_set c.first j) (is_set c.second j) (is_set d j)
set-failing d b c j = simp (set-or, set-and, set-xor)

pub failing_where : (d : ℕ) (b c : Bits) (j v u : ℕ) → v < 2 ^ 32 → u < 2 ^ 32 →
    (is_set b.first j ≡ false → is_set c.first j ≡ false → is_set d j ≡ not (v == u)) →
    is_set (failing_bits d b c) j ≡ not (cell_below (bits_cell b j v) (bits_cell c j u))
failing_where d b c j v u small small' reports = set-failing d b c j ∙ below_bit (is_set b.first j) (is_set b.second j) (is_set c.first j) (is_set c.second j) (is_set d j) v u small small' reports
