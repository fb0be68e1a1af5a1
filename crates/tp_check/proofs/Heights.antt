-- Each change of a table leaves fewer changes to it.
use Rattle.std.proofs.Common.{◌≡◌, ℕ, ◌+◌, ◌-◌, ◌*◌, ◌^◌, ◌<◌, ◌≤◌, ◌⊎◌, inl, inr, Bool, true, false, if◌then◌else◌}
use Rattle.std.proofs.Common.{min, max, ℤ, pos, negsuc, ◌+ℤ◌, ◌-ℤ◌, ◌≤ℤ◌, int_le, FitsSigned, w32, List, [], ◌∷◌}
use Rattle.std.proofs.Common.{length, slice_set, slice_index_or, Option, None, refl, ap, arith}
use Rattle.std.specs.Prelude.{sum_by}
use Rattle.std.specs.Int.{int_min, int_max}
use Rattle.std.specs.Ordering.{int_eq}
use Rattle.std.proofs.lemmas.Bool.{cases_lt}
use Rattle.std.proofs.lemmas.Int.{ints, clamps}
use Rattle.std.proofs.lemmas.List.Sums.{sum_by-cons, sum_by-set}
use Rattle.tp_image.specs.Image.{ImageValue}
use Rattle.tp_state.specs.declared.kind.Kind.{Kind}
use Rattle.tp_state.specs.declared.kind.Kind.TheVariants as kind
use Rattle.tp_state.specs.declared.cell.Cell.{Cell}
use Rattle.tp_state.specs.declared.cell.Cell.TheVariants.{Undef, Any, Known, Index, Count}
use Rattle.tp_state.specs.declared.state.State.{State}
use Rattle.tp_state.specs.Kinds.{HasWordEnds}
use Rattle.tp_state.specs.Sound.{IsRange, IsSoundKind, IsSound}
use Rattle.tp_state.specs.Order.{join_kinds, join_cells, joined_cells, join}
use Rattle.tp_check.specs.Rising.{size, kind_height, cell_height, state_height, height, table_height}

-- it stays, or fewer changes are left
abbrev pub Sinks : {X : Type 0} → (X → ℕ) → X → X → Type 0
Sinks f old new = (new ≡ old) ⊎ (f new < f old)

pub sinks_le : {X : Type 0} (f : X → ℕ) (old new : X) → Sinks f old new → f new ≤ f old
sinks_le f old new (inl same) = let e = ap f same in omega (arith, e)
sinks_le f old new (inr less) = omega (arith, less)

-- ---- registers

size_is : (z : ℤ) → pos 0 ≤ℤ z → pos (size z) ≡ z
size_is (pos n) h = refl
size_is (negsuc n) h = absurd (omega (arith, ints))

cases_int : (a b : ℤ) → (a ≤ℤ b) ⊎ ((b +ℤ pos 1) ≤ℤ a)
cases_int a b = by_test (int_le a b) refl
  where
    by_test : (p : Bool) → int_le a b ≡ p → (a ≤ℤ b) ⊎ ((b +ℤ pos 1) ≤ℤ a)
    by_test true e = inl (grind (arith, ints))
    by_test false e = inr (grind (arith, ints))

-- a greater number has a greater size
size_less : (y z : ℤ) → pos 0 ≤ℤ y → (y +ℤ pos 1) ≤ℤ z → size y < size z
size_less y z low less = let y_is = size_is y low in let z_is = size_is z (omega (arith, ints)) in omega (arith, ints)

low_sinks : (a c : ℤ) → FitsSigned w32 c → Sinks (λ n. size (n +ℤ pos (2 ^ 31))) a (int_min a c)
low_sinks a c fits = by_order (cases_int a c)
  where
    by_order : (a ≤ℤ c) ⊎ ((c +ℤ pos 1) ≤ℤ a) → Sinks (λ n. size (n +ℤ pos (2 ^ 31))) a (int_min a c)
    by_order (inl le) = inl (omega (arith, ints, clamps))
    by_order (inr lt) =
        let is : int_min a c ≡ c = omega (arith, ints, clamps) in
        inr (rw is (size_less (c +ℤ pos (2 ^ 31)) (a +ℤ pos (2 ^ 31)) (omega (arith, ints)) (omega (arith, ints))))

high_sinks : (b d : ℤ) → FitsSigned w32 d → Sinks (λ n. size (pos (2 ^ 31 - 1) -ℤ n)) b (int_max b d)
high_sinks b d fits = by_order (cases_int d b)
  where
    by_order : (d ≤ℤ b) ⊎ ((b +ℤ pos 1) ≤ℤ d) → Sinks (λ n. size (pos (2 ^ 31 - 1) -ℤ n)) b (int_max b d)
    by_order (inl le) = inl (omega (arith, ints, clamps))
    by_order (inr lt) =
        let is : int_max b d ≡ d = omega (arith, ints, clamps) in
        inr (rw is (size_less (pos (2 ^ 31 - 1) -ℤ d) (pos (2 ^ 31 - 1) -ℤ b) (omega (arith, ints)) (omega (arith, ints))))

-- of two ends
both_sink : {X : Type 0} (make : X → X → Kind) (f g : X → ℕ) (a a' b b' : X) → Sinks f a a' → Sinks g b b' → (make a' b' ≡ make a b) ⊎ (1 + f a' + g b' < 1 + f a + g b)
both_sink make f g a a' b b' (inl e) (inl e') = inl (rw (e, e') refl)
both_sink make f g a a' b b' (inr less) sinks = let le = sinks_le g b b' sinks in inr (omega (arith, less, le))
both_sink make f g a a' b b' sinks (inr less) = let le = sinks_le f a a' sinks in inr (omega (arith, less, le))

first_sinks : (a c : ℕ) → Sinks (λ n. n) a (min a c)
first_sinks a c = by_order (cases_lt c a)
  where
    by_order : (c < a) ⊎ (a ≤ c) → Sinks (λ n. n) a (min a c)
    by_order (inl lt) = inr (omega (arith, lt))
    by_order (inr le) = inl (omega (arith, le))

last_sinks : (b d : ℕ) → d < 2 ^ 32 → Sinks (λ n. 2 ^ 32 - 1 - n) b (max b d)
last_sinks b d fits = by_order (cases_lt b d)
  where
    by_order : (b < d) ⊎ (d ≤ b) → Sinks (λ n. 2 ^ 32 - 1 - n) b (max b d)
    by_order (inl lt) = inr (omega (arith, lt, fits))
    by_order (inr le) = inl (omega (arith, le))

pub kind_sinks : (k l : Kind) → HasWordEnds l → Sinks kind_height k (join_kinds k l)
kind_sinks (kind.Int a b) (kind.Int c d) ends = both_sink kind.Int (λ n. size (n +ℤ pos (2 ^ 31)))
    (λ n. size (pos (2 ^ 31 - 1) -ℤ n)) a (int_min a c) b (int_max b d) (low_sinks a c ends.0) (high_sinks b d ends.1)
kind_sinks (kind.Ptr a b) (kind.Ptr c d) ends = both_sink kind.Ptr (λ n. n) (λ n. 2 ^ 32 - 1 - n) a (min a c) b (max b d) (first_sinks a c) (last_sinks b d ends.1)
kind_sinks (kind.BytePtr a b) (kind.BytePtr c d) ends = both_sink kind.BytePtr (λ n. n) (λ n. 2 ^ 32 - 1 - n) a (min a c) b (max b d) (first_sinks a c) (last_sinks b d ends.1)
kind_sinks kind.Undef l ends = inl refl
kind_sinks (kind.Int a b) kind.Undef ends = inr (omega arith)
kind_sinks (kind.Int a b) (kind.Ptr c d) ends = inr (omega arith)
kind_sinks (kind.Int a b) (kind.BytePtr c d) ends = inr (omega arith)
kind_sinks (kind.Ptr a b) kind.Undef ends = inr (omega arith)
kind_sinks (kind.Ptr a b) (kind.Int c d) ends = inr (omega arith)
kind_sinks (kind.Ptr a b) (kind.BytePtr c d) ends = inr (omega arith)
kind_sinks (kind.BytePtr a b) kind.Undef ends = inr (omega arith)
kind_sinks (kind.BytePtr a b) (kind.Int c d) ends = inr (omega arith)
kind_sinks (kind.BytePtr a b) (kind.Ptr c d) ends = inr (omega arith)

-- a register has at most this many changes
pub kind_light : (k : Kind) → HasWordEnds k → kind_height k ≤ 2 ^ 33
kind_light kind.Undef ends = omega arith
kind_light (kind.Int a b) ends =
    let low = size_is (a +ℤ pos (2 ^ 31)) (let f = ends.0 in omega (arith, ints)) in
    let high = size_is (pos (2 ^ 31 - 1) -ℤ b) (let f = ends.1 in omega (arith, ints)) in
    let f = ends.0 in let g = ends.1 in
    omega (arith, ints)
kind_light (kind.Ptr a b) ends = let f = ends.0 in omega arith
kind_light (kind.BytePtr a b) ends = let f = ends.0 in omega arith

-- ---- words

known_sinks : (n m : ℤ) (p : Bool) → Sinks cell_height (Known n) (if p then Known n else Any)
known_sinks n m true = inl refl
known_sinks n m false = inr (omega arith)

live_sinks : (make : ℕ → Cell) (l : ℕ) (p : Bool) → 0 < cell_height (make l) → Sinks cell_height (make l) (if p then make l else Undef)
live_sinks make l true some = inl refl
live_sinks make l false some = inr some

pub cell_sinks : (c d : Cell) → Sinks cell_height c (join_cells c d)
cell_sinks Undef d = inl (undef d)
  where
    undef : (d : Cell) → join_cells Undef d ≡ Undef
    undef Undef = refl
    undef Any = refl
    undef (Known n) = refl
    undef (Index l) = refl
    undef (Count l) = refl
cell_sinks Any Any = inl refl
cell_sinks Any (Known m) = inl refl
cell_sinks Any Undef = inr (omega arith)
cell_sinks Any (Index k) = inr (omega arith)
cell_sinks Any (Count k) = inr (omega arith)
cell_sinks (Known n) (Known m) = known_sinks n m (int_eq n m)
cell_sinks (Known n) Any = inr (omega arith)
cell_sinks (Known n) Undef = inr (omega arith)
cell_sinks (Known n) (Index k) = inr (omega arith)
cell_sinks (Known n) (Count k) = inr (omega arith)
cell_sinks (Index l) (Index k) = live_sinks Index l _ (omega arith)
cell_sinks (Index l) Undef = inr (omega arith)
cell_sinks (Index l) Any = inr (omega arith)
cell_sinks (Index l) (Known m) = inr (omega arith)
cell_sinks (Index l) (Count k) = inr (omega arith)
cell_sinks (Count l) (Count k) = live_sinks Count l _ (omega arith)
cell_sinks (Count l) Undef = inr (omega arith)
cell_sinks (Count l) Any = inr (omega arith)
cell_sinks (Count l) (Known m) = inr (omega arith)
cell_sinks (Count l) (Index k) = inr (omega arith)

first_and_rest : (c c' : Cell) (cs cs' : List Cell) → Sinks cell_height c c' → Sinks (sum_by cell_height) cs cs' → Sinks (sum_by cell_height) (c ∷ cs) (c' ∷ cs')
first_and_rest c c' cs cs' (inl e) (inl e') = inl (rw (e, e') refl)
first_and_rest c c' cs cs' (inr less) sinks =
    let le = sinks_le (sum_by cell_height) cs cs' sinks in
    inr (omega (arith, less, le, sum_by-cons cell_height c cs, sum_by-cons cell_height c' cs'))
first_and_rest c c' cs cs' sinks (inr less) =
    let le = sinks_le cell_height c c' sinks in
    inr (omega (arith, less, le, sum_by-cons cell_height c cs, sum_by-cons cell_height c' cs'))

pub cells_sink : (cs ds : List Cell) → length ds ≡ length cs → Sinks (sum_by cell_height) cs (joined_cells cs ds)
cells_sink [] ds long = inl refl
cells_sink (c ∷ cs) [] long = absurd (omega (arith, long))
cells_sink (c ∷ cs) (d ∷ ds) long = first_and_rest c (join_cells c d) cs (joined_cells cs ds) (cell_sinks c d) (cells_sink cs ds (omega (arith, long)))

cell_light : (c : Cell) → cell_height c ≤ 2
cell_light Undef = omega arith
cell_light Any = omega arith
cell_light (Known n) = omega arith
cell_light (Index l) = omega arith
cell_light (Count l) = omega arith

cells_light : (cs : List Cell) → sum_by cell_height cs ≤ 2 * length cs
cells_light [] = omega arith
cells_light (c ∷ cs) = omega (arith, cell_light c, cells_light cs, sum_by-cons cell_height c cs)

-- ---- states

-- the registers' ends are words
pub record HasWords (s : State) : Type 0 where
  pub a : HasWordEnds s.a
  pub b : HasWordEnds s.b
  pub c : HasWordEnds s.c

word_ends : (k : Kind) → IsSoundKind k → HasWordEnds k
word_ends kind.Undef r = tt
word_ends (kind.Int a b) r = range_ends a b r
  where
    range_ends : (a b : ℤ) → IsRange a b → FitsSigned w32 a × FitsSigned w32 b
    range_ends a b r = let l = r.least in let o = r.ordered in let g = r.greatest in (grind (arith, ints), grind (arith, ints))
word_ends (kind.Ptr p q) r = let o = r.ordered in let g = r.greatest in (omega arith, omega arith)
word_ends (kind.BytePtr p q) r = let o = r.ordered in let g = r.greatest in (omega arith, omega arith)

-- a sound state's are
pub sound_words : (image : ImageValue) (s : State) → IsSound image s → HasWords s
sound_words image s sound = record { a = word_ends s.a sound.a; b = word_ends s.b sound.b; c = word_ends s.c sound.c }

same_known : (t : State) (a b c : Kind) (cells : List Cell) → a ≡ t.a → b ≡ t.b → c ≡ t.c → cells ≡ t.cells → record t { a = a; b = b; c = c; cells = cells } ≡ t
same_known t a b c cells e f g h = rw (e, f, g, h) refl

-- a join changes nothing, or leaves fewer changes
pub state_sinks : (t s : State) → HasWords s → length s.cells ≡ length t.cells → Sinks state_height t (join t s)
unfolding state_height
state_sinks t s words long = by_parts (kind_sinks t.a s.a words.a) (kind_sinks t.b s.b words.b) (kind_sinks t.c s.c words.c) (cells_sink t.cells s.cells long)
  where
    by_parts : Sinks kind_height t.a (join_kinds t.a s.a) → Sinks kind_height t.b (join_kinds t.b s.b) →
        Sinks kind_height t.c (join_kinds t.c s.c) → Sinks (sum_by cell_height) t.cells (joined_cells t.cells s.cells) →
        Sinks state_height t (join t s)
    by_parts (inl a) (inl b) (inl c) (inl cells) = inl (same_known t _ _ _ _ a b c cells)
    by_parts (inr a) b c cells = let b_le = sinks_le kind_height _ _ b in let c_le = sinks_le kind_height _ _ c in
        let cells_le = sinks_le (sum_by cell_height) _ _ cells in inr (omega (arith, a, b_le, c_le, cells_le))
    by_parts a (inr b) c cells = let a_le = sinks_le kind_height _ _ a in let c_le = sinks_le kind_height _ _ c in
        let cells_le = sinks_le (sum_by cell_height) _ _ cells in inr (omega (arith, b, a_le, c_le, cells_le))
    by_parts a b (inr c) cells = let a_le = sinks_le kind_height _ _ a in let b_le = sinks_le kind_height _ _ b in
        let cells_le = sinks_le (sum_by cell_height) _ _ cells in inr (omega (arith, c, a_le, b_le, cells_le))
    by_parts a b c (inr cells) = let a_le = sinks_le kind_height _ _ a in let b_le = sinks_le kind_height _ _ b in let c_le = sinks_le kind_height _ _ c in inr (omega (arith, cells, a_le, b_le, c_le))

-- an address without a state has more changes left than one with a state
pub state_light : (image : ImageValue) (s : State) → HasWords s → length s.cells ≡ image.workspace → state_height s < height image None
unfolding state_height
state_light image s words long =
    let a = kind_light s.a words.a in let b = kind_light s.b words.b in let c = kind_light s.c words.c in let cells = cells_light s.cells in
    omega (arith, a, b, c, cells, long)

-- ---- tables

-- where one address sinks, the table does
pub table_sinks : (image : ImageValue) (states : List (Option State)) (i : ℕ) (new : Option State) → i < length states →
    height image new < height image (slice_index_or states i None) →
    table_height image (slice_set states i new) < table_height image states
unfolding table_height
table_sinks image states i new inside less = omega (arith, less, sum_by-set (height image) states i new None inside)
