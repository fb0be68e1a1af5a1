-- Words, and the addresses of the workspace's words and bytes.
use Rattle.std.proofs.Common.{◌≡◌, ◌⊎◌, inl, inr, w32, ℕ, suc, ◌+◌, ◌-◌, ◌*◌, ◌/◌, ◌%◌, ◌^◌, ◌<◌, ◌≤◌, true, false, ℤ, pos, negsuc, ◌+ℤ◌, ◌-ℤ◌, ◌*ℤ◌, ◌≤ℤ◌, arith, ◌∙◌, ap}
use Rattle.std.proofs.lemmas.Int.{ints, to_z_pos}
use Rattle.std.proofs.lemmas.Bool.{cases_lt}
use Rattle.std.proofs.lemmas.Bool.Decides.{nat_tests}
use Rattle.tp_words.specs.Words.{signed, low_word}
use Rattle.tp_image.specs.Image.{ImageValue}
use Rattle.tp_words.specs.Numbers.{overflows, words_on, least_integer, greatest_integer}
use Rattle.tp_step.specs.State.{mem_start, in_workspace, is_word}
use Rattle.tp_state.specs.Fits.{word_address}

-- ---- wrapping and reading signed

pub low_word_lt : (z : ℤ) → low_word z < 2 ^ 32
low_word_lt (pos n) = omega arith
low_word_lt (negsuc n) = omega arith

pub signed_low_word : (z : ℤ) → overflows z ≡ false → signed (low_word z) ≡ z
signed_low_word z e = grind (arith, ints, nat_tests)

pub signed_above : (v : ℕ) → v < 2 ^ 32 → least_integer ≤ℤ signed v
signed_above v h = omega (arith, ints)

pub signed_below : (v : ℕ) → v < 2 ^ 32 → signed v ≤ℤ greatest_integer
signed_below v h = omega (arith, ints)

pub signed_low : (v : ℕ) → v < 2 ^ 31 → signed v ≡ pos v
signed_low v h = to_z_pos w32 v h

signed_high : (v : ℕ) → 2 ^ 31 ≤ v → signed v ≡ negsuc (2 ^ 32 - suc v)
signed_high v h = grind (arith, nat_tests)

-- a number from 0 up reads as it stands
pub signed_natural : (v : ℕ) → v < 2 ^ 32 → pos 0 ≤ℤ signed v → signed v ≡ pos v
signed_natural v h low = by_sign (cases_lt v (2 ^ 31))
  where
    by_sign : (v < 2 ^ 31) ⊎ (2 ^ 31 ≤ v) → signed v ≡ pos v
    by_sign (inl small) = signed_low v small
    by_sign (inr large) = let is = signed_high v large in absurd (omega (arith, ints))

pub natural_signed : (v n : ℕ) → v < 2 ^ 32 → signed v ≡ pos n → v ≡ n
natural_signed v n h e =
    let is : signed v ≡ pos v = signed_natural v h (omega (arith, ints)) in
    omega (arith, ints)

pub signed_same : (v w : ℕ) → v < 2 ^ 32 → w < 2 ^ 32 → signed v ≡ signed w → v ≡ w
signed_same v w hv hw e = by_signs (cases_lt v (2 ^ 31)) (cases_lt w (2 ^ 31))
  where
    by_signs : (v < 2 ^ 31) ⊎ (2 ^ 31 ≤ v) → (w < 2 ^ 31) ⊎ (2 ^ 31 ≤ w) → v ≡ w
    by_signs (inl a) (inl b) =
        let v_is = signed_low v a in
        let w_is = signed_low w b in
        omega (arith, ints)
    by_signs (inl a) (inr b) =
        let v_is = signed_low v a in
        let w_is = signed_high w b in
        absurd (omega (arith, ints))
    by_signs (inr a) (inl b) =
        let v_is = signed_high v a in
        let w_is = signed_low w b in
        absurd (omega (arith, ints))
    by_signs (inr a) (inr b) =
        let v_is = signed_high v a in
        let w_is = signed_high w b in
        omega (arith, ints)

pub signed_complement : (v : ℕ) → v < 2 ^ 32 → signed (2 ^ 32 - 1 - v) ≡ negsuc 0 -ℤ signed v
signed_complement v h = by_sign (cases_lt v (2 ^ 31))
  where
    by_sign : (v < 2 ^ 31) ⊎ (2 ^ 31 ≤ v) → signed (2 ^ 32 - 1 - v) ≡ negsuc 0 -ℤ signed v
    by_sign (inl small) =
        let is = signed_low v small in
        let its = signed_high (2 ^ 32 - 1 - v) (omega arith) in
        omega (arith, ints)
    by_sign (inr large) =
        let is = signed_high v large in
        let its = signed_low (2 ^ 32 - 1 - v) (omega arith) in
        omega (arith, ints)

-- a number in whole turns of 2 ^ 32 and a word
low_word_is : (z k : ℤ) (w : ℕ) → w < 2 ^ 32 → z ≡ pos w +ℤ (k *ℤ pos (2 ^ 32)) → low_word z ≡ w
low_word_is (pos n) (pos k) w lt e = let e' : n ≡ w + k * 2 ^ 32 = omega (arith, ints) in omega arith
low_word_is (pos n) (negsuc k) w lt e = absurd (omega (arith, ints))
low_word_is (negsuc n) (pos k) w lt e = absurd (omega (arith, ints))
low_word_is (negsuc n) (negsuc k) w lt e = let e' : n + 1 + w ≡ (k + 1) * 2 ^ 32 = omega (arith, ints) in omega arith

turns_of_word : (z : ℤ) → (k : ℤ) × (z ≡ pos (low_word z) +ℤ (k *ℤ pos (2 ^ 32)))
turns_of_word (pos n) = (pos (n / 2 ^ 32), omega (arith, ints))
turns_of_word (negsuc n) = (negsuc (n / 2 ^ 32), omega (arith, ints))

pub low_word_alike : (y z k : ℤ) → y ≡ z +ℤ (k *ℤ pos (2 ^ 32)) → low_word y ≡ low_word z
low_word_alike y z k e =
    let turns = turns_of_word z in
    let j = turns.0 in
    let is : z ≡ pos (low_word z) +ℤ (j *ℤ pos (2 ^ 32)) = turns.1 in
    low_word_is y (j +ℤ k) (low_word z) (low_word_lt z) (omega (arith, ints))

pub unsigned_is : (v : ℕ) → v < 2 ^ 32 → (k : ℤ) × (pos v ≡ signed v +ℤ (k *ℤ pos (2 ^ 32)))
unsigned_is v h = by_sign (cases_lt v (2 ^ 31))
  where
    by_sign : (v < 2 ^ 31) ⊎ (2 ^ 31 ≤ v) → (k : ℤ) × (pos v ≡ signed v +ℤ (k *ℤ pos (2 ^ 32)))
    by_sign (inl low) = (pos 0, omega (arith, ints))
    by_sign (inr high) =
        let is = signed_high v high in
        let e : v + suc (2 ^ 32 - suc v) ≡ 2 ^ 32 = omega arith in
        (pos 1, omega (arith, ints))

-- wrapping sums and differences of unsigned words
pub unsigned_sum : (x y : ℕ) → x < 2 ^ 32 → y < 2 ^ 32 → low_word (pos y +ℤ pos x) ≡ low_word (signed y +ℤ signed x)
unsigned_sum x y hx hy =
    let ux = unsigned_is x hx in
    let uy = unsigned_is y hy in
    let j = ux.0 in
    let k = uy.0 in
    let x_is : pos x ≡ signed x +ℤ (j *ℤ pos (2 ^ 32)) = ux.1 in
    let y_is : pos y ≡ signed y +ℤ (k *ℤ pos (2 ^ 32)) = uy.1 in
    low_word_alike (pos y +ℤ pos x) (signed y +ℤ signed x) (j +ℤ k) (omega (arith, ints))

pub unsigned_difference : (x y : ℕ) → x < 2 ^ 32 → y < 2 ^ 32 → low_word (pos y -ℤ pos x) ≡ low_word (signed y -ℤ signed x)
unsigned_difference x y hx hy =
    let ux = unsigned_is x hx in
    let uy = unsigned_is y hy in
    let j = ux.0 in
    let k = uy.0 in
    let x_is : pos x ≡ signed x +ℤ (j *ℤ pos (2 ^ 32)) = ux.1 in
    let y_is : pos y ≡ signed y +ℤ (k *ℤ pos (2 ^ 32)) = uy.1 in
    low_word_alike (pos y -ℤ pos x) (signed y -ℤ signed x) (k -ℤ j) (omega (arith, ints))

-- ---- addresses

pub word_address_lt : (x : ℕ) → x < 512 → word_address x < 2 ^ 32
word_address_lt x h = omega arith

-- the address of a workspace word, from that of another
pub words_on_is : (x y : ℕ) (n : ℤ) → x < 512 → y < 512 → pos x +ℤ n ≡ pos y → words_on (word_address x) n ≡ word_address y
words_on_is x y n lt lt' e =
    let sum_is : pos (word_address x) +ℤ (n *ℤ pos 4) ≡ pos (word_address y) = omega (arith, ints) in
    let small : (word_address y) % 2 ^ 32 ≡ word_address y = omega arith in
    ap low_word sum_is ∙ small

pub is_word_at : (image : ImageValue) (x : ℕ) → x < image.workspace → is_word image (word_address x) ≡ true
is_word_at image x lt = grind (arith, nat_tests)

pub words_inside : (image : ImageValue) (x n : ℕ) → x + n ≤ image.workspace → in_workspace image (word_address x) (4 * n) ≡ true
words_inside image x n le = grind (arith, nat_tests)

pub byte_inside : (image : ImageValue) (x : ℕ) → x < 4 * image.workspace → in_workspace image (mem_start + x) 1 ≡ true
byte_inside image x lt = grind (arith, nat_tests)
