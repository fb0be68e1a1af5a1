-- The steps of an instruction with its prefixes.
use Rattle.std.proofs.Common.{◌≡◌, ℕ, zero, suc, ◌+◌, ◌-◌, ◌<◌, ◌≤◌, Bool, true, false, ◌||◌, if◌then◌else◌, ℤ, pos}
use Rattle.std.proofs.Common.{List, [], ◌∷◌, length, take, drop, slice_get, slice_range, Option, Some, None, refl, sym}
use Rattle.std.proofs.Common.{ap, ◌∙◌, arith, length-drop}
use Rattle.std.proofs.lemmas.Option.{same_Some}
use Rattle.std.proofs.lemmas.List.{length-take}
use Rattle.tp_image.specs.Image.{ImageValue}
use Rattle.tp_words.specs.Words.{signed}
use Rattle.tp_decode.specs.Spelling.{function_of, digit_of, is_pfix, is_nfix, shifted, shifted_complement, spelled, IsSpelledAt}
use Rattle.tp_decode.specs.declared.instr.Instr.{Instr}
use Rattle.tp_decode.specs.Table.{entry}
use Rattle.tp_decode.proofs.TableLemmas.{entry_gives}
use Rattle.tp_step.specs.Effects.{effect}
use Rattle.tp_step.specs.Maybe.{◌>>=◌}
use Rattle.tp_step.specs.State.{State}
use Rattle.tp_step.specs.Steps.{code_byte, performed, step, steps}

-- a state at another place with another Oreg
abbrev pub at : State → ℕ → ℕ → State
at s a o = record s { iptr = pos a; oreg = o }

module _ (image : ImageValue) (s : State) (a b : ℕ) (running : s.stopped ≡ false) (place : s.iptr ≡ pos a) (here : slice_get image.code a ≡ Some b) where
  byte_here : code_byte image.code s.iptr ≡ Some b
  byte_here = rw place here

  pub pfix_step : is_pfix b ≡ true → step image s ≡ Some (at s (a + 1) (shifted (s.oreg + digit_of b)))
  unfolding step
  pfix_step is = rw (running, byte_here, is, place)

  pub nfix_step : is_pfix b ≡ false → is_nfix b ≡ true → step image s ≡ Some (at s (a + 1) (shifted_complement (s.oreg + digit_of b)))
  unfolding step
  nfix_step no_pfix is = rw (running, byte_here, no_pfix, is, place)

  last_step : is_pfix b ≡ false → is_nfix b ≡ false → step image s ≡ performed image (function_of b) (signed (s.oreg + digit_of b)) (at s (a + 1) s.oreg)
  unfolding step
  last_step no_pfix no_nfix = rw (running, byte_here, no_pfix, no_nfix, place)

-- these bytes stand in the code from a place on
abbrev pub HasBytesAt : List ℕ → ℕ → List ℕ → Type 0
HasBytesAt code a [] = Unit {0}
HasBytesAt code a (b ∷ bytes) = (slice_get code a ≡ Some b) × HasBytesAt code (a + 1) bytes

one_more : (image : ImageValue) (s t : State) (n : ℕ) → step image s ≡ Some t → steps image (suc n) s ≡ steps image n t
unfolding steps
one_more image s t n e = rw e

only_one : (image : ImageValue) (s : State) → steps image 1 s ≡ step image s
unfolding steps
only_one image s = by_step (step image s)
  where
    by_step : (o : Option State) → (o >>= λ t. Some t) ≡ o
    by_step None = refl
    by_step (Some t) = refl

-- what a function and an operand make of a state, with Iptr at the next address
abbrev pub outcome : ImageValue → State → ℕ → ℕ × ℤ → Option State
outcome image s next (f, n) = performed image f n (at s next 0)

pub spelled_runs : (image : ImageValue) (bytes : List ℕ) (s : State) (a : ℕ) (fn : ℕ × ℤ) → s.stopped ≡ false →
    s.iptr ≡ pos a → HasBytesAt image.code a bytes → spelled s.oreg bytes ≡ Some fn →
    steps image (length bytes) s ≡ outcome image s (a + length bytes) fn
unfolding spelled
spelled_runs image [] s a fn running place stand e = cc
spelled_runs image (b ∷ []) s a fn running place stand e = by_test (is_pfix b) refl (is_nfix b) refl e
  where
    by_test : (p : Bool) → is_pfix b ≡ p → (q : Bool) → is_nfix b ≡ q →
        ◌≡◌ {A = Option (ℕ × ℤ)} (if p || q then None else Some (function_of b, signed (s.oreg + digit_of b))) (Some fn) →
        steps image 1 s ≡ outcome image s (a + 1) fn
    by_test true is q is' e = cc
    by_test false is true is' e = cc
    by_test false is false is' e = only_one image s ∙ last_step image s a b running place stand.0 is is' ∙ ap (outcome image s (a + 1)) (same_Some _ _ e)
spelled_runs image (b ∷ c ∷ rest) s a fn running place stand e =
    by_test (λ o. spelled_runs image (c ∷ rest) (at s (a + 1) o) (a + 1) fn running refl stand.1) (is_pfix b) refl (is_nfix b) refl e
  where
    by_test : ((o : ℕ) → spelled o (c ∷ rest) ≡ Some fn →
        steps image (length (c ∷ rest)) (at s (a + 1) o) ≡ outcome image s (a + 1 + length (c ∷ rest)) fn) → (p : Bool) →
        is_pfix b ≡ p → (q : Bool) → is_nfix b ≡ q → ◌≡◌ {A = Option (ℕ × ℤ)}
        (if p then spelled (shifted (s.oreg + digit_of b)) (c ∷ rest) else if q then spelled
        (shifted_complement (s.oreg + digit_of b)) (c ∷ rest) else None) (Some fn) →
        steps image (length (b ∷ c ∷ rest)) s ≡ outcome image s (a + length (b ∷ c ∷ rest)) fn
    by_test go true is q is' e =
        one_more image s _ (length (c ∷ rest)) (pfix_step image s a b running place stand.0 is) ∙ go _ e ∙ ap (λ n. outcome image s n fn) (omega arith)
    by_test go false is true is' e =
        one_more image s _ (length (c ∷ rest)) (nfix_step image s a b running place stand.0 is is') ∙ go _ e ∙ ap (λ n. outcome image s n fn) (omega arith)
    by_test go false is false is' e = cc

-- what stands at the front of the rest of a code
front : (code : List ℕ) (a : ℕ) → a < length code → (b : ℕ) × (slice_get code a ≡ Some b) × (drop a code ≡ b ∷ drop (suc a) code)
front [] a h = absurd (omega arith)
front (b ∷ code) zero h = (b, refl, refl)
front (b ∷ code) (suc a) h = front code a (omega arith)

-- a range of a code stands where it was taken
pub stand_range : (n : ℕ) (code : List ℕ) (a : ℕ) → a + n ≤ length code → HasBytesAt code a (take n (drop a code))
stand_range zero code a h = tt
stand_range (suc n) code a h =
    let x = front code a (omega arith) in
    let next : suc a ≡ a + 1 = omega arith in
    let rest : drop a code ≡ x.0 ∷ drop (a + 1) code = x.2 ∙ ap (λ m. x.0 ∷ drop m code) next in
    rw rest (x.1, stand_range n code (a + 1) (omega arith))

pub length-range : (n : ℕ) (code : List ℕ) (a : ℕ) → a + n ≤ length code → length (take n (drop a code)) ≡ n
length-range n code a h = rw (length-take, length-drop) (omega arith)

-- a spelling that stands in the code runs through
pub spelling_runs : (image : ImageValue) (s : State) (a next f : ℕ) (n : ℤ) → s.stopped ≡ false → s.oreg ≡ 0 →
    s.iptr ≡ pos a → IsSpelledAt image.code a record { function = f; operand = n; next = next } →
    steps image (next - a) s ≡ performed image f n (record s { iptr = pos next })
spelling_runs image s a next f n running empty place stands =
    let bytes = slice_range image.code a next in
    let roomy : a + (next - a) ≤ length image.code = omega (arith, stands.forward, stands.within) in
    let count : length bytes ≡ next - a = length-range (next - a) image.code a roomy in
    let end : a + length bytes ≡ next = omega (arith, count, stands.forward) in
    let spells : spelled s.oreg bytes ≡ Some (f, n) = ap (λ o. spelled o bytes) empty ∙ stands.spelling.spells in
    ap (λ k. steps image k s) (sym count)
    ∙ spelled_runs image bytes s a (f, n) running place (stand_range (next - a) image.code a roomy) spells
    ∙ ap (λ k. performed image f n (at s k 0)) end

same_oreg : (image : ImageValue) (instr : Instr) (s : State) (next : ℕ) → s.oreg ≡ 0 → effect image instr (at s next 0) ≡ effect image instr (record s { iptr = pos next })
same_oreg image instr s next empty = ap (λ o. effect image instr (at s next o)) (sym empty)

-- and so does an instruction
pub instruction_runs : (image : ImageValue) (s : State) (a next : ℕ) (instr : Instr) → s.stopped ≡ false → s.oreg ≡ 0 →
    s.iptr ≡ pos a → IsSpelledAt image.code a record {
      function = (entry instr).function;
      operand = (entry instr).operand;
      next = next;
    } → steps image (next - a) s ≡ effect image instr (record s { iptr = pos next })
instruction_runs image s a next instr running empty place stands =
    let found = entry_gives instr in
    spelling_runs image s a next (entry instr).function (entry instr).operand running empty place stands
    ∙ rw found (same_oreg image instr s next empty)
