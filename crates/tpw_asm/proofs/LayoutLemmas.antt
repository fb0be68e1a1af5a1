-- Lines grow with the lines between their labels.
use Rattle.std.proofs.Common.{◌≡◌, ◌≢◌, ◌⊎◌, inl, inr, ℕ, zero, suc, ◌+◌, ◌-◌, ◌*◌, ◌/◌, ◌%◌, ◌<◌, ◌≤◌, ◌^◌, Bool, true}
use Rattle.std.proofs.Common.{false, nat_lt, if◌then◌else◌, ℤ, pos, negsuc, List, [], ◌∷◌, ◌++◌, length, map, replicate}
use Rattle.std.proofs.Common.{get_or, sum, Option, Some, None, unwrap_or, refl, ap, ◌∙◌, arith, length-append}
use Rattle.std.specs.Option.{option_or, option_map}
use Rattle.std.proofs.lemmas.Bool.Decides.{nat_tests}
use Rattle.std.proofs.lemmas.Grind.{common_steps}
use Rattle.std.proofs.lemmas.Bool.{cases_lt}
use Rattle.std.proofs.lemmas.List.{get_or_read}
use Rattle.std.proofs.lemmas.List.Sums.{sum_by-cons}
use Rattle.std.proofs.lemmas.List.Folds.{sum_by-replicate}
use Rattle.tp_prefix.specs.Canonical.{natural_spelling, canonical}
use Rattle.tp_decode.specs.Table.{entry}
use Rattle.tp_decode.specs.Lines.{shortest}
use Rattle.tpw_asm.specs.declared.program.Operation.{Operation}
use Rattle.tpw_asm.specs.declared.program.Operation.TheVariants.{Plain, JumpTo, CjTo, Distance}
use Rattle.tpw_asm.specs.declared.program.Line.{Line}
use Rattle.tpw_asm.specs.declared.program.Line.TheVariants.{Byte, Spelled}
use Rattle.tpw_asm.specs.declared.fault.LineFault.{LineFault}
use Rattle.tpw_asm.specs.declared.fault.LineFault.TheVariants.{TooWide, NoPlace, Backward}
use Rattle.tpw_asm.specs.declared.fault.AssemblyFault.{AssemblyFault}
use Rattle.tpw_asm.specs.Layout.{addresses_from, distance, instr_at, filled, spelled_at, spelled_from, spellings, IsLayout, AreAtMost}
use Rattle.tpw_asm.specs.Faults.{way_fault, operation_fault, line_fault, first_fault, AreSound}
use Rattle.tpw_asm.specs.Outcome.{AreAddresses}

-- how long lines are spelled where places have these addresses
abbrev pub needed_at : List ℕ → List Line → List ℕ
needed_at addresses lines = map length (spelled_from addresses 0 lines)

-- and where they are so long
abbrev pub needed : List Line → List ℕ → List ℕ
needed lines lengths = map length (spellings lengths lines)

pub length-addresses : (at : ℕ) (lengths : List ℕ) → length (addresses_from at lengths) ≡ length lengths + 1
length-addresses at [] = refl
length-addresses at (x ∷ lengths) = omega (arith, length-addresses (at + x) lengths)

pub sum-cons : (x : ℕ) (xs : List ℕ) → sum (x ∷ xs) ≡ x + sum xs
sum-cons x xs = sum_by-cons (λ n. n) x xs

-- the address of a place is at least the first
pub address_above : (at : ℕ) (lengths : List ℕ) (place : ℕ) → place ≤ length lengths → at ≤ get_or (addresses_from at lengths) place 0
address_above at [] zero h = omega arith
address_above at [] (suc place) h = absurd (omega arith)
address_above at (x ∷ lengths) zero h = omega arith
address_above at (x ∷ lengths) (suc place) h = omega (arith, address_above (at + x) lengths place (omega arith))

-- addresses rise
pub addresses_rise : (at : ℕ) (lengths : List ℕ) (from to : ℕ) → from ≤ to → to ≤ length lengths → get_or (addresses_from at lengths) from 0 ≤ get_or (addresses_from at lengths) to 0
addresses_rise at [] zero zero h h' = omega arith
addresses_rise at [] zero (suc to) h h' = absurd (omega arith)
addresses_rise at [] (suc from) to h h' = absurd (omega arith)
addresses_rise at (x ∷ lengths) zero to h h' = address_above at (x ∷ lengths) to h'
addresses_rise at (x ∷ lengths) (suc from) zero h h' = absurd (omega arith)
addresses_rise at (x ∷ lengths) (suc from) (suc to) h h' = addresses_rise (at + x) lengths from to (omega arith) (omega arith)

-- the last address is where the lines end
pub last_address : (at : ℕ) (lengths : List ℕ) → get_or (addresses_from at lengths) (length lengths) 0 ≡ at + sum lengths
last_address at [] = omega arith
last_address at (x ∷ lengths) = last_address (at + x) lengths ∙ omega (arith, sum-cons x lengths)

-- the way from the first place grows
ahead : (at at' : ℕ) (xs ys : List ℕ) (place : ℕ) → AreAtMost xs ys → place ≤ length xs → get_or (addresses_from at xs) place 0 + at' ≤ get_or (addresses_from at' ys) place 0 + at
ahead at at' [] [] zero most h = omega arith
ahead at at' [] [] (suc place) most h = absurd (omega arith)
ahead at at' [] (y ∷ ys) place most h = absurd most
ahead at at' (x ∷ xs) [] place most h = absurd most
ahead at at' (x ∷ xs) (y ∷ ys) zero most h = omega arith
ahead at at' (x ∷ xs) (y ∷ ys) (suc place) most h = omega (arith, ahead (at + x) (at' + y) xs ys place most.1 (omega arith), most.0)

-- each way grows
pub way_grows : (at at' : ℕ) (xs ys : List ℕ) (from to : ℕ) → AreAtMost xs ys → from ≤ to → to ≤ length xs → distance (addresses_from at xs) from to ≤ distance (addresses_from at' ys) from to
way_grows at at' [] [] zero to most h h' = omega (arith, ahead at at' [] [] to most h')
way_grows at at' [] [] (suc from) to most h h' = absurd (omega arith)
way_grows at at' [] (y ∷ ys) from to most h h' = absurd most
way_grows at at' (x ∷ xs) [] from to most h h' = absurd most
way_grows at at' (x ∷ xs) (y ∷ ys) zero to most h h' = omega (arith, ahead at at' (x ∷ xs) (y ∷ ys) to most h')
way_grows at at' (x ∷ xs) (y ∷ ys) (suc from) zero most h h' = absurd (omega arith)
way_grows at at' (x ∷ xs) (y ∷ ys) (suc from) (suc to) most h h' = way_grows (at + x) (at' + y) xs ys from to most.1 (omega arith) (omega arith)

-- a longer number is not spelled shorter
pub natural_grows : (digits f g e e' : ℕ) → e ≤ e' → length (natural_spelling digits f e) ≤ length (natural_spelling digits g e')
unfolding natural_spelling
natural_grows zero f g e e' h = omega arith
natural_grows (suc digits) f g e e' h = by_test (natural_grows digits 2 2 (e / 16) (e' / 16)) (nat_lt e 16) refl (nat_lt e' 16) refl
  where
    by_test : (e / 16 ≤ e' / 16 → length (natural_spelling digits 2 (e / 16)) ≤ length (natural_spelling digits 2 (e' / 16))) → (p : Bool) → nat_lt e 16 ≡ p → (q : Bool) → nat_lt e' 16 ≡ q
        → length (if p then (16 * f + e) ∷ [] else natural_spelling digits 2 (e / 16) ++ (16 * f + e % 16) ∷ []) ≤
        length (if q then (16 * g + e') ∷ [] else natural_spelling digits 2 (e' / 16) ++ (16 * g + e' % 16) ∷ [])
    by_test go true test true test' = omega arith
    by_test go true test false test' = rw length-append (omega arith)
    by_test go false test true test' = absurd (grind (arith, nat_tests))
    by_test go false test false test' = rw (length-append, length-append) (omega (arith, go (omega arith)))

pub canonical_grows : (f e e' : ℕ) → e ≤ e' → length (canonical f (pos e)) ≤ length (canonical f (pos e'))
unfolding canonical
canonical_grows f e e' h = natural_grows 8 f f e e' h

pub length-filled : (bytes : ℕ) (spelling : List ℕ) → length (filled bytes spelling) ≡ (bytes - length spelling) + length spelling
length-filled bytes spelling = length-append (replicate (bytes - length spelling) 0x20) spelling ∙ grind (arith, common_steps)

pub filled_grows : (bytes : ℕ) (s t : List ℕ) → length s ≤ length t → length (filled bytes s) ≤ length (filled bytes t)
filled_grows bytes s t h = omega (arith, length-filled bytes s, length-filled bytes t)

-- what a way without a fault is
pub way_is : (count from to : ℕ) → way_fault count from to ≡ None → (from ≤ to) × (to ≤ count)
way_is count from to is = by_test (nat_lt count to) refl (nat_lt to from) refl is
  where
    by_test : (p : Bool) → nat_lt count to ≡ p → (q : Bool) → nat_lt to from ≡ q → (if p then Some NoPlace else if q then Some Backward else None) ≡ None → (from ≤ to) × (to ≤ count)
    by_test true test q test' is = cc
    by_test false test true test' is = cc
    by_test false test false test' is = (grind (arith, nat_tests), grind (arith, nat_tests))

operation_grows : (xs ys : List ℕ) (number : ℕ) (operation : Operation) → AreAtMost xs ys → operation_fault (length xs) number operation ≡ None
    → length (shortest (instr_at (addresses_from 0 xs) number operation)) ≤ length (shortest (instr_at (addresses_from 0 ys) number operation))
operation_grows xs ys number (Plain instr) most sound = omega arith
operation_grows xs ys number (JumpTo target) most sound = let way = way_is _ _ _ sound in canonical_grows 0x0 _ _ (way_grows 0 0 xs ys (number + 1) target most way.0 way.1)
operation_grows xs ys number (CjTo target) most sound = let way = way_is _ _ _ sound in canonical_grows 0xA _ _ (way_grows 0 0 xs ys (number + 1) target most way.0 way.1)
operation_grows xs ys number (Distance from to) most sound = let way = way_is _ _ _ sound in canonical_grows 0x4 _ _ (way_grows 0 0 xs ys from to most way.0 way.1)

-- what a line without a fault is
pub operation_sound : (count number : ℕ) (operation : Operation) (bytes : Option ℕ) →
    line_fault count number (Spelled operation bytes) ≡ None → (operation_fault count number operation ≡ None) ×
    (unwrap_or bytes 0 ≤ 8)
operation_sound count number operation bytes sound = by_test (nat_lt 8 (unwrap_or bytes 0)) refl sound
  where
    by_test : (p : Bool) → nat_lt 8 (unwrap_or bytes 0) ≡ p →
        (if p then Some TooWide else operation_fault count number operation) ≡ None →
        (operation_fault count number operation ≡ None) × (unwrap_or bytes 0 ≤ 8)
    by_test true test is = cc
    by_test false test is = (is, grind (arith, nat_tests))

line_grows : (xs ys : List ℕ) (number : ℕ) (line : Line) → AreAtMost xs ys → line_fault (length xs) number line ≡ None
    → length (spelled_at (addresses_from 0 xs) number line) ≤ length (spelled_at (addresses_from 0 ys) number line)
line_grows xs ys number (Byte byte) most sound = omega arith
line_grows xs ys number (Spelled operation bytes) most sound =
    filled_grows (unwrap_or bytes 0) _ _ (operation_grows xs ys number operation most ((operation_sound (length xs) number operation bytes sound).0))

-- the first of lines without a fault has none, and the others have none
pub sound_first : (count number : ℕ) (line : Line) (lines : List Line) →
    first_fault count number (line ∷ lines) ≡ None → (line_fault count number line ≡ None) ×
    (first_fault count (number + 1) lines ≡ None)
sound_first count number line lines sound = by_case (line_fault count number line) refl sound
  where
    by_case : (fault : Option LineFault) → line_fault count number line ≡ fault →
        option_or (option_map (λ fault. AssemblyFault.Line number fault) fault) (first_fault count (number + 1) lines) ≡
        None → (line_fault count number line ≡ None) × (first_fault count (number + 1) lines ≡ None)
    by_case None is sound = (is, sound)
    by_case (Some fault) is sound = cc

lines_grow : (xs ys : List ℕ) (number : ℕ) (lines : List Line) → AreAtMost xs ys → first_fault (length xs) number lines ≡ None
    → AreAtMost (map length (spelled_from (addresses_from 0 xs) number lines)) (map length (spelled_from (addresses_from 0 ys) number lines))
lines_grow xs ys number [] most sound = tt
lines_grow xs ys number (line ∷ lines) most sound =
    let parts = sound_first (length xs) number line lines sound in
    (line_grows xs ys number line most parts.0, lines_grow xs ys (number + 1) lines most parts.1)

-- longer lines need no fewer bytes
pub needed_grows : (lines : List Line) (xs ys : List ℕ) → length xs ≡ length lines → AreSound lines → AreAtMost xs ys → AreAtMost (needed lines xs) (needed lines ys)
needed_grows lines xs ys count sound most = lines_grow xs ys 0 lines most (rw count sound)

pub length-needed : (addresses : List ℕ) (number : ℕ) (lines : List Line) → length (map length (spelled_from addresses number lines)) ≡ length lines
length-needed addresses number [] = refl
length-needed addresses number (line ∷ lines) = ap suc (length-needed addresses (number + 1) lines)

-- where no line is longer, all together are no longer
pub sum_grows : (xs ys : List ℕ) → AreAtMost xs ys → sum xs ≤ sum ys
sum_grows [] [] most = omega arith
sum_grows [] (y ∷ ys) most = absurd most
sum_grows (x ∷ xs) [] most = absurd most
sum_grows (x ∷ xs) (y ∷ ys) most = omega (arith, sum-cons x xs, sum-cons y ys, sum_grows xs ys most.1, most.0)

pub same_sum : (xs ys : List ℕ) → AreAtMost xs ys → sum ys ≤ sum xs → xs ≡ ys
same_sum [] [] most h = refl
same_sum [] (y ∷ ys) most h = absurd most
same_sum (x ∷ xs) [] most h = absurd most
same_sum (x ∷ xs) (y ∷ ys) most h =
    let grows = sum_grows xs ys most.1 in
    let first : x ≡ y = omega (arith, sum-cons x xs, sum-cons y ys, grows, most.0) in
    let rest = same_sum xs ys most.1 (omega (arith, sum-cons x xs, sum-cons y ys, most.0)) in
    cc

-- a spelling has at least one byte
natural_some : (f e : ℕ) → 1 ≤ length (natural_spelling 8 f e)
unfolding natural_spelling
natural_some f e = omega (arith, natural_grows 8 f f 0 e (omega arith))

pub canonical_some : (f : ℕ) (e : ℤ) → 1 ≤ length (canonical f e)
unfolding canonical
canonical_some f (pos e) = natural_some f e
canonical_some f (negsuc c) = rw length-append (omega arith)

pub line_some : (addresses : List ℕ) (number : ℕ) (line : Line) → 1 ≤ length (spelled_at addresses number line)
line_some addresses number (Byte byte) = omega arith
line_some addresses number (Spelled operation bytes) =
    let instr = instr_at addresses number operation in
    omega (arith, length-filled (unwrap_or bytes 0) (shortest instr), canonical_some (entry instr).function (entry instr).operand)

-- every line needs at least one byte
pub ones_least : (addresses : List ℕ) (number : ℕ) (lines : List Line) → AreAtMost (replicate (length lines) 1) (map length (spelled_from addresses number lines))
ones_least addresses number [] = tt
ones_least addresses number (line ∷ lines) = (line_some addresses number line, ones_least addresses (number + 1) lines)

pub sum-ones : (n : ℕ) → sum (replicate n 1) ≡ n
sum-ones n = sum_by-replicate (λ x. x) n 1 ∙ omega arith

pub ones_at_most : (lines : List Line) (lengths : List ℕ) → IsLayout lines lengths → AreAtMost (replicate (length lines) 1) lengths
ones_at_most lines lengths is = rw is at (ones_least (addresses_from 0 lengths) 0 lines)

pub ones_sum : (lines : List Line) (lengths : List ℕ) → IsLayout lines lengths → length lines ≤ sum lengths
ones_sum lines lengths is = omega (arith, sum-ones (length lines), sum_grows _ lengths (ones_at_most lines lengths is))

-- the last address is the sum of the lengths
pub last_read : (addresses lengths : List ℕ) (n r : ℕ) → addresses ≡ addresses_from 0 lengths → n ≡ length lengths → r ≡ get_or addresses n r → r ≡ sum lengths
last_read addresses lengths n r is count read =
    let within : n < length addresses = omega (arith, ap length is, length-addresses 0 lengths) in
    get_or_read addresses n r within read 0 ∙ ap (λ xs. get_or xs n 0) is ∙ ap (λ k. get_or (addresses_from 0 lengths) k 0) count ∙ last_address 0 lengths ∙ omega arith

pub are_addresses : (addresses lengths : List ℕ) → addresses ≡ addresses_from 0 lengths → sum lengths < 2 ^ 16 → AreAddresses addresses
are_addresses addresses lengths is short = rw is record {
  some = omega (arith, length-addresses 0 lengths);
  rising = λ from to h h'. addresses_rise 0 lengths from to h (omega (arith, length-addresses 0 lengths));
  small = λ place h. omega (arith, addresses_rise 0 lengths place (length lengths) (omega (arith, length-addresses 0 lengths)) (omega arith), last_address 0 lengths, length-addresses 0 lengths);
}

-- a step of the search for the least layout
pub step_least : (lines : List Line) (lengths : List ℕ) → length lengths ≡ length lines → AreSound lines → ((others : List ℕ) → IsLayout lines others → AreAtMost lengths others)
    → (others : List ℕ) → IsLayout lines others → AreAtMost (needed lines lengths) others
step_least lines lengths count sound least others is = rw is at (needed_grows lines lengths others count sound (least others is))

pub step_grows : (lines : List Line) (lengths : List ℕ) → AreAtMost lengths (needed lines lengths) → lengths ≢ needed lines lengths → sum lengths < sum (needed lines lengths)
step_grows lines lengths growing other = by_case (cases_lt (sum lengths) (sum (needed lines lengths)))
  where
    by_case : (sum lengths < sum (needed lines lengths)) ⊎ (sum (needed lines lengths) ≤ sum lengths) → sum lengths < sum (needed lines lengths)
    by_case (inl lt) = lt
    by_case (inr ge) = absurd (other (same_sum lengths (needed lines lengths) growing ge))
