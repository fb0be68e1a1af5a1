-- Lines with places for distances are spelled as the lines were, and have no other layout.
use Rattle.std.proofs.Common.{◌≡◌, ℕ, zero, suc, ◌+◌, ◌-◌, ◌<◌, ◌≤◌, true, false, nat_eq, nat_lt, ℤ, pos, negsuc, List}
use Rattle.std.proofs.Common.{[], ◌∷◌, ◌++◌, length, map, drop, get_or, sum, Option, Some, None, unwrap_or, refl, sym}
use Rattle.std.proofs.Common.{ap, subst, ◌∙◌, arith, append_assoc, length-append, length-drop}
use Rattle.std.specs.List.{position, AllByRecursion}
use Rattle.std.specs.Option.{option_map}
use Rattle.std.proofs.lemmas.Bool.Decides.{nat_tests}
use Rattle.std.proofs.lemmas.Option.{same_Some}
use Rattle.std.proofs.lemmas.List.{get_or-drop}
use Rattle.std.proofs.lemmas.List.Quantifiers.{position-Some}
use Rattle.tp_decode.specs.declared.instr.Instr.TheVariants.{Jump, Cj}
use Rattle.tp_decode.specs.Lines.{shortest}
use Rattle.tpw_asm.specs.declared.program.Operation.{Operation}
use Rattle.tpw_asm.specs.declared.program.Operation.TheVariants.{Plain, JumpTo, CjTo, Distance}
use Rattle.tpw_asm.specs.declared.program.Line.{Line}
use Rattle.tpw_asm.specs.declared.program.Line.TheVariants.{Byte, Spelled}
use Rattle.tpw_asm.specs.Layout.{addresses_from, distance, instr_at, filled, spelled_at, spelled_from, IsLayout, AreAtMost, IsLeastLayout}
use Rattle.tpw_asm.specs.Faults.{way_fault, operation_fault, line_fault, first_fault, is_stated, first_narrow}
use Rattle.tpw_asm.specs.Labelling.{place_ahead, to_place, placed, labelled, labelled_from}
use Rattle.tpw_asm.proofs.LayoutLemmas.{length-needed, way_is, operation_sound, sound_first, sum-cons}
use Rattle.tpw_asm.proofs.RoundTrip.{IsOwn, IsAhead, IsAheadOperation}

-- the place that is found ahead
pub record IsAheadBy (addresses : List ℕ) (from : ℕ) (bytes : ℤ) (place : ℕ) : Type 0 where
  pub forward : from ≤ place
  pub within : place < length addresses
  pub far : bytes ≡ pos (distance addresses from place)

place_is : (addresses : List ℕ) (from : ℕ) (bytes : ℤ) (place : ℕ) → place_ahead addresses from bytes ≡ Some place → IsAheadBy addresses from bytes place
place_is addresses from (negsuc n) place is = cc
place_is addresses from (pos n) place is = by_case (position (λ a. nat_eq a (get_or addresses from 0 + n)) (drop from addresses)) refl is
  where
    by_case : (o : Option ℕ) → position (λ a. nat_eq a (get_or addresses from 0 + n)) (drop from addresses) ≡ o → option_map (λ k. from + k) o ≡ Some place → IsAheadBy addresses from (pos n) place
    by_case None found is = cc
    by_case (Some k) found is =
        let parts = position-Some (λ a. nat_eq a (get_or addresses from 0 + n)) (drop from addresses) k 0 found in
        let place_is : from + k ≡ place = same_Some _ _ is in
        let here : get_or (drop from addresses) k 0 ≡ get_or addresses (from + k) 0 = get_or-drop from addresses k 0 in
        let value : get_or (drop from addresses) k 0 ≡ get_or addresses from 0 + n = grind (arith, nat_tests, parts.1) in
        let there : get_or addresses (from + k) 0 ≡ get_or addresses place 0 = ap (λ p. get_or addresses p 0) place_is in
        record {
          forward = omega arith;
          within = omega (arith, parts.0, length-drop from addresses);
          far = ap pos (omega (arith, here, value, there));
        }

-- the same instruction
jump_same : (addresses : List ℕ) (line : ℕ) (bytes : ℤ) → instr_at addresses line (to_place JumpTo (Plain (Jump bytes)) (place_ahead addresses (line + 1) bytes)) ≡ Jump bytes
jump_same addresses line bytes = by_case (place_ahead addresses (line + 1) bytes) refl
  where
    by_case : (o : Option ℕ) → place_ahead addresses (line + 1) bytes ≡ o → instr_at addresses line (to_place JumpTo (Plain (Jump bytes)) o) ≡ Jump bytes
    by_case None is = refl
    by_case (Some place) is = ap Jump (sym ((place_is addresses (line + 1) bytes place is).far))

cj_same : (addresses : List ℕ) (line : ℕ) (bytes : ℤ) → instr_at addresses line (to_place CjTo (Plain (Cj bytes)) (place_ahead addresses (line + 1) bytes)) ≡ Cj bytes
cj_same addresses line bytes = by_case (place_ahead addresses (line + 1) bytes) refl
  where
    by_case : (o : Option ℕ) → place_ahead addresses (line + 1) bytes ≡ o → instr_at addresses line (to_place CjTo (Plain (Cj bytes)) o) ≡ Cj bytes
    by_case None is = refl
    by_case (Some place) is = ap Cj (sym ((place_is addresses (line + 1) bytes place is).far))

instr_same : (addresses : List ℕ) (line : ℕ) (operation : Operation) → instr_at addresses line (placed addresses line operation) ≡ instr_at addresses line operation
instr_same addresses line (Plain (Jump bytes)) = jump_same addresses line bytes
instr_same addresses line (Plain (Cj bytes)) = cj_same addresses line bytes
instr_same addresses line operation = refl

spelled_same : (addresses : List ℕ) (number : ℕ) (line : Line) → spelled_at addresses number (labelled addresses number line) ≡ spelled_at addresses number line
spelled_same addresses number (Byte byte) = refl
spelled_same addresses number (Spelled operation bytes) = ap (λ i. filled (unwrap_or bytes 0) (shortest i)) (instr_same addresses number operation)

pub all_spelled_same : (addresses : List ℕ) (number : ℕ) (lines : List Line) → spelled_from addresses number (labelled_from addresses number lines) ≡ spelled_from addresses number lines
all_spelled_same addresses number [] = refl
all_spelled_same addresses number (line ∷ lines) = let first = spelled_same addresses number line in let rest = all_spelled_same addresses (number + 1) lines in cc

pub length-labelled : (addresses : List ℕ) (number : ℕ) (lines : List Line) → length (labelled_from addresses number lines) ≡ length lines
length-labelled addresses number [] = refl
length-labelled addresses number (line ∷ lines) = ap suc (length-labelled addresses (number + 1) lines)

-- a place that was found causes no fault
way_sound : (count from to : ℕ) → from ≤ to → to ≤ count → way_fault count from to ≡ None
way_sound count from to h h' =
    let within : nat_lt count to ≡ false = grind (arith, nat_tests) in
    let forward : nat_lt to from ≡ false = grind (arith, nat_tests) in
    rw (within, forward) refl

jump_sound : (addresses : List ℕ) (count line : ℕ) (bytes : ℤ) → length addresses ≡ count + 1 →
    operation_fault count line (to_place JumpTo (Plain (Jump bytes)) (place_ahead addresses (line + 1) bytes)) ≡ None
jump_sound addresses count line bytes size = by_case (place_ahead addresses (line + 1) bytes) refl
  where
    by_case : (o : Option ℕ) → place_ahead addresses (line + 1) bytes ≡ o → operation_fault count line (to_place JumpTo (Plain (Jump bytes)) o) ≡ None
    by_case None is = refl
    by_case (Some place) is = let p = place_is addresses (line + 1) bytes place is in way_sound count (line + 1) place p.forward (omega (arith, p.within))

cj_sound : (addresses : List ℕ) (count line : ℕ) (bytes : ℤ) → length addresses ≡ count + 1 →
    operation_fault count line (to_place CjTo (Plain (Cj bytes)) (place_ahead addresses (line + 1) bytes)) ≡ None
cj_sound addresses count line bytes size = by_case (place_ahead addresses (line + 1) bytes) refl
  where
    by_case : (o : Option ℕ) → place_ahead addresses (line + 1) bytes ≡ o → operation_fault count line (to_place CjTo (Plain (Cj bytes)) o) ≡ None
    by_case None is = refl
    by_case (Some place) is = let p = place_is addresses (line + 1) bytes place is in way_sound count (line + 1) place p.forward (omega (arith, p.within))

operation_sound_placed : (addresses : List ℕ) (count line : ℕ) (operation : Operation) → length addresses ≡ count + 1 →
    operation_fault count line operation ≡ None → operation_fault count line (placed addresses line operation) ≡ None
operation_sound_placed addresses count line (Plain (Jump bytes)) size sound = jump_sound addresses count line bytes size
operation_sound_placed addresses count line (Plain (Cj bytes)) size sound = cj_sound addresses count line bytes size
operation_sound_placed addresses count line operation size sound = sound

line_sound : (addresses : List ℕ) (count number : ℕ) (line : Line) → length addresses ≡ count + 1 →
    line_fault count number line ≡ None → line_fault count number (labelled addresses number line) ≡ None
line_sound addresses count number (Byte byte) size sound = refl
line_sound addresses count number (Spelled operation bytes) size sound =
    let parts = operation_sound count number operation bytes sound in
    let few : nat_lt 8 (unwrap_or bytes 0) ≡ false = grind (arith, nat_tests, parts.1) in
    rw few (operation_sound_placed addresses count number operation size parts.0)

pub lines_sound : (addresses : List ℕ) (count number : ℕ) (lines : List Line) → length addresses ≡ count + 1 →
    AllByRecursion IsOwn lines → first_fault count number (labelled_from addresses number lines) ≡ None
lines_sound addresses count number [] size own = refl
lines_sound addresses count number (line ∷ lines) size own =
    let first = line_sound addresses count number line size (own.0.sound count number) in
    let rest = lines_sound addresses count (number + 1) lines size own.1 in
    rw first rest

pub own_sound : (count number : ℕ) (lines : List Line) → AllByRecursion IsOwn lines → first_fault count number lines ≡ None
own_sound count number [] own = refl
own_sound count number (line ∷ lines) own = rw (own.0.sound count number) (own_sound count (number + 1) lines own.1)

stated_same : (addresses : List ℕ) (number n : ℕ) (line : Line) → is_stated (labelled addresses number line) n ≡ is_stated line n
stated_same addresses number n (Byte byte) = refl
stated_same addresses number n (Spelled operation None) = refl
stated_same addresses number n (Spelled operation (Some bytes)) = refl

-- each line is as long as it states
pub none_narrow : (addresses others : List ℕ) (number : ℕ) (lines : List Line) → AllByRecursion IsOwn lines →
    first_narrow number (labelled_from others number lines) (map length (spelled_from addresses number lines)) ≡ None
none_narrow addresses others number [] own = refl
none_narrow addresses others number (line ∷ lines) own =
    let fits : is_stated (labelled others number line) (length (spelled_at addresses number line)) ≡ true =
    stated_same others number (length (spelled_at addresses number line)) line ∙ ap (λ xs. is_stated line (length xs)) (own.0.spelled addresses number) ∙ own.0.fits in
    rw fits (none_narrow addresses others (number + 1) lines own.1)

to_place_ahead : (jump : ℕ → Operation) (plain : Operation) (o : Option ℕ) → ((p : ℕ) → IsAheadOperation (jump p)) → IsAheadOperation plain → IsAheadOperation (to_place jump plain o)
to_place_ahead jump plain None j p = p
to_place_ahead jump plain (Some place) j p = j place

placed_ahead : (addresses : List ℕ) (line : ℕ) (operation : Operation) → IsAheadOperation operation → IsAheadOperation (placed addresses line operation)
placed_ahead addresses line (Plain (Jump bytes)) ahead = to_place_ahead JumpTo (Plain (Jump bytes)) (place_ahead addresses (line + 1) bytes) (λ p. tt) tt
placed_ahead addresses line (Plain (Cj bytes)) ahead = to_place_ahead CjTo (Plain (Cj bytes)) (place_ahead addresses (line + 1) bytes) (λ p. tt) tt
placed_ahead addresses line operation ahead = ahead

line_ahead : (addresses : List ℕ) (number : ℕ) (line : Line) → IsAhead line → IsAhead (labelled addresses number line)
line_ahead addresses number (Byte byte) ahead = tt
line_ahead addresses number (Spelled operation bytes) ahead = placed_ahead addresses number operation ahead

pub lines_ahead : (addresses : List ℕ) (number : ℕ) (lines : List Line) → AllByRecursion IsOwn lines → AllByRecursion IsAhead (labelled_from addresses number lines)
lines_ahead addresses number [] own = tt
lines_ahead addresses number (line ∷ lines) own = (line_ahead addresses number line own.0.ahead, lines_ahead addresses (number + 1) lines own.1)

-- the addresses behind the first lines
behind : (at : ℕ) (front zs : List ℕ) (k : ℕ) → get_or (addresses_from at (front ++ zs)) (length front + k) 0 ≡ get_or (addresses_from (at + sum front) zs) k 0
behind at [] zs k =
    let e : 0 + k ≡ k = omega arith in
    let e' : at ≡ at + sum [] = omega arith in
    ap (λ n. get_or (addresses_from at zs) n 0) e ∙ ap (λ n. get_or (addresses_from n zs) k 0) e'
behind at (x ∷ front) zs k =
    let e : suc (length front) + k ≡ suc (length front + k) = omega arith in
    ap (λ n. get_or (at ∷ addresses_from (at + x) (front ++ zs)) n 0) e ∙ behind (at + x) front zs k ∙ ap (λ n. get_or (addresses_from n zs) k 0) (omega (arith, sum-cons x front))

shift : (at : ℕ) (zs : List ℕ) (k : ℕ) → k ≤ length zs → get_or (addresses_from at zs) k 0 ≡ at + get_or (addresses_from 0 zs) k 0
shift at [] zero h = omega arith
shift at [] (suc k) h = absurd (omega arith)
shift at (z ∷ zs) zero h = omega arith
shift at (z ∷ zs) (suc k) h = omega (arith, shift (at + z) zs k (omega arith), shift (0 + z) zs k (omega arith))

-- the lines behind a line decide how long a way from the place behind it is
way_behind : (front : List ℕ) (x : ℕ) (xs : List ℕ) (to : ℕ) → length front + 1 ≤ to → to ≤ length front + 1 + length xs
    → distance (addresses_from 0 (front ++ x ∷ xs)) (length front + 1) to ≡ get_or (addresses_from 0 xs) (to - (length front + 1)) 0
way_behind front x xs to h h' =
    let k = to - (length front + 1) in
    let whole = addresses_from 0 (front ++ x ∷ xs) in
    let there : get_or whole to 0 ≡ get_or (addresses_from (0 + sum front) (x ∷ xs)) (suc k) 0 = ap (λ n. get_or whole n 0) (omega arith) ∙ behind 0 front (x ∷ xs) (suc k) in
    let here : get_or whole (length front + 1) 0 ≡ get_or (addresses_from (0 + sum front) (x ∷ xs)) 1 0 = behind 0 front (x ∷ xs) 1 in
    let far : get_or (addresses_from (0 + sum front + x) xs) k 0 ≡ 0 + sum front + x + get_or (addresses_from 0 xs) k 0 = shift (0 + sum front + x) xs k (omega arith) in
    let near : get_or (addresses_from (0 + sum front) (x ∷ xs)) 1 0 ≡ 0 + sum front + x = first_address (0 + sum front + x) xs in
    omega (arith, there, here, far, near)
  where
    first_address : (at : ℕ) (zs : List ℕ) → get_or (addresses_from at zs) 0 0 ≡ at
    first_address at [] = refl
    first_address at (z ∷ zs) = refl

ways : (a b : List ℕ) (x y : ℕ) (rest : List ℕ) (n to : ℕ) → length a ≡ n → length b ≡ n → way_fault (n + 1 + length rest) (n + 1) to ≡ None
    → distance (addresses_from 0 (a ++ x ∷ rest)) (n + 1) to ≡ distance (addresses_from 0 (b ++ y ∷ rest)) (n + 1) to
ways a b x y rest n to ea eb sound =
    let way = way_is (n + 1 + length rest) (n + 1) to sound in
    let left = way_behind a x rest to (omega arith) (omega arith) in
    let right = way_behind b y rest to (omega arith) (omega arith) in
    ap (λ m. distance (addresses_from 0 (a ++ x ∷ rest)) (m + 1) to) (sym ea) ∙ left ∙
    ap (λ m. get_or (addresses_from 0 rest) (to - (m + 1)) 0) (ea ∙ sym eb) ∙ sym right ∙
    ap (λ m. distance (addresses_from 0 (b ++ y ∷ rest)) (m + 1) to) eb

-- the lines behind a line that has no distance decide how it is spelled
operation_behind : (a b : List ℕ) (x y : ℕ) (rest : List ℕ) (n : ℕ) (operation : Operation) → length a ≡ n →
    length b ≡ n → IsAheadOperation operation → operation_fault (n + 1 + length rest) n operation ≡ None
    → instr_at (addresses_from 0 (a ++ x ∷ rest)) n operation ≡ instr_at (addresses_from 0 (b ++ y ∷ rest)) n operation
operation_behind a b x y rest n (Plain instr) ea eb ahead sound = refl
operation_behind a b x y rest n (JumpTo to) ea eb ahead sound = ap (λ d. Jump (pos d)) (ways a b x y rest n to ea eb sound)
operation_behind a b x y rest n (CjTo to) ea eb ahead sound = ap (λ d. Cj (pos d)) (ways a b x y rest n to ea eb sound)
operation_behind a b x y rest n (Distance from to) ea eb ahead sound = absurd ahead

line_behind : (a b : List ℕ) (x y : ℕ) (rest : List ℕ) (n : ℕ) (line : Line) → length a ≡ n → length b ≡ n → IsAhead line → line_fault (n + 1 + length rest) n line ≡ None
    → spelled_at (addresses_from 0 (a ++ x ∷ rest)) n line ≡ spelled_at (addresses_from 0 (b ++ y ∷ rest)) n line
line_behind a b x y rest n (Byte byte) ea eb ahead sound = refl
line_behind a b x y rest n (Spelled operation bytes) ea eb ahead sound =
    ap (λ i. filled (unwrap_or bytes 0) (shortest i)) (operation_behind a b x y rest n operation ea eb ahead ((operation_sound (n + 1 + length rest) n operation bytes sound).0))

-- lines without distances have one layout
same_behind : (lines : List Line) (count n : ℕ) (a b xs ys : List ℕ) → length a ≡ n → length b ≡ n → count ≡ n + length lines → AllByRecursion IsAhead lines → first_fault count n lines ≡ None
    → map length (spelled_from (addresses_from 0 (a ++ xs)) n lines) ≡ xs → map length (spelled_from (addresses_from 0 (b ++ ys)) n lines) ≡ ys → xs ≡ ys
same_behind [] count n a b xs ys ea eb size ahead sound is is' = sym is ∙ is'
same_behind (line ∷ lines) count n a b [] ys ea eb size ahead sound is is' = cc
same_behind (line ∷ lines) count n a b (x ∷ xs) [] ea eb size ahead sound is is' = cc
same_behind (line ∷ lines) count n a b (x ∷ xs) (y ∷ ys) ea eb size ahead sound is is' =
    let parts = sound_first count n line lines sound in
    let tail_a : map length (spelled_from (addresses_from 0 (a ++ x ∷ xs)) (n + 1) lines) ≡ xs = cc in
    let tail_b : map length (spelled_from (addresses_from 0 (b ++ y ∷ ys)) (n + 1) lines) ≡ ys = cc in
    let head_a : length (spelled_at (addresses_from 0 (a ++ x ∷ xs)) n line) ≡ x = cc in
    let head_b : length (spelled_at (addresses_from 0 (b ++ y ∷ ys)) n line) ≡ y = cc in
    let moved_a = ap (λ zs. map length (spelled_from (addresses_from 0 zs) (n + 1) lines)) (append_assoc a (x ∷ []) xs) in
    let moved_b = ap (λ zs. map length (spelled_from (addresses_from 0 zs) (n + 1) lines)) (append_assoc b (y ∷ []) ys) in
    let tails : xs ≡ ys =
    same_behind lines count (n + 1) (a ++ x ∷ []) (b ++ y ∷ []) xs ys (omega (arith, length-append a (x ∷ []))) (omega (arith, length-append b (y ∷ []))) (omega arith) ahead.1 parts.1
    (moved_a ∙ tail_a) (moved_b ∙ tail_b) in
    let long : length xs ≡ length lines = sym (ap length tail_a) ∙ length-needed (addresses_from 0 (a ++ x ∷ xs)) (n + 1) lines in
    let first : line_fault (n + 1 + length xs) n line ≡ None = ap (λ k. line_fault k n line) (omega arith) ∙ parts.0 in
    let spelled = line_behind a b x y xs n line ea eb ahead.0 first in
    let other = ap (λ zs. spelled_at (addresses_from 0 (b ++ y ∷ zs)) n line) tails in
    let heads : x ≡ y = sym head_a ∙ ap length (spelled ∙ other) ∙ head_b in
    cc

pub one_layout_ahead : (lines : List Line) (xs ys : List ℕ) → AllByRecursion IsAhead lines → first_fault (length lines) 0 lines ≡ None → IsLayout lines xs → IsLayout lines ys → xs ≡ ys
one_layout_ahead lines xs ys ahead sound is is' = same_behind lines (length lines) 0 [] [] xs ys refl refl (omega arith) ahead sound is is'

at_most_same : (xs : List ℕ) → AreAtMost xs xs
at_most_same [] = tt
at_most_same (x ∷ xs) = (omega arith, at_most_same xs)

-- the one layout is the least
pub least_ahead : (lines : List Line) (lengths : List ℕ) → AllByRecursion IsAhead lines → first_fault (length lines) 0 lines ≡ None → IsLayout lines lengths → IsLeastLayout lines lengths
least_ahead lines lengths ahead sound is = record {
  layout = is;
  least = λ others is'. subst (λ (ys : List ℕ). AreAtMost lengths ys) (one_layout_ahead lines lengths others ahead sound is is') (at_most_same lengths);
}
