-- The numbers of instructions, by their addresses.
use Rattle.std.proofs.Common.{◌≡◌, ℕ, zero, suc, ◌+◌, ◌-◌, ◌<◌, ◌≤◌, Bool, true, false, nat_eq, nat_lt, if◌then◌else◌}
use Rattle.std.proofs.Common.{List, [], ◌∷◌, ◌++◌, length, get_or, replicate, Option, Some, None, refl, ap, sym, ◌∙◌}
use Rattle.std.proofs.Common.{arith, append_assoc, slice_get, length-append}
use Rattle.std.specs.Option.{option_and_then, option_map}
use Rattle.std.proofs.lemmas.Bool.Decides.{nat_tests}
use Rattle.std.proofs.lemmas.List.{length-map, length-replicate, append-nil}
use Rattle.tp_decode.specs.declared.placed.Placed.{Placed}
use Rattle.tp_decode.specs.Cutting.{Cut, cut_at, index_from, placed_from, starts_from, code_of}
use Rattle.tp_decode.specs.declared.piece.Piece.{Piece}
use Rattle.tp_decode.specs.Listings.{cut_of, cuts_of, numbered, numbers_from, IsListing}
use Rattle.tp_decode.proofs.CutLemmas.{AreSome, some_first, length-starts}

-- The number that is kept for an address.
abbrev pub kept_at : List (Option ℕ) → ℕ → Option ℕ
kept_at numbers at = option_and_then (λ n. n) (slice_get numbers at)

pub get_left : {X : Type 0} (xs ys : List X) (i : ℕ) → i < length xs → slice_get (xs ++ ys) i ≡ slice_get xs i
get_left [] ys i h = absurd (omega arith)
get_left (x ∷ xs) ys zero h = refl
get_left (x ∷ xs) ys (suc i) h = get_left xs ys i (omega arith)

pub get_right : {X : Type 0} (xs ys : List X) (i : ℕ) → length xs ≤ i → slice_get (xs ++ ys) i ≡ slice_get ys (i - length xs)
get_right [] ys i h = ap (slice_get ys) (omega arith)
get_right (x ∷ xs) ys zero h = absurd (omega arith)
get_right (x ∷ xs) ys (suc i) h = get_right xs ys i (omega arith) ∙ ap (slice_get ys) (omega arith)

get_at_seam : {X : Type 0} (xs : List X) (y : X) (ys : List X) (i : ℕ) → length xs ≡ i → slice_get (xs ++ y ∷ ys) i ≡ Some y
get_at_seam xs y ys i is = get_right xs (y ∷ ys) i (omega (arith, is)) ∙ ap (slice_get (y ∷ ys)) (let none : i - length xs ≡ 0 = omega (arith, is) in none)

none_of : (n i : ℕ) → kept_at (replicate n None) i ≡ None
none_of zero i = refl
none_of (suc n) zero = refl
none_of (suc n) (suc i) = none_of n i

length-numbered : (i : ℕ) (cut : Cut) → 0 < length cut.bytes → length (numbered i cut) ≡ length cut.bytes
length-numbered i cut some = ap suc (length-replicate (length cut.bytes - 1) None) ∙ omega arith

-- what is kept for an address is the number of the instruction that stands there
pub kept_is_number : (i : ℕ) (cuts : List Cut) (at : ℕ) → AreSome cuts → kept_at (numbers_from i cuts) at ≡ index_from i cuts at
kept_is_number i [] at are = refl
kept_is_number i (cut ∷ cuts) zero are = refl
kept_is_number i (cut ∷ cuts) (suc at) are =
    let later : nat_eq (suc at) 0 ≡ false = grind (arith, nat_tests) in
    rw later (by_test (kept_is_number (i + 1) cuts (suc at - length cut.bytes) (some_first cut cuts are).1) (nat_lt (suc at) (length cut.bytes)) refl)
  where
    some : 0 < length cut.bytes
    some = (some_first cut cuts are).0

    by_test : kept_at (numbers_from (i + 1) cuts) (suc at - length cut.bytes) ≡ index_from (i + 1) cuts
        (suc at - length cut.bytes) → (p : Bool) → nat_lt (suc at) (length cut.bytes) ≡ p →
        kept_at (numbered i cut ++ numbers_from (i + 1) cuts) (suc at) ≡
        (if p then None else index_from (i + 1) cuts (suc at - length cut.bytes))
    by_test go true e =
        let inside : suc at < length cut.bytes = grind (arith, nat_tests) in
        ap (option_and_then (λ n. n)) (get_left (numbered i cut) (numbers_from (i + 1) cuts) (suc at) (omega (arith, length-numbered i cut some))) ∙ none_of (length cut.bytes - 1) at
    by_test go false e =
        let past : length cut.bytes ≤ suc at = grind (arith, nat_tests) in
        ap (option_and_then (λ n. n)) (get_right (numbered i cut) (numbers_from (i + 1) cuts) (suc at)
        (omega (arith, length-numbered i cut some)) ∙ ap (slice_get (numbers_from (i + 1) cuts))
        (omega (arith, length-numbered i cut some)))
        ∙ go

-- one instruction more
pub numbers_more : (i : ℕ) (cuts : List Cut) (cut : Cut) → numbers_from i (cuts ++ cut ∷ []) ≡ numbers_from i cuts ++ numbered (i + length cuts) cut
numbers_more i [] cut = append-nil (numbered i cut) ∙ ap (λ n. numbered n cut) (omega arith)
numbers_more i (c ∷ cuts) cut =
    ap (λ ns. numbered i c ++ ns) (numbers_more (i + 1) cuts cut ∙
    ap (λ n. numbers_from (i + 1) cuts ++ numbered n cut) (omega arith)) ∙
    sym (append_assoc (numbered i c) (numbers_from (i + 1) cuts) (numbered (i + suc (length cuts)) cut))

-- a number for each byte of the code
pub length-numbers : (i : ℕ) (cuts : List Cut) → AreSome cuts → length (numbers_from i cuts) ≡ length (code_of cuts)
length-numbers i [] are = refl
length-numbers i (cut ∷ cuts) are =
    length-append (numbered i cut) (numbers_from (i + 1) cuts)
    ∙ omega (arith, length-numbered i cut (some_first cut cuts are).0, length-numbers (i + 1) cuts (some_first cut cuts are).1, length-append cut.bytes (code_of cuts))

-- there are no more instructions than bytes
pub few_cuts : (cuts : List Cut) → AreSome cuts → length cuts ≤ length (code_of cuts)
few_cuts [] are = omega arith
few_cuts (cut ∷ cuts) are =
    omega (arith, few_cuts cuts (some_first cut cuts are).1, (some_first cut cuts are).0, length-append cut.bytes (code_of cuts))

-- the instruction at an address, by its number
cut_from : (i : ℕ) (front cuts : List Cut) (at : ℕ) → length front ≡ i → cut_at cuts at ≡ option_and_then (slice_get (front ++ cuts)) (index_from i cuts at)
cut_from i front [] at is = refl
cut_from i front (cut ∷ cuts) at is =
    by_test (cut_from (i + 1) (front ++ cut ∷ []) cuts (at - length cut.bytes) (length-append front (cut ∷ []) ∙ omega (arith, is))) (nat_eq at 0) (nat_lt at (length cut.bytes))
  where
    by_test : cut_at cuts (at - length cut.bytes) ≡ option_and_then (slice_get ((front ++ cut ∷ []) ++ cuts)) (index_from (i + 1) cuts (at - length cut.bytes)) → (p q : Bool) →
        (if p then Some cut else if q then None else cut_at cuts (at - length cut.bytes)) ≡ option_and_then
        (slice_get (front ++ cut ∷ cuts)) (if p then Some i else if q then None else index_from (i + 1) cuts
        (at - length cut.bytes))
    by_test go true q = sym (get_at_seam front cut cuts i is)
    by_test go false true = refl
    by_test go false false = go ∙ ap (λ all. option_and_then (slice_get all) (index_from (i + 1) cuts (at - length cut.bytes))) (append_assoc front (cut ∷ []) cuts)

pub cut_by_number : (cuts : List Cut) (at : ℕ) → cut_at cuts at ≡ option_and_then (slice_get cuts) (index_from 0 cuts at)
cut_by_number cuts at = cut_from 0 [] cuts at refl

-- the same with its place
abbrev pub placed : ℕ → Cut → Placed
placed at cut = record { at = at; instr = cut.instr; next = at + length cut.bytes }

place_from : (i : ℕ) (front : List Placed) (cuts : List Cut) (first at : ℕ) → length front ≡ i →
    option_and_then (slice_get (front ++ placed_from first cuts)) (index_from i cuts at) ≡ option_map
    (placed (first + at)) (cut_at cuts at)
place_from i front [] first at is = refl
place_from i front (cut ∷ cuts) first at is =
    let n = length cut.bytes in
    let here = placed first cut in
    by_test (place_from (i + 1) (front ++ here ∷ []) cuts (first + n) (at - n) (length-append front (here ∷ []) ∙ omega (arith, is))) (nat_eq at 0) refl (nat_lt at n) refl
  where
    by_test : option_and_then (slice_get ((front ++ placed first cut ∷ []) ++
        placed_from (first + length cut.bytes) cuts)) (index_from (i + 1) cuts (at - length cut.bytes)) ≡ option_map
        (placed (first + length cut.bytes + (at - length cut.bytes))) (cut_at cuts (at - length cut.bytes)) →
        (p : Bool) → nat_eq at 0 ≡ p → (q : Bool) → nat_lt at (length cut.bytes) ≡ q →
        option_and_then (slice_get (front ++ placed first cut ∷ placed_from (first + length cut.bytes) cuts))
        (if p then Some i else if q then None else index_from (i + 1) cuts (at - length cut.bytes)) ≡ option_map
        (placed (first + at)) (if p then Some cut else if q then None else cut_at cuts (at - length cut.bytes))
    by_test go true e q e' =
        let zero_at : at ≡ 0 = grind (arith, nat_tests) in
        get_at_seam front (placed first cut) (placed_from (first + length cut.bytes) cuts) i is ∙ ap (λ a. Some (placed a cut)) (omega arith)
    by_test go false e true e' = refl
    by_test go false e false e' =
        let past : length cut.bytes ≤ at = grind (arith, nat_tests) in
        sym (ap (λ all. option_and_then (slice_get all) (index_from (i + 1) cuts (at - length cut.bytes))) (append_assoc front (placed first cut ∷ []) (placed_from (first + length cut.bytes) cuts)))
        ∙ go ∙ ap (λ a. option_map (placed a) (cut_at cuts (at - length cut.bytes))) (omega arith)

-- what stands at an address, by its number
pub place_by_number : (cuts : List Cut) (at : ℕ) → option_and_then (slice_get (placed_from 0 cuts)) (index_from 0 cuts at) ≡ option_map (placed at) (cut_at cuts at)
place_by_number cuts at = place_from 0 [] cuts 0 at refl ∙ ap (λ a. option_map (placed a) (cut_at cuts at)) (omega arith)

-- the same of what a listing keeps
pub listing_number : (starts : List ℕ) (numbers : List (Option ℕ)) (pieces : List Piece) (at : ℕ) → IsListing starts numbers pieces → index_from 0 (cuts_of pieces) at ≡ kept_at numbers at
listing_number starts numbers pieces at is =
    sym (ap (λ ns. kept_at ns at) is.counted ∙ kept_is_number 0 (cuts_of pieces) at is.some)

pub length-placed : (at : ℕ) (cuts : List Cut) → length (placed_from at cuts) ≡ length cuts
length-placed at [] = refl
length-placed at (cut ∷ cuts) = ap suc (length-placed (at + length cut.bytes) cuts)

place_of : (at : ℕ) (pieces : List Piece) (i : ℕ) (start : ℕ) (piece : Piece) → i < length pieces → start ≡ get_or (starts_from at (cuts_of pieces)) i start → piece ≡ get_or pieces i piece →
    slice_get (placed_from at (cuts_of pieces)) i ≡ Some (placed start (cut_of piece))
place_of at [] i start piece h e e' = absurd (omega arith)
place_of at (p ∷ pieces) zero start piece h e e' = ap (λ n. Some (placed n (cut_of p))) (sym e) ∙ ap (λ q. Some (placed start (cut_of q))) (sym e')
place_of at (p ∷ pieces) (suc i) start piece h e e' = place_of (at + length (cut_of p).bytes) pieces i start piece (omega arith) e e'

pub place_of_piece : (starts : List ℕ) (numbers : List (Option ℕ)) (pieces : List Piece) (i start : ℕ) (piece : Piece) →
    IsListing starts numbers pieces → i < length pieces → start ≡ get_or starts i start → piece ≡ get_or pieces i piece →
    slice_get (placed_from 0 (cuts_of pieces)) i ≡ Some (placed start (cut_of piece))
place_of_piece starts numbers pieces i start piece is h e e' = place_of 0 pieces i start piece h (e ∙ ap (λ xs. get_or xs i start) is.rising) e'

-- a listing has a number for each byte of its code, and no more starts
pub listing_counts : (starts : List ℕ) (numbers : List (Option ℕ)) (pieces : List Piece) →
    IsListing starts numbers pieces → (length numbers ≡ length (code_of (cuts_of pieces))) ×
    (length starts ≤ length numbers) × (length starts ≡ length pieces)
listing_counts starts numbers pieces is =
    let bytes = ap length is.counted ∙ length-numbers 0 (cuts_of pieces) is.some in
    let many = ap length is.rising ∙ length-starts 0 (cuts_of pieces) in
    (bytes, omega (arith, bytes, many, few_cuts (cuts_of pieces) is.some), many ∙ length-map pieces cut_of)
