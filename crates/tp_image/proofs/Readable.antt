-- Bytes that pass each test are an image's.
use Rattle.std.proofs.Common.{◌≡◌, ℕ, zero, suc, pos, negsuc, ◌+◌, ◌*◌, ◌-◌, ◌^◌, ◌<◌, ◌≤◌, ltb, List, [], ◌∷◌, ◌++◌}
use Rattle.std.proofs.Common.{length, take, drop, All, Option, None, Some, FitsSigned, refl, sym, ap, subst, ◌∙◌, inl}
use Rattle.std.proofs.Common.{inr, arith}
use Rattle.std.specs.List.{flat_map}
use Rattle.std.specs.Int.{w32, from_le_bytes, cast_signed, cast_unsigned}
use Rattle.std.proofs.lemmas.Bool.{ltb-true, ltb-false, cond_both, cond-true, cond-false, cases_Bool, cases_lt}
use Rattle.std.proofs.lemmas.Int.{of_z-to_z}
use Rattle.std.proofs.lemmas.Nat.{le_bytes_4}
use Rattle.std.proofs.lemmas.List.{length-take, length-drop, get_or-take, get_or_past, take-append-drop, nil_from_length}
use Rattle.std.proofs.lemmas.List.Elements.{All-nil, All-cons}
use Rattle.tp_image.specs.declared.fault.ImageCode.TheVariants.{F2}
use Rattle.tp_image.specs.declared.fault.ImageFault.TheVariants.{Refused}
use Rattle.tp_image.specs.declared.header.Header.{Header}
use Rattle.tp_image.specs.declared.image.LoopRow.{LoopRow}
use Rattle.tp_image.specs.declared.image.Version.{Version}
use Rattle.tp_image.specs.Image.{ImageValue, IsRow}
use Rattle.tp_image.specs.Text.{word, row_text, header_of, IsTextOf}
use Rattle.tp_image.specs.Faults.{version_of, half_word_at, header_at, header_fault, fault_of, first_fault, IsWholeHeader}
use Rattle.tp_image.specs.Layout.{header_bytes}
use Rattle.tp_image.proofs.Cells.{drop-cells}
use Rattle.tp_image.proofs.Headers.{AreBytes, passes_size}
use Rattle.tp_image.proofs.Spelled.{half-half_word_at}
use Rattle.tp_image.proofs.Rows.{row_spelled}
use Rattle.tp_image.proofs.Bodies.{two_cuts, assembled}
use Rattle.tp_image.proofs.Cuts.{same_header, AreBytes-drop, All-AreBytes}

AreBytes-take : (n : ℕ) (bytes : List ℕ) → AreBytes bytes → AreBytes (take n bytes)
AreBytes-take n bytes fits i =
    elim (cases_lt i n) [
      | inl lt ↦ rw (get_or-take n bytes i 0 lt) (fits i)
      | inr le ↦ rw (get_or_past (take n bytes) i 0 (omega (arith, length-take n bytes))) (omega arith)
    ]

AreBytes-All : (bytes : List ℕ) → All (λ byte. byte < 256) bytes → AreBytes bytes
AreBytes-All bytes fits i =
    elim (cases_lt i (length bytes)) [
      | inl lt ↦ fits i 0 lt
      | inr le ↦ rw (get_or_past bytes i 0 le) (omega arith)
    ]

-- ---- the words

word_from : List ℕ → ℕ
word_from bytes = from_le_bytes w32 (take 4 bytes)

words_from : ℕ → List ℕ → List ℕ
words_from zero bytes = []
words_from (suc k) bytes = word_from bytes ∷ words_from k (drop 4 bytes)

length-words_from : (k : ℕ) (bytes : List ℕ) → length (words_from k bytes) ≡ k
unfolding words_from
length-words_from zero bytes = refl
length-words_from (suc k) bytes = ap suc (length-words_from k (drop 4 bytes))

word_spelled : (bytes : List ℕ) → AreBytes bytes → 4 ≤ length bytes → word (word_from bytes) ≡ take 4 bytes
unfolding word_from
word_spelled bytes fits long = le_bytes_4 (take 4 bytes) (word_from bytes) (omega (arith, length-take 4 bytes)) (AreBytes-take 4 bytes fits) refl

word_below : (bytes : List ℕ) → AreBytes bytes → word_from bytes < 2 ^ 32
unfolding word_from
word_below bytes fits = let f = AreBytes-take 4 bytes fits in omega (arith, f 0, f 1, f 2, f 3)

words_spelled : (k : ℕ) (bytes : List ℕ) → AreBytes bytes → length bytes ≡ 4 * k → flat_map word (words_from k bytes) ≡ bytes
unfolding words_from
words_spelled zero bytes fits long = sym (nil_from_length bytes (omega arith))
words_spelled (suc k) bytes fits long =
    let first = word_spelled bytes fits (omega arith) in
    let others = words_spelled k (drop 4 bytes) (AreBytes-drop 4 bytes fits) (omega (arith, length-drop 4 bytes)) in
    ap (λ (front : List ℕ). front ++ flat_map word (words_from k (drop 4 bytes))) first
    ∙ ap (λ (rest : List ℕ). take 4 bytes ++ rest) others
    ∙ take-append-drop 4 bytes

words_below : (k : ℕ) (bytes : List ℕ) → AreBytes bytes → All (λ n. n < 2 ^ 32) (words_from k bytes)
unfolding words_from
words_below zero bytes fits = All-nil (λ n. n < 2 ^ 32)
words_below (suc k) bytes fits = All-cons (λ n. n < 2 ^ 32) (word_from bytes) (words_from k (drop 4 bytes)) (word_below bytes fits) (words_below k (drop 4 bytes) (AreBytes-drop 4 bytes fits))

-- ---- the rows

row_from : List ℕ → LoopRow
row_from bytes = record { head = half_word_at bytes 0; lend = half_word_at bytes 2; control = half_word_at bytes 4; count = half_word_at bytes 6; start = cast_signed w32 (word_from (drop 8 bytes)) }

rows_from : ℕ → List ℕ → List LoopRow
rows_from zero bytes = []
rows_from (suc k) bytes = row_from (take 12 bytes) ∷ rows_from k (drop 12 bytes)

length-rows_from : (k : ℕ) (bytes : List ℕ) → length (rows_from k bytes) ≡ k
unfolding rows_from
length-rows_from zero bytes = refl
length-rows_from (suc k) bytes = ap suc (length-rows_from k (drop 12 bytes))

signed_fits : (n : ℕ) → n < 2 ^ 32 → FitsSigned w32 (cast_signed w32 n)
signed_fits n lt =
    cond_both (ltb n (2 ^ 31)) (pos n) (negsuc (2 ^ 32 - suc n)) (λ z. FitsSigned w32 z)
    (λ e. let below = ltb-true n (2 ^ 31) e in omega arith) (λ e. let above = ltb-false n (2 ^ 31) e in omega arith)

IsRow-row_from : (bytes : List ℕ) → AreBytes bytes → IsRow (row_from bytes)
unfolding row_from
IsRow-row_from bytes fits = record {
  head = omega (arith, fits 0, fits 1);
  lend = omega (arith, fits 2, fits 3);
  control = omega (arith, fits 4, fits 5);
  count = omega (arith, fits 6, fits 7);
  start = signed_fits _ (word_below (drop 8 bytes) (AreBytes-drop 8 bytes fits));
}

row_from_spelled : (bytes : List ℕ) → AreBytes bytes → length bytes ≡ 12 → row_text (row_from bytes) ≡ bytes
unfolding row_from
row_from_spelled bytes fits long =
    let at = λ (place : ℕ). half-half_word_at bytes place fits in
    let n = word_from (drop 8 bytes) in
    let start : cast_unsigned w32 (cast_signed w32 n) ≡ n = of_z-to_z w32 n (word_below (drop 8 bytes) (AreBytes-drop 8 bytes fits)) in
    row_spelled bytes _ _ _ _ _ long (at 0) (at 2) (at 4) (at 6)
    (ap word start ∙ word_spelled (drop 8 bytes) (AreBytes-drop 8 bytes fits) (omega (arith, length-drop 8 bytes)) ∙
    ap (take 4) (drop-cells 4 8 bytes (omega arith)))

rows_spelled : (k : ℕ) (bytes : List ℕ) → AreBytes bytes → length bytes ≡ 12 * k → flat_map row_text (rows_from k bytes) ≡ bytes
unfolding rows_from
rows_spelled zero bytes fits long = sym (nil_from_length bytes (omega arith))
rows_spelled (suc k) bytes fits long =
    let first = row_from_spelled (take 12 bytes) (AreBytes-take 12 bytes fits) (omega (arith, length-take 12 bytes)) in
    let others = rows_spelled k (drop 12 bytes) (AreBytes-drop 12 bytes fits) (omega (arith, length-drop 12 bytes)) in
    ap (λ (front : List ℕ). front ++ flat_map row_text (rows_from k (drop 12 bytes))) first
    ∙ ap (λ (rest : List ℕ). take 12 bytes ++ rest) others
    ∙ take-append-drop 12 bytes

rows_in_range : (k : ℕ) (bytes : List ℕ) → AreBytes bytes → All IsRow (rows_from k bytes)
unfolding rows_from
rows_in_range zero bytes fits = All-nil IsRow
rows_in_range (suc k) bytes fits = All-cons IsRow (row_from (take 12 bytes)) (rows_from k (drop 12 bytes))
    (IsRow-row_from (take 12 bytes) (AreBytes-take 12 bytes fits))
    (rows_in_range k (drop 12 bytes) (AreBytes-drop 12 bytes fits))

-- ---- the whole

abbrev Found : List ℕ → Type 0
Found bytes = (image : ImageValue) × IsTextOf bytes image

image_of_header : (h : Header) (bytes : List ℕ) → AreBytes bytes → IsWholeHeader h bytes → Found bytes
image_of_header h bytes fits whole =
    let size = passes_size h (length bytes) whole.passes in
    let body = drop (header_bytes h.version) bytes in
    let body_fits : AreBytes body = AreBytes-drop (header_bytes h.version) bytes fits in
    let rest = drop (12 * h.loops) body in
    let rest_fits : AreBytes rest = AreBytes-drop (12 * h.loops) body body_fits in
    let table = take (12 * h.loops) body in
    let words = take (4 * h.initial) rest in
    let code = drop (4 * h.initial) rest in
    let table_fits : AreBytes table = AreBytes-take (12 * h.loops) body body_fits in
    let words_fit : AreBytes words = AreBytes-take (4 * h.initial) rest rest_fits in
    let code_fits : AreBytes code = AreBytes-drop (4 * h.initial) rest rest_fits in
    let body_length : length body ≡ 12 * h.loops + 4 * h.initial + h.code = omega (arith, length-drop (header_bytes h.version) bytes) in
    let rest_length : length rest ≡ 4 * h.initial + h.code = omega (arith, length-drop (12 * h.loops) body) in
    let table_length : length table ≡ 12 * h.loops = omega (arith, length-take (12 * h.loops) body) in
    let words_length : length words ≡ 4 * h.initial = omega (arith, length-take (4 * h.initial) rest) in
    let code_length : length code ≡ h.code = omega (arith, length-drop (4 * h.initial) rest) in
    let image : ImageValue = record {
      version = h.version;
      workspace = h.workspace;
      start = h.start;
      packet = h.packet;
      result = h.result;
      loops = rows_from h.loops table;
      initial = words_from h.initial words;
      code = code;
    } in
    let header_is : header_of image ≡ h = same_header image h refl refl refl refl refl code_length (length-rows_from h.loops table) (length-words_from h.initial words) in
    let parts : flat_map row_text image.loops ++ (flat_map word image.initial ++ image.code) ≡ body =
    ap (λ (front : List ℕ). front ++ (flat_map word image.initial ++ code)) (rows_spelled h.loops table table_fits table_length)
    ∙ ap (λ (middle : List ℕ). table ++ (middle ++ code)) (words_spelled h.initial words words_fit words_length)
    ∙ two_cuts body (12 * h.loops) (4 * h.initial) in (
      image,
      assembled bytes image fits (subst (λ (k : Header). IsWholeHeader k bytes) (sym header_is) whole) parts
          (rows_in_range h.loops table table_fits) (words_below h.initial words words_fit) (All-AreBytes code code_fits),
    )

-- bytes that pass each test have a whole header
whole_header : (o : Option Version) (bytes : List ℕ) → version_of bytes ≡ o → fault_of o bytes ≡ None → (h : Header) × IsWholeHeader h bytes
whole_header None bytes is none = absurd cc
whole_header (Some v) bytes is none =
    elim (cases_Bool (ltb (length bytes) (header_bytes v))) [
      | inl short ↦ absurd (let refused = cond-true _ (Some (Refused F2 (length bytes))) (header_fault (header_at v bytes) (length bytes)) short in cc)
      | inr long ↦ (
        header_at v bytes,
        record {
          version = is;
          long = ltb-false _ _ long;
          fields = refl;
          passes = sym (cond-false _ (Some (Refused F2 (length bytes))) (header_fault (header_at v bytes) (length bytes)) long) ∙ none;
        },
      )
    ]

-- bytes that pass each test are an image's
pub image_found : (bytes : List ℕ) → All (λ byte. byte < 256) bytes → first_fault bytes ≡ None → (image : ImageValue) × IsTextOf bytes image
unfolding first_fault
image_found bytes fits none =
    let found = whole_header (version_of bytes) bytes refl none in
    image_of_header found.0 bytes (AreBytes-All bytes fits) found.1
