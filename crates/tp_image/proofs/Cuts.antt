-- Bytes that are cut as their header says are read as their image.
use Rattle.std.proofs.Common.{◌≡◌, ℕ, ◌+◌, ◌*◌, ◌/◌, ◌^◌, ◌<◌, List, ◌++◌, length, take, drop, All, refl, sym, ap, subst, ◌∙◌, arith}
use Rattle.std.specs.List.{flat_map}
use Rattle.std.specs.Simd.{first_chunks}
use Rattle.std.proofs.lemmas.List.{length-take, length-drop, get_or-drop, get_or_default}
use Rattle.tp_image.specs.declared.header.Header.{Header}
use Rattle.tp_image.specs.Image.{ImageValue, IsRow}
use Rattle.tp_image.specs.Text.{row_text, word, header_of, IsTextOf}
use Rattle.tp_image.specs.Faults.{IsWholeHeader}
use Rattle.tp_image.specs.Layout.{header_bytes}
use Rattle.tp_image.proofs.Headers.{AreBytes, passes_size}
use Rattle.tp_image.proofs.Bodies.{assembled, flat_map-first_chunks, two_cuts}

-- the bytes behind the header, cut into rows, words and code
pub record AreCuts (h : Header) (bytes table words code : List ℕ) : Type 0 where
  pub table_is : table ≡ take (12 * h.loops) (drop (header_bytes h.version) bytes)
  pub words_is : words ≡ take (4 * h.initial) (drop (12 * h.loops) (drop (header_bytes h.version) bytes))
  pub code_is : code ≡ drop (4 * h.initial) (drop (12 * h.loops) (drop (header_bytes h.version) bytes))

-- what was read of the cuts
pub record IsReadFrom (h : Header) (table words code : List ℕ) (image : ImageValue) : Type 0 where
  pub version : image.version ≡ h.version
  pub workspace : image.workspace ≡ h.workspace
  pub start : image.start ≡ h.start
  pub packet : image.packet ≡ h.packet
  pub result : image.result ≡ h.result
  pub loops : flat_map row_text image.loops ≡ flat_map (λ piece. piece) (first_chunks 12 (length table / 12) table)
  pub loops_count : length image.loops ≡ length table / 12
  pub initial : flat_map word image.initial ≡ flat_map (λ piece. piece) (first_chunks 4 (length words / 4) words)
  pub initial_count : length image.initial ≡ length words / 4
  pub code_is : image.code ≡ code
  pub rows_in_range : All IsRow image.loops
  pub words_in_range : All (λ word. word < 2 ^ 32) image.initial

pub same_header : (image : ImageValue) (h : Header) → image.version ≡ h.version → image.workspace ≡ h.workspace → image.start ≡ h.start → image.packet ≡ h.packet → image.result ≡ h.result
    → length image.code ≡ h.code → length image.loops ≡ h.loops → length image.initial ≡ h.initial → header_of image ≡ h
same_header image h p q r s t u v w = rw (p, q, r, s, t, u, v, w) refl

pub AreBytes-drop : (n : ℕ) (bytes : List ℕ) → AreBytes bytes → AreBytes (drop n bytes)
AreBytes-drop n bytes fits i = rw get_or-drop (fits (n + i))

pub All-AreBytes : (bytes : List ℕ) → AreBytes bytes → All (λ byte. byte < 256) bytes
All-AreBytes bytes fits = λ k d lt. rw (get_or_default bytes k d 0 lt) (fits k)

pub IsTextOf-cuts : (h : Header) (bytes table words code : List ℕ) (image : ImageValue) → AreBytes bytes →
    IsWholeHeader h bytes → AreCuts h bytes table words code → IsReadFrom h table words code image → IsTextOf bytes image
IsTextOf-cuts h bytes table words code image fits whole cuts read =
    let size = passes_size h (length bytes) whole.passes in
    let body = drop (header_bytes h.version) bytes in
    let rest = drop (12 * h.loops) body in
    let body_length : length body ≡ 12 * h.loops + 4 * h.initial + h.code = omega (arith, length-drop (header_bytes h.version) bytes) in
    let rest_length : length rest ≡ 4 * h.initial + h.code = omega (arith, length-drop (12 * h.loops) body) in
    let table_length : length table ≡ 12 * h.loops = ap length cuts.table_is ∙ (omega (arith, length-take (12 * h.loops) body)) in
    let words_length : length words ≡ 4 * h.initial = ap length cuts.words_is ∙ (omega (arith, length-take (4 * h.initial) rest)) in
    let code_length : length code ≡ h.code = ap length cuts.code_is ∙ (omega (arith, length-drop (4 * h.initial) rest)) in
    let rows_are : flat_map row_text image.loops ≡ table = read.loops ∙ flat_map-first_chunks 12 (length table / 12) table (omega arith) in
    let words_are : flat_map word image.initial ≡ words = read.initial ∙ flat_map-first_chunks 4 (length words / 4) words (omega arith) in
    let header_is : header_of image ≡ h =
    same_header image h read.version read.workspace read.start read.packet read.result (ap length read.code_is ∙ code_length) (omega (arith, read.loops_count)) (omega (arith, read.initial_count)) in
    let parts : flat_map row_text image.loops ++ (flat_map word image.initial ++ image.code) ≡ body =
    rw (rows_are, words_are, read.code_is, cuts.table_is, cuts.words_is, cuts.code_is) (two_cuts body (12 * h.loops) (4 * h.initial)) in
    let bytes_fit : AreBytes image.code = rw (read.code_is, cuts.code_is)
    (AreBytes-drop (4 * h.initial) rest (AreBytes-drop (12 * h.loops) body
    (AreBytes-drop (header_bytes h.version) bytes fits))) in
    assembled bytes image fits
    (subst (λ (k : Header). IsWholeHeader k bytes) (sym header_is) whole)
    (parts ∙ ap (λ (k : Header). drop (header_bytes k.version) bytes) (sym header_is))
    read.rows_in_range read.words_in_range (All-AreBytes image.code bytes_fit)
