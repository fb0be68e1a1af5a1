-- No two images have one text.
use Rattle.std.proofs.Common.{◌≡◌, ℕ, ℤ, pos, negsuc, ◌^◌, ◌<◌, List, [], ◌∷◌, ◌++◌, length, take, drop, All, Some, refl, sym, ap, ◌∙◌, FitsSigned, arith}
use Rattle.std.specs.List.{flat_map}
use Rattle.std.specs.Int.{w32, from_le_bytes, cast_signed, cast_unsigned}
use Rattle.std.proofs.lemmas.List.{take_at, drop_at, append_cancel_left}
use Rattle.std.proofs.lemmas.List.Elements.{All-head, All-tail}
use Rattle.std.proofs.lemmas.Int.{to_z-of_z}
use Rattle.std.proofs.lemmas.Nat.{from_le_bytes-to_le_bytes_4}
use Rattle.tp_image.specs.declared.header.Header.{Header}
use Rattle.tp_image.specs.declared.image.LoopRow.{LoopRow}
use Rattle.tp_image.specs.declared.image.Version.{Version}
use Rattle.tp_image.specs.Image.{ImageValue, IsRow}
use Rattle.tp_image.specs.Text.{half_word, word, row_text, header_text, header_of, IsTextOf}
use Rattle.tp_image.specs.Faults.{half_word_at, header_at, IsWholeHeader}
use Rattle.tp_image.proofs.Bodies.{rest_of, text_parts, length-rows, length-words, IsWholeHeader-text}
use Rattle.tp_image.proofs.Spelled.{half_word_back}

-- two joins of fronts of one length
split_same : (a b c d : List ℕ) → length a ≡ length c → a ++ b ≡ c ++ d → (a ≡ c) × (b ≡ d)
split_same a b c d long e =
    (sym (take_at a b (length c) long) ∙ ap (take (length c)) e ∙ take_at c d (length c) refl, sym (drop_at a b (length c) long) ∙ ap (drop (length c)) e ∙ drop_at c d (length c) refl)

-- a version is one
one_version : (v w : Version) → Some v ≡ Some w → v ≡ w
one_version v w e = cc

same_word : (m n : ℕ) → m < 2 ^ 32 → n < 2 ^ 32 → word m ≡ word n → m ≡ n
same_word m n p q e = sym (from_le_bytes-to_le_bytes_4 m p) ∙ ap (from_le_bytes w32) e ∙ from_le_bytes-to_le_bytes_4 n q

same_words : (a b : List ℕ) → All (λ n. n < 2 ^ 32) a → All (λ n. n < 2 ^ 32) b → length a ≡ length b → flat_map word a ≡ flat_map word b → a ≡ b
same_words [] [] p q long e = refl
same_words [] (y ∷ b) p q long e = absurd (omega arith)
same_words (x ∷ a) [] p q long e = absurd (omega arith)
same_words (x ∷ a) (y ∷ b) p q long e =
    let parts = split_same (word x) (flat_map word a) (word y) (flat_map word b) refl e in
    let heads = same_word x y (All-head (λ n. n < 2 ^ 32) x a p) (All-head (λ n. n < 2 ^ 32) y b q) parts.0 in
    let tails = same_words a b (All-tail (λ n. n < 2 ^ 32) x a p) (All-tail (λ n. n < 2 ^ 32) y b q) (omega arith) parts.1 in
    cc

same_start : (a b : ℤ) → FitsSigned w32 a → FitsSigned w32 b → cast_unsigned w32 a ≡ cast_unsigned w32 b → a ≡ b
same_start a b p q e = sym (to_z-of_z w32 a p) ∙ ap (cast_signed w32) e ∙ to_z-of_z w32 b q

unsigned_below : (a : ℤ) → FitsSigned w32 a → cast_unsigned w32 a < 2 ^ 32
unsigned_below (pos n) p = omega (arith, p)
unsigned_below (negsuc n) p = omega (arith, p)

-- the field at a place of a row's text
same_half_word : (m n : ℕ) → m < 2 ^ 16 → n < 2 ^ 16 → half_word m ≡ half_word n → m ≡ n
same_half_word m n p q e = sym (half_word_back m p) ∙ ap (λ (bytes : List ℕ). half_word_at bytes 0) e ∙ half_word_back n q

abbrev row_with : (head lend control count : ℕ) → ℤ → LoopRow
row_with head lend control count start = record { head = head; lend = lend; control = control; count = count; start = start }

same_fields : (a b c d a' b' c' d' : ℕ) (e e' : ℤ) → a ≡ a' → b ≡ b' → c ≡ c' → d ≡ d' → e ≡ e' → row_with a b c d e ≡ row_with a' b' c' d' e'
same_fields a b c d a' b' c' d' e e' p q r s t = cc

same_row : (r s : LoopRow) → IsRow r → IsRow s → row_text r ≡ row_text s → r ≡ s
same_row r s p q e =
    let head = same_half_word r.head s.head p.head q.head (ap (take 2) e) in
    let lend = same_half_word r.lend s.lend p.lend q.lend (ap (λ (bytes : List ℕ). take 2 (drop 2 bytes)) e) in
    let control = same_half_word r.control s.control p.control q.control (ap (λ (bytes : List ℕ). take 2 (drop 4 bytes)) e) in
    let count = same_half_word r.count s.count p.count q.count (ap (λ (bytes : List ℕ). take 2 (drop 6 bytes)) e) in
    let start = same_start r.start s.start p.start q.start (same_word _ _ (unsigned_below r.start p.start) (unsigned_below s.start q.start) (ap (drop 8) e)) in
    same_fields r.head r.lend r.control r.count s.head s.lend s.control s.count r.start s.start head lend control count start

same_rows : (a b : List LoopRow) → All IsRow a → All IsRow b → length a ≡ length b → flat_map row_text a ≡ flat_map row_text b → a ≡ b
same_rows [] [] p q long e = refl
same_rows [] (y ∷ b) p q long e = absurd (omega arith)
same_rows (x ∷ a) [] p q long e = absurd (omega arith)
same_rows (x ∷ a) (y ∷ b) p q long e =
    let parts = split_same (row_text x) (flat_map row_text a) (row_text y) (flat_map row_text b) refl e in
    let heads = same_row x y (All-head IsRow x a p) (All-head IsRow y b q) parts.0 in
    let tails = same_rows a b (All-tail IsRow x a p) (All-tail IsRow y b q) (omega arith) parts.1 in
    cc

abbrev image_with : Header → List LoopRow → List ℕ → List ℕ → ImageValue
image_with h loops initial code = record {
  version = h.version;
  workspace = h.workspace;
  start = h.start;
  packet = h.packet;
  result = h.result;
  loops = loops;
  initial = initial;
  code = code;
}

same_image : (a b : ImageValue) → header_of a ≡ header_of b → a.loops ≡ b.loops → a.initial ≡ b.initial → a.code ≡ b.code → a ≡ b
same_image a b h p q r =
    ap (λ (k : Header). image_with k a.loops a.initial a.code) h
    ∙ ap (λ (loops : List LoopRow). image_with (header_of b) loops a.initial a.code) p
    ∙ ap (λ (initial : List ℕ). image_with (header_of b) b.loops initial a.code) q
    ∙ ap (λ (code : List ℕ). image_with (header_of b) b.loops b.initial code) r

-- both headers are what is read at the front
same_headers : (bytes : List ℕ) (h k : Header) → IsWholeHeader h bytes → IsWholeHeader k bytes → h ≡ k
same_headers bytes h k p q =
    let version = one_version h.version k.version (sym p.version ∙ q.version) in
    p.fields ∙ ap (λ (v : Version). header_at v bytes) version ∙ sym q.fields

pub one_image : (bytes : List ℕ) (a b : ImageValue) → IsTextOf bytes a → IsTextOf bytes b → a ≡ b
one_image bytes a b p q =
    let headers = same_headers bytes (header_of a) (header_of b) (IsWholeHeader-text bytes a p) (IsWholeHeader-text bytes b q) in
    let whole : header_text (header_of a) ++ rest_of a ≡ header_text (header_of b) ++ rest_of b = sym (text_parts a) ∙ sym p.1 ∙ q.1 ∙ text_parts b in
    let rests = append_cancel_left (header_text (header_of b)) (rest_of a) (rest_of b) (ap (λ (k : Header). header_text k ++ rest_of a) (sym headers) ∙ whole) in
    let loops_count = ap (λ (k : Header). k.loops) headers in
    let initial_count = ap (λ (k : Header). k.initial) headers in
    let rows = split_same (flat_map row_text a.loops) (flat_map word a.initial ++ a.code) (flat_map row_text b.loops)
    (flat_map word b.initial ++ b.code) (omega (arith, length-rows a.loops, length-rows b.loops)) rests in
    let words = split_same (flat_map word a.initial) a.code (flat_map word b.initial) b.code (omega (arith, length-words a.initial, length-words b.initial)) rows.1 in
    same_image a b headers
    (same_rows a.loops b.loops p.0.rows q.0.rows loops_count rows.0)
    (same_words a.initial b.initial p.0.words q.0.words initial_count words.0)
    words.1
