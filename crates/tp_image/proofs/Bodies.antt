-- The parts after the header, and the image as a whole.
use Rattle.std.proofs.Common.{◌≡◌, ℕ, zero, suc, ◌*◌, ◌^◌, ◌<◌, ◌≤◌, List, [], ◌∷◌, ◌++◌, length, take, drop, All, None, refl, sym, ap, ◌∙◌, append_assoc, arith}
use Rattle.std.specs.List.{flat_map}
use Rattle.std.specs.Simd.{first_chunks}
use Rattle.std.proofs.lemmas.List.{take-append-drop, nil_from_length, length-append, length-drop}
use Rattle.tp_image.specs.declared.header.Header.{Header}
use Rattle.tp_image.specs.declared.image.LoopRow.{LoopRow}
use Rattle.tp_image.specs.declared.image.Version.{Version}
use Rattle.tp_image.specs.declared.image.Version.TheVariants.{One, Two}
use Rattle.tp_image.specs.Image.{ImageValue, InRange, IsRow, most_initial}
use Rattle.tp_image.specs.Limits.{most_code, most_workspace}
use Rattle.tp_image.specs.Text.{word, row_text, header_text, header_of, text, IsTextOf}
use Rattle.tp_image.specs.Faults.{version_of, header_at, image_bytes, field_fault, header_fault, first_fault, IsWholeHeader}
use Rattle.tp_image.specs.Layout.{header_bytes}
use Rattle.tp_image.proofs.Headers.{AreBytes, HasRanges, ranges_hold, passes_fields, no_header_fault, first_fault-whole}
use Rattle.tp_image.proofs.Spelled.{IsHeader, header_spelled, header_at-text, version_of-text, length-header_text}

-- ---- pieces of one size

pub flat_map-first_chunks : (n k : ℕ) (xs : List ℕ) → k * n ≡ length xs → flat_map (λ piece. piece) (first_chunks n k xs) ≡ xs
flat_map-first_chunks n zero xs e = sym (nil_from_length xs (omega arith))
flat_map-first_chunks n (suc k) xs e =
    let left : k * n ≡ length (drop n xs) = omega (arith, length-drop n xs) in
    ap (λ (rest : List ℕ). take n xs ++ rest) (flat_map-first_chunks n k (drop n xs) left) ∙ take-append-drop n xs

pub length-rows : (rows : List LoopRow) → length (flat_map row_text rows) ≡ 12 * length rows
length-rows [] = refl
length-rows (row ∷ rows) = omega (arith, length-append (row_text row) (flat_map row_text rows), length-rows rows)

pub length-words : (words : List ℕ) → length (flat_map word words) ≡ 4 * length words
length-words [] = refl
length-words (w ∷ ws) = omega (arith, length-append (word w) (flat_map word ws), length-words ws)

pub two_cuts : (body : List ℕ) (m n : ℕ) → take m body ++ (take n (drop m body) ++ drop n (drop m body)) ≡ body
two_cuts body m n = ap (λ (rest : List ℕ). take m body ++ rest) (take-append-drop n (drop m body)) ∙ take-append-drop m body

-- ---- the whole

-- what follows the header
abbrev pub rest_of : ImageValue → List ℕ
rest_of image = flat_map row_text image.loops ++ (flat_map word image.initial ++ image.code)

pub text_parts : (image : ImageValue) → text image ≡ header_text (header_of image) ++ rest_of image
text_parts image =
    append_assoc (header_text (header_of image) ++ flat_map row_text image.loops) (flat_map word image.initial) image.code
    ∙ append_assoc (header_text (header_of image)) (flat_map row_text image.loops) (flat_map word image.initial ++ image.code)

length-text : (image : ImageValue) → length (text image) ≡ image_bytes (header_of image)
length-text image =
    let front = header_text (header_of image) in
    let rows = flat_map row_text image.loops in
    let words = flat_map word image.initial in
    omega (
      arith,
      length-append (front ++ rows ++ words) image.code,
      length-append (front ++ rows) words,
      length-append front rows,
      length-header_text (header_of image),
      length-rows image.loops,
      length-words image.initial,
    )

-- an image in range has a header in range, and the other way round
pub ranges_of : (image : ImageValue) → InRange image → HasRanges (header_of image)
ranges_of image r = record {
  code = r.code;
  workspace = r.workspace;
  start_least = r.start_least;
  start_most = r.start_most;
  packet = r.packet;
  result = r.result;
  loops = r.loops;
  initial = r.initial;
}

pub in_range : (image : ImageValue) → field_fault (header_of image) ≡ None → All IsRow image.loops → All (λ word. word < 2 ^ 32) image.initial → All (λ byte. byte < 256) image.code → InRange image
in_range image e rows words bytes =
    let p = ranges_hold (header_of image) e in
    record {
      code = p.code;
      workspace = p.workspace;
      start_least = p.start_least;
      start_most = p.start_most;
      packet = p.packet;
      result = p.result;
      loops = p.loops;
      initial = p.initial;
      rows = rows;
      words = words;
      bytes = bytes;
    }

-- a header in range, and what its sizes say, are an image's
pub assembled : (bytes : List ℕ) (image : ImageValue) → AreBytes bytes → IsWholeHeader (header_of image) bytes → rest_of image ≡ drop (header_bytes image.version) bytes
    → All IsRow image.loops → All (λ word. word < 2 ^ 32) image.initial → All (λ byte. byte < 256) image.code → IsTextOf bytes image
assembled bytes image fits whole rest rows words code =
    let h = header_of image in
    let parts : bytes ≡ header_text h ++ rest_of image =
    header_spelled image.version bytes fits whole.version whole.long
    ∙ ap (λ (k : Header). header_text k ++ drop (header_bytes image.version) bytes) (sym whole.fields)
    ∙ ap (λ (r : List ℕ). header_text h ++ r) (sym rest) in
    (in_range image (passes_fields h (length bytes) whole.passes) rows words code, parts ∙ sym (text_parts image))

-- the fields of an image fit 16 bits
narrow : (v : Version) (code workspace : ℕ) → code ≤ most_code v → workspace ≤ most_workspace v → (code < 2 ^ 16) × (workspace < 2 ^ 16)
narrow One code workspace p q = (omega arith, omega arith)
narrow Two code workspace p q = (omega arith, omega arith)

initial_narrow : (v : Version) (workspace initial : ℕ) → initial ≤ most_initial v workspace → initial ≤ workspace
initial_narrow One workspace initial p = omega arith
initial_narrow Two workspace initial p = omega arith

pub IsHeader-in_range : (image : ImageValue) → InRange image → IsHeader (header_of image)
IsHeader-in_range image r =
    let sizes = narrow image.version (length image.code) image.workspace r.code.1 r.workspace.1 in
    let start = r.start_most in
    let packet = r.packet.1 in
    let result = r.result.1 in
    let loops = r.loops in
    let initial = initial_narrow image.version image.workspace (length image.initial) r.initial in
    record {
      code = sizes.0;
      workspace = sizes.1;
      start = omega (arith, sizes.1);
      packet = omega arith;
      result = omega arith;
      loops = omega arith;
      initial = omega (arith, sizes.1);
    }

-- the text of an image begins with its header, and passes each test
pub IsWholeHeader-text : (bytes : List ℕ) (image : ImageValue) → IsTextOf bytes image → IsWholeHeader (header_of image) bytes
IsWholeHeader-text bytes image t =
    let h = header_of image in
    let r = t.0 in
    let parts : bytes ≡ header_text h ++ rest_of image = t.1 ∙ text_parts image in
    let long : header_bytes image.version ≤ length bytes = omega (arith, ap length parts, length-append (header_text h) (rest_of image), length-header_text h) in
    record {
      version = ap version_of parts ∙ version_of-text h (rest_of image);
      long = long;
      fields = sym (ap (header_at image.version) parts ∙ header_at-text h (rest_of image) (IsHeader-in_range image r) r.initial);
      passes = no_header_fault h (length bytes) (ranges_of image r) (ap length t.1 ∙ length-text image);
    }

-- bytes that an image has meet each test
pub first_fault-text : (bytes : List ℕ) (image : ImageValue) → IsTextOf bytes image → first_fault bytes ≡ None
first_fault-text bytes image t =
    let whole = IsWholeHeader-text bytes image t in
    first_fault-whole bytes image.version whole.version whole.long
    ∙ ap (λ (h : Header). header_fault h (length bytes)) (sym whole.fields)
    ∙ whole.passes
