-- The bytes at the front spell the header that is read there, and a header that is spelled is read again.
use Rattle.std.proofs.Common.{◌≡◌, ℕ, ◌+◌, ◌*◌, ◌/◌, ◌%◌, ◌^◌, ◌<◌, ◌≤◌, List, [], ◌∷◌, ◌++◌, length, get_or, drop, Some, refl, sym, ap, ◌∙◌, arith}
use Rattle.tp_image.specs.declared.header.Header.{Header}
use Rattle.tp_image.specs.declared.image.Version.{Version}
use Rattle.tp_image.specs.declared.image.Version.TheVariants.{One, Two}
use Rattle.tp_image.specs.Image.{most_initial}
use Rattle.tp_image.specs.Text.{magic, half_word, header_text}
use Rattle.tp_image.specs.Faults.{version_of, half_word_at, header_at}
use Rattle.tp_image.specs.Layout.{header_bytes}
use Rattle.tp_image.proofs.Cells.{cells, drop-cells}
use Rattle.tp_image.proofs.Headers.{AreBytes, version_front}

two_cells : (a b c d : ℕ) → a ≡ c → b ≡ d → a ∷ b ∷ [] ≡ c ∷ d ∷ []
two_cells a b c d p q = cc

-- a field of 16 bits is spelled by its two bytes
half_word-of : (low high : ℕ) → low < 256 → high < 256 → half_word (low + 256 * high) ≡ low ∷ high ∷ []
half_word-of low high p q = two_cells _ _ low high (omega arith) (omega arith)

pub half-half_word_at : (bytes : List ℕ) (place : ℕ) → AreBytes bytes → half_word (half_word_at bytes place) ≡ get_or bytes place 0 ∷ get_or bytes (place + 1) 0 ∷ []
half-half_word_at bytes place fits = half_word-of (get_or bytes place 0) (get_or bytes (place + 1) 0) (fits place) (fits (place + 1))

joined_1 : (bytes a b c d e f : List ℕ)
    → a ≡ get_or bytes 4 0 ∷ get_or bytes 5 0 ∷ []
    → b ≡ get_or bytes 6 0 ∷ get_or bytes 7 0 ∷ []
    → c ≡ get_or bytes 8 0 ∷ get_or bytes 9 0 ∷ []
    → d ≡ get_or bytes 10 0 ∷ get_or bytes 11 0 ∷ []
    → e ≡ get_or bytes 12 0 ∷ get_or bytes 13 0 ∷ []
    → f ≡ get_or bytes 14 0 ∷ get_or bytes 15 0 ∷ []
    → magic One ++ a ++ b ++ c ++ d ++ e ++ f ++ [] ≡ magic One ++ cells 4 12 bytes
joined_1 bytes a b c d e f a-is b-is c-is d-is e-is f-is = rw (a-is, b-is, c-is, d-is, e-is, f-is) refl

joined_2 : (bytes a b c d e f g : List ℕ)
    → a ≡ get_or bytes 4 0 ∷ get_or bytes 5 0 ∷ []
    → b ≡ get_or bytes 6 0 ∷ get_or bytes 7 0 ∷ []
    → c ≡ get_or bytes 8 0 ∷ get_or bytes 9 0 ∷ []
    → d ≡ get_or bytes 10 0 ∷ get_or bytes 11 0 ∷ []
    → e ≡ get_or bytes 12 0 ∷ get_or bytes 13 0 ∷ []
    → f ≡ get_or bytes 14 0 ∷ get_or bytes 15 0 ∷ []
    → g ≡ get_or bytes 16 0 ∷ get_or bytes 17 0 ∷ []
    → magic Two ++ a ++ b ++ c ++ d ++ e ++ f ++ g ≡ magic Two ++ cells 4 14 bytes
joined_2 bytes a b c d e f g a-is b-is c-is d-is e-is f-is g-is = rw (a-is, b-is, c-is, d-is, e-is, f-is, g-is) refl

-- the header that is read at the front is spelled there
pub header_spelled : (v : Version) (bytes : List ℕ) → AreBytes bytes → version_of bytes ≡ Some v →
    header_bytes v ≤ length bytes → bytes ≡ header_text (header_at v bytes) ++ drop (header_bytes v) bytes
header_spelled One bytes fits is long =
    let at = λ (place : ℕ). half-half_word_at bytes place fits in
    version_front bytes One is
    ∙ ap (λ (rest : List ℕ). magic One ++ rest) (drop-cells 12 4 bytes long)
    ∙ ap (λ (front : List ℕ). front ++ drop 16 bytes) (sym (joined_1 bytes _ _ _ _ _ _ (at 4) (at 6) (at 8) (at 10) (at 12) (at 14)))
header_spelled Two bytes fits is long =
    let at = λ (place : ℕ). half-half_word_at bytes place fits in
    version_front bytes Two is
    ∙ ap (λ (rest : List ℕ). magic Two ++ rest) (drop-cells 14 4 bytes long)
    ∙ ap (λ (front : List ℕ). front ++ drop 18 bytes) (sym (joined_2 bytes _ _ _ _ _ _ _ (at 4) (at 6) (at 8) (at 10) (at 12) (at 14) (at 16)))

-- what fields of 16 bits can say
pub record IsHeader (h : Header) : Type 0 where
  pub code : h.code < 2 ^ 16
  pub workspace : h.workspace < 2 ^ 16
  pub start : h.start < 2 ^ 16
  pub packet : h.packet < 2 ^ 16
  pub result : h.result < 2 ^ 16
  pub loops : h.loops < 2 ^ 16
  pub initial : h.initial < 2 ^ 16

pub half_word_back : (n : ℕ) → n < 2 ^ 16 → n % 256 + 256 * (n / 256 % 256) ≡ n
half_word_back n lt = omega arith

abbrev pub header_with : Version → (code workspace start packet result loops initial : ℕ) → Header
header_with v code workspace start packet result loops initial = record {
  version = v;
  code = code;
  workspace = workspace;
  start = start;
  packet = packet;
  result = result;
  loops = loops;
  initial = initial;
}

same_fields : (v : Version) (a b c d e f g a' b' c' d' e' f' g' : ℕ) → a ≡ a' → b ≡ b' → c ≡ c' → d ≡ d' → e ≡ e' → f ≡ f' → g ≡ g'
    → header_with v a b c d e f g ≡ header_with v a' b' c' d' e' f' g'
same_fields v a b c d e f g a' b' c' d' e' f' g' p q r s t u w = cc

-- a header that is spelled is read again, whatever follows
again : (v : Version) (code workspace start packet result loops initial : ℕ) (rest : List ℕ) →
    IsHeader (header_with v code workspace start packet result loops initial) → initial ≤ most_initial v workspace
    → header_at v (header_text (header_with v code workspace start packet result loops initial) ++ rest) ≡ header_with v code workspace start packet result loops initial
again One code workspace start packet result loops initial rest h none =
    same_fields One _ _ _ _ _ _ _ code workspace start packet result loops initial (half_word_back code h.code)
    (half_word_back workspace h.workspace) (half_word_back start h.start) (half_word_back packet h.packet)
    (half_word_back result h.result) (half_word_back loops h.loops) (let e : 0 ≡ initial = omega arith in e)
again Two code workspace start packet result loops initial rest h most =
    same_fields Two _ _ _ _ _ _ _ code workspace start packet result loops initial (half_word_back code h.code)
    (half_word_back workspace h.workspace) (half_word_back start h.start) (half_word_back packet h.packet)
    (half_word_back result h.result) (half_word_back loops h.loops) (half_word_back initial h.initial)

pub header_at-text : (h : Header) (rest : List ℕ) → IsHeader h → h.initial ≤ most_initial h.version h.workspace → header_at h.version (header_text h ++ rest) ≡ h
header_at-text h rest is_header most = again h.version h.code h.workspace h.start h.packet h.result h.loops h.initial rest is_header most

version_again : (v : Version) (code workspace start packet result loops initial : ℕ) (rest : List ℕ) →
    version_of (header_text (header_with v code workspace start packet result loops initial) ++ rest) ≡ Some v
version_again One code workspace start packet result loops initial rest = refl
version_again Two code workspace start packet result loops initial rest = refl

pub version_of-text : (h : Header) (rest : List ℕ) → version_of (header_text h ++ rest) ≡ Some h.version
version_of-text h rest = version_again h.version h.code h.workspace h.start h.packet h.result h.loops h.initial rest

length_again : (v : Version) (code workspace start packet result loops initial : ℕ) → length (header_text (header_with v code workspace start packet result loops initial)) ≡ header_bytes v
length_again One code workspace start packet result loops initial = refl
length_again Two code workspace start packet result loops initial = refl

pub length-header_text : (h : Header) → length (header_text h) ≡ header_bytes h.version
length-header_text h = length_again h.version h.code h.workspace h.start h.packet h.result h.loops h.initial
