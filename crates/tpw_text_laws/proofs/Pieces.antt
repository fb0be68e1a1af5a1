-- A line that is written in pieces has these words.
use Rattle.std.proofs.Common.{◌≡◌, ℕ, ◌+◌, ◌<◌, ◌==◌, ◌&&◌, Bool, true, false, List, [], ◌∷◌, ◌++◌, length, refl, ap, sym, ◌∙◌, arith, append_assoc}
use Rattle.std.specs.List.{list_all}
use Rattle.std.specs.Char.{is_ascii_whitespace}
use Rattle.std.proofs.lemmas.Bool.Decides.{nat_tests}
use Rattle.std.proofs.lemmas.List.Folds.{list_all-append}
use Rattle.tpw_text.specs.Words.{Token, is_mark, is_plain, begins, before_comment, tokens, words_of_line, word_if_any}
use Rattle.tpw_text.proofs.Tokens.{both_true, a_run, alone}
use Rattle.tpw_text_laws.proofs.Bytes.{is_minus, IsWord}
use Rattle.tpw_text_laws.proofs.TextLines.{is_shown, IsLine}

-- a space, a word or a mark
pub data Piece : Type 0 where
  Gap : Piece
  Of : (word : List ℕ) → Piece
  Mark : (byte : ℕ) → Piece

abbrev pub write : List Piece → List ℕ
write [] = []
write (Gap ∷ ps) = 32 ∷ write ps
write (Of w ∷ ps) = w ++ write ps
write (Mark b ∷ ps) = b ∷ write ps

-- the words, from a column on
abbrev pub placed : ℕ → ℕ → List Piece → List Token
placed line column [] = []
placed line column (Gap ∷ ps) = placed line (column + 1) ps
placed line column (Of w ∷ ps) = record { text = w; line = line; column = column } ∷ placed line (column + length w) ps
placed line column (Mark b ∷ ps) = record { text = b ∷ []; line = line; column = column } ∷ placed line (column + 1) ps

-- no word stands behind another without a space or a mark between
abbrev pub AreApart : List Piece → Type 0
AreApart [] = Unit {0}
AreApart (Gap ∷ ps) = AreApart ps
AreApart (Of w ∷ ps) = IsWord w × ((begins is_plain (write ps) ≡ false) × AreApart ps)
AreApart (Mark b ∷ ps) = (is_mark b ≡ true) × AreApart ps

-- what stands behind the pieces: nothing, or spaces and a comment
pub record IsTail (tail : List ℕ) : Type 0 where
  pub minus : begins is_minus tail ≡ false
  pub plain : begins is_plain (before_comment tail) ≡ false
  pub none : (line column : ℕ) → tokens line column (before_comment tail) ≡ []
  pub shown : IsLine tail

not_minus : (b : ℕ) → is_plain b ≡ false → is_minus b ≡ false
unfolding is_plain
not_minus b h = grind (arith, nat_tests)

no_minus : (bytes : List ℕ) → begins is_plain bytes ≡ false → begins is_minus bytes ≡ false
no_minus [] none = refl
no_minus (b ∷ bytes) none = not_minus b none

-- bytes and a tail
behind_too : (test : ℕ → Bool) (bytes tail : List ℕ) → begins test bytes ≡ false → begins test tail ≡ false → begins test (bytes ++ tail) ≡ false
behind_too test [] tail none none' = none'
behind_too test (b ∷ bytes) tail none none' = none

mark_no_comment : (b : ℕ) → is_mark b ≡ true → ((b == 59) ≡ false) × ((b == 45) ≡ false)
mark_no_comment b m = (grind (arith, nat_tests), grind (arith, nat_tests))

kept_byte : (b : ℕ) (bytes : List ℕ) → (b == 59) ≡ false → (b == 45) ≡ false → before_comment (b ∷ bytes) ≡ b ∷ before_comment bytes
unfolding before_comment
kept_byte b bytes e e' = rw (e, e') refl

no_comment : (ps : List Piece) (tail : List ℕ) → AreApart ps → begins is_minus tail ≡ false → before_comment (write ps ++ tail) ≡ write ps ++ before_comment tail
no_comment [] tail apart minus = refl
no_comment (Gap ∷ ps) tail apart minus = kept_byte 32 (write ps ++ tail) refl refl ∙ ap (λ bs. 32 ∷ bs) (no_comment ps tail apart minus)
no_comment (Of w ∷ ps) tail apart minus =
    ap before_comment (append_assoc w (write ps) tail)
    ∙ apart.0.safe (write ps ++ tail) (behind_too is_minus (write ps) tail (no_minus (write ps) apart.1.0) minus)
    ∙ ap (λ bs. w ++ bs) (no_comment ps tail apart.1.1 minus) ∙ sym (append_assoc w (write ps) (before_comment tail))
no_comment (Mark b ∷ ps) tail apart minus =
    let not_comment = mark_no_comment b apart.0 in
    kept_byte b (write ps ++ tail) not_comment.0 not_comment.1 ∙ ap (λ bs. b ∷ bs) (no_comment ps tail apart.1 minus)

one_word : (line column : ℕ) (w : List ℕ) → 0 < length w → word_if_any line column w ≡ record { text = w; line = line; column = column } ∷ []
one_word line column [] some = absurd (omega arith)
one_word line column (b ∷ w) some = refl

mark_alone : (b : ℕ) (bytes : List ℕ) → is_mark b ≡ true → (is_ascii_whitespace b ≡ false) × ((is_plain b && begins is_plain bytes) ≡ false)
unfolding is_plain
mark_alone b bytes m =
    let white : is_ascii_whitespace b ≡ false = grind (arith, nat_tests) in
    (white, rw (m, white) refl)

space : (line column : ℕ) (bytes : List ℕ) → tokens line column (32 ∷ bytes) ≡ tokens line (column + 1) bytes
unfolding tokens
space line column bytes = refl

cut : (line column : ℕ) (ps : List Piece) (tail : List ℕ) → AreApart ps → begins is_plain tail ≡ false →
    ((n c : ℕ) → tokens n c tail ≡ []) → tokens line column (write ps ++ tail) ≡ placed line column ps
cut line column [] tail apart plain none = none line column
cut line column (Gap ∷ ps) tail apart plain none = space line column (write ps ++ tail) ∙ cut line (column + 1) ps tail apart plain none
cut line column (Of w ∷ ps) tail apart plain none =
    ap (tokens line column) (append_assoc w (write ps) tail)
    ∙ a_run line column w (write ps ++ tail) apart.0.plain (behind_too is_plain (write ps) tail apart.1.0 plain)
    ∙ ap (λ ws. ws ++ tokens line (column + length w) (write ps ++ tail)) (one_word line column w apart.0.some)
    ∙ ap (λ ws. record { text = w; line = line; column = column } ∷ ws) (cut line (column + length w) ps tail apart.1.1 plain none)
cut line column (Mark b ∷ ps) tail apart plain none =
    let is = mark_alone b (write ps ++ tail) apart.0 in
    alone line column b (write ps ++ tail) is.0 is.1
    ∙ ap (λ ws. record { text = b ∷ []; line = line; column = column } ∷ ws) (cut line (column + 1) ps tail apart.1 plain none)

-- the words of a line
pub words_are : (line : ℕ) (ps : List Piece) (tail : List ℕ) → AreApart ps → IsTail tail → words_of_line line (write ps ++ tail) ≡ placed line 1 ps
words_are line ps tail apart is = ap (tokens line 1) (no_comment ps tail apart is.minus) ∙ cut line 1 ps (before_comment tail) apart is.plain is.none

-- it is one line
plain_shown : (b : ℕ) → is_plain b ≡ true → is_shown b ≡ true
unfolding is_plain
plain_shown b h = grind (arith, nat_tests)

mark_shown : (b : ℕ) → is_mark b ≡ true → is_shown b ≡ true
mark_shown b h = grind (arith, nat_tests)

pub word_shown : (w : List ℕ) → list_all is_plain w ≡ true → IsLine w
word_shown [] all = refl
word_shown (b ∷ w) all =
    let both = both_true (is_plain b) (list_all is_plain w) all in
    rw (plain_shown b both.0) (word_shown w both.1)

pub joined_line : (a b : List ℕ) → IsLine a → IsLine b → IsLine (a ++ b)
joined_line a b left right = rw (list_all-append is_shown, left) right

written_line : (ps : List Piece) → AreApart ps → IsLine (write ps)
written_line [] apart = refl
written_line (Gap ∷ ps) apart = written_line ps apart
written_line (Of w ∷ ps) apart = joined_line w (write ps) (word_shown w apart.0.plain) (written_line ps apart.1.1)
written_line (Mark b ∷ ps) apart = rw (mark_shown b apart.0) (written_line ps apart.1)

pub is_line : (ps : List Piece) (tail : List ℕ) → AreApart ps → IsTail tail → IsLine (write ps ++ tail)
is_line ps tail apart is = joined_line (write ps) tail (written_line ps apart) is.shown

pub no_tail : IsTail []
unfolding before_comment tokens
no_tail = record { minus = refl; plain = refl; none = λ line column. refl; shown = refl }

pub comment_tail : (text : List ℕ) → IsLine text → IsTail (32 ∷ 32 ∷ 59 ∷ text)
unfolding before_comment tokens is_plain
comment_tail text shown = record { minus = refl; plain = refl; none = λ line column. refl; shown = shown }
