-- What a text is made of: at each place the longest lexeme that its bytes allow
use Rattle.std.specs.Prelude.{ℕ, ◌+◌, ◌-◌, ◌*◌, ◌^◌, ◌==◌, ◌&&◌, nat_lt, nat_le, Bool, true, false, if◌then◌else◌}
use Rattle.std.specs.Prelude.{Option, Some, None, option_map, is_some, List, [], ◌∷◌, length, take, drop}
use Rattle.tpw_occam_terms.specs.Spelling.{digit, letter, front}
use Rattle.tpw_occam_lexing.specs.declared.bytes.Class.TheVariants as class
use Rattle.tpw_occam_lexing.specs.declared.keywords.Keyword.{Keyword}
use Rattle.tpw_occam_lexing.specs.declared.symbol.Symbol.{Symbol}
use Rattle.tpw_occam_lexing.specs.declared.token.Token.{Token}
use Rattle.tpw_occam_lexing.specs.declared.token.Token.TheVariants as token
use Rattle.tpw_occam_lexing.specs.declared.lexeme.Within.{Within}
use Rattle.tpw_occam_lexing.specs.declared.lexeme.Within.TheVariants as within
use Rattle.tpw_occam_lexing.specs.Bytes.{is_letter, is_digit, run}
use Rattle.tpw_occam_lexing.specs.Keywords.{keyword_of}
use Rattle.tpw_occam_lexing.specs.Symbols.{sign}

-- a name, a keyword, the digits of a number behind # where they are hexadecimal, what stands between the quotes of a
-- character or a text, or a symbol
pub data Lexeme : Type 0 where
  Name : (spelled : List ℕ) → Lexeme
  Word : (keyword : Keyword) → Lexeme
  Number : (spelled : List ℕ) → Lexeme
  Character : (spelled : List ℕ) → Lexeme
  Text : (spelled : List ℕ) → Lexeme
  Sign : (symbol : Symbol) → Lexeme

-- what a token says
abbrev pub lexeme_of : Token → Lexeme
lexeme_of (token.Name spelled) = Name spelled.now
lexeme_of (token.Keyword keyword) = Word keyword
lexeme_of (token.Number spelled) = Number spelled.now
lexeme_of (token.Character spelled) = Character spelled.now
lexeme_of (token.Text spelled) = Text spelled.now
lexeme_of (token.Symbol symbol) = Sign symbol

-- a lexeme and how many bytes it has; none where the bytes begin with none
abbrev pub Read : Type 0
Read = Option (Lexeme × ℕ)

abbrev pub where_true : {A : Type 0} → Bool → Option A → Option A
where_true true a = a
where_true false a = None

-- ---- words

abbrev pub word_or : List ℕ → Option Keyword → Lexeme
word_or spelled None = Name spelled
word_or spelled (Some keyword) = Word keyword

-- letters, digits and dots: a keyword, or a name
unfoldable pub word : List ℕ → Read
word bytes =
    let spelled = take (run class.Word bytes) bytes in Some (word_or spelled (keyword_of spelled), run class.Word bytes)

-- ---- numbers

-- whether a number and further digits make one below 2 to the 31
abbrev pub is_int : ℕ → List ℕ → Bool
is_int n [] = nat_lt n (2 ^ 31)
is_int n (c ∷ more) = nat_lt n (2 ^ 31) && is_int (10 * n + (c - 48)) more

unfoldable pub decimal : List ℕ → Read
decimal bytes =
    let digits = take (run class.Digit bytes) bytes in
    where_true (is_int 0 digits) (Some (Number digits, run class.Digit bytes))

-- one to eight digits behind a #
unfoldable pub hexadecimal : List ℕ → Read
hexadecimal bytes =
    let n = run class.Hexadecimal (drop 1 bytes) in
    where_true (nat_lt 0 n && nat_le n 8) (Some (Number (take (1 + n) bytes), 1 + n))

-- ---- quotes

abbrev pub begins : ℕ → List ℕ → Bool
begins quote [] = false
begins quote (c ∷ more) = c == quote

abbrev pub quoted : List ℕ → Option (ℕ × List ℕ) → Read
quoted bytes None = None
quoted bytes (Some (byte, behind)) =
    let n = length bytes - length behind in where_true (begins 39 behind) (Some (Character (take n bytes), n + 2))

-- between quotes, one byte as a text spells it
unfoldable pub character : List ℕ → Read
character bytes = if begins 39 (drop 1 bytes) then None else quoted (drop 1 bytes) (front (drop 1 bytes))

-- what stands behind a byte of a text: an escape is *c and the like, or *# and two digits
abbrev pub only_where : Bool → Within → Option Within
only_where true next = Some next
only_where false next = None

unfoldable pub further : Within → ℕ → Option Within
further within.Plain c = if c == 42 then Some within.Star else only_where (nat_lt c 128) within.Plain
further within.Star c = if c == 35 then Some within.Hash else only_where (is_some (letter c)) within.Plain
further within.Hash c = only_where (is_some (digit c)) within.High
further within.High c = only_where (is_some (digit c)) within.Plain

abbrev pub is_closed : Within → ℕ → Bool
is_closed within.Plain c = c == 34
is_closed other c = false

-- one more, and this many more
abbrev pub plus : ℕ → Option ℕ → Option ℕ
plus k n = option_map (λ n. n + k) n

abbrev pub and_then : Option Within → (Within → Option ℕ) → Option ℕ
and_then None next = None
and_then (Some within) next = next within

-- how many bytes stand in front of the quote that ends a text
abbrev pub width : Within → List ℕ → Option ℕ
width within [] = None
width within (c ∷ more) =
    if is_closed within c then Some 0 else and_then (further within c) (λ next. plus 1 (width next more))

abbrev pub text_of : List ℕ → Option ℕ → Read
text_of bytes None = None
text_of bytes (Some n) = Some (Text (take n bytes), n + 2)

-- between double quotes, bytes and escapes
unfoldable pub text : List ℕ → Read
text bytes = text_of (drop 1 bytes) (width within.Plain (drop 1 bytes))

-- ---- all of them

abbrev pub sign_of : Option (Symbol × ℕ) → Read
sign_of None = None
sign_of (Some (symbol, n)) = Some (Sign symbol, n)

unfoldable pub symbol : List ℕ → Read
symbol bytes = sign_of (sign bytes)

-- the lexeme at the front of bytes
unfoldable pub lexeme_at : List ℕ → Read
lexeme_at [] = None
lexeme_at (c ∷ more) =
    if c == 35 then hexadecimal (c ∷ more)
    else (if c == 39 then character (c ∷ more)
    else (if c == 34 then text (c ∷ more)
    else (if is_letter c then word (c ∷ more)
    else (if is_digit c then decimal (c ∷ more)
    else symbol (c ∷ more)))))
