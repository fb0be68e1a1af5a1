-- Which bytes are symbols, the longer ones first
use Rattle.std.specs.Prelude.{ℕ, Bool, true, false, ◌==◌, ◌&&◌, if◌then◌else◌, Option, Some, None, List, [], ◌∷◌}
use Rattle.tpw_occam_lexing.specs.declared.symbol.Symbol.{Symbol}
use Rattle.tpw_occam_lexing.specs.declared.symbol.Symbol.TheVariants as symbol

-- := /\ \/ >< << >> <> <= >=
abbrev pub sign_of_two : ℕ → ℕ → Option Symbol
sign_of_two a b =
    if (a == 58) && (b == 61) then Some symbol.Becomes
    else (if (a == 47) && (b == 92) then Some symbol.BitAnd
    else (if (a == 92) && (b == 47) then Some symbol.BitOr
    else (if (a == 62) && (b == 60) then Some symbol.BitXor
    else (if (a == 60) && (b == 60) then Some symbol.ShiftLeft
    else (if (a == 62) && (b == 62) then Some symbol.ShiftRight
    else (if (a == 60) && (b == 62) then Some symbol.NotEqual
    else (if (a == 60) && (b == 61) then Some symbol.AtMost
    else (if (a == 62) && (b == 61) then Some symbol.AtLeast
    else None))))))))

-- : , ? ! + - * / \ ~ = < > ( ) [ ]
abbrev pub sign_of_one : ℕ → Option Symbol
sign_of_one c =
    if c == 58 then Some symbol.Colon
    else (if c == 44 then Some symbol.Comma
    else (if c == 63 then Some symbol.Receive
    else (if c == 33 then Some symbol.Send
    else (if c == 43 then Some symbol.Add
    else (if c == 45 then Some symbol.Subtract
    else (if c == 42 then Some symbol.Multiply
    else (if c == 47 then Some symbol.Divide
    else (if c == 92 then Some symbol.Remainder
    else (if c == 126 then Some symbol.BitNot
    else (if c == 61 then Some symbol.Equal
    else (if c == 60 then Some symbol.Less
    else (if c == 62 then Some symbol.Greater
    else (if c == 40 then Some symbol.OpenRound
    else (if c == 41 then Some symbol.CloseRound
    else (if c == 91 then Some symbol.OpenSquare
    else (if c == 93 then Some symbol.CloseSquare
    else None))))))))))))))))

abbrev pub sized : ℕ → Option Symbol → Option (Symbol × ℕ) → Option (Symbol × ℕ)
sized width (Some symbol) other = Some (symbol, width)
sized width None other = other

-- the longest symbol at the front of bytes, and how many bytes it has
abbrev pub sign : List ℕ → Option (Symbol × ℕ)
sign [] = None
sign (a ∷ []) = sized 1 (sign_of_one a) None
sign (a ∷ b ∷ more) = sized 2 (sign_of_two a b) (sized 1 (sign_of_one a) None)

-- a line may go on behind an operator, a comma, := and an opening bracket
abbrev pub is_open_sign : Symbol → Bool
is_open_sign symbol.Colon = false
is_open_sign symbol.Receive = false
is_open_sign symbol.Send = false
is_open_sign symbol.CloseRound = false
is_open_sign symbol.CloseSquare = false
is_open_sign other = true

-- something stands in front of it wherever it stands
abbrev pub is_between_sign : Symbol → Bool
is_between_sign symbol.Colon = false
is_between_sign symbol.Subtract = false
is_between_sign symbol.BitNot = false
is_between_sign symbol.OpenRound = false
is_between_sign symbol.OpenSquare = false
is_between_sign other = true
