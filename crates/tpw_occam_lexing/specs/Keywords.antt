-- Keywords by their spelling
use Rattle.std.specs.Prelude.{ℕ, Bool, true, false, Option, Some, None, List, [], ◌∷◌, if◌then◌else◌, codes}
use Rattle.std.specs.Str.{bytes_eq}
use Rattle.tpw_occam_lexing.specs.declared.keywords.Keyword.{Keyword}
use Rattle.tpw_occam_lexing.specs.declared.keywords.Keyword.TheVariants as keyword
use Rattle.tpw_occam_lexing.specs.declared.keywords.TheConstants.{KEYWORDS}

unfoldable pub spelling : Keyword → List ℕ
spelling keyword.After = codes "AFTER"
spelling keyword.And = codes "AND"
spelling keyword.BitAnd = codes "BITAND"
spelling keyword.BitNot = codes "BITNOT"
spelling keyword.BitOr = codes "BITOR"
spelling keyword.Bool = codes "BOOL"
spelling keyword.Byte = codes "BYTE"
spelling keyword.Case = codes "CASE"
spelling keyword.Chan = codes "CHAN"
spelling keyword.Else = codes "ELSE"
spelling keyword.False = codes "FALSE"
spelling keyword.For = codes "FOR"
spelling keyword.Function = codes "FUNCTION"
spelling keyword.If = codes "IF"
spelling keyword.Int = codes "INT"
spelling keyword.Is = codes "IS"
spelling keyword.Minus = codes "MINUS"
spelling keyword.MostNeg = codes "MOSTNEG"
spelling keyword.MostPos = codes "MOSTPOS"
spelling keyword.Not = codes "NOT"
spelling keyword.Of = codes "OF"
spelling keyword.Or = codes "OR"
spelling keyword.Plus = codes "PLUS"
spelling keyword.Proc = codes "PROC"
spelling keyword.Rem = codes "REM"
spelling keyword.Retypes = codes "RETYPES"
spelling keyword.Seq = codes "SEQ"
spelling keyword.Size = codes "SIZE"
spelling keyword.Skip = codes "SKIP"
spelling keyword.Stop = codes "STOP"
spelling keyword.Times = codes "TIMES"
spelling keyword.True = codes "TRUE"
spelling keyword.Val = codes "VAL"
spelling keyword.Alt = codes "ALT"
spelling keyword.At = codes "AT"
spelling keyword.BytesIn = codes "BYTESIN"
spelling keyword.Data = codes "DATA"
spelling keyword.From = codes "FROM"
spelling keyword.Inline = codes "INLINE"
spelling keyword.Int16 = codes "INT16"
spelling keyword.Int64 = codes "INT64"
spelling keyword.OffsetOf = codes "OFFSETOF"
spelling keyword.Packed = codes "PACKED"
spelling keyword.Par = codes "PAR"
spelling keyword.Place = codes "PLACE"
spelling keyword.Placed = codes "PLACED"
spelling keyword.Port = codes "PORT"
spelling keyword.Pri = codes "PRI"
spelling keyword.Processor = codes "PROCESSOR"
spelling keyword.Protocol = codes "PROTOCOL"
spelling keyword.Real32 = codes "REAL32"
spelling keyword.Real64 = codes "REAL64"
spelling keyword.Record = codes "RECORD"
spelling keyword.Reshapes = codes "RESHAPES"
spelling keyword.Result = codes "RESULT"
spelling keyword.Round = codes "ROUND"
spelling keyword.Step = codes "STEP"
spelling keyword.Timer = codes "TIMER"
spelling keyword.Trunc = codes "TRUNC"
spelling keyword.Type = codes "TYPE"
spelling keyword.ValOf = codes "VALOF"
spelling keyword.VecSpace = codes "VECSPACE"
spelling keyword.While = codes "WHILE"
spelling keyword.Workspace = codes "WORKSPACE"

-- the first of keywords that is spelled so
abbrev pub listed : List Keyword → List ℕ → Option Keyword
listed [] word = None
listed (keyword ∷ more) word = if bytes_eq (spelling keyword) word then Some keyword else listed more word

-- the keyword that a word is: by its spelling; INT has another name
unfoldable pub keyword_of : List ℕ → Option Keyword
keyword_of word = if bytes_eq word (codes "INT32") then Some keyword.Int else listed KEYWORDS word

-- a line may go on behind operators, and behind IS
abbrev pub is_open_word : Keyword → Bool
is_open_word keyword.Is = true
is_open_word keyword.After = true
is_open_word keyword.And = true
is_open_word keyword.BitAnd = true
is_open_word keyword.BitNot = true
is_open_word keyword.BitOr = true
is_open_word keyword.Minus = true
is_open_word keyword.Not = true
is_open_word keyword.Or = true
is_open_word keyword.Plus = true
is_open_word keyword.Rem = true
is_open_word keyword.Size = true
is_open_word keyword.Times = true
is_open_word other = false

-- something stands in front of it wherever it stands
abbrev pub is_between_word : Keyword → Bool
is_between_word keyword.Is = true
is_between_word keyword.After = true
is_between_word keyword.And = true
is_between_word keyword.BitAnd = true
is_between_word keyword.BitOr = true
is_between_word keyword.For = true
is_between_word keyword.Of = true
is_between_word keyword.Or = true
is_between_word keyword.Plus = true
is_between_word keyword.Rem = true
is_between_word keyword.Retypes = true
is_between_word keyword.Times = true
is_between_word other = false
