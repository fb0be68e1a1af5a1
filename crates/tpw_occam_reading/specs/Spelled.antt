-- The lexemes that spell an expression, a type or parameters, in front of more.
use Rattle.std.specs.Prelude.{ℕ, ◌==◌, Bool, true, false, Option, Some, None, List, ◌∷◌}
use Rattle.tpw_occam_terms.specs.declared.name.Primitive.{Primitive}
use Rattle.tpw_occam_terms.specs.declared.name.Primitive.TheVariants as primitive
use Rattle.tpw_occam_terms.specs.declared.name.Name.{Name}
use Rattle.tpw_occam_terms.specs.declared.name.Passing.{Passing}
use Rattle.tpw_occam_terms.specs.declared.name.Passing.TheVariants as passing
use Rattle.tpw_occam_lexing.specs.declared.keywords.Keyword.TheVariants as keyword
use Rattle.tpw_occam_lexing.specs.declared.symbol.Symbol.TheVariants as symbol
use Rattle.tpw_occam_lexing.specs.Lexemes.{Lexeme, Word, Number, Character, Text, Sign}
use Rattle.tpw_occam_lexing.specs.Lexemes as lexeme
use Rattle.tpw_occam_meaning.specs.declared.operator.Monadic.{Monadic}
use Rattle.tpw_occam_meaning.specs.declared.operator.Monadic.TheVariants as monadic
use Rattle.tpw_occam_meaning.specs.declared.operator.Dyadic.{Dyadic}
use Rattle.tpw_occam_meaning.specs.declared.operator.Dyadic.TheVariants as dyadic
use Rattle.tpw_occam_meaning.specs.declared.expression.Direction.{Direction}
use Rattle.tpw_occam_meaning.specs.declared.expression.Direction.TheVariants as direction
use Rattle.tpw_occam_meaning.specs.declared.expression.Expression.{Expression}
use Rattle.tpw_occam_meaning.specs.declared.expression.Expression.TheVariants as expression
use Rattle.tpw_occam_meaning.specs.declared.expression.Expressions.{Expressions}
use Rattle.tpw_occam_meaning.specs.declared.expression.Expressions.TheVariants as expressions
use Rattle.tpw_occam_meaning.specs.declared.types.Names.{Names}
use Rattle.tpw_occam_meaning.specs.declared.types.Names.TheVariants as names
use Rattle.tpw_occam_meaning.specs.declared.types.Primitives.{Primitives}
use Rattle.tpw_occam_meaning.specs.declared.types.Primitives.TheVariants as primitives
use Rattle.tpw_occam_meaning.specs.declared.types.Sizes.{Sizes}
use Rattle.tpw_occam_meaning.specs.declared.types.Sizes.TheVariants as sizes
use Rattle.tpw_occam_meaning.specs.declared.types.Type as written
use Rattle.tpw_occam_meaning.specs.declared.types.Parameters.{Parameters}
use Rattle.tpw_occam_meaning.specs.declared.types.Parameters.TheVariants as parameters

abbrev pub named : Name → Lexeme
named name = lexeme.Name name.text.now

abbrev pub of_primitive : Primitive → Lexeme
of_primitive primitive.Int = Word keyword.Int
of_primitive primitive.Bool = Word keyword.Bool
of_primitive primitive.Byte = Word keyword.Byte

abbrev pub of_direction : Direction → Lexeme
of_direction direction.Receive = Sign symbol.Receive
of_direction direction.Send = Sign symbol.Send

abbrev pub of_truth : Bool → Lexeme
of_truth true = Word keyword.True
of_truth false = Word keyword.False

-- MOSTNEG, or MOSTPOS
abbrev pub of_most : Bool → Lexeme
of_most true = Word keyword.MostNeg
of_most false = Word keyword.MostPos

abbrev pub of_monadic : Monadic → Lexeme
of_monadic monadic.Negate = Sign symbol.Subtract
of_monadic monadic.Minus = Word keyword.Minus
of_monadic monadic.Complement = Sign symbol.BitNot
of_monadic monadic.BitNot = Word keyword.BitNot
of_monadic monadic.Not = Word keyword.Not
of_monadic monadic.Size = Word keyword.Size
of_monadic (monadic.Convert of) = of_primitive of

abbrev pub of_dyadic : Dyadic → Lexeme
of_dyadic dyadic.Add = Sign symbol.Add
of_dyadic dyadic.Subtract = Sign symbol.Subtract
of_dyadic dyadic.Multiply = Sign symbol.Multiply
of_dyadic dyadic.Divide = Sign symbol.Divide
of_dyadic dyadic.Remainder = Sign symbol.Remainder
of_dyadic dyadic.Rem = Word keyword.Rem
of_dyadic dyadic.Plus = Word keyword.Plus
of_dyadic dyadic.Minus = Word keyword.Minus
of_dyadic dyadic.Times = Word keyword.Times
of_dyadic dyadic.Conjunction = Sign symbol.BitAnd
of_dyadic dyadic.BitAnd = Word keyword.BitAnd
of_dyadic dyadic.Disjunction = Sign symbol.BitOr
of_dyadic dyadic.BitOr = Word keyword.BitOr
of_dyadic dyadic.ExclusiveOr = Sign symbol.BitXor
of_dyadic dyadic.ShiftLeft = Sign symbol.ShiftLeft
of_dyadic dyadic.ShiftRight = Sign symbol.ShiftRight
of_dyadic dyadic.Equal = Sign symbol.Equal
of_dyadic dyadic.NotEqual = Sign symbol.NotEqual
of_dyadic dyadic.Less = Sign symbol.Less
of_dyadic dyadic.Greater = Sign symbol.Greater
of_dyadic dyadic.AtMost = Sign symbol.AtMost
of_dyadic dyadic.AtLeast = Sign symbol.AtLeast
of_dyadic dyadic.After = Word keyword.After
of_dyadic dyadic.And = Word keyword.And
of_dyadic dyadic.Or = Word keyword.Or

-- ---- brackets

-- operators of one number form chains that need no brackets; one that has none needs them
abbrev pub chain : Dyadic → Option ℕ
chain dyadic.Add = Some 1
chain dyadic.Multiply = Some 2
chain dyadic.Plus = Some 3
chain dyadic.Times = Some 4
chain dyadic.Conjunction = Some 5
chain dyadic.BitAnd = Some 5
chain dyadic.Disjunction = Some 6
chain dyadic.BitOr = Some 6
chain dyadic.ExclusiveOr = Some 7
chain dyadic.And = Some 8
chain dyadic.Or = Some 9
chain other = None

abbrev pub is_same_chain : Option ℕ → Option ℕ → Bool
is_same_chain (Some a) (Some b) = a == b
is_same_chain a b = false

-- an expression that needs no brackets beside an operator, and one that needs none in front of it
abbrev pub is_operand : Expression → Bool
is_operand (expression.Monadic' operator span p operand) = false
is_operand (expression.Dyadic' operator span p left q right) = false
is_operand other = true

abbrev pub is_left_operand : Dyadic → Expression → Bool
is_left_operand operator (expression.Dyadic' other span p left q right) = is_same_chain (chain other) (chain operator)
is_left_operand operator e = is_operand e

abbrev pub bracketed_unless : Bool → (List Lexeme → List Lexeme) → List Lexeme → List Lexeme
bracketed_unless true written more = written more
bracketed_unless false written more = Sign symbol.OpenRound ∷ written (Sign symbol.CloseRound ∷ more)

-- ---- expressions

abbrev mutual
  -- brackets stand where the tree has them, and where an operand needs them
  pub spelled : Expression → List Lexeme → List Lexeme
  spelled (expression.Number digits span) more = Number digits.now ∷ more
  spelled (expression.Character quoted span) more = Character quoted.now ∷ more
  spelled (expression.Text quoted span) more = Text quoted.now ∷ more
  spelled (expression.Truth value span) more = of_truth value ∷ more
  spelled (expression.Most is_negative span) more = of_most is_negative ∷ Word keyword.Int ∷ more
  spelled (expression.Table' p items span) more =
      Sign symbol.OpenSquare ∷ listed items (Sign symbol.CloseSquare ∷ more)
  spelled (expression.Name name) more = named name ∷ more
  spelled (expression.Channel name direction) more = named name ∷ of_direction direction ∷ more
  spelled (expression.Element' p array q subscript span) more =
      spelled array (Sign symbol.OpenSquare ∷ spelled subscript (Sign symbol.CloseSquare ∷ more))
  spelled (expression.Call' name p arguments) more =
      named name ∷ Sign symbol.OpenRound ∷ listed arguments (Sign symbol.CloseRound ∷ more)
  spelled (expression.Bracketed' p within span) more =
      Sign symbol.OpenRound ∷ spelled within (Sign symbol.CloseRound ∷ more)
  spelled (expression.Monadic' operator span p operand) more =
      of_monadic operator ∷ bracketed_unless (is_operand operand) (spelled operand) more
  spelled (expression.Dyadic' operator span p left q right) more =
      bracketed_unless (is_left_operand operator left) (spelled left)
      (of_dyadic operator ∷ bracketed_unless (is_operand right) (spelled right) more)
  spelled (expression.Wrong span) more = more

  -- with commas between
  pub listed : Expressions → List Lexeme → List Lexeme
  listed expressions.End more = more
  listed (expressions.More' p first q others) more = spelled first (behind_comma others more)

  -- each behind a comma
  pub behind_comma : Expressions → List Lexeme → List Lexeme
  behind_comma expressions.End more = more
  behind_comma (expressions.More' p first q others) more =
      Sign symbol.Comma ∷ spelled first (behind_comma others more)

-- ---- types, names and parameters

abbrev pub sizes_spelled : Sizes → List Lexeme → List Lexeme
sizes_spelled sizes.End more = more
sizes_spelled (sizes.Open' p others) more =
    Sign symbol.OpenSquare ∷ Sign symbol.CloseSquare ∷ sizes_spelled others more
sizes_spelled (sizes.Of' size p others) more =
    Sign symbol.OpenSquare ∷ spelled size (Sign symbol.CloseSquare ∷ sizes_spelled others more)

abbrev pub type_spelled : written.Type → List Lexeme → List Lexeme
type_spelled of more = sizes_spelled of.sizes (of_primitive of.of ∷ more)

abbrev pub type_if : Option written.Type → List Lexeme → List Lexeme
type_if None more = more
type_if (Some of) more = type_spelled of more

-- the types of results, with commas between
abbrev pub types_spelled : Primitives → List Lexeme → List Lexeme
types_spelled (primitives.One of) more = of_primitive of ∷ more
types_spelled (primitives.More' of p others) more = of_primitive of ∷ Sign symbol.Comma ∷ types_spelled others more

abbrev pub names_behind : Names → List Lexeme → List Lexeme
names_behind names.End more = more
names_behind (names.More' name p others) more = Sign symbol.Comma ∷ named name ∷ names_behind others more

abbrev pub names_spelled : Names → List Lexeme → List Lexeme
names_spelled names.End more = more
names_spelled (names.More' name p others) more = named name ∷ names_behind others more

abbrev pub passing_spelled : Passing → List Lexeme → List Lexeme
passing_spelled passing.Value more = Word keyword.Val ∷ more
passing_spelled passing.Variable more = more
passing_spelled passing.Channel more = Word keyword.Chan ∷ Word keyword.Of ∷ more

abbrev pub direction_if : Option Direction → List Lexeme → List Lexeme
direction_if None more = more
direction_if (Some direction) more = of_direction direction ∷ more

-- each behind a comma
abbrev pub parameters_behind : Parameters → List Lexeme → List Lexeme
parameters_behind parameters.End more = more
parameters_behind (parameters.Typed' passing of name direction p others) more =
    Sign symbol.Comma ∷ passing_spelled passing (type_spelled of
    (named name ∷ direction_if direction (parameters_behind others more)))
parameters_behind (parameters.Further' name direction p others) more =
    Sign symbol.Comma ∷ named name ∷ direction_if direction (parameters_behind others more)

abbrev pub parameters_spelled : Parameters → List Lexeme → List Lexeme
parameters_spelled parameters.End more = more
parameters_spelled (parameters.Typed' passing of name direction p others) more =
    passing_spelled passing (type_spelled of (named name ∷ direction_if direction (parameters_behind others more)))
parameters_spelled (parameters.Further' name direction p others) more =
    named name ∷ direction_if direction (parameters_behind others more)
