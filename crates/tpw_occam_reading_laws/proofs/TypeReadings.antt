-- One writing of a type, of names or of parameters is that of one tree, but for places.
use Rattle.std.proofs.Common.{◌≡◌, ℕ, List, [], ◌∷◌, Option, Some, None, refl, ap, sym, ◌∙◌, subst}
use Rattle.tpw_occam_terms.specs.declared.name.Primitive.{Primitive}
use Rattle.tpw_occam_terms.specs.declared.name.Primitive.TheVariants as primitive
use Rattle.tpw_occam_terms.specs.declared.name.Name.{Name}
use Rattle.tpw_occam_terms.specs.declared.name.Passing.{Passing}
use Rattle.tpw_occam_terms.specs.declared.name.Passing.TheVariants as passing
use Rattle.tpw_occam_lexing.specs.declared.keywords.Keyword.TheVariants as keyword
use Rattle.tpw_occam_lexing.specs.declared.symbol.Symbol.TheVariants as symbol
use Rattle.tpw_occam_lexing.specs.Lexemes.{Lexeme, Word, Sign}
use Rattle.tpw_occam_lexing.specs.Lexemes as lexeme
use Rattle.tpw_occam_meaning.specs.declared.expression.Direction.{Direction}
use Rattle.tpw_occam_meaning.specs.declared.expression.Direction.TheVariants as direction
use Rattle.tpw_occam_meaning.specs.declared.expression.Expression.{Expression}
use Rattle.tpw_occam_meaning.specs.declared.types.Names.{Names}
use Rattle.tpw_occam_meaning.specs.declared.types.Names.TheVariants as names
use Rattle.tpw_occam_meaning.specs.declared.types.Sizes.{Sizes}
use Rattle.tpw_occam_meaning.specs.declared.types.Sizes.TheVariants as sizes
use Rattle.tpw_occam_meaning.specs.declared.types.Type as written
use Rattle.tpw_occam_meaning.specs.declared.types.Parameters.{Parameters}
use Rattle.tpw_occam_meaning.specs.declared.types.Parameters.TheVariants as parameters
use Rattle.tpw_occam_reading.specs.Spelled.{named, of_primitive, spelled, sizes_spelled, type_spelled, names_behind, names_spelled, passing_spelled, direction_if, parameters_behind, parameters_spelled}
use Rattle.tpw_occam_reading_laws.proofs.Plain.{boxed, name_of, plain, IsWhole}
use Rattle.tpw_occam_reading_laws.proofs.PlainTypes.{plain_name_of, plain_sizes, plain_type, plain_names, plain_parameters, AreSizes, IsType, AreParameters}
use Rattle.tpw_occam_reading_laws.proofs.Reader.{Wants, Alone, parse}
use Rattle.tpw_occam_reading_laws.proofs.Readings.{alone_reads, one_expression}

-- ---- lists of lexemes

pub same_tail : {a b : Lexeme} {rest others : List Lexeme} → (a ∷ rest) ≡ (b ∷ others) → rest ≡ others
same_tail h = cc

pub same_head : {a b : Lexeme} {rest others : List Lexeme} → (a ∷ rest) ≡ (b ∷ others) → a ≡ b
same_head h = cc

-- ---- primitive types

pub one_primitive : (p q : Primitive) → of_primitive p ≡ of_primitive q → p ≡ q
one_primitive primitive.Int primitive.Int h = refl
one_primitive primitive.Bool primitive.Bool h = refl
one_primitive primitive.Byte primitive.Byte h = refl
one_primitive p q h = cc

primitive_no_sign : (p : Primitive) (rest others : List Lexeme) → (of_primitive p ∷ rest) ≡ (Sign symbol.OpenSquare ∷ others) → ⊥
primitive_no_sign primitive.Int rest others h = cc
primitive_no_sign primitive.Bool rest others h = cc
primitive_no_sign primitive.Byte rest others h = cc

-- ---- sizes

some_none : {A : Type 0} {x : A} → None ≡ Some x → ⊥
some_none h = cc

-- an expression does not begin with ]
no_close : (e : Expression) (rest others : List Lexeme) → IsWhole e
    → (Sign symbol.CloseSquare ∷ others) ≡ spelled e (Sign symbol.CloseSquare ∷ rest) → ⊥
no_close e rest others w h =
    some_none (ap (λ l. parse l (Wants Alone)) h ∙ alone_reads e w (Sign symbol.CloseSquare ∷ rest) tt)

pub record SameSizes (a b : Sizes) (p q : Primitive) (rest others : List Lexeme) : Type 0 where
  pub sizes : plain_sizes a ≡ plain_sizes b
  pub of : p ≡ q
  pub behind : rest ≡ others

pub one_sizes : (a b : Sizes) → AreSizes a → AreSizes b → (p q : Primitive) (rest others : List Lexeme)
    → sizes_spelled a (of_primitive p ∷ rest) ≡ sizes_spelled b (of_primitive q ∷ others) → SameSizes a b p q rest others
one_sizes sizes.End sizes.End v w p q rest others h =
    record { sizes = refl; of = one_primitive p q (same_head h); behind = same_tail h }
one_sizes sizes.End (sizes.Open' y b) v w p q rest others h = absurd (primitive_no_sign p _ _ h)
one_sizes sizes.End (sizes.Of' f y b) v w p q rest others h = absurd (primitive_no_sign p _ _ h)
one_sizes (sizes.Open' x a) sizes.End v w p q rest others h = absurd (primitive_no_sign q _ _ (sym h))
one_sizes (sizes.Open' x a) (sizes.Open' y b) v w p q rest others h =
    let s = one_sizes a b v w p q rest others (same_tail (same_tail h)) in
    record { sizes = ap (λ s. sizes.Open' boxed s) s.sizes; of = s.of; behind = s.behind }
one_sizes (sizes.Open' x a) (sizes.Of' f y b) v w p q rest others h = absurd (no_close f _ _ w.0 (same_tail h))
one_sizes (sizes.Of' e x a) sizes.End v w p q rest others h = absurd (primitive_no_sign q _ _ (sym h))
one_sizes (sizes.Of' e x a) (sizes.Open' y b) v w p q rest others h = absurd (no_close e _ _ v.0 (sym (same_tail h)))
one_sizes (sizes.Of' e x a) (sizes.Of' f y b) v w p q rest others h =
    let one = one_expression e f v.0 w.0 (Sign symbol.CloseSquare ∷ sizes_spelled a (of_primitive p ∷ rest))
    (Sign symbol.CloseSquare ∷ sizes_spelled b (of_primitive q ∷ others)) tt tt (same_tail h) in
    let s = one_sizes a b v.1 w.1 p q rest others (same_tail one.1) in
    record {
      sizes = ap (λ z. sizes.Of' z boxed (plain_sizes a)) one.0 ∙ ap (λ z. sizes.Of' (plain f) boxed z) s.sizes;
      of = s.of;
      behind = s.behind;
    }

pub one_type : (a b : written.Type) → IsType a → IsType b → (rest others : List Lexeme)
    → type_spelled a rest ≡ type_spelled b others → (plain_type a ≡ plain_type b) × (rest ≡ others)
one_type a b v w rest others h =
    let s = one_sizes a.sizes b.sizes v w a.of b.of rest others h in
    let one : plain_type a ≡ plain_type b =
    λ i. record { sizes = s.sizes i; of = s.of i } in
    (one, s.behind)

-- ---- what is in front of a type

pub data First : Type 0 where
  ByVal : First
  ByChan : First
  ByType : First
  ByName : First
  ByOther : First

abbrev pub first : List Lexeme → First
first (Word keyword.Val ∷ rest) = ByVal
first (Word keyword.Chan ∷ rest) = ByChan
first (Word keyword.Int ∷ rest) = ByType
first (Word keyword.Bool ∷ rest) = ByType
first (Word keyword.Byte ∷ rest) = ByType
first (Sign symbol.OpenSquare ∷ rest) = ByType
first (lexeme.Name bytes ∷ rest) = ByName
first other = ByOther

pub type_first : (of : written.Type) (rest : List Lexeme) → first (type_spelled of rest) ≡ ByType
type_first of rest = by of.sizes of.of
  where
    by : (s : Sizes) (p : Primitive) → first (sizes_spelled s (of_primitive p ∷ rest)) ≡ ByType
    by sizes.End primitive.Int = refl
    by sizes.End primitive.Bool = refl
    by sizes.End primitive.Byte = refl
    by (sizes.Open' x others) p = refl
    by (sizes.Of' e x others) p = refl

abbrev pub first_passing : Passing → First
first_passing passing.Value = ByVal
first_passing passing.Variable = ByType
first_passing passing.Channel = ByChan

passing_first : (p : Passing) (of : written.Type) (rest : List Lexeme) → first (passing_spelled p (type_spelled of rest)) ≡ first_passing p
passing_first passing.Value of rest = refl
passing_first passing.Variable of rest = type_first of rest
passing_first passing.Channel of rest = refl

one_passing : (p q : Passing) → first_passing p ≡ first_passing q → p ≡ q
one_passing passing.Value passing.Value h = refl
one_passing passing.Variable passing.Variable h = refl
one_passing passing.Channel passing.Channel h = refl
one_passing p q h = cc

passing_no_name : (p : Passing) → first_passing p ≡ ByName → ⊥
passing_no_name passing.Value h = cc
passing_no_name passing.Variable h = cc
passing_no_name passing.Channel h = cc

same_passing : (p : Passing) (rest others : List Lexeme) → passing_spelled p rest ≡ passing_spelled p others → rest ≡ others
same_passing passing.Value rest others h = same_tail h
same_passing passing.Variable rest others h = h
same_passing passing.Channel rest others h = same_tail (same_tail h)

-- a type, with how it is passed
pub one_passed : (p q : Passing) (a b : written.Type) → IsType a → IsType b → (rest others : List Lexeme)
    → passing_spelled p (type_spelled a rest) ≡ passing_spelled q (type_spelled b others)
    → (p ≡ q) × (plain_type a ≡ plain_type b) × (rest ≡ others)
one_passed p q a b v w rest others h =
    let same : p ≡ q = one_passing p q (sym (passing_first p a rest) ∙ ap first h ∙ passing_first q b others) in
    let t = one_type a b v w rest others
    (same_passing q _ _ (subst (λ z. passing_spelled z (type_spelled a rest) ≡ passing_spelled q (type_spelled b others)) same h)) in
    (same, t.0, t.1)

passed_no_name : (p : Passing) (a : written.Type) (rest : List Lexeme) (bytes : List ℕ) (others : List Lexeme)
    → passing_spelled p (type_spelled a rest) ≡ (lexeme.Name bytes ∷ others) → ⊥
passed_no_name p a rest bytes others h = passing_no_name p (sym (passing_first p a rest) ∙ ap first h)

-- ---- names

pub one_bytes : {a b : List ℕ} {rest others : List Lexeme} → (lexeme.Name a ∷ rest) ≡ (lexeme.Name b ∷ others) → a ≡ b
one_bytes h = cc

names_behind_once : (a b : Names) → names_behind a (Sign symbol.Colon ∷ []) ≡ names_behind b (Sign symbol.Colon ∷ [])
    → plain_names a ≡ plain_names b
names_behind_once names.End names.End h = refl
names_behind_once names.End (names.More' n y b) h = cc
names_behind_once (names.More' m x a) names.End h = cc
names_behind_once (names.More' m x a) (names.More' n y b) h =
    ap (λ z. names.More' (name_of z) boxed (plain_names a)) (one_bytes (same_tail h))
    ∙ ap (λ z. names.More' (plain_name_of n) boxed z) (names_behind_once a b (same_tail (same_tail h)))

pub one_names : (a b : Names) → names_spelled a (Sign symbol.Colon ∷ []) ≡ names_spelled b (Sign symbol.Colon ∷ [])
    → plain_names a ≡ plain_names b
one_names names.End names.End h = refl
one_names names.End (names.More' n y b) h = cc
one_names (names.More' m x a) names.End h = cc
one_names (names.More' m x a) (names.More' n y b) h =
    ap (λ z. names.More' (name_of z) boxed (plain_names a)) (one_bytes h)
    ∙ ap (λ z. names.More' (plain_name_of n) boxed z) (names_behind_once a b (same_tail h))

-- ---- parameters

abbrev pub direction_at : List Lexeme → Option Direction
direction_at (Sign symbol.Receive ∷ rest) = Some direction.Receive
direction_at (Sign symbol.Send ∷ rest) = Some direction.Send
direction_at other = None

direction_read : (d : Option Direction) (others : Parameters) (rest : List Lexeme)
    → direction_at (direction_if d (parameters_behind others (Sign symbol.CloseRound ∷ rest))) ≡ d
direction_read (Some direction.Receive) others rest = refl
direction_read (Some direction.Send) others rest = refl
direction_read None parameters.End rest = refl
direction_read None (parameters.Typed' p of name d x others) rest = refl
direction_read None (parameters.Further' name d x others) rest = refl

same_direction : (d : Option Direction) (rest others : List Lexeme) → direction_if d rest ≡ direction_if d others → rest ≡ others
same_direction None rest others h = h
same_direction (Some d) rest others h = same_tail h

pub record SameParameters (a b : Parameters) (rest others : List Lexeme) : Type 0 where
  pub parameters : plain_parameters a ≡ plain_parameters b
  pub behind : rest ≡ others

abbrev behind_round : Parameters → List Lexeme → List Lexeme
behind_round a rest = parameters_behind a (Sign symbol.CloseRound ∷ rest)

-- a name, a direction, and what is behind them
one_name : (m n : Name) (c d : Option Direction) (a b : Parameters) (rest others : List Lexeme)
    → (named m ∷ direction_if c (behind_round a rest)) ≡ (named n ∷ direction_if d (behind_round b others))
    → (m.text.now ≡ n.text.now) × (c ≡ d) × (behind_round a rest ≡ behind_round b others)
one_name m n c d a b rest others h =
    let same : c ≡ d = sym (direction_read c a rest) ∙ ap direction_at (same_tail h) ∙ direction_read d b others in
    (one_bytes h, same, same_direction d _ _ (subst (λ z. direction_if z (behind_round a rest) ≡ direction_if d (behind_round b others)) same (same_tail h)))

same_typed : (p q : Passing) (s t : written.Type) (m n : Name) (c d : Option Direction) (a b : Parameters)
    → p ≡ q → plain_type s ≡ plain_type t → m.text.now ≡ n.text.now → c ≡ d → plain_parameters a ≡ plain_parameters b
    → parameters.Typed' p (plain_type s) (plain_name_of m) c boxed (plain_parameters a)
    ≡ parameters.Typed' q (plain_type t) (plain_name_of n) d boxed (plain_parameters b)
same_typed p q s t m n c d a b h k l o r = λ i. parameters.Typed' (h i) (k i) (name_of (l i)) (o i) boxed (r i)

same_further : (m n : Name) (c d : Option Direction) (a b : Parameters)
    → m.text.now ≡ n.text.now → c ≡ d → plain_parameters a ≡ plain_parameters b
    → parameters.Further' (plain_name_of m) c boxed (plain_parameters a) ≡ parameters.Further' (plain_name_of n) d boxed (plain_parameters b)
same_further m n c d a b l o r = λ i. parameters.Further' (name_of (l i)) (o i) boxed (r i)

behind_once : (a b : Parameters) → AreParameters a → AreParameters b → (rest others : List Lexeme)
    → behind_round a rest ≡ behind_round b others → SameParameters a b rest others
behind_once parameters.End parameters.End v w rest others h = record { parameters = refl; behind = same_tail h }
behind_once parameters.End (parameters.Typed' q t n d y b) v w rest others h = cc
behind_once parameters.End (parameters.Further' n d y b) v w rest others h = cc
behind_once (parameters.Typed' p s m c x a) parameters.End v w rest others h = cc
behind_once (parameters.Typed' p s m c x a) (parameters.Typed' q t n d y b) v w rest others h =
    let one = one_passed p q s t v.0 w.0 _ _ (same_tail h) in
    let two = one_name m n c d a b rest others one.2 in
    let all = behind_once a b v.1 w.1 rest others two.2 in
    record { parameters = same_typed p q s t m n c d a b one.0 one.1 two.0 two.1 all.parameters; behind = all.behind }
behind_once (parameters.Typed' p s m c x a) (parameters.Further' n d y b) v w rest others h = absurd (passed_no_name p s _ _ _ (same_tail h))
behind_once (parameters.Further' m c x a) parameters.End v w rest others h = cc
behind_once (parameters.Further' m c x a) (parameters.Typed' q t n d y b) v w rest others h = absurd (passed_no_name q t _ _ _ (sym (same_tail h)))
behind_once (parameters.Further' m c x a) (parameters.Further' n d y b) v w rest others h =
    let two = one_name m n c d a b rest others (same_tail h) in
    let all = behind_once a b v w rest others two.2 in
    record { parameters = same_further m n c d a b two.0 two.1 all.parameters; behind = all.behind }

round_first : (p : Passing) (s : written.Type) (rest others : List Lexeme) → (Sign symbol.CloseRound ∷ others) ≡ passing_spelled p (type_spelled s rest) → ⊥
round_first p s rest others h = by p (ap first h ∙ passing_first p s rest)
  where
    by : (p : Passing) → ByOther ≡ first_passing p → ⊥
    by passing.Value h = cc
    by passing.Variable h = cc
    by passing.Channel h = cc

pub one_parameters : (a b : Parameters) → AreParameters a → AreParameters b → (rest others : List Lexeme)
    → parameters_spelled a (Sign symbol.CloseRound ∷ rest) ≡ parameters_spelled b (Sign symbol.CloseRound ∷ others)
    → SameParameters a b rest others
one_parameters parameters.End parameters.End v w rest others h = record { parameters = refl; behind = same_tail h }
one_parameters parameters.End (parameters.Typed' q t n d y b) v w rest others h = absurd (round_first q t _ _ h)
one_parameters parameters.End (parameters.Further' n d y b) v w rest others h = cc
one_parameters (parameters.Typed' p s m c x a) parameters.End v w rest others h = absurd (round_first p s _ _ (sym h))
one_parameters (parameters.Typed' p s m c x a) (parameters.Typed' q t n d y b) v w rest others h =
    let one = one_passed p q s t v.0 w.0 _ _ h in
    let two = one_name m n c d a b rest others one.2 in
    let all = behind_once a b v.1 w.1 rest others two.2 in
    record { parameters = same_typed p q s t m n c d a b one.0 one.1 two.0 two.1 all.parameters; behind = all.behind }
one_parameters (parameters.Typed' p s m c x a) (parameters.Further' n d y b) v w rest others h = absurd (passed_no_name p s _ _ _ h)
one_parameters (parameters.Further' m c x a) parameters.End v w rest others h = cc
one_parameters (parameters.Further' m c x a) (parameters.Typed' q t n d y b) v w rest others h = absurd (passed_no_name q t _ _ _ (sym h))
one_parameters (parameters.Further' m c x a) (parameters.Further' n d y b) v w rest others h =
    let two = one_name m n c d a b rest others h in
    let all = behind_once a b v w rest others two.2 in
    record { parameters = same_further m n c d a b two.0 two.1 all.parameters; behind = all.behind }
