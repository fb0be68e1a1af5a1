-- One writing is that of one tree, but for places and brackets.
use Rattle.std.proofs.Common.{◌≡◌, List, [], ◌∷◌, Some, None, refl, ap, sym, ◌∙◌}
use Rattle.tpw_occam_lexing.specs.declared.symbol.Symbol.TheVariants as symbol
use Rattle.tpw_occam_lexing.specs.Lexemes.{Lexeme, Sign}
use Rattle.tpw_occam_meaning.specs.declared.expression.Expression.{Expression}
use Rattle.tpw_occam_meaning.specs.declared.expression.Expressions.{Expressions}
use Rattle.tpw_occam_meaning.specs.declared.expression.Expressions.TheVariants.{End, More'}
use Rattle.tpw_occam_reading.specs.Spelled.{spelled, listed}
use Rattle.tpw_occam_reading_laws.proofs.Plain.{plain, all_plain, more, IsWhole, AreWhole}
use Rattle.tpw_occam_reading_laws.proofs.Reader.{Next, Opens, Subscripts, Directs, Operates, next, Top, Alone, InList}
use Rattle.tpw_occam_reading_laws.proofs.Reader.{Wants, Has, Ends, Result, goes_on, after, parse}
use Rattle.tpw_occam_reading_laws.proofs.ReadBack.{IsEnd, IsEnded, ended_follows, reads, reads_list}

-- what was read, and what is left
abbrev pub read_of : Result → Expressions
read_of None = End
read_of (Some r) = r.0

abbrev pub left_of : Result → List Lexeme
left_of None = []
left_of (Some r) = r.1

abbrev pub first_of_all : Expressions → Expression → Expression
first_of_all End other = other
first_of_all (More' p first q others) other = first

alone_ends : (n : Next) → IsEnd n → (e : Expression) → goes_on n e Alone ≡ Ends (more e End)
alone_ends Opens h e = absurd h
alone_ends (Directs direction) h e = absurd h
alone_ends (Operates operator) h e = absurd h
alone_ends Subscripts h e = absurd h
alone_ends other h e = refl

alone_end : (rest : List Lexeme) → IsEnded rest → (e : Expression) → parse rest (Has e Alone) ≡ Some (more e End, rest)
alone_end [] h e = refl
alone_end (lexeme ∷ rest) h e = ap (λ m. after m (λ s. parse rest s) (lexeme ∷ rest)) (alone_ends (next lexeme) h e)

pub alone_reads : (e : Expression) → IsWhole e → (rest : List Lexeme) → IsEnded rest
    → parse (spelled e rest) (Wants Alone) ≡ Some (more (plain e) End, rest)
alone_reads e w rest h = (reads e w).whole Alone tt rest (ended_follows rest h) ∙ alone_end rest h (plain e)

-- two expressions with one writing, in front of what ends them
pub one_expression : (a b : Expression) → IsWhole a → IsWhole b → (rest others : List Lexeme) → IsEnded rest → IsEnded others
    → spelled a rest ≡ spelled b others → (plain a ≡ plain b) × (rest ≡ others)
one_expression a b v w rest others h k same =
    let e : Some (more (plain a) End, rest) ≡ Some (more (plain b) End, others) =
    sym (alone_reads a v rest h) ∙ ap (λ l. parse l (Wants Alone)) same ∙ alone_reads b w others k in
    (ap (λ r. first_of_all (read_of r) (plain b)) e, ap left_of e)

-- what ends a list
abbrev pub IsListEnd : List Lexeme → Type 0
IsListEnd [] = Unit {0}
IsListEnd (Sign symbol.Becomes ∷ rest) = Unit {0}
IsListEnd other = ⊥

list_end : (rest : List Lexeme) → IsListEnd rest → (before : Expressions → Expressions) (last : Expression)
    → parse rest (Has last (InList Top before)) ≡ Some (before (more last End), rest)
list_end [] h before last = refl
list_end (Sign symbol.Becomes ∷ rest) h before last = refl
list_end (lexeme ∷ rest) h before last = absurd h

list_none : (rest : List Lexeme) → IsListEnd rest → parse rest (Wants (InList Top (λ all. all))) ≡ Some (End, rest)
list_none [] h = refl
list_none (Sign symbol.Becomes ∷ rest) h = refl
list_none (lexeme ∷ rest) h = absurd h

end_of_list : (rest : List Lexeme) → IsListEnd rest → IsEnded rest
end_of_list [] h = tt
end_of_list (Sign symbol.Becomes ∷ rest) h = tt
end_of_list (lexeme ∷ rest) h = absurd h

pub list_reads : (items : Expressions) → AreWhole items → (rest : List Lexeme) → IsListEnd rest
    → parse (listed items rest) (Wants (InList Top (λ all. all))) ≡ Some (all_plain items, rest)
list_reads items w rest h =
    reads_list items w Top (λ all. all) rest (ended_follows rest (end_of_list rest h)) (λ all. Some (all, rest)) (list_end rest h) (list_none rest h)

pub one_list : (a b : Expressions) → AreWhole a → AreWhole b → (rest others : List Lexeme) → IsListEnd rest → IsListEnd others
    → listed a rest ≡ listed b others → (all_plain a ≡ all_plain b) × (rest ≡ others)
one_list a b v w rest others h k same =
    let e : Some (all_plain a, rest) ≡ Some (all_plain b, others) =
    sym (list_reads a v rest h) ∙ ap (λ l. parse l (Wants (InList Top (λ all. all)))) same ∙ list_reads b w others k in
    (ap read_of e, ap left_of e)
