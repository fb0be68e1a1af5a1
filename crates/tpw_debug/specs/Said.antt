-- What a text says of an address of its code, and of a word of its workspace.
use Rattle.std.specs.Prelude.{ℕ, ◌-◌, ◌==◌, ◌&&◌, nat_le, nat_lt, Bool, true, List, Option, Some, None, find, reverse}
use Rattle.std.specs.Prelude.{option_map}
use Rattle.tpw_debug.specs.declared.source.Statement.{Statement}
use Rattle.tpw_debug.specs.declared.source.Named.{Named}

-- the first statement at an address
abbrev pub statement_at : List Statement → ℕ → Option Statement
statement_at statements at = find (λ s. s.at == at) statements

-- the line of the last statement before an address
abbrev pub line_before : List Statement → ℕ → Option ℕ
line_before statements at = option_map (λ (s : Statement). s.line) (find (λ s. nat_lt s.at at) (reverse statements))

-- a word is one of those of a name
abbrev pub is_word_of : Named → ℕ → Bool
is_word_of named word = nat_le named.first word && nat_lt (word - named.first) named.words

-- a name is in scope at an address; where none is at hand, it counts too
abbrev pub is_in_scope : Option ℕ → Named → Bool
is_in_scope None named = true
is_in_scope (Some at) named = nat_le named.from at && nat_lt at named.to

-- the first name in scope that has a word, and the first that a line declares whose words begin at it
abbrev pub named : List Named → Option ℕ → ℕ → Option Named
named names at word = find (λ n. is_word_of n word && is_in_scope at n) names

abbrev pub first_declared : List Named → ℕ → ℕ → Option Named
first_declared names word line = find (λ n. (n.first == word) && (n.line == line)) names
