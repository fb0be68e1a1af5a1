-- The first words of statements.
use Rattle.std.specs.Prelude.{ℕ, List, [], ◌∷◌, codes, Option}
use Rattle.std.specs.List.{find}
use Rattle.std.specs.Str.{str_eq_ignore_ascii_case}
use Rattle.tpw_text.specs.declared.keyword.Keyword.{Keyword}
use Rattle.tpw_text.specs.declared.keyword.Keyword.TheVariants.{Packet, Results, Start, Workspace, Version, Init, Byte}
use Rattle.tpw_text.specs.declared.keyword.Keyword.TheVariants.{Loop}

abbrev pub keyword_name : Keyword → List ℕ
keyword_name Packet = codes "packet"
keyword_name Results = codes "result"
keyword_name Start = codes "start"
keyword_name Workspace = codes "workspace"
keyword_name Version = codes "version"
keyword_name Init = codes "init"
keyword_name Byte = codes "byte"
keyword_name Loop = codes "loop"

abbrev pub keywords : List Keyword
keywords = Packet ∷ Results ∷ Start ∷ Workspace ∷ Version ∷ Init ∷ Byte ∷ Loop ∷ []

-- the keyword that a word is, in capitals or not
unfoldable pub keyword_named : List ℕ → Option Keyword
keyword_named word = find (λ k. str_eq_ignore_ascii_case word (keyword_name k)) keywords
