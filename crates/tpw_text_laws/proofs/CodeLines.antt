-- The lines of a program's code are read as they are written.
use Rattle.std.proofs.Common.{◌≡◌, ◌⊎◌, inl, inr, ℕ, ◌+◌, ◌<◌, ◌≤◌, ◌^◌, ◌==◌, ◌||◌, Bool, true, false, ℤ, List, []}
use Rattle.std.proofs.Common.{◌∷◌, ◌++◌, codes, length, map, slice_get, Option, Some, None, Result, Ok, Err, refl, ap}
use Rattle.std.proofs.Common.{sym, ◌∙◌, arith, append_assoc}
use Rattle.std.specs.Int.{w32}
use Rattle.std.specs.Int.RustNames.{FitsSigned}
use Rattle.std.specs.Fmt.{decimal, signed_decimal}
use Rattle.std.proofs.lemmas.List.{append-nil}
use Rattle.std.proofs.lemmas.Bool.Decides.{nat_tests}
use Rattle.tp_decode.specs.declared.instr.Instr.{Instr}
use Rattle.tp_decode.specs.Table.{entry, instruction}
use Rattle.tpw_asm.specs.declared.program.Operation.TheVariants.{Plain, JumpTo, CjTo, Distance}
use Rattle.tpw_asm.specs.declared.program.Line.{Line}
use Rattle.tpw_asm.specs.declared.program.Line.TheVariants.{Byte, Spelled}
use Rattle.tpw_text.specs.declared.words.Word.{Word}
use Rattle.tpw_text.specs.declared.fault.SourceFault.{SourceFault}
use Rattle.tpw_text.specs.declared.draft.DraftLine.{DraftLine}
use Rattle.tpw_text.specs.declared.draft.DraftLine.TheVariants as draft
use Rattle.tpw_text.specs.declared.draft.LabelName.{LabelName}
use Rattle.tpw_text.specs.declared.statement.NewLine.{NewLine}
use Rattle.tpw_text.specs.Limits.{most_bytes}
use Rattle.tpw_text.specs.Faults.{then_read, ◌>>=◌}
use Rattle.tpw_text.specs.Words.{position_of, is_plain, begins}
use Rattle.tpw_text.specs.Numbers.{begins_number}
use Rattle.tpw_text.specs.Names.{function_named, function_by_name, operation_named}
use Rattle.tpw_text.specs.Drafts.{Said, pushed}
use Rattle.tpw_text.specs.Keywords.{keyword_named}
use Rattle.tpw_text.specs.Statements.{word_said, end_said, number_read, count_read}
use Rattle.tpw_text.specs.Grammar.{byte_said, keyword_said, statement_said, is_word, plain_line, length_said, operand_said, number_said, distance_said, with_operand_said, operation_said, instruction_said}
use Rattle.tpw_text.specs.Meaning.{added, unlabelled, line_said}
use Rattle.tpw_text.specs.Apart.{word_for}
use Rattle.tpw_text.specs.Programs.{place_of_label, line_placed}
use Rattle.tpw_text.specs.Written.{label_text, stated_text, operation_text, byte_text, line_text, names_from_line}
use Rattle.tpw_text_laws.specs.Sources.{column_of}
use Rattle.tpw_text_laws.specs.Conditions.{MayBeStated, MayBeLine}
use Rattle.tpw_text_laws.proofs.Tests.{and_false, or_left, or_right, same_place}
use Rattle.tpw_text_laws.proofs.Bytes.{IsWord, literal_word, decimal_word, signed_word, label_word, minus_word, name_word, hexadecimal_word}
use Rattle.tpw_text_laws.proofs.Numbers.{count_is, signed_is, begins_signed, byte_is, byte_inner}
use Rattle.tpw_text_laws.proofs.Pieces.{Piece, Gap, Of, Mark, write, placed, AreApart}
use Rattle.tpw_text_laws.proofs.Fields.{not_labelled, other_word}
use Rattle.tpw_text_laws.proofs.Rows.{at, AreLabels, label_placed}
use Rattle.tpw_text_laws.proofs.InstructionNames.{IsOperation, IsFunction, no_keyword, how_named}

-- a line of a draft that has its labels is a line of a program
abbrev pub IsDrafted : (ℕ → Bool) → ℕ → DraftLine → Line → Type 0
IsDrafted named count l line = (labels : List LabelName) → AreLabels named count labels → line_placed labels l ≡ Ok line

-- a line is written in pieces whose words add it
pub record Reads (named : ℕ → Bool) (count : ℕ) (line : Line) : Type 0 where
  pub pieces : List Piece
  pub is : line_text line ≡ write pieces
  pub apart : AreApart pieces
  pub says : (n : ℕ) (d : Said) → (w : Word) × (l : DraftLine) ×
      (line_said (map word_for (placed n 1 pieces)) d ≡ pushed w l d) × IsDrafted named count l line ×
      (position_of w ≡ record { line = n; column = column_of line })

-- how many bytes are stated
abbrev stated_pieces : Option ℕ → List Piece → List Piece
stated_pieces None ps = ps
stated_pieces (Some bytes) ps = Mark 47 ∷ Of (decimal bytes) ∷ ps

abbrev stated_words : ℕ → ℕ → Option ℕ → List Word → List Word
stated_words n column None ws = ws
stated_words n column (Some bytes) ws = at n column (codes "/") ∷ at n (column + 1) (decimal bytes) ∷ ws

abbrev column_behind : ℕ → Option ℕ → ℕ
column_behind column None = column
column_behind column (Some bytes) = column + 1 + length (decimal bytes)

abbrev operand_at : Option ℕ → ℕ
operand_at None = 1
operand_at (Some bytes) = 3

stated_placed : (n column : ℕ) (bytes : Option ℕ) (ps : List Piece) →
    map word_for (placed n column (stated_pieces bytes ps)) ≡ stated_words n column bytes
    (map word_for (placed n (column_behind column bytes) ps))
stated_placed n column None ps = refl
stated_placed n column (Some bytes) ps = refl

stated_written : (bytes : Option ℕ) (ps : List Piece) → write (stated_pieces bytes ps) ≡ stated_text bytes ++ write ps
unfolding stated_text
stated_written None ps = refl
stated_written (Some bytes) ps = refl

stated_apart : (bytes : Option ℕ) (ps : List Piece) → begins is_plain (write ps) ≡ false → AreApart ps → (begins is_plain (write (stated_pieces bytes ps)) ≡ false) × AreApart (stated_pieces bytes ps)
unfolding is_plain
stated_apart None ps ends apart = (ends, apart)
stated_apart (Some bytes) ps ends apart = (refl, (refl, (decimal_word bytes, (ends, apart))))

-- a name, its stated bytes, and other pieces
abbrev spelled : List ℕ → Option ℕ → List Piece → List Piece
spelled name bytes ps = Gap ∷ Gap ∷ Gap ∷ Gap ∷ Gap ∷ Gap ∷ Gap ∷ Gap ∷ Of name ∷ stated_pieces bytes ps

spelled_written : (name : List ℕ) (bytes : Option ℕ) (ps : List Piece) → codes "        " ++ (name ++ stated_text bytes ++ write ps) ≡ write (spelled name bytes ps)
spelled_written name bytes ps = ap (λ t. codes "        " ++ t) (append_assoc name (stated_text bytes) (write ps) ∙ ap (λ t. name ++ t) (sym (stated_written bytes ps)))

spelled_apart : (name : List ℕ) (bytes : Option ℕ) (ps : List Piece) → IsWord name → begins is_plain (write ps) ≡ false → AreApart ps → AreApart (spelled name bytes ps)
spelled_apart name bytes ps word ends apart = (word, stated_apart bytes ps ends apart)

instruction_says : (first : Word) (ws : List Word) (l : NewLine) (d : Said) →
    keyword_named first.text.now ≡ None → instruction_said (first ∷ ws) first ≡ Ok l →
    unlabelled (first ∷ ws) d ≡ pushed l.word l.line d
unfolding statement_said added
instruction_says first ws l d none said = rw (none, said) refl

not_zero : (n : ℕ) → 0 < n → (n == 0) ≡ false
not_zero n h = grind (arith, nat_tests)

-- the stated length
length_is : (n column : ℕ) (bytes : Option ℕ) (first w : Word) (ws : List Word) → MayBeStated bytes →
    IsWord w.text.now → length_said (first ∷ stated_words n column bytes (w ∷ ws)) ≡ Ok (bytes, operand_at bytes)
unfolding length_said word_said
length_is n column None first w ws may word = rw (other_word w.text.now 47 word refl) refl
length_is n column (Some bytes) first w ws may word = rw (count_is (at n (column + 1) (decimal bytes)) most_bytes bytes refl may.1 (omega (arith, may.1)), not_zero bytes may.0) refl

operand_here : (n column : ℕ) (bytes : Option ℕ) (first w : Word) (ws : List Word) → slice_get (first ∷ stated_words n column bytes (w ∷ ws)) (operand_at bytes) ≡ Some w
operand_here n column None first w ws = refl
operand_here n column (Some bytes) first w ws = refl

with_operand : (words : List Word) (first w : Word) (function i : ℕ) (bytes : Option ℕ) (l : NewLine) → length_said words ≡ Ok (bytes, i) → slice_get words i ≡ Some w
    → operand_said words first function bytes (i + 1) w ≡ Ok l → with_operand_said words first function ≡ Ok l
unfolding with_operand_said word_said
with_operand words first w function i bytes l long here said = rw (long, here) said

of_a_function : (words : List Word) (first : Word) (function : ℕ) (l : NewLine) →
    function_named first.text.now ≡ Some function → with_operand_said words first function ≡ Ok l →
    instruction_said words first ≡ Ok l
unfolding instruction_said
of_a_function words first function l named said = rw named said

of_an_operation : (words : List Word) (first : Word) (i : Instr) (l : NewLine) → function_named first.text.now ≡ None →
    operation_named first.text.now ≡ Some i → operation_said words first i ≡ Ok l →
    instruction_said words first ≡ Ok l
unfolding instruction_said
of_an_operation words first i l no_function named said = rw (no_function, named) said

one_word : (first : Word) (d : Said) → line_said (first ∷ []) d ≡ unlabelled (first ∷ []) d
unfolding line_said
one_word first d = refl

-- a function with its operand
function_says : (n column : ℕ) (bytes : Option ℕ) (first w : Word) (ws : List Word) (function : ℕ) (l : NewLine)
    (d : Said) → MayBeStated bytes → IsWord w.text.now → keyword_named first.text.now ≡ None
    → function_named first.text.now ≡ Some function → operand_said (first ∷ stated_words n column bytes (w ∷ ws)) first function bytes (operand_at bytes + 1) w ≡ Ok l
    → line_said (first ∷ stated_words n column bytes (w ∷ ws)) d ≡ pushed l.word l.line d
function_says n column bytes first w ws function l d may word none named said =
    is_unlabelled bytes ∙ instruction_says first (stated_words n column bytes (w ∷ ws)) l d none
    (of_a_function _ first function l named (with_operand _ first w function (operand_at bytes) bytes l
    (length_is n column bytes first w ws may word) (operand_here n column bytes first w ws) said))
  where
    is_unlabelled : (b : Option ℕ) → line_said (first ∷ stated_words n column b (w ∷ ws)) d ≡ unlabelled (first ∷ stated_words n column b (w ∷ ws)) d
    is_unlabelled None = not_labelled first w ws d (other_word w.text.now 58 word refl)
    is_unlabelled (Some b) = not_labelled first (at n column (codes "/")) (at n (column + 1) (decimal b) ∷ w ∷ ws) d refl

-- a number
number_operand : (words : List Word) (first w : Word) (function i : ℕ) (bytes : Option ℕ) (z : ℤ) (instr : Instr) → slice_get words i ≡ None → begins_number w.text.now ≡ true → number_read w ≡ Ok z
    → instruction function z ≡ Some instr → operand_said words first function bytes i w ≡ Ok (plain_line first bytes instr)
unfolding operand_said number_said end_said
number_operand words first w function i bytes z instr none begins read made = rw (begins, none, and_false (is_word first (codes "ldc")), read, made) refl

nothing_behind : (n column : ℕ) (bytes : Option ℕ) (first w : Word) → slice_get (first ∷ stated_words n column bytes (w ∷ [])) (operand_at bytes + 1) ≡ None
nothing_behind n column None first w = refl
nothing_behind n column (Some bytes) first w = refl

plain_drafted : (named : ℕ → Bool) (count : ℕ) (line : Line) → IsDrafted named count (draft.Known line) line
unfolding line_placed
plain_drafted named count line = λ labels are. refl

function_read : (named : ℕ → Bool) (count : ℕ) (i : Instr) (bytes : Option ℕ) → IsFunction i → FitsSigned w32 (entry i).operand → MayBeStated bytes → Reads named count (Spelled (Plain i) bytes)
unfolding line_text operation_text is_plain
function_read named count i bytes is fits may =
    let ps : List Piece = Gap ∷ Of (signed_decimal (entry i).operand) ∷ [] in
    record {
      pieces = spelled (entry i).name bytes ps;
      is = ap (λ t. codes "        " ++ ((entry i).name ++ stated_text bytes ++ t))
          (is.text ∙ ap (λ t. 32 ∷ t) (sym (append-nil (signed_decimal (entry i).operand)))) ∙
          spelled_written (entry i).name bytes ps;
      apart = spelled_apart (entry i).name bytes ps (name_word i) refl (signed_word (entry i).operand, (refl, tt));
      says = λ n d.
          let first : Word = at n 9 (entry i).name in
          let c : ℕ = 9 + length (entry i).name in
          let w : Word = at n (column_behind c bytes + 1) (signed_decimal (entry i).operand) in
          let l : NewLine = plain_line first bytes i in (
            l.word,
            l.line,
            ap (λ ws. line_said (first ∷ ws) d) (stated_placed n c bytes ps)
                ∙ function_says n c bytes first w [] (entry i).function l d may (signed_word (entry i).operand) (no_keyword i) is.named
                (number_operand _ first w (entry i).function (operand_at bytes + 1) bytes (entry i).operand i
                (nothing_behind n c bytes first w) (begins_signed (entry i).operand fits)
                (signed_is w (entry i).operand refl fits) is.made),
            plain_drafted named count (Spelled (Plain i) bytes),
            refl,
          );
    }

-- an operation
operation_length : (n column : ℕ) (bytes : Option ℕ) (first : Word) (i : Instr) → MayBeStated bytes →
    operation_said (first ∷ stated_words n column bytes []) first i ≡ Ok (plain_line first bytes i)
unfolding operation_said length_said word_said end_said
operation_length n column None first i may = refl
operation_length n column (Some bytes) first i may = rw (count_is (at n (column + 1) (decimal bytes)) most_bytes bytes refl may.1 (omega (arith, may.1)), not_zero bytes may.0) refl

operation_says : (n column : ℕ) (bytes : Option ℕ) (first : Word) (i : Instr) (d : Said) →
    MayBeStated bytes → keyword_named first.text.now ≡ None → function_named first.text.now ≡ None →
    operation_named first.text.now ≡ Some i
    → line_said (first ∷ stated_words n column bytes []) d ≡ pushed first (draft.Known (Spelled (Plain i) bytes)) d
operation_says n column bytes first i d may none no_function named =
    is_unlabelled bytes ∙ instruction_says first (stated_words n column bytes []) (plain_line first bytes i) d none
    (of_an_operation _ first i (plain_line first bytes i) no_function named
    (operation_length n column bytes first i may))
  where
    is_unlabelled : (b : Option ℕ) → line_said (first ∷ stated_words n column b []) d ≡ unlabelled (first ∷ stated_words n column b []) d
    is_unlabelled None = one_word first d
    is_unlabelled (Some b) = not_labelled first (at n column (codes "/")) (at n (column + 1) (decimal b) ∷ []) d refl

operation_read : (named : ℕ → Bool) (count : ℕ) (i : Instr) (bytes : Option ℕ) → IsOperation i → MayBeStated bytes → Reads named count (Spelled (Plain i) bytes)
unfolding line_text operation_text
operation_read named count i bytes is may = record {
  pieces = spelled (entry i).name bytes [];
  is = ap (λ t. codes "        " ++ ((entry i).name ++ stated_text bytes ++ t)) is.text ∙ spelled_written (entry i).name bytes [];
  apart = spelled_apart (entry i).name bytes [] (name_word i) refl tt;
  says = λ n d.
      let first : Word = at n 9 (entry i).name in
      let c : ℕ = 9 + length (entry i).name in (
        first,
        draft.Known (Spelled (Plain i) bytes),
        ap (λ ws. line_said (first ∷ ws) d) (stated_placed n c bytes []) ∙ operation_says n c bytes first i d may (no_keyword i) is.named is.found,
        plain_drafted named count (Spelled (Plain i) bytes),
        refl,
      );
}

-- jumps to labels
jump_operand : (words : List Word) (n column i to : ℕ) (bytes : Option ℕ) → slice_get words i ≡ None
    → operand_said words (at n 9 (codes "j")) 0 bytes i (at n column (label_text to)) ≡ Ok
    (record { word = at n 9 (codes "j"); line = draft.Jump (at n column (label_text to)) bytes })
unfolding operand_said end_said
jump_operand words n column i to bytes none = rw none refl

cj_operand : (words : List Word) (n column i to : ℕ) (bytes : Option ℕ) → slice_get words i ≡ None
    → operand_said words (at n 9 (codes "cj")) 10 bytes i (at n column (label_text to)) ≡ Ok
    (record { word = at n 9 (codes "cj"); line = draft.Cj (at n column (label_text to)) bytes })
unfolding operand_said end_said
cj_operand words n column i to bytes none = rw none refl

jump_drafted : (named : ℕ → Bool) (count to : ℕ) (bytes : Option ℕ) (w : Word) → w.text.now ≡ label_text to →
    to ≤ count → named to ≡ true → IsDrafted named count (draft.Jump w bytes) (Spelled (JumpTo to) bytes)
unfolding line_placed
jump_drafted named count to bytes w is within there = λ labels are. ap (λ r. then_read r (λ place. Ok (Spelled (JumpTo place) bytes))) (label_placed labels w to (are w to is within there))

cj_drafted : (named : ℕ → Bool) (count to : ℕ) (bytes : Option ℕ) (w : Word) → w.text.now ≡ label_text to → to ≤ count →
    named to ≡ true → IsDrafted named count (draft.Cj w bytes) (Spelled (CjTo to) bytes)
unfolding line_placed
cj_drafted named count to bytes w is within there = λ labels are. ap (λ r. then_read r (λ place. Ok (Spelled (CjTo place) bytes))) (label_placed labels w to (are w to is within there))

distance_drafted : (named : ℕ → Bool) (count from to : ℕ) (bytes : Option ℕ) (v w : Word) → w.text.now ≡ label_text to →
    v.text.now ≡ label_text from → to ≤ count → from ≤ count → named to ≡ true → named from ≡ true
    → IsDrafted named count (draft.Distance w v bytes) (Spelled (Distance from to) bytes)
unfolding line_placed
distance_drafted named count from to bytes v w is is' within within' there there' = λ labels are.
    ap (λ r. then_read r (λ first. then_read (place_of_label labels w) (λ last. Ok (Spelled (Distance first last) bytes)))) (label_placed labels v from (are v from is' within' there'))
    ∙ ap (λ r. then_read r (λ last. Ok (Spelled (Distance from last) bytes))) (label_placed labels w to (are w to is within there))

-- a name with a label
behind_name : (a rest : List ℕ) → (a ++ codes " ") ++ rest ≡ a ++ 32 ∷ (rest ++ [])
behind_name a rest = append_assoc a (codes " ") rest ∙ ap (λ t. a ++ 32 ∷ t) (sym (append-nil rest))

jump_read : (named : ℕ → Bool) (count to : ℕ) (bytes : Option ℕ) → to ≤ count → named to ≡ true → MayBeStated bytes → Reads named count (Spelled (JumpTo to) bytes)
unfolding line_text operation_text is_plain keyword_named function_named function_by_name
jump_read named count to bytes within there may =
    let ps : List Piece = Gap ∷ Of (label_text to) ∷ [] in
    record {
      pieces = spelled (codes "j") bytes ps;
      is = ap (λ t. codes "        " ++ t) (behind_name (codes "j" ++ stated_text bytes) (label_text to)) ∙ spelled_written (codes "j") bytes ps;
      apart = spelled_apart (codes "j") bytes ps (literal_word _ refl) refl (label_word to, (refl, tt));
      says = λ n d.
          let first : Word = at n 9 (codes "j") in
          let c : ℕ = column_behind 10 bytes + 1 in
          let w : Word = at n c (label_text to) in (
            first,
            draft.Jump w bytes,
            ap (λ ws. line_said (first ∷ ws) d) (stated_placed n 10 bytes ps)
                ∙ function_says n 10 bytes first w [] 0 (record { word = first; line = draft.Jump w bytes }) d may (label_word to) refl refl
                (jump_operand _ n c (operand_at bytes + 1) to bytes (nothing_behind n 10 bytes first w)),
            jump_drafted named count to bytes w refl within there,
            refl,
          );
    }

cj_read : (named : ℕ → Bool) (count to : ℕ) (bytes : Option ℕ) → to ≤ count → named to ≡ true → MayBeStated bytes → Reads named count (Spelled (CjTo to) bytes)
unfolding line_text operation_text is_plain keyword_named function_named function_by_name
cj_read named count to bytes within there may =
    let ps : List Piece = Gap ∷ Of (label_text to) ∷ [] in
    record {
      pieces = spelled (codes "cj") bytes ps;
      is = ap (λ t. codes "        " ++ t) (behind_name (codes "cj" ++ stated_text bytes) (label_text to)) ∙ spelled_written (codes "cj") bytes ps;
      apart = spelled_apart (codes "cj") bytes ps (literal_word _ refl) refl (label_word to, (refl, tt));
      says = λ n d.
          let first : Word = at n 9 (codes "cj") in
          let c : ℕ = column_behind 11 bytes + 1 in
          let w : Word = at n c (label_text to) in (
            first,
            draft.Cj w bytes,
            ap (λ ws. line_said (first ∷ ws) d) (stated_placed n 11 bytes ps)
                ∙ function_says n 11 bytes first w [] 10 (record { word = first; line = draft.Cj w bytes }) d may (label_word to) refl refl
                (cj_operand _ n c (operand_at bytes + 1) to bytes (nothing_behind n 11 bytes first w)),
            cj_drafted named count to bytes w refl within there,
            refl,
          );
    }

-- the distance between two labels
distance_operand : (words : List Word) (n column minus i to : ℕ) (v : Word) (bytes : Option ℕ) →
    slice_get words i ≡ Some (at n minus (codes "-")) → slice_get words (i + 1) ≡ Some v → slice_get words (i + 2) ≡ None
    → operand_said words (at n 9 (codes "ldc")) 4 bytes i (at n column (label_text to)) ≡ Ok
    (record {
      word = at n 9 (codes "ldc");
      line = draft.Distance (at n column (label_text to)) v bytes;
    })
unfolding operand_said distance_said word_said end_said
distance_operand words n column minus i to v bytes here next none = rw (here, next, none) refl

minus_here : (n column : ℕ) (bytes : Option ℕ) (first w m v : Word) → slice_get (first ∷ stated_words n column bytes (w ∷ m ∷ v ∷ [])) (operand_at bytes + 1) ≡ Some m
minus_here n column None first w m v = refl
minus_here n column (Some bytes) first w m v = refl

from_here : (n column : ℕ) (bytes : Option ℕ) (first w m v : Word) → slice_get (first ∷ stated_words n column bytes (w ∷ m ∷ v ∷ [])) (operand_at bytes + 1 + 1) ≡ Some v
from_here n column None first w m v = refl
from_here n column (Some bytes) first w m v = refl

end_here : (n column : ℕ) (bytes : Option ℕ) (first w m v : Word) → slice_get (first ∷ stated_words n column bytes (w ∷ m ∷ v ∷ [])) (operand_at bytes + 1 + 2) ≡ None
end_here n column None first w m v = refl
end_here n column (Some bytes) first w m v = refl

distance_text : (a to from : List ℕ) → (((a ++ codes " ") ++ to) ++ codes " - ") ++ from ≡ a ++ 32 ∷ (to ++ 32 ∷ 45 ∷ 32 ∷ (from ++ []))
distance_text a to from = simp (append_assoc, append-nil)

distance_read : (named : ℕ → Bool) (count from to : ℕ) (bytes : Option ℕ) → from ≤ count → to ≤ count →
    named from ≡ true → named to ≡ true → MayBeStated bytes → Reads named count (Spelled (Distance from to) bytes)
unfolding line_text operation_text is_plain keyword_named function_named function_by_name
distance_read named count from to bytes within' within there' there may =
    let ps : List Piece = Gap ∷ Of (label_text to) ∷ Gap ∷ Of (codes "-") ∷ Gap ∷ Of (label_text from) ∷ [] in
    record {
      pieces = spelled (codes "ldc") bytes ps;
      is = ap (λ t. codes "        " ++ t) (distance_text (codes "ldc" ++ stated_text bytes) (label_text to) (label_text from)) ∙ spelled_written (codes "ldc") bytes ps;
      apart = spelled_apart (codes "ldc") bytes ps (literal_word _ refl) refl (label_word to, (refl, (minus_word [] refl, (refl, (label_word from, (refl, tt))))));
      says = λ n d.
          let first : Word = at n 9 (codes "ldc") in
          let c : ℕ = column_behind 12 bytes + 1 in
          let w : Word = at n c (label_text to) in
          let m : Word = at n (c + length (label_text to) + 1) (codes "-") in
          let v : Word = at n (c + length (label_text to) + 1 + 1 + 1) (label_text from) in (
            first,
            draft.Distance w v bytes,
            ap (λ ws. line_said (first ∷ ws) d) (stated_placed n 12 bytes ps)
                ∙ function_says n 12 bytes first w (m ∷ v ∷ []) 4 (record { word = first; line = draft.Distance w v bytes }) d may (label_word to) refl refl
                (distance_operand _ n c (c + length (label_text to) + 1) (operand_at bytes + 1) to v bytes
                (minus_here n 12 bytes first w m v) (from_here n 12 bytes first w m v)
                (end_here n 12 bytes first w m v)),
            distance_drafted named count from to bytes v w refl refl within within' there there',
            refl,
          );
    }

-- a byte
byte_line : (first : Word) (n column : ℕ) (ds : List ℕ) (byte : ℕ) → count_read 255 (at n column (35 ∷ ds)) ≡ Ok byte
    → byte_said (first ∷ at n column (35 ∷ ds) ∷ []) first ≡ Ok (record { word = at n column (35 ∷ ds); line = draft.Known (Byte byte) })
unfolding byte_said word_said end_said
byte_line first n column ds byte is = rw is refl

byte_says : (n column : ℕ) (w : Word) (l : NewLine) (d : Said) →
    byte_said (at n column (codes "byte") ∷ w ∷ []) (at n column (codes "byte")) ≡ Ok l →
    unlabelled (at n column (codes "byte") ∷ w ∷ []) d ≡ pushed l.word l.line d
unfolding statement_said keyword_named keyword_said added
byte_says n column w l d said = rw said refl

byte_read : (named : ℕ → Bool) (count byte : ℕ) → byte < 2 ^ 8 → Reads named count (Byte byte)
unfolding line_text is_plain
byte_read named count byte small = record {
  pieces = Gap ∷ Gap ∷ Gap ∷ Gap ∷ Gap ∷ Gap ∷ Gap ∷ Gap ∷ Of (codes "byte") ∷ Gap ∷ Of (35 ∷ byte_text byte) ∷ [];
  is = ap (λ t. codes "        byte #" ++ t) (sym (append-nil (byte_text byte)));
  apart = (literal_word _ refl, (refl, (hexadecimal_word (byte_text byte) (byte_inner byte (omega arith)), (refl, tt))));
  says = λ n d.
      let first : Word = at n 9 (codes "byte") in
      let w : Word = at n 14 (35 ∷ byte_text byte) in (
        w,
        draft.Known (Byte byte),
        not_labelled first w [] d refl ∙ byte_says n 9 w _ d (byte_line first n 14 (byte_text byte) byte (byte_is w byte refl (omega arith))),
        plain_drafted named count (Byte byte),
        refl,
      );
}

or_same : (a : Bool) (p : ℕ) → (a || (p == p)) ≡ true
or_same a p = or_right a (p == p) (same_place p)

same_or : (a : Bool) (p : ℕ) → ((p == p) || a) ≡ true
same_or a p = or_left (p == p) a (same_place p)

-- each line
pub line_read : (named : ℕ → Bool) (count : ℕ) (line : Line) → MayBeLine count line → ((p : ℕ) → names_from_line p line ≡ true → named p ≡ true) → Reads named count line
line_read named count (Byte byte) may all = byte_read named count byte may
line_read named count (Spelled (Plain i) bytes) may all = by (how_named i)
  where
    by : IsOperation i ⊎ IsFunction i → Reads named count (Spelled (Plain i) bytes)
    by (inl is) = operation_read named count i bytes is may.1
    by (inr is) = function_read named count i bytes is may.0 may.1
line_read named count (Spelled (JumpTo to) bytes) may all = jump_read named count to bytes may.0 (all to (same_place to)) may.1
line_read named count (Spelled (CjTo to) bytes) may all = cj_read named count to bytes may.0 (all to (same_place to)) may.1
line_read named count (Spelled (Distance from to) bytes) may all =
    distance_read named count from to bytes may.0.0 may.0.1 (all from (same_or (to == from) from)) (all to (or_same (from == to) to)) may.1
