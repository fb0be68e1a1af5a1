-- Lines of a listing.
use Rattle.std.proofs.Common.{◌≡◌, ℕ, zero, suc, ◌+◌, ◌<◌, Bool, true, false, not, List, [], ◌∷◌, ◌++◌, length, get_or}
use Rattle.std.proofs.Common.{codes, Option, Some, Result, Ok, Err, IfOk, refl, ap, sym, ◌∙◌, arith, append_assoc}
use Rattle.std.proofs.Common.{slice_get}
use Rattle.std.proofs.lemmas.Option.{same_Some}
use Rattle.std.proofs.lemmas.List.{length-map, append-nil}
use Rattle.std.specs.Str.{bytes_eq}
use Rattle.hex.specs.Hex.{encode_lower}
use Rattle.tp_decode.proofs.CutLemmas.{length-starts}
use Rattle.tp_decode.specs.declared.piece.Piece.{Piece}
use Rattle.tp_decode.specs.Cutting.{Cut, starts_from}
use Rattle.tp_decode.specs.Lines.{line, plain_line, shortest, lines_from}
use Rattle.tp_decode.specs.Listings.{cut_of, cuts_of, IsListing}

-- a text that is said to have bytes has bytes that equal them
pub told : {S E : Type 0} (bytes : S → List ℕ) (r : Result S E) (x y : List ℕ) → IfOk r (λ s. bytes s ≡ x) → x ≡ y → IfOk r (λ s. bytes s ≡ y)
told bytes (Ok s) x y h e = h ∙ e
told bytes (Err e') x y h e = tt

pub regrouped : (a b c d e : List ℕ) → a ++ (b ++ (c ++ (d ++ e))) ≡ (((a ++ b) ++ c) ++ d) ++ e
regrouped a b c d e = simp append_assoc

pub lines_at : (at : ℕ) (cuts : List Cut) (i : ℕ) (cut : Cut) → slice_get cuts i ≡ Some cut → slice_get (lines_from at cuts) i ≡ Some (line (get_or (starts_from at cuts) i 0) cut)
lines_at at [] i cut e = cc
lines_at at (c ∷ cuts) zero cut e = ap (λ x. Some (line at x)) (same_Some c cut e)
lines_at at (c ∷ cuts) (suc i) cut e = lines_at (at + length c.bytes) cuts i cut e

-- the line that a listing has of one of its pieces
pub line_of_piece : (starts : List ℕ) (numbers : List (Option ℕ)) (pieces : List Piece) (i : ℕ) (piece : Piece) →
    IsListing starts numbers pieces → i < length pieces → piece ≡ get_or pieces i piece →
    slice_get (lines_from 0 (cuts_of pieces)) i ≡ Some (line (get_or starts i 0) (cut_of piece))
line_of_piece starts numbers pieces i piece is h e =
    lines_at 0 (cuts_of pieces) i (cut_of piece) (cut_there pieces i piece h e) ∙ ap (λ xs. Some (line (get_or xs i 0) (cut_of piece))) (sym is.rising)
  where
    cut_there : (pieces : List Piece) (i : ℕ) (piece : Piece) → i < length pieces → piece ≡ get_or pieces i piece → slice_get (cuts_of pieces) i ≡ Some (cut_of piece)
    cut_there [] i piece h e = absurd (omega arith)
    cut_there (p ∷ pieces) zero piece h e = ap (λ x. Some (cut_of x)) (sym e)
    cut_there (p ∷ pieces) (suc i) piece h e = cut_there pieces i piece (omega arith) e

pub starts_of_pieces : (starts : List ℕ) (numbers : List (Option ℕ)) (pieces : List Piece) → IsListing starts numbers pieces → length starts ≡ length pieces
starts_of_pieces starts numbers pieces is = ap length is.rising ∙ length-starts 0 (cuts_of pieces) ∙ length-map pieces cut_of

-- the two forms of a line
pub line_alone : (at : ℕ) (cut : Cut) → bytes_eq (shortest cut.instr) cut.bytes ≡ true → line at cut ≡ plain_line at cut
unfolding line
line_alone at cut same = rw same (append-nil (plain_line at cut))

pub line_noted : (at : ℕ) (cut : Cut) → bytes_eq (shortest cut.instr) cut.bytes ≡ false → line at cut ≡ plain_line at cut ++ (codes " least " ++ encode_lower (shortest cut.instr))
unfolding line
line_noted at cut other = rw other refl

other_default : (xs : List ℕ) (i d e : ℕ) → i < length xs → get_or xs i d ≡ get_or xs i e
other_default [] i d e h = absurd (omega arith)
other_default (x ∷ xs) zero d e h = refl
other_default (x ∷ xs) (suc i) d e h = other_default xs i d e (omega arith)

-- the line that is made of a start and a piece
pub made_of : (starts : List ℕ) (numbers : List (Option ℕ)) (pieces : List Piece) (i start : ℕ) (piece : Piece) →
    IsListing starts numbers pieces → i < length pieces → start ≡ get_or starts i start → piece ≡ get_or pieces i piece →
    slice_get (lines_from 0 (cuts_of pieces)) i ≡ Some (line start (cut_of piece))
made_of starts numbers pieces i start piece is h e e' =
    let within : i < length starts = omega (arith, starts_of_pieces starts numbers pieces is) in
    line_of_piece starts numbers pieces i piece is h e' ∙ ap (λ n. Some (line n (cut_of piece))) (other_default starts i 0 start within ∙ sym e)

pub said_of : {S E : Type 0} (bytes : S → List ℕ) (r : Result S E) (line : List ℕ) (there : Option (List ℕ)) →
    there ≡ Some line → IfOk r (λ text. bytes text ≡ line) → IfOk r (λ text. there ≡ Some (bytes text))
said_of bytes (Ok text) line there e h = e ∙ ap Some (sym h)
said_of bytes (Err e') line there e h = tt

pub not_true : (p q : Bool) → p ≡ not q → p ≡ true → q ≡ false
not_true p true e t = cc
not_true p false e t = refl

pub not_false : (p q : Bool) → p ≡ not q → p ≡ false → q ≡ true
not_false p true e t = refl
not_false p false e t = cc
