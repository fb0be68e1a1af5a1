-- What whole lines of a text lead a draft to.
use Rattle.std.proofs.Common.{arith, length-append, ◌≡◌, ℕ, ◌+◌, List, [], ◌∷◌, ◌++◌, length, map, Ok, refl, ap, sym, ◌∙◌, subst, append_assoc}
use Rattle.std.specs.List.{flat_map, AllByRecursion}
use Rattle.std.proofs.lemmas.List.{append-nil}
use Rattle.tpw_text.specs.Faults.{then_read}
use Rattle.tpw_text.specs.Words.{words_of_line}
use Rattle.tpw_text.specs.Drafts.{Said}
use Rattle.tpw_text.specs.Meaning.{in_turn, line_said}
use Rattle.tpw_text.specs.Apart.{word_for}
use Rattle.tpw_text.specs.Texts.{words_of_lines}
use Rattle.tpw_text.specs.Written.{as_line}
use Rattle.tpw_text.proofs.Folds.{both, say, say-append}
use Rattle.tpw_text_laws.proofs.TextLines.{IsLine}
use Rattle.tpw_text_laws.proofs.Pieces.{Piece, write, placed, AreApart, IsTail, words_are, is_line}

-- lines lead each draft of one kind to a draft of another, wherever they stand: behind these lines, and then behind these and them
pub record Leads (text : List ℕ) (P Q : List (List ℕ) → Said → Type 0) : Type 0 where
  pub lines : List (List ℕ)
  pub is : text ≡ flat_map as_line lines
  pub shown : AllByRecursion IsLine lines
  pub says : (front : List (List ℕ)) (d : Said) → P front d → (e : Said) × (say (words_of_lines (1 + length front) lines) d ≡ Ok e) × Q (front ++ lines) e

flat_map-append : (xs ys : List (List ℕ)) → flat_map as_line (xs ++ ys) ≡ flat_map as_line xs ++ flat_map as_line ys
flat_map-append [] ys = refl
flat_map-append (x ∷ xs) ys = ap (λ zs. as_line x ++ zs) (flat_map-append xs ys) ∙ sym (append_assoc (as_line x) (flat_map as_line xs) (flat_map as_line ys))

all-append : (xs ys : List (List ℕ)) → AllByRecursion IsLine xs → AllByRecursion IsLine ys → AllByRecursion IsLine (xs ++ ys)
all-append [] ys left right = right
all-append (x ∷ xs) ys left right = (left.0, all-append xs ys left.1 right)

pub nothing : {P : List (List ℕ) → Said → Type 0} → Leads [] P P
unfolding in_turn
nothing {P} = record { lines = []; is = refl; shown = tt; says = λ front d p. (d, refl, subst (λ (ls : List (List ℕ)). P ls d) (sym (append-nil front)) p) }

-- one behind another
pub behind : {s t : List ℕ} {P Q R : List (List ℕ) → Said → Type 0} → Leads s P Q → Leads t Q R → Leads (s ++ t) P R
behind {s} {t} {P} {Q} {R} f g = record {
  lines = f.lines ++ g.lines;
  is = ap (λ a. a ++ t) f.is ∙ ap (λ b. flat_map as_line f.lines ++ b) g.is ∙ sym (flat_map-append f.lines g.lines);
  shown = all-append f.lines g.lines f.shown g.shown;
  says = λ front d p.
      let n : ℕ = 1 + length front in
      let far : n + length f.lines ≡ 1 + length (front ++ f.lines) = omega (arith, length-append front f.lines) in
      let first = f.says front d p in
      let second = g.says (front ++ f.lines) first.0 first.2 in (
        second.0,
        ap (λ ws. say ws d) (both n f.lines g.lines) ∙ ap (λ m. say (words_of_lines n f.lines ++ words_of_lines m g.lines) d) far
            ∙ say-append (words_of_lines n f.lines) (words_of_lines (1 + length (front ++ f.lines)) g.lines) d
            ∙ ap (λ r. then_read r (say (words_of_lines (1 + length (front ++ f.lines)) g.lines))) first.1 ∙ second.1,
        subst (λ (ls : List (List ℕ)). R ls second.0) (append_assoc front f.lines g.lines) second.2,
      );
}

-- the same text, and other words for the drafts
pub leads_as : {s t : List ℕ} {P Q : List (List ℕ) → Said → Type 0} → t ≡ s → Leads s P Q → Leads t P Q
leads_as {s} {t} {P} {Q} is f = record { lines = f.lines; is = is ∙ f.is; shown = f.shown; says = f.says }

pub leads_to : {s : List ℕ} {P Q R : List (List ℕ) → Said → Type 0} → ((front : List (List ℕ)) (d : Said) → Q front d → R front d) → Leads s P Q → Leads s P R
leads_to {s} {P} {Q} {R} to f = record { lines = f.lines; is = f.is; shown = f.shown; says = λ front d p. let r = f.says front d p in (r.0, r.1, to (front ++ f.lines) r.0 r.2) }

say_one : (n : ℕ) (line : List ℕ) (d e : Said) → line_said (map word_for (words_of_line n line)) d ≡ Ok e → say (words_of_lines n (line ∷ [])) d ≡ Ok e
unfolding in_turn
say_one n line d e is = ap (λ r. then_read r (say [])) is

-- one line, in pieces
pub a_line : {text : List ℕ} {P Q : List (List ℕ) → Said → Type 0} (ps : List Piece) (tail : List ℕ) → text ≡ write ps ++ tail → AreApart ps → IsTail tail
    → ((front : List (List ℕ)) (d : Said) → P front d → (e : Said) × (line_said (map word_for (placed (1 + length front) 1 ps)) d ≡ Ok e) × Q (front ++ text ∷ []) e) → Leads (as_line text) P Q
a_line {text} {P} {Q} ps tail is apart end says = record {
  lines = text ∷ [];
  is = sym (append-nil (as_line text));
  shown = (subst IsLine (sym is) (is_line ps tail apart end), tt);
  says = λ front d p.
      let n : ℕ = 1 + length front in
      let r = says front d p in
      (r.0, say_one n text d r.0 (ap (λ t. line_said (map word_for (words_of_line n t)) d) is ∙ ap (λ ws. line_said (map word_for ws) d) (words_are n ps tail apart end) ∙ r.1), r.2);
}
