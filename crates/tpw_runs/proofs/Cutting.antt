-- The fields of a line, piece by piece.
use Rattle.std.proofs.Common.{◌≡◌, ◌≤◌, ◌<◌, ℕ, zero, suc, ◌+◌, ◌-◌, Bool, true, false, if◌then◌else◌, List, [], ◌∷◌, ◌++◌, length, get_or, take, drop, length-drop, refl, ap, sym, ◌∙◌, arith}
use Rattle.std.specs.Char.{is_ascii_whitespace}
use Rattle.std.proofs.lemmas.List.{append-nil, drop_more, get_or-drop, take_more}
use Rattle.tpw_runs.specs.Packets.{with_first, pieces, unless_empty, filled, fields_said}

-- some bytes before the first of pieces
abbrev pub with_all : List ℕ → List (List ℕ) → List (List ℕ)
with_all [] ps = ps
with_all (x ∷ xs) ps = with_first x (with_all xs ps)

with_all_at : (xs p : List ℕ) (ps : List (List ℕ)) → with_all xs (p ∷ ps) ≡ (xs ++ p) ∷ ps
with_all_at [] p ps = refl
with_all_at (x ∷ xs) p ps = ap (with_first x) (with_all_at xs p ps)

with_all_more : (xs : List ℕ) (b : ℕ) (ps : List (List ℕ)) → with_all (xs ++ b ∷ []) ps ≡ with_all xs (with_first b ps)
with_all_more [] b ps = refl
with_all_more (x ∷ xs) b ps = ap (with_first x) (with_all_more xs b ps)

-- the bytes from a place on and before another are in one piece
pub record Within (line : List ℕ) (start i : ℕ) : Type 0 where
  pub order : start ≤ i
  pub cut : pieces (drop start line) ≡ with_all (take (i - start) (drop start line)) (pieces (drop i line))

pub begins : (line : List ℕ) (i : ℕ) → Within line i i
begins line i =
    let none : i - i ≡ 0 = omega arith in
    record { order = omega arith; cut = sym (ap (λ n. with_all (take n (drop i line)) (pieces (drop i line))) none) }

by_test : (b : ℕ) (white : Bool) (line : List ℕ) → is_ascii_whitespace b ≡ white
    → pieces (b ∷ line) ≡ (if white then [] ∷ pieces line else with_first b (pieces line))
by_test b white line is = ap (λ w. if w then [] ∷ pieces line else with_first b (pieces line)) is

next_pieces : (line : List ℕ) (i b d : ℕ) (white : Bool) → i < length line → b ≡ get_or line i d → is_ascii_whitespace b ≡ white
    → pieces (drop i line) ≡ (if white then [] ∷ pieces (drop (i + 1) line) else with_first b (pieces (drop (i + 1) line)))
next_pieces line i b d white within there is =
    ap pieces (drop_more line i d within ∙ ap (λ x. x ∷ drop (i + 1) line) (sym there)) ∙ by_test b white (drop (i + 1) line) is

pub goes_on : (line : List ℕ) (start i b d : ℕ) → i < length line → b ≡ get_or line i d → is_ascii_whitespace b ≡ false
    → Within line start i → Within line start (i + 1)
goes_on line start i b d within there is w =
    let n = i - start in
    let more : (i + 1) - start ≡ n + 1 = omega (arith, w.order) in
    let at : start + n ≡ i = omega (arith, w.order) in
    let short : n < length (drop start line) = omega (arith, length-drop start line, within, w.order) in
    let xs = take n (drop start line) in
    let one : get_or (drop start line) n d ≡ b = get_or-drop start line n d ∙ ap (λ k. get_or line k d) at ∙ sym there in
    let longer : take ((i + 1) - start) (drop start line) ≡ xs ++ b ∷ [] =
    ap (λ k. take k (drop start line)) more ∙ take_more (drop start line) n d short ∙ ap (λ x. xs ++ x ∷ []) one in
    record {
      order = omega (arith, w.order);
      cut = w.cut ∙ ap (with_all xs) (next_pieces line i b d false within there is)
          ∙ sym (with_all_more xs b (pieces (drop (i + 1) line)))
          ∙ sym (ap (λ l. with_all l (pieces (drop (i + 1) line))) longer);
    }

-- a piece that ends at white space
pub ends : (line : List ℕ) (start i b d : ℕ) → i < length line → b ≡ get_or line i d → is_ascii_whitespace b ≡ true → Within line start i
    → fields_said (drop start line) ≡ unless_empty (take (i - start) (drop start line)) ++ fields_said (drop (i + 1) line)
ends line start i b d within there is w =
    let xs = take (i - start) (drop start line) in
    ap filled (w.cut ∙ ap (with_all xs) (next_pieces line i b d true within there is) ∙ with_all_at xs [] (pieces (drop (i + 1) line))
    ∙ ap (λ l. l ∷ pieces (drop (i + 1) line)) (append-nil xs))

none_left : (line : List ℕ) (i : ℕ) → length line ≤ i → drop i line ≡ []
none_left [] zero h = refl
none_left [] (suc i) h = refl
none_left (x ∷ line) zero h = absurd (omega (arith, h))
none_left (x ∷ line) (suc i) h = none_left line i (omega (arith, h))

-- the last piece
pub last : (line : List ℕ) (start : ℕ) → Within line start (length line)
    → fields_said (drop start line) ≡ unless_empty (take (length line - start) (drop start line))
last line start w =
    let rest = take (length line - start) (drop start line) in
    ap filled (w.cut ∙ ap (λ l. with_all rest (pieces l)) (none_left line (length line) (omega arith)) ∙ with_all_at rest [] []
    ∙ ap (λ l. l ∷ []) (append-nil rest))
    ∙ append-nil (unless_empty rest)
