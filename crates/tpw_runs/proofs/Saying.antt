-- What the lines of a text say, one after another.
use Rattle.std.proofs.Common.{◌≡◌, ◌<◌, ℕ, ◌+◌, List, [], ◌∷◌, ◌++◌, length, take, get_or, Option, Some, None, refl, ap, sym, ◌∙◌}
use Rattle.std.specs.Option.{option_map, option_and_then}
use Rattle.std.proofs.lemmas.List.{append-nil, take_more}
use Rattle.tpw_runs.specs.Packets.{AddsSaid, fields_said, line_said, lines_said}

module _ {A : Type 0} (said : List (List ℕ) → Option A) where
  -- what lines say, and others behind them
  abbrev both : Option (List A) → Option (List A) → Option (List A)
  both None others = None
  both (Some xs) others = option_map (λ ys. xs ++ ys) others

  none_before : (others : Option (List A)) → others ≡ both (Some []) others
  none_before None = refl
  none_before (Some ys) = refl

  one_before : (x : A) (xs : List A) (others : Option (List A)) → option_map (λ more. x ∷ more) (option_map (λ ys. xs ++ ys) others) ≡ option_map (λ ys. (x ∷ xs) ++ ys) others
  one_before x xs None = refl
  one_before x xs (Some ys) = refl

  by_one : (one : Option A) (first others : Option (List A))
      → option_and_then (λ x. option_map (λ more. x ∷ more) (both first others)) one
      ≡ both (option_and_then (λ x. option_map (λ more. x ∷ more) first) one) others
  by_one None first others = refl
  by_one (Some x) None others = refl
  by_one (Some x) (Some xs) others = one_before x xs others

  by_line : (fields : List (List ℕ)) (first others : Option (List A)) → line_said said fields (both first others) ≡ both (line_said said fields first) others
  by_line [] first others = refl
  by_line (field ∷ fields) first others = by_one (said (field ∷ fields)) first others

  said_and : (first others : List (List ℕ)) → lines_said said (first ++ others) ≡ both (lines_said said first) (lines_said said others)
  said_and [] others = none_before (lines_said said others)
  said_and (line ∷ first) others =
      ap (line_said said (fields_said line)) (said_and first others)
      ∙ by_line (fields_said line) (lines_said said first) (lines_said said others)

  added : (fields : List (List ℕ)) (old new : List A) → AddsSaid said fields old new
      → both (Some old) (line_said said fields (Some [])) ≡ Some new
  added [] old new is = ap Some (append-nil old ∙ sym is)
  added (field ∷ fields) old new is =
      ap (λ o. both (Some old) (option_and_then (λ x. option_map (λ more. x ∷ more) (Some [])) o)) is.1 ∙ ap Some (sym is.2)

  -- one line more
  pub one_said : (text : List (List ℕ)) (k : ℕ) (line : List ℕ) (old new : List A) → k < length text → line ≡ get_or text k line
      → lines_said said (take k text) ≡ Some old → AddsSaid said (fields_said line) old new
      → lines_said said (take (k + 1) text) ≡ Some new
  one_said text k line old new within there so_far adds =
      ap (lines_said said) (take_more text k line within ∙ ap (λ l. take k text ++ l ∷ []) (sym there))
      ∙ said_and (take k text) (line ∷ [])
      ∙ ap (λ o. both o (line_said said (fields_said line) (Some []))) so_far
      ∙ added (fields_said line) old new adds
