-- Numbers that are stored in words of items.
use Rattle.std.proofs.Common.{◌≡◌, ◌+◌, ◌*◌, ◌≤◌, [], ◌∷◌, ℕ, List, refl, ap, sym, subst, ◌∙◌}
use Rattle.std.proofs.lemmas.Bool.{le-leb}
use Rattle.tpw_occam_symbolic.specs.declared.items.Item.{Item}
use Rattle.tpw_occam_symbolic.specs.declared.items.Item.TheVariants.{Variable, Constant}
use Rattle.tpw_occam_symbolic.specs.declared.code.Step.TheVariants.{Store}
use Rattle.tpw_occam_symbolic.specs.Code.{Lines, followed_by, line_of, place_behind}
use Rattle.tpw_occam_symbolic.specs.Blocks.{with_word}
use Rattle.tpw_occam_symbolic.specs.Symbolic.{Machine, performed, at_place, number, push, pop, with_blocks}
use Rattle.tpw_occam_symbolic.specs.Leading.{Does, Makes, HasConstants}
use Rattle.tpw_occam_expressions.specs.Values.{HasNumber}
use Rattle.tpw_occam_code.specs.Executing.{with_item_word, Begins}
use Rattle.tpw_occam_symbolic.proofs.Leading.{does_less, does_both, does_served, makes_both}
use Rattle.tpw_occam_expressions.proofs.Computing.{word_same}
use Rattle.tpw_occam_expressions.proofs.Keeping.{word_elsewhere}

-- Areg, stored
abbrev pub stored_word : Item → ℕ → ℕ → Machine → Machine
stored_word i word value m = pop (with_blocks (with_word i (4 * word) value m.blocks) m)

does_store : (w : List ℕ) (old new : Lines) (source : ℕ) (i : Item) (word value : ℕ) → new ≡ followed_by old (line_of source (Store i word) ∷ [])
    → Does w old new (HasNumber value) (λ m end. (end ≡ at_place (place_behind new) (stored_word i word value m)) × (4 * word + 4 ≤ m.sizes i))
unfolding performed
does_store w old new source i word value is =
    does_served w old new source (Store i word) (HasNumber value) (stored_word i word value) is
    (λ m areg served. rw areg (rw (le-leb (4 * word + 4) _ served) refl)) (λ m. refl) (λ m. refl) (λ m. refl)

-- a constant, stored
pub stores_constant : (old between new : Lines) (source : ℕ) (i : Item) (word value : ℕ) → Makes old between HasConstants (push (number value))
    → new ≡ followed_by between (line_of source (Store i word) ∷ []) → Makes old new HasConstants (with_item_word i word value)
stores_constant old between new source i word value pushes is =
    makes_both old between new HasConstants (HasNumber value) (push (number value)) (stored_word i word value) (with_item_word i word value) pushes
    (λ w. does_less w between new _ _ (HasNumber value) _ (does_store w between new source i word value is) (λ m said. said) (λ m end said after. after.0))
    (λ m said. refl) (λ m said. refl)

variable_constant : (x value p : ℕ) (m : Machine) → HasConstants m → HasConstants (at_place p (with_item_word (Variable x) 0 value m))
variable_constant x value p m has c small =
    word_same (with_word (Variable x) 0 value m.blocks) m.blocks (Constant c) 0 (λ k. word_elsewhere (Variable x) (Constant c) k value m.blocks refl) ∙ has c small

pub begins_loop : (old one two three new : Lines) (source x start count : ℕ) → Makes old one HasConstants (push (number start))
    → two ≡ followed_by one (line_of source (Store (Variable x) 0) ∷ [])
    → Makes two three HasConstants (push (number count)) → new ≡ followed_by three (line_of source (Store (Variable x) 1) ∷ [])
    → Begins old new x start count
begins_loop old one two three new source x start count first second third fourth w =
    let front : Does w old two HasConstants (λ m end. end ≡ at_place (place_behind two) (with_item_word (Variable x) 0 start m)) =
    stores_constant old one two source (Variable x) 0 start first second w in
    let back : Does w two new HasConstants
    (λ m end. (end ≡ at_place (place_behind new) (with_item_word (Variable x) 1 count m)) × (8 ≤ m.sizes (Variable x))) =
    does_both w two three new _ _ _ _ _ (third w) (does_store w three new source (Variable x) 1 count fourth)
    (λ m middle said at. ap (λ z. z.areg) at)
    (λ m middle end said at after. (
      after.0 ∙ ap (λ z. at_place (place_behind new) (stored_word (Variable x) 1 count z)) at,
      subst (λ (z : Item → ℕ). 8 ≤ z (Variable x)) (ap (λ z. z.sizes) at) after.1,
    )) in
    does_both w old two new _ _ _ _ _ front back
    (λ m middle said at. subst HasConstants (sym at) (variable_constant x start (place_behind two) m said))
    (λ m middle end said at after. (
      after.0 ∙ ap (λ z. at_place (place_behind new) (with_item_word (Variable x) 1 count z)) at,
      subst (λ (z : Item → ℕ). 8 ≤ z (Variable x)) (ap (λ z. z.sizes) at) after.1,
    ))
