-- Move.
use Rattle.std.proofs.Common.{◌≡◌, ℕ, ◌+◌, true, ◌&&◌, ◌==◌, ◌/◌, ◌%◌, nat_le, ℤ, pos, int_le, map, length, Ok, ◌∙◌, arith}
use Rattle.std.specs.Prelude.{All, IfOk}
use Rattle.std.specs.Ordering.{int_eq}
use Rattle.std.proofs.lemmas.Bool.{and_parts}
use Rattle.std.proofs.lemmas.List.{length-map}
use Rattle.std.proofs.lemmas.Bool.Decides.{Decides-int_eq}
use Rattle.tp_decode.specs.declared.instr.Instr.TheVariants.{MoveBytes}
use Rattle.tp_image.specs.Image.{ImageValue}
use Rattle.tp_flow.specs.declared.edge.Edge.{Edge}
use Rattle.tp_step.specs.Effects.{has_move}
use Rattle.tp_state.specs.declared.state.State.{State}
use Rattle.tp_state.specs.declared.fault.StateCode.TheVariants.{S3, S4, S5, S7, S11}
use Rattle.tp_state.specs.Answer.{◌>>◌, unless}
use Rattle.tp_state.specs.CellRules.{cells_from, with_cells, are_free, are_defined, copied}
use Rattle.tp_state.specs.Order.{IsBelow}
use Rattle.tp_state.specs.Rules.{rule, no_registers, message_in, count_of, is_move_length, are_apart, moved}
use Rattle.tp_state.specs.Sound.{IsSoundCell, IsSound}
use Rattle.tp_state.proofs.CellLemmas.{length-with_cells, length-cells_from}
use Rattle.tp_rule_laws.proofs.Follows.{tested}
use Rattle.tp_rule_laws.proofs.Ranges.{IsWithin}
use Rattle.tp_rule_laws.proofs.Cells.{replaced_below, mapped_below, part_below, copied_below}
use Rattle.tp_rule_laws.proofs.States.{cells_of, new_cells, no_more_known, free_from, defined_from}
use Rattle.tp_rule_laws.proofs.Ordered.{one_is, Goes, AreOrdered, KeepsOrder, also_known_a, also_known_b, also_known_c, number_a_then, one_word_b_then, one_word_c_then, message_then}
use Rattle.tp_rule_laws.proofs.SoundStates.{copied_has, words_from, words_with, words_mapped, cells_sound, tested_sound, none_known, message_room, HasSoundState, KeepsSound, any_sound, also_sound}

-- ---- the order

move_length : (a b : ℤ × ℤ) → IsWithin a b → is_move_length b ≡ true → (is_move_length a ≡ true) × (a ≡ b)
unfolding is_move_length
move_length a b w e =
    let three = (and_parts (int_eq b.0 b.1 && int_le (pos 4) b.0 && int_le b.0 (pos 2048)) (count_of b.0 % 4 == 0) e).0 in
    let two = (and_parts (int_eq b.0 b.1 && int_le (pos 4) b.0) (int_le b.0 (pos 2048)) three).0 in
    let one = (and_parts (int_eq b.0 b.1) (int_le (pos 4) b.0) two).0 in
    let is = one_is a b w ((Decides-int_eq b.0 b.1).0 one) in (rw is e, is)

module _ {image : ImageValue} {s t : State} (pair : AreOrdered image s t) where
  copies : (n x y : ℕ) → Goes (unless S3 (are_apart n x y) >>
      (unless S4 (are_defined (cells_from s.cells y n)) >> (unless S5 (are_free (cells_from s.cells x n)) >> Ok
      (no_registers (record s { cells = with_cells s.cells x (map copied (cells_from s.cells y n)) })))))
      (unless S3 (are_apart n x y) >> (unless S4 (are_defined (cells_from t.cells y n)) >>
      (unless S5 (are_free (cells_from t.cells x n)) >> Ok
      (no_registers (record t { cells = with_cells t.cells x (map copied (cells_from t.cells y n)) })))))
  copies n x y =
      tested IsBelow S3 (are_apart n x y) (are_apart n x y) _ _ (λ e. e) λ _.
      tested IsBelow S4 (are_defined (cells_from s.cells y n)) (are_defined (cells_from t.cells y n)) _ _ (defined_from s t pair.below y n) λ _.
      tested IsBelow S5 (are_free (cells_from s.cells x n)) (are_free (cells_from t.cells x n)) _ _ (free_from s t pair.below x n) λ _.
      no_more_known _ _ (new_cells s t pair.below _ _ (replaced_below x s.cells t.cells _ _ (cells_of s t pair.below)
      (mapped_below copied copied_below _ _ (part_below y n s.cells t.cells (cells_of s t pair.below)))))

  moving : (a b : ℤ × ℤ) (x y : ℕ) → a ≡ b
      → Goes (message_in image x (count_of a.0 / 4) >> (message_in image y (count_of a.0 / 4) >> moved (count_of a.0 / 4) x y s))
      (message_in image x (count_of b.0 / 4) >> (message_in image y (count_of b.0 / 4) >> moved (count_of b.0 / 4) x y t))
  moving a b x y is = rw is (message_then pair x (count_of b.0 / 4) _ _ (message_then pair y (count_of b.0 / 4) _ _ (copies (count_of b.0 / 4) x y)))

module _ {image : ImageValue} {s t : State} (pair : AreOrdered image s t) (at next : ℕ) (edge : Edge) where
  pub move_bytes_follows : KeepsOrder image s t at next edge MoveBytes
  unfolding rule
  move_bytes_follows =
      tested IsBelow S11 (has_move image.version) (has_move image.version) _ _ (λ e. e) λ _.
      also_known_a pair _ _ (also_known_b pair _ _ (also_known_c pair _ _ (number_a_then pair _ _ λ a b in_a. one_word_b_then pair _ _ λ x. one_word_c_then pair _ _ λ y.
      tested IsBelow S7 _ _ _ _ (λ e. (move_length a b in_a e).0) λ e. moving pair a b x y (move_length a b in_a e).1)))

-- ---- sound states

module _ (image : ImageValue) where
  copies_come : (t : State) (n x y : ℕ) → IsSound image t → IfOk (message_in image x n >> (message_in image y n >> moved n x y t)) (IsSound image)
  unfolding message_in
  copies_come t n x y h =
      tested_sound image S3 (nat_le (x + n) image.workspace) _ λ room.
      tested_sound image S3 (nat_le (y + n) image.workspace) _ λ from.
      tested_sound image S3 (are_apart n x y) _ λ apart.
      tested_sound image S4 (are_defined (cells_from t.cells y n)) _ λ there.
      tested_sound image S5 (are_free (cells_from t.cells x n)) _ λ free.
      none_known image _ (cells_sound image t _ h (long room from) words)
    where
      long : nat_le (x + n) image.workspace ≡ true → nat_le (y + n) image.workspace ≡ true → length (with_cells t.cells x (map copied (cells_from t.cells y n))) ≡ length t.cells
      long room from =
          let fits = message_room image t x n h room in
          let many : length (map copied (cells_from t.cells y n)) ≡ n = length-map (cells_from t.cells y n) copied ∙ length-cells_from t.cells y n (message_room image t y n h from) in
          length-with_cells t.cells x (map copied (cells_from t.cells y n)) (omega (arith, many, fits))

      words : All (IsSoundCell image.loops) (with_cells t.cells x (map copied (cells_from t.cells y n)))
      words = words_with image.loops t.cells h.words x _ (words_mapped image.loops copied (copied_has image.loops) _ (words_from image.loops t.cells h.words y n))

module _ {image : ImageValue} {t : State} (h : HasSoundState image t) (at next : ℕ) (edge : Edge) where
  pub move_bytes_sound : KeepsSound image t at next edge MoveBytes
  unfolding rule
  move_bytes_sound = search (any_sound h, also_sound h, (λ (n x y : ℕ). copies_come image t n x y h.sound)) depth 14
