-- Loops: lend, and entering.
use Rattle.std.proofs.Common.{◌≡◌, ℕ, ◌+◌, true, ◌&&◌, IsTrue, ℤ, pos, ◌-ℤ◌, List, slice_get, Option, Some, None, Ok, refl, rules}
use Rattle.std.specs.Prelude.{IfOk}
use Rattle.std.proofs.lemmas.Bool.{and_parts}
use Rattle.tp_decode.specs.declared.instr.Instr.TheVariants.{Lend}
use Rattle.tp_image.specs.declared.image.LoopRow.{LoopRow}
use Rattle.tp_image.specs.Image.{ImageValue}
use Rattle.tp_flow.specs.declared.edge.Edge.{Edge}
use Rattle.tp_flow.specs.declared.edge.Edge.TheVariants.{Next, Taken, Back, Out}
use Rattle.tp_state.specs.declared.cell.Cell.{Cell}
use Rattle.tp_state.specs.declared.state.State.{State}
use Rattle.tp_state.specs.declared.fault.StateCode.TheVariants.{S5}
use Rattle.tp_state.specs.Answer.{◌>>=◌, ◌>>◌, unless, found}
use Rattle.tp_state.specs.Kinds.{is_exactly, points_at, pointer}
use Rattle.tp_state.specs.CellRules.{cell_at}
use Rattle.tp_state.specs.Order.{cell_below, IsBelow}
use Rattle.tp_state.specs.Rules.{rule, with_block, descheduled, row_ended_at, leaving}
use Rattle.tp_state.specs.After.{entering, is_known}
use Rattle.tp_state.proofs.CellOrder.{same_int}
use Rattle.tp_state.specs.Sound.{IsSound}
use Rattle.tp_state.specs.declared.cell.Cell.TheVariants as cell
use Rattle.tp_rule_laws.proofs.Follows.{Follows, same, both, bind, also, tested}
use Rattle.tp_rule_laws.proofs.Asked.{IsPart, pointer_follows, points_below}
use Rattle.tp_rule_laws.proofs.States.{block_set, left, gives_way}
use Rattle.tp_rule_laws.proofs.Ordered.{Same, Goes, AreOrdered, KeepsOrder, also_known_a, also_known_b, also_number_a, same_then, exactly_a}
use Rattle.tp_rule_laws.proofs.SoundStates.{with_fact, tested_sound, block_sound, HasSoundState, KeepsSound, any_sound, also_sound, way_then}

-- ---- the order

known_goes : (n : ℤ) (c d : Cell) → IsTrue (cell_below c d) → is_known n d ≡ true → is_known n c ≡ true
known_goes n c cell.Undef h e = cc
known_goes n c cell.Any h e = cc
known_goes n c (cell.Index l) h e = cc
known_goes n c (cell.Count l) h e = cc
known_goes n (cell.Known a) (cell.Known m) h e = rw (same_int a m h) e
known_goes n cell.Undef (cell.Known m) h e = absurd (search rules)
known_goes n cell.Any (cell.Known m) h e = absurd (search rules)
known_goes n (cell.Index l) (cell.Known m) h e = absurd (search rules)
known_goes n (cell.Count l) (cell.Known m) h e = absurd (search rules)

pub entering_follows : (rows : List LoopRow) (o : Option ℕ) (s t : State) → IsBelow s t → Follows IsBelow (entering rows o s) (entering rows o t)
unfolding entering
entering_follows rows None s t h = h
entering_follows rows (Some l) s t h =
    bind IsBelow Same (found S5 (slice_get rows l)) (found S5 (slice_get rows l)) _ _ (same Same (found S5 (slice_get rows l)) (λ row. refl)) λ row also_row e. rw e (enters also_row)
  where
    both_known : (row : LoopRow) → (is_known row.start (cell_at t.cells row.control) && is_known (pos row.count)
        (cell_at t.cells (row.control + 1))) ≡ true → (is_known row.start (cell_at s.cells row.control) && is_known
        (pos row.count) (cell_at s.cells (row.control + 1))) ≡ true
    both_known row e =
        let parts = and_parts (is_known row.start (cell_at t.cells row.control)) (is_known (pos row.count) (cell_at t.cells (row.control + 1))) e in
        rw (known_goes row.start _ _ (h.cells row.control) parts.0, known_goes (pos row.count) _ _ (h.cells (row.control + 1)) parts.1) refl

    enters : (row : LoopRow) → Follows IsBelow (unless S5
        (is_known row.start (cell_at s.cells row.control) && is_known (pos row.count) (cell_at s.cells (row.control + 1)))
        >> Ok (with_block row (cell.Index l) (cell.Count l) s))
        (unless S5 (is_known row.start (cell_at t.cells row.control) && is_known (pos row.count) (cell_at t.cells (row.control + 1))) >> Ok (with_block row (cell.Index l) (cell.Count l) t))
    enters row = tested IsBelow S5 _ _ _ _ (both_known row) (λ _. block_set s t h row (cell.Index l) (cell.Count l))

module _ {image : ImageValue} {s t : State} (pair : AreOrdered image s t) where
  ends_turn : (edge : Edge) (row : LoopRow) → Goes (descheduled s >>= λ u. Ok (leaving edge row u)) (descheduled t >>= λ u. Ok (leaving edge row u))
  ends_turn edge row = bind IsBelow IsBelow (descheduled s) (descheduled t) _ _ (gives_way s t pair.below) λ u v below. left u v below edge row

  ends_here : (row : LoopRow) (next : ℕ) → (points_at row.control t.b && is_exactly (pos next -ℤ pos row.head) t.a) ≡
      true → (points_at row.control s.b && is_exactly (pos next -ℤ pos row.head) s.a) ≡ true
  ends_here row next e =
      let parts = and_parts (points_at row.control t.b) (is_exactly (pos next -ℤ pos row.head) t.a) e in
      rw (points_below row.control s.b t.b pair.below.b pair.sound.b parts.0, exactly_a pair (pos next -ℤ pos row.head) parts.1) refl

module _ {image : ImageValue} {s t : State} (pair : AreOrdered image s t) (at next : ℕ) (edge : Edge) where
  pub lend_follows : KeepsOrder image s t at next edge Lend
  unfolding rule
  lend_follows =
      also_known_a pair _ _ (also_known_b pair _ _ (also_number_a pair _ _ (also IsBelow (pointer s.b) (pointer t.b) _ _ (both IsPart _ _ (pointer_follows s.b t.b pair.below.b pair.sound.b))
      (same_then pair (found S5 (row_ended_at image at)) _ _ λ row.
      tested IsBelow S5 _ _ _ _ (ends_here pair row next) λ _. ends_turn pair edge row))))

-- ---- sound states

module _ (image : ImageValue) where
  leaves : (edge : Edge) (row : LoopRow) (t : State) → IsSound image t → IsSound image (leaving edge row t)
  leaves Out row t h = block_sound image t row cell.Undef cell.Undef h tt tt
  leaves Next row t h = h
  leaves Taken row t h = h
  leaves Back row t h = h

pub entered_sound : (image : ImageValue) (o : Option ℕ) (t : State) → IsSound image t → IfOk (entering image.loops o t) (IsSound image)
unfolding entering
entered_sound image None t h = h
entered_sound image (Some l) t h =
    with_fact (IsSound image) (λ row. slice_get image.loops l ≡ Some row) (found S5 (slice_get image.loops l)) _ (there (slice_get image.loops l)) λ row is.
    tested_sound image S5 (is_known row.start (cell_at t.cells row.control) && is_known (pos row.count) (cell_at t.cells (row.control + 1))) _ λ known.
    block_sound image t row (cell.Index l) (cell.Count l) h (row, is) (row, is)
  where
    there : (o : Option LoopRow) → IfOk (found S5 o) (λ row. o ≡ Some row)
    there None = tt
    there (Some row) = refl

module _ {image : ImageValue} {t : State} (h : HasSoundState image t) where
  ends_turn_sound : (edge : Edge) (row : LoopRow) → IfOk (descheduled t >>= λ u. Ok (leaving edge row u)) (IsSound image)
  ends_turn_sound edge row = way_then h _ λ u g. leaves image edge row u g

module _ {image : ImageValue} {t : State} (h : HasSoundState image t) (at next : ℕ) (edge : Edge) where
  pub lend_sound : KeepsSound image t at next edge Lend
  unfolding rule
  lend_sound = search (any_sound h, also_sound h, ends_turn_sound h edge) depth 14
