-- Joins, cell by cell.
use Rattle.std.proofs.Common.{◌≡◌, ℕ, ◌<◌, ◌≤◌, ◌⊎◌, inl, inr, Bool, true, false, ◌||◌, List, length, refl, sym, ap, ◌∙◌, arith}
use Rattle.std.proofs.lemmas.Bool.{cases_lt}
use Rattle.std.proofs.lemmas.List.{get_or-map, length-map}
use Rattle.std.proofs.lemmas.Slice.Zip.{length-zip, get_or-zip}
use Rattle.std.proofs.Math.ListN.{get_or-eq_default}
use Rattle.std.specs.List.{zip}
use Rattle.tp_state.specs.declared.cell.Cell.{Cell}
use Rattle.tp_state.specs.declared.cell.Cell.TheVariants.{Undef}
use Rattle.tp_state.specs.CellRules.{cell_at}
use Rattle.tp_state.specs.Order.{join_cells, joined_cells, ReportsChange}
use Rattle.tp_state.specs.declared.kind.Kind.{Kind}
use Rattle.tp_state.specs.declared.state.State.{State}

pub length-joined : (cells others : List Cell) → length others ≡ length cells → length (joined_cells cells others) ≡ length cells
length-joined cells others long = grind (arith, length-map, length-zip)

pub cell_at-joined : (cells others : List Cell) (i : ℕ) → length others ≡ length cells → cell_at (joined_cells cells others) i ≡ join_cells (cell_at cells i) (cell_at others i)
cell_at-joined cells others i long = by_place (cases_lt i (length cells))
  where
    pairs : List (Cell × Cell)
    pairs = zip cells others

    long_pairs : length pairs ≡ length cells
    long_pairs = grind (arith, length-zip)

    by_place : (i < length cells) ⊎ (length cells ≤ i) → cell_at (joined_cells cells others) i ≡ join_cells (cell_at cells i) (cell_at others i)
    by_place (inl lt) =
        let in_pairs : i < length pairs = omega (arith, long_pairs, lt) in
        let in_others : i < length others = omega (arith, long, lt) in
        get_or-map (λ (pair : Cell × Cell). join_cells pair.0 pair.1) pairs i (Undef, Undef) Undef in_pairs
        ∙ ap (λ (pair : Cell × Cell). join_cells pair.0 pair.1) (get_or-zip cells others i (Undef, Undef) lt in_others)
    by_place (inr past) =
        let past_all : length (joined_cells cells others) ≤ i = omega (arith, length-joined cells others long, past) in
        let past_others : length others ≤ i = omega (arith, long, past) in
        get_or-eq_default (joined_cells cells others) Undef past_all
        ∙ sym (ap (λ c. join_cells c (cell_at others i)) (get_or-eq_default cells Undef past) ∙ ap (λ c. join_cells Undef c) (get_or-eq_default others Undef past_others))

-- whether any register of a state changed
pub tells_any : (s : State) (a' b' c' : Kind) (a b c : Bool) → ReportsChange a s.a a' → ReportsChange b s.b b' → ReportsChange c s.c c'
    → ReportsChange (a || b || c) s (record s { a = a'; b = b'; c = c' })
tells_any s a' b' c' true b c ha hb hc = record { stays = λ e. absurd (cc); moves = λ e all. ha.moves refl (ap (λ t. t.a) all) }
tells_any s a' b' c' false true c ha hb hc = record { stays = λ e. absurd (cc); moves = λ e all. hb.moves refl (ap (λ t. t.b) all) }
tells_any s a' b' c' false false true ha hb hc = record { stays = λ e. absurd (cc); moves = λ e all. hc.moves refl (ap (λ t. t.c) all) }
tells_any s a' b' c' false false false ha hb hc = record { stays = λ e. rw (ha.stays refl, hb.stays refl, hc.stays refl) refl; moves = λ e. absurd (cc) }

-- whether any part of a state changed
pub tells_either : (s : State) (a' b' c' : Kind) (cells' : List Cell) (registers cells : Bool) → ReportsChange cells s.cells cells'
    → ReportsChange registers (record s { cells = cells' }) (record s { a = a'; b = b'; c = c'; cells = cells' })
    → ReportsChange (registers || cells) s (record s { a = a'; b = b'; c = c'; cells = cells' })
tells_either s a' b' c' cells' true cells h hr = record {
  stays = λ e. absurd (cc);
  moves = λ e all.
      let alike : cells' ≡ s.cells = ap (λ t. t.cells) all in
      hr.moves refl (all ∙ ap (λ words. let t : State = record s { cells = words } in t) (sym alike));
}
tells_either s a' b' c' cells' false true h hr = record { stays = λ e. absurd (cc); moves = λ e all. h.moves refl (ap (λ t. t.cells) all) }
tells_either s a' b' c' cells' false false h hr = record {
  stays = λ e. hr.stays refl ∙ ap (λ words. let t : State = record s { cells = words } in t) (h.stays refl);
  moves = λ e. absurd (cc);
}
