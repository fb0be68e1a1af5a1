-- The live control words after an instruction.
use Rattle.std.proofs.Common.{◌≡◌, ℕ, ◌+◌, ◌<◌, ◌≤◌, ◌⊎◌, inl, inr, Bool, true, false, ◌&&◌, if◌then◌else◌, pos, ℤ}
use Rattle.std.proofs.Common.{◌-ℤ◌, List, length, slice_get, Option, Some, None, Result, Ok, IfOk, zero, suc, ◌-◌, []}
use Rattle.std.proofs.Common.{◌∷◌, map, replicate, All, refl, sym, ap, ◌∙◌, subst, arith}
use Rattle.std.specs.Option.{option_and_then}
use Rattle.std.proofs.lemmas.Bool.{cases_lt, and_parts}
use Rattle.std.proofs.lemmas.List.Elements.{All-nil, All-cons, All-append}
use Rattle.tp_words.specs.Words.{signed}
use Rattle.tp_state.specs.Entry.{first_cells}
use Rattle.std.proofs.lemmas.List.{get_or_past}
use Rattle.tp_decode.specs.declared.instr.Instr.{Instr}
use Rattle.tp_decode.specs.declared.instr.Instr.TheVariants.{Jump, Cj, Stopp, Lend}
use Rattle.tp_image.specs.declared.image.LoopRow.{LoopRow}
use Rattle.tp_image.specs.Image.{ImageValue}
use Rattle.tp_flow.specs.declared.edge.Edge.{Edge}
use Rattle.tp_flow.specs.declared.edge.Edge.TheVariants.{Next, Taken, Back, Out}
use Rattle.tp_flow.specs.NestRanges.{ranges, number_ended_at}
use Rattle.tp_flow.specs.Edges.{target, has_edge, goes_to}
use Rattle.tp_flow.specs.LoopsAround.{is_around, IsOutside, entered_by, left_by, without, along_with, around_after}
use Rattle.tp_flow.specs.AroundKept.{KeepsAround}
use Rattle.tp_state.specs.declared.cell.Cell.{Cell}
use Rattle.tp_state.specs.declared.cell.Cell.TheVariants as cell
use Rattle.tp_state.specs.declared.state.State.{State}
use Rattle.tp_state.specs.declared.fault.StateCode.TheVariants.{S5}
use Rattle.tp_state.specs.Answer.{found}
use Rattle.tp_state.specs.Conditions.{IsPlaced}
use Rattle.tp_state.specs.Kinds.{known, number, pointer, points_at, is_exactly}
use Rattle.tp_state.specs.CellRules.{cell_at, is_free}
use Rattle.tp_state.specs.Rules.{rule, descheduled, row_ended_at, with_block}
use Rattle.tp_state.specs.After.{after, entering, is_known}
use Rattle.tp_state.specs.Live.{LiveWordsAre}
use Rattle.tp_state.proofs.Passing.{true_false, through, past, held, found_is, same_Ok}
use Rattle.tp_state.proofs.LiveCells.{KeepsLive}
use Rattle.tp_state.proofs.LiveRules.{Stays, rule_keeps, descheduled_keeps}
use Rattle.tp_state.proofs.LiveLoops.{is_inside, live_kept, live_alike, live_left, live_entered}

if_ok : {A E : Type 0} (P : A → Type 0) (r : Result A E) (x : A) → r ≡ Ok x → IfOk r P → P x
if_ok P r x e h = subst (λ r. IfOk r P) e h

-- ---- a loop is left

-- a lend's loop, and what is known where it is left
record IsLeft (image : ImageValue) (at : ℕ) (t u : State) : Type 0 where
  pub number : ℕ
  pub row : LoopRow
  pub ended : number_ended_at (ranges image.loops) at ≡ Some number
  pub row_is : slice_get image.loops number ≡ Some row
  pub rest : State
  pub rests : descheduled t ≡ Ok rest
  pub is : with_block row cell.Undef cell.Undef rest ≡ u

numbered : (image : ImageValue) (at : ℕ) (row : LoopRow) → row_ended_at image at ≡ Some row → (l : ℕ) × (number_ended_at (ranges image.loops) at ≡ Some l) × (slice_get image.loops l ≡ Some row)
unfolding row_ended_at
numbered image at row e = by_number (number_ended_at (ranges image.loops) at) refl e
  where
    by_number : (o : Option ℕ) → number_ended_at (ranges image.loops) at ≡ o →
        option_and_then (slice_get image.loops) o ≡ Some row → (l : ℕ) ×
        (number_ended_at (ranges image.loops) at ≡ Some l) × (slice_get image.loops l ≡ Some row)
    by_number None is e = cc
    by_number (Some l) is e = (l, is, e)

left_is : (image : ImageValue) (at next : ℕ) (t u : State) → rule image at next Lend Out t ≡ Ok u → IsLeft image at t u
unfolding rule
left_is image at next t u ok =
    past (known t.a) _ u ok λ ok.
    past (known t.b) _ u ok λ ok.
    past (number t.a) _ u ok λ ok.
    past (pointer t.b) _ u ok λ ok.
    through (found S5 (row_ended_at image at)) _ u ok λ row is_found ok.
    held S5 (points_at row.control t.b && is_exactly (pos next -ℤ pos row.head) t.a) _ u ok λ tests ok.
    through (descheduled t) _ u ok λ rest rests ok.
    let its = numbered image at row (found_is S5 _ row is_found) in
    record { number = its.0; row = row; ended = its.1; row_is = its.2; rest = rest; rests = rests; is = same_Ok _ _ ok }

out_is_lend : (instr : Instr) → has_edge instr Out ≡ true → instr ≡ Lend
out_is_lend Lend e = refl
out_is_lend (Jump n) e = cc
out_is_lend (Cj n) e = cc
out_is_lend Stopp e = cc
out_is_lend instr e = cc

has_it : (nest : List _) (at next : ℕ) (instr : Instr) (edge : Edge) (to : ℕ) → target nest at next instr edge ≡ Some to → has_edge instr edge ≡ true
has_it nest at next instr edge to e = by_test (has_edge instr edge) e
  where
    by_test : (b : Bool) → (if b then goes_to nest at next instr edge else None) ≡ Some to → b ≡ true
    by_test true e = refl
    by_test false e = cc

module _ (image : ImageValue) (at next : ℕ) (t : State) (placed : IsPlaced image t) (f : LiveWordsAre image.loops (is_around (ranges image.loops) at) t.cells) where
  stays_live : (instr : Instr) (edge : Edge) (u : State) → Stays edge instr → rule image at next instr edge t ≡ Ok u → LiveWordsAre image.loops (is_around (ranges image.loops) at) u.cells
  stays_live instr edge u stays ok =
      live_kept image.loops _ t.cells u.cells (if_ok (λ u. KeepsLive t.cells u.cells) _ u ok (rule_keeps image t placed at next instr edge stays)) f

  leaves_live : (u : State) → KeepsAround image.loops image.workspace at next Lend → IsLeft image at t u →
      LiveWordsAre image.loops (without (number_ended_at (ranges image.loops) at) (is_around (ranges image.loops) at))
      u.cells
  leaves_live u kept left =
      let own = (kept.ends left.number left.row left.ended left.row_is).around in
      let keeps = if_ok (λ u. KeepsLive t.cells u.cells) _ left.rest left.rests (descheduled_keeps t placed.roomy (omega (arith, placed.inside, placed.sized))) in
      let g = live_kept image.loops _ t.cells left.rest.cells keeps f in
      let h = live_left image.loops (is_around (ranges image.loops) at) left.rest.cells left.number left.row left.row_is own g in
      subst (λ u. LiveWordsAre image.loops (without (number_ended_at (ranges image.loops) at) (is_around (ranges image.loops) at)) u.cells) left.is
      (subst (λ o. LiveWordsAre image.loops (without o (is_around (ranges image.loops) at)) (with_block left.row cell.Undef cell.Undef left.rest).cells) (sym left.ended) h)

  ruled_live : (instr : Instr) (edge : Edge) (u : State) → KeepsAround image.loops image.workspace at next instr →
      has_edge instr edge ≡ true → rule image at next instr edge t ≡ Ok u →
      LiveWordsAre image.loops (without (left_by (ranges image.loops) at edge) (is_around (ranges image.loops) at))
      u.cells
  ruled_live instr Next u kept has ok = stays_live instr Next u tt ok
  ruled_live instr Taken u kept has ok = stays_live instr Taken u tt ok
  ruled_live instr Back u kept has ok = stays_live instr Back u tt ok
  ruled_live instr Out u kept has ok =
      let is = out_is_lend instr has in
      leaves_live u (subst (KeepsAround image.loops image.workspace at next) is kept) (left_is image at next t u (subst (λ i. rule image at next i Out t ≡ Ok u) is ok))

-- ---- a loop is entered

known_free : (n : ℤ) (c : Cell) → is_known n c ≡ true → is_free c ≡ true
known_free n cell.Undef e = cc
known_free n cell.Any e = cc
known_free n (cell.Known m) e = refl
known_free n (cell.Index l) e = cc
known_free n (cell.Count l) e = cc

known_there : (n : ℤ) (c : Cell) → is_known n c ≡ true → c ≡ cell.Undef → ⊥
known_there n c e u = true_false' (sym e ∙ ap (is_known n) u)
  where
    true_false' : true ≡ false → ⊥
    true_false' e = cc

entered_live : (rows : List LoopRow) (around : ℕ → Bool) (o : Option ℕ) (t u : State) → LiveWordsAre rows around t.cells → entering rows o t ≡ Ok u → LiveWordsAre rows (along_with o around) u.cells
unfolding entering
entered_live rows around None t u f ok = subst (λ u. LiveWordsAre rows around u.cells) (same_Ok _ _ ok) f
entered_live rows around (Some l) t u f ok =
    through (found S5 (slice_get rows l)) _ u ok λ row is_found ok.
    held S5 (is_known row.start (cell_at t.cells row.control) && is_known (pos row.count) (cell_at t.cells (row.control + 1))) _ u ok λ tests ok.
    let parts = and_parts (is_known row.start (cell_at t.cells row.control)) (is_known (pos row.count) (cell_at t.cells (row.control + 1))) tests in
    let room = is_inside t.cells (row.control + 1) (known_there (pos row.count) _ parts.1) in
    subst (λ u. LiveWordsAre rows (along_with (Some l) around) u.cells) (same_Ok _ _ ok)
    (live_entered rows around t.cells l row (found_is S5 _ row is_found) room (known_free row.start _ parts.0) (known_free (pos row.count) _ parts.1) f)

-- ---- the whole

pub live_after : (image : ImageValue) (at next : ℕ) (instr : Instr) (edge : Edge) (to : ℕ) (t u : State) →
    KeepsAround image.loops image.workspace at next instr → IsPlaced image t →
    LiveWordsAre image.loops (is_around (ranges image.loops) at) t.cells →
    target (ranges image.loops) at next instr edge ≡ Some to → after image at next instr edge t ≡ Ok u →
    LiveWordsAre image.loops (is_around (ranges image.loops) to) u.cells
unfolding after
live_after image at next instr edge to t u kept placed f leads ok =
    through (rule image at next instr edge t) _ u ok λ t' is_ruled enters.
    let has = has_it (ranges image.loops) at next instr edge to leads in
    let g = ruled_live image at next t placed f instr edge t' kept has is_ruled in
    let enters' = subst (λ o. entering image.loops (option_and_then (entered_by (ranges image.loops) at) o) t' ≡ Ok u) leads enters in
    live_alike image.loops (around_after (ranges image.loops) at edge to) (is_around (ranges image.loops) to) u.cells (kept.moves edge to leads)
    (entered_live image.loops (without (left_by (ranges image.loops) at edge) (is_around (ranges image.loops) at)) (entered_by (ranges image.loops) at to) t' u g enters')

-- ---- the first state

-- cells that are all free
all_free : (cells : List Cell) → All (λ c. is_free c ≡ true) cells → (x : ℕ) → is_free (cell_at cells x) ≡ true
all_free cells all x = by_place (cases_lt x (length cells))
  where
    by_place : (x < length cells) ⊎ (length cells ≤ x) → is_free (cell_at cells x) ≡ true
    by_place (inl lt) = all x cell.Undef lt
    by_place (inr past) = ap is_free (get_or_past cells x cell.Undef past)

all_known : (words : List ℕ) → All (λ c. is_free c ≡ true) (map (λ word. cell.Known (signed word)) words)
all_known [] = All-nil (λ c. is_free c ≡ true)
all_known (w ∷ words) = All-cons (λ c. is_free c ≡ true) (cell.Known (signed w)) (map (λ word. cell.Known (signed word)) words) refl (all_known words)

all_zero : (n : ℕ) → All (λ c. is_free c ≡ true) (replicate n (cell.Known (pos 0)))
all_zero zero = All-nil (λ c. is_free c ≡ true)
all_zero (suc n) = All-cons (λ c. is_free c ≡ true) (cell.Known (pos 0)) (replicate n (cell.Known (pos 0))) refl (all_zero n)

pub none_live : (image : ImageValue) → IsOutside (ranges image.loops) 0 → LiveWordsAre image.loops (is_around (ranges image.loops) 0) (first_cells image)
none_live image outside =
    let zeros = replicate (image.workspace - length image.initial) (cell.Known (pos 0)) in
    let free = all_free (first_cells image) (All-append (λ c. is_free c ≡ true)
    (map (λ word. cell.Known (signed word)) image.initial) zeros (all_known image.initial)
    (all_zero (image.workspace - length image.initial))) in
    record {
      live = λ l row is row_is. true_false (sym is ∙ outside l);
      only = λ x is. true_false (sym (free x) ∙ is);
    }
