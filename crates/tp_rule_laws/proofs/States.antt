-- States that are below others, and what the rules make of both.
use Rattle.std.proofs.Common.{◌≡◌, ℕ, suc, ◌+◌, ◌-◌, ◌<◌, ◌≤◌, ◌⊎◌, inl, inr, Bool, true, IsTrue, List, [], ◌∷◌, map}
use Rattle.std.proofs.Common.{replicate, length, drop, length-take, length-drop, slice_set, length-set, get_or-set_same}
use Rattle.std.proofs.Common.{get_or-set_other, refl, sym, ap, ◌∙◌, rules, arith}
use Rattle.std.specs.List.{list_all}
use Rattle.std.proofs.lemmas.Bool.{cases_lt, cases_eq}
use Rattle.std.proofs.lemmas.List.{get_or_past}
use Rattle.tp_image.specs.declared.image.LoopRow.{LoopRow}
use Rattle.tp_flow.specs.declared.edge.Edge.{Edge}
use Rattle.tp_flow.specs.declared.edge.Edge.TheVariants.{Next, Taken, Back, Out}
use Rattle.tp_state.specs.declared.kind.Kind.{Kind}
use Rattle.tp_state.specs.declared.kind.Kind.TheVariants as kind
use Rattle.tp_state.specs.declared.cell.Cell.{Cell}
use Rattle.tp_state.specs.declared.cell.Cell.TheVariants as cell
use Rattle.tp_state.specs.declared.state.State.{State}
use Rattle.tp_state.specs.declared.fault.StateCode.TheVariants.{S5}
use Rattle.tp_state.specs.CellRules.{cell_at, cells_from, with_cells, is_free, are_free, are_defined, is_defined, written, blurred}
use Rattle.tp_state.specs.Order.{kind_below, cell_below, IsBelow}
use Rattle.tp_state.specs.Rules.{push, pop, pop_two, set_areg, replace_pair, no_registers, with_word, with_blurred, between, below_wptr, suspended, descheduled, with_block, leaving}
use Rattle.tp_state.proofs.CellLemmas.{cell_at-cells_from}
use Rattle.tp_state.proofs.CellOrder.{cell_below-self}
use Rattle.tp_state.proofs.StretchLemmas.{all_within}
use Rattle.tp_rule_laws.proofs.Follows.{Follows, tested}
use Rattle.tp_rule_laws.proofs.Asked.{IsNarrower, IsPart}
use Rattle.tp_rule_laws.proofs.Cells.{AreBelow, from_places, to_place, as_long, below_themselves, set_below, part_below}
use Rattle.tp_rule_laws.proofs.Cells.{replaced_below, all_below, free_goes, defined_goes, blurred_below, blurred_more}
use Rattle.tp_rule_laws.proofs.Cells.{written_below, written_blurred, blur_out, blur_in, blur_long}

pub cells_of : (s t : State) → IsBelow s t → AreBelow s.cells t.cells
cells_of s t h = from_places s.cells t.cells h.sized h.cells

module _ (s t : State) (h : IsBelow s t) where
  -- other registers
  pub registers : (a b c d e f : Kind) → IsTrue (kind_below a d) → IsTrue (kind_below b e) → IsTrue (kind_below c f) → IsBelow (record s { a = a; b = b; c = c }) (record t { a = d; b = e; c = f })
  registers a b c d e f in_a in_b in_c = record { wptr = h.wptr; phase = h.phase; a = in_a; b = in_b; c = in_c; sized = h.sized; cells = h.cells }

  -- other words
  pub new_cells : (cs ds : List Cell) → AreBelow cs ds → IsBelow (record s { cells = cs }) (record t { cells = ds })
  new_cells cs ds g = record { wptr = h.wptr; phase = h.phase; a = h.a; b = h.b; c = h.c; sized = as_long cs ds g; cells = to_place cs ds g }

  pub in_phase : (p : ℕ) → IsBelow (record s { phase = p }) (record t { phase = p })
  in_phase p = record { wptr = h.wptr; phase = refl; a = h.a; b = h.b; c = h.c; sized = h.sized; cells = h.cells }

  pub in_frame : (x : ℕ) → IsBelow (record s { wptr = x }) (record t { wptr = x })
  in_frame x = record { wptr = refl; phase = h.phase; a = h.a; b = h.b; c = h.c; sized = h.sized; cells = h.cells }

  pub pushed : (k l : Kind) → IsTrue (kind_below k l) → IsBelow (push k s) (push l t)
  pushed k l e = registers k s.a s.b l t.a t.b e h.a h.b

  pub popped : IsBelow (pop s) (pop t)
  popped = registers s.b s.c kind.Undef t.b t.c kind.Undef h.b h.c (search rules)

  pub popped_two : IsBelow (pop_two s) (pop_two t)
  popped_two = registers s.c kind.Undef kind.Undef t.c kind.Undef kind.Undef h.c (search rules) (search rules)

  pub replaced : (k l : Kind) → IsTrue (kind_below k l) → IsBelow (set_areg k s) (set_areg l t)
  replaced k l e = registers k s.b s.c l t.b t.c e h.b h.c

  pub given : (k l : Kind) → IsTrue (kind_below k l) → IsBelow (replace_pair k s) (replace_pair l t)
  given k l e = registers k s.c kind.Undef l t.c kind.Undef e h.c (search rules)

  pub no_more_known : IsBelow (no_registers s) (no_registers t)
  no_more_known = registers kind.Undef kind.Undef kind.Undef kind.Undef kind.Undef kind.Undef (search rules) (search rules) (search rules)

  pub block_set : (row : LoopRow) (c d : Cell) → IsBelow (with_block row c d s) (with_block row c d t)
  block_set row c d =
      new_cells _ _ (set_below (row.control + 1) d d (cell_below-self d) _ _ (set_below row.control c c (cell_below-self c) s.cells t.cells (cells_of s t h)))

  pub left : (edge : Edge) (row : LoopRow) → IsBelow (leaving edge row s) (leaving edge row t)
  left Out row = block_set row cell.Undef cell.Undef
  left Next row = h
  left Taken row = h
  left Back row = h

  -- tests of words
  pub free_from : (x n : ℕ) → are_free (cells_from t.cells x n) ≡ true → are_free (cells_from s.cells x n) ≡ true
  free_from x n e = all_below is_free free_goes _ _ (part_below x n s.cells t.cells (cells_of s t h)) e

  pub defined_from : (x n : ℕ) → are_defined (cells_from t.cells x n) ≡ true → are_defined (cells_from s.cells x n) ≡ true
  defined_from x n e = all_below is_defined defined_goes _ _ (part_below x n s.cells t.cells (cells_of s t h)) e

  five_words : AreBelow (with_cells s.cells (s.wptr - 5) (replicate 5 cell.Undef)) (with_cells t.cells (t.wptr - 5) (replicate 5 cell.Undef))
  five_words = rw h.wptr (replaced_below (t.wptr - 5) s.cells t.cells (replicate 5 cell.Undef) (replicate 5 cell.Undef) (cells_of s t h) (below_themselves (replicate 5 cell.Undef)))

  pub way_given : IsBelow (suspended s) (suspended t)
  way_given = record {
    wptr = h.wptr;
    phase = h.phase;
    a = search rules;
    b = search rules;
    c = search rules;
    sized = as_long (suspended s).cells (suspended t).cells five_words;
    cells = to_place (suspended s).cells (suspended t).cells five_words;
  }

  pub gives_way : Follows IsBelow (descheduled s) (descheduled t)
  unfolding descheduled
  gives_way = tested IsBelow S5 (are_free (below_wptr s)) (are_free (below_wptr t)) _ _ same (λ _. way_given)
    where
      same : are_free (below_wptr t) ≡ true → are_free (below_wptr s) ≡ true
      same e = rw h.wptr (free_from (t.wptr - 5) 5 e)

few_from : (cells : List Cell) (x n i : ℕ) → i < length (cells_from cells x n) → i < n
unfolding cells_from
few_from cells x n i lt = omega (arith, lt, length-take n (drop x cells))

inside_from : (cells : List Cell) (x n i : ℕ) → i < length (cells_from cells x n) → x + i < length cells
unfolding cells_from
inside_from cells x n i lt = omega (arith, lt, length-take n (drop x cells), length-drop x cells)

list_all-from_places : (p : Cell → Bool) (cs : List Cell) → ((i : ℕ) → i < length cs → p (cell_at cs i) ≡ true) → list_all p cs ≡ true
list_all-from_places p [] all = refl
list_all-from_places p (c ∷ cs) all = rw (all 0 (omega arith), list_all-from_places p cs (λ i lt. all (suc i) (omega (arith, lt)))) refl

-- some of the words of some words
pub part_all : (p : Cell → Bool) → ((c d : Cell) → IsTrue (cell_below c d) → p d ≡ true → p c ≡ true) → (s t : State) →
    IsBelow s t → (w v : ℕ × ℕ) → IsPart w v → list_all p (between t.cells v) ≡ true →
    list_all p (between s.cells w) ≡ true
unfolding between
part_all p goes s t h w v is e =
    list_all-from_places p (cells_from s.cells w.0 (w.1 + 1 - w.0)) λ i lt.
    let l = is.low in let o = is.ordered in let hi = is.high in let sized = h.sized in
    let few : i < w.1 + 1 - w.0 = few_from s.cells w.0 (w.1 + 1 - w.0) i lt in
    let inside : w.0 + i < length s.cells = inside_from s.cells w.0 (w.1 + 1 - w.0) i lt in
    let there : p (cell_at t.cells (w.0 + i)) ≡ true = all_within p t.cells v.0 (v.1 + 1 - v.0) (w.0 + i) e (omega arith) (omega arith) (omega arith) in
    ap p (cell_at-cells_from s.cells w.0 (w.1 + 1 - w.0) i few) ∙ goes (cell_at s.cells (w.0 + i)) (cell_at t.cells (w.0 + i)) (h.cells (w.0 + i)) there

-- ---- stores

-- one word takes a kind
pub stored : (s t : State) → IsBelow s t → (x : ℕ) (k l : Kind) → IsNarrower k l → is_defined (written l) ≡ true → IsBelow (with_word x k s) (with_word x l t)
stored s t h x k l n there = new_cells s t h _ _ (set_below x (written k) (written l) (written_below k l n.below n.range there) s.cells t.cells (cells_of s t h))

module _ (s t : State) (h : IsBelow s t) (w v : ℕ × ℕ) (is : IsPart w v) where
  long_blurred : (cells : List Cell) (w : ℕ × ℕ) → length (with_cells cells w.0 (map blurred (between cells w))) ≡ length cells
  unfolding between
  long_blurred cells w = blur_long cells w.0 (w.1 + 1 - w.0)

  at_out : (cells : List Cell) (w : ℕ × ℕ) → w.0 ≤ w.1 → (i : ℕ) → i < length cells → (i < w.0) ⊎ (w.1 < i) → cell_at (with_cells cells w.0 (map blurred (between cells w))) i ≡ cell_at cells i
  unfolding between
  at_out cells w le i lt (inl below) = blur_out cells w.0 (w.1 + 1 - w.0) i lt (inl below)
  at_out cells w le i lt (inr above) = blur_out cells w.0 (w.1 + 1 - w.0) i lt (inr (omega arith))

  at_in : (cells : List Cell) (w : ℕ × ℕ) → w.0 ≤ w.1 → (i : ℕ) → i < length cells → w.0 ≤ i → i ≤ w.1 → cell_at (with_cells cells w.0 (map blurred (between cells w))) i ≡ blurred (cell_at cells i)
  unfolding between
  at_in cells w le i lt low high = blur_in cells w.0 (w.1 + 1 - w.0) i lt low (omega arith)

  v_up : v.0 ≤ v.1
  v_up = let l = is.low in let o = is.ordered in let hi = is.high in omega arith

  -- a part of some words may have taken something
  pub blurs : IsBelow (with_blurred w s) (with_blurred v t)
  blurs = record {
    wptr = h.wptr;
    phase = h.phase;
    a = h.a;
    b = h.b;
    c = h.c;
    sized = long_blurred s.cells w ∙ h.sized ∙ sym (long_blurred t.cells v);
    cells = λ i. by_place i (cases_lt i (length s.cells));
  }
    where
      at : (i : ℕ) → i < length s.cells → i < length t.cells → (i < v.0) ⊎ (v.0 ≤ i) → (v.1 < i) ⊎ (i ≤ v.1) →
          (i < w.0) ⊎ (w.0 ≤ i) → (w.1 < i) ⊎ (i ≤ w.1) → IsTrue
          (cell_below (cell_at (with_blurred w s).cells i) (cell_at (with_blurred v t).cells i))
      at i in_s in_t (inl below) _ _ _ = let l = is.low in rw (at_out s.cells w is.ordered i in_s (inl (omega arith)), at_out t.cells v v_up i in_t (inl below)) (h.cells i)
      at i in_s in_t (inr low) (inl above) _ _ = let hi = is.high in rw (at_out s.cells w is.ordered i in_s (inr (omega arith)), at_out t.cells v v_up i in_t (inr above)) (h.cells i)
      at i in_s in_t (inr low) (inr high) (inl below) _ = rw
          (at_out s.cells w is.ordered i in_s (inl below), at_in t.cells v v_up i in_t low high)
          (blurred_more (cell_at s.cells i) (cell_at t.cells i) (h.cells i))
      at i in_s in_t (inr low) (inr high) (inr from) (inl above) =
          rw (at_out s.cells w is.ordered i in_s (inr above), at_in t.cells v v_up i in_t low high)
          (blurred_more (cell_at s.cells i) (cell_at t.cells i) (h.cells i))
      at i in_s in_t (inr low) (inr high) (inr from) (inr to) =
          rw (at_in s.cells w is.ordered i in_s from to, at_in t.cells v v_up i in_t low high)
          (blurred_below (cell_at s.cells i) (cell_at t.cells i) (h.cells i))

      by_place : (i : ℕ) → (i < length s.cells) ⊎ (length s.cells ≤ i) → IsTrue (cell_below (cell_at (with_blurred w s).cells i) (cell_at (with_blurred v t).cells i))
      by_place i (inl lt) = let sized = h.sized in at i lt (omega arith) (cases_lt i v.0) (cases_lt v.1 i) (cases_lt i w.0) (cases_lt w.1 i)
      by_place i (inr past) =
          let sized = h.sized in
          rw (
            get_or_past (with_blurred w s).cells i cell.Undef (omega (arith, long_blurred s.cells w)),
            get_or_past (with_blurred v t).cells i cell.Undef (omega (arith, long_blurred t.cells v)),
          ) (search rules)

  is_free_at : are_free (between t.cells v) ≡ true → (j : ℕ) → v.0 ≤ j → j ≤ v.1 → j < length t.cells → is_free (cell_at t.cells j) ≡ true
  unfolding between
  is_free_at free j low high lt = all_within is_free t.cells v.0 (v.1 + 1 - v.0) j free low (omega arith) lt

  -- one of some words takes a kind
  pub one_of_them : (k : Kind) → is_defined (written k) ≡ true → are_free (between t.cells v) ≡ true → IsBelow (with_word w.0 k s) (with_blurred v t)
  one_of_them k there free = record {
    wptr = h.wptr;
    phase = h.phase;
    a = h.a;
    b = h.b;
    c = h.c;
    sized = length-set s.cells w.0 (written k) ∙ h.sized ∙ sym (long_blurred t.cells v);
    cells = λ i. by_place i (cases_lt i (length s.cells));
  }
    where
      at : (i : ℕ) → i < length s.cells → i < length t.cells → (i < v.0) ⊎ (v.0 ≤ i) → (v.1 < i) ⊎ (i ≤ v.1) →
          (i ≡ w.0) ⊎ (i ≡ w.0 → ⊥) → IsTrue (cell_below (cell_at (slice_set s.cells w.0 (written k)) i)
          (cell_at (with_blurred v t).cells i))
      at i in_s in_t (inl below) _ _ = let l = is.low in rw (get_or-set_other s.cells w.0 i (written k) cell.Undef (λ e. omega (arith, e)), at_out t.cells v v_up i in_t (inl below)) (h.cells i)
      at i in_s in_t (inr low) (inl above) _ = let o = is.ordered in let hi = is.high in
          rw (
            get_or-set_other s.cells w.0 i (written k) cell.Undef (λ e. omega (arith, e)),
            at_out t.cells v v_up i in_t (inr above),
          ) (h.cells i)
      at i in_s in_t (inr low) (inr high) (inr other) = rw
          (get_or-set_other s.cells w.0 i (written k) cell.Undef other, at_in t.cells v v_up i in_t low high)
          (blurred_more (cell_at s.cells i) (cell_at t.cells i) (h.cells i))
      at i in_s in_t (inr low) (inr high) (inl same) =
          rw (at_in t.cells v v_up i in_t low high, ap (cell_at (slice_set s.cells w.0 (written k))) same, get_or-set_same s.cells w.0 (written k) cell.Undef (omega arith))
          (written_blurred k (cell_at s.cells i) (cell_at t.cells i) there (is_free_at free i low high in_t))

      by_place : (i : ℕ) → (i < length s.cells) ⊎ (length s.cells ≤ i) → IsTrue (cell_below (cell_at (slice_set s.cells w.0 (written k)) i) (cell_at (with_blurred v t).cells i))
      by_place i (inl lt) = let sized = h.sized in at i lt (omega arith) (cases_lt i v.0) (cases_lt v.1 i) (cases_eq i w.0)
      by_place i (inr past) =
          let sized = h.sized in
          rw (
            get_or_past (slice_set s.cells w.0 (written k)) i cell.Undef
                (omega (arith, length-set s.cells w.0 (written k))),
            get_or_past (with_blurred v t).cells i cell.Undef (omega (arith, long_blurred t.cells v)),
          ) (search rules)
