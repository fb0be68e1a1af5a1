-- The costs of a code meet the equations, and nothing else does.
use Rattle.std.proofs.Common.{◌≡◌, ℕ, zero, suc, ◌+◌, ◌-◌, ◌*◌, ◌<◌, ◌≤◌, max, Bool, true, false, ◌&&◌, not, nat_eq}
use Rattle.std.proofs.Common.{nat_lt, ◌==◌, cond, if◌then◌else◌, ℤ, List, [], ◌∷◌, length, find, Option, Some, None}
use Rattle.std.proofs.Common.{refl, ap, sym, ◌∙◌, arith, length-append}
use Rattle.std.specs.Option.{option_and_then}
use Rattle.std.proofs.lemmas.Bool.Decides.{nat_tests}
use Rattle.tp_image.specs.declared.image.LoopRow.{LoopRow}
use Rattle.tp_decode.specs.declared.instr.Instr.{Instr}
use Rattle.tp_decode.specs.declared.instr.Instr.TheVariants.{Jump, Cj, Lend, Stopp}
use Rattle.tp_decode.specs.Cutting.{Cut, cut_at, code_of}
use Rattle.tp_flow.specs.declared.edge.Edge.TheVariants.{Next, Taken, Out}
use Rattle.tp_flow.specs.NestRanges.{range_of, ranges, contains}
use Rattle.tp_flow.specs.Edges.{has_edge, jump_operand, jump_target}
use Rattle.tp_flow.specs.RowRules.{is_start, is_lend}
use Rattle.tp_flow.specs.NestKept.{IsEdge, KeepsNest}
use Rattle.tp_flow.proofs.FlowSpelled.{some_bytes}
use Rattle.tp_accept.specs.Bound.{Costs, whole_at, left_of, behind, begun_at, whole_of, costs_of, bound}
use Rattle.tp_accept.specs.Equations.{seen_from, entered_at, AreCosts}
use Rattle.tp_accept.proofs.LookedUp.{behind_is, found, lend_cut}
use Rattle.tp_accept.proofs.MeasureDrops.{loop_of, cost_at, left_at, first_is_bound, some_is, operand_taken}

-- the test of a loop that begins further on
no_further : (row : LoopRow) (at to : ℕ) → at < to → ((row.head == to) && not (contains (range_of row) at)) ≡ (row.head == to)
no_further row at to lt = by_test (nat_eq row.head to) refl
  where
    by_test : (b : Bool) → nat_eq row.head to ≡ b → (b && not (contains (range_of row) at)) ≡ b
    by_test true e =
        let here : row.head ≡ to = grind (arith, nat_tests) in
        let after : at < row.head = omega arith in
        let out : contains (range_of row) at ≡ false = grind (arith, nat_tests) in
        ap not out
    by_test false e = refl

-- tests that agree find the same
found_same : (p q : LoopRow → Bool) (rows : List LoopRow) → ((row : LoopRow) → p row ≡ q row) → find p rows ≡ find q rows
found_same p q [] same = refl
found_same p q (row ∷ rows) same = ap (λ b. cond b (Some row) (find p rows)) (same row) ∙ ap (λ o. cond (q row) (Some row) o) (found_same p q rows same)

-- seen from before it, a loop that begins at an address is entered there
pub entered_begun : (rows : List LoopRow) (at to : ℕ) → at < to → entered_at rows at to ≡ begun_at rows to
entered_begun rows at to lt = found_same _ (λ row. row.head == to) rows (λ row. no_further row at to lt)

-- an instruction reads costs along its edges alone
same_edges : (f g : Costs) (n next : ℕ) (instr : Instr) →
    (has_edge instr Next ≡ true → (f next).whole ≡ (g next).whole) →
    ((operand : ℤ) (to : ℕ) → jump_operand instr ≡ Some operand → jump_target next operand ≡ Some to →
    (f to).whole ≡ (g to).whole) → left_of f n next instr ≡ left_of g n next instr
same_edges f g n next Stopp on jumps = refl
same_edges f g n next Lend on jumps = refl
same_edges f g n next (Jump operand) on jumps = ap (λ x. n + x) (by_case (jump_target next operand) refl)
  where
    by_case : (o : Option ℕ) → jump_target next operand ≡ o → whole_at f o ≡ whole_at g o
    by_case None e = refl
    by_case (Some to) e = jumps operand to refl e
same_edges f g n next (Cj operand) on jumps = ap (λ x. n + max x (whole_at f (jump_target next operand))) (on refl) ∙
    ap (λ x. n + max (whole_at g (Some next)) x) (by_case (jump_target next operand) refl)
  where
    by_case : (o : Option ℕ) → jump_target next operand ≡ o → whole_at f o ≡ whole_at g o
    by_case None e = refl
    by_case (Some to) e = jumps operand to refl e
same_edges f g n next instr on jumps = ap (λ x. n + x) (on refl)

-- an instruction ends within the code
start_below : (cuts : List Cut) (at : ℕ) (cut : Cut) → cut_at cuts at ≡ Some cut → at + length cut.bytes ≤ length (code_of cuts)
start_below [] at cut is = absurd cc
start_below (c ∷ cuts) at cut is = by_test (start_below cuts (at - length c.bytes) cut) (nat_eq at 0) refl (nat_lt at (length c.bytes)) refl is
  where
    by_test : (cut_at cuts (at - length c.bytes) ≡ Some cut →
        at - length c.bytes + length cut.bytes ≤ length (code_of cuts)) → (p : Bool) → nat_eq at 0 ≡ p → (q : Bool) →
        nat_lt at (length c.bytes) ≡ q → (if p then Some c else if q then None else cut_at cuts (at - length c.bytes)) ≡
        Some cut → at + length cut.bytes ≤ length (code_of (c ∷ cuts))
    by_test go true e1 q e2 is =
        let same : c ≡ cut = cc in
        let none : at ≡ 0 = grind (arith, nat_tests) in
        omega (arith, ap (λ x. length x.bytes) same, length-append c.bytes (code_of cuts))
    by_test go false e1 true e2 is = absurd cc
    by_test go false e1 false e2 is =
        let past : length c.bytes ≤ at = grind (arith, nat_tests) in omega (arith, go is, length-append c.bytes (code_of cuts))

-- a lend has an Out edge
lend_out : (instr : Instr) → is_lend instr ≡ true → has_edge instr Out ≡ true
lend_out Lend is = refl
lend_out instr is = absurd cc

module _ (rows : List LoopRow) (workspace : ℕ) (code : List Cut) (nest : KeepsNest rows workspace code) where
  -- they meet the equations
  pub meet : AreCosts rows code (λ at. (costs_of rows code at).left) (λ at to. (costs_of rows code to).whole)
  meet = record {
    each = λ at cut stands. left_at rows workspace code nest at cut stands;
    seen = λ at to lt starts.
        let cut = some_is (cut_at code to) starts in
        ap (λ c. c.whole) (cost_at rows workspace code nest to cut.0 cut.1)
        ∙ ap (λ l. whole_of code (costs_of rows code) l (begun_at rows to)) (sym (left_at rows workspace code nest to cut.0 cut.1))
        ∙ ap (whole_of code (costs_of rows code) (costs_of rows code to).left) (sym (entered_begun rows at to lt));
  }

  -- where edges go
  edge_next : (at : ℕ) (cut : Cut) → cut_at code at ≡ Some cut → has_edge cut.instr Next ≡ true → is_start code (at + length cut.bytes) ≡ true
  edge_next at cut stands has =
      let edge : IsEdge (ranges rows) code at Next (at + length cut.bytes) =
      record { cut = cut; stands = stands; goes = ap (λ b. cond b (Some (at + length cut.bytes)) None) has }
      in
      nest.starts at (at + length cut.bytes) Next edge

  edge_out : (at : ℕ) (cut : Cut) → cut_at code at ≡ Some cut → has_edge cut.instr Out ≡ true → is_start code (at + length cut.bytes) ≡ true
  edge_out at cut stands has =
      let edge : IsEdge (ranges rows) code at Out (at + length cut.bytes) =
      record { cut = cut; stands = stands; goes = ap (λ b. cond b (Some (at + length cut.bytes)) None) has }
      in
      nest.starts at (at + length cut.bytes) Out edge

  edge_taken : (at : ℕ) (cut : Cut) (operand : ℤ) (to : ℕ) → cut_at code at ≡ Some cut →
      jump_operand cut.instr ≡ Some operand → jump_target (at + length cut.bytes) operand ≡ Some to →
      (is_start code to ≡ true) × (at + length cut.bytes ≤ to)
  edge_taken at cut operand to stands is goes =
      let has = operand_taken cut.instr operand is in
      let edge : IsEdge (ranges rows) code at Taken to =
      record {
        cut = cut;
        stands = stands;
        goes = ap (λ b. cond b (option_and_then (jump_target (at + length cut.bytes)) (jump_operand cut.instr)) None) has ∙ ap (option_and_then (jump_target (at + length cut.bytes))) is ∙ goes;
      }
      in
      (nest.starts at to Taken edge, nest.forward at to Taken edge (λ e. absurd cc))

  -- nothing else does
  module _ (L : ℕ → ℕ) (V : ℕ → ℕ → ℕ) (are : AreCosts rows code L V) where
    Alike : ℕ → Type 0
    Alike to = (L to ≡ (costs_of rows code to).left) × ((at : ℕ) → at < to → V at to ≡ (costs_of rows code to).whole)

    step : (k to : ℕ) → length (code_of code) ≤ to + suc k → is_start code to ≡ true → ((further : ℕ) → length (code_of code) ≤ further + k → is_start code further ≡ true → Alike further) → Alike to
    unfolding Alike
    step k to long starts rest = (left, λ at lt. whole at lt)
      where
        cut : (c : Cut) × (cut_at code to ≡ Some c)
        cut = some_is (cut_at code to) starts

        some : 0 < length cut.0.bytes
        some = some_bytes code to cut.0 nest.spelled cut.1

        on : has_edge cut.0.instr Next ≡ true → V to (to + length cut.0.bytes) ≡ (costs_of rows code (to + length cut.0.bytes)).whole
        on has = (rest (to + length cut.0.bytes) (omega (arith, some)) (edge_next to cut.0 cut.1 has)).1 to (omega (arith, some))

        jumps : (operand : ℤ) (target : ℕ) → jump_operand cut.0.instr ≡ Some operand → jump_target (to + length cut.0.bytes) operand ≡ Some target → V to target ≡ (costs_of rows code target).whole
        jumps operand target is goes =
            let taken = edge_taken to cut.0 operand target cut.1 is goes in
            (rest target (omega (arith, some, taken.1)) taken.0).1 to (omega (arith, some, taken.1))

        left : L to ≡ (costs_of rows code to).left
        left = are.each to cut.0 cut.1 ∙ same_edges (seen_from L V to) (costs_of rows code) (length cut.0.bytes)
            (to + length cut.0.bytes) cut.0.instr on jumps ∙ sym (left_at rows workspace code nest to cut.0 cut.1)

        by_case : (at : ℕ) → at < to → (o : Option LoopRow) → begun_at rows to ≡ o → whole_of code (seen_from L V at) (L to) o ≡ whole_of code (costs_of rows code) (costs_of rows code to).left o
        by_case at lt None is = left
        by_case at lt (Some row) is =
            let begun = found (λ (r : LoopRow). r.head == to) rows row is in
            let good = loop_of rows workspace code nest row begun.0 in
            let test : (row.head == to) ≡ true = begun.1 in
            let head : row.head ≡ to = grind (arith, nat_tests) in
            let body : row.head < row.lend = good.body in
            let lend = lend_cut (cut_at code row.lend) good.lend in
            let next = edge_out row.lend lend.0 lend.1 (lend_out lend.0.instr lend.2) in
            let there : behind code row.lend ≡ row.lend + length lend.0.bytes = behind_is code row.lend lend.0 lend.1 in
            let later = rest (behind code row.lend) (omega (arith, there)) (ap (is_start code) there ∙ next) in
            ap (λ l. row.count * l + V at (behind code row.lend)) left ∙ ap (λ v. row.count * (costs_of rows code to).left + v) (later.1 at (omega (arith, there)))

        whole : (at : ℕ) → at < to → V at to ≡ (costs_of rows code to).whole
        whole at lt =
            are.seen at to lt starts ∙ ap (whole_of code (seen_from L V at) (L to)) (entered_begun rows at to lt) ∙ by_case at lt (begun_at rows to) refl
            ∙ ap (whole_of code (costs_of rows code) (costs_of rows code to).left) (sym (entered_begun rows at to lt))
            ∙ sym (meet.seen at to lt starts)

    alike : (k to : ℕ) → length (code_of code) ≤ to + k → is_start code to ≡ true → Alike to
    alike zero to long starts =
        let cut = some_is (cut_at code to) starts in
        let some = some_bytes code to cut.0 nest.spelled cut.1 in
        absurd (omega (arith, start_below code to cut.0 cut.1))
    alike (suc k) to long starts = step k to long starts (alike k)

    -- so two solutions are one
    pub determined : (to : ℕ) → is_start code to ≡ true → (L to ≡ (costs_of rows code to).left) × ((at : ℕ) → at < to → V at to ≡ (costs_of rows code to).whole)
    unfolding Alike
    determined to starts = alike (length (code_of code)) to (omega arith) starts

    -- no loop begins at the first instruction, so its cost is the bound
    pub determined_bound : is_start code 0 ≡ true → L 0 ≡ bound rows code
    determined_bound starts = (determined 0 starts).0 ∙ first_is_bound rows workspace code nest starts
