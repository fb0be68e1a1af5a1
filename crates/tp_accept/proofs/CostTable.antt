-- The costs of a code meet their equations: the cost of each instruction is the one from the costs behind it.
use Rattle.std.proofs.Common.{◌≡◌, ◌≢◌, ℕ, ◌+◌, ◌-◌, ◌<◌, ◌≤◌, ◌*◌, Bool, true, false, nat_eq, nat_lt, cond}
use Rattle.std.proofs.Common.{if◌then◌else◌, max, ℤ, List, [], ◌∷◌, length, Option, Some, None, refl, ap, sym, ◌∙◌}
use Rattle.std.proofs.Common.{arith}
use Rattle.std.specs.List.{AllByRecursion}
use Rattle.std.proofs.lemmas.Bool.Decides.{nat_tests}
use Rattle.tp_image.specs.declared.image.LoopRow.{LoopRow}
use Rattle.tp_decode.specs.declared.instr.Instr.{Instr}
use Rattle.tp_decode.specs.declared.instr.Instr.TheVariants.{Jump, Cj, Lend, Stopp}
use Rattle.tp_decode.specs.Cutting.{Cut, cut_at}
use Rattle.tp_flow.specs.Edges.{jump_operand, jump_target}
use Rattle.tp_accept.specs.Bound.{Cost, Costs, with_cost, whole_at, left_of, behind, begun_at, whole_of, cost_of, with_instruction, costs_from}

-- a cost, and beside it
pub with_cost-here : (costs : Costs) (at to : ℕ) (cost : Cost) → to ≡ at → with_cost costs at cost to ≡ cost
with_cost-here costs at to cost e = by_test (nat_eq to at) refl
  where
    by_test : (b : Bool) → nat_eq to at ≡ b → cond b cost (costs to) ≡ cost
    by_test true f = refl
    by_test false f = absurd (let other : to ≢ at = grind (arith, nat_tests) in other e)

pub with_cost-other : (costs : Costs) (at to : ℕ) (cost : Cost) → to ≢ at → with_cost costs at cost to ≡ costs to
with_cost-other costs at to cost other = by_test (nat_eq to at) refl
  where
    by_test : (b : Bool) → nat_eq to at ≡ b → cond b cost (costs to) ≡ costs to
    by_test true f = absurd (let same : to ≡ at = grind (arith, nat_tests) in other same)
    by_test false f = refl

-- two costs of the same parts
same_cost_parts : (l m w v : ℕ) → l ≡ m → w ≡ v → Path Cost (record { left = l; whole = w }) (record { left = m; whole = v })
same_cost_parts l m w v e f = cc

-- an instruction reads costs behind it alone
pub record LooksForward (rows : List LoopRow) (code : List Cut) (at : ℕ) (cut : Cut) : Type 0 where
  pub jumps : (n : ℤ) (to : ℕ) → jump_operand cut.instr ≡ Some n → jump_target (at + length cut.bytes) n ≡ Some to → at + length cut.bytes ≤ to
  pub lends : (row : LoopRow) → begun_at rows at ≡ Some row → at + length cut.bytes ≤ behind code row.lend

module _ (f g : Costs) (next : ℕ) (same : (to : ℕ) → next ≤ to → f to ≡ g to) where
  -- what costs that agree from the next address on give
  same_at : (o : Option ℕ) → ((to : ℕ) → o ≡ Some to → next ≤ to) → whole_at f o ≡ whole_at g o
  same_at None h = refl
  same_at (Some to) h = ap (λ c. c.whole) (same to (h to refl))

  same_next : whole_at f (Some next) ≡ whole_at g (Some next)
  same_next = same_at (Some next) (λ to e. let here : next ≡ to = cc in omega arith)

  same_left : (n : ℕ) (instr : Instr) → ((operand : ℤ) (to : ℕ) → jump_operand instr ≡ Some operand → jump_target next operand ≡ Some to → next ≤ to) → left_of f n next instr ≡ left_of g n next instr
  same_left n Stopp h = refl
  same_left n Lend h = refl
  same_left n (Jump operand) h = ap (λ x. n + x) (same_at (jump_target next operand) (λ to e. h operand to refl e))
  same_left n (Cj operand) h =
      ap (λ x. n + max x (whole_at f (jump_target next operand))) same_next
      ∙ ap (λ x. n + max (whole_at g (Some next)) x) (same_at (jump_target next operand) (λ to e. h operand to refl e))
  same_left n instr h = ap (λ x. n + x) same_next

  same_whole : (code : List Cut) (l m : ℕ) (o : Option LoopRow) → l ≡ m → ((row : LoopRow) → o ≡ Some row → next ≤ behind code row.lend) → whole_of code f l o ≡ whole_of code g m o
  same_whole code l m None e h = e
  same_whole code l m (Some row) e h =
      ap (λ x. row.count * x + (f (behind code row.lend)).whole) e ∙ ap (λ c. row.count * m + c.whole) (same (behind code row.lend) (h row refl))

module _ (rows : List LoopRow) (code : List Cut) (a : ℕ) (cut : Cut) (some : 0 < length cut.bytes) (looks : LooksForward rows code a cut) where
  -- the cost of the instruction there
  abbrev cost_in : Costs → Cost
  cost_in costs = cost_of rows code costs a (length cut.bytes) cut.instr

  same_cost : (f g : Costs) → ((to : ℕ) → a + length cut.bytes ≤ to → f to ≡ g to) → cost_in f ≡ cost_in g
  same_cost f g same =
      let n = length cut.bytes in
      let left = same_left f g (a + n) same n cut.instr looks.jumps in
      same_cost_parts _ _ _ _ left (same_whole f g (a + n) same code _ _ (begun_at rows a) left looks.lends)

  -- the cost of an instruction is the one from the costs behind it
  pub costs_here : (cuts : List Cut) (at k : ℕ) → AllByRecursion (λ c. 0 < length c.bytes) cuts →
      cut_at cuts k ≡ Some cut → a ≡ at + k → costs_from rows code at cuts a ≡ cost_in (costs_from rows code at cuts)
  costs_here [] at k all is e = absurd cc
  costs_here (c ∷ cs) at k all is e = by_test (costs_here cs (at + length c.bytes) (k - length c.bytes) all.1) (nat_eq k 0) refl (nat_lt k (length c.bytes)) refl is
    where
      later : Costs
      later = costs_from rows code (at + length c.bytes) cs

      full : Costs
      full = with_instruction rows code later at c

      first : ℕ → Cut → Cost
      first to c = cost_of rows code later to (length c.bytes) c.instr

      past : (to : ℕ) → a + length cut.bytes ≤ to → later to ≡ full to
      past to h = sym (with_cost-other later at to (first at c) (omega arith))

      by_test : (cut_at cs (k - length c.bytes) ≡ Some cut → a ≡ at + length c.bytes + (k - length c.bytes) → later a ≡ cost_in later)
          → (p : Bool) → nat_eq k 0 ≡ p → (q : Bool) → nat_lt k (length c.bytes) ≡ q → (if p then Some c else if q then None else cut_at cs (k - length c.bytes)) ≡ Some cut → full a ≡ cost_in full
      by_test go true e1 q e2 is =
          let none : k ≡ 0 = grind (arith, nat_tests) in
          let here : a ≡ at = omega arith in
          let same : c ≡ cut = cc in
          with_cost-here later at a (first at c) here ∙ ap (λ x. first x c) (sym here) ∙ ap (first a) same ∙ same_cost later full past
      by_test go false e1 true e2 is = absurd cc
      by_test go false e1 false e2 is =
          let beyond : length c.bytes ≤ k = grind (arith, nat_tests) in
          let some_first : 0 < length c.bytes = all.0 in
          with_cost-other later at a (first at c) (omega arith) ∙ go is (omega arith) ∙ same_cost later full past
