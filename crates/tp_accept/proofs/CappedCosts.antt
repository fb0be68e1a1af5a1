-- Counting no further than the cap gives what is capped of the costs.
use Rattle.std.proofs.Common.{◌≡◌, ℕ, zero, suc, ◌+◌, ◌-◌, ◌*◌, ◌<◌, ◌≤◌, min, Bool, true, false, nat_lt, List, Option, Some, None, refl, ap, sym, ◌∙◌, arith, suc-mul}
use Rattle.std.proofs.lemmas.Bool.Decides.{nat_tests}
use Rattle.tp_image.specs.declared.image.LoopRow.{LoopRow}
use Rattle.tp_decode.specs.declared.instr.Instr.{Instr}
use Rattle.tp_decode.specs.declared.instr.Instr.TheVariants.{Jump, Cj, Lend, Stopp}
use Rattle.tp_decode.specs.Cutting.{Cut}
use Rattle.tp_flow.specs.Edges.{jump_target}
use Rattle.tp_accept.specs.declared.counting.Counted.{Counted}
use Rattle.tp_accept.specs.Bound.{Costs, whole_at, left_of, behind, begun_at, whole_of, cost_of}
use Rattle.tp_accept.specs.Capped.{cap, capped, counted}

-- the turns of a loop
capped_turns : (n l : ℕ) → min (n * min l cap) cap ≡ min (n * l) cap
capped_turns zero l = omega arith
capped_turns (suc k) l = by_test (nat_lt l cap) refl
  where
    by_test : (b : Bool) → nat_lt l cap ≡ b → min (suc k * min l cap) cap ≡ min (suc k * l) cap
    by_test true e = let low : l < cap = grind (arith, nat_tests) in ap (λ x. min (suc k * x) cap) (omega arith)
    by_test false e =
        let high : cap ≤ l = grind (arith, nat_tests) in omega (arith, suc-mul k l, suc-mul k (min l cap))

capped_product : (n l m : ℕ) → min l cap ≡ min m cap → min (n * l) cap ≡ min (n * m) cap
capped_product n l m e = sym (capped_turns n l) ∙ ap (λ x. min (n * x) cap) e ∙ capped_turns n m

-- two costs of the same parts
same_capped : (l m w v : ℕ) → l ≡ m → w ≡ v → Path Counted (record { left = l; whole = w }) (record { left = m; whole = v })
same_capped l m w v e f = cc

-- from costs that are capped
module _ (f g : Costs) (each : (to : ℕ) → (f to).whole ≡ min (g to).whole cap) where
  -- what an address, an instruction and a loop cost
  whole_each : (to : ℕ) → (f to).whole ≡ min (g to).whole cap
  whole_each to = each to

  capped_at : (o : Option ℕ) → min (whole_at f o) cap ≡ min (whole_at g o) cap
  capped_at None = refl
  capped_at (Some to) = omega (arith, whole_each to)

  capped_left : (n next : ℕ) (instr : Instr) → min (left_of f n next instr) cap ≡ min (left_of g n next instr) cap
  capped_left n next Stopp = refl
  capped_left n next Lend = refl
  capped_left n next (Jump operand) = omega (arith, capped_at (jump_target next operand))
  capped_left n next (Cj operand) = omega (arith, capped_at (jump_target next operand), capped_at (Some next))
  capped_left n next instr = omega (arith, capped_at (Some next))

  capped_whole : (code : List Cut) (l m : ℕ) (o : Option LoopRow) → min l cap ≡ min m cap → min (whole_of code f l o) cap ≡ min (whole_of code g m o) cap
  capped_whole code l m None e = e
  capped_whole code l m (Some row) e = omega (arith, capped_product row.count l m e, capped_at (Some (behind code row.lend)))

  -- and so an instruction
  pub counted_cost_of : (rows : List LoopRow) (code : List Cut) (at n : ℕ) (instr : Instr) → counted (cost_of rows code f at n instr) ≡ counted (cost_of rows code g at n instr)
  counted_cost_of rows code at n instr =
      let left = capped_left n (at + n) instr in
      same_capped _ _ _ _ left (capped_whole code _ _ (begun_at rows at) left)

-- from what is left of an instruction, capped
whole_from_capped : (code : List Cut) (costs : Costs) (o : Option LoopRow) (l : ℕ) → capped (whole_of code costs (capped l) o) ≡ capped (whole_of code costs l o)
whole_from_capped code costs None l = omega arith
whole_from_capped code costs (Some row) l = omega (arith, capped_product row.count (min l cap) l (omega arith))

-- the two parts of a cost, as they are counted one after the other
pub counted_parts : (rows : List LoopRow) (code : List Cut) (costs : Costs) (at next : ℕ) (instr : Instr)
    (left whole : ℕ) (o : Option LoopRow) → at ≤ next → o ≡ begun_at rows at →
    left ≡ capped (left_of costs (next - at) next instr) → whole ≡ capped (whole_of code costs left o) →
    Path Counted (record { left = left; whole = whole }) (counted (cost_of rows code costs at (next - at) instr))
counted_parts rows code costs at next instr left whole o order begun is all =
    let there : next ≡ at + (next - at) = omega arith in
    let here : left ≡ capped (left_of costs (next - at) (at + (next - at)) instr) = is ∙ ap (λ x. capped (left_of costs (next - at) x instr)) there in
    same_capped _ _ _ _ here
    (all ∙ ap (λ l. capped (whole_of code costs l o)) here ∙ whole_from_capped code costs o _ ∙ ap (λ r. capped (whole_of code costs (left_of costs (next - at) (at + (next - at)) instr) r)) begun)
