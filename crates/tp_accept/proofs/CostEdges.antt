-- What an instruction costs at least: its bytes, and what follows on each of its edges.
use Rattle.std.proofs.Common.{◌≡◌, ℕ, ◌+◌, ◌≤◌, true, ℤ, Option, Some, refl, ap, ◌∙◌, arith}
use Rattle.tp_decode.specs.declared.instr.Instr.{Instr}
use Rattle.tp_decode.specs.declared.instr.Instr.TheVariants.{Jump, Cj, Lend, Stopp}
use Rattle.tp_flow.specs.declared.edge.Edge.TheVariants.{Next, Back, Out}
use Rattle.tp_flow.specs.Edges.{has_edge, jump_operand, jump_target}
use Rattle.tp_accept.specs.Bound.{Costs, whole_at, left_of}

module _ (costs : Costs) (n next : ℕ) where
  -- its bytes
  pub left_least : (instr : Instr) → n ≤ left_of costs n next instr
  left_least Stopp = omega arith
  left_least Lend = omega arith
  left_least (Jump operand) = omega arith
  left_least (Cj operand) = omega arith
  left_least instr = omega arith

  -- and the next instruction
  pub left_next : (instr : Instr) → has_edge instr Next ≡ true → n + (costs next).whole ≤ left_of costs n next instr
  left_next Stopp has = absurd cc
  left_next Lend has = absurd cc
  left_next (Jump operand) has = absurd cc
  left_next (Cj operand) has = omega arith
  left_next instr has = omega arith

  -- an address that is there
  whole_some : (o : Option ℕ) (to : ℕ) → o ≡ Some to → whole_at costs o ≡ (costs to).whole
  whole_some o to e = ap (whole_at costs) e

  -- and the target of a jump
  pub left_taken : (instr : Instr) (operand : ℤ) (to : ℕ) → jump_operand instr ≡ Some operand → jump_target next operand ≡ Some to → n + (costs to).whole ≤ left_of costs n next instr
  left_taken (Jump m) operand to is goes =
      let same : m ≡ operand = cc in
      let e : whole_at costs (jump_target next m) ≡ (costs to).whole = ap (λ x. whole_at costs (jump_target next x)) same ∙ whole_some (jump_target next operand) to goes in
      omega (arith, e)
  left_taken (Cj m) operand to is goes =
      let same : m ≡ operand = cc in
      let e : whole_at costs (jump_target next m) ≡ (costs to).whole = ap (λ x. whole_at costs (jump_target next x)) same ∙ whole_some (jump_target next operand) to goes in
      omega (arith, e)
  left_taken instr operand to is goes = absurd cc

  -- a lend's bytes are all
  pub left_out : (instr : Instr) → has_edge instr Out ≡ true → left_of costs n next instr ≡ n
  left_out Lend has = refl
  left_out instr has = absurd cc

  pub left_back : (instr : Instr) → has_edge instr Back ≡ true → left_of costs n next instr ≡ n
  left_back Lend has = refl
  left_back instr has = absurd cc
