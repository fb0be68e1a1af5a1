use Rattle.std.proofs.Common.{◌^◌, ℕ, zero, suc, pos, false, List, [], ◌∷◌, replicate, IsTrue, refl, rules}
use Rattle.tp_state.specs.declared.kind.Kind.TheVariants.{Undef}
use Rattle.tp_state.specs.declared.cell.Cell.{Cell}
use Rattle.tp_state.specs.declared.cell.Cell.TheVariants as cell
use Rattle.tp_state.specs.CellRules.{cell_at}
use Rattle.tp_state.specs.Order.{cell_below}
use Rattle.tp_state.proofs.CellOrder.{cell_below-self}
use Rattle.test_rules.specs.Samples.{any, regs, regs_words, words, words_with}
use Rattle.test_rules.proofs.Computing.{by_computing}
use Rattle.test_rules.proofs.unsound.states_have_to_be_sound.Goals as goal

never : IsTrue false → ⊥
never e = cc

themselves : (cells : List Cell) (i : ℕ) → IsTrue (cell_below (cell_at cells i) (cell_at cells i))
themselves cells i = cell_below-self (cell_at cells i)

pub returns-clause-order : goal.returns-clause-order
unfolding by_computing
returns-clause-order c = record {
  below = record { wptr = refl; phase = refl; a = search rules; b = search rules; c = search rules; sized = refl; cells = themselves words };
  outcome = regs_words Undef Undef Undef (words_with (cell.Known (pos 4) ∷ cell.Index 0 ∷ cell.Count 0 ∷ cell.Undef ∷ cell.Any ∷ []));
  goes_on = refl;
  breaks = λ h. never (h.cells 7);
}

pub returns-clause-ends : goal.returns-clause-ends
unfolding by_computing
returns-clause-ends c = record {
  below = record { wptr = refl; phase = refl; a = search rules; b = search rules; c = search rules; sized = refl; cells = themselves words };
  outcome = regs any Undef Undef;
  goes_on = refl;
  breaks = λ h. never h.a;
}

number_below : (i : ℕ) → IsTrue (cell_below (cell_at (cell.Known (pos (2 ^ 40)) ∷ replicate 11 cell.Any) i) (cell_at (replicate 12 cell.Any) i))
number_below zero = search rules
number_below (suc i) = themselves (replicate 11 cell.Any) i

pub returns-clause-known : goal.returns-clause-known
unfolding by_computing
returns-clause-known c = record {
  below = record { wptr = refl; phase = refl; a = search rules; b = search rules; c = search rules; sized = refl; cells = number_below };
  outcome = regs_words any Undef Undef (replicate 12 cell.Any);
  goes_on = refl;
  breaks = λ h. never h.a;
}

pub returns-clause-rows : goal.returns-clause-rows
unfolding by_computing
returns-clause-rows c = record {
  below = record { wptr = refl; phase = refl; a = search rules; b = search rules; c = search rules; sized = refl; cells = themselves (cell.Index 7 ∷ replicate 11 cell.Any) };
  outcome = regs_words any Undef Undef (cell.Index 7 ∷ replicate 11 cell.Any);
  goes_on = refl;
  breaks = tt;
}

pub returns-clause-placed : goal.returns-clause-placed
unfolding by_computing
returns-clause-placed c = record {
  below = record { wptr = refl; phase = refl; a = search rules; b = search rules; c = search rules; sized = refl; cells = themselves (replicate 2 cell.Any) };
  outcome = regs_words any Undef Undef (replicate 2 cell.Any);
  goes_on = refl;
  breaks = tt;
}
