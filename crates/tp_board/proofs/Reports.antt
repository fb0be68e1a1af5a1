-- A report: numbers are added to those finished, or to those abandoned.
use Rattle.std.proofs.Common.{◌≡◌, ℕ, ◌+◌, List, [], ◌++◌, length, arith, length-append}
use Rattle.tp_board.specs.declared.view.View.{View}
use Rattle.tp_board.specs.Counting.{times}
use Rattle.tp_board.proofs.Counting.{times-append}

-- `done` and `lost` have what the view has finished and abandoned, and these numbers
pub record Adds (v : View) (numbers done lost : List ℕ) : Type 0 where
  pub each_once : (x : ℕ) → times x done + times x lost ≡ times x v.finished + times x v.abandoned + times x numbers
  pub counted : length done + length lost ≡ length v.finished + length v.abandoned + length numbers

pub to_finished : (v : View) (numbers : List ℕ) → Adds v numbers (v.finished ++ numbers) v.abandoned
to_finished v numbers = record {
  each_once = (λ x. let a = times-append x v.finished numbers in omega arith);
  counted = (let a = length-append v.finished numbers in omega arith);
}

pub to_abandoned : (v : View) (numbers : List ℕ) → Adds v numbers v.finished (v.abandoned ++ numbers)
to_abandoned v numbers = record {
  each_once = (λ x. let a = times-append x v.abandoned numbers in omega arith);
  counted = (let a = length-append v.abandoned numbers in omega arith);
}

-- the view with these reports, and nothing in hand
abbrev pub reported : View → ℕ → List ℕ → List ℕ → View
reported v steps done lost = record v { steps = steps; finished = done; abandoned = lost; hand = [] }
