-- A report leaves a view that agrees.
use Rattle.std.proofs.Common.{◌≡◌, ℕ, List, arith}
use Rattle.tp_board.specs.declared.view.View.{View}
use Rattle.tp_stream.specs.Streams.{Agrees}
use Rattle.tp_board.proofs.Reports.{Adds, reported}

pub agrees_reported : (v : View) (steps : ℕ) (done lost : List ℕ) → Adds v v.hand done lost → Agrees v
    → Agrees (reported v steps done lost)
agrees_reported v steps done lost adds a = record {
  ended = a.ended;
  in_hand = omega arith;
  each_once = (λ x. let b = a.each_once x in let c = adds.each_once x in omega arith);
  counted = (let b = a.counted in let c = adds.counted in omega arith);
}
