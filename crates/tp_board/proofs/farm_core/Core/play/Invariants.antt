use Rattle.std.proofs.Common.{◌≡◌, ◌≤◌, length, take, vec_capacity}
use Rattle.tp_board.specs.Runs.{core_after, replies}
use Rattle.tp_board.proofs.farm_core.Core.play.Given as goal

abbrev pub invariant-loop-entry : goal.invariant-loop-entry
invariant-loop-entry l = record {
  core_state : l.self ≡ core_after l.initial.self (take l.entry-index l.events);
  said : l.answers.items ≡ replies l.initial.self (take l.entry-index l.events);
  room : length l.events ≤ vec_capacity l.answers;
  count : length l.answers.items ≡ l.entry-index;
}
