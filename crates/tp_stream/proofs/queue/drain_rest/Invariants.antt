use Rattle.std.proofs.Common.{◌≡◌, ◌+◌, ◌++◌, ℕ, List, length}
use Rattle.crossbeam_queue.specs.Passes.{view, IsPassOf}
use Rattle.tp_stream.proofs.queue.drain_rest.Given as goal

abbrev pub invariant-loop : goal.invariant-loop
invariant-loop g l = record {
  own : IsPassOf l.queue l.pass;
  parts : (view l.pass).parts ≡ (view l.initial.pass).parts;
  members : (view l.pass).members ≡ (view l.initial.pass).members;
  packets : (view l.pass).packets ≡ (view l.initial.pass).packets;
  pushed : (view l.pass).pushed ≡ (view l.initial.pass).pushed;
  count : length (view l.pass).popped ≡ length (view l.initial.pass).popped + l.left;
  taken : (ns : List ℕ) × ((view l.pass).popped ≡ (view l.initial.pass).popped ++ ns);
}
