use Rattle.std.proofs.Common.{◌≤◌, ◌*◌, min}
use Rattle.tpw_occam_code.specs.Moving.{ClearsWords}
use Rattle.tpw_occam_code.proofs.processes.clear_by_moves.Given as goal

abbrev pub invariant-loop-part : goal.invariant-loop-part
invariant-loop-part l = l.words ≤ 512 → ClearsWords l.fn.code l.code l.a l.words (min (32 * l.part) l.words)
