use Rattle.std.proofs.Common.{◌≡◌, ◌++◌, drop, string_bytes}
use Rattle.tpw_text.specs.Written.{initial_text}
use Rattle.tpw_text.proofs.writing.put_initial.Given as goal

-- the words so far, and those that are left
abbrev pub invariant-loop-i : goal.invariant-loop-i
invariant-loop-i l = string_bytes l.text ++ initial_text l.i-counter (drop l.i-counter l.words) ≡ string_bytes l.fn.text ++ initial_text 0 l.words
