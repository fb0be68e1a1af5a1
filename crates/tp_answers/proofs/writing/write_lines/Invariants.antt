use Rattle.std.proofs.Common.{◌≡◌, ◌++◌, take}
use Rattle.std.specs.List.{flat_map}
use Rattle.tp_decode.specs.Lines.{lines_from}
use Rattle.tp_answers.specs.Texts.{text_line}
use Rattle.tp_answers.proofs.writing.write_lines.Given as goal

abbrev pub invariant-loop-i : goal.invariant-loop-i
invariant-loop-i l = l.out.items ≡ l.fn.out.items ++ flat_map text_line (take l.i (lines_from 0 l.listing))
