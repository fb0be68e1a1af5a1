use Rattle.std.proofs.Common.{◌≡◌, ◌++◌, drop, slice_index_or, false, string_bytes}
use Rattle.std.specs.Option.{option_copied}
use Rattle.tpw_text.specs.Written.{lines_text}
use Rattle.tpw_text.proofs.writing.put_lines.Given as goal

-- the lines so far, and those that are left
abbrev pub invariant-loop-place : goal.invariant-loop-place
invariant-loop-place l =
    string_bytes l.text ++ lines_text (λ k. slice_index_or l.marks k false) (option_copied l.remarks) l.place (drop l.place l.lines)
    ≡ string_bytes l.fn.text ++ lines_text (λ k. slice_index_or l.marks k false) (option_copied l.remarks) 0 l.lines
