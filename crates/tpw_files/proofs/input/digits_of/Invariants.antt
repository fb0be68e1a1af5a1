use Rattle.std.proofs.Common.{◌≡◌, ◌+◌, take, drop}
use Rattle.std.specs.Char.{is_ascii_hexdigit}
use Rattle.std.specs.List.{filter, prefix_len}
use Rattle.tpw_files.specs.Texts.{is_digit_or_line_end}
use Rattle.tpw_files.proofs.input.digits_of.Given as goal

abbrev pub invariant-loop-i : goal.invariant-loop-i
invariant-loop-i l =
    (l.digits.items ≡ filter is_ascii_hexdigit (take l.i l.inner))
    × (prefix_len is_digit_or_line_end l.inner ≡ l.i + prefix_len is_digit_or_line_end (drop l.i l.inner))
