use Rattle.std.proofs.Common.{◌≡◌, ◌++◌, take, string_bytes}
use Rattle.std.specs.List.{flat_map}
use Rattle.tpw_text.specs.Written.{loop_remark}
use Rattle.tpw_text.proofs.remarks.put_loop_remarks.Given as goal

-- those so far
abbrev pub invariant-loop-remark : goal.invariant-loop-remark
invariant-loop-remark l = string_bytes l.text ≡ string_bytes l.fn.text ++ flat_map loop_remark (take l.remark-index l.remarks)
