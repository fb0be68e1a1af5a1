use Rattle.std.proofs.Common.{◌≡◌, map, take}
use Rattle.tpw_text.specs.Programs.{label_of, labels_listed}
use Rattle.tpw_text.proofs.finish.labels_of.Given as goal

-- the labels so far
abbrev pub invariant-loop-name : goal.invariant-loop-name
invariant-loop-name l = map label_of l.labels.items ≡ labels_listed (take l.name-index l.names)
