use Rattle.std.proofs.Common.{◌≡◌, drop}
use Rattle.tpw_occam_lexing.specs.Keywords.{listed}
use Rattle.tpw_occam_lexing.proofs.keywords.listed.Given as goal

abbrev pub invariant-loop-keyword : goal.invariant-loop-keyword
invariant-loop-keyword l = listed l.keywords l.word ≡ listed (drop l.keyword-index l.keywords) l.word
