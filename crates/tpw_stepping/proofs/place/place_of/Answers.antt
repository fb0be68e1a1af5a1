use Rattle.std.proofs.Common.{arith}
use Rattle.std.proofs.lemmas.Str.Ascii.{encode_ascii}
use Rattle.tpw_stepping.proofs.Naming.{names_decimal}
use Rattle.tpw_stepping.proofs.place.place_of.Goals as goal

pub returns-in-None : goal.returns-in-None
returns-in-None c =
    names_decimal c.args.word.now c.address_of-in-None.result (λ rest is. c.in_default.ensures.cases rest (rw (encode_ascii 43 (omega arith)) is))
    c.in-None.ensures.cases c.address_of-in-None.ensures
