use Rattle.std.proofs.Common.{ap}
use Rattle.tp_prefix.proofs.SpellingLemmas.{one_reading}
use Rattle.tp_prefix.proofs.laws.one_spelling.Goals as goal

pub returns : goal.returns
returns c a b x y f g d e is is' same =
    let one = one_reading 0 a b x y (f, d) (g, e) is.spells is'.spells same in (one.0, ap (λ p. p.0) one.1, ap (λ p. p.1) one.1)
