use Rattle.std.proofs.Common.{refl}
use Rattle.tp_check.proofs.Verdict.{none_made}
use Rattle.tp_check.proofs.passes.Passes.begin.Goals as goal

pub returns-clause-begins : goal.returns-clause-begins
returns-clause-begins c cuts is_join inside kept join =
    none_made c.args.image.now cuts is_join join c.law_is_in_range.ensures kept _ c.args.places
    inside c.requires.few c.in_ok-states.ensures.sized c.in_ok-changed.ensures.sized c.in_ok-states.ensures.value
    c.in_ok-changed.ensures.first
    c.in_ok-taken.ensures.sized c.in_ok-taken.ensures.none refl c.in_ok-carried.ensures.placed
