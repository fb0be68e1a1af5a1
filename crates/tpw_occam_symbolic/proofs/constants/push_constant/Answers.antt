use Rattle.std.proofs.Common.{Some, ap, ◌∙◌, w32}
use Rattle.std.specs.Int.{cast_unsigned}
use Rattle.std.proofs.lemmas.Int.{of_z-to_z}
use Rattle.std.proofs.lemmas.Bool.{le-leb}
use Rattle.tpw_occam_symbolic.specs.Symbolic.{push, number, performed, effect}
use Rattle.tpw_occam_symbolic.proofs.Words.{low_word-cast}
use Rattle.tpw_occam_symbolic.proofs.constants.push_constant.Goals as goal

pub returns-then-is_short-clause-pushes : goal.returns-then-is_short-clause-pushes
unfolding performed effect
returns-then-is_short-clause-pushes c w m constants served =
    let same = ap (cast_unsigned w32) c.cast_signed.ensures ∙ of_z-to_z w32 c.args.c c.ranges.c.fits in
    ap (λ n. Some (push (number n) m)) (low_word-cast c.args.c (cast_unsigned w32 c.cast_signed.result) c.ranges.c.fits same)

pub returns-else-is_short-clause-pushes : goal.returns-else-is_short-clause-pushes
unfolding performed
returns-else-is_short-clause-pushes c w m constants served =
    rw (le-leb 4 _ served) (ap (λ n. Some (push (number n) m)) (constants c.args.c c.ranges.c.fits))
