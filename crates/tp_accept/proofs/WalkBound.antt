-- No way is longer than the measure.
use Rattle.std.proofs.Common.{◌≡◌, ℕ, ◌≤◌, true, List, ap, subst, arith}
use Rattle.tp_image.specs.Image.{ImageValue}
use Rattle.tp_image.specs.declared.image.LoopRow.{LoopRow}
use Rattle.tp_decode.specs.Cutting.{Cut, IsCutting}
use Rattle.tp_flow.specs.RowRules.{is_start}
use Rattle.tp_accept.specs.Bound.{bound}
use Rattle.tp_flow.specs.NestKept.{KeepsNest}
use Rattle.tp_accept.specs.Measure.{Counts, measure}
use Rattle.tp_accept.specs.Walks.{Walk, Ends, Goes}
use Rattle.tp_accept.specs.Acceptance.{IsAcceptable}
use Rattle.tp_accept.proofs.AnswerLemmas.{one_cutting}
use Rattle.tp_accept.proofs.LookedUp.{first_starts}
use Rattle.tp_accept.proofs.MeasureDrops.{drops, bytes_counted, starts_with_bound}

-- from any address
within : (rows : List LoopRow) (workspace : ℕ) (code : List Cut) → KeepsNest rows workspace code → (at : ℕ) (counts : Counts) (n : ℕ) → Walk rows code at counts n → n ≤ measure rows code at 0 counts
within rows workspace code nest at counts n (Ends a c cut stands) = bytes_counted rows workspace code nest a cut c stands
within rows workspace code nest at counts n (Goes a to m edge c later e turns after rest) =
    omega (arith, drops rows workspace code nest a to 0 edge c later e turns after (omega arith), within rows workspace code nest to later m rest)

-- from the first
pub walk_within_bound : (rows : List LoopRow) (workspace : ℕ) (code : List Cut) → KeepsNest rows workspace code →
    is_start code 0 ≡ true → (counts : Counts) (n : ℕ) → Walk rows code 0 counts n → n ≤ bound rows code
walk_within_bound rows workspace code nest starts counts n walk =
    omega (arith, within rows workspace code nest 0 counts n walk, starts_with_bound rows workspace code nest starts counts)

-- in the code of an acceptable image
pub walk_within_budget : (image : ImageValue) (budget : ℕ) → IsAcceptable image budget → (cuts : List Cut) →
    IsCutting image.code cuts → (counts : Counts) (n : ℕ) → Walk image.loops cuts 0 counts n → n ≤ budget
walk_within_budget image budget a cuts cutting counts n walk =
    let same : a.cuts ≡ cuts = one_cutting image.code a.cuts cuts a.cutting cutting in
    let kept : KeepsNest image.loops image.workspace cuts = subst (KeepsNest image.loops image.workspace) same a.kept in
    let most : n ≤ bound image.loops cuts = walk_within_bound image.loops image.workspace cuts kept (first_starts image cuts a.in_range cutting) counts n walk in
    omega (arith, most, a.bounded, ap (bound image.loops) same)
