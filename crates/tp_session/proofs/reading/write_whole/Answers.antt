use Rattle.std.proofs.Common.{◌++◌, take, drop, sym, ap, ◌∙◌}
use Rattle.std.proofs.KnownBytes.{Appends-kept}
use Rattle.tp_session.proofs.KnownBytes.{appends_front, some_more, slice_rest}
use Rattle.tp_session.proofs.reading.write_whole.Goals as goal

pub returns-in-Ok-eq0-clause-err : goal.returns-in-Ok-eq0-clause-err
returns-in-Ok-eq0-clause-err g c =
    let so_far = c.loop-rest.invariant in
    let more =
    some_more _ _ _ c.args.text.now so_far.0 c.loop-rest.rest.now c.in-Ok-eq0.field-0 so_far.1 so_far.2
    c.in-Ok-eq0.ensures.bytes in
    appends_front _ _ _ (drop c.in-Ok-eq0.field-0 c.loop-rest.rest.now) c.args.text.now more.0 more.1

pub loop-rest-preserved : goal.loop-rest-preserved
loop-rest-preserved g c =
    let so_far = c.loop-rest.invariant in
    let rest = c.loop-rest.rest.now in
    let more = some_more _ _ _ c.args.text.now so_far.0 rest c.in-Ok.n so_far.1 so_far.2 c.in-Ok.ensures.bytes in (
      so_far.0 ++ take c.in-Ok.n c.loop-rest.rest.now,
      more.0 ∙ ap (λ l. (so_far.0 ++ take c.in-Ok.n c.loop-rest.rest.now) ++ l)
          (sym (slice_rest c.loop-rest.rest.now c.in-Ok.n)),
      more.1,
    )

pub returns-in-Err-clause-err : goal.returns-in-Err-clause-err
returns-in-Err-clause-err g c =
    let so_far = c.loop-rest.invariant in
    appends_front _ _ so_far.0 c.loop-rest.rest.now c.args.text.now so_far.1
    (Appends-kept _ _ _ so_far.0 so_far.2 c.in-Err.ensures.bytes)

pub returns-in-Err-flush-clause-err : goal.returns-in-Err-flush-clause-err
returns-in-Err-flush-clause-err g c =
    let so_far = c.loop-rest.invariant in
    appends_front _ _ so_far.0 c.loop-rest.rest.now c.args.text.now so_far.1
    (Appends-kept _ _ _ so_far.0 so_far.2 c.in-Err-flush.ensures.bytes)
