use Rattle.std.proofs.Common.{◌<◌, ◌++◌, [], take, length, Err, ◌∙◌, ap, sym, subst, arith}
use Rattle.std.proofs.KnownBytes.{Consumes-trans, Consumes-whole}
use Rattle.std.proofs.lemmas.List.{append-nil}
use Rattle.std.proofs.lemmas.Result.{err_from_is_err_and, on_ok_weaker}
use Rattle.tp_session.proofs.ServeLemmas.{of_each, still_read, short_read, serves_read, so_far_more, never_reading, serves_before, serves_some}
use Rattle.tp_session.specs.Fitness.{AreFit}
use Rattle.tp_session.proofs.ServeLemmas.{nothing_taken}
use Rattle.tp_session.proofs.MemberLemmas.{still_members, members_of}
use Rattle.tp_session.proofs.serving.serve.Goals as goal

pub loop-init : goal.loop-init
loop-init g c = record {
  turns = (tt, tt);
  room = omega arith;
  members = members_of c.args.farm _ (ap (λ l. length l.items) c.new-service.ensures.links);
  as_many = ap (λ l. length l.items) c.new-service.ensures.links;
  so_far = λ fit.
      nothing_taken _ _ _ _ _ _ c.begin-partial.ensures (c.new-service.ensures.sessions, c.new-service.ensures.trace)
      (subst (λ l. AreFit g.D.LinkDevice.state l.items) (sym c.new-service.ensures.links) fit);
}

pub returns-in_default-clause-read : goal.returns-in_default-clause-read
returns-in_default-clause-read g c fit is = serves_read _ _ _ _ _ _ _ _ _ (c.loop.invariant.so_far fit) c.in_default.ensures.bytes

pub returns-then-count-eq0 : goal.returns-then-count-eq0
returns-then-count-eq0 g c =
    let some : 0 < length c.read.new.buf = omega (arith, c.read.auto.buf, c.loop.invariant.room) in
    let end = c.in-Ok.ensures.bytes.1 c.if-count-eq0.true some in
    record {
      all = λ fit.
          let so_far = c.loop.invariant.so_far fit in
          on_ok_weaker c.finish.result (λ answers. record {
            taken = so_far.point.taken;
            read = still_read _ _ _ so_far.point.taken c.in-Ok.count _ c.if-count-eq0.true so_far.read c.in-Ok.ensures.bytes.0;
            end = end;
            answers = answers;
          }) (c.finish.ensures.ok _ _ so_far.point so_far.is);
      read = λ fit.
          let so_far = c.loop.invariant.so_far fit in
          never_reading _ _ _ _ _ _ c.finish.result (c.finish.ensures.err _ _ so_far.point so_far.is) _;
      want = λ fit.
          let so_far = c.loop.invariant.so_far fit in
          serves_before _ _ _ _ _ _ c.finish.result (c.finish.ensures.err _ _ so_far.point so_far.is) _ _
          (still_read _ _ _ so_far.point.taken c.in-Ok.count _ c.if-count-eq0.true so_far.read c.in-Ok.ensures.bytes.0) (omega arith);
      write = λ fit is.
          let so_far = c.loop.invariant.so_far fit in
          Consumes-whole _ _ so_far.point.taken _
          (still_read _ _ _ so_far.point.taken c.in-Ok.count _ c.if-count-eq0.true so_far.read c.in-Ok.ensures.bytes.0) end
          (serves_some _ _ _ _ _ _ c.finish.result (c.finish.ensures.err _ _ so_far.point so_far.is) is);
    }

pub loop-preserved : goal.loop-preserved
loop-preserved g c = record {
  turns = (tt, tt);
  room = omega (arith, c.read.auto.buf, c.loop.invariant.room);
  members = still_members _ _ c.loop.invariant.members c.in_ok-feed.ensures.members;
  as_many = c.in_ok-feed.ensures.members ∙ c.loop.invariant.as_many;
  so_far = λ fit.
      let so_far = c.loop.invariant.so_far fit in
      so_far_more _ _ _ _ _ _ _ _ _ _ _ _ _ so_far c.in-Ok.ensures.bytes.0 (c.in_ok-feed.ensures.ok _ _ so_far.point so_far.is);
}

pub returns-in_err-feed : goal.returns-in_err-feed
returns-in_err-feed g c =
    let p = err_from_is_err_and c.from_residual.result c.from_residual.ensures.1 in
    let bytes = take c.in-Ok.count c.read.new.buf in
    let short = short_read c.in-Ok.count c.read.new.buf (omega (arith, c.read.auto.buf, c.loop.invariant.room)) in
    rw (p.1, p.2) record {
      all = λ fit. tt;
      read = λ fit.
          let so_far = c.loop.invariant.so_far fit in
          let taken = so_far.point.taken ++ bytes in
          never_reading _ taken _ _ _ _ (Err _) (c.in_err-feed.ensures.err _ _ so_far.point so_far.is taken ([], sym (append-nil taken))) _;
      want = λ fit.
          let so_far = c.loop.invariant.so_far fit in
          let taken = so_far.point.taken ++ bytes in
          serves_before _ taken _ _ _ _ (Err _) (c.in_err-feed.ensures.err _ _ so_far.point so_far.is taken ([], sym (append-nil taken)))
          _ _ (Consumes-trans _ _ _ so_far.point.taken bytes so_far.read c.in-Ok.ensures.bytes.0) short;
      write = λ fit is.
          let so_far = c.loop.invariant.so_far fit in
          of_each _ _ _ _ (Consumes-trans _ _ _ so_far.point.taken bytes so_far.read c.in-Ok.ensures.bytes.0)
          (λ input begins. serves_some _ input _ _ _ _ (Err _) (c.in_err-feed.ensures.err _ _ so_far.point so_far.is input begins) is);
    }
