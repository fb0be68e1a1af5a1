use Rattle.std.proofs.Common.{◌≡◌, ◌≤◌, ◌+◌, ◌++◌, ◌∷◌, [], List, ℕ, length, refl, sym, ap, ◌∙◌, append_assoc, length-append, arith}
use Rattle.std.proofs.lemmas.Result.{err_from_is_err_and}
use Rattle.std.proofs.lemmas.List.{append-nil}
use Rattle.tp_session.specs.declared.fault.ServeFault.TheVariants.{Memory}
use Rattle.tp_session.specs.Points.{number_after}
use Rattle.tp_session.proofs.ReadingLemmas.{goes_same, goes_plain, fails_wanting, fails_more}
use Rattle.tp_session.proofs.MemberLemmas.{still_members}
use Rattle.tp_session.proofs.reading.feed.Goals as goal

-- the bytes that were taken before, and some of those that follow
within : (first front rest : List ℕ) {taken bytes : List ℕ} → taken ≡ first ++ front → bytes ≡ front ++ rest → first ++ bytes ≡ taken ++ rest
within first front rest is parted =
    ap (λ l. first ++ l) parted ∙ sym (append_assoc first front rest) ∙ ap (λ l. l ++ rest) (sym is)

rest_short : (front rest : List ℕ) {bytes : List ℕ} → bytes ≡ front ++ rest → length rest ≤ length bytes
rest_short front rest parted = omega (arith, ap length parted, length-append front rest)

pub loop-line-init : goal.loop-line-init
loop-line-init g c = record {
  members = c.requires;
  as_many = refl;
  front = [];
  parted = refl;
  goes = λ trace begun s at. record { point = s; taken_is = sym (append-nil s.taken); is = at };
}

pub returns-in_err-take_plain-clause-err : goal.returns-in_err-take_plain-clause-err
returns-in_err-take_plain-clause-err g c trace begun s at input begins =
    let was = c.loop-line.invariant in
    let so_far = was.goes trace begun s at in
    let p = err_from_is_err_and c.from_residual.result c.from_residual.ensures.1 in
    rw (p.1, p.2) (fails_wanting _ _ _ _ _ _ so_far.point so_far.is input _ c.loop-line.rest.now _
    (within s.taken was.front c.loop-line.rest.now so_far.taken_is was.parted) (rest_short was.front c.loop-line.rest.now was.parted) Memory tt)

pub returns-in_err-end_line-clause-err : goal.returns-in_err-end_line-clause-err
returns-in_err-end_line-clause-err g c trace begun s at input begins =
    let was = c.loop-line.invariant in
    let so_far = was.goes trace begun s at in
    let line = c.in-Some.line.now in
    let behind = c.in-Some.behind.now in
    let after =
    goes_plain _ _ _ _ _ _ so_far.point so_far.is c.take_plain.new.partial line c.in-Some.ensures.0
    (c.in_ok-take_plain.ensures.kept (number_after 1 so_far.point.lines) so_far.point.line so_far.is.keeps) in
    let p = err_from_is_err_and c.from_residual-in_err-end_line.result c.from_residual-in_err-end_line.ensures.1 in
    let all : s.taken ++ c.args.bytes.now ≡ (after.point.taken ++ 10 ∷ []) ++ behind =
    within s.taken was.front c.loop-line.rest.now so_far.taken_is was.parted ∙ ap (λ l. so_far.point.taken ++ l) c.in-Some.ensures.1
    ∙ sym (append_assoc so_far.point.taken line (10 ∷ behind)) ∙ ap (λ l. l ++ 10 ∷ behind) (sym after.taken_is)
    ∙ sym (append_assoc after.point.taken (10 ∷ []) behind) in
    let begun_with = begins.1 ∙ ap (λ l. l ++ begins.0) all ∙ append_assoc (after.point.taken ++ 10 ∷ []) behind begins.0 in
    let short : 1 + length behind ≤ length c.args.bytes.now = omega (arith, rest_short was.front c.loop-line.rest.now was.parted, ap length c.in-Some.ensures.1, length-append line (10 ∷ behind)) in
    rw (p.1, p.2) (fails_more trace input _ behind _ 1 _ begun _ _ all short
    (c.in_err-end_line.ensures.err trace begun after.point after.is input (behind ++ begins.0, begun_with)))

pub loop-line-preserved : goal.loop-line-preserved
loop-line-preserved g c =
    let was = c.loop-line.invariant in
    let line = c.in-Some.line.now in
    let behind = c.in-Some.behind.now in
    record {
      members = still_members _ _ was.members c.in_ok-end_line.ensures.members;
      as_many = c.in_ok-end_line.ensures.members ∙ was.as_many;
      front = (was.front ++ line) ++ 10 ∷ [];
      parted =
          was.parted ∙ ap (λ l. was.front ++ l) c.in-Some.ensures.1 ∙ sym (append_assoc was.front line (10 ∷ behind))
          ∙ sym (append_assoc (was.front ++ line) (10 ∷ []) behind);
      goes = λ trace begun s at.
          let so_far = was.goes trace begun s at in
          let after =
          goes_plain _ _ _ _ _ _ so_far.point so_far.is c.take_plain.new.partial line c.in-Some.ensures.0
          (c.in_ok-take_plain.ensures.kept (number_after 1 so_far.point.lines) so_far.point.line so_far.is.keeps) in
          let taken = after.taken_is ∙ ap (λ l. l ++ line) so_far.taken_is ∙ append_assoc s.taken was.front line in
          goes_same _ trace begun _ _ _ _ _ (ap (λ l. l ++ 10 ∷ []) taken ∙ append_assoc s.taken (was.front ++ line) (10 ∷ []))
          (c.in_ok-end_line.ensures.ok trace begun after.point after.is);
    }

pub returns-in_err-take_plain-2-clause-err : goal.returns-in_err-take_plain-2-clause-err
returns-in_err-take_plain-2-clause-err g c trace begun s at input begins =
    let was = c.loop-line.invariant in
    let so_far = was.goes trace begun s at in
    let p = err_from_is_err_and c.from_residual-in_err-take_plain-2.result c.from_residual-in_err-take_plain-2.ensures.1 in
    rw (p.1, p.2) (fails_wanting _ _ _ _ _ _ so_far.point so_far.is input _ c.loop-line.rest.now _
    (within s.taken was.front c.loop-line.rest.now so_far.taken_is was.parted) (rest_short was.front c.loop-line.rest.now was.parted) Memory tt)

pub returns-clause-ok : goal.returns-clause-ok
returns-clause-ok g c trace begun s at =
    let was = c.loop-line.invariant in
    let so_far = was.goes trace begun s at in
    let rest = c.loop-line.rest.now in
    let after =
    goes_plain _ _ _ _ _ _ so_far.point so_far.is c.take_plain-2.new.partial rest c.in_default.ensures
    (c.in_ok-take_plain-2.ensures.kept (number_after 1 so_far.point.lines) so_far.point.line so_far.is.keeps) in
    goes_same _ trace begun _ _ _ _ _ (ap (λ l. l ++ rest) so_far.taken_is ∙ append_assoc s.taken was.front rest
    ∙ ap (λ l. s.taken ++ l) (sym was.parted)) after
