use Rattle.std.proofs.Common.{◌≡◌, ◌≤◌, ◌<◌, false, length, refl, ap, ◌∙◌, arith}
use Rattle.tp_answers.specs.Sessions.{most_sessions, is_full, with_session}
use Rattle.tp_answers.specs.Answers.{Accepts, Refuses}
use Rattle.tp_answers.proofs.SessionLemmas.{full_none, full_some, full_room, opened_none}
use Rattle.tp_answers.proofs.AnswerLemmas.{image_full, image_judged}
use Rattle.tp_answers.proofs.answers.open.Goals as goal
use Rattle.tp_answers.proofs.answers.open.Goals.{else-is_none-via-then-is_none+else-len-ge-MAX_SESSIONS}
use Rattle.tp_answers.proofs.answers.open.Goals.{else-is_none-via-else-is_none}

pub returns-then-len-ge-MAX_SESSIONS : goal.returns-then-len-ge-MAX_SESSIONS
returns-then-len-ge-MAX_SESSIONS c =
    let many : most_sessions ≤ length c.args.sessions.now = omega (arith, c.if-len-ge-MAX_SESSIONS.true, c.len.ensures) in
    let both =
    image_full _ c.args.name.items c.args.text.items c.args.sessions.now
    (full_none c.args.name.items c.args.sessions.now c.find-place.result c.is_none.result c.find-place.ensures c.is_none.ensures
    c.if-is_none.true many) in
    record { answer = both.0; sessions = both.1 }

pub returns-in_ok-set-in-Ok : goal.returns-in_ok-set-in-Ok
returns-in_ok-set-in-Ok c =
    let room : is_full c.args.name.items c.args.sessions.now ≡ false =
    elim c.else-is_none.branch [
      | else-is_none-via-then-is_none+else-len-ge-MAX_SESSIONS w ↦
          let few : length c.args.sessions.now < most_sessions = omega (arith, w.if-len-ge-MAX_SESSIONS.false, w.len.ensures) in
          full_room c.args.name.items c.args.sessions.now c.find-place.result c.find-place.ensures few
      | else-is_none-via-else-is_none w ↦ full_some c.args.name.items c.args.sessions.now c.find-place.result c.is_none.result
          c.find-place.ensures c.is_none.ensures w.if-is_none.false
    ] in
    let opened = ap (λ s. with_session s c.args.sessions.now) (opened_none c.args.name.items c.in-Ok.image c.new.result c.new.ensures.image c.new.ensures.packets) in
    let both =
    image_judged _ c.args.name.items c.args.text.items c.args.sessions.now _ _ (Accepts c.in-Ok.image.image c.in-Ok.image.budget) room
    (c.in-Ok.ensures.image, c.in-Ok.ensures.allowed) c.yes-answer.ensures (c.in_ok-set-in-Ok.ensures ∙ opened) in
    record { answer = both.0; sessions = both.1 }

pub returns-in-Err-Refused : goal.returns-in-Err-Refused
returns-in-Err-Refused c =
    let room : is_full c.args.name.items c.args.sessions.now ≡ false =
    elim c.else-is_none.branch [
      | else-is_none-via-then-is_none+else-len-ge-MAX_SESSIONS w ↦
          let few : length c.args.sessions.now < most_sessions = omega (arith, w.if-len-ge-MAX_SESSIONS.false, w.len.ensures) in
          full_room c.args.name.items c.args.sessions.now c.find-place.result c.find-place.ensures few
      | else-is_none-via-else-is_none w ↦ full_some c.args.name.items c.args.sessions.now c.find-place.result c.is_none.result
          c.find-place.ensures c.is_none.ensures w.if-is_none.false
    ] in
    let answer = rw c.in-Err-Refused.field-0-is at c.in-Err-Refused.ensures.refused in
    let both =
    image_judged _ c.args.name.items c.args.text.items c.args.sessions.now _ _ (Refuses c.in-Err-Refused.code c.in-Err-Refused.place) room
    (answer (λ e. cc)) (cc) refl in
    record { answer = both.0; sessions = both.1 }
