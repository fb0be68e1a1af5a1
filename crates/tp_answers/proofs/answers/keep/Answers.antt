use Rattle.std.proofs.Common.{◌≡◌, ◌≢◌, ◌*◌, ◌≤◌, ◌<◌, length, vec_len, sym, ap, ◌∙◌, arith}
use Rattle.tp_requests.specs.Spelling.{bytes_spelled}
use Rattle.tp_board.specs.Limits.{most_packets}
use Rattle.tp_answers.specs.declared.answer.Answer.TheVariants.{Kept}
use Rattle.tp_answers.proofs.SessionLemmas.{placed, absent}
use Rattle.tp_answers.proofs.AnswerLemmas.{no_session, wrong_length, too_many, may_be_kept}
use Rattle.tp_answers.proofs.answers.keep.Goals as goal

pub returns-in_default : goal.returns-in_default
returns-in_default c =
    let both = no_session _ (bytes_spelled c.args.packet.now) _ (absent c.args.name.now.items c.args.sessions.now (sym c.find.ensures ∙ c.in_default.is)) in
    record { answer = both.0; sessions = both.1 }

pub returns-then-count-packet_bytes : goal.returns-then-count-packet_bytes
returns-then-count-packet_bytes c =
    let it = placed c.args.name.now.items c.args.sessions.now c.in-Some.index (sym c.find.ensures ∙ c.in-Some.is) in
    let kept = c.at_mut-session.result.now in
    let other : length (bytes_spelled c.args.packet.now) ≢ 4 * kept.image.image.packet =
    λ e. c.if-count-packet_bytes.true (c.count.ensures ∙ e ∙ sym c.packet_bytes.ensures.value) in
    let both = wrong_length _ _ _ _ it kept (c.at_mut-session.ensures.value it.session it.there) other in
    record { answer = both.0; sessions = both.1 }

pub returns-then-number-ge-MAX_KEPT : goal.returns-then-number-ge-MAX_KEPT
returns-then-number-ge-MAX_KEPT c =
    let it = placed c.args.name.now.items c.args.sessions.now c.in-Some.index (sym c.find.ensures ∙ c.in-Some.is) in
    let kept = c.at_mut-session.result.now in
    let long : length (bytes_spelled c.args.packet.now) ≡ 4 * kept.image.image.packet =
    sym c.count.ensures ∙ c.if-count-packet_bytes.false ∙ c.packet_bytes.ensures.value in
    let many : most_packets ≤ vec_len kept.packets = omega (arith, c.if-number-ge-MAX_KEPT.true, c.len-number.ensures) in
    let both = too_many _ _ _ _ it kept (c.at_mut-session.ensures.value it.session it.there) long many in
    record { answer = both.0; sessions = both.1 }

pub returns : goal.returns
returns c =
    let it = placed c.args.name.now.items c.args.sessions.now c.in-Some.index (sym c.find.ensures ∙ c.in-Some.is) in
    let kept = c.at_mut-session.result.now in
    let long : length (bytes_spelled c.args.packet.now) ≡ 4 * kept.image.image.packet =
    sym c.count.ensures ∙ c.if-count-packet_bytes.false ∙ c.packet_bytes.ensures.value in
    let few : vec_len kept.packets < most_packets = omega (arith, c.if-number-ge-MAX_KEPT.false, c.len-number.ensures) in
    let both =
    may_be_kept _ _ _ _ it kept (c.at_mut-session.ensures.value it.session it.there) long few c.keep.new.self c.packet_of.result
    c.packet_of.ensures.items c.in_ok-keep.ensures.image c.in_ok-keep.ensures.packets in
    record { answer = ap Kept c.len-number.ensures ∙ both.0; sessions = both.1 }
