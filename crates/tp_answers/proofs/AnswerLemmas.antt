-- Answers, and the sessions after them, by what is found.
use Rattle.std.proofs.Common.{◌≡◌, ◌≢◌, ℕ, ◌*◌, ◌≤◌, ◌<◌, nat_eq, nat_le, Bool, true, false, List, [], ◌∷◌, ◌++◌, length, vec_len, slice_set, arith}
use Rattle.std.proofs.Common.{refl, ap, sym, ◌∙◌}
use Rattle.std.proofs.lemmas.Bool.Decides.{nat_tests}
use Rattle.arrayvec.specs.declared.array_vec.ArrayVec.{ArrayVec}
use Rattle.tp_board.specs.Limits.{most_packets}
use Rattle.tp_answers.specs.declared.session.OpenSession.{OpenSession}
use Rattle.tp_answers.specs.declared.answer.LineFault.TheVariants.{E2, P1, P2, P3}
use Rattle.tp_answers.specs.declared.answer.Answer.{Answer}
use Rattle.tp_answers.specs.declared.answer.Answer.TheVariants.{Kept, Refused}
use Rattle.tp_answers.specs.Sessions.{Session, session_named, with_changed, with_packet}
use Rattle.tp_answers.specs.OpenSessions.{session_of, with_kept}
use Rattle.tp_answers.specs.Answers.{Verdict, answer_by, after_verdict, answer_to_packet, unless_refused, after_packet, IsAnswerToImage, IsAfterImage}
use Rattle.tp_answers.specs.Rules.{IsVerdict}
use Rattle.tp_answers.proofs.SessionLemmas.{IsPlaced, IsAbsent, packets_kept, same_kept, kept_as, kept_more}

-- ---- a packet

abbrev pub IsAnswered : (name packet : List ℕ) → (before now : List Session) → Answer → Type 0
IsAnswered name packet before now answer =
    (answer ≡ answer_to_packet (session_named name before) packet) × (now ≡ after_packet name packet before)

by_answer : (name packet : List ℕ) (before now : List Session) (answer : Answer) → answer ≡ answer_to_packet (session_named name before) packet
    → now ≡ unless_refused answer before (with_changed (with_packet packet) name before) → IsAnswered name packet before now answer
by_answer name packet before now answer is becomes =
    (is, becomes ∙ ap (λ a. unless_refused a before (with_changed (with_packet packet) name before)) is)

pub no_session : (name packet : List ℕ) (before : List Session) → IsAbsent name before → IsAnswered name packet before before (Refused P2)
no_session name packet before none = by_answer name packet before before (Refused P2) (rw (none.is_named) refl) refl

module _ (name packet : List ℕ) (before : List Session) (i : ℕ) (it : IsPlaced name before i) (kept : OpenSession)
    (is : it.session ≡ session_of it.session.name kept) where
  pub wrong_length : length packet ≢ 4 * kept.image.image.packet → IsAnswered name packet before (with_kept before i kept) (Refused P1)
  wrong_length other =
      let same : it.session.image.packet ≡ kept.image.image.packet = ap (λ s. s.image.packet) is in
      let test : nat_eq (length packet) (4 * it.session.image.packet) ≡ false = grind (arith, nat_tests, same, other) in
      by_answer name packet before _ (Refused P1) (rw (it.is_named, test) refl) (same_kept before i it.session kept it.there is)

  module _ (long : length packet ≡ 4 * kept.image.image.packet) where
    right_length : nat_eq (length packet) (4 * it.session.image.packet) ≡ true
    right_length =
        let same : it.session.image.packet ≡ kept.image.image.packet = ap (λ s. s.image.packet) is in
        grind (arith, nat_tests, same, long)

    pub too_many : most_packets ≤ vec_len kept.packets → IsAnswered name packet before (with_kept before i kept) (Refused P3)
    too_many many =
        let full : nat_le most_packets (length it.session.packets) ≡ true = grind (arith, nat_tests, many, packets_kept it.session kept is) in
        by_answer name packet before _ (Refused P3) (rw (it.is_named, right_length, full) refl) (same_kept before i it.session kept it.there is)

    pub may_be_kept : vec_len kept.packets < most_packets → (new : OpenSession) (one : ArrayVec ℕ 256 (Unit {0})) → one.items ≡ packet
        → new.image ≡ kept.image → new.packets.items ≡ kept.packets.items ++ one ∷ []
        → IsAnswered name packet before (with_kept before i new) (Kept (vec_len kept.packets))
    may_be_kept few new one bytes image more =
        let full : nat_le most_packets (length it.session.packets) ≡ false = grind (arith, nat_tests, few, packets_kept it.session kept is) in
        by_answer name packet before _ (Kept (vec_len kept.packets))
        (rw (it.is_named, right_length, full) (ap Kept (sym (packets_kept it.session kept is))))
        (kept_as before i it.session new it.there ∙ ap (slice_set before i) (kept_more it.session kept new one is image more)
        ∙ it.changed (with_packet one.items) ∙ ap (λ bytes. with_changed (with_packet bytes) name before) bytes)

-- ---- an image

module _ (full : Bool) (name text : List ℕ) (before : List Session) where
  pub image_full : full ≡ true → IsAnswerToImage IsVerdict full text (Refused E2) × IsAfterImage IsVerdict full name text before before
  image_full is = rw is (refl, refl)

  pub image_judged : (answer : Answer) (after : List Session) (verdict : Verdict) → full ≡ false → IsVerdict text verdict → answer ≡ answer_by verdict
      → after ≡ after_verdict name verdict before → IsAnswerToImage IsVerdict full text answer × IsAfterImage IsVerdict full name text before after
  image_judged answer after verdict is judged same becomes = rw is ((verdict, judged, same), (verdict, judged, becomes))
