-- What is told by the protocol under some rules, under others that these imply of the sessions that can be open.
use Rattle.std.proofs.Common.{◌≡◌, ℕ, ◌*◌, ◌==◌, nat_le, nat_lt, not, Bool, true, false, if◌then◌else◌, List, [], ◌∷◌, length, map}
use Rattle.std.proofs.Common.{Option, Some, None, refl, ap, sym, subst, ◌∙◌, arith}
use Rattle.std.specs.List.{AllByRecursion, AllZip}
use Rattle.std.proofs.lemmas.Bool.Decides.{nat_tests}
use Rattle.std.proofs.lemmas.Option.{same_Some}
use Rattle.hex.specs.Hex.{IsBytes}
use Rattle.tp_image.specs.Image.{ImageValue}
use Rattle.tp_board.specs.Limits.{most_packets}
use Rattle.tp_requests.specs.Lines.{Line, said_in}
use Rattle.tp_requests.specs.Requests.{Asked, ToList, ToOpen, ToKeep, ToRun, ToRunAll, ToDrop}
use Rattle.tp_requests.proofs.ProtocolLemmas.{spelled_by_digits}
use Rattle.tp_answers.specs.declared.answer.LineFault.TheVariants.{P1, P3}
use Rattle.tp_answers.specs.declared.answer.Answer.{Answer}
use Rattle.tp_answers.specs.declared.answer.Answer.TheVariants.{Kept, Refused}
use Rattle.tp_answers.specs.Results.{RunResult}
use Rattle.tp_answers.specs.Sessions.{Session, is_of, session_named, is_full, with_session, with_changed, without_session, with_packet, without_packets}
use Rattle.tp_answers.specs.Answers.{Verdict, Accepts, Refuses, answer_to_packet, unless_refused}
use Rattle.tp_answers.specs.Answers.{IsAnswerToImage, IsAfterImage, IsRun, IsAnswerToRun, IsAnswer, IsAfter}
use Rattle.tp_session.specs.Protocol.{most_line, next_number, IsAsked, AreAnswers, AreAnswered}

module _ (Judges Judges' : List ℕ → Verdict → Type 0) (HasOutcome HasOutcome' : ImageValue → List ℕ → Option RunResult → Type 0)
    (verdicts : (text : List ℕ) (v : Verdict) → Judges text v → Judges' text v) (Good : Session → Type 0)
    (opens : (name text : List ℕ) (image : ImageValue) (budget : ℕ) → Judges text (Accepts image budget)
    → Good record { name = name; image = image; packets = [] })
    (keeps : (s : Session) (packet : List ℕ) → IsBytes packet → length packet ≡ 4 * s.image.packet → Good s → Good (with_packet packet s))
    (forgets : (s : Session) → Good s → Good (without_packets s))
    (outcomes : (s : Session) (os : List (Option RunResult)) → Good s → AllZip (HasOutcome s.image) s.packets os
    → AllZip (HasOutcome' s.image) s.packets os)
  where
    -- ---- sessions that can be open

    abbrev AreGood : List Session → Type 0
    AreGood sessions = AllByRecursion Good sessions

    either_good : (b : Bool) (xs ys : List Session) → AreGood xs → AreGood ys → AreGood (if b then xs else ys)
    either_good true xs ys g h = g
    either_good false xs ys g h = h

    good_with : (new : Session) (sessions : List Session) → Good new → AreGood sessions → AreGood (with_session new sessions)
    good_with new [] g all = (g, tt)
    good_with new (s ∷ sessions) g all =
        either_good (is_of new.name s) (new ∷ sessions) (s ∷ with_session new sessions) (g, all.1) (all.0, good_with new sessions g all.1)

    good_without : (name : List ℕ) (sessions : List Session) → AreGood sessions → AreGood (without_session name sessions)
    good_without name [] all = tt
    good_without name (s ∷ sessions) all =
        either_good (is_of name s) sessions (s ∷ without_session name sessions) all.1 (all.0, good_without name sessions all.1)

    abbrev Changes : (Session → Session) → List ℕ → List Session → Type 0
    Changes change name sessions = (s : Session) → session_named name sessions ≡ Some s → Good s → Good (change s)

    good_changed : (change : Session → Session) (name : List ℕ) (sessions : List Session) → Changes change name sessions → AreGood sessions
        → AreGood (with_changed change name sessions)
    good_changed change name [] h all = tt
    good_changed change name (s ∷ sessions) h all = by_test (is_of name s) refl (λ k. good_changed change name sessions k all.1)
      where
        by_test : (b : Bool) → is_of name s ≡ b → (Changes change name sessions → AreGood (with_changed change name sessions))
            → AreGood (if b then change s ∷ sessions else s ∷ with_changed change name sessions)
        by_test true e rest = (h s (ap (λ b. if b then Some s else session_named name sessions) e) all.0, all.1)
        by_test false e rest = (all.0, rest (λ t is. h t (ap (λ b. if b then Some s else session_named name sessions) e ∙ is)))

    good_named : (name : List ℕ) (sessions : List Session) → AreGood sessions → (s : Session) → session_named name sessions ≡ Some s → Good s
    good_named name [] all s is = absurd cc
    good_named name (t ∷ sessions) all s is = by_test (is_of name t) is (good_named name sessions all.1 s)
      where
        by_test : (b : Bool) → (if b then Some t else session_named name sessions) ≡ Some s → (session_named name sessions ≡ Some s → Good s) → Good s
        by_test true e rest = subst Good (same_Some t s e) all.0
        by_test false e rest = rest e

    all_forgotten : (sessions : List Session) → AreGood sessions → AreGood (map without_packets sessions)
    all_forgotten [] all = tt
    all_forgotten (s ∷ sessions) all = (forgets s all.0, all_forgotten sessions all.1)

    module _ (name packet : List ℕ) (bytes : IsBytes packet) (before : List Session) (all : AreGood before) where
      abbrev More : List Session
      More = with_changed (with_packet packet) name before

      kept : (s : Session) → session_named name before ≡ Some s → (length packet == 4 * s.image.packet) ≡ true → AreGood More
      kept s is test =
          good_changed (with_packet packet) name before (λ t is'.
          let long : length packet ≡ 4 * s.image.packet = grind (arith, nat_tests, test) in
          keeps t packet bytes (long ∙ ap (λ (u : Session). 4 * u.image.packet) (same_Some s t (sym is ∙ is')))) all

      by_room : (full : Bool) (count : ℕ) → AreGood More → AreGood (unless_refused (if full then Refused P3 else Kept count) before More)
      by_room true count more = all
      by_room false count more = more

      by_length : (s : Session) → session_named name before ≡ Some s → (b : Bool) → (length packet == 4 * s.image.packet) ≡ b
          → AreGood (unless_refused (if not b then Refused P1 else if nat_le most_packets (length s.packets) then Refused P3 else Kept (length s.packets))
          before More)
      by_length s is false e = all
      by_length s is true e = by_room (nat_le most_packets (length s.packets)) (length s.packets) (kept s is e)

      by_session : (o : Option Session) → session_named name before ≡ o → AreGood (unless_refused (answer_to_packet o packet) before More)
      by_session None e = all
      by_session (Some s) e = by_length s e (length packet == 4 * s.image.packet) refl

    good_image : (full : Bool) (name text : List ℕ) (before after : List Session) → AreGood before → IsAfterImage Judges full name text before after
        → AreGood after
    good_image true name text before after all is = subst AreGood (sym is) all
    good_image false name text before after all (Accepts image budget, judged, is) =
        subst AreGood (sym is) (good_with record { name = name; image = image; packets = [] } before (opens name text image budget judged) all)
    good_image false name text before after all (Refuses code place, judged, is) = subst AreGood (sym is) all

    spelled : (long : Bool) (says name packet : List ℕ) → IsAsked long says (Some (ToKeep name packet)) → IsBytes packet
    spelled true says name packet asks = absurd cc
    spelled false says name packet asks = (spelled_by_digits asks.0 packet asks.2).small

    good_after : (long : Bool) (says : List ℕ) (asked : Option Asked) (before after : List Session) → AreGood before → IsAsked long says asked
        → IsAfter Judges asked before after → AreGood after
    good_after long says None before after all asks is = subst AreGood (sym is) all
    good_after long says (Some (ToList code)) before after all asks is = subst AreGood (sym is) all
    good_after long says (Some (ToOpen name text)) before after all asks is = good_image (is_full name before) name text before after all is
    good_after long says (Some (ToKeep name packet)) before after all asks is =
        subst AreGood (sym is) (by_session name packet (spelled long says name packet asks) before all (session_named name before) refl)
    good_after long says (Some (ToRun name)) before after all asks is =
        subst AreGood (sym is) (good_changed without_packets name before (λ s named_so. forgets s) all)
    good_after long says (Some ToRunAll) before after all asks is = subst AreGood (sym is) (all_forgotten before all)
    good_after long says (Some (ToDrop name)) before after all asks is = subst AreGood (sym is) (good_without name before all)

    -- ---- one line

    image_so : (full : Bool) (text : List ℕ) (a : Answer) → IsAnswerToImage Judges full text a → IsAnswerToImage Judges' full text a
    image_so true text a is = is
    image_so false text a (v, judged, is) = (v, verdicts text v judged, is)

    run_so : (name : List ℕ) (before : List Session) (a : Answer) → AreGood before → (o : Option Session) → session_named name before ≡ o
        → IsAnswerToRun HasOutcome o a → IsAnswerToRun HasOutcome' o a
    run_so name before a all None e is = is
    run_so name before a all (Some s) e (os, each, is) = (os, outcomes s os (good_named name before all s e) each, is)

    runs_so : (sessions : List Session) (runs : List (List ℕ × List (Option RunResult))) → AreGood sessions
        → AllZip (IsRun HasOutcome) sessions runs → AllZip (IsRun HasOutcome') sessions runs
    runs_so [] [] all is = tt
    runs_so [] (r ∷ runs) all is = absurd is
    runs_so (s ∷ sessions) [] all is = absurd is
    runs_so (s ∷ sessions) (r ∷ runs) all is = ((is.0.0, outcomes s r.1 all.0 is.0.1), runs_so sessions runs all.1 is.1)

    answer_so : (asked : Option Asked) (before : List Session) (a : Answer) → AreGood before → IsAnswer Judges HasOutcome asked before a
        → IsAnswer Judges' HasOutcome' asked before a
    answer_so None before a all is = is
    answer_so (Some (ToList code)) before a all is = is
    answer_so (Some (ToOpen name text)) before a all is = image_so (is_full name before) text a is
    answer_so (Some (ToKeep name packet)) before a all is = is
    answer_so (Some (ToRun name)) before a all is = run_so name before a all (session_named name before) refl is
    answer_so (Some ToRunAll) before a all (runs, each, is) = (runs, runs_so before runs all each, is)
    answer_so (Some (ToDrop name)) before a all is = is

    image_after_so : (full : Bool) (name text : List ℕ) (before after : List Session) → IsAfterImage Judges full name text before after
        → IsAfterImage Judges' full name text before after
    image_after_so true name text before after is = is
    image_after_so false name text before after (v, judged, is) = (v, verdicts text v judged, is)

    after_so : (asked : Option Asked) (before after : List Session) → IsAfter Judges asked before after → IsAfter Judges' asked before after
    after_so None before after is = is
    after_so (Some (ToList code)) before after is = is
    after_so (Some (ToOpen name text)) before after is = image_after_so (is_full name before) name text before after is
    after_so (Some (ToKeep name packet)) before after is = is
    after_so (Some (ToRun name)) before after is = is
    after_so (Some ToRunAll) before after is = is
    after_so (Some (ToDrop name)) before after is = is

    -- ---- an input

    answers_so : (trace : Bool) (number : ℕ) (before : List Session) (lines : List Line) (output : List ℕ) (after : List Session) → AreGood before
        → AreAnswers Judges HasOutcome trace number before lines output after → AreAnswers Judges' HasOutcome' trace number before lines output after
    answers_so trace number before [] output after all is = is
    answers_so trace number before (line ∷ lines) output after all (a, between, rest, one, each, is) =
        let next = good_after (nat_lt most_line (length line.bytes)) (said_in line) one.asked before between all one.asks one.after_is in (
          a,
          between,
          rest,
          record {
            asked = one.asked;
            asks = one.asks;
            answer_is = answer_so one.asked before a all one.answer_is;
            after_is = after_so one.asked before between one.after_is;
          },
          answers_so trace (next_number number) between lines rest after next each,
          is,
        )

    pub told_so : (trace : Bool) (lines : List Line) (output : List ℕ) → AreAnswered Judges HasOutcome trace lines output
        → AreAnswered Judges' HasOutcome' trace lines output
    told_so trace lines output (after, is) = (after, answers_so trace 1 [] lines output after tt is)
