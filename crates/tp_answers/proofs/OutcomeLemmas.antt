-- Lemmas about outcomes.
use Rattle.std.proofs.Common.{◌≡◌, ℕ, zero, suc, ◌+◌, Bool, List, [], ◌∷◌, ◌++◌, take, map, slice_get, Some, ap, sym, ◌∙◌, arith}
use Rattle.std.proofs.Common.{append_assoc, add-one, codes, Option}
use Rattle.std.specs.List.{flat_map}
use Rattle.std.proofs.lemmas.List.{append-nil}
use Rattle.std.proofs.lemmas.Option.{same_Some}
use Rattle.arrayvec.specs.declared.array_vec.ArrayVec.{ArrayVec}
use Rattle.tp_answers.specs.Results.{RunResult}
use Rattle.tp_answers.specs.Texts.{text_line, outcome_lines, outcomes_lines, session_lines}

-- one packet more
pub lines_more : (trace : Bool) (runs : List (Option RunResult)) (i : ℕ) (o : Option RunResult) → slice_get runs i ≡ Some o
    → outcomes_lines trace 0 (take (i + 1) runs) ≡ outcomes_lines trace 0 (take i runs) ++ outcome_lines trace i o
lines_more trace runs i o is =
    let same : 0 + i ≡ i = omega arith in
    ap (λ n. outcomes_lines trace 0 (take n runs)) (add-one i) ∙ from 0 runs i o is
    ∙ ap (λ n. outcomes_lines trace 0 (take i runs) ++ outcome_lines trace n o) same
  where
    from : (n : ℕ) (runs : List (Option RunResult)) (i : ℕ) (o : Option RunResult) → slice_get runs i ≡ Some o
        → outcomes_lines trace n (take (suc i) runs) ≡ outcomes_lines trace n (take i runs) ++ outcome_lines trace (n + i) o
    from n [] i o is = cc
    from n (x ∷ runs) zero o is =
        let same : n ≡ n + zero = omega arith in
        append-nil (outcome_lines trace n x) ∙ ap (outcome_lines trace n) (same_Some x o is)
        ∙ ap (λ m. outcome_lines trace m o) same
    from n (x ∷ runs) (suc i) o is =
        let same : (n + 1) + i ≡ n + suc i = omega arith in
        let first = outcome_lines trace n x in
        ap (λ l. first ++ l) (from (n + 1) runs i o is
        ∙ ap (λ m. outcomes_lines trace (n + 1) (take i runs) ++ outcome_lines trace m o) same)
        ∙ sym (append_assoc first (outcomes_lines trace (n + 1) (take i runs)) (outcome_lines trace (n + suc i) o))

-- ---- several sessions

abbrev Named : Type 0
Named = ArrayVec ℕ 16 (Unit {0}) × List (Option RunResult)

abbrev pub seen : Named → List ℕ × List (Option RunResult)
seen session = (session.0.items, session.1)

abbrev pub runs_of : Bool → List Named → List ℕ
runs_of trace sessions = flat_map (session_lines trace) (map seen sessions)

-- one session more
pub runs_more : (trace : Bool) (sessions : List Named) (i : ℕ) (s : Named) → slice_get sessions i ≡ Some s
    → runs_of trace (take (i + 1) sessions) ≡ runs_of trace (take i sessions) ++ session_lines trace (seen s)
runs_more trace sessions i s is = ap (λ n. runs_of trace (take n sessions)) (add-one i) ∙ from sessions i s is
  where
    from : (sessions : List Named) (i : ℕ) (s : Named) → slice_get sessions i ≡ Some s
        → runs_of trace (take (suc i) sessions) ≡ runs_of trace (take i sessions) ++ session_lines trace (seen s)
    from [] i s is = cc
    from (x ∷ sessions) zero s is =
        append-nil (session_lines trace (seen x)) ∙ ap (λ y. session_lines trace (seen y)) (same_Some x s is)
    from (x ∷ sessions) (suc i) s is =
        ap (λ l. session_lines trace (seen x) ++ l) (from sessions i s is)
        ∙ sym (append_assoc (session_lines trace (seen x)) (runs_of trace (take i sessions)) (session_lines trace (seen s)))

-- a session's lines are its name's line and those of its packets, one behind another
pub session_told : (before name run : List ℕ) {a b c d : List ℕ} → a ≡ before ++ codes "OF " → b ≡ a ++ name → c ≡ b ++ codes "\n"
    → d ≡ c ++ run → d ≡ before ++ (text_line (codes "OF " ++ name) ++ run)
session_told before name run at_a at_b at_c at_d =
    at_d ∙ ap (λ l. l ++ run) (at_c ∙ ap (λ l. l ++ codes "\n") (at_b ∙ ap (λ l. l ++ name) at_a)) ∙ simp append_assoc
