-- Lines of bytes that have no line feed, and of those that have one.
use Rattle.std.proofs.Common.{◌≡◌, ℕ, zero, suc, ◌≤◌, Bool, true, false}
use Rattle.std.proofs.Common.{List, [], ◌∷◌, ◌++◌, length, take, refl, ap, arith}
use Rattle.std.specs.List.{filter}
use Rattle.tp_requests.specs.Lines.{Line, line_feed, onto_first, lines_of, ended_lines}
use Rattle.tp_session.specs.Points.{IsPlain}

pub take_all : (n : ℕ) (xs : List ℕ) → length xs ≤ n → take n xs ≡ xs
take_all n [] h = by_case n
  where
    by_case : (n : ℕ) → take {A = ℕ} n [] ≡ []
    by_case zero = refl
    by_case (suc n) = refl
take_all zero (x ∷ xs) h = absurd (omega arith)
take_all (suc n) (x ∷ xs) h = ap (λ l. x ∷ l) (take_all n xs (omega arith))

pub plain_more : (xs ys : List ℕ) → IsPlain xs → IsPlain ys → IsPlain (xs ++ ys)
plain_more [] ys plain more = more
plain_more (x ∷ xs) ys plain more = (plain.0, plain_more xs ys plain.1 more)

pub lines_plain : (b : ℕ) (bytes : List ℕ) → IsPlain (b ∷ bytes)
    → lines_of (b ∷ bytes) ≡ record { bytes = b ∷ bytes; ended = false } ∷ []
unfolding lines_of
lines_plain b [] plain = rw (plain.0) refl
lines_plain b (c ∷ bytes) plain = rw (plain.0) (ap (onto_first b) (lines_plain c bytes plain.1))

pub lines_none : lines_of [] ≡ []
unfolding lines_of
lines_none = refl

-- plain bytes and a line feed are a line
pub lines_ended : (bytes rest : List ℕ) → IsPlain bytes
    → lines_of (bytes ++ line_feed ∷ rest) ≡ record { bytes = bytes; ended = true } ∷ lines_of rest
unfolding lines_of
lines_ended [] rest plain = refl
lines_ended (b ∷ bytes) rest plain = rw (plain.0) (ap (onto_first b) (lines_ended bytes rest plain.1))

pub ended_plain : (bytes : List ℕ) → IsPlain bytes → ended_lines bytes ≡ []
unfolding lines_of
ended_plain [] plain = refl
ended_plain (b ∷ bytes) plain = ap (filter (λ line. line.ended)) (lines_plain b bytes plain)

pub filter-append : (test : Line → Bool) (xs ys : List Line) → filter test (xs ++ ys) ≡ filter test xs ++ filter test ys
filter-append test [] ys = refl
filter-append test (x ∷ xs) ys = by_test (filter-append test xs ys) (test x) refl
  where
    by_test : filter test (xs ++ ys) ≡ filter test xs ++ filter test ys → (t : Bool) → test x ≡ t
        → filter test (x ∷ xs ++ ys) ≡ filter test (x ∷ xs) ++ filter test ys
    by_test rest true e = rw e (ap (λ l. x ∷ l) rest)
    by_test rest false e = rw e rest
