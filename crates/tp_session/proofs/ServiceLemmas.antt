-- The sessions of a service, and what is asked of it.
use Rattle.std.proofs.Common.{◌≡◌, ℕ, zero, suc, ◌≤◌, ◌<◌, List, [], ◌∷◌, ◌++◌, length, take, drop, map, slice_get, slice_set, Option, Some, None}
use Rattle.std.proofs.Common.{refl, ap, sym, subst, arith}
use Rattle.std.specs.List.{AllZip}
use Rattle.std.specs.Option.{option_map}
use Rattle.std.proofs.lemmas.Option.{same_Some}
use Rattle.hex.proofs.HexLemmas.{decode_of-ok}
use Rattle.tp_requests.specs.Requests.{Asked, ToList, ToOpen, ToKeep, ToRun, ToRunAll, ToDrop}
use Rattle.tp_requests.specs.Protocol.{IsLineFor, AsksFor}
use Rattle.tp_answers.specs.Sessions.{Session, without_packets}
use Rattle.tp_session.specs.Services.{IsListable}

-- a code that is to be listed is no longer than its line
pub listable : (line : List ℕ) (a : Asked) → length line ≤ 32768 → IsLineFor line a → IsListable a
listable line (ToList code) short (digits, are, is) =
    omega (arith, short, ap length is, (decode_of-ok digits code are.spell).2)
listable line (ToOpen name text) short is = tt
listable line (ToKeep name bytes) short is = tt
listable line (ToRun name) short is = tt
listable line ToRunAll short is = tt
listable line (ToDrop name) short is = tt

-- a request that was read
pub asks_known : {R : Type 0} (line : List ℕ) (value : R → Asked) (o : Option R) (r : R) → o ≡ Some r
    → AsksFor line (option_map value o) → IsLineFor line (value r)
asks_known {R} line value o r is asks = subst (λ (x : Option R). AsksFor line (option_map value x)) is asks

pub asks_nothing : {R : Type 0} (line : List ℕ) (value : R → Asked) (o : Option R) → o ≡ None → AsksFor line (option_map value o)
    → AsksFor line None
asks_nothing {R} line value o is asks = subst (λ (x : Option R). AsksFor line (option_map value x)) is asks

-- ---- the runs of all sessions

pub there : {X : Type 0} (xs : List X) (i : ℕ) → i < length xs → (x : X) × (slice_get xs i ≡ Some x)
there [] i h = absurd (omega (arith, h))
there (x ∷ xs) zero h = (x, refl)
there (x ∷ xs) (suc i) h = there xs i (omega (arith, h))

-- one pair more
pub one_more : {X Y : Type 0} (P : X → Y → Type 0) (xs : List X) (ys : List Y) (i : ℕ) (x : X) (y : Y) → slice_get xs i ≡ Some x
    → AllZip P (take i xs) ys → P x y → AllZip P (take (suc i) xs) (ys ++ y ∷ [])
one_more P [] ys i x y at all one = cc
one_more {X} P (first ∷ xs) [] zero x y at all one = (subst (λ (z : X). P z y) (sym (same_Some first x at)) one, tt)
one_more P (first ∷ xs) (z ∷ ys) zero x y at all one = absurd all
one_more P (first ∷ xs) [] (suc i) x y at all one = absurd all
one_more P (first ∷ xs) (z ∷ ys) (suc i) x y at all one = (all.0, one_more P xs ys i x y at all.1 one)

-- when this many sessions have forgotten their packets
abbrev pub partly : List Session → ℕ → List Session
partly sessions i = map without_packets (take i sessions) ++ drop i sessions

pub partly_at : (sessions : List Session) (i : ℕ) (s : Session) → slice_get sessions i ≡ Some s
    → slice_get (partly sessions i) i ≡ Some s
partly_at [] i s at = cc
partly_at (x ∷ sessions) zero s at = at
partly_at (x ∷ sessions) (suc i) s at = partly_at sessions i s at

pub partly_more : (sessions : List Session) (i : ℕ) (s : Session) → slice_get sessions i ≡ Some s
    → slice_set (partly sessions i) i (without_packets s) ≡ partly sessions (suc i)
partly_more [] i s at = cc
partly_more (x ∷ sessions) zero s at = ap (λ t. without_packets t ∷ sessions) (sym (same_Some x s at))
partly_more (x ∷ sessions) (suc i) s at = ap (λ l. without_packets x ∷ l) (partly_more sessions i s at)
