-- Why a batch does not begin.
use Rattle.std.proofs.Common.{◌≡◌, ℕ, ◌+◌, ◌*◌, ◌<◌, ◌≤◌, Bool, true, false, not, cond, ◌==◌, ◌||◌, nat_lt, if◌then◌else◌, List}
use Rattle.std.proofs.Common.{All, [], ◌∷◌, map, position, length, get_or, Option, Some, None, Result, Ok, Err, IfOk, OnOk, refl, ap}
use Rattle.std.proofs.Common.{arith}
use Rattle.std.specs.List.{position_or_len}
use Rattle.std.specs.Option.{option_map}
use Rattle.std.proofs.lemmas.List.{length-map}
use Rattle.std.proofs.lemmas.List.Sums.{fails_before_first}
use Rattle.std.proofs.lemmas.Bool.Decides.{nat_tests}
use Rattle.tp_collect.specs.Collected.{JobValue}
use Rattle.tp_farm.specs.declared.fault.FarmFault.TheVariants.{Members, Packets, Length}
use Rattle.tp_farm.specs.Jobs.{AreWhole}
use Rattle.tp_board.specs.Limits.{most_packets, most_members}
use Rattle.tp_farm.specs.Refused.{job_fault, first_other, Begins}

module _ {X Y : Type 0} (f : X → Y) (p : Y → Bool) where
  first-map : (xs : List X) → position_or_len p (map f xs) ≡ position_or_len (λ x. p (f x)) xs
  first-map [] = refl
  first-map (x ∷ xs) = ap (λ n. cond (not (p (f x))) (1 + n) 0) (first-map xs)

  pub position-map : (xs : List X) → position p (map f xs) ≡ position (λ x. p (f x)) xs
  position-map xs = rw (first-map xs, length-map xs f) refl

-- neither G1 nor G2
pub job_begins : (members : ℕ) (batch : JobValue) → (members ≡ 0 → ⊥) → members ≤ 64 → length batch.packets ≤ 1024
    → job_fault members batch ≡ option_map Length (first_other batch)
job_begins members batch some few less =
    let tests : ((members == 0) || nat_lt most_members members) ≡ false = grind (arith, nat_tests) in
    let more : nat_lt most_packets (length batch.packets) ≡ false = grind (arith, nat_tests) in
    rw (tests, more) refl

module _ {X : Type 0} (p : X → Bool) (xs : List X) where
  no_first : position p xs ≡ None → length xs ≤ position_or_len p xs
  no_first e = by_test (nat_lt (position_or_len p xs) (length xs)) refl e
    where
      by_test : (b : Bool) → nat_lt (position_or_len p xs) (length xs) ≡ b → cond b (Some (position_or_len p xs)) None ≡ None
          → length xs ≤ position_or_len p xs
      by_test true is e = cc
      by_test false is e = grind (arith, nat_tests, is)

  all_other : position p xs ≡ None → (k : ℕ) (d : X) → k < length xs → p (get_or xs k d) ≡ false
  all_other e k d lt = fails_before_first p xs k d (omega (arith, no_first e, lt))

-- each packet has its length
first_long : (batch : JobValue) → first_other batch ≡ None → All (λ packet. length packet ≡ 4 * batch.image.packet) batch.packets
first_long batch e k d lt =
    same (get_or batch.packets k d) (all_other (λ packet. not (length packet == 4 * batch.image.packet)) batch.packets e k d lt)
  where
    same : (packet : List ℕ) → not (length packet == 4 * batch.image.packet) ≡ false → length packet ≡ 4 * batch.image.packet
    same packet is = grind (arith, nat_tests, is)

-- and is bytes
pub first_whole : (batch : JobValue) → first_other batch ≡ None → All (All (λ byte. byte < 256)) batch.packets → AreWhole batch
first_whole batch e bytes k d lt = record { long = first_long batch e k d lt; bytes = bytes k d lt }

-- no refusal
pub begun : (members : ℕ) (batch : JobValue) → AreWhole batch → job_fault members batch ≡ None → Begins members batch
begun members batch whole e =
    by_tests ((members == 0) || nat_lt most_members members) refl (nat_lt most_packets (length batch.packets)) refl
    (first_other batch) refl e
  where
    by_tests : (a : Bool) → ((members == 0) || nat_lt most_members members) ≡ a → (b : Bool)
        → nat_lt most_packets (length batch.packets) ≡ b → (o : Option ℕ) → first_other batch ≡ o
        → (if a then Some Members else if b then Some Packets else option_map Length o) ≡ None → Begins members batch
    by_tests true is b more o first e = cc
    by_tests false is true more o first e = cc
    by_tests false is false more (Some n) first e = cc
    by_tests false is false more None first e = record {
      some = grind (arith, nat_tests, is);
      few = grind (arith, nat_tests, is);
      less = grind (arith, nat_tests, more);
      whole = whole;
    }

pub on_ok : {A E : Type 0} (P : Type 0) (r : Result A E) → P → OnOk r P
on_ok P (Ok x) p = p
on_ok P (Err e) p = tt

pub if_ok : {A E : Type 0} (P Q : A → Type 0) (r : Result A E) → IfOk r P → ((x : A) → P x → Q x) → IfOk r Q
if_ok P Q (Ok x) p f = f x p
if_ok P Q (Err e) p f = tt
