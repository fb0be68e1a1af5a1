-- The items of a slice of bytes are bytes.
use Rattle.std.proofs.Common.{◌≡◌, ℕ, suc, ◌<◌, true, List, [], ◌∷◌, nat_lt, refl, arith}
use Rattle.std.proofs.lemmas.Bool.Decides.{nat_tests}
use Rattle.std.specs.Prelude.{slice_index}
use Rattle.std.specs.List.{list_all}

below_is_true : (x : ℕ) → x < 256 → nat_lt x 256 ≡ true
below_is_true x h = grind (arith, nat_tests, h)

pub all_bytes : (bytes : List ℕ) → ((i : ℕ) → slice_index bytes i < 256) → list_all (λ b. nat_lt b 256) bytes ≡ true
all_bytes [] h = refl
all_bytes (b ∷ bytes) h = rw (below_is_true b (h 0)) (all_bytes bytes (λ i. h (suc i)))
