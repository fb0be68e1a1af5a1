-- One process after another.
use Rattle.std.proofs.Common.{◌≡◌, refl}
use Rattle.std.specs.Prelude.{Some, None}
use Rattle.tpw_occam_meaning.specs.Effects.{Effect, followed_by}

pub followed_in_pairs : (a b c : Effect) → followed_by a (followed_by b c) ≡ followed_by (followed_by a b) c
followed_in_pairs None b c = refl
followed_in_pairs (Some f) None c = refl
followed_in_pairs (Some f) (Some g) None = refl
followed_in_pairs (Some f) (Some g) (Some h) = refl
