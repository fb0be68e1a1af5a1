-- Reserved for what members give back.
use Rattle.std.specs.Prelude.{◌≡◌, ℕ, ◌≤◌, [], vec_len, vec_capacity}
use Rattle.tp_farm.specs.declared.batch.Reserved.{Reserved}

-- there is nothing in it, and this many have room
pub record HasRoom (members : ℕ) {D : Type 0} (room : Reserved D) : Type 0 where
  pub no_hands : room.hands.items ≡ []
  pub no_kept : room.kept.items ≡ []
  pub no_links : room.links.items ≡ []
  pub empty_hands : vec_len room.hands ≡ 0
  pub empty_kept : vec_len room.kept ≡ 0
  pub empty_links : vec_len room.links ≡ 0
  pub hands : members ≤ vec_capacity room.hands
  pub kept : members ≤ vec_capacity room.kept
  pub links : members ≤ vec_capacity room.links
