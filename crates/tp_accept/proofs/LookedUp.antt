-- What look-ups find.
use Rattle.std.proofs.Common.{◌≡◌, ℕ, suc, ◌+◌, ◌≤◌, Bool, true, false, cond, List, [], ◌∷◌, length, Contains, map, Option, Some, None, refl, ap, sym, ◌∙◌, arith}
use Rattle.std.specs.Option.{option_map_or}
use Rattle.std.specs.List.{find}
use Rattle.std.proofs.lemmas.List.{get_or-map, length-map}
use Rattle.tp_image.specs.Image.{ImageValue, InRange}
use Rattle.tp_decode.specs.Cutting.{Cut, IsCutting, cut_at}
use Rattle.tp_flow.specs.RowRules.{is_start, is_lend, is_lend_cut}
use Rattle.tp_accept.specs.Bound.{behind}

-- behind an instruction
pub behind_least : (cuts : List Cut) (at : ℕ) → at ≤ behind cuts at
behind_least cuts at = by_case (cut_at cuts at)
  where
    by_case : (o : Option Cut) → at ≤ option_map_or (λ cut. at + length cut.bytes) o at
    by_case None = omega arith
    by_case (Some cut) = omega arith

pub behind_is : (cuts : List Cut) (at : ℕ) (cut : Cut) → cut_at cuts at ≡ Some cut → behind cuts at ≡ at + length cut.bytes
behind_is cuts at cut is = ap (λ o. option_map_or (λ (c : Cut). at + length c.bytes) o at) is

-- what is found
pub found : {X : Type 0} (p : X → Bool) (xs : List X) (x : X) → find p xs ≡ Some x → Contains xs x × (p x ≡ true)
found p [] x is = absurd cc
found {X} p (y ∷ xs) x is = by_test (found p xs x) (p y) refl is
  where
    by_test : (find p xs ≡ Some x → Contains xs x × (p x ≡ true)) → (b : Bool) → p y ≡ b → cond b (Some y) (find p xs) ≡ Some x → Contains (y ∷ xs) x × (p x ≡ true)
    by_test go true e is = let same : y ≡ x = cc in ((0, omega arith, same), sym (ap p same) ∙ e)
    by_test go false e is = let rest = go is in ((suc rest.0.0, omega (arith, rest.0.1), rest.0.2), rest.1)

-- nothing is found where nothing passes
pub found_none : {X : Type 0} (p : X → Bool) (xs : List X) → ((x : X) → Contains xs x → p x ≡ false) → find p xs ≡ None
found_none p [] each = refl
found_none {X} p (x ∷ xs) each =
    ap (λ b. cond b (Some x) (find p xs)) (each x (0, omega arith, refl)) ∙ found_none p xs (λ y (k, k_in, at_k). each y (suc k, omega arith, at_k))

-- what a list of images contains
pub map_contains : {X Y : Type 0} (f : X → Y) (xs : List X) (x : X) → Contains xs x → Contains (map f xs) (f x)
map_contains f xs x (k, k_in, at_k) = (k, omega (arith, length-map xs f), get_or-map f xs k x (f x) k_in ∙ ap f at_k)

-- the lend that stands at a place
pub lend_cut : (o : Option Cut) → is_lend_cut o ≡ true → (cut : Cut) × (o ≡ Some cut) × (is_lend cut.instr ≡ true)
lend_cut None is = absurd cc
lend_cut (Some cut) is = (cut, refl, is)

-- a code of an image is not empty
pub first_starts : (image : ImageValue) (cuts : List Cut) → InRange image → IsCutting image.code cuts → is_start cuts 0 ≡ true
first_starts image [] range cutting = absurd (omega (arith, range.code.0, ap length cutting.joined))
first_starts image (cut ∷ cuts) range cutting = refl
