-- How control reaches addresses, as the passes find it.
use Rattle.std.specs.Prelude.{◌≡◌, ℕ, suc, ◌==◌, Bool, true, false, if◌then◌else◌, List, slice_index_or, Some}
use Rattle.std.specs.List.{count_by}
use Rattle.tp_decode.specs.declared.placed.Placed.{Placed}
use Rattle.tp_decode.specs.Cutting.{Cut}
use Rattle.tp_flow.specs.declared.edge.Edge.{Edge}
use Rattle.tp_image.specs.Image.{ImageValue}
use Rattle.tp_check.specs.declared.predecessors.Predecessor.{Predecessor}
use Rattle.tp_check.specs.declared.predecessors.Predecessor.TheVariants as predecessor
use Rattle.tp_check.specs.Passes.{edges_in}
use Rattle.tp_check.specs.Carried.{IsAmong, target_of, leads_to, reached, is_head, is_kept}

abbrev pub predecessor_at : List Predecessor → ℕ → Predecessor
predecessor_at predecessors at = slice_index_or predecessors at predecessor.Unreached

-- whether a state is kept at an address while the passes are made
abbrev pub is_join : Predecessor → Bool
is_join predecessor.Jump = true
is_join predecessor.Joined = true
is_join w = false

-- and in the table
abbrev pub is_joined : Predecessor → Bool
is_joined predecessor.Joined = true
is_joined w = false

abbrev pub is_join_at : List Predecessor → ℕ → Bool
is_join_at predecessors at = is_join (predecessor_at predecessors at)

abbrev pub is_kept_at : List Predecessor → ℕ → Bool
is_kept_at predecessors at = is_joined (predecessor_at predecessors at)

-- one edge more leads to an address
abbrev pub with_edge : Bool → Predecessor → Predecessor
with_edge falls predecessor.Unreached = if falls then predecessor.FallThrough else predecessor.Jump
with_edge falls w = predecessor.Joined

-- neither the first address nor a loop's head
pub record IsInner (image : ImageValue) (at : ℕ) : Type 0 where
  pub first : (at == 0) ≡ false
  pub head : is_head image at ≡ false

-- this many edges among some lead to an address
abbrev pub leading : ImageValue → ℕ → List (Placed × Edge) → ℕ
leading image at es = count_by (λ e. leads_to at (target_of image e)) es

-- an edge of a code by which control falls to an address
pub record HasFallThrough (image : ImageValue) (cuts : List Cut) (at : ℕ) : Type 0 where
  pub edge : Placed × Edge
  pub is : IsAmong (edges_in cuts) edge
  pub leads : target_of image edge ≡ Some at
  pub falls : at ≡ edge.0.next

-- what is known of an address where these edges have still to be counted
abbrev pub IsPredecessor : ImageValue → List Cut → List (Placed × Edge) → ℕ → Predecessor → Type 0
IsPredecessor image cuts rest at predecessor.Joined = is_kept image cuts at ≡ true
IsPredecessor image cuts rest at predecessor.Unreached =
    IsInner image at × (reached image cuts at ≡ leading image at rest)
IsPredecessor image cuts rest at predecessor.Jump =
    IsInner image at × (reached image cuts at ≡ suc (leading image at rest))
IsPredecessor image cuts rest at predecessor.FallThrough =
    IsInner image at × (reached image cuts at ≡ suc (leading image at rest)) × HasFallThrough image cuts at

abbrev pub ArePredecessors : ImageValue → List Cut → List (Placed × Edge) → List Predecessor → Type 0
ArePredecessors image cuts rest predecessors =
    (at : ℕ) → IsPredecessor image cuts rest at (predecessor_at predecessors at)
