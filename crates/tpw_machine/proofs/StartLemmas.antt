-- The machine's tags at a run's start.
use Rattle.std.proofs.Common.{◌≡◌, ℕ, ◌-◌, ◌<◌, ◌≤◌, ◌⊎◌, inl, inr, Bool, true, false, nat_le, List, length, replicate, None, refl, arith, slice_index_or}
use Rattle.std.proofs.lemmas.Bool.{cases_lt}
use mathlib.Core.Path.{fun_ext}
use Rattle.std.proofs.lemmas.List.{length-replicate, get_or-replicate, get_or_past}
use Rattle.tp_step.specs.Memory.{nothing_defined}
use Rattle.tp_step.specs.State.{mem_start}
use Rattle.tpw_machine.specs.Meaning.{memory_of}

-- tags that are all clear leave nothing defined
pub all_clear : (n : ℕ) (bytes : List ℕ) → memory_of (replicate n false) bytes ≡ nothing_defined
unfolding memory_of
all_clear n bytes = fun_ext λ x. at x (nat_le mem_start x) refl (tag (x - mem_start) (cases_lt (x - mem_start) n))
  where
    tag : (i : ℕ) → (i < n) ⊎ (n ≤ i) → slice_index_or (replicate n false) i false ≡ false
    tag i (inl lt) = get_or-replicate n i false false lt
    tag i (inr le) = get_or_past (replicate n false) i false (let long : length (replicate n false) ≡ n = length-replicate n false in omega arith)

    at : (x : ℕ) (b : Bool) → nat_le mem_start x ≡ b → slice_index_or (replicate n false) (x - mem_start) false ≡ false → memory_of (replicate n false) bytes x ≡ None
    at x true le e = rw (le, e) refl
    at x false le e = rw le refl
