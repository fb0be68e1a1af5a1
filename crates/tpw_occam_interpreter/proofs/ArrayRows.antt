-- Arrays of a memory.
use Rattle.std.proofs.Common.{◌≡◌, ℕ, ◌+◌, ◌*◌, ◌<◌, ◌==◌, List, [], ◌∷◌, refl, map, length, get_or, if◌then◌else◌, arith, ap, ◌∙◌}
use Rattle.std.proofs.Math.ListN.{set}
use Rattle.std.proofs.lemmas.List.{map-set}
use Rattle.std.proofs.lemmas.Grind.{common_steps}
use Rattle.std.specs.declared.vec.Vec.{Vec}
use Rattle.std.specs.declared.alloc.Global.{Global}
use Rattle.std.specs.Int.{w32, to_le_bytes}
use Rattle.tpw_occam_core.specs.declared.kind.Kind.{Kind}
use Rattle.tpw_occam_core.specs.declared.kind.Kind.TheVariants.{Word, Byte}
use Rattle.tpw_occam_core.specs.Arrays.{written, with_element}
use Rattle.tpw_occam_interpreter.specs.Memories.{row}

set_at : (ys : List (List ℕ)) (a b : ℕ) (w : List ℕ) → a < length ys →
    get_or (set ys a w) b [] ≡ (if b == a then w else get_or ys b [])
set_at ys a b w h = grind (arith, common_steps)

pub row_set : (xs : List (Vec ℕ Global)) (a b : ℕ) (v : Vec ℕ Global) → a < length xs →
    row (set xs a v) b ≡ (if b == a then v.items else row xs b)
row_set xs a b v h =
    let f : Vec ℕ Global → List ℕ = λ v. v.items in
    let short : a < length (map f xs) = grind (arith, common_steps) in
    ap (λ ys. get_or ys b []) (map-set f xs a v) ∙ set_at (map f xs) a b v.items short

pub row_at : (xs : List (Vec ℕ Global)) (a : ℕ) (d : Vec ℕ Global) → a < length xs → row xs a ≡ (get_or xs a d).items
row_at xs a d h = grind (arith, common_steps)

written_nowhere : (at : ℕ) (bytes : List ℕ) → written [] at bytes ≡ []
written_nowhere at [] = refl
written_nowhere at (byte ∷ more) = written_nowhere (at + 1) more

-- an array that is not there has no elements
pub no_element : (kind : Kind) (i word : ℕ) → with_element kind [] i word ≡ []
no_element Word i word = written_nowhere (4 * i) (to_le_bytes w32 word)
no_element Byte i word = refl
