-- Items that are placed one behind another have words of their own.
use Rattle.std.proofs.Common.{◌≡◌, ℕ, ◌+◌, ◌*◌, ◌<◌, ◌≤◌, Bool, true, false, if◌then◌else◌, List, [], ◌∷◌, refl, sym, ◌∙◌, arith}
use Rattle.tp_image.specs.Image.{ImageValue}
use Rattle.tp_step.specs.State.{mem_start}
use Rattle.tpw_occam_symbolic.specs.declared.code.CodeLine.{CodeLine}
use Rattle.tpw_occam_symbolic.specs.declared.items.Item.{Item}
use Rattle.tpw_occam_symbolic.specs.declared.items.Placed.{Placed}
use Rattle.tpw_occam_symbolic.specs.Blocks.{is_item}
use Rattle.tpw_occam_symbolic.specs.Placing.{words_at, local_at, AreBetween, site_of}
use Rattle.tpw_occam_symbolic.proofs.Simulation.{same_item}
use Rattle.tpw_occam_symbolic.proofs.SimulationImage.{HasItems}

ends_behind : (first most : ℕ) (placed : List Placed) → AreBetween first most placed → first ≤ most
ends_behind first most [] are = are
ends_behind first most (one ∷ placed) are = omega (arith, are.0, ends_behind (one.local + one.words) most placed are.1)

-- an item that has words lies between
pub lies_between : (first most : ℕ) (placed : List Placed) (item : Item) → AreBetween first most placed → 0 < words_at placed item
    → (first ≤ local_at placed item) × (local_at placed item + words_at placed item ≤ most)
lies_between first most [] item are some = absurd (omega (arith, some))
lies_between first most (one ∷ placed) item are some = by_test (lies_between (one.local + one.words) most placed item are.1) (is_item one.item item) some
  where
    by_test : (0 < words_at placed item → (one.local + one.words ≤ local_at placed item) × (local_at placed item + words_at placed item ≤ most))
        → (b : Bool) → 0 < (if b then one.words else words_at placed item)
        → (first ≤ (if b then one.local else local_at placed item))
        × ((if b then one.local else local_at placed item) + (if b then one.words else words_at placed item) ≤ most)
    by_test go true some = (are.0, ends_behind (one.local + one.words) most placed are.1)
    by_test go false some = let rest = go some in (omega (arith, are.0, rest.0), rest.1)

-- a byte is that of one item
apart_in : (first most : ℕ) (placed : List Placed) (x y : Item) (i k : ℕ) → AreBetween first most placed
    → i < 4 * words_at placed x → k < 4 * words_at placed y → 4 * local_at placed x + i ≡ 4 * local_at placed y + k → x ≡ y
apart_in first most [] x y i k are hi hk same = absurd (omega (arith, hi))
apart_in first most (one ∷ placed) x y i k are hi hk same =
    by_test (apart_in (one.local + one.words) most placed x y i k are.1) (is_item one.item x) refl (is_item one.item y) refl hi hk same
  where
    by_test : (i < 4 * words_at placed x → k < 4 * words_at placed y → 4 * local_at placed x + i ≡ 4 * local_at placed y + k → x ≡ y)
        → (p : Bool) → is_item one.item x ≡ p → (q : Bool) → is_item one.item y ≡ q
        → i < 4 * (if p then one.words else words_at placed x) → k < 4 * (if q then one.words else words_at placed y)
        → 4 * (if p then one.local else local_at placed x) + i ≡ 4 * (if q then one.local else local_at placed y) + k → x ≡ y
    by_test go true e true f hi hk same = sym (same_item one.item x e) ∙ same_item one.item y f
    by_test go true e false f hi hk same =
        let some : 0 < words_at placed y = omega (arith, hk) in
        let there = lies_between (one.local + one.words) most placed y are.1 some in
        absurd (omega (arith, there.0, hi, same))
    by_test go false e true f hi hk same =
        let some : 0 < words_at placed x = omega (arith, hi) in
        let there = lies_between (one.local + one.words) most placed x are.1 some in
        absurd (omega (arith, there.0, hk, same))
    by_test go false e false f hi hk same = go hi hk same

pub has_items : (image : ImageValue) (code : List CodeLine) (addresses : List ℕ) (placed : List Placed) (most : ℕ)
    → AreBetween 0 most placed → image.start + most ≤ image.workspace
    → HasItems image (site_of code addresses (mem_start + 4 * image.start) placed)
has_items image code addresses placed most are room = record {
  inside = λ item some.
      let some' : 0 < words_at placed item = omega (arith, some) in
      let there = lies_between 0 most placed item are some' in
      (omega arith, omega (arith, there.1, room));
  apart = λ one other i k hi hk same. apart_in 0 most placed one other i k are hi hk (omega (arith, same));
}
