-- The first state is sound, and so is a join of sound states.
use Rattle.std.proofs.Common.{◌≡◌, ℕ, suc, ◌-◌, ◌^◌, ◌<◌, ◌≤◌, ◌==◌, if◌then◌else◌, min, max, Bool, true, false, ℤ, pos, List, [], ◌∷◌, map, replicate, length, length-append, sym, ◌∙◌, arith}
use Rattle.std.specs.Prelude.{All}
use Rattle.std.specs.Ordering.{int_eq}
use Rattle.std.proofs.lemmas.Int.{ints, clamps}
use Rattle.std.proofs.lemmas.List.{length-map, length-replicate}
use Rattle.std.proofs.lemmas.List.Elements.{All-nil, All-cons, All-map, All-append, All-replicate}
use Rattle.tp_words.specs.Words.{signed}
use Rattle.tp_image.specs.declared.image.LoopRow.{LoopRow}
use Rattle.tp_image.specs.declared.image.Version.{Version}
use Rattle.tp_image.specs.declared.image.Version.TheVariants.{One, Two}
use Rattle.tp_image.specs.Image.{ImageValue, InRange, most_initial}
use Rattle.tp_state.specs.declared.kind.Kind.{Kind}
use Rattle.tp_state.specs.declared.kind.Kind.TheVariants as kind
use Rattle.tp_state.specs.declared.cell.Cell.{Cell}
use Rattle.tp_state.specs.declared.cell.Cell.TheVariants as cell
use Rattle.tp_state.specs.declared.state.State.{State}
use Rattle.tp_state.specs.Sound.{IsRange, AreInOrder, IsSoundKind, IsSoundCell, IsSound}
use Rattle.tp_state.specs.Order.{join_kinds, join_cells, joined_cells, join}
use Rattle.tp_state.specs.Entry.{entry}
use Rattle.tp_state.proofs.JoinLemmas.{length-joined}
use Rattle.tp_state.proofs.WordLemmas.{signed_above, signed_below}

-- ---- joins

int_join : (a b c d : ℤ) → IsSoundKind (kind.Int a b) → IsSoundKind (kind.Int c d) → IsSoundKind (join_kinds (kind.Int a b) (kind.Int c d))
int_join a b c d f g = let fl = f.least in let fo = f.ordered in let fg = f.greatest in let gl = g.least in let go =
    g.ordered in let gg = g.greatest in record {
      least = omega (arith, ints, clamps);
      ordered = omega (arith, ints, clamps);
      greatest = omega (arith, ints, clamps);
    }

places_join : (p q r s : ℕ) → AreInOrder p q → AreInOrder r s → AreInOrder (min p r) (max q s)
places_join p q r s f g = let fo = f.ordered in let fg = f.greatest in let go = g.ordered in let gg = g.greatest in record { ordered = omega arith; greatest = omega arith }

kinds_joined : (k l : Kind) → IsSoundKind k → IsSoundKind l → IsSoundKind (join_kinds k l)
kinds_joined (kind.Int a b) (kind.Int c d) f g = int_join a b c d f g
kinds_joined (kind.Ptr p q) (kind.Ptr r s) f g = places_join p q r s f g
kinds_joined (kind.BytePtr p q) (kind.BytePtr r s) f g = places_join p q r s f g
kinds_joined kind.Undef l f g = tt
kinds_joined (kind.Int a b) kind.Undef f g = tt
kinds_joined (kind.Int a b) (kind.Ptr r s) f g = tt
kinds_joined (kind.Int a b) (kind.BytePtr r s) f g = tt
kinds_joined (kind.Ptr p q) kind.Undef f g = tt
kinds_joined (kind.Ptr p q) (kind.Int c d) f g = tt
kinds_joined (kind.Ptr p q) (kind.BytePtr r s) f g = tt
kinds_joined (kind.BytePtr p q) kind.Undef f g = tt
kinds_joined (kind.BytePtr p q) (kind.Int c d) f g = tt
kinds_joined (kind.BytePtr p q) (kind.Ptr r s) f g = tt

known_joined : (rows : List LoopRow) (n : ℤ) (p : Bool) → IsRange n n → IsSoundCell rows (if p then cell.Known n else cell.Any)
known_joined rows n true f = f
known_joined rows n false f = tt

live_joined : (rows : List LoopRow) (make : ℕ → Cell) (l : ℕ) (p : Bool) → IsSoundCell rows (make l) → IsSoundCell rows (if p then make l else cell.Undef)
live_joined rows make l true f = f
live_joined rows make l false f = tt

cells_joined : (rows : List LoopRow) (c d : Cell) → IsSoundCell rows c → IsSoundCell rows (join_cells c d)
cells_joined rows (cell.Known n) (cell.Known m) f = known_joined rows n (int_eq n m) f
cells_joined rows (cell.Known n) cell.Any f = tt
cells_joined rows (cell.Known n) cell.Undef f = tt
cells_joined rows (cell.Known n) (cell.Index k) f = tt
cells_joined rows (cell.Known n) (cell.Count k) f = tt
cells_joined rows cell.Any (cell.Known m) f = tt
cells_joined rows cell.Any cell.Any f = tt
cells_joined rows cell.Any cell.Undef f = tt
cells_joined rows cell.Any (cell.Index k) f = tt
cells_joined rows cell.Any (cell.Count k) f = tt
cells_joined rows cell.Undef d f = tt
cells_joined rows (cell.Index l) (cell.Index k) f = live_joined rows cell.Index l (l == k) f
cells_joined rows (cell.Index l) cell.Undef f = tt
cells_joined rows (cell.Index l) cell.Any f = tt
cells_joined rows (cell.Index l) (cell.Known m) f = tt
cells_joined rows (cell.Index l) (cell.Count k) f = tt
cells_joined rows (cell.Count l) (cell.Count k) f = live_joined rows cell.Count l (l == k) f
cells_joined rows (cell.Count l) cell.Undef f = tt
cells_joined rows (cell.Count l) cell.Any f = tt
cells_joined rows (cell.Count l) (cell.Known m) f = tt
cells_joined rows (cell.Count l) (cell.Index k) f = tt

all_joined : (rows : List LoopRow) (cs ds : List Cell) → All (IsSoundCell rows) cs → All (IsSoundCell rows) (joined_cells cs ds)
all_joined rows [] ds f = All-nil (IsSoundCell rows)
all_joined rows (c ∷ cs) [] f = All-nil (IsSoundCell rows)
all_joined rows (c ∷ cs) (d ∷ ds) f =
    All-cons (IsSoundCell rows) (join_cells c d) (joined_cells cs ds) (cells_joined rows c d (f 0 c (omega arith))) (all_joined rows cs ds (λ i e lt. f (suc i) e (omega (arith, lt))))

pub join_sound : (image : ImageValue) (t s : State) → IsSound image t → IsSound image s → IsSound image (join t s)
join_sound image t s f g = record {
  placed = record { roomy = f.placed.roomy; inside = f.placed.inside; sized = length-joined t.cells s.cells (g.placed.sized ∙ sym f.placed.sized) ∙ f.placed.sized };
  a = kinds_joined t.a s.a f.a g.a;
  b = kinds_joined t.b s.b f.b g.b;
  c = kinds_joined t.c s.c f.c g.c;
  words = all_joined image.loops t.cells s.cells f.words;
}

-- ---- the first state

initial_few : (image : ImageValue) → InRange image → length image.initial ≤ image.workspace
initial_few image range = by_version image.version range.initial
  where
    by_version : (v : Version) → length image.initial ≤ most_initial v image.workspace → length image.initial ≤ image.workspace
    by_version One le = omega (arith, le)
    by_version Two le = le

signed_fits : (v : ℕ) → v < 2 ^ 32 → IsRange (signed v) (signed v)
signed_fits v lt = record { least = signed_above v lt; ordered = omega (arith, ints); greatest = signed_below v lt }

pub entry_sound : (image : ImageValue) → InRange image → IsSound image (entry image)
entry_sound image range = record {
  placed = record { roomy = range.start_least; inside = range.start_most; sized = sized };
  a = tt;
  b = tt;
  c = tt;
  words = All-append (IsSoundCell image.loops) _ _ (All-map (IsSoundCell image.loops) (λ word. cell.Known (signed word))
      image.initial (λ i d lt. signed_fits _ (range.words i d lt)))
      (All-replicate (IsSoundCell image.loops) (image.workspace - length image.initial) (cell.Known (pos 0))
      (record { least = omega (arith, ints); ordered = omega (arith, ints); greatest = omega (arith, ints) }));
}
  where
    sized : length (entry image).cells ≡ image.workspace
    sized =
        let few = initial_few image range in
        length-append (map (λ word. cell.Known (signed word)) image.initial) (replicate (image.workspace - length image.initial) (cell.Known (pos 0)))
        ∙ omega (arith, few, length-map image.initial (λ word. cell.Known (signed word)), length-replicate (image.workspace - length image.initial) (cell.Known (pos 0)))
