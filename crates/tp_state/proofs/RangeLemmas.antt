-- What is made of the ends of ranges.
use Rattle.std.proofs.Common.{◌≡◌, ℤ}
use Rattle.tp_state.specs.declared.kind.Kind.{Kind}
use Rattle.tp_state.specs.Kinds.{range, hull}

pub range_made : {r : Kind} {low' high' low high : ℤ} → r ≡ range low' high' → low' ≡ low → high' ≡ high → r ≡ range low high
range_made e f g = rw (← f, ← g) e

pub hull_made : {r : Kind} {a' b' c' d' a b c d : ℤ} → r ≡ hull a' b' c' d' → a' ≡ a → b' ≡ b → c' ≡ c → d' ≡ d → r ≡ hull a b c d
hull_made e f g h k = rw (← f, ← g, ← h, ← k) e
