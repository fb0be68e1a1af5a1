-- What a report shows of packets, one after another, and what becomes of it.
use Rattle.std.specs.Prelude.{◌≡◌, ℕ, List, [], ◌∷◌, ◌++◌}
use Rattle.tp_collect.specs.declared.collected.Entry.{Entry}

-- Of no packet a report shows nothing, and stays as it is; of packets, a text of the first, and behind it what the
-- report that it then is shows of the others.
abbrev pub ShowsAll : {R : Type 0} → (text : R → List ℕ → Entry → List ℕ) → (becomes : R → List ℕ → Entry → R → Type 0)
    → (old : R) → List (List ℕ) → List Entry → List ℕ → (new : R) → Type 0
ShowsAll text becomes old [] [] all new = (all ≡ []) × (new ≡ old)
ShowsAll {R} text becomes old (packet ∷ packets) (entry ∷ entries) all new =
    (next : R) × becomes old packet entry next
    × ((rest : List ℕ) × (all ≡ text old packet entry ++ rest) × ShowsAll text becomes next packets entries rest new)
ShowsAll text becomes old packets entries all new = ⊥
