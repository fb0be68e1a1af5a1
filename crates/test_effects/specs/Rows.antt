-- What the rows of the table of short runs say.
use Rattle.std.specs.Prelude.{◌≡◌, ℕ, ◌-◌, true, ℤ, pos, List, [], ◌∷◌, length, map, Option, Some, None, option_map}
use Rattle.tp_words.specs.Words.{low_word}
use Rattle.tp_image.specs.Image.{ImageValue}
use Rattle.tp_step.specs.State.{State}
use Rattle.tp_step.specs.Steps.{step, steps, IsStuck}
use Rattle.test_effects.specs.declared.rows.Expected.{Expected}
use Rattle.test_effects.specs.declared.rows.Expected.TheVariants as expected
use Rattle.test_effects.specs.declared.rows.Row.{Row}
use Rattle.test_effects.specs.declared.rows.Group.{Group}
use Rattle.test_effects.specs.Trials.{image_of, bare, set_all, words_at}

-- there is such a state, it is stuck, and its Iptr is here, wrapped
abbrev pub IsStuckAt : ImageValue → (address : ℕ) → Option State → Type 0
IsStuckAt image address None = ⊥
IsStuckAt image address (Some s) = IsStuck image s × (low_word s.iptr ≡ address)

-- there is such a state, it has stopped, and no step leads on
abbrev pub IsTheEnd : ImageValue → Option State → Type 0
IsTheEnd image None = ⊥
IsTheEnd image (Some s) = (s.stopped ≡ true) × (step image s ≡ None)

-- all bytes of the code but the last are executed, and then it is stuck
abbrev pub SticksAtLast : ImageValue → State → Type 0
SticksAtLast image s = IsStuckAt image (length image.code - 1) (steps image (length image.code - 1) s)

-- Iptr, and the workspace words of these numbers, after n steps
abbrev pub seen_after : ImageValue → ℕ → List ℕ → State → Option (ℤ × List (Option ℕ))
seen_after image n numbers s = option_map (λ t. (t.iptr, words_at numbers t)) (steps image n s)

-- the outcome of a worker's run from a state
abbrev pub IsMet : ImageValue → State → Expected → Type 0
IsMet image s (expected.Leads to) =
    steps image (length image.code) s ≡ Some (set_all to.now (record bare { iptr = pos (length image.code) }))
IsMet image s expected.Sticks = SticksAtLast image s
IsMet image s (expected.SticksAtOnce address) = IsStuckAt image address (Some s)
IsMet image s expected.LacksPacket = SticksAtLast image s
IsMet image s (expected.Shows n iptr words) =
    seen_after image n (map (λ w. w.0) words.now) s ≡ Some (iptr, map (λ w. w.1) words.now)
IsMet image s (expected.Ends n) = IsTheEnd image (steps image n s)

-- the run of a row has the row's outcome
abbrev pub IsSo : Row → Type 0
IsSo row = IsMet (image_of row.worker row.code.now) (set_all row.from.now bare) row.expected

abbrev pub AreSo : List Row → Type 0
AreSo [] = Unit {0}
AreSo (row ∷ rows) = IsSo row × AreSo rows

-- and so of all groups
abbrev pub AllAreSo : List Group → Type 0
AllAreSo [] = Unit {0}
AllAreSo (group ∷ groups) = AreSo group.1.now × AllAreSo groups
