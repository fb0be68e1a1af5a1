-- What is passed in a call.
use Rattle.std.specs.Prelude.{◌≡◌, ℕ, false, List, ◌∷◌}
use Rattle.tpw_occam_core.specs.Arrays.{size}
use Rattle.tpw_occam_meaning.specs.declared.types.Parameters.{Parameters}
use Rattle.tpw_occam_meaning.specs.Names as text
use Rattle.tpw_occam_meaning.specs.Names.{Is, Names, bound}
use Rattle.tpw_occam_names.specs.Scopes.{view_of, word_of}
use Rattle.tpw_occam_resolving.specs.declared.arrays.Array.{Array}
use Rattle.tpw_occam_resolving.specs.declared.arrays.Array.TheVariants.{Named, Written}
use Rattle.tpw_occam_resolving.specs.declared.calls.Place.{Place}
use Rattle.tpw_occam_resolving.specs.declared.calls.Place.TheVariants as place

-- parameters begin with a name, and others are behind it
abbrev pub BeginsWith : Parameters → List ℕ → Parameters → Type 0
BeginsWith takes name more =
    (place : text.Place) (places : List text.Place) (names : Names) →
    bound takes (place ∷ places) names ≡ bound more places ((name, Is place) ∷ names)

-- what a parameter, or a name that is declared, is another name for
abbrev pub place_of : Place → text.Place
place_of (place.Variable of x) = text.Variable of x
place_of (place.Element view word) = text.Element (view_of view) (word_of word)

-- an array, as a name for it shows it
abbrev pub array_made : Array → text.View
array_made (Named view) = view_of view
array_made (Written kind bytes) =
    record { storage = text.Table bytes.items; kind = kind; size = size kind bytes.items; is_variable = false }
