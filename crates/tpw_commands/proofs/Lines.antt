-- The line of an image.
use Rattle.std.proofs.Common.{◌≡◌, ◌∙◌, ℕ, List, ◌++◌, codes, Option, Some, Result, Ok, Err, IfOk, ap, sym, append_assoc}
use Rattle.hex.specs.Hex.{encode_lower}
use Rattle.tpw_assembly.specs.Programs.{IsAssembledTo}
use Rattle.tpw_commands.specs.Programs.{IsImageLine, image_line}

regrouped : (a b c d : List ℕ) → a ++ (b ++ (c ++ d)) ≡ ((a ++ b) ++ c) ++ d
regrouped a b c d = simp append_assoc

-- a text that is written of an image in hexadecimal, behind a name
pub behind_name : {S E : Type 0} (bytes : S → List ℕ) (r : Result S E) (given : Option (List ℕ)) (name digits image : List ℕ)
    → given ≡ Some name → digits ≡ encode_lower image
    → IfOk r (λ text. bytes text ≡ name ++ (codes " IMAGE " ++ (digits ++ codes "\n")))
    → IfOk r (λ text. bytes text ≡ image_line given image)
behind_name bytes (Ok text) given name digits image some is h =
    h ∙ ap (λ written. name ++ (codes " IMAGE " ++ (written ++ codes "\n"))) is
    ∙ regrouped name (codes " IMAGE ") (encode_lower image) (codes "\n") ∙ sym (ap (λ o. image_line o image) some)
behind_name bytes (Err e) given name digits image some is h = tt

pub is_line : (text bytes shown line written : List ℕ) (name : Option (List ℕ)) → IsAssembledTo text bytes → shown ≡ bytes
    → line ≡ image_line name shown → written ≡ line → IsImageLine text name written
is_line text bytes shown line written name image same is as_it_is =
    record { bytes = bytes; image = image; written = as_it_is ∙ is ∙ ap (image_line name) same }
