-- What a refusal and an image say of each other.
use Rattle.std.proofs.Common.{◌≡◌, ℕ, List, length, Option, None, Some, sym, ap, ◌∙◌}
use Rattle.std.specs.Prelude.{IfSome}
use Rattle.tp_image.specs.declared.fault.ImageFault.{ImageFault}
use Rattle.tp_image.specs.declared.header.Header.{Header}
use Rattle.tp_image.specs.Image.{ImageValue}
use Rattle.tp_image.specs.Text.{IsTextOf}
use Rattle.tp_image.specs.Faults.{header_fault, first_fault, IsWholeHeader}
use Rattle.tp_image.proofs.Headers.{first_fault-whole}
use Rattle.tp_image.proofs.Bodies.{first_fault-text}

pub first_fault-header : (h : Header) (bytes : List ℕ) → IsWholeHeader h bytes → first_fault bytes ≡ None
first_fault-header h bytes whole =
    first_fault-whole bytes h.version whole.version whole.long
    ∙ ap (λ (k : Header). header_fault k (length bytes)) (sym whole.fields)
    ∙ whole.passes

-- nothing is to show of a refusal where there is none
pub none_refused : (o : Option ImageFault) (P : ImageFault → Type 0) → o ≡ None → IfSome o P
none_refused None P e = tt
none_refused (Some fault) P e = absurd cc

-- bytes that an image has are not refused
pub image_not_refused : (bytes : List ℕ) (image : ImageValue) (fault : ImageFault) → IsTextOf bytes image → first_fault bytes ≡ Some fault → ⊥
image_not_refused bytes image fault t e = let none = first_fault-text bytes image t in cc
