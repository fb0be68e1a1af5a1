-- The image of a text in occam, and the sizes of its messages.
use Rattle.std.proofs.Common.{◌≡◌, ◌≤◌, ℕ, ◌*◌, List, ap, subst, arith}
use Rattle.tp_image.specs.Image.{ImageValue}
use Rattle.tp_image.specs.Text.{text as image_text}
use Rattle.tpw_occam.specs.declared.compiling.CompiledText.{CompiledText}
use Rattle.tpw_occam.specs.Compilation.{IsCompiled}
use Rattle.tpw_occam.proofs.Doing.{gives}
use Rattle.tpw_inputs.specs.Meanings.{AreImageOfText}

pub is_image_of_text : (text : List ℕ) (made : CompiledText) (bytes : List ℕ) → IsCompiled text made
    → bytes ≡ image_text made.assembled.image → AreImageOfText text made.core bytes
is_image_of_text text made bytes compiled spelled = record {
  means = compiled.means;
  image = made.assembled.image;
  read = (compiled.image.in_range, spelled);
  packet = compiled.image.in_range.packet.1;
  result = compiled.image.in_range.result.1;
  runs = λ packet run. gives made.core made.program compiled.does made.assembled.image packet run compiled.image;
}

-- a packet has at most 64 words, and so has its result
pub packet_fits : (text : List ℕ) (made : CompiledText) → IsCompiled text made → 4 * made.program.packet ≤ 256
packet_fits text made compiled =
    omega (arith, subst (λ (i : ImageValue). i.packet ≤ 64) compiled.image.said compiled.image.in_range.packet.1)

pub result_fits : (text : List ℕ) (made : CompiledText) → IsCompiled text made → 4 * made.program.result ≤ 256
result_fits text made compiled =
    omega (arith, subst (λ (i : ImageValue). i.result ≤ 64) compiled.image.said compiled.image.in_range.result.1)
