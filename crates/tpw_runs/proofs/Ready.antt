-- The wires to media of a farm's own are ready for every accepted image.
use Rattle.std.proofs.Common.{◌≡◌, ◌*◌, ◌≤◌, ℕ, List, All, map, refl, arith, sym, subst}
use Rattle.std.proofs.lemmas.List.Elements.{All-map, All-weaker}
use Rattle.std.proofs.lemmas.Simd.{map-map}
use Rattle.std.specs.Global.{Box}
use Rattle.std.specs.Coded.{le_prop}
use Rattle.std.proofs.Math.Logic.{∥∥₁_elim}
use Rattle.tp_image.specs.Image.{ImageValue}
use Rattle.tp_link.specs.Medium.{faultless_device}
use Rattle.tp_link.specs.Wire.{device_of}
use Rattle.tp_link.specs.declared.links.Links.{Links}
use Rattle.tp_link.specs.declared.wire.Wire.{Wire}
use Rattle.tp_link.specs.Wired.{empty_media, seen_in_boxes, wired_media}
use Rattle.tp_link.specs.declared.media.Media.{Media}
use Rattle.tp_outcome.specs.Devices.{Devices, devices, devices_of}
use Rattle.tp_accept.specs.Acceptance.{IsAcceptable}
use Rattle.tp_farm.specs.Promised.{TakeAll}

abbrev devices_over : Media → Devices
devices_over media = devices (faultless_device media.source) (faultless_device media.sink) (faultless_device media.trace)

member_takes : (image : ImageValue) → 4 * image.packet ≤ 256 → 4 * image.result ≤ 256 → (media : Media) → media ≡ empty_media 256 256 256
    → TakeAll image (devices_over (wired_media media))
member_takes image packet result media made = rw made record {
  source = record { opened = refl; sure = refl; room = packet };
  sink = record { opened = refl; sure = refl; room = result };
  trace = record { opened = refl; sure = refl; room = omega arith };
}

pub all_take : (image : ImageValue) (budget : ℕ) → ∥ IsAcceptable image budget ∥₁ → (media : List Media) (links : List (Links (Box Wire)))
    → map seen_in_boxes links ≡ map wired_media media → All (λ one. one ≡ empty_media 256 256 256) media
    → All (TakeAll image) (map (devices_of (λ b. device_of b.value)) links)
all_take image budget acceptable media links seen made =
    let packet : 4 * image.packet ≤ 256 = ∥∥₁_elim acceptable le_prop (λ a. omega (arith, a.in_range.packet.1)) in
    let result : 4 * image.result ≤ 256 = ∥∥₁_elim acceptable le_prop (λ a. omega (arith, a.in_range.result.1)) in
    let each = All-map (λ m. TakeAll image (devices_over m)) wired_media media
    (All-weaker (λ one. one ≡ empty_media 256 256 256) _ (member_takes image packet result) media made) in
    let same = subst (All (λ m. TakeAll image (devices_over m))) (sym seen) each in
    subst (All (TakeAll image)) (map-map devices_over seen_in_boxes links)
    (All-map (TakeAll image) devices_over (map seen_in_boxes links) same)
