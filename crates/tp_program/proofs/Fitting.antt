-- The wires to media that have room are fit.
use Rattle.std.proofs.Common.{◌≡◌, List, All, map, refl, arith, sym, subst}
use Rattle.std.proofs.lemmas.List.Elements.{All-map, All-weaker}
use Rattle.std.proofs.lemmas.Simd.{map-map}
use Rattle.std.specs.Global.{Box}
use Rattle.tp_link.specs.Medium.{faultless_device}
use Rattle.tp_link.specs.Wire.{device_of}
use Rattle.tp_link.specs.declared.links.Links.{Links}
use Rattle.tp_link.specs.declared.wire.Wire.{Wire}
use Rattle.tp_link.specs.Wired.{empty_media, seen_in_boxes, wired_media}
use Rattle.tp_link.specs.declared.media.Media.{Media}
use Rattle.tp_outcome.specs.Devices.{Devices, devices}
use Rattle.tp_session.specs.Fitness.{AreFit, AreFitOf}
use Rattle.tp_program.specs.Media.{HaveRoom}

-- empty media of 256 bytes each have room
have_room : (media : Media) → media ≡ empty_media 256 256 256 → HaveRoom media
have_room media made = rw made record { source = omega arith; sink = omega arith; trace = omega arith }

pub all_have_room : (media : List Media) → All (λ one. one ≡ empty_media 256 256 256) media → All HaveRoom media
all_have_room media made = All-weaker _ HaveRoom have_room media made

-- a member's devices where its wires lead to these media
abbrev devices_over : Media → Devices
devices_over media = devices (faultless_device media.source) (faultless_device media.sink) (faultless_device media.trace)

fit_member : (media : Media) → HaveRoom media → AreFitOf (devices_over (wired_media media))
fit_member media room = record {
  source = record { opened = refl; room = room.source; sure = refl };
  sink = record { opened = refl; room = room.sink; sure = refl };
  trace = record { opened = refl; room = room.trace; sure = refl };
}

-- the wires in the boxes lead to media that have room
pub all_fit : (media : List Media) (links : List (Links (Box Wire))) → map seen_in_boxes links ≡ map wired_media media → All HaveRoom media → AreFit (λ b. device_of b.value) links
all_fit media links seen room =
    let each = All-map (λ m. AreFitOf (devices_over m)) wired_media media (All-weaker HaveRoom _ fit_member media room) in
    let same = subst (All (λ m. AreFitOf (devices_over m))) (sym seen) each in
    subst (All AreFitOf) (map-map devices_over seen_in_boxes links) (All-map AreFitOf devices_over (map seen_in_boxes links) same)
