-- What devices took and gave, one call after another.
use Rattle.std.proofs.Common.{◌≡◌, ℕ, ◌+◌, ◌*◌, ◌≤◌, Bool, true, false, nat_le, if◌then◌else◌, List, [], ◌++◌, length}
use Rattle.std.proofs.Common.{take, replicate, Ok, Err, refl, sym, ap, ◌∙◌, arith, length-append, append_assoc}
use Rattle.std.proofs.Common.{append-nil}
use Rattle.std.proofs.lemmas.Bool.Decides.{nat_tests}
use Rattle.std.proofs.lemmas.List.{length-replicate, length-take-le, take-append-le}
use Rattle.tp_link.specs.declared.device.DeviceFault.{DeviceFault}
use Rattle.tp_link.specs.declared.device.DeviceFault.TheVariants.{Closed, Full, Short}
use Rattle.tp_link.specs.Device.{DeviceState, Answer, after_send, plain_send, plain_receive}
use Rattle.tp_image.specs.Image.{ImageValue}
use Rattle.tp_outcome.specs.Devices.{Took, Gave, packet_of}

both : (o b : Bool) (e f : DeviceFault) → ◌≡◌ {A = Answer} (if o then (if b then Ok tt else Err e) else Err f) (Ok tt) → (o ≡ true) × (b ≡ true)
both true true e f is = (refl, refl)
both true false e f is = cc
both false b e f is = cc

-- a send that succeeded, and one that can
pub sent_was : (s : DeviceState) (bytes : List ℕ) → plain_send s bytes ≡ Ok tt → (s.opened ≡ true) × (length s.held + length bytes ≤ s.room)
sent_was s bytes is =
    let h = both s.opened (nat_le (length s.held + length bytes) s.room) Full Closed is in
    (h.0, grind (arith, nat_tests, h.1))

pub can_send : (s : DeviceState) (bytes : List ℕ) → s.opened ≡ true → length s.held + length bytes ≤ s.room → plain_send s bytes ≡ Ok tt
can_send s bytes opened fits =
    let le : nat_le (length s.held + length bytes) s.room ≡ true = grind (arith, nat_tests) in
    rw (opened, le)

-- a receive that succeeded
pub received_was : (s : DeviceState) (n : ℕ) → plain_receive s n ≡ Ok tt → n ≤ length s.held
received_was s n is =
    let h = both s.opened (nat_le n (length s.held)) Short Closed is in
    grind (arith, nat_tests, h.1)

still : (n : ℕ) → n + 0 ≡ n
still n = omega arith

-- nothing was given
pub gave_nothing : (d e : DeviceState) → Gave d 0 e → e ≡ d
gave_nothing d e h = h.becomes ∙ ap (λ k. record d { faults = k }) (still d.faults)

pub gave_none : (d : DeviceState) → Gave d 0 d
gave_none d = record { could = λ some. absurd (omega arith); becomes = sym (ap (λ k. record d { faults = k }) (still d.faults)) }

pub took_none : (d : DeviceState) → Took d [] d
took_none d = record {
  could = λ some. absurd (omega arith);
  becomes = sym (ap (λ bytes. record d { held = bytes; faults = d.faults + 0 }) (append-nil d.held) ∙ ap (λ k. record d { faults = k }) (still d.faults));
}

-- more bytes are taken after others
pub took_more : (d e f : DeviceState) (xs ys : List ℕ) → Took d xs e → plain_send e ys ≡ Ok tt → f ≡ after_send e ys (Ok tt) → Took d (xs ++ ys) f
took_more d e f xs ys h can is =
    let was : (e.opened ≡ true) × (length e.held + length ys ≤ e.room) = sent_was e ys can in
    let opened : d.opened ≡ true = sym (ap (λ x. x.opened) h.becomes) ∙ was.0 in
    let room : e.room ≡ d.room = ap (λ x. x.room) h.becomes in
    let held : e.held ≡ d.held ++ xs = ap (λ x. x.held) h.becomes in
    let fits : length d.held + length (xs ++ ys) ≤ d.room =
    let long : length e.held ≡ length d.held + length xs = ap length held ∙ length-append d.held xs in
    omega (arith, long, was.1, room, length-append xs ys) in
    record {
      could = λ some. can_send d (xs ++ ys) opened fits;
      becomes = is ∙ rw h.becomes (ap (λ bytes. record d { held = bytes; faults = d.faults + 0 + 0 })
          (append_assoc d.held xs ys) ∙ ap (λ k. record d { held = d.held ++ (xs ++ ys); faults = k })
          (still (d.faults + 0)));
    }

-- a packet has its length
pub packet_length : (image : ImageValue) (source : DeviceState) → length (packet_of image source) ≡ 4 * image.packet
packet_length image source =
    let zeros : List ℕ = replicate (4 * image.packet) 0 in
    let long : length zeros ≡ 4 * image.packet = length-replicate (4 * image.packet) 0 in
    length-take-le (4 * image.packet) (source.held ++ zeros) (omega (arith, long, length-append source.held zeros))

-- and is what the source holds, where that is enough
pub packet_held : (image : ImageValue) (source : DeviceState) → 4 * image.packet ≤ length source.held → packet_of image source ≡ take (4 * image.packet) source.held
packet_held image source enough = take-append-le (4 * image.packet) source.held (replicate (4 * image.packet) 0) enough
