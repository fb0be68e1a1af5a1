-- The source of a worker that waits for its packet.
use Rattle.std.proofs.Common.{◌≡◌, ℕ, ◌-◌, ◌*◌, ◌<◌, ◌≤◌, List, length, take, drop, Ok, Err, sym, ap, ◌∙◌, arith, subst, length-drop}
use Rattle.std.proofs.lemmas.List.{take_all}
use Rattle.tp_link.specs.declared.device.DeviceFault.{DeviceFault}
use Rattle.tp_link.specs.Device.{DeviceState, after_receive, plain_receive, MayAnswerReceive}
use Rattle.tp_image.specs.Image.{ImageValue}
use Rattle.tp_outcome.specs.Devices.{packet_of, Gave}
use Rattle.tp_outcome.specs.Answers.{RefusedReceive}
use Rattle.tp_outcome.proofs.DeviceLemmas.{received_was, gave_nothing, packet_length, packet_held}

module _ (image : ImageValue) (before now : DeviceState) (to_come : List ℕ) (all : to_come ≡ packet_of image before) (gave : Gave before (4 * image.packet - length to_come) now) where
  pub to_come_length : length to_come ≡ 4 * image.packet
  to_come_length = ap length all ∙ packet_length image before

  -- it has given nothing
  untouched : now ≡ before
  untouched =
      let long = to_come_length in
      let none : 4 * image.packet - length to_come ≡ 0 = omega (arith, long) in
      gave_nothing before now (subst (λ k. Gave before k now) none gave)

  -- the packet that is received is what is to come
  pub packet_came : plain_receive now (4 * image.packet) ≡ Ok tt → take (4 * image.packet) to_come ≡ take (4 * image.packet) now.held
  packet_came can =
      let enough : 4 * image.packet ≤ length before.held = subst (λ d. 4 * image.packet ≤ length d.held) untouched (received_was now (4 * image.packet) can) in
      let held : packet_of image before ≡ take (4 * image.packet) now.held = packet_held image before enough ∙ ap (λ d. take (4 * image.packet) d.held) (sym untouched) in
      let long = to_come_length in
      take_all (4 * image.packet) to_come (omega (arith, long)) ∙ all ∙ held

  -- and it has given the packet then
  pub gave_packet : (source : DeviceState) → plain_receive now (4 * image.packet) ≡ Ok tt →
      source ≡ after_receive now (4 * image.packet) (Ok tt) →
      Gave before (4 * image.packet - length (drop (4 * image.packet) to_come)) source
  gave_packet source can is =
      let long = to_come_length in
      let left = length-drop (4 * image.packet) to_come in
      let whole : 4 * image.packet ≡ 4 * image.packet - length (drop (4 * image.packet) to_come) = omega (arith, long, left) in
      subst (λ k. Gave before k source) whole
      (record {
        could = λ some. subst (λ d. plain_receive d (4 * image.packet) ≡ Ok tt) untouched can;
        becomes = is ∙ ap (λ d. after_receive d (4 * image.packet) (Ok tt)) untouched;
      })

  pub refused_receive : (left : List ℕ) (code : DeviceFault) (source : DeviceState) → left ≡ drop (4 * image.packet) to_come → 0 < 4 * image.packet
      → MayAnswerReceive now (4 * image.packet) (Err code) → source ≡ after_receive now (4 * image.packet) (Err code) → RefusedReceive to_come left code now source
  refused_receive left code source left_is some may is =
      let long = to_come_length in
      let none : length left ≡ 0 = ap length left_is ∙ (omega (arith, long, length-drop (4 * image.packet) to_come)) in
      let whole : 4 * image.packet ≡ length to_come - length left = omega (arith, long, none) in
      record {
        some = omega (arith, long, none, some);
        may = subst (λ k. MayAnswerReceive now k (Err code)) whole may;
        becomes = subst (λ k. source ≡ after_receive now k (Err code)) whole is;
      }
