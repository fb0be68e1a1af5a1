use Rattle.std.proofs.Common.{◌≡◌, ℕ, ◌+◌, ◌-◌, ◌∙◌, Some, List, arith, refl, sym, ap, length, length-take, length-drop, take, drop, rules}
use Rattle.tpw_machine.proofs.ExchangeLemmas.{result_sent, result_refused, trace_sent, trace_refused}
use Rattle.tpw_machine.proofs.machine.Machine.output.Goals as goal

pub returns-in-Err : goal.returns-in-Err
returns-in-Err g c = rw c.refused.ensures (λ before p h.
    let r = c.in-Some-Some-Some in
    let m1 = c.deschedule.new.self in
    let i = r.source - 2147483720 in
    let n_is : r.n ≡ i + r.n - i = omega arith in
    let room : length m1.bytes ≡ 2048 = search rules in
    let low = c.if-not-in_workspace.ensures.low refl in
    let high = c.if-not-in_workspace.ensures.high refl in
    let message : List ℕ = take (i + r.n - i) (drop i m1.bytes) in
    let read = c.if-not-is_defined.ensures ∙ ap (λ k. Some (take k (drop i m1.bytes))) n_is in
    let long : length message ≡ r.n = simp (length-take, length-drop) (omega arith) in
    result_refused c.args.image.now c.args.self.now m1 r.n r.channel r.source message r.is-0 r.is-1 r.is-2
    (sym c.if-not-in_workspace.ensures.value) c.if-not-deschedule.ensures.made read long before _ c.args.phase.now p h
    (c.if-is_result.ensures.some refl) (sym c.if-is_result.ensures.value) c.in-Err.code _ c.in-Err.ensures.answer
    c.in-Err.ensures.state)

pub returns-in-Ok : goal.returns-in-Ok
returns-in-Ok g c = λ before p h.
    let r = c.in-Some-Some-Some in
    let m1 = c.deschedule.new.self in
    let i = r.source - 2147483720 in
    let n_is : r.n ≡ i + r.n - i = omega arith in
    let room : length m1.bytes ≡ 2048 = search rules in
    let low = c.if-not-in_workspace.ensures.low refl in
    let high = c.if-not-in_workspace.ensures.high refl in
    let message : List ℕ = take (i + r.n - i) (drop i m1.bytes) in
    let read = c.if-not-is_defined.ensures ∙ ap (λ k. Some (take k (drop i m1.bytes))) n_is in
    let long : length message ≡ r.n = simp (length-take, length-drop) (omega arith) in
    result_sent c.args.image.now c.args.self.now m1 r.n r.channel r.source message r.is-0 r.is-1 r.is-2
    (sym c.if-not-in_workspace.ensures.value) c.if-not-deschedule.ensures.made read long before _ c.args.phase.now p h
    (c.if-is_result.ensures.some refl) (sym c.if-is_result.ensures.value) _ c.in-Ok.ensures.answer
    c.in-Ok.ensures.state

pub returns-in-Ok-send : goal.returns-in-Ok-send
returns-in-Ok-send g c = λ before p h.
    let r = c.in-Some-Some-Some in
    let m1 = c.deschedule.new.self in
    let i = r.source - 2147483720 in
    let n_is : r.n ≡ i + r.n - i = omega arith in
    let room : length m1.bytes ≡ 2048 = search rules in
    let low = c.if-not-in_workspace.ensures.low refl in
    let high = c.if-not-in_workspace.ensures.high refl in
    let message : List ℕ = take (i + r.n - i) (drop i m1.bytes) in
    let read = c.if-not-is_defined.ensures ∙ ap (λ k. Some (take k (drop i m1.bytes))) n_is in
    let long : length message ≡ r.n = simp (length-take, length-drop) (omega arith) in
    trace_sent c.args.image.now c.args.self.now m1 r.n r.channel r.source message r.is-0 r.is-1 r.is-2
    (sym c.if-not-in_workspace.ensures.value) c.if-not-deschedule.ensures.made read long before _ c.args.phase.now p h
    (c.if-not-is_trace.ensures.some refl) (sym c.if-is_result.ensures.value) (sym c.if-not-is_trace.ensures.value) _
    c.in-Ok-send.ensures.answer c.in-Ok-send.ensures.state

pub returns-in-Err-send : goal.returns-in-Err-send
returns-in-Err-send g c = rw c.refused-in-Err-send.ensures (λ before p h.
    let r = c.in-Some-Some-Some in
    let m1 = c.deschedule.new.self in
    let i = r.source - 2147483720 in
    let n_is : r.n ≡ i + r.n - i = omega arith in
    let room : length m1.bytes ≡ 2048 = search rules in
    let low = c.if-not-in_workspace.ensures.low refl in
    let high = c.if-not-in_workspace.ensures.high refl in
    let message : List ℕ = take (i + r.n - i) (drop i m1.bytes) in
    let read = c.if-not-is_defined.ensures ∙ ap (λ k. Some (take k (drop i m1.bytes))) n_is in
    let long : length message ≡ r.n = simp (length-take, length-drop) (omega arith) in
    trace_refused c.args.image.now c.args.self.now m1 r.n r.channel r.source message r.is-0 r.is-1 r.is-2
    (sym c.if-not-in_workspace.ensures.value) c.if-not-deschedule.ensures.made read long before _ c.args.phase.now p h
    (c.if-not-is_trace.ensures.some refl) (sym c.if-is_result.ensures.value) (sym c.if-not-is_trace.ensures.value)
    c.in-Err-send.code _ c.in-Err-send.ensures.answer c.in-Err-send.ensures.state)
