use Rattle.std.proofs.Common.{◌∙◌, ap}
use Rattle.tpw_occam_meaning.specs.States.{flagged, with_traced}
use Rattle.tpw_occam_scoped.specs.Meaning as scoped
use Rattle.tpw_occam_interpreter.specs.Memories.{state_of}
use Rattle.tpw_occam_interpreter.proofs.messages.trace.Goals as goal

pub returns-clause-done : goal.returns-clause-done
returns-clause-done g c =
    let s = state_of c.args.memory.now in
    let sent = c.in_ok-bytes.ensures in
    c.in_ok-trace.ensures ∙ ap (λ t. with_traced c.deref.result.now t) c.raise.ensures
    ∙ ap (λ bytes. with_traced bytes (flagged c.in_ok-bytes.flag s)) (c.deref.ensures.value ∙ sent.bytes)
    ∙ ap (λ flag. with_traced (scoped.bytes_of c.args.m.now s) (flagged flag s)) sent.flag
