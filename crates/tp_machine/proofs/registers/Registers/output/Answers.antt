use Rattle.std.proofs.Common.{refl}
use Rattle.tp_machine.proofs.Exchanging.{out_within, result_made, result_refused, trace_made, trace_refused}
use Rattle.tp_machine.proofs.registers.Registers.output.Goals as goal

pub message-message-requires-clause-low : goal.message-message-requires-clause-low
message-message-requires-clause-low g c = (out_within c.args.self c.args.workspace.now c.requires).0

pub message-message-requires-clause-high : goal.message-message-requires-clause-high
message-message-requires-clause-high g c = (out_within c.args.self c.args.workspace.now c.requires).1

pub returns-in-Ok : goal.returns-in-Ok
returns-in-Ok g c = λ image before s t usual h d awaits e.
    result_made c.args.self c.args.workspace.now image before _ s t usual h d e _ c.message-message.ensures c.if-self-eq-LINK0_OUTPUT.true _ c.in-Ok.ensures.answer c.in-Ok.ensures.state

pub returns-in-Err : goal.returns-in-Err
returns-in-Err g c = λ image before s t usual h d awaits e. (
  result_refused c.args.self c.args.workspace.now image before _ s t usual h d e _ c.message-message.ensures
      c.if-self-eq-LINK0_OUTPUT.true c.in-Err.code _ c.in-Err.ensures.answer c.in-Err.ensures.state,
  refl,
)

pub returns-in-Ok-send : goal.returns-in-Ok-send
returns-in-Ok-send g c = λ image before s t usual h d awaits e.
    trace_made c.args.self c.args.workspace.now image before _ s t usual h d e _ c.message-message.ensures c.if-self-eq-LINK0_OUTPUT.false _ c.in-Ok-send.ensures.answer c.in-Ok-send.ensures.state

pub returns-in-Err-send : goal.returns-in-Err-send
returns-in-Err-send g c = λ image before s t usual h d awaits e. (
  trace_refused c.args.self c.args.workspace.now image before _ s t usual h d e _ c.message-message.ensures
      c.if-self-eq-LINK0_OUTPUT.false c.in-Err-send.code _ c.in-Err-send.ensures.answer c.in-Err-send.ensures.state,
  refl,
)
