use Rattle.std.proofs.lemmas.Result.{on_ok_weaker}
use Rattle.tpw_occam_code.proofs.Sending.{traces}
use Rattle.tpw_occam_code.proofs.messages.trace.Goals as goal

pub returns : goal.returns
returns c = record {
  knowledge = c.output.ensures.knowledge;
  traces = on_ok_weaker c.output.result (traces c.args.emitter.now c.args.code.now c.output.new.code c.args.m.now) c.output.ensures.sends;
}
