use Rattle.std.proofs.Common.{◌+◌, refl}
use Rattle.std.proofs.lemmas.Result.{on_ok_weaker}
use Rattle.tpw_occam_symbolic.specs.Symbolic.{push, number, at_place}
use Rattle.tpw_occam_symbolic.specs.Leading.{HasConstants}
use Rattle.tpw_occam_symbolic.proofs.Leading.{does_step}
use Rattle.tpw_occam_symbolic.proofs.code.Code.constant.Goals as goal

pub returns : goal.returns
returns c = on_ok_weaker c.emit.result (λ emitted w.
    does_step w c.args.self.now c.emit.new.self c.args.source c.push_constant.result HasConstants (push (number c.args.c)) emitted
    (λ m constants served. c.push_constant.ensures.pushes w (at_place (m.place + 1) m) constants served)
    (λ m. refl) (λ m. refl) (λ m. refl)) c.emit.ensures
