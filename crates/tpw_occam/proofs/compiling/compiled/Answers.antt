use Rattle.tpw_occam.proofs.Compiled.{is_compiled}
use Rattle.tpw_occam.proofs.compiling.compiled.Goals as goal

pub returns-in-Ok : goal.returns-in-Ok
returns-in-Ok c =
    let sound = c.requires.done.sound in
    is_compiled _ _ c.args.made.source.now c.args.made.worker c.requires.written c.requires.means c.requires.done
    (c.in-Ok.ensures.means sound) c.in-Ok.ensures.image c.in-Ok.ensures.addresses (c.in-Ok.ensures.rules sound)
    c.in_ok-warnings-in-Ok.ensures
