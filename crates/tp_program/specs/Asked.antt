-- The farm that a command line asks for.
use Rattle.std.specs.Prelude.{◌≡◌, vec_len}
use Rattle.tp_program.specs.declared.chosen.Options.{Options}
use Rattle.tp_session.specs.declared.farm.Farm.{Farm}

-- it has as many members as are asked for, and traces are written where they are asked for
pub record IsAsked {D : Type 0} (asked : Options) (farm : Farm D) : Type 0 where
  pub members : vec_len farm.links ≡ asked.members
  pub trace : farm.trace ≡ asked.trace
