-- The environment in which a part of a worker stands.
use Rattle.std.specs.Prelude.{ℕ, List, length}
use Rattle.tpw_occam_core.specs.declared.worker.Storage.{Storage}
use Rattle.tpw_occam_core.specs.declared.worker.Worker.{Worker}
use Rattle.tpw_occam_core.specs.declared.scope.Entry.{Entry}
use Rattle.tpw_occam_core.specs.Sound.{globals}

-- how many names of words there are, the arrays, and what is in scope
pub record Environment : Type 0 where
  pub count : ℕ
  pub storages : List Storage
  pub scope : List Entry

-- that of what stands outermost in a worker
abbrev pub environment_of : Worker → Environment
environment_of w = record { count = length w.variables.items; storages = w.arrays.items; scope = globals w }
