-- The first refusal of the passes, with what is known before the instruction that is refused.
use Rattle.std.specs.Prelude.{◌≡◌, Bool, List, ◌∷◌, ◌++◌, Option, Result, Ok, Err, IfOk, IfSome}
use Rattle.tp_decode.specs.declared.placed.Placed.{Placed}
use Rattle.tp_decode.specs.Cutting.{Cut}
use Rattle.tp_flow.specs.declared.edge.Edge.{Edge}
use Rattle.tp_image.specs.Image.{ImageValue}
use Rattle.tp_state.specs.declared.fault.StateFault.TheVariants.{Refused}
use Rattle.tp_check.specs.Tables.{Table, table_of}
use Rattle.tp_check.specs.Passes.{go_along, along_edges, edges_in, passes}
use Rattle.tpw_why.specs.declared.refusal.EdgeRefusal.{EdgeRefusal}
use Rattle.tpw_why.specs.declared.refusal.FirstRefusal.{FirstRefusal}

-- Of these edges, taken in turn from a table, this is the first that is refused: those before it refuse nothing and
-- come to the table `there`, from which it is refused.
pub record IsRefusedAmong (image : ImageValue) (edges : List (Placed × Edge)) (table there : Table)
    (r : EdgeRefusal) : Type 0 where
  pub earlier : List (Placed × Edge)
  pub later : List (Placed × Edge)
  pub split : edges ≡ earlier ++ (r.instruction, r.edge) ∷ later
  pub arrives : along_edges image earlier table ≡ Ok there
  pub refused : go_along image r.instruction r.edge (there r.instruction.at) there ≡ Err (Refused r.code r.place)

-- This many passes refuse nothing, and this is the first edge that the next one refuses; the states are those that it has
-- met.
pub record IsFirstRefusal (image : ImageValue) (cuts : List Cut) (r : FirstRefusal) : Type 0 where
  pub table : Table
  pub arrives : passes image cuts r.passes ≡ Ok table
  pub among : IsRefusedAmong image (edges_in cuts) table (table_of r.table.items) r.refusal

-- of what was found, where anything was, this holds
abbrev pub IfFound : {X : Type 0} → {E : Type 0} → Result (Option X) E → (X → Type 0) → Type 0
IfFound result P = IfOk result (λ found. IfSome found P)

-- ---- one pass

-- what a pass makes of a table; or what it refuses, and the table then
abbrev pub EndsAs : ImageValue → List (Placed × Edge) → (old new : Table) → Result Bool EdgeRefusal → Type 0
EndsAs image edges old new (Ok changed) = along_edges image edges old ≡ Ok new
EndsAs image edges old new (Err r) = IsRefusedAmong image edges old new r
