use Rattle.std.proofs.Common.{◌≡◌, ◌-◌, length, map, take, drop, None, All}
use Rattle.tp_image.specs.Image.{IsRow}
use Rattle.tpw_asm.specs.Assembly.{row_of}
use Rattle.tpw_asm.specs.Faults.{first_row}
use Rattle.tpw_asm.proofs.rows.rows_of.Given as goal

-- the rows so far
abbrev pub invariant-loop-row : goal.invariant-loop-row
invariant-loop-row l = record {
  all : l.rows.items ≡ map (row_of l.addresses) (take l.row-index l.loops);
  in_range : All IsRow l.rows.items;
  sound : first_row (length l.addresses - 1) l.row-index (drop l.row-index l.loops) ≡ None;
}
