use Rattle.std.proofs.Common.{◌≡◌, length, take, All}
use Rattle.std.specs.List.{flat_map}
use Rattle.tp_image.specs.Image.{IsRow}
use Rattle.tp_image.specs.Text.{row_text}
use Rattle.tp_image.proofs.read.rows_of.Given as goal

-- the rows so far spell the pieces so far
abbrev pub invariant-loop-piece : goal.invariant-loop-piece
invariant-loop-piece l = record {
  spelled : flat_map row_text l.rows.items ≡ flat_map (λ piece. piece) (take l.piece-index l.pieces);
  count : length l.rows.items ≡ l.piece-index;
  in_range : All IsRow l.rows.items;
}
