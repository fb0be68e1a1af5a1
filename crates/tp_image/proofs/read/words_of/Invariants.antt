use Rattle.std.proofs.Common.{◌≡◌, ◌<◌, ◌^◌, length, take, All}
use Rattle.std.specs.List.{flat_map}
use Rattle.tp_image.specs.Text.{word}
use Rattle.tp_image.proofs.read.words_of.Given as goal

-- the words so far spell the pieces so far
abbrev pub invariant-loop-piece : goal.invariant-loop-piece
invariant-loop-piece l = record {
  spelled : flat_map word l.words.items ≡ flat_map (λ piece. piece) (take l.piece-index l.pieces);
  count : length l.words.items ≡ l.piece-index;
  in_range : All (λ word. word < 2 ^ 32) l.words.items;
}
