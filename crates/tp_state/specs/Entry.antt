-- What is known before the first instruction.
use Rattle.std.specs.Prelude.{◌-◌, pos, List, ◌++◌, map, length, replicate}
use Rattle.tp_words.specs.Words.{signed}
use Rattle.tp_image.specs.Image.{ImageValue}
use Rattle.tp_state.specs.declared.kind.Kind.TheVariants as kind
use Rattle.tp_state.specs.declared.cell.Cell.{Cell}
use Rattle.tp_state.specs.declared.cell.Cell.TheVariants.{Known}
use Rattle.tp_state.specs.declared.state.State.{State}

-- the workspace begins with the image's words, and its other words are 0
abbrev pub first_cells : ImageValue → List Cell
first_cells image =
    map (λ word. Known (signed word)) image.initial
    ++ replicate (image.workspace - length image.initial) (Known (pos 0))

abbrev pub entry : ImageValue → State
entry image = record {
  wptr = image.start;
  a = kind.Undef;
  b = kind.Undef;
  c = kind.Undef;
  phase = 0;
  cells = first_cells image;
}
