-- A worker to test with.
use Rattle.std.specs.Prelude.{ℕ, false, List, [], ◌∷◌}
use Rattle.tp_image.specs.declared.image.Version.TheVariants.{One}
use Rattle.tp_image.specs.Image.{ImageValue}
use Rattle.tp_collect.specs.DoneValue.{DoneValue}

-- adds one to its packet: ldlp 0; mint; ldnlp 4; ldc 4; in; ldl 0; adc 1; stl 0; ldlp 0; mint; ldc 4; out; stopp
abbrev pub increment : ImageValue
increment = record {
  version = One;
  workspace = 12;
  start = 8;
  packet = 1;
  result = 1;
  loops = [];
  initial = [];
  code =
      0x10 ∷ 0x24 ∷ 0xF2 ∷ 0x54 ∷ 0x44 ∷ 0xF7 ∷ 0x70 ∷ 0x81 ∷ 0xD0 ∷ 0x10 ∷ 0x24 ∷ 0xF2 ∷ 0x44 ∷ 0xFB ∷ 0x21 ∷ 0xF5
      ∷ [];
}

-- the word 1, and the word 2 that the worker makes of it
abbrev pub one : List ℕ
one = 1 ∷ 0 ∷ 0 ∷ 0 ∷ []

abbrev pub two : List ℕ
two = 2 ∷ 0 ∷ 0 ∷ 0 ∷ []

-- the result of the packet 1
abbrev pub incremented : (batch number : ℕ) → DoneValue
incremented batch number = record {
  batch = batch;
  packet = number;
  result = two;
  error = false;
  steps = 16;
  trace = [];
  image = increment;
  bytes = one;
}
