-- What a sample of a run says.
use Rattle.std.specs.Prelude.{◌≡◌}
use Rattle.tp_image.specs.Image.{ImageValue}
use Rattle.tp_image.specs.Text.{text}
use Rattle.tp_step.specs.Runs.{RunsAlone}
use Rattle.test_effects.specs.declared.table.Sample.{Sample}

-- its bytes are the text of the image, and the run of its packet alone gives what it says
abbrev pub Says : ImageValue → Sample → Type 0
Says image sample =
    (text image ≡ sample.image.now)
    × RunsAlone image sample.packet record {
      result = sample.result_bytes;
      error = sample.error;
      steps = sample.steps;
      trace = sample.trace.now;
    }
