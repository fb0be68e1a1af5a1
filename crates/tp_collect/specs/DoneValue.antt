-- What a result says, and of which run it is the result.
use Rattle.std.specs.Prelude.{ℕ, ◌*◌, ◌≤◌, Bool, List, length}
use Rattle.tp_image.specs.Image.{ImageValue}
use Rattle.tp_image.specs.Limits.{most_message}
use Rattle.tp_step.specs.Runs.{Run, RunsAlone}

pub record DoneValue : Type 0 where
  pub batch : ℕ
  pub packet : ℕ
  pub result : List ℕ
  pub error : Bool
  pub steps : ℕ
  pub trace : List ℕ
  -- the image and the packet whose run it is
  pub image : ImageValue
  pub bytes : List ℕ

-- a run, by what it gives
abbrev pub run_of_parts : (result : List ℕ) → (error : Bool) → (steps : ℕ) → (trace : List ℕ) → Run
run_of_parts result error steps trace = record { result = result; error = error; steps = steps; trace = trace }

abbrev pub run_of_done : DoneValue → Run
run_of_done done = run_of_parts done.result done.error done.steps done.trace

-- the result that a run is, of the packet of a number of a batch
abbrev pub done_of_run : Run → (batch packet : ℕ) → ImageValue → (bytes : List ℕ) → DoneValue
done_of_run run batch packet image bytes = record {
  batch = batch;
  packet = packet;
  result = run.result;
  error = run.error;
  steps = run.steps;
  trace = run.trace;
  image = image;
  bytes = bytes;
}

-- the most bytes of a packet, and of a result: those of the most words
abbrev pub most_message_bytes : ℕ
most_message_bytes = 4 * most_message

-- the most bytes of a packet's trace
abbrev pub most_trace : ℕ
most_trace = 256

-- it is what the run of the packet alone gives, whose trace is no longer than it may be
pub record IsAlone (done : DoneValue) : Type 0 where
  pub run : RunsAlone done.image done.bytes (run_of_done done)
  pub short : length done.trace ≤ most_trace
