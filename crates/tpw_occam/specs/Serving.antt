-- What a service answers for packets of a compiled text.
use Rattle.std.specs.Prelude.{◌≡◌, Bool, List, ℕ, Option, Some, None}
use Rattle.tp_image.specs.Image.{ImageValue}
use Rattle.tp_answers.specs.Results.{RunResult}
use Rattle.tp_answers.specs.Rules.{IsOutcome, IsVerdict}
use Rattle.tp_requests.specs.Lines.{lines_of}
use Rattle.tp_session.specs.Protocol.{AreAnswered}
use Rattle.tpw_asm.specs.declared.program.Program.{Program}
use Rattle.tpw_asm.specs.Assembly.{IsAssembly}
use Rattle.tpw_occam_core.specs.Meaning.{Meant}
use Rattle.tpw_occam.specs.Compilation.{IsMeaningOf}

-- An outcome is what is meant: the result, the flag and the traces, or a loss where nothing is meant.
abbrev pub Agrees : Option Meant → Option RunResult → Type 0
Agrees (Some meant) (Some run) = (run.result ≡ meant.result) × (run.error ≡ meant.flag) × (run.trace ≡ meant.traced)
Agrees None None = Unit {0}
Agrees meant outcome = ⊥

-- the outcome of a packet; where its image is that of a program, it is what is meant by the packet
pub record IsOutcomeMeant (meaning : List ℕ → Option Meant) (program : Program) (image : ImageValue) (packet : List ℕ)
    (outcome : Option RunResult) : Type 0 where
  pub is : IsOutcome image packet outcome
  pub agrees : IsAssembly program image → Agrees (meaning packet) outcome

-- what is written for the packets of a program's image is what a text means by them
pub record IsTextServed (text : List ℕ) (program : Program) (trace : Bool) (input output : List ℕ) : Type 0 where
  pub meaning : List ℕ → Option Meant
  pub means : IsMeaningOf text meaning
  pub answered : AreAnswered IsVerdict (IsOutcomeMeant meaning program) trace (lines_of input) output
