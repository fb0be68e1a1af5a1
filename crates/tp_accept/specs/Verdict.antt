-- The verdict on a text: that it may be run, or the first refusal. The text is judged as an image, then the image's
-- code by its cutting, its flow, its states and its bound.
use Rattle.std.specs.Prelude.{◌≡◌, ℕ, nat_lt, if◌then◌else◌, List, length, Option, Some, None, Result, Ok, Err}
use Rattle.tp_image.specs.Image.{ImageValue}
use Rattle.tp_image.specs.declared.fault.ImageFault.{ImageFault}
use Rattle.tp_image.specs.Text.{IsTextOf}
use Rattle.tp_image.specs.Faults.{first_fault}
use Rattle.tp_decode.specs.declared.fault.DecodeFault.{DecodeFault}
use Rattle.tp_decode.specs.Cutting.{Cut, cutting}
use Rattle.tp_flow.specs.declared.fault.FlowFault.{FlowFault}
use Rattle.tp_flow.specs.FlowFaults.{first_flow_fault}
use Rattle.tp_state.specs.declared.fault.StateFault.{StateFault}
use Rattle.tp_check.specs.Tables.{Table}
use Rattle.tp_check.specs.Passes.{IsVerdict}
use Rattle.tp_accept.specs.Limits.{most_budget}
use Rattle.tp_accept.specs.Bound.{bound}
use Rattle.tp_accept.specs.declared.refusal.Refusal.{Refusal}
use Rattle.tp_accept.specs.Refusals.{of_image, of_cutting, of_flow, of_state, too_long}

-- what is answered of an image that may be run: how many code bytes it has, and its budget
pub record Allowed : Type 0 where
  pub code_bytes : ℕ
  pub budget : ℕ

abbrev pub Answer : Type 0
Answer = Result Allowed Refusal

abbrev pub allowed : ImageValue → ℕ → Allowed
allowed image budget = record { code_bytes = length image.code; budget = budget }

-- the passes end with a refusal, or a table; then the bound decides
abbrev pub answer_on : ImageValue → List Cut → Result Table StateFault → Answer
answer_on image cuts (Err fault) = Err (of_state fault)
answer_on image cuts (Ok table) =
    if nat_lt most_budget (bound image.loops cuts) then Err too_long else Ok (allowed image (bound image.loops cuts))

-- the answer on a code in which no rule of flow is broken
pub record IsStateAnswer (image : ImageValue) (cuts : List Cut) (answer : Answer) : Type 0 where
  pub verdict : Result Table StateFault
  pub passes : IsVerdict image cuts verdict
  pub answers : answer ≡ answer_on image cuts verdict

-- on a code with instructions, by its first fault of flow
abbrev pub IsFlowAnswer : Option FlowFault → ImageValue → List Cut → Answer → Type 0
IsFlowAnswer (Some fault) image cuts answer = answer ≡ Err (of_flow fault)
IsFlowAnswer None image cuts answer = IsStateAnswer image cuts answer

-- on an image, by the cutting of its code
abbrev pub IsCutAnswer : Result (List Cut) DecodeFault → ImageValue → Answer → Type 0
IsCutAnswer (Err fault) image answer = answer ≡ Err (of_cutting fault)
IsCutAnswer (Ok cuts) image answer = IsFlowAnswer (first_flow_fault image cuts) image cuts answer

-- on a text that passes each test
pub record IsImageAnswer (text : List ℕ) (answer : Answer) : Type 0 where
  pub image : ImageValue
  pub spelled : IsTextOf text image
  pub answers : IsCutAnswer (cutting image.code) image answer

-- on a text, by the first test that it fails
abbrev pub IsTextAnswer : Option ImageFault → List ℕ → Answer → Type 0
IsTextAnswer (Some fault) text answer = answer ≡ Err (of_image fault)
IsTextAnswer None text answer = IsImageAnswer text answer

-- The verdict on a text is this answer.
abbrev pub IsAnswer : List ℕ → Answer → Type 0
IsAnswer text answer = IsTextAnswer (first_fault text) text answer
