-- The texts of answers.
use Rattle.std.specs.Prelude.{ℕ, ◌+◌, Bool, true, false, if◌then◌else◌, List, [], ◌∷◌, ◌++◌, length, codes, Option}
use Rattle.std.specs.Prelude.{Some, None}
use Rattle.std.specs.List.{flat_map}
use Rattle.std.specs.Fmt.{decimal}
use Rattle.hex.specs.Hex.{encode_lower}
use Rattle.tp_decode.specs.Codes.{decode_code_text}
use Rattle.tp_decode.specs.Lines.{lines_from}
use Rattle.tp_answers.specs.Results.{RunResult}
use Rattle.tp_accept.specs.Refusals.{refusal_code_text}
use Rattle.tp_requests.specs.Lines.{line_feed}
use Rattle.tp_answers.specs.declared.answer.LineFault.{LineFault}
use Rattle.tp_answers.specs.declared.answer.LineFault.TheVariants.{E1, E2, P1, P2, P3, Code, Image}
use Rattle.tp_answers.specs.declared.answer.Answer.{Answer}
use Rattle.tp_answers.specs.declared.answer.Answer.TheVariants.{Listed, Yes, Kept, Ran, RanAll, Gone, Refused}

-- a text as a line
abbrev pub text_line : List ℕ → List ℕ
text_line text = text ++ line_feed ∷ []

-- this many instructions were listed, or this many packets run
abbrev pub done_line : ℕ → List ℕ
done_line count = text_line (codes "DONE " ++ decimal count)

-- ---- what packets come to

-- the flag is 0 or 1
abbrev pub flag : Bool → ℕ
flag false = 0
flag true = 1

-- a packet's result: its number, the error flag, the steps, the bytes sent on link 0
abbrev pub result_line : ℕ → RunResult → List ℕ
result_line n run =
    text_line (
    codes "R " ++ decimal n ++ codes " " ++ decimal (flag run.error) ++ codes " " ++ decimal run.steps ++ codes " "
    ++ encode_lower run.result
    )

-- the bytes sent on link 1
abbrev pub trace_text : List ℕ → List ℕ
trace_text [] = codes "-"
trace_text (b ∷ bytes) = encode_lower (b ∷ bytes)

abbrev pub trace_line : ℕ → RunResult → List ℕ
trace_line n run = text_line (codes "T " ++ decimal n ++ codes " " ++ trace_text run.trace)

-- the result, and the trace where it is asked for; or that the packet is lost
abbrev pub outcome_lines : (trace : Bool) → ℕ → Option RunResult → List ℕ
outcome_lines trace n (Some run) = result_line n run ++ (if trace then trace_line n run else [])
outcome_lines trace n None = text_line (codes "LOST " ++ decimal n)

-- of packets, the first of which has number n
abbrev pub outcomes_lines : (trace : Bool) → ℕ → List (Option RunResult) → List ℕ
outcomes_lines trace n [] = []
outcomes_lines trace n (outcome ∷ outcomes) = outcome_lines trace n outcome ++ outcomes_lines trace (n + 1) outcomes

-- of all packets of a session, and how many they are
abbrev pub run_lines : (trace : Bool) → List (Option RunResult) → List ℕ
run_lines trace outcomes = outcomes_lines trace 0 outcomes ++ done_line (length outcomes)

-- of one session of several: behind its name
abbrev pub session_lines : (trace : Bool) → List ℕ × List (Option RunResult) → List ℕ
session_lines trace run = text_line (codes "OF " ++ run.0) ++ run_lines trace run.1

-- ---- refusals

abbrev pub fault_code : LineFault → List ℕ
fault_code E1 = codes "E1"
fault_code E2 = codes "E2"
fault_code P1 = codes "P1"
fault_code P2 = codes "P2"
fault_code P3 = codes "P3"
fault_code (Code code place) = decode_code_text code
fault_code (Image code place) = refusal_code_text code

-- a fault of a code or of an image has a place of its own; the place of others is the number of the line
abbrev pub fault_place : (number : ℕ) → LineFault → ℕ
fault_place number (Code code place) = place
fault_place number (Image code place) = place
fault_place number fault = number

-- ---- the answer to a line of a number, with traces or without

unfoldable pub answer_text : (trace : Bool) → (number : ℕ) → Answer → List ℕ
answer_text trace number (Listed cuts) = flat_map text_line (lines_from 0 cuts) ++ done_line (length cuts)
answer_text trace number (Yes code_bytes budget) =
    text_line (codes "YES " ++ decimal code_bytes ++ codes " " ++ decimal budget)
answer_text trace number (Kept n) = text_line (codes "KEPT " ++ decimal n)
answer_text trace number (Ran outcomes) = run_lines trace outcomes
answer_text trace number (RanAll runs) =
    flat_map (session_lines trace) runs ++ text_line (codes "ALL " ++ decimal (length runs))
answer_text trace number Gone = text_line (codes "GONE")
answer_text trace number (Refused fault) =
    text_line (codes "NO " ++ fault_code fault ++ codes " " ++ decimal (fault_place number fault))
