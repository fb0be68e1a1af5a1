-- What is shown of packets.
use Rattle.std.specs.Prelude.{ℕ, ◌+◌, nat_eq, not, ◌&&◌, Bool, true, false, if◌then◌else◌, List, [], ◌∷◌, ◌++◌}
use Rattle.std.specs.Prelude.{codes, Option, Some, None, slice_get}
use Rattle.std.specs.Fmt.{decimal, signed_decimal}
use Rattle.std.specs.Int.{w32, cast_signed, from_le_bytes}
use Rattle.std.specs.Cmp.Lexicographic.{pointwise}
use Rattle.hex.specs.Hex.{encode_lower}
use Rattle.tp_link.specs.declared.links.Link.{Link}
use Rattle.tp_link.specs.declared.links.Link.TheVariants as link
use Rattle.tp_link.specs.declared.device.DeviceFault.{DeviceFault}
use Rattle.tp_link.specs.declared.device.DeviceFault.TheVariants as fault
use Rattle.tp_collect.specs.DoneValue.{DoneValue}
use Rattle.tp_collect.specs.declared.collected.Entry.{Entry}
use Rattle.tp_collect.specs.declared.collected.Entry.TheVariants as entry
use Rattle.tp_collect.specs.declared.collected.LostCause.{LostCause}
use Rattle.tp_collect.specs.declared.collected.LostCause.TheVariants as cause
use Rattle.tpw_runs.specs.declared.form.Expected.{Expected}
use Rattle.tpw_runs.specs.declared.form.Style.{Style}
use Rattle.tpw_runs.specs.declared.form.Form.{Form}
use Rattle.tpw_runs.specs.declared.form.Form.TheVariants.{Lines, Raw, Differences}

-- a trace for which there is no room; over devices of a farm's own nothing else is refused
abbrev pub refusal_text : Link → DeviceFault → List ℕ
refusal_text link.Trace fault.Full = codes "its trace has more than 256 bytes"
refusal_text l f = codes "a device has failed"

abbrev pub cause_text : LostCause → List ℕ
cause_text (cause.Link refused) = refusal_text refused.link refused.code
cause_text cause.Stopped = codes "the batch was stopped"

-- the words of a message as signed numbers, four bytes each, low byte first, each behind a space
abbrev pub word_text : List ℕ → List ℕ
word_text bytes = codes " " ++ signed_decimal (cast_signed w32 (from_le_bytes w32 bytes))

abbrev pub words_text : List ℕ → List ℕ
words_text (a ∷ b ∷ c ∷ d ∷ bytes) = word_text (a ∷ b ∷ c ∷ d ∷ []) ++ words_text bytes
words_text bytes = []

-- a message: its words, or its bytes in hexadecimal
abbrev pub message_text : Style → List ℕ → List ℕ
message_text style bytes = if style.hexadecimal then codes " " ++ encode_lower bytes else words_text bytes

abbrev pub flag : Bool → ℕ
flag false = 0
flag true = 1

abbrev pub trace_text : Style → List ℕ → List ℕ
trace_text style trace = if style.trace then codes "\n  trace" ++ message_text style trace else []

-- a result: its number, the error flag, the steps of the budget, its words
abbrev pub head_text : (budget number : ℕ) → Bool → ℕ → List ℕ
head_text budget number error steps =
    decimal number ++ codes "  flag " ++ decimal (flag error) ++ codes "  " ++ decimal steps ++ codes " of "
    ++ decimal budget ++ codes " "

abbrev pub done_text : Style → (budget number : ℕ) → DoneValue → List ℕ
done_text style budget number done =
    head_text budget number done.error done.steps ++ message_text style done.result ++ trace_text style done.trace

abbrev pub line_of : Style → (budget number : ℕ) → Entry → List ℕ
line_of style budget number (entry.Done done) = done_text style budget number done
line_of style budget number (entry.Lost cause) = decimal number ++ codes "  LOST  " ++ cause_text cause

abbrev pub whole_line : Style → (budget number : ℕ) → Entry → List ℕ
whole_line style budget number e = line_of style budget number e ++ codes "\n"

-- a packet has the result and the error flag that are expected of it
abbrev pub is_expected : Entry → Option Expected → Bool
is_expected (entry.Done done) (Some wanted) =
    pointwise nat_eq done.result wanted.message.items && nat_eq (flag done.error) (flag wanted.error)
is_expected e wanted = false

-- what was expected: an error flag and words
abbrev pub expected_head : Bool → List ℕ
expected_head error = codes "  expected  flag " ++ decimal (flag error) ++ codes " "

abbrev pub result_text : Style → Expected → List ℕ
result_text style wanted = expected_head wanted.error ++ message_text style wanted.message.items ++ codes "\n"

abbrev pub expected_text : Style → Option Expected → List ℕ
expected_text style (Some wanted) = result_text style wanted
expected_text style None = codes "  expected nothing\n"

-- the line of a packet whose result or error flag is another, and what was expected
abbrev pub difference_text : Style → Option Expected → (budget number : ℕ) → Entry → List ℕ
difference_text style wanted budget number e =
    if is_expected e wanted then [] else whole_line style budget number e ++ expected_text style wanted

abbrev pub raw_text : Entry → List ℕ
raw_text (entry.Done done) = done.result
raw_text (entry.Lost cause) = []

-- what is shown of the packet of a number
abbrev pub entry_text : Form → (budget number : ℕ) → Entry → List ℕ
entry_text (Lines style) budget number e = whole_line style budget number e
entry_text Raw budget number e = raw_text e
entry_text (Differences style expected) budget number e =
    difference_text style (slice_get expected.now number) budget number e

-- another result was expected of the packet of a number
abbrev pub is_other : Form → (number : ℕ) → Entry → Bool
is_other (Differences style expected) number e =
    not (is_expected e (slice_get expected.now number))
is_other form number e = false

-- of packets, the first of which has a number
abbrev pub entries_text : Form → (budget number : ℕ) → List Entry → List ℕ
entries_text form budget number [] = []
entries_text form budget number (e ∷ entries) =
    entry_text form budget number e ++ entries_text form budget (number + 1) entries
