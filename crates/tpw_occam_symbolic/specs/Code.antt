-- Code: what the steps of a worker are, one behind another.
use Rattle.std.specs.Prelude.{ℕ, ◌+◌, Bool, nat_le, List, [], ◌∷◌, ◌++◌, length}
use Rattle.tp_prefix.specs.Canonical.{canonical}
use Rattle.tp_words.specs.Words.{signed}
use Rattle.tp_decode.specs.declared.instr.Instr.TheVariants.{Lend}
use Rattle.tpw_occam_symbolic.specs.declared.items.Item.TheVariants.{Variable}
use Rattle.tpw_occam_symbolic.specs.declared.code.Step.{Step}
use Rattle.tpw_occam_symbolic.specs.declared.code.Step.TheVariants.{Plain, Pointer, JumpTo, CjTo, Distance}
use Rattle.tpw_occam_symbolic.specs.declared.code.CodeLine.{CodeLine}
use Rattle.tpw_occam_symbolic.specs.declared.code.Turns.{Turns}

-- lines that stand from a place on, and the loops in them
pub record Lines : Type 0 where
  pub base : ℕ
  pub lines : List CodeLine
  pub loops : List Turns

-- no lines, at a place
abbrev pub none_at : ℕ → Lines
none_at base = record { base = base; lines = []; loops = [] }

-- the place behind the last line
abbrev pub place_behind : Lines → ℕ
place_behind code = code.base + length code.lines

-- with lines behind the last
abbrev pub followed_by : Lines → List CodeLine → Lines
followed_by code lines = record code { lines = code.lines ++ lines }

-- with code behind the last line
abbrev pub joined : Lines → Lines → Lines
joined code more = record code { lines = code.lines ++ more.lines; loops = code.loops ++ more.loops }

-- with one more loop
abbrev pub with_loop : Lines → Turns → Lines
with_loop code turns = record code { loops = code.loops ++ turns ∷ [] }

abbrev pub line_of : ℕ → Step → CodeLine
line_of source step = record { step = step; source = source }

-- lines for where Areg is not 0, and for where it is
abbrev pub chosen_lines : Lines → ℕ → (some none : Lines) → Lines
chosen_lines old source some none =
    joined (followed_by (joined (followed_by old (line_of source (CjTo (place_behind some + 1)) ∷ [])) some)
    (line_of source (JumpTo (place_behind none)) ∷ [])) none

-- the lines at the end of a turn
abbrev pub loop_end : Lines → Turns → List CodeLine
loop_end old turns =
    line_of turns.source (Pointer (Variable turns.index) 0)
    ∷ line_of turns.source (Distance turns.head (place_behind old + 3))
    ∷ line_of turns.source (Plain Lend) ∷ []

-- the code of a turn, the end of its loop, and the loop
abbrev pub turned_lines : (old turn : Lines) → Turns → Lines
turned_lines old turn turns =
    with_loop (followed_by (joined old turn) (loop_end (joined old turn) turns))
    (record turns { lend = place_behind (joined old turn) + 2 })

-- ---- constants

-- the `ldc` of a constant has at most two bytes
abbrev pub is_short : ℕ → Bool
is_short c = nat_le (length (canonical 4 (signed c))) 2
