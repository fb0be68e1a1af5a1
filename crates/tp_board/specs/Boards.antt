-- A board and a seat as a contract sees them, and what their types keep.
use Rattle.std.specs.Prelude.{◌≡◌, ℕ, ◌<◌, ◌≤◌, ◌⊎◌, Bool, List, map, Option, if◌then◌else◌}
use Rattle.atomic_table.specs.Seated.{TableId}
use Rattle.tp_board.specs.declared.view.View.{View}
use Rattle.tp_board.specs.declared.rule.Size.{Size}
use Rattle.tp_board.specs.declared.answer.BoardFault.{BoardFault}
use Rattle.tp_board.specs.declared.answer.BoardFault.TheVariants.{Members, Packets, EmptyHand, Memory}
use Rattle.tp_board.specs.Counting.{hand_list}
use Rattle.tp_board.specs.Limits.{most_packets, most_members}
use Rattle.tp_board.specs.Openings.{InRange}
use Rattle.tp_board.specs.Views.{newcomer}
use Rattle.tp_board.specs.Words.{size}

-- a board, by its table and its sizes
pub record BoardView : Type 0 where
  pub table : TableId
  pub packets : ℕ
  pub members : ℕ

abbrev pub board_of : TableId → ℕ → ℕ → BoardView
board_of table packets members = record { table = table; packets = packets; members = members }

-- a seat, by its board's table and by what it knows
pub record SeatView : Type 0 where
  pub table : TableId
  pub view : View

abbrev pub seat_of : TableId → View → SeatView
seat_of table view = record { table = table; view = view }

abbrev pub views_of : List SeatView → List View
views_of seats = map (λ s. s.view) seats

-- a seat of the board that has made no step
abbrev pub new_seat : BoardView → SeatView
new_seat b = seat_of b.table (newcomer b.packets 1)

-- the seat is one of the board's
abbrev pub IsSeatOf : BoardView → SeatView → Type 0
IsSeatOf b s = (s.table ≡ b.table) × (s.view.packets ≡ b.packets)

-- the refusal that `new` gives for these sizes; with sizes in range it can be Memory alone
abbrev pub NewRefuses : ℕ → ℕ → BoardFault → Type 0
NewRefuses packets members Members = (members ≡ 0) ⊎ (most_members < members)
NewRefuses packets members Packets = (0 < members) × (members ≤ most_members) × (most_packets < packets)
NewRefuses packets members EmptyHand = ⊥
NewRefuses packets members Memory = InRange packets members

-- ---- what the types keep
-- of a board: its table has four words and no slots, and got the board's sizes
pub record IsBoard (table : TableId) (key : Size) (packets members : ℕ) : Type 0 where
  pub words : table.words ≡ 4
  pub slots : table.slots ≡ 0
  pub told : key ≡ size packets members
  pub in_range : InRange packets members

-- of a seat: what it keeps beside its token is what its view says
pub record IsSeat (v : View) (packets : ℕ) (hand : Option ℕ) (ended stop_seen : Bool) : Type 0 where
  pub one : v.parts ≡ 1
  pub packets_is : v.packets ≡ packets
  pub hand_is : v.hand ≡ hand_list hand
  pub ended_is : v.ended ≡ (if ended then 1 else 0)
  pub stop_seen_is : v.seen.stop ≡ (if stop_seen then 1 else 0)
