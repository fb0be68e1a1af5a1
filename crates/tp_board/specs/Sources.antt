-- What a source of work says of a hand before, the answer, and the hand after.
use Rattle.std.specs.Prelude.{◌≡◌, ℕ, ◌<◌, ◌⊎◌, nat_lt, Bool, true, false, List, [], ◌∷◌, ◌++◌, Option, Some, None}
use Rattle.std.specs.Prelude.{slice_get}
use Rattle.tp_board.specs.declared.view.View.{View}
use Rattle.tp_board.specs.declared.answer.Claim.{Claim}
use Rattle.tp_board.specs.declared.answer.Claim.TheVariants as claim
use Rattle.tp_board.specs.declared.source.Work.{Work}
use Rattle.tp_board.specs.declared.source.Work.TheVariants as work
use Rattle.tp_board.specs.Boards.{BoardView, SeatView}
use Rattle.tp_board.specs.Views.{first_of}

-- what a hand has done at its source: the numbers that it was given, where each of them went, what
-- it has in hand, whether it has learnt the end, whether it has seen the source stopped, and whether
-- it called stop itself
pub record Progress : Type 0 where
  pub taken : List ℕ
  pub finished : List ℕ
  pub abandoned : List ℕ
  pub in_hand : Option ℕ
  pub ended : Bool
  pub stop_seen : Bool
  pub stop_called : Bool

-- what `next` answers to a hand with nothing in it. A packet comes with the bytes of that number
abbrev pub NextSays : List (List ℕ) → Progress → Work → Progress → Type 0
NextSays packets p (work.Packet n bytes) q =
    (p.ended ≡ false)
    × (p.stop_seen ≡ false)
    × (p.stop_called ≡ false)
    × (slice_get packets n ≡ Some bytes.items)
    × (q ≡ record p { taken = p.taken ++ n ∷ []; in_hand = Some n })
NextSays packets p work.NoMore q =
    ((p.ended ≡ true) ⊎ ((p.stop_seen ≡ false) × (p.stop_called ≡ false))) × (q ≡ record p { ended = true })
NextSays packets p work.Stopped q = (p.ended ≡ false) × (q ≡ record p { stop_seen = true })

-- the number n, in hand, is finished
abbrev pub HandFinished : Progress → ℕ → Progress → Type 0
HandFinished p n q = (p.in_hand ≡ Some n) × (q ≡ record p { finished = p.finished ++ n ∷ []; in_hand = None })

-- the number n, in hand, is abandoned
abbrev pub HandAbandoned : Progress → ℕ → Progress → Type 0
HandAbandoned p n q = (p.in_hand ≡ Some n) × (q ≡ record p { abandoned = p.abandoned ++ n ∷ []; in_hand = None })

-- the claim that an answer rests on
abbrev pub claim_of : Work → Claim
claim_of (work.Packet n bytes) = claim.Packet n
claim_of work.NoMore = claim.NoMore
claim_of work.Stopped = claim.Stopped

-- a claim is answered with work where a number is one of this many packets', and nothing was in hand
abbrev pub IsAnswerable : (packets : ℕ) → Claim → Type 0
IsAnswerable packets (claim.Packet n) = n < packets
IsAnswerable packets (claim.Busy n) = ⊥
IsAnswerable packets claim.NoMore = Unit {0}
IsAnswerable packets claim.Stopped = Unit {0}

-- a packet comes with the bytes of its number
abbrev pub HasBytes : List (List ℕ) → Work → Type 0
HasBytes packets (work.Packet n bytes) = slice_get packets n ≡ Some bytes.items
HasBytes packets work.NoMore = Unit {0}
HasBytes packets work.Stopped = Unit {0}

-- ---- the board as a source
-- a board with the bytes of its packets
pub record SourceView : Type 0 where
  pub board : BoardView
  pub packets : List (List ℕ)

abbrev pub source_of : BoardView → List (List ℕ) → SourceView
source_of board packets = record { board = board; packets = packets }

-- what a seat's view says of its progress
abbrev pub progress_of : View → Progress
progress_of v = record {
  taken = v.drawn;
  finished = v.finished;
  abandoned = v.abandoned;
  in_hand = first_of v.hand;
  ended = nat_lt 0 v.ended;
  stop_seen = nat_lt 0 v.seen.stop;
  stop_called = nat_lt 0 v.stop_callers;
}

-- what a seat has done at its board
abbrev pub seat_progress : SeatView → Progress
seat_progress s = progress_of s.view
