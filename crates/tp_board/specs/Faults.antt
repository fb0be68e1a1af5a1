-- What is printed of a board's refusal.
use Rattle.std.specs.Prelude.{ℕ, List, codes}
use Rattle.tp_board.specs.declared.answer.BoardFault.{BoardFault}
use Rattle.tp_board.specs.declared.answer.BoardFault.TheVariants.{Members, Packets, EmptyHand, Memory}

abbrev pub fault_text : BoardFault → List ℕ
fault_text Members = codes "A1: not 1 to 64 members"
fault_text Packets = codes "A2: more than 1024 packets"
fault_text EmptyHand = codes "A3: nothing in hand"
fault_text Memory = codes "memory"
