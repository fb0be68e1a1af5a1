-- What a line asks for.
use Rattle.std.specs.Prelude.{ℕ, List}
use Rattle.tp_requests.specs.declared.request.Request.{Request}
use Rattle.tp_requests.specs.declared.request.Request.TheVariants as request
use Rattle.tp_requests.specs.Spelling.{bytes_spelled}

pub data Asked : Type 0 where
  -- the listing of a code
  ToList : (code : List ℕ) → Asked
  -- a session of this name with the image that the text spells
  ToOpen : (name text : List ℕ) → Asked
  -- that its session keeps a packet
  ToKeep : (name bytes : List ℕ) → Asked
  -- to run its packets
  ToRun : (name : List ℕ) → Asked
  -- to run those of all sessions
  ToRunAll : Asked
  -- that its session ends
  ToDrop : (name : List ℕ) → Asked

-- what a request stands for
abbrev pub asked : Request → Asked
asked (request.List code) = ToList code.items
asked (request.Image name text) = ToOpen name.items text.items
asked (request.Packet name bytes) = ToKeep name.items (bytes_spelled bytes)
asked (request.Run name) = ToRun name.items
asked request.RunAll = ToRunAll
asked (request.Drop name) = ToDrop name.items
