-- The sessions that are open.
use Rattle.std.specs.Prelude.{ℕ, nat_le, ◌&&◌, not, is_some, Bool, if◌then◌else◌, List, [], ◌∷◌, ◌++◌, length, Option}
use Rattle.std.specs.Prelude.{Some, None}
use Rattle.tp_image.specs.Image.{ImageValue}
use Rattle.tp_requests.specs.Fields.{is_text}

-- the most sessions that are open at a time; one keeps no more packets than a batch may have
abbrev pub most_sessions : ℕ
most_sessions = 64

-- a session: its name, the image that its packets are for, and the packets that it keeps, in order of number
pub record Session : Type 0 where
  pub name : List ℕ
  pub image : ImageValue
  pub packets : List (List ℕ)

abbrev pub is_of : List ℕ → Session → Bool
is_of name s = is_text name s.name

-- the session of a name
abbrev pub session_named : List ℕ → List Session → Option Session
session_named name [] = None
session_named name (s ∷ sessions) = if is_of name s then Some s else session_named name sessions

-- the name is new, while as many sessions are open as may be
abbrev pub is_full : List ℕ → List Session → Bool
is_full name sessions = not (is_some (session_named name sessions)) && nat_le most_sessions (length sessions)

-- a session in the place of the one of its name, or else behind all others
abbrev pub with_session : Session → List Session → List Session
with_session new [] = new ∷ []
with_session new (s ∷ sessions) = if is_of new.name s then new ∷ sessions else s ∷ with_session new sessions

-- with the session of a name, if it is open, changed
abbrev pub with_changed : (Session → Session) → List ℕ → List Session → List Session
with_changed change name [] = []
with_changed change name (s ∷ sessions) =
    if is_of name s then change s ∷ sessions else s ∷ with_changed change name sessions

-- without the session of a name; the others keep their order
abbrev pub without_session : List ℕ → List Session → List Session
without_session name [] = []
without_session name (s ∷ sessions) = if is_of name s then sessions else s ∷ without_session name sessions

-- the session keeps one packet more
abbrev pub with_packet : List ℕ → Session → Session
with_packet packet s = record s { packets = s.packets ++ packet ∷ [] }

-- it forgets them all
abbrev pub without_packets : Session → Session
without_packets s = record s { packets = [] }
