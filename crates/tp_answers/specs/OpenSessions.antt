-- What a session that is kept stands for.
use Rattle.std.specs.Prelude.{ℕ, zero, suc, List, [], ◌∷◌, map}
use Rattle.tp_answers.specs.declared.session.OpenSession.{OpenSession}
use Rattle.tp_answers.specs.Sessions.{Session}

abbrev pub session_of : List ℕ → OpenSession → Session
session_of name kept = record { name = name; image = kept.image.image; packets = map (λ p. p.items) kept.packets.items }

-- the session at a place keeps this
abbrev pub with_kept : List Session → ℕ → OpenSession → List Session
with_kept [] i kept = []
with_kept (s ∷ sessions) zero kept = session_of s.name kept ∷ sessions
with_kept (s ∷ sessions) (suc i) kept = s ∷ with_kept sessions i kept
