-- What the sessions are, once one of them is no longer lent.
use Rattle.std.specs.Prelude.{ℕ, List}
use Rattle.std.specs.Borrow.{Lends, MutBor, Fml}
use Rattle.tp_answers.specs.declared.session.OpenSession.{OpenSession}
use Rattle.tp_answers.specs.contracts.session.OpenSession.{the_row as session_row}
use Rattle.tp_answers.specs.contracts.sessions.Sessions.{the_row as sessions_row}
use Rattle.tp_answers.specs.Sessions.{Session}
use Rattle.tp_answers.specs.OpenSessions.{with_kept}

-- the session at a place keeps what was left behind the reference
abbrev pub LendsSession : MutBor (List Session) → ℕ → MutBor OpenSession → Fml
LendsSession sessions i kept = Lends sessions_row session_row sessions kept (with_kept sessions.now i)
