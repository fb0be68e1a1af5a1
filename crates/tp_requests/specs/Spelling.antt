-- The bytes that digits spell.
use Rattle.std.specs.Prelude.{ℕ, List, [], unwrap_or}
use Rattle.tp_requests.specs.declared.spelled.Spelled.{Spelled}
use Rattle.tp_requests.specs.Fields.{hex_bytes}

abbrev pub bytes_spelled : Spelled → List ℕ
bytes_spelled spelled = unwrap_or (hex_bytes spelled.digits.now) []
