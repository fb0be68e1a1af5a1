use Rattle.std.proofs.Common.{List, ℕ, Bor, string_bytes, ap}
use Rattle.std.specs.Option.{option_map}
use Rattle.tpw_commands.proofs.Lines.{behind_name}
use Rattle.tpw_commands.proofs.assembling.image_line.Goals as goal

pub returns-in-Some : goal.returns-in-Some
returns-in-Some c =
    behind_name string_bytes c.format.result _ c.in-Some.name.now (string_bytes c.in_ok-digits.digits) c.args.image.now
    (ap (option_map {T = Bor (List ℕ)} {U = List ℕ} (λ n. n.now)) c.in-Some.is) c.in_ok-digits.ensures c.format.ensures.ok
