-- What stands behind declarations, what channels a worker has, and what is done with the packet.
use Rattle.std.specs.Prelude.{ℕ, Option, Some, None, List, [], ◌∷◌}
use Rattle.tpw_occam_core.specs.declared.kind.Kind.TheVariants.{Word}
use Rattle.tpw_occam_core.specs.Arithmetic.{pure}
use Rattle.tpw_occam_core.specs.Arrays.{element}
use Rattle.tpw_occam_meaning.specs.Assignments.{Target, assigned}
use Rattle.tpw_occam_meaning.specs.Effects.{Effect}
use Rattle.tpw_occam_meaning.specs.Names as text
use Rattle.tpw_occam_meaning.specs.Names.{Names}
use Rattle.tpw_occam_meaning.specs.States.{with_array}
use Rattle.tpw_occam_meaning.specs.Texts.{worker_body, text_effect}
use Rattle.tpw_occam_names.specs.declared.scope.Protocol.{Protocol}
use Rattle.tpw_occam_names.specs.Scopes.{protocol_of}
use Rattle.tpw_occam_workers.specs.declared.rest.Rest.{Rest}
use Rattle.tpw_occam_workers.specs.declared.rest.Rest.TheVariants.{Body, Text}
use Rattle.tpw_occam_workers.specs.declared.channels.Channels.{Channels}

-- what is done behind declarations
abbrev pub after_of : Rest → Names → ℕ → Effect
after_of (Body p) names d = worker_body p.now names d
after_of (Text list) names d = text_effect list.now names d

-- what the traces' parameter stands for, where there is one
abbrev pub traces_places : Option Protocol → List text.Place
traces_places None = []
traces_places (Some traces) = text.Carrier text.Traces (protocol_of traces) ∷ []

-- .. and all parameters of a worker
abbrev pub places_of : Channels → List text.Place
places_of c =
    text.Carrier text.Packet (protocol_of c.packet) ∷ text.Carrier text.Output (protocol_of c.output)
    ∷ traces_places c.traces

-- ---- packets

-- a target takes the packet's first word
abbrev pub word_received : Target → Effect
word_received target = Some (λ s. assigned target (target.subscript s) (pure (element Word s.packet 0)) s)

-- an array takes the packet
abbrev pub array_received : ℕ → Effect
array_received a = Some (λ s. with_array a s.packet s)
