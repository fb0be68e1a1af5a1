-- The fields of an image. A text says each once.
use Rattle.std.specs.Prelude.{ℕ, true, if◌then◌else◌, Result, Ok, Err}
use Rattle.tp_image.specs.declared.image.Version.{Version}
use Rattle.tpw_text.specs.declared.words.Word.{Word}
use Rattle.tpw_text.specs.declared.fault.SourceFault.{SourceFault}
use Rattle.tpw_text.specs.declared.fault.TextFault.TheVariants.{Settled}
use Rattle.tpw_text.specs.Faults.{fault_at}
use Rattle.tpw_text.specs.Drafts.{Said}

-- a field that a word begins is said, where none has said it
unfoldable pub version_set : Word → Version → Said → Result Said SourceFault
version_set word version d =
    if d.settled.version then Err (fault_at word Settled)
    else Ok (record d { version = version; settled = record d.settled { version = true } })

unfoldable pub workspace_set : Word → ℕ → Said → Result Said SourceFault
workspace_set word workspace d =
    if d.settled.workspace then Err (fault_at word Settled)
    else Ok (record d { workspace = workspace; settled = record d.settled { workspace = true } })

unfoldable pub start_set : Word → ℕ → Said → Result Said SourceFault
start_set word start d =
    if d.settled.start then Err (fault_at word Settled)
    else Ok (record d { start = start; settled = record d.settled { start = true } })

unfoldable pub packet_set : Word → ℕ → Said → Result Said SourceFault
packet_set word packet d =
    if d.settled.packet then Err (fault_at word Settled)
    else Ok (record d { packet = packet; settled = record d.settled { packet = true } })

unfoldable pub results_set : Word → ℕ → Said → Result Said SourceFault
results_set word results d =
    if d.settled.results then Err (fault_at word Settled)
    else Ok (record d { results = results; settled = record d.settled { results = true } })
