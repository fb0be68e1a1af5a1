use Rattle.std.proofs.Common.{◌<◌, length, string_bytes, slice_get, sym, ap, ◌∙◌, arith}
use Rattle.std.proofs.lemmas.List.{length-map}
use Rattle.tp_decode.specs.Lines.{lines_from}
use Rattle.tp_decode.specs.Listings.{cut_of}
use Rattle.tp_decode.proofs.LineLemmas.{made_of, said_of, starts_of_pieces}
use Rattle.tp_decode.proofs.listing.Listing.text.Goals as goal

pub index-requires : goal.index-requires
index-requires c =
    omega (arith, starts_of_pieces _ _ _ c.self.invariant, length-map c.self.inside.pieces.items cut_of, ap length c.self.view_is)

pub returns : goal.returns
returns c =
    let within : c.args.i < length c.self.inside.pieces.items = omega (arith, length-map c.self.inside.pieces.items cut_of, ap length c.self.view_is) in
    let there = made_of _ _ _ c.args.i _ _ c.self.invariant within c.index.ensures c.index-2.ensures in
    said_of string_bytes c.line.result _ _ (ap (λ cuts. slice_get (lines_from 0 cuts) c.args.i) (sym c.self.view_is) ∙ there) c.line.ensures
