use Rattle.std.proofs.Common.{◌<◌, length, slice_get, ap, sym, ◌∙◌, arith}
use Rattle.std.proofs.lemmas.List.{length-map}
use Rattle.std.proofs.lemmas.Option.{slice_get_past}
use Rattle.tp_decode.specs.Cutting.{placed_from}
use Rattle.tp_decode.specs.Listings.{cut_of}
use Rattle.tp_decode.proofs.LineLemmas.{starts_of_pieces}
use Rattle.tp_decode.proofs.NumberLemmas.{length-placed, place_of_piece}
use Rattle.tp_decode.proofs.listing.Listing.get.Goals as goal

pub returns-in_err-piece : goal.returns-in_err-piece
returns-in_err-piece c =
    let items = ap length c.deref.ensures.value in
    let view = ap length c.self.view_is in
    c.from_residual.ensures
    ∙ sym (slice_get_past (placed_from 0 c.args.self.now) c.args.i
    (omega (
      arith,
      c.in_err-piece.ensures.lookup.3,
      length-placed 0 c.args.self.now,
      items,
      view,
      length-map c.self.inside.pieces.items cut_of,
    )))

pub index-requires : goal.index-requires
index-requires c =
    omega (arith, c.in_ok-piece.ensures.lookup.3.0, starts_of_pieces _ _ _ c.self.invariant, ap length c.deref.ensures.value)

pub returns : goal.returns
returns c =
    let lookup = c.in_ok-piece.ensures.lookup in
    let within : c.args.i < length c.self.inside.pieces.items = omega (arith, lookup.3.0, ap length c.deref.ensures.value) in
    let there = place_of_piece _ _ _ c.args.i _ _ c.self.invariant within c.index.ensures (rw (sym c.deref.ensures.value) lookup.1) in
    rw c.len.ensures.value (sym (ap (λ cuts. slice_get (placed_from 0 cuts) c.args.i) (sym c.self.view_is) ∙ there))
