use Rattle.std.proofs.Common.{Some, refl, ap, sym, ◌∙◌}
use Rattle.std.specs.Option.{option_and_then}
use Rattle.std.proofs.lemmas.Option.{slice_get_past, slice_get_read}
use Rattle.tp_decode.specs.Cutting.{index_from}
use Rattle.tp_decode.proofs.NumberLemmas.{listing_number}
use Rattle.tp_decode.proofs.listing.Listing.index_of.Goals as goal

pub returns-in_err-get : goal.returns-in_err-get
returns-in_err-get c =
    let read = ap (option_and_then (λ n. n)) (slice_get_past c.deref.result.now c.args.addr c.in_err-get.ensures.lookup.3) in
    let kept = listing_number _ _ _ c.args.addr c.self.invariant in
    c.from_residual.ensures ∙ sym (ap (λ cuts. index_from 0 cuts c.args.addr) (sym c.self.view_is) ∙ kept ∙ rw (sym c.deref.ensures.value) read)

pub returns-in_err-number : goal.returns-in_err-number
returns-in_err-number c =
    let lookup = c.in_ok-get.ensures.lookup in
    let read = ap (option_and_then (λ n. n)) (slice_get_read c.deref.result.now _ c.args.addr c.in_ok-get.field-0.now refl lookup.3.0 lookup.1) in
    let kept = listing_number _ _ _ c.args.addr c.self.invariant in
    c.from_residual-in_err-number.ensures ∙ sym (ap (λ cuts. index_from 0 cuts c.args.addr) (sym c.self.view_is) ∙ kept ∙ rw (sym c.deref.ensures.value) (read ∙ c.in_err-number.was))

pub returns : goal.returns
returns c =
    let lookup = c.in_ok-get.ensures.lookup in
    let read = ap (option_and_then (λ n. n)) (slice_get_read c.deref.result.now _ c.args.addr c.in_ok-get.field-0.now refl lookup.3.0 lookup.1) in
    let kept = listing_number _ _ _ c.args.addr c.self.invariant in
    ap Some c.from.ensures ∙ sym (ap (λ cuts. index_from 0 cuts c.args.addr) (sym c.self.view_is) ∙ kept ∙ rw (sym c.deref.ensures.value) (read ∙ c.in_ok-number.was))
