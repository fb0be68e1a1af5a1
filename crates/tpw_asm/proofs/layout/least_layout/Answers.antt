use Rattle.std.proofs.Common.{◌≡◌, ◌≢◌, length, replicate, sum, sym, ap, ◌∙◌, arith}
use Rattle.std.proofs.lemmas.Grind.{common_steps}
use Rattle.std.proofs.lemmas.Slice.Eq.{slice_eq-Decides}
use Rattle.std.proofs.lemmas.Bool.{false≢true}
use Rattle.std.proofs.lemmas.Bool.Decides.{Decides-eqb}
use Rattle.tpw_asm.specs.Layout.{addresses_from}
use Rattle.tpw_asm.proofs.LayoutLemmas.{needed, needed_at, length-addresses, length-needed, needed_grows, sum_grows}
use Rattle.tpw_asm.proofs.LayoutLemmas.{ones_at_most, ones_least, ones_sum, last_read, are_addresses, step_least}
use Rattle.tpw_asm.proofs.LayoutLemmas.{step_grows}
use Rattle.tpw_asm.proofs.layout.least_layout.Goals as goal

pub returns-then-lines-most-clause-fault : goal.returns-then-lines-most-clause-fault
returns-then-lines-most-clause-fault c lengths is = omega (arith, ones_sum c.args.lines.now lengths is)

pub loop-lengths-init : goal.loop-lengths-init
loop-lengths-init c =
    let ones : c.resize.new.self.items ≡ replicate (length c.args.lines.now) 1 = c.in_ok-resize.ensures.items ∙ grind (arith, common_steps) in
    rw ones record {
      count = grind (arith, common_steps);
      least = λ others is. ones_at_most c.args.lines.now others is;
      growing = ones_least _ 0 c.args.lines.now;
    }

pub index-requires : goal.index-requires
index-requires c =
    let are : c.in_ok-addresses.addresses.items ≡ addresses_from 0 c.loop-lengths.lengths.items = c.in_ok-addresses.ensures ∙ ap (addresses_from 0) c.deref.ensures.value in
    omega (arith, ap length are, length-addresses 0 c.loop-lengths.lengths.items, c.loop-lengths.invariant.count)

pub returns-then-index-most-clause-fault : goal.returns-then-index-most-clause-fault
returns-then-index-most-clause-fault c others is =
    let are : c.in_ok-addresses.addresses.items ≡ addresses_from 0 c.loop-lengths.lengths.items = c.in_ok-addresses.ensures ∙ ap (addresses_from 0) c.deref.ensures.value in
    let size : c.index.result.now ≡ sum c.loop-lengths.lengths.items =
    last_read c.in_ok-addresses.addresses.items c.loop-lengths.lengths.items (length c.args.lines.now)
    c.index.result.now are (sym c.loop-lengths.invariant.count) c.index.ensures in
    omega (arith, size, sum_grows c.loop-lengths.lengths.items others (c.loop-lengths.invariant.least others is))

pub lengths_of-requires-clause-addresses : goal.lengths_of-requires-clause-addresses
lengths_of-requires-clause-addresses c =
    let are : c.in_ok-addresses.addresses.items ≡ addresses_from 0 c.loop-lengths.lengths.items = c.in_ok-addresses.ensures ∙ ap (addresses_from 0) c.deref.ensures.value in
    let size : c.index.result.now ≡ sum c.loop-lengths.lengths.items =
    last_read c.in_ok-addresses.addresses.items c.loop-lengths.lengths.items (length c.args.lines.now)
    c.index.result.now are (sym c.loop-lengths.invariant.count) c.index.ensures in
    are_addresses _ c.loop-lengths.lengths.items (c.deref-in-loop-lengths.ensures.value ∙ are) (omega (arith, size))

pub lengths_of-requires-clause-count : goal.lengths_of-requires-clause-count
lengths_of-requires-clause-count c =
    let are : c.in_ok-addresses.addresses.items ≡ addresses_from 0 c.loop-lengths.lengths.items = c.in_ok-addresses.ensures ∙ ap (addresses_from 0) c.deref.ensures.value in
    omega (arith, ap length (c.deref-in-loop-lengths.ensures.value ∙ are), length-addresses 0 c.loop-lengths.lengths.items, c.loop-lengths.invariant.count)

pub returns-then-eq-clause-laid_out : goal.returns-then-eq-clause-laid_out
returns-then-eq-clause-laid_out c =
    let are : c.in_ok-addresses.addresses.items ≡ addresses_from 0 c.loop-lengths.lengths.items = c.in_ok-addresses.ensures ∙ ap (addresses_from 0) c.deref.ensures.value in
    let size : c.index.result.now ≡ sum c.loop-lengths.lengths.items =
    last_read c.in_ok-addresses.addresses.items c.loop-lengths.lengths.items (length c.args.lines.now)
    c.index.result.now are (sym c.loop-lengths.invariant.count) c.index.ensures in
    let need : c.in_ok-needed.needed.items ≡ needed c.args.lines.now c.loop-lengths.lengths.items =
    c.in_ok-needed.ensures ∙ ap (λ xs. needed_at xs c.args.lines.now) (c.deref-in-loop-lengths.ensures.value ∙ are) in
    let same : c.as_slice.result.now ≡ c.as_slice-in-loop-lengths.result.now = (slice_eq-Decides Decides-eqb _ _ _ c.eq.ensures).0 c.if-eq.true in
    record {
      least = record {
        layout = sym need ∙ sym c.as_slice.ensures.value ∙ same ∙ c.as_slice-in-loop-lengths.ensures.value;
        least = c.loop-lengths.invariant.least;
      };
      addresses = are;
      short = omega (arith, size);
    }

pub loop-lengths-smaller : goal.loop-lengths-smaller
loop-lengths-smaller c =
    let are : c.in_ok-addresses.addresses.items ≡ addresses_from 0 c.loop-lengths.lengths.items = c.in_ok-addresses.ensures ∙ ap (addresses_from 0) c.deref.ensures.value in
    let size : c.index.result.now ≡ sum c.loop-lengths.lengths.items =
    last_read c.in_ok-addresses.addresses.items c.loop-lengths.lengths.items (length c.args.lines.now)
    c.index.result.now are (sym c.loop-lengths.invariant.count) c.index.ensures in
    let need : c.in_ok-needed.needed.items ≡ needed c.args.lines.now c.loop-lengths.lengths.items =
    c.in_ok-needed.ensures ∙ ap (λ xs. needed_at xs c.args.lines.now) (c.deref-in-loop-lengths.ensures.value ∙ are) in
    let other : c.loop-lengths.lengths.items ≢ needed c.args.lines.now c.loop-lengths.lengths.items = λ e.
    false≢true (sym c.if-eq.false ∙ (slice_eq-Decides Decides-eqb _ _ _ c.eq.ensures).1 (c.as_slice.ensures.value ∙ need ∙ sym e ∙ sym c.as_slice-in-loop-lengths.ensures.value)) in
    let grows = step_grows c.args.lines.now c.loop-lengths.lengths.items c.loop-lengths.invariant.growing other in
    let more : sum c.in_ok-needed.needed.items ≡ sum (needed c.args.lines.now c.loop-lengths.lengths.items) = ap sum need in
    omega (arith, size, grows, more)

pub loop-lengths-preserved : goal.loop-lengths-preserved
loop-lengths-preserved c =
    let are : c.in_ok-addresses.addresses.items ≡ addresses_from 0 c.loop-lengths.lengths.items = c.in_ok-addresses.ensures ∙ ap (addresses_from 0) c.deref.ensures.value in
    let need : c.in_ok-needed.needed.items ≡ needed c.args.lines.now c.loop-lengths.lengths.items =
    c.in_ok-needed.ensures ∙ ap (λ xs. needed_at xs c.args.lines.now) (c.deref-in-loop-lengths.ensures.value ∙ are) in
    let i = c.loop-lengths.invariant in
    rw need record {
      count = length-needed (addresses_from 0 c.loop-lengths.lengths.items) 0 c.args.lines.now;
      least = step_least c.args.lines.now c.loop-lengths.lengths.items i.count c.requires.sound i.least;
      growing = needed_grows c.args.lines.now c.loop-lengths.lengths.items _ i.count c.requires.sound i.growing;
    }
