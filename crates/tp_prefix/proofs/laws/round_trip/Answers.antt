use Rattle.std.proofs.Common.{◌≡◌, ◌+◌, ◌++◌, length, ap, arith, ◌∙◌, length-append}
use Rattle.tp_prefix.specs.Canonical.{canonical}
use Rattle.tp_prefix.proofs.Reach.{canonical_spells}
use Rattle.tp_prefix.proofs.ReadingLemmas.{middle}
use Rattle.tp_prefix.proofs.laws.round_trip.Goals as goal

pub returns : goal.returns
returns c f e before after small no_pfix no_nfix fits =
    let bytes = canonical f e in
    let lengths : length (before ++ bytes ++ after) ≡ length before + length bytes + length after = length-append (before ++ bytes) after ∙ ap (λ n. n + length after) (length-append before bytes) in
    record {
      forward = omega arith;
      within = omega (arith, lengths);
      spelling = rw (middle before bytes after) (canonical_spells f e fits small no_pfix no_nfix);
    }
