use Rattle.std.proofs.Common.{◌≡◌, nat_lt, true, false, arith, length, refl}
use Rattle.std.proofs.lemmas.Bool.Decides.{nat_tests}
use Rattle.tp_session.proofs.ReadingLemmas.{keeps_more, or_false, or_true}
use Rattle.tp_session.proofs.reading.take_plain.Goals as goal

pub returns-then-kept-bytes : goal.returns-then-kept-bytes
returns-then-kept-bytes c = record {
  kept = λ number line keeps.
      let p = c.args.partial.now in
      let bytes = c.args.bytes.now in
      let cut = c.if-kept-bytes.true in
      let test : nat_lt c.min-kept.result (length bytes) ≡ true = grind (arith, nat_tests, cut) in
      keeps_more p _ number line bytes c.min-kept.result keeps (omega (arith, c.len.ensures, c.min-kept.ensures)) refl
      c.in_ok-extend_from_slice.ensures.items (or_true p.long _ test);
}

pub returns-else-kept-bytes : goal.returns-else-kept-bytes
returns-else-kept-bytes c = record {
  kept = λ number line keeps.
      let p = c.args.partial.now in
      let bytes = c.args.bytes.now in
      let whole = c.if-kept-bytes.false in
      let test : nat_lt c.min-kept.result (length bytes) ≡ false = grind (arith, nat_tests, whole) in
      keeps_more p _ number line bytes c.min-kept.result keeps (omega (arith, c.len.ensures, c.min-kept.ensures)) refl
      c.in_ok-extend_from_slice.ensures.items (or_false p.long _ test);
}
