use Rattle.std.proofs.Common.{◌≡◌, ◌+◌, ◌%◌, ◌-◌, true, false, get_or, refl, ap, sym, ◌∙◌, arith, rules}
use mir.Val.{SFits}
use mir.Syntax.{w32}
use Rattle.std.proofs.lemmas.Bool.Decides.{nat_tests}
use Rattle.std.proofs.lemmas.Int.{to_z-of_z}
use Rattle.tp_words.specs.Words.{signed}
use Rattle.tp_prefix.specs.Spelling.{is_prefix, is_pfix, is_nfix}
use Rattle.tp_prefix.proofs.SpellingLemmas.{prefixed}
use Rattle.tp_prefix.proofs.ReadingLemmas.{found, moved, more_behind, more_prefixes}
use Rattle.tp_prefix.proofs.reading.read_front.Goals as goal
use Rattle.tp_prefix.proofs.reading.read_front.Goals.{in-2, in-6}

pub returns-in_default : goal.returns-in_default
returns-in_default c =
    let b = get_or c.args.bytes.now c.loop-i.i 0 in
    let other : is_prefix b ≡ false = grind (arith, nat_tests) in
    let is = found c.args.bytes.now c.loop-i.i c.loop-i.oreg c.loop-i-test.true c.loop-i.invariant.few c.loop-i.invariant.reads other in
    let count : c.args.at + c.loop-i.i + 1 - c.args.at ≡ c.loop-i.i + 1 = omega arith in
    let operand : signed (c.loop-i.oreg + b % 16) ≡ c.cast_signed.result = ap (λ r. signed (c.loop-i.oreg + r)) (sym c.from.ensures) ∙ sym c.cast_signed.ensures in
    let fits : SFits w32 c.cast_signed.result = search rules in
    (omega arith, omega arith, moved c.args.bytes.now _ _ _ _ _ (sym count) (operand ∙ sym (to_z-of_z w32 c.cast_signed.result fits)) is)

pub loop-i-preserved : goal.loop-i-preserved
loop-i-preserved c =
    let bytes = c.args.bytes.now in
    let i = c.loop-i.i in
    let o = c.loop-i.oreg in
    let b = get_or bytes i 0 in
    elim c.match-byte-div16.branch [
      | in-2 w ↦
          let pfix : is_pfix b ≡ true = rw w.in-2.is refl in
          let prefix : is_prefix b ≡ true = rw pfix refl in
          let left : prefixed o b ≡ c.match-byte-div16.oreg = rw pfix (omega (arith, w.oreg-is, c.from.ensures)) in
          record {
            few = omega arith;
            word = omega (arith, w.oreg-is);
            multiple = omega (arith, w.oreg-is);
            prefixes = more_prefixes bytes i c.loop-i-test.true c.loop-i.invariant.prefixes prefix;
            reads = more_behind bytes i o _ c.loop-i-test.true c.loop-i.invariant.reads prefix left;
          }
      | in-6 w ↦
          let pfix : is_pfix b ≡ false = rw w.in-6.is refl in
          let nfix : is_nfix b ≡ true = rw w.in-6.is refl in
          let prefix : is_prefix b ≡ true = rw (pfix, nfix) refl in
          let left : prefixed o b ≡ c.match-byte-div16.oreg = rw pfix (omega (arith, w.oreg-is, c.from.ensures)) in
          record {
            few = omega arith;
            word = omega (arith, w.oreg-is);
            multiple = omega (arith, w.oreg-is);
            prefixes = more_prefixes bytes i c.loop-i-test.true c.loop-i.invariant.prefixes prefix;
            reads = more_behind bytes i o _ c.loop-i-test.true c.loop-i.invariant.reads prefix left;
          }
    ]
