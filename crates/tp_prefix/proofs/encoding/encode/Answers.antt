use Rattle.std.proofs.Common.{◌≡◌, ◌∷◌, [], ◌++◌, ◌+◌, ◌*◌, ◌-◌, ◌%◌, ◌<◌, ◌/◌, ◌^◌, length, pos, negsuc, sym, ap, arith, ◌∙◌}
use Rattle.std.proofs.lemmas.Int.{ints}
use Rattle.tp_prefix.specs.Canonical.{canonical}
use Rattle.tp_prefix.proofs.CanonicalLemmas.{natural_room}
use Rattle.tp_prefix.proofs.Reach.{canonical_least, canonical_spells, canonical_pos, canonical_negsuc, below_zero, not_below_zero}
use Rattle.tp_prefix.proofs.encoding.encode.Goals as goal

pub push-requires : goal.push-requires
push-requires c =
    let n = c.cast_unsigned-complement.result in
    let short : length c.natural-bytes.result.items < 8 = rw c.natural-bytes.ensures ((natural_room 6 (n / 16) (omega arith)).0) in
    (omega arith, short)

is_canonical : (c : goal.After-push) → c.push.new.self.items ≡ canonical c.args.function c.args.operand
is_canonical c =
    let n = c.cast_unsigned-complement.result in
    let is : c.args.operand ≡ negsuc n = below_zero c.args.operand n c.ranges.operand c.if-operand-lt0.true c.cast_unsigned-complement.ensures in
    let half : n < 2 ^ 31 = omega (arith, ints, c.ranges.operand, is) in
    c.push.ensures.items ∙ ap (λ bytes. bytes ++ (16 * c.args.function + (15 - n % 16)) ∷ []) c.natural-bytes.ensures ∙
    sym (ap (canonical c.args.function) is ∙ canonical_negsuc c.args.function n half)

pub returns-then-operand-lt0-clause-canonical : goal.returns-then-operand-lt0-clause-canonical
returns-then-operand-lt0-clause-canonical c = is_canonical c

pub returns-then-operand-lt0-clause-spelling : goal.returns-then-operand-lt0-clause-spelling
returns-then-operand-lt0-clause-spelling c =
    rw (is_canonical c) (canonical_spells c.args.function c.args.operand c.ranges.operand c.requires.function c.requires.no_pfix c.requires.no_nfix)

pub returns-then-operand-lt0-clause-least : goal.returns-then-operand-lt0-clause-least
returns-then-operand-lt0-clause-least c bytes is = rw (is_canonical c) (canonical_least bytes _ _ is)

is_natural : (c : goal.After-natural) → c.natural.result.items ≡ canonical c.args.function c.args.operand
is_natural c =
    let n = c.cast_unsigned.result in
    let is : c.args.operand ≡ pos n = not_below_zero c.args.operand n c.ranges.operand c.if-operand-lt0.false c.cast_unsigned.ensures in
    c.natural.ensures ∙ sym (ap (canonical c.args.function) is ∙ canonical_pos c.args.function n)

pub returns-else-operand-lt0-clause-canonical : goal.returns-else-operand-lt0-clause-canonical
returns-else-operand-lt0-clause-canonical c = is_natural c

pub returns-else-operand-lt0-clause-spelling : goal.returns-else-operand-lt0-clause-spelling
returns-else-operand-lt0-clause-spelling c =
    rw (is_natural c) (canonical_spells c.args.function c.args.operand c.ranges.operand c.requires.function c.requires.no_pfix c.requires.no_nfix)

pub returns-else-operand-lt0-clause-least : goal.returns-else-operand-lt0-clause-least
returns-else-operand-lt0-clause-least c bytes is = rw (is_natural c) (canonical_least bytes _ _ is)
