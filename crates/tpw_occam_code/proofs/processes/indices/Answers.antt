use Rattle.std.proofs.Common.{◌≡◌, ◌^◌, pos, negsuc, ◌+ℤ◌, ◌-ℤ◌, ◌≤ℤ◌, ℤ, w32, w64, to_z, of_z, arith, ap, ◌∙◌}
use Rattle.std.proofs.lemmas.Int.{ints, to_z-of_z, of_z-to_z}
use Rattle.tp_state.proofs.WordLemmas.{signed_above, signed_below}
use Rattle.tp_words.specs.Words.{signed}
use Rattle.tpw_occam_code.proofs.processes.indices.Goals as goal

-- whole numbers of some 40 bits
wide : (z : ℤ) → negsuc (2 ^ 40) ≤ℤ z → z ≤ℤ pos (2 ^ 40) → to_z w64 (of_z w64 z) ≡ z
wide z low high = to_z-of_z w64 z (omega (arith, ints))

pub returns : goal.returns
returns c word small above below =
    let start = c.args.start in
    let count = c.args.count in
    let low = signed_above start c.ranges.start.fits in
    let high = signed_below start c.ranges.start.fits in
    let few = c.ranges.count.fits in
    let first : c.from-first.result ≡ signed start =
    c.from-first.ensures ∙ ap (λ z. to_z w32 (of_z w32 z)) c.cast_signed.ensures ∙ ap (to_z w32) (of_z-to_z w32 start c.ranges.start.fits) in
    let turns : c.from.result ≡ pos count = c.from.ensures in
    let one : to_z w64 (of_z w64 (signed start)) ≡ signed start = wide (signed start) (omega (arith, ints)) (omega (arith, ints)) in
    let two : to_z w64 (of_z w64 (pos count)) ≡ pos count = wide (pos count) (omega (arith, ints)) (omega (arith, ints)) in
    let sum : to_z w64 (of_z w64 (signed start +ℤ pos count)) ≡ signed start +ℤ pos count =
    wide (signed start +ℤ pos count) (omega (arith, ints)) (omega (arith, ints)) in
    let last : to_z w64 (of_z w64 ((signed start +ℤ pos count) -ℤ pos 1)) ≡ (signed start +ℤ pos count) -ℤ pos 1 =
    wide ((signed start +ℤ pos count) -ℤ pos 1) (omega (arith, ints)) (omega (arith, ints)) in
    c.between.ensures.contains word small (rw first (rw one above)) (rw first (rw turns (rw one (rw two (rw sum (rw last below))))))
