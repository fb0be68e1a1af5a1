use Rattle.std.proofs.Common.{◌≡◌, ◌≤◌, ◌<◌, ◌==◌, Bool, true, false, not, cond, eqb, get_or, length, take, ◌%◌, ◌^◌, ap, ◌∙◌, refl, arith, w32}
use lib.Lanes.{zip2, mask_l}
use Rattle.std.proofs.lemmas.List.{length-take-le, get_or-take}
use Rattle.std.proofs.lemmas.Simd.{tops_compared, length-zip2, mask_l-mod, bit_mask_l, get_or-zip2}
use Rattle.tp_state.specs.Planes.{is_set}
use Rattle.tp_state.proofs.values.differing_word.Goals as goal

turned : (b : Bool) → (cond b 1 0 == 1) ≡ b
turned true = refl
turned false = refl

pub returns : goal.returns
returns c j lt =
    let a = take 64 c.args.values.now in
    let b = take 64 c.args.others.now in
    let la : length a ≡ 64 = length-take-le 64 c.args.values.now c.requires.values in
    let lb : length b ≡ 64 = length-take-le 64 c.args.others.now c.requires.others in
    let same : length a ≡ length b = omega (arith, la, lb) in
    let ga : get_or a j 0 ≡ get_or c.args.values.now j 0 = get_or-take 64 c.args.values.now j 0 lt in
    let gb : get_or b j 0 ≡ get_or c.args.others.now j 0 = get_or-take 64 c.args.others.now j 0 lt in
    let long : length (zip2 (λ x y. not (eqb x y)) a b) ≡ 64 = length-zip2 (λ x y. not (eqb x y)) a b same ∙ la in
    let few : length (zip2 (λ x y. not (eqb x y)) a b) ≤ 64 = omega (arith, long) in
    let in_a : j < length a = omega (arith, la, lt) in
    let in_b : j < length b = omega (arith, lb, lt) in
    ap (λ n. is_set n j) (ap (λ ms. mask_l ms % 2 ^ 64) (tops_compared w32 (λ x y. not (eqb x y)) a b) ∙ mask_l-mod (zip2 (λ x y. not (eqb x y)) a b) 64 few)
    ∙ ap (λ n. n == 1) (bit_mask_l (zip2 (λ x y. not (eqb x y)) a b) j)
    ∙ ap (λ t. cond t 1 0 == 1) (get_or-zip2 (λ x y. not (eqb x y)) a b j 0 0 false in_a in_b)
    ∙ turned (not (eqb (get_or a j 0) (get_or b j 0)))
    ∙ (rw (ga, gb) refl)
