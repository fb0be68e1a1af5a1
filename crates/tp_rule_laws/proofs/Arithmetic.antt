-- Arithmetic, bits, shifts, comparisons: adc, add, sub, sum, diff, mul, prod, div, rem, not, and, or, xor, shl, shr, eqc, gt, csub0.
use Rattle.std.proofs.Common.{◌≡◌, ℕ, true, IsTrue, ℤ, pos, negsuc, ◌+ℤ◌, ◌-ℤ◌, Ok, arith}
use Rattle.std.specs.Prelude.{IfOk}
use Rattle.std.proofs.lemmas.Int.{ints}
use Rattle.std.proofs.lemmas.Bool.Decides.{nat_tests}
use Rattle.tp_decode.specs.declared.instr.Instr.TheVariants.{Adc, Eqc, Diff, Add, Prod, Gt, Sub, Csub0, Rem, Div, BitNot, BitXor, Shr, Shl, BitAnd, BitOr, Sum, Mul}
use Rattle.tp_image.specs.Image.{ImageValue}
use Rattle.tp_flow.specs.declared.edge.Edge.{Edge}
use Rattle.tp_state.specs.declared.kind.Kind.{Kind}
use Rattle.tp_state.specs.declared.state.State.{State}
use Rattle.tp_state.specs.declared.fault.StateCode.TheVariants.{S10}
use Rattle.tp_state.specs.Answer.{◌>>=◌, ◌>>◌, unless}
use Rattle.tp_state.specs.Kinds.{full, range, at_ends}
use Rattle.tp_state.specs.Order.{kind_below, IsBelow}
use Rattle.tp_state.specs.Rules.{rule, one_number, two_numbers, set_areg, replace_pair, truth_value, quotients}
use Rattle.tp_state.specs.Rules.{remainders, conjunctions, shifted_up, shifted_down, are_shift_counts, sum_of}
use Rattle.tp_state.specs.Rules.{difference, product}
use Rattle.tp_state.proofs.OrderLemmas.{kind_below-self}
use Rattle.tp_state.specs.Sound.{IsSound, IsSoundKind}
use Rattle.tp_state.specs.declared.kind.Kind.TheVariants as kind
use Rattle.tp_rule_laws.proofs.Follows.{bind, tested}
use Rattle.tp_rule_laws.proofs.Ranges.{IsWithin, full_self, range_below, at_ends_below, sums_between, differences_between, products_between}
use Rattle.tp_rule_laws.proofs.States.{popped, replaced, given}
use Rattle.tp_rule_laws.proofs.Ordered.{Goes, AreOrdered, KeepsOrder, AreBoth, one_number_follows, two_numbers_follow, also_numbers, also_number}
use Rattle.tp_rule_laws.proofs.SoundStates.{with_fact, one_number_has, AreOnes, two_numbers_have, tested_sound, HasSoundState, KeepsSound, sets, gives, range_of_words, also_sound, pop_one}
use Rattle.tp_rule_laws.proofs.ArithmeticOrder.{quotients_below, remainders_below, conjunctions_below, complements_below, shifted_up_below, shifted_down_below}
use Rattle.tp_rule_laws.proofs.ArithmeticSound.{IsOne, full_range, range_has, at_ends_has, quotients_has, remainders_has, conjunctions_has, shifted_up_has, shifted_down_has}

-- ---- the order

shift_counts : (a b : ℤ × ℤ) → IsWithin a b → are_shift_counts b ≡ true → are_shift_counts a ≡ true
shift_counts a b w e =
    let l = w.low in let o = w.ordered in let h = w.high in
    grind (arith, ints, nat_tests)

module _ {image : ImageValue} {s t : State} (pair : AreOrdered image s t) where
  -- what two numbers give
  computes : (f : ℤ × ℤ → ℤ × ℤ → Kind) → ((b a d c : ℤ × ℤ) → IsWithin b d → IsWithin a c →
      IsTrue (kind_below (f b a) (f d c))) → Goes (two_numbers s >>= (λ p. Ok (replace_pair (f p.1 p.0) s)))
      (two_numbers t >>= (λ p. Ok (replace_pair (f p.1 p.0) t)))
  computes f keeps = bind IsBelow AreBoth (two_numbers s) (two_numbers t) _ _ (two_numbers_follow pair) λ p q in_p. given s t pair.below _ _ (keeps p.1 p.0 q.1 q.0 in_p.1 in_p.0)

  replaces : (f : ℤ × ℤ → Kind) → ((a c : ℤ × ℤ) → IsWithin a c → IsTrue (kind_below (f a) (f c))) →
      Goes (one_number s >>= (λ a. Ok (set_areg (f a) s))) (one_number t >>= (λ a. Ok (set_areg (f a) t)))
  replaces f keeps = bind IsBelow IsWithin (one_number s) (one_number t) _ _ (one_number_follows pair) λ a c is. replaced s t pair.below _ _ (keeps a c is)

  shifts : (f : ℤ × ℤ → ℤ × ℤ → Kind) → ((b a d c : ℤ × ℤ) → are_shift_counts c ≡ true → IsWithin b d → IsWithin a c → IsTrue (kind_below (f b a) (f d c)))
      → Goes (two_numbers s >>= (λ p. unless S10 (are_shift_counts p.0) >> Ok (replace_pair (f p.1 p.0) s)))
      (two_numbers t >>= (λ p. unless S10 (are_shift_counts p.0) >> Ok (replace_pair (f p.1 p.0) t)))
  shifts f keeps = bind IsBelow AreBoth (two_numbers s) (two_numbers t) _ _ (two_numbers_follow pair) λ p q in_p. tested
      IsBelow S10 _ _ _ _ (shift_counts p.0 q.0 in_p.0) λ counts. given s t pair.below _ _
      (keeps p.1 p.0 q.1 q.0 counts in_p.1 in_p.0)

module _ {image : ImageValue} {s t : State} (pair : AreOrdered image s t) (at next : ℕ) (edge : Edge) where
  pub adc_follows : (n : ℤ) → KeepsOrder image s t at next edge (Adc n)
  unfolding rule
  adc_follows n = replaces pair (λ a. range (a.0 +ℤ n) (a.1 +ℤ n)) λ a c is. let l = is.low in let o = is.ordered in
      let hi = is.high in range_below (a.0 +ℤ n) (a.1 +ℤ n) (c.0 +ℤ n) (c.1 +ℤ n) (omega (arith, ints))
      (omega (arith, ints)) (omega (arith, ints))

  pub add_follows : KeepsOrder image s t at next edge Add
  unfolding rule
  add_follows = computes pair (at_ends sum_of) (at_ends_below sum_of sums_between)

  pub sub_follows : KeepsOrder image s t at next edge Sub
  unfolding rule
  sub_follows = computes pair (at_ends difference) (at_ends_below difference differences_between)

  pub sum_follows : KeepsOrder image s t at next edge Sum
  unfolding rule
  sum_follows = computes pair (at_ends sum_of) (at_ends_below sum_of sums_between)

  pub diff_follows : KeepsOrder image s t at next edge Diff
  unfolding rule
  diff_follows = computes pair (at_ends difference) (at_ends_below difference differences_between)

  pub mul_follows : KeepsOrder image s t at next edge Mul
  unfolding rule
  mul_follows = computes pair (at_ends product) (at_ends_below product products_between)

  pub prod_follows : KeepsOrder image s t at next edge Prod
  unfolding rule
  prod_follows = computes pair (at_ends product) (at_ends_below product products_between)

  pub div_follows : KeepsOrder image s t at next edge Div
  unfolding rule
  div_follows = computes pair quotients quotients_below

  pub rem_follows : KeepsOrder image s t at next edge Rem
  unfolding rule
  rem_follows = computes pair remainders remainders_below

  pub bit_not_follows : KeepsOrder image s t at next edge BitNot
  unfolding rule
  bit_not_follows = replaces pair (λ a. kind.Int (negsuc 0 -ℤ a.1) (negsuc 0 -ℤ a.0)) complements_below

  pub bit_and_follows : KeepsOrder image s t at next edge BitAnd
  unfolding rule
  bit_and_follows = computes pair conjunctions conjunctions_below

  pub bit_or_follows : KeepsOrder image s t at next edge BitOr
  unfolding rule
  bit_or_follows = also_numbers pair _ _ (given s t pair.below _ _ full_self)

  pub bit_xor_follows : KeepsOrder image s t at next edge BitXor
  unfolding rule
  bit_xor_follows = also_numbers pair _ _ (given s t pair.below _ _ full_self)

  pub shl_follows : KeepsOrder image s t at next edge Shl
  unfolding rule
  shl_follows = shifts pair shifted_up (λ b a d c counts in_b in_a. shifted_up_below b a d c in_b in_a)

  pub shr_follows : KeepsOrder image s t at next edge Shr
  unfolding rule
  shr_follows = shifts pair shifted_down shifted_down_below

  pub eqc_follows : (n : ℤ) → KeepsOrder image s t at next edge (Eqc n)
  unfolding rule
  eqc_follows n = also_number pair _ _ (replaced s t pair.below _ _ (kind_below-self truth_value))

  pub gt_follows : KeepsOrder image s t at next edge Gt
  unfolding rule
  gt_follows = also_numbers pair _ _ (given s t pair.below _ _ (kind_below-self truth_value))

  pub csub0_follows : KeepsOrder image s t at next edge Csub0
  unfolding rule
  csub0_follows = also_numbers pair _ _ (popped s t pair.below)

-- ---- sound states

complements_have : (a : ℤ × ℤ) → IsOne a → IsSoundKind (kind.Int (negsuc 0 -ℤ a.1) (negsuc 0 -ℤ a.0))
complements_have a r = let l = r.least in let o = r.ordered in let g = r.greatest in
    range_of_words (negsuc 0 -ℤ a.1) (negsuc 0 -ℤ a.0) (omega (arith, ints)) (omega (arith, ints)) (omega (arith, ints))

truth : IsSoundKind truth_value
truth = range_of_words (pos 0) (pos 1) (omega (arith, ints)) (omega (arith, ints)) (omega (arith, ints))

module _ {image : ImageValue} {t : State} (h : HasSoundState image t) where
  -- what two numbers give
  computes_sound : (f : ℤ × ℤ → ℤ × ℤ → Kind) → ((b a : ℤ × ℤ) → IsOne b → IsOne a → IsSoundKind (f b a)) → IfOk (two_numbers t >>= (λ p. Ok (replace_pair (f p.1 p.0) t))) (IsSound image)
  computes_sound f ends = with_fact (IsSound image) AreOnes (two_numbers t) _ (two_numbers_have t h.sound.a h.sound.b) λ p words. gives h _ (ends p.1 p.0 words.1 words.0)

  -- what a number is replaced by
  replaces_sound : (f : ℤ × ℤ → Kind) → ((a : ℤ × ℤ) → IsOne a → IsSoundKind (f a)) → IfOk (one_number t >>= (λ a. Ok (set_areg (f a) t))) (IsSound image)
  replaces_sound f ends = with_fact (IsSound image) IsOne (one_number t) _ (one_number_has t h.sound.a) λ a words. sets h _ (ends a words)

  shifts_sound : (f : ℤ × ℤ → ℤ × ℤ → Kind) → ((b a : ℤ × ℤ) → are_shift_counts a ≡ true → IsOne b → IsOne a →
      IsSoundKind (f b a)) → IfOk (two_numbers t >>= (λ p. unless S10 (are_shift_counts p.0) >> Ok
      (replace_pair (f p.1 p.0) t))) (IsSound image)
  shifts_sound f ends = with_fact (IsSound image) AreOnes (two_numbers t) _ (two_numbers_have t h.sound.a h.sound.b) λ p
      words. tested_sound image _ _ _ λ counts. gives h _ (ends p.1 p.0 counts words.1 words.0)

  adds : (n : ℤ) (a : ℤ × ℤ) → IsOne a → IsSound image (set_areg (range (a.0 +ℤ n) (a.1 +ℤ n)) t)
  adds n a is = let o = is.ordered in sets h _ (range_has (a.0 +ℤ n) (a.1 +ℤ n) (omega (arith, ints)))

  truth_set : IsSound image (set_areg truth_value t)
  truth_set = sets h _ truth

  truth_given : IsSound image (replace_pair truth_value t)
  truth_given = gives h _ truth

  full_given : IsSound image (replace_pair full t)
  full_given = gives h _ full_range

module _ {image : ImageValue} {t : State} (h : HasSoundState image t) (at next : ℕ) (edge : Edge) where
  pub adc_sound : (n : ℤ) → KeepsSound image t at next edge (Adc n)
  unfolding rule
  adc_sound n = with_fact (IsSound image) IsOne (one_number t) _ (one_number_has t h.sound.a) λ a is. adds h n a is

  pub add_sound : KeepsSound image t at next edge Add
  unfolding rule
  add_sound = computes_sound h (at_ends sum_of) (λ b a in_b in_a. at_ends_has sum_of b a)

  pub sub_sound : KeepsSound image t at next edge Sub
  unfolding rule
  sub_sound = computes_sound h (at_ends difference) (λ b a in_b in_a. at_ends_has difference b a)

  pub sum_sound : KeepsSound image t at next edge Sum
  unfolding rule
  sum_sound = computes_sound h (at_ends sum_of) (λ b a in_b in_a. at_ends_has sum_of b a)

  pub diff_sound : KeepsSound image t at next edge Diff
  unfolding rule
  diff_sound = computes_sound h (at_ends difference) (λ b a in_b in_a. at_ends_has difference b a)

  pub mul_sound : KeepsSound image t at next edge Mul
  unfolding rule
  mul_sound = computes_sound h (at_ends product) (λ b a in_b in_a. at_ends_has product b a)

  pub prod_sound : KeepsSound image t at next edge Prod
  unfolding rule
  prod_sound = computes_sound h (at_ends product) (λ b a in_b in_a. at_ends_has product b a)

  pub div_sound : KeepsSound image t at next edge Div
  unfolding rule
  div_sound = computes_sound h quotients quotients_has

  pub rem_sound : KeepsSound image t at next edge Rem
  unfolding rule
  rem_sound = computes_sound h remainders remainders_has

  pub bit_not_sound : KeepsSound image t at next edge BitNot
  unfolding rule
  bit_not_sound = replaces_sound h (λ a. kind.Int (negsuc 0 -ℤ a.1) (negsuc 0 -ℤ a.0)) complements_have

  pub bit_and_sound : KeepsSound image t at next edge BitAnd
  unfolding rule
  bit_and_sound = computes_sound h conjunctions conjunctions_has

  pub bit_or_sound : KeepsSound image t at next edge BitOr
  unfolding rule
  bit_or_sound = search (also_sound h, full_given h) depth 14

  pub bit_xor_sound : KeepsSound image t at next edge BitXor
  unfolding rule
  bit_xor_sound = search (also_sound h, full_given h) depth 14

  pub shl_sound : KeepsSound image t at next edge Shl
  unfolding rule
  shl_sound = shifts_sound h shifted_up (λ b a counts in_b in_a. shifted_up_has b a in_b in_a)

  pub shr_sound : KeepsSound image t at next edge Shr
  unfolding rule
  shr_sound = shifts_sound h shifted_down shifted_down_has

  pub eqc_sound : (n : ℤ) → KeepsSound image t at next edge (Eqc n)
  unfolding rule
  eqc_sound n = search (also_sound h, truth_set h) depth 14

  pub gt_sound : KeepsSound image t at next edge Gt
  unfolding rule
  gt_sound = search (also_sound h, truth_given h) depth 14

  pub csub0_sound : KeepsSound image t at next edge Csub0
  unfolding rule
  csub0_sound = search (also_sound h, pop_one h) depth 14
