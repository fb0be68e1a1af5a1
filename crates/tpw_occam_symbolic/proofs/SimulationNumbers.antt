-- Instructions on numbers carry over.
use Rattle.std.proofs.Common.{◌≡◌, ℕ, Bool, true, false, ◌&&◌, ◌||◌, nat_le}
use Rattle.std.proofs.Common.{if◌then◌else◌, ℤ, pos, Option, Some, None, refl, ap, sym, subst, ◌∙◌}
use Rattle.std.specs.Prelude.{int_div, int_rem, ◌+ℤ◌}
use Rattle.std.specs.Ordering.{int_eq}
use Rattle.std.proofs.Math.Bool.{or-false}
use Rattle.std.proofs.lemmas.Option.{same_Some}
use Rattle.tp_words.specs.Words.{signed, low_word, complement}
use Rattle.tp_decode.specs.declared.instr.Instr.{Instr}
use Rattle.tp_decode.specs.declared.instr.Instr.TheVariants.{Ldc, Adc, Eqc, Rev, Diff, Add, Prod, Gt, Sub, Seterr, Csub0, Rem}
use Rattle.tp_decode.specs.declared.instr.Instr.TheVariants.{Div, BitNot, BitXor, Shr, Shl, BitAnd, BitOr, Sum, Mul}
use Rattle.tp_image.specs.Image.{ImageValue}
use Rattle.tp_step.specs.Maybe.{◌>>=◌, ◌>>◌, only_if}
use Rattle.tp_words.specs.Numbers.{least_integer, minus_one, overflows, truth}
use Rattle.tp_step.specs.State.{State, replace_pair as replace_pair_in, push as push_in, pop as pop_in, set_areg as set_areg_in}
use Rattle.tp_step.specs.Effects.{effect as effect_in, divided as divided_in, is_shift_count}
use Rattle.tpw_occam_core.specs.declared.arithmetic.Answer.{Answer}
use Rattle.tpw_occam_core.specs.Arithmetic.{pure, divided, quotient_answer}
use Rattle.tpw_occam_symbolic.specs.Symbolic.{Machine, Contents, number, address, distance, number_in, pair_answer, pair_effect, effect, raised, replace_pair, push, set_areg, pop, shifted}
use Rattle.tpw_occam_symbolic.specs.MatchStates.{Site, IsHeld, MatchStates}
use Rattle.tpw_occam_symbolic.proofs.Simulation.{Carries, both_carry, bind_machine, bind_state, when_state, with_registers, with_error}

-- a register in which a number is
pub number_held : (site : Site) (c : Contents) (o : Option ℕ) (n word : ℕ) → IsHeld site c o → number_in c ≡ Some n → o ≡ Some word
    → word ≡ n
number_held site (number k) (Some v) n word held is there = sym (same_Some _ _ there) ∙ held ∙ same_Some _ _ is
number_held site (number k) None n word held is there = absurd cc
number_held site (address item at) o n word held is there = absurd cc
number_held site (distance from to) o n word held is there = absurd cc

module _ (site : Site) (m : Machine) (s : State) (is : MatchStates site m s) where
  -- what is made of two words
  abbrev made_in : Answer → State
  made_in made = replace_pair_in made.word (record s { error = s.error || made.flag })

  abbrev made_of : Answer → Machine
  made_of made = replace_pair (number made.word) (raised made.flag m)

  replaced : (made : Answer) → Carries site (Some (made_of made)) (Some (made_in made))
  replaced made =
      both_carry site (made_of made) (made_in made)
      (with_registers site (raised made.flag m) (record s { error = s.error || made.flag }) (number made.word) m.creg m.creg (Some made.word) s.creg None
      (with_error site m s (m.error || made.flag) (s.error || made.flag) is (ap (λ e. e || made.flag) is.error))
      refl is.creg tt)

  -- a state that an answer makes
  made_state : (made made' : Answer) (o : Option State) → Some made' ≡ Some made → Some (made_in made') ≡ o → Carries site (Some (made_of made)) o
  made_state made made' o e same =
      subst (Carries site (Some (made_of made))) same
      (subst (λ a. Carries site (Some (made_of made)) (Some (made_in a))) (sym (same_Some _ _ e)) (replaced made))

  -- the same answer of the same words
  pair : (instr : Instr) (f : ℕ → ℕ → Option State)
      → ((b a : ℕ) (made : Answer) → pair_answer instr b a ≡ Some made → Carries site (Some (made_of made)) (f a b))
      → Carries site (pair_effect instr m) (s.areg >>= λ a. s.breg >>= λ b. f a b)
  unfolding pair_effect
  pair instr f go =
      bind_machine site (number_in m.areg) _ _ λ a is_a.
      bind_machine site (number_in m.breg) _ _ λ b is_b.
      bind_machine site (pair_answer instr b a) _ _ λ made is_made.
      bind_state site _ s.areg _ λ a' is_a'.
      bind_state site _ s.breg _ λ b' is_b'.
      let same_a : a' ≡ a = number_held site m.areg s.areg a a' is.areg is_a is_a' in
      let same_b : b' ≡ b = number_held site m.breg s.breg b b' is.breg is_b is_b' in
      subst (λ x. Carries site (Some (made_of made)) (f x b')) (sym same_a)
      (subst (λ y. Carries site (Some (made_of made)) (f a y)) (sym same_b) (go b a made is_made))

  unflagged : (word : ℕ) → Some (made_in (pure word)) ≡ Some (replace_pair_in word s)
  unflagged word = ap (λ e. Some (replace_pair_in word (record s { error = e }))) (or-false s.error)

pub or-true : (b : Bool) → b || true ≡ true
or-true true = refl
or-true false = refl

-- a quotient or a remainder
pub divided_state : (site : Site) (m : Machine) (s : State) (is : MatchStates site m s) (divide : ℤ → ℤ → ℤ) (b a : ℤ)
    → Some (made_in site m s is (divided divide b a)) ≡ Some (divided_in divide b a s)
divided_state site m s is divide b a = by_test (int_eq a (pos 0) || (int_eq b least_integer && int_eq a minus_one))
  where
    by_test : (none : Bool) → Some (made_in site m s is (quotient_answer (if none then None else Some (low_word (divide b a)))))
        ≡ Some (if none then replace_pair_in 0 (record s { error = true }) else replace_pair_in (low_word (divide b a)) s)
    by_test true = ap (λ e. Some (replace_pair_in 0 (record s { error = e }))) (or-true s.error)
    by_test false = unflagged site m s is (low_word (divide b a))

module _ (image : ImageValue) (site : Site) (m : Machine) (s : State) (is : MatchStates site m s) where
  pub add_carries : Carries site (effect Add m) (effect_in image Add s)
  unfolding effect effect_in
  add_carries = pair site m s is Add _ λ b a made e. made_state site m s is made _ _ e refl

  pub sub_carries : Carries site (effect Sub m) (effect_in image Sub s)
  unfolding effect effect_in
  sub_carries = pair site m s is Sub _ λ b a made e. made_state site m s is made _ _ e refl

  pub mul_carries : Carries site (effect Mul m) (effect_in image Mul s)
  unfolding effect effect_in
  mul_carries = pair site m s is Mul _ λ b a made e. made_state site m s is made _ _ e refl

  pub sum_carries : Carries site (effect Sum m) (effect_in image Sum s)
  unfolding effect effect_in
  sum_carries = pair site m s is Sum _ λ b a made e. made_state site m s is made _ _ e (unflagged site m s is _)

  pub diff_carries : Carries site (effect Diff m) (effect_in image Diff s)
  unfolding effect effect_in
  diff_carries = pair site m s is Diff _ λ b a made e. made_state site m s is made _ _ e (unflagged site m s is _)

  pub prod_carries : Carries site (effect Prod m) (effect_in image Prod s)
  unfolding effect effect_in
  prod_carries = pair site m s is Prod _ λ b a made e. made_state site m s is made _ _ e (unflagged site m s is _)

  pub bitand_carries : Carries site (effect BitAnd m) (effect_in image BitAnd s)
  unfolding effect effect_in
  bitand_carries = pair site m s is BitAnd _ λ b a made e. made_state site m s is made _ _ e (unflagged site m s is _)

  pub bitor_carries : Carries site (effect BitOr m) (effect_in image BitOr s)
  unfolding effect effect_in
  bitor_carries = pair site m s is BitOr _ λ b a made e. made_state site m s is made _ _ e (unflagged site m s is _)

  pub bitxor_carries : Carries site (effect BitXor m) (effect_in image BitXor s)
  unfolding effect effect_in
  bitxor_carries = pair site m s is BitXor _ λ b a made e. made_state site m s is made _ _ e (unflagged site m s is _)

  pub gt_carries : Carries site (effect Gt m) (effect_in image Gt s)
  unfolding effect effect_in
  gt_carries = pair site m s is Gt _ λ b a made e. made_state site m s is made _ _ e (unflagged site m s is _)

  pub div_carries : Carries site (effect Div m) (effect_in image Div s)
  unfolding effect effect_in
  div_carries = pair site m s is Div _ λ b a made e. made_state site m s is made _ _ e (divided_state site m s is int_div (signed b) (signed a))

  pub rem_carries : Carries site (effect Rem m) (effect_in image Rem s)
  unfolding effect effect_in
  rem_carries = pair site m s is Rem _ λ b a made e. made_state site m s is made _ _ e (divided_state site m s is int_rem (signed b) (signed a))

  shift : (a word : ℕ) (made : Answer) → shifted a word ≡ Some made → is_shift_count a ≡ true → Some (pure word) ≡ Some made
  shift a word made e small = sym (ap (λ b. only_if b >> Some (pure word)) small) ∙ e

  pub shl_carries : Carries site (effect Shl m) (effect_in image Shl s)
  unfolding effect effect_in
  shl_carries =
      pair site m s is Shl _ λ b a made e.
      when_state site _ (is_shift_count a) _ λ small.
      made_state site m s is made _ _ (shift a _ made e small) (unflagged site m s is _)

  pub shr_carries : Carries site (effect Shr m) (effect_in image Shr s)
  unfolding effect effect_in
  shr_carries =
      pair site m s is Shr _ λ b a made e.
      when_state site _ (is_shift_count a) _ λ small.
      made_state site m s is made _ _ (shift a _ made e small) (unflagged site m s is _)

  -- ---- other instructions on registers

  pub ldc_carries : (n : ℤ) → Carries site (effect (Ldc n) m) (effect_in image (Ldc n) s)
  unfolding effect effect_in
  ldc_carries n =
      both_carry site (push (number (low_word n)) m) (push_in (low_word n) s)
      (with_registers site m s (number (low_word n)) m.areg m.breg (Some (low_word n)) s.areg s.breg is refl is.areg is.breg)

  pub adc_carries : (n : ℤ) → Carries site (effect (Adc n) m) (effect_in image (Adc n) s)
  unfolding effect effect_in
  adc_carries n =
      bind_machine site (number_in m.areg) _ _ λ a is_a.
      bind_state site _ s.areg _ λ a' is_a'.
      let same : a' ≡ a = number_held site m.areg s.areg a a' is.areg is_a is_a' in
      let z : ℕ → ℤ = λ x. signed x +ℤ n in
      both_carry site (set_areg (number (low_word (z a))) (raised (overflows (z a)) m)) (set_areg_in (low_word (z a')) (record s { error = s.error || overflows (z a') }))
      (with_registers site (raised (overflows (z a)) m) (record s { error = s.error || overflows (z a') }) (number (low_word (z a))) m.breg m.creg (Some (low_word (z a'))) s.breg s.creg
      (with_error site m s (m.error || overflows (z a)) (s.error || overflows (z a')) is
      (ap (λ e. e || overflows (z a')) is.error ∙ ap (λ x. m.error || overflows (z x)) same))
      (ap (λ x. low_word (z x)) same) is.breg is.creg)

  pub eqc_carries : (n : ℤ) → Carries site (effect (Eqc n) m) (effect_in image (Eqc n) s)
  unfolding effect effect_in
  eqc_carries n =
      bind_machine site (number_in m.areg) _ _ λ a is_a.
      bind_state site _ s.areg _ λ a' is_a'.
      let same : a' ≡ a = number_held site m.areg s.areg a a' is.areg is_a is_a' in
      let z : ℕ → ℕ = λ x. truth (int_eq (signed x) n) in
      both_carry site (set_areg (number (z a)) m) (set_areg_in (z a') s)
      (with_registers site m s (number (z a)) m.breg m.creg (Some (z a')) s.breg s.creg is (ap z same) is.breg is.creg)

  pub not_carries : Carries site (effect BitNot m) (effect_in image BitNot s)
  unfolding effect effect_in
  not_carries =
      bind_machine site (number_in m.areg) _ _ λ a is_a.
      bind_state site _ s.areg _ λ a' is_a'.
      let same : a' ≡ a = number_held site m.areg s.areg a a' is.areg is_a is_a' in
      both_carry site (set_areg (number (complement a)) m) (set_areg_in (complement a') s)
      (with_registers site m s (number (complement a)) m.breg m.creg (Some (complement a')) s.breg s.creg is (ap complement same) is.breg is.creg)

  pub rev_carries : Carries site (effect Rev m) (effect_in image Rev s)
  unfolding effect effect_in
  rev_carries =
      bind_state site _ s.areg _ λ a is_a.
      bind_state site _ s.breg _ λ b is_b.
      both_carry site (record m { areg = m.breg; breg = m.areg }) (record s { areg = Some b; breg = Some a })
      (with_registers site m s m.breg m.areg m.creg (Some b) (Some a) s.creg is
      (subst (IsHeld site m.breg) is_b is.breg) (subst (IsHeld site m.areg) is_a is.areg) is.creg)

  pub csub0_carries : Carries site (effect Csub0 m) (effect_in image Csub0 s)
  unfolding effect effect_in
  csub0_carries =
      bind_machine site (number_in m.areg) _ _ λ a is_a.
      bind_machine site (number_in m.breg) _ _ λ b is_b.
      bind_state site _ s.areg _ λ a' is_a'.
      bind_state site _ s.breg _ λ b' is_b'.
      let same_a : a' ≡ a = number_held site m.areg s.areg a a' is.areg is_a is_a' in
      let same_b : b' ≡ b = number_held site m.breg s.breg b b' is.breg is_b is_b' in
      both_carry site (pop (raised (nat_le a b) m)) (pop_in (record s { error = s.error || nat_le a' b' }))
      (with_registers site (raised (nat_le a b) m) (record s { error = s.error || nat_le a' b' }) m.breg m.creg m.creg s.breg s.creg None
      (with_error site m s (m.error || nat_le a b) (s.error || nat_le a' b') is
      (ap (λ e. e || nat_le a' b') is.error ∙ ap (λ x. m.error || nat_le x b') same_a ∙ ap (λ y. m.error || nat_le a y) same_b))
      is.breg is.creg tt)

  pub seterr_carries : Carries site (effect Seterr m) (effect_in image Seterr s)
  unfolding effect effect_in
  seterr_carries =
      both_carry site (raised true m) (record s { error = true })
      (with_error site m s (m.error || true) true is (sym (or-true m.error)))
