-- Steps carry over: what the symbolic machine gets to, a worker gets to that ends.
use Rattle.std.proofs.Common.{◌≡◌, ℕ, ◌+◌, Bool, true, false, pos, negsuc}
use Rattle.std.proofs.Common.{Option, Some, None, refl, sym, ◌∙◌}
use Rattle.tp_decode.specs.declared.instr.Instr.{Instr}
use Rattle.tp_decode.specs.declared.instr.Instr.TheVariants.{Jump, Ldlp, Ldnl, Ldc, Ldnlp, Ldl, Adc, Cj, Ajw, Eqc, Stl}
use Rattle.tp_decode.specs.declared.instr.Instr.TheVariants.{Stnl, Rev, Lb, Bsub, Diff, Add, Input, Prod, Gt, Wsub}
use Rattle.tp_decode.specs.declared.instr.Instr.TheVariants.{Output, Sub, Seterr, Csub0, Stopp, Rem, Lend, Div, BitNot}
use Rattle.tp_decode.specs.declared.instr.Instr.TheVariants.{BitXor, Sb, Shr, Shl, Mint, BitAnd, MoveBytes, BitOr, Sum, Mul}
use Rattle.tp_image.specs.Image.{ImageValue}
use Rattle.tp_step.specs.State.{State}
use Rattle.tp_step.specs.Effects.{effect as effect_in}
use Rattle.tpw_occam_symbolic.specs.declared.code.Step.{Step}
use Rattle.tpw_occam_symbolic.specs.declared.code.Step.TheVariants.{Plain, Load, Store, Pointer, JumpTo, CjTo, Distance}
use Rattle.tpw_occam_symbolic.specs.Symbolic.{Machine, number_in, pair_answer, pair_effect, effect, performed}
use Rattle.tpw_occam_symbolic.specs.MatchStates.{Site, instr_of, GoesOn, LiesIn, MatchStates}
use Rattle.tpw_occam_symbolic.proofs.Simulation.{Carries, bind_machine}
use Rattle.tpw_occam_symbolic.proofs.SimulationNumbers.{add_carries, sub_carries, mul_carries, sum_carries, diff_carries, prod_carries, bitand_carries, bitor_carries, bitxor_carries, gt_carries, div_carries, rem_carries, shl_carries, shr_carries, ldc_carries, adc_carries, eqc_carries, not_carries, rev_carries, csub0_carries, seterr_carries}
use Rattle.tpw_occam_symbolic.proofs.SimulationMemory.{load_carries, store_carries, pointer_carries, ldnl_carries, stnl_carries, lb_carries, sb_carries, bsub_carries, wsub_carries, move_carries}
use Rattle.tpw_occam_symbolic.proofs.SimulationControl.{jump_carries, cj_carries, distance_carries, stopp_carries, input_carries, output_carries}
use Rattle.tpw_occam_symbolic.proofs.SimulationTurns.{lend_carries}

-- ---- instructions

none_some : {A : Type 0} (x : A) → None ≡ Some x → ⊥
none_some x e = cc

true_false : ◌≡◌ {A = Bool} true false → ⊥
true_false e = cc

-- an instruction that code does not have
unlisted : (site : Site) (m : Machine) (instr : Instr) (o : Option State) → ((b a : ℕ) → pair_answer instr b a ≡ None)
    → Carries site (pair_effect instr m) o
unfolding pair_effect
unlisted site m instr o none =
    bind_machine site (number_in m.areg) _ _ λ a is_a.
    bind_machine site (number_in m.breg) _ _ λ b is_b.
    bind_machine site (pair_answer instr b a) _ _ λ made is_made.
    absurd (none_some made (sym (none b a) ∙ is_made))

module _ (image : ImageValue) (site : Site) (lies : LiesIn image site) (m : Machine) (s : State) (is : MatchStates site m s) where
  pub effect_carries : (instr : Instr) → Carries site (effect instr m) (effect_in image instr s)
  unfolding effect
  effect_carries Add = add_carries image site m s is
  effect_carries Sub = sub_carries image site m s is
  effect_carries Mul = mul_carries image site m s is
  effect_carries Sum = sum_carries image site m s is
  effect_carries Diff = diff_carries image site m s is
  effect_carries Prod = prod_carries image site m s is
  effect_carries BitAnd = bitand_carries image site m s is
  effect_carries BitOr = bitor_carries image site m s is
  effect_carries BitXor = bitxor_carries image site m s is
  effect_carries Gt = gt_carries image site m s is
  effect_carries Div = div_carries image site m s is
  effect_carries Rem = rem_carries image site m s is
  effect_carries Shl = shl_carries image site m s is
  effect_carries Shr = shr_carries image site m s is
  effect_carries (Ldc n) = ldc_carries image site m s is n
  effect_carries (Adc n) = adc_carries image site m s is n
  effect_carries (Eqc n) = eqc_carries image site m s is n
  effect_carries BitNot = not_carries image site m s is
  effect_carries Rev = rev_carries image site m s is
  effect_carries Csub0 = csub0_carries image site m s is
  effect_carries Seterr = seterr_carries image site m s is
  effect_carries (Ldnl (pos n)) = ldnl_carries image site lies m s is n
  effect_carries (Ldnl (negsuc n)) = unlisted site m (Ldnl (negsuc n)) _ (λ b a. refl)
  effect_carries (Stnl (pos n)) = stnl_carries image site lies m s is n
  effect_carries (Stnl (negsuc n)) = unlisted site m (Stnl (negsuc n)) _ (λ b a. refl)
  effect_carries Lb = lb_carries image site lies m s is
  effect_carries Sb = sb_carries image site lies m s is
  effect_carries Bsub = bsub_carries image site lies m s is
  effect_carries Wsub = wsub_carries image site lies m s is
  effect_carries MoveBytes = move_carries image site lies m s is
  effect_carries Stopp = stopp_carries image site lies m s is
  effect_carries Input = input_carries image site lies m s is
  effect_carries Output = output_carries image site lies m s is
  effect_carries Lend = lend_carries image site lies m s is
  effect_carries (Jump n) = unlisted site m (Jump n) _ (λ b a. refl)
  effect_carries (Ldlp n) = unlisted site m (Ldlp n) _ (λ b a. refl)
  effect_carries (Ldnlp n) = unlisted site m (Ldnlp n) _ (λ b a. refl)
  effect_carries (Ldl n) = unlisted site m (Ldl n) _ (λ b a. refl)
  effect_carries (Cj n) = unlisted site m (Cj n) _ (λ b a. refl)
  effect_carries (Ajw n) = unlisted site m (Ajw n) _ (λ b a. refl)
  effect_carries (Stl n) = unlisted site m (Stl n) _ (λ b a. refl)
  effect_carries Mint = unlisted site m Mint _ (λ b a. refl)

  -- ---- steps

  plain_carries : (instr : Instr) → Carries site (performed (Plain instr) m) (effect_in image instr s)
  unfolding performed
  plain_carries instr = effect_carries instr

  -- the place is already that behind the step's line
  pub performed_carries : (place : ℕ) (made : Step) → m.place ≡ place + 1 → GoesOn site place made
      → Carries site (performed made m) (effect_in image (instr_of site place made) s)
  performed_carries place (Plain instr) behind goes_on = plain_carries instr
  performed_carries place (Load item word) behind goes_on = load_carries image site lies m s is item word
  performed_carries place (Store item word) behind goes_on = store_carries image site lies m s is item word
  performed_carries place (Pointer item word) behind goes_on = pointer_carries image site lies m s is item word
  performed_carries place (JumpTo to) behind goes_on = jump_carries image site lies m s is place to behind goes_on
  performed_carries place (CjTo to) behind goes_on = cj_carries image site lies m s is place to behind goes_on
  performed_carries place (Distance from to) behind goes_on = distance_carries image site lies m s is from to goes_on
