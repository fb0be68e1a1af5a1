-- Each instruction's rule keeps the order, and refuses no state where it accepts one above it; and it keeps states sound.
use Rattle.std.proofs.Common.{◌≡◌, ℕ, ◌≤◌, Result, Ok, Err, refl, arith}
use Rattle.std.specs.Prelude.{All, IfOk}
use Rattle.tp_flow.specs.NestKept.{IsGood}
use Rattle.tp_decode.specs.declared.instr.Instr.{Instr}
use Rattle.tp_decode.specs.declared.instr.Instr.TheVariants.{Jump, Ldlp, Ldnl, Ldc, Ldnlp, Ldl, Adc, Cj, Ajw, Eqc, Stl}
use Rattle.tp_decode.specs.declared.instr.Instr.TheVariants.{Stnl, Rev, Lb, Bsub, Diff, Add, Input, Prod, Gt, Wsub}
use Rattle.tp_decode.specs.declared.instr.Instr.TheVariants.{Output, Sub, Seterr, Csub0, Stopp, Rem, Lend, Div, BitNot}
use Rattle.tp_decode.specs.declared.instr.Instr.TheVariants.{BitXor, Sb, Shr, Shl, Mint, BitAnd, MoveBytes, BitOr, Sum}
use Rattle.tp_decode.specs.declared.instr.Instr.TheVariants.{Mul}
use Rattle.tp_image.specs.Image.{ImageValue, InRange, IsRow}
use Rattle.tp_flow.specs.declared.edge.Edge.{Edge}
use Rattle.tp_state.specs.declared.state.State.{State}
use Rattle.tp_state.specs.declared.fault.StateCode.{StateCode}
use Rattle.tp_state.specs.Kinds.{range}
use Rattle.tp_state.specs.Order.{IsBelow}
use Rattle.tp_state.specs.Rules.{rule}
use Rattle.tp_state.specs.After.{after, entered_at}
use Rattle.tp_state.specs.Conditions.{HasGoodLoops}
use Rattle.tp_state.specs.Sound.{IsSound, LoadsWord}
use Rattle.tp_image.specs.declared.image.Version.{Version}
use Rattle.tp_image.specs.declared.image.Version.TheVariants.{One, Two}
use Rattle.tp_image.specs.Limits.{most_workspace}
use Rattle.tp_rule_laws.proofs.Follows.{Follows, bind}
use Rattle.tp_rule_laws.proofs.Ordered.{AreOrdered, KeepsOrder}
use Rattle.tp_rule_laws.proofs.SoundStates.{with_fact, HasSoundState, KeepsSound}
use Rattle.tp_rule_laws.proofs.Constants.{ldc_follows, mint_follows, ldl_follows, stl_follows, ldlp_follows}
use Rattle.tp_rule_laws.proofs.Constants.{ajw_follows, rev_follows, seterr_follows, ldc_sound, mint_sound, ldl_sound}
use Rattle.tp_rule_laws.proofs.Constants.{stl_sound, ldlp_sound, ajw_sound, rev_sound, seterr_sound}
use Rattle.tp_rule_laws.proofs.Arithmetic.{adc_follows, add_follows, sub_follows, sum_follows, diff_follows}
use Rattle.tp_rule_laws.proofs.Arithmetic.{mul_follows, prod_follows, div_follows, rem_follows, bit_not_follows}
use Rattle.tp_rule_laws.proofs.Arithmetic.{bit_and_follows, bit_or_follows, bit_xor_follows, shl_follows, shr_follows}
use Rattle.tp_rule_laws.proofs.Arithmetic.{eqc_follows, gt_follows, csub0_follows, adc_sound, add_sound, sub_sound}
use Rattle.tp_rule_laws.proofs.Arithmetic.{sum_sound, diff_sound, mul_sound, prod_sound, div_sound, rem_sound}
use Rattle.tp_rule_laws.proofs.Arithmetic.{bit_not_sound, bit_and_sound, bit_or_sound, bit_xor_sound, shl_sound}
use Rattle.tp_rule_laws.proofs.Arithmetic.{shr_sound, eqc_sound, gt_sound, csub0_sound}
use Rattle.tp_rule_laws.proofs.Pointers.{ldnl_follows, stnl_follows, ldnlp_follows, wsub_follows, bsub_follows}
use Rattle.tp_rule_laws.proofs.Pointers.{lb_follows, sb_follows, ldnl_sound, stnl_sound, ldnlp_sound, wsub_sound}
use Rattle.tp_rule_laws.proofs.Pointers.{bsub_sound, lb_sound, sb_sound}
use Rattle.tp_rule_laws.proofs.Control.{jump_follows, cj_follows, input_follows, output_follows, stopp_follows, jump_sound, cj_sound, input_sound, output_sound, stopp_sound}
use Rattle.tp_rule_laws.proofs.Loops.{lend_follows, lend_sound, entering_follows, entered_sound}
use Rattle.tp_rule_laws.proofs.Moves.{move_bytes_follows, move_bytes_sound}

pub rule_follows : {image : ImageValue} {s t : State} (pair : AreOrdered image s t) (at next : ℕ) (instr : Instr) (edge : Edge) → KeepsOrder image s t at next edge instr
-- constants, locals, Wptr
rule_follows pair at next (Ldc n) edge = ldc_follows pair at next edge n
rule_follows pair at next Mint edge = mint_follows pair at next edge
rule_follows pair at next (Ldl n) edge = ldl_follows pair at next edge n
rule_follows pair at next (Stl n) edge = stl_follows pair at next edge n
rule_follows pair at next (Ldlp n) edge = ldlp_follows pair at next edge n
rule_follows pair at next (Ajw n) edge = ajw_follows pair at next edge n
rule_follows pair at next Rev edge = rev_follows pair at next edge
rule_follows pair at next Seterr edge = seterr_follows pair at next edge
-- arithmetic, bits, shifts, comparisons
rule_follows pair at next (Adc n) edge = adc_follows pair at next edge n
rule_follows pair at next Add edge = add_follows pair at next edge
rule_follows pair at next Sub edge = sub_follows pair at next edge
rule_follows pair at next Sum edge = sum_follows pair at next edge
rule_follows pair at next Diff edge = diff_follows pair at next edge
rule_follows pair at next Mul edge = mul_follows pair at next edge
rule_follows pair at next Prod edge = prod_follows pair at next edge
rule_follows pair at next Div edge = div_follows pair at next edge
rule_follows pair at next Rem edge = rem_follows pair at next edge
rule_follows pair at next BitNot edge = bit_not_follows pair at next edge
rule_follows pair at next BitAnd edge = bit_and_follows pair at next edge
rule_follows pair at next BitOr edge = bit_or_follows pair at next edge
rule_follows pair at next BitXor edge = bit_xor_follows pair at next edge
rule_follows pair at next Shl edge = shl_follows pair at next edge
rule_follows pair at next Shr edge = shr_follows pair at next edge
rule_follows pair at next (Eqc n) edge = eqc_follows pair at next edge n
rule_follows pair at next Gt edge = gt_follows pair at next edge
rule_follows pair at next Csub0 edge = csub0_follows pair at next edge
-- pointers and bytes
rule_follows pair at next (Ldnl n) edge = ldnl_follows pair at next edge n
rule_follows pair at next (Stnl n) edge = stnl_follows pair at next edge n
rule_follows pair at next (Ldnlp n) edge = ldnlp_follows pair at next edge n
rule_follows pair at next Wsub edge = wsub_follows pair at next edge
rule_follows pair at next Bsub edge = bsub_follows pair at next edge
rule_follows pair at next Lb edge = lb_follows pair at next edge
rule_follows pair at next Sb edge = sb_follows pair at next edge
-- jumps, messages, stopp
rule_follows pair at next (Jump n) edge = jump_follows pair at next edge n
rule_follows pair at next (Cj n) edge = cj_follows pair at next edge n
rule_follows pair at next Input edge = input_follows pair at next edge
rule_follows pair at next Output edge = output_follows pair at next edge
rule_follows pair at next Stopp edge = stopp_follows pair at next edge
-- ends of loops
rule_follows pair at next Lend edge = lend_follows pair at next edge
-- move
rule_follows pair at next MoveBytes edge = move_bytes_follows pair at next edge

pub rule_sound : {image : ImageValue} {t : State} (h : HasSoundState image t) (at next : ℕ) (instr : Instr) (edge : Edge) → LoadsWord instr → KeepsSound image t at next edge instr
-- constants, locals, Wptr
rule_sound h at next (Ldc n) edge loads = ldc_sound h at next edge n loads
rule_sound h at next Mint edge loads = mint_sound h at next edge
rule_sound h at next (Ldl n) edge loads = ldl_sound h at next edge n
rule_sound h at next (Stl n) edge loads = stl_sound h at next edge n
rule_sound h at next (Ldlp n) edge loads = ldlp_sound h at next edge n
rule_sound h at next (Ajw n) edge loads = ajw_sound h at next edge n
rule_sound h at next Rev edge loads = rev_sound h at next edge
rule_sound h at next Seterr edge loads = seterr_sound h at next edge
-- arithmetic, bits, shifts, comparisons
rule_sound h at next (Adc n) edge loads = adc_sound h at next edge n
rule_sound h at next Add edge loads = add_sound h at next edge
rule_sound h at next Sub edge loads = sub_sound h at next edge
rule_sound h at next Sum edge loads = sum_sound h at next edge
rule_sound h at next Diff edge loads = diff_sound h at next edge
rule_sound h at next Mul edge loads = mul_sound h at next edge
rule_sound h at next Prod edge loads = prod_sound h at next edge
rule_sound h at next Div edge loads = div_sound h at next edge
rule_sound h at next Rem edge loads = rem_sound h at next edge
rule_sound h at next BitNot edge loads = bit_not_sound h at next edge
rule_sound h at next BitAnd edge loads = bit_and_sound h at next edge
rule_sound h at next BitOr edge loads = bit_or_sound h at next edge
rule_sound h at next BitXor edge loads = bit_xor_sound h at next edge
rule_sound h at next Shl edge loads = shl_sound h at next edge
rule_sound h at next Shr edge loads = shr_sound h at next edge
rule_sound h at next (Eqc n) edge loads = eqc_sound h at next edge n
rule_sound h at next Gt edge loads = gt_sound h at next edge
rule_sound h at next Csub0 edge loads = csub0_sound h at next edge
-- pointers and bytes
rule_sound h at next (Ldnl n) edge loads = ldnl_sound h at next edge n
rule_sound h at next (Stnl n) edge loads = stnl_sound h at next edge n
rule_sound h at next (Ldnlp n) edge loads = ldnlp_sound h at next edge n
rule_sound h at next Wsub edge loads = wsub_sound h at next edge
rule_sound h at next Bsub edge loads = bsub_sound h at next edge
rule_sound h at next Lb edge loads = lb_sound h at next edge
rule_sound h at next Sb edge loads = sb_sound h at next edge
-- jumps, messages, stopp
rule_sound h at next (Jump n) edge loads = jump_sound h at next edge n
rule_sound h at next (Cj n) edge loads = cj_sound h at next edge n
rule_sound h at next Input edge loads = input_sound h at next edge
rule_sound h at next Output edge loads = output_sound h at next edge
rule_sound h at next Stopp edge loads = stopp_sound h at next edge
-- ends of loops
rule_sound h at next Lend edge loads = lend_sound h at next edge
-- move
rule_sound h at next MoveBytes edge loads = move_bytes_sound h at next edge

-- ---- entering included

pub after_follows : (image : ImageValue) → All IsRow image.loops → All (IsGood image.workspace) image.loops → (at next : ℕ) (instr : Instr) (edge : Edge) (s t : State) → IsSound image s → IsBelow s t
    → Follows IsBelow (after image at next instr edge s) (after image at next instr edge t)
unfolding after
after_follows image are good at next instr edge s t g h =
    bind IsBelow IsBelow (rule image at next instr edge s) (rule image at next instr edge t) _ _ (rule_follows (record { rows = are; good = good; below = h; sound = g }) at next instr edge)
    λ u v below. entering_follows image.loops (entered_at image at next instr edge) u v below

-- the same of outcomes
pub keeps_order : (image : ImageValue) → InRange image → HasGoodLoops image →
    (at next : ℕ) (instr : Instr) (edge : Edge) (s t u : State) → IsSound image s → IsBelow s t →
    after image at next instr edge t ≡ Ok u → (v : State) × (after image at next instr edge s ≡ Ok v) × IsBelow v u
keeps_order image range good at next instr edge s t u sound below ok =
    goes (after image at next instr edge s) (after image at next instr edge t) (after_follows image range.rows good at next instr edge s t sound below) ok
  where
    goes : (r q : Result State StateCode) → Follows IsBelow r q → q ≡ Ok u → (v : State) × (r ≡ Ok v) × IsBelow v u
    goes (Ok v) (Ok w) h e = (v, refl, let same : w ≡ u = cc in rw (← same) h)
    goes (Err f) (Ok w) h e = absurd h
    goes r (Err f) h e = cc

small_workspace : (image : ImageValue) → InRange image → image.workspace ≤ 512
small_workspace image range = by_version image.version range.workspace.1
  where
    by_version : (v : Version) → image.workspace ≤ most_workspace v → image.workspace ≤ 512
    by_version One le = omega (arith, le)
    by_version Two le = le

pub after_sound : (image : ImageValue) → InRange image → HasGoodLoops image →
    (at next : ℕ) (instr : Instr) (edge : Edge) (t : State) → LoadsWord instr → IsSound image t →
    IfOk (after image at next instr edge t) (IsSound image)
unfolding after
after_sound image range good at next instr edge t loads h =
    with_fact (IsSound image) (IsSound image) _ _ (rule_sound
    (record { small = small_workspace image range; rows = range.rows; good = good; sound = h }) at next instr edge
    loads) λ u g. entered_sound image _ u g
