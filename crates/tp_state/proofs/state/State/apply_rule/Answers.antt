use Rattle.std.proofs.Common.{rules, refl, FitsSigned, w32}
use Rattle.tp_decode.specs.declared.instr.Instr.TheVariants.{Jump, Ldlp, Ldnl, Ldc, Ldnlp, Ldl, Adc, Cj, Ajw, Eqc, Stl, Stnl}
use Rattle.tp_state.specs.Rules.{rule}
use Rattle.tp_state.proofs.Casts.{passed}
use Rattle.tp_state.proofs.state.State.apply_rule.Goals as goal

pub returns-in-Jump-clause-value : goal.returns-in-Jump-clause-value
returns-in-Jump-clause-value c =
    let fits : FitsSigned w32 c.in-Jump.n = search rules in
    rw c.in-Jump.is (passed (λ n. rule c.args.image.now c.args.at c.args.next (Jump n) c.args.edge c.args.self.now) _ _ fits (c.jump.ensures.value c.args.image.now c.args.at c.args.next c.args.edge))

pub returns-in-Ldlp-clause-value : goal.returns-in-Ldlp-clause-value
returns-in-Ldlp-clause-value c =
    let fits : FitsSigned w32 c.in-Ldlp.n = search rules in
    rw c.in-Ldlp.is (passed (λ n. rule c.args.image.now c.args.at c.args.next (Ldlp n) c.args.edge c.args.self.now) _ _ fits (c.ldlp.ensures.value c.args.at c.args.next c.args.edge))

pub returns-in-Ldnl-clause-value : goal.returns-in-Ldnl-clause-value
returns-in-Ldnl-clause-value c =
    let fits : FitsSigned w32 c.in-Ldnl.n = search rules in
    rw c.in-Ldnl.is (passed (λ n. rule c.args.image.now c.args.at c.args.next (Ldnl n) c.args.edge c.args.self.now) _ _ fits (c.ldnl.ensures.value c.args.at c.args.next c.args.edge))

pub returns-in-Ldc-clause-value : goal.returns-in-Ldc-clause-value
returns-in-Ldc-clause-value c =
    let fits : FitsSigned w32 c.in-Ldc.n = search rules in
    rw c.in-Ldc.is (passed (λ n. rule c.args.image.now c.args.at c.args.next (Ldc n) c.args.edge c.args.self.now) _ _ fits (c.ldc.ensures.value c.args.image.now c.args.at c.args.next c.args.edge))

pub returns-in-Ldnlp-clause-value : goal.returns-in-Ldnlp-clause-value
returns-in-Ldnlp-clause-value c =
    let fits : FitsSigned w32 c.in-Ldnlp.n = search rules in
    rw c.in-Ldnlp.is (passed (λ n. rule c.args.image.now c.args.at c.args.next (Ldnlp n) c.args.edge c.args.self.now) _ _ fits (c.ldnlp.ensures.value c.args.at c.args.next c.args.edge))

pub returns-in-Ldl-clause-value : goal.returns-in-Ldl-clause-value
returns-in-Ldl-clause-value c =
    let fits : FitsSigned w32 c.in-Ldl.n = search rules in
    rw c.in-Ldl.is (passed (λ n. rule c.args.image.now c.args.at c.args.next (Ldl n) c.args.edge c.args.self.now) _ _ fits (c.ldl.ensures.value c.args.at c.args.next c.args.edge))

pub returns-in-Adc-clause-value : goal.returns-in-Adc-clause-value
returns-in-Adc-clause-value c =
    let fits : FitsSigned w32 c.in-Adc.n = search rules in
    rw c.in-Adc.is (passed (λ n. rule c.args.image.now c.args.at c.args.next (Adc n) c.args.edge c.args.self.now) _ _ fits (c.adc.ensures.value c.args.image.now c.args.at c.args.next c.args.edge))

pub returns-in-Cj-clause-value : goal.returns-in-Cj-clause-value
returns-in-Cj-clause-value c =
    let fits : FitsSigned w32 c.in-Cj.n = search rules in
    rw c.in-Cj.is (passed (λ n. rule c.args.image.now c.args.at c.args.next (Cj n) c.args.edge c.args.self.now) _ _ fits (c.cj.ensures.value c.args.image.now c.args.at c.args.next))

pub returns-in-Ajw-clause-value : goal.returns-in-Ajw-clause-value
returns-in-Ajw-clause-value c =
    let fits : FitsSigned w32 c.in-Ajw.n = search rules in
    rw c.in-Ajw.is (passed (λ n. rule c.args.image.now c.args.at c.args.next (Ajw n) c.args.edge c.args.self.now) _ _ fits (c.ajw.ensures.value c.args.at c.args.next c.args.edge))

pub returns-in-Eqc-clause-value : goal.returns-in-Eqc-clause-value
returns-in-Eqc-clause-value c =
    let fits : FitsSigned w32 c.in-Eqc.n = search rules in
    rw c.in-Eqc.is (passed (λ n. rule c.args.image.now c.args.at c.args.next (Eqc n) c.args.edge c.args.self.now) _ _ fits (c.eqc.ensures.value c.args.image.now c.args.at c.args.next c.args.edge))

pub returns-in-Stl-clause-value : goal.returns-in-Stl-clause-value
returns-in-Stl-clause-value c =
    let fits : FitsSigned w32 c.in-Stl.n = search rules in
    rw c.in-Stl.is (passed (λ n. rule c.args.image.now c.args.at c.args.next (Stl n) c.args.edge c.args.self.now) _ _ fits (c.stl.ensures.value c.args.at c.args.next c.args.edge))

pub returns-in-Stnl-clause-value : goal.returns-in-Stnl-clause-value
returns-in-Stnl-clause-value c =
    let fits : FitsSigned w32 c.in-Stnl.n = search rules in
    rw c.in-Stnl.is (passed (λ n. rule c.args.image.now c.args.at c.args.next (Stnl n) c.args.edge c.args.self.now) _ _ fits (c.stnl.ensures.value c.args.at c.args.next c.args.edge))

pub returns-in-Rev-clause-value : goal.returns-in-Rev-clause-value
returns-in-Rev-clause-value c = rw c.in-Rev.is (c.rev.ensures.value c.args.image.now c.args.at c.args.next c.args.edge)

pub returns-in-Lb-clause-value : goal.returns-in-Lb-clause-value
returns-in-Lb-clause-value c = rw c.in-Lb.is (c.lb.ensures.value c.args.image.now c.args.at c.args.next c.args.edge)

pub returns-in-Bsub-clause-value : goal.returns-in-Bsub-clause-value
returns-in-Bsub-clause-value c = rw c.in-Bsub.is (c.bsub.ensures.value c.args.at c.args.next c.args.edge)

pub returns-in-Input-clause-value : goal.returns-in-Input-clause-value
returns-in-Input-clause-value c = rw c.in-Input.is (c.input.ensures.value c.args.at c.args.next c.args.edge)

pub returns-in-Gt-clause-value : goal.returns-in-Gt-clause-value
returns-in-Gt-clause-value c = rw c.in-Gt.is (c.gt.ensures.value c.args.image.now c.args.at c.args.next c.args.edge)

pub returns-in-Wsub-clause-value : goal.returns-in-Wsub-clause-value
returns-in-Wsub-clause-value c = rw c.in-Wsub.is (c.wsub.ensures.value c.args.at c.args.next c.args.edge)

pub returns-in-Output-clause-value : goal.returns-in-Output-clause-value
returns-in-Output-clause-value c = rw c.in-Output.is (c.output.ensures.value c.args.at c.args.next c.args.edge)

pub returns-in-Add-clause-value : goal.returns-in-Add-clause-value
returns-in-Add-clause-value c = rw c.in-Add.is (c.add.ensures.add c.args.image.now c.args.at c.args.next c.args.edge)

pub returns-in-Sum-clause-value : goal.returns-in-Sum-clause-value
returns-in-Sum-clause-value c = rw c.in-Sum.is (c.add-in-Sum.ensures.sum c.args.image.now c.args.at c.args.next c.args.edge)

pub returns-in-Sub-clause-value : goal.returns-in-Sub-clause-value
returns-in-Sub-clause-value c = rw c.in-Sub.is (c.sub.ensures.sub c.args.image.now c.args.at c.args.next c.args.edge)

pub returns-in-Diff-clause-value : goal.returns-in-Diff-clause-value
returns-in-Diff-clause-value c = rw c.in-Diff.is (c.sub-in-Diff.ensures.diff c.args.image.now c.args.at c.args.next c.args.edge)

pub returns-in-Mul-clause-value : goal.returns-in-Mul-clause-value
returns-in-Mul-clause-value c = rw c.in-Mul.is (c.mul.ensures.mul c.args.image.now c.args.at c.args.next c.args.edge)

pub returns-in-Prod-clause-value : goal.returns-in-Prod-clause-value
returns-in-Prod-clause-value c = rw c.in-Prod.is (c.mul-in-Prod.ensures.prod c.args.image.now c.args.at c.args.next c.args.edge)

pub returns-in-Csub0-clause-value : goal.returns-in-Csub0-clause-value
returns-in-Csub0-clause-value c = rw c.in-Csub0.is (c.csub0.ensures.value c.args.image.now c.args.at c.args.next c.args.edge)

pub returns-in-Stopp-clause-value : goal.returns-in-Stopp-clause-value
returns-in-Stopp-clause-value c = rw c.in-Stopp.is (c.stopp.ensures.value c.args.image.now c.args.at c.args.next c.args.edge)

pub returns-in-Rem-clause-value : goal.returns-in-Rem-clause-value
returns-in-Rem-clause-value c = rw c.in-Rem.is (c.rem.ensures.value c.args.image.now c.args.at c.args.next c.args.edge)

pub returns-in-Lend-clause-value : goal.returns-in-Lend-clause-value
returns-in-Lend-clause-value c = rw c.in-Lend.is (c.lend.ensures.value)

pub returns-in-Div-clause-value : goal.returns-in-Div-clause-value
returns-in-Div-clause-value c = rw c.in-Div.is (c.div.ensures.value c.args.image.now c.args.at c.args.next c.args.edge)

pub returns-in-BitNot-clause-value : goal.returns-in-BitNot-clause-value
returns-in-BitNot-clause-value c = rw c.in-BitNot.is (c.bit_not.ensures.value c.args.image.now c.args.at c.args.next c.args.edge)

pub returns-in-BitOr-clause-value : goal.returns-in-BitOr-clause-value
returns-in-BitOr-clause-value c = rw c.in-BitOr.is (c.bit_or.ensures.or c.args.image.now c.args.at c.args.next c.args.edge)

pub returns-in-BitXor-clause-value : goal.returns-in-BitXor-clause-value
returns-in-BitXor-clause-value c = rw c.in-BitXor.is (c.bit_or-in-BitXor.ensures.xor c.args.image.now c.args.at c.args.next c.args.edge)

pub returns-in-Sb-clause-value : goal.returns-in-Sb-clause-value
returns-in-Sb-clause-value c = rw c.in-Sb.is (c.sb.ensures.value c.args.image.now c.args.at c.args.next c.args.edge)

pub returns-in-Shr-clause-value : goal.returns-in-Shr-clause-value
returns-in-Shr-clause-value c = rw c.in-Shr.is (c.shr.ensures.value c.args.image.now c.args.at c.args.next c.args.edge)

pub returns-in-Shl-clause-value : goal.returns-in-Shl-clause-value
returns-in-Shl-clause-value c = rw c.in-Shl.is (c.shl.ensures.value c.args.image.now c.args.at c.args.next c.args.edge)

pub returns-in-Mint-clause-value : goal.returns-in-Mint-clause-value
returns-in-Mint-clause-value c = rw c.in-Mint.is (c.mint.ensures.value c.args.image.now c.args.at c.args.next c.args.edge)

pub returns-in-BitAnd-clause-value : goal.returns-in-BitAnd-clause-value
returns-in-BitAnd-clause-value c = rw c.in-BitAnd.is (c.bit_and.ensures.value c.args.image.now c.args.at c.args.next c.args.edge)

pub returns-in-MoveBytes-clause-value : goal.returns-in-MoveBytes-clause-value
returns-in-MoveBytes-clause-value c = rw c.in-MoveBytes.is (c.move_bytes.ensures.value c.args.at c.args.next c.args.edge)

pub returns-in-Seterr-clause-value : goal.returns-in-Seterr-clause-value
unfolding rule
returns-in-Seterr-clause-value c = rw c.in-Seterr.is refl
