use Rattle.std.proofs.lemmas.Result.{IfOk-weaker, IfErr-weaker}
use Rattle.tpw_assembly.proofs.Lines.{is_assembled, is_unassembled}
use Rattle.tpw_assembly.proofs.assembly.assembled_from.Goals as goal

pub returns-clause-image : goal.returns-clause-image
returns-clause-image c =
    IfOk-weaker c.assembled_text.result _ _
    (λ made image. is_assembled _ _ _ c.in_ok-source.source c.in_ok-text.ensures.text c.in_ok-source.ensures.said image)
    c.assembled_text.ensures.image

pub returns-clause-refused : goal.returns-clause-refused
returns-clause-refused c =
    IfErr-weaker c.assembled_text.result _ _
    (λ e refused. is_unassembled _ _ c.in_ok-source.source e c.in_ok-text.ensures.text c.in_ok-source.ensures.said refused)
    c.assembled_text.ensures.refused
