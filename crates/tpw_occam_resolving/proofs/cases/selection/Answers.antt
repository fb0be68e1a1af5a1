use Rattle.std.proofs.Common.{◌∙◌}
use Rattle.std.proofs.lemmas.Result.{IfOk-weaker}
use Rattle.tpw_occam_names.specs.Scopes.{word_of}
use Rattle.tpw_occam_scoped.specs.Made.{effect_of}
use Rattle.tpw_occam_resolving.proofs.Selecting.{selected_made}
use Rattle.tpw_occam_resolving.proofs.cases.selection.Goals as goal

pub returns : goal.returns
returns c =
    IfOk-weaker c.choice.result _ _
    (λ p h. h ∙ selected_made (word_of c.args.word) c.args.constants.now c.in_ok-is_one_of.field-0
    (effect_of c.args.selected) (effect_of c.args.rest) c.in_ok-is_one_of.ensures)
    c.choice.ensures
