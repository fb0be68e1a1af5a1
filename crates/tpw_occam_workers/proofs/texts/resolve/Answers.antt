use Rattle.std.proofs.Common.{Some, sym, ap}
use Rattle.std.proofs.lemmas.Result.{IfOk-weaker}
use Rattle.tpw_occam_meaning.specs.Effects.{Effect}
use Rattle.tpw_occam_meaning.specs.Maybe.{and_then}
use Rattle.tpw_occam_meaning.specs.States.{first}
use Rattle.tpw_occam_meaning.specs.Texts.{meant, meaning_of_text}
use Rattle.tpw_occam_scoped.specs.Made.{effect_of}
use Rattle.tpw_occam_workers.proofs.texts.resolve.Goals as goal

pub returns : goal.returns
unfolding effect_of meaning_of_text
returns c =
    IfOk-weaker c.declarations.result _ _
    (λ made h. ap (λ (o : Effect). and_then o (λ effect. Some (λ packet. meant (effect (first packet))))) (sym h))
    c.declarations.ensures
