use Rattle.std.proofs.Common.{◌≡◌, IfOk, IfErr, Ok, subst}
use Rattle.tpw_text.specs.Faults.{IsRefusal}
use Rattle.tpw_text.specs.Drafts.{said}
use Rattle.tpw_text.specs.Programs.{source_said}
use Rattle.tpw_text.proofs.Finished.{source_is}
use Rattle.tpw_text.proofs.reading.read_source.Goals as goal

pub returns-clause-said : goal.returns-clause-said
returns-clause-said c =
    subst (λ r. IfOk c.finish.result (λ source. r ≡ Ok (source_said source))) (source_is c.args.text.now (said c.in_ok-draft.draft) c.in_ok-draft.ensures.said) c.finish.ensures.said

pub returns-clause-refused : goal.returns-clause-refused
returns-clause-refused c =
    subst (λ r. IfErr c.finish.result (IsRefusal r)) (source_is c.args.text.now (said c.in_ok-draft.draft) c.in_ok-draft.ensures.said) c.finish.ensures.refused
