use Rattle.std.proofs.Common.{refl}
use Rattle.tpw_text.proofs.Programs.{label_more, label_none}
use Rattle.tpw_text.proofs.finish.push_label.Goals as goal

pub returns-in_ok-push : goal.returns-in_ok-push
returns-in_ok-push c =
    label_more c.args.labels.now.items c.push.new.self.items _ c.args.name.now c.in_ok-push.ensures.items c.in-Ok.ensures.cases.0 refl c.in-Ok.ensures.cases.1

pub returns-in_default : goal.returns-in_default
returns-in_default c = label_none c.args.labels.now.items c.args.name.now c.in_default.ensures.cases.0
