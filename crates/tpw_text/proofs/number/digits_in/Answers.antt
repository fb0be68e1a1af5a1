use Rattle.std.proofs.Common.{sym, ◌∙◌}
use Rattle.tpw_text.proofs.Digits.{no_text, text_said}
use Rattle.tpw_text.proofs.number.digits_in.Goals as goal

pub returns-in_default : goal.returns-in_default
returns-in_default c = no_text c.args.radix c.args.digits.now c.requires.most c.in_default.ensures.cases.0

pub returns : goal.returns
returns c =
    c.ok.ensures.value
    ∙ text_said c.args.radix c.args.digits.now c.in-Ok.digits.now c.from_str_radix.result c.in-Ok.ensures.cases.0
    (sym c.starts_with.ensures.value ∙ c.if-starts_with.false) c.from_str_radix.ensures.value
