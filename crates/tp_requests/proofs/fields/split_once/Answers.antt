use Rattle.std.proofs.Common.{◌+◌, ◌∷◌, ◌++◌, take, ap, sym, ◌∙◌, add-one}
use Rattle.std.proofs.lemmas.List.{take_rest}
use Rattle.tp_requests.proofs.Parting.{parted, without}
use Rattle.tp_requests.proofs.fields.split_once.Goals as goal

pub returns-in-Some : goal.returns-in-Some
returns-in-Some c =
    let bytes = c.args.bytes.now in
    let at = c.in-Some.at in
    let it = parted c.args.separator bytes at (sym c.in-Some.ensures.value) in
    (it.before, it.is ∙ ap (λ rest. take at bytes ++ c.args.separator ∷ rest) (rw (← add-one at) (sym (take_rest bytes (at + 1)))))

pub returns-in-None : goal.returns-in-None
returns-in-None c = without c.args.separator c.args.bytes.now (sym c.in-None.ensures.value)
