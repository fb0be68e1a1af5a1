use Rattle.std.proofs.Common.{◌≡◌, List, [], ◌∷◌, sym, ◌∙◌}
use Rattle.std.specs.List.{AllZip}
use Rattle.tp_requests.specs.Lines.{lines_of}
use Rattle.tp_answers.specs.Rules.{IsVerdict, IsOutcome}
use Rattle.tp_session.proofs.OneAnswer.{one_told}
use Rattle.tp_session.proofs.OtherRules.{told_so}
use Rattle.tp_session.proofs.laws.what_is_served_follows_the_protocol.Goals as goal

all_so : {X Y : Type 0} (P Q : X → Y → Type 0) → ((x : X) (y : Y) → P x y → Q x y) → (xs : List X) (ys : List Y) → AllZip P xs ys → AllZip Q xs ys
all_so P Q so [] [] is = tt
all_so P Q so [] (y ∷ ys) is = absurd is
all_so P Q so (x ∷ xs) [] is = absurd is
all_so P Q so (x ∷ xs) (y ∷ ys) is = (so x y is.0, all_so P Q so xs ys is.1)

pub returns-clause-follows : goal.returns-clause-follows
returns-clause-follows c verdict outcome ruled trace input output =
    told_so IsVerdict (λ text v. v ≡ verdict text) IsOutcome (λ image packet o. o ≡ outcome image packet) ruled.verdicts (λ s. Unit {0})
    (λ name text image budget judged. tt) (λ s packet bytes long good. good) (λ s good. good)
    (λ s os good. all_so (IsOutcome s.image) (λ packet o. o ≡ outcome s.image packet) (ruled.outcomes s.image) s.packets os)
    trace (lines_of input) output

pub returns-clause-one : goal.returns-clause-one
returns-clause-one c verdict outcome trace input =
    one_told (λ text v. v ≡ verdict text) (λ image packet o. o ≡ outcome image packet) (λ text v w is is'. is ∙ sym is')
    (λ image packet o p is is'. is ∙ sym is') trace (lines_of input)
