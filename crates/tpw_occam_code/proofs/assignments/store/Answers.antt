use Rattle.std.proofs.lemmas.Result.{on_ok_weaker}
use Rattle.tpw_occam_code.proofs.assignments.store.Goals as goal

pub returns-then-is_none-clause-stores : goal.returns-then-is_none-clause-stores
returns-then-is_none-clause-stores c = on_ok_weaker c.store_element.result (λ stores three.
    rw c.in-Element.is (stores three)) c.store_element.ensures.stores
