-- States that are joined keep their size.
use Rattle.std.proofs.Common.{◌≡◌, Bool, true, false, Result, Ok, Err, OnErr, length, ap, sym, ◌∙◌, ◌==◌}
use Rattle.tp_state.specs.declared.fault.StateCode.{StateCode}
use Rattle.tp_state.specs.declared.fault.StateCode.TheVariants.{S6, S9}
use Rattle.tp_state.specs.declared.state.State.{State}
use Rattle.tp_state.specs.Answer.{answered, unless, ◌>>◌}
use Rattle.tp_state.specs.Order.{join, meeting}
use Rattle.tp_state.proofs.JoinLemmas.{length-joined}

meets_to : (t s u : State) → Ok u ≡ meeting t s → u ≡ join t s
meets_to t s u is = by_test (t.wptr == s.wptr) (t.phase == s.phase) is
  where
    by_test : (p q : Bool) → Ok u ≡ (unless S6 p >> (unless S9 q >> Ok (join t s))) → u ≡ join t s
    by_test true true e = cc
    by_test true false e = absurd cc
    by_test false q e = absurd cc

pub joined_long : (answer : Result Bool StateCode) (old other new : State) → answered answer new ≡ meeting old other →
    OnErr answer (new ≡ old) → length other.cells ≡ length old.cells → length other.cells ≡ length new.cells
joined_long (Ok moved) old other new value kept long =
    let is : new ≡ join old other = meets_to old other new value in
    long ∙ sym (length-joined old.cells other.cells long) ∙ sym (ap (λ (s : State). length s.cells) is)
joined_long (Err code) old other new value kept long = long ∙ sym (ap (λ (s : State). length s.cells) kept)
