-- A new stream's hands and feeder have done nothing.
use Rattle.std.proofs.Common.{◌≡◌, ℕ, List, replicate, zero, suc, refl, sym, subst}
use Rattle.std.specs.List.{All}
use Rattle.std.proofs.lemmas.List.Elements.{All-nil, All-cons}
use Rattle.tp_stream.specs.Streams.{StreamView, HandView, FeederView, new_hand_of, new_feeder_of}
use Rattle.tp_farm.specs.Feeding.{HasOnlyFed}
use Rattle.tp_farm.specs.Working.{IsFresh}

fresh_each : (q : StreamView) (n : ℕ) → All (IsFresh q) (replicate n (new_hand_of q))
fresh_each q zero = All-nil (IsFresh q)
fresh_each q (suc n) =
    All-cons (IsFresh q) (new_hand_of q) (replicate n (new_hand_of q))
    (record { is_own = (refl, refl, refl, refl); none = refl })
    (fresh_each q n)

pub fresh_hands : (q : StreamView) (n : ℕ) (hands : List HandView) → hands ≡ replicate n (new_hand_of q)
    → All (IsFresh q) hands
fresh_hands q n hands is = subst (All (IsFresh q)) (sym is) (fresh_each q n)

pub fresh_feeder : (q : StreamView) (f : FeederView) → f ≡ new_feeder_of q → HasOnlyFed f
fresh_feeder q f is = subst HasOnlyFed (sym is) (record { none_finished = refl; none_abandoned = refl; not_stopped = refl })
