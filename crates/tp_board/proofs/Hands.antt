-- What a seat keeps beside its token, read as facts of its view.
use Rattle.std.proofs.Common.{◌≡◌, ℕ, [], ◌∷◌, Option, Some, None, Bool, false, refl, ap, ◌∙◌}
use Rattle.std.specs.Prelude.{if◌then◌else◌}
use Rattle.tp_board.specs.Counting.{hand_list}
use Rattle.tp_board.specs.Boards.{IsSeat}
use Rattle.tp_board.specs.declared.view.View.{View}

no_hand : (hand : Option ℕ) → ((x : ℕ) → hand ≡ Some x → ⊥) → hand_list hand ≡ []
no_hand None h = refl
no_hand (Some n) h = absurd (h n refl)

pub hand_empty : (v : View) (p : ℕ) (hand : Option ℕ) (ended stop_seen : Bool) → IsSeat v p hand ended stop_seen
    → ((x : ℕ) → hand ≡ Some x → ⊥) → v.hand ≡ []
hand_empty v p hand ended stop_seen ok h = ok.hand_is ∙ no_hand hand h

pub hand_full : (v : View) (p : ℕ) (hand : Option ℕ) (ended stop_seen : Bool) (n : ℕ) → IsSeat v p hand ended stop_seen
    → hand ≡ Some n → v.hand ≡ n ∷ []
hand_full v p hand ended stop_seen n ok e = ok.hand_is ∙ ap hand_list e

pub still_going : (v : View) (p : ℕ) (hand : Option ℕ) (ended stop_seen : Bool) → IsSeat v p hand ended stop_seen → ended ≡ false
    → v.ended ≡ 0
still_going v p hand ended stop_seen ok e = ok.ended_is ∙ ap (λ (b : Bool). if b then 1 else 0) e

pub stop_unseen : (v : View) (p : ℕ) (hand : Option ℕ) (ended stop_seen : Bool) → IsSeat v p hand ended stop_seen
    → stop_seen ≡ false → v.seen.stop ≡ 0
stop_unseen v p hand ended stop_seen ok e = ok.stop_seen_is ∙ ap (λ (b : Bool). if b then 1 else 0) e
