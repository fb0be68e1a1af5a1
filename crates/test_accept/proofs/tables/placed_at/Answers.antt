use Rattle.std.proofs.Common.{◌≡◌, ℕ, ◌<◌, List, length, slice_index_or, Some, sym, ap, ◌∙◌, arith}
use Rattle.std.proofs.lemmas.Option.{slice_get-get_or}
use Rattle.tp_image.specs.Image.{ImageValue}
use Rattle.tp_state.specs.declared.state.State.{State}
use Rattle.tp_state.specs.Conditions.{IsPlaced}
use Rattle.tp_check.specs.StatesThere.{AreStatesThere}
use Rattle.test_accept.proofs.tables.placed_at.Goals as goal

placed_in : (image : ImageValue) (states : List (ℕ × State)) → AreStatesThere image states → (i : ℕ) (d a : ℕ × State) → i < length states → a ≡ slice_index_or states i d → IsPlaced image a.1
placed_in image states sound i d a lt is = (sound i a (slice_get-get_or states i d lt ∙ ap Some (sym is))).sound.placed

pub returns-then-index-at : goal.returns-then-index-at
returns-then-index-at c =
    placed_in c.args.image.now c.args.table.now.states.items c.requires c.loop-i.i _ c.index-then-index-at.result.now
    (let e = c.len-i-end.ensures in let f = c.loop-i-test.true in omega (arith, e, f)) c.index-then-index-at.ensures
