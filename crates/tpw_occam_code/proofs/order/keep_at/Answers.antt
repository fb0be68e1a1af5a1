use Rattle.std.proofs.Common.{refl, ap, sym, subst, ◌∙◌, ◌≡◌, ◌<◌, true, length}
use Rattle.std.specs.Prelude.{slice_set}
use Rattle.tpw_occam_code.specs.declared.order.Waiting.{Waiting}
use Rattle.tpw_occam_code.specs.declared.order.Move.TheVariants.{Keep}
use Rattle.tpw_occam_code.specs.Ordering.{waits, waiting_at, IsAlone, Marks}
use Rattle.tpw_occam_code.proofs.Ordering.{marks_at, get_same}
use Rattle.tpw_occam_code.proofs.order.keep_at.Goals as goal

pub returns : goal.returns
returns c =
    let items = c.args.waiting.now.items in
    let place = c.args.place in
    let there : place < length items = subst (λ l. place < length l) c.deref.ensures.value (c.if-not-is_alone.ensures.there refl) in
    let alone : IsAlone items place = subst (λ l. IsAlone l place) c.deref.ensures.value (c.if-not-is_alone.ensures.alone refl) in
    let e : c.index-one.result.now ≡ waiting_at items place = c.index-one.ensures ∙ get_same items place _ _ there in
    subst (λ (w : Waiting). (Keep w.number ≡ Keep (waiting_at items place).number) × Marks (waiting_at items place).number items (slice_set items place (waits w.number true)))
    (sym e) (refl, marks_at items place there alone (ap (λ (w : Waiting). w.is_kept) (sym e) ∙ c.if-one.false))
