-- Results of batches, and devices that stay ready.
use Rattle.std.proofs.Common.{◌≡◌, ℕ, suc, List, [], ◌∷◌, ◌++◌, length, map, All, Some, slice_get, refl, sym, subst, ap, ◌∙◌, arith}
use Rattle.std.specs.List.{AllZip}
use Rattle.std.proofs.lemmas.List.{length-map}
use Rattle.std.proofs.lemmas.List.Elements.{All-nil, All-cons, All-head, All-rest}
use Rattle.std.proofs.lemmas.Option.{same_Some}
use Rattle.tp_image.specs.Image.{ImageValue}
use Rattle.tp_outcome.specs.Devices.{Devices}
use Rattle.tp_collect.specs.Collected.{JobValue}
use Rattle.tp_collect.specs.declared.collected.Entry.{Entry}
use Rattle.tp_farm.specs.Settings.{SameSettings}
use Rattle.tp_farm.specs.Promised.{TakeAll, LosesLongTracesAlone}
use Rattle.tpw_runs.specs.Results.{IsResultOf, AreResults}

results_from : (image : ImageValue) (budget : ℕ) (packets : List (List ℕ)) (entries : List Entry) → length entries ≡ length packets
    → ((i : ℕ) (packet : List ℕ) → slice_get packets i ≡ Some packet
    → (e : Entry) × (slice_get entries i ≡ Some e) × IsResultOf image budget packet e) → AreResults image budget packets entries
results_from image budget [] [] long each = tt
results_from image budget [] (e ∷ entries) long each = absurd (omega (arith, long))
results_from image budget (p ∷ packets) [] long each = absurd (omega (arith, long))
results_from image budget (p ∷ packets) (e ∷ entries) long each =
    let first = each 0 p refl in (
      subst (IsResultOf image budget p) (sym (same_Some e first.0 first.1)) first.2,
      results_from image budget packets entries (omega (arith, long)) (λ i packet at. each (suc i) packet at),
    )

pub are_results : (batch : JobValue) (budget : ℕ) (entries : List Entry) → length entries ≡ length batch.packets
    → LosesLongTracesAlone batch budget entries → AreResults batch.image budget batch.packets entries
are_results batch budget entries long complete =
    results_from batch.image budget batch.packets entries long λ i packet at.
    let c = complete i packet at in
    (c.entry, c.there, record { ends = c.ends; comes = c.comes })

-- results of packets and of more packets are results of all
pub results_and : (image : ImageValue) (budget : ℕ) (packets more : List (List ℕ)) (entries others : List Entry)
    → AreResults image budget packets entries → AreResults image budget more others → AreResults image budget (packets ++ more) (entries ++ others)
results_and image budget [] more [] others one two = two
results_and image budget [] more (e ∷ entries) others one two = absurd one
results_and image budget (p ∷ packets) more [] others one two = absurd one
results_and image budget (p ∷ packets) more (e ∷ entries) others one two = (one.0, results_and image budget packets more entries others one.1 two)

pub as_many_results : (image : ImageValue) (budget : ℕ) (packets : List (List ℕ)) (entries : List Entry)
    → AreResults image budget packets entries → length entries ≡ length packets
as_many_results image budget [] [] all = refl
as_many_results image budget [] (e ∷ entries) all = absurd all
as_many_results image budget (p ∷ packets) [] all = absurd all
as_many_results image budget (p ∷ packets) (e ∷ entries) all = ap suc (as_many_results image budget packets entries all.1)

still : (image : ImageValue) (d e : Devices) → SameSettings d e → TakeAll image d → TakeAll image e
still image d e same take = record {
  source =
      record {
        opened = same.source.opened ∙ take.source.opened;
        sure = same.source.fallible ∙ take.source.sure;
        room = omega (arith, same.source.room, take.source.room);
      };
  sink =
      record {
        opened = same.sink.opened ∙ take.sink.opened;
        sure = same.sink.fallible ∙ take.sink.sure;
        room = omega (arith, same.sink.room, take.sink.room);
      };
  trace =
      record {
        opened = same.trace.opened ∙ take.trace.opened;
        sure = same.trace.fallible ∙ take.trace.sure;
        room = omega (arith, same.trace.room, take.trace.room);
      };
}

-- devices that keep their settings still take all
pub all_still : (image : ImageValue) (before after : List Devices) → AllZip SameSettings before after → All (TakeAll image) before
    → All (TakeAll image) after
all_still image [] [] same take = All-nil (TakeAll image)
all_still image [] (e ∷ after) same take = absurd same
all_still image (d ∷ before) [] same take = absurd same
all_still image (d ∷ before) (e ∷ after) same take =
    All-cons (TakeAll image) e after (still image d e same.0 (All-head (TakeAll image) d before take))
    (all_still image before after same.1 (All-rest (TakeAll image) d before (d ∷ before) refl take))

pub as_many_devices : {A B : Type 0} (f : A → Devices) (g : B → Devices) (xs : List A) (ys : List B)
    → AllZip SameSettings (map f xs) (map g ys) → length ys ≡ length xs
as_many_devices f g xs ys same = sym (length-map ys g) ∙ long (map f xs) (map g ys) same ∙ length-map xs f
  where
    long : (before after : List Devices) → AllZip SameSettings before after → length after ≡ length before
    long [] [] same = refl
    long [] (e ∷ after) same = absurd same
    long (d ∷ before) [] same = absurd same
    long (d ∷ before) (e ∷ after) same = ap suc (long before after same.1)
