use Rattle.std.proofs.Common.{◌≡◌, ℕ, ◌<◌, ◌+◌, ◌-◌, ◌*◌, List, sym, ap, subst, arith, rules}
use Rattle.std.specs.Prelude.{flat_map}
use Rattle.std.specs.Int.{w32, to_le_bytes}
use Rattle.tp_image.specs.Image.{InRange}
use Rattle.tp_step.specs.Memory.{with_bytes, nothing_defined}
use Rattle.tp_step.specs.State.{mem_start}
use Rattle.tp_outcome.proofs.StartLemmas.{with_none, word_more, all_words}
use Rattle.tp_machine.specs.Bytes.{put}
use Rattle.tp_machine.specs.Representation.{Holds}
use Rattle.tp_machine.proofs.Held.{held_put}
use Rattle.tp_machine.proofs.Kept.{usual}
use Rattle.tp_machine.proofs.start.fill.Goals as goal

nothing_held : (bytes : List ℕ) → Holds nothing_defined bytes
nothing_held bytes i byte e = cc

pub loop-i-init : goal.loop-i-init
loop-i-init c = record {
  held = subst (λ m. Holds m c.args.workspace.now) (sym (with_none nothing_defined mem_start)) (nothing_held c.args.workspace.now);
  long = search rules;
}

pub loop-i-preserved : goal.loop-i-preserved
loop-i-preserved c =
    let image = c.args.image.now in
    let i = c.loop-i.i in
    let range : InRange image = subst InRange c.image.view_is c.image.invariant in
    let size : c.image.inside.workspace ≡ image.workspace = ap (λ x. x.workspace) c.image.view_is in
    let lt : i < image.workspace = omega arith in
    let most = (usual image range).workspace in
    let long = c.loop-i.invariant.long in
    let bytes : List ℕ = to_le_bytes w32 c.initial_word.result in
    let held = held_put _ c.loop-i.workspace bytes (mem_start + 4 * i) c.loop-i.invariant.held (omega arith) (omega (arith, lt, most, long)) in
    record {
      held = rw c.store.ensures (subst (λ m. Holds m (put c.loop-i.workspace (mem_start + 4 * i - mem_start) bytes)) (word_more image range i c.initial_word.result lt c.initial_word.ensures) held);
      long = c.store.array_long;
    }

pub returns : goal.returns
returns c =
    let image = c.args.image.now in
    let range : InRange image = subst InRange c.image.view_is c.image.invariant in
    let size : c.image.inside.workspace ≡ image.workspace = ap (λ x. x.workspace) c.image.view_is in
    subst (λ words. Holds (with_bytes nothing_defined mem_start (flat_map (to_le_bytes w32) words)) c.loop-i.workspace) (all_words image range c.loop-i.i (omega arith)) c.loop-i.invariant.held
