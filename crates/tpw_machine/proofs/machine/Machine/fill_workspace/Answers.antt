use Rattle.std.proofs.Common.{◌≡◌, ℕ, ◌<◌, ◌+◌, ◌*◌, ◌∙◌, List, take, sym, ap, subst, arith}
use Rattle.tp_image.specs.Image.{InRange}
use Rattle.tp_step.specs.Memory.{with_bytes, nothing_defined}
use Rattle.tp_step.specs.State.{mem_start}
use Rattle.tp_step.specs.Runs.{first_words}
use Rattle.std.specs.Prelude.{flat_map}
use Rattle.std.specs.Int.{w32, to_le_bytes}
use Rattle.tpw_machine.specs.declared.machine.Machine.{Machine}
use Rattle.tp_outcome.proofs.StartLemmas.{with_none, word_more, all_words}
use Rattle.tpw_machine.proofs.machine.Machine.fill_workspace.Goals as goal

pub loop-i-init : goal.loop-i-init
loop-i-init c = record {
  rest = let over : List ℕ → Machine = λ bytes. record c.args.self.now
      { bytes = bytes; defined = c.clear.new.self.defined } in c.clear.ensures.rest ∙
      ap over (sym (ap (λ m. m.bytes) c.clear.ensures.rest));
  memory = c.clear.ensures.memory ∙ sym (with_none nothing_defined mem_start);
}

pub loop-i-preserved : goal.loop-i-preserved
loop-i-preserved c =
    let image = c.args.image.now in
    let i = c.loop-i.i in
    let range : InRange image = subst InRange c.image.view_is c.image.invariant in
    let size : c.image.inside.workspace ≡ image.workspace = ap (λ x. x.workspace) c.image.view_is in
    let lt : i < image.workspace = omega arith in
    record {
      rest = let keep : Machine → Machine = λ m. record m { bytes = c.put.new.self.bytes; defined = c.put.new.self.defined } in c.put.ensures.rest ∙ ap keep c.loop-i.invariant.rest;
      memory =
          c.put.ensures.memory
          ∙ ap (λ memory. with_bytes memory (mem_start + 4 * i) c.to_le_bytes.result) c.loop-i.invariant.memory
          ∙ ap (λ bytes. with_bytes (with_bytes nothing_defined mem_start (flat_map (to_le_bytes w32) (take i (first_words image)))) (mem_start + 4 * i) bytes) c.to_le_bytes.ensures
          ∙ word_more image range i c.initial_word.result lt c.initial_word.ensures;
    }

pub returns-clause-memory : goal.returns-clause-memory
returns-clause-memory c =
    let image = c.args.image.now in
    let range : InRange image = subst InRange c.image.view_is c.image.invariant in
    let size : c.image.inside.workspace ≡ image.workspace = ap (λ x. x.workspace) c.image.view_is in
    c.loop-i.invariant.memory ∙ ap (λ words. with_bytes nothing_defined mem_start (flat_map (to_le_bytes w32) words)) (all_words image range c.loop-i.i (omega arith))
