use Rattle.std.proofs.Common.{◌≡◌, ℕ, ap, arith}
use Rattle.std.proofs.lemmas.Result.{on_ok_weaker}
use Rattle.tpw_occam_symbolic.specs.declared.items.Item.TheVariants.{Array, Zeros}
use Rattle.tpw_occam_symbolic.specs.declared.code.Step.{Step}
use Rattle.tpw_occam_symbolic.specs.declared.code.Step.TheVariants.{Pointer}
use Rattle.tpw_occam_symbolic.specs.Placing.{words_at}
use Rattle.tpw_occam_symbolic.proofs.Sizes.{declared_small}
use Rattle.tpw_occam_symbolic.proofs.lines.pointed_word.Goals as goal

array_zeros : (a word other : ℕ) → ◌≡◌ {A = Step} (Pointer (Array a) word) (Pointer Zeros other) → ⊥
array_zeros a word other e = cc

pub returns-in-Array-clause-room : goal.returns-in-Array-clause-room
returns-in-Array-clause-room c =
    on_ok_weaker c.local_word.result (λ enough. rw c.in-Array.is record {
      serves = λ declared.
          let words = c.array_words.ensures (declared_small c.args.worker.now c.in-Array.a declared) in
          let room = ap (words_at c.args.placed.now) c.in-Array.is in
          omega (arith, words, room, enough);
      zeros = λ word is. absurd (array_zeros c.in-Array.a c.args.word word is);
    }) c.local_word.ensures.room
