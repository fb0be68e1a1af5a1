-- Words that are written, kept and read again.
use Rattle.std.proofs.Common.{◌≡◌, ◌+◌, ◌^◌, ◌<◌, [], ◌∷◌, ℕ, List, Some, Bool, false, true, nat_eq, refl, ap, ◌∙◌, arith, w32}
use Rattle.std.specs.Int.{to_le_bytes}
use Rattle.std.proofs.lemmas.Bool.{le-leb, eqb-true}
use Rattle.tpw_occam_core.specs.declared.scope.Entry.{Entry}
use Rattle.tpw_occam_core.specs.Arithmetic.{pure}
use Rattle.tpw_occam_symbolic.specs.declared.items.Item.{Item}
use Rattle.tpw_occam_symbolic.specs.declared.items.Item.TheVariants.{Variable, Temporary, Constant, Array, Zeros}
use Rattle.tpw_occam_symbolic.specs.declared.code.Step.TheVariants.{Load, Store}
use Rattle.tpw_occam_symbolic.specs.Code.{Lines, followed_by, line_of, place_behind}
use Rattle.tpw_occam_symbolic.specs.Blocks.{Blocks, is_item, with_bytes, bytes_at, with_word}
use Rattle.tpw_occam_symbolic.specs.Symbolic.{Machine, performed, at_place, number, push, pop, with_blocks}
use Rattle.tpw_occam_symbolic.specs.Leading.{Does, HasWord}
use Rattle.tpw_occam_expressions.specs.Values.{HasNumber, PushesAlone}
use Rattle.tpw_occam_expressions.specs.Agreement.{LeavesItems, Stays}
use Rattle.tpw_occam_symbolic.proofs.Leading.{does_step, does_less}
use Rattle.tpw_occam_symbolic.proofs.Simulation.{is_item-self}
use Rattle.tpw_occam_expressions.proofs.Elements.{pushes_alone}
use Rattle.tpw_occam_expressions.proofs.Computing.{word_there}

-- what is written to one item leaves another
pub other_item : (i other : Item) (at k : ℕ) (bytes : List ℕ) (blocks : Blocks) → is_item i other ≡ false
    → with_bytes i at bytes blocks other k ≡ blocks other k
unfolding with_bytes
other_item i other at k bytes blocks differs = rw differs refl

-- a word that is written is there
pub word_written : (i : Item) (word : ℕ) (blocks : Blocks) → bytes_at (with_word i 0 word blocks) i 0 4 ≡ to_le_bytes w32 word
unfolding bytes_at with_word with_bytes
word_written i word blocks = rw (is_item-self i) refl

-- .. and leaves another item
pub word_elsewhere : (i other : Item) (k word : ℕ) (blocks : Blocks) → is_item i other ≡ false → with_word i 0 word blocks other k ≡ blocks other k
unfolding with_word
word_elsewhere i other k word blocks differs = other_item i other 0 k (to_le_bytes w32 word) blocks differs

true_false : ◌≡◌ {A = Bool} true false → ⊥
true_false e = cc

-- a temporary is none of what stays
pub temporary_differs : (scope : List Entry) (kept : ℕ) (i : Item) → Stays scope kept i → is_item (Temporary kept) i ≡ false
temporary_differs scope kept (Variable x) stays = refl
temporary_differs scope kept (Temporary t) stays = by_test (nat_eq kept t) refl
  where
    by_test : (b : Bool) → nat_eq kept t ≡ b → is_item (Temporary kept) (Temporary t) ≡ false
    by_test false e = e
    by_test true e = absurd (let same = eqb-true kept t e in omega (arith, stays, same))
temporary_differs scope kept (Constant c) stays = refl
temporary_differs scope kept (Array a) stays = refl
temporary_differs scope kept Zeros stays = refl

-- a number is kept in a temporary
pub record Saves (scope : List Entry) (kept word : ℕ) (m end : Machine) : Type 0 where
  pub areg : end.areg ≡ m.breg
  pub breg : end.breg ≡ m.creg
  pub error : end.error ≡ m.error
  pub held : HasWord (Temporary kept) word end
  pub leaves : LeavesItems scope kept m end

pub does_save : (arrays : List ℕ) (scope : List Entry) (old new : Lines) (source kept word : ℕ)
    → new ≡ followed_by old (line_of source (Store (Temporary kept) 0) ∷ [])
    → Does arrays old new (HasNumber word) (Saves scope kept word)
unfolding performed
does_save arrays scope old new source kept word is =
    does_less arrays old new _ _ _ _
    (does_step arrays old new source (Store (Temporary kept) 0) (HasNumber word) (λ m. pop (with_blocks (with_word (Temporary kept) 0 word m.blocks) m)) is
    (λ m areg served. rw areg (rw (le-leb 4 _ served) refl)) (λ m. refl) (λ m. refl) (λ m. refl))
    (λ m said. said)
    (λ m end said after. record {
      areg = ap (λ x. x.areg) after;
      breg = ap (λ x. x.breg) after;
      error = ap (λ x. x.error) after;
      held = ap (λ x. bytes_at x.blocks (Temporary kept) 0 4) after ∙ word_written (Temporary kept) word m.blocks;
      leaves = record {
        blocks = λ i at stays. ap (λ x. x.blocks i at) after ∙ word_elsewhere (Temporary kept) i at word m.blocks (temporary_differs scope kept i stays);
        to_come = ap (λ x. x.to_come) after;
        sent = ap (λ x. x.sent) after;
        traced = ap (λ x. x.traced) after;
      };
    })

-- the word of an item, pushed
pub does_recall : (arrays : List ℕ) (old new : Lines) (source : ℕ) (i : Item) (word : ℕ) → word < 2 ^ 32
    → new ≡ followed_by old (line_of source (Load i 0) ∷ [])
    → Does arrays old new (HasWord i word) (PushesAlone (pure word))
unfolding performed
does_recall arrays old new source i word small is =
    does_less arrays old new _ _ _ _
    (does_step arrays old new source (Load i 0) (HasWord i word) (push (number word)) is
    (λ m has served. rw (le-leb 4 _ served) (ap (λ w. Some (push (number w) (at_place (m.place + 1) m))) (word_there m i word small has)))
    (λ m. refl) (λ m. refl) (λ m. refl))
    (λ m said. said) (λ m end said after. pushes_alone word (place_behind new) m end after)
