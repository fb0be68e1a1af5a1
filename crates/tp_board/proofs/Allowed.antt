-- Each call of the table may be made.
use Rattle.std.proofs.Common.{◌≡◌, ℕ, zero, suc, ◌-◌, ◌<◌, ◌≤◌, min, List, [], ◌∷◌, sym, refl, ap, ◌∙◌, subst, arith}
use mathlib.Core.Option.{some, none, some-ne-none, some-injective}
use lib.ListN.{get_elem?}
use Rattle.atomic_table.specs.Table.{State, Me, keeps, step, Allows, Splits, Joins, Seen, opening}
use Rattle.tp_board.specs.declared.event.Event.{Event}
use Rattle.tp_board.specs.declared.view.Counters.{Counters}
use Rattle.tp_board.specs.declared.view.View.{View}
use Rattle.tp_board.specs.declared.rule.Size.{Size}
use Rattle.tp_board.specs.Counting.{once_below}
use Rattle.tp_board.specs.Words.{place_of, size, words_of}
use Rattle.tp_board.specs.Views.{newcomer, nothing_seen, join_of}
use Rattle.tp_board.specs.Rule.{Fits}
use Rattle.tp_board.specs.Steps.{row_of, MayStep, word_found}
use Rattle.tp_board.specs.Plays.{Holds, HasStepped}
use Rattle.tp_board.proofs.Counting.{none_below}
use Rattle.tp_board.proofs.Moves.{moves, word_fresh}
use Rattle.tp_board.proofs.Steps.{Whole, split_rule, join_rule, whole_rule, newcomer_fits}
use Rattle.tp_board.proofs.Totals.{le_total}

module _ {S : Type 0} (k : Size) (slots id : ℕ) (me : Me S View) where
  -- a step of a seat that may make it
  pub allowed : (event : Event) → MayStep event me.0 → me.0.parts ≡ 1
      → Allows (Holds k) slots id me (place_of (row_of event).word) (row_of event).change (HasStepped event (step 0 0 0 0 none) me)
  allowed event may one s h _ at _ = (
    (row_of event).view me.0 (word_found event s.words),
    keeps,
    tt,
    moves k s.words s.views id me.0 h at event may one,
    (refl, may, word_fresh k s.words s.views id me.0 h at (row_of event).word one),
  )

  pub splits : (p m : ℕ) → 0 < m → me.0 ≡ newcomer p m
      → Splits {S = S} (Holds k) id me.0 (newcomer me.0.packets (me.0.parts - 1)) (newcomer me.0.packets 1)
  splits p m some_part is =
      subst (λ (v : View). Splits {S = S} (Holds k) id v (newcomer v.packets (v.parts - 1)) (newcomer v.packets 1)) (sym is)
      (λ s h at. (h.0, h.1, split_rule k h.0 s.views id p m some_part h.2 at))

  pub joins : (other : ℕ) (u : View) → 0 < me.0.parts → Joins {S = S} (Holds k) id me.0 other u (join_of me.0 u) (newcomer 0 0)
  joins other u some_part s h at apart there = (h.0, h.1, join_rule k h.0 s.views id me.0 other u some_part h.2 at apart there)

pub opens : (S : Type 0) (p m : ℕ) → p ≤ 1024 → m ≤ 65 → Holds {S = S} (size p m) (opening (0 ∷ 0 ∷ 0 ∷ 0 ∷ []) [] (newcomer p m))
opens S p m few_packets few_members = (
  nothing_seen,
  refl,
  record {
    few_packets = few_packets;
    few_members = few_members;
    parts = omega arith;
    each_once = (λ x. let e : min 0 p ≡ 0 = omega arith in sym (ap (once_below x) e ∙ none_below x));
    drawn = omega arith;
    ended = omega arith;
    done = refl;
    lost = refl;
    stop = omega arith;
    fits = only;
  },
)
  where
    only : (id : ℕ) (v : View) → get_elem? (newcomer p m ∷ []) id ≡ some v → Fits (size p m) nothing_seen v
    only zero v at =
        subst (Fits (size p m) nothing_seen) (some-injective (newcomer p m) v at) (newcomer_fits (size p m) nothing_seen p m (λ _. refl))
    only (suc id) v at = absurd (some-ne-none v (sym at))

-- the seat that has the parts of all members knows what the rule says of the words
pub closes : (S : Type 0) (k : Size) (id : ℕ) (v : View) (ws : List ℕ) (s : State S View) → k.members ≤ v.parts
    → Seen (Holds k) id v s → s.words ≡ ws → (w : Counters) × (ws ≡ words_of w) × Whole k w v × (v.parts ≡ k.members)
closes S k id v ws s most h e =
    let r = h.0.2 in
    let every : v.parts ≡ k.members = (let a = le_total (λ v. v.parts) s.views id v h.1 in let b = r.parts in omega arith) in
    (h.0.0, sym e ∙ h.0.1, whole_rule k h.0.0 s.views id v every r h.1, every)
