-- What holds of rows and instructions where no rule of flow is broken.
use Rattle.std.proofs.Common.{◌≡◌, ℕ, zero, suc, ◌+◌, ◌<◌, Bool, true, false, cond, if◌then◌else◌, ℤ, List, [], ◌∷◌, ◌++◌, length, get_or, slice_get, Option, Some, None, refl, ap, sym, ◌∙◌, arith}
use Rattle.std.specs.List.{find, filter_map, cons_option, enumerate_from}
use Rattle.std.specs.Option.{option_map, option_or, option_and_then}
use Rattle.std.proofs.lemmas.List.FromFn.{length-enumerate_from, get_or-enumerate_from}
use Rattle.tp_image.specs.declared.image.LoopRow.{LoopRow}
use Rattle.tp_image.specs.Image.{ImageValue}
use Rattle.tp_decode.specs.declared.instr.Instr.{Instr}
use Rattle.tp_decode.specs.Cutting.{Cut, placed_from, index_from, cut_at}
use Rattle.tp_flow.specs.declared.fault.FlowCode.TheVariants.{J5, J7}
use Rattle.tp_flow.specs.NestRanges.{ranges}
use Rattle.tp_flow.specs.Edges.{jump_operand}
use Rattle.tp_flow.specs.RowRules.{is_bad_row}
use Rattle.tp_flow.specs.JumpRules.{Rule, rule, first_broken, is_orphan_lend, runs_off, jump_rules, rules_on_jump, rules_on, broken_rule}
use Rattle.tp_flow.specs.FlowFaults.{bad_row, row_fault, fault_of, instruction_faults, first_flow_fault}
use Rattle.std.proofs.lemmas.Option.{slice_get_within, get_or_from_slice_get}
use Rattle.tp_decode.proofs.NumberLemmas.{placed, place_by_number}

map_none : {X Y : Type 0} (f : X → Y) (o : Option X) → option_map f o ≡ None → o ≡ None
map_none f None is = refl
map_none f (Some x) is = absurd cc

none_first : {X : Type 0} (o p : Option X) → option_or o p ≡ None → (o ≡ None) × (p ≡ None)
none_first None p is = (refl, is)
none_first (Some x) p is = absurd cc

-- none found, none passes
pub find_none : {X : Type 0} (p : X → Bool) (xs : List X) (i : ℕ) (d : X) → find p xs ≡ None → i < length xs → p (get_or xs i d) ≡ false
find_none p [] i d is lt = absurd (omega arith)
find_none {X} p (x ∷ xs) zero d is lt = by_test (p x) refl is
  where
    by_test : (b : Bool) → p x ≡ b → cond b (Some x) (find p xs) ≡ None → b ≡ false
    by_test true e is = absurd cc
    by_test false e is = refl
find_none {X} p (x ∷ xs) (suc i) d is lt = by_test (find_none p xs i d) (p x) is
  where
    by_test : (find p xs ≡ None → i < length xs → p (get_or xs i d) ≡ false) → (b : Bool) → cond b (Some x) (find p xs) ≡ None → p (get_or xs i d) ≡ false
    by_test go true is = absurd cc
    by_test go false is = go is (omega arith)

pub given_none : {X Y : Type 0} (h : X → Option Y) (xs : List X) (i : ℕ) (d : X) → slice_get (filter_map h xs) 0 ≡ None → i < length xs → h (get_or xs i d) ≡ None
given_none h [] i d is lt = absurd (omega arith)
given_none {X} {Y} h (x ∷ xs) zero d is lt = by_case (h x) is
  where
    by_case : (o : Option Y) → slice_get (cons_option o (filter_map h xs)) 0 ≡ None → o ≡ None
    by_case None is = refl
    by_case (Some y) is = absurd cc
given_none {X} {Y} h (x ∷ xs) (suc i) d is lt = by_case (given_none h xs i d) (h x) is
  where
    by_case : (slice_get (filter_map h xs) 0 ≡ None → i < length xs → h (get_or xs i d) ≡ None) → (o : Option Y) → slice_get (cons_option o (filter_map h xs)) 0 ≡ None → h (get_or xs i d) ≡ None
    by_case go None is = go is (omega arith)
    by_case go (Some y) is = absurd cc

-- the first of some rules is kept, and the others
pub unbroken : (r : Rule) (rules : List Rule) → first_broken (r ∷ rules) ≡ None → (r.is_broken ≡ false) × (first_broken rules ≡ None)
unbroken r rules is = by_test r.is_broken is
  where
    by_test : (b : Bool) → (if b then Some r.code else first_broken rules) ≡ None → (b ≡ false) × (first_broken rules ≡ None)
    by_test true is = absurd cc
    by_test false is = (refl, is)

unbroken-append : (rules others : List Rule) → first_broken (rules ++ others) ≡ None → (first_broken rules ≡ None) × (first_broken others ≡ None)
unbroken-append [] others is = (refl, is)
unbroken-append (r ∷ rules) others is =
    let first = unbroken r (rules ++ others) is in
    let rest = unbroken-append rules others first.1 in
    (rw first.0 rest.0, rest.1)

-- the same of rules between two others
unbroken_between : (r : Rule) (rules : List Rule) (s : Rule) → first_broken ((r ∷ []) ++ rules ++ (s ∷ [])) ≡ None → (r.is_broken ≡ false) × (first_broken rules ≡ None) × (s.is_broken ≡ false)
unbroken_between r rules s is =
    let first = unbroken r (rules ++ (s ∷ [])) is in
    let rest = unbroken-append rules (s ∷ []) first.1 in
    (first.0, rest.0, (unbroken s [] rest.1).0)

-- an instruction that breaks no rule
pub record Passes (image : ImageValue) (cuts : List Cut) (at next : ℕ) (instr : Instr) : Type 0 where
  pub named : is_orphan_lend (ranges image.loops) at instr ≡ false
  pub jumps : (n : ℤ) → jump_operand instr ≡ Some n → first_broken (jump_rules image cuts at next n) ≡ None
  pub goes_on : runs_off image.code next instr ≡ false

-- an instruction is among those with their places
placed_listed : (cuts : List Cut) (at : ℕ) (cut : Cut) → cut_at cuts at ≡ Some cut → (i : ℕ) × (slice_get (placed_from 0 cuts) i ≡ Some (placed at cut))
placed_listed cuts at cut stands = by_number (index_from 0 cuts at) (place_by_number cuts at ∙ ap (option_map (placed at)) stands)
  where
    by_number : (o : Option ℕ) → option_and_then (slice_get (placed_from 0 cuts)) o ≡ Some (placed at cut) → (i : ℕ) × (slice_get (placed_from 0 cuts) i ≡ Some (placed at cut))
    by_number None is = absurd cc
    by_number (Some i) is = (i, is)

module _ (image : ImageValue) (cuts : List Cut) (is : first_flow_fault image cuts ≡ None) where
  parts : (row_fault image cuts ≡ None) × (slice_get (instruction_faults image cuts) 0 ≡ None)
  unfolding first_flow_fault
  parts = none_first (row_fault image cuts) (slice_get (instruction_faults image cuts) 0) is

  pub row_passes : (i : ℕ) (d : LoopRow) → i < length image.loops → is_bad_row image cuts i (get_or image.loops i d) ≡ false
  row_passes i d lt =
      let test : ℕ × LoopRow → Bool = λ row. is_bad_row image cuts row.0 row.1 in
      let none = map_none (λ (row : ℕ × LoopRow). row.0) (find test (enumerate_from 0 image.loops)) (map_none _ (bad_row image cuts) parts.0) in
      let there : get_or (enumerate_from 0 image.loops) i (i, d) ≡ (i, get_or image.loops i d) =
      get_or-enumerate_from 0 image.loops i (i, d) lt ∙ ap (λ n. (n, get_or image.loops i d)) (omega arith)
      in
      ap test (sym there) ∙ find_none test (enumerate_from 0 image.loops) i (i, d) none (omega (arith, length-enumerate_from 0 image.loops))

  pub instruction_passes : (at : ℕ) (cut : Cut) → cut_at cuts at ≡ Some cut → Passes image cuts at (at + length cut.bytes) cut.instr
  instruction_passes at cut stands =
      let listed = placed_listed cuts at cut stands in
      let all = placed_from 0 cuts in
      let there = get_or_from_slice_get all listed.0 (placed at cut) (placed at cut) listed.1 in
      let none = given_none (fault_of image cuts) all listed.0 (placed at cut) parts.1 (slice_get_within all listed.0 (placed at cut) listed.1) in
      let kept : first_broken (rules_on image cuts at (at + length cut.bytes) cut.instr) ≡ None =
      map_none _ (broken_rule image cuts (placed at cut)) (ap (fault_of image cuts) (sym there) ∙ none)
      in
      let next = at + length cut.bytes in
      let each =
      unbroken_between (rule (is_orphan_lend (ranges image.loops) at cut.instr) J7) (rules_on_jump image cuts at next (jump_operand cut.instr)) (rule (runs_off image.code next cut.instr) J5) kept
      in
      record {
        named = each.0;
        jumps = λ n e. ap (λ o. first_broken (rules_on_jump image cuts at next o)) (sym e) ∙ each.1;
        goes_on = each.2;
      }
