-- How control flows in code that is joined, passed over, chosen and repeated.
use Rattle.std.proofs.Common.{◌≡◌, ◌⊎◌, inl, inr, ℕ, zero, suc, ◌+◌, ◌<◌, ◌≤◌, true, List, [], ◌∷◌, ◌++◌, length, slice_get, Some}
use Rattle.std.proofs.Common.{refl, ap, sym, subst, ◌∙◌, arith, length-append, append_assoc}
use Rattle.std.proofs.lemmas.List.{append-nil}
use Rattle.std.proofs.lemmas.Option.{same_Some}
use Rattle.tp_decode.specs.declared.instr.Instr.TheVariants.{Lend}
use Rattle.tpw_occam_symbolic.specs.declared.code.Step.{Step}
use Rattle.tpw_occam_symbolic.specs.declared.code.Step.TheVariants.{Plain, Load, Store, Pointer, JumpTo, CjTo, Distance}
use Rattle.tpw_occam_symbolic.specs.declared.code.CodeLine.{CodeLine}
use Rattle.tpw_occam_symbolic.specs.declared.code.Turns.{Turns}
use Rattle.tpw_occam_symbolic.specs.Code.{Lines, none_at, place_behind, followed_by, joined, with_loop}
use Rattle.tpw_occam_symbolic.specs.Flowing.{is_straight, KeepsTo, IsJump, EndsAt, GoesWell, LiesBehind, IsBeforeOrWithin, Flows, FlowsOn}

-- ---- lists

-- an element of two lists that are joined is one of the first or one of the second
pub side_of : {A : Type 0} (xs ys : List A) (i : ℕ) (x : A) → slice_get (xs ++ ys) i ≡ Some x
    → ((i < length xs) × (slice_get xs i ≡ Some x)) ⊎ ((k : ℕ) × (i ≡ length xs + k) × (slice_get ys k ≡ Some x))
side_of [] ys i x is = inr (i, omega arith, is)
side_of (y ∷ xs) ys zero x is = inl (omega arith, is)
side_of (y ∷ xs) ys (suc i) x is = elim (side_of xs ys i x is) [
  | inl h ↦ inl (omega (arith, h.0), h.1)
  | inr h ↦ inr (h.0, omega (arith, h.1), h.2)
]

pub in_first : {A : Type 0} (xs ys : List A) (i : ℕ) (x : A) → slice_get xs i ≡ Some x → slice_get (xs ++ ys) i ≡ Some x
in_first [] ys i x is = cc
in_first (y ∷ xs) ys zero x is = is
in_first (y ∷ xs) ys (suc i) x is = in_first xs ys i x is

pub in_second : {A : Type 0} (xs ys : List A) (i : ℕ) (x : A) → slice_get ys i ≡ Some x → slice_get (xs ++ ys) (length xs + i) ≡ Some x
in_second [] ys i x is = ap (slice_get ys) (omega arith) ∙ is
in_second (y ∷ xs) ys i x is = let place : suc (length xs) + i ≡ suc (length xs + i) = omega arith in ap (slice_get (y ∷ (xs ++ ys))) place ∙ in_second xs ys i x is

pub is_within : {A : Type 0} (xs : List A) (i : ℕ) (x : A) → slice_get xs i ≡ Some x → i < length xs
is_within [] i x is = cc
is_within (y ∷ xs) zero x is = omega arith
is_within (y ∷ xs) (suc i) x is = omega (arith, is_within xs i x is)

-- ---- steps

-- each step goes well in other code, where its jumps and lends do
pub goes_also : (code other : Lines) (place : ℕ) (step : Step)
    → ((to : ℕ) → IsJump code place to → IsJump other place to) → (EndsAt code place → EndsAt other place)
    → GoesWell code place step → GoesWell other place step
goes_also code other place (JumpTo to) jump lend well = jump to well
goes_also code other place (CjTo to) jump lend well = jump to well
goes_also code other place (Load item word) jump lend well = well
goes_also code other place (Store item word) jump lend well = well
goes_also code other place (Pointer item word) jump lend well = well
goes_also code other place (Distance from to) jump lend well = well
goes_also code other place (Plain Lend) jump lend well = lend well
goes_also code other place (Plain instr) jump lend well = well

straight_goes : (code : Lines) (place : ℕ) (step : Step) → is_straight step ≡ true → GoesWell code place step
straight_goes code place (JumpTo to) straight = cc
straight_goes code place (CjTo to) straight = cc
straight_goes code place (Load item word) straight = refl
straight_goes code place (Store item word) straight = refl
straight_goes code place (Pointer item word) straight = refl
straight_goes code place (Distance from to) straight = refl
straight_goes code place (Plain Lend) straight = cc
straight_goes code place (Plain instr) straight = straight

-- ---- nothing, and one line

pub none_flows : (first base : ℕ) → Flows first (none_at base)
none_flows first base = record { steps = λ i line is. cc; loops = λ i turns is. cc; nested = λ i k one other below is is2. cc }

abbrev pub alone : ℕ → CodeLine → Lines
alone base line = record { base = base; lines = line ∷ []; loops = [] }

straight_flows : (first base : ℕ) (line : CodeLine) → is_straight line.step ≡ true → Flows first (alone base line)
straight_flows first base line straight = record {
  steps = λ i other is. by_place i other is;
  loops = λ i turns is. cc;
  nested = λ i k one other below is is2. cc;
}
  where
    by_place : (i : ℕ) (other : CodeLine) → slice_get (line ∷ []) i ≡ Some other → GoesWell (alone base line) (base + i) other.step
    by_place zero other is =
        subst (λ (l : CodeLine). GoesWell (alone base line) (base + 0) l.step) (same_Some _ _ is) (straight_goes (alone base line) (base + 0) line.step straight)
    by_place (suc i) other is = cc

-- ---- one behind another

module _ (first second : ℕ) (a b : Lines) (one : Flows first a) (two : Flows second b) (at : b.base ≡ place_behind a) (from : b.base ≤ second) (later : first ≤ second) where
  abbrev both : Lines
  both = joined a b

  far : place_behind both ≡ place_behind b
  far = omega (arith, at, length-append a.lines b.lines)

  keeps_first : (place to : ℕ) → IsJump a place to → (i : ℕ) (turns : Turns) → slice_get (a.loops ++ b.loops) i ≡ Some turns → KeepsTo turns place to
  keeps_first place to jump i turns is = elim (side_of a.loops b.loops i turns is) [
    | inl h ↦ jump.keeps i turns h.1
    | inr h ↦ (let t = two.loops h.0 turns h.2 in record {
      stays = λ in_head in_lend. absurd (omega (arith, in_head, t.later, from, at, jump.within, jump.forward));
      enters = λ before. inl (omega (arith, t.later, from, at, jump.within));
    })
  ]

  keeps_second : (place to : ℕ) → b.base ≤ place → IsJump b place to → (i : ℕ) (turns : Turns) → slice_get (a.loops ++ b.loops) i ≡ Some turns → KeepsTo turns place to
  keeps_second place to behind jump i turns is = elim (side_of a.loops b.loops i turns is) [
    | inl h ↦ (let t = one.loops i turns h.1 in record {
      stays = λ in_head in_lend. absurd (omega (arith, in_lend, t.within, at, behind));
      enters = λ before. absurd (omega (arith, before, t.body, t.within, at, behind));
    })
    | inr h ↦ jump.keeps h.0 turns h.2
  ]

  ends_first : (place : ℕ) → EndsAt a place → EndsAt both place
  ends_first place e = record { number = e.number; turns = e.turns; there = in_first a.loops b.loops e.number e.turns e.there; ends = e.ends }

  ends_second : (place : ℕ) → EndsAt b place → EndsAt both place
  ends_second place e = record { number = length a.loops + e.number; turns = e.turns; there = in_second a.loops b.loops e.number e.turns e.there; ends = e.ends }

  steps : (i : ℕ) (line : CodeLine) → slice_get both.lines i ≡ Some line → GoesWell both (both.base + i) line.step
  steps i line is = elim (side_of a.lines b.lines i line is) [
    | inl h ↦ goes_also a both (a.base + i) line.step
        (λ to jump. record {
          forward = jump.forward;
          within = omega (arith, jump.within, far, at);
          keeps = keeps_first (a.base + i) to jump;
        }) (ends_first (a.base + i)) (one.steps i line h.1)
    | inr h ↦ (let place : b.base + h.0 ≡ a.base + i = omega (arith, at, h.1) in
        subst (λ p. GoesWell both p line.step) place
        (goes_also b both (b.base + h.0) line.step
        (λ to jump. record {
          forward = jump.forward;
          within = omega (arith, jump.within, far);
          keeps = keeps_second (b.base + h.0) to (omega arith) jump;
        }) (ends_second (b.base + h.0)) (two.steps h.0 line h.2)))
  ]

  loops : (i : ℕ) (turns : Turns) → slice_get both.loops i ≡ Some turns → LiesBehind first both turns
  loops i turns is = elim (side_of a.loops b.loops i turns is) [
    | inl h ↦ (let t = one.loops i turns h.1 in record {
      later = t.later;
      body = t.body;
      within = omega (arith, t.within, far, at);
      lend = λ line k place there. elim (side_of a.lines b.lines k line there) [
        | inl g ↦ t.lend line k place g.1
        | inr g ↦ absurd (omega (arith, g.1, place, t.within))
      ];
    })
    | inr h ↦ (let t = two.loops h.0 turns h.2 in record {
      later = omega (arith, t.later, later);
      body = t.body;
      within = omega (arith, t.within, far);
      lend = λ line k place there. elim (side_of a.lines b.lines k line there) [
        | inl g ↦ absurd (omega (arith, g.0, place, t.body, t.later, from, at))
        | inr g ↦ t.lend line g.0 (omega (arith, g.1, place, at)) g.2
      ];
    })
  ]

  nested : (i k : ℕ) (s t : Turns) → i < k → slice_get both.loops i ≡ Some s → slice_get both.loops k ≡ Some t → IsBeforeOrWithin s t
  nested i k s t below is is2 = elim (side_of a.loops b.loops i s is) [
    | inl h ↦ elim (side_of a.loops b.loops k t is2) [
      | inl g ↦ one.nested i k s t below h.1 g.1
      | inr g ↦ inl (omega (arith, (one.loops i s h.1).within, (two.loops g.0 t g.2).later, from, at))
    ]
    | inr h ↦ elim (side_of a.loops b.loops k t is2) [
      | inl g ↦ absurd (omega (arith, h.1, g.0, below))
      | inr g ↦ two.nested h.0 g.0 s t (omega (arith, h.1, g.1, below)) h.2 g.2
    ]
  ]

  pub joined_flows : Flows first both
  joined_flows = record { steps = steps; loops = loops; nested = nested }

-- a line more, neither a jump nor the end of a turn
pub emitted_flows : (first : ℕ) (code : Lines) (line : CodeLine) → is_straight line.step ≡ true → Flows first code → Flows first (followed_by code (line ∷ []))
emitted_flows first code line straight flows =
    subst (λ ls. Flows first record { base = code.base; lines = code.lines ++ line ∷ []; loops = ls }) (append-nil code.loops)
    (joined_flows first (first + place_behind code) code (alone (place_behind code) line) flows (straight_flows (first + place_behind code) (place_behind code) line straight) refl (omega arith) (omega arith))

-- ---- a jump over code

-- a line before code
abbrev pub behind_line : ℕ → CodeLine → Lines → Lines
behind_line base line code = record { base = base; lines = line ∷ code.lines; loops = code.loops }

module _ (first base to : ℕ) (line : CodeLine) (code : Lines) (flows : Flows first code) (at : code.base ≡ base + 1) (later : code.base ≤ first) where
  jump_in : code.base ≤ to → to ≤ place_behind code
      → ((i : ℕ) (turns : Turns) → slice_get code.loops i ≡ Some turns → (to ≤ turns.head) ⊎ (turns.lend < to))
      → IsJump (behind_line base line code) (base + 0) to
  jump_in forward within keeps = record {
    forward = omega (arith, forward, at);
    within = omega (arith, within, at);
    keeps = λ i turns is. record {
      stays = λ in_head in_lend. absurd (omega (arith, in_head, (flows.loops i turns is).later, later, at));
      enters = λ before. keeps i turns is;
    };
  }

  behind_steps : IsJump (behind_line base line code) (base + 0) to → (line.step ≡ JumpTo to) ⊎ (line.step ≡ CjTo to)
      → (i : ℕ) (other : CodeLine) → slice_get (line ∷ code.lines) i ≡ Some other → GoesWell (behind_line base line code) (base + i) other.step
  behind_steps jump is_jump zero other is =
      let same : line.step ≡ other.step = ap (λ (l : CodeLine). l.step) (same_Some _ _ is) in
      elim is_jump [
        | inl e ↦ subst (GoesWell (behind_line base line code) (base + 0)) (sym e ∙ same) jump
        | inr e ↦ subst (GoesWell (behind_line base line code) (base + 0)) (sym e ∙ same) jump
      ]
  behind_steps jump is_jump (suc i) other is =
      let place : code.base + i ≡ base + suc i = omega (arith, at) in
      subst (λ p. GoesWell (behind_line base line code) p other.step) place
      (goes_also code (behind_line base line code) (code.base + i) other.step
      (λ to2 j. record { forward = j.forward; within = omega (arith, j.within, at); keeps = j.keeps })
      (λ e. record { number = e.number; turns = e.turns; there = e.there; ends = e.ends }) (flows.steps i other is))

  behind_lend : (turns : Turns) → LiesBehind first code turns → (other : CodeLine) (k : ℕ) → base + k ≡ turns.lend
      → slice_get (line ∷ code.lines) k ≡ Some other → other.step ≡ Plain Lend
  behind_lend turns t other zero place there = absurd (omega (arith, place, t.body, t.later, later, at))
  behind_lend turns t other (suc k) place there = t.lend other k (omega (arith, place, at)) there

  pub guarded_flows : (line.step ≡ JumpTo to) ⊎ (line.step ≡ CjTo to) → code.base ≤ to → to ≤ place_behind code
      → ((i : ℕ) (turns : Turns) → slice_get code.loops i ≡ Some turns → (to ≤ turns.head) ⊎ (turns.lend < to))
      → Flows first (behind_line base line code)
  guarded_flows is_jump forward within keeps = record {
    steps = behind_steps (jump_in forward within keeps) is_jump;
    loops = λ i turns is. (let t = flows.loops i turns is in record {
      later = t.later;
      body = t.body;
      within = omega (arith, t.within, at);
      lend = behind_lend turns t;
    });
    nested = flows.nested;
  }

-- code that is passed over by a jump before it
pub passed_flows : (first : ℕ) (old more : Lines) (line : CodeLine) → Flows first old → FlowsOn more → first ≤ place_behind old + 2
    → more.base ≡ place_behind old + 1 → (line.step ≡ JumpTo (place_behind more)) ⊎ (line.step ≡ CjTo (place_behind more))
    → Flows first (joined (followed_by old (line ∷ [])) more)
passed_flows first old more line flows inner later at is_jump =
    subst (λ ls. Flows first record { base = old.base; lines = ls; loops = old.loops ++ more.loops }) (sym (append_assoc old.lines (line ∷ []) more.lines))
    (joined_flows first (more.base + 1) old (behind_line (place_behind old) line more) flows
    (guarded_flows (more.base + 1) (place_behind old) (place_behind more) line more inner at (omega arith) is_jump (omega arith) (omega arith)
    (λ i turns is. inr (inner.loops i turns is).within)) refl (omega (arith, at)) (omega (arith, at, later)))

-- ---- code for where Areg is not 0, and for where it is

pub chosen_flows : (first : ℕ) (old some none : Lines) (cj j : CodeLine) → Flows first old → FlowsOn some → FlowsOn none → first ≤ place_behind old + 2
    → some.base ≡ place_behind old + 1 → none.base ≡ place_behind some + 1 → cj.step ≡ CjTo (place_behind some + 1) → j.step ≡ JumpTo (place_behind none)
    → Flows first (joined (followed_by (joined (followed_by old (cj ∷ [])) some) (j ∷ [])) none)
chosen_flows first old some none cj j flows flows_some flows_none later at_some at_none is_cj is_jump =
    subst (λ ls. Flows first record { base = old.base; lines = ls; loops = (old.loops ++ some.loops) ++ none.loops }) (sym lines)
    (subst (λ os. Flows first record { base = old.base; lines = old.lines ++ cj ∷ (some.lines ++ j ∷ none.lines); loops = os }) (sym (append_assoc old.loops some.loops none.loops))
    (joined_flows first (some.base + 1) old third flows third_flows refl (omega (arith, at_some)) (omega (arith, at_some, later))))
  where
    one : Lines
    one = behind_line (place_behind some) j none

    one_flows : Flows (none.base + 1) one
    one_flows = guarded_flows (none.base + 1) (place_behind some) (place_behind none) j none flows_none at_none (omega arith) (inl is_jump) (omega arith) (omega arith)
        (λ i turns is. inr (flows_none.loops i turns is).within)

    two : Lines
    two = joined some one

    two_flows : Flows (some.base + 1) two
    two_flows = joined_flows (some.base + 1) (none.base + 1) some one flows_some one_flows refl (omega (arith, at_none)) (omega (arith, at_none))

    third : Lines
    third = behind_line (place_behind old) cj two

    passes : (i : ℕ) (turns : Turns) → slice_get (some.loops ++ none.loops) i ≡ Some turns → (place_behind some + 1 ≤ turns.head) ⊎ (turns.lend < place_behind some + 1)
    passes i turns is = elim (side_of some.loops none.loops i turns is) [
      | inl h ↦ inr (omega (arith, (flows_some.loops i turns h.1).within))
      | inr h ↦ inl (omega (arith, (flows_none.loops h.0 turns h.2).later, at_none))
    ]

    third_flows : Flows (some.base + 1) third
    third_flows = guarded_flows (some.base + 1) (place_behind old) (place_behind some + 1) cj two two_flows at_some (omega arith) (inr is_cj) (omega arith)
        (omega (arith, length-append some.lines (j ∷ none.lines))) passes

    lines : (((old.lines ++ cj ∷ []) ++ some.lines) ++ j ∷ []) ++ none.lines ≡ old.lines ++ cj ∷ (some.lines ++ j ∷ none.lines)
    lines = ap (λ z. (z ++ j ∷ []) ++ none.lines) (append_assoc old.lines (cj ∷ []) some.lines)
        ∙ append_assoc (old.lines ++ cj ∷ some.lines) (j ∷ []) none.lines ∙ append_assoc old.lines (cj ∷ some.lines) (j ∷ none.lines)

-- ---- turns

module _ (turn : Lines) (t : Turns) (a b c : CodeLine) (flows : FlowsOn turn) (head : t.head ≡ turn.base) (lend : t.lend ≡ place_behind turn + 2)
    (straight : is_straight a.step ≡ true) (straight2 : is_straight b.step ≡ true) (ends : c.step ≡ Plain Lend) where
  abbrev closed : Lines
  closed = record { base = turn.base; lines = turn.lines ++ a ∷ b ∷ c ∷ []; loops = turn.loops ++ t ∷ [] }

  long : place_behind closed ≡ place_behind turn + 3
  long = omega (arith, length-append turn.lines (a ∷ b ∷ c ∷ []))

  closed_keeps : (place to : ℕ) → turn.base ≤ place → IsJump turn place to → (i : ℕ) (turns : Turns) → slice_get (turn.loops ++ t ∷ []) i ≡ Some turns → KeepsTo turns place to
  closed_keeps place to behind jump i turns is = elim (side_of turn.loops (t ∷ []) i turns is) [
    | inl h ↦ jump.keeps i turns h.1
    | inr h ↦ own h.0 h.2
  ]
    where
      own : (k : ℕ) → slice_get (t ∷ []) k ≡ Some turns → KeepsTo turns place to
      own zero there = subst (λ (l : Turns). KeepsTo l place to) (same_Some _ _ there) record {
        stays = λ in_head in_lend. omega (arith, jump.within, lend);
        enters = λ before. absurd (omega (arith, before, head, behind));
      }
      own (suc k) there = cc

  closed_steps : (i : ℕ) (line : CodeLine) → slice_get closed.lines i ≡ Some line → GoesWell closed (closed.base + i) line.step
  closed_steps i line is = elim (side_of turn.lines (a ∷ b ∷ c ∷ []) i line is) [
    | inl h ↦ goes_also turn closed (turn.base + i) line.step
        (λ to jump. record {
          forward = jump.forward;
          within = omega (arith, jump.within, long);
          keeps = closed_keeps (turn.base + i) to (omega arith) jump;
        })
        (λ e. record { number = e.number; turns = e.turns; there = in_first turn.loops (t ∷ []) e.number e.turns e.there; ends = e.ends })
        (flows.steps i line h.1)
    | inr h ↦ last h.0 h.1 h.2
  ]
    where
      last : (k : ℕ) → i ≡ length turn.lines + k → slice_get (a ∷ b ∷ c ∷ []) k ≡ Some line → GoesWell closed (closed.base + i) line.step
      last zero at there = subst (λ (l : CodeLine). GoesWell closed (closed.base + i) l.step) (same_Some _ _ there) (straight_goes closed (closed.base + i) a.step straight)
      last (suc zero) at there = subst (λ (l : CodeLine). GoesWell closed (closed.base + i) l.step) (same_Some _ _ there) (straight_goes closed (closed.base + i) b.step straight2)
      last (suc (suc zero)) at there = subst (λ (l : CodeLine). GoesWell closed (closed.base + i) l.step) (same_Some _ _ there)
          (subst (GoesWell closed (closed.base + i)) (sym ends) record {
            number = length turn.loops + 0;
            turns = t;
            there = in_second turn.loops (t ∷ []) 0 t refl;
            ends = omega (arith, lend, at);
          })
      last (suc (suc (suc k))) at there = cc

  own_lend : (line : CodeLine) (i : ℕ) → closed.base + i ≡ t.lend → slice_get closed.lines i ≡ Some line → line.step ≡ Plain Lend
  own_lend line i place there = elim (side_of turn.lines (a ∷ b ∷ c ∷ []) i line there) [
    | inl h ↦ absurd (omega (arith, h.0, place, lend))
    | inr h ↦ third h.0 h.1 h.2
  ]
    where
      third : (k : ℕ) → i ≡ length turn.lines + k → slice_get (a ∷ b ∷ c ∷ []) k ≡ Some line → line.step ≡ Plain Lend
      third zero at there2 = absurd (omega (arith, at, place, lend))
      third (suc zero) at there2 = absurd (omega (arith, at, place, lend))
      third (suc (suc zero)) at there2 = ap (λ (l : CodeLine). l.step) (sym (same_Some _ _ there2)) ∙ ends
      third (suc (suc (suc k))) at there2 = cc

  closed_loops : (i : ℕ) (turns : Turns) → slice_get closed.loops i ≡ Some turns → LiesBehind turn.base closed turns
  closed_loops i turns is = elim (side_of turn.loops (t ∷ []) i turns is) [
    | inl h ↦ (let s = flows.loops i turns h.1 in record {
      later = omega (arith, s.later);
      body = s.body;
      within = omega (arith, s.within, long);
      lend = λ line k place there. elim (side_of turn.lines (a ∷ b ∷ c ∷ []) k line there) [
        | inl g ↦ s.lend line k place g.1
        | inr g ↦ absurd (omega (arith, g.1, place, s.within))
      ];
    })
    | inr h ↦ own h.0 h.2
  ]
    where
      own : (k : ℕ) → slice_get (t ∷ []) k ≡ Some turns → LiesBehind turn.base closed turns
      own zero there = subst (λ (l : Turns). LiesBehind turn.base closed l) (same_Some _ _ there) record {
        later = omega (arith, head);
        body = omega (arith, head, lend);
        within = omega (arith, lend, long);
        lend = own_lend;
      }
      own (suc k) there = cc

  closed_nested : (i k : ℕ) (s u : Turns) → i < k → slice_get closed.loops i ≡ Some s → slice_get closed.loops k ≡ Some u → IsBeforeOrWithin s u
  closed_nested i k s u below is is2 = elim (side_of turn.loops (t ∷ []) k u is2) [
    | inl h ↦ elim (side_of turn.loops (t ∷ []) i s is) [
      | inl g ↦ flows.nested i k s u below g.1 h.1
      | inr g ↦ absurd (omega (arith, g.1, h.0, below))
    ]
    | inr h ↦ own h.0 h.1 h.2
  ]
    where
      own : (n : ℕ) → k ≡ length turn.loops + n → slice_get (t ∷ []) n ≡ Some u → IsBeforeOrWithin s u
      own zero at there = elim (side_of turn.loops (t ∷ []) i s is) [
        | inl g ↦ (let l = flows.loops i s g.1 in
            inr (
              subst (λ (v : Turns). v.head < s.head) (same_Some _ _ there) (omega (arith, head, l.later)),
              subst (λ (v : Turns). s.lend < v.lend) (same_Some _ _ there) (omega (arith, lend, l.within)),
            ))
        | inr g ↦ absurd (omega (arith, g.1, at, below))
      ]
      own (suc n) at there = cc

  closed_flows : Flows turn.base closed
  closed_flows = record { steps = closed_steps; loops = closed_loops; nested = closed_nested }

  pub turned_flows : (first : ℕ) (old : Lines) → Flows first old → turn.base ≡ place_behind old → first ≤ place_behind old
      → Flows first (with_loop (followed_by (joined old turn) (a ∷ b ∷ c ∷ [])) t)
  turned_flows first old before at later =
      subst (λ ls. Flows first record { base = old.base; lines = ls; loops = (old.loops ++ turn.loops) ++ t ∷ [] }) (sym (append_assoc old.lines turn.lines (a ∷ b ∷ c ∷ [])))
      (subst (λ os. Flows first record { base = old.base; lines = old.lines ++ (turn.lines ++ a ∷ b ∷ c ∷ []); loops = os }) (sym (append_assoc old.loops turn.loops (t ∷ [])))
      (joined_flows first turn.base old closed before closed_flows at (omega arith) (omega (arith, at, later))))

-- ---- what code keeps

-- the lines and loops of code, from a place on
abbrev pub code_at : ℕ → List CodeLine → List Turns → Lines
code_at base lines loops = record { base = base; lines = lines; loops = loops }

-- no code has more lines than this, and control flows in it
abbrev pub IsKept : Lines → Type 0
IsKept code = (place_behind code ≤ 8192) × FlowsOn code

pub keeps_line : (old : Lines) (line : CodeLine) (lines : List CodeLine) → IsKept old → place_behind old < 8192 → is_straight line.step ≡ true
    → lines ≡ old.lines ++ line ∷ [] → IsKept (code_at old.base lines old.loops)
keeps_line old line lines kept room straight is =
    subst (λ ls. IsKept (code_at old.base ls old.loops)) (sym is)
    (omega (arith, room, length-append old.lines (line ∷ [])), emitted_flows (old.base + 1) old line straight kept.1)

pub keeps_passed : (old more : Lines) (line : CodeLine) (lines : List CodeLine) (loops : List Turns) → IsKept old → IsKept more
    → more.base ≡ place_behind old + 1 → line.step ≡ CjTo (place_behind more)
    → lines ≡ old.lines ++ line ∷ more.lines → loops ≡ old.loops ++ more.loops → IsKept (code_at old.base lines loops)
keeps_passed old more line lines loops kept inner at is_cj is is2 =
    subst (λ ls. IsKept (code_at old.base ls loops)) (append_assoc old.lines (line ∷ []) more.lines ∙ sym is)
    (subst (λ os. IsKept (code_at old.base ((old.lines ++ line ∷ []) ++ more.lines) os)) (sym is2) (
      omega (arith, inner.0, at, length-append (old.lines ++ line ∷ []) more.lines, length-append old.lines (line ∷ [])),
      passed_flows (old.base + 1) old more line kept.1 inner.1 (omega arith) at (inr is_cj),
    ))

pub keeps_chosen : (old some none : Lines) (cj j : CodeLine) (lines : List CodeLine) (loops : List Turns) → IsKept old → IsKept some → IsKept none
    → some.base ≡ place_behind old + 1 → none.base ≡ place_behind some + 1 → cj.step ≡ CjTo (place_behind some + 1) → j.step ≡ JumpTo (place_behind none)
    → lines ≡ old.lines ++ (((cj ∷ some.lines) ++ j ∷ []) ++ none.lines) → loops ≡ old.loops ++ (some.loops ++ none.loops) → IsKept (code_at old.base lines loops)
keeps_chosen old some none cj j lines loops kept kept_some kept_none at_some at_none is_cj is_jump is is2 =
    subst (λ ls. IsKept (code_at old.base ls loops)) (all ∙ sym is)
    (subst (λ os. IsKept (code_at old.base ((((old.lines ++ cj ∷ []) ++ some.lines) ++ j ∷ []) ++ none.lines) os)) (append_assoc old.loops some.loops none.loops ∙ sym is2) (
      omega (
        arith,
        kept_none.0,
        at_some,
        at_none,
        ap length all,
        length-append old.lines (((cj ∷ some.lines) ++ j ∷ []) ++ none.lines),
        length-append ((cj ∷ some.lines) ++ j ∷ []) none.lines,
        length-append (cj ∷ some.lines) (j ∷ []),
      ),
      chosen_flows (old.base + 1) old some none cj j kept.1 kept_some.1 kept_none.1 (omega arith) at_some at_none is_cj is_jump,
    ))
  where
    all : (((old.lines ++ cj ∷ []) ++ some.lines) ++ j ∷ []) ++ none.lines ≡ old.lines ++ (((cj ∷ some.lines) ++ j ∷ []) ++ none.lines)
    all = ap (λ z. (z ++ j ∷ []) ++ none.lines) (append_assoc old.lines (cj ∷ []) some.lines)
        ∙ ap (λ z. z ++ none.lines) (append_assoc old.lines (cj ∷ some.lines) (j ∷ []))
        ∙ append_assoc old.lines ((cj ∷ some.lines) ++ j ∷ []) none.lines

pub keeps_turn : (old turn : Lines) (t : Turns) (a b c : CodeLine) (one two three lines : List CodeLine) (loops : List Turns) → IsKept old → IsKept turn
    → turn.base ≡ place_behind old → 0 < length old.lines → place_behind turn + 3 ≤ 8192 → t.head ≡ turn.base → t.lend ≡ place_behind turn + 2
    → is_straight a.step ≡ true → is_straight b.step ≡ true → c.step ≡ Plain Lend
    → one ≡ turn.lines ++ a ∷ [] → two ≡ one ++ b ∷ [] → three ≡ two ++ c ∷ [] → lines ≡ old.lines ++ three → loops ≡ old.loops ++ (turn.loops ++ t ∷ []) → IsKept (code_at old.base lines loops)
keeps_turn old turn t a b c one two three lines loops kept inner at some room head lend straight straight2 ends is_one is_two is_three is is2 =
    subst (λ ls. IsKept (code_at old.base ls loops)) (append_assoc old.lines turn.lines (a ∷ b ∷ c ∷ []) ∙ ap (λ ls. old.lines ++ ls) (sym all) ∙ sym is)
    (subst (λ os. IsKept (code_at old.base ((old.lines ++ turn.lines) ++ a ∷ b ∷ c ∷ []) os)) (append_assoc old.loops turn.loops (t ∷ []) ∙ sym is2) (
      omega (arith, room, at, length-append (old.lines ++ turn.lines) (a ∷ b ∷ c ∷ []), length-append old.lines turn.lines),
      turned_flows turn t a b c inner.1 head lend straight straight2 ends (old.base + 1) old kept.1 at (omega (arith, some)),
    ))
  where
    all : three ≡ turn.lines ++ a ∷ b ∷ c ∷ []
    all = is_three ∙ ap (λ ls. ls ++ c ∷ []) (is_two ∙ ap (λ ls. ls ++ b ∷ []) is_one ∙ append_assoc turn.lines (a ∷ []) (b ∷ []))
        ∙ append_assoc turn.lines (a ∷ b ∷ []) (c ∷ [])
