-- An expression within which a cell has a value.
use Rattle.std.proofs.Common.{◌≡◌, ◌∙◌, ℕ, true, false, Some, None, ap, sym, subst}
use Rattle.std.specs.Prelude.{Option}
use Rattle.std.specs.Borrow.{Bor}
use Rattle.std.specs.declared.boxed.Box.{Box}
use Rattle.std.specs.declared.alloc.Global.{Global}
use Rattle.tpw_occam_terms.specs.declared.span.Span.{Span}
use Rattle.tpw_occam_core.specs.declared.kind.Kind.{Kind}
use Rattle.tpw_occam_core.specs.declared.expression.Expression.{Expression}
use Rattle.tpw_occam_core.specs.Meaning.{Store, bind, with_value}
use Rattle.tpw_occam_core.specs.Meaning as core
use Rattle.tpw_occam_meaning.specs.States.{State, with_cell}
use Rattle.tpw_occam_scoped.specs.Meaning as scoped
use Rattle.tpw_occam_scoped.specs.declared.expression.Expression.{Expression as Scoped}
use Rattle.tpw_occam_scoped.specs.declared.expression.Expression.TheVariants.{Element, Within}
use Rattle.tpw_occam_placing.specs.declared.aliases.Aliases.{Aliases}
use Rattle.tpw_occam_placing.specs.declared.tables.Tables.{Tables}
use Rattle.tpw_occam_placing.specs.declared.scope.Scope.{Scope}
use Rattle.tpw_occam_placing.specs.declared.scope.Scope.TheVariants.{Variable'}
use Rattle.tpw_occam_placing.specs.Placing.{is_this, cell_in, variable_of, array_of, Holds, seen, is_mentioned, IsPlacedIn}
use Rattle.tpw_occam_placing.proofs.Seeing.{arrays_seen, seen_behind}
use Rattle.tpw_occam_placing.proofs.Holding.{holds_within}

pub placed_within : {name : Option Span} (tables : Tables) (scope : Scope) (aliases : Aliases) (p : Bor (Unit {0})) (x n : ℕ) (e : Scoped) (v w : Box Scoped Global)
    (v' w' : Scoped) (value within made : Expression) → e ≡ Within name x v w → v' ≡ v.value → w' ≡ w.value
    → is_mentioned aliases x ≡ false → is_this x (cell_in tables n) ≡ true → variable_of tables scope x ≡ None
    → IsPlacedIn tables scope aliases v' value → IsPlacedIn tables (Variable' n p scope) aliases w' within
    → ((t : Store) → core.value_of made t ≡ bind (core.value_of value t) (λ a. core.value_of within (with_value n a t)))
    → IsPlacedIn tables scope aliases e made
placed_within {name = name} tables scope aliases p x n e v w v' w' value within made e-is v-is w-is apart lies new first second is =
    let first' = subst (λ (k : Scoped). IsPlacedIn tables scope aliases k value) v-is first in
    let second' = subst (λ (k : Scoped). IsPlacedIn tables (Variable' n p scope) aliases k within) w-is second in
    let behind : (s : State) (t : Store) → Holds tables scope s t → (a : ℕ)
    → core.value_of within (with_value n a t) ≡ scoped.value_of w.value (with_cell x a (seen aliases s)) =
    λ s t holds a. second' (with_cell x a s) (with_value n a t) (holds_within tables scope s t x n p a lies new holds)
    ∙ ap (scoped.value_of w.value) (seen_behind aliases x a s apart) in
    let whole : IsPlacedIn tables scope aliases (Within name x v w) made =
    λ s t holds. is t ∙ (λ i. bind (first' s t holds i) (λ a. behind s t holds a i)) in
    subst (λ (k : Scoped). IsPlacedIn tables scope aliases k made) (sym e-is) whole

-- an element, whose array no alias changes
pub placed_element : (tables : Tables) (scope : Scope) (aliases : Aliases) (a n : ℕ) (kind : Kind) (e : Scoped) (v : Box Scoped Global)
    (v' : Scoped) (at made : Expression) → e ≡ Element a kind v → v' ≡ v.value → Some n ≡ array_of tables scope a
    → IsPlacedIn tables scope aliases v' at
    → ((t : Store) → core.value_of made t ≡ bind (core.value_of at t) (core.element_at kind (core.array_of t n)))
    → IsPlacedIn tables scope aliases e made
placed_element tables scope aliases a n kind e v v' at made e-is v-is lies placed is =
    let placed' = subst (λ (k : Scoped). IsPlacedIn tables scope aliases k at) v-is placed in
    let bytes : (s : State) (t : Store) → Holds tables scope s t → core.array_of t n ≡ (seen aliases s).arrays a =
    λ s t holds. holds.arrays a n (sym lies) ∙ (λ i. sym (arrays_seen aliases s) i a) in
    let whole : IsPlacedIn tables scope aliases (Element a kind v) made =
    λ s t holds. is t ∙ (λ i. bind (placed' s t holds i) (core.element_at kind (bytes s t holds i))) in
    subst (λ (k : Scoped). IsPlacedIn tables scope aliases k made) (sym e-is) whole
