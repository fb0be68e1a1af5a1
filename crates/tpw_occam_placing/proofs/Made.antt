-- Processes, each by what it is made of.
use Rattle.std.proofs.Common.{◌≡◌, ◌∙◌, ℕ, true, None, length, replicate, sym, subst}
use Rattle.std.proofs.lemmas.List.{length-replicate}
use Rattle.std.specs.Borrow.{Bor}
use Rattle.tpw_occam_core.specs.declared.arithmetic.Answer.{Answer}
use Rattle.tpw_occam_core.specs.declared.process.Process.{Process}
use Rattle.tpw_occam_core.specs.declared.expression.Expression.{Expression}
use Rattle.tpw_occam_core.specs.Meaning.{Store, with_value, with_array, array_of}
use Rattle.tpw_occam_core.specs.Meaning as core
use Rattle.tpw_occam_core.specs.Sound.{bytes_of}
use Rattle.tpw_occam_meaning.specs.States.{State}
use Rattle.tpw_occam_meaning.specs.States as state
use Rattle.tpw_occam_scoped.specs.declared.expression.Expression.{Expression as Scoped}
use Rattle.tpw_occam_scoped.specs.declared.process.Process.{Process as ScopedProcess}
use Rattle.tpw_occam_scoped.specs.Meaning as scoped
use Rattle.tpw_occam_placing.specs.declared.tables.Tables.{Tables}
use Rattle.tpw_occam_placing.specs.declared.scope.Scope.{Scope}
use Rattle.tpw_occam_placing.specs.declared.scope.Scope.TheVariants.{Variable', Array'}
use Rattle.tpw_occam_placing.specs.Placing.{is_this, cell_in, array_in, storage_at, variable_of, array_of as array_at, Holds, IsPlaced, IsDone}
use Rattle.tpw_occam_placing.proofs.Arrays.{holds_array_within, holds_array_without}
use Rattle.tpw_occam_placing.proofs.Doing.{holds_flagged, done_within, done_chosen}

module _ (tables : Tables) (scope : Scope) where
  -- what is done and what is made, by what they do
  pub done_by : (p : ScopedProcess) (made : Process) (f : State → State) (g : Store → Store) → ((s : State) → scoped.run p s ≡ f s)
      → ((t : Store) → core.run tables.kinds.items made t ≡ g t)
      → ((s : State) (t : Store) → Holds tables scope s t → Holds tables scope (f s) (g t)) → IsDone tables scope p made
  done_by p made f g f-is g-is does s t holds =
      subst (λ (u : State). Holds tables scope u (core.run tables.kinds.items made t)) (sym (f-is s))
      (subst (λ (u : Store). Holds tables scope (f s) u) (sym (g-is t)) (does s t holds))

  -- a word that may set the flag, and what goes on with it
  pub done_value : (p : Bor (Unit {0})) (x n : ℕ) (e : Scoped) (made : Expression) (f : State → State) (g : Store → Store)
      → is_this x (cell_in tables n) ≡ true → variable_of tables scope x ≡ None → IsPlaced tables scope e made
      → ((s : State) (t : Store) → Holds tables (Variable' n p scope) s t → Holds tables (Variable' n p scope) (f s) (g t))
      → (s : State) (t : Store) → Holds tables scope s t
      → Holds tables scope (f (state.stored x (scoped.value_of e s) s))
      (g (with_value n (core.value_of made t).word (core.flagged (core.value_of made t).flag t)))
  done_value p x n e made f g lies new placed body s t holds =
      subst (λ (v : Answer). Holds tables scope (f (state.stored x (scoped.value_of e s) s)) (g (with_value n v.word (core.flagged v.flag t))))
      (sym (placed s t holds))
      (done_within tables scope p x n lies new f g body (state.flagged (scoped.value_of e s).flag s) (core.flagged (scoped.value_of e s).flag t)
      (scoped.value_of e s).word (holds_flagged tables scope s t (scoped.value_of e s).flag holds))

  pub done_guarded : (e : Scoped) (made : Expression) (f g : State → State) (f' g' : Store → Store) → IsPlaced tables scope e made
      → ((s : State) (t : Store) → Holds tables scope s t → Holds tables scope (f s) (f' t))
      → ((s : State) (t : Store) → Holds tables scope s t → Holds tables scope (g s) (g' t))
      → (s : State) (t : Store) → Holds tables scope s t
      → Holds tables scope (state.chosen (scoped.value_of e s).word f g (state.flagged (scoped.value_of e s).flag s))
      (core.chosen (core.value_of made t).word (f' (core.flagged (core.value_of made t).flag t)) (g' (core.flagged (core.value_of made t).flag t)))
  done_guarded e made f g f' g' placed guarded rest s t holds =
      subst (λ (v : Answer). Holds tables scope (state.chosen (scoped.value_of e s).word f g (state.flagged (scoped.value_of e s).flag s))
      (core.chosen v.word (f' (core.flagged v.flag t)) (g' (core.flagged v.flag t)))) (sym (placed s t holds))
      (done_chosen tables scope (state.flagged (scoped.value_of e s).flag s) (core.flagged (scoped.value_of e s).flag t) (scoped.value_of e s).word
      f g f' g' guarded rest (holds_flagged tables scope s t (scoped.value_of e s).flag holds))

  -- within an array of this many bytes
  pub done_array : (p : Bor (Unit {0})) (a n bytes : ℕ) (f : State → State) (g : Store → Store) → is_this a (array_in tables n) ≡ true
      → array_at tables scope a ≡ None → bytes_of (storage_at tables n) ≡ bytes
      → ((s : State) (t : Store) → Holds tables (Array' n p scope) s t → Holds tables (Array' n p scope) (f s) (g t))
      → (s : State) (t : Store) → Holds tables scope s t
      → Holds tables scope (f (state.with_array a (replicate bytes 0) s)) (g (with_array n (replicate (length (array_of t n)) 0) t))
  done_array p a n bytes f g lies new long body s t holds =
      subst (λ (k : ℕ). Holds tables scope (f (state.with_array a (replicate bytes 0) s)) (g (with_array n (replicate k 0) t)))
      (sym (holds.sizes n ∙ long))
      (holds_array_without tables scope (f (state.with_array a (replicate bytes 0) s)) (g (with_array n (replicate bytes 0) t)) a n p lies new
      (body (state.with_array a (replicate bytes 0) s) (with_array n (replicate bytes 0) t)
      (holds_array_within tables scope s t a n p (replicate bytes 0) lies new (length-replicate bytes 0 ∙ sym long) holds)))
