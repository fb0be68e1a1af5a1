-- Steps of the passes, one after another.
use Rattle.std.proofs.lemmas.Bool.{cases_eq}
use Rattle.std.proofs.Common.{◌≡◌, ℕ, zero, suc, ◌+◌, ◌<◌, ◌≤◌, ◌⊎◌, inl, inr, Bool, true, false, List, [], ◌∷◌, ◌++◌}
use Rattle.std.proofs.Common.{length, Option, Result, Ok, Err, refl, sym, ap, ◌∙◌, subst, arith, get_or, drop, add-one}
use Rattle.std.proofs.Common.{drop-cons}
use mathlib.Core.Path.{fun_ext}
use Rattle.tp_decode.specs.declared.placed.Placed.{Placed}
use Rattle.tp_flow.specs.declared.edge.Edge.{Edge}
use Rattle.tp_image.specs.Image.{ImageValue}
use Rattle.tp_state.specs.declared.fault.StateFault.{StateFault}
use Rattle.tp_state.specs.Answer.{◌>>=◌}
use Rattle.tp_state.specs.declared.state.State.{State}
use Rattle.tp_check.specs.Tables.{Table}
use Rattle.tp_check.specs.Passes.{go_along, along_edges, edges_from}
use Rattle.tp_check.specs.Rising.{Moves, table_height}

-- no step leaves more changes
pub table_le : (image : ImageValue) (moved : Bool) (old new : List (Option State)) → Moves image moved old new → table_height image new ≤ table_height image old
table_le image true old new m = omega (arith, m.falls refl)
table_le image false old new m = let e = ap (table_height image) (m.stays refl) in omega (arith, e)

module _ (image : ImageValue) (first then_ last : List (Option State)) where
  -- a step that changes a state, after others
  pub moves_more : (moved : Bool) → Moves image moved first then_ → Moves image true then_ last → Moves image true first last
  moves_more moved m n = record { sized = n.sized ∙ m.sized; stays = λ e. absurd (cc); falls = λ e. omega (arith, n.falls refl, table_le image moved first then_ m) }

  -- and one that leaves all as they are
  pub moves_no_more : (moved : Bool) → Moves image moved first then_ → Moves image false then_ last → Moves image moved first last
  moves_no_more moved m n = record { sized = n.sized ∙ m.sized; stays = λ e. n.stays refl ∙ m.stays e; falls = λ e. omega (arith, m.falls e, table_le image false then_ last n) }

pub moves_none : (image : ImageValue) (states : List (Option State)) → Moves image false states states
moves_none image states = record { sized = refl; stays = λ e. refl; falls = λ e. absurd (cc) }

-- ---- the definition's answers, one edge after another

-- edges after edges
pub along_append : (image : ImageValue) (xs ys : List (Placed × Edge)) (table : Table) → along_edges image (xs ++ ys) table ≡ (along_edges image xs table >>= along_edges image ys)
along_append image [] ys table = refl
along_append image (x ∷ xs) ys table = ap (λ f. go_along image x.0 x.1 (table x.0.at) table >>= f)
    (fun_ext λ t. along_append image xs ys t) ∙ sym (in_turn (go_along image x.0 x.1 (table x.0.at) table)
    (along_edges image xs) (along_edges image ys))
  where
    in_turn : (r : Result Table StateFault) (f g : Table → Result Table StateFault) → ((r >>= f) >>= g) ≡ (r >>= (λ t. f t >>= g))
    in_turn (Ok t) f g = refl
    in_turn (Err e) f g = refl

pub get_in : (ways : List Edge) (i : ℕ) (d d' : Edge) → i < length ways → get_or ways i d ≡ get_or ways i d'
get_in [] i d d' inside = absurd (omega (arith, inside))
get_in (w ∷ ways) zero d d' inside = refl
get_in (w ∷ ways) (suc i) d d' inside = get_in ways i d d' (omega (arith, inside))

pub next_way : (p : Placed) (ways : List Edge) (i : ℕ) (d : Edge) → i < length ways → edges_from p (drop i ways) ≡ (p, get_or ways i d) ∷ edges_from p (drop (i + 1) ways)
next_way p ways i d inside = ap (edges_from p) (drop-cons ways i d inside ∙ ap (λ n. get_or ways i d ∷ drop n ways) (sym (add-one i)))

-- what holds of the edges before one, and of that one
pub way_more : (P : Edge → Type 0) (ways : List Edge) (i : ℕ) (e : Edge) → i < length ways →
    ((k : ℕ) (d : Edge) → k < i → P (get_or ways k d)) → P (get_or ways i e) → (k : ℕ) (d : Edge) → k < i + 1 →
    P (get_or ways k d)
way_more P ways i e inside below here k d lt = by_place (cases_eq k i)
  where
    by_place : (k ≡ i) ⊎ (k ≡ i → ⊥) → P (get_or ways k d)
    by_place (inl same) = subst P (get_in ways i e d inside ∙ ap (λ n. get_or ways n d) (sym same)) here
    by_place (inr other) = below k d (omega (arith, lt, other))
