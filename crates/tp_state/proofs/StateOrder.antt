-- Joins of cells, and of states: the least of what is above both.
use Rattle.std.proofs.Common.{◌≡◌, ◌⊎◌, inl, inr, ℕ, ◌==◌, Bool, true, false, if◌then◌else◌, IsTrue, ℤ, List, length, refl, sym, ap, ◌∙◌, subst, rules}
use Rattle.std.specs.Ordering.{int_eq}
use Rattle.std.proofs.lemmas.List.{ext_get_or}
use Rattle.tp_state.specs.declared.cell.Cell.{Cell}
use Rattle.tp_state.specs.declared.cell.Cell.TheVariants.{Undef, Any, Known, Index, Count}
use Rattle.tp_state.specs.declared.kind.Kind.{Kind}
use Rattle.tp_state.specs.declared.state.State.{State}
use Rattle.tp_state.specs.CellRules.{cell_at, is_free}
use Rattle.tp_state.specs.Order.{cell_below, join_cells, cells_agree, IsBelow, MayMeet, join}
use Rattle.tp_state.proofs.OrderLemmas.{kind_below-self, kind_below-antisym, kind_below-trans, kind_below-join_left, kind_below-join_right, kind_below-least}
use Rattle.tp_state.proofs.CellOrder.{same_int, same_nat, int_self, nat_self, BelowWays, below_ways, cell_below-self, cell_below-trans, cell_below-antisym, free_below}
use Rattle.tp_state.proofs.JoinLemmas.{length-joined, cell_at-joined}

known_left : (n : ℤ) (b : Bool) → IsTrue (cell_below (Known n) (if b then Known n else Any))
known_left n true = int_self n
known_left n false = search rules

known_right : (n m : ℤ) (b : Bool) → int_eq n m ≡ b → IsTrue (cell_below (Known m) (if b then Known n else Any))
known_right n m true e = rw (same_int n m (rw e (search rules))) (int_self m)
known_right n m false e = search rules

known_free : (n : ℤ) (b : Bool) → IsTrue (is_free (if b then Known n else Any))
known_free n true = search rules
known_free n false = search rules

known_any : (n : ℤ) (b : Bool) → IsTrue (cell_below (if b then Known n else Any) Any)
known_any n true = search rules
known_any n false = search rules

known_same : (n m : ℤ) → IsTrue (int_eq n m) → (if int_eq n m then Known n else Any) ≡ Known n
known_same n m h = rw h refl

live_same : (l k : ℕ) (make : ℕ → Cell) → IsTrue (l == k) → (if l == k then make l else Undef) ≡ make l
live_same l k make h = rw h refl

pub join_cells-self : (c : Cell) → join_cells c c ≡ c
join_cells-self Undef = refl
join_cells-self Any = refl
join_cells-self (Known n) = known_same n n (int_self n)
join_cells-self (Index l) = live_same l l Index (nat_self l)
join_cells-self (Count l) = live_same l l Count (nat_self l)

pub cell_below-join_left : (c d : Cell) → IsTrue (cells_agree c d) → IsTrue (cell_below c (join_cells c d))
cell_below-join_left Undef Undef h = search rules
cell_below-join_left Undef Any h = search rules
cell_below-join_left Undef (Known m) h = search rules
cell_below-join_left Undef (Index k) h = absurd (search rules)
cell_below-join_left Undef (Count k) h = absurd (search rules)
cell_below-join_left Any Undef h = search rules
cell_below-join_left Any Any h = search rules
cell_below-join_left Any (Known m) h = search rules
cell_below-join_left Any (Index k) h = absurd (search rules)
cell_below-join_left Any (Count k) h = absurd (search rules)
cell_below-join_left (Known n) Undef h = search rules
cell_below-join_left (Known n) Any h = search rules
cell_below-join_left (Known n) (Known m) h = known_left n (int_eq n m)
cell_below-join_left (Known n) (Index k) h = absurd (search rules)
cell_below-join_left (Known n) (Count k) h = absurd (search rules)
cell_below-join_left (Index l) Undef h = absurd (search rules)
cell_below-join_left (Index l) Any h = absurd (search rules)
cell_below-join_left (Index l) (Known m) h = absurd (search rules)
cell_below-join_left (Index l) (Index k) h = rw (live_same l k Index h) (nat_self l)
cell_below-join_left (Index l) (Count k) h = absurd (search rules)
cell_below-join_left (Count l) Undef h = absurd (search rules)
cell_below-join_left (Count l) Any h = absurd (search rules)
cell_below-join_left (Count l) (Known m) h = absurd (search rules)
cell_below-join_left (Count l) (Index k) h = absurd (search rules)
cell_below-join_left (Count l) (Count k) h = rw (live_same l k Count h) (nat_self l)

pub cell_below-join_right : (c d : Cell) → IsTrue (cells_agree c d) → IsTrue (cell_below d (join_cells c d))
cell_below-join_right Undef Undef h = search rules
cell_below-join_right Undef Any h = search rules
cell_below-join_right Undef (Known m) h = search rules
cell_below-join_right Undef (Index k) h = absurd (search rules)
cell_below-join_right Undef (Count k) h = absurd (search rules)
cell_below-join_right Any Undef h = search rules
cell_below-join_right Any Any h = search rules
cell_below-join_right Any (Known m) h = search rules
cell_below-join_right Any (Index k) h = absurd (search rules)
cell_below-join_right Any (Count k) h = absurd (search rules)
cell_below-join_right (Known n) Undef h = search rules
cell_below-join_right (Known n) Any h = search rules
cell_below-join_right (Known n) (Known m) h = known_right n m (int_eq n m) refl
cell_below-join_right (Known n) (Index k) h = absurd (search rules)
cell_below-join_right (Known n) (Count k) h = absurd (search rules)
cell_below-join_right (Index l) Undef h = absurd (search rules)
cell_below-join_right (Index l) Any h = absurd (search rules)
cell_below-join_right (Index l) (Known m) h = absurd (search rules)
cell_below-join_right (Index l) (Index k) h = rw (live_same l k Index h, same_nat l k h) (nat_self k)
cell_below-join_right (Index l) (Count k) h = absurd (search rules)
cell_below-join_right (Count l) Undef h = absurd (search rules)
cell_below-join_right (Count l) Any h = absurd (search rules)
cell_below-join_right (Count l) (Known m) h = absurd (search rules)
cell_below-join_right (Count l) (Index k) h = absurd (search rules)
cell_below-join_right (Count l) (Count k) h = rw (live_same l k Count h, same_nat l k h) (nat_self k)

pub join_free : (c d : Cell) → IsTrue (is_free c) → IsTrue (is_free d) → IsTrue (is_free (join_cells c d))
join_free Undef Undef h g = search rules
join_free Undef Any h g = search rules
join_free Undef (Known m) h g = search rules
join_free Undef (Index k) h g = absurd (search rules)
join_free Undef (Count k) h g = absurd (search rules)
join_free Any Undef h g = search rules
join_free Any Any h g = search rules
join_free Any (Known m) h g = search rules
join_free Any (Index k) h g = absurd (search rules)
join_free Any (Count k) h g = absurd (search rules)
join_free (Known n) Undef h g = search rules
join_free (Known n) Any h g = search rules
join_free (Known n) (Known m) h g = known_free n (int_eq n m)
join_free (Known n) (Index k) h g = absurd (search rules)
join_free (Known n) (Count k) h g = absurd (search rules)
join_free (Index l) Undef h g = absurd (search rules)
join_free (Index l) Any h g = absurd (search rules)
join_free (Index l) (Known m) h g = absurd (search rules)
join_free (Index l) (Index k) h g = absurd (search rules)
join_free (Index l) (Count k) h g = absurd (search rules)
join_free (Count l) Undef h g = absurd (search rules)
join_free (Count l) Any h g = absurd (search rules)
join_free (Count l) (Known m) h g = absurd (search rules)
join_free (Count l) (Index k) h g = absurd (search rules)
join_free (Count l) (Count k) h g = absurd (search rules)

-- live control words come from themselves alone
abbrev pub ComesFromBoth : Cell → Cell → Cell → Type 0
ComesFromBoth c d e = IsTrue (is_free e) ⊎ ((c ≡ e) × (d ≡ e))

live_both : (l k : ℕ) (make : ℕ → Cell) (b : Bool) → (l == k) ≡ b → ComesFromBoth (make l) (make k) (if b then make l else Undef)
live_both l k make true e = inr (refl, ap make (sym (same_nat l k (rw e (search rules)))))
live_both l k make false e = inl (search rules)

pub join_live : (c d : Cell) → ComesFromBoth c d (join_cells c d)
join_live Undef Undef = inl (search rules)
join_live Undef Any = inl (search rules)
join_live Undef (Known m) = inl (search rules)
join_live Undef (Index k) = inl (search rules)
join_live Undef (Count k) = inl (search rules)
join_live Any Undef = inl (search rules)
join_live Any Any = inl (search rules)
join_live Any (Known m) = inl (search rules)
join_live Any (Index k) = inl (search rules)
join_live Any (Count k) = inl (search rules)
join_live (Known n) Undef = inl (search rules)
join_live (Known n) Any = inl (search rules)
join_live (Known n) (Known m) = inl (known_free n (int_eq n m))
join_live (Known n) (Index k) = inl (search rules)
join_live (Known n) (Count k) = inl (search rules)
join_live (Index l) Undef = inl (search rules)
join_live (Index l) Any = inl (search rules)
join_live (Index l) (Known m) = inl (search rules)
join_live (Index l) (Index k) = live_both l k Index (l == k) refl
join_live (Index l) (Count k) = inl (search rules)
join_live (Count l) Undef = inl (search rules)
join_live (Count l) Any = inl (search rules)
join_live (Count l) (Known m) = inl (search rules)
join_live (Count l) (Index k) = inl (search rules)
join_live (Count l) (Count k) = live_both l k Count (l == k) refl

known_or_any : (c : Cell) → BelowWays c Any → (c ≡ Any) ⊎ ((n : ℤ) × (c ≡ Known n))
known_or_any c (inl same) = inl same
known_or_any c (inr (inl (undef, free))) = absurd (cc)
known_or_any c (inr (inr (any, known))) = inr known

pub cell_below-least : (c d e : Cell) → IsTrue (cell_below c e) → IsTrue (cell_below d e) → IsTrue (cell_below (join_cells c d) e)
cell_below-least c d e h g = by_ways (below_ways c e h) (below_ways d e g)
  where
    at_any : (c ≡ Any) ⊎ ((n : ℤ) × (c ≡ Known n)) → (d ≡ Any) ⊎ ((n : ℤ) × (d ≡ Known n)) → IsTrue (cell_below (join_cells c d) Any)
    at_any (inl ca) (inl da) = rw (ca, da) (search rules)
    at_any (inl ca) (inr (m, dk)) = rw (ca, dk) (search rules)
    at_any (inr (n, ck)) (inl da) = rw (ck, da) (search rules)
    at_any (inr (n, ck)) (inr (m, dk)) = rw (ck, dk) (known_any n (int_eq n m))

    by_ways : BelowWays c e → BelowWays d e → IsTrue (cell_below (join_cells c d) e)
    by_ways (inl same) (inl same') = rw (same, same', join_cells-self e) (cell_below-self e)
    by_ways (inr (inl (undef, free))) way = rw undef (join_free c d free (free_below d Undef (subst (λ x. IsTrue (cell_below d x)) undef g) (search rules)))
    by_ways way (inr (inl (undef, free))) = rw undef (join_free c d (free_below c Undef (subst (λ x. IsTrue (cell_below c x)) undef h) (search rules)) free)
    by_ways (inr (inr (any, known))) way = rw any (at_any (inr known) (known_or_any d (below_ways d Any (subst (λ x. IsTrue (cell_below d x)) any g))))
    by_ways way (inr (inr (any, known))) = rw any (at_any (known_or_any c (below_ways c Any (subst (λ x. IsTrue (cell_below c x)) any h))) (inr known))

-- ---- states

pub is_below-self : (s : State) → IsBelow s s
is_below-self s = record { wptr = refl; phase = refl; a = kind_below-self s.a; b = kind_below-self s.b; c = kind_below-self s.c; sized = refl; cells = λ i. cell_below-self (cell_at s.cells i) }

pub is_below-trans : (s t u : State) → IsBelow s t → IsBelow t u → IsBelow s u
is_below-trans s t u h g = record {
  wptr = h.wptr ∙ g.wptr;
  phase = h.phase ∙ g.phase;
  a = kind_below-trans s.a t.a u.a h.a g.a;
  b = kind_below-trans s.b t.b u.b h.b g.b;
  c = kind_below-trans s.c t.c u.c h.c g.c;
  sized = h.sized ∙ g.sized;
  cells = λ i. cell_below-trans (cell_at s.cells i) (cell_at t.cells i) (cell_at u.cells i) (h.cells i) (g.cells i);
}

same_parts : (s t : State) → s.wptr ≡ t.wptr → s.a ≡ t.a → s.b ≡ t.b → s.c ≡ t.c → s.phase ≡ t.phase → s.cells ≡ t.cells → s ≡ t
same_parts s t w a b c p m = parts
  where
    made : ℕ → Kind → Kind → Kind → ℕ → List Cell → State
    made w a b c p m = record { wptr = w; a = a; b = b; c = c; phase = p; cells = m }

    parts : made s.wptr s.a s.b s.c s.phase s.cells ≡ made t.wptr t.a t.b t.c t.phase t.cells
    parts = rw (w, a, b, c, p, m) refl

pub is_below-antisym : (s t : State) → IsBelow s t → IsBelow t s → s ≡ t
is_below-antisym s t h g =
    same_parts s t h.wptr (kind_below-antisym s.a t.a h.a g.a) (kind_below-antisym s.b t.b h.b g.b) (kind_below-antisym s.c t.c h.c g.c) h.phase
    (ext_get_or Undef s.cells t.cells h.sized (λ i lt. cell_below-antisym (cell_at s.cells i) (cell_at t.cells i) (h.cells i) (g.cells i)))

pub is_below-join_left : (t s : State) → MayMeet t s → IsBelow t (join t s)
is_below-join_left t s m = record {
  wptr = refl;
  phase = refl;
  a = kind_below-join_left t.a s.a;
  b = kind_below-join_left t.b s.b;
  c = kind_below-join_left t.c s.c;
  sized = sym (length-joined t.cells s.cells (sym m.sized));
  cells = λ i. rw (cell_at-joined t.cells s.cells i (sym m.sized)) (cell_below-join_left (cell_at t.cells i) (cell_at s.cells i) (m.cells i));
}

pub is_below-join_right : (t s : State) → MayMeet t s → IsBelow s (join t s)
is_below-join_right t s m = record {
  wptr = sym m.wptr;
  phase = sym m.phase;
  a = kind_below-join_right t.a s.a;
  b = kind_below-join_right t.b s.b;
  c = kind_below-join_right t.c s.c;
  sized = sym m.sized ∙ sym (length-joined t.cells s.cells (sym m.sized));
  cells = λ i. rw (cell_at-joined t.cells s.cells i (sym m.sized)) (cell_below-join_right (cell_at t.cells i) (cell_at s.cells i) (m.cells i));
}

pub is_below-least : (t s u : State) → IsBelow t u → IsBelow s u → IsBelow (join t s) u
is_below-least t s u h g =
    let long : length s.cells ≡ length t.cells = g.sized ∙ sym h.sized in
    record {
      wptr = h.wptr;
      phase = h.phase;
      a = kind_below-least t.a s.a u.a h.a g.a;
      b = kind_below-least t.b s.b u.b h.b g.b;
      c = kind_below-least t.c s.c u.c h.c g.c;
      sized = length-joined t.cells s.cells long ∙ h.sized;
      cells = λ i. rw (cell_at-joined t.cells s.cells i long) (cell_below-least (cell_at t.cells i) (cell_at s.cells i) (cell_at u.cells i) (h.cells i) (g.cells i));
    }

pub agrees_below : (c d : Cell) → IsTrue (cell_below d c) → IsTrue (cells_agree c d)
agrees_below Undef Undef h = search rules
agrees_below Undef Any h = search rules
agrees_below Undef (Known m) h = search rules
agrees_below Undef (Index k) h = absurd (search rules)
agrees_below Undef (Count k) h = absurd (search rules)
agrees_below Any Undef h = search rules
agrees_below Any Any h = search rules
agrees_below Any (Known m) h = search rules
agrees_below Any (Index k) h = absurd (search rules)
agrees_below Any (Count k) h = absurd (search rules)
agrees_below (Known n) Undef h = search rules
agrees_below (Known n) Any h = search rules
agrees_below (Known n) (Known m) h = search rules
agrees_below (Known n) (Index k) h = absurd (search rules)
agrees_below (Known n) (Count k) h = absurd (search rules)
agrees_below (Index l) Undef h = absurd (search rules)
agrees_below (Index l) Any h = absurd (search rules)
agrees_below (Index l) (Known m) h = absurd (search rules)
agrees_below (Index l) (Index k) h = rw (same_nat k l h) (nat_self l)
agrees_below (Index l) (Count k) h = absurd (search rules)
agrees_below (Count l) Undef h = absurd (search rules)
agrees_below (Count l) Any h = absurd (search rules)
agrees_below (Count l) (Known m) h = absurd (search rules)
agrees_below (Count l) (Index k) h = absurd (search rules)
agrees_below (Count l) (Count k) h = rw (same_nat k l h) (nat_self l)

pub meets_below : (t s : State) → IsBelow s t → MayMeet t s
meets_below t s h = record { wptr = sym h.wptr; phase = sym h.phase; sized = sym h.sized; cells = λ i. agrees_below (cell_at t.cells i) (cell_at s.cells i) (h.cells i) }

-- a join with what is below changes nothing
pub join-below : (t s : State) → IsBelow s t → join t s ≡ t
join-below t s h = is_below-antisym (join t s) t (is_below-least t s t (is_below-self t) h) (is_below-join_left t s (meets_below t s h))

-- and only that
pub below-join : (t s : State) → MayMeet t s → join t s ≡ t → IsBelow s t
below-join t s m e = rw (← e) (is_below-join_right t s m)
