-- Where an instruction's effect leaves Iptr.
use Rattle.std.proofs.Common.{◌≡◌, ℕ, Bool, true, false, ◌⊎◌, inl, inr, ◌^◌, ◌==◌, nat_lt, int_lt, if◌then◌else◌, ℤ}
use Rattle.std.proofs.Common.{pos, negsuc, ◌+ℤ◌, ◌-ℤ◌, List, [], ◌∷◌, Option, Some, None, IsSome, refl, sym, ap, ◌∙◌}
use Rattle.std.proofs.Common.{subst, arith}
use Rattle.std.specs.Prelude.{option_and_then}
use Rattle.std.specs.Option.{option_map}
use Rattle.std.specs.List.{list_any}
use Rattle.std.proofs.lemmas.Option.{same_Some}
use Rattle.std.proofs.lemmas.Int.{ints}
use Rattle.tp_words.specs.Words.{signed, low_word}
use Rattle.tp_decode.specs.declared.instr.Instr.{Instr}
use Rattle.tp_decode.specs.declared.instr.Instr.TheVariants.{Jump, Ldlp, Ldnl, Ldc, Ldnlp, Ldl, Adc, Cj, Ajw, Eqc, Stl}
use Rattle.tp_decode.specs.declared.instr.Instr.TheVariants.{Stnl, Rev, Lb, Bsub, Diff, Add, Input, Prod, Gt, Wsub}
use Rattle.tp_decode.specs.declared.instr.Instr.TheVariants.{Output, Sub, Seterr, Csub0, Stopp, Rem, Lend, Div, BitNot}
use Rattle.tp_decode.specs.declared.instr.Instr.TheVariants.{BitXor, Sb, Shr, Shl, Mint, BitAnd, MoveBytes, BitOr, Sum}
use Rattle.tp_decode.specs.declared.instr.Instr.TheVariants.{Mul}
use Rattle.tp_image.specs.Image.{ImageValue}
use Rattle.tp_flow.specs.declared.edge.Edge.TheVariants.{Next, Taken, Back, Out}
use Rattle.tp_flow.specs.NestRanges.{ranges}
use Rattle.tp_flow.specs.Edges.{edges, is_edge, has_edge, address, jump_target, goes_to, target}
use Rattle.tp_flow.specs.AroundKept.{KeepsAround}
use Rattle.tp_words.specs.Numbers.{words_on}
use Rattle.tp_step.specs.Maybe.{◌>>◌, only_if}
use Rattle.tp_step.specs.State.{State, load, store, pop, descheduled}
use Rattle.tp_step.specs.Effects.{effect, go, sent_on, divided, turn_ended}
use Rattle.tp_state.specs.EdgesTaken.{KnowsItsHead, IsAlongAnEdge}

-- the state, if there is one, is so
abbrev pub After : (State → Type 0) → Option State → Type 0
After P None = Unit {0}
After P (Some s) = P s

module _ (P : State → Type 0) where
  bind : {A : Type 0} (o : Option A) (f : A → Option State) → ((x : A) → After P (f x)) → After P (option_and_then f o)
  bind None f go = tt
  bind (Some x) f go = go x

  bind_is : {A : Type 0} (o : Option A) (f : A → Option State) → ((x : A) → o ≡ Some x → After P (f x)) → After P (option_and_then f o)
  bind_is None f go = tt
  bind_is (Some x) f go = go x refl

  chain : (Q : State → Type 0) (o : Option State) (f : State → Option State) → After Q o → ((s : State) → Q s → After P (f s)) → After P (option_and_then f o)
  chain Q None f h go = tt
  chain Q (Some s) f h go = go s h

  when : (b : Bool) (o : Option State) → After P o → After P (only_if b >> o)
  when false o go = tt
  when true o go = go

  either : (b : Bool) (s t : State) → P s → P t → P (if b then s else t)
  either true s t h k = h
  either false s t h k = k

  after_either : (b : Bool) (o p : Option State) → After P o → After P p → After P (if b then o else p)
  after_either true o p h k = h
  after_either false o p h k = k

-- what is so of the outcome
after_is : (P : State → Type 0) (o : Option State) (t : State) → o ≡ Some t → After P o → P t
after_is P o t e h = subst (After P) e h

-- Iptr is there
abbrev pub HasIptr : ℤ → State → Type 0
HasIptr z s = s.iptr ≡ z

module _ (z : ℤ) where
  descheduled_stays : (image : ImageValue) (s : State) → HasIptr z s → After (HasIptr z) (descheduled image s)
  unfolding descheduled
  descheduled_stays image s h = search (when (HasIptr z))

  store_stays : (image : ImageValue) (a word : ℕ) (s : State) → HasIptr z s → After (HasIptr z) (store image a word s)
  unfolding store
  store_stays image a word s h = search (when (HasIptr z))

  divided_stays : (f : ℤ → ℤ → ℤ) (b a : ℤ) (s : State) → HasIptr z s → HasIptr z (divided f b a s)
  divided_stays f b a s h = search (either (HasIptr z))

  sent_on_stays : (image : ImageValue) (channel : ℕ) (bytes : List ℕ) (s : State) → HasIptr z s → After (HasIptr z) (sent_on image channel bytes s)
  sent_on_stays image channel bytes s h = search (after_either (HasIptr z))

  -- an instruction that has the Next edge alone goes on behind itself
  effect_stays : (image : ImageValue) (instr : Instr) (s : State) → edges instr ≡ Next ∷ [] → HasIptr z s → After (HasIptr z) (effect image instr s)
  unfolding effect
  effect_stays image (Jump n) s e h = absurd cc
  effect_stays image (Ldlp n) s e h = h
  effect_stays image (Ldnl n) s e h = search (bind (HasIptr z))
  effect_stays image (Ldc n) s e h = h
  effect_stays image (Ldnlp n) s e h = search (bind (HasIptr z))
  effect_stays image (Ldl n) s e h = search (bind (HasIptr z))
  effect_stays image (Adc n) s e h = search (bind (HasIptr z))
  effect_stays image (Cj n) s e h = absurd cc
  effect_stays image (Ajw n) s e h = h
  effect_stays image (Eqc n) s e h = search (bind (HasIptr z))
  effect_stays image (Stl n) s e h = search (bind (HasIptr z), chain (HasIptr z) (HasIptr z), store_stays)
  effect_stays image (Stnl n) s e h = search (bind (HasIptr z), chain (HasIptr z) (HasIptr z), store_stays)
  effect_stays image Rev s e h = search (bind (HasIptr z))
  effect_stays image Lb s e h = search (bind (HasIptr z), when (HasIptr z))
  effect_stays image Bsub s e h = search (bind (HasIptr z))
  effect_stays image Diff s e h = search (bind (HasIptr z))
  effect_stays image Add s e h = search (bind (HasIptr z))
  effect_stays image Input s e h = search (bind (HasIptr z), when (HasIptr z), descheduled_stays) depth 9
  effect_stays image Prod s e h = search (bind (HasIptr z))
  effect_stays image Gt s e h = search (bind (HasIptr z))
  effect_stays image Wsub s e h = search (bind (HasIptr z))
  effect_stays image Output s e h = search (bind (HasIptr z), chain (HasIptr z) (HasIptr z), when (HasIptr z), descheduled_stays, sent_on_stays) depth 9
  effect_stays image Sub s e h = search (bind (HasIptr z))
  effect_stays image Seterr s e h = h
  effect_stays image Csub0 s e h = search (bind (HasIptr z))
  effect_stays image Stopp s e h = absurd cc
  effect_stays image Rem s e h = search (bind (HasIptr z), divided_stays)
  effect_stays image Lend s e h = absurd cc
  effect_stays image Div s e h = search (bind (HasIptr z), divided_stays)
  effect_stays image BitNot s e h = search (bind (HasIptr z))
  effect_stays image BitXor s e h = search (bind (HasIptr z))
  effect_stays image Sb s e h = search (bind (HasIptr z), when (HasIptr z))
  effect_stays image Shr s e h = search (bind (HasIptr z), when (HasIptr z))
  effect_stays image Shl s e h = search (bind (HasIptr z), when (HasIptr z))
  effect_stays image Mint s e h = h
  effect_stays image BitAnd s e h = search (bind (HasIptr z))
  effect_stays image MoveBytes s e h = search (bind (HasIptr z), when (HasIptr z))
  effect_stays image BitOr s e h = search (bind (HasIptr z))
  effect_stays image Sum s e h = search (bind (HasIptr z))
  effect_stays image Mul s e h = search (bind (HasIptr z))

pub some_is : (o : Option ℕ) → IsSome o → (to : ℕ) × (o ≡ Some to)
some_is None is = absurd cc
some_is (Some to) is = (to, refl)

-- a number that is an address
pub address_is : (z : ℤ) (to : ℕ) → address z ≡ Some to → z ≡ pos to
address_is (pos n) to e = by_test (nat_lt n (2 ^ 64)) e
  where
    by_test : (b : Bool) → (if b then Some n else None) ≡ Some to → pos n ≡ pos to
    by_test true e = cc
    by_test false e = cc
address_is (negsuc n) to e = cc

-- a j goes n bytes further
jump_goes : (image : ImageValue) (n : ℤ) (s t : State) → effect image (Jump n) s ≡ Some t → t.iptr ≡ s.iptr +ℤ n
unfolding effect
jump_goes image n s t is =
    after_is (HasIptr (s.iptr +ℤ n)) _ t is
    (chain (HasIptr (s.iptr +ℤ n)) (HasIptr s.iptr) (descheduled image s) _ (descheduled_stays s.iptr image s refl) λ s' e. ap (λ z. z +ℤ n) e)

-- a cj goes n bytes further, or not
cj_goes : (image : ImageValue) (n : ℤ) (s t : State) → effect image (Cj n) s ≡ Some t → (t.iptr ≡ s.iptr) ⊎ (t.iptr ≡ s.iptr +ℤ n)
unfolding effect
cj_goes image n s t is =
    let P : State → Type 0 = λ t. (t.iptr ≡ s.iptr) ⊎ (t.iptr ≡ s.iptr +ℤ n) in
    after_is P _ t is (bind P s.areg _ λ a. either P (a == 0) (go n s) (pop s) (inr refl) (inl refl))

-- a lend goes back as far as Areg says, or not
Turned : State → State → Type 0
Turned s t = (t.iptr ≡ s.iptr) ⊎ ((a : ℕ) × (s.areg ≡ Some a) × (t.iptr ≡ s.iptr +ℤ (pos 0 -ℤ signed a)))

turn_goes : (image : ImageValue) (block index left a : ℕ) (s s' : State) → s.areg ≡ Some a → s'.iptr ≡ s.iptr → After (Turned s) (turn_ended image block index left (signed a) s')
unfolding Turned
turn_goes image block index left a s s' is here =
    after_either (Turned s) (int_lt (pos 0) (signed left)) _ _
    (chain (Turned s) (HasIptr s.iptr) (store image block (low_word (signed index +ℤ pos 1)) s') _ (store_stays s.iptr image block (low_word (signed index +ℤ pos 1)) s' here) λ s1 e1.
    chain (Turned s) (HasIptr s.iptr) (descheduled image s1) _ (descheduled_stays s.iptr image s1 e1) λ s2 e2. inr (a, is, ap (λ z. z +ℤ (pos 0 -ℤ signed a)) e2))
    (chain (Turned s) (HasIptr s.iptr) (descheduled image s') _ (descheduled_stays s.iptr image s' here) λ s2 e2. inl e2)

lend_goes : (image : ImageValue) (s t : State) → effect image Lend s ≡ Some t → Turned s t
unfolding effect
lend_goes image s t is =
    after_is (Turned s) _ t is
    (bind_is (Turned s) s.areg _ λ a a_is.
    bind (Turned s) s.breg _ λ block.
    bind (Turned s) (load image s block) _ λ index.
    bind (Turned s) (load image s (words_on block (pos 1))) _ λ count.
    chain (Turned s) (HasIptr s.iptr) (store image (words_on block (pos 1)) (low_word (signed count -ℤ pos 1)) s) _
    (store_stays s.iptr image (words_on block (pos 1)) (low_word (signed count -ℤ pos 1)) s refl) λ s' here.
    turn_goes image block index (low_word (signed count -ℤ pos 1)) a s s' a_is here)

-- a stopp stops
stopp_stops : (image : ImageValue) (s t : State) → effect image Stopp s ≡ Some t → t.stopped ≡ true
unfolding effect
stopp_stops image s t is = after_is (λ t. t.stopped ≡ true) _ t is (when (λ t. t.stopped ≡ true) (s.phase == 2) _ refl)

back_by : (next head a : ℤ) (z y : ℤ) → y ≡ next → a ≡ next -ℤ head → z ≡ y +ℤ (pos 0 -ℤ a) → z ≡ head
back_by next head a z y here is there = omega (arith, ints)

true_false : {P : Type 0} → ◌≡◌ {A = Bool} true false → P
true_false e = cc

module _ (image : ImageValue) (at next : ℕ) (s t : State) (here : s.iptr ≡ pos next) where
  by_jump : (n : ℤ) (instr : Instr) → KeepsAround image.loops image.workspace at next instr →
      has_edge instr Taken ≡ true → goes_to (ranges image.loops) at next instr Taken ≡ jump_target next n →
      t.iptr ≡ s.iptr +ℤ n → IsAlongAnEdge (ranges image.loops) at next instr t
  by_jump n instr kept has same there =
      let to = some_is (target (ranges image.loops) at next instr Taken) (kept.targets Taken has) in
      let goes : jump_target next n ≡ Some to.0 = sym same ∙ sym (ap (λ b. if b then goes_to (ranges image.loops) at next instr Taken else None) has) ∙ to.1 in
      record { edge = Taken; to = to.0; goes = to.1; stands = there ∙ ap (λ z. z +ℤ n) here ∙ address_is (pos next +ℤ n) to.0 goes }

  by_lend : KeepsAround image.loops image.workspace at next Lend → KnowsItsHead (ranges image.loops) at next Lend s → Turned s t → IsAlongAnEdge (ranges image.loops) at next Lend t
  unfolding Turned
  by_lend kept knows (inl same) = record { edge = Out; to = next; goes = refl; stands = same ∙ here }
  by_lend kept knows (inr (a, is, there)) =
      let to = some_is (target (ranges image.loops) at next Lend Back) (kept.targets Back refl) in
      let distance : Some (signed a) ≡ Some (pos next -ℤ pos to.0) = sym (ap (option_map signed) is) ∙ knows ∙ ap (option_map (λ head. pos next -ℤ pos head)) to.1 in
      record { edge = Back; to = to.0; goes = to.1; stands = back_by (pos next) (pos to.0) (signed a) t.iptr s.iptr here (same_Some _ _ distance) there }

  by_cj : (n : ℤ) → KeepsAround image.loops image.workspace at next (Cj n) → (t.iptr ≡ s.iptr) ⊎ (t.iptr ≡ s.iptr +ℤ n) → IsAlongAnEdge (ranges image.loops) at next (Cj n) t
  by_cj n kept (inl same) = record { edge = Next; to = next; goes = refl; stands = same ∙ here }
  by_cj n kept (inr there) = by_jump n (Cj n) kept refl refl there

  by_next : (instr : Instr) → edges instr ≡ Next ∷ [] → effect image instr s ≡ Some t → IsAlongAnEdge (ranges image.loops) at next instr t
  by_next instr only is = record {
    edge = Next;
    to = next;
    goes = ap (λ es. if list_any (is_edge Next) es then Some next else None) only;
    stands = after_is (HasIptr s.iptr) (effect image instr s) t is (effect_stays s.iptr image instr s only refl) ∙ here;
  }

  pub goes_along : (instr : Instr) → KeepsAround image.loops image.workspace at next instr →
      KnowsItsHead (ranges image.loops) at next instr s → effect image instr s ≡ Some t → t.stopped ≡ false →
      IsAlongAnEdge (ranges image.loops) at next instr t
  goes_along (Jump n) kept knows is on = by_jump n (Jump n) kept refl refl (jump_goes image n s t is)
  goes_along (Cj n) kept knows is on = by_cj n kept (cj_goes image n s t is)
  goes_along Lend kept knows is on = by_lend kept knows (lend_goes image s t is)
  goes_along Stopp kept knows is on = true_false (sym (stopp_stops image s t is) ∙ on)
  goes_along instr kept knows is on = by_next instr refl is
