-- The rules of the instructions keep the live control words, but for lend's on the edge that leaves its loop.
use Rattle.std.proofs.Common.{◌≡◌, ℕ, ◌+◌, ◌-◌, ◌<◌, ◌≤◌, ◌⊎◌, inl, inr, Bool, true, false, ◌==◌, ◌/◌, nat_le}
use Rattle.std.proofs.Common.{if◌then◌else◌, List, replicate, length, Result, Ok, Err, IfOk, refl, sym, ap, subst}
use Rattle.std.proofs.Common.{arith}
use Rattle.std.proofs.lemmas.Bool.{cases_lt}
use Rattle.std.proofs.lemmas.Bool.Decides.{nat_tests, Decides-eqb}
use Rattle.std.proofs.lemmas.List.{get_or_past}
use Rattle.tp_decode.specs.declared.instr.Instr.{Instr}
use Rattle.tp_decode.specs.declared.instr.Instr.TheVariants.{Jump, Ldlp, Ldnl, Ldc, Ldnlp, Ldl, Adc, Cj, Ajw, Eqc, Stl}
use Rattle.tp_decode.specs.declared.instr.Instr.TheVariants.{Stnl, Rev, Lb, Bsub, Diff, Add, Input, Prod, Gt, Wsub}
use Rattle.tp_decode.specs.declared.instr.Instr.TheVariants.{Output, Sub, Seterr, Csub0, Stopp, Rem, Lend, Div, BitNot}
use Rattle.tp_decode.specs.declared.instr.Instr.TheVariants.{BitXor, Sb, Shr, Shl, Mint, BitAnd, MoveBytes, BitOr, Sum}
use Rattle.tp_decode.specs.declared.instr.Instr.TheVariants.{Mul}
use Rattle.tp_image.specs.declared.image.LoopRow.{LoopRow}
use Rattle.tp_image.specs.Image.{ImageValue}
use Rattle.tp_flow.specs.declared.edge.Edge.{Edge}
use Rattle.tp_flow.specs.declared.edge.Edge.TheVariants.{Next, Taken, Back, Out}
use Rattle.tp_state.specs.declared.kind.Kind.{Kind}
use Rattle.tp_state.specs.declared.cell.Cell.{Cell}
use Rattle.tp_state.specs.declared.cell.Cell.TheVariants as cell
use Rattle.tp_state.specs.declared.state.State.{State}
use Rattle.tp_state.specs.declared.fault.StateCode.{StateCode}
use Rattle.tp_state.specs.declared.fault.StateCode.TheVariants.{S5}
use Rattle.tp_state.specs.Answer.{◌>>=◌, ◌>>◌, unless}
use Rattle.tp_state.specs.Conditions.{IsPlaced}
use Rattle.tp_state.specs.CellRules.{cell_at, cells_from, with_cells, is_free, are_free, written}
use Rattle.tp_state.specs.Rules.{rule, pop, pop_two, words_of_bytes, with_word, with_blurred, between, descheduled, message_in, moved, leaving}
use Rattle.tp_state.proofs.CellLemmas.{length-with_cells}
use Rattle.std.proofs.lemmas.List.{length-replicate}
use Rattle.tp_state.proofs.KindLemmas.{written_free}
use Rattle.tp_state.proofs.LiveCells.{free_or_live, live_out, KeepsLive, keeps_all, keeps_both, set_keeps, replicate_keeps, copies_keep, blurs_keep}

-- ---- chains of tests

module _ (P : State → Type 0) where
  bind : {A : Type 0} (r : Result A StateCode) (f : A → Result State StateCode) → ((x : A) → IfOk (f x) P) → IfOk (r >>= f) P
  bind (Ok x) f go = go x
  bind (Err e) f go = tt

  bind_is : {A : Type 0} (r : Result A StateCode) (f : A → Result State StateCode) → ((x : A) → r ≡ Ok x → IfOk (f x) P) → IfOk (r >>= f) P
  bind_is (Ok x) f go = go x refl
  bind_is (Err e) f go = tt

  also : {A : Type 0} (r : Result A StateCode) (q : Result State StateCode) → IfOk q P → IfOk (r >> q) P
  also (Ok x) q go = go
  also (Err e) q go = tt

  also_is : {A : Type 0} (r : Result A StateCode) (q : Result State StateCode) → ((x : A) → r ≡ Ok x → IfOk q P) → IfOk (r >> q) P
  also_is (Ok x) q go = go x refl
  also_is (Err e) q go = tt

  held : (e : StateCode) (b : Bool) (q : Result State StateCode) → (b ≡ true → IfOk q P) → IfOk (unless e b >> q) P
  held e true q go = go refl
  held e false q go = tt

  chain : (Q : State → Type 0) (r : Result State StateCode) (f : State → Result State StateCode) → IfOk r Q → ((s : State) → Q s → IfOk (f s) P) → IfOk (r >>= f) P
  chain Q (Ok s) f h go = go s h
  chain Q (Err e) f h go = tt

  either : (b : Bool) (s u : State) → P s → P u → P (if b then s else u)
  either true s u h k = h
  either false s u h k = k

-- ---- what the rules use

-- the live words of a state's successor
abbrev Keeps : State → State → Type 0
Keeps t u = KeepsLive t.cells u.cells

word_keeps : (x : ℕ) (k : Kind) (t : State) → is_free (cell_at t.cells x) ≡ true → Keeps t (with_word x k t)
word_keeps x k t free = set_keeps t.cells x (written k) free (written_free k)

-- the same, with what the process pops
word_free : (t : State) (k : Kind) (x : ℕ) → is_free (cell_at t.cells x) ≡ true → Keeps t (pop (with_word x k t))
word_free t k x free = word_keeps x k t free

-- bytes of words that may have taken something
bytes_keep : (t : State) (p : ℕ × ℕ) → Keeps t (pop_two (with_blurred (words_of_bytes p) t))
unfolding between
bytes_keep t p = blurs_keep t.cells (p.0 / 4) (p.1 / 4 + 1 - p.0 / 4)

-- the first of some words that are all free
only_free : (cells : List Cell) (x n : ℕ) → n ≡ 1 → are_free (cells_from cells x n) ≡ true → is_free (cell_at cells x) ≡ true
only_free cells x n one free = by_cell (free_or_live (cell_at cells x)) (cases_lt x (length cells))
  where
    by_cell : (is_free (cell_at cells x) ≡ true) ⊎ (is_free (cell_at cells x) ≡ false) → (x < length cells) ⊎ (length cells ≤ x) → is_free (cell_at cells x) ≡ true
    by_cell (inl is) _ = is
    by_cell (inr live) (inr past) = ap is_free (get_or_past cells x cell.Undef past)
    by_cell (inr live) (inl room) = absurd (off (live_out cells x n x (omega (arith, room, one)) free live))
      where
        off : (x < x) ⊎ (x + n ≤ x) → ⊥
        off (inl lt) = omega (arith, lt)
        off (inr le) = omega (arith, le, one)

-- one word takes it, or several may have
store_keeps : (w : ℕ × ℕ) (k : Kind) (t : State) → are_free (between t.cells w) ≡ true → Keeps t (if w.0 == w.1 then with_word w.0 k t else with_blurred w t)
unfolding between cells_from
store_keeps w k t free = by_test (w.0 == w.1) refl
  where
    -- the one word is the first of those that are free
    one : (w.0 == w.1) ≡ true → is_free (cell_at t.cells w.0) ≡ true
    one e = only_free t.cells w.0 (w.1 + 1 - w.0) (omega (arith, (Decides-eqb w.0 w.1).0 e)) free

    by_test : (b : Bool) → (w.0 == w.1) ≡ b → Keeps t (if b then with_word w.0 k t else with_blurred w t)
    by_test true e = word_keeps w.0 k t (one e)
    by_test false e = blurs_keep t.cells w.0 (w.1 + 1 - w.0)

pub descheduled_keeps : (t : State) → 5 ≤ t.wptr → t.wptr ≤ length t.cells → IfOk (descheduled t) (Keeps t)
unfolding descheduled
descheduled_keeps t roomy inside =
    held (Keeps t) _ _ _ λ free. replicate_keeps t.cells (t.wptr - 5) 5 cell.Undef refl (omega (arith, roomy, inside)) free

-- the edges on which no loop is left
abbrev pub Stays : Edge → Instr → Type 0
Stays Out Lend = ⊥
Stays edge instr = Unit {0}

module _ (image : ImageValue) (t : State) (placed : IsPlaced image t) where
  gives_way : IfOk (descheduled t) (Keeps t)
  gives_way = descheduled_keeps t placed.roomy (omega (arith, placed.inside, placed.sized))

  message_room : (x n : ℕ) → nat_le (x + n) image.workspace ≡ true → x + n ≤ length t.cells
  message_room x n e = grind (arith, nat_tests, placed.sized)

  -- a packet comes, and the process gives way
  packet_keeps : (x n : ℕ) → x + n ≤ length t.cells → are_free (cells_from t.cells x n) ≡ true →
      IfOk (descheduled (record t { cells = with_cells t.cells x (replicate n cell.Any); phase = 1 })) (Keeps t)
  packet_keeps x n room free = chained (descheduled taken) (packet_gives_way)
    where
      taken : State
      taken = record t { cells = with_cells t.cells x (replicate n cell.Any); phase = 1 }

      long : length taken.cells ≡ length t.cells
      long = length-with_cells t.cells x (replicate n cell.Any) (omega (arith, length-replicate n cell.Any, room))

      packet_gives_way : IfOk (descheduled taken) (Keeps taken)
      packet_gives_way = descheduled_keeps taken placed.roomy (omega (arith, long, placed.inside, placed.sized))

      chained : (r : Result State StateCode) → IfOk r (Keeps taken) → IfOk r (Keeps t)
      chained (Ok u) h = keeps_both t.cells taken.cells u.cells (replicate_keeps t.cells x n cell.Any refl room free) h
      chained (Err e) h = tt

  -- words take copies
  moved_keeps : (n x y : ℕ) → x + n ≤ length t.cells → y + n ≤ length t.cells → IfOk (moved n x y t) (Keeps t)
  moved_keeps n x y room from =
      search (also (Keeps t), held (Keeps t), copies_keep t.cells x y n room from)

  -- the message's words are sent, and the process gives way
  sent_keeps : (phase : ℕ) → IfOk (descheduled t >>= λ u. Ok (record u { phase = phase })) (Keeps t)
  sent_keeps phase = chain (Keeps t) (Keeps t) (descheduled t) _ gives_way (λ u h. h)

  packet_comes : (x : ℕ) → IfOk (message_in image x image.packet >>
      (unless S5 (are_free (cells_from t.cells x image.packet)) >> descheduled
      (record t { cells = with_cells t.cells x (replicate image.packet cell.Any); phase = 1 }))) (Keeps t)
  unfolding message_in
  packet_comes x = held (Keeps t) _ _ _ λ room. held (Keeps t) _ _ _ λ free. packet_keeps x image.packet (message_room x image.packet room) free

  copies_come : (n x y : ℕ) → IfOk (message_in image x n >> (message_in image y n >> moved n x y t)) (Keeps t)
  unfolding message_in
  copies_come n x y = held (Keeps t) _ _ _ λ room. held (Keeps t) _ _ _ λ from. moved_keeps n x y (message_room x n room) (message_room y n from)

  left_kept : (edge : Edge) → ((row : LoopRow) (u : State) → leaving edge row u ≡ u) → (row : LoopRow) → IfOk (descheduled t >>= λ u. Ok (leaving edge row u)) (Keeps t)
  left_kept edge stays row = chain (Keeps t) (Keeps t) (descheduled t) _ gives_way λ u h. subst (Keeps t) (sym (stays row u)) h

  -- lend, where its loop is not left
  lend_keeps : (at next : ℕ) (edge : Edge) → ((row : LoopRow) (u : State) → leaving edge row u ≡ u) → IfOk (rule image at next Lend edge t) (Keeps t)
  unfolding rule
  lend_keeps at next edge stays = search (bind (Keeps t), also (Keeps t), left_kept edge stays) depth 14

  pub rule_keeps : (at next : ℕ) (instr : Instr) (edge : Edge) → Stays edge instr → IfOk (rule image at next instr edge t) (Keeps t)
  unfolding rule
  rule_keeps at next (Jump n) edge _ = gives_way
  rule_keeps at next (Ldlp n) edge _ = search (bind (Keeps t), keeps_all) depth 14
  rule_keeps at next (Ldnl n) edge _ = search (bind (Keeps t), also (Keeps t), keeps_all) depth 14
  rule_keeps at next (Ldc n) edge _ = keeps_all t.cells
  rule_keeps at next (Ldnlp n) edge _ = search (bind (Keeps t), keeps_all) depth 14
  rule_keeps at next (Ldl n) edge _ = search (bind (Keeps t), keeps_all) depth 14
  rule_keeps at next (Adc n) edge _ = search (bind (Keeps t), keeps_all) depth 14
  rule_keeps at next (Cj n) Taken _ = search (also (Keeps t), keeps_all) depth 14
  rule_keeps at next (Cj n) Next _ = search (also (Keeps t), keeps_all) depth 14
  rule_keeps at next (Cj n) Back _ = search (also (Keeps t), keeps_all) depth 14
  rule_keeps at next (Cj n) Out _ = search (also (Keeps t), keeps_all) depth 14
  rule_keeps at next (Ajw n) edge _ = search (bind (Keeps t), keeps_all) depth 14
  rule_keeps at next (Eqc n) edge _ = search (also (Keeps t), keeps_all) depth 14
  rule_keeps at next (Stl n) edge _ = search (bind (Keeps t), held (Keeps t), word_free t) depth 14
  rule_keeps at next (Stnl n) edge _ = search (bind (Keeps t), also (Keeps t), held (Keeps t), store_keeps) depth 14
  rule_keeps at next Rev edge _ = search (bind (Keeps t), keeps_all) depth 14
  rule_keeps at next Lb edge _ = search (bind (Keeps t), also (Keeps t), keeps_all) depth 14
  rule_keeps at next Bsub edge _ = search (bind (Keeps t), also (Keeps t), keeps_all) depth 14
  rule_keeps at next Diff edge _ = search (bind (Keeps t), keeps_all) depth 14
  rule_keeps at next Add edge _ = search (bind (Keeps t), keeps_all) depth 14
  rule_keeps at next Input edge _ = search (bind (Keeps t), also (Keeps t), packet_comes) depth 14
  rule_keeps at next Prod edge _ = search (bind (Keeps t), keeps_all) depth 14
  rule_keeps at next Gt edge _ = search (also (Keeps t), keeps_all) depth 14
  rule_keeps at next Wsub edge _ = search (bind (Keeps t), also (Keeps t), keeps_all) depth 14
  rule_keeps at next Output edge _ = search (bind (Keeps t), also (Keeps t), sent_keeps) depth 14
  rule_keeps at next Sub edge _ = search (bind (Keeps t), keeps_all) depth 14
  rule_keeps at next Seterr edge _ = keeps_all t.cells
  rule_keeps at next Csub0 edge _ = search (also (Keeps t), keeps_all) depth 14
  rule_keeps at next Stopp edge _ = search (also (Keeps t), keeps_all) depth 14
  rule_keeps at next Rem edge _ = search (bind (Keeps t), keeps_all) depth 14
  rule_keeps at next Lend Next _ = lend_keeps at next Next (λ row u. refl)
  rule_keeps at next Lend Taken _ = lend_keeps at next Taken (λ row u. refl)
  rule_keeps at next Lend Back _ = lend_keeps at next Back (λ row u. refl)
  rule_keeps at next Lend Out none = absurd none
  rule_keeps at next Div edge _ = search (bind (Keeps t), keeps_all) depth 14
  rule_keeps at next BitNot edge _ = search (bind (Keeps t), keeps_all) depth 14
  rule_keeps at next BitXor edge _ = search (also (Keeps t), keeps_all) depth 14
  rule_keeps at next Sb edge _ = search (bind (Keeps t), also (Keeps t), bytes_keep t) depth 14
  rule_keeps at next Shr edge _ = search (bind (Keeps t), also (Keeps t), keeps_all) depth 14
  rule_keeps at next Shl edge _ = search (bind (Keeps t), also (Keeps t), keeps_all) depth 14
  rule_keeps at next Mint edge _ = keeps_all t.cells
  rule_keeps at next BitAnd edge _ = search (bind (Keeps t), keeps_all) depth 14
  rule_keeps at next MoveBytes edge _ = search (bind (Keeps t), also (Keeps t), copies_come) depth 14
  rule_keeps at next BitOr edge _ = search (also (Keeps t), keeps_all) depth 14
  rule_keeps at next Sum edge _ = search (bind (Keeps t), keeps_all) depth 14
  rule_keeps at next Mul edge _ = search (bind (Keeps t), keeps_all) depth 14
