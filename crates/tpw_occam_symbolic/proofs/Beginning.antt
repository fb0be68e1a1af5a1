-- A run of an image begins as the symbolic machine does whose items are placed, and gives what it leaves.
use Rattle.std.proofs.Common.{◌≡◌, ℕ, zero, suc, ◌+◌, ◌-◌, ◌*◌, ◌/◌, ◌%◌, ◌<◌, Bool, true, false, List, [], ◌∷◌, ◌++◌, length, map}
use Rattle.std.proofs.Common.{replicate, slice_get, Some, None, refl, ap, sym, subst, ◌∙◌, arith, w32}
use Rattle.std.specs.Prelude.{slice_index, flat_map, All, if◌then◌else◌}
use Rattle.std.specs.Int.{to_le_bytes}
use Rattle.std.proofs.lemmas.Option.{same_Some}
use Rattle.std.proofs.lemmas.List.Elements.{All-head, All-tail}
use Rattle.tp_image.specs.Image.{ImageValue}
use Rattle.tp_step.specs.State.{mem_start}
use Rattle.tp_step.specs.Runs.{first_words, Run, RunsAlone}
use Rattle.tpw_asm.specs.declared.program.Program.{Program}
use Rattle.tpw_asm.specs.declared.program.Line.TheVariants.{Spelled}
use Rattle.tpw_asm.specs.Layout.{addresses_from}
use Rattle.tpw_asm.specs.Assembly.{IsAssembly}
use Rattle.tpw_occam_core.specs.declared.worker.Worker.{Worker}
use Rattle.tpw_occam_symbolic.specs.declared.items.Item.{Item}
use Rattle.tpw_occam_symbolic.specs.declared.items.Placed.{Placed}
use Rattle.tpw_occam_symbolic.specs.declared.code.Step.{Step}
use Rattle.tpw_occam_symbolic.specs.declared.code.Step.TheVariants.{Plain, Load, Store, Pointer, JumpTo, CjTo, Distance}
use Rattle.tpw_occam_symbolic.specs.declared.code.CodeLine.{CodeLine}
use Rattle.tpw_occam_symbolic.specs.Code.{Lines}
use Rattle.tpw_occam_symbolic.specs.Blocks.{Blocks, is_item, bytes_at}
use Rattle.tpw_occam_symbolic.specs.Symbolic.{Machine, Leads, number}
use Rattle.tpw_occam_symbolic.specs.MatchStates.{Site, base_of, operation_of}
use Rattle.tpw_occam_symbolic.specs.Placing.{words_at, local_at, site_of, places, line_at, HasOperand, first_blocks, HoldsFirst, IsPlaced, IsBuilt}
use Rattle.tpw_occam_symbolic.proofs.Simulation.{same_item}
use Rattle.tpw_occam_symbolic.proofs.SimulationImage.{IsMadeOf, workspace_most}
use Rattle.tpw_occam_symbolic.proofs.SimulationStart.{first_bytes, IsFirst, Gives}
use Rattle.tpw_occam_symbolic.proofs.SimulationWhole.{site, starts_first, program_carries}

-- ---- lists

pub all_get : {A : Type 0} (P : A → Type 0) (xs : List A) (k : ℕ) (x : A) → All P xs → slice_get xs k ≡ Some x → P x
all_get P [] k x all is = cc
all_get P (y ∷ xs) zero x all is = subst P (same_Some _ _ is) (All-head P y xs all)
all_get P (y ∷ xs) (suc k) x all is = all_get P xs k x (All-tail P y xs all) is

pub index_zeros : (n k : ℕ) → slice_index (replicate n 0) k ≡ 0
index_zeros zero k = refl
index_zeros (suc n) zero = refl
index_zeros (suc n) (suc k) = index_zeros n k

index_more_zeros : (xs : List ℕ) (n k : ℕ) → slice_index (xs ++ replicate n 0) k ≡ slice_index xs k
index_more_zeros [] n k = index_zeros n k
index_more_zeros (x ∷ xs) n zero = refl
index_more_zeros (x ∷ xs) n (suc k) = index_more_zeros xs n k

index_next : (x : ℕ) (xs : List ℕ) (i j : ℕ) → i ≡ suc j → slice_index (x ∷ xs) i ≡ slice_index xs j
index_next x xs i j e = ap (slice_index (x ∷ xs)) e

index_behind_front : (xs ys : List ℕ) (k : ℕ) → slice_index (xs ++ ys) (length xs + k) ≡ slice_index ys k
index_behind_front [] ys k = ap (slice_index ys) (omega arith)
index_behind_front (x ∷ xs) ys k = index_next x (xs ++ ys) (length (x ∷ xs) + k) (length xs + k) (omega arith) ∙ index_behind_front xs ys k

-- ---- words

-- a byte of the bytes of words
byte_of_words : (words : List ℕ) (n k : ℕ) → k < 4
    → slice_index (flat_map (to_le_bytes w32) words) (4 * n + k) ≡ slice_index (to_le_bytes w32 (slice_index words n)) k
byte_of_words [] n zero h = refl
byte_of_words [] n (suc zero) h = refl
byte_of_words [] n (suc (suc zero)) h = refl
byte_of_words [] n (suc (suc (suc zero))) h = refl
byte_of_words [] n (suc (suc (suc (suc k)))) h = absurd (omega (arith, h))
byte_of_words (x ∷ words) zero zero h = refl
byte_of_words (x ∷ words) zero (suc zero) h = refl
byte_of_words (x ∷ words) zero (suc (suc zero)) h = refl
byte_of_words (x ∷ words) zero (suc (suc (suc zero))) h = refl
byte_of_words (x ∷ words) zero (suc (suc (suc (suc k)))) h = absurd (omega (arith, h))
byte_of_words (x ∷ words) (suc n) k h =
    let at : 4 * suc n + k ≡ 4 + (4 * n + k) = omega arith in
    ap (slice_index (flat_map (to_le_bytes w32) (x ∷ words))) at
    ∙ index_behind_front (to_le_bytes w32 x) (flat_map (to_le_bytes w32) words) (4 * n + k)
    ∙ byte_of_words words n k h

-- a byte of the bytes of an item
byte_at : (blocks : Blocks) (item : Item) (at k : ℕ) → k < 4 → slice_index (bytes_at blocks item at 4) k ≡ blocks item (at + k)
unfolding bytes_at
byte_at blocks item at zero h = ap (blocks item) (omega arith)
byte_at blocks item at (suc zero) h = refl
byte_at blocks item at (suc (suc zero)) h = ap (blocks item) (omega arith)
byte_at blocks item at (suc (suc (suc zero))) h = ap (blocks item) (omega arith)
byte_at blocks item at (suc (suc (suc (suc k)))) h = absurd (omega (arith, h))

-- what the words of placed items are
words_first : (w : Worker) (start : ℕ) (words : List ℕ) (placed : List Placed) → All (HoldsFirst w start words) placed → (item : Item)
    (i : ℕ) → i < words_at placed item
    → to_le_bytes w32 (slice_index words (start + local_at placed item + i)) ≡ bytes_at (first_blocks w) item (4 * i) 4
words_first w start words [] all item i h = absurd (omega (arith, h))
words_first w start words (one ∷ placed) all item i h =
    by_test (words_first w start words placed (All-tail (HoldsFirst w start words) one placed all) item i) (is_item one.item item) refl h
  where
    by_test : (i < words_at placed item → to_le_bytes w32 (slice_index words (start + local_at placed item + i)) ≡ bytes_at (first_blocks w) item (4 * i) 4)
        → (b : Bool) → is_item one.item item ≡ b → i < (if b then one.words else words_at placed item)
        → to_le_bytes w32 (slice_index words (start + (if b then one.local else local_at placed item) + i)) ≡ bytes_at (first_blocks w) item (4 * i) 4
    by_test go true e h = All-head (HoldsFirst w start words) one placed all i h ∙ ap (λ x. bytes_at (first_blocks w) x (4 * i) 4) (same_item one.item item e)
    by_test go false e h = go h

-- .. and so its bytes
bytes_first : (w : Worker) (start : ℕ) (words : List ℕ) (placed : List Placed) → All (HoldsFirst w start words) placed → (item : Item)
    (k : ℕ) → k < 4 * words_at placed item
    → slice_index (flat_map (to_le_bytes w32) words) (4 * (start + local_at placed item) + k) ≡ first_blocks w item k
bytes_first w start words placed all item k h =
    let word : k / 4 < words_at placed item = omega (arith, h) in
    let byte : k % 4 < 4 = omega arith in
    let at : 4 * (start + local_at placed item) + k ≡ 4 * (start + local_at placed item + k / 4) + k % 4 = omega arith in
    let here : 4 * (k / 4) + k % 4 ≡ k = omega arith in
    ap (slice_index (flat_map (to_le_bytes w32) words)) at
    ∙ byte_of_words words (start + local_at placed item + k / 4) (k % 4) byte
    ∙ ap (λ bs. slice_index bs (k % 4)) (words_first w start words placed all item (k / 4) word)
    ∙ byte_at (first_blocks w) item (4 * (k / 4)) (k % 4) byte
    ∙ ap (first_blocks w item) here

-- ---- lines

operation_same : (one other : Site) (step : Step) → ((item : Item) → one.locals item ≡ other.locals item) → operation_of one step ≡ operation_of other step
operation_same one other (Plain instr) same = refl
operation_same one other (Load item word) same = ap (λ n. operation_of record other { locals = λ i. n } (Load item word)) (same item)
operation_same one other (Store item word) same = ap (λ n. operation_of record other { locals = λ i. n } (Store item word)) (same item)
operation_same one other (Pointer item word) same = ap (λ n. operation_of record other { locals = λ i. n } (Pointer item word)) (same item)
operation_same one other (JumpTo to) same = refl
operation_same one other (CjTo to) same = refl
operation_same one other (Distance from to) same = refl

operand_same : (code : List CodeLine) (addresses : List ℕ) (wptr : ℕ) (placed : List Placed) (step : Step) → HasOperand (places placed) step
    → HasOperand (site_of code addresses wptr placed) step
operand_same code addresses wptr placed (Plain instr) has = has
operand_same code addresses wptr placed (Load item word) has = has
operand_same code addresses wptr placed (Store item word) has = has
operand_same code addresses wptr placed (Pointer item word) has = has
operand_same code addresses wptr placed (JumpTo to) has = tt
operand_same code addresses wptr placed (CjTo to) has = tt
operand_same code addresses wptr placed (Distance from to) has = tt

lines_same : (code : List CodeLine) (addresses : List ℕ) (wptr : ℕ) (placed : List Placed) (lines : List CodeLine)
    → map (line_at (places placed)) lines ≡ map (line_at (site_of code addresses wptr placed)) lines
lines_same code addresses wptr placed [] = refl
lines_same code addresses wptr placed (line ∷ lines) =
    let here : line_at (places placed) line ≡ line_at (site_of code addresses wptr placed) line =
    ap (λ o. Spelled o None) (operation_same (places placed) (site_of code addresses wptr placed) line.step (λ item. refl)) in
    ap (λ l. l ∷ map (line_at (places placed)) lines) here
    ∙ ap (λ ls. line_at (site_of code addresses wptr placed) line ∷ ls) (lines_same code addresses wptr placed lines)

pub is_made_of : (w : Worker) (code : Lines) (placed : List Placed) (program : Program) (addresses : List ℕ) (wptr : ℕ) → IsBuilt w code placed program
    → IsMadeOf program (site_of code.lines addresses wptr placed)
is_made_of w code placed program addresses wptr built = record {
  lines = built.lines ∙ lines_same code.lines addresses wptr placed code.lines;
  operands = λ place line at.
      operand_same code.lines addresses wptr placed line.step (all_get (IsPlaced w placed) code.lines place line built.steps at).operand;
}

-- ---- the first machine

abbrev pub first_machine : Worker → Site → List ℕ → Machine
first_machine w site packet = record {
  code = site.code;
  sizes = site.sizes;
  place = 0;
  areg = number 0;
  breg = number 0;
  creg = number 0;
  blocks = first_blocks w;
  error = false;
  stopped = false;
  to_come = packet;
  sent = [];
  traced = [];
}

first_is : (w : Worker) (code : List CodeLine) (placed : List Placed) (program : Program) (image : ImageValue) (is : IsAssembly program image) (packet : List ℕ)
    → All (HoldsFirst w program.start program.initial.items) placed
    → IsFirst image (site program image is code placed 0) packet
    (first_machine w (site program image is code placed 0) packet)
first_is w code placed program image is packet holds = record {
  code = refl;
  sizes = refl;
  place = refl;
  address = starts_first program image is code placed 0;
  wptr = refl;
  blocks = λ item k h.
      let at : base_of (site program image is code placed 0) item + k - mem_start ≡ 4 * (program.start + local_at placed item) + k =
      omega (arith, start) in
      sym (ap (slice_index (first_bytes image)) at ∙ bytes_first w program.start (first_words image) placed holds_all item k h);
  error = refl;
  stopped = refl;
  to_come = refl;
  sent = refl;
  traced = refl;
}
  where
    start : image.start ≡ program.start
    start = ap (λ i. i.start) is.said

    same_word : (n : ℕ) → slice_index (first_words image) n ≡ slice_index program.initial.items n
    same_word n = index_more_zeros image.initial (image.workspace - length image.initial) n ∙ ap (λ (i : ImageValue). slice_index i.initial n) is.said

    holds_all : All (HoldsFirst w program.start (first_words image)) placed
    holds_all i one h j within = ap (to_le_bytes w32) (same_word _) ∙ holds i one h j within

-- the symbolic machine that a run begins as, where items are placed
abbrev pub machine_of : Worker → Lines → List Placed → (program : Program) (image : ImageValue) → IsAssembly program image → List ℕ → Machine
machine_of w code placed program image is packet =
    first_machine w (site_of code.lines (addresses_from 0 is.lengths) (mem_start + 4 * image.start) placed) packet

-- a run alone of an image gives what the symbolic machine leaves that stops
pub built_carries : (w : Worker) (code : Lines) (placed : List Placed) (program : Program) → IsBuilt w code placed program
    → (image : ImageValue) (is : IsAssembly program image) (packet : List ℕ) (run : Run) → RunsAlone image packet run → (last : Machine)
    → Leads (machine_of w code placed program image is packet) last → last.stopped ≡ true → Gives run last
built_carries w code placed program built image is packet run alone last way stopped =
    let wptr : ℕ = mem_start + 4 * image.start in
    let addresses : List ℕ = addresses_from 0 is.lengths in
    let start : image.start ≡ program.start = ap (λ i. i.start) is.said in
    let workspace : image.workspace ≡ program.workspace = ap (λ i. i.workspace) is.said in
    program_carries program image is code.lines placed built.most (is_made_of w code placed program addresses wptr built) built.between
    (omega (arith, start, workspace, built.room (omega (arith, workspace, workspace_most image.version image.workspace is.in_range.workspace.1))))
    packet run alone {m = machine_of w code placed program image is packet} {last = last} (first_is w code.lines placed program image is packet built.words) way stopped
