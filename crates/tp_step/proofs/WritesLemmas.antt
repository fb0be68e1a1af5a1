-- Who writes what: effects change no byte but those that are listed, and these lie in the workspace.
use Rattle.std.proofs.Common.{◌≡◌, ℕ, zero, suc, ◌+◌, ◌-◌, ◌*◌, ◌%◌, ◌^◌, ◌<◌, ◌≤◌, ◌⊎◌, inl, inr, Bool, true, false}
use Rattle.std.proofs.Common.{not, ◌&&◌, ◌||◌, if◌then◌else◌, nat_le, ℤ, pos, List, [], ◌∷◌, ◌++◌, length, map, take}
use Rattle.std.proofs.Common.{drop, replicate, Option, Some, None, refl, ap, subst, sym, ◌∙◌, arith}
use Rattle.std.specs.Prelude.{option_and_then, All, int_lt, ◌-ℤ◌, ◌+ℤ◌}
use Rattle.std.specs.Int.{w32, to_le_bytes}
use Rattle.std.specs.Option.{option_map_or}
use Rattle.std.proofs.lemmas.Bool.Decides.{nat_tests}
use Rattle.std.proofs.lemmas.List.{length-replicate, length-map, length-take-le}
use Rattle.std.proofs.lemmas.Option.{same_Some}
use Rattle.tp_words.specs.Words.{signed, low_word}
use Rattle.tp_decode.specs.Spelling.{function_of, digit_of, is_pfix, is_nfix, shifted, shifted_complement}
use Rattle.tp_decode.specs.Table.{instruction}
use Rattle.tp_decode.specs.declared.instr.Instr.{Instr}
use Rattle.tp_decode.specs.declared.instr.Instr.TheVariants.{Jump, Ldlp, Ldnl, Ldc, Ldnlp, Ldl, Adc, Cj, Ajw, Eqc, Stl}
use Rattle.tp_decode.specs.declared.instr.Instr.TheVariants.{Stnl, Rev, Lb, Bsub, Diff, Add, Input, Prod, Gt, Wsub}
use Rattle.tp_decode.specs.declared.instr.Instr.TheVariants.{Output, Sub, Seterr, Csub0, Stopp, Rem, Lend, Div, BitNot}
use Rattle.tp_decode.specs.declared.instr.Instr.TheVariants.{BitXor, Sb, Shr, Shl, Mint, BitAnd, MoveBytes, BitOr, Sum}
use Rattle.tp_decode.specs.declared.instr.Instr.TheVariants.{Mul}
use Rattle.tp_image.specs.declared.image.Version.{Version}
use Rattle.tp_image.specs.declared.image.Version.TheVariants.{One, Two}
use Rattle.tp_image.specs.Limits.{most_workspace}
use Rattle.tp_image.specs.Image.{ImageValue, InRange}
use Rattle.tp_step.specs.Maybe.{◌>>=◌, ◌>>◌, only_if}
use Rattle.tp_words.specs.Numbers.{words_on}
use Rattle.tp_step.specs.Memory.{Memory, with_cells, with_bytes, undefined, bytes_at, with_word}
use Rattle.tp_step.specs.State.{State, mem_start, in_workspace, is_word, load, store, local, descheduled}
use Rattle.tp_step.specs.Effects.{effect, is_packet, has_move, may_move, is_result, is_trace, sent_on, divided, turn_ended}
use Rattle.tp_step.specs.Steps.{code_byte, performed, executed, step, steps}
use Rattle.tp_step.specs.Writes.{Stretch, stretch, where_defined, below_wptr, written, instruction_ended, written_next, IsOutside, ChangesOnly, LiesIn, workspace, Writes}
use Rattle.tp_step.proofs.MemoryLemmas.{cell_below, cell_above}

-- ---- memory outside a stretch

abbrev IsOff : ℕ → ℕ → ℕ → Type 0
IsOff a n x = (x < a) ⊎ (a + n ≤ x)

cells_off : (m : Memory) (a : ℕ) (cells : List (Option ℕ)) (x : ℕ) → IsOff a (length cells) x → with_cells m a cells x ≡ m x
cells_off m a cells x (inl low) = cell_below m a cells x low
cells_off m a cells x (inr high) = cell_above m a cells x high

bytes_off : (m : Memory) (a n : ℕ) (bytes : List ℕ) (x : ℕ) → length bytes ≡ n → IsOff a n x → with_bytes m a bytes x ≡ m x
unfolding with_bytes
bytes_off m a n bytes x long off =
    let count : length (map {B = Option ℕ} Some bytes) ≡ n = length-map bytes Some ∙ long in
    cells_off m a (map Some bytes) x (subst (λ k. IsOff a k x) (sym count) off)

word_off : (m : Memory) (a v x : ℕ) → IsOff a 4 x → with_word m a v x ≡ m x
unfolding with_word
word_off m a v x off = bytes_off m a 4 (to_le_bytes w32 v) x refl off

undefined_off : (m : Memory) (a n x : ℕ) → IsOff a n x → undefined m a n x ≡ m x
unfolding undefined
undefined_off m a n x off = cells_off m a (replicate n None) x (subst (λ k. IsOff a k x) (sym (length-replicate n None)) off)

-- ---- stretches

first_off : (part : Stretch) (more : List Stretch) (x : ℕ) → IsOutside (part ∷ more) x → IsOff part.from part.bytes x
first_off part more x off = off 0 part (omega arith)

second_off : (part other : Stretch) (more : List Stretch) (x : ℕ) → IsOutside (part ∷ other ∷ more) x → IsOff other.from other.bytes x
second_off part other more x off = off 1 part (omega arith)

abbrev After : ImageValue → List Stretch → Memory → Option State → Type 0
After image parts before None = Unit {0}
After image parts before (Some t) = Writes image parts before t.memory

inside_none : (image : ImageValue) → All (LiesIn (workspace image)) []
inside_none image k d lt = absurd (omega arith)

inside_more : (image : ImageValue) (part : Stretch) (more : List Stretch) → LiesIn (workspace image) part → All (LiesIn (workspace image)) more → All (LiesIn (workspace image)) (part ∷ more)
inside_more image part more first rest zero d lt = first
inside_more image part more first rest (suc k) d lt = rest k d (omega arith)

-- nothing is written
nothing : (image : ImageValue) (m : Memory) → Writes image [] m m
nothing image m = record { inside = inside_none image; only = λ x off. refl }

one : (image : ImageValue) (a n : ℕ) (before after : Memory) → in_workspace image a n ≡ true → ((x : ℕ) → IsOff a n x → after x ≡ before x) → Writes image (stretch a n ∷ []) before after
one image a n before after inside only =
    let low : mem_start ≤ a = grind (arith, nat_tests) in
    let high : a + n ≤ mem_start + 4 * image.workspace = grind (arith, nat_tests) in
    record { inside = inside_more image (stretch a n) [] (low, high) (inside_none image); only = λ x off. only x (first_off (stretch a n) [] x off) }

two : (image : ImageValue) (a n b k : ℕ) (before after : Memory) → in_workspace image a n ≡ true →
    in_workspace image b k ≡ true → ((x : ℕ) → IsOff a n x → IsOff b k x → after x ≡ before x) →
    Writes image (stretch a n ∷ stretch b k ∷ []) before after
two image a n b k before after inside also only =
    let low : mem_start ≤ a = grind (arith, nat_tests) in
    let high : a + n ≤ mem_start + 4 * image.workspace = grind (arith, nat_tests) in
    let low' : mem_start ≤ b = grind (arith, nat_tests) in
    let high' : b + k ≤ mem_start + 4 * image.workspace = grind (arith, nat_tests) in
    record {
      inside = inside_more image (stretch a n) (stretch b k ∷ []) (low, high) (inside_more image (stretch b k) [] (low', high') (inside_none image));
      only = λ x off. only x (first_off (stretch a n) (stretch b k ∷ []) x off) (second_off (stretch a n) (stretch b k) [] x off);
    }

-- ---- one thing after another

module _ (image : ImageValue) (parts : List Stretch) (m : Memory) where
  bind : {A : Type 0} (o : Option A) (f : A → Option State) → ((x : A) → o ≡ Some x → After image parts m (f x)) → After image parts m (option_and_then f o)
  bind None f go = tt
  bind (Some x) f go = go x refl

  when : (b : Bool) (o : Option State) → (b ≡ true → After image parts m o) → After image parts m (only_if b >> o)
  when false o go = tt
  when true o go = go refl

  either : (b : Bool) (s t : State) → Writes image parts m s.memory → Writes image parts m t.memory → Writes image parts m (if b then s else t).memory
  either true s t h k = h
  either false s t h k = k

  after_either : (b : Bool) (o p : Option State) → After image parts m o → After image parts m p → After image parts m (if b then o else p)
  after_either true o p h k = h
  after_either false o p h k = k

-- ---- what several instructions do

stored : (image : ImageValue) (a word : ℕ) (s t : State) → store image a word s ≡ Some t → (is_word image a ≡ true) × (t ≡ record s { memory = with_word s.memory a word })
unfolding store
stored image a word s t is = by_test (is_word image a) refl is
  where
    by_test : (b : Bool) → is_word image a ≡ b → (only_if b >> Some (record s { memory = with_word s.memory a word })) ≡
        Some t → (is_word image a ≡ true) × (t ≡ record s { memory = with_word s.memory a word })
    by_test false e is' = absurd cc
    by_test true e is' = (e, sym (same_Some _ _ is'))

rested : (image : ImageValue) (s t : State) → descheduled image s ≡ Some t → (in_workspace image (s.wptr - 20) 20 ≡ true) × (t.memory ≡ undefined s.memory (s.wptr - 20) 20)
unfolding descheduled
rested image s t is = by_test (in_workspace image (s.wptr - 20) 20) refl is
  where
    by_test : (b : Bool) → in_workspace image (s.wptr - 20) 20 ≡ b →
        (only_if b >> Some (record s {
          areg = None;
          breg = None;
          creg = None;
          memory = undefined s.memory (s.wptr - 20) 20;
        })) ≡ Some t → (in_workspace image (s.wptr - 20) 20 ≡ true) ×
        (t.memory ≡ undefined s.memory (s.wptr - 20) 20)
    by_test false e is' = absurd cc
    by_test true e is' = (e, ap (λ (u : State). u.memory) (sym (same_Some _ _ is')))

descheduled_writes : (image : ImageValue) (s t : State) → descheduled image s ≡ Some t → Writes image (below_wptr s ∷ []) s.memory t.memory
descheduled_writes image s t is =
    let there = rested image s t is in
    one image (s.wptr - 20) 20 s.memory t.memory there.0 (λ x off. ap (λ (m : Memory). m x) there.1 ∙ undefined_off s.memory (s.wptr - 20) 20 x off)

-- a word that is read stands in the workspace
loaded : (image : ImageValue) (s : State) (a word : ℕ) → load image s a ≡ Some word → is_word image a ≡ true
unfolding load
loaded image s a word is = by_test (is_word image a) refl _ is
  where
    by_test : (b : Bool) → is_word image a ≡ b → (o : Option ℕ) → (only_if b >> o) ≡ Some word → is_word image a ≡ true
    by_test false e o is' = absurd cc
    by_test true e o is' = e

in_word : (image : ImageValue) (a : ℕ) → is_word image a ≡ true → in_workspace image a 4 ≡ true
in_word image a is = grind (arith, nat_tests)

length-bytes_at : (m : Memory) (a n : ℕ) (bytes : List ℕ) → bytes_at m a n ≡ Some bytes → length bytes ≡ n
unfolding bytes_at
length-bytes_at m a zero bytes is = ap length (sym (same_Some _ _ is))
length-bytes_at m a (suc n) bytes is = by_first (λ rest e. length-bytes_at m (a + 1) n rest e) (m a) is
  where
    by_rest : ((rest : List ℕ) → bytes_at m (a + 1) n ≡ Some rest → length rest ≡ n) → (b : ℕ) (o : Option (List ℕ)) →
        bytes_at m (a + 1) n ≡ o → (o >>= λ rest. Some (b ∷ rest)) ≡ Some bytes → length bytes ≡ suc n
    by_rest go b None e is' = absurd cc
    by_rest go b (Some rest) e is' = omega (arith, ap length (sym (same_Some _ _ is')), go rest e)

    by_first : ((rest : List ℕ) → bytes_at m (a + 1) n ≡ Some rest → length rest ≡ n) → (o : Option ℕ) →
        (o >>= λ b. bytes_at m (a + 1) n >>= λ rest. Some (b ∷ rest)) ≡ Some bytes → length bytes ≡ suc n
    by_first go None is' = absurd cc
    by_first go (Some b) is' = by_rest go b (bytes_at m (a + 1) n) refl is'

workspace_most : (image : ImageValue) (v : Version) → image.workspace ≤ most_workspace v → image.workspace ≤ 512
workspace_most image One most = omega arith
workspace_most image Two most = most

-- the word behind a word of the workspace
next_word : (image : ImageValue) (a : ℕ) → InRange image → is_word image a ≡ true → words_on a (pos 1) ≡ a + 4
next_word image a range is =
    let inside : a + 4 ≤ mem_start + 4 * image.workspace = grind (arith, nat_tests) in
    let few : image.workspace ≤ 512 = workspace_most image image.version range.workspace.1 in
    let small : a + 4 < 2 ^ 32 = omega arith in
    omega (arith, small)

-- ---- the instructions that write

stl_writes : (image : ImageValue) (s : State) (n : ℤ) → After image (written (Stl n) s) s.memory (effect image (Stl n) s)
unfolding effect
stl_writes image s n =
    bind image _ s.memory s.areg _ λ a is_a.
    bind image _ s.memory (store image (local s n) a s) _ λ t is.
    let there = stored image (local s n) a s t is in
    one image (local s n) 4 s.memory t.memory (in_word image (local s n) there.0) (λ x off. ap (λ (u : State). u.memory x) there.1 ∙ word_off s.memory (local s n) a x off)

stnl_writes : (image : ImageValue) (s : State) (n : ℤ) → After image (written (Stnl n) s) s.memory (effect image (Stnl n) s)
unfolding effect
stnl_writes image s n =
    bind image _ s.memory s.areg _ λ a is_a.
    bind image _ s.memory s.breg _ λ b is_b.
    bind image _ s.memory (store image (words_on a n) b s) _ λ t is.
    let there = stored image (words_on a n) b s t is in
    subst (λ r. Writes image (where_defined r (λ a. stretch (words_on a n) 4 ∷ [])) s.memory t.memory) (sym is_a)
    (one image (words_on a n) 4 s.memory t.memory (in_word image (words_on a n) there.0) (λ x off. ap (λ (u : State). u.memory x) there.1 ∙ word_off s.memory (words_on a n) b x off))

sb_writes : (image : ImageValue) (s : State) → After image (written Sb s) s.memory (effect image Sb s)
unfolding effect
sb_writes image s =
    bind image _ s.memory s.areg _ λ a is_a.
    bind image _ s.memory s.breg _ λ b is_b.
    when image _ s.memory (in_workspace image a 1) _ λ inside.
    subst (λ r. Writes image (where_defined r (λ a. stretch a 1 ∷ [])) s.memory (with_bytes s.memory a (b % 256 ∷ []))) (sym is_a)
    (one image a 1 s.memory (with_bytes s.memory a (b % 256 ∷ [])) inside (λ x off. bytes_off s.memory a 1 (b % 256 ∷ []) x refl off))

move_writes : (image : ImageValue) (s : State) → After image (written MoveBytes s) s.memory (effect image MoveBytes s)
unfolding effect
move_writes image s =
    bind image _ s.memory s.areg _ λ n is_n.
    bind image _ s.memory s.breg _ λ target is_target.
    bind image _ s.memory s.creg _ λ source is_source.
    when image _ s.memory (has_move image.version && may_move image n target source) _ λ may.
    bind image _ s.memory (bytes_at s.memory source n) _ λ bytes are.
    let inside : in_workspace image target n ≡ true = target_inside image n target source may in
    subst (λ r. Writes image (where_defined r (λ n. where_defined s.breg (λ target. stretch target n ∷ []))) s.memory (with_bytes s.memory target bytes)) (sym is_n)
    (subst (λ r. Writes image (where_defined r (λ target. stretch target n ∷ [])) s.memory (with_bytes s.memory target bytes)) (sym is_target)
    (one image target n s.memory (with_bytes s.memory target bytes) inside (λ x off. bytes_off s.memory target n bytes x (length-bytes_at s.memory source n bytes are) off)))
  where
    target_inside : (image : ImageValue) (n target source : ℕ) → (has_move image.version && may_move image n target source) ≡ true → in_workspace image target n ≡ true
    target_inside image n target source may = grind (arith, nat_tests)

jump_writes : (image : ImageValue) (s : State) (n : ℤ) → After image (written (Jump n) s) s.memory (effect image (Jump n) s)
unfolding effect
jump_writes image s n = bind image _ s.memory (descheduled image s) _ λ t is. descheduled_writes image s t is

sent_memory : (image : ImageValue) (channel : ℕ) (message : List ℕ) (parts : List Stretch) (m : Memory) (s : State) →
    Writes image parts m s.memory → After image parts m (sent_on image channel message s)
sent_memory image channel message parts m s h = by_test (is_result image channel (length message) s) (is_trace channel (length message))
  where
    by_test : (b c : Bool) → After image parts m (if b then Some (record s { phase = 2; sent = s.sent ++ message }) else if c then Some (record s { traced = s.traced ++ message }) else None)
    by_test true c = h
    by_test false true = h
    by_test false false = tt

output_writes : (image : ImageValue) (s : State) → After image (written Output s) s.memory (effect image Output s)
unfolding effect
output_writes image s =
    bind image _ s.memory s.areg _ λ n is_n.
    bind image _ s.memory s.breg _ λ channel is_channel.
    bind image _ s.memory s.creg _ λ source is_source.
    when image _ s.memory (in_workspace image source n) _ λ inside.
    bind image _ s.memory (descheduled image s) _ λ t is.
    bind image _ s.memory (bytes_at t.memory source n) _ λ message are.
    sent_memory image channel message _ s.memory t (descheduled_writes image s t is)

input_writes : (image : ImageValue) (s : State) → After image (written Input s) s.memory (effect image Input s)
unfolding effect
input_writes image s =
    bind image _ s.memory s.areg _ λ n is_n.
    bind image _ s.memory s.breg _ λ channel is_channel.
    bind image _ s.memory s.creg _ λ target is_target.
    when image _ s.memory (is_packet image channel n s && nat_le n (length s.to_come)) _ λ may.
    when image _ s.memory (in_workspace image target n) _ λ inside.
    taken n target is_n is_target (descheduled image (received n target)) refl (long n channel may) inside
  where
    received : ℕ → ℕ → State
    received n target = record s { memory = with_bytes s.memory target (take n s.to_come); to_come = drop n s.to_come; phase = 1 }

    long : (n channel : ℕ) → (is_packet image channel n s && nat_le n (length s.to_come)) ≡ true → n ≤ length s.to_come
    long n channel may = grind (arith, nat_tests)

    taken : (n target : ℕ) → s.areg ≡ Some n → s.creg ≡ Some target → (o : Option State) →
        descheduled image (received n target) ≡ o → n ≤ length s.to_come → in_workspace image target n ≡ true →
        After image (written Input s) s.memory o
    taken n target is_n is_target None is there inside = tt
    taken n target is_n is_target (Some t) is there inside =
        let rest = rested image (received n target) t is in
        let bytes : length (take n s.to_come) ≡ n = length-take-le n s.to_come there in
        subst (λ r. Writes image (below_wptr s ∷ where_defined r (λ n. where_defined s.creg (λ target. stretch target n ∷ []))) s.memory t.memory) (sym is_n)
        (subst (λ r. Writes image (below_wptr s ∷ where_defined r (λ target. stretch target n ∷ [])) s.memory t.memory) (sym is_target)
        (two image (s.wptr - 20) 20 target n s.memory t.memory rest.0 inside
        (λ x off also. ap (λ (m : Memory). m x) rest.1 ∙ undefined_off (with_bytes s.memory target (take n s.to_come))
        (s.wptr - 20) 20 x off ∙ bytes_off s.memory target n (take n s.to_come) x bytes also)))

-- the block is written, then the words below Wptr; after the last turn the block once more
lend_turn : (image : ImageValue) (s t : State) (block index left : ℕ) (back : ℤ) → InRange image →
    is_word image block ≡ true → is_word image (block + 4) ≡ true → t.wptr ≡ s.wptr →
    ((x : ℕ) → IsOff block 8 x → t.memory x ≡ s.memory x)
    → After image (below_wptr s ∷ stretch block 8 ∷ []) s.memory (turn_ended image block index left back t)
lend_turn image s t block index left back range first second same only =
    after_either image _ s.memory (int_lt (pos 0) (signed left)) _ _
    (bind image _ s.memory (store image block (low_word (signed index +ℤ pos 1)) t) _ λ u is.
    bind image _ s.memory (descheduled image u) _ λ v is'.
    let there = stored image block (low_word (signed index +ℤ pos 1)) t u is in
    let wptr : u.wptr ≡ s.wptr = ap (λ (w : State). w.wptr) there.1 ∙ same in
    let rest = rested image u v is' in
    two image (s.wptr - 20) 20 block 8 s.memory v.memory (subst (λ w. in_workspace image (w - 20) 20 ≡ true) wptr rest.0) whole
    (λ x off also. ap (λ (m : Memory). m x) rest.1 ∙ undefined_off u.memory (u.wptr - 20) 20 x
    (subst (λ w. IsOff (w - 20) 20 x) (sym wptr) off) ∙ ap (λ (w : State). w.memory x) there.1 ∙
    word_off t.memory block (low_word (signed index +ℤ pos 1)) x (front x also) ∙ only x also))
    (bind image _ s.memory (descheduled image t) _ λ v is'.
    let rest = rested image t v is' in
    two image (s.wptr - 20) 20 block 8 s.memory (undefined v.memory block 8) (subst (λ w. in_workspace image (w - 20) 20 ≡ true) same rest.0) whole
    (λ x off also. undefined_off v.memory block 8 x also ∙ ap (λ (m : Memory). m x) rest.1 ∙ undefined_off t.memory (t.wptr - 20) 20 x (subst (λ w. IsOff (w - 20) 20 x) (sym same) off) ∙ only x also))
  where
    whole : in_workspace image block 8 ≡ true
    whole = grind (arith, nat_tests, first, second)

    front : (x : ℕ) → IsOff block 8 x → IsOff block 4 x
    front x (inl low) = inl low
    front x (inr high) = inr (omega arith)

lend_writes : (image : ImageValue) (s : State) → InRange image → After image (written Lend s) s.memory (effect image Lend s)
unfolding effect
lend_writes image s range =
    bind image _ s.memory s.areg _ λ back is_back.
    bind image _ s.memory s.breg _ λ block is_block.
    bind image _ s.memory (load image s block) _ λ index is_index.
    bind image _ s.memory (load image s (words_on block (pos 1))) _ λ count is_count.
    bind image _ s.memory (store image (words_on block (pos 1)) (low_word (signed count -ℤ pos 1)) s) _ λ t is.
    let left = low_word (signed count -ℤ pos 1) in
    let first : is_word image block ≡ true = loaded image s block index is_index in
    let next : words_on block (pos 1) ≡ block + 4 = next_word image block range first in
    let there = stored image (words_on block (pos 1)) left s t is in
    let second : is_word image (block + 4) ≡ true = subst (λ a. is_word image a ≡ true) next there.0 in
    subst (λ r. After image (below_wptr s ∷ where_defined r (λ block. stretch block 8 ∷ [])) s.memory (turn_ended image block index left (signed back) t)) (sym is_block)
    (lend_turn image s t block index left (signed back) range first second (ap (λ (u : State). u.wptr) there.1)
    (λ x off. ap (λ (u : State). u.memory x) there.1 ∙ word_off s.memory (words_on block (pos 1)) left x (subst (λ a. IsOff a 4 x) (sym next) (rear block x off))))
  where
    rear : (block x : ℕ) → IsOff block 8 x → IsOff (block + 4) 4 x
    rear block x (inl low) = inl (omega arith)
    rear block x (inr high) = inr (omega arith)

-- ---- all of them

divided_writes : (image : ImageValue) (parts : List Stretch) (m : Memory) (f : ℤ → ℤ → ℤ) (b a : ℤ) (s : State) → Writes image parts m s.memory → Writes image parts m (divided f b a s).memory
divided_writes image parts m f b a s h = search (either)

pub effect_writes : (image : ImageValue) (instr : Instr) (s : State) → InRange image → After image (written instr s) s.memory (effect image instr s)
unfolding effect
effect_writes image (Jump n) s range = jump_writes image s n
effect_writes image (Ldlp n) s range = nothing image s.memory
effect_writes image (Ldnl n) s range = search (bind, nothing)
effect_writes image (Ldc n) s range = nothing image s.memory
effect_writes image (Ldnlp n) s range = search (bind, nothing)
effect_writes image (Ldl n) s range = search (bind, nothing)
effect_writes image (Adc n) s range = search (bind, nothing)
effect_writes image (Cj n) s range = search (bind, either, nothing)
effect_writes image (Ajw n) s range = nothing image s.memory
effect_writes image (Eqc n) s range = search (bind, nothing)
effect_writes image (Stl n) s range = stl_writes image s n
effect_writes image (Stnl n) s range = stnl_writes image s n
effect_writes image Rev s range = search (bind, nothing)
effect_writes image Lb s range = search (bind, when, nothing)
effect_writes image Bsub s range = search (bind, nothing)
effect_writes image Diff s range = search (bind, nothing)
effect_writes image Add s range = search (bind, nothing)
effect_writes image Input s range = input_writes image s
effect_writes image Prod s range = search (bind, nothing)
effect_writes image Gt s range = search (bind, nothing)
effect_writes image Wsub s range = search (bind, nothing)
effect_writes image Output s range = output_writes image s
effect_writes image Sub s range = search (bind, nothing)
effect_writes image Seterr s range = nothing image s.memory
effect_writes image Csub0 s range = search (bind, nothing)
effect_writes image Stopp s range = search (when, nothing)
effect_writes image Rem s range = search (bind, divided_writes, nothing)
effect_writes image Lend s range = lend_writes image s range
effect_writes image Div s range = search (bind, divided_writes, nothing)
effect_writes image BitNot s range = search (bind, nothing)
effect_writes image BitXor s range = search (bind, nothing)
effect_writes image Sb s range = sb_writes image s
effect_writes image Shr s range = search (bind, when, nothing)
effect_writes image Shl s range = search (bind, when, nothing)
effect_writes image Mint s range = nothing image s.memory
effect_writes image BitAnd s range = search (bind, nothing)
effect_writes image MoveBytes s range = move_writes image s
effect_writes image BitOr s range = search (bind, nothing)
effect_writes image Sum s range = search (bind, nothing)
effect_writes image Mul s range = search (bind, nothing)

pub effect_written : (image : ImageValue) (instr : Instr) (s t : State) → InRange image → effect image instr s ≡ Some t → Writes image (written instr s) s.memory t.memory
effect_written image instr s t range is = subst (After image (written instr s) s.memory) is (effect_writes image instr s range)

-- ---- a step

-- what is written does not hang on Iptr and Oreg
written_there : (instr : Instr) (s : State) (iptr : ℤ) (oreg : ℕ) → written instr (record s { iptr = iptr; oreg = oreg }) ≡ written instr s
written_there (Jump n) s iptr oreg = refl
written_there (Stl n) s iptr oreg = refl
written_there (Stnl n) s iptr oreg = refl
written_there Input s iptr oreg = refl
written_there Output s iptr oreg = refl
written_there Lend s iptr oreg = refl
written_there Sb s iptr oreg = refl
written_there MoveBytes s iptr oreg = refl
written_there instr s iptr oreg = refl

abbrev written_by : State → Option Instr → List Stretch
written_by s o = option_map_or (λ instr. written instr s) o []

step_writes : (image : ImageValue) (s : State) → InRange image → After image (written_next image s) s.memory (step image s)
unfolding step
step_writes image s range =
    when image _ s.memory (not s.stopped) _ λ runs.
    bind image _ s.memory (code_byte image.code s.iptr) _ λ byte is.
    subst (λ o. After image (written_by s (option_and_then (instruction_ended s) o)) s.memory (executed image byte (s.oreg + digit_of byte) (ahead s))) (sym is)
    (by_test byte (is_pfix byte) (is_nfix byte))
  where
    ahead : State → State
    ahead s = record s { iptr = s.iptr +ℤ pos 1 }

    by_instruction : (o : Option Instr) → After image (written_by s o) s.memory (option_and_then (λ instr. effect image instr (record (ahead s) { oreg = 0 })) o)
    by_instruction None = tt
    by_instruction (Some instr) = subst (λ parts. After image parts s.memory
        (effect image instr (record (ahead s) { oreg = 0 }))) (written_there instr s (s.iptr +ℤ pos 1) 0)
        (effect_writes image instr (record (ahead s) { oreg = 0 }) range)

    by_test : (byte : ℕ) (p q : Bool) → After image (written_by s (if p || q then None else instruction (function_of byte) (signed (s.oreg + digit_of byte)))) s.memory
        (if p then Some (record (ahead s) { oreg = shifted (s.oreg + digit_of byte) }) else if q then Some
        (record (ahead s) { oreg = shifted_complement (s.oreg + digit_of byte) }) else performed image
        (function_of byte) (signed (s.oreg + digit_of byte)) (ahead s))
    by_test byte true q = nothing image s.memory
    by_test byte false true = nothing image s.memory
    by_test byte false false = by_instruction (instruction (function_of byte) (signed (s.oreg + digit_of byte)))

pub step_written : (image : ImageValue) (s t : State) → InRange image → step image s ≡ Some t → Writes image (written_next image s) s.memory t.memory
step_written image s t range is = subst (After image (written_next image s) s.memory) is (step_writes image s range)

-- ---- steps

-- what lies outside the workspace lies outside each stretch in it
outside : (image : ImageValue) (parts : List Stretch) (x : ℕ) → All (LiesIn (workspace image)) parts → IsOutside (workspace image ∷ []) x → IsOutside parts x
outside image parts x inside off k d lt = by_side _ (inside k d lt) (first_off (workspace image) [] x off)
  where
    by_side : (part : Stretch) → LiesIn (workspace image) part → IsOff mem_start (4 * image.workspace) x → IsOff part.from part.bytes x
    by_side part there (inl low) = inl (omega (arith, there))
    by_side part there (inr high) = inr (omega (arith, there))

pub steps_written : (image : ImageValue) (n : ℕ) (s t : State) → InRange image → steps image n s ≡ Some t → ChangesOnly (workspace image ∷ []) s.memory t.memory
unfolding steps
steps_written image zero s t range is x off = ap (λ (u : State). u.memory x) (sym (same_Some _ _ is))
steps_written image (suc n) s t range is x off = by_step (λ u e. steps_written image n u t range e x off) (step image s) refl is
  where
    by_step : ((u : State) → steps image n u ≡ Some t → t.memory x ≡ u.memory x) → (o : Option State) → step image s ≡ o → (o >>= steps image n) ≡ Some t → t.memory x ≡ s.memory x
    by_step go None e is' = absurd cc
    by_step go (Some u) e is' =
        let first = step_written image s u range e in
        go u is' ∙ first.only x (outside image (written_next image s) x first.inside off)
