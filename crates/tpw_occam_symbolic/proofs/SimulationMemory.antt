-- Steps that read and write memory carry over.
use Rattle.std.proofs.Common.{◌≡◌, ℕ, zero, suc, ◌+◌, ◌-◌, ◌*◌, ◌%◌, ◌^◌, ◌<◌, ◌≤◌, Bool, true, false, ◌&&◌}
use Rattle.std.proofs.Common.{ℤ, pos, List, [], ◌∷◌, length, Option, Some, None, refl, ap, sym, subst, ◌∙◌, arith}
use Rattle.std.specs.Prelude.{option_and_then, ◌+ℤ◌}
use Rattle.std.proofs.lemmas.Bool.Decides.{nat_tests}
use Rattle.std.proofs.lemmas.Option.{same_Some}
use Rattle.tp_words.specs.Words.{low_word}
use Rattle.tp_decode.specs.declared.instr.Instr.TheVariants.{Ldl, Stl, Ldlp, Ldnl, Stnl, Lb, Sb, Bsub, Wsub, MoveBytes}
use Rattle.tp_image.specs.Image.{ImageValue}
use Rattle.tp_step.specs.Maybe.{◌>>◌, only_if}
use Rattle.tp_words.specs.Numbers.{words_on}
use Rattle.tp_step.specs.Memory.{undefined, with_bytes as with_bytes_at, bytes_at as bytes_from, word_at as word_from, with_word as with_word_at}
use Rattle.tp_step.specs.State.{State, is_word, in_workspace, local, load, store, descheduled, no_registers, replace_pair as replace_pair_in, push as push_in, pop as pop_in, pop_two as pop_two_in, set_areg as set_areg_in}
use Rattle.tp_step.specs.Effects.{effect as effect_in, has_move, may_move}
use Rattle.tpw_occam_symbolic.specs.declared.items.Item.{Item}
use Rattle.tpw_occam_symbolic.specs.declared.code.Step.TheVariants.{Load, Store, Pointer}
use Rattle.tpw_occam_symbolic.specs.Blocks.{Blocks, with_bytes, bytes_at, word_at, with_word}
use Rattle.tpw_occam_symbolic.specs.Symbolic.{Machine, Contents, number, address, distance, number_in, address_in, effect, performed, replace_pair, push, set_areg, pop, pop_two, with_blocks, has_bytes}
use Rattle.tpw_occam_symbolic.specs.MatchStates.{Site, base_of, LiesIn, IsHeld, Agrees, MatchStates}
use Rattle.tpw_occam_symbolic.proofs.Simulation.{Carries, both_carry, none_carries, bind_machine, when_machine, bind_state, when_state, with_registers, with_memory, low, bytes_read, word_read, agrees_bytes, agrees_word}
use Rattle.tpw_occam_symbolic.proofs.SimulationNumbers.{number_held}

-- a register in which an address is
pub address_held : (site : Site) (c : Contents) (o : Option ℕ) (there : Item × ℕ) (word : ℕ) → IsHeld site c o → address_in c ≡ Some there
    → o ≡ Some word → word ≡ (base_of site there.0 + there.1) % 2 ^ 32
address_held site (address item at) (Some v) there word held is found =
    sym (same_Some _ _ found) ∙ held ∙ ap (λ (p : Item × ℕ). (base_of site p.0 + p.1) % 2 ^ 32) (same_Some _ _ is)
address_held site (address item at) None there word held is found = absurd cc
address_held site (number n) o there word held is found = absurd cc
address_held site (distance from to) o there word held is found = absurd cc

-- ---- loads and stores

pub load_is : (image : ImageValue) (s : State) (a word : ℕ) → load image s a ≡ Some word → word_from s.memory a ≡ Some word
unfolding load
load_is image s a word is = by_test (is_word image a) is
  where
    by_test : (b : Bool) → (only_if b >> word_from s.memory a) ≡ Some word → word_from s.memory a ≡ Some word
    by_test false e = absurd cc
    by_test true e = e

pub store_state : (site : Site) (o : Option Machine) (image : ImageValue) (a word : ℕ) (s : State) (f : State → Option State)
    → Carries site o (f (record s { memory = with_word_at s.memory a word })) → Carries site o (option_and_then f (store image a word s))
unfolding store
store_state site o image a word s f go = by_test (is_word image a)
  where
    by_test : (b : Bool) → Carries site o (option_and_then f (only_if b >> Some (record s { memory = with_word_at s.memory a word })))
    by_test false = none_carries site o
    by_test true = go

pub descheduled_state : (site : Site) (o : Option Machine) (image : ImageValue) (s : State) (f : State → Option State)
    → Carries site o (f (no_registers (record s { memory = undefined s.memory (s.wptr - 20) 20 })))
    → Carries site o (option_and_then f (descheduled image s))
unfolding descheduled
descheduled_state site o image s f go = by_test (in_workspace image (s.wptr - 20) 20)
  where
    by_test : (b : Bool) → Carries site o (option_and_then f (only_if b >> Some (no_registers (record s { memory = undefined s.memory (s.wptr - 20) 20 }))))
    by_test false = none_carries site o
    by_test true = go

-- ---- addresses

pub words_on_is : (a k : ℕ) → words_on a (pos k) ≡ (a + 4 * k) % 2 ^ 32
words_on_is a k = omega arith

further : (a base at more : ℕ) → a ≡ (base + at) % 2 ^ 32 → (a + more) % 2 ^ 32 ≡ (base + (at + more)) % 2 ^ 32
further a base at more is = omega (arith, is)

pub words_further : (a base at k : ℕ) → a ≡ (base + at) % 2 ^ 32 → words_on a (pos k) ≡ (base + (at + 4 * k)) % 2 ^ 32
words_further a base at k is = words_on_is a k ∙ further a base at (4 * k) is

local_is : (site : Site) (s : State) (item : Item) (word : ℕ) → s.wptr ≡ site.wptr
    → local s (pos (site.locals item + word)) ≡ (base_of site item + 4 * word) % 2 ^ 32
local_is site s item word is = words_on_is s.wptr (site.locals item + word) ∙ ap (λ w. (w + 4 * (site.locals item + word)) % 2 ^ 32) is ∙ ap (λ n. n % 2 ^ 32) (omega arith)

pub room_of : (site : Site) (m : Machine) (item : Item) (at n : ℕ) → m.sizes ≡ site.sizes → has_bytes m item at n ≡ true
    → at + n ≤ site.sizes item
room_of site m item at n same has =
    let size : m.sizes item ≡ site.sizes item = ap (λ (f : Item → ℕ). f item) same in
    let fits : at + n ≤ m.sizes item = grind (arith, nat_tests) in
    omega (arith, size, fits)

module _ (image : ImageValue) (site : Site) (lies : LiesIn image site) where
  -- where bytes are
  pub place_of : (item : Item) (at n a : ℕ) → 0 < n → at + n ≤ site.sizes item → a ≡ (base_of site item + at) % 2 ^ 32
      → a ≡ base_of site item + at
  place_of item at n a some room is =
      let below : base_of site item + at < 2 ^ 32 = low image site lies item at (omega (arith, some, room)) in
      omega (arith, is, below)

  pub word_there : (m : Machine) (s : State) → MatchStates site m s → (item : Item) (at a word : ℕ) → has_bytes m item at 4 ≡ true
      → a ≡ (base_of site item + at) % 2 ^ 32 → load image s a ≡ Some word → word ≡ word_at m.blocks item at
  word_there m s is item at a word has there found =
      let room = room_of site m item at 4 is.sizes has in
      word_read image site lies m.blocks s.memory item at a word is.memory (place_of item at 4 a (omega arith) room there) room
      (load_is image s a word found)

  pub bytes_there : (m : Machine) (s : State) → MatchStates site m s → (item : Item) (at n a : ℕ) (bytes : List ℕ) → at + n ≤ site.sizes item
      → a ≡ (base_of site item + at) % 2 ^ 32 → bytes_from s.memory a n ≡ Some bytes → bytes ≡ bytes_at m.blocks item at n
  unfolding bytes_from bytes_at
  bytes_there m s is item at zero a bytes room there found = sym (same_Some _ _ found)
  bytes_there m s is item at (suc n) a bytes room there found =
      bytes_read image site lies m.blocks s.memory item (suc n) at a bytes is.memory (place_of item at (suc n) a (omega arith) room there) room found

  pub word_stored : (m : Machine) (s : State) → MatchStates site m s → (item : Item) (at a word word' : ℕ) → has_bytes m item at 4 ≡ true
      → a ≡ (base_of site item + at) % 2 ^ 32 → word' ≡ word
      → MatchStates site (with_blocks (with_word item at word m.blocks) m) (record s { memory = with_word_at s.memory a word' })
  word_stored m s is item at a word word' has there same =
      with_memory site m s (with_word item at word m.blocks) (with_word_at s.memory a word') is
      (subst (λ w. Agrees site (with_word item at w m.blocks) (with_word_at s.memory a word')) same
      (agrees_word image site lies m.blocks s.memory item at a word' is.memory there (room_of site m item at 4 is.sizes has)))

module _ (image : ImageValue) (site : Site) (lies : LiesIn image site) (m : Machine) (s : State) (is : MatchStates site m s) where
  -- ---- locals

  pub load_carries : (item : Item) (word : ℕ) → Carries site (performed (Load item word) m) (effect_in image (Ldl (pos (site.locals item + word))) s)
  unfolding performed effect_in
  load_carries item word =
      when_machine site (has_bytes m item (4 * word) 4) _ _ λ has.
      bind_state site _ (load image s (local s (pos (site.locals item + word)))) _ λ w found.
      let same : w ≡ word_at m.blocks item (4 * word) = word_there image site lies m s is item (4 * word) _ w has (local_is site s item word is.wptr) found in
      both_carry site (push (number (word_at m.blocks item (4 * word))) m) (push_in w s)
      (with_registers site m s (number (word_at m.blocks item (4 * word))) m.areg m.breg (Some w) s.areg s.breg is same is.areg is.breg)

  pub store_carries : (item : Item) (word : ℕ) → Carries site (performed (Store item word) m) (effect_in image (Stl (pos (site.locals item + word))) s)
  unfolding performed effect_in
  store_carries item word =
      bind_machine site (number_in m.areg) _ _ λ a is_a.
      when_machine site (has_bytes m item (4 * word) 4) _ _ λ has.
      bind_state site _ s.areg _ λ a' is_a'.
      let same : a' ≡ a = number_held site m.areg s.areg a a' is.areg is_a is_a' in
      let n : ℤ = pos (site.locals item + word) in
      store_state site _ image (local s n) a' s _
      (both_carry site (pop (with_blocks (with_word item (4 * word) a m.blocks) m)) (pop_in (record s { memory = with_word_at s.memory (local s n) a' }))
      (with_registers site (with_blocks (with_word item (4 * word) a m.blocks) m) (record s { memory = with_word_at s.memory (local s n) a' })
      m.breg m.creg m.creg s.breg s.creg None
      (word_stored image site lies m s is item (4 * word) (local s n) a a' has (local_is site s item word is.wptr) same) is.breg is.creg tt))

  pub pointer_carries : (item : Item) (word : ℕ) → Carries site (performed (Pointer item word) m) (effect_in image (Ldlp (pos (site.locals item + word))) s)
  unfolding performed effect_in
  pointer_carries item word =
      both_carry site (push (address item (4 * word)) m) (push_in (local s (pos (site.locals item + word))) s)
      (with_registers site m s (address item (4 * word)) m.areg m.breg (Some (local s (pos (site.locals item + word)))) s.areg s.breg is
      (local_is site s item word is.wptr) is.areg is.breg)

  -- ---- addresses

  pub ldnl_carries : (n : ℕ) → Carries site (effect (Ldnl (pos n)) m) (effect_in image (Ldnl (pos n)) s)
  unfolding effect effect_in
  ldnl_carries n =
      bind_machine site (address_in m.areg) _ _ λ a is_a.
      when_machine site (has_bytes m a.0 (a.1 + 4 * n) 4) _ _ λ has.
      bind_state site _ s.areg _ λ a' is_a'.
      bind_state site _ (load image s (words_on a' (pos n))) _ λ w found.
      let there = address_held site m.areg s.areg a a' is.areg is_a is_a' in
      let same : w ≡ word_at m.blocks a.0 (a.1 + 4 * n) =
      word_there image site lies m s is a.0 (a.1 + 4 * n) _ w has (words_further a' (base_of site a.0) a.1 n there) found in
      both_carry site (set_areg (number (word_at m.blocks a.0 (a.1 + 4 * n))) m) (set_areg_in w s)
      (with_registers site m s (number (word_at m.blocks a.0 (a.1 + 4 * n))) m.breg m.creg (Some w) s.breg s.creg is same is.breg is.creg)

  pub stnl_carries : (n : ℕ) → Carries site (effect (Stnl (pos n)) m) (effect_in image (Stnl (pos n)) s)
  unfolding effect effect_in
  stnl_carries n =
      bind_machine site (address_in m.areg) _ _ λ a is_a.
      bind_machine site (number_in m.breg) _ _ λ b is_b.
      when_machine site (has_bytes m a.0 (a.1 + 4 * n) 4) _ _ λ has.
      bind_state site _ s.areg _ λ a' is_a'.
      bind_state site _ s.breg _ λ b' is_b'.
      let there = address_held site m.areg s.areg a a' is.areg is_a is_a' in
      let same : b' ≡ b = number_held site m.breg s.breg b b' is.breg is_b is_b' in
      let at = words_on a' (pos n) in
      store_state site _ image at b' s _
      (both_carry site (pop_two (with_blocks (with_word a.0 (a.1 + 4 * n) b m.blocks) m)) (pop_two_in (record s { memory = with_word_at s.memory at b' }))
      (with_registers site (with_blocks (with_word a.0 (a.1 + 4 * n) b m.blocks) m) (record s { memory = with_word_at s.memory at b' })
      m.creg m.breg m.creg s.creg None None
      (word_stored image site lies m s is a.0 (a.1 + 4 * n) at b b' has (words_further a' (base_of site a.0) a.1 n there) same) is.creg tt tt))

  pub lb_carries : Carries site (effect Lb m) (effect_in image Lb s)
  unfolding effect effect_in
  lb_carries =
      bind_machine site (address_in m.areg) _ _ λ a is_a.
      when_machine site (has_bytes m a.0 a.1 1) _ _ λ has.
      bind_state site _ s.areg _ λ a' is_a'.
      when_state site _ (in_workspace image a' 1) _ λ inside.
      bind_state site _ (s.memory a') _ λ byte found.
      let there = address_held site m.areg s.areg a a' is.areg is_a is_a' in
      let room = room_of site m a.0 a.1 1 is.sizes has in
      let place = place_of image site lies a.0 a.1 1 a' (omega arith) room there in
      let same : byte ≡ m.blocks a.0 a.1 = is.memory a.0 a.1 byte (omega (arith, room)) (ap s.memory (sym place) ∙ found) in
      both_carry site (set_areg (number (m.blocks a.0 a.1)) m) (set_areg_in byte s)
      (with_registers site m s (number (m.blocks a.0 a.1)) m.breg m.creg (Some byte) s.breg s.creg is same is.breg is.creg)

  pub sb_carries : Carries site (effect Sb m) (effect_in image Sb s)
  unfolding effect effect_in
  sb_carries =
      bind_machine site (address_in m.areg) _ _ λ a is_a.
      bind_machine site (number_in m.breg) _ _ λ b is_b.
      when_machine site (has_bytes m a.0 a.1 1) _ _ λ has.
      bind_state site _ s.areg _ λ a' is_a'.
      bind_state site _ s.breg _ λ b' is_b'.
      when_state site _ (in_workspace image a' 1) _ λ inside.
      let there = address_held site m.areg s.areg a a' is.areg is_a is_a' in
      let same : b' ≡ b = number_held site m.breg s.breg b b' is.breg is_b is_b' in
      let blocks = with_bytes a.0 a.1 (b % 256 ∷ []) m.blocks in
      let memory = with_bytes_at s.memory a' (b' % 256 ∷ []) in
      both_carry site (pop_two (with_blocks blocks m)) (pop_two_in (record s { memory = memory }))
      (with_registers site (with_blocks blocks m) (record s { memory = memory }) m.creg m.breg m.creg s.creg None None
      (with_memory site m s blocks memory is
      (subst (λ x. Agrees site (with_bytes a.0 a.1 (x % 256 ∷ []) m.blocks) memory) same
      (agrees_bytes image site lies m.blocks s.memory a.0 a.1 a' (b' % 256 ∷ []) is.memory there (room_of site m a.0 a.1 1 is.sizes has))))
      is.creg tt tt)

  pub bsub_carries : Carries site (effect Bsub m) (effect_in image Bsub s)
  unfolding effect effect_in
  bsub_carries =
      bind_machine site (address_in m.areg) _ _ λ a is_a.
      bind_machine site (number_in m.breg) _ _ λ b is_b.
      bind_state site _ s.areg _ λ a' is_a'.
      bind_state site _ s.breg _ λ b' is_b'.
      let there = address_held site m.areg s.areg a a' is.areg is_a is_a' in
      let same : b' ≡ b = number_held site m.breg s.breg b b' is.breg is_b is_b' in
      let sum : low_word (pos a' +ℤ pos b') ≡ (base_of site a.0 + (a.1 + b)) % 2 ^ 32 =
      ap (λ x. (a' + x) % 2 ^ 32) same ∙ further a' (base_of site a.0) a.1 b there in
      both_carry site (replace_pair (address a.0 (a.1 + b)) m) (replace_pair_in (low_word (pos a' +ℤ pos b')) s)
      (with_registers site m s (address a.0 (a.1 + b)) m.creg m.creg (Some (low_word (pos a' +ℤ pos b'))) s.creg None is sum is.creg tt)

  pub wsub_carries : Carries site (effect Wsub m) (effect_in image Wsub s)
  unfolding effect effect_in
  wsub_carries =
      bind_machine site (address_in m.areg) _ _ λ a is_a.
      bind_machine site (number_in m.breg) _ _ λ b is_b.
      bind_state site _ s.areg _ λ a' is_a'.
      bind_state site _ s.breg _ λ b' is_b'.
      let there = address_held site m.areg s.areg a a' is.areg is_a is_a' in
      let same : b' ≡ b = number_held site m.breg s.breg b b' is.breg is_b is_b' in
      let sum : words_on a' (pos b') ≡ (base_of site a.0 + (a.1 + 4 * b)) % 2 ^ 32 =
      ap (λ x. words_on a' (pos x)) same ∙ words_further a' (base_of site a.0) a.1 b there in
      both_carry site (replace_pair (address a.0 (a.1 + 4 * b)) m) (replace_pair_in (words_on a' (pos b')) s)
      (with_registers site m s (address a.0 (a.1 + 4 * b)) m.creg m.creg (Some (words_on a' (pos b'))) s.creg None is sum is.creg tt)

  length-bytes_at : (blocks : Blocks) (item : Item) (at n : ℕ) → length (bytes_at blocks item at n) ≡ n
  unfolding bytes_at
  length-bytes_at blocks item at zero = refl
  length-bytes_at blocks item at (suc n) = ap suc (length-bytes_at blocks item (at + 1) n)

  pub move_carries : Carries site (effect MoveBytes m) (effect_in image MoveBytes s)
  unfolding effect effect_in
  move_carries =
      bind_machine site (number_in m.areg) _ _ λ n is_n.
      bind_machine site (address_in m.breg) _ _ λ target is_target.
      bind_machine site (address_in m.creg) _ _ λ source is_source.
      when_machine site (has_bytes m source.0 source.1 n) _ _ λ has_source.
      when_machine site (has_bytes m target.0 target.1 n) _ _ λ has_target.
      bind_state site _ s.areg _ λ n' is_n'.
      bind_state site _ s.breg _ λ target' is_target'.
      bind_state site _ s.creg _ λ source' is_source'.
      when_state site _ (has_move image.version && may_move image n' target' source') _ λ may.
      bind_state site _ (bytes_from s.memory source' n') _ λ bytes found.
      let count : n' ≡ n = number_held site m.areg s.areg n n' is.areg is_n is_n' in
      let to = address_held site m.breg s.breg target target' is.breg is_target is_target' in
      let from = address_held site m.creg s.creg source source' is.creg is_source is_source' in
      let same : bytes ≡ bytes_at m.blocks source.0 source.1 n =
      bytes_there image site lies m s is source.0 source.1 n source' bytes (room_of site m source.0 source.1 n is.sizes has_source) from
      (ap (bytes_from s.memory source') (sym count) ∙ found) in
      let long : length bytes ≡ n = ap length same ∙ length-bytes_at m.blocks source.0 source.1 n in
      let blocks : List ℕ → Blocks = λ bs. with_bytes target.0 target.1 bs m.blocks in
      let memory = with_bytes_at s.memory target' bytes in
      both_carry site (with_blocks (blocks (bytes_at m.blocks source.0 source.1 n)) m) (no_registers (record s { memory = memory }))
      (with_registers site (with_blocks (blocks (bytes_at m.blocks source.0 source.1 n)) m) (record s { memory = memory }) m.areg m.breg m.creg None None None
      (with_memory site m s (blocks (bytes_at m.blocks source.0 source.1 n)) memory is
      (subst (λ bs. Agrees site (blocks bs) memory) same
      (agrees_bytes image site lies m.blocks s.memory target.0 target.1 target' bytes is.memory to
      (omega (arith, long, room_of site m target.0 target.1 n is.sizes has_target)))))
      tt tt tt)
