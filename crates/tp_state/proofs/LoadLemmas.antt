-- Words of the workspace that the machine loads and stores.
use Rattle.std.proofs.Common.{◌≡◌, ℕ, ◌<◌, ◌≤◌, Bool, ℤ, pos, ◌+ℤ◌, Option, Some, ap, ◌∙◌, arith}
use Rattle.std.specs.Option.{option_and_then}
use Rattle.tp_image.specs.Image.{ImageValue}
use Rattle.tp_step.specs.Memory.{word_at, with_word}
use Rattle.tp_words.specs.Numbers.{words_on}
use Rattle.tp_step.specs.State.{State as Machine, load, store, local as machine_local}
use Rattle.tp_state.specs.declared.state.State.{State}
use Rattle.tp_state.specs.Rules.{local}
use Rattle.tp_state.specs.Fits.{FitsAmong, word_address}
use Rattle.std.specs.Prelude.{Ok}
use Rattle.tp_state.proofs.WordLemmas.{words_on_is, is_word_at}
use Rattle.tp_state.proofs.KindLemmas.{word_in_is}

pub load_there : (image : ImageValue) (s : Machine) (a x v : ℕ) → a ≡ word_address x → x < image.workspace → word_at s.memory (word_address x) ≡ Some v → load image s a ≡ Some v
unfolding load
load_there image s a x v same lt is = rw (same, is_word_at image x lt, is)

pub store_there : (image : ImageValue) (s : Machine) (a x v : ℕ) → a ≡ word_address x → x < image.workspace → store image a v s ≡ Some (record s { memory = with_word s.memory (word_address x) v })
unfolding store
store_there image s a x v same lt = rw (same, is_word_at image x lt)

-- one step after another
pub stored_there : {X : Type 0} (g : Machine → X) (o : ℕ → Option Machine) (r : Option ℕ) (a : ℕ) (s' : Machine) →
    r ≡ Some a → o a ≡ Some s' → option_and_then (λ a. option_and_then (λ s. Some (g s)) (o a)) r ≡ Some (g s')
stored_there g o r a s' is its = rw (is, its)

pub loaded_there : {X : Type 0} (g : ℕ → X) (o : ℕ → Option ℕ) (r : Option ℕ) (a v : ℕ) → r ≡ Some a → o a ≡ Some v → option_and_then (λ a. option_and_then (λ v. Some (g v)) (o a)) r ≡ Some (g v)
loaded_there g o r a v is its = rw (is, its)

pub both_stored : {X : Type 0} (g : Machine → X) (o : ℕ → ℕ → Option Machine) (ra rb : Option ℕ) (a b : ℕ) (s' : Machine) → ra ≡ Some a → rb ≡ Some b → o a b ≡ Some s'
    → option_and_then (λ a. option_and_then (λ b. option_and_then (λ s. Some (g s)) (o a b)) rb) ra ≡ Some (g s')
both_stored g o ra rb a b s' is its stored = rw (is, its, stored)

-- the address of a local
pub local_is : {P : Type 0} (image : ImageValue) (around : ℕ → Bool) (at : ℕ) (t : State) (s : Machine) (n : ℤ) (x : ℕ)
    → image.workspace ≤ 512 → FitsAmong image around at t s → local image t n ≡ Ok x →
    (machine_local s n ≡ word_address x → x < image.workspace → P) → P
unfolding local
local_is image around at t s n x small f is go =
    let (x_is, lt) = word_in_is image (pos t.wptr +ℤ n) x is in
    let inside = f.place.inside in
    go (ap (λ a. words_on a n) f.place.wptr ∙ words_on_is t.wptr x n (omega arith) (omega arith) x_is) lt
