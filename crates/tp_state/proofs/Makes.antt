-- What an instruction makes of a state that fits, without the loops that are entered: the parts that instructions share.
use Rattle.std.proofs.Common.{◌≡◌, ℕ, ◌-◌, ◌<◌, Bool, true, ◌==◌, if◌then◌else◌, ℤ, List, slice_get, Option, Some, None, Result, Ok, refl, ap, ◌∙◌, subst}
use Rattle.std.specs.Option.{option_and_then}
use Rattle.tp_decode.specs.declared.instr.Instr.{Instr}
use Rattle.tp_image.specs.declared.image.LoopRow.{LoopRow}
use Rattle.tp_image.specs.Image.{ImageValue}
use Rattle.tp_step.specs.Memory.{Memory}
use Rattle.tp_step.specs.State.{State as Machine, replace_pair as machine_replace_pair}
use Rattle.tp_step.specs.Effects.{effect}
use Rattle.tp_state.specs.declared.kind.Kind.{Kind}
use Rattle.tp_state.specs.declared.kind.Kind.TheVariants as kind
use Rattle.tp_state.specs.declared.cell.Cell.{Cell}
use Rattle.tp_state.specs.declared.state.State.{State}
use Rattle.tp_state.specs.declared.fault.StateCode.{StateCode}
use Rattle.tp_state.specs.Answer.{◌>>=◌}
use Rattle.tp_state.specs.Rules.{one_number, two_numbers, replace_pair, set_areg}
use Rattle.tp_state.specs.Fits.{InRange, KindFits, FitsAmong}
use Rattle.tp_state.specs.GoesOn.{turns_in}
use Rattle.tp_state.proofs.Passing.{through, same_Ok}
use Rattle.tp_state.proofs.KindLemmas.{number_is, one_number_is, two_numbers_are}
use Rattle.tp_state.proofs.WordsChange.{Change, words_changed, loops_changed, turns_kept}

-- one turn less for the loop that goes back, if one does
abbrev pub one_less : Option ℕ → ℕ → ℕ → ℕ
one_less None l turns = turns
one_less (Some k) l turns = if l == k then turns - 1 else turns

-- the turns of some loops, from those before
abbrev pub KeepsTurns : List LoopRow → (ℕ → Bool) → Option ℕ → Memory → Memory → Type 0
KeepsTurns rows around back m m' = (l : ℕ) (row : LoopRow) → around l ≡ true → slice_get rows l ≡ Some row → turns_in m' row ≡ one_less back l (turns_in m row)

-- the instruction has an effect, which stands at an address and fits among some loops
pub record Makes (image : ImageValue) (around : ℕ → Bool) (back : Option ℕ) (to : ℕ) (instr : Instr) (t' : State) (s : Machine) : Type 0 where
  pub end : Machine
  pub made : effect image instr s ≡ Some end
  pub fits : FitsAmong image around to t' end
  pub turns : KeepsTurns image.loops around back s.memory end.memory

pub one_there : {X : Type 0} (f : ℕ → X) (ra : Option ℕ) (a : ℕ) → ra ≡ Some a → option_and_then (λ a. Some (f a)) ra ≡ Some (f a)
one_there f ra a is = rw is

pub both_there : {X : Type 0} (f : ℕ → ℕ → X) (ra rb : Option ℕ) (a b : ℕ) → ra ≡ Some a → rb ≡ Some b → option_and_then (λ a. option_and_then (λ b. Some (f b a)) rb) ra ≡ Some (f b a)
both_there f ra rb a b is its = rw (is, its)

module _ (image : ImageValue) (around : ℕ → Bool) (at : ℕ) (t : State) (s : Machine) (f : FitsAmong image around at t s) where
  same_turns : KeepsTurns image.loops around None s.memory s.memory
  same_turns l row is row_is = refl

  -- ---- registers, and nothing else but the error flag

  pub registers_fit : (a b c : Kind) (ra rb rc : Option ℕ) (error : Bool) → KindFits image a ra → KindFits image b rb → KindFits image c rc
      → FitsAmong image around at (record t { a = a; b = b; c = c }) (record s { areg = ra; breg = rb; creg = rc; error = error })
  registers_fit a b c ra rb rc error fa fb fc = record {
    place = record { running = f.place.running; iptr = f.place.iptr; oreg = f.place.oreg; wptr = f.place.wptr; roomy = f.place.roomy; inside = f.place.inside };
    phase = f.phase;
    registers = record { a = fa; b = fb; c = fc };
    words = f.words;
    bytes = record { memory = f.bytes.memory; packet = f.bytes.packet };
    packet = f.packet;
    loops = f.loops;
  }

  pub registers_made : (instr : Instr) (t' : State) (a b c : Kind) (ra rb rc : Option ℕ) (error : Bool)
      → effect image instr s ≡ Some (record s { areg = ra; breg = rb; creg = rc; error = error })
      → ◌≡◌ {A = Result State StateCode} (Ok (record t { a = a; b = b; c = c })) (Ok t')
      → KindFits image a ra → KindFits image b rb → KindFits image c rc
      → Makes image around None at instr t' s
  registers_made instr t' a b c ra rb rc error made ok fa fb fc = record {
    end = record s { areg = ra; breg = rb; creg = rc; error = error };
    made = made;
    fits = subst (λ u. FitsAmong image around at u (record s { areg = ra; breg = rb; creg = rc; error = error })) (same_Ok _ _ ok) (registers_fit a b c ra rb rc error fa fb fc);
    turns = same_turns;
  }

  -- Areg and Breg are numbers, of which one is made
  pub operated : (instr : Instr) (t' : State) (k : ℤ × ℤ → ℤ × ℤ → Kind) (w : ℕ → ℕ → ℕ) (error : ℕ → ℕ → Bool) (out : ℕ → ℕ → Machine)
      → effect image instr s ≡ option_and_then (λ a. option_and_then (λ b. Some (out b a)) s.breg) s.areg
      → ((b a : ℕ) → out b a ≡ machine_replace_pair (w b a) (record s { error = error b a }))
      → (two_numbers t >>= (λ p. Ok (replace_pair (k p.1 p.0) t))) ≡ Ok t'
      → ((a b : ℤ × ℤ) (x y : ℕ) → InRange a.0 a.1 x → InRange b.0 b.1 y → KindFits image (k b a) (Some (w y x)))
      → Makes image around None at instr t' s
  operated instr t' k w error out effect_is out_is ok fits =
      through (two_numbers t) _ t' ok λ p p_is ok.
      two_numbers_are image t p p_is λ a_is b_is.
      number_is image t.a s.areg p.0 a_is f.registers.a λ x x_is in_a.
      number_is image t.b s.breg p.1 b_is f.registers.b λ y y_is in_b.
      registers_made instr t' (k p.1 p.0) t.c kind.Undef (Some (w y x)) s.creg None (error y x)
      (effect_is ∙ both_there out s.areg s.breg x y x_is y_is ∙ ap Some (out_is y x)) ok (fits p.0 p.1 x y in_a in_b) f.registers.c tt

  -- Areg is a number, and another takes its place
  pub replaced : (instr : Instr) (t' : State) (k : ℤ × ℤ → Kind) (w : ℕ → ℕ) (error : ℕ → Bool)
      → effect image instr s ≡ option_and_then (λ a. Some (record s { areg = Some (w a); error = error a })) s.areg
      → (one_number t >>= (λ a. Ok (set_areg (k a) t))) ≡ Ok t'
      → ((a : ℤ × ℤ) (x : ℕ) → InRange a.0 a.1 x → KindFits image (k a) (Some (w x)))
      → Makes image around None at instr t' s
  replaced instr t' k w error effect_is ok fits =
      through (one_number t) _ t' ok λ a a_is ok.
      one_number_is image t a a_is λ a_is.
      number_is image t.a s.areg a a_is f.registers.a λ x x_is in_a.
      registers_made instr t' (k a) t.b t.c (Some (w x)) s.breg s.creg (error x)
      (effect_is ∙ one_there (λ a. record s { areg = Some (w a); error = error a }) s.areg x x_is) ok (fits a x in_a) f.registers.b f.registers.c

  -- ---- words, and nothing else

  pub words_fit : (cells' : List Cell) (m' : Memory) → Change image.loops image.workspace t.cells cells' s.memory m' → ((a byte : ℕ) → m' a ≡ Some byte → byte < 256)
      → FitsAmong image around at (record t { cells = cells' }) (record s { memory = m' })
  words_fit cells' m' c small = record {
    place = record { running = f.place.running; iptr = f.place.iptr; oreg = f.place.oreg; wptr = f.place.wptr; roomy = f.place.roomy; inside = f.place.inside };
    phase = f.phase;
    registers = record { a = f.registers.a; b = f.registers.b; c = f.registers.c };
    words = words_changed image.loops image.workspace t.cells cells' s.memory m' c f.words;
    bytes = record { memory = small; packet = f.bytes.packet };
    packet = f.packet;
    loops = loops_changed image.loops image.workspace t.cells cells' s.memory m' c f.words.sized around f.loops;
  }

  pub words_turns : (cells' : List Cell) (m' : Memory) → Change image.loops image.workspace t.cells cells' s.memory m' → KeepsTurns image.loops around None s.memory m'
  words_turns cells' m' c = turns_kept image.loops image.workspace t.cells cells' s.memory m' c f.words.sized around f.loops

  pub words_made : (instr : Instr) (t' : State) (cells' : List Cell) (m' : Memory) (a b c : Kind) (ra rb rc : Option ℕ)
      → effect image instr s ≡ Some (record s { memory = m'; areg = ra; breg = rb; creg = rc })
      → ◌≡◌ {A = Result State StateCode} (Ok (record t { cells = cells'; a = a; b = b; c = c })) (Ok t')
      → Change image.loops image.workspace t.cells cells' s.memory m' → ((a byte : ℕ) → m' a ≡ Some byte → byte < 256)
      → KindFits image a ra → KindFits image b rb → KindFits image c rc
      → Makes image around None at instr t' s
  words_made instr t' cells' m' a b c ra rb rc made ok change small fa fb fc =
      let w = words_fit cells' m' change small in
      record {
        end = record s { memory = m'; areg = ra; breg = rb; creg = rc };
        made = made;
        fits = subst (λ u. FitsAmong image around at u (record s { memory = m'; areg = ra; breg = rb; creg = rc })) (same_Ok _ _ ok) record {
          place = record { running = w.place.running; iptr = w.place.iptr; oreg = w.place.oreg; wptr = w.place.wptr; roomy = w.place.roomy; inside = w.place.inside };
          phase = w.phase;
          registers = record { a = fa; b = fb; c = fc };
          words = w.words;
          bytes = record { memory = w.bytes.memory; packet = w.bytes.packet };
          packet = w.packet;
          loops = w.loops;
        };
        turns = words_turns cells' m' change;
      }
