-- The start of a run fits the first state.
use Rattle.std.proofs.Common.{◌≡◌, ◌⊎◌, inl, inr, ℕ, ◌+◌, ◌-◌, ◌*◌, zero, suc, ◌/◌, ◌%◌, ◌<◌, ◌≤◌, ◌^◌, Bool, true}
use Rattle.std.proofs.Common.{false, pos, List, length, map, replicate, slice_index_or, Option, Some, None, All, refl}
use Rattle.std.proofs.Common.{sym, [], ◌∷◌, nat_le, nat_lt, ◌&&◌, if◌then◌else◌, get_or, ap, ◌∙◌, subst, arith}
use Rattle.std.proofs.Common.{length-append}
use Rattle.std.proofs.lemmas.Int.{ints}
use Rattle.std.proofs.lemmas.Bool.{cases_lt}
use Rattle.std.proofs.lemmas.Option.{same_Some}
use Rattle.std.proofs.lemmas.List.Elements.{All-nil, All-cons, All-append}
use Rattle.std.specs.Prelude.{flat_map}
use Rattle.std.specs.Int.{w32, to_le_bytes, bytes_low_first, byte_at}
use Rattle.std.proofs.lemmas.List.{length-replicate, length-map, get_or-map, get_or-replicate, get_or_append_left, get_or-append-add, get_or_past}
use Rattle.tp_words.specs.Words.{signed}
use Rattle.tp_image.specs.declared.image.Version.{Version}
use Rattle.tp_image.specs.declared.image.Version.TheVariants.{One, Two}
use Rattle.tp_image.specs.Image.{ImageValue, InRange, most_initial}
use Rattle.tp_flow.specs.NestRanges.{ranges}
use Rattle.tp_flow.specs.LoopsAround.{IsOutside}
use Rattle.tp_step.specs.Memory.{with_bytes, with_cells}
use Rattle.tp_step.specs.State.{mem_start}
use Rattle.tp_step.specs.Runs.{start, first_words}
use Rattle.tp_step.proofs.StartLemmas.{start_word}
use Rattle.tp_state.specs.declared.cell.Cell.{Cell}
use Rattle.tp_state.specs.declared.cell.Cell.TheVariants.{Undef, Known}
use Rattle.tp_state.specs.CellRules.{cell_at, is_free}
use Rattle.tp_state.specs.Entry.{first_cells, entry}
use Rattle.tp_state.specs.Fits.{CellFits, WordsFit, Fits}

few : (version : Version) (n workspace : ℕ) → n ≤ most_initial version workspace → n ≤ workspace
few One n workspace h = omega arith
few Two n workspace h = h

module _ (image : ImageValue) (fits : length image.initial ≤ image.workspace) where
  known : List Cell
  known = map (λ word. Known (signed word)) image.initial

  zeros : List Cell
  zeros = replicate (image.workspace - length image.initial) (Known (pos 0))

  length-known : length known ≡ length image.initial
  unfolding known
  length-known = length-map image.initial (λ word. Known (signed word))

  pub length-first_cells : length (first_cells image) ≡ image.workspace
  unfolding known zeros
  length-first_cells =
      let more : length zeros ≡ image.workspace - length image.initial = length-replicate (image.workspace - length image.initial) (Known (pos 0)) in
      let long = length-known in
      length-append known zeros ∙ omega (arith, more, long, fits)

  -- each word is known, by its value at the start
  pub first_cell : (x : ℕ) → x < image.workspace → cell_at (first_cells image) x ≡ Known (signed (slice_index_or image.initial x 0))
  unfolding known zeros
  first_cell x lt = by_place (cases_lt x (length image.initial))
    where
      by_place : (x < length image.initial) ⊎ (length image.initial ≤ x) → cell_at (first_cells image) x ≡ Known (signed (slice_index_or image.initial x 0))
      by_place (inl below) =
          get_or_append_left known zeros Undef x (omega (arith, length-known, below))
          ∙ get_or-map (λ word. Known (signed word)) image.initial x 0 Undef below
      by_place (inr past) =
          let on : x ≡ length known + (x - length image.initial) = omega (arith, length-known, past) in
          ap (λ j. cell_at (first_cells image) j) on
          ∙ get_or-append-add known zeros (x - length image.initial) Undef
          ∙ get_or-replicate (image.workspace - length image.initial) (x - length image.initial) (Known (pos 0)) Undef (omega (arith, lt, past))
          ∙ sym (ap (λ word. Known (signed word)) (get_or_past image.initial x 0 past))

small_word : (image : ImageValue) (x : ℕ) → InRange image → slice_index_or image.initial x 0 < 2 ^ 32
small_word image x range = by_place (cases_lt x (length image.initial))
  where
    by_place : (x < length image.initial) ⊎ (length image.initial ≤ x) → slice_index_or image.initial x 0 < 2 ^ 32
    by_place (inl below) = range.words x 0 below
    by_place (inr past) = rw (get_or_past image.initial x 0 past) (omega arith)

known_fits : (rows : List _) (v : ℕ) → v < 2 ^ 32 → CellFits rows (Known (signed v)) (Some v)
known_fits rows v lt = (v, refl, record { word = lt; above = omega (arith, ints); below = omega (arith, ints) })

pub entry_words : (image : ImageValue) (packet : List ℕ) → InRange image → WordsFit image.loops image.workspace (first_cells image) (start image packet).memory
entry_words image packet range =
    let fits = few image.version (length image.initial) image.workspace range.initial in
    record {
      sized = length-first_cells image fits;
      word = λ x lt. rw (first_cell image fits x lt, start_word image packet x range lt) (known_fits image.loops (slice_index_or image.initial x 0) (small_word image x range));
    }

-- ---- bytes

byte_small : (i n : ℕ) → byte_at i n < 256
byte_small zero n = omega arith
byte_small (suc i) n = rem_small (n / 256 ^ suc i)
  where
    rem_small : (m : ℕ) → m % 256 < 256
    rem_small m = omega arith

low_bytes : (i k n : ℕ) → All (λ byte. byte < 256) (bytes_low_first i k n)
low_bytes i zero n = All-nil (λ byte. byte < 256)
low_bytes i (suc k) n = All-cons (λ byte. byte < 256) (byte_at i n) (bytes_low_first (suc i) k n) (byte_small i n) (low_bytes (suc i) k n)

pub word_bytes : (n : ℕ) → All (λ byte. byte < 256) (to_le_bytes w32 n)
word_bytes n = low_bytes 0 4 n

all_bytes : (words : List ℕ) → All (λ byte. byte < 256) (flat_map (to_le_bytes w32) words)
all_bytes [] = All-nil (λ byte. byte < 256)
all_bytes (n ∷ words) = All-append (λ byte. byte < 256) (to_le_bytes w32 n) (flat_map (to_le_bytes w32) words) (word_bytes n) (all_bytes words)

stored_byte : (bytes : List ℕ) (i byte : ℕ) → All (λ byte. byte < 256) bytes → slice_index_or (map Some bytes) i None ≡ Some byte → byte < 256
stored_byte bytes i byte all e = by_place (cases_lt i (length bytes))
  where
    by_place : (i < length bytes) ⊎ (length bytes ≤ i) → byte < 256
    by_place (inl lt) =
        let is : get_or bytes i 0 ≡ byte = same_Some _ _ (sym (get_or-map Some bytes i 0 None lt) ∙ e) in
        subst (λ b. b < 256) is (all i 0 lt)
    by_place (inr past) =
        let beyond : length (map Some bytes) ≤ i = omega (arith, length-map bytes (λ (b : ℕ). Some b), past) in
        let none = get_or_past (map Some bytes) i None beyond in
        absurd (cc)

-- ---- the whole

pub entry_bytes : (image : ImageValue) (packet : List ℕ) (a byte : ℕ) → (start image packet).memory a ≡ Some byte → byte < 256
unfolding start with_bytes with_cells
entry_bytes image packet a byte e = by_test (nat_le mem_start a && nat_lt a (mem_start + length bytes)) e
  where
    bytes : List (Option ℕ)
    bytes = map Some (flat_map (to_le_bytes w32) (first_words image))

    by_test : (b : Bool) → (if b then slice_index_or bytes (a - mem_start) None else None) ≡ Some byte → byte < 256
    by_test true e = stored_byte (flat_map (to_le_bytes w32) (first_words image)) (a - mem_start) byte (all_bytes (first_words image)) e
    by_test false e = absurd (cc)

free_first : (image : ImageValue) (fits : length image.initial ≤ image.workspace) (x : ℕ) → is_free (cell_at (first_cells image) x) ≡ true
free_first image fits x = by_place (cases_lt x image.workspace)
  where
    by_place : (x < image.workspace) ⊎ (image.workspace ≤ x) → is_free (cell_at (first_cells image) x) ≡ true
    by_place (inl lt) = ap is_free (first_cell image fits x lt)
    by_place (inr past) = ap is_free (get_or_past (first_cells image) x Undef (omega (arith, length-first_cells image fits, past)))

pub start_fits : (image : ImageValue) (packet : List ℕ) → InRange image → 4 * image.packet ≤ length packet →
    All (λ byte. byte < 256) packet → IsOutside (ranges image.loops) 0 → Fits image 0 (entry image) (start image packet)
unfolding start
start_fits image packet range long small outside =
    let fits = few image.version (length image.initial) image.workspace range.initial in
    record {
      place = record { running = refl; iptr = refl; oreg = refl; wptr = refl; roomy = range.start_least; inside = range.start_most };
      phase = refl;
      registers = record { a = tt; b = tt; c = tt };
      words = entry_words image packet range;
      bytes = record { memory = entry_bytes image packet; packet = small };
      packet = λ before. long;
      loops = record {
        live = λ l row is row_is. absurd (true_false (sym is ∙ outside l));
        only = λ x live. absurd (true_false (sym (free_first image fits x) ∙ live));
      };
    }
  where
    true_false : true ≡ false → ⊥
    true_false e = cc
