-- The words of bytes, word by word.
use Rattle.std.proofs.Common.{◌≡◌, ℕ, ◌+◌, ◌-◌, ◌<◌, ◌≤◌, ◌&&◌, not, Bool, true, false, List, [], ◌∷◌, ◌++◌, length}
use Rattle.std.proofs.Common.{take, drop, get_or, refl, ap, sym, ◌∙◌, arith, append_assoc, length-drop, drop-cons}
use Rattle.std.proofs.Common.{add-one}
use Rattle.std.specs.List.{list_all, slice_range}
use Rattle.std.specs.Char.{is_ascii_whitespace}
use Rattle.std.proofs.lemmas.List.{length-take-le, take_more, get_or-drop, drop_all, append-nil, take_all}
use Rattle.std.proofs.lemmas.Bool.Decides.{nat_tests}
use Rattle.std.proofs.lemmas.List.Folds.{drop_split, list_all-append}
use Rattle.tpw_text.specs.Words.{is_mark, is_plain, begins, begins_comment, before_comment, onto_first, tokens, word_if_any}

-- bytes that pass a test, and a first one
pub both_true : (a b : Bool) → (a && b) ≡ true → (a ≡ true) × (b ≡ true)
both_true true b e = (refl, e)
both_true false b e = cc

plain_is_not_white : (b : ℕ) → is_plain b ≡ true → is_ascii_whitespace b ≡ false
unfolding is_plain
plain_is_not_white b h = by_test (is_ascii_whitespace b) refl (both_true (not (is_ascii_whitespace b)) (not (is_mark b)) h).0
  where
    by_test : (t : Bool) → is_ascii_whitespace b ≡ t → not t ≡ true → is_ascii_whitespace b ≡ false
    by_test true e n = cc
    by_test false e n = e

white_is_not_plain : (b : ℕ) → is_ascii_whitespace b ≡ true → is_plain b ≡ false
unfolding is_plain
white_is_not_plain b h = rw h refl

pub not_plain : (b : ℕ) → is_plain b ≡ false → is_mark b ≡ false → is_ascii_whitespace b ≡ true
unfolding is_plain
not_plain b p m = by_test (is_ascii_whitespace b) (is_mark b) p m
  where
    by_test : (t u : Bool) → (not t && not u) ≡ false → u ≡ false → t ≡ true
    by_test true u p m = refl
    by_test false true p m = cc
    by_test false false p m = cc

-- a mark is not white space
mark_is_not_white : (b : ℕ) → is_mark b ≡ true → is_ascii_whitespace b ≡ false
mark_is_not_white b m = grind (arith, nat_tests)

-- white space
pub at_white : (line column b : ℕ) (bytes : List ℕ) → is_ascii_whitespace b ≡ true → tokens line column (b ∷ bytes) ≡ tokens line (column + 1) bytes
unfolding tokens
at_white line column b bytes h = rw h refl

-- a byte that is a word by itself
pub alone : (line column b : ℕ) (bytes : List ℕ) → is_ascii_whitespace b ≡ false → (is_plain b && begins is_plain bytes) ≡ false
    → tokens line column (b ∷ bytes) ≡ record { text = b ∷ []; line = line; column = column } ∷ tokens line (column + 1) bytes
unfolding tokens
alone line column b bytes w h = rw (w, h) refl

joined : (line column b : ℕ) (bytes : List ℕ) → is_ascii_whitespace b ≡ false → (is_plain b && begins is_plain bytes) ≡ true
    → tokens line column (b ∷ bytes) ≡ onto_first b column (tokens line (column + 1) bytes)
unfolding tokens
joined line column b bytes w h = rw (w, h) refl

-- plain bytes, and others behind them
pub a_run : (line column : ℕ) (text rest : List ℕ) → list_all is_plain text ≡ true → begins is_plain rest ≡ false
    → tokens line column (text ++ rest) ≡ word_if_any line column text ++ tokens line (column + length text) rest
a_run line column [] rest all ends = ap (λ c. tokens line c rest) (omega arith)
a_run line column (b ∷ []) rest all ends =
    let is : is_plain b ≡ true = (both_true (is_plain b) true all).0 in
    alone line column b rest (plain_is_not_white b is) (rw (is, ends) refl)
a_run line column (b ∷ d ∷ text) rest all ends =
    let is = both_true (is_plain b) (list_all is_plain (d ∷ text)) all in
    let next = both_true (is_plain d) (list_all is_plain text) is.1 in
    let more = a_run line (column + 1) (d ∷ text) rest is.1 ends in
    let far : column + 1 + length (d ∷ text) ≡ column + length (b ∷ d ∷ text) = omega arith in
    joined line column b (d ∷ text ++ rest) (plain_is_not_white b is.0) (rw (is.0, next.0) refl)
    ∙ ap (onto_first b column) more
    ∙ ap (λ c. record { text = b ∷ d ∷ text; line = line; column = column } ∷ tokens line c rest) far

-- what stands from a place on
at_place : (text : List ℕ) (i : ℕ) → i < length text → drop i text ≡ get_or text i 0 ∷ drop (i + 1) text
at_place text i h = rw add-one (drop-cons text i 0 h)

one_byte : (text : List ℕ) (i : ℕ) → i < length text → slice_range text i (i + 1) ≡ get_or text i 0 ∷ []
one_byte text i h =
    let one : i + 1 - i ≡ 1 = omega arith in
    rw (one, at_place text i h) refl

-- the words from the start of plain bytes on, where they end
pub run_ends : (line start i : ℕ) (text : List ℕ) → start ≤ i → i ≤ length text → list_all is_plain (slice_range text start i) ≡ true
    → begins is_plain (drop i text) ≡ false
    → tokens line (start + 1) (drop start text) ≡ word_if_any line (start + 1) (slice_range text start i) ++ tokens line (i + 1) (drop i text)
run_ends line start i text order within all ends =
    let run : List ℕ = slice_range text start i in
    let long : length run ≡ i - start = length-take-le (i - start) (drop start text) (omega (arith, length-drop start text)) in
    let far : start + 1 + length run ≡ i + 1 = omega arith in
    ap (tokens line (start + 1)) (drop_split text start i order) ∙ a_run line (start + 1) run (drop i text) all ends
    ∙ ap (λ c. word_if_any line (start + 1) run ++ tokens line c (drop i text)) far

one_more : (text : List ℕ) (start i : ℕ) → start ≤ i → i < length text → slice_range text start (i + 1) ≡ slice_range text start i ++ get_or text i 0 ∷ []
one_more text start i order within =
    let more : i + 1 - start ≡ i - start + 1 = omega arith in
    let at : start + (i - start) ≡ i = omega arith in
    let here : get_or (drop start text) (i - start) 0 ≡ get_or text i 0 = get_or-drop start text (i - start) 0 ∙ ap (λ k. get_or text k 0) at in
    rw more (take_more (drop start text) (i - start) 0 (omega (arith, length-drop start text)) ∙ ap (λ b. slice_range text start i ++ b ∷ []) here)

-- a plain byte more
pub run_goes_on : (text : List ℕ) (start i : ℕ) → start ≤ i → i < length text → list_all is_plain (slice_range text start i) ≡ true
    → is_plain (get_or text i 0) ≡ true → list_all is_plain (slice_range text start (i + 1)) ≡ true
run_goes_on text start i order within all here =
    rw (one_more text start i order within, list_all-append is_plain, all, here) refl

-- white space behind plain bytes
pub then_white : (line start i : ℕ) (text : List ℕ) → start ≤ i → i < length text → list_all is_plain (slice_range text start i) ≡ true
    → is_plain (get_or text i 0) ≡ false → is_mark (get_or text i 0) ≡ false
    → tokens line (start + 1) (drop start text) ≡ word_if_any line (start + 1) (slice_range text start i) ++ tokens line (i + 1 + 1) (drop (i + 1) text)
then_white line start i text order within all plain mark =
    let at = at_place text i within in
    let ends : begins is_plain (drop i text) ≡ false = rw at plain in
    let white : tokens line (i + 1) (drop i text) ≡ tokens line (i + 1 + 1) (drop (i + 1) text) =
    ap (tokens line (i + 1)) at ∙ at_white line (i + 1) (get_or text i 0) (drop (i + 1) text) (not_plain (get_or text i 0) plain mark) in
    run_ends line start i text order (omega arith) all ends ∙ ap (λ words. word_if_any line (start + 1) (slice_range text start i) ++ words) white

-- a mark behind plain bytes
pub then_mark : (line start i : ℕ) (text : List ℕ) → start ≤ i → i < length text → list_all is_plain (slice_range text start i) ≡ true
    → is_plain (get_or text i 0) ≡ false → is_mark (get_or text i 0) ≡ true
    → tokens line (start + 1) (drop start text) ≡ (word_if_any line (start + 1) (slice_range text start i) ++ word_if_any line (i + 1) (slice_range text i (i + 1)))
    ++ tokens line (i + 1 + 1) (drop (i + 1) text)
then_mark line start i text order within all plain mark =
    let at = at_place text i within in
    let b : ℕ = get_or text i 0 in
    let ends : begins is_plain (drop i text) ≡ false = rw at plain in
    let self : tokens line (i + 1) (drop i text) ≡ word_if_any line (i + 1) (slice_range text i (i + 1)) ++ tokens line (i + 1 + 1) (drop (i + 1) text) =
    rw (one_byte text i within) (ap (tokens line (i + 1)) at ∙ alone line (i + 1) b (drop (i + 1) text) (mark_is_not_white b mark) (rw plain refl)) in
    run_ends line start i text order (omega arith) all ends
    ∙ ap (λ words. word_if_any line (start + 1) (slice_range text start i) ++ words) self
    ∙ sym (append_assoc (word_if_any line (start + 1) (slice_range text start i)) (word_if_any line (i + 1) (slice_range text i (i + 1))) (tokens line (i + 1 + 1) (drop (i + 1) text)))

-- the last of them
pub at_end : (line start : ℕ) (text : List ℕ) → start ≤ length text → list_all is_plain (slice_range text start (length text)) ≡ true
    → tokens line (start + 1) (drop start text) ≡ word_if_any line (start + 1) (slice_range text start (length text))
unfolding tokens
at_end line start text order all =
    let none : drop (length text) text ≡ [] = drop_all (length text) text (omega arith) in
    run_ends line start (length text) text order (omega arith) all (rw none refl)
    ∙ ap (λ rest. word_if_any line (start + 1) (slice_range text start (length text)) ++ tokens line (length text + 1) rest) none
    ∙ append-nil (word_if_any line (start + 1) (slice_range text start (length text)))

-- the bytes before a comment, from a place on
commented : (bytes : List ℕ) → begins_comment bytes ≡ true → before_comment bytes ≡ []
unfolding before_comment
commented [] h = refl
commented (b ∷ bytes) h = rw h refl

goes_on : (b : ℕ) (bytes : List ℕ) → begins_comment (b ∷ bytes) ≡ false → before_comment (b ∷ bytes) ≡ b ∷ before_comment bytes
unfolding before_comment
goes_on b bytes h = rw h refl

pub comment_begins : (text : List ℕ) (at : ℕ) → before_comment text ≡ take at text ++ before_comment (drop at text)
    → begins_comment (drop at text) ≡ true → take at text ≡ before_comment text
comment_begins text at so_far here =
    sym (so_far ∙ ap (λ rest. take at text ++ rest) (commented (drop at text) here) ∙ append-nil (take at text))

pub no_comment_begins : (text : List ℕ) (at : ℕ) → at < length text → before_comment text ≡ take at text ++ before_comment (drop at text)
    → begins_comment (drop at text) ≡ false → before_comment text ≡ take (at + 1) text ++ before_comment (drop (at + 1) text)
no_comment_begins text at within so_far here =
    let front = at_place text at within in
    let b : ℕ = get_or text at 0 in
    let next : before_comment (drop at text) ≡ b ∷ before_comment (drop (at + 1) text) =
    ap before_comment front ∙ goes_on b (drop (at + 1) text) (rw front at here) in
    so_far ∙ ap (λ rest. take at text ++ rest) next
    ∙ sym (append_assoc (take at text) (b ∷ []) (before_comment (drop (at + 1) text)))
    ∙ ap (λ before. before ++ before_comment (drop (at + 1) text)) (sym (take_more text at 0 within))

pub no_comment : (text : List ℕ) (at : ℕ) → at ≡ length text → before_comment text ≡ take at text ++ before_comment (drop at text) → text ≡ before_comment text
unfolding before_comment
no_comment text at end so_far =
    sym (so_far ∙ ap (λ rest. take at text ++ before_comment rest) (drop_all at text (omega arith)) ∙ append-nil (take at text) ∙ take_all at text (omega arith))

-- a word that has not begun
pub nothing_yet : (text : List ℕ) (i : ℕ) → list_all is_plain (slice_range text i i) ≡ true
nothing_yet text i = let none : i - i ≡ 0 = omega arith in rw none refl
