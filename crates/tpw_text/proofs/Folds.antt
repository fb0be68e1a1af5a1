-- What lines say, line by line.
use Rattle.std.proofs.Common.{◌≡◌, ℕ, zero, suc, ◌+◌, ◌<◌, List, [], ◌∷◌, ◌++◌, length, map, take, drop, get_or, Result, Ok, Err, refl, ap, sym, ◌∙◌, arith, drop-cons, add-one, zero-add, inl, inr}
use Rattle.std.specs.Result.{IfErr, IsErrAnd}
use Rattle.std.specs.List.{enumerate_from}
use Rattle.std.specs.Str.Lines.{lines}
use Rattle.std.proofs.lemmas.List.{take_more, length-take-le, take-append-drop, take_all}
use Rattle.std.proofs.lemmas.Result.{err_from_is_err_and}
use Rattle.std.proofs.lemmas.Simd.{map-map}
use Rattle.tpw_text.specs.declared.words.Word.{Word}
use Rattle.tpw_text.specs.declared.fault.SourceFault.{SourceFault}
use Rattle.tpw_text.specs.Faults.{then_read, IsRefusal}
use Rattle.tpw_text.specs.Words.{Token, token, words_of_line}
use Rattle.tpw_text.specs.Drafts.{Said, empty}
use Rattle.tpw_text.specs.Meaning.{in_turn, line_said}
use Rattle.tpw_text.specs.Apart.{word_for, draft_apart}
use Rattle.tpw_text.specs.Texts.{words_of_lines, words_say, text_said}
use Rattle.tpw_text.proofs.Apart.{kept}
use Rattle.tpw_text.proofs.Additions.{a_line}

-- a refusal that is passed on
pub passed_on : {A B : Type 0} {read : Result B SourceFault} (r : Result A SourceFault) (e : SourceFault) → IsErrAnd r (λ f. f ≡ e) → IsRefusal read e
    → IfErr r (IsRefusal read)
passed_on r e is h = let p = err_from_is_err_and r is in rw (p.1, p.2) h

-- the words of lines, of a line and of those behind it
pub both : (number : ℕ) (lines more : List (List ℕ)) → words_of_lines number (lines ++ more) ≡ words_of_lines number lines ++ words_of_lines (number + length lines) more
both number [] more = ap (λ n. words_of_lines n more) (omega arith)
both number (line ∷ lines) more =
    let far : number + 1 + length lines ≡ number + length (line ∷ lines) = omega arith in
    ap (λ ws. words_of_line number line ∷ ws) (both (number + 1) lines more)
    ∙ ap (λ n. words_of_line number line ∷ (words_of_lines (number + 1) lines ++ words_of_lines n more)) far

words_on : (lines : List (List ℕ)) (k : ℕ) (line : List ℕ) (more : List (List ℕ)) → length lines ≡ k
    → words_of_lines 1 (lines ++ line ∷ more) ≡ words_of_lines 1 lines ++ words_of_line (k + 1) line ∷ words_of_lines (k + 1 + 1) more
words_on lines k line more long =
    let here : 1 + length lines ≡ k + 1 = omega arith in
    both 1 lines (line ∷ more) ∙ ap (λ n. words_of_lines 1 lines ++ words_of_lines n (line ∷ more)) here

-- what words say to a draft, and those behind them
abbrev pub say : List (List Token) → Said → Result Said SourceFault
say words d = in_turn line_said (map (map word_for) words) d

pub say-append : (words more : List (List Token)) (d : Said) → say (words ++ more) d ≡ then_read (say words d) (say more)
unfolding in_turn
say-append [] more d = refl
say-append (line ∷ words) more d = by (line_said (map word_for line) d) (λ e. say-append words more e)
  where
    by : (r : Result Said SourceFault) → ((e : Said) → say (words ++ more) e ≡ then_read (say words e) (say more)) → then_read r (say (words ++ more)) ≡ then_read (then_read r (say words)) (say more)
    by (Ok e) go = go e
    by (Err e) go = refl

-- a line's words say what their tokens say
line_says : (ws : List Word) (ts : List Token) (a : Said) → map token ws ≡ ts → line_said (map word_for ts) (draft_apart a) ≡ kept draft_apart (line_said ws a)
line_says ws ts a is =
    ap (λ us. line_said (map word_for us) (draft_apart a)) (sym is)
    ∙ ap (λ us. line_said us (draft_apart a)) (map-map word_for token ws)
    ∙ a_line ws a

-- the next line, where what is said so far is known
next : (words more : List (List Token)) (ts : List Token) (ws : List Word) (a : Said) (r : Result Said SourceFault) → words_say words ≡ Ok (draft_apart a)
    → map token ws ≡ ts → line_said ws a ≡ r → words_say (words ++ ts ∷ more) ≡ then_read (kept draft_apart r) (say more)
unfolding in_turn
next words more ts ws a r says is said =
    say-append words (ts ∷ more) empty
    ∙ ap (λ q. then_read q (say (ts ∷ more))) says
    ∙ ap (λ q. then_read q (say more)) (line_says ws ts a is ∙ ap (kept draft_apart) said)

nothing : (d : Said) → say [] d ≡ Ok d
unfolding in_turn
nothing d = refl

-- a line more
pub one_more : (text : List (List ℕ)) (k : ℕ) (d : List ℕ) (a b : Said) (ws : List Word) → k < length text → words_say (words_of_lines 1 (take k text)) ≡ Ok (draft_apart a)
    → map token ws ≡ words_of_line (k + 1) (get_or text k d) → line_said ws a ≡ Ok b → words_say (words_of_lines 1 (take (k + 1) text)) ≡ Ok (draft_apart b)
one_more text k d a b ws within says this is =
    ap (λ ls. words_say (words_of_lines 1 ls)) (take_more text k d within)
    ∙ ap words_say (words_on (take k text) k (get_or text k d) [] (length-take-le k text (omega arith)))
    ∙ next (words_of_lines 1 (take k text)) [] _ ws a (Ok b) says this is
    ∙ nothing (draft_apart b)

-- a line that is refused
pub refused_at : (text : List ℕ) (k : ℕ) (d : List ℕ) (a : Said) (e : SourceFault) (ws : List Word) → k < length (lines text)
    → words_say (words_of_lines 1 (take k (lines text))) ≡ Ok (draft_apart a)
    → map token ws ≡ words_of_line (k + 1) (get_or (lines text) k d) → IsRefusal (line_said ws a) e → IsRefusal (text_said text) e
unfolding text_said
refused_at text k d a e ws within says this (inl h) = inl h
refused_at text k d a e ws within says this (inr h) =
    let all : List (List ℕ) = lines text in
    let whole : take k all ++ get_or all k d ∷ drop (k + 1) all ≡ all = ap (λ xs. take k all ++ xs) (sym (rw add-one (drop-cons all k d within))) ∙ take-append-drop k all in
    inr (ap (λ ls. words_say (words_of_lines 1 ls)) (sym whole)
    ∙ ap words_say (words_on (take k all) k (get_or all k d) (drop (k + 1) all) (length-take-le k all (omega arith)))
    ∙ next (words_of_lines 1 (take k all)) (words_of_lines (k + 1 + 1) (drop (k + 1) all)) _ ws a (Err e) says this h)

-- nothing is said before the first line
pub at_first : (text : List (List ℕ)) (a : Said) → a ≡ empty → words_say (words_of_lines 1 (take 0 text)) ≡ Ok (draft_apart a)
unfolding in_turn
at_first text a is = ap (λ d. Ok (draft_apart d)) (sym is)

-- all is said behind the last
pub at_end : (text : List ℕ) (k : ℕ) (a : Said) → take k (lines text) ≡ lines text → words_say (words_of_lines 1 (take k (lines text))) ≡ Ok (draft_apart a)
    → text_said text ≡ Ok (draft_apart a)
unfolding text_said
at_end text k a is says = ap (λ ls. words_say (words_of_lines 1 ls)) (sym is) ∙ says

-- a line with its number
pub at_number : (n k : ℕ) (text : List (List ℕ)) (d : ℕ × List ℕ) → k < length text → get_or (enumerate_from n text) k d ≡ (n + k, get_or text k d.1)
at_number n k [] d within = absurd (omega arith)
at_number n zero (line ∷ text) d within = ap (λ i. (i, line)) (omega arith)
at_number n (suc k) (line ∷ text) d within = at_number (n + 1) k text d (omega arith) ∙ ap (λ i. (i, get_or text k d.1)) (omega arith)

length-enumerate : (n : ℕ) (text : List (List ℕ)) → length (enumerate_from n text) ≡ length text
length-enumerate n [] = refl
length-enumerate n (line ∷ text) = ap suc (length-enumerate (n + 1) text)

-- the line of a turn of the loop
pub at_turn : (text : List (List ℕ)) (k i : ℕ) (line : List ℕ) → (k < length (enumerate_from 0 text)) × ((i, line) ≡ get_or (enumerate_from 0 text) k (i, line))
    → (k < length text) × (i ≡ k) × (line ≡ get_or text k line)
at_turn text k i line t =
    let within : k < length text = omega (arith, t.0, length-enumerate 0 text) in
    let here : (i, line) ≡ (0 + k, get_or text k line) = t.1 ∙ at_number 0 k text (i, line) within in
    (within, ap (λ p. p.0) here ∙ zero-add k, ap (λ p. p.1) here)

-- the last turn is behind the last line
pub at_last : (text : List (List ℕ)) (k : ℕ) → k ≡ length (enumerate_from 0 text) → take k text ≡ text
at_last text k end = take_all k text (omega (arith, length-enumerate 0 text))
