-- An instruction of a cutting as it stands in the code.
use Rattle.std.proofs.Common.{◌≡◌, ℕ, ◌+◌, ◌-◌, ◌*◌, ◌%◌, ◌^◌, ◌<◌, ◌≤◌, Bool, true, false, nat_eq, nat_lt}
use Rattle.std.proofs.Common.{if◌then◌else◌, ℤ, pos, List, [], ◌∷◌, ◌++◌, length, take, drop, Option, Some, None, refl}
use Rattle.std.proofs.Common.{sym, ap, ◌∙◌, subst, arith, append_assoc, length-append}
use Rattle.std.proofs.lemmas.Int.{ints}
use Rattle.std.proofs.lemmas.Bool.Decides.{nat_tests, Decides-eqb}
use Rattle.std.proofs.lemmas.List.{take_at, drop_at}
use Rattle.std.proofs.lemmas.Option.{same_Some}
use Rattle.std.specs.List.{AllByRecursion}
use Rattle.tp_words.specs.Words.{signed, complement}
use Rattle.tp_decode.specs.Spelling.{function_of, digit_of, is_prefix, is_pfix, is_nfix, shifted, shifted_complement, spelled, IsSpelling, IsSpelledAt}
use Rattle.tp_decode.specs.Table.{entry}
use Rattle.tp_decode.specs.Cutting.{Cut, IsSpelled, IsCutting, code_of, cut_at}
use Rattle.tp_words.specs.Numbers.{overflows}
use Rattle.tp_state.proofs.WordLemmas.{low_word_lt, signed_above, signed_below}

-- ---- where it stands

-- a code before an instruction, and behind it
record Lies (cuts : List Cut) (at : ℕ) (cut : Cut) : Type 0 where
  front : List ℕ
  rest : List ℕ
  joined : code_of cuts ≡ front ++ (cut.bytes ++ rest)
  place : length front ≡ at
  spelled : IsSpelled cut

lies : (cuts : List Cut) (at : ℕ) (cut : Cut) → AllByRecursion IsSpelled cuts → cut_at cuts at ≡ Some cut → Lies cuts at cut
lies [] at cut all e = cc
lies (c ∷ cuts) at cut all e = by_place (nat_eq at 0) refl (nat_lt at (length c.bytes)) refl e (lies cuts (at - length c.bytes) cut all.1)
  where
    by_place : (p : Bool) → nat_eq at 0 ≡ p → (q : Bool) → nat_lt at (length c.bytes) ≡ q → (if p then Some c else if q then None else cut_at cuts (at - length c.bytes)) ≡ Some cut
        → (cut_at cuts (at - length c.bytes) ≡ Some cut → Lies cuts (at - length c.bytes) cut) → Lies (c ∷ cuts) at cut
    by_place true here q e' e go =
        let same : c ≡ cut = cc in
        let zero_at : at ≡ 0 = (Decides-eqb at 0).0 here in
        record { front = []; rest = code_of cuts; joined = ap (λ (d : Cut). d.bytes ++ code_of cuts) same; place = sym zero_at; spelled = subst IsSpelled same all.0 }
    by_place false here true e' e go = cc
    by_place false here false e' e go =
        let more = go e in
        let past : length c.bytes ≤ at = grind (arith, nat_tests) in
        record {
          front = c.bytes ++ more.front;
          rest = more.rest;
          joined = ap (λ bs. c.bytes ++ bs) more.joined ∙ sym (append_assoc c.bytes more.front (cut.bytes ++ more.rest));
          place = length-append c.bytes more.front ∙ omega (arith, more.place);
          spelled = more.spelled;
        }

range_of_it : (front bytes rest : List ℕ) → take (length front + length bytes - length front) (drop (length front) (front ++ (bytes ++ rest))) ≡ bytes
range_of_it front bytes rest =
    let count : length front + length bytes - length front ≡ length bytes = omega arith in
    rw (count, drop_at front (bytes ++ rest) (length front) refl) (take_at bytes rest (length bytes) refl)

pub stands : (code : List ℕ) (cuts : List Cut) (at : ℕ) (cut : Cut) → IsCutting code cuts → cut_at cuts at ≡ Some cut
    → IsSpelledAt code at record { function = (entry cut.instr).function; operand = (entry cut.instr).operand; next = at + length cut.bytes }
stands code cuts at cut cutting here =
    let l = lies cuts at cut cutting.each here in
    let code_is : code ≡ l.front ++ (cut.bytes ++ l.rest) = sym cutting.joined ∙ l.joined in
    let long : length code ≡ length l.front + (length cut.bytes + length l.rest) = ap length code_is ∙
    length-append l.front (cut.bytes ++ l.rest) ∙ ap (λ n. length l.front + n) (length-append cut.bytes l.rest) in
    let bytes_are : take (at + length cut.bytes - at) (drop at code) ≡ cut.bytes =
    ap (λ c. take (at + length cut.bytes - at) (drop at c)) code_is
    ∙ ap (λ n. take (n + length cut.bytes - n) (drop n (l.front ++ (cut.bytes ++ l.rest)))) (sym l.place)
    ∙ range_of_it l.front cut.bytes l.rest in
    record { forward = omega arith; within = omega (arith, l.place); spelling = subst (λ bs. IsSpelling bs (entry cut.instr).function (entry cut.instr).operand) (sym bytes_are) l.spelled }

pub spelling_of : (code : List ℕ) (cuts : List Cut) (at : ℕ) (cut : Cut) → IsCutting code cuts → cut_at cuts at ≡ Some cut → IsSpelled cut
spelling_of code cuts at cut cutting here = (lies cuts at cut cutting.each here).spelled

-- ---- its operand is a word's

shifted_lt : (o : ℕ) → shifted o < 2 ^ 32
shifted_lt o = low_word_lt (pos (16 * o))

shifted_even : (o : ℕ) → shifted o % 16 ≡ 0
shifted_even o = omega arith

operand_small : (bytes : List ℕ) (o f : ℕ) (n : ℤ) → o < 2 ^ 32 → o % 16 ≡ 0 → spelled o bytes ≡ Some (f, n) → overflows n ≡ false
unfolding spelled
operand_small [] o f n lt even e = cc
operand_small (b ∷ []) o f n lt even e = by_test (is_prefix b) e
  where
    small : (w : ℕ) → w < 2 ^ 32 → overflows (signed w) ≡ false
    small w word =
        let low = signed_above w word in
        let high = signed_below w word in
        grind (arith, ints, nat_tests)

    by_test : (p : Bool) → ◌≡◌ {A = Option (ℕ × ℤ)} (if p then None else Some (function_of b, signed (o + digit_of b))) (Some (f, n)) → overflows n ≡ false
    by_test true e = cc
    by_test false e =
        let same : signed (o + digit_of b) ≡ n = ap (λ (q : ℕ × ℤ). q.1) (same_Some _ _ e) in
        rw (← same) (small (o + b % 16) (omega arith))
operand_small (b ∷ c ∷ rest) o f n lt even e =
    by_test (λ o. operand_small (c ∷ rest) o f n) (is_pfix b) (is_nfix b) e
  where
    by_test : ((o : ℕ) → o < 2 ^ 32 → o % 16 ≡ 0 → spelled o (c ∷ rest) ≡ Some (f, n) → overflows n ≡ false) → (p q : Bool)
        → ◌≡◌ {A = Option (ℕ × ℤ)} (if p then spelled (shifted (o + digit_of b)) (c ∷ rest) else if q then spelled
        (shifted_complement (o + digit_of b)) (c ∷ rest) else None) (Some (f, n)) → overflows n ≡ false
    by_test go true q e = go (shifted (o + digit_of b)) (shifted_lt (o + digit_of b)) (shifted_even (o + digit_of b)) e
    by_test go false true e = go (shifted_complement (o + digit_of b)) (shifted_lt (complement (o + digit_of b))) (shifted_even (complement (o + digit_of b))) e
    by_test go false false e = cc

pub operand_fits : (cut : Cut) → IsSpelled cut → overflows (entry cut.instr).operand ≡ false
operand_fits cut s = operand_small cut.bytes 0 (entry cut.instr).function (entry cut.instr).operand (omega arith) (omega arith) s.spells
