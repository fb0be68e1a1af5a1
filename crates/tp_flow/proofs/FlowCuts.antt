-- Where the instructions of a cutting start.
use Rattle.std.proofs.Common.{◌≡◌, ◌≢◌, ℕ, ◌+◌, ◌-◌, ◌<◌, ◌≤◌, Bool, true, false, nat_eq, nat_lt, if◌then◌else◌, List, [], ◌∷◌, length, Some, None, refl, ap, ◌∙◌, arith, length-append}
use Rattle.std.specs.Option.{is_some}
use Rattle.std.proofs.lemmas.Bool.Decides.{nat_tests}
use Rattle.tp_decode.specs.Cutting.{Cut, code_of, cut_at}
use Rattle.tp_flow.specs.RowRules.{is_start}

-- an instruction of the rest
start_later : (c : Cut) (cuts : List Cut) (to : ℕ) → length c.bytes ≤ to → is_start cuts (to - length c.bytes) ≡ true → is_start (c ∷ cuts) to ≡ true
start_later c cuts to past is = by_test (nat_eq to 0) refl
  where
    by_test : (p : Bool) → nat_eq to 0 ≡ p → is_some (if p then Some c else if nat_lt to (length c.bytes) then None else cut_at cuts (to - length c.bytes)) ≡ true
    by_test true e = refl
    by_test false e = let later : nat_lt to (length c.bytes) ≡ false = grind (arith, nat_tests) in rw later is

start_first : (cuts : List Cut) → length (code_of cuts) ≢ 0 → is_start cuts 0 ≡ true
start_first [] more = absurd (more refl)
start_first (c ∷ cuts) more = refl

-- behind an instruction stands another, or the code ends
pub start_behind : (cuts : List Cut) (at : ℕ) (cut : Cut) → cut_at cuts at ≡ Some cut → at + length cut.bytes ≢ length (code_of cuts) → is_start cuts (at + length cut.bytes) ≡ true
start_behind [] at cut is more = absurd cc
start_behind (c ∷ cuts) at cut is more = by_test (start_behind cuts (at - length c.bytes) cut) (nat_eq at 0) refl (nat_lt at (length c.bytes)) refl is
  where
    whole : length (code_of (c ∷ cuts)) ≡ length c.bytes + length (code_of cuts)
    whole = length-append c.bytes (code_of cuts)

    by_test : (cut_at cuts (at - length c.bytes) ≡ Some cut → at - length c.bytes + length cut.bytes ≢ length (code_of cuts) → is_start cuts (at - length c.bytes + length cut.bytes) ≡ true)
        → (p : Bool) → nat_eq at 0 ≡ p → (q : Bool) → nat_lt at (length c.bytes) ≡ q →
        (if p then Some c else if q then None else cut_at cuts (at - length c.bytes)) ≡ Some cut →
        is_start (c ∷ cuts) (at + length cut.bytes) ≡ true
    by_test go true e q e' is =
        let same : c ≡ cut = cc in
        let none : at ≡ 0 = grind (arith, nat_tests) in
        let lengths : length c.bytes ≡ length cut.bytes = ap (λ x. length x.bytes) same in
        let left : length (code_of cuts) ≢ 0 = λ h. more (omega (arith, whole)) in
        let nothing : at + length cut.bytes - length c.bytes ≡ 0 = omega arith in
        start_later c cuts (at + length cut.bytes) (omega arith) (ap (is_start cuts) nothing ∙ start_first cuts left)
    by_test go false e true e' is = absurd cc
    by_test go false e false e' is =
        let past : length c.bytes ≤ at = grind (arith, nat_tests) in
        let moved : at + length cut.bytes - length c.bytes ≡ at - length c.bytes + length cut.bytes = omega arith in
        start_later c cuts (at + length cut.bytes) (omega arith) (ap (is_start cuts) moved ∙ go is (λ h. more (omega (arith, whole))))

-- and none in between
pub none_between : (cuts : List Cut) (at : ℕ) (cut : Cut) (to : ℕ) → cut_at cuts at ≡ Some cut → is_start cuts to ≡ true → at < to → at + length cut.bytes ≤ to
none_between [] at cut to is starts lt = absurd cc
none_between (c ∷ cuts) at cut to is starts lt = by_test
    (none_between cuts (at - length c.bytes) cut (to - length c.bytes)) (nat_eq at 0) refl (nat_lt at (length c.bytes))
    refl is (nat_eq to 0) refl (nat_lt to (length c.bytes)) refl starts
  where
    by_test : (cut_at cuts (at - length c.bytes) ≡ Some cut → is_start cuts (to - length c.bytes) ≡ true →
        at - length c.bytes < to - length c.bytes → at - length c.bytes + length cut.bytes ≤ to - length c.bytes)
        → (p : Bool) → nat_eq at 0 ≡ p → (q : Bool) → nat_lt at (length c.bytes) ≡ q → (if p then Some c else if q then None else cut_at cuts (at - length c.bytes)) ≡ Some cut
        → (r : Bool) → nat_eq to 0 ≡ r → (s : Bool) → nat_lt to (length c.bytes) ≡ s →
        is_some (if r then Some c else if s then None else cut_at cuts (to - length c.bytes)) ≡ true →
        at + length cut.bytes ≤ to
    by_test go p e q e' is true f s f' starts = let none : to ≡ 0 = grind (arith, nat_tests) in absurd (omega arith)
    by_test go p e q e' is false f true f' starts = absurd cc
    by_test go true e q e' is false f false f' starts =
        let same : c ≡ cut = cc in
        let past : length c.bytes ≤ to = grind (arith, nat_tests) in
        let none : at ≡ 0 = grind (arith, nat_tests) in
        omega (arith, ap (λ x. length x.bytes) same)
    by_test go false e true e' is false f false f' starts = absurd cc
    by_test go false e false e' is false f false f' starts =
        let past : length c.bytes ≤ at = grind (arith, nat_tests) in omega (arith, go is starts (omega arith))
