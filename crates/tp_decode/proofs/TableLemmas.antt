-- The table gives each instruction back.
use Rattle.std.proofs.Common.{◌≡◌, ℕ, Bool, true, false, nat_eq, if◌then◌else◌, ℤ, List, [], ◌∷◌, Some, refl, sym, ◌∙◌, arith}
use Rattle.std.specs.List.{find, AllByRecursion}
use Rattle.std.specs.Ordering.{int_eq}
use Rattle.std.proofs.lemmas.Option.{same_Some}
use Rattle.std.proofs.lemmas.Bool.Decides.{nat_tests, Decides-int_eq}
use Rattle.tp_decode.specs.declared.instr.Instr.{Instr}
use Rattle.tp_decode.specs.declared.instr.Instr.TheVariants.{Jump, Ldlp, Ldnl, Ldc, Ldnlp, Ldl, Adc, Cj, Ajw, Eqc, Stl}
use Rattle.tp_decode.specs.declared.instr.Instr.TheVariants.{Stnl, Rev, Lb, Bsub, Diff, Add, Input, Prod, Gt, Wsub}
use Rattle.tp_decode.specs.declared.instr.Instr.TheVariants.{Output, Sub, Seterr, Csub0, Stopp, Rem, Lend, Div, BitNot}
use Rattle.tp_decode.specs.declared.instr.Instr.TheVariants.{BitXor, Sb, Shr, Shl, Mint, BitAnd, MoveBytes, BitOr, Sum}
use Rattle.tp_decode.specs.declared.instr.Instr.TheVariants.{Mul}
use Rattle.tp_decode.specs.Table.{entry, functions, operations, operation, instruction}

-- an instruction is that of its entry
pub entry_gives : (i : Instr) → instruction (entry i).function (entry i).operand ≡ Some i
unfolding operation instruction
entry_gives (Jump n) = refl
entry_gives (Ldlp n) = refl
entry_gives (Ldnl n) = refl
entry_gives (Ldc n) = refl
entry_gives (Ldnlp n) = refl
entry_gives (Ldl n) = refl
entry_gives (Adc n) = refl
entry_gives (Cj n) = refl
entry_gives (Ajw n) = refl
entry_gives (Eqc n) = refl
entry_gives (Stl n) = refl
entry_gives (Stnl n) = refl
entry_gives Rev = refl
entry_gives Lb = refl
entry_gives Bsub = refl
entry_gives Diff = refl
entry_gives Add = refl
entry_gives Input = refl
entry_gives Prod = refl
entry_gives Gt = refl
entry_gives Wsub = refl
entry_gives Output = refl
entry_gives Sub = refl
entry_gives Seterr = refl
entry_gives Csub0 = refl
entry_gives Stopp = refl
entry_gives Rem = refl
entry_gives Lend = refl
entry_gives Div = refl
entry_gives BitNot = refl
entry_gives BitXor = refl
entry_gives Sb = refl
entry_gives Shr = refl
entry_gives Shl = refl
entry_gives Mint = refl
entry_gives BitAnd = refl
entry_gives MoveBytes = refl
entry_gives BitOr = refl
entry_gives Sum = refl
entry_gives Mul = refl

-- what is found passes the test, and is as all are
find_passes : (Q : Instr → Type 0) (p : Instr → Bool) (is : List Instr) (i : Instr) → AllByRecursion Q is → find p is ≡ Some i → Q i × (p i ≡ true)
find_passes Q p [] i all e = cc
find_passes Q p (j ∷ is) i all e = by_test (find_passes Q p is i all.1) (p j) refl e
  where
    by_test : (find p is ≡ Some i → Q i × (p i ≡ true)) → (b : Bool) → p j ≡ b → (if b then Some j else find p is) ≡ Some i → Q i × (p i ≡ true)
    by_test go true is_true e = let same = same_Some j i e in (rw (← same) all.0, rw (← same) is_true)
    by_test go false is_false e = go e

all_operations : AllByRecursion (λ i. (entry i).function ≡ 0xF) operations
all_operations = (
  refl,
  (
    refl,
    (
      refl,
      (
        refl,
        (
          refl,
          (
            refl,
            (
              refl,
              (
                refl,
                (
                  refl,
                  (
                    refl,
                    (
                      refl,
                      (
                        refl,
                        (
                          refl,
                          (
                            refl,
                            (
                              refl,
                              (
                                refl,
                                (
                                  refl,
                                  (
                                    refl,
                                    (
                                      refl,
                                      (
                                        refl,
                                        (
                                          refl,
                                          (
                                            refl,
                                            (refl, (refl, (refl, (refl, (refl, (refl, tt)))))),
                                          ),
                                        ),
                                      ),
                                    ),
                                  ),
                                ),
                              ),
                            ),
                          ),
                        ),
                      ),
                    ),
                  ),
                ),
              ),
            ),
          ),
        ),
      ),
    ),
  ),
)

all_functions : (e : ℤ) → AllByRecursion (λ i. (entry i).operand ≡ e) (functions e)
all_functions e = (refl, (refl, (refl, (refl, (refl, (refl, (refl, (refl, (refl, (refl, (refl, (refl, tt))))))))))))

-- an instruction that is given has that entry
pub given_entry : (f : ℕ) (e : ℤ) (i : Instr) → instruction f e ≡ Some i → ((entry i).function ≡ f) × ((entry i).operand ≡ e)
unfolding operation instruction
given_entry f e i is = by_test (nat_eq f 0xF) refl is
  where
    by_test : (b : Bool) → nat_eq f 0xF ≡ b → (if b then find (λ i. int_eq (entry i).operand e) operations else find
        (λ i. nat_eq (entry i).function f) (functions e)) ≡ Some i → ((entry i).function ≡ f) × ((entry i).operand ≡ e)
    by_test true is_opr found =
        let passes = find_passes (λ i. (entry i).function ≡ 0xF) (λ i. int_eq (entry i).operand e) operations i all_operations found in
        let opr : f ≡ 0xF = grind (arith, nat_tests) in
        (passes.0 ∙ sym opr, (Decides-int_eq (entry i).operand e).0 passes.1)
    by_test false not_opr found =
        let passes = find_passes (λ i. (entry i).operand ≡ e) (λ i. nat_eq (entry i).function f) (functions e) i (all_functions e) found in
        let function : (entry i).function ≡ f = grind (arith, nat_tests, passes.1) in
        (function, passes.0)
