-- A code that is none of the operations' own gives none.
use Rattle.std.proofs.Common.{◌≡◌, Bool, false, List, [], ◌∷◌, None, arith, refl, sym}
use Rattle.std.specs.List.{find, AllByRecursion}
use Rattle.std.specs.Ordering.{int_eq}
use Rattle.tp_decode.specs.declared.instr.Instr.{Instr}
use Rattle.tp_decode.specs.Table.{operation, operations, entry}
use Rattle.tp_decode.proofs.instr.Instr.operation.Goals as goal

find_none : (p : Instr → Bool) (is : List Instr) → AllByRecursion (λ i. p i ≡ false) is → find p is ≡ None
find_none p [] all = refl
find_none p (i ∷ is) all = rw all.0 (find_none p is all.1)

-- src/instr.rt:191:5
pub returns-in_default : goal.returns-in_default
unfolding operation
returns-in_default c =
    sym (find_none (λ i. int_eq (entry i).operand c.args.code) operations ((
      grind (arith),
      (
        grind (arith),
        (
          grind (arith),
          (
            grind (arith),
            (
              grind (arith),
              (
                grind (arith),
                (
                  grind (arith),
                  (
                    grind (arith),
                    (
                      grind (arith),
                      (
                        grind (arith),
                        (
                          grind (arith),
                          (
                            grind (arith),
                            (
                              grind (arith),
                              (
                                grind (arith),
                                (
                                  grind (arith),
                                  (
                                    grind (arith),
                                    (
                                      grind (arith),
                                      (
                                        grind (arith),
                                        (
                                          grind (arith),
                                          (
                                            grind (arith),
                                            (
                                              grind (arith),
                                              (
                                                grind (arith),
                                                (
                                                  grind (arith),
                                                  (
                                                    grind (arith),
                                                    (
                                                      grind (arith),
                                                      (
                                                        grind (arith),
                                                        (
                                                          grind (arith),
                                                          (
                                                            grind (arith),
                                                            tt,
                                                          ),
                                                        ),
                                                      ),
                                                    ),
                                                  ),
                                                ),
                                              ),
                                            ),
                                          ),
                                        ),
                                      ),
                                    ),
                                  ),
                                ),
                              ),
                            ),
                          ),
                        ),
                      ),
                    ),
                  ),
                ),
              ),
            ),
          ),
        ),
      ),
    )))
