use Rattle.std.proofs.Common.{◌≡◌, ℕ, List, [], ◌∷◌, ◌++◌, map, nat_eq, ◌||◌, refl, ap, sym, ◌∙◌}
use Rattle.std.specs.List.{list_any}
use Rattle.tpw_occam_core.specs.declared.scope.Entry.TheVariants as entry
use Rattle.tpw_occam_core.specs.Sound.{is_array}
use Rattle.tpw_occam_symbolic.proofs.uses.is_global.Goals as goal

arrays_in : (arrays : List ℕ) (a : ℕ) → list_any (is_array a) (map entry.Array arrays) ≡ list_any (λ b. nat_eq b a) arrays
arrays_in [] a = refl
arrays_in (b ∷ arrays) a = ap (λ t. nat_eq b a || t) (arrays_in arrays a)

globals_in : (variables arrays : List ℕ) (a : ℕ)
    → list_any (is_array a) (map entry.Variable variables ++ map entry.Array arrays) ≡ list_any (λ b. nat_eq b a) arrays
globals_in [] arrays a = arrays_in arrays a
globals_in (x ∷ variables) arrays a = globals_in variables arrays a

pub returns : goal.returns
returns c =
    let worker = c.args.worker.now in
    c.contains.ensures.value ∙ ap (list_any (λ b. nat_eq b c.args.a)) c.deref.ensures.value
    ∙ sym (globals_in worker.global_variables.items worker.global_arrays.items c.args.a)
