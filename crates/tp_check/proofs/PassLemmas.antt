-- The passes have one verdict, and a number of them refuse nothing where more do not.
use Rattle.std.proofs.Common.{◌≡◌, ℕ, zero, suc, ◌+◌, List, Result, Ok, Err, refl, sym, ap, ◌∙◌, arith}
use native.Mathlib.Numerals.{unary_clauses}
use Rattle.tp_decode.specs.Cutting.{Cut}
use Rattle.tp_image.specs.Image.{ImageValue}
use Rattle.tp_state.specs.declared.fault.StateFault.{StateFault}
use Rattle.tp_state.specs.Answer.{◌>>=◌}
use Rattle.tp_check.specs.Tables.{Table}
use Rattle.tp_check.specs.Passes.{pass, passes, IsVerdict}

-- further passes stay at a verdict
further : (image : ImageValue) (cuts : List Cut) (verdict : Result Table StateFault) (n k m : ℕ) → m ≡ k + n →
    passes image cuts n ≡ verdict → (verdict >>= pass image cuts) ≡ verdict → passes image cuts m ≡ verdict
further image cuts verdict n zero m sum arrives stays = let same : m ≡ n = omega (arith, sum) in ap (passes image cuts) same ∙ arrives
further image cuts verdict n (suc k) m sum arrives stays =
    let same : m ≡ suc (k + n) = omega (arith, sum) in
    ap (passes image cuts) same ∙ ap (λ r. r >>= pass image cuts) (further image cuts verdict n k (k + n) refl arrives stays) ∙ stays

pub one_verdict : (image : ImageValue) (cuts : List Cut) (verdict other : Result Table StateFault) → IsVerdict image cuts verdict → IsVerdict image cuts other → verdict ≡ other
one_verdict image cuts verdict other is also =
    let late : passes image cuts (is.number + also.number) ≡ other = further image cuts other also.number is.number (is.number + also.number) refl also.arrives also.stays in
    let early : passes image cuts (is.number + also.number) ≡ verdict = further image cuts verdict is.number also.number (is.number + also.number) (omega arith) is.arrives is.stays in
    sym early ∙ late

-- what follows an answer that is Ok
pub ok_first : {A B : Type 0} (r : Result A StateFault) (f : A → Result B StateFault) (b : B) → (r >>= f) ≡ Ok b → (a : A) × (r ≡ Ok a) × (f a ≡ Ok b)
ok_first (Ok a) f b is = (a, refl, is)
ok_first (Err e) f b is = absurd cc

-- where this many passes refuse nothing, fewer do not
pub fewer : (image : ImageValue) (cuts : List Cut) (n more : ℕ) (table : Table) → passes image cuts (n + more) ≡ Ok table → (t : Table) × (passes image cuts n ≡ Ok t)
fewer image cuts n zero table is = (table, simp unary_clauses at is)
fewer image cuts n (suc more) table is =
    let before = ok_first (passes image cuts (n + more)) (pass image cuts) table (simp unary_clauses at is) in
    fewer image cuts n more before.0 before.1
