-- The lines of a program that is assembled are spelled in its image.
use Rattle.std.proofs.Common.{◌≡◌, ◌≢◌, ℕ, zero, suc, ◌+◌, ◌<◌, ◌≤◌, ◌^◌, pos, List, [], ◌∷◌, ◌++◌, length, map}
use Rattle.std.proofs.Common.{slice_get, Some, refl, ap, sym, ◌∙◌, arith, length-append, append_assoc, w32}
use Rattle.std.specs.Prelude.{slice_index}
use Rattle.std.specs.List.{concat}
use Rattle.std.proofs.lemmas.Int.{ints}
use Rattle.std.proofs.lemmas.Option.{same_Some}
use mir.Val.{SFits}
use Rattle.tp_prefix.proofs.Reach.{canonical_spells}
use Rattle.tp_decode.specs.Spelling.{IsSpelling}
use Rattle.tp_decode.specs.Table.{entry}
use Rattle.tp_decode.specs.Lines.{shortest}
use Rattle.tp_decode.specs.declared.instr.Instr.{Instr}
use Rattle.tp_decode.specs.declared.instr.Instr.TheVariants.{Jump, Ldlp, Ldnl, Ldc, Ldnlp, Ldl, Adc, Cj, Ajw, Eqc, Stl}
use Rattle.tp_decode.specs.declared.instr.Instr.TheVariants.{Stnl, Rev, Lb, Bsub, Diff, Add, Input, Prod, Gt, Wsub}
use Rattle.tp_decode.specs.declared.instr.Instr.TheVariants.{Output, Sub, Seterr, Csub0, Stopp, Rem, Lend, Div, BitNot}
use Rattle.tp_decode.specs.declared.instr.Instr.TheVariants.{BitXor, Sb, Shr, Shl, Mint, BitAnd, MoveBytes, BitOr, Sum, Mul}
use Rattle.tpw_asm.specs.declared.program.Line.{Line}
use Rattle.tpw_asm.specs.Layout.{addresses_from, spelled_at, spelled_from}

-- ---- lists

pub get_map : {A B : Type 0} (f : A → B) (xs : List A) (k : ℕ) (x : A) → slice_get xs k ≡ Some x → slice_get (map f xs) k ≡ Some (f x)
get_map f [] k x is = cc
get_map f (y ∷ xs) zero x is = ap (λ z. Some (f z)) (same_Some _ _ is)
get_map f (y ∷ xs) (suc k) x is = get_map f xs k x is

pub get_within : {A : Type 0} (xs : List A) (k : ℕ) (x : A) → slice_get xs k ≡ Some x → k < length xs
get_within [] k x is = cc
get_within (y ∷ xs) zero x is = omega arith
get_within (y ∷ xs) (suc k) x is = omega (arith, get_within xs k x is)

pub index_behind : (xs : List ℕ) (k : ℕ) → length xs ≤ k → slice_index xs k ≡ 0
index_behind [] k h = refl
index_behind (x ∷ xs) zero h = absurd (omega (arith, h))
index_behind (x ∷ xs) (suc k) h = index_behind xs k (omega (arith, h))

-- ---- lines

pub first_address : (at : ℕ) (lengths : List ℕ) → slice_index (addresses_from at lengths) 0 ≡ at
first_address at [] = refl
first_address at (x ∷ lengths) = refl

-- where the spelling of a line lies
pub record Parts (addresses : List ℕ) (number at : ℕ) (lines : List Line) (lengths : List ℕ) (k : ℕ) (line : Line) : Type 0 where
  pub before : List ℕ
  pub after : List ℕ
  pub joined : concat (spelled_from addresses number lines) ≡ before ++ spelled_at addresses (number + k) line ++ after
  pub start : slice_index (addresses_from at lengths) k ≡ at + length before
  pub next : slice_index (addresses_from at lengths) (k + 1) ≡ at + length before + length (spelled_at addresses (number + k) line)

pub parts : (addresses : List ℕ) (number at : ℕ) (lines : List Line) (lengths : List ℕ) (k : ℕ) (line : Line)
    → map length (spelled_from addresses number lines) ≡ lengths → slice_get lines k ≡ Some line
    → Parts addresses number at lines lengths k line
parts addresses number at [] lengths k line long is = cc
parts addresses number at (l ∷ lines) [] k line long is = absurd (let none = ap length long in omega (arith, none))
parts addresses number at (l ∷ lines) (x ∷ lengths) zero line long is =
    let same : l ≡ line = same_Some _ _ is in
    let here : number ≡ number + 0 = omega arith in
    let spelling : spelled_at addresses number l ≡ spelled_at addresses (number + 0) line =
    ap (spelled_at addresses number) same ∙ ap (λ n. spelled_at addresses n line) here in
    let first : x ≡ length (spelled_at addresses (number + 0) line) = sym (first_length x _ _ _ long) ∙ ap length spelling in
    record {
      before = [];
      after = concat (spelled_from addresses (number + 1) lines);
      joined = ap (λ b. b ++ concat (spelled_from addresses (number + 1) lines)) spelling;
      start = omega arith;
      next = first_address (at + x) lengths ∙ omega (arith, first);
    }
  where
    first_length : (x y : ℕ) (xs ys : List ℕ) → y ∷ ys ≡ x ∷ xs → y ≡ x
    first_length x y xs ys e = cc
parts addresses number at (l ∷ lines) (x ∷ lengths) (suc k) line long is =
    let first : length (spelled_at addresses number l) ≡ x = first_length x _ _ _ long in
    let rest = parts addresses (number + 1) (at + x) lines lengths k line (rest_lengths x _ _ _ long) is in
    let here : number + 1 + k ≡ number + suc k = omega arith in
    let bytes = spelled_at addresses number l in
    let more : suc k + 1 ≡ suc (k + 1) = omega arith in
    record {
      before = bytes ++ rest.before;
      after = rest.after;
      joined = ap (λ c. bytes ++ c) (rest.joined ∙ ap (λ n. rest.before ++ spelled_at addresses n line ++ rest.after) here)
          ∙ again bytes rest.before (spelled_at addresses (number + suc k) line) rest.after;
      start = rest.start ∙ omega (arith, first, length-append bytes rest.before);
      next = ap (slice_index (at ∷ addresses_from (at + x) lengths)) more ∙ rest.next ∙ omega (arith, first, length-append bytes rest.before, ap (λ n. length (spelled_at addresses n line)) here);
    }
  where
    first_length : (x y : ℕ) (xs ys : List ℕ) → y ∷ ys ≡ x ∷ xs → y ≡ x
    first_length x y xs ys e = cc

    rest_lengths : (x y : ℕ) (xs ys : List ℕ) → y ∷ ys ≡ x ∷ xs → ys ≡ xs
    rest_lengths x y xs ys e = cc

    again : (a b c d : List ℕ) → a ++ (b ++ c ++ d) ≡ (a ++ b) ++ c ++ d
    again a b c d = sym (append_assoc a (b ++ c) d) ∙ ap (λ z. z ++ d) (sym (append_assoc a b c))

-- ---- instructions

pub has_function : (i : Instr) → ((entry i).function < 16) × ((entry i).function ≢ 2) × ((entry i).function ≢ 6)
has_function (Jump n) = (omega arith, omega arith, omega arith)
has_function (Ldlp n) = (omega arith, omega arith, omega arith)
has_function (Ldnl n) = (omega arith, omega arith, omega arith)
has_function (Ldc n) = (omega arith, omega arith, omega arith)
has_function (Ldnlp n) = (omega arith, omega arith, omega arith)
has_function (Ldl n) = (omega arith, omega arith, omega arith)
has_function (Adc n) = (omega arith, omega arith, omega arith)
has_function (Cj n) = (omega arith, omega arith, omega arith)
has_function (Ajw n) = (omega arith, omega arith, omega arith)
has_function (Eqc n) = (omega arith, omega arith, omega arith)
has_function (Stl n) = (omega arith, omega arith, omega arith)
has_function (Stnl n) = (omega arith, omega arith, omega arith)
has_function Rev = (omega arith, omega arith, omega arith)
has_function Lb = (omega arith, omega arith, omega arith)
has_function Bsub = (omega arith, omega arith, omega arith)
has_function Diff = (omega arith, omega arith, omega arith)
has_function Add = (omega arith, omega arith, omega arith)
has_function Input = (omega arith, omega arith, omega arith)
has_function Prod = (omega arith, omega arith, omega arith)
has_function Gt = (omega arith, omega arith, omega arith)
has_function Wsub = (omega arith, omega arith, omega arith)
has_function Output = (omega arith, omega arith, omega arith)
has_function Sub = (omega arith, omega arith, omega arith)
has_function Seterr = (omega arith, omega arith, omega arith)
has_function Csub0 = (omega arith, omega arith, omega arith)
has_function Stopp = (omega arith, omega arith, omega arith)
has_function Rem = (omega arith, omega arith, omega arith)
has_function Lend = (omega arith, omega arith, omega arith)
has_function Div = (omega arith, omega arith, omega arith)
has_function BitNot = (omega arith, omega arith, omega arith)
has_function BitXor = (omega arith, omega arith, omega arith)
has_function Sb = (omega arith, omega arith, omega arith)
has_function Shr = (omega arith, omega arith, omega arith)
has_function Shl = (omega arith, omega arith, omega arith)
has_function Mint = (omega arith, omega arith, omega arith)
has_function BitAnd = (omega arith, omega arith, omega arith)
has_function MoveBytes = (omega arith, omega arith, omega arith)
has_function BitOr = (omega arith, omega arith, omega arith)
has_function Sum = (omega arith, omega arith, omega arith)
has_function Mul = (omega arith, omega arith, omega arith)

-- the shortest spelling is one
pub shortest_spells : (i : Instr) → SFits w32 (entry i).operand → IsSpelling (shortest i) (entry i).function (entry i).operand
shortest_spells i fits =
    let f = has_function i in
    canonical_spells (entry i).function (entry i).operand fits f.0 f.1 f.2

pub small_fits : (n : ℕ) → n < 2 ^ 31 → SFits w32 (pos n)
small_fits n h = omega (arith, ints, h)
