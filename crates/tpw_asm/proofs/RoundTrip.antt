-- The lines of a code spell its bytes.
use Rattle.std.proofs.Common.{◌≡◌, ℕ, suc, ◌+◌, ◌-◌, ◌≤◌, Bool, true, false, ◌&&◌, nat_eq, nat_lt, if◌then◌else◌, List}
use Rattle.std.proofs.Common.{[], ◌∷◌, ◌++◌, length, map, take, drop, replicate, Some, None, refl, sym, ap, ◌∙◌, arith}
use Rattle.std.specs.List.{concat, flat_map, list_all, AllByRecursion}
use Rattle.std.proofs.lemmas.Bool.Decides.{nat_tests}
use Rattle.tp_decode.specs.declared.instr.Instr.{Instr}
use Rattle.tp_decode.specs.Lines.{shortest}
use Rattle.tp_decode.specs.Cutting.{Cut, IsSpelled, code_of as code_of_cuts}
use Rattle.tpw_asm.specs.declared.program.Operation.{Operation}
use Rattle.tpw_asm.specs.declared.program.Operation.TheVariants.{Plain, JumpTo, CjTo, Distance}
use Rattle.tpw_asm.specs.declared.program.Line.{Line}
use Rattle.tpw_asm.specs.declared.program.Line.TheVariants.{Byte, Spelled}
use Rattle.tpw_asm.specs.Layout.{spelled_at, spelled_from}
use Rattle.tpw_asm.specs.Faults.{line_fault, is_stated}
use Rattle.tpw_asm.specs.CodeLines.{is_filled, stated, cut_lines, AreLinesOf}
use Rattle.std.proofs.lemmas.Bool.{and_parts}
use Rattle.std.proofs.lemmas.Slice.Eq.{bytes_eq-Decides}
use Rattle.std.proofs.lemmas.List.{length-take-le, take-append-drop}
use Rattle.std.proofs.lemmas.List.Folds.{concat-append}
use Rattle.tpw_asm.proofs.CodeLines.{append_nil}
use Rattle.tp_prefix.proofs.Reach.{canonical_least}

-- a line that has no distance
abbrev pub IsAheadOperation : Operation → Type 0
IsAheadOperation (Plain instr) = Unit {0}
IsAheadOperation (JumpTo target) = Unit {0}
IsAheadOperation (CjTo target) = Unit {0}
IsAheadOperation (Distance from to) = ⊥

abbrev pub IsAhead : Line → Type 0
IsAhead (Byte byte) = Unit {0}
IsAhead (Spelled operation bytes) = IsAheadOperation operation

-- a line that needs no place
pub record IsOwn (line : Line) : Type 0 where
  pub bytes : List ℕ
  pub spelled : (addresses : List ℕ) (number : ℕ) → spelled_at addresses number line ≡ bytes
  pub sound : (count number : ℕ) → line_fault count number line ≡ None
  pub fits : is_stated line (length bytes) ≡ true
  pub ahead : IsAhead line

own_byte : (byte : ℕ) → IsOwn (Byte byte)
own_byte byte = record { bytes = byte ∷ []; spelled = λ addresses number. refl; sound = λ count number. refl; fits = refl; ahead = tt }

-- filling up by zeros
all_zeros : (xs : List ℕ) → list_all (λ byte. nat_eq byte 0x20) xs ≡ true → xs ≡ replicate (length xs) 0x20
all_zeros [] e = refl
all_zeros (x ∷ xs) e = by_test (all_zeros xs) (nat_eq x 0x20) refl e
  where
    by_test : (list_all (λ byte. nat_eq byte 0x20) xs ≡ true → xs ≡ replicate (length xs) 0x20) → (p : Bool) →
        nat_eq x 0x20 ≡ p → (p && list_all (λ byte. nat_eq byte 0x20) xs) ≡ true →
        x ∷ xs ≡ replicate (suc (length xs)) 0x20
    by_test go true is e = let x_is : x ≡ 0x20 = grind (arith, nat_tests) in let rest = go e in cc
    by_test go false is e = cc

filled_is : (bytes least : List ℕ) → is_filled bytes least ≡ true → length least ≤ length bytes → bytes ≡ replicate (length bytes - length least) 0x20 ++ least
filled_is bytes least e h =
    let pad = length bytes - length least in
    let parts = and_parts _ _ e in
    let count : length (take pad bytes) ≡ pad = length-take-le pad bytes (omega arith) in
    let front : take pad bytes ≡ replicate pad 0x20 = all_zeros (take pad bytes) parts.0 ∙ ap (λ n. replicate n 0x20) count in
    let back : drop pad bytes ≡ least = (bytes_eq-Decides (drop pad bytes) least).0 parts.1 in
    sym (take-append-drop pad bytes) ∙ ap (λ xs. xs ++ drop pad bytes) front ∙ ap (λ xs. replicate pad 0x20 ++ xs) back

own_filled : (bytes : List ℕ) (instr : Instr) → is_filled bytes (shortest instr) ≡ true →
    length (shortest instr) ≤ length bytes → length bytes ≤ 8 →
    IsOwn (Spelled (Plain instr) (stated bytes (shortest instr)))
own_filled bytes instr e h h' = by_test (nat_eq (length bytes) (length (shortest instr))) refl
  where
    is : bytes ≡ replicate (length bytes - length (shortest instr)) 0x20 ++ shortest instr
    is = filled_is bytes (shortest instr) e h

    by_test : (p : Bool) → nat_eq (length bytes) (length (shortest instr)) ≡ p → IsOwn (Spelled (Plain instr) (if p then None else Some (length bytes)))
    by_test true same =
        let equal : length bytes ≡ length (shortest instr) = grind (arith, nat_tests) in
        record {
          bytes = bytes;
          spelled = λ addresses number. let none : 0 - length (shortest instr) ≡ length bytes - length (shortest instr) = omega arith in ap (λ n. replicate n 0x20 ++ shortest instr) none ∙ sym is;
          sound = λ count number. refl;
          fits = refl;
          ahead = tt;
        }
    by_test false other = record {
      bytes = bytes;
      spelled = λ addresses number. sym is;
      sound = λ count number. let few : nat_lt 8 (length bytes) ≡ false = grind (arith, nat_tests) in rw few refl;
      fits = grind (arith, nat_tests);
      ahead = tt;
    }

own_spelled : (bytes : List ℕ) (instr : Instr) → is_filled bytes (shortest instr) ≡ true → length (shortest instr) ≤ length bytes → length bytes ≤ 8
    → (addresses : List ℕ) (number : ℕ) → spelled_at addresses number (Spelled (Plain instr) (stated bytes (shortest instr))) ≡ bytes
own_spelled bytes instr e h h' addresses number = by_test (nat_eq (length bytes) (length (shortest instr))) refl
  where
    is : bytes ≡ replicate (length bytes - length (shortest instr)) 0x20 ++ shortest instr
    is = filled_is bytes (shortest instr) e h

    by_test : (p : Bool) → nat_eq (length bytes) (length (shortest instr)) ≡ p → spelled_at addresses number (Spelled (Plain instr) (if p then None else Some (length bytes))) ≡ bytes
    by_test true same =
        let equal : length bytes ≡ length (shortest instr) = grind (arith, nat_tests) in
        let none : 0 - length (shortest instr) ≡ length bytes - length (shortest instr) = omega arith in
        ap (λ n. replicate n 0x20 ++ shortest instr) none ∙ sym is
    by_test false other = sym is

-- lines that spell bytes, at any address and number
pub record Spells (lines : List Line) (bytes : List ℕ) : Type 0 where
  pub own : AllByRecursion IsOwn lines
  pub code : (addresses : List ℕ) (number : ℕ) → concat (spelled_from addresses number lines) ≡ bytes

spelled_from-append : (addresses : List ℕ) (number : ℕ) (xs ys : List Line) →
    spelled_from addresses number (xs ++ ys) ≡ spelled_from addresses number xs ++
    spelled_from addresses (number + length xs) ys
spelled_from-append addresses number [] ys = ap (λ n. spelled_from addresses n ys) (omega arith)
spelled_from-append addresses number (x ∷ xs) ys =
    ap (λ zs. spelled_at addresses number x ∷ zs) (spelled_from-append addresses (number + 1) xs ys ∙ ap (λ n. spelled_from addresses (number + 1) xs ++ spelled_from addresses n ys) (omega arith))

own-append : (xs ys : List Line) → AllByRecursion IsOwn xs → AllByRecursion IsOwn ys → AllByRecursion IsOwn (xs ++ ys)
own-append [] ys own own' = own'
own-append (x ∷ xs) ys own own' = (own.0, own-append xs ys own.1 own')

spells-append : (xs ys : List Line) (a b : List ℕ) → Spells xs a → Spells ys b → Spells (xs ++ ys) (a ++ b)
spells-append xs ys a b t u = record {
  own = own-append xs ys t.own u.own;
  code = λ addresses number.
      ap concat (spelled_from-append addresses number xs ys) ∙ concat-append (spelled_from addresses number xs) (spelled_from addresses (number + length xs) ys)
      ∙ ap (λ zs. zs ++ concat (spelled_from addresses (number + length xs) ys)) (t.code addresses number) ∙ ap (λ zs. a ++ zs) (u.code addresses (number + length xs));
}

bytes_code : (addresses : List ℕ) (number : ℕ) (bytes : List ℕ) → concat (spelled_from addresses number (map Byte bytes)) ≡ bytes
bytes_code addresses number [] = refl
bytes_code addresses number (b ∷ bytes) = ap (λ xs. b ∷ xs) (bytes_code addresses (number + 1) bytes)

bytes_own : (bytes : List ℕ) → AllByRecursion IsOwn (map Byte bytes)
bytes_own [] = tt
bytes_own (b ∷ bytes) = (own_byte b, bytes_own bytes)

spells_bytes : (bytes : List ℕ) → Spells (map Byte bytes) bytes
spells_bytes bytes = record { own = bytes_own bytes; code = λ addresses number. bytes_code addresses number bytes }

spells_cut : (cut : Cut) → IsSpelled cut → Spells (cut_lines cut) cut.bytes
spells_cut cut is = by_test (is_filled cut.bytes (shortest cut.instr)) refl
  where
    by_test : (p : Bool) → is_filled cut.bytes (shortest cut.instr) ≡ p
        → Spells (if p then Spelled (Plain cut.instr) (stated cut.bytes (shortest cut.instr)) ∷ [] else map Byte cut.bytes) cut.bytes
    by_test true e =
        let own = own_filled cut.bytes cut.instr e (canonical_least _ _ _ is) is.short in
        record { own = (own, tt); code = λ addresses number. append_nil _ ∙ own_spelled cut.bytes cut.instr e (canonical_least _ _ _ is) is.short addresses number }
    by_test false e = spells_bytes cut.bytes

spells_cuts : (cuts : List Cut) → AllByRecursion IsSpelled cuts → Spells (flat_map cut_lines cuts) (code_of_cuts cuts)
spells_cuts [] all = record { own = tt; code = λ addresses number. refl }
spells_cuts (cut ∷ cuts) all = spells-append (cut_lines cut) (flat_map cut_lines cuts) cut.bytes (code_of_cuts cuts) (spells_cut cut all.0) (spells_cuts cuts all.1)

pub spells_code : (code : List ℕ) (lines : List Line) → AreLinesOf code lines → Spells lines code
spells_code code lines is = rw (is.are, is.joined) (spells-append (flat_map cut_lines is.cuts) (map Byte is.rest) (code_of_cuts is.cuts) is.rest (spells_cuts is.cuts is.each) (spells_bytes is.rest))
