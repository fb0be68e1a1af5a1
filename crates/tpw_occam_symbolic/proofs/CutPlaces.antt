-- The places of code and the addresses of its instructions: addresses rise, and an instruction is cut at each.
use Rattle.std.proofs.Common.{◌≡◌, ◌⊎◌, inl, inr, ℕ, zero, suc, ◌+◌, ◌-◌, ◌<◌, ◌≤◌, Bool, true, false, nat_eq, nat_lt, List, [], ◌∷◌, length, slice_get, Some, None, refl, ap, sym, ◌∙◌, arith}
use Rattle.std.specs.Prelude.{if◌then◌else◌}
use Rattle.std.proofs.lemmas.Bool.{cases_lt, eqb-true}
use Rattle.std.proofs.lemmas.Bool.Decides.{nat_tests}
use Rattle.std.proofs.lemmas.Option.{same_Some}
use Rattle.tp_decode.specs.Cutting.{Cut, cut_at}
use Rattle.tpw_occam_symbolic.specs.declared.code.CodeLine.{CodeLine}
use Rattle.tpw_occam_symbolic.specs.MatchStates.{Site, address_of}
use Rattle.tpw_occam_symbolic.proofs.Accepting.{cut_of, cuts_from, IsLaidOut}

-- the element at a place of a list
pub get_some : {A : Type 0} (xs : List A) (i : ℕ) → i < length xs → (x : A) × (slice_get xs i ≡ Some x)
get_some [] i h = absurd (omega (arith, h))
get_some (x ∷ xs) zero h = (x, refl)
get_some (x ∷ xs) (suc i) h = get_some xs i (omega (arith, h))

-- ---- one instruction and those behind it

not_first : (n at : ℕ) → 0 < n → n ≤ at → nat_eq at 0 ≡ false
not_first n at some far = grind (arith, nat_tests)

not_inside : (n at : ℕ) → n ≤ at → nat_lt at n ≡ false
not_inside n at far = grind (arith, nat_tests)

not_less : (n at : ℕ) → nat_lt at n ≡ false → n ≤ at
not_less n at h = grind (arith, nat_tests)

behind_cut : (cut : Cut) (cuts : List Cut) (at : ℕ) → 0 < length cut.bytes → length cut.bytes ≤ at → cut_at (cut ∷ cuts) at ≡ cut_at cuts (at - length cut.bytes)
behind_cut cut cuts at some far = rw (not_first (length cut.bytes) at some far) (rw (not_inside (length cut.bytes) at far) refl)

-- an instruction that is cut at an address is that of a line
pub record IsLineAt (site : Site) (at : ℕ) (cut : Cut) : Type 0 where
  pub place : ℕ
  pub line : CodeLine
  pub there : slice_get site.code place ≡ Some line
  pub address : at ≡ address_of site place
  pub is : cut ≡ cut_of site place line

module _ (site : Site) (laid : IsLaidOut site) where
  abbrev a : ℕ → ℕ
  a place = address_of site place

  -- ---- addresses

  step_up : (place : ℕ) → place < length site.code → a place < a (place + 1)
  step_up place h = let l = get_some site.code place h in omega (arith, laid.next place l.0 l.1, laid.some place l.0 l.1)

  rises : (n from to : ℕ) → to ≡ from + n → to ≤ length site.code → a from + n ≤ a to
  rises zero from to e h = let same : to ≡ from = omega (arith, e) in omega (arith, ap a same)
  rises (suc n) from to e h =
      let next : to ≡ from + n + 1 = omega (arith, e) in
      omega (arith, rises n from (from + n) refl (omega (arith, next, h)), step_up (from + n) (omega (arith, next, h)), ap a next)

  pub below : (from to : ℕ) → from < to → to ≤ length site.code → a from < a to
  below from to h within = omega (arith, h, rises (to - from) from to (omega (arith, h)) within)

  pub at_most : (from to : ℕ) → from ≤ to → to ≤ length site.code → a from ≤ a to
  at_most from to h within = omega (arith, h, rises (to - from) from to (omega (arith, h)) within)

  pub is_at_most : (from to : ℕ) → from ≤ length site.code → a from ≤ a to → from ≤ to
  is_at_most from to within h = by_side (cases_lt to from)
    where
      by_side : (to < from) ⊎ (from ≤ to) → from ≤ to
      by_side (inl less) = absurd (omega (arith, below to from less within, h))
      by_side (inr is) = is

  pub is_one : (from to : ℕ) → from ≤ length site.code → to ≤ length site.code → a from ≡ a to → from ≡ to
  is_one from to within within2 same =
      omega (arith, is_at_most from to within (omega (arith, same)), is_at_most to from within2 (omega (arith, same)))

  -- ---- cuts

  -- lines of the code, from a place on
  abbrev AreLines : ℕ → List CodeLine → Type 0
  AreLines place lines = (k : ℕ) (line : CodeLine) → slice_get lines k ≡ Some line → slice_get site.code (place + k) ≡ Some line

  rest_lines : (place : ℕ) (line : CodeLine) (lines : List CodeLine) → AreLines place (line ∷ lines) → AreLines (place + 1) lines
  rest_lines place line lines are k other is =
      let next : place + 1 + k ≡ place + suc k = omega arith in ap (slice_get site.code) next ∙ are (suc k) other is

  first_line : (place : ℕ) (line : CodeLine) (lines : List CodeLine) → AreLines place (line ∷ lines) → slice_get site.code place ≡ Some line
  first_line place line lines are = let here : place ≡ place + 0 = omega arith in ap (slice_get site.code) here ∙ are 0 line refl

  within_code : (place : ℕ) (line : CodeLine) → slice_get site.code place ≡ Some line → place < length site.code
  within_code place line is = by_list site.code place is
    where
      by_list : (xs : List CodeLine) (k : ℕ) → slice_get xs k ≡ Some line → k < length xs
      by_list [] k is = cc
      by_list (x ∷ xs) zero is = omega arith
      by_list (x ∷ xs) (suc k) is = omega (arith, by_list xs k is)

  found_from : (place : ℕ) (lines : List CodeLine) (i : ℕ) (line : CodeLine) → AreLines place lines → slice_get lines i ≡ Some line
      → cut_at (cuts_from site place lines) (a (place + i) - a place) ≡ Some (cut_of site (place + i) line)
  found_from place [] i line are is = cc
  found_from place (l ∷ lines) zero line are is =
      let here : place + 0 ≡ place = omega arith in
      let none : a (place + 0) - a place ≡ 0 = omega (arith, ap a here) in
      ap (cut_at (cuts_from site place (l ∷ lines))) none ∙ ap (λ m. Some (cut_of site place m)) (same_Some _ _ is) ∙ ap (λ q. Some (cut_of site q line)) (sym here)
  found_from place (l ∷ lines) (suc i) line are is =
      let there = first_line place l lines are in
      let bytes = (cut_of site place l).bytes in
      let next : a (place + 1) ≡ a place + length bytes = laid.next place l there in
      let further : place + 1 + i ≡ place + suc i = omega arith in
      let inside = within_code (place + suc i) line (are (suc i) line is) in
      let far : length bytes ≤ a (place + suc i) - a place = omega (arith, next, at_most (place + 1) (place + suc i) (omega arith) (omega (arith, inside))) in
      let left : a (place + suc i) - a place - length bytes ≡ a (place + 1 + i) - a (place + 1) = omega (arith, next, ap a further) in
      behind_cut (cut_of site place l) (cuts_from site (place + 1) lines) (a (place + suc i) - a place) (laid.some place l there) far
      ∙ ap (cut_at (cuts_from site (place + 1) lines)) left ∙ found_from (place + 1) lines i line (rest_lines place l lines are) is
      ∙ ap (λ q. Some (cut_of site q line)) further

  -- the instruction of each line
  pub found : (i : ℕ) (line : CodeLine) → slice_get site.code i ≡ Some line → cut_at (cuts_from site 0 site.code) (a i) ≡ Some (cut_of site i line)
  found i line is =
      let here : 0 + i ≡ i = omega arith in
      let at : a i ≡ a (0 + i) - a 0 = omega (arith, laid.starts, ap a here) in
      ap (cut_at (cuts_from site 0 site.code)) at
      ∙ found_from 0 site.code i line (λ k l there. let same : 0 + k ≡ k = omega arith in ap (slice_get site.code) same ∙ there) is
      ∙ ap (λ q. Some (cut_of site q line)) here

  record IsFrom (first : ℕ) (lines : List CodeLine) (at : ℕ) (cut : Cut) : Type 0 where
    index : ℕ
    line : CodeLine
    there : slice_get lines index ≡ Some line
    address : a first + at ≡ a (first + index)
    is : cut ≡ cut_of site (first + index) line

  only_from : (first : ℕ) (lines : List CodeLine) (at : ℕ) (cut : Cut) → AreLines first lines → cut_at (cuts_from site first lines) at ≡ Some cut → IsFrom first lines at cut
  only_from first [] at cut are is = cc
  only_from first (l ∷ lines) at cut are is =
      by_first (λ rest. only_from (first + 1) lines (at - length (cut_of site first l).bytes) cut (rest_lines first l lines are) rest) (nat_eq at 0) refl is
    where
      bytes : ℕ
      bytes = length (cut_of site first l).bytes

      rest : List Cut
      rest = cuts_from site (first + 1) lines

      here : first ≡ first + 0
      here = omega arith

      Rest : Type 0
      Rest = cut_at rest (at - bytes) ≡ Some cut → IsFrom (first + 1) lines (at - bytes) cut

      by_inside : Rest → (b : Bool) → nat_lt at bytes ≡ b → (if b then None else cut_at rest (at - bytes)) ≡ Some cut → IsFrom first (l ∷ lines) at cut
      by_inside go true e is = cc
      by_inside go false e is =
          let r = go is in
          let further : first + 1 + r.index ≡ first + suc r.index = omega arith in
          record {
            index = suc r.index;
            line = r.line;
            there = r.there;
            address = omega (arith, r.address, laid.next first l (first_line first l lines are), not_less bytes at e, ap a further);
            is = r.is ∙ ap (λ q. cut_of site q r.line) further;
          }

      by_first : Rest → (b : Bool) → nat_eq at 0 ≡ b → (if b then Some (cut_of site first l) else (if nat_lt at bytes then None else cut_at rest (at - bytes))) ≡ Some cut
          → IsFrom first (l ∷ lines) at cut
      by_first go true e is = record {
        index = 0;
        line = l;
        there = refl;
        address = omega (arith, eqb-true at 0 e, ap a here);
        is = sym (same_Some _ _ is) ∙ ap (λ q. cut_of site q l) here;
      }
      by_first go false e is = by_inside go (nat_lt at bytes) refl is

  -- .. and there is no other
  pub only : (at : ℕ) (cut : Cut) → cut_at (cuts_from site 0 site.code) at ≡ Some cut → IsLineAt site at cut
  only at cut is =
      let f = only_from 0 site.code at cut (λ k l there. let same : 0 + k ≡ k = omega arith in ap (slice_get site.code) same ∙ there) is in
      let here : 0 + f.index ≡ f.index = omega arith in
      record {
        place = f.index;
        line = f.line;
        there = f.there;
        address = omega (arith, f.address, laid.starts, ap a here);
        is = f.is ∙ ap (λ q. cut_of site q f.line) here;
      }
