-- The numbers of what is filed, and the entries that come of it.
use Rattle.std.proofs.Common.{◌≡◌, ℕ, ◌+◌, ◌<◌, ◌≤◌, ◌⊎◌, inl, inr, List, [], ◌∷◌, ◌++◌, map, length, length-set, get_or}
use Rattle.std.proofs.Common.{get_or-set_same, get_or-set_other, Some, slice_get, slice_set, sum_by, refl, sym, ap, ◌∙◌, subst}
use Rattle.std.proofs.Common.{arith}
use Rattle.std.proofs.lemmas.Bool.{cases_eq, cases_lt}
use Rattle.std.proofs.lemmas.Bool.Decides.{nat_tests}
use Rattle.std.proofs.lemmas.Option.{slice_get_within, get_or_from_slice_get, slice_get-get_or, slice_get_past, same_Some}
use Rattle.std.proofs.lemmas.List.Sums.{sum_by-set, sum_by-cons}
use Rattle.tp_link.specs.declared.links.Link.{Link}
use Rattle.tp_board.specs.Counting.{times}
use Rattle.tp_collect.specs.declared.collected.Entry.{Entry}
use Rattle.tp_collect.specs.Collecting.{vacant}
use Rattle.tp_farm.specs.declared.member.Filed.{Filed}
use Rattle.tp_farm.specs.declared.member.Filed.TheVariants as filed
use Rattle.tp_farm.specs.Members.{failures_filed, done_numbers, lost_numbers}
use Rattle.tp_farm.specs.Gathering.{number_of, entry_of, entries_with, FindVacant}
use Rattle.tp_farm.specs.Batches.{failures_in_entry}

abbrev pub numbers : List Filed → List ℕ
numbers fs = map number_of fs

-- what is filed is done or lost
pub times_parts : (x : ℕ) (fs : List Filed) → times x (numbers fs) ≡ times x (done_numbers fs) + times x (lost_numbers fs)
times_parts x [] = refl
times_parts x (filed.Done d ∷ more) = omega (arith, times_parts x more)
times_parts x (filed.Lost n f ∷ more) = omega (arith, times_parts x more)

pub times-append : (x : ℕ) (xs ys : List ℕ) → times x (xs ++ ys) ≡ times x xs + times x ys
times-append x [] ys = omega arith
times-append x (y ∷ xs) ys = omega (arith, times-append x xs ys)

same_once : (x : ℕ) (more : List ℕ) → times x (x ∷ more) ≡ 1 + times x more
same_once x more = grind (arith, nat_tests)

other_not : (x y : ℕ) (more : List ℕ) → (y ≡ x → ⊥) → times x (y ∷ more) ≡ times x more
other_not x y more n = grind (arith, nat_tests)

-- ---- one entry replaced

pub set_there : (entries : List Entry) (i : ℕ) (e : Entry) → i < length entries → slice_get (slice_set entries i e) i ≡ Some e
set_there entries i e lt =
    slice_get-get_or (slice_set entries i e) i e (omega (arith, length-set entries i e, lt))
    ∙ ap Some (get_or-set_same entries i e e lt)

pub set_elsewhere : (entries : List Entry) (i j : ℕ) (e : Entry) → (j ≡ i → ⊥)
    → slice_get (slice_set entries i e) j ≡ slice_get entries j
set_elsewhere entries i j e differ = by_place (cases_lt j (length entries))
  where
    by_place : (j < length entries) ⊎ (length entries ≤ j) → slice_get (slice_set entries i e) j ≡ slice_get entries j
    by_place (inl lt) =
        slice_get-get_or (slice_set entries i e) j e (omega (arith, length-set entries i e, lt))
        ∙ ap Some (get_or-set_other entries i j e e differ)
        ∙ sym (slice_get-get_or entries j e lt)
    by_place (inr past) =
        slice_get_past (slice_set entries i e) j (omega (arith, length-set entries i e, past))
        ∙ sym (slice_get_past entries j past)

-- ---- numbers that stand once each find nothing filed

pub find_vacant : (entries : List Entry) (fs : List Filed) → ((x : ℕ) → times x (numbers fs) ≤ 1)
    → ((x : ℕ) → 0 < times x (numbers fs) → slice_get entries x ≡ Some vacant) → FindVacant entries fs
find_vacant entries [] once free = tt
find_vacant entries (f ∷ more) once free =
    let n : ℕ = number_of f in
    let here : slice_get entries n ≡ Some vacant = free n (omega (arith, same_once n (numbers more))) in (
      here,
      find_vacant (slice_set entries n (entry_of f)) more (λ x. later x (cases_eq n x))
          (λ x some. still x some (cases_eq n x)),
    )
  where
    later : (x : ℕ) → (number_of f ≡ x) ⊎ (number_of f ≡ x → ⊥) → times x (numbers more) ≤ 1
    later x (inl same) = omega (arith, once x, ap (λ y. times x (y ∷ numbers more)) same, same_once x (numbers more))
    later x (inr other) = omega (arith, once x, other_not x (number_of f) (numbers more) other)

    still : (x : ℕ) → 0 < times x (numbers more) → (number_of f ≡ x) ⊎ (number_of f ≡ x → ⊥)
        → slice_get (slice_set entries (number_of f) (entry_of f)) x ≡ Some vacant
    still x some (inl same) =
        absurd (omega (arith, once x, some, ap (λ y. times x (y ∷ numbers more)) same, same_once x (numbers more)))
    still x some (inr other) =
        set_elsewhere entries (number_of f) x (entry_of f) (λ e. other (sym e))
        ∙ free x (omega (arith, some, other_not x (number_of f) (numbers more) other))

-- ---- how often entries tell of a failure

tells_filed : (which : Link) (f : Filed) → failures_in_entry which (entry_of f) ≡ failures_filed which f
tells_filed which (filed.Done d) = refl
tells_filed which (filed.Lost n f) = refl

pub tells_all : (which : Link) (entries : List Entry) (fs : List Filed) → FindVacant entries fs
    → sum_by (failures_in_entry which) (entries_with entries fs) ≡ sum_by (failures_in_entry which) entries + sum_by (failures_filed which) fs
tells_all which entries [] v = omega arith
tells_all which entries (f ∷ more) v =
    let within : number_of f < length entries = slice_get_within entries (number_of f) vacant v.0 in
    let was : get_or entries (number_of f) vacant ≡ vacant = get_or_from_slice_get entries (number_of f) vacant vacant v.0 in
    let set = sum_by-set (failures_in_entry which) entries (number_of f) (entry_of f) vacant within in
    omega (
      arith,
      tells_all which (slice_set entries (number_of f) (entry_of f)) more v.1,
      set,
      ap (failures_in_entry which) was,
      tells_filed which f,
      sum_by-cons (failures_filed which) f more,
    )

-- ---- where entries come from

never_vacant : (f : Filed) → entry_of f ≡ vacant → ⊥
never_vacant (filed.Done d) e = cc
never_vacant (filed.Lost n f) e = cc

-- what is filed stays
pub stays_filed : (entries : List Entry) (fs : List Filed) (i : ℕ) (e : Entry) → FindVacant entries fs
    → slice_get entries i ≡ Some e → (e ≡ vacant → ⊥) → slice_get (entries_with entries fs) i ≡ Some e
stays_filed entries [] i e v is some = is
stays_filed entries (f ∷ more) i e v is some =
    stays_filed (slice_set entries (number_of f) (entry_of f)) more i e v.1
    (set_elsewhere entries (number_of f) i (entry_of f) apart ∙ is) some
  where
    apart : i ≡ number_of f → ⊥
    apart same = some (same_Some _ _ (sym is ∙ ap (slice_get entries) same ∙ v.0))

-- an entry that is vacant at the end has nothing filed for it
pub none_filed : (entries : List Entry) (fs : List Filed) (i : ℕ) → FindVacant entries fs
    → slice_get (entries_with entries fs) i ≡ Some vacant → times i (numbers fs) ≡ 0
none_filed entries [] i v is = refl
none_filed entries (f ∷ more) i v is =
    by_number (none_filed (slice_set entries (number_of f) (entry_of f)) more i v.1 is) (cases_eq (number_of f) i)
  where
    by_number : times i (numbers more) ≡ 0 → (number_of f ≡ i) ⊎ (number_of f ≡ i → ⊥) → times i (numbers (f ∷ more)) ≡ 0
    by_number later (inl same) =
        let within : number_of f < length entries = slice_get_within entries (number_of f) vacant v.0 in
        let there : slice_get (slice_set entries (number_of f) (entry_of f)) i ≡ Some (entry_of f) =
        subst (λ j. slice_get (slice_set entries (number_of f) (entry_of f)) j ≡ Some (entry_of f)) same
        (set_there entries (number_of f) (entry_of f) within) in
        absurd (never_vacant f (same_Some _ _ (sym (stays_filed (slice_set entries (number_of f) (entry_of f)) more i
        (entry_of f) v.1 there (never_vacant f)) ∙ is)))
    by_number later (inr other) = other_not i (number_of f) (numbers more) other ∙ later
