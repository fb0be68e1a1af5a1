-- What is filed, one after another.
use Rattle.std.proofs.Common.{◌≡◌, List, [], ◌∷◌, ◌++◌, map, Some, slice_get, slice_set, refl, sym, ap, ◌∙◌, subst}
use Rattle.std.proofs.lemmas.List.{append_assoc}
use Rattle.tp_collect.specs.declared.collected.Entry.{Entry}
use Rattle.tp_collect.specs.Collected.{JobValue}
use Rattle.tp_collect.specs.Collecting.{Collection, vacant}
use Rattle.tp_farm.specs.declared.member.Filed.{Filed}
use Rattle.tp_farm.specs.Gathering.{number_of, entry_of, entries_with, FindVacant, all_filed}

-- the rest may be filed, and then the entries are these
pub record MayFile (batch : JobValue) (result : List Entry) (c : Collection) (rest : List Filed) : Type 0 where
  pub batch_is : c.batch ≡ batch
  pub vacant : FindVacant c.entries rest
  pub leads : entries_with c.entries rest ≡ result

pub files_one : (batch : JobValue) (result : List Entry) (c c' : Collection) (f : Filed) (rest rest' : List Filed)
    → MayFile batch result c rest → rest ≡ f ∷ rest' → c' ≡ record c { entries = slice_set c.entries (number_of f) (entry_of f) }
    → MayFile batch result c' rest'
files_one batch result c c' f rest rest' h step is =
    let v : FindVacant c.entries (f ∷ rest') = subst (FindVacant c.entries) step h.vacant in
    record {
      batch_is = ap (λ x. x.batch) is ∙ h.batch_is;
      vacant = subst (λ x. FindVacant x.entries rest') (sym is) v.1;
      leads = ap (λ x. entries_with x.entries rest') is ∙ sym (ap (entries_with c.entries) step) ∙ h.leads;
    }

pub next_vacant : (batch : JobValue) (result : List Entry) (c : Collection) (f : Filed) (rest rest' : List Filed)
    → MayFile batch result c rest → rest ≡ f ∷ rest' → slice_get c.entries (number_of f) ≡ Some vacant
next_vacant batch result c f rest rest' h step =
    let v : FindVacant c.entries (f ∷ rest') = subst (FindVacant c.entries) step h.vacant in v.0

-- ---- several, and then more

pub vacant_parts : (entries : List Entry) (xs ys : List Filed) → FindVacant entries (xs ++ ys)
    → FindVacant entries xs × FindVacant (entries_with entries xs) ys
vacant_parts entries [] ys v = (tt, v)
vacant_parts entries (x ∷ xs) ys v =
    let more = vacant_parts (slice_set entries (number_of x) (entry_of x)) xs ys v.1 in
    ((v.0, more.0), more.1)

pub entries_with-append : (entries : List Entry) (xs ys : List Filed)
    → entries_with entries (xs ++ ys) ≡ entries_with (entries_with entries xs) ys
entries_with-append entries [] ys = refl
entries_with-append entries (x ∷ xs) ys = entries_with-append (slice_set entries (number_of x) (entry_of x)) xs ys

pub files_more : (batch : JobValue) (result : List Entry) (c c' : Collection) (xs ys : List Filed)
    → MayFile batch result c (xs ++ ys) → c' ≡ record c { entries = entries_with c.entries xs } → MayFile batch result c' ys
files_more batch result c c' xs ys h is = record {
  batch_is = ap (λ x. x.batch) is ∙ h.batch_is;
  vacant = subst (λ x. FindVacant x.entries ys) (sym is) (vacant_parts c.entries xs ys h.vacant).1;
  leads = ap (λ x. entries_with x.entries ys) is ∙ sym (entries_with-append c.entries xs ys) ∙ h.leads;
}

module _ {X : Type 0} (of : X → List Filed) where
  -- the first of several
  pub first_of : (x : X) (rest rest' : List X) → rest ≡ x ∷ rest' → all_filed (map of rest) ≡ of x ++ all_filed (map of rest')
  first_of x rest rest' step = ap (λ xs. all_filed (map of xs)) step

  pub files_all : (batch : JobValue) (result : List Entry) (c c' : Collection) (x : X) (rest rest' : List X)
      → MayFile batch result c (all_filed (map of rest)) → rest ≡ x ∷ rest'
      → c' ≡ record c { entries = entries_with c.entries (of x) } → MayFile batch result c' (all_filed (map of rest'))
  files_all batch result c c' x rest rest' h step is =
      files_more batch result c c' (of x) (all_filed (map of rest'))
      (subst (MayFile batch result c) (first_of x rest rest' step) h) is

  pub first_vacant : (batch : JobValue) (result : List Entry) (c : Collection) (x : X) (rest rest' : List X)
      → MayFile batch result c (all_filed (map of rest)) → rest ≡ x ∷ rest' → FindVacant c.entries (of x)
  first_vacant batch result c x rest rest' h step =
      let g = subst (MayFile batch result c) (first_of x rest rest' step) h in
      (vacant_parts c.entries (of x) (all_filed (map of rest')) g.vacant).0

-- ---- a list that is moved, as f sees it

module _ {X Y : Type 0} (f : X → Y) where
  pub moved : (ls ls' all : List Y) (x : X) (rest rest' : List X) → ls' ≡ ls ++ f x ∷ [] → rest ≡ x ∷ rest'
      → ls ++ map f rest ≡ all → ls' ++ map f rest' ≡ all
  moved ls ls' all x rest rest' e step was =
      ap (λ v. v ++ map f rest') e ∙ append_assoc ls (f x ∷ []) (map f rest') ∙ ap (λ v. ls ++ map f v) (sym step) ∙ was
