-- Where the entries of a batch come from.
use Rattle.std.proofs.Common.{◌≡◌, ℕ, ◌<◌, ◌⊎◌, inl, inr, List, [], ◌∷◌, length, Some, slice_get, slice_set, sym, ◌∙◌, subst}
use Rattle.std.proofs.lemmas.Bool.{cases_eq}
use Rattle.std.proofs.lemmas.Option.{slice_get_within, same_Some}
use Rattle.std.proofs.lemmas.List.Elements.{All-head, All-tail}
use Rattle.std.specs.List.{All}
use Rattle.tp_collect.specs.declared.collected.Entry.{Entry}
use Rattle.tp_collect.specs.Collecting.{vacant}
use Rattle.tp_farm.specs.declared.member.Filed.{Filed}
use Rattle.tp_farm.specs.Gathering.{number_of, entry_of, entries_with, FindVacant}
use Rattle.tp_farm.proofs.Numbers.{set_there, set_elsewhere}

-- an entry is what was filed under its number, of which this is so
pub record Comes (P : Filed → Type 0) (i : ℕ) (e : Entry) : Type 0 where
  pub filed : Filed
  pub so : P filed
  pub number : number_of filed ≡ i
  pub is : entry_of filed ≡ e

pub comes_from : (P : Filed → Type 0) (entries : List Entry) (fs : List Filed) (i : ℕ) (e : Entry) → FindVacant entries fs
    → All P fs → slice_get (entries_with entries fs) i ≡ Some e → (slice_get entries i ≡ Some e) ⊎ Comes P i e
comes_from P entries [] i e v all is = inl is
comes_from P entries (f ∷ more) i e v all is =
    by_rest (comes_from P (slice_set entries (number_of f) (entry_of f)) more i e v.1 (All-tail P f more all) is)
  where
    by_number : slice_get (slice_set entries (number_of f) (entry_of f)) i ≡ Some e → (i ≡ number_of f) ⊎ (i ≡ number_of f → ⊥)
        → (slice_get entries i ≡ Some e) ⊎ Comes P i e
    by_number there (inl same) =
        let within : number_of f < length entries = slice_get_within entries (number_of f) vacant v.0 in
        let here : slice_get (slice_set entries (number_of f) (entry_of f)) i ≡ Some (entry_of f) =
        subst (λ j. slice_get (slice_set entries (number_of f) (entry_of f)) j ≡ Some (entry_of f)) (sym same)
        (set_there entries (number_of f) (entry_of f) within) in
        inr (record { filed = f; so = All-head P f more all; number = sym same; is = same_Some _ _ (sym here ∙ there) })
    by_number there (inr other) = inl (sym (set_elsewhere entries (number_of f) i (entry_of f) other) ∙ there)

    by_rest : (slice_get (slice_set entries (number_of f) (entry_of f)) i ≡ Some e) ⊎ Comes P i e
        → (slice_get entries i ≡ Some e) ⊎ Comes P i e
    by_rest (inl there) = by_number there (cases_eq i (number_of f))
    by_rest (inr comes) = inr comes
