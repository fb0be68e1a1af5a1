-- What reports show of packets, and of more packets behind them.
use Rattle.std.proofs.Common.{◌≡◌, ◌<◌, ℕ, ◌+◌, List, [], ◌∷◌, ◌++◌, length, map, take, get_or, refl, ap, sym, subst, ◌∙◌, append_assoc}
use Rattle.std.proofs.lemmas.List.{append-nil, take_more}
use Rattle.tp_collect.specs.declared.collected.Entry.{Entry}
use Rattle.tpw_runs.specs.Reports.{ShowsAll}
use Rattle.tpw_runs.proofs.Behind.{take_more_map}

module _ {R : Type 0} (text : R → List ℕ → Entry → List ℕ) (becomes : R → List ℕ → Entry → R → Type 0) where
  pub shows_and : (old next new : R) (packets others : List (List ℕ)) (entries more : List Entry) (first second : List ℕ)
      → ShowsAll text becomes old packets entries first next → ShowsAll text becomes next others more second new
      → ShowsAll text becomes old (packets ++ others) (entries ++ more) (first ++ second) new
  shows_and old next new [] others [] more first second one two =
      subst (λ all. ShowsAll text becomes old others more (all ++ second) new) (sym one.0)
      (subst (λ r. ShowsAll text becomes r others more second new) one.1 two)
  shows_and old next new [] others (e ∷ entries) more first second one two = absurd one
  shows_and old next new (p ∷ packets) others [] more first second one two = absurd one
  shows_and old next new (p ∷ packets) others (e ∷ entries) more first second one two = (
    one.0,
    one.1,
    (
      one.2.0 ++ second,
      ap (λ all. all ++ second) one.2.1 ∙ append_assoc (text old p e) one.2.0 second,
      shows_and one.0 next new packets others entries more one.2.0 second one.2.2 two,
    ),
  )

  shows_one : (old new : R) (packet : List ℕ) (entry : Entry) → becomes old packet entry new
      → ShowsAll text becomes old (packet ∷ []) (entry ∷ []) (text old packet entry) new
  shows_one old new packet entry is = (new, is, ([], sym (append-nil (text old packet entry)), (refl, refl)))

  -- one packet more of some
  pub shows_more : {P : Type 0} (bytes : P → List ℕ) (packets : List P) (entries : List Entry) (i : ℕ) (p : P) (e : Entry)
      (message : List ℕ) (old next new : R) (shown : List ℕ) → i < length packets → i < length entries
      → p ≡ get_or packets i p → e ≡ get_or entries i e → message ≡ bytes p
      → ShowsAll text becomes old (take i (map bytes packets)) (take i entries) shown next → becomes next message e new
      → ShowsAll text becomes old (take (i + 1) (map bytes packets)) (take (i + 1) entries) (shown ++ text next message e) new
  shows_more bytes packets entries i p e message old next new shown some there packet entry same all is =
      let more : take (i + 1) (map bytes packets) ≡ take i (map bytes packets) ++ message ∷ [] =
      take_more_map bytes packets i p some
      ∙ ap (λ m. take i (map bytes packets) ++ m ∷ []) (ap bytes (sym packet) ∙ sym same) in
      let others : take (i + 1) entries ≡ take i entries ++ e ∷ [] =
      take_more entries i e there ∙ ap (λ x. take i entries ++ x ∷ []) (sym entry) in
      subst (λ ps. ShowsAll text becomes old ps (take (i + 1) entries) (shown ++ text next message e) new) (sym more)
      (subst (λ es. ShowsAll text becomes old (take i (map bytes packets) ++ message ∷ []) es (shown ++ text next message e) new)
      (sym others)
      (shows_and old next new (take i (map bytes packets)) (message ∷ []) (take i entries) (e ∷ []) shown
      (text next message e) all (shows_one next new message e is)))
