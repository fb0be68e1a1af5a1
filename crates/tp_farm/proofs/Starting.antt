-- What holds while members are started, one for each of a list.
use Rattle.std.proofs.Common.{◌≡◌, ◌∷◌, [], ◌++◌, List, map, length, sym, ◌∙◌, ap, subst, rules, append-nil}
use Rattle.std.proofs.lemmas.List.{map-append, append_assoc}
use Rattle.std.proofs.lemmas.List.Elements.{All-push, All-nil}
use Rattle.std.specs.List.{All}

-- the started, of which each is of one of all in turn, and the rest of all
pub record IsUpTo {H X : Type 0} (of : H → X) (good : H → Type 0) (all rest : List X) (hs : List H) : Type 0 where
  pub seen : map of hs ++ rest ≡ all
  pub each : All good hs

module _ {H X : Type 0} (of : H → X) (good : H → Type 0) (all : List X) where
  pub none_started : (hs : List H) (rest : List X) → hs ≡ [] → rest ≡ all → IsUpTo of good all rest hs
  none_started hs rest e f = record {
    seen = ap (λ v. map of v ++ rest) e ∙ f;
    each = subst (λ v. All good v) (sym e) (All-nil good);
  }

  pub one_started : (rest rest' : List X) (x : X) (hs hs' : List H) (h : H) → IsUpTo of good all rest hs → rest ≡ x ∷ rest'
      → of h ≡ x → good h → hs' ≡ hs ++ h ∷ [] → IsUpTo of good all rest' hs'
  one_started rest rest' x hs hs' h was step is ok grown = record {
    seen =
        ap (λ v. map of v ++ rest') grown
        ∙ ap (λ v. v ++ rest') (map-append of hs (h ∷ []))
        ∙ append_assoc (map of hs) (of h ∷ []) rest'
        ∙ ap (λ y. map of hs ++ (y ∷ rest')) is
        ∙ ap (λ v. map of hs ++ v) (sym step)
        ∙ was.seen;
    each = subst (λ v. All good v) (sym grown) (All-push good hs h was.each ok);
  }

  pub all_started : (rest : List X) (hs : List H) → IsUpTo of good all rest hs → length rest ≡ 0 → map of hs ≡ all
  all_started [] hs was e = sym (append-nil (map of hs)) ∙ was.seen
  all_started (x ∷ rest) hs was e = absurd (search (e, rules))
