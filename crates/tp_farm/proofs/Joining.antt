-- What is known of the results of joined threads.
use Rattle.std.proofs.Common.{◌≡◌, ◌∷◌, [], List, map, length, subst, refl, rules, suc, zero, arith}
use Rattle.std.proofs.lemmas.List.Elements.{All-head, All-tail}
use Rattle.std.specs.List.{All, AllZip}
use Rattle.std.specs.PromisedHandle.{KeepsEach}
use Rattle.std.specs.declared.thread.PromisedHandle.{PromisedHandle}
use Rattle.std.specs.declared.thread.Promise as Promise

module _ {T P : Type 0} (g : Promise.Ghosts P T) where
  -- each thread kept its promise
  pub kept_zip : (hs : List (PromisedHandle T P)) (rs : List T) → length rs ≡ length hs → KeepsEach g (length hs) hs rs
      → AllZip (λ h r. g.kept_by h.promise r) hs rs
  kept_zip [] [] e k = tt
  kept_zip [] (r ∷ rs) e k = absurd (search (e, rules))
  kept_zip (h ∷ hs) [] e k = absurd (search (e, rules))
  kept_zip (h ∷ hs) (r ∷ rs) e k =
      let first = (k zero r (omega arith)).1 in (
        subst (λ x. g.kept_by x.promise r) first.handle_is first.kept,
        kept_zip hs rs (search (e, rules)) (λ i d below. (
          refl,
          let t = (k (suc i) d (omega (arith, below))).1 in record {
            handle = t.handle;
            handle_is = t.handle_is;
            kept = t.kept;
          },
        )),
      )

-- so each result is what is said of what its thread was given
pub joined_zip : {H T X : Type 0} (of : H → X) (kept : H → T → Type 0) (R : X → T → Type 0) (good : H → Type 0)
    → ((h : H) (r : T) → good h → kept h r → R (of h) r) → (hs : List H) (rs : List T) → All good hs → AllZip kept hs rs
    → AllZip R (map of hs) rs
joined_zip of kept R good w [] [] a z = tt
joined_zip of kept R good w [] (r ∷ rs) a z = absurd z
joined_zip of kept R good w (h ∷ hs) [] a z = absurd z
joined_zip of kept R good w (h ∷ hs) (r ∷ rs) a z =
    (w h r (All-head good h hs a) z.0, joined_zip of kept R good w hs rs (All-tail good h hs a) z.1)
