use Rattle.std.proofs.Common.{◌≡◌, sym, subst, rules, ℕ, List, [], ◌∷◌, ◌++◌, None, append_assoc, append-nil}
use Rattle.tpw_occam_terms.specs.Spelling.{front, Spells, stops, goes_on}
use Rattle.tpw_occam_terms.proofs.spelling.text_bytes.Goals as goal

-- one more byte
one_more : (spelled bytes new rest : List ℕ) (byte : ℕ) → new ≡ bytes ++ byte ∷ [] → Spells spelled (bytes ++ byte ∷ rest) → Spells spelled (new ++ rest)
one_more spelled bytes new rest byte e h = rw e (subst (λ all. Spells spelled all) (sym (append_assoc bytes (byte ∷ []) rest)) h)

pub loop-byte-preserved : goal.loop-byte-preserved
loop-byte-preserved c = λ rest spells.
    one_more c.args.spelled.now c.loop-byte.bytes.items c.push.new.self.items rest c.in-Some.byte c.in_ok-push.ensures.items
    (c.loop-byte.invariant (c.in-Some.byte ∷ rest) (goes_on (sym c.in-Some.ensures.value) spells))

pub returns : goal.returns
returns c =
    let ends : front c.loop-byte.left.now ≡ None = search rules in
    subst (λ all. Spells c.args.spelled.now all) (append-nil c.loop-byte.bytes.items) (c.loop-byte.invariant [] (stops ends))
