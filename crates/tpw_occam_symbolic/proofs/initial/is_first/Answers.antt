use Rattle.std.proofs.Common.{◌≡◌, ℕ, [], ◌∷◌, ap, sym, ◌∙◌, arith}
use lib.Pointwise.{bytes_decides}
use Rattle.tpw_occam_symbolic.specs.Blocks.{bytes_at}
use Rattle.tpw_occam_symbolic.specs.Placing.{first_blocks}
use Rattle.tpw_occam_symbolic.proofs.initial.is_first.Goals as goal

four : (a b c d e f g h : ℕ) → a ≡ e → b ≡ f → c ≡ g → d ≡ h → a ∷ b ∷ c ∷ d ∷ [] ≡ e ∷ f ∷ g ∷ h ∷ []
four a b c d e f g h p q r s = λ i. p i ∷ q i ∷ r i ∷ s i ∷ []

pub returns : goal.returns
unfolding bytes_at
returns c is =
    let blocks = first_blocks c.args.worker.now in
    sym c.to_le_bytes.ensures ∙ (bytes_decides c.to_le_bytes.result _).0 (sym c.eq.ensures ∙ is)
    ∙ four _ _ _ _ _ _ _ _ c.first_byte.ensures c.first_byte-2.ensures
    (c.first_byte-3.ensures ∙ ap (blocks c.args.item) (omega arith)) (c.first_byte-4.ensures ∙ ap (blocks c.args.item) (omega arith))
