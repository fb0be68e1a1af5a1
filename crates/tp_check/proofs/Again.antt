-- An instruction's edges, and what is known after them.
use Rattle.std.proofs.Common.{◌≡◌, ◌≢◌, ℕ, ◌<◌, ◌⊎◌, inl, inr, List, [], ◌∷◌, length, get_or, Option, Some, None, Result, Ok, Err, refl, sym, ap, ◌∙◌, subst, arith}
use Rattle.std.specs.Prelude.{All, IfOk}
use Rattle.std.proofs.lemmas.Bool.{cases_eq}
use Rattle.std.proofs.lemmas.Option.{same_Some}
use Rattle.tp_decode.specs.declared.instr.Instr.{Instr}
use Rattle.tp_decode.specs.declared.instr.Instr.TheVariants.{Jump, Ldlp, Ldnl, Ldc, Ldnlp, Ldl, Adc, Cj, Ajw, Eqc, Stl}
use Rattle.tp_decode.specs.declared.instr.Instr.TheVariants.{Stnl, Rev, Lb, Bsub, Diff, Add, Input, Prod, Gt, Wsub}
use Rattle.tp_decode.specs.declared.instr.Instr.TheVariants.{Output, Sub, Seterr, Csub0, Stopp, Rem, Lend, Div, BitNot}
use Rattle.tp_decode.specs.declared.instr.Instr.TheVariants.{BitXor, Sb, Shr, Shl, Mint, BitAnd, MoveBytes, BitOr, Sum}
use Rattle.tp_decode.specs.declared.instr.Instr.TheVariants.{Mul}
use Rattle.tp_flow.specs.declared.edge.Edge.{Edge}
use Rattle.tp_flow.specs.declared.edge.Edge.TheVariants.{Next, Taken, Back, Out}
use Rattle.tp_flow.specs.NestKept.{IsGood}
use Rattle.tp_image.specs.Image.{ImageValue, InRange}
use Rattle.tp_state.specs.declared.state.State.{State}
use Rattle.tp_state.specs.declared.fault.StateCode.{StateCode}
use Rattle.tp_state.specs.After.{after}
use Rattle.tp_state.specs.Order.{IsBelow}
use Rattle.tp_state.specs.Sound.{IsSound, LoadsWord}
use Rattle.tp_rule_laws.proofs.Follows.{Follows}
use Rattle.tp_rule_laws.proofs.Rules.{after_follows, after_sound}
use Rattle.tp_rule_laws.proofs.SoundJoins.{join_sound}
use Rattle.tp_check.specs.Tables.{Table, with_state, asked}
use Rattle.tp_check.proofs.Entering.{Becomes, Entered, elsewhere, there}
use Rattle.tp_check.proofs.Settling.{with_there, with_elsewhere}

-- ---- an instruction's edges

-- no two edges of a list are the same
abbrev pub AreApart : List Edge → Type 0
AreApart ways = (i j : ℕ) (d d' : Edge) → i < length ways → j < length ways → i ≢ j → get_or ways i d ≢ get_or ways j d'

one_apart : (e : Edge) → AreApart (e ∷ [])
one_apart e i j d d' lt less other = absurd (omega (arith, lt, less, other))

two_apart : (e f : Edge) → e ≢ f → AreApart (e ∷ f ∷ [])
two_apart e f unlike i j d d' lt less other = by_first (cases_eq i 0) (cases_eq j 0)
  where
    second : (k : ℕ) → k < 2 → (k ≡ 0 → ⊥) → k ≡ 1
    second k lt off = omega (arith, lt, off)

    at : (k n : ℕ) (d : Edge) → k ≡ n → get_or (e ∷ f ∷ []) k d ≡ get_or (e ∷ f ∷ []) n d
    at k n d same = ap (λ m. get_or (e ∷ f ∷ []) m d) same

    by_first : (i ≡ 0) ⊎ (i ≡ 0 → ⊥) → (j ≡ 0) ⊎ (j ≡ 0 → ⊥) → get_or (e ∷ f ∷ []) i d ≢ get_or (e ∷ f ∷ []) j d'
    by_first (inl first) (inl also) = absurd (other (first ∙ sym also))
    by_first (inl first) (inr off) = λ same. unlike (sym (at i 0 d first) ∙ same ∙ at j 1 d' (second j less off))
    by_first (inr off) (inl also) = λ same. unlike (sym (sym (at i 1 d (second i lt off)) ∙ same ∙ at j 0 d' also))
    by_first (inr off) (inr also) = absurd (other (second i lt off ∙ sym (second j less also)))

pub asked_apart : (instr : Instr) → AreApart (asked instr)
asked_apart (Jump n) = one_apart Taken
asked_apart (Cj n) = two_apart Next Taken (λ e. cc)
asked_apart Lend = two_apart Back Out (λ e. cc)
asked_apart (Ldlp n) = one_apart Next
asked_apart (Ldnl n) = one_apart Next
asked_apart (Ldc n) = one_apart Next
asked_apart (Ldnlp n) = one_apart Next
asked_apart (Ldl n) = one_apart Next
asked_apart (Adc n) = one_apart Next
asked_apart (Ajw n) = one_apart Next
asked_apart (Eqc n) = one_apart Next
asked_apart (Stl n) = one_apart Next
asked_apart (Stnl n) = one_apart Next
asked_apart Rev = one_apart Next
asked_apart Lb = one_apart Next
asked_apart Bsub = one_apart Next
asked_apart Diff = one_apart Next
asked_apart Add = one_apart Next
asked_apart Input = one_apart Next
asked_apart Prod = one_apart Next
asked_apart Gt = one_apart Next
asked_apart Wsub = one_apart Next
asked_apart Output = one_apart Next
asked_apart Sub = one_apart Next
asked_apart Seterr = one_apart Next
asked_apart Csub0 = one_apart Next
asked_apart Stopp = one_apart Next
asked_apart Rem = one_apart Next
asked_apart Div = one_apart Next
asked_apart BitNot = one_apart Next
asked_apart BitXor = one_apart Next
asked_apart Sb = one_apart Next
asked_apart Shr = one_apart Next
asked_apart Shl = one_apart Next
asked_apart Mint = one_apart Next
asked_apart BitAnd = one_apart Next
asked_apart MoveBytes = one_apart Next
asked_apart BitOr = one_apart Next
asked_apart Sum = one_apart Next
asked_apart Mul = one_apart Next

-- ---- outcomes

module _ (image : ImageValue) (range : InRange image) (good : All (IsGood image.workspace) image.loops) (at next : ℕ) (instr : Instr) (edge : Edge) where
  -- they rise with what is known before
  pub rises_after : (s t u v : State) → IsSound image s → IsBelow s t → after image at next instr edge s ≡ Ok u → after image at next instr edge t ≡ Ok v → IsBelow u v
  rises_after s t u v sound below was is = by_answers (after image at next instr edge s)
      (after image at next instr edge t) (after_follows image range.rows good at next instr edge s t sound below) was is
    where
      by_answers : (r q : Result State StateCode) → Follows IsBelow r q → r ≡ Ok u → q ≡ Ok v → IsBelow u v
      by_answers (Ok x) (Ok y) h f g = let a : x ≡ u = cc in let b : y ≡ v = cc in subst (λ z. IsBelow z v) a (subst (IsBelow x) b h)
      by_answers (Err x) (Ok y) h f g = absurd h
      by_answers r (Err y) h f g = cc

  pub sound_after : (s v : State) → LoadsWord instr → IsSound image s → after image at next instr edge s ≡ Ok v → IsSound image v
  sound_after s v loads sound is = subst (λ r. IfOk r (IsSound image)) is (after_sound image range good at next instr edge s loads sound)

-- ---- a table that takes a sound state stays sound

module _ (image : ImageValue) (table : Table) (to : ℕ) (v : State) where
  pub sound_joined : (new : Table) (e : Entered table to v new) →
      ((at : ℕ) (s : State) → table at ≡ Some s → IsSound image s) → IsSound image v → (at : ℕ) (s : State) →
      new at ≡ Some s → IsSound image s
  sound_joined new e sound also at s is = by_place (cases_eq at to)
    where
      by_state : (o : Option State) → table to ≡ o → Becomes o v e.state → IsSound image e.state
      by_state None stood same = subst (IsSound image) (sym same) also
      by_state (Some u) stood (wptr, phase, same) = subst (IsSound image) (sym same) (join_sound image u v (sound to u stood) also)

      by_place : (at ≡ to) ⊎ (at ≡ to → ⊥) → IsSound image s
      by_place (inl same) = subst (IsSound image) (same_Some _ _ (sym (there table to v new e) ∙ sym (ap new same) ∙ is)) (by_state (table to) refl e.becomes)
      by_place (inr other) = sound at s (sym (elsewhere table to v new at e other) ∙ is)

  pub sound_alone : ((at : ℕ) (s : State) → table at ≡ Some s → IsSound image s) → IsSound image v → (at : ℕ) (s : State) → with_state to v table at ≡ Some s → IsSound image s
  sound_alone sound also at s is = by_place (cases_eq at to)
    where
      by_place : (at ≡ to) ⊎ (at ≡ to → ⊥) → IsSound image s
      by_place (inl same) = subst (IsSound image) (same_Some _ _ (sym (with_there to v table) ∙ sym (ap (with_state to v table) same) ∙ is)) also
      by_place (inr other) = sound at s (sym (with_elsewhere to v table at other) ∙ is)
