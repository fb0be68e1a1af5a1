-- What every step of the farm keeps, and what every run does.
use Rattle.std.proofs.Common.{◌≡◌, ◌⊎◌, ℕ, zero, suc, ◌+◌, ◌-◌, ◌<◌, ◌≤◌, ltb, Bool, List, [], ◌∷◌, ◌++◌, length, take, set}
use Rattle.std.proofs.Common.{get_or, replicate, Option, Some, None, sym, refl, ap, ◌∙◌, subst, ⊎_elim, inl, inr, arith}
use Rattle.std.proofs.Common.{append_assoc}
use Rattle.std.proofs.lemmas.Bool.{ltb-true, ltb-false, lt-ltb, le-ltb, eq-eqb, ne_eqb, cases_eq, cases_lt}
use Rattle.std.proofs.lemmas.List.{length-set, append-nil, take_more}
use Rattle.tp_board.specs.declared.event.Event.{Event}
use Rattle.tp_board.specs.declared.event.Event.TheVariants.{Claim, Finish, Abandon, Stop, Look}
use Rattle.tp_board.specs.declared.event.Reply.{Reply}
use Rattle.tp_board.specs.declared.event.Reply.TheVariants.{Number, NoMore}
use Rattle.tp_board.specs.Counting.{times, once_below, hand_list, times_in_hands}
use Rattle.tp_board.specs.CoreState.{CoreState, Step, core_state, opening_core, hand_of, hands_with, claim_step, finish_step, abandon_step, step}
use Rattle.tp_board.specs.Runs.{RunLaw, core_after, replies, Accounts, number_drawn, numbers_drawn, numbers_from, AllMembers}
use Rattle.tp_board.specs.Runs.{IsKept}
use Rattle.tp_board.proofs.Counting.{times-append, once_more}

hands_set : (x : ℕ) (hs : List (Option ℕ)) (m : ℕ) (h : Option ℕ) → m < length hs
    → times_in_hands x (set hs m h) + times x (hand_list (get_or hs m None)) ≡ times_in_hands x hs + times x (hand_list h)
hands_set x [] m h l = absurd (omega arith)
hands_set x (y ∷ ys) zero h l = omega arith
hands_set x (y ∷ ys) (suc m) h l = let ih = hands_set x ys m h (omega arith) in omega arith

no_hands : (x n : ℕ) → times_in_hands x (replicate n None) ≡ 0
no_hands x zero = refl
no_hands x (suc n) = let ih = no_hands x n in omega arith

pub accounts_opening : (p m : ℕ) → Accounts (opening_core p m)
accounts_opening p m =
    record {
      within = omega arith;
      each_once = (λ x. let a = no_hands x m in let b : once_below x 0 ≡ 0 = rw
          (le-ltb x 0 (omega arith)) refl in omega arith);
    }

pub accounts_claim : (p d : ℕ) (hs : List (Option ℕ)) (done lost : List ℕ) (stop : Bool) (m : ℕ) → m < length hs
    → get_or hs m None ≡ None → d < p → Accounts (core_state p d hs done lost stop)
    → Accounts (core_state p (d + 1) (set hs m (Some d)) done lost stop)
accounts_claim p d hs done lost stop m l none below h = record {
  within = omega arith;
  each_once =
      (λ x. let a = hands_set x hs m (Some d) l in let b = h.each_once x in let c = once_more x d in let e = ap
      (λ o. times x (hand_list o)) none in omega arith);
}

pub accounts_finish : (p d : ℕ) (hs : List (Option ℕ)) (done lost : List ℕ) (stop : Bool) (m n : ℕ) → m < length hs
    → get_or hs m None ≡ Some n → Accounts (core_state p d hs done lost stop)
    → Accounts (core_state p d (set hs m None) (done ++ n ∷ []) lost stop)
accounts_finish p d hs done lost stop m n l some_hand h = record {
  within = h.within;
  each_once =
      (λ x. let a = hands_set x hs m None l in let b = h.each_once x in let c = times-append x done (n ∷ []) in let e = ap
      (λ o. times x (hand_list o)) some_hand in omega arith);
}

pub accounts_abandon : (p d : ℕ) (hs : List (Option ℕ)) (done lost : List ℕ) (stop : Bool) (m n : ℕ) → m < length hs
    → get_or hs m None ≡ Some n → Accounts (core_state p d hs done lost stop)
    → Accounts (core_state p d (set hs m None) done (lost ++ n ∷ []) stop)
accounts_abandon p d hs done lost stop m n l some_hand h = record {
  within = h.within;
  each_once =
      (λ x. let a = hands_set x hs m None l in let b = h.each_once x in let c = times-append x lost (n ∷ []) in let e = ap
      (λ o. times x (hand_list o)) some_hand in omega arith);
}

-- ---- runs, one event more
pub after_snoc : (s : CoreState) (es : List (ℕ × Event)) (e : ℕ × Event)
    → core_after s (es ++ e ∷ []) ≡ (step (core_after s es) e.0 e.1).1
after_snoc s [] e = refl
after_snoc s (x ∷ es) e = after_snoc (step s x.0 x.1).1 es e

pub replies_snoc : (s : CoreState) (es : List (ℕ × Event)) (e : ℕ × Event)
    → replies s (es ++ e ∷ []) ≡ replies s es ++ (step (core_after s es) e.0 e.1).0 ∷ []
replies_snoc s [] e = refl
replies_snoc s (x ∷ es) e = ap (λ rs. (step s x.0 x.1).0 ∷ rs) (replies_snoc (step s x.0 x.1).1 es e)

-- ---- what a run keeps
kept_same : (s : CoreState) → IsKept s s
kept_same s =
    record {
      packets = refl;
      members = refl;
      drawn = omega arith;
      done = ([], sym (append-nil s.done));
      lost = ([], sym (append-nil s.lost));
      stop = (λ t. t);
    }

kept_then : (s t u : CoreState) → IsKept s t → IsKept t u → IsKept s u
kept_then s t u a b = record {
  packets = b.packets ∙ a.packets;
  members = b.members ∙ a.members;
  drawn = (let c = a.drawn in let d = b.drawn in omega arith);
  done = (a.done.0 ++ b.done.0, b.done.1 ∙ ap (λ l. l ++ b.done.0) a.done.1 ∙ append_assoc s.done a.done.0 b.done.0);
  lost = (a.lost.0 ++ b.lost.0, b.lost.1 ∙ ap (λ l. l ++ b.lost.0) a.lost.1 ∙ append_assoc s.lost a.lost.0 b.lost.0);
  stop = (λ t. b.stop (a.stop t));
}

-- what a claim does, by whether a number is left
claims_none : (P : Step → Type 0) (s : CoreState) (m : ℕ)
    → (s.drawn < s.packets → P (
      Number s.drawn,
      core_state s.packets (s.drawn + 1)
          (hands_with s m (Some s.drawn)) s.done s.lost s.stop,
    )) → (s.packets ≤ s.drawn → P (NoMore, s)) → P (claim_step s m None)
claims_none P s m below above =
    let yes : Step = (Number s.drawn, core_state s.packets (s.drawn + 1) (hands_with s m (Some s.drawn)) s.done s.lost s.stop) in
    let no : Step = (NoMore, s) in
    Rattle.std.proofs.lemmas.Bool.cond_both (ltb s.drawn s.packets) yes no P (λ t. below (ltb-true s.drawn s.packets t))
    (λ t. above (ltb-false s.drawn s.packets t))

kept_claims : (s : CoreState) (m : ℕ) (h : Option ℕ) → IsKept s (claim_step s m h).1
kept_claims s m (Some n) = kept_same s
kept_claims s m None = claims_none (λ r. IsKept s r.1) s m
    (λ _. record {
      packets = refl;
      members = length-set s.hands m (Some s.drawn);
      drawn = omega arith;
      done = ([], sym (append-nil s.done));
      lost = ([], sym (append-nil s.lost));
      stop = (λ t. t);
    })
    (λ _. kept_same s)

kept_finishes : (s : CoreState) (m : ℕ) (h : Option ℕ) → IsKept s (finish_step s m h).1
kept_finishes s m None = kept_same s
kept_finishes s m (Some n) =
    record {
      packets = refl;
      members = length-set s.hands m None;
      drawn = omega arith;
      done = (n ∷ [], refl);
      lost = ([], sym (append-nil s.lost));
      stop = (λ t. t);
    }

kept_abandons : (s : CoreState) (m : ℕ) (h : Option ℕ) → IsKept s (abandon_step s m h).1
kept_abandons s m None = kept_same s
kept_abandons s m (Some n) =
    record {
      packets = refl;
      members = length-set s.hands m None;
      drawn = omega arith;
      done = ([], sym (append-nil s.done));
      lost = (n ∷ [], refl);
      stop = (λ t. t);
    }

pub kept_step : (s : CoreState) (m : ℕ) (e : Event) → IsKept s (step s m e).1
kept_step s m Claim = kept_claims s m (hand_of s m)
kept_step s m Finish = kept_finishes s m (hand_of s m)
kept_step s m Abandon = kept_abandons s m (hand_of s m)
kept_step s m Stop =
    record {
      packets = refl;
      members = refl;
      drawn = omega arith;
      done = ([], sym (append-nil s.done));
      lost = ([], sym (append-nil s.lost));
      stop = (λ _. refl);
    }
kept_step s m (Look what) = kept_same s

pub kept_after : (s : CoreState) (es : List (ℕ × Event)) → IsKept s (core_after s es)
kept_after s [] = kept_same s
kept_after s (e ∷ es) =
    kept_then s (step s e.0 e.1).1 (core_after (step s e.0 e.1).1 es) (kept_step s e.0 e.1) (kept_after (step s e.0 e.1).1 es)

-- ---- the numbers that a run draws
-- one event drew no number, or the next
abbrev Drew : CoreState → Event → Step → Type 0
Drew s e r =
    ((r.1.drawn ≡ s.drawn) × (number_drawn e r.0 ≡ [])) ⊎ ((r.1.drawn ≡ s.drawn + 1) × (number_drawn e r.0 ≡ s.drawn ∷ []))

drew_claims : (s : CoreState) (m : ℕ) (h : Option ℕ) → Drew s Claim (claim_step s m h)
drew_claims s m (Some n) = inl (refl, refl)
drew_claims s m None = claims_none (Drew s Claim) s m (λ _. inr (refl, refl)) (λ _. inl (refl, refl))

drew_finishes : (s : CoreState) (m : ℕ) (h : Option ℕ) → Drew s Finish (finish_step s m h)
drew_finishes s m None = inl (refl, refl)
drew_finishes s m (Some n) = inl (refl, refl)

drew_abandons : (s : CoreState) (m : ℕ) (h : Option ℕ) → Drew s Abandon (abandon_step s m h)
drew_abandons s m None = inl (refl, refl)
drew_abandons s m (Some n) = inl (refl, refl)

drew_step : (s : CoreState) (m : ℕ) (e : Event) → Drew s e (step s m e)
drew_step s m Claim = drew_claims s m (hand_of s m)
drew_step s m Finish = drew_finishes s m (hand_of s m)
drew_step s m Abandon = drew_abandons s m (hand_of s m)
drew_step s m Stop = inl (refl, refl)
drew_step s m (Look what) = inl (refl, refl)

drew_run : (s : CoreState) (es : List (ℕ × Event)) → (k : ℕ) × ((core_after s es).drawn ≡ s.drawn + k)
    × (numbers_drawn es (replies s es) ≡ numbers_from s.drawn k)
drew_run s [] = (0, omega arith, refl)
drew_run s (e ∷ es) =
    let r = step s e.0 e.1 in let ih = drew_run r.1 es in ⊎_elim
    (λ (t : (r.1.drawn ≡ s.drawn) × (number_drawn e.1 r.0 ≡ [])). (
      ih.0,
      ih.1 ∙ ap (λ n. n + ih.0) t.0,
      ap (λ l. l ++ numbers_drawn es (replies r.1 es)) t.1 ∙ ih.2
          ∙ ap (λ n. numbers_from n ih.0) t.0,
    ))
    (λ (t : (r.1.drawn ≡ s.drawn + 1) × (number_drawn e.1 r.0 ≡ s.drawn ∷ [])). (
      suc ih.0,
      (let a = ih.1 in let b = t.0 in omega arith),
      ap (λ l. l ++ numbers_drawn es (replies r.1 es)) t.1
          ∙ ap (λ l. s.drawn ∷ l) (ih.2 ∙ ap (λ n. numbers_from n ih.0) t.0),
    ))
    (drew_step s e.0 e.1)

-- the numbers that a run draws are those from the count at its start on
pub drawn_run : (s t : CoreState) (es : List (ℕ × Event)) (rs : List Reply) → rs ≡ replies s es → t ≡ core_after s es
    → numbers_drawn es rs ≡ numbers_from s.drawn (t.drawn - s.drawn)
drawn_run s t es rs said is =
    let h = drew_run s es in
    let k : h.0 ≡ t.drawn - s.drawn = (let a = ap (λ (u : CoreState). u.drawn) is in let b = h.1 in omega arith) in
    ap (numbers_drawn es) said ∙ h.2 ∙ ap (numbers_from s.drawn) k

-- ---- for the loop of `play`
pub member_at : (members : ℕ) (es : List (ℕ × Event)) (i : ℕ) (d : ℕ × Event) → AllMembers members es → i < length es
    → (get_or es i d).0 < members
member_at members [] i d h l = absurd (omega arith)
member_at members (x ∷ xs) zero d h l = h.0
member_at members (x ∷ xs) (suc i) d h l = member_at members xs i d h.1 (omega arith)

pub after_more : (s t u : CoreState) (es : List (ℕ × Event)) (i : ℕ) (d : ℕ × Event) (r : Reply) → i < length es
    → t ≡ core_after s (take i es) → (r, u) ≡ step t (get_or es i d).0 (get_or es i d).1 → u ≡ core_after s (take (i + 1) es)
after_more s t u es i d r l was made =
    let e = get_or es i d in
    ap (λ (x : Reply × CoreState). x.1) made ∙ ap (λ (y : CoreState). (step y e.0 e.1).1) was ∙ sym (after_snoc s (take i es) e)
    ∙ ap (core_after s) (sym (take_more es i d l))

pub replies_more : (s t u : CoreState) (es : List (ℕ × Event)) (i : ℕ) (d : ℕ × Event) (r : Reply) (rs : List Reply) → i < length es
    → t ≡ core_after s (take i es) → (r, u) ≡ step t (get_or es i d).0 (get_or es i d).1 → rs ≡ replies s (take i es)
    → rs ++ r ∷ [] ≡ replies s (take (i + 1) es)
replies_more s t u es i d r rs l was made said =
    let e = get_or es i d in
    ap (λ (x : Reply × CoreState). rs ++ x.0 ∷ []) made ∙ ap (λ (y : CoreState). rs ++ (step y e.0 e.1).0 ∷ []) was
    ∙ ap (λ l. l ++ (step (core_after s (take i es)) e.0 e.1).0 ∷ []) said
    ∙ sym (replies_snoc s (take i es) e) ∙ ap (replies s) (sym (take_more es i d l))

-- ---- the accounts, over runs
accounts_claims : (s : CoreState) (m : ℕ) (h : Option ℕ) → m < length s.hands → hand_of s m ≡ h → Accounts s
    → Accounts (claim_step s m h).1
accounts_claims s m (Some n) l is a = a
accounts_claims s m None l is a =
    claims_none (λ r. Accounts r.1) s m (λ below. accounts_claim s.packets s.drawn s.hands s.done s.lost s.stop m l is below a)
    (λ _. a)

accounts_finishes : (s : CoreState) (m : ℕ) (h : Option ℕ) → m < length s.hands → hand_of s m ≡ h → Accounts s
    → Accounts (finish_step s m h).1
accounts_finishes s m None l is a = a
accounts_finishes s m (Some n) l is a = accounts_finish s.packets s.drawn s.hands s.done s.lost s.stop m n l is a

accounts_abandons : (s : CoreState) (m : ℕ) (h : Option ℕ) → m < length s.hands → hand_of s m ≡ h → Accounts s
    → Accounts (abandon_step s m h).1
accounts_abandons s m None l is a = a
accounts_abandons s m (Some n) l is a = accounts_abandon s.packets s.drawn s.hands s.done s.lost s.stop m n l is a

pub accounts_step : (s : CoreState) (m : ℕ) (e : Event) → m < length s.hands → Accounts s → Accounts (step s m e).1
accounts_step s m Claim l a = accounts_claims s m (hand_of s m) l refl a
accounts_step s m Finish l a = accounts_finishes s m (hand_of s m) l refl a
accounts_step s m Abandon l a = accounts_abandons s m (hand_of s m) l refl a
accounts_step s m Stop l a = record { within = a.within; each_once = a.each_once }
accounts_step s m (Look what) l a = a

pub accounts_after : (s : CoreState) (es : List (ℕ × Event)) → AllMembers (length s.hands) es → Accounts s → Accounts (core_after s es)
accounts_after s [] h a = a
accounts_after s (e ∷ es) h a =
    accounts_after (step s e.0 e.1).1 es (subst (λ n. AllMembers n es) (sym (kept_step s e.0 e.1).members) h.1)
    (accounts_step s e.0 e.1 h.0 a)

members_take : (m n : ℕ) (es : List (ℕ × Event)) → AllMembers m es → AllMembers m (take n es)
members_take m zero es h = tt
members_take m (suc n) [] h = tt
members_take m (suc n) (e ∷ es) h = (h.0, members_take m n es h.1)

-- what holds after the first n events
pub ran_accounts : (s t : CoreState) (es : List (ℕ × Event)) (n : ℕ) → t ≡ core_after s (take n es) → AllMembers (length s.hands) es
    → Accounts s → Accounts t
ran_accounts s t es n is h a = subst Accounts (sym is) (accounts_after s (take n es) (members_take (length s.hands) n es h) a)

pub ran_kept : (s t : CoreState) (es : List (ℕ × Event)) → t ≡ core_after s es → IsKept s t
ran_kept s t es is = subst (IsKept s) (sym is) (kept_after s es)

pub take_all : (es : List (ℕ × Event)) (n : ℕ) → length es ≤ n → take n es ≡ es
take_all [] zero l = refl
take_all [] (suc n) l = refl
take_all (e ∷ es) zero l = absurd (omega arith)
take_all (e ∷ es) (suc n) l = ap (λ xs. e ∷ xs) (take_all es n (omega arith))

pub run_law : RunLaw
run_law s es a members =
    (accounts_after s es members a, kept_after s es, drawn_run s (core_after s es) es (replies s es) refl refl)
