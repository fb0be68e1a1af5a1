-- What the members of a batch come to, all together.
use Rattle.std.proofs.Common.{◌≡◌, ℕ, ◌+◌, ◌<◌, ◌≤◌, ◌⊎◌, inl, inr, Bool, true, false, ltb, if◌then◌else◌, List, [], ◌∷◌, ◌++◌}
use Rattle.std.proofs.Common.{map, length, replicate, Some, None, slice_get, sum_by, zero, suc, refl, sym, ap, ◌∙◌, subst, arith}
use Rattle.std.proofs.lemmas.Bool.Decides.{nat_tests}
use Rattle.std.specs.Option.{option_map}
use Rattle.std.proofs.lemmas.List.{map-append, length-replicate, get_or-replicate}
use Rattle.std.proofs.lemmas.List.Sums.{sum_by-append, sum_by-cons}
use Rattle.std.proofs.lemmas.List.Elements.{All-nil, All-cons, All-head, All-append, All-weaker}
use Rattle.std.proofs.lemmas.Option.{slice_get-get_or, slice_get_within, same_Some}
use Rattle.std.specs.List.{All, AllZip}
use Rattle.tp_link.specs.declared.links.Link.{Link}
use Rattle.tp_link.specs.declared.links.LinkFault.{LinkFault}
use Rattle.tp_link.specs.declared.links.Link.TheVariants.{Source, Sink, Trace}
use Rattle.tp_outcome.specs.Devices.{Devices}
use Rattle.tp_board.specs.declared.answer.Ledger.{Ledger}
use Rattle.tp_board.specs.Counting.{times, once_below}
use Rattle.tp_board.specs.Sources.{Progress}
use Rattle.tp_collect.specs.declared.collected.Entry.{Entry}
use Rattle.tp_collect.specs.declared.collected.Entry.TheVariants as entry
use Rattle.tp_collect.specs.declared.collected.LostCause.TheVariants as cause
use Rattle.tp_collect.specs.Collected.{JobValue, IsCollected}
use Rattle.tp_collect.specs.Collecting.{vacant}
use Rattle.tp_farm.specs.declared.member.Filed.{Filed}
use Rattle.tp_farm.specs.declared.member.Filed.TheVariants as filed
use Rattle.tp_farm.specs.declared.member.End.{End}
use Rattle.tp_farm.specs.declared.member.End.TheVariants as end
use Rattle.tp_farm.specs.Settings.{SameSettings}
use Rattle.tp_farm.specs.Members.{KeepsAccounts, EndsBy, IsFiled, failures_filed}
use Rattle.tp_farm.specs.Closing.{all_finished, all_abandoned, times_put_down, IsBorneOut, AddsUp}
use Rattle.tp_farm.specs.Gathering.{number_of, entry_of, entries_with, FindVacant, all_filed, fault_of_end}
use Rattle.tp_farm.specs.Jobs.{AreWhole}
use Rattle.tp_farm.specs.Batches.{device_at, failures_at, failures_in_entry, LostBySome, IsBatch}
use Rattle.tp_farm.proofs.Numbers.{numbers, times-append, times_parts, find_vacant, tells_all, none_filed}
use Rattle.tp_farm.proofs.Origins.{Comes, comes_from}

-- a member, from first to last
pub record Member : Type 0 where
  pub before : Devices
  pub after : Devices
  pub progress : Progress
  pub filed : List Filed
  pub end : End

-- it has done its work, and no fault ended it
pub record DidWell (batch : JobValue) (open_for_good : Bool) (m : Member) : Type 0 where
  pub accounts : KeepsAccounts batch m.before m.after m.progress m.filed
  pub ends : EndsBy batch open_for_good m.progress m.end
  pub well : fault_of_end m.end ≡ None

abbrev pub AllDidWell : JobValue → Bool → List Member → Type 0
AllDidWell batch o [] = Unit {0}
AllDidWell batch o (m ∷ ms) = DidWell batch o m × AllDidWell batch o ms

abbrev pub hands : List Member → List Progress
hands ms = map (λ m. m.progress) ms

abbrev pub everything : List Member → List Filed
everything ms = all_filed (map (λ m. m.filed) ms)

module _ (batch : JobValue) (o : Bool) where
  -- ---- numbers

  numbers-append : (xs ys : List Filed) → numbers (xs ++ ys) ≡ numbers xs ++ numbers ys
  numbers-append xs ys = map-append number_of xs ys

  -- the numbers that are filed are those that the hands finished and abandoned
  filed_numbers : (x : ℕ) (ms : List Member) → AllDidWell batch o ms → times x (numbers (everything ms)) ≡ times_put_down x (hands ms)
  filed_numbers x [] h = refl
  filed_numbers x (m ∷ ms) h =
      omega (
        arith,
        ap (times x) (numbers-append m.filed (everything ms)),
        times-append x (numbers m.filed) (numbers (everything ms)),
        times_parts x m.filed,
        filed_numbers x ms h.1,
        ap (times x) h.0.accounts.finished,
        ap (times x) h.0.accounts.abandoned,
        times-append x m.progress.finished (all_finished (hands ms)),
        times-append x m.progress.abandoned (all_abandoned (hands ms)),
      )

  -- ---- devices

  same_all : (ms : List Member) → AllDidWell batch o ms → AllZip SameSettings (map (λ m. m.before) ms) (map (λ m. m.after) ms)
  same_all [] h = tt
  same_all (m ∷ ms) h = (h.0.accounts.settings, same_all ms h.1)

  rises_at : (which : Link) (m : Member) → KeepsAccounts batch m.before m.after m.progress m.filed
      → (device_at which m.after).faults ≡ (device_at which m.before).faults + sum_by (failures_filed which) m.filed
  rises_at Source m h = h.rises.source
  rises_at Sink m h = h.rises.sink
  rises_at Trace m h = h.rises.trace

  failed_all : (which : Link) (ms : List Member) → AllDidWell batch o ms
      → failures_at which (map (λ m. m.after) ms) ≡ failures_at which (map (λ m. m.before) ms) + sum_by (failures_filed which)
      (everything ms)
  failed_all which [] h = refl
  failed_all which (m ∷ ms) h =
      omega (
        arith,
        sum_by-cons (λ devices. (device_at which devices).faults) m.after (map (λ m. m.after) ms),
        sum_by-cons (λ devices. (device_at which devices).faults) m.before (map (λ m. m.before) ms),
        sum_by-append (failures_filed which) m.filed (everything ms),
        failed_all which ms h.1,
        rises_at which m h.0.accounts,
      )

  -- ---- losses

  -- the losses have a cause in some member's devices
  abbrev HasLost : List Devices → Filed → Type 0
  HasLost members (filed.Done done) = Unit {0}
  HasLost members (filed.Lost number fault) = LostBySome batch members number fault

  lost_at : (members : List Devices) (i : ℕ) (devices : Devices) (f : Filed) → slice_get members i ≡ Some devices
      → IsFiled batch devices f → HasLost members f
  lost_at members i devices (filed.Done done) at h = tt
  lost_at members i devices (filed.Lost number fault) at h =
      record { packet = h.packet; is = h.is; member = i; devices = devices; there = at; cause = h.cause }

  -- of members of whom some others stand before
  lost_from : (members : List Devices) (n : ℕ) (ms : List Member)
      → ((i : ℕ) (m : Member) → slice_get ms i ≡ Some m → slice_get members (n + i) ≡ Some m.before) → AllDidWell batch o ms
      → All (HasLost members) (everything ms)
  lost_from members n [] at h = All-nil (HasLost members)
  lost_from members n (m ∷ ms) at h =
      All-append (HasLost members) m.filed (everything ms)
      (All-weaker (IsFiled batch m.before) (HasLost members)
      (λ f is. lost_at members n m.before f (subst (λ k. slice_get members k ≡ Some m.before) (omega arith) (at 0 m refl)) is)
      m.filed h.0.accounts.filed)
      (lost_from members (n + 1) ms (λ i u is. subst (λ k. slice_get members k ≡ Some u.before) (omega arith) (at (suc i) u is))
      h.1)

  before_at : (ms : List Member) (i : ℕ) (m : Member) → slice_get ms i ≡ Some m
      → slice_get (map (λ m. m.before) ms) i ≡ Some m.before
  before_at [] i m is = cc
  before_at (u ∷ ms) zero m is = ap (λ o. option_map (λ m. m.before) o) is
  before_at (u ∷ ms) (suc i) m is = before_at ms i m is

  lost_all : (ms : List Member) → AllDidWell batch o ms → All (HasLost (map (λ m. m.before) ms)) (everything ms)
  lost_all ms h =
      lost_from (map (λ m. m.before) ms) 0 ms (λ i m is. subst (λ k. slice_get (map (λ m. m.before) ms) k ≡ Some m.before)
      (omega arith) (before_at ms i m is)) h

  none_of : (which : Link) (k : ℕ) → sum_by (failures_in_entry which) (replicate k vacant) ≡ 0
  none_of which zero = refl
  none_of which (suc k) = omega (arith, sum_by-cons (failures_in_entry which) vacant (replicate k vacant), none_of which k)

  -- ---- the entries

  module _ (n : ℕ) (l : Ledger) (ms : List Member) (h : AllDidWell batch o ms) (b : AddsUp n (hands ms) l)
      (sized : n ≡ length batch.packets) where
    -- each number is filed once at most, and it was drawn
    few : (x : ℕ) → times x (numbers (everything ms)) ≤ once_below x l.drawn
    few x = omega (arith, filed_numbers x ms h, b.few x)

    once_most : (x m : ℕ) → once_below x m ≤ 1
    once_most x m = by_test (ltb x m)
      where
        by_test : (t : Bool) → (if t then 1 else 0) ≤ 1
        by_test true = omega arith
        by_test false = omega arith

    once_some : (x m : ℕ) → 0 < once_below x m → x < m
    once_some x m lt = by_test (ltb x m) refl lt
      where
        by_test : (t : Bool) → ltb x m ≡ t → 0 < (if t then 1 else 0) → x < m
        by_test true is lt = grind (arith, nat_tests, is)
        by_test false is lt = absurd (omega (arith, lt))

    pub all_vacant : FindVacant (replicate n vacant) (everything ms)
    all_vacant =
        find_vacant (replicate n vacant) (everything ms)
        (λ x. omega (arith, few x, once_most x l.drawn))
        (λ x some. vacant_at x (once_some x l.drawn (omega (arith, few x, some))))
      where
        vacant_at : (x : ℕ) → x < l.drawn → slice_get (replicate n vacant) x ≡ Some vacant
        vacant_at x lt =
            slice_get-get_or (replicate n vacant) x vacant (omega (arith, length-replicate n vacant, lt, b.within))
            ∙ ap Some (get_or-replicate n x vacant vacant (omega (arith, lt, b.within)))

    none_told : (which : Link) → sum_by (failures_in_entry which) (replicate n vacant) ≡ 0
    none_told which = none_of which n

    failures : (which : Link) (entries : List Entry) → entries ≡ entries_with (replicate n vacant) (everything ms)
        → failures_at which (map (λ m. m.after) ms) ≡ failures_at which (map (λ m. m.before) ms) + sum_by
        (failures_in_entry which) entries
    failures which entries is =
        omega (
          arith,
          failed_all which ms h,
          ap (sum_by (failures_in_entry which)) is,
          tells_all which (replicate n vacant) (everything ms) all_vacant,
          none_told which,
        )

    losses : (entries : List Entry) → entries ≡ entries_with (replicate n vacant) (everything ms) → (i : ℕ) (fault : LinkFault)
        → slice_get entries i ≡ Some (entry.Lost (cause.Link fault)) → LostBySome batch (map (λ m. m.before) ms) i fault
    losses entries is i fault at =
        by_origin (comes_from (HasLost (map (λ m. m.before) ms)) (replicate n vacant) (everything ms) i
        (entry.Lost (cause.Link fault)) all_vacant (lost_all ms h) (sym (ap (λ es. slice_get es i) is) ∙ at))
      where
        not_vacant : slice_get (replicate n vacant) i ≡ Some (entry.Lost (cause.Link fault)) → ⊥
        not_vacant e =
            let within = slice_get_within (replicate n vacant) i (entry.Lost (cause.Link fault)) e in
            let is_vacant : slice_get (replicate n vacant) i ≡ Some vacant =
            slice_get-get_or (replicate n vacant) i vacant within
            ∙ ap Some (get_or-replicate n i vacant vacant (omega (arith, length-replicate n vacant, within))) in
            differ (same_Some _ _ (sym is_vacant ∙ e))
          where
            differ : vacant ≡ entry.Lost (cause.Link fault) → ⊥
            differ e = cc

        of_filed : (f : Filed) → HasLost (map (λ m. m.before) ms) f → number_of f ≡ i
            → entry_of f ≡ entry.Lost (cause.Link fault) → LostBySome batch (map (λ m. m.before) ms) i fault
        of_filed (filed.Done d) so number e = cc
        of_filed (filed.Lost k f) so number e =
            let same : f ≡ fault = same_fault f fault e in
            subst (λ j. LostBySome batch (map (λ m. m.before) ms) j fault) number
            (subst (λ g. LostBySome batch (map (λ m. m.before) ms) k g) same so)
          where
            same_fault : (f g : LinkFault) → entry.Lost (cause.Link f) ≡ entry.Lost (cause.Link g) → f ≡ g
            same_fault f g e = cc

        by_origin : (slice_get (replicate n vacant) i ≡ Some (entry.Lost (cause.Link fault)))
            ⊎ Comes (HasLost (map (λ m. m.before) ms)) i (entry.Lost (cause.Link fault))
            → LostBySome batch (map (λ m. m.before) ms) i fault
        by_origin (inl e) = absurd (not_vacant e)
        by_origin (inr c) = of_filed c.filed c.so c.number c.is

    -- ---- a packet that nobody took

    -- nobody stopped the board, where no gate closes
    module _ (always : o ≡ true) where
      not_closed : {X : Type 0} → o ≡ false → X
      not_closed e = true_false (sym always ∙ e)
        where
          true_false : {X : Type 0} → ◌≡◌ {A = Bool} true false → X
          true_false e = cc

      none_called : (m : Member) → DidWell batch o m → m.progress.stop_called ≡ false
      none_called m d = by_end m.end d.well d.ends
        where
          by_end : (e : End) → fault_of_end e ≡ None → EndsBy batch o m.progress e → m.progress.stop_called ≡ false
          by_end end.Drained well (hand, called, ended) = called
          by_end end.Stopped well (hand, inl (called, seen)) = called
          by_end end.Stopped well (hand, inr (called, closed)) = not_closed closed
          by_end end.Memory well e = cc

      none_calls : (us : List Member) → AllDidWell batch o us → All (λ p. p.stop_called ≡ false) (hands us)
      none_calls [] d = All-nil (λ p. p.stop_called ≡ false)
      none_calls (u ∷ us) d = All-cons (λ p. p.stop_called ≡ false) u.progress (hands us) (none_called u d.0) (none_calls us d.1)

      not_stopped : l.stopped ≡ true → ⊥
      not_stopped is = b.stopped is (none_calls ms h)

      -- a member has nothing in hand
      empty_hand : (m : Member) → DidWell batch o m → m.progress.in_hand ≡ None
      empty_hand m d = by_end m.end d.well d.ends
        where
          by_end : (e : End) → fault_of_end e ≡ None → EndsBy batch o m.progress e → m.progress.in_hand ≡ None
          by_end end.Drained well e = e.0
          by_end end.Stopped well e = e.0
          by_end end.Memory well e = cc

      empty_hands : (us : List Member) → AllDidWell batch o us → All (λ p. p.in_hand ≡ None) (hands us)
      empty_hands [] d = All-nil (λ p. p.in_hand ≡ None)
      empty_hands (u ∷ us) d = All-cons (λ p. p.in_hand ≡ None) u.progress (hands us) (empty_hand u d.0) (empty_hands us d.1)

      -- and a member ends where there are no more packets
      first_drained : (m : Member) → IsBorneOut n l m.progress → DidWell batch o m → l.drawn ≡ n
      first_drained m so d = by_end m.end d.well d.ends
        where
          by_end : (e : End) → fault_of_end e ≡ None → EndsBy batch o m.progress e → l.drawn ≡ n
          by_end end.Drained well (hand, called, inl ended) = so.ended ended
          by_end end.Drained well (hand, called, inr all) = omega (arith, all, so.taken, b.within, sized)
          by_end end.Stopped well (hand, inl (called, seen)) = absurd (not_stopped (so.stop_seen seen))
          by_end end.Stopped well (hand, inr (called, closed)) = not_closed closed
          by_end end.Memory well e = cc

      all_drawn_up : (us : List Member) → All (IsBorneOut n l) (hands us) → AllDidWell batch o us → 0 < length us → l.drawn ≡ n
      all_drawn_up [] so d any = absurd (omega (arith, any))
      all_drawn_up (m ∷ us) so d any = first_drained m (All-head (IsBorneOut n l) m.progress (hands us) so) d.0

      -- so each packet was filed
      each_filed : (x : ℕ) → 0 < length ms → x < n → times x (numbers (everything ms)) ≡ 1
      each_filed x any lt =
          let drew : l.drawn ≡ n = all_drawn_up ms b.learnt h any in
          omega (arith, filed_numbers x ms h, b.all (empty_hands ms h) x, ap (once_below x) drew, below x n lt)
        where
          below : (x m : ℕ) → x < m → once_below x m ≡ 1
          below x m lt = by_test (ltb x m) refl
            where
              by_test : (t : Bool) → ltb x m ≡ t → ◌≡◌ {A = ℕ} (if t then 1 else 0) 1
              by_test true is = refl
              by_test false is = absurd (grind (arith, nat_tests, is, lt))

    stopped : (entries : List Entry) → entries ≡ entries_with (replicate n vacant) (everything ms) → length entries ≡ n
        → 0 < length ms → (i : ℕ) → slice_get entries i ≡ Some vacant → o ≡ false
    stopped entries is long any i at = by_gate o refl
      where
        by_gate : (g : Bool) → o ≡ g → o ≡ false
        by_gate false e = e
        by_gate true e =
            let lt : i < n = omega (arith, slice_get_within entries i vacant at, long) in
            let none = none_filed (replicate n vacant) (everything ms) i all_vacant (sym (ap (λ es. slice_get es i) is) ∙ at) in
            absurd (omega (arith, none, each_filed e i any lt))

    pub settled : AreWhole batch → (entries : List Entry) → entries ≡ entries_with (replicate n vacant) (everything ms) → IsCollected batch entries
        → 0 < length ms → IsBatch batch o (map (λ m. m.before) ms) (map (λ m. m.after) ms) entries
    settled whole entries is collected any = record {
      packets = whole;
      collected = collected;
      settings = same_all ms h;
      failures = λ which. failures which entries is;
      losses = losses entries is;
      stopped = stopped entries is (collected.count ∙ sym sized) any;
    }
