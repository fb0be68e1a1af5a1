-- What members give back, with what they had.
use Rattle.std.proofs.Common.{◌≡◌, suc, List, [], ◌∷◌, map, length, None, refl, ap}
use Rattle.std.proofs.lemmas.List.Elements.{All-head, All-tail, All-nil, All-cons, All-weaker}
use Rattle.std.specs.List.{All, AllZip}
use Rattle.tp_link.specs.Device.{DeviceState}
use Rattle.tp_link.specs.declared.links.Links.{Links}
use Rattle.tp_outcome.specs.Devices.{Devices, devices_of}
use Rattle.tp_stream.specs.Streams.{StreamView, IsHandOf, hand_progress}
use Rattle.tp_farm.specs.declared.member.Filed.{Filed}
use Rattle.tp_farm.specs.declared.member.Filed.TheVariants as filed
use Rattle.tp_farm.specs.declared.thread.Returned.{Returned}
use Rattle.tp_farm.specs.Members.{IsFiled}
use Rattle.tp_farm.specs.Working.{HasWorked}
use Rattle.tp_farm.specs.BatchWork.{BatchWork}
use Rattle.tp_farm.specs.Gathering.{fault_of_end, IsOfBatch}
use Rattle.tp_farm.specs.MemberResults.{member_results}
use Rattle.tp_farm.proofs.Settling.{Member, AllDidWell, hands}

module _ {D : Type 0} (state : D → DeviceState) where
  pub members_of : List (Links D) → List (Returned D) → List Member
  members_of [] rs = []
  members_of (b ∷ bs) [] = []
  members_of (b ∷ bs) (r ∷ rs) =
      record {
        before = devices_of state b;
        after = devices_of state r.links;
        progress = hand_progress r.hand;
        filed = r.filed.items;
        end = r.end;
      } ∷ members_of bs rs

  module _ (stream : StreamView) (work : BatchWork) where
    abbrev Worked : List (Links D) → List (Returned D) → Type 0
    Worked bs rs = AllZip (HasWorked state stream work) bs rs

    pub did_well : (bs : List (Links D)) (rs : List (Returned D)) → Worked bs rs
        → All (λ r. fault_of_end r.end ≡ None) rs → AllDidWell work.batch work.open_for_good (members_of bs rs)
    unfolding members_of
    did_well [] rs h well = tt
    did_well (b ∷ bs) [] h well = absurd h
    did_well (b ∷ bs) (r ∷ rs) h well = (
      record { accounts = h.0.accounts; ends = h.0.ends; well = All-head (λ r. fault_of_end r.end ≡ None) r rs well },
      did_well bs rs h.1 (All-tail (λ r. fault_of_end r.end ≡ None) r rs well),
    )

    pub before_is : (bs : List (Links D)) (rs : List (Returned D)) → Worked bs rs
        → map (λ m. m.before) (members_of bs rs) ≡ map (devices_of state) bs
    unfolding members_of
    before_is [] rs h = refl
    before_is (b ∷ bs) [] h = absurd h
    before_is (b ∷ bs) (r ∷ rs) h = ap (λ xs. devices_of state b ∷ xs) (before_is bs rs h.1)

    pub after_is : (bs : List (Links D)) (rs : List (Returned D)) → Worked bs rs
        → map (λ m. m.after) (members_of bs rs) ≡ map (devices_of state) (map (λ k. k.links) (map member_results rs))
    unfolding members_of
    after_is [] [] h = refl
    after_is [] (r ∷ rs) h = absurd h
    after_is (b ∷ bs) [] h = absurd h
    after_is (b ∷ bs) (r ∷ rs) h = ap (λ xs. devices_of state r.links ∷ xs) (after_is bs rs h.1)

    pub hands_is : (bs : List (Links D)) (rs : List (Returned D)) → Worked bs rs
        → hands (members_of bs rs) ≡ map hand_progress (map (λ r. r.hand) rs)
    unfolding members_of
    hands_is [] [] h = refl
    hands_is [] (r ∷ rs) h = absurd h
    hands_is (b ∷ bs) [] h = absurd h
    hands_is (b ∷ bs) (r ∷ rs) h = ap (λ xs. hand_progress r.hand ∷ xs) (hands_is bs rs h.1)

    pub filed_is : (bs : List (Links D)) (rs : List (Returned D)) → Worked bs rs
        → map (λ m. m.filed) (members_of bs rs) ≡ map (λ k. k.filed.items) (map member_results rs)
    unfolding members_of
    filed_is [] [] h = refl
    filed_is [] (r ∷ rs) h = absurd h
    filed_is (b ∷ bs) [] h = absurd h
    filed_is (b ∷ bs) (r ∷ rs) h = ap (λ xs. r.filed.items ∷ xs) (filed_is bs rs h.1)

    pub length_is : (bs : List (Links D)) (rs : List (Returned D)) → Worked bs rs → length (members_of bs rs) ≡ length rs
    unfolding members_of
    length_is [] [] h = refl
    length_is [] (r ∷ rs) h = absurd h
    length_is (b ∷ bs) [] h = absurd h
    length_is (b ∷ bs) (r ∷ rs) h = ap suc (length_is bs rs h.1)

    -- each hand is one of the stream's
    pub hands_own : (bs : List (Links D)) (rs : List (Returned D)) → Worked bs rs → All (IsHandOf stream) (map (λ r. r.hand) rs)
    hands_own bs [] h = All-nil (IsHandOf stream)
    hands_own [] (r ∷ rs) h = absurd h
    hands_own (b ∷ bs) (r ∷ rs) h = All-cons (IsHandOf stream) r.hand (map (λ r. r.hand) rs) h.0.is_own (hands_own bs rs h.1)

    of_batch : (devices : Devices) (f : Filed) → IsFiled work.batch devices f → IsOfBatch work.batch f
    of_batch devices (filed.Done d) h = h
    of_batch devices (filed.Lost n f) h = tt

    pub all_of_batch : (bs : List (Links D)) (rs : List (Returned D)) → Worked bs rs
        → All (λ k. All (IsOfBatch work.batch) k.filed.items) (map member_results rs)
    all_of_batch bs [] h = All-nil (λ k. All (IsOfBatch work.batch) k.filed.items)
    all_of_batch [] (r ∷ rs) h = absurd h
    all_of_batch (b ∷ bs) (r ∷ rs) h =
        All-cons (λ k. All (IsOfBatch work.batch) k.filed.items) (member_results r) (map member_results rs)
        (All-weaker (IsFiled work.batch (devices_of state b)) (IsOfBatch work.batch)
        (of_batch (devices_of state b)) r.filed.items h.0.accounts.filed)
        (all_of_batch bs rs h.1)
