-- The batch that the members come to.
use Rattle.std.proofs.Common.{◌≡◌, ℕ, ◌<◌, List, [], ◌++◌, map, length, replicate, None, sym, ap, ◌∙◌, subst}
use Rattle.std.specs.List.{All, AllZip}
use Rattle.tp_link.specs.Device.{DeviceState}
use Rattle.tp_link.specs.declared.links.Links.{Links}
use Rattle.tp_board.specs.declared.answer.Ledger.{Ledger}
use Rattle.tp_stream.specs.Streams.{StreamView, HandView, IsHandOf, hand_progress}
use Rattle.tp_collect.specs.declared.collected.Entry.{Entry}
use Rattle.tp_collect.specs.Collected.{IsCollected}
use Rattle.tp_collect.specs.Collecting.{Collection, collection, vacant}
use Rattle.tp_outcome.specs.Devices.{devices_of}
use Rattle.tp_farm.specs.declared.member.Filed.{Filed}
use Rattle.tp_farm.specs.declared.thread.Returned.{Returned}
use Rattle.tp_farm.specs.declared.gathering.MemberResults.{MemberResults}
use Rattle.tp_farm.specs.Working.{HasWorked, HaveToSettle}
use Rattle.tp_farm.specs.BatchWork.{BatchWork}
use Rattle.tp_farm.specs.Gathering.{empty_collection, fault_of_end, all_filed, entries_with, FindVacant, IsOfBatch}
use Rattle.tp_farm.specs.Closing.{AddsUp}
use Rattle.tp_farm.specs.MemberResults.{member_results}
use Rattle.tp_farm.specs.Jobs.{AreWhole}
use Rattle.tp_farm.specs.Batches.{IsBatch}
use Rattle.tp_farm.proofs.Settling.{Member, AllDidWell, hands, everything, all_vacant, settled}
use Rattle.tp_farm.proofs.Together.{members_of, did_well, before_is, after_is, hands_is, filed_is, length_is, hands_own}
use Rattle.tp_farm.proofs.Together.{all_of_batch}

module _ {D : Type 0} (state : D → DeviceState) (stream : StreamView) (work : BatchWork) (bs : List (Links D))
    (rs : List (Returned D)) (worked : AllZip (HasWorked state stream work) bs rs) where
  -- what was empty holds what came
  came : {X : Type 0} (old new come : List X) → old ≡ [] → new ≡ old ++ come → new ≡ come
  came old new come none is = is ∙ ap (λ xs. xs ++ come) none

  pub own_hands : (old new : List HandView) → old ≡ [] → new ≡ old ++ map (λ r. r.hand) rs → All (IsHandOf stream) new
  own_hands old new none is =
      subst (All (IsHandOf stream)) (sym (came old new (map (λ r. r.hand) rs) none is)) (hands_own state stream work bs rs worked)

  module _ (c : Collection) (n : ℕ) (begins : c ≡ record { batch = work.batch; entries = replicate n vacant })
      (old new : List (MemberResults D)) (none : old ≡ []) (kept : new ≡ old ++ map member_results rs) where
    kept_is : new ≡ map member_results rs
    kept_is = came old new (map member_results rs) none kept

    pub kept_of_batch : All (λ k. All (IsOfBatch c.batch) k.filed.items) new
    kept_of_batch =
        subst (λ ks. All (λ k. All (IsOfBatch c.batch) k.filed.items) ks) (sym kept_is)
        (subst (λ b. All (λ k. All (IsOfBatch b) k.filed.items) (map member_results rs)) (sym (ap (λ x. x.batch) begins))
        (all_of_batch state stream work bs rs worked))

    module _ (well : All (λ r. fault_of_end r.end ≡ None) rs) (hands0 hands1 : List HandView) (no_hands : hands0 ≡ [])
        (came_in : hands1 ≡ hands0 ++ map (λ r. r.hand) rs) (l : Ledger) (adds_up : AddsUp n (map hand_progress hands1) l)
        (sized : n ≡ length work.batch.packets) (whole : AreWhole work.batch) where
      ms : List Member
      ms = members_of state bs rs

      all_well : AllDidWell work.batch work.open_for_good ms
      unfolding ms
      all_well = did_well state stream work bs rs worked well

      added_up : AddsUp n (hands ms) l
      unfolding ms
      added_up =
          subst (λ ps. AddsUp n ps l) (ap (map hand_progress) (came hands0 hands1 (map (λ r. r.hand) rs) no_hands came_in)
          ∙ sym (hands_is state stream work bs rs worked)) adds_up

      filed_same : all_filed (map (λ k. k.filed.items) new) ≡ everything ms
      unfolding ms
      filed_same =
          ap (λ ks. all_filed (map (λ k. k.filed.items) ks)) kept_is
          ∙ sym (ap all_filed (filed_is state stream work bs rs worked))

      entries_is : c.entries ≡ replicate n vacant
      entries_is = ap (λ x. x.entries) begins

      pub vacant_at_first : FindVacant c.entries (all_filed (map (λ k. k.filed.items) new))
      vacant_at_first =
          subst (λ fs. FindVacant c.entries fs) (sym filed_same)
          (subst (λ es. FindVacant es (everything ms)) (sym entries_is)
          (all_vacant work.batch work.open_for_good n l ms all_well added_up sized))

      module _ (c' : Collection) (filed : c' ≡ record c
          { entries = entries_with c.entries (all_filed (map (λ k. k.filed.items) new)) }) (entries : List Entry)
          (finished : entries ≡ c'.entries) (collected : IsCollected c'.batch entries) (any : 0 < length rs)
          (links0 links1 : List (Links D)) (no_links : links0 ≡ []) (links : links1 ≡ links0 ++ map (λ k. k.links) new) where
        entries_filed : entries ≡ entries_with (replicate n vacant) (everything ms)
        entries_filed =
            finished ∙ ap (λ x. x.entries) filed ∙ ap (λ es. entries_with es (all_filed (map (λ k. k.filed.items) new))) entries_is
            ∙ ap (entries_with (replicate n vacant)) filed_same

        batch_same : c'.batch ≡ work.batch
        batch_same = ap (λ x. x.batch) filed ∙ ap (λ x. x.batch) begins

        links_is : links1 ≡ map (λ k. k.links) (map member_results rs)
        links_is = came links0 links1 (map (λ k. k.links) new) no_links links ∙ ap (map (λ k. k.links)) kept_is

        some_members : 0 < length ms
        unfolding ms
        some_members = subst (λ k. 0 < k) (sym (length_is state stream work bs rs worked)) any

        pub is_batch : IsBatch work.batch work.open_for_good (map (devices_of state) bs) (map (devices_of state) links1) entries
        unfolding ms
        is_batch =
            let it =
            settled work.batch work.open_for_good n l ms all_well added_up sized whole entries entries_filed
            (subst (λ b. IsCollected b entries) batch_same collected) some_members in
            subst (λ xs. IsBatch work.batch work.open_for_good (map (devices_of state) bs) (map (devices_of state) xs) entries)
            (sym links_is)
            (subst (λ xs. IsBatch work.batch work.open_for_good (map (devices_of state) bs) xs entries)
            (after_is state stream work bs rs worked)
            (subst (λ xs. IsBatch work.batch work.open_for_good xs (map (λ m. m.after) ms) entries)
            (before_is state stream work bs rs worked) it))

-- members that have worked on a job's batch, and its collector as it is at first
pub to_settle : {D : Type 0} (state : D → DeviceState) (stream : StreamView) (work : BatchWork) (bs : List (Links D))
    (rs : List (Returned D)) (c : Collection) → AllZip (HasWorked state stream work) bs rs
    → length stream.packets ≡ length work.batch.packets → AreWhole work.batch → c ≡ empty_collection work.batch
    → HaveToSettle state stream work bs rs c
to_settle state stream work bs rs c worked sized whole empty = record {
  worked = worked;
  sized = sized;
  whole = whole;
  empty = empty ∙ ap (λ k. collection work.batch (replicate k vacant)) (sym sized);
}
