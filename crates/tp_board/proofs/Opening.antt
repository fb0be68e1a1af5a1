-- A board on which no step was made keeps the rule, and stands for the opening farm.
use Rattle.std.proofs.Common.{replicate, ◌≡◌, ℕ, zero, suc, ◌≤◌, min, nat_eq, [], ◌∷◌, length, map, None, sym, refl, ap, ◌∙◌}
use Rattle.std.proofs.Common.{subst, arith}
use Rattle.tp_board.specs.declared.view.Counters.{Counters}
use Rattle.tp_board.specs.declared.view.View.{View}
use Rattle.tp_board.specs.Counting.{times, once_below}
use Rattle.tp_board.specs.CoreState.{core_state, opening_core}
use Rattle.tp_board.specs.CoreOf.{core_of}
use Rattle.tp_board.specs.Words.{size, words_of}
use Rattle.tp_board.specs.Views.{newcomer, nothing_seen, first_of, all_finished, all_abandoned}
use Rattle.tp_board.specs.Rule.{Fits, Rule}
use Rattle.tp_board.specs.Openings.{opening_words, opening_views, OpeningLaw}
use Rattle.tp_board.specs.Boards.{BoardView, views_of, new_seat}
use Rattle.tp_board.proofs.Counting.{none_below}
use Rattle.tp_board.proofs.Steps.{newcomer_fits}
use Rattle.tp_board.proofs.Totals.{total_same, total_each, at_replicate, none_gathered}

opening_rule : (p m : ℕ) → p ≤ 1024 → m ≤ 65 → Rule (size p m) nothing_seen (opening_views p m)
opening_rule p m few_packets few_members =
    let v = newcomer p 1 in
    let none : min 0 p ≡ 0 = omega arith in record {
      few_packets = few_packets;
      few_members = few_members;
      parts = total_each (λ u. u.parts) v m refl;
      each_once = (λ x. total_same (λ u. times x u.drawn) v m refl ∙ sym (ap (once_below x) none ∙ none_below x));
      drawn = total_same (λ u. length u.drawn) v m refl ∙ sym none;
      ended = (let a = total_same (λ u. u.ended) v m refl in omega arith);
      done = sym (total_same (λ u. length u.finished) v m refl);
      lost = sym (total_same (λ u. length u.abandoned) v m refl);
      stop = sym (ap (min 1) (total_same (λ u. u.stop_callers) v m refl));
      fits =
          (λ id u at. subst (Fits (size p m) nothing_seen) (at_replicate v u m id at)
          (newcomer_fits (size p m) nothing_seen p 1 (λ _. refl)));
    }

-- no other words
opening_only : (p m : ℕ) (w : Counters) → Rule (size p m) w (opening_views p m) → words_of w ≡ opening_words
opening_only p m w r =
    let v = newcomer p 1 in
    let claimed : w.claimed ≡ 0 =
    (let a = r.drawn in let b = total_same (λ u. length u.drawn) v m refl in let c = r.ended in let d = total_same
    (λ u. u.ended) v m refl in omega arith) in
    let done : w.done ≡ 0 = r.done ∙ total_same (λ u. length u.finished) v m refl in
    let lost : w.lost ≡ 0 = r.lost ∙ total_same (λ u. length u.abandoned) v m refl in
    let stop : w.stop ≡ 0 = r.stop ∙ ap (min 1) (total_same (λ u. u.stop_callers) v m refl) in
    ap (λ n. n ∷ w.done ∷ w.lost ∷ w.stop ∷ []) claimed
    ∙ ap (λ n. 0 ∷ n ∷ w.lost ∷ w.stop ∷ []) done
    ∙ ap (λ n. 0 ∷ 0 ∷ n ∷ w.stop ∷ []) lost
    ∙ ap (λ n. 0 ∷ 0 ∷ 0 ∷ n ∷ []) stop

no_hands : (v : View) (n : ℕ) → first_of v.hand ≡ None → map (λ u. first_of u.hand) (replicate n v) ≡ replicate n None
no_hands v zero e = refl
no_hands v (suc n) e = ap (λ h. h ∷ map (λ u. first_of u.hand) (replicate n v)) e ∙ ap (λ l. None ∷ l) (no_hands v n e)

-- the farm that any number of seats stand for
pub opening_stands_for : (p m : ℕ) → core_of (size p m) opening_words (opening_views p m) ≡ opening_core p m
opening_stands_for p m =
    let v = newcomer p 1 in
    let views = opening_views p m in
    let none : min 0 p ≡ 0 = omega arith in
    ap (λ n. core_state p n (map (λ u. first_of u.hand) views) (all_finished views) (all_abandoned views) (nat_eq 0 1)) none
    ∙ ap (λ hs. core_state p 0 hs (all_finished views) (all_abandoned views) (nat_eq 0 1)) (no_hands v m refl)
    ∙ ap (λ l. core_state p 0 (replicate m None) l (all_abandoned views) (nat_eq 0 1)) (none_gathered (λ u. u.finished) v m refl)
    ∙ ap (λ l. core_state p 0 (replicate m None) [] l (nat_eq 0 1)) (none_gathered (λ u. u.abandoned) v m refl)

pub opening_law : OpeningLaw
opening_law p m (some_member, few_members, few_packets) = record {
  rule = (nothing_seen, refl, opening_rule p m few_packets (omega arith));
  only = (λ words h. h.1 ∙ opening_only p m h.0 h.2);
  core_state = opening_stands_for p m;
}

-- the views of the seats that a board gives
pub new_views : (b : BoardView) (n : ℕ) → views_of (replicate n (new_seat b)) ≡ opening_views b.packets n
new_views b zero = refl
new_views b (suc n) = ap (λ vs. newcomer b.packets 1 ∷ vs) (new_views b n)
