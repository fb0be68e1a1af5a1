-- A machine whose state fits goes on by its instruction: the instruction's own rule, then entering.
use Rattle.std.proofs.Common.{◌≡◌, ◌⊎◌, inl, inr, ℕ, suc, ◌+◌, ◌-◌, ◌<◌, ◌≤◌, Bool, true, false, ◌&&◌, not, ◌==◌}
use Rattle.std.proofs.Common.{nat_lt, if◌then◌else◌, ℤ, pos, ◌+ℤ◌, List, [], ◌∷◌, length, slice_get, All, Option, Some}
use Rattle.std.proofs.Common.{None, Result, Ok, Err, refl, sym, ap, ◌∙◌, subst, arith}
use Rattle.std.specs.Prelude.{IsOk, Contains}
use Rattle.std.specs.Option.{option_and_then}
use Rattle.std.proofs.lemmas.Bool.{and_parts, or_cases, not-true, false_from_ne_true, cases_eq}
use Rattle.std.proofs.lemmas.Bool.Decides.{Decides-eqb}
use Rattle.std.proofs.lemmas.Option.{same_Some, slice_get-get_or}
use Rattle.tp_decode.specs.Cutting.{Cut, cut_at, IsCutting}
use Rattle.tp_decode.specs.declared.instr.Instr.{Instr}
use Rattle.tp_decode.specs.declared.instr.Instr.TheVariants.{Jump, Ldlp, Ldnl, Ldc, Ldnlp, Ldl, Adc, Cj, Ajw, Eqc, Stl}
use Rattle.tp_decode.specs.declared.instr.Instr.TheVariants.{Stnl, Rev, Lb, Bsub, Diff, Add, Input, Prod, Gt, Wsub}
use Rattle.tp_decode.specs.declared.instr.Instr.TheVariants.{Output, Sub, Seterr, Csub0, Stopp, Rem, Lend, Div, BitNot}
use Rattle.tp_decode.specs.declared.instr.Instr.TheVariants.{BitXor, Sb, Shr, Shl, Mint, BitAnd, MoveBytes, BitOr, Sum}
use Rattle.tp_decode.specs.declared.instr.Instr.TheVariants.{Mul}
use Rattle.tp_decode.specs.Table.{entry}
use Rattle.tp_image.specs.declared.image.LoopRow.{LoopRow}
use Rattle.tp_image.specs.declared.image.Version.{Version}
use Rattle.tp_image.specs.declared.image.Version.TheVariants.{One, Two}
use Rattle.tp_image.specs.Image.{ImageValue, InRange}
use Rattle.tp_image.specs.Limits.{most_workspace}
use Rattle.tp_flow.specs.declared.edge.Edge.{Edge}
use Rattle.tp_flow.specs.declared.edge.Edge.TheVariants.{Next, Taken, Back, Out}
use Rattle.tp_flow.specs.NestRanges.{range_of, ranges, contains}
use Rattle.tp_flow.specs.NestKept.{HasOwnLends, KeepsNest}
use Rattle.tp_flow.specs.Edges.{is_edge, edges, target}
use Rattle.tp_flow.specs.LoopsAround.{is_around, is_entered, entered_by, left_by, without, along_with, around_after}
use Rattle.tp_flow.specs.AroundKept.{KeepsAround}
use Rattle.tp_flow.proofs.FlowNest.{range_at}
use Rattle.tp_flow.proofs.LoopMoves.{found_passes, one_of, keeps_around}
use Rattle.tp_step.specs.Memory.{Memory}
use Rattle.tp_step.specs.State.{State as Machine}
use Rattle.tp_step.specs.Effects.{effect}
use Rattle.tp_words.specs.Numbers.{overflows}
use Rattle.tp_step.proofs.SpellingLemmas.{instruction_runs}
use Rattle.tp_step.specs.Steps.{step, steps, IsStuck}
use Rattle.tp_step.proofs.StepLemmas.{steps_add}
use Rattle.tp_state.specs.declared.state.State.{State}
use Rattle.tp_state.specs.Rules.{rule}
use Rattle.tp_state.specs.After.{after, asked, entering}
use Rattle.tp_state.specs.Fits.{Fits, FitsAmong, IsLive}
use Rattle.tp_state.specs.GoesOn.{IsAccepted, turns_in, turns_after, AreTurnsAfter, FollowsTurns, GoesAlong, HasStopped, GoesOn}
use Rattle.tp_state.proofs.EdgeLemmas.{some_is, address_is}
use Rattle.tp_state.proofs.CodeLemmas.{stands, spelling_of, operand_fits}
use Rattle.tp_state.proofs.Passing.{through}
use Rattle.tp_state.proofs.LoopsPart.{loops_alike}
use Rattle.tp_state.proofs.RestLemmas.{fits_at}
use Rattle.tp_state.proofs.Makes.{Makes, KeepsTurns, one_less}
use Rattle.tp_state.proofs.ConstantPass.{ldc_makes, mint_makes, ldlp_makes, ldl_makes, stl_makes, ajw_makes, rev_makes, seterr_makes}
use Rattle.tp_state.proofs.NumberPass.{adc_makes, eqc_makes, add_makes, sub_makes, sum_makes, diff_makes, gt_makes}
use Rattle.tp_state.proofs.NumberPass.{mul_makes, prod_makes, div_makes, rem_makes, not_makes, and_makes, or_makes}
use Rattle.tp_state.proofs.NumberPass.{xor_makes, csub0_makes, shr_makes, shl_makes}
use Rattle.tp_state.proofs.PointerPass.{ldnlp_makes, wsub_makes, bsub_makes, ldnl_makes, lb_makes, sb_makes, stnl_makes}
use Rattle.tp_state.proofs.JumpPass.{jump_makes, cj_looks, cj_stays, cj_goes, stopp_stops}
use Rattle.tp_state.proofs.MessagePass.{input_makes, output_makes}
use Rattle.tp_state.proofs.MovePass.{move_makes}
use Rattle.tp_state.proofs.EnteringPass.{entered, good_row}
use Rattle.tp_state.proofs.LendLemmas.{Ends, lend_ends, lend_ruled}
use Rattle.tp_state.proofs.LendPass.{block, turns_are, lend_back, lend_out}

is_accepted : {A E : Type 0} (r : Result A E) → IsOk r → (x : A) × (r ≡ Ok x)
is_accepted (Ok x) is = (x, refl)
is_accepted (Err e) is = cc

small_workspace : (version : Version) (n : ℕ) → n ≤ most_workspace version → n ≤ 512
small_workspace One n h = omega arith
small_workspace Two n h = h

-- the same, seen with other loops
fits_alike : (image : ImageValue) (around around' : ℕ → Bool) (at : ℕ) (t : State) (s : Machine) → ((l : ℕ) → around' l ≡ around l) → FitsAmong image around at t s → FitsAmong image around' at t s
fits_alike image around around' at t s same f = record {
  place = f.place;
  phase = f.phase;
  registers = f.registers;
  words = f.words;
  bytes = f.bytes;
  packet = f.packet;
  loops = loops_alike image.loops around around' t.cells s.memory same f.loops;
}

-- a row has a number
numbered : (rows : List LoopRow) (row : LoopRow) → Contains rows row → (l : ℕ) × (slice_get rows l ≡ Some row)
numbered rows row (l, lt, is) = (l, slice_get-get_or rows l row lt ∙ ap Some is)

around_is : (rows : List LoopRow) (at l : ℕ) (row : LoopRow) → slice_get rows l ≡ Some row → is_around (ranges rows) at l ≡ contains (range_of row) at
around_is rows at l row is = rw (range_at rows l row is) refl

-- ---- the turns along an edge

-- one turn less for the loop that ends at an address, on its way back
TurnsLeft : ImageValue → ℕ → Edge → Option ℕ → Type 0
TurnsLeft image at edge back =
    (l : ℕ) (row : LoopRow) (turns : ℕ) → slice_get image.loops l ≡ Some row → one_less back l turns ≡ (if is_edge edge Back && (row.lend == at) then turns - 1 else turns)

module _ (image : ImageValue) (at : ℕ) (edge : Edge) (to : ℕ) (m m' : Memory) (back : Option ℕ) where
  -- the loop that is entered does not contain the edge's source
  outside : (l : ℕ) (row : LoopRow) → slice_get image.loops l ≡ Some row → entered_by (ranges image.loops) at to ≡ Some l → contains (range_of row) at ≡ false
  outside l row is enters =
      let passes = found_passes (is_entered at to) (ranges image.loops) l (range_of row) (range_at image.loops l row is) enters in
      not-true (contains (range_of row) at) (and_parts (row.head == to) (not (contains (range_of row) at)) passes).1

  turns_along : ((l : ℕ) → is_around (ranges image.loops) to l ≡ around_after (ranges image.loops) at edge to l)
      → KeepsTurns image.loops (without (left_by (ranges image.loops) at edge) (is_around (ranges image.loops) at)) back m m'
      → ((l : ℕ) (row : LoopRow) → entered_by (ranges image.loops) at to ≡ Some l → slice_get image.loops l ≡ Some row → turns_in m' row ≡ row.count)
      → TurnsLeft image at edge back
      → AreTurnsAfter image.loops at edge to m m'
  unfolding TurnsLeft
  turns_along moves kept all left row among inside = by_number l row is (sym (moves l) ∙ around_is image.loops to l row is ∙ inside)
    where
      l : ℕ
      l = (numbered image.loops row among).0

      is : slice_get image.loops l ≡ Some row
      is = (numbered image.loops row among).1

      stays : (l : ℕ) (row : LoopRow) → slice_get image.loops l ≡ Some row →
          without (left_by (ranges image.loops) at edge) (is_around (ranges image.loops) at) l ≡ true →
          contains (range_of row) at ≡ true
      stays l row is around = sym (around_is image.loops at l row is) ∙ was_around (left_by (ranges image.loops) at edge) around
        where
          was_around : (o : Option ℕ) → without o (is_around (ranges image.loops) at) l ≡ true → is_around (ranges image.loops) at l ≡ true
          was_around None e = e
          was_around (Some k) e = (and_parts (is_around (ranges image.loops) at l) (not (l == k)) e).0

      by_number : (l : ℕ) (row : LoopRow) → slice_get image.loops l ≡ Some row →
          along_with (entered_by (ranges image.loops) at to) (without (left_by (ranges image.loops) at edge)
          (is_around (ranges image.loops) at)) l ≡ true → turns_in m' row ≡ turns_after at edge row (turns_in m row)
      by_number l row is around = by_entered (entered_by (ranges image.loops) at to) refl around
        where
          as_before : without (left_by (ranges image.loops) at edge) (is_around (ranges image.loops) at) l ≡ true → turns_in m' row ≡ turns_after at edge row (turns_in m row)
          as_before there = rw (stays l row is there) (kept l row there is ∙ left l row (turns_in m row) is)

          by_entered : (o : Option ℕ) → entered_by (ranges image.loops) at to ≡ o →
              along_with o (without (left_by (ranges image.loops) at edge) (is_around (ranges image.loops) at)) l ≡ true →
              turns_in m' row ≡ turns_after at edge row (turns_in m row)
          by_entered None enters there = as_before there
          by_entered (Some k) enters there = by_case (or_cases (without (left_by (ranges image.loops) at edge) (is_around (ranges image.loops) at) l) (l == k) there)
            where
              by_case : (without (left_by (ranges image.loops) at edge) (is_around (ranges image.loops) at) l ≡ true) ⊎ ((l == k) ≡ true) → turns_in m' row ≡ turns_after at edge row (turns_in m row)
              by_case (inl was) = as_before was
              by_case (inr same) =
                  let same_number : l ≡ k = (Decides-eqb l k).0 same in
                  let enters_it : entered_by (ranges image.loops) at to ≡ Some l = enters ∙ ap Some (sym same_number) in
                  rw (outside l row is enters_it) (all l row enters_it is)

-- ---- an instruction on one of its edges

-- the state behind the instruction
abbrev behind : ℕ → Machine → Machine
behind next s = record s { iptr = pos next }

-- what the instruction's bytes come to
pub record Outcome (image : ImageValue) (at next : ℕ) (instr : Instr) (t : State) (s : Machine) : Type 0 where
  pub end : Machine
  pub made : effect image instr (behind next s) ≡ Some end
  pub goes : HasStopped instr end ⊎ GoesAlong image at next instr t s end

module _ (image : ImageValue) (at next : ℕ) (instr : Instr) (t : State) (s : Machine) (kept : KeepsAround image.loops image.workspace at next instr) where
  along : (edge : Edge) (to : ℕ) (back : Option ℕ) → target (ranges image.loops) at next instr edge ≡ Some to → IsOk (after image at next instr edge t)
      → ((t' : State) → rule image at next instr edge t ≡ Ok t' → Makes image (without (left_by (ranges image.loops) at edge) (is_around (ranges image.loops) at)) back to instr t' (behind next s))
      → TurnsLeft image at edge back → (instr ≡ Lend → FollowsTurns image.loops at s.memory edge)
      → Outcome image at next instr t s
  unfolding after
  along edge to back leads accepted make left follows =
      let ok = is_accepted (after image at next instr edge t) accepted in
      through (rule image at next instr edge t) _ ok.0 ok.1 λ t' ruled enters.
      let m = make t' ruled in
      let enters' = subst (λ o. entering image.loops (option_and_then (entered_by (ranges image.loops) at) o) t' ≡ Ok ok.0) leads enters in
      let e = entered image (without (left_by (ranges image.loops) at edge) (is_around (ranges image.loops) at)) to (entered_by (ranges image.loops) at to) t' ok.0 m.end kept.good m.fits enters' in
      record {
        end = m.end;
        made = m.made;
        goes = inr record {
          edge = edge;
          to = to;
          leads = leads;
          outcome = ok.0;
          known = ok.1;
          fits = fits_alike image (along_with (entered_by (ranges image.loops) at to)
              (without (left_by (ranges image.loops) at edge) (is_around (ranges image.loops) at)))
              (is_around (ranges image.loops) to) to ok.0 m.end (kept.moves edge to leads) e.fits;
          turns = turns_along image at edge to s.memory m.end.memory back (kept.moves edge to leads) m.turns e.turns left;
          follows = follows;
        };
      }

  -- an edge that is no way back leaves each loop its turns
  all_left : (edge : Edge) → is_edge edge Back ≡ false → TurnsLeft image at edge None
  unfolding TurnsLeft
  all_left edge forward l row turns is = rw forward refl

  -- the one edge leads to the next instruction
  on : asked instr ≡ Next ∷ [] → edges instr ≡ Next ∷ [] → (instr ≡ Lend → ⊥) → IsAccepted image at next instr t
      → ((t' : State) → rule image at next instr Next t ≡ Ok t' → Makes image (is_around (ranges image.loops) at) None next instr t' (behind next s))
      → Outcome image at next instr t s
  on one only no_lend accepted make =
      let leads : target (ranges image.loops) at next instr Next ≡ Some next = rw only refl in
      let all : All (λ edge. IsOk (after image at next instr edge t)) (Next ∷ []) = subst (All (λ edge. IsOk (after image at next instr edge t))) one accepted in
      along Next next None leads (all 0 Next (omega arith)) make (all_left Next refl) (λ is. absurd (no_lend is))

-- ---- cj, j, stopp

module _ (image : ImageValue) (at next : ℕ) (t : State) (s : Machine) (f : Fits image at t s) where
  fits_behind : FitsAmong image (is_around (ranges image.loops) at) next t (behind next s)
  fits_behind = fits_at image (is_around (ranges image.loops) at) at next t s (pos next) refl f

  jump_goes_on : (n : ℤ) → KeepsAround image.loops image.workspace at next (Jump n) → IsAccepted image at next (Jump n) t → Outcome image at next (Jump n) t s
  jump_goes_on n kept accepted =
      let to = some_is (target (ranges image.loops) at next (Jump n) Taken) (kept.targets Taken refl) in
      let goes : pos next +ℤ n ≡ pos to.0 = address_is (pos next +ℤ n) to.0 to.1 in
      along image at next (Jump n) t s kept Taken to.0 None to.1 (accepted 0 Taken (omega arith))
      (λ t' ok. jump_makes image (is_around (ranges image.loops) at) next t (behind next s) fits_behind at t' n to.0 Taken goes ok)
      (all_left image at next (Jump n) t s kept Taken refl) (λ is. absurd (cc))

  cj_goes_on : (n : ℤ) → KeepsAround image.loops image.workspace at next (Cj n) → IsAccepted image at next (Cj n) t → Outcome image at next (Cj n) t s
  unfolding after
  cj_goes_on n kept accepted =
      let ok = is_accepted (after image at next (Cj n) Next t) (accepted 0 Next (omega arith)) in
      through (rule image at next (Cj n) Next t) _ ok.0 ok.1 λ t' ruled enters.
      cj_looks image (is_around (ranges image.loops) at) next t (behind next s) fits_behind at t' n Next ruled λ v v_is word.
      by_value v v_is (cases_eq v 0)
    where
      by_value : (v : ℕ) → s.areg ≡ Some v → (v ≡ 0) ⊎ (v ≡ 0 → ⊥) → Outcome image at next (Cj n) t s
      by_value v v_is (inl zero_is) =
          let to = some_is (target (ranges image.loops) at next (Cj n) Taken) (kept.targets Taken refl) in
          let goes : pos next +ℤ n ≡ pos to.0 = address_is (pos next +ℤ n) to.0 to.1 in
          along image at next (Cj n) t s kept Taken to.0 None to.1 (accepted 1 Taken (omega arith))
          (λ t' ok. cj_goes image (is_around (ranges image.loops) at) next t (behind next s) fits_behind at t' n to.0 (v_is ∙ ap Some zero_is) goes ok)
          (all_left image at next (Cj n) t s kept Taken refl) (λ is. absurd (cc))
      by_value v v_is (inr some) =
          along image at next (Cj n) t s kept Next next None refl (accepted 0 Next (omega arith))
          (λ t' ok. cj_stays image (is_around (ranges image.loops) at) next t (behind next s) fits_behind at t' n v v_is some ok)
          (all_left image at next (Cj n) t s kept Next refl) (λ is. absurd (cc))

  stopp_goes_on : KeepsAround image.loops image.workspace at next Stopp → IsAccepted image at next Stopp t → Outcome image at next Stopp t s
  unfolding after
  stopp_goes_on kept accepted =
      let ok = is_accepted (after image at next Stopp Next t) (accepted 0 Next (omega arith)) in
      through (rule image at next Stopp Next t) _ ok.0 ok.1 λ t' ruled enters.
      let stops = stopp_stops image (is_around (ranges image.loops) at) next t (behind next s) fits_behind at t' Next ruled in
      record { end = stops.0; made = stops.1; goes = inl (refl, stops.2) }

-- ---- lend

module _ (image : ImageValue) (small : image.workspace ≤ 512) (own_lends : HasOwnLends image.loops) (at next : ℕ)
    (t : State) (s : Machine) (f : Fits image at t s) (kept : KeepsAround image.loops image.workspace at next Lend) where
  -- the lend of the loop that ends here
  lend_is : (l : ℕ) (row : LoopRow) → Ends image at l row → row.lend ≡ at
  lend_is l row ends = (Decides-eqb row.lend at).0 (found_passes (λ range. range.lend == at) (ranges image.loops) l (range_of row) (range_at image.loops l row ends.row_is) ends.number)

  -- no other loop ends here
  number_is : (l k : ℕ) (row other : LoopRow) → Ends image at l row → slice_get image.loops k ≡ Some other → other.lend ≡ at → k ≡ l
  number_is l k row other ends its ends_too = one_of (λ (r : LoopRow). r.lend) image.loops k l other row own_lends its ends.row_is (ends_too ∙ sym (lend_is l row ends))

  one_turn_less : (l : ℕ) (row : LoopRow) → Ends image at l row → TurnsLeft image at Back (Some l)
  unfolding TurnsLeft
  one_turn_less l row ends k other turns its = by_number (cases_eq k l)
    where
      by_number : (k ≡ l) ⊎ (k ≡ l → ⊥) → (if k == l then turns - 1 else turns) ≡ (if other.lend == at then turns - 1 else turns)
      by_number (inl same) =
          let row_same : row ≡ other = same_Some _ _ (sym ends.row_is ∙ ap (slice_get image.loops) (sym same) ∙ its) in
          let number : (k == l) ≡ true = (Decides-eqb k l).1 same in
          let lend : (other.lend == at) ≡ true = (Decides-eqb other.lend at).1 (ap (λ (r : LoopRow). r.lend) (sym row_same) ∙ lend_is l row ends) in
          rw (number, lend) refl
      by_number (inr differ) =
          let number : (k == l) ≡ false = false_from_ne_true (k == l) (λ e. differ ((Decides-eqb k l).0 e)) in
          let lend : (other.lend == at) ≡ false = false_from_ne_true (other.lend == at) (λ e. differ (number_is l k row other ends its ((Decides-eqb other.lend at).0 e))) in
          rw (number, lend) refl

  -- the way is that of the loop's turns
  way_is : (edge : Edge) (l : ℕ) (row : LoopRow) → Ends image at l row → edge ≡ (if nat_lt 1 (turns_in s.memory row) then Back else Out) → FollowsTurns image.loops at s.memory edge
  way_is edge l row ends is other among ends_too =
      let number = numbered image.loops other among in
      let same = number_is l number.0 row other ends number.1 ends_too in
      let row_same : row ≡ other = same_Some _ _ (sym ends.row_is ∙ ap (slice_get image.loops) (sym same) ∙ number.1) in
      subst (λ (r : LoopRow). edge ≡ (if nat_lt 1 (turns_in s.memory r) then Back else Out)) row_same is

  lend_goes_on : IsAccepted image at next Lend t → Outcome image at next Lend t s
  unfolding after
  lend_goes_on accepted =
      let ok = is_accepted (after image at next Lend Back t) (accepted 0 Back (omega arith)) in
      through (rule image at next Lend Back t) _ ok.0 ok.1 λ t' ruled enters.
      let found = lend_ends image at next Back t t' ruled in
      of_row found.0 found.1 found.2
    where
      of_row : (l : ℕ) (row : LoopRow) → Ends image at l row → Outcome image at next Lend t s
      of_row l row ends = by_count (nat_lt 1 b.left) refl
        where
          around : ℕ → Bool
          around = is_around (ranges image.loops) at

          own : is_around (ranges image.loops) at l ≡ true
          own = (kept.ends l row ends.number ends.row_is).around

          here : FitsAmong image around next t (behind next s)
          here = fits_behind image at next t s f

          b : IsLive t.cells s.memory l row
          b = block image small around next t (behind next s) l row ends.row_is (good_row image l row kept.good ends.row_is) own here

          turns : turns_in s.memory row ≡ b.left
          turns = turns_are image small around next t (behind next s) l row ends.row_is (good_row image l row kept.good ends.row_is) own here

          by_count : (again : Bool) → nat_lt 1 b.left ≡ again → Outcome image at next Lend t s
          by_count true is =
              along image at next Lend t s kept Back row.head (Some l) (kept.ends l row ends.number ends.row_is).back (accepted 0 Back (omega arith))
              (λ t' ok. lend_back image small around next t (behind next s) l row ends.row_is
              (good_row image l row kept.good ends.row_is) own here is t'
              (lend_ruled image at next l row Back t t' ends ok))
              (one_turn_less l row ends) (λ _. way_is Back l row ends (rw (turns, is) refl))
          by_count false is =
              along image at next Lend t s kept Out next None refl (accepted 1 Out (omega arith))
              (λ t' ok. subst (λ o. Makes image (without o around) None next Lend t' (behind next s)) (sym ends.number)
              (lend_out image small around next t (behind next s) l row ends.row_is (good_row image l row kept.good ends.row_is) own here is t' (lend_ruled image at next l row Out t t' ends ok)))
              (all_left image at next Lend t s kept Out refl) (λ _. way_is Out l row ends (rw (turns, is) refl))

-- ---- each instruction

module _ (image : ImageValue) (small : image.workspace ≤ 512) (own_lends : HasOwnLends image.loops) (at next : ℕ) (t : State) (s : Machine) (f : Fits image at t s) where
  abbrev around : ℕ → Bool
  around = is_around (ranges image.loops) at

  here : FitsAmong image around next t (behind next s)
  here = fits_behind image at next t s f

  pub goes_on : (instr : Instr) → overflows (entry instr).operand ≡ false → KeepsAround image.loops image.workspace at next instr → IsAccepted image at next instr t → Outcome image at next instr t s
  goes_on (Jump n) word kept accepted = jump_goes_on image at next t s f n kept accepted
  goes_on (Cj n) word kept accepted = cj_goes_on image at next t s f n kept accepted
  goes_on Stopp word kept accepted = stopp_goes_on image at next t s f kept accepted
  goes_on Lend word kept accepted = lend_goes_on image small own_lends at next t s f kept accepted
  goes_on (Ldlp n) word kept accepted = on image at next (Ldlp n) t s kept refl refl (λ is. cc) accepted (λ t' ok. ldlp_makes image small around next t (behind next s) here at Next t' n ok)
  goes_on (Ldnl n) word kept accepted = on image at next (Ldnl n) t s kept refl refl (λ is. cc) accepted (λ t' ok. ldnl_makes image small around next t (behind next s) here at Next t' n ok)
  goes_on (Ldc n) word kept accepted = on image at next (Ldc n) t s kept refl refl (λ is. cc) accepted (λ t' ok. ldc_makes image small around next t (behind next s) here at Next t' n word ok)
  goes_on (Ldnlp n) word kept accepted = on image at next (Ldnlp n) t s kept refl refl (λ is. cc) accepted (λ t' ok. ldnlp_makes image small around next t (behind next s) here at Next t' n ok)
  goes_on (Ldl n) word kept accepted = on image at next (Ldl n) t s kept refl refl (λ is. cc) accepted (λ t' ok. ldl_makes image small around next t (behind next s) here at Next t' n ok)
  goes_on (Adc n) word kept accepted = on image at next (Adc n) t s kept refl refl (λ is. cc) accepted (λ t' ok. adc_makes image around next t (behind next s) here at Next t' n ok)
  goes_on (Ajw n) word kept accepted = on image at next (Ajw n) t s kept refl refl (λ is. cc) accepted (λ t' ok. ajw_makes image small around next t (behind next s) here at Next t' n ok)
  goes_on (Eqc n) word kept accepted = on image at next (Eqc n) t s kept refl refl (λ is. cc) accepted (λ t' ok. eqc_makes image around next t (behind next s) here at Next t' n ok)
  goes_on (Stl n) word kept accepted = on image at next (Stl n) t s kept refl refl (λ is. cc) accepted (λ t' ok. stl_makes image small around next t (behind next s) here at Next t' n ok)
  goes_on (Stnl n) word kept accepted = on image at next (Stnl n) t s kept refl refl (λ is. cc) accepted (λ t' ok. stnl_makes image small around next t (behind next s) here at Next t' n ok)
  goes_on Rev word kept accepted = on image at next Rev t s kept refl refl (λ is. cc) accepted (λ t' ok. rev_makes image small around next t (behind next s) here at Next t' ok)
  goes_on Lb word kept accepted = on image at next Lb t s kept refl refl (λ is. cc) accepted (λ t' ok. lb_makes image small around next t (behind next s) here at Next t' ok)
  goes_on Bsub word kept accepted = on image at next Bsub t s kept refl refl (λ is. cc) accepted (λ t' ok. bsub_makes image small around next t (behind next s) here at Next t' ok)
  goes_on Diff word kept accepted = on image at next Diff t s kept refl refl (λ is. cc) accepted (λ t' ok. diff_makes image around next t (behind next s) here at Next t' ok)
  goes_on Add word kept accepted = on image at next Add t s kept refl refl (λ is. cc) accepted (λ t' ok. add_makes image around next t (behind next s) here at Next t' ok)
  goes_on Input word kept accepted = on image at next Input t s kept refl refl (λ is. cc) accepted (λ t' ok. input_makes image around next t (behind next s) here at Next t' ok)
  goes_on Prod word kept accepted = on image at next Prod t s kept refl refl (λ is. cc) accepted (λ t' ok. prod_makes image around next t (behind next s) here at Next t' ok)
  goes_on Gt word kept accepted = on image at next Gt t s kept refl refl (λ is. cc) accepted (λ t' ok. gt_makes image around next t (behind next s) here at Next t' ok)
  goes_on Wsub word kept accepted = on image at next Wsub t s kept refl refl (λ is. cc) accepted (λ t' ok. wsub_makes image small around next t (behind next s) here at Next t' ok)
  goes_on Output word kept accepted = on image at next Output t s kept refl refl (λ is. cc) accepted (λ t' ok. output_makes image around next t (behind next s) here at Next t' ok)
  goes_on Sub word kept accepted = on image at next Sub t s kept refl refl (λ is. cc) accepted (λ t' ok. sub_makes image around next t (behind next s) here at Next t' ok)
  goes_on Seterr word kept accepted = on image at next Seterr t s kept refl refl (λ is. cc) accepted (λ t' ok. seterr_makes image small around next t (behind next s) here at Next t' ok)
  goes_on Csub0 word kept accepted = on image at next Csub0 t s kept refl refl (λ is. cc) accepted (λ t' ok. csub0_makes image around next t (behind next s) here at Next t' ok)
  goes_on Rem word kept accepted = on image at next Rem t s kept refl refl (λ is. cc) accepted (λ t' ok. rem_makes image around next t (behind next s) here at Next t' ok)
  goes_on Div word kept accepted = on image at next Div t s kept refl refl (λ is. cc) accepted (λ t' ok. div_makes image around next t (behind next s) here at Next t' ok)
  goes_on BitNot word kept accepted = on image at next BitNot t s kept refl refl (λ is. cc) accepted (λ t' ok. not_makes image around next t (behind next s) here at Next t' ok)
  goes_on BitXor word kept accepted = on image at next BitXor t s kept refl refl (λ is. cc) accepted (λ t' ok. xor_makes image around next t (behind next s) here at Next t' ok)
  goes_on Sb word kept accepted = on image at next Sb t s kept refl refl (λ is. cc) accepted (λ t' ok. sb_makes image small around next t (behind next s) here at Next t' ok)
  goes_on Shr word kept accepted = on image at next Shr t s kept refl refl (λ is. cc) accepted (λ t' ok. shr_makes image around next t (behind next s) here at Next t' ok)
  goes_on Shl word kept accepted = on image at next Shl t s kept refl refl (λ is. cc) accepted (λ t' ok. shl_makes image around next t (behind next s) here at Next t' ok)
  goes_on Mint word kept accepted = on image at next Mint t s kept refl refl (λ is. cc) accepted (λ t' ok. mint_makes image small around next t (behind next s) here at Next t' ok)
  goes_on BitAnd word kept accepted = on image at next BitAnd t s kept refl refl (λ is. cc) accepted (λ t' ok. and_makes image around next t (behind next s) here at Next t' ok)
  goes_on MoveBytes word kept accepted = on image at next MoveBytes t s kept refl refl (λ is. cc) accepted (λ t' ok. move_makes image around next t (behind next s) here at Next t' ok)
  goes_on BitOr word kept accepted = on image at next BitOr t s kept refl refl (λ is. cc) accepted (λ t' ok. or_makes image around next t (behind next s) here at Next t' ok)
  goes_on Sum word kept accepted = on image at next Sum t s kept refl refl (λ is. cc) accepted (λ t' ok. sum_makes image around next t (behind next s) here at Next t' ok)
  goes_on Mul word kept accepted = on image at next Mul t s kept refl refl (λ is. cc) accepted (λ t' ok. mul_makes image around next t (behind next s) here at Next t' ok)

-- ---- the law

pub accepted_goes_on : (image : ImageValue) (cuts : List Cut) → InRange image → IsCutting image.code cuts → KeepsNest image.loops image.workspace cuts
    → (at : ℕ) (cut : Cut) → cut_at cuts at ≡ Some cut → (t : State) (s : Machine) → Fits image at t s → IsAccepted image at (at + length cut.bytes) cut.instr t → GoesOn image at cut t s
accepted_goes_on image cuts range cutting nest at cut there t s f accepted =
    let small = small_workspace image.version image.workspace range.workspace.1 in
    let word = operand_fits cut (spelling_of image.code cuts at cut cutting there) in
    let kept = keeps_around image.loops image.workspace cuts nest at cut there in
    let o = goes_on image small nest.lends at (at + length cut.bytes) t s f cut.instr word kept accepted in
    let count : at + length cut.bytes - at ≡ length cut.bytes = omega arith in
    record {
      end = o.end;
      runs = ap (λ n. steps image n s) (sym count) ∙ instruction_runs image s at (at + length cut.bytes) cut.instr
          f.place.running f.place.oreg f.place.iptr (stands image.code cuts at cut cutting there) ∙ o.made;
      goes = o.goes;
    }

-- no state on the way is stuck
pub not_stuck_within : (image : ImageValue) (n k : ℕ) (s u end : Machine) → steps image n s ≡ Some end → steps image k s ≡ Some u → k < n → ¬ IsStuck image u
unfolding steps
not_stuck_within image n k s u end runs on lt stuck =
    let rest : n ≡ k + suc (n - suc k) = omega arith in
    let after_it : option_and_then (steps image (suc (n - suc k))) (steps image k s) ≡ Some end = sym (steps_add image k (suc (n - suc k)) s) ∙ ap (λ m. steps image m s) (sym rest) ∙ runs in
    let from_it : option_and_then (steps image (n - suc k)) (step image u) ≡ Some end = ap (option_and_then (steps image (suc (n - suc k)))) (sym on) ∙ after_it in
    none_goes (steps image (n - suc k)) (step image u) end stuck.no_step from_it
  where
    none_goes : (f : Machine → Option Machine) (o : Option Machine) (end : Machine) → o ≡ None → option_and_then f o ≡ Some end → ⊥
    none_goes f None end e e' = cc
    none_goes f (Some v) end e e' = cc
