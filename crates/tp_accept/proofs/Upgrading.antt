-- Upgrading an image changes neither what is known of it nor what it does.
use Rattle.std.proofs.Common.{◌≡◌, ℕ, ◌+◌, ◌≤◌, ◌↔◌, List, length, Result, Ok, Err, refl, sym, subst, arith}
use Rattle.std.specs.Prelude.{slice_index_or}
use Rattle.tp_decode.specs.declared.instr.Instr.{Instr}
use Rattle.tp_decode.specs.declared.instr.Instr.TheVariants.{MoveBytes}
use Rattle.tp_decode.specs.Cutting.{Cut}
use Rattle.tp_image.specs.declared.image.Version.{Version}
use Rattle.tp_image.specs.declared.image.Version.TheVariants.{One, Two}
use Rattle.tp_image.specs.Image.{ImageValue, InRange, most_initial}
use Rattle.tp_image.specs.Limits.{most_code, most_workspace}
use Rattle.tp_image.specs.Upgrade.{upgraded}
use Rattle.tp_image.specs.Text.{text}
use Rattle.tp_flow.specs.declared.edge.Edge.{Edge}
use Rattle.tp_step.specs.Effects.{has_move}
use Rattle.tp_step.specs.Runs.{Run, RunsAlone}
use Rattle.tp_step.proofs.StepLemmas.{one_run}
use Rattle.tp_step.proofs.UpgradeLemmas.{upgraded_two, run_upgraded}
use Rattle.tp_state.specs.declared.state.State.{State}
use Rattle.tp_state.specs.declared.fault.StateCode.{StateCode}
use Rattle.tp_state.specs.declared.fault.StateCode.TheVariants.{S11}
use Rattle.tp_state.specs.Answer.{◌>>=◌, ◌>>◌, unless}
use Rattle.tp_state.specs.Kinds.{word_in, byte_in}
use Rattle.tp_state.specs.Rules.{rule, local, words_on, bytes_on, words_further, frame_at, message_in, words_to_send, row_ended_at}
use Rattle.tp_state.specs.After.{after, asked, entering, entered_at}
use Rattle.tp_check.specs.Tables.{Table}
use Rattle.tp_check.specs.EdgesRespect.{EveryEdgeRespects}
use Rattle.tp_accept.specs.Acceptance.{IsAcceptable}
use Rattle.tp_accept.proofs.Exact.{found_acceptable, may_be_run}
use Rattle.tp_accept.specs.Verdict.{Allowed, allowed, IsAnswer}
use Rattle.tp_accept.specs.Ending.{IsPacket}
use Rattle.tp_accept.proofs.NeverWrong.{never_goes_wrong}

-- ---- what is known

-- a rule that refuses nothing is the same of the upgraded image: it is not that on move
rule_upgraded : (image : ImageValue) (at next : ℕ) (instr : Instr) (edge : Edge) (s t : State) → image.version ≡ One →
    rule image at next instr edge s ≡ Ok t → rule (upgraded image) at next instr edge s ≡ Ok t
unfolding rule local words_on bytes_on words_further frame_at message_in words_to_send row_ended_at word_in byte_in
rule_upgraded image at next MoveBytes edge s t is e = absurd (refused image.version is _ e)
  where
    refused : (v : Version) → v ≡ One → (p : Result State StateCode) → (unless S11 (has_move v) >> p) ≡ Ok t → ⊥
    refused One is p e = cc
    refused Two is p e = cc
rule_upgraded image at next instr edge s t is e = e

after_upgraded : (image : ImageValue) (at next : ℕ) (instr : Instr) (edge : Edge) (s t : State) → image.version ≡ One →
    after image at next instr edge s ≡ Ok t → after (upgraded image) at next instr edge s ≡ Ok t
unfolding after
after_upgraded image at next instr edge s t is e = by_rule (rule image at next instr edge s) refl e
  where
    enter : State → Result State StateCode
    enter u = entering image.loops (entered_at image at next instr edge) u

    by_rule : (o : Result State StateCode) → rule image at next instr edge s ≡ o → (o >>= enter) ≡ Ok t → (rule (upgraded image) at next instr edge s >>= enter) ≡ Ok t
    by_rule (Err code) here e' = cc
    by_rule (Ok u) here e' = rw (rule_upgraded image at next instr edge s u is here) e'

respects_upgraded : (image : ImageValue) (cuts : List Cut) (table : Table) → image.version ≡ One → EveryEdgeRespects image cuts table → EveryEdgeRespects (upgraded image) cuts table
respects_upgraded image cuts table is h = record {
  begins = h.begins;
  each = λ at cut s stands there k d lt.
      let r = h.each at cut s stands there k d lt in
      record {
        outcome = r.outcome;
        goes_on = after_upgraded image at (at + length cut.bytes) cut.instr (slice_index_or (asked cut.instr) k d) s r.outcome is r.goes_on;
        enters = r.enters;
      };
}

-- ---- what is asked of the fields

range_upgraded : (image : ImageValue) → InRange image → InRange (upgraded image)
range_upgraded image range = record {
  code = (range.code.0, omega (arith, more_code image.version range.code.1));
  workspace = (range.workspace.0, more_words image.version range.workspace.1);
  start_least = range.start_least;
  start_most = range.start_most;
  packet = range.packet;
  result = range.result;
  loops = range.loops;
  initial = more_initial image.version range.initial;
  rows = range.rows;
  words = range.words;
  bytes = range.bytes;
}
  where
    more_code : (v : Version) → length image.code ≤ most_code v → length image.code ≤ 8192
    more_code One most = omega arith
    more_code Two most = most

    more_words : (v : Version) → image.workspace ≤ most_workspace v → image.workspace ≤ 512
    more_words One most = omega arith
    more_words Two most = most

    more_initial : (v : Version) → length image.initial ≤ most_initial v image.workspace → length image.initial ≤ image.workspace
    more_initial One most = omega arith
    more_initial Two most = most

-- ---- acceptance, and runs

acceptable_one : (image : ImageValue) (budget : ℕ) → image.version ≡ One → IsAcceptable image budget → IsAcceptable (upgraded image) budget
acceptable_one image budget is a = record {
  in_range = range_upgraded image a.in_range;
  cuts = a.cuts;
  cutting = a.cutting;
  kept = a.kept;
  table = a.table;
  respected = respects_upgraded image a.cuts a.table is a.respected;
  bounded = a.bounded;
  within = a.within;
}

pub acceptable_upgraded : (image : ImageValue) (budget : ℕ) → IsAcceptable image budget → IsAcceptable (upgraded image) budget
acceptable_upgraded image budget a = by_version image.version refl
  where
    by_version : (v : Version) → image.version ≡ v → IsAcceptable (upgraded image) budget
    by_version One is = acceptable_one image budget is a
    by_version Two is = subst (λ i. IsAcceptable i budget) (sym (upgraded_two image is)) a

-- the run of an acceptable image is the one that the upgraded image has
pub runs_upgraded : (image : ImageValue) (budget : ℕ) (packet : List ℕ) (run : Run) → IsAcceptable image budget →
    IsPacket image packet → RunsAlone image packet run ↔ RunsAlone (upgraded image) packet run
runs_upgraded image budget packet run a is = (run_upgraded image packet run, back)
  where
    back : RunsAlone (upgraded image) packet run → RunsAlone image packet run
    back alone =
        let ends = never_goes_wrong image budget a packet is in
        let same : ends.run ≡ run = one_run (upgraded image) packet ends.run run (run_upgraded image packet ends.run ends.alone) alone in
        subst (RunsAlone image packet) same ends.alone

-- ---- the answer

-- the text of the upgraded image passes where the image's does: both are acceptable alike
pub answer_upgraded : (image : ImageValue) (found : Allowed) → InRange image → IsAnswer (text image) (Ok found) → IsAnswer (text (upgraded image)) (Ok found)
answer_upgraded image found range is =
    let here = found_acceptable (text image) image (range, refl) found is in
    let there : IsAnswer (text (upgraded image)) (Ok (allowed (upgraded image) found.budget)) =
    may_be_run (text (upgraded image)) (upgraded image) (range_upgraded image range, refl) found.budget (acceptable_upgraded image found.budget here.1) in
    subst (λ (a : Allowed). IsAnswer (text (upgraded image)) (Ok a)) (sym here.0) there
