use Rattle.std.proofs.Common.{[], ◌≡◌, ◌≤◌, ◌*◌, ◌+◌, ◌-◌, ◌++◌, ◌∙◌, All, ap, sym, subst, map, take, drop, length, arith, refl}
use Rattle.std.specs.Io.KnownBytes.{Appends}
use Rattle.std.specs.Coded.{le_prop}
use Rattle.std.proofs.KnownBytes.{Appends-trans}
use Rattle.std.proofs.Math.Logic.{∥∥₁_elim}
use Rattle.std.proofs.lemmas.List.{length-map}
use Rattle.std.proofs.lemmas.List.Elements.{All-drop, All-take, All-weaker}
use Rattle.tpw_runs.specs.Reports.{ShowsAll}
use Rattle.tpw_runs.proofs.Results.{as_many_results}
use Rattle.tpw_runs.proofs.Showing.{shows_and}
use Rattle.tpw_runs.proofs.Behind.{appends_none, taken_and, batch_more, of_slice, long_batch, same_all}
use Rattle.tpw_runs.proofs.batches.run_packets.Goals as goal

pub loop-number-init : goal.loop-number-init
loop-number-init g c = (
  omega arith,
  c.requires.new,
  c.requires.ready,
  ([], [], tt, (refl, refl), appends_none (g.W.Write.contents c.args.writer.now)),
)

pub batch_of-requires : goal.batch_of-requires
batch_of-requires g c =
    let image = c.args.image.now in
    let short : 4 * image.image.packet ≤ 256 = ∥∥₁_elim image.acceptable le_prop (λ a. omega (arith, a.in_range.packet.1)) in
    let n = c.loop-number.number in
    All-take (λ m. length m.items ≤ 256) ((n + c.min-count.result) - n) (drop n c.args.packets.now)
    (All-drop (λ m. length m.items ≤ 256) n c.args.packets.now
    (All-weaker (λ m. length m.items ≡ 4 * image.image.packet) (λ m. length m.items ≤ 256) (λ m is. omega (arith, is, short))
    c.args.packets.now c.requires.whole))

pub run_one-requires-clause-whole : goal.run_one-requires-clause-whole
run_one-requires-clause-whole g c κs within =
    let words = 4 * c.args.image.now.image.packet in
    let n = c.loop-number.number in
    let m = (n + c.min-count.result) - n in
    subst (All (λ p. length p.items ≡ words)) (sym c.deref.ensures.value)
    (same_all (λ p. p.items) (λ q. q.items) (λ l. length l ≡ words) c.in_ok-batch.batch.items (take m (drop n c.args.packets.now))
    c.in_ok-batch.ensures
    (All-take (λ q. length q.items ≡ words) m (drop n c.args.packets.now)
    (All-drop (λ q. length q.items ≡ words) n c.args.packets.now c.requires.whole)))

pub show_batch-requires-clause-each : goal.show_batch-requires-clause-each
show_batch-requires-clause-each g c =
    let image = c.args.image.now in
    let n = c.loop-number.number in
    let m = (n + c.min-count.result) - n in
    let messages = take m (drop n c.args.packets.now) in
    let seen = c.deref-in-loop-number.ensures.value ∙ c.collected.view_is in
    let many = as_many_results image.image image.budget (map (λ p. p.items) c.deref.result.now) c.in_ok-collected.collected
    c.in_ok-collected.ensures.results in
    ap length seen ∙ many
    ∙ ap (λ ps. length (map (λ p. p.items) ps)) c.deref.ensures.value ∙ ap length c.in_ok-batch.ensures
    ∙ length-map messages (λ q. q.items)

pub loop-number-preserved : goal.loop-number-preserved
loop-number-preserved g c =
    let report = g.S.Report in
    let contents = g.W.Write.contents in
    let image = c.args.image.now in
    let n = c.loop-number.number in
    let m = c.min-count.result in
    let all = map (λ p. p.items) c.args.packets.now in
    let so_far = c.loop-number.invariant.3 in
    let entries = so_far.0 in
    let written = so_far.1 in
    let more = c.in_ok-collected.collected in
    let within : n + m ≤ length c.args.packets.now = omega (arith, c.min-count.ensures, c.loop-number-test.true) in
    let long : length all ≡ length c.args.packets.now = length-map c.args.packets.now (λ p. p.items) in
    let slice = of_slice (λ p. p.items) n m c.args.packets.now in
    let batch : map (λ p. p.items) c.deref.result.now ≡ take m (drop n all) =
    ap (map (λ p. p.items)) c.deref.ensures.value ∙ c.in_ok-batch.ensures ∙ slice in
    let results = c.in_ok-collected.ensures.results in
    let both = batch_more image.image image.budget n m all _ entries more batch so_far.2 results in
    let others : length more ≡ m =
    as_many_results image.image image.budget _ more results ∙ ap length batch ∙ long_batch n m all (omega (arith, long, within)) in
    let seen : c.deref-in-loop-number.result.now ≡ more = c.deref-in-loop-number.ensures.value ∙ c.collected.view_is in
    let shown = c.in_ok-show_batch.ensures.shown in
    let text = shown.0 in
    let here : ShowsAll report.text report.becomes c.loop-number.report (take m (drop n all)) more text c.show_batch.new.report =
    subst (λ ps. ShowsAll report.text report.becomes c.loop-number.report ps more text c.show_batch.new.report) slice
    (subst (λ es. ShowsAll report.text report.becomes c.loop-number.report (map (λ p. p.items) (take ((n + m) - n) (drop n c.args.packets.now))) es text c.show_batch.new.report) seen shown.2) in
    let joined : ShowsAll report.text report.becomes c.args.report.now (take (n + m) all) (entries ++ more) (written ++ text) c.show_batch.new.report =
    subst (λ ps. ShowsAll report.text report.becomes c.args.report.now ps (entries ++ more) (written ++ text) c.show_batch.new.report)
    (sym (taken_and n m all))
    (shows_and report.text report.becomes c.args.report.now c.loop-number.report c.show_batch.new.report (take n all)
    (take m (drop n all)) entries more written text so_far.3 here) in
    let out : c.deref-in-loop-number-2.result.now ≡ text =
    c.deref-in-loop-number-2.ensures.value ∙ shown.1 ∙ ap (λ l. l ++ text) c.clear.ensures.items in
    let appended =
    Appends-trans _ _ _ written text so_far.4
    (subst (Appends (contents c.loop-number.writer) (contents c.write_shown.new.writer)) out c.in_ok-write_shown.ensures) in (
      within,
      omega (arith, c.in_ok-show_batch.ensures.count, ap length seen, others, c.loop-number.invariant.1),
      c.in_ok-collected.ensures.ready,
      (entries ++ more, written ++ text, both, joined, appended),
    )
