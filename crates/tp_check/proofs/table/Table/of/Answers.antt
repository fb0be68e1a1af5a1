use Rattle.std.proofs.Common.{◌≡◌, ◌<◌, ◌≤◌, ◌+◌, length, length-set, true, false, sym, ◌∙◌, arith}
use Rattle.tp_check.specs.Tables.{table_of}
use Rattle.tp_check.specs.Joining.{is_kept_at}
use Rattle.tp_check.proofs.Keeping.{some_skip, some_push, some_all}
use Rattle.tp_check.proofs.TableSteps.{stands, set_before}
use Rattle.tp_check.proofs.table.Table.of.Goals as goal
use Rattle.tp_check.proofs.table.Table.of.Goals.{then-is_kept+in-Some+in_ok-push, then-is_kept+in_default, else-is_kept}

pub loop-at-preserved : goal.loop-at-preserved
loop-at-preserved c =
    elim c.if-is_kept.branch [
      | then-is_kept+in-Some+in_ok-push w ↦ (rw (w.states-is, w.kept-is) (record {
        inside = inside;
        sized = length-set c.loop-at.states.items c.loop-at.at w.take.new.self ∙ c.loop-at.invariant.sized;
        rest = λ x le. set_before c.loop-at.states.items c.loop-at.at x w.take.new.self (omega (arith, le)) ∙ c.loop-at.invariant.rest x (omega (arith, le));
        kept = some_push (is_kept_at c.args.predecessors.now) (table_of c.args.states.items) c.loop-at.at
            c.loop-at.kept.items c.loop-at.invariant.kept w.in-Some.state _ w.in_ok-push.ensures.items
            (sym c.is_kept.ensures ∙ w.if-is_kept.true)
            (sym (c.loop-at.invariant.rest c.loop-at.at (omega arith)) ∙
            stands c.loop-at.states.items c.loop-at.at within w.index_mut.result.now w.index_mut.result.now
            (sym w.index_mut.ensures.value) ∙ sym w.take.ensures.value ∙ w.in-Some.is);
      }))
      | then-is_kept+in_default w ↦ (rw (w.states-is, w.kept-is) (record {
        inside = inside;
        sized = length-set c.loop-at.states.items c.loop-at.at w.take.new.self ∙ c.loop-at.invariant.sized;
        rest = λ x le. set_before c.loop-at.states.items c.loop-at.at x w.take.new.self (omega (arith, le)) ∙ c.loop-at.invariant.rest x (omega (arith, le));
        kept = some_skip (is_kept_at c.args.predecessors.now) (table_of c.args.states.items) c.loop-at.at c.loop-at.kept.items c.loop-at.invariant.kept
            (λ s is stood. absurd (let no = sym w.in_default.is ∙ w.take.ensures.value ∙
            sym (stands c.loop-at.states.items c.loop-at.at within w.index_mut.result.now w.index_mut.result.now
            (sym w.index_mut.ensures.value)) ∙ c.loop-at.invariant.rest c.loop-at.at (omega arith) ∙ stood in cc));
      }))
      | else-is_kept w ↦ (rw (w.states-is, w.kept-is) (record {
        inside = inside;
        sized = c.loop-at.invariant.sized;
        rest = λ x le. c.loop-at.invariant.rest x (omega (arith, le));
        kept = some_skip (is_kept_at c.args.predecessors.now) (table_of c.args.states.items) c.loop-at.at c.loop-at.kept.items c.loop-at.invariant.kept
            (λ s is stood. absurd (let no : true ≡ false = sym is ∙ sym c.is_kept.ensures ∙ w.if-is_kept.false in cc));
      }))
    ]
  where
    inside : c.loop-at.at + 1 ≤ length c.args.states.items
    inside = let e = c.len-at-end.ensures in let f = c.loop-at-test.true in omega (arith, e, f)

    within : c.loop-at.at < length c.loop-at.states.items
    within = let e = c.len-at-end.ensures in let f = c.loop-at-test.true in let g = c.loop-at.invariant.sized in omega (arith, e, f, g)

pub returns : goal.returns
returns c = some_all (is_kept_at c.args.predecessors.now) c.args.states.items c.loop-at.at c.loop-at.kept.items
    (let e = c.len-at-end.ensures in let f = c.loop-at-test.false in omega (arith, e, f)) c.loop-at.invariant.kept
