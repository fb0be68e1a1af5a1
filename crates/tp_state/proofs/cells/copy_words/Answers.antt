use Rattle.std.proofs.Common.{◌<◌, ◌+◌, length, ap, ◌∙◌, arith}
use Rattle.tp_state.specs.CellRules.{copied}
use Rattle.tp_state.specs.Planes.{seen}
use Rattle.tp_state.proofs.CellLemmas.{changes_one, changes_all, changes_end, apart_from}
use Rattle.tp_state.proofs.cells.copy_words.Goals as goal

pub loop-i-preserved : goal.loop-i-preserved
loop-i-preserved c =
    let h = c.loop-i.invariant.changes in
    let elsewhere = apart_from c.args.n c.args.x c.args.y c.loop-i.i c.requires.apart c.loop-i-test.true in
    let room : c.args.x + c.loop-i.i < length (seen c.args.values.now c.args.planes.now) = omega arith in
    record {
      whole = c.set_word.ensures.whole;
      changes = rw c.set_word.ensures.value (changes_one _ _ copied c.args.x c.args.y c.loop-i.i _ h room
          (c.copied-cell.ensures ∙ ap copied (c.word_at.ensures ∙ h.outside (c.args.y + c.loop-i.i) elsewhere)));
    }

pub returns-clause-value : goal.returns-clause-value
returns-clause-value c =
    changes_all _ _ copied c.args.x c.args.y c.args.n (changes_end _ _ copied c.args.x c.args.y c.loop-i.i c.args.n
    c.loop-i.invariant.changes (omega arith) (omega arith)) c.requires.target c.requires.source
