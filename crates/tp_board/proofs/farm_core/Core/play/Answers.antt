use Rattle.std.proofs.Common.{[], ◌∷◌, length, take, sym, ap, ◌∙◌, subst, arith, length-append}
use Rattle.tp_board.specs.declared.event.Event.TheVariants.{Claim}
use Rattle.tp_board.specs.Runs.{core_after, replies, Accounts, IsKept}
use Rattle.tp_board.proofs.Runs.{member_at, after_more, replies_more, ran_accounts, ran_kept, drawn_run, take_all}
use Rattle.tp_board.proofs.farm_core.Core.play.Goals as goal

pub step-requires : goal.step-requires
step-requires c =
    let members =
    (ran_kept c.args.self.now c.loop-entry.self (take c.loop-entry.entry-index c.args.events.now)
    c.loop-entry.invariant.core_state).members in
    let at =
    member_at (length c.args.self.now.hands) c.args.events.now c.loop-entry.entry-index
    (0, Claim) c.requires c.loop-entry-test.true in
    omega arith

pub loop-entry-preserved : goal.loop-entry-preserved
loop-entry-preserved c =
    let i = c.loop-entry.invariant in
    let room = i.room in
    let count = i.count in
    let more = length-append c.loop-entry.answers.items (c.in_ok-answer.answer ∷ []) in
    let long = ap length c.push_reserved.ensures.items in record {
      core_state =
          after_more c.args.self.now c.loop-entry.self c.step.new.self c.args.events.now c.loop-entry.entry-index
          (0, Claim) c.in_ok-answer.answer c.loop-entry-test.true i.core_state c.in_ok-answer.ensures.ok;
      said =
          c.push_reserved.ensures.items ∙ replies_more c.args.self.now c.loop-entry.self c.step.new.self c.args.events.now
          c.loop-entry.entry-index (0, Claim) c.in_ok-answer.answer c.loop-entry.answers.items c.loop-entry-test.true i.core_state
          c.in_ok-answer.ensures.ok i.said;
      room = (let a = c.push_reserved.ensures.capacity in omega arith);
      count = omega arith;
    }

pub returns-in_err-answer-clause-each_once : goal.returns-in_err-answer-clause-each_once
returns-in_err-answer-clause-each_once c =
    subst Accounts (sym c.in_err-answer.ensures.err)
    (ran_accounts c.args.self.now c.loop-entry.self c.args.events.now c.loop-entry.entry-index c.loop-entry.invariant.core_state
    c.requires c.law_accounts.ensures)

pub returns-in_err-answer-clause-kept : goal.returns-in_err-answer-clause-kept
returns-in_err-answer-clause-kept c =
    subst (IsKept c.args.self.now) (sym c.in_err-answer.ensures.err)
    (ran_kept c.args.self.now c.loop-entry.self (take c.loop-entry.entry-index c.args.events.now) c.loop-entry.invariant.core_state)

pub returns-clause-drawn : goal.returns-clause-drawn
returns-clause-drawn c =
    let i = c.loop-entry.invariant in
    let all = take_all c.args.events.now c.loop-entry.entry-index c.loop-entry-test.false in
    drawn_run c.args.self.now c.loop-entry.self c.args.events.now c.loop-entry.answers.items
    (i.said ∙ ap (replies c.args.self.now) all) (i.core_state ∙ ap (core_after c.args.self.now) all)

pub returns-clause-kept : goal.returns-clause-kept
returns-clause-kept c =
    ran_kept c.args.self.now c.loop-entry.self (take c.loop-entry.entry-index c.args.events.now) c.loop-entry.invariant.core_state
