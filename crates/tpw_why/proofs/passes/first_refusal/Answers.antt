use Rattle.std.proofs.Common.{◌≡◌, length, Ok, Err, refl, sym, ap, ◌∙◌, subst, arith}
use Rattle.std.specs.Prelude.{IfOk}
use Rattle.tp_check.specs.Rising.{Moves}
use Rattle.tp_check.specs.Passes.{edges_in}
use Rattle.tp_check.specs.Tables.{table_of}
use Rattle.tpw_why.specs.FirstRefusals.{EndsAs}
use Rattle.tpw_why.proofs.Passing.{few_words, first_left, taken_there, none_made, one_more, is_first, is_verdict, is_settled, stays_so, fewer_left, left_there}
use Rattle.tpw_why.proofs.passes.first_refusal.Goals as goal

pub pass-requires-clause-places : goal.pass-requires-clause-places
pass-requires-clause-places c =
    rw c.deref_mut.ensures.value
    (taken_there c.args.image.now c.args.listing.now (length c.loop-is_changed.table.items) c.requires.kept
    c.loop-is_changed.invariant.inside c.deref.result.now (c.deref.ensures.value ∙ c.in_ok-asked.ensures))

pub pass-requires-clause-placed : goal.pass-requires-clause-placed
pass-requires-clause-placed c = rw c.deref_mut.ensures.value c.loop-is_changed.invariant.placed

pub loop-is_changed-init : goal.loop-is_changed-init
loop-is_changed-init c = record {
  inside = λ at starts. rw c.in_ok-table.ensures.sized (c.places_of.ensures.all at starts);
  placed = c.in_ok-table.ensures.placed;
  few = let least = first_left c.args.image.now (few_words c.args.image.now
      c.law_is_in_range.ensures) c.in_ok-table.table.items
      (rw c.in_ok-table.ensures.sized c.places_of.ensures.few) c.in_ok-table.ensures.value c.in_ok-table.ensures.placed in
      omega (arith, least);
  before = none_made c.args.image.now c.args.listing.now (table_of c.in_ok-table.table.items) c.in_ok-table.ensures.value;
  stays = λ e. absurd (cc);
}

pub loop-is_changed-preserved : goal.loop-is_changed-preserved
loop-is_changed-preserved c =
    rw (left_there c.loop-is_changed.table.items c.pass.new.table c.loop-is_changed.table.len
    (sym (ap length c.deref_mut.ensures.value) ∙ c.deref_mut.ensures.len)
    (c.in_ok-changed.ensures.sized ∙ ap length c.deref_mut.ensures.value))
    (record {
      inside = λ at starts. rw (c.in_ok-changed.ensures.sized ∙ ap length c.deref_mut.ensures.value) (c.loop-is_changed.invariant.inside at starts);
      placed = c.in_ok-changed.ensures.placed;
      before = one_more c.args.image.now c.args.listing.now c.loop-is_changed.passes _ c.deref.result.now
          (table_of c.loop-is_changed.table.items) (table_of c.pass.new.table) refl all c.loop-is_changed.invariant.before
          ends;
      few = let less = fewer_left c.args.image.now c.loop-is_changed.is_changed c.in-Ok.changed
          c.loop-is_changed.table.items c.pass.new.table c.pass.new.table c.loop-is_changed-test.true refl moves in
          let most = c.loop-is_changed.invariant.few in omega (arith, less, most);
      stays = λ e. stays_so c.args.image.now c.args.listing.now c.deref.result.now c.loop-is_changed.table.items c.pass.new.table all (moves.stays e) ends;
    })
  where
    all : c.deref.result.now ≡ edges_in c.args.listing.now
    all = c.deref.ensures.value ∙ c.in_ok-asked.ensures

    ends : EndsAs c.args.image.now c.deref.result.now (table_of c.loop-is_changed.table.items) (table_of c.pass.new.table) (Ok c.in-Ok.changed)
    ends = subst (λ items. EndsAs c.args.image.now c.deref.result.now (table_of items) (table_of c.pass.new.table)
        (Ok c.in-Ok.changed)) c.deref_mut.ensures.value (subst
        (EndsAs c.args.image.now c.deref.result.now (table_of c.deref_mut.result.now) (table_of c.pass.new.table))
        c.in-Ok.is c.in_ok-changed.ensures.ends)

    moves : Moves c.args.image.now c.in-Ok.changed c.loop-is_changed.table.items c.pass.new.table
    moves = subst (λ items. Moves c.args.image.now c.in-Ok.changed items c.pass.new.table) c.deref_mut.ensures.value
        (subst (λ r. IfOk r (λ moved. Moves c.args.image.now moved c.deref_mut.result.now c.pass.new.table)) c.in-Ok.is
        c.in_ok-changed.ensures.moves)

pub loop-is_changed-smaller : goal.loop-is_changed-smaller
loop-is_changed-smaller c =
    fewer_left c.args.image.now c.loop-is_changed.is_changed c.in-Ok.changed c.loop-is_changed.table.items
    c.pass.new.table _ c.loop-is_changed-test.true (left_there c.loop-is_changed.table.items c.pass.new.table
    c.loop-is_changed.table.len (sym (ap length c.deref_mut.ensures.value) ∙ c.deref_mut.ensures.len)
    (c.in_ok-changed.ensures.sized ∙ ap length c.deref_mut.ensures.value))
    (subst (λ items. Moves c.args.image.now c.in-Ok.changed items c.pass.new.table) c.deref_mut.ensures.value
    (subst (λ r. IfOk r (λ moved. Moves c.args.image.now moved c.deref_mut.result.now c.pass.new.table)) c.in-Ok.is
    c.in_ok-changed.ensures.moves))

pub returns-in-Err-clause-first : goal.returns-in-Err-clause-first
returns-in-Err-clause-first c =
    is_first c.args.image.now c.args.listing.now c.deref.result.now (table_of c.loop-is_changed.table.items) _ (c.deref.ensures.value ∙ c.in_ok-asked.ensures) c.loop-is_changed.invariant.before
    (rw (left_there c.loop-is_changed.table.items c.pass.new.table c.loop-is_changed.table.len
    (sym (ap length c.deref_mut.ensures.value) ∙ c.deref_mut.ensures.len)
    (c.in_ok-changed.ensures.sized ∙ ap length c.deref_mut.ensures.value))
    (subst (λ items. EndsAs c.args.image.now c.deref.result.now (table_of items) (table_of c.pass.new.table)
    (Err c.in-Err.refusal)) c.deref_mut.ensures.value (subst
    (EndsAs c.args.image.now c.deref.result.now (table_of c.deref_mut.result.now) (table_of c.pass.new.table))
    c.in-Err.is c.in_ok-changed.ensures.ends)))

pub returns-in-Err-clause-verdict : goal.returns-in-Err-clause-verdict
returns-in-Err-clause-verdict c = is_verdict c.args.image.now c.args.listing.now _ (returns-in-Err-clause-first c)

pub returns-in-Err-clause-placed : goal.returns-in-Err-clause-placed
returns-in-Err-clause-placed c = rw (left_there c.loop-is_changed.table.items c.pass.new.table
    c.loop-is_changed.table.len (sym (ap length c.deref_mut.ensures.value) ∙ c.deref_mut.ensures.len)
    (c.in_ok-changed.ensures.sized ∙ ap length c.deref_mut.ensures.value)) c.in_ok-changed.ensures.placed

pub returns-clause-none : goal.returns-clause-none
returns-clause-none c _ = is_settled c.args.image.now c.args.listing.now c.loop-is_changed.passes
    (table_of c.loop-is_changed.table.items) c.loop-is_changed.invariant.before
    (c.loop-is_changed.invariant.stays c.loop-is_changed-test.false)
