use Rattle.std.proofs.Common.{◌≡◌, ◌+◌, ◌<◌, ◌^◌, ℕ, ap, ◌∙◌, arith, length}
use Rattle.std.specs.List.{sum_by}
use Rattle.std.specs.Vec.{with_items}
use Rattle.std.proofs.lemmas.List.{with_items_is}
use Rattle.tpw_step.specs.Profiles.{sums}
use Rattle.tpw_step.proofs.Adding.{sum_sums}
use Rattle.tpw_step.proofs.profile.Profile.add.Goals as goal

pub returns-in-Some-clause-adds_up : goal.returns-in-Some-clause-adds_up
returns-in-Some-clause-adds_up c =
    let xs = c.args.self.now.counts.items in
    let ys = c.args.other.now.counts.items in
    let same : (with_items c.args.self.now.counts c.add_each.new.counts).items ≡ c.add_each.new.counts =
    with_items_is c.args.self.now.counts c.add_each.new.counts (c.add_each.auto.counts ∙ c.deref_mut.ensures.len) in
    let added : c.add_each.new.counts ≡ sums xs ys =
    c.add_each.ensures ∙ ap (λ l. sums l c.deref.result.now) c.deref_mut.ensures.value ∙ ap (sums xs) c.deref.ensures.value in
    let both : sum_by (λ (n : ℕ). n) (sums xs ys) ≡ sum_by (λ (n : ℕ). n) xs + sum_by (λ (n : ℕ). n) ys = sum_sums xs ys c.requires.long in
    let steps = c.in-Some.ensures.1 in
    let all : sum_by (λ (n : ℕ). n) xs + sum_by (λ (n : ℕ). n) ys ≡ c.in-Some.steps = omega (arith, c.requires.mine, c.requires.others, steps) in
    ap (sum_by (λ (n : ℕ). n)) (same ∙ added) ∙ (both ∙ all)

pub returns-in-Some-clause-counts : goal.returns-in-Some-clause-counts
returns-in-Some-clause-counts c = λ fits.
    let xs = c.args.self.now.counts.items in
    with_items_is c.args.self.now.counts c.add_each.new.counts (c.add_each.auto.counts ∙ c.deref_mut.ensures.len)
    ∙ (c.add_each.ensures ∙ ap (λ l. sums l c.deref.result.now) c.deref_mut.ensures.value ∙ ap (sums xs) c.deref.ensures.value)
