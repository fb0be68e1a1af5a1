use Rattle.std.proofs.Common.{◌≡◌, length, refl, sym, ap, ◌∙◌, arith}
use Rattle.tp_state.specs.Planes.{seen}
use Rattle.tp_state.proofs.SeenLemmas.{length_seen}
use Rattle.tp_state.proofs.AgreeLemmas.{whole_risen, seen_risen, written}
use Rattle.tp_state.proofs.cells.Cells.raise_to.Goals as goal

pub set_planes-requires : goal.set_planes-requires
set_planes-requires c =
    let long : length c.others.inside.values.items ≡ length c.self.inside.values.items =
    sym (length_seen c.others.inside.values.items c.others.inside.planes.items) ∙ ap length c.others.view_is ∙
    c.requires.sized ∙ sym (ap length c.self.view_is) ∙ length_seen c.self.inside.values.items
    c.self.inside.planes.items in
    let longer : length c.others.inside.planes.items ≡ length c.self.inside.planes.items =
    omega (
      arith,
      c.self.invariant.enough,
      c.self.invariant.no_more,
      c.others.invariant.enough,
      c.others.invariant.no_more,
      long,
    ) in
    ap length c.deref.ensures.0 ∙ longer ∙ sym (ap length c.deref_mut.ensures.value)

pub invariant_of-self : goal.invariant_of-self
invariant_of-self c =
    let long : length c.others.inside.values.items ≡ length c.self.inside.values.items =
    sym (length_seen c.others.inside.values.items c.others.inside.planes.items) ∙ ap length c.others.view_is ∙
    c.requires.sized ∙ sym (ap length c.self.view_is) ∙ length_seen c.self.inside.values.items
    c.self.inside.planes.items in
    let longer : length c.others.inside.planes.items ≡ length c.self.inside.planes.items =
    omega (
      arith,
      c.self.invariant.enough,
      c.self.invariant.no_more,
      c.others.invariant.enough,
      c.others.invariant.no_more,
      long,
    ) in
    let is = c.set_planes.ensures ∙ c.deref.ensures.0 in
    let new = written c.self.inside.planes.items c.set_planes.new.planes (length c.self.inside.planes.items) refl (ap length is ∙ longer) ∙ is in
    rw new (whole_risen c.self.inside.values.items c.others.inside.values.items c.self.inside.planes.items
    c.others.inside.planes.items c.self.invariant c.others.invariant long
    (λ i. rw (c.self.view_is, c.others.view_is) (c.requires.below i)))

pub returns : goal.returns
returns c =
    let long : length c.others.inside.values.items ≡ length c.self.inside.values.items =
    sym (length_seen c.others.inside.values.items c.others.inside.planes.items) ∙ ap length c.others.view_is ∙
    c.requires.sized ∙ sym (ap length c.self.view_is) ∙ length_seen c.self.inside.values.items
    c.self.inside.planes.items in
    let longer : length c.others.inside.planes.items ≡ length c.self.inside.planes.items =
    omega (
      arith,
      c.self.invariant.enough,
      c.self.invariant.no_more,
      c.others.invariant.enough,
      c.others.invariant.no_more,
      long,
    ) in
    let is = c.set_planes.ensures ∙ c.deref.ensures.0 in
    let new = written c.self.inside.planes.items c.set_planes.new.planes (length c.self.inside.planes.items) refl (ap length is ∙ longer) ∙ is in
    ap (seen c.self.inside.values.items) new
    ∙ seen_risen c.self.inside.values.items c.others.inside.values.items c.self.inside.planes.items
    c.others.inside.planes.items c.self.invariant c.others.invariant long
    (λ i. rw (c.self.view_is, c.others.view_is) (c.requires.below i))
    ∙ c.others.view_is
