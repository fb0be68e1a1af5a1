use Rattle.std.proofs.Common.{◌≡◌, [], ◌∷◌, slice_index_or, sym, ◌∙◌}
use Rattle.tp_flow.specs.declared.edge.Edge.TheVariants.{Next}
use Rattle.tp_check.specs.Tables.{asked}
use Rattle.tp_check.specs.Joining.{is_join_at}
use Rattle.tp_check.proofs.Two.{none_apart, on_one, one_done, one_of}
use Rattle.tp_check.proofs.passes.Passes.take_edges.Goals as goal

pub take_edge-requires-clause-way : goal.take_edge-requires-clause-way
take_edge-requires-clause-way c = ([], none_apart _, on_one c.args.image.now (is_join_at c.args.predecessors.now) c.args.self.now c.args.place _ alone c.requires.way)
  where
    alone : asked c.args.place.instr ≡ slice_index_or c.asked.result.now 0 Next ∷ []
    alone = sym c.asked.ensures ∙ one_of c.asked.result.now Next c.in-len1.len_at_least c.in-len1.len_below

pub returns-in-len1-clause-gives : goal.returns-in-len1-clause-gives
returns-in-len1-clause-gives c way =
    one_done c.args.image.now (is_join_at c.args.predecessors.now) c.args.self.now c.args.place _ alone way c.requires.rests c.take_edge.new.self c.take_edge.result
    (c.take_edge.ensures.gives [] (none_apart _) (on_one c.args.image.now (is_join_at c.args.predecessors.now) c.args.self.now c.args.place _ alone way))
  where
    alone : asked c.args.place.instr ≡ slice_index_or c.asked.result.now 0 Next ∷ []
    alone = sym c.asked.ensures ∙ one_of c.asked.result.now Next c.in-len1.len_at_least c.in-len1.len_below
