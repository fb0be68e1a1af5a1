use Rattle.tpw_assembly.proofs.Lines.{without_memory}
use Rattle.tpw_assembly.proofs.fields.assembled_text.Goals as goal

pub returns-in_err-at_statement-in-Err-clause-refused : goal.returns-in_err-at_statement-in-Err-clause-refused
returns-in_err-at_statement-in-Err-clause-refused c =
    without_memory c.args.source.now c.from_residual.result c.in_err-at_statement-in-Err.field-0.0
    c.in_err-at_statement-in-Err.ensures.memory c.from_residual.ensures.1
