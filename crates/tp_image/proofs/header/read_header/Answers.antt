use Rattle.std.proofs.Common.{length, sym, ap, ◌∙◌, arith}
use Rattle.std.proofs.lemmas.Result.{err_from_is_err_and}
use Rattle.tp_image.specs.declared.header.Header.{Header}
use Rattle.tp_image.specs.Faults.{header_fault}
use Rattle.tp_image.proofs.Headers.{first_fault-whole}
use Rattle.tp_image.proofs.header.read_header.Goals as goal

pub returns-in_err-check : goal.returns-in_err-check
returns-in_err-check c =
    let p = err_from_is_err_and c.from_residual.result c.from_residual.ensures.1 in
    let bytes = c.args.bytes.now in
    rw (p.1, p.2) (first_fault-whole bytes c.in-Some.version (sym c.in-Some.ensures) (omega arith) ∙
    ap (λ (h : Header). header_fault h (length bytes)) (sym c.at-header.ensures) ∙ c.in_err-check.ensures)
