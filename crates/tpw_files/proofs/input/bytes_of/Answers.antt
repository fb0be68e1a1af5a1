use Rattle.std.proofs.Common.{rules}
use Rattle.tpw_files.proofs.Reading.{between, before, not_a_digit, half_a_byte, handed_on, says}
use Rattle.tpw_files.proofs.input.bytes_of.Goals as goal

pub returns-in_err-digits-clause-fault : goal.returns-in_err-digits-clause-fault
returns-in_err-digits-clause-fault c =
    let same = between _ _ _ c.trim_ascii_start-rest.ensures.value c.trim_ascii_end-inner.ensures.value in
    let behind = before _ _ c.trim_ascii_start-rest.ensures.value in
    let fault = not_a_digit c.args.text.now _ _ c.in_err-digits.field-0.0 same behind c.in_err-digits.ensures.fault in
    handed_on c.args.text.now c.from_residual.result c.in_err-digits.field-0.0 c.from_residual.ensures.1 fault

pub returns-then-len-eq1-clause-fault : goal.returns-then-len-eq1-clause-fault
returns-then-len-eq1-clause-fault c =
    let same = between _ _ _ c.trim_ascii_start-rest.ensures.value c.trim_ascii_end-inner.ensures.value in
    let behind = before _ _ c.trim_ascii_start-rest.ensures.value in
    half_a_byte c.args.text.now _ c.in_ok-digits.digits.items _ same behind c.in_ok-digits.ensures.digits (search rules)

pub returns-in-Ok-clause-bytes : goal.returns-in-Ok-clause-bytes
returns-in-Ok-clause-bytes c =
    let same = between _ _ _ c.trim_ascii_start-rest.ensures.value c.trim_ascii_end-inner.ensures.value in
    says c.args.text.now _ c.in_ok-digits.digits.items _ same c.in_ok-digits.ensures.digits (search rules)
