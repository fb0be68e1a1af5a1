use Rattle.std.proofs.Common.{sym, subst}
use Rattle.std.proofs.lemmas.Result.{on_ok_weaker}
use Rattle.tp_image.specs.Text.{IsTextOf}
use Rattle.tpw_judging.specs.Programs.{AreTextOf}
use Rattle.tpw_judging.proofs.disassembly.disassemble_image.Goals as goal

pub returns-clause-written : goal.returns-clause-written
returns-clause-written g c =
    let image = c.in_ok-image.image in
    let program = c.in_ok-program.program in
    let read = subst (λ b. IsTextOf b image) c.deref.ensures.value c.in_ok-image.ensures.image in
    let shown = subst (AreTextOf program) (sym c.as_str.ensures.value) c.in_ok-text.ensures in
    on_ok_weaker c.write_line.result (λ written. (
      c.as_str.result.now,
      record {
        bytes = c.in_ok-bytes.bytes.items;
        said = c.in_ok-bytes.ensures.bytes;
        image = image;
        read = read;
        program = program;
        assembled = c.in_ok-program.ensures.assembled;
        shown = shown;
      },
      written,
    )) c.write_line.ensures.text
