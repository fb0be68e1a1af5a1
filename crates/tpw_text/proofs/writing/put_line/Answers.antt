use Rattle.std.proofs.Common.{◌≡◌, ◌++◌, ◌-◌, ◌^◌, false, [], Some, codes, string_bytes, sym, ap, ◌∙◌}
use Rattle.std.specs.Fmt.{styled_digits_output, padded_integral, format_spec}
use Rattle.std.specs.Option.{option_map}
use Rattle.tpw_text.specs.Written.{line_text, byte_text}
use Rattle.tpw_text.proofs.Written.{written_on, part_written}
use Rattle.tpw_text.proofs.writing.put_line.Goals as goal

pub returns-in-Byte : goal.returns-in-Byte
unfolding line_text
returns-in-Byte c =
    let old = string_bytes c.args.text.now in
    let digits : styled_digits_output c.in_radix.result c.laid_out.result ≡ Some (byte_text c.in-Byte.byte) =
    ap (λ s. styled_digits_output c.in_radix.result s) c.laid_out.ensures
    ∙ ap (option_map (padded_integral (format_spec 32 0 4 2 (2 ^ 64 - 1)) false [])) c.in_radix.ensures in
    written_on c.write.result _ _ _ (part_written c.write.result old (string_bytes c.write.new.self) (codes "        byte #") (byte_text c.in-Byte.byte) _ digits c.write.ensures.bytes)
    (ap (λ l. old ++ line_text l) (sym c.in-Byte.is))
