use Rattle.std.proofs.Common.{◌≡◌, ◌+◌, ◌-◌, ◌++◌, ◌∙◌, length, map, take, drop, get_or, refl, ap, sym, subst, arith, append_assoc}
use Rattle.tpw_runs.specs.Packets.{fields_said, unless_empty}
use Rattle.tpw_runs.proofs.Cutting.{Within, begins, goes_on, ends, last}
use Rattle.tpw_runs.proofs.packets.fields_of.Goals.{then-is_ascii_whitespace+in_ok-push_field, else-is_ascii_whitespace}
use Rattle.tpw_runs.proofs.packets.fields_of.Goals as goal

pub loop-i-preserved : goal.loop-i-preserved
loop-i-preserved c =
    let line = c.args.line.now in
    let start = c.loop-i.start in
    let i = c.loop-i.i in
    let so_far = map (λ f. f.text.now) c.loop-i.fields.items in
    let byte = get_or line i 0 in
    elim c.if-is_ascii_whitespace.branch [
      | then-is_ascii_whitespace+in_ok-push_field w ↦ rw (w.fields-is, w.start-is) (
        ap (λ l. l ++ fields_said (drop (i + 1) line)) w.in_ok-push_field.ensures
            ∙ append_assoc so_far (unless_empty (take (i - start) (drop start line))) (fields_said (drop (i + 1) line))
            ∙ ap (λ l. so_far ++ l)
            (sym (ends line start i byte 0 c.loop-i-test.true refl (sym c.is_ascii_whitespace.ensures.value ∙ w.if-is_ascii_whitespace.true) c.loop-i.invariant.1))
            ∙ c.loop-i.invariant.0,
        begins line (i + 1),
        omega (arith, c.loop-i-test.true),
      )
      | else-is_ascii_whitespace w ↦ rw (w.fields-is, w.start-is) (
        c.loop-i.invariant.0,
        goes_on line start i byte 0 c.loop-i-test.true refl (sym c.is_ascii_whitespace.ensures.value ∙ w.if-is_ascii_whitespace.false) c.loop-i.invariant.1,
        c.loop-i.invariant.2,
      )
    ]

pub returns : goal.returns
returns c =
    let line = c.args.line.now in
    let start = c.loop-i.start in
    let end : c.loop-i.i ≡ length line = omega (arith, c.loop-i-test.false, c.loop-i.auto.i-end) in
    let within : Within line start (length line) = subst (Within line start) end c.loop-i.invariant.1 in
    c.in_ok-push_field-2.ensures ∙ ap (λ l. map (λ f. f.text.now) c.loop-i.fields.items ++ l) (sym (last line start within)) ∙ c.loop-i.invariant.0
