use Rattle.std.proofs.Common.{◌≡◌, ◌-◌, length, drop, take, arith, length-take, length-drop}
use Rattle.tp_prefix.proofs.Reach.{canonical_least}
use Rattle.tpw_asm.proofs.CodeLines.{lines_more}
use Rattle.tpw_asm.proofs.code_lines.lines_of.Goals as goal

pub push_instr-requires-clause-least : goal.push_instr-requires-clause-least
push_instr-requires-clause-least c = canonical_least _ _ _ c.in-Some.ensures.2.spelled

pub loop-found-preserved : goal.loop-found-preserved
loop-found-preserved c =
    let found = c.in-Some.found in
    let h = c.in-Some.ensures in
    let size : length (take (found.next - c.loop-found.at) (drop c.loop-found.at c.args.code.now)) ≡ found.next - c.loop-found.at =
    omega (arith, length-take (found.next - c.loop-found.at) (drop c.loop-found.at c.args.code.now), length-drop c.loop-found.at c.args.code.now, h.1) in
    record {
      within = h.1;
      so_far = rw c.in_ok-push_instr.ensures (lines_more c.args.code.now c.loop-found.at found.next c.loop-found.lines.items _ (omega (arith, h.0)) h.1 c.loop-found.invariant.so_far h.2 size);
    }
