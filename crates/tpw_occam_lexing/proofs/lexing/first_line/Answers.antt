use Rattle.std.proofs.Common.{◌≡◌, ◌∙◌, sym, ap, subst, ◌<◌, ◌+◌, suc, length, drop, take, get_or, ℕ, List, ◌∷◌, rules, arith}
use Rattle.std.proofs.lemmas.List.{drop-drop}
use Rattle.std.proofs.lemmas.Grind.{common_steps}
use Rattle.std.specs.Str.{IsCharBoundary, IsUtf8}
use Rattle.std.proofs.lemmas.Str.{IsUtf8-drop, IsUtf8-take}
use Rattle.tpw_occam_lexing.specs.declared.bytes.Class.TheVariants as class
use Rattle.tpw_occam_lexing.specs.Bytes.{run}
use Rattle.tpw_occam_lexing.specs.Lines.{text_lines}
use Rattle.tpw_occam_lexing.proofs.Lines.{one_line, first_part, feed_cut}
use Rattle.tpw_occam_lexing.proofs.lexing.first_line.Goals as goal

pub returns-then-width-rest-clause-lines : goal.returns-then-width-rest-clause-lines
returns-then-width-rest-clause-lines c =
    let is : run class.Line c.args.rest.now ≡ length c.args.rest.now = first_of (search rules, grind (arith, common_steps)) in
    one_line c.args.rest.now is

pub split_at-requires : goal.split_at-requires
split_at-requires c =
    let is : run class.Line c.args.rest.now ≡ c.run-width.result = first_of (search rules, grind (arith, common_steps)) in
    let inside : c.run-width.result < length c.args.rest.now = first_of (omega arith, search rules, grind (arith, common_steps)) in
    (feed_cut c.args.rest.now c.run-width.result c.utf8.rest inside (first_part c.args.rest.now c.run-width.result is inside).1).0

pub split_at-requires-2 : goal.split_at-requires-2
split_at-requires-2 c =
    let is : run class.Line c.args.rest.now ≡ c.run-width.result = first_of (search rules, grind (arith, common_steps)) in
    let inside : c.run-width.result < length c.args.rest.now = first_of (omega arith, search rules, grind (arith, common_steps)) in
    subst (λ (l : List ℕ). IsCharBoundary l 1) (sym c.split_at.ensures.back)
    (feed_cut c.args.rest.now c.run-width.result c.utf8.rest inside (first_part c.args.rest.now c.run-width.result is inside).1).1

pub returns-clause-lines : goal.returns-clause-lines
returns-clause-lines c =
    let is : run class.Line c.args.rest.now ≡ c.run-width.result = first_of (search rules, grind (arith, common_steps)) in
    let inside : c.run-width.result < length c.args.rest.now = first_of (omega arith, search rules, grind (arith, common_steps)) in
    let parts = first_part c.args.rest.now c.run-width.result is inside in
    let width : suc c.run-width.result ≡ c.run-width.result + 1 = omega arith in
    let behind : drop (suc c.run-width.result) c.args.rest.now ≡ c.split_at-2.result.1.now =
    ap (λ (n : ℕ). drop n c.args.rest.now) width ∙ sym (drop-drop 1 c.run-width.result c.args.rest.now)
    ∙ ap (λ (l : List ℕ). drop 1 l) (sym c.split_at.ensures.back) ∙ sym c.split_at-2.ensures.back in
    parts.0 ∙ ap (λ (l : List ℕ). l ∷ text_lines (drop (suc c.run-width.result) c.args.rest.now)) (sym c.split_at.ensures.front)
    ∙ ap (λ (l : List ℕ). c.split_at.result.0.now ∷ text_lines l) behind
