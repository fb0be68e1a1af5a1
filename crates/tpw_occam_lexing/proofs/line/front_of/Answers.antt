use Rattle.std.proofs.Common.{◌≡◌, ◌<◌, length, get_or, false, Some, rules, arith, ℕ}
use Rattle.std.proofs.lemmas.Grind.{common_steps}
use Rattle.std.proofs.lemmas.Option.{slice_get_within, get_or_from_slice_get}
use Rattle.std.specs.Prelude.{slice_get}
use Rattle.tpw_occam_lexing.specs.Lexemes.{lexeme_of, lexeme_at}
use Rattle.tpw_occam_lexing.specs.Lines.{is_comment}
use Rattle.tpw_occam_lexing.proofs.Cuts.{first_cut}
use Rattle.tpw_occam_lexing.proofs.Lines.{at_lexeme}
use Rattle.tpw_occam_lexing.proofs.line.front_of.Goals as goal

pub returns-then-first-eq32-clause-cut : goal.returns-then-first-eq32-clause-cut
returns-then-first-eq32-clause-cut c =
    let is : slice_get c.args.rest.now 0 ≡ Some c.in-Some.first.now = first_of (search rules, grind (arith, common_steps)) in
    let some = slice_get_within c.args.rest.now 0 c.in-Some.first.now is in
    let same = get_or_from_slice_get c.args.rest.now 0 c.in-Some.first.now 0 is in
    let narrow : get_or c.args.rest.now 0 0 < 128 = omega (arith, same, c.if-first-eq32.true) in
    (some, first_cut c.args.rest.now c.utf8.rest (some, narrow))

pub returns-in-Some-lexeme-clause-whole : goal.returns-in-Some-lexeme-clause-whole
returns-in-Some-lexeme-clause-whole c =
    let is : slice_get c.args.rest.now 0 ≡ Some c.in-Some.first.now = first_of (search rules, grind (arith, common_steps)) in
    let some = slice_get_within c.args.rest.now 0 c.in-Some.first.now is in
    let same = get_or_from_slice_get c.args.rest.now 0 c.in-Some.first.now 0 is in
    let no_comment : is_comment c.args.rest.now ≡ false = search rules in
    let read : lexeme_at c.args.rest.now ≡ Some (lexeme_of c.in-Some-lexeme.token, c.in-Some-lexeme.width) = search rules in
    at_lexeme c.args.rest.now (lexeme_of c.in-Some-lexeme.token) c.in-Some-lexeme.width some no_comment
    (λ is_space. absurd (omega (arith, same, is_space, c.if-first-eq32.false)))
    c.if-width-gt0.true read
