use Rattle.std.proofs.Common.{◌≡◌, ◌∙◌, sym, ap, ◌-◌, length, drop, Some, rules}
use Rattle.tpw_occam_terms.specs.Spelling.{front}
use Rattle.tpw_occam_terms.proofs.Spelled.{behind_front}
use Rattle.tpw_occam_terms.proofs.spelling.quoted.Goals as goal

pub returns-clause-some : goal.returns-clause-some
returns-clause-some c =
    let found : front c.args.rest.now ≡ Some (c.in_ok-byte.byte, c.in_ok-byte.behind.now) = search rules in
    let width : c.saturating_sub.result ≡ length c.args.rest.now - length c.in_ok-byte.behind.now = search rules in
    found ∙ ap (λ tail. Some (c.in_ok-byte.byte, tail)) (behind_front c.args.rest.now c.in_ok-byte.behind.now c.in_ok-byte.byte found ∙ ap (λ k. drop k c.args.rest.now) (sym width))
