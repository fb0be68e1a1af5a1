use Rattle.std.proofs.Common.{rules, ◌≡◌, ◌∙◌, List, map, refl, ap, sym, subst, codes, Some}
use Rattle.std.specs.Str.Parse.{ParsesUnsigned, ExplainsUnsignedError, HasUnsignedDigitsIfOk}
use Rattle.clap.specs.Matches.{found_of, one_text}
use Rattle.clap.specs.Words.{App, HasKind, Text, fault_of, is_simple, is_simple_and_free, matches_of, rows_of, takes}
use Rattle.tp_program.specs.CommandLine.{farmd}
use Rattle.tp_program.proofs.AskedLemmas.{alone_so, asks, asks_alone, fails_so, flag_reads, members_text, number_reads, some_is, taken_so}
use Rattle.tp_program.proofs.command_line.options.Goals as goal

pub returns-in_err-matches-clause-fails : goal.returns-in_err-matches-clause-fails
returns-in_err-matches-clause-fails g c =
    let words : List Text = map g.S.AsStr.text c.args.words.now in
    let kinds : HasKind (fault_of farmd words) c.in_err-matches.field-0.0 =
    subst (λ (a : App). HasKind (fault_of a words) c.in_err-matches.field-0.0) c.in_ok-command.ensures.app
    (c.in_err-matches.ensures.kinds (ap is_simple_and_free c.in_ok-command.ensures.app)) in
    fails_so _ c.from_residual-in_err-matches.result c.in_err-matches.field-0.0 c.from_residual-in_err-matches.ensures.1 kinds

pub returns-in_err-matches-clause-taken : goal.returns-in_err-matches-clause-taken
returns-in_err-matches-clause-taken g c =
    let words : List Text = map g.S.AsStr.text c.args.words.now in
    taken_so words c.from_residual-in_err-matches.result c.in_err-matches.field-0.0 c.from_residual-in_err-matches.ensures.1
    (λ taken. c.in_err-matches.ensures.passes (ap (λ (a : App). takes a words) c.in_ok-command.ensures.app ∙ taken))

pub returns-in_err-matches-clause-alone : goal.returns-in_err-matches-clause-alone
returns-in_err-matches-clause-alone g c name alone =
    let words : List Text = map g.S.AsStr.text c.args.words.now in
    alone_so words name alone c.from_residual-in_err-matches.result c.in_err-matches.field-0.0 c.from_residual-in_err-matches.ensures.1
    (λ taken. c.in_err-matches.ensures.passes (ap (λ (a : App). takes a words) c.in_ok-command.ensures.app ∙ taken))

pub unwrap-requires : goal.unwrap-requires
unwrap-requires g c =
    let m = c.in_ok-matches.matches in
    let got = members_text c.in_ok-command.field-0 m c.in_ok-command.ensures.arguments c.in_ok-matches.ensures.parsed in
    let text : one_text (found_of m) (codes "members") ≡ Some got.0 = got.1 in
    let one = c.get_one.ensures.value got.0 (search rules) in
    let n = number_reads _ (λ bs r. ParsesUnsigned 64 10 bs r × ExplainsUnsignedError 10 bs r × HasUnsignedDigitsIfOk bs r) got.0 c.get_one.result one (λ u x h. h.0) got.2 in
    rw n refl

pub returns-clause-fails : goal.returns-clause-fails
returns-clause-fails g c = ap (λ (a : App). fault_of a (map g.S.AsStr.text c.args.words.now))
    (sym c.in_ok-command.ensures.app) ∙ c.in_ok-matches.ensures.kinds (ap is_simple_and_free c.in_ok-command.ensures.app)

pub returns-clause-asked : goal.returns-clause-asked
returns-clause-asked g c =
    let m = c.in_ok-matches.matches in
    let h = c.in_ok-command.ensures.arguments in
    let p = c.in_ok-matches.ensures.parsed in
    let words : List Text = map g.S.AsStr.text c.args.words.now in
    let got = members_text c.in_ok-command.field-0 m h p in
    let text : one_text (found_of m) (codes "members") ≡ Some got.0 = got.1 in
    let one = c.get_one.ensures.value got.0 (search rules) in
    let number = number_reads _ (λ bs r. ParsesUnsigned 64 10 bs r × ExplainsUnsignedError 10 bs r × HasUnsignedDigitsIfOk bs r) got.0 c.get_one.result one (λ u x h. h.0) got.2 in
    let flag = flag_reads c.in_ok-command.field-0 m h p c.get_flag.result (search rules) (search rules) (search rules) in
    let rows : rows_of (found_of m) ≡ matches_of farmd words =
    (c.in_ok-matches.ensures.matches (ap is_simple c.in_ok-command.ensures.app)).0 ∙ ap (λ (a : App). matches_of a words) c.in_ok-command.ensures.app in
    asks c.in_ok-command.field-0 m words c.unwrap.result c.get_flag.result got.0 rows got.1 got.2 (some_is _ _ (sym c.unwrap.ensures ∙ number)) flag

pub returns-clause-alone : goal.returns-clause-alone
returns-clause-alone g c name alone =
    asks_alone (map g.S.AsStr.text c.args.words.now) name c.unwrap.result c.get_flag.result alone (returns-clause-asked g c)
