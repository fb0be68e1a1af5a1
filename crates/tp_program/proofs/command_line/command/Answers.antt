use Rattle.std.proofs.Common.{rules, ◌≡◌, ◌∷◌, [], ◌++◌, ◌∙◌, ap, sym, subst, arith}
use Rattle.std.specs.List.{All}
use Rattle.std.proofs.lemmas.List.Elements.{All-nil}
use Rattle.clap.specs.Facts.{args_of}
use Rattle.clap.specs.Built.{IsPlainArg}
use Rattle.clap.proofs.CallerLemmas.{added_plain}
use Rattle.tp_program.proofs.command_line.command.Goals as goal

pub returns-clause-arguments : goal.returns-clause-arguments
returns-clause-arguments c =
    let start = c.after_help.result in
    let first = c.in_ok-arg.ensures in
    let second = c.in_ok-command.ensures in
    let members = c.members_argument.ensures in
    let trace = c.trace_argument.ensures in
    let empty : args_of start ≡ [] = search rules in
    record {
      members = first.arg;
      trace = second.arg;
      args = second.args ∙ ap (λ l. l ++ second.arg ∷ []) (first.args ∙ ap (λ l. l ++ first.arg ∷ []) empty);
      plain = added_plain _ _ _ second (added_plain _ _ _ first (subst (All IsPlainArg) (sym empty) (All-nil IsPlainArg), search rules) members.plain) trace.plain;
      globals = search rules;
      members_id = ap (λ i. i.now) first.rules.id ∙ members.id;
      members_parser = first.rules.parser _ members.parser;
      members_set = first.rules.action _ members.action;
      members_delimiter = first.rules.val_delim ∙ members.delimiter;
      members_least = first.rules.least members.action (rw members.values (omega arith));
      members_default = (first.rules.ifs ∙ members.default.0, rw (first.rules.defaults members.default.1) members.default.1);
      trace_id = ap (λ i. i.now) second.rules.id ∙ trace.id;
      trace_parser = second.rules.parser _ trace.parser;
    }
