-- The command line of the program: farmd [--members N] [--trace], to which clap adds --help and --version.
use Rattle.std.specs.Prelude.{◌≡◌, ◌≤◌, Bool, true, false, List, [], ◌∷◌, codes, Option, Some, None}
use Rattle.std.specs.Str.{bytes_eq}
use Rattle.std.specs.Str.Parse.{IsNumeral, digits_value, without_leading_plus}
use Rattle.clap.specs.Words.{App, Rule, Text, new_app, new_rule, with_rule, matches_of, one_of, args_of, IsPlainArg}
use Rattle.clap.specs.Words.{rule_of}
use Rattle.clap.specs.Built.{IsPlain}
use Rattle.clap.specs.Facts.{WantsDefault, least_values}
use Rattle.clap.specs.declared.builder.action.ArgAction.TheVariants.{Set, SetTrue}
use Rattle.clap.specs.declared.builder.arg.Arg.{Arg}
use Rattle.clap.specs.declared.builder.command.Command.{Command}
use Rattle.clap.specs.declared.builder.command.Command.TheViews.{out-Command}
use Rattle.clap.specs.declared.builder.value_parser.ValueParser.TheVariants as parser
use Rattle.tp_program.specs.declared.chosen.Options.{Options}

-- --members N: a number from 1 to 64, and 4 where none is given
abbrev pub members_rule : Rule
members_rule = record (new_rule (codes "members")) {
  long = Some (codes "members");
  action = Some Set;
  value_names = 1;
  parser = Some (parser.Unsigned 1 64);
  defaults = codes "4" ∷ [];
}

-- --trace
abbrev pub trace_rule : Rule
trace_rule = record (new_rule (codes "trace")) {
  long = Some (codes "trace");
  action = Some SetTrue;
  parser = Some parser.Bool;
}

abbrev pub with_version : App → App
with_version a = record a { top = record a.top { has_version = true } }

abbrev pub farmd : App
farmd = with_rule (with_rule (with_version (new_app (codes "farmd"))) members_rule) trace_rule

-- a flag is up where its entry is the word true
abbrev pub is_up : Option Text → Bool
is_up None = false
is_up (Some text) = bytes_eq text (codes "true")

-- The options are what the entries of clap's matches hold for the words, the first of which names the program.
pub record AsksFor (words : List Text) (o : Options) : Type 0 where
  pub text : Text
  pub given : one_of (codes "members") (matches_of farmd words) ≡ Some text
  pub number : IsNumeral 10 (without_leading_plus text)
  pub members : o.members ≡ digits_value 10 (without_leading_plus text)
  pub least : 1 ≤ o.members
  pub most : o.members ≤ 64
  pub trace : o.trace ≡ is_up (one_of (codes "trace") (matches_of farmd words))

-- the argument --members N; beside its rule, what reading its number rests on
pub record IsMembers (a : Arg) : Type 0 where
  pub rule : rule_of a ≡ members_rule
  pub plain : IsPlainArg a
  pub global : a.global ≡ false
  pub id : a.id.now ≡ codes "members"
  pub parser : a.value_parser ≡ Some (parser.Unsigned 1 64)
  pub action : a.action ≡ Some Set
  pub delimiter : a.val_delim ≡ None
  pub values : a.num_vals ≡ None
  pub default : WantsDefault a

-- the argument --trace; beside its rule, what reading its flag rests on
pub record IsTrace (a : Arg) : Type 0 where
  pub rule : rule_of a ≡ trace_rule
  pub plain : IsPlainArg a
  pub global : a.global ≡ false
  pub id : a.id.now ≡ codes "trace"
  pub parser : a.value_parser ≡ Some parser.Bool

-- the two arguments of the command; beside its rules, what reading them rests on
pub record HasArguments (c : Command) : Type 0 where
  pub members : Arg
  pub trace : Arg
  pub args : args_of c ≡ members ∷ trace ∷ []
  pub plain : IsPlain c
  pub globals : (out-Command c).has_globals ≡ false
  pub members_id : members.id.now ≡ codes "members"
  pub members_parser : members.value_parser ≡ Some (parser.Unsigned 1 64)
  pub members_set : members.action ≡ Some Set
  pub members_delimiter : members.val_delim ≡ None
  pub members_least : 1 ≤ least_values members
  pub members_default : WantsDefault members
  pub trace_id : trace.id.now ≡ codes "trace"
  pub trace_parser : trace.value_parser ≡ Some parser.Bool
