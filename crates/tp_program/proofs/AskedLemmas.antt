-- What the matches of the program's command hold.
use Rattle.std.proofs.Common.{◌||◌, ◌≡◌, ◌∙◌, ◌<◌, ◌≤◌, ap, ap₂, ℕ, Bool, zero, suc, true, false, List, [], ◌∷◌, length}
use Rattle.std.proofs.Common.{is_some, Option, Some, None, Result, Ok, Err, refl, sym, subst, inl, inr, arith, codes}
use Rattle.std.proofs.Common.{slice_index}
use Rattle.std.specs.List.{slice_index_or}
use Rattle.std.specs.Prelude.{slice_get, unwrap_or}
use Rattle.std.proofs.lemmas.Slice.Eq.{bytes_eq-Decides}
use Rattle.clap.proofs.OnLiterals.{clap_on_literals}
use Rattle.std.specs.Str.{bytes_eq}
use Rattle.std.specs.Str.Parse.{ParsesUnsigned, digits_value, without_leading_plus}
use Rattle.clap.specs.Facts.{args_of, WantsDefault, least_values}
use Rattle.clap.specs.Built.{IsParsedFrom, IsAuto}
use Rattle.clap.specs.Matches.{matched_of, first_value, one_text, found_of, ReadsOne}
use Rattle.clap.specs.Values.{IsUnsignedIn}
use Rattle.clap.specs.Words.{FailsBy, HasKind, Kinds, Text, kind_of, matches_of, one_of, rows_of, takes}
use Rattle.clap.specs.declared.error.ErrorKind.TheVariants.{OutOfMemory}
use Rattle.clap.specs.declared.error.Error.{Error}
use Rattle.std.specs.Prelude.{IfErr, MatchResult}
use Rattle.std.specs.Result.{IsErrAnd}
use Rattle.clap.specs.declared.builder.arg.Arg.{Arg}
use Rattle.clap.specs.declared.builder.command.Command.{Command}
use Rattle.clap.specs.declared.builder.value_parser.ValueParser.TheVariants as parser
use Rattle.clap.specs.declared.parser.matches.ArgMatches.{ArgMatches}
use Rattle.clap.specs.declared.parser.matches.Found.{Found}
use Rattle.clap.specs.declared.parser.matches.MatchedArg.{MatchedArg}
use Rattle.clap.proofs.WalkLemmas.{one_text-rows}
use Rattle.tp_program.specs.CommandLine.{farmd, is_up, AsksFor, HasArguments}
use Rattle.tp_program.specs.declared.chosen.Options.{Options}
use Rattle.tp_program.proofs.Reading.{default_has_value, value_reads}

-- of the two arguments, the one of this id is the first
is_first : (a b : Arg) → b.id.now ≡ codes "trace" → (j : ℕ) (e : Arg) → j < length (a ∷ b ∷ [])
    → bytes_eq (slice_index_or (a ∷ b ∷ []) j e).id.now (codes "members") ≡ true → j ≡ 0
is_first a b trace zero e lt same = refl
is_first a b trace (suc zero) e lt same = let bad : false ≡ true = rw trace at same in cc
is_first a b trace (suc (suc j)) e lt same = absurd (omega arith)

is_second : (a b : Arg) → a.id.now ≡ codes "members" → (j : ℕ) (e : Arg) → j < length (a ∷ b ∷ [])
    → bytes_eq (slice_index_or (a ∷ b ∷ []) j e).id.now (codes "trace") ≡ true → j ≡ 1
is_second a b members zero e lt same = let bad : false ≡ true = rw members at same in cc
is_second a b members (suc zero) e lt same = refl
is_second a b members (suc (suc j)) e lt same = absurd (omega arith)

-- neither is one that clap adds
not_auto : (a : Arg) (id : Text) (first : ℕ) → a.id.now ≡ id → slice_index id 0 ≡ first → (first ≡ 104 → ⊥) → (first ≡ 118 → ⊥) → IsAuto a → ⊥
not_auto a id first is head other another auto = elim auto [
  | inl h ↦ other (sym head ∙ ap (λ (t : Text). slice_index t 0) (sym is ∙ h))
  | inr h ↦ another (sym head ∙ ap (λ (t : Text). slice_index t 0) (sym is ∙ h))
]

not_empty : (t id : Text) → t ≡ id → 0 < length id → t ≡ [] → ⊥
not_empty t id is some empty = let bad : 0 < 0 = rw (sym is ∙ empty) at some in absurd (omega arith)

-- the number of members is there, as a text that is in range
pub members_text : (c : Command) (m : ArgMatches) → HasArguments c → IsParsedFrom c m
    → (t : Text) × (one_text (found_of m) (codes "members") ≡ Some t) × IsUnsignedIn 1 64 t
members_text c m h p =
    let a = slice_index_or (args_of c) 0 h.members in
    let at : a ≡ h.members = ap (λ l. slice_index_or l 0 h.members) h.args in
    let id : a.id.now ≡ codes "members" = ap (λ (x : Arg). x.id.now) at ∙ h.members_id in
    let lt : 0 < length (args_of c) = subst (λ l. 0 < length l) (sym h.args) (omega arith) in
    let unique : (j : ℕ) (e : Arg) → j < length (args_of c) → bytes_eq (slice_index_or (args_of c) j e).id.now a.id.now ≡ true → j ≡ 0 =
    λ j e low same. is_first h.members h.trace h.trace_id j e (subst (λ l. j < length l) h.args low)
    (subst (λ l. bytes_eq (slice_index_or l j e).id.now (codes "members") ≡ true) h.args
    (subst (λ (w : Text). bytes_eq (slice_index_or (args_of c) j e).id.now w ≡ true) id same)) in
    let named = not_empty a.id.now (codes "members") id (omega arith) in
    let own = not_auto a (codes "members") 109 id refl (λ e. omega (arith, e)) (λ e. omega (arith, e)) in
    let has = default_has_value c m p h.plain h.globals 0 h.members lt (subst WantsDefault (sym at) h.members_default)
    (ap (λ (x : Arg). x.action) at ∙ h.members_set) (ap (λ (x : Arg). x.val_delim) at ∙ h.members_delimiter)
    (subst (λ (x : Arg). 1 ≤ least_values x) (sym at) h.members_least) unique named own in
    let got = value_reads c m p h.plain h.globals 0 h.members lt unique named own (parser.Unsigned 1 64)
    (ap (λ (x : Arg). x.value_parser) at ∙ h.members_parser) has in
    (got.0, subst (λ (w : Text). one_text (found_of m) w ≡ Some got.0) id got.1, got.2)

-- the flag is a word for true or false, where it is there
pub trace_text : (c : Command) (m : ArgMatches) → HasArguments c → IsParsedFrom c m → is_some (first_value (found_of m) (codes "trace")) ≡ true
    → (t : Text) × (one_text (found_of m) (codes "trace") ≡ Some t) × ((bytes_eq t (codes "true") || bytes_eq t (codes "false")) ≡ true)
trace_text c m h p has =
    let a = slice_index_or (args_of c) 1 h.trace in
    let at : a ≡ h.trace = ap (λ l. slice_index_or l 1 h.trace) h.args in
    let id : a.id.now ≡ codes "trace" = ap (λ (x : Arg). x.id.now) at ∙ h.trace_id in
    let lt : 1 < length (args_of c) = subst (λ l. 1 < length l) (sym h.args) (omega arith) in
    let unique : (j : ℕ) (e : Arg) → j < length (args_of c) → bytes_eq (slice_index_or (args_of c) j e).id.now a.id.now ≡ true → j ≡ 1 =
    λ j e low same. is_second h.members h.trace h.members_id j e (subst (λ l. j < length l) h.args low)
    (subst (λ l. bytes_eq (slice_index_or l j e).id.now (codes "trace") ≡ true) h.args
    (subst (λ (w : Text). bytes_eq (slice_index_or (args_of c) j e).id.now w ≡ true) id same)) in
    let named = not_empty a.id.now (codes "trace") id (omega arith) in
    let own = not_auto a (codes "trace") 116 id refl (λ e. omega (arith, e)) (λ e. omega (arith, e)) in
    let got = value_reads c m p h.plain h.globals 1 h.trace lt unique named own parser.Bool
    (ap (λ (x : Arg). x.value_parser) at ∙ h.trace_parser)
    (subst (λ (w : Text). is_some (first_value (found_of m) w) ≡ true) (sym id) has) in
    (got.0, subst (λ (w : Text). one_text (found_of m) w ≡ Some got.0) id got.1, got.2)

-- a text that passed the range of members reads as its number
pub number_reads : (E : Type 0) (G : Text → Result ℕ E → Type 0) (t : Text) (r : Option ℕ) → ReadsOne G t r
    → ((u : Text) (x : Result ℕ E) → G u x → ParsesUnsigned 64 10 u x) → IsUnsignedIn 1 64 t
    → r ≡ Some (digits_value 10 (without_leading_plus t))
number_reads E G t (Some v) read only passed = let parsed = only t (Ok v) read in ap Some parsed.1
number_reads E G t None read only passed = absurd (only t (Err read.0) read.1 (passed.0, passed.1))

-- what is read of an id was a value of it
value_of_read : (f : Found) (id : Text) → is_some (one_text f id) ≡ true → is_some (first_value f id) ≡ true
value_of_read f id h = go (matched_of f id) refl
  where
    go : (o : Option MatchedArg) → matched_of f id ≡ o → is_some (first_value f id) ≡ true
    go None e = let bad : false ≡ true = rw e at h in cc
    go (Some x) e = at_values (slice_get x.vals.items 0) refl
      where
        at_values : (v : _) → slice_get x.vals.items 0 ≡ v → is_some (first_value f id) ≡ true
        at_values None v = let bad : false ≡ true = rw (e, v) at h in cc
        at_values (Some s) v = rw (e, v) refl

-- a word for true or false is for one of them
flag_of_word : (t : Text) (b : Bool) → (bytes_eq t (codes "true") || bytes_eq t (codes "false")) ≡ true
    → (t ≡ codes "true" → b ≡ true) → (t ≡ codes "false" → b ≡ false) → b ≡ bytes_eq t (codes "true")
flag_of_word t b word up down = go (bytes_eq t (codes "true")) refl
  where
    go : (q : Bool) → bytes_eq t (codes "true") ≡ q → b ≡ bytes_eq t (codes "true")
    go true e = up ((bytes_eq-Decides t (codes "true")).0 e) ∙ sym e
    go false e = down ((bytes_eq-Decides t (codes "false")).0 (rw e at word)) ∙ sym e

-- a flag that is read as the getter says is up where its text is true
pub flag_reads : (c : Command) (m : ArgMatches) → HasArguments c → IsParsedFrom c m → (b : Bool)
    → (one_text (found_of m) (codes "trace") ≡ None → b ≡ false)
    → (one_text (found_of m) (codes "trace") ≡ Some (codes "true") → b ≡ true)
    → (one_text (found_of m) (codes "trace") ≡ Some (codes "false") → b ≡ false)
    → b ≡ is_up (one_text (found_of m) (codes "trace"))
flag_reads c m h p b none up down = go (one_text (found_of m) (codes "trace")) refl
  where
    by_word : (t : Text) → one_text (found_of m) (codes "trace") ≡ Some t
        → (bytes_eq t (codes "true") || bytes_eq t (codes "false")) ≡ true → b ≡ bytes_eq t (codes "true")
    by_word t e word = flag_of_word t b word (λ is. up (e ∙ ap Some is)) (λ is. down (e ∙ ap Some is))

    go : (o : Option Text) → one_text (found_of m) (codes "trace") ≡ o → b ≡ is_up (one_text (found_of m) (codes "trace"))
    go None e = none e ∙ ap is_up (sym e)
    go (Some t) e =
        let got = trace_text c m h p (value_of_read (found_of m) (codes "trace") (rw e refl)) in
        by_word got.0 got.1 got.2 ∙ ap is_up (sym got.1)

-- the options that are read are those that the words ask for
pub asks : (c : Command) (m : ArgMatches) (words : List Text) (n : ℕ) (b : Bool) (t : Text) → rows_of (found_of m) ≡ matches_of farmd words
    → one_text (found_of m) (codes "members") ≡ Some t → IsUnsignedIn 1 64 t → n ≡ digits_value 10 (without_leading_plus t)
    → b ≡ is_up (one_text (found_of m) (codes "trace"))
    → AsksFor words (record { members = n; trace = b })
asks c m words n b t rows read range number flag = record {
  text = t;
  given = ap (one_of (codes "members")) (sym rows) ∙ (sym (one_text-rows (found_of m) (codes "members")) ∙ read);
  number = range.0;
  members = number;
  least = rw number range.2;
  most = rw number range.3;
  trace = flag ∙ ap is_up (one_text-rows (found_of m) (codes "trace") ∙ ap (one_of (codes "trace")) rows);
}

-- the program's name alone asks for 4 members and no trace
members_alone : (name : Text) → one_of (codes "members") (matches_of farmd (name ∷ [])) ≡ Some (codes "4")
unfolding clap_on_literals
members_alone name = refl

trace_alone : (name : Text) → one_of (codes "trace") (matches_of farmd (name ∷ [])) ≡ Some (codes "false")
unfolding clap_on_literals
trace_alone name = refl

pub some_is : {X : Type 0} (x y : X) → Some x ≡ Some y → x ≡ y
some_is x y e = ap (λ o. unwrap_or o x) e

abbrev pub chosen : ℕ → Bool → Options
chosen n b = record { members = n; trace = b }

pub asks_alone : (words : List Text) (name : Text) (n : ℕ) (b : Bool) → words ≡ name ∷ []
    → AsksFor words (chosen n b) → chosen n b ≡ chosen 4 false
asks_alone words name n b is asked =
    let text : asked.text ≡ codes "4" = some_is asked.text (codes "4")
    (sym asked.given ∙ (ap (λ w. one_of (codes "members") (matches_of farmd w)) is ∙ members_alone name)) in
    let four : n ≡ 4 = asked.members ∙ ap (λ (t : Text). digits_value 10 (without_leading_plus t)) text in
    let down : b ≡ false = asked.trace ∙ ap is_up (ap (λ w. one_of (codes "trace") (matches_of farmd w)) is ∙ trace_alone name) in
    ap₂ chosen four down

-- ---- what an error says

pub fails_so : (kinds : Kinds) (r : Result Options Error) (e : Error) → IsErrAnd r (λ x. x ≡ e) → HasKind kinds e → FailsBy kinds r
fails_so kinds (Ok o) e is kind = absurd is
fails_so kinds (Err x) e is kind = subst (HasKind kinds) (sym is) kind

pub taken_so : (words : List Text) (r : Result Options Error) (e : Error) → IsErrAnd r (λ x. x ≡ e)
    → (takes farmd words ≡ true → kind_of e ≡ OutOfMemory) → IfErr r (λ x. takes farmd words ≡ true → kind_of x ≡ OutOfMemory)
taken_so words (Ok o) e is memory = tt
taken_so words (Err x) e is memory = λ taken. ap kind_of is ∙ memory taken

takes_alone : (name : Text) → takes farmd (name ∷ []) ≡ true
unfolding clap_on_literals
takes_alone name = refl

pub alone_so : (words : List Text) (name : Text) → words ≡ name ∷ [] → (r : Result Options Error) (e : Error) → IsErrAnd r (λ x. x ≡ e)
    → (takes farmd words ≡ true → kind_of e ≡ OutOfMemory) → MatchResult r (λ o. o ≡ chosen 4 false) (λ x. kind_of x ≡ OutOfMemory)
alone_so words name alone (Ok o) e is memory = absurd is
alone_so words name alone (Err x) e is memory = ap kind_of is ∙ memory (ap (takes farmd) alone ∙ takes_alone name)
