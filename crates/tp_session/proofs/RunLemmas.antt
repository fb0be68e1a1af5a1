-- Runs of the packets of a session.
use Rattle.std.proofs.Common.{◌≡◌, ℕ, zero, suc, ◌++◌, take, drop, ◌+◌, ◌*◌, ◌≤◌, ◌<◌, nat_eq, nat_lt, not, ◌&&◌, Bool, true}
use Rattle.std.proofs.Common.{false, cond, List, [], ◌∷◌, length, map, position, slice_get, All, Some, None, refl, ap}
use Rattle.std.proofs.Common.{sym, subst, ◌∙◌, arith}
use Rattle.std.specs.List.{list_all, AllZip, position_or_len}
use Rattle.std.proofs.Math.Logic.{∥∥₁_elim}
use Rattle.std.specs.Coded.{le_prop}
use Rattle.std.proofs.lemmas.Bool.Decides.{nat_tests}
use Rattle.std.proofs.lemmas.List.{length-map}
use Rattle.std.proofs.lemmas.List.Elements.{All-nil, All-cons, All-head, All-rest}
use Rattle.std.proofs.lemmas.List.Folds.{list_all-map}
use Rattle.std.proofs.lemmas.Slice.Zip.{AllZip-long}
use Rattle.arrayvec.specs.declared.array_vec.ArrayVec.{ArrayVec}
use Rattle.tp_answers.specs.declared.session.OpenSession.{OpenSession}
use Rattle.std.proofs.lemmas.Option.{same_Some}
use Rattle.tp_image.specs.Image.{ImageValue}
use Rattle.tp_step.specs.Runs.{Run, RunsAlone, TracesMoreThan}
use Rattle.tp_step.proofs.StepLemmas.{ends_in}
use Rattle.tp_accept.specs.Acceptance.{IsAcceptable}
use Rattle.tp_outcome.specs.Devices.{Devices}
use Rattle.tp_collect.specs.Collected.{JobValue}
use Rattle.tp_collect.specs.declared.collected.Entry.{Entry}
use Rattle.tp_collect.specs.declared.collected.Entry.TheVariants as entry
use Rattle.tp_collect.specs.declared.collected.LostCause.TheVariants as cause
use Rattle.tp_farm.specs.Settings.{SameSettings}
use Rattle.tp_farm.specs.Refused.{job_fault}
use Rattle.tp_farm.specs.Promised.{TakeAll, IsEntryOf, LosesLongTracesAlone}
use Rattle.tp_collect.specs.DoneValue.{most_trace}
use Rattle.tp_answers.specs.Rules.{IsOutcome}
use Rattle.tp_answers.specs.Outcomes.{outcome_of}
use Rattle.tp_answers.specs.Sessions.{Session}
use Rattle.tp_answers.specs.OpenSessions.{session_of}
use Rattle.tp_session.specs.Fitness.{AreFitOf}

-- ---- packets that may be run

and_true : (a b : Bool) → (a && b) ≡ true → (a ≡ true) × (b ≡ true)
and_true true b e = (refl, e)
and_true false b e = cc

abbrev pub are_bytes : List ℕ → Bool
are_bytes packet = list_all (λ b. nat_lt b 256) packet

abbrev pub is_whole : ImageValue → List ℕ → Bool
is_whole image packet = nat_eq (length packet) (4 * image.packet) && are_bytes packet

all_before : (image : ImageValue) (packets : List (List ℕ)) → list_all (is_whole image) packets ≡ true
    → position_or_len (λ p. not (nat_eq (length p) (4 * image.packet))) packets ≡ length packets
all_before image [] e = refl
all_before image (p ∷ packets) e =
    let all = and_true (is_whole image p) (list_all (is_whole image) packets) e in
    let both = and_true (nat_eq (length p) (4 * image.packet)) (are_bytes p) all.0 in
    let one : 1 + length packets ≡ suc (length packets) = omega arith in
    ap (λ b. cond (not (not b)) (1 + position_or_len (λ p. not (nat_eq (length p) (4 * image.packet))) packets) 0) both.0
    ∙ ap (λ n. 1 + n) (all_before image packets all.1) ∙ one

none_other : (image : ImageValue) (packets : List (List ℕ)) → list_all (is_whole image) packets ≡ true
    → position (λ p. not (nat_eq (length p) (4 * image.packet))) packets ≡ None
none_other image packets e =
    let test : nat_lt (length packets) (length packets) ≡ false = grind (arith, nat_tests) in
    ap (λ n. cond (nat_lt n (length packets)) (Some n) None) (all_before image packets e)
    ∙ ap (λ b. cond b (Some (length packets)) None) test

pub may_begin : (members : ℕ) (batch : JobValue) → 1 ≤ members → members ≤ 64 → length batch.packets ≤ 1024
    → list_all (is_whole batch.image) batch.packets ≡ true → job_fault members batch ≡ None
may_begin members batch least most few whole =
    let some : nat_eq members 0 ≡ false = grind (arith, nat_tests) in
    let enough : nat_lt 64 members ≡ false = grind (arith, nat_tests) in
    let room : nat_lt 1024 (length batch.packets) ≡ false = grind (arith, nat_tests) in
    rw (some, enough, room, none_other batch.image batch.packets whole) refl

-- ---- devices that are fit

pub short_messages : (image : ImageValue) (budget : ℕ) → ∥ IsAcceptable image budget ∥₁
    → (4 * image.packet ≤ 256) × (4 * image.result ≤ 256)
short_messages image budget acceptable = (
  ∥∥₁_elim acceptable le_prop (λ a. omega (arith, a.in_range.packet.1)),
  ∥∥₁_elim acceptable le_prop (λ a. omega (arith, a.in_range.result.1)),
)

fit_takes : (image : ImageValue) (devices : Devices) → 4 * image.packet ≤ 256 → 4 * image.result ≤ 256 → AreFitOf devices
    → TakeAll image devices
fit_takes image devices packet result fit = record {
  source = record { opened = fit.source.opened; sure = fit.source.sure; room = omega (arith, packet, fit.source.room) };
  sink = record { opened = fit.sink.opened; sure = fit.sink.sure; room = omega (arith, result, fit.sink.room) };
  trace = fit.trace;
}

pub all_take : (image : ImageValue) (all : List Devices) → 4 * image.packet ≤ 256 → 4 * image.result ≤ 256 → All AreFitOf all
    → All (TakeAll image) all
all_take image [] packet result fit = All-nil (TakeAll image)
all_take image (d ∷ all) packet result fit =
    All-cons (TakeAll image) d all (fit_takes image d packet result (All-head AreFitOf d all fit))
    (all_take image all packet result (All-rest AreFitOf d all (d ∷ all) refl fit))

fit_still : (d e : Devices) → SameSettings d e → AreFitOf d → AreFitOf e
fit_still d e same fit = record {
  source =
      record {
        opened = same.source.opened ∙ fit.source.opened;
        room = omega (arith, same.source.room, fit.source.room);
        sure = same.source.fallible ∙ fit.source.sure;
      };
  sink =
      record {
        opened = same.sink.opened ∙ fit.sink.opened;
        room = omega (arith, same.sink.room, fit.sink.room);
        sure = same.sink.fallible ∙ fit.sink.sure;
      };
  trace =
      record {
        opened = same.trace.opened ∙ fit.trace.opened;
        room = omega (arith, same.trace.room, fit.trace.room);
        sure = same.trace.fallible ∙ fit.trace.sure;
      };
}

pub all_fit_still : (before after : List Devices) → AllZip SameSettings before after → All AreFitOf before → All AreFitOf after
all_fit_still [] [] same fit = All-nil AreFitOf
all_fit_still [] (e ∷ after) same fit = absurd same
all_fit_still (d ∷ before) [] same fit = absurd same
all_fit_still (d ∷ before) (e ∷ after) same fit =
    All-cons AreFitOf e after (fit_still d e same.0 (All-head AreFitOf d before fit))
    (all_fit_still before after same.1 (All-rest AreFitOf d before (d ∷ before) refl fit))

-- devices of the first members, and of the others
pub fit_taken : {A : Type 0} (f : A → Devices) (n : ℕ) (links : List A) → All AreFitOf (map f links)
    → All AreFitOf (map f (take n links))
fit_taken f zero links fit = All-nil AreFitOf
fit_taken f (suc n) [] fit = All-nil AreFitOf
fit_taken f (suc n) (l ∷ links) fit =
    All-cons AreFitOf (f l) (map f (take n links)) (All-head AreFitOf (f l) (map f links) fit)
    (fit_taken f n links (All-rest AreFitOf (f l) (map f links) (f l ∷ map f links) refl fit))

pub fit_left : {A : Type 0} (f : A → Devices) (n : ℕ) (links : List A) → All AreFitOf (map f links)
    → All AreFitOf (map f (drop n links))
fit_left f zero links fit = fit
fit_left f (suc n) [] fit = All-nil AreFitOf
fit_left f (suc n) (l ∷ links) fit = fit_left f n links (All-rest AreFitOf (f l) (map f links) (f l ∷ map f links) refl fit)

pub fit_both : {A : Type 0} (f : A → Devices) (xs ys : List A) → All AreFitOf (map f xs) → All AreFitOf (map f ys)
    → All AreFitOf (map f (xs ++ ys))
fit_both f [] ys one other = other
fit_both f (x ∷ xs) ys one other =
    All-cons AreFitOf (f x) (map f (xs ++ ys)) (All-head AreFitOf (f x) (map f xs) one)
    (fit_both f xs ys (All-rest AreFitOf (f x) (map f xs) (f x ∷ map f xs) refl one) other)

pub as_many : {A B : Type 0} (f : A → Devices) (g : B → Devices) (xs : List A) (ys : List B)
    → AllZip SameSettings (map f xs) (map g ys) → length ys ≡ length xs
as_many f g xs ys same = sym (length-map ys g) ∙ AllZip-long SameSettings (map f xs) (map g ys) same ∙ length-map xs f

-- ---- outcomes

too_much : (image : ImageValue) (packet : List ℕ) (run : Run) → RunsAlone image packet run → most_trace < length run.trace
    → TracesMoreThan most_trace image packet
too_much image packet run alone more =
    let end = ends_in image packet run alone in
    record {
      state = end.0;
      way = record { count = run.steps; leads = end.1.leads };
      more = subst (λ r. most_trace < length r.trace) end.1.gives more;
    }

is_outcome : (image : ImageValue) (packet : List ℕ) (run : Run) (e : Entry) → RunsAlone image packet run → IsEntryOf run e
    → IsOutcome image packet (outcome_of e)
is_outcome image packet run (entry.Done done) alone comes =
    (subst (RunsAlone image packet) (sym comes.0) alone, subst (λ r. length r.trace ≤ most_trace) (sym comes.0) comes.1)
is_outcome image packet run (entry.Lost (cause.Link fault)) alone comes = too_much image packet run alone comes.1
is_outcome image packet run (entry.Lost cause.Stopped) alone comes = absurd comes

abbrev pub AreOutcomesOf : ImageValue → List (List ℕ) → List Entry → Type 0
AreOutcomesOf image packets entries = AllZip (IsOutcome image) packets (map outcome_of entries)

outcomes_of : (image : ImageValue) (packets : List (List ℕ)) (entries : List Entry) → length entries ≡ length packets
    → ((i : ℕ) (packet : List ℕ) → slice_get packets i ≡ Some packet
    → (e : Entry) × (slice_get entries i ≡ Some e) × IsOutcome image packet (outcome_of e)) → AreOutcomesOf image packets entries
outcomes_of image [] [] long each = tt
outcomes_of image [] (e ∷ entries) long each = absurd (omega (arith, long))
outcomes_of image (p ∷ packets) [] long each = absurd (omega (arith, long))
outcomes_of image (p ∷ packets) (e ∷ entries) long each =
    let first = each 0 p refl in (
      subst (λ x. IsOutcome image p (outcome_of x)) (sym (same_Some e first.0 first.1)) first.2,
      outcomes_of image packets entries (omega (arith, long)) (λ i packet at. each (suc i) packet at),
    )

pub outcomes : (batch : JobValue) (budget : ℕ) (entries : List Entry) → length entries ≡ length batch.packets
    → LosesLongTracesAlone batch budget entries → AreOutcomesOf batch.image batch.packets entries
outcomes batch budget entries long complete =
    outcomes_of batch.image batch.packets entries long λ i packet at.
    let c = complete i packet at in
    (c.entry, c.there, is_outcome batch.image packet c.ends.run c.entry c.ends.alone c.comes)

-- ---- what a session keeps

abbrev Packet : Type 0
Packet = ArrayVec ℕ 256 (Unit {0})

pub kept_whole : (kept : OpenSession) (packets : List Packet) → packets ≡ kept.packets.items
    → list_all (is_whole kept.image.image) (map (λ p. p.items) packets) ≡ true
kept_whole kept packets e =
    ap (λ ps. list_all (is_whole kept.image.image) (map (λ p. p.items) ps)) e
    ∙ list_all-map (is_whole kept.image.image) (λ p. p.items) kept.packets.items ∙ kept.whole

pub kept_few : (kept : OpenSession) (packets : List Packet) → packets ≡ kept.packets.items → length (map (λ p. p.items) packets) ≤ 1024
kept_few kept packets e = omega (arith, length-map packets (λ p. p.items), ap length e, kept.packets.ok.0, kept.few)

pub of_kept : (kept : OpenSession) (packets : List Packet) (entries : List Entry) (s : Session) → packets ≡ kept.packets.items
    → s ≡ session_of s.name kept → AreOutcomesOf kept.image.image (map (λ p. p.items) packets) entries
    → AllZip (IsOutcome s.image) s.packets (map outcome_of entries)
of_kept kept packets entries s e is outcomes =
    let kept_ones = subst (λ ps. AreOutcomesOf kept.image.image (map (λ p. p.items) ps) entries) e outcomes in
    subst (λ t. AllZip (IsOutcome t.image) t.packets (map outcome_of entries)) (sym is) kept_ones
