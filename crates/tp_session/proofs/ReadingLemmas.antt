-- What reading has told.
use Rattle.std.proofs.Common.{◌≡◌, ◌≢◌, ℕ, zero, suc, ◌+◌, ◌-◌, ◌<◌, ◌≤◌, min, nat_lt, nat_eq, Bool, true, false, ◌||◌, List, [], ◌∷◌}
use Rattle.std.proofs.Common.{◌++◌, length, take, drop, Option, None, refl, ap, sym, subst, ◌∙◌}
use Rattle.std.proofs.Common.{arith, append_assoc, length-append}
use Rattle.std.specs.Io.KnownBytes.{Appends}
use Rattle.std.proofs.KnownBytes.{Appends-nil, Appends-trans}
use Rattle.std.proofs.lemmas.Bool.Decides.{nat_tests}
use Rattle.std.proofs.lemmas.List.{append-nil, take-append-drop, length-take}
use Rattle.std.proofs.Math.Seq.{take-append_seam}
use Rattle.tp_link.specs.Device.{DeviceState}
use Rattle.tp_requests.specs.Lines.{Line, line_feed, lines_of, ended_lines, without_return, said_in}
use Rattle.tp_requests.specs.Protocol.{AsksFor}
use Rattle.tp_answers.specs.declared.answer.Answer.{Answer}
use Rattle.tp_answers.specs.declared.answer.Answer.TheVariants.{Refused}
use Rattle.tp_answers.specs.declared.answer.LineFault.TheVariants.{E1}
use Rattle.tp_answers.specs.Sessions.{Session}
use Rattle.tp_answers.specs.Texts.{answer_text}
use Rattle.tp_session.specs.declared.fault.ServeFault.{ServeFault}
use Rattle.tp_session.specs.declared.fault.ServeFault.TheVariants.{Read, Write, Memory, Thread}
use Rattle.tp_session.specs.declared.partial_line.PartialLine.{PartialLine}
use Rattle.tp_session.specs.declared.service.Service.{Service}
use Rattle.tp_session.specs.Protocol.{most_line, next_number}
use Rattle.tp_session.specs.Served.{AreAnswered, AreWritten, AreWrittenBefore}
use Rattle.tp_session.specs.Services.{StaysOn, IsResourceFault, AnswersText, AnswersLine, IsSentInPart}
use Rattle.tp_session.specs.Points.{Point, number_after, IsPlain, Keeps, IsAt, Fails, GoesOn}
use Rattle.tp_session.proofs.KnownBytes.{appends_same, appends_front}
use Rattle.tp_session.proofs.LineLemmas.{take_all}
use Rattle.tp_session.proofs.PointLemmas.{answers_more, number_more, with_bytes, reached_more, line_now, lines_now, text_now, with_line}
use Rattle.tp_session.proofs.PointLemmas.{reached_line, told_ended, told_whole, lines_rest}

-- ---- a line that is kept whole, or in part

pub or_true : (a b : Bool) → b ≡ true → true ≡ (a || b)
or_true true b e = refl
or_true false b e = sym e

pub or_false : (a b : Bool) → b ≡ false → a ≡ (a || b)
or_false true b e = refl
or_false false b e = sym e

take_fewer : (xs : List ℕ) (kept most : ℕ) → kept ≡ min (length xs) most → take kept xs ≡ take most xs
take_fewer [] kept most is = take_all kept [] (omega arith) ∙ sym (take_all most [] (omega arith))
take_fewer (x ∷ xs) zero zero is = refl
take_fewer (x ∷ xs) zero (suc most) is = absurd (omega (arith, is))
take_fewer (x ∷ xs) (suc kept) zero is = absurd (omega (arith, is))
take_fewer (x ∷ xs) (suc kept) (suc most) is = ap (λ l. x ∷ l) (take_fewer xs kept most (omega (arith, is)))

kept_line : (most : ℕ) (line bytes : List ℕ) (kept : ℕ) → kept ≡ min (length bytes) (most - length line)
    → take most line ++ take kept bytes ≡ take most (line ++ bytes)
kept_line zero line bytes zero is = refl
kept_line zero line bytes (suc kept) is = absurd (omega (arith, is))
kept_line (suc most) [] bytes kept is = take_fewer bytes kept (suc most) (omega (arith, is))
kept_line (suc most) (b ∷ line) bytes kept is = ap (λ l. b ∷ l) (kept_line most line bytes kept (omega (arith, is)))

kept_long : (most line bytes kept : ℕ) → kept ≡ min bytes (most - line)
    → (nat_lt most line || nat_lt kept bytes) ≡ nat_lt most (line + bytes)
kept_long most line bytes kept is = grind (arith, nat_tests, is)

pub kept_whole : (p : PartialLine) (number : ℕ) (line : List ℕ) → Keeps p number line → p.long ≡ false
    → (p.line.items ≡ line) × (nat_lt most_line (length line) ≡ false)
kept_whole p number line keeps short =
    let test : nat_lt most_line (length line) ≡ false = sym keeps.long_is ∙ short in
    (keeps.line_is ∙ take_all most_line line (grind (arith, nat_tests)), test)

pub said_whole : (line : List ℕ) (ended : Bool) → ended ≡ true
    → without_return line ≡ said_in record { bytes = line; ended = ended }
said_whole line ended e = rw e refl

pub said_rest : (line : List ℕ) (ended : Bool) → ended ≡ false → line ≡ said_in record { bytes = line; ended = ended }
said_rest line ended e = rw e refl

pub answered_now : (line says : List ℕ) (ended : Bool) (before : List Session) (answer : Answer)
    (after : List Session) → nat_lt most_line (length line) ≡ false → says ≡ said_in record { bytes = line; ended = ended }
    → AnswersText says before answer after → AnswersLine record { bytes = line; ended = ended } before answer after
answered_now line says ended before answer after short is (asked, asks, request) = record {
  asked = asked;
  asks = rw short (subst (λ l. AsksFor l asked) is asks);
  answer_is = request.0;
  after_is = request.1;
}

pub refused_long : (p : PartialLine) (number : ℕ) (line : List ℕ) (ended : Bool) (sessions : List Session) → Keeps p number line
    → p.long ≡ true → AnswersLine record { bytes = line; ended = ended } sessions (Refused E1) sessions
refused_long p number line ended sessions keeps long =
    let test : nat_lt most_line (length line) ≡ true = sym keeps.long_is ∙ long in
    record { asked = None; asks = rw test refl; answer_is = refl; after_is = refl }

-- more of a line, of which so much is kept as there is room for
pub keeps_more : (p q : PartialLine) (number : ℕ) (line bytes : List ℕ) (kept : ℕ) → Keeps p number line
    → kept ≡ min (length bytes) (most_line - length p.line.items) → q.number ≡ p.number
    → q.line.items ≡ p.line.items ++ take kept bytes
    → q.long ≡ (p.long || nat_lt kept (length bytes)) → Keeps q number (line ++ bytes)
keeps_more p q number line bytes kept keeps many number_is line_is long_is =
    let had : length p.line.items ≡ min most_line (length line) = ap length keeps.line_is ∙ length-take most_line line in
    record {
      number_is = number_is ∙ keeps.number_is;
      line_is =
          line_is ∙ ap (λ l. l ++ take kept bytes) keeps.line_is ∙ kept_line most_line line bytes kept (omega (arith, had, many));
      long_is =
          long_is ∙ ap (λ b. b || nat_lt kept (length bytes)) keeps.long_is
          ∙ kept_long most_line (length line) (length bytes) kept (omega (arith, had, many))
          ∙ ap (nat_lt most_line) (sym (length-append line bytes));
    }

pub nothing_left : (line kept : List ℕ) (n : ℕ) → kept ≡ take most_line line → n ≡ length kept → true ≡ nat_eq n 0 → line ≡ []
nothing_left [] kept n is long none = refl
nothing_left (b ∷ line) kept n is long none =
    let nothing : n ≡ 0 = grind (arith, nat_tests, none) in
    absurd (omega (arith, nothing, long, ap length is, length-take most_line (b ∷ line)))

pub something_left : (line kept : List ℕ) (n : ℕ) → kept ≡ take most_line line → n ≡ length kept → false ≡ nat_eq n 0
    → 0 < length line
something_left line kept n is long some =
    let other : n ≢ 0 = grind (arith, nat_tests, some) in
    omega (arith, other, long, ap length is, length-take most_line line)

-- a text that is this one
pub sent_as : (old new : Option (List ℕ)) (xs ys : List ℕ) (e : ServeFault) → xs ≡ ys → IsSentInPart old new xs e → IsSentInPart old new ys e
sent_as old new xs ys e same sent = subst (λ text. IsSentInPart old new text e) same sent

-- ---- from one stand to the next

module _ {D : Type 0} (state : D → DeviceState) (trace : Bool) (begun now : Option (List ℕ)) (p : PartialLine) (service : Service D)
    (s : Point) (at : IsAt state trace begun p service now s) where
  -- the answer to the line that is being read, and its text
  pub answer_at : (ended : Bool) (answer : Answer) (after : List Session) → AnswersLine (line_now s ended) service.sessions answer after
      → AnswersLine (line_now s ended) s.sessions answer after
  answer_at ended answer after is = subst (λ sessions. AnswersLine (line_now s ended) sessions answer after) at.sessions is

  pub text_at : (output : Bool) (answer : Answer) → output ≡ service.trace → answer_text output p.number answer ≡ text_now trace s answer
  text_at output answer same =
      ap (λ t. answer_text t p.number answer) (same ∙ at.trace_is) ∙ ap (λ n. answer_text trace n answer) at.keeps.number_is

  -- what was told is written, and the answer to the line that is being read is told
  written : (now' : Option (List ℕ)) → Appends now now' [] → AreWritten trace (ended_lines s.taken) begun now'
  written now' nothing =
      record {
        output = s.output;
        is = told_ended trace s at.reached;
        wrote = appends_same _ _ _ _ (append-nil s.output) (Appends-trans begun now now' s.output [] at.wrote nothing);
      }

  told_now : (ended : Bool) (answer : Answer) (after : List Session) → AnswersLine (line_now s ended) s.sessions answer after
      → AreAnswered trace (lines_now s ended) (s.output ++ text_now trace s answer)
  told_now ended answer after is =
      (after, answers_more trace 1 [] s.lines s.output s.sessions (line_now s ended) answer after at.reached.answered is)

  -- ---- within the last of the bytes that were taken of an input

  module _ (input taken rest : List ℕ) (last : ℕ) (split : taken ≡ s.taken ++ rest) (short : length rest ≤ last) where
    before : (now' : Option (List ℕ)) → Appends now now' [] → AreWrittenBefore trace taken last begun now'
    before now' nothing =
        record { before = s.taken; rest = rest; split = split; short = short; answers = written now' nothing }

    -- what was wanted was refused before anything was written
    pub fails_wanting : (e : ServeFault) → IsResourceFault e → Fails trace input taken last begun now e
    fails_wanting Memory want = before now (Appends-nil now)
    fails_wanting Thread want = before now (Appends-nil now)
    fails_wanting Read want = absurd want
    fails_wanting Write want = absurd want

    -- the answer was not written whole
    pub fails_sending : (ended : Bool) (more : List Line) → lines_of input ≡ lines_now s ended ++ more → (answer : Answer) (after : List Session)
        → AnswersLine (line_now s ended) s.sessions answer after → (now' : Option (List ℕ)) (e : ServeFault)
        → IsSentInPart now now' (text_now trace s answer) e → Fails trace input taken last begun now' e
    fails_sending ended more lines answer after is now' Memory nothing = before now' nothing
    fails_sending ended more lines answer after is now' Thread sent = absurd sent
    fails_sending ended more lines answer after is now' Read sent = absurd sent
    fails_sending ended more lines answer after is now' Write (n, wrote) =
        let here = text_now trace s answer in
        let first : take (length (lines_now s ended)) (lines_of input) ≡ lines_now s ended =
        ap (take (length (lines_now s ended))) lines ∙ take-append_seam (lines_now s ended) more in
        let all : s.output ++ here ≡ (s.output ++ take n here) ++ drop n here =
        ap (λ l. s.output ++ l) (sym (take-append-drop n here)) ∙ sym (append_assoc s.output (take n here) (drop n here)) in
        let some =
        appends_front begun now' (s.output ++ take n here) (drop n here) (s.output ++ here) all
        (Appends-trans begun now now' s.output (take n here) at.wrote wrote) in (
          length (lines_now s ended),
          record {
            output = s.output ++ here;
            is = subst (λ l. AreAnswered trace l (s.output ++ here)) (sym first) (told_now ended answer after is);
            some = some.0;
            wrote = some.1;
          },
        )

  pub goes_line : (q : PartialLine) (service' : Service D) (now' : Option (List ℕ)) (answer : Answer)
      → AnswersLine (line_now s true) s.sessions answer service'.sessions
      → StaysOn state service service' → Appends now now' (text_now trace s answer) → q.number ≡ next_number p.number
      → q.line.items ≡ [] → q.long ≡ false → GoesOn state trace begun q service' now' (s.taken ++ line_feed ∷ [])
  goes_line q service' now' answer is stays wrote number_is line_is long_is = record {
    point = with_line trace s answer service'.sessions;
    taken_is = refl;
    is = record {
      reached = reached_line trace s answer service'.sessions at.reached is;
      keeps =
          record {
            number_is = number_is ∙ ap next_number at.keeps.number_is ∙ sym (number_more 1 s.lines (line_now s true));
            line_is = line_is;
            long_is = long_is;
          };
      sessions = refl;
      trace_is = stays.trace ∙ at.trace_is;
      fit = stays.fit at.fit;
      wrote = Appends-trans begun now now' s.output (text_now trace s answer) at.wrote wrote;
    };
  }

  pub goes_plain : (q : PartialLine) (bytes : List ℕ) → IsPlain bytes → Keeps q (number_after 1 s.lines) (s.line ++ bytes)
      → GoesOn state trace begun q service now (s.taken ++ bytes)
  goes_plain q bytes plain keeps = record {
    point = with_bytes s bytes;
    taken_is = refl;
    is =
        record {
          reached = reached_more trace s bytes at.reached plain;
          keeps = keeps;
          sessions = at.sessions;
          trace_is = at.trace_is;
          fit = at.fit;
          wrote = at.wrote;
        };
  }

  -- the end of the input
  pub written_whole : s.line ≡ [] → AreWritten trace (lines_of s.taken) begun now
  written_whole none = record { output = s.output; is = told_whole trace s at.reached none; wrote = at.wrote }

  pub written_last : 0 < length s.line → (answer : Answer) (after : List Session) → AnswersLine (line_now s false) s.sessions answer after
      → (now' : Option (List ℕ)) → Appends now now' (text_now trace s answer) → AreWritten trace (lines_of s.taken) begun now'
  written_last some answer after is now' wrote = record {
    output = s.output ++ text_now trace s answer;
    is = subst (λ l. AreAnswered trace l (s.output ++ text_now trace s answer)) (sym (lines_rest trace s at.reached some)) (told_now false answer after is);
    wrote = Appends-trans begun now now' s.output (text_now trace s answer) at.wrote wrote;
  }

-- ---- some bytes

pub goes_same : {D : Type 0} (state : D → DeviceState) (trace : Bool) (begun now : Option (List ℕ)) (p : PartialLine)
    (service : Service D) (xs ys : List ℕ) → xs ≡ ys → GoesOn state trace begun p service now xs
    → GoesOn state trace begun p service now ys
goes_same state trace begun now p service xs ys e goes = record { point = goes.point; taken_is = goes.taken_is ∙ e; is = goes.is }

-- where more bytes were taken
before_more : (trace : Bool) (taken rest all : List ℕ) (m last : ℕ) (begun now : Option (List ℕ)) → all ≡ taken ++ rest → m + length rest ≤ last
    → AreWrittenBefore trace taken m begun now → AreWrittenBefore trace all last begun now
before_more trace taken rest all m last begun now split short it = record {
  before = it.before;
  rest = it.rest ++ rest;
  split = split ∙ ap (λ l. l ++ rest) it.split ∙ append_assoc it.before it.rest rest;
  short = omega (arith, short, it.short, length-append it.rest rest);
  answers = it.answers;
}

pub fails_more : (trace : Bool) (input taken rest all : List ℕ) (m last : ℕ) (begun now : Option (List ℕ)) (e : ServeFault) → all ≡ taken ++ rest
    → m + length rest ≤ last → Fails trace input taken m begun now e → Fails trace input all last begun now e
fails_more trace input taken rest all m last begun now Memory split short it = before_more trace taken rest all m last begun now split short it
fails_more trace input taken rest all m last begun now Thread split short it = before_more trace taken rest all m last begun now split short it
fails_more trace input taken rest all m last begun now Write split short it = it
fails_more trace input taken rest all m last begun now Read split short it = it
