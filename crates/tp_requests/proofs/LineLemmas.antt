-- The lines of the protocol are those that are read.
use Rattle.std.proofs.Common.{◌≡◌, ℕ, drop, take, length, Bool, true, false, ◌&&◌, if◌then◌else◌, List, ◌∷◌, ◌++◌}
use Rattle.std.proofs.Common.{codes, Option, Some, None, Result, Ok, Err, IfOk, refl, ap, sym, ◌∙◌, subst, append_assoc}
use Rattle.std.specs.Option.{option_map}
use Rattle.std.specs.Cmp.Lexicographic.{bytes_decides}
use Rattle.std.proofs.lemmas.Bool.{both_ways, false_from_ne_true, and_parts}
use Rattle.std.proofs.lemmas.Option.{same_Some}
use Rattle.std.proofs.lemmas.Result.{IfOk-weaker}
use Rattle.std.proofs.lemmas.List.{take-append-drop}
use Rattle.hex.specs.Hex.{encode_lower}
use Rattle.tp_requests.specs.Fields.{is_text, hex_bytes}
use Rattle.tp_requests.specs.Requests.{Asked, ToList, ToOpen, ToKeep, ToRun, ToRunAll, ToDrop}
use Rattle.tp_requests.specs.Parts.{IsWithout}
use Rattle.tp_requests.specs.Reading.{space, is_name, begins, of_name, of_parts}
use Rattle.tp_requests.specs.Protocol.{IsName, AreDigitsFor, IsLineFor, AsksFor, MayBeAsked, line_for}
use Rattle.tp_requests.proofs.Parting.{never_without, same_parts}
use Rattle.tp_requests.proofs.ProtocolLemmas.{name_passes, passed_is_name, name_without_space, digits_read, read_are_digits, lower_are_digits, spelled_by_digits}

-- ---- each line of the protocol is read

-- the parts of a line that asks for this
record HasParts (line : List ℕ) (request : Asked) : Type 0 where
  first : List ℕ
  words : List ℕ
  before : IsWithout space first
  is : line ≡ first ++ space ∷ words
  read : of_parts first words ≡ Some request

-- a name is no text that is none
not_text : (name text : List ℕ) → is_name name ≡ true → is_name text ≡ false → is_text name text ≡ false
not_text name text is other =
    false_from_ne_true (is_text name text) (λ e. both_ways (is_name text) other (ap is_name (sym ((bytes_decides name text).0 e)) ∙ is))

named : (name words : List ℕ) → is_name name ≡ true → of_parts name words ≡ of_name name words
named name words is = rw (not_text name (codes "LIST") is refl, not_text name (codes "RUN") is refl, is) refl

has_parts : (line : List ℕ) (request : Asked) → IsLineFor line request → HasParts line request
has_parts line (ToList code) (digits, are, is) =
    record { first = codes "LIST"; words = digits; before = (refl, (refl, (refl, (refl, tt)))); is = is; read = ap (option_map ToList) (digits_read digits code are) }
has_parts line (ToOpen name text) (digits, is_named, are, is) =
    record {
      first = name;
      words = codes "IMAGE " ++ digits;
      before = name_without_space name is_named;
      is = is ∙ append_assoc name (codes " IMAGE ") digits;
      read = named name (codes "IMAGE " ++ digits) (name_passes name is_named) ∙ ap (option_map (ToOpen name)) (digits_read digits text are);
    }
has_parts line (ToKeep name bytes) (digits, is_named, are, is) =
    record {
      first = name;
      words = codes "PACKET " ++ digits;
      before = name_without_space name is_named;
      is = is ∙ append_assoc name (codes " PACKET ") digits;
      read = named name (codes "PACKET " ++ digits) (name_passes name is_named) ∙ ap (option_map (ToKeep name)) (digits_read digits bytes are);
    }
has_parts line (ToRun name) (is_named, is) =
    record { first = name; words = codes "RUN"; before = name_without_space name is_named; is = is; read = named name (codes "RUN") (name_passes name is_named) }
has_parts line ToRunAll is =
    record { first = codes "RUN"; words = codes "*"; before = (refl, (refl, (refl, tt))); is = is; read = refl }
has_parts line (ToDrop name) (is_named, is) =
    record { first = name; words = codes "DROP"; before = name_without_space name is_named; is = is; read = named name (codes "DROP") (name_passes name is_named) }

-- so by whatever parts
read_by : (first words : List ℕ) (request : Asked) → IsWithout space first → IsLineFor (first ++ space ∷ words) request
    → of_parts first words ≡ Some request
read_by first words request before is =
    let it = has_parts (first ++ space ∷ words) request is in
    let same = same_parts space first words it.first it.words before it.before it.is in
    ap (λ l. of_parts l words) same.0 ∙ ap (of_parts it.first) same.1 ∙ it.read

pub one_request : (line : List ℕ) (a b : Asked) → IsLineFor line a → IsLineFor line b → a ≡ b
one_request line a b is is' =
    let it = has_parts line a is in
    same_Some a b (sym it.read ∙ read_by it.first it.words b it.before (subst (λ l. IsLineFor l b) it.is is'))

-- ---- what is read is a line of the protocol

-- which way a test went
by_if : {x y : Option Asked} {request : Asked} {P : Type 0} (t : Bool) → (t ≡ true → x ≡ Some request → P) → (y ≡ Some request → P)
    → (if t then x else y) ≡ Some request → P
by_if true so other is = so refl is
by_if false so other is = other is

same_text : (field text : List ℕ) → is_text field text ≡ true → field ≡ text
same_text field text is = (bytes_decides field text).0 is

-- digits that are read
by_digits : (make : List ℕ → Asked) (digits : List ℕ) (request : Asked) (P : Asked → Type 0)
    → ((bytes : List ℕ) → AreDigitsFor digits bytes → P (make bytes)) → option_map make (hex_bytes digits) ≡ Some request → P request
by_digits make digits request P is asks = by_bytes (hex_bytes digits) refl asks
  where
    by_bytes : (o : Option (List ℕ)) → hex_bytes digits ≡ o → option_map make o ≡ Some request → P request
    by_bytes None read asks = cc
    by_bytes (Some bytes) read asks = subst P (same_Some (make bytes) request asks) (is bytes (read_are_digits digits bytes read))

-- words that begin with a text
begun : (words text : List ℕ) → begins words text ≡ true → words ≡ text ++ drop (length text) words
begun words text is =
    sym (take-append-drop (length text) words)
    ∙ ap (λ l. l ++ drop (length text) words) (same_text (take (length text) words) text is)

module _ (name words : List ℕ) (request : Asked) (is : IsName name) where
  abbrev Named : Asked → Type 0
  Named r = IsLineFor (name ++ space ∷ words) r

  line_of_name : of_name name words ≡ Some request → Named request
  line_of_name =
      by_if (begins words (codes "PACKET ")) (λ t. by_digits (ToKeep name) (drop 7 words) request Named (λ bytes are.
      (drop 7 words, is, are, ap (λ l. name ++ space ∷ l) (begun words (codes "PACKET ") t) ∙ sym (append_assoc name (codes " PACKET ") (drop 7 words)))))
      (by_if (begins words (codes "IMAGE ")) (λ t. by_digits (ToOpen name) (drop 6 words) request Named (λ text are.
      (drop 6 words, is, are, ap (λ l. name ++ space ∷ l) (begun words (codes "IMAGE ") t) ∙ sym (append_assoc name (codes " IMAGE ") (drop 6 words)))))
      (by_if (is_text words (codes "RUN")) (λ t asks. subst Named (same_Some (ToRun name) request asks) (is, ap (λ l. name ++ space ∷ l) (same_text words (codes "RUN") t)))
      (by_if (is_text words (codes "DROP")) (λ t asks. subst Named (same_Some (ToDrop name) request asks) (is, ap (λ l. name ++ space ∷ l) (same_text words (codes "DROP") t)))
      (λ none. cc))))

line_of_parts : (first words : List ℕ) (request : Asked) → of_parts first words ≡ Some request → IsLineFor (first ++ space ∷ words) request
line_of_parts first words request =
    by_if (is_text first (codes "LIST")) (λ t. by_digits ToList words request (IsLineFor (first ++ space ∷ words)) (λ code are.
    (words, are, ap (λ l. l ++ space ∷ words) (same_text first (codes "LIST") t))))
    (by_if (is_text first (codes "RUN") && is_text words (codes "*")) (λ t asks.
    let both = and_parts (is_text first (codes "RUN")) (is_text words (codes "*")) t in
    subst (IsLineFor (first ++ space ∷ words)) (same_Some ToRunAll request asks)
    (ap (λ l. l ++ space ∷ words) (same_text first (codes "RUN") both.0) ∙ ap (λ l. codes "RUN " ++ l) (same_text words (codes "*") both.1)))
    (by_if (is_name first) (λ t. line_of_name first words request (passed_is_name first t)) (λ none. cc)))

-- ---- a request that is known by what it stands for

asks_for : (first words : List ℕ) → IsWithout space first → (o : Option Asked) → o ≡ of_parts first words → AsksFor (first ++ space ∷ words) o
asks_for first words before (Some request) is = line_of_parts first words request (sym is)
asks_for first words before None is = λ request line_is. cc (is ∙ read_by first words request before line_is)

pub known : {R E : Type 0} (value : R → Option Asked) (line first words : List ℕ) → IsWithout space first × (line ≡ first ++ space ∷ words)
    → (r : Result R E) → IfOk r (λ x. value x ≡ of_parts first words) → IfOk r (λ x. AsksFor line (value x))
known value line first words parts (Ok x) is = subst (λ l. AsksFor l (value x)) (sym parts.1) (asks_for first words parts.0 (value x) is)
known value line first words parts (Err f) is = tt

-- by a name that was read
pub known_name : {N R E : Type 0} (items : N → List ℕ) (value : R → Option Asked) (first words : List ℕ) (o : Option N) (name : N)
    → option_map items o ≡ (if is_name first then Some first else None) → o ≡ Some name → (r : Result R E)
    → IfOk r (λ x. value x ≡ of_name (items name) words) → IfOk r (λ x. value x ≡ of_parts first words)
known_name {N} items value first words o name is read r asks =
    by_test (is_name first) refl (sym (ap (option_map items) read) ∙ is)
  where
    by_test : (t : Bool) → is_name first ≡ t → Some (items name) ≡ (if t then Some first else None) → IfOk r (λ x. value x ≡ of_parts first words)
    by_test false e same = cc
    by_test true e same =
        IfOk-weaker r _ _ (λ x asked_so. asked_so ∙ ap (λ n. of_name n words) (same_Some (items name) first same) ∙ sym (named first words e)) asks

-- a line without a space
pub asks_for_none : (line : List ℕ) → IsWithout space line → AsksFor line None
asks_for_none line none = λ request is.
    let it = has_parts line request is in
    never_without space it.first it.words (subst (IsWithout space) it.is none)

-- ---- the line with digits in lower case

pub is_line : (request : Asked) → MayBeAsked request → IsLineFor (line_for request) request
is_line (ToList code) may = (encode_lower code, lower_are_digits code may, refl)
is_line (ToOpen name text) may = (encode_lower text, may.0, lower_are_digits text may.1, refl)
is_line (ToKeep name bytes) may = (encode_lower bytes, may.0, lower_are_digits bytes may.1, refl)
is_line (ToRun name) may = (may, refl)
is_line ToRunAll may = refl
is_line (ToDrop name) may = (may, refl)

-- ---- what has a line may be asked for

pub has_line : (line : List ℕ) (request : Asked) → IsLineFor line request → MayBeAsked request
has_line line (ToList code) is = spelled_by_digits is.0 code is.1
has_line line (ToOpen name text) is = (is.1, spelled_by_digits is.0 text is.2)
has_line line (ToKeep name bytes) is = (is.1, spelled_by_digits is.0 bytes is.2)
has_line line (ToRun name) is = is.0
has_line line ToRunAll is = tt
has_line line (ToDrop name) is = is.0
