-- What the bytes of a header say of the whole.
use Rattle.std.proofs.Common.{◌≡◌, ℕ, ◌<◌, ◌≤◌, Bool, true, false, cond, ltb, leb, List, [], ◌∷◌, ◌++◌, length, get_or, drop, Option, None, Some, refl, sym, ap, ◌∙◌, inl, inr, arith}
use Rattle.std.proofs.lemmas.Bool.{le-ltb, lt-leb, ltb-false, leb-false, cond-true, cond-false, cases_Bool, or_parts, or_from}
use Rattle.std.proofs.lemmas.Bool.Decides.{Decides-eqb}
use Rattle.std.proofs.lemmas.Slice.Eq.{starts_is}
use Rattle.std.specs.Prelude.{nat_eq}
use Rattle.std.specs.List.{starts_with, AllByRecursion}
use Rattle.tp_image.specs.declared.fault.ImageCode.TheVariants.{F2, F9}
use Rattle.tp_image.specs.declared.fault.ImageFault.{ImageFault}
use Rattle.tp_image.specs.declared.fault.ImageFault.TheVariants.{Refused}
use Rattle.tp_image.specs.declared.header.Header.{Header}
use Rattle.tp_image.specs.declared.image.Version.{Version}
use Rattle.tp_image.specs.declared.image.Version.TheVariants.{One, Two}
use Rattle.tp_image.specs.Limits.{most_code, least_workspace, most_workspace, least_start, most_message, most_loops}
use Rattle.tp_image.specs.Image.{most_initial, IsWithin}
use Rattle.tp_image.specs.Text.{magic}
use Rattle.tp_image.specs.Faults.{version_of, header_at, image_bytes, is_outside, Test, test, field_tests, first_refusal, field_fault, header_fault, fault_of, first_fault}
use Rattle.tp_image.specs.Layout.{header_bytes}

-- past the first two tests the header decides
pub first_fault-whole : (bytes : List ℕ) (v : Version) → version_of bytes ≡ Some v → header_bytes v ≤ length bytes → first_fault bytes ≡ header_fault (header_at v bytes) (length bytes)
unfolding first_fault
first_fault-whole bytes v is long =
    ap (λ (o : Option Version). fault_of o bytes) is
    ∙ cond-false _ _ _ (le-ltb (length bytes) (header_bytes v) long)

-- ---- the tests

-- the header's fields are in range
pub record HasRanges (h : Header) : Type 0 where
  pub code : IsWithin 1 (most_code h.version) h.code
  pub workspace : IsWithin least_workspace (most_workspace h.version) h.workspace
  pub start_least : least_start ≤ h.start
  pub start_most : h.start < h.workspace
  pub packet : IsWithin 1 most_message h.packet
  pub result : IsWithin 1 most_message h.result
  pub loops : h.loops ≤ most_loops
  pub initial : h.initial ≤ most_initial h.version h.workspace

-- no refusal comes where no test fails
none_fails : (ts : List Test) → first_refusal ts ≡ None → AllByRecursion (λ t. t.fails ≡ false) ts
none_fails [] e = tt
none_fails (t ∷ ts) e =
    elim (cases_Bool t.fails) [
      | inl fails ↦ absurd (let refused : first_refusal (t ∷ ts) ≡ Some (Refused t.code t.place) = cond-true _ _ _ fails in cc)
      | inr passes ↦ (passes, none_fails ts (sym (cond-false _ _ _ passes) ∙ e))
    ]

no_refusal : (ts : List Test) → AllByRecursion (λ t. t.fails ≡ false) ts → first_refusal ts ≡ None
no_refusal [] passes = refl
no_refusal (t ∷ ts) passes = cond-false _ _ _ passes.0 ∙ no_refusal ts passes.1

is_within : (least most n : ℕ) → is_outside least most n ≡ false → IsWithin least most n
is_within least most n e =
    let p = or_parts (ltb n least) (ltb most n) e in
    (ltb-false n least p.0, ltb-false most n p.1)

not_outside : (least most n : ℕ) → IsWithin least most n → is_outside least most n ≡ false
not_outside least most n p = or_from (ltb n least) (ltb most n) (le-ltb n least p.0) (le-ltb most n p.1)

pub ranges_hold : (h : Header) → field_fault h ≡ None → HasRanges h
ranges_hold h e =
    let p = none_fails (field_tests h) e in
    let start = or_parts (ltb h.start least_start) (leb h.workspace h.start) p.1.1.0 in
    record {
      code = is_within _ _ _ p.0;
      workspace = is_within _ _ _ p.1.0;
      start_least = ltb-false _ _ start.0;
      start_most = leb-false _ _ start.1;
      packet = is_within _ _ _ p.1.1.1.0;
      result = is_within _ _ _ p.1.1.1.1.0;
      loops = ltb-false most_loops h.loops p.1.1.1.1.1.0;
      initial = ltb-false (most_initial h.version h.workspace) h.initial p.1.1.1.1.1.1.0;
    }

pub no_field_fault : (h : Header) → HasRanges h → field_fault h ≡ None
no_field_fault h p =
    no_refusal (field_tests h) (
      not_outside _ _ _ p.code,
      (
        not_outside _ _ _ p.workspace,
        (
          or_from _ _ (le-ltb _ _ p.start_least) (lt-leb _ _ p.start_most),
          (not_outside _ _ _ p.packet, (not_outside _ _ _ p.result, (le-ltb _ _ p.loops, (le-ltb _ _ p.initial, tt)))),
        ),
      ),
    )

-- the tests on the fields come first
refusal_first : (ts us : List Test) (fault : ImageFault) → first_refusal ts ≡ Some fault → first_refusal (ts ++ us) ≡ Some fault
refusal_first [] us fault e = absurd cc
refusal_first (t ∷ ts) us fault e =
    elim (cases_Bool t.fails) [
      | inl fails ↦ cond-true _ _ _ fails ∙ sym (cond-true _ _ _ fails) ∙ e
      | inr passes ↦ cond-false _ _ _ passes ∙ refusal_first ts us fault (sym (cond-false _ _ _ passes) ∙ e)
    ]

refusal_later : (ts us : List Test) → first_refusal ts ≡ None → first_refusal (ts ++ us) ≡ first_refusal us
refusal_later [] us e = refl
refusal_later (t ∷ ts) us e =
    let p = none_fails (t ∷ ts) e in
    cond-false _ _ _ p.0 ∙ refusal_later ts us (no_refusal ts p.1)

-- the tests on the size of an image of this many bytes
abbrev size_tests : Header → ℕ → List Test
size_tests h bytes = test (ltb bytes (image_bytes h)) F2 bytes ∷ test (ltb (image_bytes h) bytes) F9 (image_bytes h) ∷ []

pub fault_of_field : (h : Header) (bytes : ℕ) (fault : ImageFault) → field_fault h ≡ Some fault → header_fault h bytes ≡ Some fault
fault_of_field h bytes fault e = refusal_first (field_tests h) (size_tests h bytes) fault e

pub fault_of_size : (h : Header) (bytes : ℕ) → field_fault h ≡ None → header_fault h bytes ≡ first_refusal (size_tests h bytes)
fault_of_size h bytes e = refusal_later (field_tests h) (size_tests h bytes) e

-- a header passes each test where its fields are in range and its image has this many bytes
pub passes_fields : (h : Header) (bytes : ℕ) → header_fault h bytes ≡ None → field_fault h ≡ None
passes_fields h bytes e = by_case (field_fault h) refl
  where
    by_case : (o : Option ImageFault) → field_fault h ≡ o → field_fault h ≡ None
    by_case None is = is
    by_case (Some fault) is = absurd (let refused = fault_of_field h bytes fault is in cc)

pub passes_size : (h : Header) (bytes : ℕ) → header_fault h bytes ≡ None → bytes ≡ image_bytes h
passes_size h bytes e =
    let p = none_fails (size_tests h bytes) (sym (fault_of_size h bytes (passes_fields h bytes e)) ∙ e) in
    omega (arith, ltb-false bytes (image_bytes h) p.0, ltb-false (image_bytes h) bytes p.1.0)

pub no_header_fault : (h : Header) (bytes : ℕ) → HasRanges h → bytes ≡ image_bytes h → header_fault h bytes ≡ None
no_header_fault h bytes ranges size =
    fault_of_size h bytes (no_field_fault h ranges)
    ∙ no_refusal (size_tests h bytes) (le-ltb bytes (image_bytes h) (omega (arith, size)), (le-ltb (image_bytes h) bytes (omega (arith, size)), tt))

most_code_small : (v : Version) → most_code v ≤ 8192
most_code_small One = omega arith
most_code_small Two = omega arith

most_workspace_small : (v : Version) → most_workspace v ≤ 512
most_workspace_small One = omega arith
most_workspace_small Two = omega arith

most_initial_small : (v : Version) (workspace : ℕ) → most_initial v workspace ≤ workspace
most_initial_small One workspace = omega arith
most_initial_small Two workspace = omega arith

header_small : (v : Version) → header_bytes v ≤ 18
header_small One = omega arith
header_small Two = omega arith

-- no more bytes than 18 + 12 * 16 + 4 * 512 + 8192
pub image_small : (h : Header) → field_fault h ≡ None → image_bytes h ≤ 10450
image_small h e =
    let p = ranges_hold h e in
    omega (arith, p.code.1, p.workspace.1, p.loops, p.initial, most_code_small h.version, most_workspace_small h.version, most_initial_small h.version h.workspace, header_small h.version)

-- ---- the magic

abbrev pub AreBytes : List ℕ → Type 0
AreBytes bytes = (i : ℕ) → get_or bytes i 0 < 256

begins : (bytes : List ℕ) (v : Version) → starts_with nat_eq bytes (magic v) ≡ true → bytes ≡ magic v ++ drop (length (magic v)) bytes
begins bytes v e = (starts_is Decides-eqb bytes (magic v) true (sym e)).0 refl

one_test : (b c : Bool) → cond b (Some One) (cond c (Some Two) None) ≡ Some One → b ≡ true
one_test true c e = refl
one_test false true e = absurd cc
one_test false false e = absurd cc

two_test : (b c : Bool) → cond b (Some One) (cond c (Some Two) None) ≡ Some Two → c ≡ true
two_test true c e = absurd cc
two_test false true e = refl
two_test false false e = absurd cc

-- a version is spelled at the front
pub version_front : (bytes : List ℕ) (v : Version) → version_of bytes ≡ Some v → bytes ≡ magic v ++ drop 4 bytes
version_front bytes One e = begins bytes One (one_test _ _ e)
version_front bytes Two e = begins bytes Two (two_test (starts_with nat_eq bytes (magic One)) _ e)

pub version_of-magic : (v : Version) (rest : List ℕ) → version_of (magic v ++ rest) ≡ Some v
version_of-magic One rest = refl
version_of-magic Two rest = refl
