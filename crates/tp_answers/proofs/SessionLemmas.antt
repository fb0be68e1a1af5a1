-- Sessions by name, and the map that keeps them.
use Rattle.std.proofs.Common.{◌≡◌, ℕ, zero, suc, ◌+◌, ◌<◌, ◌≤◌, is_some, nat_eq, nat_le, not, Bool, true, false, cond}
use Rattle.std.proofs.Common.{if◌then◌else◌, List, [], ◌∷◌, ◌++◌, length, map, slice_get, slice_set, remove, position, vec_len}
use Rattle.std.proofs.Common.{Option, Some, None, refl, ap, sym, ◌∙◌, arith}
use Rattle.std.specs.Cmp.Lexicographic.{pointwise, same_text}
use Rattle.std.specs.List.{position_from}
use Rattle.std.specs.Map.{keys_of, values_of}
use Rattle.std.proofs.lemmas.Bool.Decides.{nat_tests}
use Rattle.std.proofs.lemmas.Iterator.Adapters.{position_from-zero}
use Rattle.std.proofs.lemmas.Option.{same_Some}
use Rattle.std.proofs.lemmas.List.{map-append, length-map}
use Rattle.indexmap.specs.Layout.{set_value_at}
use Rattle.indexmap.specs.IndexMap.{insert_entry}
use Rattle.arrayvec.specs.declared.array_vec.ArrayVec.{ArrayVec}
use Rattle.tp_image.specs.Image.{ImageValue}
use Rattle.tp_accept.specs.declared.accepted.Accepted.{Accepted}
use Rattle.tp_answers.specs.declared.session.OpenSession.{OpenSession}
use Rattle.tp_answers.specs.Sessions.{most_sessions, Session, is_of, session_named, is_full, with_session, with_changed, without_session}
use Rattle.tp_answers.specs.Sessions.{with_packet, without_packets}
use Rattle.tp_answers.specs.OpenSessions.{session_of, with_kept}

-- ---- the first session of a name

-- the session of a name stands at this place
pub record IsPlaced (name : List ℕ) (sessions : List Session) (i : ℕ) : Type 0 where
  pub session : Session
  pub there : slice_get sessions i ≡ Some session
  pub is_named : session_named name sessions ≡ Some session
  pub replaced : (kept : OpenSession) → with_kept sessions i kept ≡ with_session (session_of name kept) sessions
  pub changed : (change : Session → Session) → slice_set sessions i (change session) ≡ with_changed change name sessions
  pub removed : remove sessions i ≡ without_session name sessions

placed_from : (name : List ℕ) (sessions : List Session) (n i : ℕ) → position_from (is_of name) n sessions ≡ Some i
    → (j : ℕ) × (i ≡ n + j) × IsPlaced name sessions j
placed_from name [] n i found = cc
placed_from name (s ∷ sessions) n i found = by_test (is_of name s) refl found (placed_from name sessions (n + 1) i)
  where
    by_test : (t : Bool) → is_of name s ≡ t → cond t (Some n) (position_from (is_of name) (n + 1) sessions) ≡ Some i
        → (position_from (is_of name) (n + 1) sessions ≡ Some i → (j : ℕ) × (i ≡ (n + 1) + j) × IsPlaced name sessions j)
        → (j : ℕ) × (i ≡ n + j) × IsPlaced name (s ∷ sessions) j
    by_test true e found rest =
        let here : n ≡ i = same_Some n i found in (
          0,
          omega (arith, here),
          record {
            session = s;
            there = refl;
            is_named = rw e refl;
            replaced = λ kept. rw e (ap (λ n. session_of n kept ∷ sessions) (sym (same_text name s.name (sym e))));
            changed = λ change. rw e refl;
            removed = rw e refl;
          },
        )
    by_test false e found rest =
        let it = rest found in (
          suc it.0,
          omega (arith, it.1),
          record {
            session = it.2.session;
            there = it.2.there;
            is_named = rw e it.2.is_named;
            replaced = λ kept. rw e (ap (λ l. s ∷ l) (it.2.replaced kept));
            changed = λ change. rw e (ap (λ l. s ∷ l) (it.2.changed change));
            removed = rw e (ap (λ l. s ∷ l) it.2.removed);
          },
        )

pub placed : (name : List ℕ) (sessions : List Session) (i : ℕ) → position (is_of name) sessions ≡ Some i
    → IsPlaced name sessions i
placed name sessions i found =
    let it = placed_from name sessions 0 i (sym (position_from-zero (is_of name) sessions) ∙ found) in
    let same : i ≡ it.0 = omega (arith, it.1) in
    rw same it.2

-- no session has the name
pub record IsAbsent (name : List ℕ) (sessions : List Session) : Type 0 where
  pub is_named : session_named name sessions ≡ None
  pub changed : (change : Session → Session) → sessions ≡ with_changed change name sessions
  pub removed : sessions ≡ without_session name sessions

absent_from : (name : List ℕ) (sessions : List Session) (n : ℕ) → position_from (is_of name) n sessions ≡ None → IsAbsent name sessions
absent_from name [] n none = record { is_named = refl; changed = λ change. refl; removed = refl }
absent_from name (s ∷ sessions) n none = by_test (is_of name s) refl none (absent_from name sessions (n + 1))
  where
    by_test : (t : Bool) → is_of name s ≡ t → cond t (Some n) (position_from (is_of name) (n + 1) sessions) ≡ None
        → (position_from (is_of name) (n + 1) sessions ≡ None → IsAbsent name sessions) → IsAbsent name (s ∷ sessions)
    by_test true e none rest = cc
    by_test false e none rest =
        let it = rest none in record {
          is_named = rw e it.is_named;
          changed = λ change. rw e (ap (λ l. s ∷ l) (it.changed change));
          removed = rw e (ap (λ l. s ∷ l) it.removed);
        }

pub absent : (name : List ℕ) (sessions : List Session) → position (is_of name) sessions ≡ None → IsAbsent name sessions
absent name sessions none = absent_from name sessions 0 (sym (position_from-zero (is_of name) sessions) ∙ none)

-- whether one more may open, where this is the place of its name
pub full_none : (name : List ℕ) (sessions : List Session) (place : Option ℕ) (none : Bool)
    → place ≡ position (is_of name) sessions → is_some place ≡ not none → none ≡ true → most_sessions ≤ length sessions
    → is_full name sessions ≡ true
full_none name sessions None none at is e many =
    let test : nat_le most_sessions (length sessions) ≡ true = grind (arith, nat_tests, many) in
    rw ((absent name sessions (sym at)).is_named) test
full_none name sessions (Some i) none at is e many = cc

pub full_some : (name : List ℕ) (sessions : List Session) (place : Option ℕ) (none : Bool)
    → place ≡ position (is_of name) sessions → is_some place ≡ not none → none ≡ false → is_full name sessions ≡ false
full_some name sessions None none at is e = cc
full_some name sessions (Some i) none at is e = let it = placed name sessions i (sym at) in rw it.is_named refl

pub full_room : (name : List ℕ) (sessions : List Session) (place : Option ℕ) → place ≡ position (is_of name) sessions
    → length sessions < most_sessions → is_full name sessions ≡ false
full_room name sessions None at few =
    let test : nat_le most_sessions (length sessions) ≡ false = grind (arith, nat_tests, few) in
    rw ((absent name sessions (sym at)).is_named) test
full_room name sessions (Some i) at few = let it = placed name sessions i (sym at) in rw it.is_named refl

-- ---- the entries of a map, as sessions

module _ {K V : Type 0} (text : K → List ℕ) (view : List ℕ → V → Session)
    (names : (n : List ℕ) (v : V) → (view n v).name ≡ n) where
  abbrev eq : K → K → Bool
  eq a b = pointwise nat_eq (text a) (text b)

  abbrev entry : K × V → Session
  entry e = view (text e.0) e.1

  found_from : (k : K) (n : ℕ) (es : List (K × V)) → position_from (eq k) n (keys_of es) ≡ position_from (is_of (text k)) n (map entry es)
  found_from k n [] = refl
  found_from k n (e ∷ es) =
      ap (λ t. cond (pointwise nat_eq (text k) t) (Some n) (position_from (eq k) (n + 1) (keys_of es))) (sym (names (text e.0) e.1))
      ∙ ap (cond (is_of (text k) (entry e)) (Some n)) (found_from k (n + 1) es)

  pub found_same : (k : K) (es : List (K × V)) → position (eq k) (keys_of es) ≡ position (is_of (text k)) (map entry es)
  found_same k es = position_from-zero (eq k) (keys_of es) ∙ found_from k 0 es ∙ sym (position_from-zero (is_of (text k)) (map entry es))

  pub put_same : (k : K) (v : V) (es : List (K × V))
      → map entry (insert_entry eq es k v) ≡ with_session (view (text k) v) (map entry es)
  put_same k v [] = refl
  put_same k v (e ∷ es) = by_test (put_same k v es) (eq k e.0) refl
    where
      named_test : {t : Bool} → eq k e.0 ≡ t → is_of (view (text k) v).name (entry e) ≡ t
      named_test is =
          ap (λ n. pointwise nat_eq n (entry e).name) (names (text k) v)
          ∙ ap (λ n. pointwise nat_eq (text k) n) (names (text e.0) e.1) ∙ is

      by_test : map entry (insert_entry eq es k v) ≡ with_session (view (text k) v) (map entry es) → (t : Bool) → eq k e.0 ≡ t
          → map entry (if t then (e.0, v) ∷ es else e ∷ insert_entry eq es k v) ≡ with_session (view (text k) v)
          (map entry (e ∷ es))
      by_test rest false is =
          ap (λ l. entry e ∷ l) rest ∙ sym (ap (λ b. if b then view (text k) v ∷ map entry es else entry e ∷ with_session
          (view (text k) v) (map entry es)) (named_test is))
      by_test rest true is =
          ap (λ n. view n v ∷ map entry es) (sym (same_text (text k) (text e.0) (sym is)))
          ∙ sym (ap (λ b. if b then view (text k) v ∷ map entry es else entry e ∷ with_session (view (text k) v) (map entry es))
          (named_test is))

  pub at_same : (es : List (K × V)) (i : ℕ) (v : V) (s : Session) → slice_get (values_of es) i ≡ Some v
      → slice_get (map entry es) i ≡ Some s → s ≡ view s.name v
  at_same [] i v s value at = cc
  at_same (e ∷ es) zero v s value at =
      let is : entry e ≡ s = same_Some (entry e) s at in
      sym is ∙ ap (λ n. view n e.1) (sym (names (text e.0) e.1) ∙ ap (λ s. s.name) is) ∙ ap (view s.name) (same_Some e.1 v value)
  at_same (e ∷ es) (suc i) v s value at = at_same es i v s value at

  pub remove_same : (es : List (K × V)) (i : ℕ) → map entry (remove es i) ≡ remove (map entry es) i
  remove_same [] zero = refl
  remove_same [] (suc i) = refl
  remove_same (e ∷ es) zero = refl
  remove_same (e ∷ es) (suc i) = ap (λ l. entry e ∷ l) (remove_same es i)

-- ---- what a session keeps

abbrev with_parts : List ℕ → ImageValue → List (List ℕ) → Session
with_parts name image packets = record { name = name; image = image; packets = packets }

abbrev Named : Type 0
Named = ArrayVec ℕ 16 (Unit {0})

abbrev bytes_of : List (ArrayVec ℕ 256 (Unit {0})) → List (List ℕ)
bytes_of packets = map (λ p. p.items) packets

-- a session that is lent, as it comes back
pub kept_as : (sessions : List Session) (i : ℕ) (s : Session) (kept : OpenSession) → slice_get sessions i ≡ Some s
    → with_kept sessions i kept ≡ slice_set sessions i (session_of s.name kept)
kept_as [] i s kept there = cc
kept_as (x ∷ sessions) zero s kept there = ap (λ t. session_of t.name kept ∷ sessions) (same_Some x s there)
kept_as (x ∷ sessions) (suc i) s kept there = ap (λ l. x ∷ l) (kept_as sessions i s kept there)

pub same_kept : (sessions : List Session) (i : ℕ) (s : Session) (kept : OpenSession) → slice_get sessions i ≡ Some s
    → s ≡ session_of s.name kept → with_kept sessions i kept ≡ sessions
same_kept [] i s kept there is = cc
same_kept (x ∷ sessions) zero s kept there is =
    let same = same_Some x s there in
    ap (λ t. session_of t.name kept ∷ sessions) same ∙ ap (λ t. t ∷ sessions) (sym is ∙ sym same)
same_kept (x ∷ sessions) (suc i) s kept there is = ap (λ l. x ∷ l) (same_kept sessions i s kept there is)

pub forgot : (s : Session) (kept new : OpenSession) → s ≡ session_of s.name kept → new.image ≡ kept.image → new.packets.items ≡ []
    → session_of s.name new ≡ without_packets s
forgot s kept new is image none =
    ap (λ i. with_parts s.name i.image (bytes_of new.packets.items)) image
    ∙ ap (λ ps. with_parts s.name kept.image.image (bytes_of ps)) none
    ∙ sym (ap (λ t. with_parts s.name t.image []) is)

pub kept_more : (s : Session) (kept new : OpenSession) (packet : ArrayVec ℕ 256 (Unit {0})) → s ≡ session_of s.name kept
    → new.image ≡ kept.image → new.packets.items ≡ kept.packets.items ++ packet ∷ []
    → session_of s.name new ≡ with_packet packet.items s
kept_more s kept new packet is image more =
    ap (λ i. with_parts s.name i.image (bytes_of new.packets.items)) image
    ∙ ap (λ ps. with_parts s.name kept.image.image (bytes_of ps)) more
    ∙ ap (with_parts s.name kept.image.image) (map-append (λ p. p.items) kept.packets.items (packet ∷ []))
    ∙ sym (ap (λ t. with_parts s.name t.image (t.packets ++ packet.items ∷ [])) is)

pub packets_kept : (s : Session) (kept : OpenSession) → s ≡ session_of s.name kept → length s.packets ≡ vec_len kept.packets
packets_kept s kept is = ap (λ t. length t.packets) is ∙ length-map kept.packets.items (λ p. p.items) ∙ sym kept.packets.ok.0

pub opened_none : (name : List ℕ) (image : Accepted) (kept : OpenSession) → kept.image ≡ image → kept.packets.items ≡ []
    → session_of name kept ≡ record { name = name; image = image.image; packets = [] }
opened_none name image kept same none =
    ap (λ i. with_parts name i.image (bytes_of kept.packets.items)) same
    ∙ ap (λ ps. with_parts name image.image (bytes_of ps)) none

-- the entries of the map, once one of them is no longer lent
pub lent_same : (es : List (Named × OpenSession)) (i : ℕ) (kept : OpenSession)
    → map (λ e. session_of e.0.items e.1) (set_value_at es i kept) ≡ with_kept (map (λ e. session_of e.0.items e.1) es) i kept
lent_same [] i kept = refl
lent_same (e ∷ es) zero kept = refl
lent_same (e ∷ es) (suc i) kept = ap (λ l. session_of e.0.items e.1 ∷ l) (lent_same es i kept)
