-- Assignments that are made one by one.
use Rattle.std.proofs.Common.{take, drop, ◌≡◌, ◌+◌, ◌<◌, ◌≤◌, [], ◌∷◌, ◌++◌, ℕ, zero, suc, List, length, Option, Some, None, IfSome, Bool, false, true, nat_eq, nat_lt, refl, ap, sym, subst, ◌∙◌, arith}
use Rattle.std.specs.Prelude.{slice_index, slice_set, slice_index_or, ◌||◌, if◌then◌else◌}
use Rattle.std.proofs.lemmas.Bool.{eqb-true, le-ltb, lt-ltb}
use Rattle.std.proofs.lemmas.Bool.Decides.{nat_tests}
use Rattle.tpw_occam_core.specs.declared.arithmetic.Answer.{Answer}
use Rattle.tpw_occam_core.specs.declared.kind.Kind.{Kind}
use Rattle.tpw_occam_core.specs.declared.kind.Kind.TheVariants.{Word, Byte}
use Rattle.std.specs.Prelude.{◌/◌}
use Rattle.tpw_occam_core.specs.declared.expression.Expression.{Expression}
use Rattle.tpw_occam_core.specs.declared.expression.Expression.TheVariants.{Constant}
use Rattle.tpw_occam_core.specs.declared.process.Target.{Target}
use Rattle.tpw_occam_core.specs.declared.process.Target.TheVariants as target
use Rattle.tpw_occam_core.specs.declared.process.Assignment.{Assignment}
use Rattle.tpw_occam_core.specs.Arithmetic.{subscript}
use Rattle.tpw_occam_core.specs.Arrays.{size, kept, with_element}
use Rattle.tpw_occam_core.specs.Meaning.{Store, value_of, bind, array_of, with_value, with_array, kind_of, subscript_of, stored, flagged, assigned}
use Rattle.tpw_occam_code.specs.declared.order.Waiting.{Waiting}
use Rattle.tpw_occam_code.specs.declared.order.Move.{Move}
use Rattle.tpw_occam_code.specs.declared.order.Move.TheVariants.{Keep, Make}
use Rattle.tpw_occam_expressions.specs.Computing.{reads}
use Rattle.tpw_occam_code.specs.Assigning.{reads_array, reads_target, are_near}
use Rattle.tpw_occam_code.specs.Ordering.{target_reads, Precedes, PrecedesIn, assignment_at, waits, waiting_at, MayGo, IsAlone, IsMove, Picks, picked, before, Marks, marked, behind, pending_one, pending}
use Rattle.tpw_occam_code.specs.Ordering.{Settles, AreAll, SettleAll, IsNumbered, AreNumbered}
use Rattle.tpw_occam_expressions.proofs.Naming.{slice_other, slice_length}
use Rattle.tpw_occam_code.proofs.Reading.{value_same, value_flagged, subscript_flagged, stored_flagged, flagged_both}
use Rattle.tpw_occam_code.proofs.Matching.{sizes_at, with_element-length, rest_of, more_of}
use Rattle.tpw_occam_code.proofs.KeptParts.{sizes_set}

true_false : ◌≡◌ {A = Bool} true false → ⊥
true_false e = cc

-- ---- from places to lists

pub picks_at : (all : List Assignment) (waiting : List Waiting) (place : ℕ) → MayGo all waiting place
    → Picks all (waiting_at waiting place) waiting (take place waiting ++ drop (suc place) waiting)
picks_at all [] place may = let there = may.there in absurd (omega (arith, there))
picks_at all (one ∷ waiting) zero may =
    picked all one waiting (λ at less.
    subst (λ b. PrecedesIn all one (waiting_at waiting at) b) (le-ltb (suc at) 0 (omega arith)) (may.others (suc at) (omega (arith, less)) (λ e. cc)))
picks_at all (first ∷ waiting) (suc place) may =
    let there = may.there in
    before all (waiting_at waiting place) first waiting (take place waiting ++ drop (suc place) waiting)
    (subst (λ b. PrecedesIn all (waiting_at waiting place) first b) (lt-ltb 0 (suc place) (omega arith)) (may.others 0 (omega arith) (λ e. cc)))
    (picks_at all waiting place (record {
      there = omega (arith, there);
      others = λ at less differs.
          subst (λ b. PrecedesIn all (waiting_at waiting place) (waiting_at waiting at) b) (same_test at place)
          (may.others (suc at) (omega (arith, less)) (λ e. differs (omega (arith, e))));
    }))
  where
    same_test : (at place : ℕ) → nat_lt (suc at) (suc place) ≡ nat_lt at place
    same_test at place = grind (arith, nat_tests)

pub marks_at : (waiting : List Waiting) (place : ℕ) → place < length waiting → IsAlone waiting place → (waiting_at waiting place).is_kept ≡ false
    → Marks (waiting_at waiting place).number waiting (slice_set waiting place (waits (waiting_at waiting place).number true))
marks_at [] place there alone none = absurd (omega (arith, there))
marks_at (one ∷ waiting) zero there alone none =
    subst (λ b. Marks one.number (waits one.number b ∷ waiting) (waits one.number true ∷ waiting)) (sym none)
    (marked one.number waiting (λ at less. alone (suc at) (omega (arith, less)) (λ e. cc)))
marks_at (first ∷ waiting) (suc place) there alone none =
    behind (waiting_at waiting place).number first waiting (slice_set waiting place (waits (waiting_at waiting place).number true))
    (alone 0 (omega arith) (λ e. cc))
    (marks_at waiting place (omega (arith, there)) (λ at less differs. alone (suc at) (omega (arith, less)) (λ e. differs (omega (arith, e)))) none)

pub get_same : {A : Type 0} (xs : List A) (i : ℕ) (d e : A) → i < length xs → slice_index_or xs i d ≡ slice_index_or xs i e
get_same [] i d e h = absurd (omega (arith, h))
get_same (x ∷ xs) zero d e h = refl
get_same (x ∷ xs) (suc i) d e h = get_same xs i d e (omega (arith, h))

pub make_is : (all : List Assignment) (old new : List Waiting) (move : Move) (place : ℕ) → MayGo all old place
    → (move ≡ Make (waiting_at old place).number (waiting_at old place).is_kept) × (new ≡ take place old ++ drop (place + 1) old)
    → IsMove all old move new
make_is all old new move place may is =
    let next : suc place ≡ place + 1 = omega arith in
    subst (λ n. IsMove all old move n) (sym is.1)
    (subst (λ m. IsMove all old m (take place old ++ drop (place + 1) old)) (sym is.0)
    (subst (λ n. Picks all (waiting_at old place) old (take place old ++ drop n old)) next (picks_at all old place may)))

pub keep_is : (all : List Assignment) (old new : List Waiting) (move : Move) (i : ℕ) → (move ≡ Keep i) × Marks i old new → IsMove all old move new
keep_is all old new move i is = subst (λ m. IsMove all old m new) (sym is.0) is.1

-- ---- what is stored and not read

not_same : (P : ℕ → Bool) (x y : ℕ) → P x ≡ false → P y ≡ true → nat_eq x y ≡ false
not_same P x y none there = by_test (nat_eq x y) refl
  where
    by_test : (b : Bool) → nat_eq x y ≡ b → nat_eq x y ≡ false
    by_test false e = e
    by_test true e = absurd (true_false (sym there ∙ ap P (sym (eqb-true x y e)) ∙ none))

pub value_unread : (kinds : List Kind) (e : Expression) (t : Target) (i word : ℕ) (s : Store) → reads_target e t ≡ false
    → value_of e (stored kinds t i word s) ≡ value_of e s
value_unread kinds e (target.Variable x) i word s unread =
    value_same e (with_value x (kept (kind_of kinds x) word) s) s (record {
      count = slice_length s.values x (kept (kind_of kinds x) word);
      values = λ y h. slice_other s.values x y (kept (kind_of kinds x) word) 0 (not_same (reads e) x y unread h);
      arrays = λ a h. refl;
    })
value_unread kinds e (target.Element a view f) i word s unread =
    value_same e (with_array a (with_element view (array_of s a) i word) s) s (record {
      count = refl;
      values = λ y h. refl;
      arrays = λ b h. slice_other s.arrays a b (with_element view (array_of s a) i word) [] (not_same (reads_array e) a b unread h);
    })

pub length_stored : (kinds : List Kind) (t : Target) (i word : ℕ) (s : Store) (b : ℕ) → length (array_of (stored kinds t i word s) b) ≡ length (array_of s b)
length_stored kinds (target.Variable x) i word s b = refl
length_stored kinds (target.Element a view e) i word s b =
    let made = with_element view (array_of s a) i word in
    sym (sizes_at (slice_set s.arrays a made) b)
    ∙ ap (λ l. slice_index l b) (sizes_set s.arrays a made (with_element-length view (array_of s a) i word)) ∙ sizes_at s.arrays b

size_same : (view : Kind) (xs ys : List ℕ) → length xs ≡ length ys → size view xs ≡ size view ys
size_same view xs ys e = by_kind view
  where
    by_kind : (view : Kind) → size view xs ≡ size view ys
    by_kind Word = ap (λ n. n / 4) e
    by_kind Byte = e

pub subscript_unread : (kinds : List Kind) (other t : Target) (i word : ℕ) (s : Store) → target_reads other t ≡ false
    → subscript_of other (stored kinds t i word s) ≡ subscript_of other s
subscript_unread kinds (target.Variable x) t i word s unread = refl
subscript_unread kinds (target.Element b view e) t i word s unread =
    ap (λ v. bind v (subscript (size view (array_of (stored kinds t i word s) b)))) (value_unread kinds e t i word s unread)
    ∙ ap (λ n. bind (value_of e s) (subscript n)) (size_same view _ _ (length_stored kinds t i word s b))

-- two stores in places that are apart
set_both : {A : Type 0} (xs : List A) (x y : ℕ) (a b : A) → nat_eq x y ≡ false → slice_set (slice_set xs y b) x a ≡ slice_set (slice_set xs x a) y b
set_both [] x y a b h = refl
set_both (z ∷ xs) zero zero a b h = cc
set_both (z ∷ xs) zero (suc y) a b h = refl
set_both (z ∷ xs) (suc x) zero a b h = refl
set_both (z ∷ xs) (suc x) (suc y) a b h = ap (λ l. z ∷ l) (set_both xs x y a b (next x y h))
  where
    next : (x y : ℕ) → nat_eq (suc x) (suc y) ≡ false → nat_eq x y ≡ false
    next x y h = grind (arith, nat_tests)

turned_round : (x y : ℕ) → nat_eq x y ≡ false → nat_eq y x ≡ false
turned_round x y h = grind (arith, nat_tests)

pub stored_both : (kinds : List Kind) (t u : Target) (i w j v : ℕ) (s : Store) → are_near t u ≡ false
    → stored kinds t i w (stored kinds u j v s) ≡ stored kinds u j v (stored kinds t i w s)
stored_both kinds (target.Variable x) (target.Variable y) i w j v s apart =
    ap (λ values. record s { values = values }) (set_both s.values x y (kept (kind_of kinds x) w) (kept (kind_of kinds y) v) apart)
stored_both kinds (target.Variable x) (target.Element b view f) i w j v s apart = refl
stored_both kinds (target.Element a view e) (target.Variable y) i w j v s apart = refl
stored_both kinds (target.Element a view e) (target.Element b other f) i w j v s apart =
    let one = with_element view (array_of s a) i w in
    let two = with_element other (array_of s b) j v in
    ap (λ l. record s { arrays = slice_set (slice_set s.arrays b two) a (with_element view l i w) })
    (slice_other s.arrays b a two [] (turned_round a b apart))
    ∙ ap (λ arrays. record s { arrays = arrays }) (set_both s.arrays a b one two apart)
    ∙ sym (ap (λ l. record s { arrays = slice_set (slice_set s.arrays a one) b (with_element other l j v) })
    (slice_other s.arrays a b one [] apart))

-- ---- one that is made before the others

-- a target that takes a word, and the flag that comes with it
abbrev pub after : List Kind → Target → ℕ → ℕ → Bool → Store → Store
after kinds t i w flag s = flagged flag (stored kinds t i w s)

value_after : (kinds : List Kind) (e : Expression) (t : Target) (i w : ℕ) (flag : Bool) (s : Store) → reads_target e t ≡ false
    → value_of e (after kinds t i w flag s) ≡ value_of e s
value_after kinds e t i w flag s unread = value_flagged e flag (stored kinds t i w s) ∙ value_unread kinds e t i w s unread

subscript_after : (kinds : List Kind) (other t : Target) (i w : ℕ) (flag : Bool) (s : Store) → target_reads other t ≡ false
    → subscript_of other (after kinds t i w flag s) ≡ subscript_of other s
subscript_after kinds other t i w flag s unread = subscript_flagged other flag (stored kinds t i w s) ∙ subscript_unread kinds other t i w s unread

constant_unread : (t : Target) (c : ℕ) → reads_target (Constant c) t ≡ false
constant_unread (target.Variable x) c = refl
constant_unread (target.Element a view e) c = refl

pending_unread : (one other : Assignment) (is_kept is_earlier : Bool) (c : ℕ) → Precedes one other is_kept is_earlier
    → reads_target (if is_kept then Constant c else other.value) one.target ≡ false
pending_unread one other true is_earlier c precedes = constant_unread one.target c
pending_unread one other false is_earlier c precedes = precedes.value refl

both_after : (kinds : List Kind) (t u : Target) (i w j v : ℕ) (f g : Bool) (s : Store) → are_near t u ≡ false
    → after kinds u j v g (after kinds t i w f s) ≡ after kinds t i w f (after kinds u j v g s)
both_after kinds t u i w j v f g s apart =
    ap (flagged g) (stored_flagged kinds u j v f (stored kinds t i w s))
    ∙ flagged_both f g (stored kinds u j v (stored kinds t i w s))
    ∙ ap (λ z. flagged f (flagged g z)) (sym (stored_both kinds t u i w j v s apart))
    ∙ ap (flagged f) (sym (stored_flagged kinds t i w g (stored kinds u j v s)))

-- one of those that wait, where something that it does not read is stored
pending_after : (kinds : List Kind) (all : List Assignment) (words : ℕ → ℕ) (one : Assignment) (w : Waiting) (is_earlier : Bool) (i v : ℕ) (flag : Bool) (s x : Store)
    → Precedes one (assignment_at all w.number) w.is_kept is_earlier
    → after kinds (pending_one all words w).target (subscript_of (pending_one all words w).target (after kinds one.target i v flag s)).word
    (value_of (pending_one all words w).value (after kinds one.target i v flag s)).word
    ((value_of (pending_one all words w).value (after kinds one.target i v flag s)).flag || (subscript_of (pending_one all words w).target (after kinds one.target i v flag s)).flag) x
    ≡ after kinds (pending_one all words w).target (subscript_of (pending_one all words w).target s).word
    (value_of (pending_one all words w).value s).word
    ((value_of (pending_one all words w).value s).flag || (subscript_of (pending_one all words w).target s).flag) x
pending_after kinds all words one w is_earlier i v flag s x precedes =
    let c = pending_one all words w in
    ap (λ (y : Answer). after kinds c.target (subscript_of c.target (after kinds one.target i v flag s)).word y.word (y.flag || (subscript_of c.target (after kinds one.target i v flag s)).flag) x)
    (value_after kinds c.value one.target i v flag s (pending_unread one (assignment_at all w.number) w.is_kept is_earlier (words w.number) precedes))
    ∙ ap (λ (y : Answer). after kinds c.target y.word (value_of c.value s).word ((value_of c.value s).flag || y.flag) x)
    (subscript_after kinds c.target one.target i v flag s precedes.place)

-- the others stand behind it
behind_after : (kinds : List Kind) (all : List Assignment) (words : ℕ → ℕ) (one : Assignment) (rest : List Waiting) (i v : ℕ) (flag : Bool) (s : Store)
    → ((at : ℕ) → at < length rest → Precedes one (assignment_at all (waiting_at rest at).number) (waiting_at rest at).is_kept false)
    → assigned kinds (pending all words rest) (after kinds one.target i v flag s) ≡ after kinds one.target i v flag (assigned kinds (pending all words rest) s)
behind_after kinds all words one [] i v flag s precede = refl
behind_after kinds all words one (w ∷ rest) i v flag s precede =
    let c = pending_one all words w in
    let first = precede 0 (omega arith) in
    let y = assigned kinds (pending all words rest) s in
    pending_after kinds all words one w false i v flag s (assigned kinds (pending all words rest) (after kinds one.target i v flag s)) first
    ∙ ap (after kinds c.target (subscript_of c.target s).word (value_of c.value s).word ((value_of c.value s).flag || (subscript_of c.target s).flag))
    (behind_after kinds all words one rest i v flag s (λ at less. precede (suc at) (omega (arith, less))))
    ∙ both_after kinds one.target c.target i v (subscript_of c.target s).word (value_of c.value s).word flag ((value_of c.value s).flag || (subscript_of c.target s).flag) y (first.apart refl)

-- made before the others, it is as if all were made together
pub picks_assigned : (kinds : List Kind) (all : List Assignment) (words : ℕ → ℕ) (one : Waiting) (waiting left : List Waiting) (s : Store)
    → Picks all one waiting left
    → assigned kinds (pending all words waiting) s ≡ assigned kinds (pending all words left) (assigned kinds (pending_one all words one ∷ []) s)
picks_assigned kinds _ words _ _ _ s (picked all one left precede) =
    let a = pending_one all words one in
    sym (behind_after kinds all words (assignment_at all one.number) left (subscript_of a.target s).word (value_of a.value s).word
    ((value_of a.value s).flag || (subscript_of a.target s).flag) s precede)
picks_assigned kinds _ words _ _ _ s (before all one first rest less precedes others) =
    let a = pending_one all words one in
    let c = pending_one all words first in
    let v = value_of a.value s in
    let i = subscript_of a.target s in
    ap (after kinds c.target (subscript_of c.target s).word (value_of c.value s).word ((value_of c.value s).flag || (subscript_of c.target s).flag))
    (picks_assigned kinds all words one rest less s others)
    ∙ sym (pending_after kinds all words (assignment_at all one.number) first true i.word v.word (v.flag || i.flag) s
    (assigned kinds (pending all words less) (assigned kinds (a ∷ []) s)) precedes)

pub some_weaker : {A : Type 0} (o : Option A) (P Q : A → Type 0) → ((x : A) → P x → Q x) → IfSome o P → IfSome o Q
some_weaker None P Q f h = tt
some_weaker (Some x) P Q f h = f x h

-- ---- moves are of assignments that are there

abbrev AreBelow : (count : ℕ) → List Waiting → Type 0
AreBelow count [] = Unit {0}
AreBelow count (w ∷ more) = (w.number < count) × AreBelow count more

picks_below : (all : List Assignment) (one : Waiting) (waiting left : List Waiting) (count : ℕ) → Picks all one waiting left → AreBelow count waiting
    → (one.number < count) × AreBelow count left
picks_below _ _ _ _ count (picked all one rest precede) below = below
picks_below _ _ _ _ count (before all one first rest left precedes others) below =
    let deeper = picks_below all one rest left count others below.1 in
    (deeper.0, (below.0, deeper.1))

marks_below : (i : ℕ) (waiting left : List Waiting) (count : ℕ) → Marks i waiting left → AreBelow count waiting → (i < count) × AreBelow count left
marks_below _ _ _ count (marked i rest differ) below = (below.0, (below.0, below.1))
marks_below _ _ _ count (behind i first rest left differs others) below =
    let deeper = marks_below i rest left count others below.1 in
    (deeper.0, (below.0, deeper.1))

settles_numbered : (all : List Assignment) (count : ℕ) (moves : List Move) (waiting : List Waiting) → AreBelow count waiting → Settles all waiting moves
    → AreNumbered count moves
settles_numbered all count [] waiting below settles = tt
settles_numbered all count (Keep i ∷ more) waiting below settles =
    let next = marks_below i waiting settles.0 count settles.1.0 below in
    (next.0, settles_numbered all count more settles.0 next.1 settles.1.1)
settles_numbered all count (Make i is_kept ∷ more) waiting below settles =
    let next = picks_below all (waits i is_kept) waiting settles.0 count settles.1.0 below in
    (next.0, settles_numbered all count more settles.0 next.1 settles.1.1)

below_each : (count : ℕ) (waiting : List Waiting) → ((k : ℕ) → k < length waiting → (waiting_at waiting k).number < count) → AreBelow count waiting
below_each count [] each = tt
below_each count (w ∷ more) each = (each 0 (omega arith), below_each count more (λ k less. each (suc k) (omega (arith, less))))

pub settled_numbered : (all : List Assignment) (moves : List Move) → SettleAll all moves → AreNumbered (length all) moves
settled_numbered all moves settle =
    let are : AreAll (length all) settle.0 = settle.1.0 in
    settles_numbered all (length all) moves settle.0
    (below_each (length all) settle.0 (λ k less.
    let long = are.long in
    let there : k < length all = omega (arith, less, long) in
    subst (λ (w : Waiting). w.number < length all) (sym (are.each k there)) there))
    settle.1.1

pub numbered_parts : (count : ℕ) (moves : List Move) → 1 ≤ length moves → AreNumbered count moves
    → IsNumbered count (slice_index_or moves 0 (Keep 0)) × AreNumbered count (rest_of moves)
numbered_parts count moves some are =
    let next = slice_index_or moves 0 (Keep 0) in
    subst (AreNumbered count) (more_of moves next some (get_same moves 0 (Keep 0) next (omega (arith, some)))) are
