-- The passes, one edge and one pass after another.
use Rattle.std.proofs.Common.{◌≡◌, ℕ, zero, suc, ◌+◌, ◌^◌, ◌<◌, ◌||◌, Bool, true, false, List, [], ◌∷◌, ◌++◌, length, Option, Some, Ok, Err, Result, refl, sym, ap, ◌∙◌, subst, arith}
use Rattle.std.specs.List.{flat_map}
use Rattle.std.proofs.Common.{take, drop, slice_get, slice_index_or, add-one}
use Rattle.std.proofs.Math.Seq.{take-suc, split_at}
use Rattle.std.proofs.lemmas.List.{append-nil}
use Rattle.std.proofs.lemmas.Grind.{flat_map-append}
use Rattle.std.proofs.lemmas.List.Concat.{flat_map-cons}
use Rattle.std.proofs.lemmas.Option.{slice_get_within, get_or_from_slice_get}
use Rattle.tp_decode.specs.declared.placed.Placed.{Placed}
use Rattle.tp_decode.specs.Cutting.{Cut, placed_from}
use Rattle.tp_decode.proofs.NumberLemmas.{length-placed}
use Rattle.tp_flow.specs.declared.edge.Edge.{Edge}
use Rattle.tp_image.specs.Image.{ImageValue, InRange}
use Rattle.tp_image.specs.Limits.{most_workspace}
use Rattle.tp_image.specs.declared.image.Version.{Version}
use Rattle.tp_image.specs.declared.image.Version.TheVariants.{One, Two}
use Rattle.tp_state.specs.declared.fault.StateFault.{StateFault}
use Rattle.tp_state.specs.declared.state.State.{State}
use Rattle.tp_state.specs.Answer.{◌>>=◌}
use Rattle.tp_state.specs.declared.fault.StateFault.TheVariants.{Refused}
use Rattle.tp_state.specs.declared.fault.StateCode.{StateCode}
use Rattle.std.proofs.Common.{◌≤◌, ◌*◌, if◌then◌else◌, ◌==◌, None}
use Rattle.std.proofs.lemmas.List.Sums.{sum_by-cons}
use Rattle.std.proofs.lemmas.Option.{same_Some}
use Rattle.tp_state.specs.Entry.{entry}
use Rattle.tp_check.specs.Tables.{HasPlacedStates}
use Rattle.tp_check.proofs.Heights.{HasWords, state_light}
use Rattle.tp_check.specs.Rising.{Moves, height, state_height, table_height}
use Rattle.tp_check.specs.Arrivals.{Gives}
use Rattle.tp_state.proofs.AgreeLemmas.{written}
use Rattle.tp_check.specs.Tables.{Table}
use Rattle.tp_check.specs.Passes.{go_along, along_edges, first_table, pass, passes}
use Rattle.tpw_why.specs.declared.refusal.EdgeRefusal.{EdgeRefusal}
use Rattle.tp_check.specs.Tables.{table_of}
use Rattle.tp_check.specs.Passes.{edges_in, IsVerdict}
use Rattle.tp_check.proofs.PassLemmas.{ok_first}
use Rattle.tp_check.specs.UnderWay.{MayBeTaken}
use Rattle.tp_check.proofs.Nests.{among_placed}
use Rattle.tp_check.proofs.Passing.{may_be_taken}
use Rattle.tp_check.proofs.Places.{stands_at}
use Rattle.tp_flow.specs.NestKept.{KeepsNest}
use Rattle.tp_flow.specs.RowRules.{is_start}
use Rattle.std.proofs.Common.{IsTrue}
use Rattle.std.proofs.lemmas.Option.{slice_get-get_or}
use Rattle.tpw_why.specs.declared.refusal.FirstRefusal.{FirstRefusal}
use Rattle.tpw_why.specs.FirstRefusals.{IsRefusedAmong, IsFirstRefusal}

-- edges behind others
pub along_append : (image : ImageValue) (xs ys : List (Placed × Edge)) (table there : Table) → along_edges image xs table ≡ Ok there → along_edges image (xs ++ ys) table ≡ along_edges image ys there
along_append image [] ys table there arrives = ap (λ t. along_edges image ys t) (let same : table ≡ there = cc in same)
along_append image (x ∷ xs) ys table there arrives =
    let first = ok_first (go_along image x.0 x.1 (table x.0.at) table) (along_edges image xs) there arrives in
    ap (λ r. r >>= along_edges image (xs ++ ys)) first.1 ∙ along_append image xs ys first.0 there first.2

-- ---- one more of a list

pub flat_on : {A B : Type 0} (f : A → List B) (xs : List A) (i : ℕ) (x : A) → slice_get xs i ≡ Some x → flat_map f (take (i + 1) xs) ≡ flat_map f (take i xs) ++ f x
flat_on f xs i x is =
    let inside = slice_get_within xs i x is in
    let read : slice_index_or xs i x ≡ x = get_or_from_slice_get xs i x x is in
    ap (flat_map f) (ap (λ n. take n xs) (add-one i) ∙ take-suc xs i x inside ∙ ap (λ y. take i xs ++ y ∷ []) read)
    ∙ flat_map-append f (take i xs) (x ∷ []) ∙ ap (λ ys. flat_map f (take i xs) ++ ys) (flat_map-cons f x [] ∙ append-nil (f x))

-- ---- the edges of a pass

-- one edge more is taken
pub one_on : (image : ImageValue) (es : List (Placed × Edge)) (i : ℕ) (e : Placed × Edge) (first table next : Table) →
    i < length es → slice_index_or es i e ≡ e → along_edges image (take i es) first ≡ Ok table →
    go_along image e.0 e.1 (table e.0.at) table ≡ Ok next → along_edges image (take (i + 1) es) first ≡ Ok next
one_on image es i e first table next inside read so_far goes =
    ap (λ xs. along_edges image xs first) (ap (λ n. take n es) (add-one i) ∙ take-suc es i e inside ∙ ap (λ y. take i es ++ y ∷ []) read)
    ∙ along_append image (take i es) (e ∷ []) first table so_far
    ∙ ap (λ r. r >>= along_edges image []) goes

-- or refused
pub refused_here : (image : ImageValue) (es : List (Placed × Edge)) (i : ℕ) (r : EdgeRefusal) (first table : Table) →
    i < length es → slice_index_or es i (r.instruction, r.edge) ≡ (r.instruction, r.edge) →
    along_edges image (take i es) first ≡ Ok table
    → go_along image r.instruction r.edge (table r.instruction.at) table ≡ Err (Refused r.code r.place) → IsRefusedAmong image es first table r
refused_here image es i r first table inside read so_far refused = record {
  earlier = take i es;
  later = drop (suc i) es;
  split = split_at es i (r.instruction, r.edge) inside ∙ ap (λ e. take i es ++ e ∷ drop (suc i) es) read;
  arrives = so_far;
  refused = refused;
}

-- what stands at a place of a list, whatever stands for none
pub read_any : {A : Type 0} (xs : List A) (i : ℕ) (d : A) → i < length xs → slice_index_or xs i (slice_index_or xs i d) ≡ slice_index_or xs i d
read_any [] i d h = absurd (omega (arith, h))
read_any (x ∷ xs) zero d h = refl
read_any (x ∷ xs) (suc i) d h = read_any xs i d (omega (arith, h))

pub count_placed : (cuts : List Cut) → length (placed_from 0 cuts) ≡ length cuts
count_placed cuts = length-placed 0 cuts

pub is_refused : (fault : StateFault) (code : StateCode) (place : ℕ) (table : Table) (wanted : Result Table StateFault)
    → fault ≡ Refused code place → Gives {X = Bool} (Err fault) table wanted → wanted ≡ Err (Refused code place)
is_refused fault code place table wanted is gives = subst (λ f. Gives {X = Bool} (Err f) table wanted) is gives

pub refused_in : (image : ImageValue) (es : List (Placed × Edge)) (i : ℕ) (r : EdgeRefusal) (first : Table)
    (old new : List (Option State)) → new ≡ old → i < length es →
    slice_index_or es i (r.instruction, r.edge) ≡ (r.instruction, r.edge) →
    along_edges image (take i es) first ≡ Ok (table_of old)
    → go_along image r.instruction r.edge (table_of old r.instruction.at) (table_of old) ≡ Err (Refused r.code r.place) → IsRefusedAmong image es first (table_of new) r
refused_in image es i r first old new same inside read so_far refused =
    subst (λ t. IsRefusedAmong image es first (table_of t) r) (sym same)
    (refused_here image es i r first (table_of old) inside read so_far refused)

-- ---- the passes

pub taken_there : (image : ImageValue) (cuts : List Cut) (places : ℕ) → KeepsNest image.loops image.workspace cuts →
    ((at : ℕ) → IsTrue (is_start cuts at) → at < places) → (es : List (Placed × Edge)) → es ≡ edges_in cuts →
    (k : ℕ) (d : Placed × Edge) → k < length es → MayBeTaken image places (slice_index_or es k d).0
taken_there image cuts places kept inside es is k d lt =
    let e = slice_index_or es k d in
    let place = among_placed (placed_from 0 cuts) e (k, ap (λ xs. slice_get xs k) (sym is) ∙ slice_get-get_or es k d lt) in
    may_be_taken image cuts places e.0 kept inside (stands_at cuts place.0 e.0 kept.spelled place.1)

-- what is refused among the edges of a pass, the pass refuses
refused_along : (image : ImageValue) (es : List (Placed × Edge)) (table there : Table) (r : EdgeRefusal) →
    IsRefusedAmong image es table there r → along_edges image es table ≡ Err (Refused r.code r.place)
refused_along image es table there r is =
    ap (λ xs. along_edges image xs table) is.split
    ∙ along_append image is.earlier ((r.instruction, r.edge) ∷ is.later) table there is.arrives
    ∙ ap (λ q. q >>= along_edges image is.later) is.refused

-- before a pass: this many have refused nothing, and these are the states of their table
abbrev pub IsBefore : ImageValue → List Cut → ℕ → Table → Type 0
IsBefore image cuts number states = passes image cuts number ≡ Ok states

pub none_made : (image : ImageValue) (cuts : List Cut) (states : Table) → states ≡ first_table image → IsBefore image cuts 0 states
none_made image cuts states is = ap Ok (sym is)

-- a pass that refuses nothing comes to the table of one pass more
pub one_more : (image : ImageValue) (cuts : List Cut) (number next : ℕ) (es : List (Placed × Edge)) (states new : Table)
    → next ≡ number + 1 → es ≡ edges_in cuts → IsBefore image cuts number states → along_edges image es states ≡ Ok new →
    IsBefore image cuts next new
one_more image cuts number next es states new more is before goes = ap (passes image cuts) (more ∙ add-one number) ∙
    ap (λ r. r >>= pass image cuts) before ∙ sym (ap (λ xs. along_edges image xs states) is) ∙ goes

-- one that refuses an edge refuses it from the table of the passes before
pub is_first : (image : ImageValue) (cuts : List Cut) (es : List (Placed × Edge)) (states : Table) (r : FirstRefusal) →
    es ≡ edges_in cuts → IsBefore image cuts r.passes states →
    IsRefusedAmong image es states (table_of r.table.items) r.refusal → IsFirstRefusal image cuts r
is_first image cuts es states r is before among = record {
  table = states;
  arrives = before;
  among = subst (λ xs. IsRefusedAmong image xs states (table_of r.table.items) r.refusal) is among;
}

pub is_verdict : (image : ImageValue) (cuts : List Cut) (r : FirstRefusal) → IsFirstRefusal image cuts r → IsVerdict image cuts (Err (Refused r.refusal.code r.refusal.place))
is_verdict image cuts r first = record {
  number = suc r.passes;
  arrives = ap (λ q. q >>= pass image cuts) first.arrives ∙ refused_along image (edges_in cuts) first.table (table_of r.table.items) r.refusal first.among;
  stays = refl;
}

-- one that changes nothing
pub stays_so : (image : ImageValue) (cuts : List Cut) (es : List (Placed × Edge)) (old new : List (Option State)) →
    es ≡ edges_in cuts → new ≡ old → along_edges image es (table_of old) ≡ Ok (table_of new) →
    pass image cuts (table_of new) ≡ Ok (table_of new)
stays_so image cuts es old new is same goes = ap (λ l. pass image cuts (table_of l)) same ∙ sym (ap (λ xs. along_edges image xs (table_of old)) is) ∙ goes

-- the passes that are left
abbrev pub left_of : ImageValue → Bool → List (Option State) → ℕ
left_of image true states = 1 + table_height image states
left_of image false states = 0

pub few_words : (image : ImageValue) → InRange image → image.workspace ≤ 512
few_words image range = by_version image.version range.workspace.1
  where
    by_version : (v : Version) → image.workspace ≤ most_workspace v → image.workspace ≤ 512
    by_version One le = omega (arith, le)
    by_version Two le = omega (arith, le)

-- they are fewer than 2^100 before the first one
most_left : (image : ImageValue) → image.workspace ≤ 512 → (states : List (Option State)) →
    ((x : ℕ) (s : State) → table_of states x ≡ Some s → state_height s ≤ 2 ^ 36) →
    table_height image states ≤ length states * 2 ^ 36
unfolding table_height
most_left image small [] each = omega arith
most_left image small (None ∷ states) each = let more = most_left image small states (λ x s is. each (suc x) s is) in rw (sum_by-cons (height image) None states) (omega (arith, more, small))
most_left image small (Some s ∷ states) each = let more = most_left image small states (λ x s is. each (suc x) s is) in
    let here = each 0 s refl in rw (sum_by-cons (height image) (Some s) states) (omega (arith, more, here))

pub first_left : (image : ImageValue) → image.workspace ≤ 512 → (states : List (Option State)) →
    length states ≤ 2 ^ 32 → table_of states ≡ first_table image → HasPlacedStates image (table_of states) →
    1 + table_height image states ≤ 2 ^ 100
first_left image small states few is placed = let most = most_left image small states light in omega (arith, most, few)
  where
    entry_words : HasWords (entry image)
    entry_words = record { a = tt; b = tt; c = tt }

    by_place : (x : ℕ) (s : State) → (b : Bool) → (if b then Some (entry image) else None) ≡ Some s → entry image ≡ s
    by_place x s true e = same_Some _ _ e
    by_place x s false e = absurd cc

    light : (x : ℕ) (s : State) → table_of states x ≡ Some s → state_height s ≤ 2 ^ 36
    light x s there =
        let same : entry image ≡ s = by_place x s (x == 0) (sym (ap (λ (t : Table). t x) is) ∙ there) in
        let less = state_light image s (subst HasWords same entry_words) (placed x s there).sized in
        omega (arith, less, small)

-- what a pass has left, where it was given all of a vector
pub left_there : (items new : List (Option State)) (n : ℕ) → length items ≡ n → length new ≡ length items → take n (new ++ drop (length new) items) ≡ new
left_there items new n whole long = written items new n (sym whole) long

pub fewer_left : (image : ImageValue) (was changed : Bool) (old new now : List (Option State)) → was ≡ true →
    now ≡ new → Moves image changed old new → left_of image changed now < left_of image was old
fewer_left image was true old new now is same moves = rw (is, same) (omega (arith, moves.falls refl))
fewer_left image was false old new now is same moves = rw is (omega arith)

pub is_settled : (image : ImageValue) (cuts : List Cut) (counted : ℕ) (states : Table) →
    IsBefore image cuts counted states → pass image cuts states ≡ Ok states → (table : Table) ×
    IsVerdict image cuts (Ok table)
is_settled image cuts counted states before stays = (states, record { number = counted; arrives = before; stays = stays })

-- a step after others
pub moves_on : (image : ImageValue) (moved more : Bool) (first then_ last : List (Option State)) → Moves image moved first then_ → Moves image more then_ last → Moves image (moved || more) first last
moves_on image true true first then_ last m n = record { sized = n.sized ∙ m.sized; stays = λ e. absurd (cc); falls = λ _. omega (arith, m.falls refl, n.falls refl) }
moves_on image true false first then_ last m n = record {
  sized = n.sized ∙ m.sized;
  stays = λ e. absurd (cc);
  falls = λ _. (let e = ap (table_height image) (n.stays refl) in omega (arith, m.falls refl, e));
}
moves_on image false true first then_ last m n = record {
  sized = n.sized ∙ m.sized;
  stays = λ e. absurd (cc);
  falls = λ _. (let e = ap (table_height image) (m.stays refl) in omega (arith, n.falls refl, e));
}
moves_on image false false first then_ last m n = record { sized = n.sized ∙ m.sized; stays = λ _. n.stays refl ∙ m.stays refl; falls = λ e. absurd (cc) }
