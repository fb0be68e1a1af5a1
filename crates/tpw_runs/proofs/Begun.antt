-- Batches that may begin.
use Rattle.std.proofs.Common.{◌≡◌, ℕ, ◌+◌, ◌*◌, ◌≤◌, nat_eq, nat_lt, not, true, false, cond, suc, List, [], ◌∷◌, length, position, All, Some, None, refl, ap, ◌∙◌, arith, eq-eqb}
use Rattle.std.specs.List.{position_or_len}
use Rattle.std.proofs.lemmas.Bool.Decides.{nat_tests}
use Rattle.std.proofs.lemmas.List.{length-map}
use Rattle.std.proofs.lemmas.List.Elements.{All-head, All-rest, All-map}
use Rattle.tp_collect.specs.Collected.{JobValue}
use Rattle.tp_farm.specs.Refused.{job_fault}
use Rattle.tp_farm.specs.declared.job.Job.{Job}
use Rattle.tp_farm.specs.Jobs.{value_of_job}

all_before : (n : ℕ) (packets : List (List ℕ)) → All (λ p. length p ≡ n) packets
    → position_or_len (λ p. not (nat_eq (length p) n)) packets ≡ length packets
all_before n [] whole = refl
all_before n (p ∷ packets) whole =
    let first : nat_eq (length p) n ≡ true = eq-eqb (length p) n (All-head (λ q. length q ≡ n) p packets whole) in
    let one : 1 + length packets ≡ suc (length packets) = omega arith in
    ap (λ b. cond (not (not b)) (1 + position_or_len (λ q. not (nat_eq (length q) n)) packets) 0) first
    ∙ ap (λ m. 1 + m) (all_before n packets (All-rest (λ q. length q ≡ n) p packets (p ∷ packets) refl whole)) ∙ one

none_other : (n : ℕ) (packets : List (List ℕ)) → All (λ p. length p ≡ n) packets
    → position (λ p. not (nat_eq (length p) n)) packets ≡ None
none_other n packets whole =
    let test : nat_lt (length packets) (length packets) ≡ false = grind (arith, nat_tests) in
    ap (λ m. cond (nat_lt m (length packets)) (Some m) None) (all_before n packets whole)
    ∙ ap (λ b. cond b (Some (length packets)) None) test

may_begin : (members : ℕ) (batch : JobValue) → 1 ≤ members → members ≤ 64 → length batch.packets ≤ 1024
    → All (λ p. length p ≡ 4 * batch.image.packet) batch.packets → job_fault members batch ≡ None
may_begin members batch least most few whole =
    let some : nat_eq members 0 ≡ false = grind (arith, nat_tests) in
    let enough : nat_lt 64 members ≡ false = grind (arith, nat_tests) in
    let room : nat_lt 1024 (length batch.packets) ≡ false = grind (arith, nat_tests) in
    rw (some, enough, room, none_other (4 * batch.image.packet) batch.packets whole) refl

pub job_begins : (members : ℕ) (job : Job) → 1 ≤ members → members ≤ 64 → length job.packets.now ≤ 1024
    → All (λ p. length p.items ≡ 4 * job.image.now.image.packet) job.packets.now → job_fault members (value_of_job job) ≡ None
job_begins members job least most few whole =
    may_begin members (value_of_job job) least most (omega (arith, length-map job.packets.now (λ p. p.items), few))
    (All-map (λ p. length p ≡ 4 * job.image.now.image.packet) (λ p. p.items) job.packets.now whole)
