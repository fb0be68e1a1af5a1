use Rattle.std.proofs.Common.{All, ◌≡◌, ◌==◌, ◌<◌, ◌*◌, not, position, length, Some, None, ℕ, sym, ap, ◌∙◌, arith}
use Rattle.std.specs.Option.{option_map}
use Rattle.std.proofs.lemmas.List.{length-map}
use Rattle.std.proofs.lemmas.List.Elements.{All-map}
use Rattle.tp_farm.specs.declared.fault.FarmFault.TheVariants.{Length}
use Rattle.tp_farm.specs.Jobs.{value_of_job}
use Rattle.tp_farm.specs.Refused.{first_other}
use Rattle.tp_farm.proofs.Beginning.{position-map, job_begins, first_whole}
use Rattle.tp_farm.proofs.batch.job_fault.Goals as goal

pub returns-in-Some-clause-fault : goal.returns-in-Some-clause-fault
returns-in-Some-clause-fault c =
    let less : length (value_of_job c.args.job.now).packets ≡ length c.args.job.now.packets.now =
    length-map c.args.job.now.packets.now (λ p. p.items) in
    let other : first_other (value_of_job c.args.job.now) ≡ Some c.in-Some.number =
    position-map (λ p. p.items) (λ packet. not (length packet == 4 * c.args.job.now.image.now.image.packet))
    c.args.job.now.packets.now
    ∙ ap (λ (n : ℕ). position (λ x. not (length x.items == n)) c.args.job.now.packets.now) (sym c.packet_bytes.ensures.value)
    ∙ sym c.first_other.ensures.value
    ∙ c.in-Some.is in
    sym (job_begins c.args.members (value_of_job c.args.job.now) c.if-members-eq0.false (omega (arith, c.if-members.false))
    (omega (arith, less, c.if-job.false)) ∙ ap (option_map Length) other)

pub returns-in-None-clause-fault : goal.returns-in-None-clause-fault
returns-in-None-clause-fault c =
    let less : length (value_of_job c.args.job.now).packets ≡ length c.args.job.now.packets.now =
    length-map c.args.job.now.packets.now (λ p. p.items) in
    let other : first_other (value_of_job c.args.job.now) ≡ None =
    position-map (λ p. p.items) (λ packet. not (length packet == 4 * c.args.job.now.image.now.image.packet))
    c.args.job.now.packets.now
    ∙ ap (λ (n : ℕ). position (λ x. not (length x.items == n)) c.args.job.now.packets.now) (sym c.packet_bytes.ensures.value)
    ∙ sym c.first_other.ensures.value
    ∙ c.in-None.is in
    sym (job_begins c.args.members (value_of_job c.args.job.now) c.if-members-eq0.false (omega (arith, c.if-members.false))
    (omega (arith, less, c.if-job.false)) ∙ ap (option_map Length) other)

pub returns-in-None-clause-whole : goal.returns-in-None-clause-whole
returns-in-None-clause-whole c none =
    let batch = value_of_job c.args.job.now in
    let packets = c.args.job.now.packets.now in
    let other : first_other batch ≡ None =
    position-map (λ p. p.items) (λ packet. not (length packet == 4 * c.args.job.now.image.now.image.packet)) packets
    ∙ ap (λ (n : ℕ). position (λ x. not (length x.items == n)) packets) (sym c.packet_bytes.ensures.value)
    ∙ sym c.first_other.ensures.value
    ∙ c.in-None.is in
    first_whole batch other (All-map (All (λ byte. byte < 256)) (λ p. p.items) packets (c.first_other.ensures.bytes c.in-None.is))
