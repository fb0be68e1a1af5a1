-- A packet's run carries what the symbolic machine does with it.
use Rattle.std.proofs.Common.{◌≡◌, ◌⊎◌, inl, inr, ℕ, ◌+◌, ◌-◌, ◌*◌, ◌<◌, ◌≤◌, true, false, pos, List, [], length, map}
use Rattle.std.proofs.Common.{slice_index_or, Option, Some, None, refl, ap, sym, ◌∙◌, arith, w32}
use Rattle.std.specs.Prelude.{flat_map}
use Rattle.std.specs.Int.{to_le_bytes}
use Rattle.std.proofs.lemmas.Bool.{cases_lt}
use Rattle.std.proofs.lemmas.Option.{same_Some}
use Rattle.std.proofs.lemmas.List.{length-map, get_or-map}
use Rattle.tp_image.specs.Image.{ImageValue}
use Rattle.tp_step.specs.Memory.{nothing_defined, with_cells, with_bytes as with_bytes_at}
use Rattle.tp_step.specs.State.{mem_start}
use Rattle.tp_step.specs.Runs.{start, first_words, Run, RunsAlone}
use Rattle.tp_step.proofs.MemoryLemmas.{cell_in, cell_below, cell_above}
use Rattle.tp_step.proofs.StepLemmas.{ends_in}
use Rattle.tpw_occam_symbolic.specs.declared.items.Item.{Item}
use Rattle.tpw_occam_symbolic.specs.Symbolic.{Machine, Leads}
use Rattle.tpw_occam_symbolic.specs.MatchStates.{Site, address_of, base_of, LiesIn, Agrees, MatchStates}
use Rattle.tpw_occam_symbolic.proofs.SimulationRuns.{end_carries}

-- the bytes that a workspace begins with
abbrev pub first_bytes : ImageValue → List ℕ
first_bytes image = flat_map (to_le_bytes w32) (first_words image)

-- a machine before the first line, with a packet to come
pub record IsFirst (image : ImageValue) (site : Site) (packet : List ℕ) (m : Machine) : Type 0 where
  pub code : m.code ≡ site.code
  pub sizes : m.sizes ≡ site.sizes
  pub place : m.place ≡ 0
  pub address : address_of site 0 ≡ 0
  pub wptr : site.wptr ≡ mem_start + 4 * image.start
  pub blocks : (item : Item) (k : ℕ) → k < site.sizes item
      → m.blocks item k ≡ slice_index_or (first_bytes image) (base_of site item + k - mem_start) 0
  pub error : m.error ≡ false
  pub stopped : m.stopped ≡ false
  pub to_come : m.to_come ≡ packet
  pub sent : m.sent ≡ []
  pub traced : m.traced ≡ []

none_first : (byte : ℕ) → None ≡ Some byte → ⊥
none_first byte e = cc

-- a byte that bytes leave where nothing was
byte_first : (bytes : List ℕ) (a x byte : ℕ) → with_cells nothing_defined a (map Some bytes) x ≡ Some byte
    → byte ≡ slice_index_or bytes (x - a) 0
byte_first bytes a x byte is = by_side (cases_lt x a) (cases_lt x (a + length (map {B = Option ℕ} Some bytes)))
  where
    by_side : (x < a) ⊎ (a ≤ x) → (x < a + length (map {B = Option ℕ} Some bytes)) ⊎ (a + length (map {B = Option ℕ} Some bytes) ≤ x)
        → byte ≡ slice_index_or bytes (x - a) 0
    by_side (inl below) side = absurd (none_first byte (sym (cell_below nothing_defined a (map Some bytes) x below) ∙ is))
    by_side (inr from) (inr above) = absurd (none_first byte (sym (cell_above nothing_defined a (map Some bytes) x above) ∙ is))
    by_side (inr from) (inl to) =
        let long : length (map {B = Option ℕ} Some bytes) ≡ length bytes = length-map bytes Some in
        let read : slice_index_or (map Some bytes) (x - a) None ≡ Some (slice_index_or bytes (x - a) 0) =
        get_or-map Some bytes (x - a) 0 None (omega (arith, long, to, from)) in
        same_Some _ _ (sym is ∙ cell_in nothing_defined a (map Some bytes) x from to ∙ read)

agrees_first : (image : ImageValue) (site : Site) (packet : List ℕ) (m : Machine) → IsFirst image site packet m
    → Agrees site m.blocks (with_bytes_at nothing_defined mem_start (first_bytes image))
unfolding with_bytes_at
agrees_first image site packet m first item k byte h is =
    byte_first (first_bytes image) mem_start (base_of site item + k) byte is ∙ sym (first.blocks item k h)

pub start_carries : (image : ImageValue) (site : Site) (packet : List ℕ) (m : Machine) → IsFirst image site packet m
    → MatchStates site m (start image packet)
unfolding start
start_carries image site packet m first = record {
  code = first.code;
  sizes = first.sizes;
  place = ap pos (sym (ap (address_of site) first.place ∙ first.address));
  oreg = refl;
  wptr = sym first.wptr;
  areg = tt;
  breg = tt;
  creg = tt;
  memory = agrees_first image site packet m first;
  error = sym first.error;
  stopped = sym first.stopped;
  to_come = sym first.to_come;
  sent = sym first.sent;
  traced = sym first.traced;
}

-- a run gives what a machine leaves
pub record Gives (run : Run) (last : Machine) : Type 0 where
  pub result : run.result ≡ last.sent
  pub error : run.error ≡ last.error
  pub trace : run.trace ≡ last.traced

-- Where the symbolic machine stops, the packet's run alone gives what it leaves.
pub run_carries : (image : ImageValue) (site : Site) (packet : List ℕ) (run : Run) → LiesIn image site → RunsAlone image packet run
    → {m last : Machine} → IsFirst image site packet m → Leads m last → last.stopped ≡ true → Gives run last
run_carries image site packet run lies alone {m} {last} first way over =
    let end = ends_in image packet run alone in
    let is = end_carries image site lies way (start image packet) end.0 run.steps (start_carries image site packet m first) end.1.leads end.1.stopped over in
    record {
      result = ap (λ r. r.result) end.1.gives ∙ is.sent;
      error = ap (λ r. r.error) end.1.gives ∙ is.error;
      trace = ap (λ r. r.trace) end.1.gives ∙ is.traced;
    }
