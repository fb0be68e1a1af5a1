use Rattle.std.proofs.Common.{◌≡◌, ℕ, ◌*◌, List, length, take, drop, refl, ap, ◌∙◌, arith}
use Rattle.std.specs.List.{flat_map}
use Rattle.tp_image.specs.Image.{ImageValue}
use Rattle.tp_image.specs.Text.{IsTextOf}
use Rattle.tp_image.specs.Layout.{header_bytes}
use Rattle.tp_image.proofs.Headers.{passes_size}
use Rattle.tp_image.proofs.Cuts.{IsTextOf-cuts}
use Rattle.tp_image.proofs.read.image_of.Goals as goal

pub split_at-requires-2 : goal.split_at-requires-2
split_at-requires-2 c =
    let size = passes_size c.args.header.now (length c.args.bytes.now) c.requires.passes in
    omega arith

pub split_at-requires-3 : goal.split_at-requires-3
split_at-requires-3 c =
    let size = passes_size c.args.header.now (length c.args.bytes.now) c.requires.passes in
    omega arith

-- the fields that were read, as a value
abbrev image : goal.In_ok-from_slice → ImageValue
image c = record {
  version = c.args.header.now.version;
  workspace = c.args.header.now.workspace;
  start = c.args.header.now.start;
  packet = c.args.header.now.packet;
  result = c.args.header.now.result;
  loops = c.in_ok-rows_of.field-0.items;
  initial = c.in_ok-words_of.field-0.items;
  code = c.in_ok-from_slice.field-0.items;
}

is_text : (c : goal.In_ok-from_slice) → IsTextOf c.args.bytes.now (image c)
is_text c =
    let h = c.args.header.now in
    let table = c.split_at-2.result.0.now in
    let words = c.split_at-3.result.0.now in
    let code = c.split_at-3.result.1.now in
    let body : c.split_at.result.1.now ≡ drop (header_bytes h.version) c.args.bytes.now = c.split_at.ensures.back ∙ ap (λ (n : ℕ). drop n c.args.bytes.now) c.header_bytes.ensures in
    let loops : 12 * c.args.header.now.loops ≡ 12 * h.loops = omega arith in
    let initial : 4 * c.args.header.now.initial ≡ 4 * h.initial = omega arith in
    let table_is : table ≡ take (12 * h.loops) (drop (header_bytes h.version) c.args.bytes.now) = c.split_at-2.ensures.front ∙ rw (loops, body) refl in
    let rest : c.split_at-2.result.1.now ≡ drop (12 * h.loops) (drop (header_bytes h.version) c.args.bytes.now) = c.split_at-2.ensures.back ∙ rw (loops, body) refl in
    IsTextOf-cuts h c.args.bytes.now table words code (image c) (λ i. omega (arith, c.type_inv.bytes i)) c.requires
    record {
      table_is = table_is;
      words_is = c.split_at-3.ensures.front ∙ rw (initial, rest) refl;
      code_is = c.split_at-3.ensures.back ∙ rw (initial, rest) refl;
    }
    record {
      version = refl;
      workspace = refl;
      start = refl;
      packet = refl;
      result = refl;
      loops = c.in_ok-rows_of.ensures.text ∙ ap (flat_map (λ (piece : List ℕ). piece)) c.as_chunks.ensures.front;
      loops_count = c.in_ok-rows_of.ensures.count ∙ c.as_chunks.ensures.front_len;
      initial = c.in_ok-words_of.ensures.text ∙ ap (flat_map (λ (piece : List ℕ). piece)) c.as_chunks-2.ensures.front;
      initial_count = c.in_ok-words_of.ensures.count ∙ c.as_chunks-2.ensures.front_len;
      code_is = c.in_ok-from_slice.ensures.items;
      rows_in_range = c.in_ok-rows_of.ensures.in_range;
      words_in_range = c.in_ok-words_of.ensures.in_range;
    }

pub invariant_of-result : goal.invariant_of-result
invariant_of-result c = (is_text c).0

pub returns : goal.returns
returns c = is_text c
