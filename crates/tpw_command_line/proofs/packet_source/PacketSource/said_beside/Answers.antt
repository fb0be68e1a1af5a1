use Rattle.std.proofs.Common.{◌≡◌, ◌-◌, List, ℕ, map, string_bytes, length, Some, min, ap, sym, ◌∙◌, arith}
use Rattle.std.proofs.lemmas.List.{length-map}
use Rattle.tpw_command_line.specs.Asked.{InFile}
use Rattle.tpw_command_line.proofs.Origins.{before_file, within_file, behind_file}
use Rattle.tpw_command_line.proofs.packet_source.PacketSource.said_beside.Goals as goal

pub returns-then-number-before : goal.returns-then-number-before
returns-then-number-before c =
    let words : List (List ℕ) = map (λ w. string_bytes w) c.args.self.now.words.items in
    let a = c.args.file.now.after in
    let long : length words ≡ c.args.self.now.words.len =
    length-map c.args.self.now.words.items (λ w. string_bytes w) ∙ sym c.args.self.now.words.ok.0 in
    c.said.ensures
    ∙ sym (before_file words a (string_bytes c.args.file.now.name) (c.args.packets - length words) c.args.number
    (omega (arith, c.if-number-before.true, c.min-before.ensures, c.len.ensures, long)))

pub returns-then-number-before-2 : goal.returns-then-number-before-2
returns-then-number-before-2 c =
    let words : List (List ℕ) = map (λ w. string_bytes w) c.args.self.now.words.items in
    let a = c.args.file.now.after in
    let n = c.args.number - c.min-before.result in
    let long : length words ≡ c.args.self.now.words.len =
    length-map c.args.self.now.words.items (λ w. string_bytes w) ∙ sym c.args.self.now.words.ok.0 in
    let before : c.min-before.result ≡ min a (length words) = omega (arith, c.min-before.ensures, c.len.ensures, long) in
    ap (λ t. Some (InFile t n)) c.as_str.ensures.value
    ∙ sym (within_file words a (string_bytes c.args.file.now.name) (c.args.packets - length words) c.args.number n
    (omega (arith, c.if-number-before.false, before)) (omega (arith, before))
    (omega (arith, c.if-number-before-2.true, c.saturating_sub-in_file.ensures, c.len-2.ensures, long)))

pub returns-else-number-before-2 : goal.returns-else-number-before-2
returns-else-number-before-2 c =
    let words : List (List ℕ) = map (λ w. string_bytes w) c.args.self.now.words.items in
    let a = c.args.file.now.after in
    let long : length words ≡ c.args.self.now.words.len =
    length-map c.args.self.now.words.items (λ w. string_bytes w) ∙ sym c.args.self.now.words.ok.0 in
    let before : c.min-before.result ≡ min a (length words) = omega (arith, c.min-before.ensures, c.len.ensures, long) in
    let count : c.saturating_sub-in_file.result ≡ c.args.packets - length words =
    omega (arith, c.saturating_sub-in_file.ensures, c.len-2.ensures, long) in
    c.said-else-number-before-2.ensures
    ∙ sym (behind_file words a (string_bytes c.args.file.now.name) (c.args.packets - length words) c.args.number
    (c.args.number - c.saturating_sub-in_file.result) (omega (arith, c.if-number-before.false, before))
    (omega (arith, c.if-number-before-2.false, before, count)) (omega (arith, count)))
