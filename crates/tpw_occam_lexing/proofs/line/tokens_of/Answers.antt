use Rattle.std.proofs.Common.{◌≡◌, ◌∙◌, sym, ap, subst, ◌<◌, ◌-◌, List, length, drop, ℕ, rules, arith, length-drop}
use Rattle.std.proofs.lemmas.Grind.{common_steps}
use Rattle.std.specs.declared.vec.Vec.{Vec}
use Rattle.std.specs.declared.alloc.Global.{Global}
use Rattle.std.specs.Str.{IsCharBoundary, IsUtf8}
use Rattle.std.proofs.lemmas.Str.{IsUtf8-drop}
use Rattle.tpw_occam_lexing.specs.declared.token.Item.{Item}
use Rattle.tpw_occam_lexing.specs.Lines.{lexemes}
use Rattle.tpw_occam_lexing.proofs.Lines.{one_more_item, same_items}
use Rattle.tpw_occam_lexing.proofs.line.tokens_of.Goals as goal
use Rattle.tpw_occam_lexing.proofs.line.tokens_of.Goals.{in-Space, in-Lexeme+in_ok-push-in-Lexeme}

pub items-init : goal.items-init
items-init c = record { utf8 = c.utf8.text; read = first_of (search rules, grind (arith, common_steps)) }

pub front_of-requires-text-rest : goal.front_of-requires-text-rest
front_of-requires-text-rest c = λ _. c.items.invariant.utf8

pub split_at-requires : goal.split_at-requires
split_at-requires c = elim c.match-front_of.branch [
  | in-Space w ↦ subst (λ (n : ℕ). IsCharBoundary c.items.rest.now n) (sym w.width-is) w.in-Space.ensures.cut.1
  | in-Lexeme+in_ok-push-in-Lexeme w ↦ subst (λ (n : ℕ). IsCharBoundary c.items.rest.now n) (sym w.width-is) w.in-Lexeme.ensures.cut.1
]

pub items-preserved : goal.items-preserved
items-preserved c = record {
  utf8 =
      let cut : IsCharBoundary c.items.rest.now c.match-front_of.width = elim c.match-front_of.branch [
        | in-Space w ↦ subst (λ (n : ℕ). IsCharBoundary c.items.rest.now n) (sym w.width-is) w.in-Space.ensures.cut.1
        | in-Lexeme+in_ok-push-in-Lexeme w ↦ subst (λ (n : ℕ). IsCharBoundary c.items.rest.now n) (sym w.width-is) w.in-Lexeme.ensures.cut.1
      ] in
      subst IsUtf8 (sym c.split_at.ensures.back) (IsUtf8-drop c.items.rest.now c.match-front_of.width c.items.invariant.utf8 cut);
  read = elim c.match-front_of.branch [
    | in-Space w ↦
        same_items (lexemes 0 c.args.text.now) c.items.items.items c.match-front_of.items.items (lexemes 0 c.items.rest.now) (lexemes 0 c.split_at.result.1.now)
        c.items.invariant.read
        (w.in-Space.ensures.whole ∙ ap (λ (n : ℕ). lexemes 0 (drop n c.items.rest.now)) (sym w.width-is) ∙ ap (λ (l : List ℕ). lexemes 0 l) (sym c.split_at.ensures.back))
        (ap (λ (v : Vec Item Global). v.items) w.items-is)
    | in-Lexeme+in_ok-push-in-Lexeme w ↦
        one_more_item (lexemes 0 c.args.text.now) c.items.items.items c.match-front_of.items.items _ (lexemes 0 c.items.rest.now) (lexemes 0 c.split_at.result.1.now)
        c.items.invariant.read
        (rw (c.split_at.ensures.back, w.width-is) w.in-Lexeme.ensures.whole)
        (ap (λ (v : Vec Item Global). v.items) w.items-is ∙ w.in_ok-push-in-Lexeme.ensures.items)
  ];
}

pub items-smaller : goal.items-smaller
items-smaller c =
    let some : 0 < c.match-front_of.width = elim c.match-front_of.branch [
      | in-Space w ↦ omega (arith, w.width-is)
      | in-Lexeme+in_ok-push-in-Lexeme w ↦ let some = w.in-Lexeme.ensures.cut.0 in omega (arith, w.width-is, some)
    ] in
    let there : 0 < length c.items.rest.now = elim c.match-front_of.branch [
      | in-Space w ↦ w.in-Space.ensures.cut.0
      | in-Lexeme+in_ok-push-in-Lexeme w ↦
          let some = w.in-Lexeme.ensures.cut.0 in let fits = w.in-Lexeme.ensures.cut.1.0 in omega (arith, some, fits)
    ] in
    let behind : length c.split_at.result.1.now ≡ length c.items.rest.now - c.match-front_of.width =
    ap length c.split_at.ensures.back ∙ length-drop c.match-front_of.width c.items.rest.now in
    omega (arith, some, there, behind)
