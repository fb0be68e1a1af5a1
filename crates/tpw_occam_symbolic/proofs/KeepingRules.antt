-- The image that a program of code is assembled to keeps the rules on fields, instructions, loops and jumps.
use Rattle.std.proofs.Common.{◌≡◌, ℕ, zero, suc, ◌+◌, ◌*◌, ◌<◌, ◌≤◌, List, [], ◌∷◌, ◌++◌, length, map, slice_get, Some, inl, inr, refl, ap, sym, subst, ◌∙◌, arith, length-append}
use Rattle.std.specs.Prelude.{count_by}
use Rattle.std.proofs.lemmas.Option.{same_Some}
use Rattle.tp_decode.specs.declared.instr.Instr.TheVariants.{Lend, Stopp}
use Rattle.tp_decode.specs.Cutting.{IsCutting}
use Rattle.tp_image.specs.declared.image.LoopRow.{LoopRow}
use Rattle.tp_image.specs.Image.{ImageValue}
use Rattle.tp_step.specs.State.{mem_start}
use Rattle.tp_flow.specs.NestKept.{IsGood, KeepsNest}
use Rattle.tp_flow.proofs.FlowNest.{at_place}
use Rattle.tp_flow.proofs.FlowSpelled.{each_some}
use Rattle.tpw_asm.specs.declared.program.Program.{Program}
use Rattle.tpw_asm.specs.Layout.{addresses_from}
use Rattle.tpw_asm.specs.Assembly.{IsAssembly, row_of}
use Rattle.tpw_occam_core.specs.declared.worker.Worker.{Worker}
use Rattle.tpw_occam_symbolic.specs.declared.items.Item.TheVariants.{Variable}
use Rattle.tpw_occam_symbolic.specs.declared.items.Placed.{Placed}
use Rattle.tpw_occam_symbolic.specs.declared.code.Step.{Step}
use Rattle.tpw_occam_symbolic.specs.declared.code.Step.TheVariants.{Plain, Load, Store, Pointer, JumpTo, CjTo, Distance}
use Rattle.tpw_occam_symbolic.specs.declared.code.CodeLine.{CodeLine}
use Rattle.tpw_occam_symbolic.specs.declared.code.Turns.{Turns}
use Rattle.tpw_occam_symbolic.specs.Code.{Lines, line_of}
use Rattle.tpw_occam_symbolic.specs.Flowing.{GoesWell, FlowsOn, Ends, AreFewAround, is_around}
use Rattle.tpw_occam_symbolic.specs.Program.{KeepsRules, GivesRuled}
use Rattle.tpw_occam_symbolic.specs.MatchStates.{Site}
use Rattle.tpw_occam_symbolic.specs.Placing.{words_at, site_of, places, loop_at, IsRow, IsBuilt}
use Rattle.tpw_occam_symbolic.proofs.Flowing.{side_of}
use Rattle.tpw_occam_symbolic.proofs.SimulationImage.{IsMadeOf, workspace_most, small}
use Rattle.tpw_occam_symbolic.proofs.SimulationPlaces.{lies_between}
use Rattle.tpw_occam_symbolic.proofs.Beginning.{is_made_of}
use Rattle.tpw_occam_symbolic.proofs.Accepting.{cuts_from, is_cut, laid_out}
use Rattle.tpw_occam_symbolic.proofs.Nesting.{Way, stops, goes_on, jumps, branches, turns_back, IsInside, IsWhole, keeps_nest}

-- ---- code whose last line stops

module _ (before : Lines) (source : ℕ) (base : before.base ≡ 0) (flows : FlowsOn before) where
  abbrev last : CodeLine
  last = line_of source (Plain Stopp)

  abbrev all : List CodeLine
  all = before.lines ++ last ∷ []

  long : length all ≡ length before.lines + 1
  long = length-append before.lines (last ∷ [])

  way_of : (place : ℕ) (step : Step) → place < length before.lines → GoesWell before place step → Way all before.loops place step
  way_of place (JumpTo to) h well = jumps to well.forward (omega (arith, well.within, base, long)) well.keeps
  way_of place (CjTo to) h well = branches to well.forward (omega (arith, well.within, base, long)) well.keeps
  way_of place (Load item word) h well = goes_on (Load item word) refl (omega (arith, h, long))
  way_of place (Store item word) h well = goes_on (Store item word) refl (omega (arith, h, long))
  way_of place (Pointer item word) h well = goes_on (Pointer item word) refl (omega (arith, h, long))
  way_of place (Distance from to) h well = goes_on (Distance from to) refl (omega (arith, h, long))
  way_of place (Plain Lend) h well = turns_back well.number well.turns well.there well.ends (omega (arith, h, long))
  way_of place (Plain instr) h well = goes_on (Plain instr) well (omega (arith, h, long))

  ways : (place : ℕ) (line : CodeLine) → slice_get all place ≡ Some line → Way all before.loops place line.step
  ways place line there = elim (side_of before.lines (last ∷ []) place line there) [
    | inl h ↦
        let here : before.base + place ≡ place = omega (arith, base) in
        way_of place line.step h.0 (subst (λ p. GoesWell before p line.step) here (flows.steps place line h.1))
    | inr h ↦ at_last h.0 h.2
  ]
    where
      at_last : (k : ℕ) → slice_get (last ∷ []) k ≡ Some line → Way all before.loops place line.step
      at_last zero is = subst (λ (l : CodeLine). Way all before.loops place l.step) (same_Some _ _ is) stops
      at_last (suc k) is = cc

  inside : (i : ℕ) (turns : Turns) → slice_get before.loops i ≡ Some turns → IsInside all turns
  inside i turns is =
      let t = flows.loops i turns is in
      record {
        later = omega (arith, t.later);
        body = t.body;
        within = omega (arith, t.within, base, long);
        lend = λ line there. elim (side_of before.lines (last ∷ []) turns.lend line there) [
          | inl h ↦ t.lend line turns.lend (omega (arith, base)) h.1
          | inr h ↦ absurd (omega (arith, h.1, t.within, base))
        ];
      }

  whole : IsWhole all before.loops
  whole = record { ways = ways; inside = inside; nested = flows.nested }

whole_of : (code : Lines) → code.base ≡ 0 → Ends code → IsWhole code.lines code.loops
whole_of code base ends =
    let P : Lines → Type 0 = λ c. IsWhole c.lines c.loops in
    subst P (sym ends.is) (whole ends.before ends.source (ap (λ (c : Lines). c.base) (sym ends.is) ∙ base) ends.flows)

-- ---- images

map_twice : {A B C : Type 0} (f : B → C) (g : A → B) (xs : List A) → map f (map g xs) ≡ map (λ x. f (g x)) xs
map_twice f g [] = refl
map_twice f g (x ∷ xs) = ap (λ ys. f (g x) ∷ ys) (map_twice f g xs)

module _ (w : Worker) (code : Lines) (placed : List Placed) (program : Program) (built : IsBuilt w code placed program)
    (base : code.base ≡ 0) (ends : Ends code) (few : AreFewAround code.loops) (image : ImageValue) (is : IsAssembly program image) where
  abbrev site : Site
  site = site_of code.lines (addresses_from 0 is.lengths) (mem_start + 4 * image.start) placed

  made : IsMadeOf program site
  made = is_made_of w code placed program (addresses_from 0 is.lengths) (mem_start + 4 * image.start) built

  abbrev row : Turns → LoopRow
  row turns = row_of (addresses_from 0 is.lengths) (loop_at (places placed) program.start turns)

  rows : image.loops ≡ map row code.loops
  rows = ap (λ (i : ImageValue). i.loops) is.said ∙ ap (map (row_of (addresses_from 0 is.lengths))) built.loops
      ∙ map_twice (row_of (addresses_from 0 is.lengths)) (loop_at (places placed) program.start) code.loops

  good : (i : ℕ) (turns : Turns) → slice_get code.loops i ≡ Some turns → IsGood image.workspace (row turns)
  good i turns there =
      let r = at_place (IsRow placed) code.loops i turns built.rows there in
      let some : 0 < words_at placed (Variable turns.index) = omega (arith, r.room) in
      let lies = lies_between 0 built.most placed (Variable turns.index) built.between some in
      let workspace : image.workspace ≡ program.workspace = ap (λ (i : ImageValue). i.workspace) is.said in
      let room = built.room (omega (arith, workspace, workspace_most image.version image.workspace is.in_range.workspace.1)) in
      record {
        block = omega (arith, lies.1, r.room, room, workspace);
        turns_least = r.turns.some;
        turns_most = r.turns.few;
        ends = r.turns.ends;
      }

  cutting : IsCutting image.code (cuts_from site 0 code.lines)
  cutting = is_cut program image is site made refl

  nest : KeepsNest image.loops image.workspace (cuts_from site 0 code.lines)
  nest = subst (λ rs. KeepsNest rs image.workspace (cuts_from site 0 code.lines)) (sym rows)
      (keeps_nest site (laid_out program image is site made refl) code.loops (whole_of code base ends) (small program image is site made refl) row (λ turns. refl)
      image.workspace good (λ i turns there. at_place (λ t. count_by (is_around t) code.loops ≤ 3) code.loops i turns few there) (each_some (cuts_from site 0 code.lines) cutting.each))

  keeps : KeepsRules image
  keeps = record { in_range = is.in_range; cuts = cuts_from site 0 code.lines; cutting = cutting; nest = nest }

pub built_keeps : (w : Worker) (code : Lines) (placed : List Placed) (program : Program) → IsBuilt w code placed program → code.base ≡ 0 → Ends code → AreFewAround code.loops
    → GivesRuled program
built_keeps w code placed program built base ends few image is = keeps w code placed program built base ends few image is
