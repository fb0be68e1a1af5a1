-- What a draft comes to does not depend on where its text lies in memory.
use Rattle.std.proofs.Common.{◌≡◌, ℕ, List, [], ◌∷◌, ◌++◌, map, Result, Ok, refl, sym, ap, ◌∙◌}
use Rattle.std.specs.Option.{ok_or}
use Rattle.tpw_asm.specs.declared.program.Operation.TheVariants as operation
use Rattle.tpw_asm.specs.declared.program.Line.TheVariants.{Spelled}
use Rattle.tpw_asm.specs.declared.program.Spot.TheVariants as spot
use Rattle.tpw_text.specs.declared.words.Word.{Word}
use Rattle.tpw_text.specs.declared.fault.SourceFault.{SourceFault}
use Rattle.tpw_text.specs.declared.fault.TextFault.TheVariants.{NoLabel}
use Rattle.tpw_text.specs.declared.draft.DraftLine.{DraftLine}
use Rattle.tpw_text.specs.declared.draft.DraftLine.TheVariants.{Known, Jump, Cj, Distance}
use Rattle.tpw_text.specs.declared.draft.Target.{Target}
use Rattle.tpw_text.specs.declared.draft.Target.TheVariants.{Label as Named, Address}
use Rattle.tpw_text.specs.declared.draft.LabelName.{LabelName}
use Rattle.tpw_text.specs.declared.draft.Row.{Row}
use Rattle.tpw_text.specs.Faults.{fault_at, then_read, each_read}
use Rattle.tpw_text.specs.Drafts.{Said}
use Rattle.tpw_text.specs.Programs.{place_of_label, line_placed, spot_placed, loop_placed, program_of, label_listed}
use Rattle.tpw_text.specs.Programs.{labels_listed, finished}
use Rattle.tpw_text.specs.Apart.{word_apart, line_apart, target_apart, label_apart, row_apart, draft_apart}
use Rattle.tpw_text.specs.Texts.{text_said, source_of}
use Rattle.tpw_text.proofs.Apart.{then_same}
use Rattle.tpw_text.proofs.Additions.{place}

place_is : (labels : List LabelName) (w : Word) → place_of_label (map label_apart labels) (word_apart w) ≡ place_of_label labels w
unfolding place_of_label
place_is labels w = ap (λ o. ok_or o (fault_at w NoLabel)) (place labels w)

line_is : (labels : List LabelName) (line : DraftLine) → line_placed (map label_apart labels) (line_apart line) ≡ line_placed labels line
unfolding line_placed
line_is labels (Known line) = refl
line_is labels (Jump to bytes) = ap (λ r. then_read r (λ at. Ok (Spelled (operation.JumpTo at) bytes))) (place_is labels to)
line_is labels (Cj to bytes) = ap (λ r. then_read r (λ at. Ok (Spelled (operation.CjTo at) bytes))) (place_is labels to)
line_is labels (Distance to from bytes) =
    ap (λ r. then_read r (λ first. then_read (place_of_label (map label_apart labels) (word_apart to)) (λ last. Ok (Spelled (operation.Distance first last) bytes)))) (place_is labels from)
    ∙ ap (λ r. then_read (place_of_label labels from) (λ first. then_read r (λ last. Ok (Spelled (operation.Distance first last) bytes)))) (place_is labels to)

spot_is : (labels : List LabelName) (t : Target) → spot_placed (map label_apart labels) (target_apart t) ≡ spot_placed labels t
unfolding spot_placed
spot_is labels (Named label) = ap (λ r. then_read r (λ at. Ok (spot.Place at))) (place_is labels label)
spot_is labels (Address at) = refl

loop_is : (labels : List LabelName) (row : Row) → loop_placed (map label_apart labels) (row_apart row) ≡ loop_placed labels row
unfolding loop_placed
loop_is labels row = then_same (spot_placed labels row.head) _ _ (spot_is labels row.head) (λ head. then_same (spot_placed labels row.lend) _ _ (spot_is labels row.lend) (λ lend. refl))

each_is : {A B : Type 0} (view : A → A) (read read' : A → Result B SourceFault) → ((x : A) → read' (view x) ≡ read x) → (xs : List A) → each_read read' (map view xs) ≡ each_read read xs
each_is view read read' same [] = refl
each_is view read read' same (x ∷ xs) = then_same (read x) _ _ (same x) (λ y. then_same (each_read read xs) _ _ (each_is view read read' same xs) (λ ys. refl))

labels_are : (labels : List LabelName) → labels_listed (map label_apart labels) ≡ labels_listed labels
unfolding label_listed
labels_are [] = refl
labels_are (n ∷ labels) = ap (λ more. label_listed n ++ more) (labels_are labels)

program_is : (d : Said) → program_of (draft_apart d) ≡ program_of d
unfolding program_of
program_is d =
    then_same (each_read (line_placed d.labels) d.lines) _ _ (each_is line_apart (line_placed d.labels) (line_placed (map label_apart d.labels)) (line_is d.labels) d.lines) (λ lines.
    then_same (each_read (loop_placed d.labels) d.rows) _ _
    (each_is row_apart (loop_placed d.labels) (loop_placed (map label_apart d.labels)) (loop_is d.labels) d.rows) (λ loops. refl))

pub finished_apart : (d : Said) → finished (draft_apart d) ≡ finished d
unfolding finished
finished_apart d =
    then_same (program_of d) _ _ (program_is d) (λ program.
    ap (λ listed. Ok (record { program = program; positions = d.positions; labels = listed })) (labels_are d.labels))

-- where a text says a draft, its source is what that comes to
pub source_is : (text : List ℕ) (d : Said) → text_said text ≡ Ok (draft_apart d) → finished d ≡ source_of text
source_is text d is = sym (ap (λ r. then_read r finished) is ∙ finished_apart d)
