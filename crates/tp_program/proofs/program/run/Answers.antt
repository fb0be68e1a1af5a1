use Rattle.std.proofs.Common.{◌≡◌, ◌∙◌, ℕ, List, Option, map, string_bytes, Err, ap, sym, subst, refl}
use Rattle.std.specs.Vec.Iter.{into_iter_items}
use Rattle.std.specs.IoError.{error_kind}
use Rattle.std.proofs.lemmas.Result.{IfOk-weaker, IfErr-weaker}
use Rattle.clap.specs.Words.{Text, fault_of}
use Rattle.tp_program.specs.CommandLine.{farmd}
use Rattle.tp_session.specs.declared.fault.ServeFault.TheVariants.{Memory}
use Rattle.tp_program.specs.declared.ending.Ending.TheVariants.{Fault}
use Rattle.tp_program.specs.Program.{Performs}
use Rattle.tp_program.specs.Endings.{ending_without, IsEndingBy}
use Rattle.tp_program.proofs.Performing.{ended, did_nothing}
use Rattle.tp_program.proofs.program.run.Goals as goal

-- what is done with some words is done with the same words
same_words : (words given : List Text) → words ≡ given → (input left old new errors errors' : Option (List ℕ)) (status : ℕ)
    → Performs words input left old new errors errors' status → Performs given input left old new errors errors' status
same_words words given is input left old new errors errors' status done =
    subst (λ l. Performs l input left old new errors errors' status) is done

pub returns-in-Ok : goal.returns-in-Ok
returns-in-Ok g c = record {
  words = IfOk-weaker c.args.words _ _
      (λ given is. same_words (map string_bytes c.deref.result.now) (map string_bytes (into_iter_items given))
      (ap (map string_bytes) (c.deref.ensures.value ∙ is)) _ _ _ _ _ _ _ c.run_words.ensures) c.in-Ok.ensures.words;
  none = IfErr-weaker c.args.words _ _ (λ error is. cc) c.in-Ok.ensures.none;
}

pub returns-in-Err : goal.returns-in-Err
returns-in-Err g c = record {
  words = IfOk-weaker c.args.words (λ given. c.in-Err.ending ≡ Fault Memory) _
      (λ given is. ended (map string_bytes (into_iter_items given)) _ _ _ _ _ c.in-Err.ending
      (subst (IsEndingBy (fault_of farmd (map string_bytes (into_iter_items given)))) (sym is) refl) _ c.conclude.ensures)
      c.in-Err.ensures.want;
  none = IfErr-weaker c.args.words _ _
      (λ error is. did_nothing (error_kind error) _ _ _ _ _ c.in-Err.ending
      (let same : c.in-Err.ending ≡ ending_without (error_kind error) = cc in same) _ c.conclude.ensures) c.in-Err.ensures.none;
}
