-- What the program has done, by how it ends.
use Rattle.std.proofs.Common.{◌≡◌, ◌⊎◌, ℕ, List, [], take, Option, Result, Ok, Err, OnOk, inl, inr, refl, sym, subst, ◌∙◌, arith}
use Rattle.std.specs.Io.KnownBytes.{Appends}
use Rattle.std.specs.declared.io.ErrorKind.{ErrorKind as IoKind}
use Rattle.std.specs.declared.io.ErrorKind.TheVariants.{OutOfMemory}
use Rattle.clap.specs.Words.{Text, IsAmong, fault_of, kind_of}
use Rattle.tp_program.specs.CommandLine.{farmd, AsksFor}
use Rattle.tp_program.specs.declared.chosen.Options.{Options}
use Rattle.tp_session.specs.declared.fault.ServeFault.{ServeFault}
use Rattle.tp_session.specs.declared.fault.ServeFault.TheVariants.{Read, Write, Memory, Thread}
use Rattle.tp_session.specs.Served.{ServesAll, ServesRead, ServesBefore, ServesSome}
use Rattle.tp_program.specs.declared.ending.Ending.{Ending}
use Rattle.tp_program.specs.declared.ending.Ending.TheVariants.{Shown, Refused, NotText, Fault}
use Rattle.tp_program.specs.Program.{has_trace_flag, status_of, report_text, Performs, EndsWordless, DoesNothing}
use Rattle.tp_program.specs.Endings.{ending_without, Reports, IsConcluded, IsEndingBy}
use Rattle.tp_program.proofs.Unserved.{nothing_served}

module _ (words : List Text) where
  -- the members have served
  pub served : (input left old new errors errors' : Option (List ℕ)) (asked : Options) → AsksFor words asked → fault_of farmd words ≡ []
      → (r : Result (Unit {0}) ServeFault) → OnOk r (ServesAll asked.trace input left old new)
      → (r ≡ Err Read → ServesRead asked.trace input left old new)
      → ((r ≡ Err Memory) ⊎ (r ≡ Err Thread) → ServesBefore asked.trace input left old new)
      → (r ≡ Err Write → ServesSome asked.trace input old new) → (status : ℕ) → status ≡ status_of r
      → (some : ℕ) → Appends errors errors' (take some (report_text r)) → Performs words input left old new errors errors' status
  served input left old new errors errors' asked asks none r all read want write status is some reports = record {
    serves = λ _. record {
      result = r;
      all = subst (λ trace. OnOk r (ServesAll trace input left old new)) asks.trace all;
      read = λ e. subst (λ trace. ServesRead trace input left old new) asks.trace (read e);
      want = λ e. subst (λ trace. ServesBefore trace input left old new) asks.trace (want e);
      write = λ e. subst (λ trace. ServesSome trace input old new) asks.trace (write e);
      status_is = is;
      some = some;
      reports = reports;
    };
    other = λ faults. absurd (faults none);
    refused = λ two. absurd (never_two r (sym is ∙ two));
  }
    where
      never_two : (r : Result (Unit {0}) ServeFault) → status_of r ≡ 2 → ⊥
      never_two (Ok u) two = cc
      never_two (Err e) two = cc

  -- nothing was served
  pub ended : (input old new errors errors' : Option (List ℕ)) (ending : Ending) → IsEndingBy (fault_of farmd words) ending → (status : ℕ)
      → IsConcluded ending old new errors errors' status → Performs words input input old new errors errors' status
  ended input old new errors errors' (Shown error) by status is = record {
    serves = λ none. absurd (subst (λ kinds. IsAmong (kind_of error) kinds) none by.0);
    other = λ faults.
        elim is [
          | inl shown ↦ (let zero = shown.0 in record {
            status_is = inl (kind_of error, by.0, shown.0 ∙ sym by.1);
            unread = refl;
            silent = λ _. shown.1;
            reports = λ one. absurd (omega arith);
          })
          | inr failed ↦ (let one = failed.0 in let written : Reports errors errors' Write = failed.1 in record {
            status_is = inr failed.0;
            unread = refl;
            silent = λ zero. absurd (omega arith);
            reports = λ _. (Write, written.0, written.1);
          })
        ];
    refused = λ two.
        elim is [
          | inl shown ↦ (let zero = shown.0 in absurd (omega arith))
          | inr failed ↦ (let one = failed.0 in absurd (omega arith))
        ];
  }
  ended input old new errors errors' (Refused error) by status is =
      let refusal = is.0 in
      record {
        serves = λ none. absurd (subst (λ kinds. IsAmong (kind_of error) kinds) none by.0);
        other = λ faults. record {
          status_is = inl (kind_of error, by.0, is.0 ∙ sym by.1);
          unread = refl;
          silent = λ zero. absurd (omega arith);
          reports = λ one. absurd (omega arith);
        };
        refused = λ two. is.1;
      }
  ended input old new errors errors' (Fault fault) by status is =
      let one = is.0 in
      let written : Reports errors errors' fault = is.2 in
      record {
        serves = λ none. record {
          result = Err fault;
          all = tt;
          read = λ e. cc;
          want = λ e. subst (λ left. ServesBefore (has_trace_flag words) input input old left) (sym is.1) (nothing_served (has_trace_flag words) input old);
          write = λ e. cc;
          status_is = is.0;
          some = written.0;
          reports = written.1;
        };
        other = λ faults. record {
          status_is = inr is.0;
          unread = refl;
          silent = λ zero. absurd (omega arith);
          reports = λ _. (fault, written.0, written.1);
        };
        refused = λ two. is.1;
      }
  ended input old new errors errors' NotText by status is = absurd by

-- no words could be had
pub did_nothing : (kind : IoKind) (input old new errors errors' : Option (List ℕ)) (ending : Ending) → ending ≡ ending_without kind → (status : ℕ)
    → IsConcluded ending old new errors errors' status → DoesNothing kind input input old new errors errors' status
did_nothing kind input old new errors errors' ending same status is =
    let concluded = subst (λ e. IsConcluded e old new errors errors' status) same is in
    record { unread = refl; unwritten = unwritten kind concluded; ends = by_kind kind concluded }
  where
    unwritten : (kind : IoKind) → IsConcluded (ending_without kind) old new errors errors' status → new ≡ old
    unwritten OutOfMemory is = is.1
    unwritten kind is = is.1

    by_kind : (kind : IoKind) → IsConcluded (ending_without kind) old new errors errors' status → EndsWordless kind errors errors' status
    by_kind OutOfMemory is = let written : Reports errors errors' Memory = is.2 in (written.0, written.1, is.0)
    by_kind kind is = is.0
