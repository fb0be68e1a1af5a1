-- What the program does with its words: what it reads and writes, and its status.
use Rattle.std.specs.Prelude.{◌≡◌, ◌≢◌, ◌⊎◌, ℕ, Bool, List, [], ◌++◌, codes, take, Option, OnOk, Result, Ok, Err}
use Rattle.std.specs.Io.KnownBytes.{Appends}
use Rattle.std.specs.declared.io.ErrorKind.{ErrorKind as IoKind}
use Rattle.std.specs.declared.io.ErrorKind.TheVariants.{OutOfMemory}
use Rattle.clap.specs.Words.{Text, Kinds, IsAmong, fault_of, matches_of, one_of}
use Rattle.clap.specs.declared.error.kind.ErrorKind.{ErrorKind}
use Rattle.clap.specs.declared.error.kind.ErrorKind.TheVariants.{DisplayHelp, DisplayVersion}
use Rattle.tp_program.specs.CommandLine.{farmd, is_up}
use Rattle.tp_session.specs.declared.fault.ServeFault.{ServeFault}
use Rattle.tp_session.specs.declared.fault.ServeFault.TheVariants.{Read, Write, Memory, Thread}
use Rattle.tp_session.specs.Faults.{fault_text}
use Rattle.tp_session.specs.Served.{ServesAll, ServesRead, ServesBefore, ServesSome}

-- ---- words that ask for options

abbrev pub has_trace_flag : List Text → Bool
has_trace_flag words = is_up (one_of (codes "trace") (matches_of farmd words))

abbrev pub status_of : Result (Unit {0}) ServeFault → ℕ
status_of (Ok _) = 0
status_of (Err fault) = 1

-- the line that reports a fault
abbrev pub fault_line : ServeFault → List ℕ
fault_line fault = codes "farmd: " ++ fault_text fault ++ codes "\n"

abbrev pub report_text : Result (Unit {0}) ServeFault → List ℕ
report_text (Ok _) = []
report_text (Err fault) = fault_line fault

-- what is served for the input is written, by how serving ends; a fault is reported, as far as that can be written
pub record HasServed (trace : Bool) (input left old new errors errors' : Option (List ℕ)) (status : ℕ) : Type 0 where
  pub result : Result (Unit {0}) ServeFault
  pub all : OnOk result (ServesAll trace input left old new)
  pub read : result ≡ Err Read → ServesRead trace input left old new
  pub want : (result ≡ Err Memory) ⊎ (result ≡ Err Thread) → ServesBefore trace input left old new
  pub write : result ≡ Err Write → ServesSome trace input old new
  pub status_is : status ≡ status_of result
  pub some : ℕ
  pub reports : Appends errors errors' (take some (report_text result))

-- ---- other words: they ask for a text, or are refused

abbrev pub kind_status : ErrorKind → ℕ
kind_status DisplayHelp = 0
kind_status DisplayVersion = 0
kind_status kind = 2

-- the status is that of one of these kinds, or 1 for want of memory or where the text cannot be written
abbrev pub IsStatusBy : Kinds → ℕ → Type 0
IsStatusBy kinds status = ((kind : ErrorKind) × IsAmong kind kinds × (status ≡ kind_status kind)) ⊎ (status ≡ 1)

-- Nothing is read. With status 0 standard error is as it was, and with status 1 a fault is reported there, as far as
-- that can be written.
pub record EndsUnserved (kinds : Kinds) (input left errors errors' : Option (List ℕ)) (status : ℕ) : Type 0 where
  pub status_is : IsStatusBy kinds status
  pub unread : left ≡ input
  pub silent : status ≡ 0 → errors' ≡ errors
  pub reports : status ≡ 1 → (fault : ServeFault) × (some : ℕ) × Appends errors errors' (take some (fault_line fault))

-- ---- what the words ask for is done

-- from streams whose bytes are known or not, as they were and as they are left
pub record Performs (words : List Text) (input left old new errors errors' : Option (List ℕ))
    (status : ℕ) : Type 0 where
  pub serves : fault_of farmd words ≡ [] → HasServed (has_trace_flag words) input left old new errors errors' status
  pub other : fault_of farmd words ≢ [] → EndsUnserved (fault_of farmd words) input left errors errors' status
  pub refused : status ≡ 2 → new ≡ old

-- ---- no words could be had

-- for want of memory, which is reported as far as that can be written; else a word is no text
abbrev pub EndsWordless : IoKind → (errors errors' : Option (List ℕ)) → (status : ℕ) → Type 0
EndsWordless OutOfMemory errors errors' status =
    (some : ℕ) × Appends errors errors' (take some (fault_line Memory)) × (status ≡ 1)
EndsWordless kind errors errors' status = status ≡ 2

-- then nothing is read, and nothing is written to standard output
pub record DoesNothing (kind : IoKind) (input left old new errors errors' : Option (List ℕ)) (status : ℕ) : Type 0 where
  pub unread : left ≡ input
  pub unwritten : new ≡ old
  pub ends : EndsWordless kind errors errors' status
