-- From what was taken to what is served.
use Rattle.std.proofs.Common.{◌≡◌, ◌≤◌, ◌⊎◌, inl, inr, arith, length-take, ℕ, Bool, List, [], ◌++◌, length, take, Option}
use Rattle.std.proofs.Common.{Some, None, Result, Err, IfErr, IfSome, sym, subst}
use Rattle.std.specs.Io.KnownBytes.{Consumes, Keeps as KeepsKnown, IsAtEnd}
use Rattle.std.proofs.lemmas.List.{append-nil}
use Rattle.std.proofs.KnownBytes.{Consumes-trans, Consumes-kept, Consumes-nil, Appends-nil}
use Rattle.tp_link.specs.Device.{DeviceState}
use Rattle.tp_session.specs.declared.fault.ServeFault.{ServeFault}
use Rattle.tp_session.specs.declared.fault.ServeFault.TheVariants.{Read, Write, Memory, Thread}
use Rattle.tp_session.specs.declared.partial_line.PartialLine.{PartialLine}
use Rattle.tp_session.specs.declared.service.Service.{Service}
use Rattle.tp_session.specs.Fitness.{AreFit}
use Rattle.tp_session.specs.Served.{most_read, AreWrittenBefore, ServesRead, ServesBefore}
use Rattle.tp_session.specs.Points.{Point, Keeps, IsAt, Begins, Fails, GoesOn}
use Rattle.tp_session.proofs.PointLemmas.{told_ended, start, starts}

-- the input so far: where its reading stands
pub record SoFar {D : Type 0} (state : D → DeviceState) (trace : Bool) (input left begun now : Option (List ℕ))
    (p : PartialLine) (service : Service D) : Type 0 where
  pub point : Point
  pub read : Consumes input left point.taken
  pub is : IsAt state trace begun p service now point

-- what is so of each input that begins with the bytes that were taken
pub of_each : (input left : Option (List ℕ)) (taken : List ℕ) (P : List ℕ → Type 0) → Consumes input left taken
    → ((bytes : List ℕ) → Begins bytes taken → P bytes) → IfSome input P
of_each None left taken P read each = tt
of_each (Some bytes) None taken P read each = absurd read
of_each (Some bytes) (Some rest) taken P read each = each bytes (rest, read)

-- no byte more was read
pub still_read : (input left left' : Option (List ℕ)) (taken : List ℕ) (n : ℕ) (buf : List ℕ) → n ≡ 0 → Consumes input left taken
    → Consumes left left' (take n buf) → Consumes input left' taken
still_read input left left' taken n buf none read more =
    subst (λ l. Consumes input left' l) (append-nil taken)
    (Consumes-trans input left left' taken [] read (subst (λ m. Consumes left left' (take m buf)) none more))

-- of a full buffer no more than that is read
pub short_read : (n : ℕ) (buf : List ℕ) → length buf ≡ most_read → length (take n buf) ≤ most_read
short_read n buf full = omega (arith, full, length-take n buf)

module _ {D : Type 0} (state : D → DeviceState) (trace : Bool) (input left begun now : Option (List ℕ)) (p : PartialLine)
    (service : Service D) where
  -- the reader failed
  pub serves_read : (left' : Option (List ℕ)) → SoFar state trace input left begun now p service → KeepsKnown left left'
      → ServesRead trace input left' begun now
  serves_read left' so_far keeps = record {
    taken = so_far.point.taken;
    read = Consumes-kept input left left' so_far.point.taken so_far.read keeps;
    answers = record { output = so_far.point.output; is = told_ended trace so_far.point so_far.is.reached; wrote = so_far.is.wrote };
  }

  -- some bytes more were taken
  pub so_far_more : (left' now' : Option (List ℕ)) (q : PartialLine) (service' : Service D) (bytes : List ℕ)
      (so_far : SoFar state trace input left begun now p service) → Consumes left left' bytes
      → GoesOn state trace begun q service' now' (so_far.point.taken ++ bytes)
      → SoFar state trace input left' begun now' q service'
  so_far_more left' now' q service' bytes so_far consumed goes = record {
    point = goes.point;
    read =
        subst (λ l. Consumes input left' l) (sym goes.taken_is)
        (Consumes-trans input left left' so_far.point.taken bytes so_far.read consumed);
    is = goes.is;
  }

-- serving has failed within the last of the bytes that it took
module _ (trace : Bool) (bytes taken : List ℕ) (last : ℕ) (begun now : Option (List ℕ)) (r : Result (Unit {0}) ServeFault)
    (fails : IfErr r (Fails trace bytes taken last begun now)) where
  by : (e : ServeFault) → r ≡ Err e → Fails trace bytes taken last begun now e
  by e is = subst (λ r. IfErr r (Fails trace bytes taken last begun now)) is fails

  pub never_reading : (P : Type 0) → r ≡ Err Read → P
  never_reading P is = absurd (by Read is)

  pub serves_before : (input left : Option (List ℕ)) → Consumes input left taken → last ≤ most_read
      → (r ≡ Err Memory) ⊎ (r ≡ Err Thread) → ServesBefore trace input left begun now
  serves_before input left read short want =
      let it = elim want as (λ _. AreWrittenBefore trace taken last begun now) [ inl is ↦ by Memory is | inr is ↦ by Thread is ] in
      record {
        taken = taken;
        read = read;
        answers = record { before = it.before; rest = it.rest; split = it.split; short = omega (arith, short, it.short); answers = it.answers };
      }

  pub serves_some : r ≡ Err Write → Fails trace bytes taken last begun now Write
  serves_some is = by Write is

-- nothing was taken yet
pub nothing_taken : {D : Type 0} (state : D → DeviceState) (trace : Bool) (left begun : Option (List ℕ)) (p : PartialLine)
    (service : Service D) → Keeps p 1 [] → (service.sessions ≡ []) × (service.trace ≡ trace)
    → AreFit state service.links.items → SoFar state trace left left begun begun p service
nothing_taken state trace left begun p service keeps new fit = record {
  point = start;
  read = Consumes-nil left;
  is = record { reached = starts trace; keeps = keeps; sessions = new.0; trace_is = new.1; fit = fit; wrote = Appends-nil begun };
}
