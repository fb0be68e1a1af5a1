-- A member's accounts, one packet after another.
use Rattle.std.proofs.Common.{◌≡◌, ℕ, ◌+◌, List, [], ◌∷◌, ◌++◌, Some, None, Result, Ok, Err, IfOk, OnErr, slice_get, refl, sym}
use Rattle.std.proofs.Common.{ap, ◌∙◌, arith}
use Rattle.std.proofs.lemmas.List.Elements.{All-push}
use Rattle.std.proofs.lemmas.List.Sums.{sum_by_push}
use Rattle.tp_link.specs.declared.links.Link.{Link}
use Rattle.tp_link.specs.declared.links.Link.TheVariants.{Source, Sink, Trace}
use Rattle.tp_link.specs.declared.links.LinkFault.{LinkFault}
use Rattle.tp_outcome.specs.Devices.{Devices}
use Rattle.tp_board.specs.Sources.{Progress, HandFinished, HandAbandoned}
use Rattle.tp_collect.specs.DoneValue.{DoneValue}
use Rattle.tp_collect.specs.Collected.{JobValue, IsResult}
use Rattle.tp_farm.specs.declared.member.Filed.{Filed}
use Rattle.tp_farm.specs.declared.member.Filed.TheVariants as filed
use Rattle.tp_farm.specs.Settings.{SameDevice, SameSettings, Rises, failures_by}
use Rattle.tp_farm.specs.Members.{IsFiled, failures_filed, done_numbers, lost_numbers, KeepsAccounts}
use Rattle.tp_farm.specs.Losses.{MayLose}
use Rattle.tp_farm.proofs.Refusals.{lose_before}

-- ---- settings and counts, twice

same_twice : (a b c : _) → SameDevice a b → SameDevice b c → SameDevice a c
same_twice a b c h k = record { room = k.room ∙ h.room; opened = k.opened ∙ h.opened; fallible = k.fallible ∙ h.fallible }

pub settings_twice : (before now after : Devices) → SameSettings before now → SameSettings now after → SameSettings before after
settings_twice before now after h k = record {
  source = same_twice _ _ _ h.source k.source;
  sink = same_twice _ _ _ h.sink k.sink;
  trace = same_twice _ _ _ h.trace k.trace;
}

pub rises_twice : (before now after : Devices) (n m k : Link → ℕ) → Rises before now n → Rises now after m
    → ((which : Link) → k which ≡ n which + m which) → Rises before after k
rises_twice before now after n m k h g e = record {
  source = omega (arith, h.source, g.source, e Source);
  sink = omega (arith, h.sink, g.sink, e Sink);
  trace = omega (arith, h.trace, g.trace, e Trace);
}

-- ---- numbers

done_push : (these : List Filed) (done : DoneValue)
    → done_numbers (these ++ filed.Done done ∷ []) ≡ done_numbers these ++ done.packet ∷ []
done_push [] done = refl
done_push (filed.Done d ∷ more) done = ap (λ ns. d.packet ∷ ns) (done_push more done)
done_push (filed.Lost n f ∷ more) done = done_push more done

done_lost : (these : List Filed) (number : ℕ) (fault : LinkFault)
    → done_numbers (these ++ filed.Lost number fault ∷ []) ≡ done_numbers these
done_lost [] number fault = refl
done_lost (filed.Done d ∷ more) number fault = ap (λ ns. d.packet ∷ ns) (done_lost more number fault)
done_lost (filed.Lost n f ∷ more) number fault = done_lost more number fault

lost_push : (these : List Filed) (number : ℕ) (fault : LinkFault)
    → lost_numbers (these ++ filed.Lost number fault ∷ []) ≡ lost_numbers these ++ number ∷ []
lost_push [] number fault = refl
lost_push (filed.Done d ∷ more) number fault = lost_push more number fault
lost_push (filed.Lost n f ∷ more) number fault = ap (λ ns. n ∷ ns) (lost_push more number fault)

lost_done : (these : List Filed) (done : DoneValue) → lost_numbers (these ++ filed.Done done ∷ []) ≡ lost_numbers these
lost_done [] done = refl
lost_done (filed.Done d ∷ more) done = lost_done more done
lost_done (filed.Lost n f ∷ more) done = ap (λ ns. n ∷ ns) (lost_done more done)

-- ---- a packet more

-- where something was in hand, it went
pub went : {E : Type 0} (P : ℕ → Type 0) (p : Progress) (number : ℕ) (r : Result ℕ E) → p.in_hand ≡ Some number → IfOk r P
    → OnErr r (p.in_hand ≡ None) → (n : ℕ) × P n
went P p number (Ok n) has ok err = (n, ok)
went P p number (Err e) has ok err = absurd (none (sym err ∙ has))
  where
    none : None ≡ Some number → ⊥
    none e = cc

same_number : (a b : ℕ) → Some a ≡ Some b → a ≡ b
same_number a b e = cc

module _ (batch : JobValue) (before now after : Devices) (p q : Progress) (these : List Filed)
    (h : KeepsAccounts batch before now p these) (same : SameSettings now after) where
  pub accounts_done : (number n : ℕ) (done : DoneValue) → Rises now after (λ which. 0) → IsResult batch number done
      → p.in_hand ≡ Some number → HandFinished p n q → KeepsAccounts batch before after q (these ++ filed.Done done ∷ [])
  accounts_done number n done rises result has moved =
      let is : n ≡ done.packet = same_number n number (sym moved.0 ∙ has) ∙ sym result.number in
      record {
        settings = settings_twice before now after h.settings same;
        rises =
            rises_twice before now after _ _ _ h.rises rises (λ which. sum_by_push (failures_filed which) these (filed.Done done));
        filed =
            All-push (IsFiled batch before) these (filed.Done done) h.filed
            (record { of = result.of; number = refl; names = result.names; alone = result.alone });
        finished =
            ap (λ r. r.finished) moved.1 ∙ ap (λ ns. ns ++ n ∷ []) h.finished ∙ ap (λ m. done_numbers these ++ m ∷ []) is
            ∙ sym (done_push these done);
        abandoned = ap (λ r. r.abandoned) moved.1 ∙ h.abandoned ∙ sym (lost_done these done);
      }

  pub accounts_lost : (number n : ℕ) (packet : List ℕ) (fault : LinkFault) → Rises now after (λ which. failures_by which fault)
      → slice_get batch.packets number ≡ Some packet → MayLose batch.image packet now fault.link fault.code
      → p.in_hand ≡ Some number → HandAbandoned p n q → KeepsAccounts batch before after q (these ++ filed.Lost number fault ∷ [])
  accounts_lost number n packet fault rises is_packet cause has moved =
      let is : n ≡ number = same_number n number (sym moved.0 ∙ has) in
      record {
        settings = settings_twice before now after h.settings same;
        rises =
            rises_twice before now after _ _ _ h.rises rises
            (λ which. sum_by_push (failures_filed which) these (filed.Lost number fault));
        filed =
            All-push (IsFiled batch before) these (filed.Lost number fault) h.filed
            (record {
              packet = packet;
              is = is_packet;
              cause = lose_before batch.image packet before now fault.link fault.code
                  h.settings cause;
            });
        finished = ap (λ r. r.finished) moved.1 ∙ h.finished ∙ sym (done_lost these number fault);
        abandoned =
            ap (λ r. r.abandoned) moved.1 ∙ ap (λ ns. ns ++ n ∷ []) h.abandoned ∙ ap (λ m. lost_numbers these ++ m ∷ []) is
            ∙ sym (lost_push these number fault);
      }
