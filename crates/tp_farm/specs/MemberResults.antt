-- What is left of a member when its hand is gone.
use Rattle.std.specs.Prelude.{List, map}
use Rattle.tp_farm.specs.declared.member.Filed.{Filed}
use Rattle.tp_farm.specs.declared.thread.Returned.{Returned}
use Rattle.tp_farm.specs.declared.gathering.MemberResults.{MemberResults}
use Rattle.tp_farm.specs.Gathering.{all_filed}

abbrev pub member_results : {D : Type 0} → Returned D → MemberResults D
member_results r = record { links = r.links; filed = r.filed }

-- what all of them filed, one after another
abbrev pub filings_of : {D : Type 0} → List (MemberResults D) → List Filed
filings_of kept = all_filed (map (λ k. k.filed.items) kept)
