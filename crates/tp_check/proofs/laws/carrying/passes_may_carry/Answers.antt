use Rattle.tp_check.proofs.CarriedPasses.{all_passes, ends, refuses}
use Rattle.tp_check.proofs.laws.carrying.passes_may_carry.Goals as goal

pub returns : goal.returns
returns c = record {
  same = λ image cuts is_join range spelled kept wide n. (all_passes image cuts range spelled kept is_join wide n).0;
  ends = λ image cuts is_join range spelled kept wide n table new arrives gives stays. ends image cuts range spelled kept is_join wide n table new arrives gives stays;
  refuses = λ image cuts is_join range spelled kept wide n table fault arrives gives. refuses image cuts range spelled kept is_join wide n table fault arrives gives;
}
