use Rattle.std.proofs.Common.{refl}
use Rattle.tpw_text.specs.Names.{function_by_name, function_named}
use Rattle.tpw_text_laws.proofs.laws.function_is_read_by_its_name.Goals as goal

pub returns : goal.returns
unfolding function_by_name function_named
returns c = λ n. (refl, (refl, (refl, (refl, (refl, (refl, (refl, (refl, (refl, (refl, (refl, (refl, tt))))))))))))
