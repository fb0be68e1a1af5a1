-- Each instruction is read by its name and its operand.
use Rattle.std.proofs.Common.{◌≡◌, ◌⊎◌, inl, inr, [], ◌∷◌, Some, None, refl}
use Rattle.std.specs.Fmt.{signed_decimal}
use Rattle.tp_decode.specs.declared.instr.Instr.{Instr}
use Rattle.tp_decode.specs.declared.instr.Instr.TheVariants.{Jump, Ldlp, Ldnl, Ldc, Ldnlp, Ldl, Adc, Cj, Ajw, Eqc, Stl, Stnl}
use Rattle.tp_decode.specs.Table.{entry, instruction}
use Rattle.tpw_text.specs.Names.{function_by_name, function_named, operation_named}
use Rattle.tpw_text.specs.Keywords.{keyword_named}
use Rattle.tpw_text.specs.Written.{operand_text}

-- an operation: no operand is written
pub record IsOperation (i : Instr) : Type 0 where
  pub named : function_named (entry i).name ≡ None
  pub found : operation_named (entry i).name ≡ Some i
  pub text : operand_text i ≡ []

-- an instruction with an operand of its own
pub record IsFunction (i : Instr) : Type 0 where
  pub named : function_named (entry i).name ≡ Some (entry i).function
  pub made : instruction (entry i).function (entry i).operand ≡ Some i
  pub text : operand_text i ≡ 32 ∷ signed_decimal (entry i).operand

pub no_keyword : (i : Instr) → keyword_named (entry i).name ≡ None
unfolding keyword_named
no_keyword (Jump n) = refl
no_keyword i = refl

pub how_named : (i : Instr) → IsOperation i ⊎ IsFunction i
unfolding function_named function_by_name operation_named instruction operand_text
how_named (Jump n) = inr (record { named = refl; made = refl; text = refl })
how_named (Ldlp n) = inr (record { named = refl; made = refl; text = refl })
how_named (Ldnl n) = inr (record { named = refl; made = refl; text = refl })
how_named (Ldc n) = inr (record { named = refl; made = refl; text = refl })
how_named (Ldnlp n) = inr (record { named = refl; made = refl; text = refl })
how_named (Ldl n) = inr (record { named = refl; made = refl; text = refl })
how_named (Adc n) = inr (record { named = refl; made = refl; text = refl })
how_named (Cj n) = inr (record { named = refl; made = refl; text = refl })
how_named (Ajw n) = inr (record { named = refl; made = refl; text = refl })
how_named (Eqc n) = inr (record { named = refl; made = refl; text = refl })
how_named (Stl n) = inr (record { named = refl; made = refl; text = refl })
how_named (Stnl n) = inr (record { named = refl; made = refl; text = refl })
how_named i = inl (record { named = refl; found = refl; text = refl })
