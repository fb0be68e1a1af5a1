-- What is sent.
use Rattle.std.proofs.Common.{◌≡◌, ℕ, Option, Some, sym, ap, ◌∙◌}
use Rattle.std.specs.Int.{w32, to_le_bytes}
use Rattle.tpw_occam_terms.specs.declared.name.Primitive.TheVariants.{Int}
use Rattle.tpw_occam_meaning.specs.declared.expression.Expression.{Expression}
use Rattle.tpw_occam_meaning.specs.Expressions.{value_of}
use Rattle.tpw_occam_meaning.specs.Maybe.{and_then}
use Rattle.tpw_occam_meaning.specs.Messages.{Message, message_of}
use Rattle.tpw_occam_meaning.specs.Names.{Protocol, OneWord, Names}
use Rattle.tpw_occam_meaning.specs.Values.{Value, at}

abbrev pub word_message : Value → Message
word_message v = record { bytes = λ s. to_le_bytes w32 (at v s).word; flag = λ s. (at v s).flag }

pub word_sent : (protocol : Protocol) (e : Expression) (names : Names) (d : ℕ) (v : Value) (m : Message) → protocol ≡ OneWord →
    value_of e Int names d ≡ Some v → m ≡ word_message v → message_of protocol e names d ≡ Some m
word_sent protocol e names d v m protocol-is made m-is =
    ap (λ p. message_of p e names d) protocol-is
    ∙ ap (λ (o : Option Value). and_then o (λ v. Some (word_message v))) made
    ∙ ap Some (sym m-is)
