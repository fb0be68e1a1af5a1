-- Serving that ends for want of memory before it begins.
use Rattle.std.proofs.Common.{List, ℕ, [], Bool, Option, refl, arith}
use Rattle.std.proofs.KnownBytes.{Appends-nil, Consumes-nil}
use Rattle.tp_requests.specs.Lines.{lines_of}
use Rattle.tp_session.specs.Served.{ServesBefore}

-- what is read and what is written are as they were
pub nothing_served : (trace : Bool) (input known : Option (List ℕ)) → ServesBefore trace input input known known
unfolding lines_of
nothing_served trace input known = record {
  taken = [];
  read = Consumes-nil input;
  answers =
      record {
        before = [];
        rest = [];
        split = refl;
        short = omega arith;
        answers = record { output = []; is = ([], (refl, refl)); wrote = Appends-nil known };
      };
}
