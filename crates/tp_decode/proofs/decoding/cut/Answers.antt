use Rattle.std.proofs.Common.{◌≡◌, ◌<◌, ◌+◌, ◌-◌, vec_len, refl, length, drop, [], ◌++◌, ◌∷◌, Ok, sym, ap, ◌∙◌, arith, length-drop}
use Rattle.std.proofs.lemmas.Result.{err_from_is_err_and}
use Rattle.std.proofs.lemmas.List.{map-append}
use Rattle.std.proofs.Math.ListN.{drop_of_length-le}
use Rattle.tp_decode.specs.Cutting.{code_of}
use Rattle.tp_decode.specs.Listings.{cut_of, cuts_of, numbered}
use Rattle.tp_decode.proofs.DecodingLemmas.{one_more, all_cut, stopped, listing_more, code_more, spelled_some}
use Rattle.tp_decode.proofs.NumberLemmas.{listing_counts}
use Rattle.tp_decode.proofs.decoding.cut.Goals as goal

pub returns-in_err-piece : goal.returns-in_err-piece
returns-in_err-piece c =
    let p = err_from_is_err_and c.from_residual-in_err-piece.result c.from_residual-in_err-piece.ensures.1 in
    rw (p.1, p.2) (stopped c.args.code.now c.loop-at.at (cuts_of c.loop-at.pieces.items) _ c.loop-at.invariant.so_far c.in_err-piece.ensures)

pub loop-at-smaller : goal.loop-at-smaller
loop-at-smaller c =
    let begins = c.in_ok-piece.ensures in
    let some : 0 < length c.in_ok-piece.piece.spelling.items = spelled_some (cut_of c.in_ok-piece.piece) begins.spelled in
    omega (arith, c.len.ensures.value, begins.within, length-drop c.loop-at.at c.args.code.now)

pub loop-at-preserved : goal.loop-at-preserved
loop-at-preserved c =
    let begins = c.in_ok-piece.ensures in
    let piece = c.in_ok-piece.piece in
    let old = c.loop-at.pieces.items in
    let some : 0 < length piece.spelling.items = spelled_some (cut_of piece) begins.spelled in
    let pieces : c.push-in-loop-at.new.self.items ≡ old ++ piece ∷ [] = c.in_ok-push-2.ensures.items in
    let counts = listing_counts _ _ _ c.loop-at.invariant.kept in
    let is_next : c.len-in-loop-at.result ≡ length old = omega (arith, counts.2, c.len-in-loop-at.ensures) in
    let is_rest : c.loop-at.at + c.len.result - vec_len c.loop-at.numbers - 1 ≡ length piece.spelling.items - 1 = omega (arith, counts.0, c.loop-at.invariant.place, c.len.ensures.value) in
    let numbers : c.number.new.numbers.items ≡ c.loop-at.numbers.items ++ numbered (length old) (cut_of piece) = c.in_ok-number.ensures ∙ rw (is_next, is_rest) refl in
    let starts : c.push.new.self.items ≡ c.loop-at.starts.items ++ c.loop-at.at ∷ [] = c.in_ok-push.ensures.items in
    let len : c.len.result ≡ length piece.spelling.items = c.len.ensures.value in
    record {
      within = omega (arith, len, begins.within, length-drop c.loop-at.at c.args.code.now, c.loop-at.invariant.within);
      kept = rw (starts, numbers, pieces) (listing_more c.loop-at.starts.items c.loop-at.numbers.items old piece c.loop-at.at c.loop-at.invariant.kept c.loop-at.invariant.place some begins.spelled);
      place = ap (λ ps. length (code_of (cuts_of ps))) pieces ∙ code_more old piece ∙ (omega (arith, len, c.loop-at.invariant.place));
      so_far = rw (pieces, len, map-append) (one_more c.args.code.now c.loop-at.at (cuts_of old) (cut_of piece) c.loop-at.invariant.so_far begins);
    }

pub returns : goal.returns
returns c =
    let end : drop c.loop-at.at c.args.code.now ≡ [] = drop_of_length-le c.args.code.now (omega arith) in
    all_cut c.args.code.now c.loop-at.at (cuts_of c.loop-at.pieces.items) c.loop-at.invariant.so_far end ∙ ap Ok (sym c.new.ensures)

pub overflow_cast-len : goal.overflow_cast-len
overflow_cast-len c =
    let counts = listing_counts _ _ _ c.loop-at.invariant.kept in
    omega (arith, counts.0, counts.1, c.loop-at.invariant.place, c.requires)

pub number-requires : goal.number-requires
number-requires c =
    let counts = listing_counts _ _ _ c.loop-at.invariant.kept in
    let begins = c.in_ok-piece.ensures in
    let some : 0 < length c.in_ok-piece.piece.spelling.items = spelled_some (cut_of c.in_ok-piece.piece) begins.spelled in
    omega (arith, counts.0, c.loop-at.invariant.place, some, c.len.ensures.value)
