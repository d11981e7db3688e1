use Rattle.std.proofs.Common.{rules, ◌≡◌, ◌≤◌, ◌++◌, [], take, sym, ap, subst, ◌∙◌, arith, append-nil, length, length-append, length-take-le, inl, inr, true, false}
use Rattle.std.proofs.KnownBytes.{Consumes-nil, Consumes-kept}
use Rattle.std.proofs.BufReadLemmas.{Consumes_shown, zero_unless_positive}
use Rattle.std.proofs.Transfers.{StopsAt-append, StopsAt-of_All, StopsAt-take}
use Rattle.std.specs.Io.{StopsAt}
use Rattle.std.specs.Io.BufRead.{FillKeeps}
use Rattle.program_io.specs.Line.{IsPiece}
use Rattle.program_io.specs.declared.Split.TheVariants.{Lines}
use Rattle.program_io.specs.declared.TheConstants.{LONGEST_LINE}
use Rattle.program_io.proofs.Pieces.{open_unless_piece}
use Rattle.program_io.proofs.extend_piece.Goals as goal

pub returns-in-Err : goal.returns-in-Err
returns-in-Err g c = record {
  bytes = [];
  added = sym (append-nil c.args.piece.now.items);
  consumed = Consumes-kept _ _ _ [] (Consumes-nil _) c.fill_buf.follows.holds-at-none.0;
  line = λ is. StopsAt-of_All _ 10 (c.requires.0 is);
  room = search rules;
  ends = λ e. absurd (search rules);
  goes_on = λ e. c.requires;
}

pub returns-then-length-eq0 : goal.returns-then-length-eq0
returns-then-length-eq0 g c =
    let items = c.in_ok-extend_from_slice.ensures.items in
    let n = c.piece_length-length.result in
    let shown = c.in-Ok.available.now in
    let rested = c.fill_buf.follows.lender-at-none in
    let filled = subst (FillKeeps _ (g.I.Read.remaining rested) (g.I.BufRead.consumable_len rested)) c.in-Ok.is c.fill_buf.follows.holds-at-none in
    let moved = Consumes_shown _ _ _ _ shown n c.piece_length-length.ensures.bound c.in-Ok.ensures.front c.in-Ok.ensures.end filled.0 filled.1 c.consume.ensures.bytes in
    let none : length shown ≡ 0 = zero_unless_positive _ _ (λ some. c.piece_length-length.ensures.some some (search rules)) c.if-length-eq0.true in
    let same : c.extend_from_slice.new.self.items ≡ c.args.piece.now.items =
    items ∙ ap (λ k. c.args.piece.now.items ++ take k shown) c.if-length-eq0.true ∙ append-nil c.args.piece.now.items in
    record {
      bytes = take n shown;
      added = items;
      consumed = moved.0;
      line = λ is. subst (λ l. StopsAt l 10) (sym same) (StopsAt-of_All _ 10 (c.requires.0 is));
      room = search rules;
      ends = λ e. inr (moved.1 none);
      goes_on = λ e. absurd (search rules);
    }

pub returns-else-length-eq0 : goal.returns-else-length-eq0
returns-else-length-eq0 g c =
    let items = c.in_ok-extend_from_slice.ensures.items in
    let n = c.piece_length-length.result in
    let shown = c.in-Ok.available.now in
    let rested = c.fill_buf.follows.lender-at-none in
    let filled = subst (FillKeeps _ (g.I.Read.remaining rested) (g.I.BufRead.consumable_len rested)) c.in-Ok.is c.fill_buf.follows.holds-at-none in
    let moved = Consumes_shown _ _ _ _ shown n c.piece_length-length.ensures.bound c.in-Ok.ensures.front c.in-Ok.ensures.end filled.0 filled.1 c.consume.ensures.bytes in
    let line : c.args.split ≡ Lines → StopsAt c.extend_from_slice.new.self.items 10 =
    λ is. subst (λ l. StopsAt l 10) (sym items) (StopsAt-append _ _ 10 (c.requires.0 is) (StopsAt-take shown 10 n c.piece_length-length.ensures.bound (c.piece_length-length.ensures.line is))) in
    let long = ap length items ∙ length-append c.args.piece.now.items (take n shown) in
    let room : length c.extend_from_slice.new.self.items ≤ LONGEST_LINE =
    omega (arith, long, length-take-le n shown c.piece_length-length.ensures.bound, c.piece_length-length.ensures.room, c.len.ensures, c.requires.1) in
    record {
      bytes = take n shown;
      added = items;
      consumed = moved.0;
      line = line;
      room = room;
      ends = λ e. inl (search rules);
      goes_on = λ e. open_unless_piece c.args.split _ line room (λ is.
          let yes : c.is_piece.result ≡ true = c.is_piece.ensures.1 (subst IsPiece (sym c.as_slice.ensures.value) is) in
          let no : true ≡ false = sym yes ∙ e in
          cc);
    }
