use Rattle.std.proofs.Common.{[], refl, subst, sym, ◌∙◌, ap, Ok, Some, ◌++◌, append-nil, append_assoc}
use Rattle.std.specs.Io.KnownBytes.{Appends, Consumes, IsAtEnd}
use Rattle.std.proofs.KnownBytes.{Appends-kept}
use Rattle.program_io.proofs.Copied.{appends_nothing, appends_both, split_consumed, nil_behind}
use Rattle.program_io.specs.Report.{AppendsBeginning}
use Rattle.program_io.proofs.Reported.{begun, begun_more, on_err}
use Rattle.program_io.proofs.copy_pieces.Goals as goal

pub loop-init : goal.loop-init
loop-init g c = λ text told. ([], text, told, refl, appends_nothing (g.W.Write.contents c.args.writer.now))

pub returns-then-not-branch-clause-end : goal.returns-then-not-branch-clause-end
returns-then-not-branch-clause-end g c = λ text told.
    let t = c.loop.invariant text told in
    let left = g.I.Read.remaining c.read_piece.new.input in
    let piece = c.read_piece.new.piece.items in
    let none = subst IsAtEnd t.2 (c.in_ok-read_piece.ensures.end (ap Ok c.if-not-branch.true)) in
    let s = split_consumed left t.1 piece (subst (λ known. Consumes known left piece) t.2 c.in_ok-read_piece.ensures.bytes) in
    s.1 ∙ ap Some (nil_behind piece s.0 (s.2 ∙ none))

pub returns-then-not-branch-clause-all : goal.returns-then-not-branch-clause-all
returns-then-not-branch-clause-all g c = λ text told.
    let t = c.loop.invariant text told in
    let none = subst IsAtEnd t.2 (c.in_ok-read_piece.ensures.end (ap Ok c.if-not-branch.true)) in
    let all = sym (append-nil t.0) ∙ ap (λ rest. t.0 ++ rest) (sym none) ∙ t.3 in
    subst (λ text. Appends (g.W.Write.contents c.args.writer.now) (g.W.Write.contents c.read_piece.new.writer) text) all (Appends-kept _ _ _ t.0 t.4 c.read_piece.ensures.kept)

pub loop-preserved : goal.loop-preserved
loop-preserved g c = λ text told.
    let t = c.loop.invariant text told in
    let left = g.I.Read.remaining c.read_piece.new.input in
    let piece = c.read_piece.new.piece.items in
    let s = split_consumed left t.1 piece (subst (λ known. Consumes known left piece) t.2 c.in_ok-read_piece.ensures.bytes) in
    let wrote = subst (λ line. Appends (g.W.Write.contents c.read_piece.new.writer) (g.W.Write.contents c.write_piece.new.writer) line) c.as_slice.ensures.value c.in_ok-write_piece.ensures.whole in (
      t.0 ++ piece,
      s.0,
      s.1,
      append_assoc t.0 piece s.0 ∙ ap (λ rest. t.0 ++ rest) s.2 ∙ t.3,
      appends_both (g.W.Write.contents c.args.writer.now) (g.W.Write.contents c.read_piece.new.writer) (g.W.Write.contents c.write_piece.new.writer) t.0 piece (Appends-kept _ _ _ t.0 t.4 c.read_piece.ensures.kept) wrote,
    )

pub returns-in_err-read_piece-clause-beginning : goal.returns-in_err-read_piece-clause-beginning
returns-in_err-read_piece-clause-beginning g c = on_err c.from_residual.result _ (λ text told.
    let t = c.loop.invariant text told in
    begun (g.W.Write.contents c.args.writer.now) (g.W.Write.contents c.read_piece.new.writer) text t.0 t.1 (sym t.3) (Appends-kept _ _ _ t.0 t.4 c.read_piece.ensures.kept))

pub returns-in_err-write_piece-clause-beginning : goal.returns-in_err-write_piece-clause-beginning
returns-in_err-write_piece-clause-beginning g c = on_err c.from_residual-in_err-write_piece.result _ (λ text told.
    let t = c.loop.invariant text told in
    let left = g.I.Read.remaining c.read_piece.new.input in
    let piece = c.read_piece.new.piece.items in
    let s = split_consumed left t.1 piece (subst (λ known. Consumes known left piece) t.2 c.in_ok-read_piece.ensures.bytes) in
    let some = subst (λ line. AppendsBeginning (g.W.Write.contents c.read_piece.new.writer) (g.W.Write.contents c.write_piece.new.writer) line) c.as_slice.ensures.value c.in_err-write_piece.ensures.beginning in
    begun_more (g.W.Write.contents c.args.writer.now) (g.W.Write.contents c.read_piece.new.writer) (g.W.Write.contents c.write_piece.new.writer) text t.0 piece s.0
    (sym t.3 ∙ ap (λ rest. t.0 ++ rest) (sym s.2)) (Appends-kept _ _ _ t.0 t.4 c.read_piece.ensures.kept) some)

pub returns-clause-beginning : goal.returns-clause-beginning
returns-clause-beginning g c = λ text told.
    let t = c.loop.invariant text told in
    begun (g.W.Write.contents c.args.writer.now) (g.W.Write.contents c.loop.writer) text t.0 t.1 (sym t.3) t.4
