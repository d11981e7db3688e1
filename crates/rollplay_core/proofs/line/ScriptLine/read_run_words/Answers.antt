use Rattle.std.proofs.Common.{refl, subst, Option, List, [], ◌++◌, ℕ, unwrap_or, rules}
use Rattle.std.specs.Int.{w64}
use Rattle.std.proofs.lemmas.Int.{to_z-of_z}
use Rattle.rollplay_core.specs.Text.{IsEscaped, IsNoEscapedText}
use Rattle.rollplay_core.proofs.LineLemmas.{continues_with, none_behind, none_unless, no_text, takes_no, takes_once}
use Rattle.rollplay_core.specs.Line.{run_kinds, queue_kinds, start, see, put, write, flush}
use Rattle.rollplay_core.proofs.line.ScriptLine.read_run_words.Goals.{in-start+in_ok-seconds-in-start, in-see+in_ok-seconds-in-see, in-put+in_ok-seconds-in-put+in_ok-text-in-put, in-write+in_ok-text-in-write, in-flush}
use Rattle.rollplay_core.proofs.line.ScriptLine.read_run_words.Goals as goal

pub returns-in_err-seconds-in-start-clause-fault : goal.returns-in_err-seconds-in-start-clause-fault
returns-in_err-seconds-in-start-clause-fault c = λ e. none_behind c.args.word.now c.args.words.now (run_kinds ++ queue_kinds) start c.in-start.is (λ line left h.
    takes_no _ _ _ _ _ h.2 c.in_err-seconds-in-start.ensures.err.1 (λ w is. (h.0, is)))

pub returns-in_err-seconds-in-see-clause-fault : goal.returns-in_err-seconds-in-see-clause-fault
returns-in_err-seconds-in-see-clause-fault c = λ e. none_behind c.args.word.now c.args.words.now (run_kinds ++ queue_kinds) see c.in-see.is (λ line left h.
    takes_no _ _ _ _ _ h.2 c.in_err-seconds-in-see.ensures.err.1 (λ w is. (h.0, is)))

pub returns-in_err-seconds-in-put-clause-fault : goal.returns-in_err-seconds-in-put-clause-fault
returns-in_err-seconds-in-put-clause-fault c = λ e. none_behind c.args.word.now c.args.words.now (run_kinds ++ queue_kinds) put c.in-put.is (λ line left h.
    takes_no _ _ _ _ _ h.3.1 c.in_err-seconds-in-put.ensures.err.1 (λ w is. (h.0, is)))

pub returns-in_err-text-in-put-clause-fault : goal.returns-in_err-text-in-put-clause-fault
returns-in_err-text-in-put-clause-fault c = λ e. none_behind c.args.word.now c.args.words.now (run_kinds ++ queue_kinds) put c.in-put.is (λ line left h.
    let behind = (takes_once _ _ _ _ _ h.3.1.taken c.in_ok-seconds-in-put.ensures.ok.taken).1 in
    let none : IsNoEscapedText (unwrap_or c.seconds-in-put.new.self []) = c.in_err-text-in-put.ensures.fault (search rules) in
    none h.1.items (subst (λ (r : Option (List ℕ)). IsEscaped h.1.items (unwrap_or r [])) behind h.3.2.text))

pub returns-in_err-text-in-write-clause-fault : goal.returns-in_err-text-in-write-clause-fault
returns-in_err-text-in-write-clause-fault c = λ e. none_behind c.args.word.now c.args.words.now (run_kinds ++ queue_kinds) write c.in-write.is (λ line left h.
    let none : IsNoEscapedText (unwrap_or c.args.words.now []) = c.in_err-text-in-write.ensures.fault (search rules) in
    no_text _ _ _ h.2 none)

pub returns-in_default-clause-fault : goal.returns-in_default-clause-fault
returns-in_default-clause-fault c = λ e.
    none_unless c.args.word.now c.args.words.now run_kinds queue_kinds
    (c.in_default.not-start, (c.in_default.not-see, (c.in_default.not-put, (c.in_default.not-write, (c.in_default.not-flush, tt)))))
    (c.read_queue_words.ensures.fault e)

pub returns-clause-ok : goal.returns-clause-ok
returns-clause-ok c = elim c.match-word.branch [
  | in-start+in_ok-seconds-in-start w ↦
      rw (w.words-is, w.result-is, to_z-of_z w64 w.in_ok-seconds-in-start.field-0 w.in_ok-seconds-in-start.ensures.ok.kind.fits) (continues_with _ _ start w.in-start.is _ _ (_, refl, w.in_ok-seconds-in-start.ensures.ok))
  | in-see+in_ok-seconds-in-see w ↦
      rw (w.words-is, w.result-is, to_z-of_z w64 w.in_ok-seconds-in-see.field-0 w.in_ok-seconds-in-see.ensures.ok.kind.fits) (continues_with _ _ see w.in-see.is _ _ (_, refl, w.in_ok-seconds-in-see.ensures.ok))
  | in-put+in_ok-seconds-in-put+in_ok-text-in-put w ↦
      rw (w.words-is, w.result-is, to_z-of_z w64 w.in_ok-seconds-in-put.field-0 w.in_ok-seconds-in-put.ensures.ok.kind.fits) (continues_with _ _ put w.in-put.is _ _ (_, _, refl, (_, w.in_ok-seconds-in-put.ensures.ok, record { text = rw w.into_bytes.ensures.value w.in_ok-text-in-put.ensures.ok; all = w.text.ensures.all })))
  | in-write+in_ok-text-in-write w ↦
      rw (w.words-is, w.result-is) (continues_with _ _ write w.in-write.is _ _ (_, refl, record { text = rw w.into_bytes-in-write.ensures.value w.in_ok-text-in-write.ensures.ok; all = w.text-in-write.ensures.all }))
  | in-flush w ↦
      rw (w.words-is, w.result-is) (continues_with _ _ flush w.in-flush.is _ _ (refl, refl))
]
