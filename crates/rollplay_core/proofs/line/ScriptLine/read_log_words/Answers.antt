use Rattle.std.proofs.Common.{refl, ◌∙◌, ◌++◌, [], unwrap_or, rules}
use Rattle.rollplay_core.specs.Text.{IsNoEscapedText}
use Rattle.rollplay_core.proofs.LineLemmas.{continues_with, none_behind, none_unless, no_text, takes_no, takes_none, takes_once}
use Rattle.rollplay_core.specs.Line.{log_kinds, folder_kinds, run_kinds, queue_kinds, rotation, prefix, suffix, link, maximum, byte_limit, by_name, continues}
use Rattle.rollplay_core.proofs.line.ScriptLine.read_log_words.Goals.{in-rotation+in_ok-word-in-rotation+in_ok-read_rotation-in-rotation, in-prefix+in_ok-text-in-prefix, in-suffix+in_ok-text-in-suffix, in-link+in_ok-text-in-link, in-max+in_ok-count-in-max, in-bytes+in_ok-unsigned-in-bytes, in-text, in-continue}
use Rattle.rollplay_core.proofs.line.ScriptLine.read_log_words.Goals as goal

pub returns-in_err-count-in-max-clause-fault : goal.returns-in_err-count-in-max-clause-fault
returns-in_err-count-in-max-clause-fault c = λ e. none_behind c.args.word.now c.args.words.now (log_kinds ++ folder_kinds ++ run_kinds ++ queue_kinds) maximum c.in-max.is (λ line left h.
    takes_no _ _ _ _ _ h.2 c.in_err-count-in-max.ensures.err.1 (λ w is. (h.0, is)))

pub returns-in_err-unsigned-in-bytes-clause-fault : goal.returns-in_err-unsigned-in-bytes-clause-fault
returns-in_err-unsigned-in-bytes-clause-fault c = λ e. none_behind c.args.word.now c.args.words.now (log_kinds ++ folder_kinds ++ run_kinds ++ queue_kinds) byte_limit c.in-bytes.is (λ line left h.
    takes_no _ _ _ _ _ h.2 c.in_err-unsigned-in-bytes.ensures.err.1 (λ w is. (h.0, is)))

pub returns-in_err-word-in-rotation-clause-fault : goal.returns-in_err-word-in-rotation-clause-fault
returns-in_err-word-in-rotation-clause-fault c = λ e. none_behind c.args.word.now c.args.words.now (log_kinds ++ folder_kinds ++ run_kinds ++ queue_kinds) rotation c.in-rotation.is (λ line left h.
    takes_none _ _ _ h.2.taken c.in_err-word-in-rotation.ensures.err.1)

pub returns-in_err-read_rotation-in-rotation-clause-fault : goal.returns-in_err-read_rotation-in-rotation-clause-fault
returns-in_err-read_rotation-in-rotation-clause-fault c = λ e. none_behind c.args.word.now c.args.words.now (log_kinds ++ folder_kinds ++ run_kinds ++ queue_kinds) rotation c.in-rotation.is (λ line left h.
    let word = (takes_once _ _ _ _ _ c.in_ok-word-in-rotation.ensures.ok h.2.taken).0 in
    c.in_err-read_rotation-in-rotation.ensures.err.1 h.0 (word ∙ h.2.kind))

pub returns-in_err-text-in-prefix-clause-fault : goal.returns-in_err-text-in-prefix-clause-fault
returns-in_err-text-in-prefix-clause-fault c = λ e. none_behind c.args.word.now c.args.words.now (log_kinds ++ folder_kinds ++ run_kinds ++ queue_kinds) prefix c.in-prefix.is (λ line left h.
    let none : IsNoEscapedText (unwrap_or c.args.words.now []) = c.in_err-text-in-prefix.ensures.fault (search rules) in
    no_text _ _ _ h.2 none)

pub returns-in_err-text-in-suffix-clause-fault : goal.returns-in_err-text-in-suffix-clause-fault
returns-in_err-text-in-suffix-clause-fault c = λ e. none_behind c.args.word.now c.args.words.now (log_kinds ++ folder_kinds ++ run_kinds ++ queue_kinds) suffix c.in-suffix.is (λ line left h.
    let none : IsNoEscapedText (unwrap_or c.args.words.now []) = c.in_err-text-in-suffix.ensures.fault (search rules) in
    no_text _ _ _ h.2 none)

pub returns-in_err-text-in-link-clause-fault : goal.returns-in_err-text-in-link-clause-fault
returns-in_err-text-in-link-clause-fault c = λ e. none_behind c.args.word.now c.args.words.now (log_kinds ++ folder_kinds ++ run_kinds ++ queue_kinds) link c.in-link.is (λ line left h.
    let none : IsNoEscapedText (unwrap_or c.args.words.now []) = c.in_err-text-in-link.ensures.fault (search rules) in
    no_text _ _ _ h.2 none)

pub returns-in_default-clause-fault : goal.returns-in_default-clause-fault
returns-in_default-clause-fault c = λ e.
    none_unless c.args.word.now c.args.words.now log_kinds (folder_kinds ++ run_kinds ++ queue_kinds)
    (c.in_default.not-rotation, (c.in_default.not-prefix, (c.in_default.not-suffix, (c.in_default.not-link, (c.in_default.not-max, (c.in_default.not-bytes, (c.in_default.not-text, (c.in_default.not-continue, tt))))))))
    (c.read_folder_words.ensures.fault e)

pub returns-clause-ok : goal.returns-clause-ok
returns-clause-ok c = elim c.match-word.branch [
  | in-rotation+in_ok-word-in-rotation+in_ok-read_rotation-in-rotation w ↦
      rw (w.words-is, w.result-is) (continues_with _ _ rotation w.in-rotation.is _ _ (_, refl, record { word = _; taken = w.in_ok-word-in-rotation.ensures.ok; kind = w.in_ok-read_rotation-in-rotation.ensures.ok }))
  | in-prefix+in_ok-text-in-prefix w ↦
      rw (w.words-is, w.result-is) (continues_with _ _ prefix w.in-prefix.is _ _ (_, refl, record { text = w.in_ok-text-in-prefix.ensures.ok; all = w.text.ensures.all }))
  | in-suffix+in_ok-text-in-suffix w ↦
      rw (w.words-is, w.result-is) (continues_with _ _ suffix w.in-suffix.is _ _ (_, refl, record { text = w.in_ok-text-in-suffix.ensures.ok; all = w.text-in-suffix.ensures.all }))
  | in-link+in_ok-text-in-link w ↦
      rw (w.words-is, w.result-is) (continues_with _ _ link w.in-link.is _ _ (_, refl, record { text = w.in_ok-text-in-link.ensures.ok; all = w.text-in-link.ensures.all }))
  | in-max+in_ok-count-in-max w ↦
      rw (w.words-is, w.result-is) (continues_with _ _ maximum w.in-max.is _ _ (_, refl, w.in_ok-count-in-max.ensures.ok))
  | in-bytes+in_ok-unsigned-in-bytes w ↦
      rw (w.words-is, w.result-is) (continues_with _ _ byte_limit w.in-bytes.is _ _ (_, refl, w.in_ok-unsigned-in-bytes.ensures.ok))
  | in-text w ↦
      rw (w.words-is, w.result-is) (continues_with _ _ by_name w.in-text.is _ _ (refl, refl))
  | in-continue w ↦
      rw (w.words-is, w.result-is) (continues_with _ _ continues w.in-continue.is _ _ (refl, refl))
]
