use Rattle.std.proofs.Common.{refl, subst, Option, List, [], ◌++◌, ℕ, unwrap_or, string_bytes, rules}
use Rattle.rollplay_core.specs.Words.{TakesWord, TakesWordOf}
use Rattle.rollplay_core.specs.Text.{IsEscaped, IsNoEscapedText, IsCount}
use Rattle.rollplay_core.proofs.LineLemmas.{continues_with, none_behind, none_unless, takes_no, takes_none, takes_once}
use Rattle.rollplay_core.specs.Line.{folder_kinds, run_kinds, queue_kinds, created, file, folder, link_at, absent, failing, shortened}
use Rattle.rollplay_core.proofs.line.ScriptLine.read_folder_words.Goals.{in-created+in_ok-creation-in-created, in-file+in_ok-word-in-file+in_ok-text-in-file, in-folder+in_ok-word-in-folder, in-text+in_ok-word-in-text+in_ok-word-in-text-2, in-absent, in-fail+in_ok-call-in-fail, in-short+in_ok-call-in-short+in_ok-count-in-short}
use Rattle.rollplay_core.proofs.line.ScriptLine.read_folder_words.Goals as goal

pub returns-in_err-creation-in-created-clause-fault : goal.returns-in_err-creation-in-created-clause-fault
returns-in_err-creation-in-created-clause-fault c = λ e. none_behind c.args.word.now c.args.words.now (folder_kinds ++ run_kinds ++ queue_kinds) created c.in-created.is (λ line left h.
    takes_no _ _ _ _ _ h.2 c.in_err-creation-in-created.ensures.err.1 (λ w is. (h.0, is)))

pub returns-in_err-call-in-fail-clause-fault : goal.returns-in_err-call-in-fail-clause-fault
returns-in_err-call-in-fail-clause-fault c = λ e. none_behind c.args.word.now c.args.words.now (folder_kinds ++ run_kinds ++ queue_kinds) failing c.in-fail.is (λ line left h.
    takes_no _ _ _ _ _ h.2 c.in_err-call-in-fail.ensures.err.1 (λ w is. (h.0, is)))

pub returns-in_err-word-in-file-clause-fault : goal.returns-in_err-word-in-file-clause-fault
returns-in_err-word-in-file-clause-fault c = λ e. none_behind c.args.word.now c.args.words.now (folder_kinds ++ run_kinds ++ queue_kinds) file c.in-file.is (λ line left h.
    takes_none _ _ _ h.3.1 c.in_err-word-in-file.ensures.err.1)

pub returns-in_err-text-in-file-clause-fault : goal.returns-in_err-text-in-file-clause-fault
returns-in_err-text-in-file-clause-fault c = λ e. none_behind c.args.word.now c.args.words.now (folder_kinds ++ run_kinds ++ queue_kinds) file c.in-file.is (λ line left h.
    let behind = (takes_once _ _ _ _ _ h.3.1 c.in_ok-word-in-file.ensures.ok).1 in
    let none : IsNoEscapedText (unwrap_or c.word.new.self []) = c.in_err-text-in-file.ensures.fault (search rules) in
    none (string_bytes h.1) (subst (λ (r : Option (List ℕ)). IsEscaped (string_bytes h.1) (unwrap_or r [])) behind h.3.2.text))

pub returns-in_err-word-in-text-2-clause-fault : goal.returns-in_err-word-in-text-2-clause-fault
returns-in_err-word-in-text-2-clause-fault c = λ e. none_behind c.args.word.now c.args.words.now (folder_kinds ++ run_kinds ++ queue_kinds) link_at c.in-text.is (λ line left h.
    let behind = (takes_once _ _ _ _ _ h.3.1 c.in_ok-word-in-text.ensures.ok).1 in
    takes_none _ _ _ (subst (λ (r : Option (List ℕ)). TakesWord r h.1.now left) behind h.3.2) c.in_err-word-in-text-2.ensures.err.1)

pub returns-in_err-call-in-short-clause-fault : goal.returns-in_err-call-in-short-clause-fault
returns-in_err-call-in-short-clause-fault c = λ e. none_behind c.args.word.now c.args.words.now (folder_kinds ++ run_kinds ++ queue_kinds) shortened c.in-short.is (λ line left h.
    takes_no _ _ _ _ _ h.3.1 c.in_err-call-in-short.ensures.err.1 (λ w is. (h.0, is)))

pub returns-in_err-count-in-short-clause-fault : goal.returns-in_err-count-in-short-clause-fault
returns-in_err-count-in-short-clause-fault c = λ e. none_behind c.args.word.now c.args.words.now (folder_kinds ++ run_kinds ++ queue_kinds) shortened c.in-short.is (λ line left h.
    let behind = (takes_once _ _ _ _ _ h.3.1.taken c.in_ok-call-in-short.ensures.ok.taken).1 in
    takes_no _ _ _ _ _ (subst (λ (r : Option (List ℕ)). TakesWordOf (λ word. IsCount word h.1) r left) behind h.3.2) c.in_err-count-in-short.ensures.err.1 (λ w is. (h.1, is)))

pub returns-in_err-word-in-folder-clause-fault : goal.returns-in_err-word-in-folder-clause-fault
returns-in_err-word-in-folder-clause-fault c = λ e. none_behind c.args.word.now c.args.words.now (folder_kinds ++ run_kinds ++ queue_kinds) folder c.in-folder.is (λ line left h.
    takes_none _ _ _ h.2 c.in_err-word-in-folder.ensures.err.1)

pub returns-in_err-word-in-text-clause-fault : goal.returns-in_err-word-in-text-clause-fault
returns-in_err-word-in-text-clause-fault c = λ e. none_behind c.args.word.now c.args.words.now (folder_kinds ++ run_kinds ++ queue_kinds) link_at c.in-text.is (λ line left h.
    takes_none _ _ _ h.3.1 c.in_err-word-in-text.ensures.err.1)

pub returns-in_default-clause-fault : goal.returns-in_default-clause-fault
returns-in_default-clause-fault c = λ e.
    none_unless c.args.word.now c.args.words.now folder_kinds (run_kinds ++ queue_kinds)
    (c.in_default.not-created, (c.in_default.not-file, (c.in_default.not-folder, (c.in_default.not-text, (c.in_default.not-absent, (c.in_default.not-fail, (c.in_default.not-short, tt)))))))
    (c.read_run_words.ensures.fault e)

pub returns-clause-ok : goal.returns-clause-ok
returns-clause-ok c = elim c.match-word.branch [
  | in-created+in_ok-creation-in-created w ↦
      rw (w.words-is, w.result-is) (continues_with _ _ created w.in-created.is _ _ (_, refl, w.in_ok-creation-in-created.ensures.ok))
  | in-file+in_ok-word-in-file+in_ok-text-in-file w ↦
      rw (w.words-is, w.result-is) (continues_with _ _ file w.in-file.is _ _ (_, _, refl, (_, w.in_ok-word-in-file.ensures.ok, record { text = w.in_ok-text-in-file.ensures.ok; all = w.text.ensures.all })))
  | in-folder+in_ok-word-in-folder w ↦
      rw (w.words-is, w.result-is) (continues_with _ _ folder w.in-folder.is _ _ (_, refl, w.in_ok-word-in-folder.ensures.ok))
  | in-text+in_ok-word-in-text+in_ok-word-in-text-2 w ↦
      rw (w.words-is, w.result-is) (continues_with _ _ link_at w.in-text.is _ _ (_, _, refl, (_, w.in_ok-word-in-text.ensures.ok, w.in_ok-word-in-text-2.ensures.ok)))
  | in-absent w ↦
      rw (w.words-is, w.result-is) (continues_with _ _ absent w.in-absent.is _ _ (refl, refl))
  | in-fail+in_ok-call-in-fail w ↦
      rw (w.words-is, w.result-is) (continues_with _ _ failing w.in-fail.is _ _ (_, refl, w.in_ok-call-in-fail.ensures.ok))
  | in-short+in_ok-call-in-short+in_ok-count-in-short w ↦
      rw (w.words-is, w.result-is) (continues_with _ _ shortened w.in-short.is _ _ (_, _, refl, (_, w.in_ok-call-in-short.ensures.ok, w.in_ok-count-in-short.ensures.ok)))
]
