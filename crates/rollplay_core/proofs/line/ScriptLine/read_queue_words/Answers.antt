use Rattle.std.proofs.Common.{refl, ◌∙◌, subst, Option, List, [], ℕ, unwrap_or, rules}
use Rattle.std.specs.Int.{w64}
use Rattle.std.proofs.lemmas.Int.{to_z-of_z}
use Rattle.rollplay_core.specs.Words.{TakesWord}
use Rattle.rollplay_core.specs.Text.{IsEscaped, IsNoEscapedText}
use Rattle.rollplay_core.specs.Line.{queue_kinds, queue, offer, shut, add, drop, work}
use Rattle.std.proofs.lemmas.List.Elements.{All-nil}
use Rattle.rollplay_core.proofs.LineLemmas.{continues_with, none_behind, none_unless, takes_none, takes_once}
use Rattle.rollplay_core.proofs.line.ScriptLine.read_queue_words.Goals.{in-queue+in_ok-count-in-queue+in_ok-word-in-queue+in_ok-read_mode-in-queue, in-offer+in_ok-unsigned-in-offer+in_ok-text-in-offer, in-shut, in-add, in-drop, in-work+in_ok-seconds-in-work}
use Rattle.rollplay_core.proofs.line.ScriptLine.read_queue_words.Goals as goal

pub returns-in_err-word-in-queue-clause-fault : goal.returns-in_err-word-in-queue-clause-fault
returns-in_err-word-in-queue-clause-fault c = λ e. none_behind c.args.word.now c.args.words.now queue_kinds queue c.in-queue.is (λ line left h.
    let behind = (takes_once _ _ _ _ _ h.3.1.taken c.in_ok-count-in-queue.ensures.ok.taken).1 in
    takes_none _ _ _ (subst (λ (r : Option (List ℕ)). TakesWord r h.3.2.word left) behind h.3.2.taken) c.in_err-word-in-queue.ensures.err.1)

pub returns-in_err-read_mode-in-queue-clause-fault : goal.returns-in_err-read_mode-in-queue-clause-fault
returns-in_err-read_mode-in-queue-clause-fault c = λ e. none_behind c.args.word.now c.args.words.now queue_kinds queue c.in-queue.is (λ line left h.
    let behind = (takes_once _ _ _ _ _ h.3.1.taken c.in_ok-count-in-queue.ensures.ok.taken).1 in
    let taken = subst (λ (r : Option (List ℕ)). TakesWord r h.3.2.word left) behind h.3.2.taken in
    let word = (takes_once _ _ _ _ _ c.in_ok-word-in-queue.ensures.ok taken).0 in
    c.in_err-read_mode-in-queue.ensures.err.1 h.1 (word ∙ h.3.2.kind))

pub returns-in_err-text-in-offer-clause-fault : goal.returns-in_err-text-in-offer-clause-fault
returns-in_err-text-in-offer-clause-fault c = λ e. none_behind c.args.word.now c.args.words.now queue_kinds offer c.in-offer.is (λ line left h.
    let behind = (takes_once _ _ _ _ _ h.3.1.taken c.in_ok-unsigned-in-offer.ensures.ok.taken).1 in
    let none : IsNoEscapedText (unwrap_or c.unsigned.new.self []) = c.in_err-text-in-offer.ensures.fault (search rules) in
    none h.1.items (subst (λ (r : Option (List ℕ)). IsEscaped h.1.items (unwrap_or r [])) behind h.3.2.text))

pub returns-in_default-clause-fault : goal.returns-in_default-clause-fault
returns-in_default-clause-fault c = λ e.
    none_unless c.args.word.now c.args.words.now queue_kinds []
    (c.in_default.not-queue, (c.in_default.not-offer, (c.in_default.not-shut, (c.in_default.not-add, (c.in_default.not-drop, (c.in_default.not-work, tt))))))
    (All-nil _)

pub returns-clause-ok : goal.returns-clause-ok
returns-clause-ok c = elim c.match-word.branch [
  | in-queue+in_ok-count-in-queue+in_ok-word-in-queue+in_ok-read_mode-in-queue w ↦
      rw (w.words-is, w.result-is) (continues_with _ _ queue w.in-queue.is _ _ (_, _, refl, (_, w.in_ok-count-in-queue.ensures.ok, record { word = _; taken = w.in_ok-word-in-queue.ensures.ok; kind = w.in_ok-read_mode-in-queue.ensures.ok })))
  | in-offer+in_ok-unsigned-in-offer+in_ok-text-in-offer w ↦
      rw (w.words-is, w.result-is) (continues_with _ _ offer w.in-offer.is _ _ (_, _, refl, (_, w.in_ok-unsigned-in-offer.ensures.ok, record { text = rw w.into_bytes.ensures.value w.in_ok-text-in-offer.ensures.ok; all = w.text.ensures.all })))
  | in-shut w ↦
      rw (w.words-is, w.result-is) (continues_with _ _ shut w.in-shut.is _ _ (refl, refl))
  | in-add w ↦
      rw (w.words-is, w.result-is) (continues_with _ _ add w.in-add.is _ _ (refl, refl))
  | in-drop w ↦
      rw (w.words-is, w.result-is) (continues_with _ _ drop w.in-drop.is _ _ (refl, refl))
  | in-work+in_ok-seconds-in-work w ↦
      rw (w.words-is, w.result-is, to_z-of_z w64 w.in_ok-seconds-in-work.field-0 w.in_ok-seconds-in-work.ensures.ok.kind.fits) (continues_with _ _ work w.in-work.is _ _ (_, refl, w.in_ok-seconds-in-work.ensures.ok))
]
