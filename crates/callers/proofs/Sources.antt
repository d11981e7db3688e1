-- Works that queued all of their lines.
use Rattle.std.proofs.Common.{◌≡◌, ◌∙◌, ℕ, ◌<◌, List, [], ◌∷◌, ◌++◌, Bool, true, length, map, slice_index_or, refl, ap, sym, subst, arith}
use Rattle.std.proofs.lemmas.List.{get_or-map, length-map, nil_from_length, same_lists}
use Rattle.tracing_appender.specs.SentLines.{SentLines, new_sender}
use Rattle.tracing_appender.specs.Work.{RunsEachWork}
use Rattle.callers.specs.declared.audit_sink.Source.{Source}
use Rattle.callers.specs.Sources.{texts_of}

abbrev pub Sends : Source → SentLines → Source → SentLines → Type 0
Sends old start new ended = new.is_queued ≡ true → ended.lines ≡ start.lines ++ texts_of old

-- so their senders have queued their lines
pub all_sent : (lossy : Bool) (works done : List Source) (ended : List SentLines) → RunsEachWork Sends lossy works done ended
    → ((i : ℕ) (d : Source) → i < length done → (slice_index_or done i d).is_queued ≡ true) → map (λ s. s.lines) ended ≡ map texts_of works
all_sent lossy [] done ended ran queued = subst (λ (es : List SentLines). map (λ s. s.lines) es ≡ []) (sym (nil_from_length ended ran.each_sender)) refl
all_sent lossy (w ∷ works) done ended ran queued =
    same_lists (map (λ s. s.lines) ended) (map texts_of (w ∷ works)) (length-map ended (λ s. s.lines) ∙ ran.each_sender ∙ sym (length-map (w ∷ works) texts_of)) each where
      each : (i : ℕ) (d : List (List ℕ)) → i < length (map (λ s. s.lines) ended) → slice_index_or (map (λ s. s.lines) ended) i d ≡ slice_index_or (map texts_of (w ∷ works)) i d
      each i d less =
          let few : i < length ended = omega (arith, less, length-map ended (λ s. s.lines)) in
          let within : i < length (w ∷ works) = omega (arith, few, ran.each_sender) in
          get_or-map (λ s. s.lines) ended i (new_sender lossy i) d few
          ∙ ran.did i w (new_sender lossy i) within (queued i w (omega (arith, within, ran.each_work)))
          ∙ sym (get_or-map texts_of (w ∷ works) i w d within)
