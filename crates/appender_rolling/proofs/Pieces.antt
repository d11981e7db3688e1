-- A line that is written in pieces.
use Rattle.std.proofs.Common.{◌≢◌, ◌∙◌, refl, sym, ap, ℕ, List, [], ◌∷◌, ◌++◌, take, drop, append_assoc, arith, length-append}
use Rattle.std.proofs.lemmas.List.{take-append-drop}
use Rattle.std.proofs.Math.Seq.{length-take-le}
use Rattle.std.specs.Prelude.{Result}
use Rattle.std.specs.declared.io.Error.{Error}
use Rattle.appender_store.specs.Content.{after_append}
use Rattle.appender_store.specs.declared.store.Folder.{Ghosts}
use Rattle.appender_store.proofs.Appends.{after_append_twice}
use Rattle.appender_rolling.specs.Roller.{Rolling, written_count, Writes, KeepsOpenFile, AreContinued, WritesSoFar}

stays_twice : {S F : Type 0} (kind : Ghosts S F) (start last now : Rolling S F) → KeepsOpenFile kind start last → KeepsOpenFile kind last now → KeepsOpenFile kind start now
stays_twice kind start last now first second = record {
  config_is = second.config_is ∙ first.config_is;
  opened = second.opened ∙ first.opened;
  last = second.last ∙ first.last;
  boundary = second.boundary ∙ first.boundary;
  file = second.file ∙ first.file;
  noted = second.noted ∙ first.noted;
}

-- one write more
pub one_more_piece : {S F : Type 0} (kind : Ghosts S F) (answers : List (Result ℕ Error)) (bytes left : List ℕ) (start last now : Rolling S F) (answer : Result ℕ Error)
    → WritesSoFar kind answers bytes left start last → AreContinued answers → left ≢ [] → Writes kind left answer last now
    → WritesSoFar kind (answer ∷ answers) bytes (drop (written_count answer) left) start now
one_more_piece kind answers bytes left start last now answer so goes some w = record {
  pieces = (left, last, so.pieces, some, goes, w, refl);
  taken = so.taken ++ take (written_count answer) left;
  split = so.split ∙ ap (λ xs. so.taken ++ xs) (sym (take-append-drop (written_count answer) left))
      ∙ sym (append_assoc so.taken (take (written_count answer) left) (drop (written_count answer) left));
  content = λ is_known. w.content is_known
      ∙ ap (λ c. after_append c (kind.body last.file) (take (written_count answer) left)) (so.content is_known)
      ∙ ap (λ b. after_append (after_append (kind.content start.folder) (kind.body start.file) so.taken) b (take (written_count answer) left)) so.stays.file
      ∙ after_append_twice (kind.content start.folder) (kind.body start.file) so.taken (take (written_count answer) left);
  stays = stays_twice kind start last now so.stays w.stays;
  room = (let taken = length-take-le (written_count answer) left w.bound in omega (arith, length-append so.taken (take (written_count answer) left), so.room, w.room, w.bound));
}
