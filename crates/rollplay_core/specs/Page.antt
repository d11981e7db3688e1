-- The page that is printed for a run.
use Rattle.std.specs.Prelude.{ℕ, List, [], ◌∷◌, ◌++◌, length, Option, None, Some, Result, Ok, Err, codes}
use Rattle.std.specs.Fmt.{decimal}
use Rattle.std.specs.List.{flat_map}
use Rattle.std.specs.FinMap as fin
use Rattle.std.specs.declared.io.ErrorKind.{ErrorKind}
use Rattle.appender_names.specs.declared.error.InitError.{InitError}
use Rattle.appender_names.specs.InitError.{code_of}
use Rattle.appender_store.specs.Content.{Content}
use Rattle.appender_store.specs.MemoryState.{bytes_in, target_in}
use Rattle.appender_queue.specs.declared.queue.Counts.{Counts}
use Rattle.appender_queue.specs.declared.queue.Shut.TheVariants.{Sent, Already, Full as ShutFull, Closed as ShutClosed}
use Rattle.appender_rolling.specs.declared.rolling.Switch.{Switch}
use Rattle.appender_rolling.specs.declared.rolling.Switch.TheVariants.{None as Stayed, Opened, Failed}
use Rattle.appender_replay.specs.declared.replay.RollReply.{RollReply}
use Rattle.appender_replay.specs.declared.replay.RollReply.TheVariants.{Saw, Put, Wrote, Flushed}
use Rattle.appender_replay.specs.declared.replay.whole.Reply.{Reply}
use Rattle.appender_replay.specs.declared.replay.whole.Reply.TheVariants.{Accepted, Full, Closed, NoMemory, Shut, Senders, Took, TookShutdown, TookGone, TookEmpty, Wrote as DidWrite, Flushed as DidFlush, Ended}
use Rattle.rollplay_core.specs.Text.{script_escapes}

-- a text with its newline
abbrev pub with_newline : List ℕ → List ℕ
with_newline text = text ++ (10 ∷ [])

-- ---- replies

abbrev pub switch_word : Switch → List ℕ
switch_word Stayed = codes "none"
switch_word Opened = codes "opened"
switch_word Failed = codes "failed"

-- the number of bytes that were taken, or the failure
abbrev pub count_words : Result ℕ ErrorKind → List ℕ
count_words (Ok n) = codes "ok " ++ decimal n
count_words (Err kind) = codes "err"

abbrev pub reply_words : RollReply → List ℕ
reply_words (Saw switch) = switch_word switch
reply_words (Put switch taken) = switch_word switch ++ (32 ∷ count_words taken)
reply_words (Wrote taken) = count_words taken
reply_words (Flushed (Ok done)) = codes "ok"
reply_words (Flushed (Err kind)) = codes "err"

-- a line for each reply
abbrev pub reply_lines : List RollReply → List ℕ
reply_lines = flat_map (λ reply. with_newline (reply_words reply))

-- for a run with a queue: tickets count the accepted lines from 1
abbrev pub queue_reply_words : Reply → List ℕ
queue_reply_words (Accepted ticket) = codes "accepted " ++ decimal ticket
queue_reply_words Full = codes "full"
queue_reply_words Closed = codes "closed"
queue_reply_words NoMemory = codes "no memory"
queue_reply_words (Shut Sent) = codes "sent"
queue_reply_words (Shut Already) = codes "already"
queue_reply_words (Shut ShutFull) = codes "full"
queue_reply_words (Shut ShutClosed) = codes "closed"
queue_reply_words (Senders n) = codes "senders " ++ decimal n
queue_reply_words (Took ticket) = codes "took " ++ decimal ticket
queue_reply_words TookShutdown = codes "shutdown"
queue_reply_words TookGone = codes "gone"
queue_reply_words TookEmpty = codes "empty"
queue_reply_words (DidWrite switch taken) = codes "wrote " ++ (switch_word switch ++ (32 ∷ count_words taken))
queue_reply_words (DidFlush (Ok done)) = codes "flushed"
queue_reply_words (DidFlush (Err kind)) = codes "flush err"
queue_reply_words Ended = codes "ended"

abbrev pub queue_reply_lines : List Reply → List ℕ
queue_reply_lines = flat_map (λ reply. with_newline (queue_reply_words reply))

-- accepted, handed, queued, left and dropped, as decimal numbers
abbrev pub counts_words : Counts → List ℕ
counts_words c =
    codes "counts " ++ (decimal c.accepted ++ (32 ∷ (decimal c.handed ++ (32 ∷ (decimal c.queued
    ++ (32 ∷ (decimal c.left ++ (32 ∷ decimal c.dropped))))))))

-- ---- the folder

-- a file's contents in one line, after a space; nothing if it is empty
abbrev pub contents_word : List ℕ → List ℕ
contents_word [] = []
contents_word (b ∷ bytes) = 32 ∷ script_escapes (b ∷ bytes)

-- a name with the bytes of its file or the target of its link; with neither, it is a folder
abbrev pub entry_words : List ℕ → Option (List ℕ) → Option (List ℕ) → List ℕ
entry_words name (Some bytes) target =
    codes "file " ++ (name ++ (32 ∷ (decimal (length bytes) ++ contents_word bytes)))
entry_words name None (Some target) = codes "link " ++ (name ++ (32 ∷ target))
entry_words name None None = codes "folder " ++ name

abbrev pub entry_line : Content → List ℕ → List ℕ
entry_line folder name =
    let entry = fin.get folder.names name in
    with_newline (entry_words name (bytes_in folder entry) (target_in entry))

-- a line for each name, in byte order
abbrev pub folder_lines : Content → List ℕ
folder_lines folder = flat_map (entry_line folder) (fin.keys folder.names)

-- ---- all of it

abbrev pub open_line : List ℕ → List ℕ
open_line name = with_newline (codes "open " ++ name)

-- for a log that was opened: the first file's name, the replies, and the folder at the end
abbrev pub run_page : List ℕ → List RollReply → Content → List ℕ
run_page name replies folder = open_line name ++ (reply_lines replies ++ folder_lines folder)

-- for a log with a queue: also the counts of the queue
abbrev pub queued_page : List ℕ → List Reply → Content → Counts → List ℕ
queued_page name replies folder counts =
    open_line name ++ (queue_reply_lines replies ++ (folder_lines folder ++ with_newline (counts_words counts)))

-- for a log that was not opened: the number of the error, and the folder that was returned
abbrev pub refusal_page : InitError → Content → List ℕ
refusal_page error folder = with_newline (codes "init error " ++ decimal (code_of error)) ++ folder_lines folder
