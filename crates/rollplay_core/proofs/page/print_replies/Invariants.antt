-- Prints a reply at a time.
use Rattle.std.proofs.Common.{◌≡◌, ◌++◌, take}
use Rattle.rollplay_core.specs.Page.{reply_lines}
use Rattle.rollplay_core.proofs.page.print_replies.Given as goal

abbrev pub invariant-loop-reply : goal.invariant-loop-reply
invariant-loop-reply l =
    l.page.items ≡ l.initial.page.items ++ reply_lines (take l.reply-index l.replies)
