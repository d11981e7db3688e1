-- Why a line was neither queued nor dropped.
use Rattle.std.specs.Prelude.{◌≡◌, Bool, false}
use Rattle.std.specs.declared.io.ErrorKind.{ErrorKind}
use Rattle.std.specs.declared.io.ErrorKind.TheVariants.{OutOfMemory, Other}

-- memory was refused, or the queue is closed and its senders wait
abbrev pub IsRefusal : Bool → ErrorKind → Type 0
IsRefusal lossy OutOfMemory = Unit {0}
IsRefusal lossy Other = lossy ≡ false
IsRefusal lossy kind = ⊥
