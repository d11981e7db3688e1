use Rattle.rolltee_core.proofs.file_log.FileLog.flush.Goals as goal

pub returns : goal.returns
returns g c =
    rw (← c.self.view_is) (c.flush-flushed.new.self, c.flush-flushed.ensures, rw c.unsynced_after-self-inside.ensures at c.compare.ensures)
