-- What the server's journal keeps.
use Rattle.std.specs.Prelude.{◌≡◌, ⊤, List, Some, None, ◌⊎◌}
use Rattle.std.specs.IoError.{error_kind}
use Rattle.std.specs.declared.io.ErrorKind.TheVariants.{OutOfMemory}
use Rattle.text.specs.Coded.{coded}
use Rattle.server.specs.Sessions.{ServerState}
use Rattle.journal.specs.declared.record.Record.{Record}
use Rattle.journal.specs.declared.error.JournalError.{JournalError}
use Rattle.journal.specs.declared.error.JournalError.TheVariants.{NotOpen, Refused, Store}
use Rattle.journal.specs.Contents.{Contents}
use Rattle.journal.specs.Journals.{JournalState}
use Rattle.journal.specs.Durability.{Life, born, Runs}

-- a journal into which these records were put, all of them committed
abbrev pub committed_life : JournalState → List Record → Life
committed_life j rs = record { journal = j; written = rs; committed = rs }

-- an open journal that began with an empty store: these contents stay through any crash
pub record Lasts (j : JournalState) (c : Contents) : Type 0 where
  pub records : List Record
  pub lived : Runs born (committed_life j records)
  pub opened : j.contents ≡ Some c

-- why a journal in memory fails that refuses nothing: memory is wanting, or was before, and the journal has not been open since
abbrev pub WantsMemory : JournalError → Type 0
WantsMemory NotOpen = ⊤
WantsMemory (Refused why) = ⊥
WantsMemory (Store e) = error_kind e ≡ OutOfMemory

-- what a server has; no connection is written
abbrev pub contents_of : ServerState coded → Contents
contents_of v = record { text = v.text; history = v.history; connection = 0 }

-- the journal keeps what the server has; or it is not open any more, since memory was wanting
abbrev pub Follows : JournalState → ServerState coded → Type 0
Follows j v = ∥ (j.contents ≡ None) ⊎ Lasts j (contents_of v) ∥₁
