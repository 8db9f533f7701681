-- A client's copy of the text, and what a client does, for any kind of operations.
use Rattle.std.specs.Prelude.{ℕ, ◌+◌, cond, List, [], ◌∷◌, ◌++◌, drop, ◌==◌}
use Rattle.operation.specs.declared.entry.Submission.{Submission}
use Rattle.operation.specs.Transform.{Passed, through}
use Rattle.operation.specs.Laws.{Kind}

-- text: as the client shows it; pending: its own operations that have not come back, past all that it has seen, the oldest first;
-- revision: how many entries of the history it has seen
pub record Replica {A : Type 0} (k : Kind A) : Type 0 where
  pub text : k.Text
  pub pending : List k.Op
  pub revision : ℕ

module _ {A : Type 0} (k : Kind A) where
  -- a client that has just joined: the server's text at that revision, and nothing pending
  abbrev pub fresh : k.Text → ℕ → Replica k
  fresh t n = record { text = t; pending = []; revision = n }

  -- an own operation is done at once, and is pending until it comes back
  abbrev pub performed : k.Op → Replica k → Replica k
  performed o c = record { text = k.apply o c.text; pending = c.pending ++ o ∷ []; revision = c.revision }

  -- what is sent of it: the operation as it was performed, with the revision at that moment
  abbrev pub submission : k.Op → Replica k → Submission k.Op
  submission o c = record { revision = c.revision; op = o }

  -- another's entry goes past all that is pending, and these past it
  abbrev pub passed : k.Op → Replica k → Passed k.Op
  passed o c = through k.early k.late o c.pending

  -- the next entry is the client's own: the first of pending has come back
  abbrev pub confirmed : Replica k → Replica k
  confirmed c = record { text = c.text; pending = drop 1 c.pending; revision = c.revision + 1 }

  -- the next entry is another's
  abbrev pub received : k.Op → Replica k → Replica k
  received o c = record { text = k.apply (passed o c).one c.text; pending = (passed o c).others; revision = c.revision + 1 }

  -- the next entry of the history, as the client with site i sees it
  abbrev pub seen : ℕ → k.Op → Replica k → Replica k
  seen i o c = cond (k.site o == i) (confirmed c) (received o c)
