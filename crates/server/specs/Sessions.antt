-- What the server has of each client, and of its own text and history, for any kind of operations.
use Rattle.std.specs.Prelude.{ℕ, Bool, true, false, cond, List, [], ◌∷◌, ◌++◌, length, ◌==◌, nat_le}
use Rattle.operation.specs.declared.entry.Entry.{Entry}
use Rattle.operation.specs.declared.entry.Submission.{Submission}
use Rattle.operation.specs.Entries.{operations, replaced}
use Rattle.operation.specs.Transform.{Passed, through}
use Rattle.operation.specs.Laws.{Kind}

-- connected: has the site a client; said: the highest revision that the client has said;
-- concurrent: the entries that it is not known to have seen, with their places in the history, as they are past the client's own
pub record Seat (O : Type 0) : Type 0 where
  pub connected : Bool
  pub said : ℕ
  pub concurrent : List (Entry O)

-- a site that is free
abbrev pub free : {O : Type 0} → Seat O
free = record { connected = false; said = 0; concurrent = [] }

-- a client that has just joined, at a history of n entries
abbrev pub joined_at : {O : Type 0} → ℕ → Seat O
joined_at n = record { connected = true; said = n; concurrent = [] }

-- the entries that a client which has seen r has not seen
unfoldable pub unseen : {O : Type 0} → ℕ → List (Entry O) → List (Entry O)
unseen r [] = []
unseen r (e ∷ es) = cond (nat_le r e.place) (e ∷ unseen r es) (unseen r es)

-- what the client has said: the entries below r are seen
abbrev pub heard : {O : Type 0} → ℕ → Seat O → Seat O
heard r s = record { connected = s.connected; said = r; concurrent = unseen r s.concurrent }

-- one entry more, if there is a client
abbrev pub told : {O : Type 0} → Entry O → Seat O → Seat O
told e s = cond s.connected (record { connected = true; said = s.said; concurrent = s.concurrent ++ e ∷ [] }) s

-- text: after the whole history; history: the operations in their order; seats: by site
pub record ServerState {A : Type 0} (k : Kind A) : Type 0 where
  pub text : k.Text
  pub history : List k.Op
  pub seats : ℕ → Seat k.Op

module _ {A : Type 0} (k : Kind A) where
  -- an operation of a client past what that client had not seen at revision r, and these past it
  abbrev pub arrival : Submission k.Op → Seat k.Op → Passed k.Op
  arrival m s = through k.late k.early m.op (operations (unseen m.revision s.concurrent))

  -- the sender's seat afterwards
  abbrev pub sender : Submission k.Op → Seat k.Op → Seat k.Op
  sender m s = record { connected = s.connected; said = m.revision; concurrent = replaced (unseen m.revision s.concurrent) (arrival m s).others }

  -- site i's operation is taken: it goes past what its client had not seen, to the end of the history, to the text, and to every other client
  abbrev pub taken : ℕ → Submission k.Op → ServerState k → ServerState k
  taken i m n = record {
    text = k.apply (arrival m (n.seats i)).one n.text;
    history = n.history ++ (arrival m (n.seats i)).one ∷ [];
    seats = λ j. cond (j == i) (sender m (n.seats i)) (told (record { place = length n.history; op = (arrival m (n.seats i)).one }) (n.seats j));
  }
