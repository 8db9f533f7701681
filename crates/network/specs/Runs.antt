-- Any number of clients and one server, over queues that lose nothing; for any kind of operations.
-- A client is one screen. Each time that it joins it begins a life, with a connection of its own: sites are used again, connections never.
-- So who an operation belongs to goes by connection.
use Rattle.std.specs.Prelude.{◌≡◌, ℕ, suc, ◌+◌, ◌<◌, true, cond, List, [], ◌∷◌, ◌++◌, map, length, Some, None, Option, ◌==◌, ◌≢◌}
use Rattle.operation.specs.declared.entry.Submission.{Submission}
use Rattle.operation.specs.Letters.{Once, Apart}
use Rattle.operation.specs.Laws.{Kind}
use Rattle.client.specs.Replicas.{Replica, fresh, performed, submission, confirmed, received}
use Rattle.network.specs.declared.message.Message.{Message}
use Rattle.network.specs.declared.message.Message.TheVariants as message
use Rattle.server.specs.Sessions.{Seat, free, joined_at, heard, ServerState, arrival, taken}

-- an operation as it was performed, with the text that stood on the screen at that moment
pub record Deed {A : Type 0} (k : Kind A) : Type 0 where
  pub op : k.Op
  pub before : k.Text

-- an entry of the history, with the connection that it came over
pub record Row (O : Type 0) : Type 0 where
  pub by : ℕ
  pub op : O

-- the operations of the history, and whose they are
abbrev pub ops : {O : Type 0} → List (Row O) → List O
ops {O} rows = map (λ (r : Row O). r.op) rows

abbrev pub owners : {O : Type 0} → List (Row O) → List ℕ
owners {O} rows = map (λ (r : Row O). r.by) rows

-- how many of the entries came over connection c
unfoldable pub count_of : ℕ → List ℕ → ℕ
count_of c [] = 0
count_of c (o ∷ os) = cond (o == c) (suc (count_of c os)) (count_of c os)

-- One life of a client. queue: what is under way to the server, the oldest first; deeds: all that was performed in this life;
-- ended: once the connection has ended, how many entries the history had then: the client is sent no later ones
pub record Life {A : Type 0} (k : Kind A) : Type 0 where
  pub client : ℕ
  pub site : ℕ
  pub replica : Replica k
  pub queue : List (Message k.Op)
  pub deeds : List (Deed k)
  pub ended : Option ℕ

-- The server, with its seats by connection; rows: its history, with whose each entry is;
-- lives: by connection; connections: how many have been given, 0 and up; typed: every letter that was ever typed
pub record Net {A : Type 0} (k : Kind A) : Type 0 where
  pub server : ServerState k
  pub rows : List (Row k.Op)
  pub lives : ℕ → Life k
  pub connections : ℕ
  pub typed : List A

abbrev pub first_end : Option ℕ → ℕ → Option ℕ
first_end None h = Some h
first_end (Some e) h = Some e

-- f with another value at i
abbrev pub at : {X : Type 0} → ℕ → X → (ℕ → X) → ℕ → X
at i x f j = cond (j == i) x (f j)

module _ {A : Type 0} (k : Kind A) where
  abbrev pub nobody : Life k
  nobody = record { client = 0; site = 0; replica = fresh k k.empty 0; queue = []; deeds = []; ended = Some 0 }

  -- nobody has joined, and the text is empty
  abbrev pub start : Net k
  start = record { server = record { text = k.empty; history = []; seats = λ c. free }; rows = []; lives = λ c. nobody; connections = 0; typed = [] }

  abbrev pub with_life : ℕ → Life k → Net k → Net k
  with_life c l n = record { server = n.server; rows = n.rows; lives = at c l n.lives; connections = n.connections; typed = n.typed }

  abbrev pub with_server : ServerState k → Net k → Net k
  with_server s n = record { server = s; rows = n.rows; lives = n.lives; connections = n.connections; typed = n.typed }

  -- WHAT EACH STEP LEAVES OF A LIFE
  -- o is performed and sent
  abbrev pub performing : k.Op → Life k → Life k
  performing o l = record {
    client = l.client;
    site = l.site;
    replica = performed k o l.replica;
    queue = l.queue ++ message.Operation (submission k o l.replica) ∷ [];
    deeds = l.deeds ++ record { op = o; before = l.replica.text } ∷ [];
    ended = l.ended;
  }

  abbrev pub with_queue : List (Message k.Op) → Life k → Life k
  with_queue q l = record { client = l.client; site = l.site; replica = l.replica; queue = q; deeds = l.deeds; ended = l.ended }

  abbrev pub with_replica : Replica k → Life k → Life k
  with_replica r l = record { client = l.client; site = l.site; replica = r; queue = l.queue; deeds = l.deeds; ended = l.ended }

  -- it sends its revision so far
  abbrev pub reporting : Life k → Life k
  reporting l = with_queue (l.queue ++ message.Revision l.replica.revision ∷ []) l

  -- it sees the next entry: its own of this life, or another's
  abbrev pub seen_by : ℕ → Row k.Op → Replica k → Replica k
  seen_by c e r = cond (e.by == c) (confirmed k r) (received k e.op r)

  abbrev pub seeing : ℕ → Row k.Op → Life k → Life k
  seeing c e l = with_replica (seen_by c e l.replica) l

  -- client p has just joined at site i
  abbrev pub newborn : ℕ → ℕ → k.Text → ℕ → Life k
  newborn p i t h = record { client = p; site = i; replica = fresh k t h; queue = []; deeds = []; ended = None }

  -- its connection ends at a history of h entries, unless it has ended before
  abbrev pub ended_at : ℕ → Life k → Life k
  ended_at h l = record { client = l.client; site = l.site; replica = l.replica; queue = l.queue; deeds = l.deeds; ended = first_end l.ended h }

  -- WHAT EACH STEP LEAVES
  -- the client with connection c performs o and sends it
  abbrev pub after_performing : ℕ → k.Op → Net k → Net k
  after_performing c o n = record {
    server = n.server;
    rows = n.rows;
    lives = at c (performing o (n.lives c)) n.lives;
    connections = n.connections;
    typed = n.typed ++ k.puts o;
  }

  abbrev pub after_reporting : ℕ → Net k → Net k
  after_reporting c n = with_life c (reporting (n.lives c)) n

  -- the server takes the operation m of connection c, the oldest under way; `rest` is under way then
  abbrev pub entry_of : ℕ → Submission k.Op → Net k → Row k.Op
  entry_of c m n = record { by = c; op = (arrival k m (n.server.seats c)).one }

  abbrev pub after_taking : ℕ → Submission k.Op → List (Message k.Op) → Net k → Net k
  after_taking c m rest n = record {
    server = taken k c m n.server;
    rows = n.rows ++ entry_of c m n ∷ [];
    lives = at c (with_queue rest (n.lives c)) n.lives;
    connections = n.connections;
    typed = n.typed;
  }

  -- a seat is changed
  abbrev pub with_seat : ℕ → Seat k.Op → ServerState k → ServerState k
  with_seat c s v = record { text = v.text; history = v.history; seats = at c s v.seats }

  -- the server hears a revision
  abbrev pub after_hearing : ℕ → ℕ → List (Message k.Op) → Net k → Net k
  after_hearing c r rest n = with_life c (with_queue rest (n.lives c)) (with_server (with_seat c (heard r (n.server.seats c)) n.server) n)

  -- the client with connection c sees the entry e
  abbrev pub after_seeing : ℕ → Row k.Op → Net k → Net k
  after_seeing c e n = with_life c (seeing c e (n.lives c)) n

  -- client p joins at site i: a new connection, the server's text, nothing pending
  abbrev pub after_joining : ℕ → ℕ → Net k → Net k
  after_joining p i n = record {
    server = with_seat n.connections (joined_at (length n.server.history)) n.server;
    rows = n.rows;
    lives = at n.connections (newborn p i n.server.text (length n.server.history)) n.lives;
    connections = n.connections + 1;
    typed = n.typed;
  }

  -- the server ends connection c
  abbrev pub after_ending : ℕ → Net k → Net k
  after_ending c n = with_life c (ended_at (length n.server.history) (n.lives c)) (with_server (with_seat c free n.server) n)

  -- the server crashes and starts again: its history is what it was, and so is its text; every connection has ended
  abbrev pub after_crashing : Net k → Net k
  after_crashing n = record {
    server = record { text = n.server.text; history = n.server.history; seats = λ c. free };
    rows = n.rows;
    lives = λ c. ended_at (length n.server.history) (n.lives c);
    connections = n.connections;
    typed = n.typed;
  }

  -- WHICH STEPS THERE ARE
  -- connection c is the last that its client was given
  abbrev pub Current : Net k → ℕ → Type 0
  Current n c = (c < n.connections) × ((d : ℕ) → c < d → d < n.connections → (n.lives d).client ≢ (n.lives c).client)

  -- the server has connection c
  abbrev pub Connected : Net k → ℕ → Type 0
  Connected n c = (n.server.seats c).connected ≡ true

  -- entry r may still come to a life: before its connection ended it was in the history
  abbrev pub Sendable : Option ℕ → ℕ → Type 0
  Sendable None r = Unit {0}
  Sendable (Some e) r = r < e

  pub data Step (n : Net k) : Net k → Type 0 where
    -- somebody types or strikes: at their own site, within their own text, letters that nobody typed before
    performs : (c : ℕ) (o : k.Op) → Current n c → k.site o ≡ (n.lives c).site → k.Fits o (n.lives c).replica.text →
        Once (k.puts o) → Apart (k.puts o) n.typed → Step n (after_performing c o n)
    reports : (c : ℕ) → Current n c → Step n (after_reporting c n)
    takes : (c : ℕ) (m : Submission k.Op) (rest : List (Message k.Op)) → Connected n c → (n.lives c).queue ≡ message.Operation m ∷ rest → Step n (after_taking c m rest n)
    hears : (c r : ℕ) (rest : List (Message k.Op)) → Connected n c → (n.lives c).queue ≡ message.Revision r ∷ rest → Step n (after_hearing c r rest n)
    sees : (c : ℕ) (e : Row k.Op) (before after : List (Row k.Op)) → Current n c → n.rows ≡ before ++ e ∷ after → length before ≡ (n.lives c).replica.revision →
        Sendable (n.lives c).ended (n.lives c).replica.revision → Step n (after_seeing c e n)
    -- a client joins, for the first time or anew, at a site that no connection has; a connection that it still had ends first
    joins : (p i : ℕ) → ((c : ℕ) → Connected n c → (n.lives c).site ≢ i) → ((c : ℕ) → Connected n c → (n.lives c).client ≢ p) → Step n (after_joining p i n)
    ends : (c : ℕ) → Connected n c → Step n (after_ending c n)
    crashes : Step n (after_crashing n)

  -- a step that nobody has to type for, and that is no fault
  abbrev pub Quiet : (n m : Net k) → Step n m → Type 0
  Quiet n _ (performs c o u s f x a) = ⊥
  Quiet n _ (reports c u) = Unit {0}
  Quiet n _ (takes c m rest u e) = Unit {0}
  Quiet n _ (hears c r rest u e) = Unit {0}
  Quiet n _ (sees c e f g u l m s) = Unit {0}
  Quiet n _ (joins p i u v) = Unit {0}
  Quiet n _ (ends c u) = ⊥
  Quiet n _ crashes = ⊥

  -- a step of what is under way
  abbrev pub Calm : (n m : Net k) → Step n m → Type 0
  Calm n _ (performs c o u s f x a) = ⊥
  Calm n _ (reports c u) = ⊥
  Calm n _ (takes c m rest u e) = Unit {0}
  Calm n _ (hears c r rest u e) = Unit {0}
  Calm n _ (sees c e f g u l m s) = Unit {0}
  Calm n _ (joins p i u v) = ⊥
  Calm n _ (ends c u) = ⊥
  Calm n _ crashes = ⊥

  -- several steps, one after another, all such as P says
  pub data PathBy (P : (n m : Net k) → Step n m → Type 0) (n : Net k) : Net k → Type 0 where
    here : PathBy P n n
    onward : {m o : Net k} → PathBy P n m → (s : Step m o) → P m o s → PathBy P n o

  abbrev pub Path : Net k → Net k → Type 0
  Path = PathBy (λ n m s. Unit {0})

  abbrev pub Reachable : Net k → Type 0
  Reachable n = Path start n
