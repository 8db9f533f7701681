-- The two programs over a bad line, as functions from a state and what comes in to a state and what goes out; for any kind of operations.
-- Limits of the code are not here: that the server may end a connection at any time covers them.
use Rattle.std.specs.Prelude.{ℕ, zero, suc, ◌+◌, ◌-◌, ◌%◌, min, max, Bool, true, false, cond, not, ◌&&◌, ◌||◌, List, [], ◌∷◌, ◌++◌, map, length, take, drop, Some, None, Option, ◌==◌, nat_le, nat_lt}
use Rattle.operation.specs.declared.entry.Entry.{Entry}
use Rattle.operation.specs.declared.entry.Submission.{Submission}
use Rattle.operation.specs.Laws.{Kind, apply_all}
use Rattle.client.specs.Replicas.{Replica, fresh, performed, submission, seen}
use Rattle.server.specs.Sessions.{free, joined_at, heard, ServerState, taken}
use Rattle.network.specs.Runs.{at}

-- WHAT CROSSES A LINE
module _ {A : Type 0} (k : Kind A) where
  pub data Message : Type 0 where
    operation : Submission k.Op → Message
    entry : Entry k.Op → Message
    revision : ℕ → Message
    new : Message
    -- the site, how many of its operations the history has, the revision, and the text at that revision
    text : (site count revision : ℕ) → k.Text → Message

  -- a packet has its connection and its number; an acknowledgement the last number that was taken in a connection.
  -- One under connection 0 says that the connection that it names has ended.
  pub data Datagram : Type 0 where
    packet : (connection number : ℕ) → Message → Datagram
    acknowledgement : (connection last : ℕ) → Datagram

  -- a node's state and what it sends
  pub record Reply (S : Type 0) : Type 0 where
    pub state : S
    pub sent : List Datagram

-- those of a list with the numbers n + 1 to m, counted from 1
abbrev pub between : {X : Type 0} → ℕ → ℕ → List X → List X
between n m xs = drop n (take m xs)

-- at most 16 messages that are not acknowledged are under way
abbrev pub window : ℕ
window = 16

module _ {A : Type 0} (k : Kind A) where
  -- messages as packets of a connection, the first with number n
  unfoldable pub numbered : ℕ → ℕ → List (Message k) → List (Datagram k)
  numbered c n [] = []
  numbered c n (m ∷ ms) = packet c n m ∷ numbered c (suc n) ms

  -- THE CLIENT
  -- one connection as the client has it: messages: all that it ever had to send, number 1 first; acknowledged: how many of them are;
  -- last: the last number that it took from the server
  pub record Session : Type 0 where
    pub connection : ℕ
    pub replica : Replica k
    pub messages : List (Message k)
    pub acknowledged : ℕ
    pub last : ℕ

  -- A RESTART of the program leaves `highest`, `site` and `performed_so_far`, and nothing else; `lost` is no part of the program, it tells what it has reported.
  -- highest: the highest connection that it ever took; performed_so_far: how many operations of its site it knows of;
  -- asking: it wants a connection; lost: what it has reported as lost, the newest first
  pub record ClientNode : Type 0 where
    pub highest : ℕ
    pub site : ℕ
    pub performed_so_far : ℕ
    pub session : Option Session
    pub asking : Bool
    pub lost : List ℕ

  abbrev pub ask : Datagram k
  ask = packet 0 1 new

  abbrev pub first_start : ClientNode
  first_start = record { highest = 0; site = 0; performed_so_far = 0; session = None; asking = true; lost = [] }

  abbrev pub restarted : ClientNode → ClientNode
  restarted w = record { highest = w.highest; site = w.site; performed_so_far = w.performed_so_far; session = None; asking = true; lost = w.lost }

  abbrev pub in_session : Session → ClientNode → ClientNode
  in_session s w = record { highest = w.highest; site = w.site; performed_so_far = w.performed_so_far; session = Some s; asking = w.asking; lost = w.lost }

  -- a further message goes at once if it is within the window
  abbrev pub queued : Message k → Session → Session
  queued m s = record { connection = s.connection; replica = s.replica; messages = s.messages ++ m ∷ []; acknowledged = s.acknowledged; last = s.last }

  abbrev pub at_once : Message k → Session → List (Datagram k)
  at_once m s = cond (nat_lt (length s.messages) (s.acknowledged + window)) (packet s.connection (length s.messages + 1) m ∷ []) []

  abbrev pub with_replica : Replica k → Session → Session
  with_replica r s = record { connection = s.connection; replica = r; messages = s.messages; acknowledged = s.acknowledged; last = s.last }

  -- somebody types or strikes
  abbrev pub performs : k.Op → Session → ClientNode → Reply k ClientNode
  performs o s w = record {
    state = record {
      highest = w.highest;
      site = w.site;
      performed_so_far = w.performed_so_far + 1;
      session = Some (queued (operation (submission k o s.replica)) (with_replica (performed k o s.replica) s));
      asking = w.asking;
      lost = w.lost;
    };
    sent = at_once (operation (submission k o s.replica)) s;
  }

  -- is a revision so far under way that is not acknowledged?
  abbrev pub is_revision : Message k → Bool
  is_revision (operation m) = false
  is_revision (entry e) = false
  is_revision (revision r) = true
  is_revision new = false
  is_revision (text i c r t) = false

  unfoldable pub any_revision : List (Message k) → Bool
  any_revision [] = false
  any_revision (m ∷ ms) = is_revision m || any_revision ms

  -- a revision so far is said at each 1,024th entry, one at a time
  abbrev pub reporting : Session → Reply k Session
  reporting s = cond (s.replica.revision % 1024 == 0 && not (any_revision (drop s.acknowledged s.messages)))
      (record { state = queued (revision s.replica.revision) s; sent = at_once (revision s.replica.revision) s })
      (record { state = s; sent = [] })

  abbrev pub is_operation : Message k → Bool
  is_operation (operation m) = true
  is_operation (entry e) = false
  is_operation (revision r) = false
  is_operation new = false
  is_operation (text i c r t) = false

  unfoldable pub operations_in : List (Message k) → ℕ
  operations_in [] = 0
  operations_in (m ∷ ms) = cond (is_operation m) (suc (operations_in ms)) (operations_in ms)

  -- the number of the j-th operation among the messages, where there are so many; 0 for j = 0
  unfoldable pub number_of : ℕ → List (Message k) → ℕ
  number_of zero ms = 0
  number_of (suc j) [] = 0
  number_of (suc j) (m ∷ ms) = suc (cond (is_operation m) (number_of j ms) (number_of (suc j) ms))

  -- messages up to n are acknowledged: more may go
  abbrev pub advanced : ℕ → Session → Reply k Session
  advanced n s = record {
    state = record { connection = s.connection; replica = s.replica; messages = s.messages; acknowledged = max n s.acknowledged; last = s.last };
    sent = numbered s.connection (s.acknowledged + window + 1) (between (s.acknowledged + window) (max n s.acknowledged + window) s.messages);
  }

  -- an operation that is not pending any more has come back: its message is acknowledged, and all before it
  abbrev pub came_back : Session → ℕ
  came_back s = number_of (operations_in s.messages - length s.replica.pending) s.messages

  abbrev pub then : Reply k Session → (Session → Reply k Session) → Reply k Session
  then r f = record { state = (f r.state).state; sent = r.sent ++ (f r.state).sent }

  -- the next entry is seen
  abbrev pub saw_entry : ℕ → k.Op → Session → Session
  saw_entry i o s = record { connection = s.connection; replica = seen k i o s.replica; messages = s.messages; acknowledged = s.acknowledged; last = s.last + 1 }

  abbrev pub sees_entry : ℕ → k.Op → Session → Reply k Session
  sees_entry i o s = then (advanced (came_back (saw_entry i o s)) (saw_entry i o s)) reporting

  abbrev pub answer_last : Session → List (Datagram k)
  answer_last s = acknowledgement s.connection s.last ∷ []

  abbrev pub after_entry : Reply k Session → ClientNode → Reply k ClientNode
  after_entry r w = record { state = in_session r.state w; sent = answer_last r.state ++ r.sent }

  -- a text is taken if its connection is higher than any that was taken before: what was performed and the history does not have is lost
  abbrev pub takes_text : ℕ → ℕ → ℕ → ℕ → k.Text → ClientNode → Reply k ClientNode
  takes_text c i count r t w = record {
    state = record {
      highest = c;
      site = i;
      performed_so_far = count;
      session = Some (record { connection = c; replica = fresh k t r; messages = []; acknowledged = 0; last = 1 });
      asking = false;
      lost = (w.performed_so_far - count) ∷ w.lost;
    };
    sent = acknowledgement c 1 ∷ [];
  }

  -- what is refused because of its connection or number is answered with the last that was taken
  abbrev pub client_refuses : ClientNode → Option Session → Reply k ClientNode
  client_refuses w None = record { state = w; sent = [] }
  client_refuses w (Some s) = record { state = w; sent = answer_last s }

  -- a packet of the current connection, with the next number
  abbrev pub is_next : ℕ → ℕ → Option Session → Bool
  is_next c n None = false
  is_next c n (Some s) = c == s.connection && n == s.last + 1

  abbrev pub takes_entry : Entry k.Op → Option Session → ClientNode → Reply k ClientNode
  takes_entry e None w = record { state = w; sent = [] }
  takes_entry e (Some s) w = cond (e.place == s.replica.revision) (after_entry (sees_entry w.site e.op s) w) (record { state = w; sent = [] })

  abbrev pub client_acknowledged : ℕ → ℕ → Option Session → ClientNode → Reply k ClientNode
  client_acknowledged c n None w = record { state = w; sent = [] }
  client_acknowledged c n (Some s) w =
      cond (c == 0 && n == s.connection)
      (record { state = record { highest = w.highest; site = w.site; performed_so_far = w.performed_so_far; session = Some s; asking = true; lost = w.lost }; sent = ask ∷ [] })
      (cond (c == s.connection && (nat_lt s.acknowledged n && nat_le n (length s.messages)))
      (record { state = in_session (advanced n s).state w; sent = (advanced n s).sent })
      (record { state = w; sent = [] }))

  abbrev pub client_receives : Datagram k → ClientNode → Reply k ClientNode
  client_receives (acknowledgement c n) w = client_acknowledged c n w.session w
  client_receives (packet c n (text i count r t)) w = cond (n == 1 && nat_lt w.highest c) (takes_text c i count r t w) (client_refuses w w.session)
  client_receives (packet c n (entry e)) w = cond (is_next c n w.session) (takes_entry e w.session w) (client_refuses w w.session)
  -- what only a client sends is passed over
  client_receives (packet c n (operation m)) w = record { state = w; sent = [] }
  client_receives (packet c n (revision r)) w = record { state = w; sent = [] }
  client_receives (packet c n new) w = record { state = w; sent = [] }

  -- the tick: what is not acknowledged is sent again; with nothing of that kind the revision is said, so that an idle client learns of a crash
  abbrev pub resent : Session → List (Datagram k)
  resent s = numbered s.connection (s.acknowledged + 1) (between s.acknowledged (s.acknowledged + window) s.messages)

  abbrev pub probe : Session → Session
  probe s = cond (s.acknowledged == length s.messages) (queued (revision s.replica.revision) s) s

  abbrev pub ticked : Option Session → ClientNode → Reply k ClientNode
  ticked None w = record { state = w; sent = ask ∷ [] }
  ticked (Some s) w = cond w.asking (record { state = w; sent = ask ∷ [] }) (record { state = in_session (probe s) w; sent = resent (probe s) })

  abbrev pub client_ticks : ClientNode → Reply k ClientNode
  client_ticks w = ticked w.session w

  -- THE SERVER
  -- what stands in its file
  pub data Record : Type 0 where
    entry_record : k.Op → Record
    connection_record : ℕ → Record

  -- a connection as the server has it, on one line: base and text: as they were when it was given; last: the last number that it took;
  -- acknowledged: how many of its own messages are. Message 1 is the text, and message n + 2 is the entry at base + n.
  pub record Seating : Type 0 where
    pub connection : ℕ
    pub site : ℕ
    pub base : ℕ
    pub text : k.Text
    pub count : ℕ
    pub last : ℕ
    pub acknowledged : ℕ

  -- A CRASH leaves the file. seats of `server` are by connection, `lines` by line
  pub record ServerNode : Type 0 where
    pub file : List Record
    pub server : ServerState k
    pub connections : ℕ
    pub lines : ℕ → Option Seating

  unfoldable pub entries : List Record → List k.Op
  entries [] = []
  entries (entry_record o ∷ rs) = o ∷ entries rs
  entries (connection_record c ∷ rs) = entries rs

  unfoldable pub last_connection : ℕ → List Record → ℕ
  last_connection c [] = c
  last_connection c (entry_record o ∷ rs) = last_connection c rs
  last_connection c (connection_record d ∷ rs) = last_connection d rs

  -- the server that starts from a file: the text is what the entries make, and nobody has a connection
  abbrev pub opened : List Record → ServerNode
  opened f = record {
    file = f;
    server = record { text = apply_all k (entries f) k.empty; history = entries f; seats = λ c. free };
    connections = last_connection 0 f;
    lines = λ l. None;
  }

  unfoldable pub entries_from : ℕ → List k.Op → List (Message k)
  entries_from p [] = []
  entries_from p (o ∷ os) = entry (record { place = p; op = o }) ∷ entries_from (suc p) os

  -- all messages of a connection so far
  abbrev pub messages_of : Seating → List k.Op → List (Message k)
  messages_of s h = text s.site s.count s.base s.text ∷ entries_from s.base (drop s.base h)

  -- those with the numbers from n + 1 on that are within the window
  abbrev pub sendable : ℕ → Seating → List k.Op → List (Datagram k)
  sendable n s h = numbered s.connection (n + 1) (between n (s.acknowledged + window) (messages_of s h))

  -- what goes out on each line
  abbrev pub Out : Type 0
  Out = ℕ → List (Datagram k)

  pub record ServerReply : Type 0 where
    pub state : ServerNode
    pub sent : Out

  abbrev pub silent : Out
  silent = λ l. []

  abbrev pub only : ℕ → List (Datagram k) → Out
  only l ds = at l ds silent

  abbrev pub ending : Option Seating → ServerState k → ServerState k
  ending None v = v
  ending (Some s) v = record { text = v.text; history = v.history; seats = at s.connection free v.seats }

  -- the server ends the connection of a line
  abbrev pub ends_line : ℕ → ServerNode → ServerNode
  ends_line l n = record { file = n.file; server = ending (n.lines l) n.server; connections = n.connections; lines = at l None n.lines }

  unfoldable pub site_count : ℕ → List k.Op → ℕ
  site_count i [] = 0
  site_count i (o ∷ os) = cond (k.site o == i) (suc (site_count i os)) (site_count i os)

  -- a client on line l asks for a connection and gets site i, which is free: the connection is in the file before the text leaves
  abbrev pub seating : ℕ → ServerNode → Seating
  seating i n = record {
    connection = n.connections + 1;
    site = i;
    base = length n.server.history;
    text = n.server.text;
    count = site_count i n.server.history;
    last = 0;
    acknowledged = 0;
  }

  abbrev pub gives : ℕ → ℕ → ServerNode → ServerReply
  gives l i n = record {
    state = record {
      file = n.file ++ connection_record (n.connections + 1) ∷ [];
      server = record {
        text = n.server.text;
        history = n.server.history;
        seats = at (n.connections + 1) (joined_at (length n.server.history)) n.server.seats;
      };
      connections = n.connections + 1;
      lines = at l (Some (seating i n)) n.lines;
    };
    sent = only l (sendable 0 (seating i n) n.server.history);
  }

  -- a connection that the line had ends; where no site is free nothing is given
  abbrev pub asked : ℕ → Option ℕ → ServerNode → ServerReply
  asked l None n = record { state = ends_line l n; sent = silent }
  asked l (Some i) n = gives l i (ends_line l n)

  abbrev pub took : Seating → Seating
  took s = record { connection = s.connection; site = s.site; base = s.base; text = s.text; count = s.count; last = s.last + 1; acknowledged = s.acknowledged }

  -- the new entry goes out on every line where it is within the window
  abbrev pub onward : Option Seating → List k.Op → List (Datagram k)
  onward None h = []
  onward (Some s) h = numbered s.connection (length (messages_of s h)) (between (length (messages_of s h) - 1) (min (length (messages_of s h)) (s.acknowledged + window)) (messages_of s h))

  -- an operation is taken: the entry is in the file before anything of it leaves
  abbrev pub takes_operation : ℕ → Seating → Submission k.Op → ServerNode → ServerReply
  takes_operation l s m n = record {
    state = record {
      file = n.file ++ map entry_record (drop (length n.server.history) (taken k s.connection m n.server).history);
      server = taken k s.connection m n.server;
      connections = n.connections;
      lines = at l (Some (took s)) n.lines;
    };
    sent = λ j. cond (j == l) (acknowledgement s.connection (s.last + 1) ∷ []) [] ++ onward (at l (Some (took s)) n.lines j) (taken k s.connection m n.server).history;
  }

  abbrev pub hears_revision : ℕ → Seating → ℕ → ServerNode → ServerReply
  hears_revision l s r n = record {
    state = record {
      file = n.file;
      server = record { text = n.server.text; history = n.server.history; seats = at s.connection (heard r (n.server.seats s.connection)) n.server.seats };
      connections = n.connections;
      lines = at l (Some (took s)) n.lines;
    };
    sent = only l (acknowledgement s.connection (s.last + 1) ∷ []);
  }

  -- refused because of its connection or number: answered with the last that was taken in the line's connection, or, where the line has none, that this one has ended
  abbrev pub server_refuses : ℕ → ℕ → Option Seating → ServerNode → ServerReply
  server_refuses l c None n = record { state = n; sent = only l (acknowledgement 0 c ∷ []) }
  server_refuses l c (Some s) n = record { state = n; sent = only l (acknowledgement s.connection s.last ∷ []) }

  abbrev pub is_next_of : ℕ → ℕ → Option Seating → Bool
  is_next_of c n None = false
  is_next_of c n (Some s) = c == s.connection && n == s.last + 1

  abbrev pub if_seated : (Seating → ServerReply) → ServerReply → Option Seating → ServerReply
  if_seated f r None = r
  if_seated f r (Some s) = f s

  abbrev pub server_acknowledged : ℕ → ℕ → ℕ → Seating → ServerNode → ServerReply
  server_acknowledged l c m s n =
      cond (c == s.connection && (nat_lt s.acknowledged m && nat_le m (length (messages_of s n.server.history))))
      (record {
        state = record {
          file = n.file;
          server = n.server;
          connections = n.connections;
          lines = at l (Some (record { connection = s.connection; site = s.site; base = s.base; text = s.text; count = s.count; last = s.last; acknowledged = m })) n.lines;
        };
        sent = only l (numbered s.connection (s.acknowledged + window + 1) (between (s.acknowledged + window) (m + window) (messages_of s n.server.history)));
      })
      (record { state = n; sent = silent })

  -- i: the site that a client on this line would get now, if it asks for a connection
  abbrev pub server_receives : ℕ → Option ℕ → Datagram k → ServerNode → ServerReply
  server_receives l i (acknowledgement c m) n = if_seated (λ s. server_acknowledged l c m s n) (record { state = n; sent = silent }) (n.lines l)
  server_receives l i (packet c m new) n = cond (c == 0 && m == 1) (asked l i n) (server_refuses l c (n.lines l) n)
  server_receives l i (packet c m (operation o)) n = cond (is_next_of c m (n.lines l)) (if_seated (λ s. takes_operation l s o n) (record { state = n; sent = silent }) (n.lines l)) (server_refuses l c (n.lines l) n)
  server_receives l i (packet c m (revision r)) n = cond (is_next_of c m (n.lines l)) (if_seated (λ s. hears_revision l s r n) (record { state = n; sent = silent }) (n.lines l)) (server_refuses l c (n.lines l) n)
  -- what only the server sends is passed over
  server_receives l i (packet c m (entry e)) n = record { state = n; sent = silent }
  server_receives l i (packet c m (text j q r t)) n = record { state = n; sent = silent }

  -- the tick of a line: what is not acknowledged is sent again
  abbrev pub server_ticks : ℕ → ServerNode → ServerReply
  server_ticks l n = if_seated (λ s. record { state = n; sent = only l (sendable s.acknowledged s n.server.history) }) (record { state = n; sent = silent }) (n.lines l)
