-- THE PROMISE OF ONE RECORD OVER PACKETS. Each line is a bag of what was ever sent on it: any of it comes at any time, any number of times or never,
-- whole or cut short; clients join, and their programs restart; the server crashes, and keeps its file.
use Rattle.std.specs.Prelude.{◌≡◌, ℕ, ◌+◌, ◌<◌, ◌≤◌, Bool, false, cond, List, [], ◌∷◌, ◌++◌, length, take, drop, Some, None, Option, ◌==◌, ◌≢◌}
use Rattle.operation.specs.Letters.{◌∈◌, Once, Apart, Before}
use Rattle.operation.specs.Laws.{Kind}
use Rattle.network.specs.Runs.{at, count_of, Deed}
use Rattle.network.specs.Nodes.{Datagram, Reply, ask, operations_in, ClientNode, Session, first_start, restarted, performs, client_receives, client_ticks, ServerNode, Seating, entries, opened, ends_line, server_receives, server_ticks}

-- Nodes, and for each line all that was ever sent on it, up to the server and down to the client.
-- For the statements alone: of each entry the connection that it came over; of each connection its line, its site and what was performed in it; every letter that was ever typed.
pub record World {A : Type 0} (k : Kind A) : Type 0 where
  pub server : ServerNode k
  pub clients : ℕ → ClientNode k
  pub up : ℕ → List (Datagram k)
  pub down : ℕ → List (Datagram k)
  pub owners : List ℕ
  pub line_of : ℕ → ℕ
  pub site_of : ℕ → ℕ
  pub deeds : ℕ → List (Deed k)
  pub typed : List A

module _ {A : Type 0} (k : Kind A) where
  -- an empty file, and no client has joined
  abbrev pub start : World k
  start = record {
    server = opened k [];
    clients = λ l. first_start k;
    up = λ l. [];
    down = λ l. [];
    owners = [];
    line_of = λ c. 0;
    site_of = λ c. 0;
    deeds = λ c. [];
    typed = [];
  }

  -- a client's node has changed, and has sent
  abbrev pub after_client : ℕ → Reply k (ClientNode k) → World k → World k
  after_client l r w = record {
    server = w.server;
    clients = at l r.state w.clients;
    up = at l (w.up l ++ r.sent) w.up;
    down = w.down;
    owners = w.owners;
    line_of = w.line_of;
    site_of = w.site_of;
    deeds = w.deeds;
    typed = w.typed;
  }

  abbrev pub after_performing : ℕ → k.Op → Session k → World k → World k
  after_performing l o s w = record {
    server = w.server;
    clients = at l (performs k o s (w.clients l)).state w.clients;
    up = at l (w.up l ++ (performs k o s (w.clients l)).sent) w.up;
    down = w.down;
    owners = w.owners;
    line_of = w.line_of;
    site_of = w.site_of;
    deeds = at s.connection (w.deeds s.connection ++ record { op = o; before = s.replica.text } ∷ []) w.deeds;
    typed = w.typed ++ k.puts o;
  }

  abbrev pub connection_of : Option (Seating k) → ℕ
  connection_of None = 0
  connection_of (Some s) = s.connection

  abbrev pub site_given : Option ℕ → ℕ
  site_given None = 0
  site_given (Some i) = i

  -- the server's node has changed because of what came on line l, where a client gets site i if it asks for a connection:
  -- whose entry it was that came to the history, and whose connection was given
  abbrev pub with_server : ℕ → Option ℕ → ServerNode k → (ℕ → List (Datagram k)) → World k → World k
  with_server l i n sent w = record {
    server = n;
    clients = w.clients;
    up = w.up;
    down = λ j. w.down j ++ sent j;
    owners = take (length n.server.history) (w.owners ++ connection_of (w.server.lines l) ∷ []);
    line_of = cond (n.connections == w.server.connections) w.line_of (at n.connections l w.line_of);
    site_of = cond (n.connections == w.server.connections) w.site_of (at n.connections (site_given i) w.site_of);
    deeds = w.deeds;
    typed = w.typed;
  }

  -- the server gives site i on line l: no other line has it; none: it gives no site
  abbrev pub Free : World k → ℕ → Option ℕ → Type 0
  Free w l None = Unit {0}
  Free w l (Some i) = (j : ℕ) (s : Seating k) → (j ≢ l) → w.server.lines j ≡ Some s → s.site ≢ i

  -- nothing is under way any more
  abbrev pub emptied : World k → World k
  emptied w = record {
    server = w.server;
    clients = w.clients;
    up = λ l. [];
    down = λ l. [];
    owners = w.owners;
    line_of = w.line_of;
    site_of = w.site_of;
    deeds = w.deeds;
    typed = w.typed;
  }

  pub data Step (w : World k) : World k → Type 0 where
    -- somebody types or strikes, letters that nobody typed before
    types : (l : ℕ) (o : k.Op) (s : Session k) → (w.clients l).session ≡ Some s → k.site o ≡ (w.clients l).site → k.Fits o s.replica.text →
        Once (k.puts o) → Apart (k.puts o) w.typed → Step w (after_performing l o s w)
    -- something that was sent comes
    receives_at_client : (l : ℕ) (d : Datagram k) → d ∈ w.down l → Step w (after_client l (client_receives k d (w.clients l)) w)
    receives_at_server : (l : ℕ) (i : Option ℕ) (d : Datagram k) → Free w l i → d ∈ w.up l →
        Step w (with_server l i (server_receives k l i d w.server).state (server_receives k l i d w.server).sent w)
    -- something comes cut short: it is refused, and nothing changes
    cut_short : Step w w
    -- all that is under way is lost for good
    loses : Step w (emptied w)
    ticks_at_client : (l : ℕ) → Step w (after_client l (client_ticks k (w.clients l)) w)
    ticks_at_server : (l : ℕ) → Step w (with_server l None w.server (server_ticks k l w.server).sent w)
    -- a client's program restarts; the server ends a connection, for a limit or a refusal
    restarts : (l : ℕ) → Step w (after_client l (record { state = restarted k (w.clients l); sent = [] }) w)
    ends : (l : ℕ) → Step w (with_server l None (ends_line k l w.server) (λ j. []) w)
    -- The server crashes. Whatever it answers is synced before it leaves, so the file is what it was, and some first part of what it was appending because of d;
    -- nothing of that has left. It starts again from the file.
    crashes : Step w (with_server 0 None (opened k w.server.file) (λ j. []) w)
    crashes_in : (l : ℕ) (i : Option ℕ) (d : Datagram k) (r : ℕ) → Free w l i → d ∈ w.up l → length w.server.file ≤ r →
        Step w (with_server l i (opened k (take r (server_receives k l i d w.server).state.file)) (λ j. []) w)

  -- the programs' own steps, with nobody typing and no fault
  abbrev pub Quiet : (w v : World k) → Step w v → Type 0
  Quiet w _ (types l o s e i f x a) = ⊥
  Quiet w _ (receives_at_client l d m) = Unit {0}
  Quiet w _ (receives_at_server l i d f m) = Unit {0}
  Quiet w _ cut_short = Unit {0}
  Quiet w _ loses = ⊥
  Quiet w _ (ticks_at_client l) = Unit {0}
  Quiet w _ (ticks_at_server l) = Unit {0}
  Quiet w _ (restarts l) = ⊥
  Quiet w _ (ends l) = ⊥
  Quiet w _ crashes = ⊥
  Quiet w _ (crashes_in l i d r f m s) = ⊥

  -- the same, and no request for a connection comes
  abbrev pub Calm : (w v : World k) → Step w v → Type 0
  Calm w _ (types l o s e i f x a) = ⊥
  Calm w _ (receives_at_client l d m) = Unit {0}
  Calm w _ (receives_at_server l i d f m) = d ≡ ask k → ⊥
  Calm w _ cut_short = Unit {0}
  Calm w _ loses = ⊥
  Calm w _ (ticks_at_client l) = Unit {0}
  Calm w _ (ticks_at_server l) = Unit {0}
  Calm w _ (restarts l) = ⊥
  Calm w _ (ends l) = ⊥
  Calm w _ crashes = ⊥
  Calm w _ (crashes_in l i d r f m s) = ⊥

  pub data PathBy (P : (w v : World k) → Step w v → Type 0) (w : World k) : World k → Type 0 where
    here : PathBy P w w
    onward : {v u : World k} → PathBy P w v → (s : Step v u) → P v u s → PathBy P w u

  abbrev pub Path : World k → World k → Type 0
  Path = PathBy (λ w v s. Unit {0})

  abbrev pub Reachable : World k → Type 0
  Reachable w = Path start w

  -- A text that is looked at: the server's, or a screen's, with its connection and how much of the history it has
  pub record View : Type 0 where
    pub text : k.Text
    pub connection : Option ℕ
    pub revision : ℕ

  abbrev pub screen : Session k → View
  screen s = record { text = s.replica.text; connection = Some s.connection; revision = s.replica.revision }

  abbrev pub server_view : World k → View
  server_view w = record { text = w.server.server.text; connection = None; revision = length w.server.server.history }

  pub data Shown (w : World k) : View → Type 0 where
    by_server : Shown w (server_view w)
    on_screen : (l : ℕ) (s : Session k) → (w.clients l).session ≡ Some s → Shown w (screen s)

  abbrev pub is_connection : ℕ → Option ℕ → Bool
  is_connection d None = false
  is_connection d (Some c) = d == c

  -- how many of the first deeds of connection d a text has had applied: of its own all, of another as many as are in its part of the history
  abbrev pub applied : World k → View → ℕ → ℕ
  applied w v d = cond (is_connection d v.connection) (length (w.deeds d)) (count_of d (take v.revision w.owners))

  pub record PutIn (w : World k) (v : View) (x : A) : Type 0 where
    pub by : ℕ
    pub deed : Deed k
    pub done : deed ∈ take (applied w v by) (w.deeds by)
    pub puts_it : x ∈ k.puts deed.op

  -- struck by somebody on whose screen that very letter stood at that place
  pub record Struck (w : World k) (v : View) (x : A) : Type 0 where
    pub by : ℕ
    pub deed : Deed k
    pub done : deed ∈ take (applied w v by) (w.deeds by)
    pub strikes_it : x ∈ k.strikes deed.op deed.before

  -- NOTHING UNDER WAY on the line of a client that has ever joined: both ends have the connection, the server has taken all, and the client has seen all
  pub record Settled (w : World k) (l : ℕ) : Type 0 where
    pub session : Session k
    pub seat : Seating k
    pub has : (w.clients l).session ≡ Some session
    pub given : w.server.lines l ≡ Some seat
    pub one : session.connection ≡ seat.connection
    pub taken : seat.last ≡ length session.messages
    pub seen : session.replica.revision ≡ length w.server.server.history

  abbrev pub Quiescent : World k → Type 0
  Quiescent w = (l : ℕ) → 0 < (w.clients l).highest → Settled w l

  -- a client with nothing under way shows the server's text, and has nothing pending; so when nothing is under way at all, everybody does
  abbrev pub Convergence : Type 0
  Convergence = (w : World k) → Reachable w → (l : ℕ) (e : Settled w l) → (e.session.replica.text ≡ w.server.server.text) × (e.session.replica.pending ≡ [])

  -- both ends of a line have one connection
  pub record Joint (w : World k) (l : ℕ) : Type 0 where
    pub session : Session k
    pub seat : Seating k
    pub has : (w.clients l).session ≡ Some session
    pub given : w.server.lines l ≡ Some seat
    pub one : session.connection ≡ seat.connection

  -- It can always come to that, by what the programs do by themselves; and where both ends have their connections still, without a new one, so that nothing is lost.
  -- Since all that is under way may be lost before, this is by what is sent again.
  pub record Quiesces (P : (w v : World k) → Step w v → Type 0) (w : World k) : Type 0 where
    pub end : World k
    pub path : PathBy P w end
    pub quiescent : Quiescent end

  pub record CanQuiesce : Type 0 where
    pub always : (w : World k) → Reachable w → Quiesces Quiet w
    pub connected : (w : World k) → Reachable w → ((l : ℕ) → 0 < (w.clients l).highest → Joint w l) → Quiesces Calm w

  abbrev pub PairwiseOrder : Type 0
  PairwiseOrder = (w u : World k) → Reachable w → Path w u → (a b : View) → Shown w a → Shown u b → (x y : A) →
      (Before x y (k.letters a.text) → Before y x (k.letters b.text) → ⊥) × (Before y x (k.letters a.text) → Before x y (k.letters b.text) → ⊥)

  abbrev pub AtMostOnce : Type 0
  AtMostOnce = (w : World k) → Reachable w → (v : View) → Shown w v → Once (k.letters v.text)

  abbrev pub OnlyIfTyped : Type 0
  OnlyIfTyped = (w : World k) → Reachable w → (v : View) → Shown w v → (x : A) → x ∈ k.letters v.text → (x ∈ w.typed) × PutIn w v x × (Struck w v x → ⊥)

  abbrev pub UntilStruck : Type 0
  UntilStruck = (w : World k) → Reachable w → (v : View) → Shown w v → (x : A) → PutIn w v x → (Struck w v x → ⊥) → x ∈ k.letters v.text

  -- what is typed is done to the own screen at once
  abbrev pub AtOnce : Type 0
  AtOnce = (w v : World k) → Reachable w → Step w v → (l : ℕ) (s t : Session k) (d : Deed k) → (w.clients l).session ≡ Some s → (v.clients l).session ≡ Some t →
      v.deeds s.connection ≡ w.deeds s.connection ++ d ∷ [] →
      (d.before ≡ s.replica.text) × (t.replica.text ≡ k.apply d.op d.before) × ((x : A) → x ∈ k.puts d.op → x ∈ k.letters t.replica.text)

  -- a deletion of x that was lost: it was performed in connection c by the time of v, and the history does not have it at the time of u, when the client has a later connection d
  pub record LostDeletion (v u : World k) (c d : ℕ) (x : A) : Type 0 where
    pub earlier : c < d
    pub deed : Deed k
    pub lost : deed ∈ drop (count_of c u.owners) (v.deeds c)
    pub strikes_it : x ∈ k.strikes deed.op deed.before

  -- never back: the server's text without exception; a screen's with one: in the connection in which the letter was gone, the client had struck it itself, and that was lost
  pub record NeverBack : Type 0 where
    pub of_server : (w v u : World k) → Reachable w → Path w v → Path v u → (x : A) →
        x ∈ k.letters w.server.server.text → (x ∈ k.letters v.server.server.text → ⊥) → x ∈ k.letters u.server.server.text → ⊥
    pub of_screen : (w v u : World k) → Reachable w → Path w v → Path v u → (l : ℕ) (r s t : Session k) →
        (w.clients l).session ≡ Some r → (v.clients l).session ≡ Some s → (u.clients l).session ≡ Some t → (x : A) →
        x ∈ k.letters r.replica.text → (x ∈ k.letters s.replica.text → ⊥) → x ∈ k.letters t.replica.text → LostDeletion v u s.connection t.connection x

  -- the history is what the file's entries are, and only ever grows, through any crash; what was acknowledged to a client is in it, and so is what a client has seen
  pub record Durable : Type 0 where
    pub in_file : (w : World k) → Reachable w → entries k w.server.file ≡ w.server.server.history
    pub grows : (w v : World k) → Reachable w → Path w v → take (length w.server.server.history) v.server.server.history ≡ w.server.server.history
    pub acknowledged : (w : World k) → Reachable w → (l : ℕ) (s : Session k) → (w.clients l).session ≡ Some s →
        operations_in k (take s.acknowledged s.messages) ≤ count_of s.connection w.owners
    pub seen : (w : World k) → Reachable w → (l : ℕ) (s : Session k) → (w.clients l).session ≡ Some s → s.replica.revision ≤ length w.server.server.history

  -- The number that is reported as lost when a client takes a new text is what was performed in its last connection and is not in the history,
  -- where it gets the site that it had, and nobody else was given that in between.
  abbrev pub LostExact : Type 0
  LostExact = (w : World k) → Reachable w → (l : ℕ) (d : Datagram k) → d ∈ w.down l → (n : ℕ) → (client_receives k d (w.clients l)).state.lost ≡ n ∷ (w.clients l).lost →
      (0 < (w.clients l).highest → (w.clients l).site ≡ (client_receives k d (w.clients l)).state.site) →
      ((c : ℕ) → (w.clients l).highest < c → c < (client_receives k d (w.clients l)).state.highest → w.site_of c ≡ (client_receives k d (w.clients l)).state.site → w.line_of c ≡ l) →
      n + count_of (w.clients l).highest w.owners ≡ length (w.deeds (w.clients l).highest)

  pub record OneRecord : Type 0 where
    pub convergence : Convergence
    pub can_quiesce : CanQuiesce
    pub pairwise_order : PairwiseOrder
    pub once : AtMostOnce
    pub only_if_typed : OnlyIfTyped
    pub until_struck : UntilStruck
    pub at_once : AtOnce
    pub never_back : NeverBack
    pub durable : Durable
    pub lost_exact : LostExact
