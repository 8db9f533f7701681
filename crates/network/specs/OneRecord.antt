-- THE PROMISE OF ONE RECORD, over queues that lose nothing: of any number of clients, from an empty text, with typing, striking, taking, seeing
-- and 'revision so far' in any order, with joins, ended connections and crashes of the server. Letters are of a type whose values no two typed letters share.
use Rattle.std.specs.Prelude.{◌≡◌, ℕ, ◌+◌, ◌⊎◌, ◌<◌, ◌≤◌, cond, List, [], ◌∷◌, ◌++◌, length, take, drop, ◌==◌, ◌≢◌}
use Rattle.operation.specs.declared.entry.Submission.{Submission}
use Rattle.operation.specs.Letters.{◌∈◌, Once, Before}
use Rattle.operation.specs.Laws.{Kind, apply_all}
use Rattle.client.specs.Replicas.{passed}
use Rattle.server.specs.Sessions.{arrival}
use Rattle.network.specs.declared.message.Message.{Message}
use Rattle.network.specs.declared.message.Message.TheVariants as message
use Rattle.network.specs.Messages.{operations_in}
use Rattle.network.specs.Runs.{Row, owners, count_of, Deed, Net, start, Current, Connected, Sendable, Step, performs, reports, takes, hears, sees, joins, ends, crashes, Quiet, Calm, Path, PathBy, Reachable}

-- how many of the entries came over connection c
abbrev pub taken_of : {O : Type 0} → ℕ → List (Row O) → ℕ
taken_of c rows = count_of c (owners rows)

-- whose text is looked at: the server's, or that of one life of a client
pub data Viewer : Type 0 where
  server : Viewer
  life : ℕ → Viewer

module _ {A : Type 0} (k : Kind A) where
  abbrev pub text_of : Net k → Viewer → k.Text
  text_of n server = n.server.text
  text_of n (life c) = (n.lives c).replica.text

  -- the life has begun
  abbrev pub Exists : Net k → Viewer → Type 0
  Exists n server = Unit {0}
  Exists n (life c) = c < n.connections

  -- what the viewer's text has had applied of connection d: so many of its first deeds.
  -- A life has its own at once; of the others it has what it has seen of the history.
  abbrev pub applied : Net k → Viewer → ℕ → ℕ
  applied n server d = taken_of d n.rows
  applied n (life c) d = cond (d == c) (length (n.lives c).deeds) (taken_of d (take (n.lives c).replica.revision n.rows))

  -- the viewer's text has had an operation applied that put x in
  pub record PutIn (n : Net k) (v : Viewer) (x : A) : Type 0 where
    pub by : ℕ
    pub deed : Deed k
    pub done : deed ∈ take (applied n v by) (n.lives by).deeds
    pub puts_it : x ∈ k.puts deed.op

  -- it has had one applied that struck x: on the screen of the one who did it, that very letter stood at that place
  pub record Struck (n : Net k) (v : Viewer) (x : A) : Type 0 where
    pub by : ℕ
    pub deed : Deed k
    pub done : deed ∈ take (applied n v by) (n.lives by).deeds
    pub strikes_it : x ∈ k.strikes deed.op deed.before

  -- THE TEXTS: the server's is what its history makes of the empty one, and a screen shows what its client has seen of that, with what is pending on top
  pub record TextsAre : Type 0 where
    pub of_server : (n : Net k) → Reachable k n → n.server.text ≡ apply_all k n.server.history k.empty
    pub of_life : (n : Net k) → Reachable k n → (c : ℕ) → c < n.connections →
        (n.lives c).replica.text ≡ apply_all k (n.lives c).replica.pending (apply_all k (take (n.lives c).replica.revision n.server.history) k.empty)

  -- what is in the history stays there, at its place
  abbrev pub HistoryGrows : Type 0
  HistoryGrows = (n m : Net k) → Reachable k n → Path k n m → take (length n.server.history) m.server.history ≡ n.server.history

  -- NO OPERATION UNDER WAY: every client has a connection, the server has taken all that was performed, and everybody has seen the whole history
  abbrev pub NoOperation : List (Message k.Op) → Type 0
  NoOperation q = (m : Submission k.Op) → message.Operation m ∈ q → ⊥

  abbrev pub Quiescent : Net k → Type 0
  Quiescent n = (c : ℕ) → Current k n c → Connected k n c × NoOperation (n.lives c).queue × ((n.lives c).replica.revision ≡ length n.server.history)

  -- a client that has its connection and nothing under way shows the server's text, and has nothing pending; so when nothing is under way at all, everybody does
  abbrev pub Convergence : Type 0
  Convergence = (n : Net k) → Reachable k n → (c : ℕ) → Connected k n c → NoOperation (n.lives c).queue → (n.lives c).replica.revision ≡ length n.server.history →
      ((n.lives c).replica.text ≡ n.server.text) × ((n.lives c).replica.pending ≡ [])

  -- those that have a connection have nothing under way; the others are left out
  abbrev pub Settled : Net k → Type 0
  Settled n = (c : ℕ) → Connected k n c → NoOperation (n.lives c).queue × ((n.lives c).replica.revision ≡ length n.server.history)

  pub record Settles (n : Net k) : Type 0 where
    pub end : Net k
    pub path : PathBy k (Calm k) n end
    pub settled : Settled end
    pub stays : (c : ℕ) → Connected k n c → Connected k end c

  -- it can always come to that with nobody typing any more: by taking, hearing and seeing alone where every client has its connection,
  -- and else with joins too, at any site; by taking, hearing and seeing alone those come to it that have a connection;
  -- and where nothing more can be taken, heard or seen they have, so it never stops short, in whatever order it goes on
  pub record Quiesces (P : (n m : Net k) → Step k n m → Type 0) (n : Net k) : Type 0 where
    pub end : Net k
    pub path : PathBy k P n end
    pub quiescent : Quiescent end

  pub record CanQuiesce : Type 0 where
    pub always : (n : Net k) → Reachable k n → Quiesces (Quiet k) n
    pub connected : (n : Net k) → Reachable k n → ((c : ℕ) → Current k n c → Connected k n c) → Quiesces (Calm k) n
    pub settles : (n : Net k) → Reachable k n → Settles n
    pub never_stops_short : (n : Net k) → Reachable k n → ((m : Net k) (s : Step k n m) → Calm k n m s → ⊥) → Settled n

  -- two letters that anybody ever saw in one order nobody ever sees in the other, earlier or later
  abbrev pub PairwiseOrder : Type 0
  PairwiseOrder = (n m : Net k) → Reachable k n → Path k n m → (v w : Viewer) → Exists n v → Exists m w → (x y : A) →
      (Before x y (k.letters (text_of n v)) → Before y x (k.letters (text_of m w)) → ⊥) × (Before y x (k.letters (text_of n v)) → Before x y (k.letters (text_of m w)) → ⊥)

  -- each letter stands at most once in every text
  abbrev pub AtMostOnce : Type 0
  AtMostOnce = (n : Net k) → Reachable k n → (v : Viewer) → Exists n v → Once (k.letters (text_of n v))

  -- a letter stands in a text only if somebody typed it and that was applied here, and nothing that was applied here struck it
  abbrev pub OnlyIfTyped : Type 0
  OnlyIfTyped = (n : Net k) → Reachable k n → (v : Viewer) → Exists n v → (x : A) → x ∈ k.letters (text_of n v) → (x ∈ n.typed) × PutIn n v x × (Struck n v x → ⊥)

  -- and it is there unless it is struck: whatever was put in is there, or was struck
  abbrev pub UntilStruck : Type 0
  UntilStruck = (n : Net k) → Reachable k n → (v : Viewer) → Exists n v → (x : A) → PutIn n v x → x ∈ k.letters (text_of n v) ⊎ Struck n v x

  -- a letter that was typed in life b by the time of n and lost: the history does not have it at the time of m, when the client has a later life c
  pub record LostInsertion (n m : Net k) (b c : ℕ) (x : A) : Type 0 where
    pub earlier : b < c
    pub deed : Deed k
    pub lost : deed ∈ drop (taken_of b m.rows) (n.lives b).deeds
    pub puts_it : x ∈ k.puts deed.op

  -- so a letter that was in a text at any time stands there, or was struck by an operation that this text has had applied;
  -- on a screen, over all its lives, it does, or it had been typed there, and that was lost
  pub record StandsUntilStruck : Type 0 where
    pub of_text : (n m : Net k) → Reachable k n → Path k n m → (v : Viewer) → Exists n v → (x : A) → x ∈ k.letters (text_of n v) → x ∈ k.letters (text_of m v) ⊎ Struck m v x
    pub of_screen : (n m : Net k) → Reachable k n → Path k n m → (b c : ℕ) → Current k n b → Current k m c → (n.lives b).client ≡ (m.lives c).client → (x : A) →
        x ∈ k.letters (n.lives b).replica.text → x ∈ k.letters (m.lives c).replica.text ⊎ (Struck m (life c) x ⊎ LostInsertion n m b c x)

  -- whatever was typed was put into the text of some life
  abbrev pub TypedWasPut : Type 0
  TypedWasPut = (n : Net k) → Reachable k n → (x : A) → x ∈ n.typed → (c : ℕ) × (c < n.connections) × PutIn n (life c) x

  -- what is typed is done to the own screen at once, and what is struck is gone from it
  pub record AtOnce : Type 0 where
    pub done : (n m : Net k) → Reachable k n → Step k n m → (c : ℕ) (d : Deed k) → (m.lives c).deeds ≡ (n.lives c).deeds ++ d ∷ [] →
        (d.before ≡ (n.lives c).replica.text) × ((m.lives c).replica.text ≡ k.apply d.op d.before) × ((x : A) → x ∈ k.puts d.op → x ∈ k.letters (m.lives c).replica.text)
    pub struck : (n m : Net k) → Reachable k n → Step k n m → (c : ℕ) (d : Deed k) → c < m.connections → (m.lives c).deeds ≡ (n.lives c).deeds ++ d ∷ [] →
        (x : A) → x ∈ k.strikes d.op d.before → x ∈ k.letters (m.lives c).replica.text → ⊥

  -- a deletion of x that was lost: it was performed in life c by the time of m, and the history does not have it at the time of o, when the client has a later life d
  pub record LostDeletion (m o : Net k) (c d : ℕ) (x : A) : Type 0 where
    pub earlier : c < d
    pub deed : Deed k
    pub lost : deed ∈ drop (taken_of c o.rows) (m.lives c).deeds
    pub strikes_it : x ∈ k.strikes deed.op deed.before

  -- what has left a text never stands there again; on a screen, over all its lives, with one exception: in the life in which the letter was gone, the client had struck it itself, and that was lost
  pub record NeverBack : Type 0 where
    pub of_server : (n m o : Net k) → Reachable k n → Path k n m → Path k m o → (x : A) →
        x ∈ k.letters n.server.text → (x ∈ k.letters m.server.text → ⊥) → x ∈ k.letters o.server.text → ⊥
    pub of_screen : (n m o : Net k) → Reachable k n → Path k n m → Path k m o → (b c d : ℕ) → Current k n b → Current k m c → Current k o d →
        (n.lives b).client ≡ (o.lives d).client → (m.lives c).client ≡ (o.lives d).client → (x : A) →
        x ∈ k.letters (n.lives b).replica.text → (x ∈ k.letters (m.lives c).replica.text → ⊥) → x ∈ k.letters (o.lives d).replica.text →
        LostDeletion m o c d x
    pub of_life : (n m o : Net k) → Reachable k n → Path k n m → Path k m o → (c : ℕ) → c < n.connections → (x : A) →
        x ∈ k.letters (n.lives c).replica.text → (x ∈ k.letters (m.lives c).replica.text → ⊥) → x ∈ k.letters (o.lives c).replica.text → ⊥

  -- the history has no more of a connection than was performed in it: while it lasts the rest is under way; once it has ended the rest is lost for good
  pub record TakenWasPerformed : Type 0 where
    pub no_more : (n : Net k) → Reachable k n → (c : ℕ) → taken_of c n.rows ≤ length (n.lives c).deeds
    pub under_way : (n : Net k) → Reachable k n → (c : ℕ) → Connected k n c → taken_of c n.rows + operations_in (n.lives c).queue ≡ length (n.lives c).deeds
    pub lost : (n m : Net k) → Reachable k n → Path k n m → (c : ℕ) → c < n.connections → (Connected k n c → ⊥) →
        (Connected k m c → ⊥) × (taken_of c m.rows ≡ taken_of c n.rows)

  pub record OneRecord : Type 0 where
    pub texts_are : TextsAre
    pub history_grows : HistoryGrows
    pub convergence : Convergence
    pub can_quiesce : CanQuiesce
    pub pairwise_order : PairwiseOrder
    pub once : AtMostOnce
    pub only_if_typed : OnlyIfTyped
    pub until_struck : UntilStruck
    pub stands_until_struck : StandsUntilStruck
    pub typed_was_put : TypedWasPut
    pub at_once : AtOnce
    pub never_back : NeverBack
    pub taken_was_performed : TakenWasPerformed

  -- the entry that comes next to a life
  pub record Comes (n : Net k) (c : ℕ) (e : Row k.Op) : Type 0 where
    pub before : List (Row k.Op)
    pub after : List (Row k.Op)
    pub whole : n.rows ≡ before ++ e ∷ after
    pub place : length before ≡ (n.lives c).replica.revision
    pub sendable : Sendable k (n.lives c).ended (n.lives c).replica.revision

  -- The server never refuses an operation for its place, nor a revision, that a client sent over its connection:
  -- what the operation has become fits the server's text, and no revision is above the history, or below one that was said before.
  -- And a client never refuses an entry that comes: it is its own by the site just if it is by the connection, and then something is pending;
  -- what another's has become fits the text.
  pub record NeverRefused : Type 0 where
    pub operation : (n : Net k) → Reachable k n → (c : ℕ) → Connected k n c → (m : Submission k.Op) (rest : List (Message k.Op)) → (n.lives c).queue ≡ message.Operation m ∷ rest →
        k.Fits (arrival k m (n.server.seats c)).one n.server.text × ((n.server.seats c).said ≤ m.revision) × (m.revision ≤ length n.server.history)
    pub revision : (n : Net k) → Reachable k n → (c : ℕ) → Connected k n c → (r : ℕ) (rest : List (Message k.Op)) → (n.lives c).queue ≡ message.Revision r ∷ rest →
        ((n.server.seats c).said ≤ r) × (r ≤ length n.server.history)
    pub own_by_site : (n : Net k) → Reachable k n → (c : ℕ) → c < n.connections → (e : Row k.Op) → Comes n c e → (k.site e.op == (n.lives c).site) ≡ (e.by == c)
    pub own_pending : (n : Net k) → Reachable k n → (c : ℕ) → c < n.connections → (e : Row k.Op) → Comes n c e → e.by ≡ c → 0 < length (n.lives c).replica.pending
    pub entry : (n : Net k) → Reachable k n → (c : ℕ) → c < n.connections → (e : Row k.Op) → Comes n c e → e.by ≢ c → k.Fits (passed k e.op (n.lives c).replica).one (n.lives c).replica.text

  -- RUNS IN WHICH NO CONNECTION ENDS. So each client joins once: who has a connection does not join.
  abbrev pub Unbroken : (n m : Net k) → Step k n m → Type 0
  Unbroken n _ (performs c o u s f x a) = Unit {0}
  Unbroken n _ (reports c u) = Unit {0}
  Unbroken n _ (takes c m rest u e) = Unit {0}
  Unbroken n _ (hears c r rest u e) = Unit {0}
  Unbroken n _ (sees c e f g u l m s) = Unit {0}
  Unbroken n _ (joins p i u v) = Unit {0}
  Unbroken n _ (ends c u) = ⊥
  Unbroken n _ crashes = ⊥

  -- what holds of them beside all the rest: nothing is ever lost, and what has left a screen never stands there again, with no exception
  pub record UnbrokenRecord : Type 0 where
    pub connected : (n : Net k) → PathBy k Unbroken (start k) n → (c : ℕ) → c < n.connections → Connected k n c
    pub converges : (n : Net k) → PathBy k Unbroken (start k) n → Quiescent n → (c : ℕ) → c < n.connections → ((n.lives c).replica.text ≡ n.server.text) × ((n.lives c).replica.pending ≡ [])
    pub quiesces : (n : Net k) → PathBy k Unbroken (start k) n → Quiesces (Calm k) n
    pub all_taken : (n : Net k) → PathBy k Unbroken (start k) n → Quiescent n → (c : ℕ) → taken_of c n.rows ≡ length (n.lives c).deeds
    pub never_back : (n m o : Net k) → PathBy k Unbroken (start k) n → PathBy k Unbroken n m → PathBy k Unbroken m o → (b c d : ℕ) → Current k n b → Current k m c → Current k o d →
        (n.lives b).client ≡ (o.lives d).client → (m.lives c).client ≡ (o.lives d).client → (x : A) →
        x ∈ k.letters (n.lives b).replica.text → (x ∈ k.letters (m.lives c).replica.text → ⊥) → x ∈ k.letters (o.lives d).replica.text → ⊥
