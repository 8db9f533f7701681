-- The room's state as that of a run: what the players show is, letter by letter, what a net of named letters has that can be reached.
use Rattle.std.specs.Prelude.{◌≡◌, ◌⊎◌, ℕ, ◌<◌, ◌≤◌, Bool, true, false, List, [], map, length, take}
use Rattle.operation.specs.declared.operation.Operation.{Operation}
use Rattle.operation.specs.declared.entry.Entry.{Entry}
use Rattle.operation.specs.declared.entry.Submission.{Submission}
use Rattle.operation.specs.Letters.{◌∈◌}
use Rattle.operation.specs.Edits.{rename}
use Rattle.operation.specs.Laws.{apply_all}
use Rattle.text.specs.Texts.{Letter}
use Rattle.text.specs.Coded.{coded}
use Rattle.client.specs.Replicas.{Replica}
use Rattle.server.specs.Sessions.{Seat, free}
use Rattle.network.specs.declared.message.Message.{Message}
use Rattle.network.specs.declared.message.Message.TheVariants as message
use Rattle.network.specs.Runs.{Deed, Net, Step, performs, reports, takes, hears, sees, joins, ends, crashes, PathBy, Current, Reachable}
use Rattle.network.specs.OneRecord.{OneRecord}
use Rattle.network.specs.Written.{Signed, written, Named}
use Rattle.room.specs.declared.action.Action.{Action}
use Rattle.room.specs.declared.action.Action.TheVariants as action
use Rattle.room.specs.declared.command.Command.{Command}
use Rattle.room.specs.declared.command.Command.TheVariants as command
use Rattle.room.specs.Scenes.{Op, PeerState, RoomState, scene, operation_of, connected}

abbrev pub NamedNet : Type 0
NamedNet = Net (written Named)

abbrev pub NamedOp : Type 0
NamedOp = Operation Named

-- WHAT THE CODE HAS OF IT: the names are left out
abbrev pub letter_of : Signed Named → Letter
letter_of s = record { number = s.letter.number; site = s.site }

abbrev pub text_of : List (Signed Named) → List Letter
text_of t = map letter_of t

abbrev pub op_of : NamedOp → Op
op_of o = rename (λ (n : Named). n.number) o

abbrev pub entry_of : Entry NamedOp → Entry Op
entry_of e = record { place = e.place; op = op_of e.op }

abbrev pub submission_of : Submission NamedOp → Submission Op
submission_of m = record { revision = m.revision; op = op_of m.op }

abbrev pub message_of : Message NamedOp → Message Op
message_of (message.Operation m) = message.Operation (submission_of m)
message_of (message.Revision r) = message.Revision r

abbrev pub seat_of : Seat NamedOp → Seat Op
seat_of s = record { connected = s.connected; said = s.said; concurrent = map entry_of s.concurrent }

abbrev pub replica_of : Replica (written Named) → Replica coded
replica_of r = record { text = text_of r.text; pending = map op_of r.pending; revision = r.revision }

-- a peer that has joined, with connection c; its queue counts only while it is connected
pub record Plays (n : NamedNet) (w c : ℕ) (seat : Seat Op) (p : PeerState) : Type 0 where
  pub current : Current (written Named) n c
  pub client : (n.lives c).client ≡ w
  pub replica : p.replica ≡ replica_of (n.lives c).replica
  pub its_seat : seat ≡ seat_of (n.server.seats c)
  pub queue : seat.connected ≡ true → p.queue ≡ map message_of (n.lives c).queue

-- one that has not joined
pub record Waits (n : NamedNet) (w : ℕ) (seat : Seat Op) (p : PeerState) : Type 0 where
  pub unknown : (d : ℕ) → d < n.connections → (n.lives d).client ≡ w → ⊥
  pub no_seat : seat ≡ free
  pub text : p.replica.text ≡ []

abbrev pub PlaysOrWaits : Bool → NamedNet → ℕ → ℕ → Seat Op → PeerState → Type 0
PlaysOrWaits true n w c s p = Plays n w c s p
PlaysOrWaits false n w c s p = Waits n w s p

-- connection: the last that each peer was given. A client is a peer, and its site is the peer's number.
pub record Shows (n : NamedNet) (connection : ℕ → ℕ) (r : RoomState) : Type 0 where
  pub four : length r.peers ≡ 4
  pub text : r.server.text ≡ text_of n.server.text
  pub history : r.server.history ≡ map op_of n.server.history
  pub peers : (w : ℕ) → w < 4 → ((scene w r).peer.site ≡ w) × PlaysOrWaits (scene w r).peer.joined n w (connection w) (r.server.seats w) (scene w r).peer
  pub others : (i : ℕ) → 4 ≤ i → r.server.seats i ≡ free
  pub clients : (c : ℕ) → c < n.connections → ((n.lives c).client < 4) × ((n.lives c).site ≡ (n.lives c).client)

-- THE LIMITS OF THE CODE, as they show in the net
pub record Limited (n : NamedNet) : Type 0 where
  pub texts : (s : ℕ) → length (apply_all (written Named) (take s n.server.history) []) ≤ 65536
  pub letters : (o : NamedOp) → o ∈ n.server.history → (x : Signed Named) → x ∈ (written Named).puts o → (1 ≤ x.letter.number) × (x.letter.number ≤ 1114111)
  pub history : length n.server.history ≤ 4294967294
  pub pending : (c : ℕ) → length (n.lives c).replica.pending ≤ 256
  pub before : (c : ℕ) (d : Deed (written Named)) → d ∈ (n.lives c).deeds → length d.before ≤ 65792
  pub concurrent : (c : ℕ) → length (n.server.seats c).concurrent ≤ 4096
  pub serials : (x : Signed Named) → x ∈ n.typed → x.letter.serial < length n.typed

-- A ROOM THAT IS REACHED: it shows a reachable net, of which all is true that one record promises
pub record Reached (r : RoomState) : Type 0 where
  pub net : NamedNet
  pub connection : ℕ → ℕ
  pub shows : Shows net connection r
  pub limited : Limited net
  pub reachable : Reachable (written Named) net
  pub promised : OneRecord (written Named)

-- WHICH STEPS A COMMAND MAKES
abbrev pub takes_any : Action → Bool
takes_any (action.Edit e) = false
takes_any action.Take = true
takes_any action.See = false
takes_any action.Join = false
takes_any action.Rejoin = false
takes_any action.TakeAll = true
takes_any action.SeeAll = false

abbrev pub sees_any : Action → Bool
sees_any (action.Edit e) = false
sees_any action.Take = false
sees_any action.See = true
sees_any action.Join = false
sees_any action.Rejoin = false
sees_any action.TakeAll = false
sees_any action.SeeAll = true

abbrev pub is_join : Action → Bool
is_join (action.Edit e) = false
is_join action.Take = false
is_join action.See = false
is_join action.Join = true
is_join action.Rejoin = false
is_join action.TakeAll = false
is_join action.SeeAll = false

-- the operation is the one that was asked for
abbrev pub IsEdit : ℕ → Action → NamedOp → Type 0
IsEdit w (action.Edit e) o = op_of o ≡ operation_of w e
IsEdit w action.Take o = ⊥
IsEdit w action.See o = ⊥
IsEdit w action.Join o = ⊥
IsEdit w action.Rejoin o = ⊥
IsEdit w action.TakeAll o = ⊥
IsEdit w action.SeeAll o = ⊥

-- steps of peer w for an action; where the server takes, a refusal or a concurrent list that is too long may end a connection, its own or another's
abbrev pub Asked : ℕ → Action → (n m : NamedNet) → Step (written Named) n m → Type 0
Asked w a n _ (performs c o u s f x y) = ((n.lives c).client ≡ w) × IsEdit w a o
Asked w a n _ (reports c u) = ((n.lives c).client ≡ w) × (sees_any a ≡ true)
Asked w a n _ (takes c m rest u e) = ((n.lives c).client ≡ w) × (takes_any a ≡ true)
Asked w a n _ (hears c r rest u e) = ((n.lives c).client ≡ w) × (takes_any a ≡ true)
Asked w a n _ (sees c e f g u l m s) = ((n.lives c).client ≡ w) × (sees_any a ≡ true)
Asked w a n _ (joins p i u v) = p ≡ w
Asked w a n _ (ends c u) = ((is_join a ≡ true) × ((n.lives c).client ≡ w)) ⊎ (takes_any a ≡ true)
Asked w a n _ crashes = ⊥

-- settling: nobody types, and nothing is reported but what has been seen
abbrev pub Settles : (n m : NamedNet) → Step (written Named) n m → Type 0
Settles n _ (performs c o u s f x y) = ⊥
Settles n _ (reports c u) = Unit {0}
Settles n _ (takes c m rest u e) = Unit {0}
Settles n _ (hears c r rest u e) = Unit {0}
Settles n _ (sees c e f g u l m s) = Unit {0}
Settles n _ (joins p i u v) = Unit {0}
Settles n _ (ends c u) = Unit {0}
Settles n _ crashes = ⊥

abbrev pub Crashes : (n m : NamedNet) → Step (written Named) n m → Type 0
Crashes n _ (performs c o u s f x y) = ⊥
Crashes n _ (reports c u) = ⊥
Crashes n _ (takes c m rest u e) = ⊥
Crashes n _ (hears c r rest u e) = ⊥
Crashes n _ (sees c e f g u l m s) = ⊥
Crashes n _ (joins p i u v) = ⊥
Crashes n _ (ends c u) = ⊥
Crashes n _ crashes = Unit {0}

abbrev pub Made : Command → (n m : NamedNet) → Step (written Named) n m → Type 0
Made (command.Ask w a) = Asked w a
Made command.Crash = Crashes
Made command.Settle = Settles

-- the room is reached again, by such steps
pub record Onward (P : (n m : NamedNet) → Step (written Named) n m → Type 0) (n : NamedNet) (r : RoomState) : Type 0 where
  pub reached : Reached r
  pub path : PathBy (written Named) P n reached.net

-- A COMMAND makes such steps, or none where it is refused
abbrev pub Keeps : Command → RoomState → RoomState → Type 0
Keeps c was now = (a : Reached was) → Onward (Made c) a.net now

-- AFTER SETTLING whoever has joined is connected, shows the server's text, and has nothing pending
pub record Settled (r : RoomState) (w : ℕ) : Type 0 where
  pub connected : connected (scene w r) ≡ true
  pub text : (scene w r).peer.replica.text ≡ r.server.text
  pub pending : (scene w r).peer.replica.pending ≡ []

abbrev pub Agrees : RoomState → RoomState → Type 0
Agrees was now = Reached was → (w : ℕ) → (scene w now).peer.joined ≡ true → Settled now w
