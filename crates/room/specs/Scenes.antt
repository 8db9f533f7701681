-- What a script's commands do: to the server and one peer, and to the room with all peers. Each is a function on states.
use Rattle.std.specs.Prelude.{ℕ, zero, suc, ◌+◌, ◌-◌, ◌^◌, min, Bool, true, false, cond, not, ◌&&◌, ◌||◌, List, [], ◌∷◌, ◌++◌, map, length, Some, None, Ok, Err, vec_items, Option, Result, is_none, is_some, unwrap_or, nat_lt, slice_index_or, slice_set}
use Rattle.std.specs.VecDeque.{deque_items}
use Rattle.operation.specs.declared.operation.Operation.{Operation}
use Rattle.operation.specs.declared.operation.Operation.TheVariants.{Insert, Delete}
use Rattle.operation.specs.declared.entry.Entry.{Entry}
use Rattle.text.specs.Texts.{Letter}
use Rattle.text.specs.Coded.{coded}
use Rattle.client.specs.declared.refusal.Refusal.{Refusal as ClientRefusal}
use Rattle.client.specs.Replicas.{Replica, fresh, submission}
use Rattle.client.specs.Clients.{client_of, edit_refusal, edited, see_refusal, after_seeing, due}
use Rattle.server.specs.declared.refusal.Refusal.{Refusal as ServerRefusal}
use Rattle.server.specs.declared.joined.Joined.{Joined}
use Rattle.server.specs.Sessions.{free, joined_at, ServerState}
use Rattle.server.specs.Servers.{state_of, with_seat, take_answer, take_after, hear_answer, hear_after, site_count, entry_at, restarted}
use Rattle.network.specs.declared.message.Message.{Message}
use Rattle.network.specs.declared.message.Message.TheVariants as message
use Rattle.network.specs.Messages.{is_operation}
use Rattle.room.specs.declared.action.Action.{Action}
use Rattle.room.specs.declared.action.Action.TheVariants as action
use Rattle.room.specs.declared.command.Command.{Command}
use Rattle.room.specs.declared.command.Command.TheVariants as command
use Rattle.room.specs.declared.edit.Edit.{Edit}
use Rattle.room.specs.declared.edit.Edit.TheVariants as edit
use Rattle.room.specs.declared.event.Event.{Event}
use Rattle.room.specs.declared.event.Event.TheVariants as event
use Rattle.room.specs.declared.refusal.Refusal.TheVariants as refusal
use Rattle.room.specs.declared.host.Host.{Host}
use Rattle.room.specs.declared.peer.Peer.{Peer}
use Rattle.room.specs.declared.room.Room.{Room}

abbrev pub Op : Type 0
Op = Operation ℕ

-- STATES
pub record PeerState : Type 0 where
  pub joined : Bool
  pub site : ℕ
  pub replica : Replica coded
  pub queue : List (Message Op)
  pub performed : ℕ

-- the server, one peer, and what has been reported
pub record Scene : Type 0 where
  pub server : ServerState coded
  pub peer : PeerState
  pub events : List Event

pub record RoomState : Type 0 where
  pub server : ServerState coded
  pub peers : List PeerState
  pub events : List Event

abbrev pub hosted : Host → ServerState coded
hosted h = state_of h.server

abbrev pub peer_of : Peer → PeerState
peer_of w = record {
  joined = is_some w.performed;
  site = (client_of w.client).site;
  replica = (client_of w.client).replica;
  queue = deque_items w.queue;
  performed = unwrap_or w.performed 0;
}

abbrev pub room_state : Room → RoomState
room_state r = record { server = hosted r.host; peers = map peer_of (vec_items r.peers); events = vec_items r.host.events }

-- the server with what there is to report, and a peer
abbrev pub stage : Host → Peer → Scene
stage h w = record { server = hosted h; peer = peer_of w; events = vec_items h.events }

-- something more is reported
abbrev pub reported : List Event → Scene → Scene
reported es s = record { server = s.server; peer = s.peer; events = s.events ++ es }

-- JOINING, for the first time or anew: a connection that the peer had ends, the text is the server's, nothing is pending and nothing under way.
-- What it performed and the history does not have is lost; this is reported when it joins anew.
abbrev pub loss_of : Scene → List Event
loss_of s = cond s.peer.joined (event.Lost s.peer.site (s.peer.performed - site_count s.peer.site s.server.history) ∷ []) []

abbrev pub reconnected : ℕ → ServerState coded → ServerState coded
reconnected i v = with_seat i (joined_at (length v.history)) (with_seat i free v)

-- what a client at site i is told when it joins
abbrev pub welcome : ℕ → ServerState coded → Joined
welcome i v = record { site = i; revision = length v.history; count = site_count i v.history }

-- a peer at site i that has just joined
abbrev pub arrived : ℕ → List Letter → ℕ → ℕ → PeerState
arrived i t n count = record { joined = true; site = i; replica = fresh coded t n; queue = []; performed = count }

abbrev pub joining : Scene → Scene
joining s = record {
  server = reconnected s.peer.site s.server;
  peer = arrived s.peer.site s.server.text (length s.server.history) (site_count s.peer.site s.server.history);
  events = s.events ++ loss_of s;
}

-- has the peer a connection?
abbrev pub connected : Scene → Bool
connected s = s.peer.joined && (s.server.seats s.peer.site).connected

-- a peer that a command names joins first if it has no connection
abbrev pub named : Scene → Scene
named s = cond (connected s) s (joining s)

-- TYPING AND STRIKING: the operation is performed and its submission is under way; or it is refused
abbrev pub sent_off : Option ClientRefusal → Op → Scene → Scene
sent_off None o s = record {
  server = s.server;
  peer = record {
    joined = s.peer.joined;
    site = s.peer.site;
    replica = edited 65792 o s.peer.replica;
    queue = s.peer.queue ++ message.Operation (submission coded o s.peer.replica) ∷ [];
    performed = min (s.peer.performed + 1) (2 ^ 64 - 1);
  };
  events = s.events;
}
sent_off (Some e) o s = reported (event.Refused (refusal.Client e) ∷ []) s

-- what the peer at site i is asked to perform
abbrev pub operation_of : ℕ → Edit → Op
operation_of i (edit.Insert p x) = Insert i p x
operation_of i (edit.Delete p) = Delete i p

abbrev pub with_replica : Replica coded → PeerState → PeerState
with_replica r w = record { joined = w.joined; site = w.site; replica = r; queue = w.queue; performed = w.performed }

abbrev pub performing : Op → Scene → Scene
performing o s = sent_off (edit_refusal 65792 o s.peer.replica) o s

-- SEEING the next entry, with a revision so far to send where it is due
abbrev pub report : Option ℕ → List (Message Op)
report None = []
report (Some r) = message.Revision r ∷ []

abbrev pub seen : Option ClientRefusal → Entry Op → Scene → Scene
seen None e s = record {
  server = s.server;
  peer = record {
    joined = s.peer.joined;
    site = s.peer.site;
    replica = after_seeing 65792 s.peer.site e s.peer.replica;
    queue = s.peer.queue ++ report (due (after_seeing 65792 s.peer.site e s.peer.replica).revision);
    performed = s.peer.performed;
  };
  events = s.events;
}
seen (Some r) e s = reported (event.Refused (refusal.Client r) ∷ []) s

-- what comes next for the peer
abbrev pub next_entry : Scene → Option (Entry Op)
next_entry s = entry_at s.peer.replica.revision s.server.history

abbrev pub seeing_entry : Option (Entry Op) → Scene → Scene
seeing_entry None s = reported (event.Nothing ∷ []) s
seeing_entry (Some e) s = seen (see_refusal 65792 s.peer.site e s.peer.replica) e s

abbrev pub seeing : Scene → Scene
seeing s = seeing_entry (next_entry s) s

-- is there one, and is it not refused?
abbrev pub takes_entry : Option (Entry Op) → Scene → Bool
takes_entry None s = false
takes_entry (Some e) s = is_none (see_refusal 65792 s.peer.site e s.peer.replica)

-- all entries up to the end of the history, as long as none is refused

unfoldable pub seeing_up_to : ℕ → Scene → Scene
seeing_up_to zero s = s
seeing_up_to (suc n) s = cond (takes_entry (next_entry s) s) (seeing_up_to n (seeing s)) (seeing s)

abbrev pub seeing_all : Scene → Scene
seeing_all s = seeing_up_to (length s.server.history - s.peer.replica.revision) s

-- TAKING the oldest message under way
abbrev pub without : List (Message Op) → PeerState → PeerState
without q w = record { joined = w.joined; site = w.site; replica = w.replica; queue = q; performed = w.performed }

abbrev pub refusal_of : {A : Type 0} → Result A ServerRefusal → Option ServerRefusal
refusal_of (Ok x) = None
refusal_of (Err e) = Some e

-- the server takes an operation, or hears a revision, from site i; or it refuses
abbrev pub server_refusal : ℕ → Message Op → ServerState coded → Option ServerRefusal
server_refusal i (message.Operation m) v = refusal_of (take_answer 65536 m v)
server_refusal i (message.Revision r) v = refusal_of (hear_answer i r v)

abbrev pub server_after : ℕ → Message Op → ServerState coded → ServerState coded
server_after i (message.Operation m) v = take_after 65536 m v
server_after i (message.Revision r) v = hear_after i r v

abbrev pub refused_by : Option ServerRefusal → List Event
refused_by None = []
refused_by (Some e) = event.Refused (refusal.Server e) ∷ []

-- `rest` is under way then
abbrev pub arriving : Message Op → List (Message Op) → Scene → Scene
arriving m rest s = record {
  server = server_after s.peer.site m s.server;
  peer = without rest s.peer;
  events = s.events ++ refused_by (server_refusal s.peer.site m s.server);
}

abbrev pub is_accepted : Option ServerRefusal → Bool
is_accepted None = true
is_accepted (Some e) = false

abbrev pub accepted : Message Op → Scene → Bool
accepted m s = is_accepted (server_refusal s.peer.site m s.server)

-- one message after another, up to one that is refused or that `stop` tells of; f: what is done if it comes to the end
unfoldable pub taking_until : (Message Op → Bool) → (Scene → Scene) → List (Message Op) → Scene → Scene
taking_until stop f [] s = f s
taking_until stop f (m ∷ q) s = cond (accepted m s && not (stop m)) (taking_until stop f q (arriving m q s)) (arriving m q s)

-- the oldest operation, with the revisions before it
abbrev pub taking : Scene → Scene
taking s = taking_until is_operation (reported (event.Nothing ∷ [])) s.peer.queue s

-- all that is under way
abbrev pub taking_all : Scene → Scene
taking_all s = taking_until (λ m. false) (λ t. t) s.peer.queue s

-- WHAT IS DONE WITH ONE WRITER. A command that names it lets it join first; the last three are for settling.
abbrev pub editing : Edit → Scene → Scene
editing e s = performing (operation_of s.peer.site e) s

abbrev pub acting : Action → Scene → Scene
acting (action.Edit e) s = editing e (named s)
acting action.Take s = taking (named s)
acting action.See s = seeing (named s)
acting action.Join s = joining s
acting action.Rejoin s = cond s.peer.joined (named s) s
acting action.TakeAll s = cond (connected s) (taking_all s) s
acting action.SeeAll s = cond (connected s) (seeing_all s) s

-- THE ROOM
-- a peer that has not joined
abbrev pub waiting : ℕ → PeerState
waiting i = record { joined = false; site = i; replica = fresh coded [] 0; queue = []; performed = 0 }

-- nobody has joined, and the text is empty
abbrev pub opening : RoomState
opening = record { server = record { text = []; history = []; seats = λ i. free }; peers = waiting 0 ∷ waiting 1 ∷ waiting 2 ∷ waiting 3 ∷ []; events = [] }

-- the server and peer w
abbrev pub scene : ℕ → RoomState → Scene
scene w r = record { server = r.server; peer = slice_index_or r.peers w (waiting w); events = r.events }

-- something is done with peer w
abbrev pub with : ℕ → (Scene → Scene) → RoomState → RoomState
with w f r = record { server = (f (scene w r)).server; peers = slice_set r.peers w (f (scene w r)).peer; events = (f (scene w r)).events }

-- the same with each of the first n, one after another
unfoldable pub with_each : ℕ → (Scene → Scene) → RoomState → RoomState
with_each zero f r = r
with_each (suc n) f r = with n f (with_each n f r)

-- SETTLING: whoever has no connection joins anew; all that is under way is taken, peer by peer; and all see all.
-- Where a connection has ended meanwhile, once more.
abbrev pub round : RoomState → RoomState
round r = with_each 4 (acting action.SeeAll) (with_each 4 (acting action.TakeAll) (with_each 4 (acting action.Rejoin) r))

abbrev pub ended : Scene → Bool
ended s = s.peer.joined && not (connected s)

-- has one of the first n peers joined and no connection any more?
unfoldable pub any_ended : ℕ → RoomState → Bool
any_ended zero r = false
any_ended (suc n) r = any_ended n r || ended (scene n r)

abbrev pub settling : RoomState → RoomState
settling r = cond (any_ended 4 (round r)) (round (round r)) (round r)

-- A CRASH of the server, which starts again from its history
abbrev pub crashing : RoomState → RoomState
crashing r = record { server = restarted 65536 r.server; peers = r.peers; events = r.events }

-- all that there was to report has been reported
abbrev pub told : RoomState → RoomState
told r = record { server = r.server; peers = r.peers; events = [] }

-- A COMMAND. One for a peer that there is not does nothing.
abbrev pub playing : Command → RoomState → RoomState
playing (command.Ask w a) r = cond (nat_lt w 4) (with w (acting a) r) r
playing command.Crash r = crashing r
playing command.Settle r = settling r
