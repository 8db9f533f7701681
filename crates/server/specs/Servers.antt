-- The server's calls: what they answer and what they leave. Limits of the code are here.
use Rattle.std.specs.Prelude.{◌≡◌, ℕ, zero, suc, min, Bool, cond, ◌||◌, List, [], ◌∷◌, ◌++◌, length, Some, None, Ok, Err, vec_items, vec_capacity, Option, Result, count_by, ◌==◌, nat_le, nat_lt, slice_index_or}
use Rattle.operation.specs.declared.operation.Operation.TheVariants.{Noop}
use Rattle.operation.specs.declared.entry.Entry.{Entry}
use Rattle.operation.specs.declared.entry.Submission.{Submission}
use Rattle.operation.specs.Edits.{site, apply}
use Rattle.text.specs.declared.refusal.Refusal.{Refusal as TextRefusal}
use Rattle.text.specs.declared.refusal.Refusal.TheVariants as text
use Rattle.text.specs.Documents.{TextState}
use Rattle.text.specs.Texts.{Letter, signed, refusal, applied}
use Rattle.text.specs.Coded.{coded}
use Rattle.server.specs.declared.refusal.Refusal.{Refusal}
use Rattle.server.specs.declared.refusal.Refusal.TheVariants.{BadLetter, NotConnected, BeyondText, BadRevision, Full, SitesInUse, OutOfMemory}
use Rattle.server.specs.declared.joined.Joined.{Joined}
use Rattle.server.specs.declared.server.Server.{Server}
use Rattle.server.specs.Sessions.{Seat, free, joined_at, heard, told, ServerState, arrival, taken}
pub use Rattle.server.specs.Seats.{Op, seat_of, seats_in, bounded}

-- THE STATE
-- the seat of a site; none above 15
abbrev pub seats : Server → ℕ → Seat Op
seats v i = seats_in (vec_items v.sessions) i

abbrev pub history_of : Server → List Op
history_of v = vec_items v.history

-- how many entries the history has memory for
abbrev pub memory_of : Server → ℕ
memory_of v = vec_capacity v.history

abbrev pub text_of : Server → TextState
text_of v = v.text

-- how many letters its text has room for
abbrev pub room_of : Server → ℕ
room_of v = (text_of v).room

abbrev pub state_of : Server → ServerState coded
state_of v = record { text = (text_of v).letters; history = history_of v; seats = seats v }

-- nobody is connected to a server with this text and this history
abbrev pub resumed : List Letter → List Op → ServerState coded
resumed t os = record { text = t; history = os; seats = λ i. free }

-- nothing has happened yet but to the text
abbrev pub started : List Letter → ServerState coded
started t = resumed t []

-- THE LIMITS
-- a revision that the client cannot have: above the history, or below what it said before
abbrev pub bad_revision : ℕ → ℕ → Seat Op → Bool
bad_revision n r s = nat_lt n r || nat_lt r s.said

-- the history has n entries and takes no more
abbrev pub history_full : ℕ → Bool
history_full n = nat_le 4294967294 n

-- THE REFUSALS of an operation, by the lowest number: the text's reason, whether the revision is bad, whether the history is full
abbrev pub lowest : Option TextRefusal → Bool → Bool → Option Refusal
lowest (Some text.BadLetter) bad full = Some BadLetter
lowest (Some text.BeyondText) bad full = Some BeyondText
lowest (Some text.TextFull) bad full = Some (cond bad BadRevision Full)
lowest None bad full = cond bad (Some BadRevision) (cond full (Some Full) None)

-- why an operation of a connected client is refused, in a text with room for n letters
abbrev pub take_refusal : ℕ → Submission Op → Seat Op → ServerState coded → Option Refusal
take_refusal n m s v = lowest (refusal (min n 65536) (arrival coded m s).one v.text) (bad_revision (length v.history) m.revision s) (history_full (length v.history))

-- THE STATE AFTERWARDS
-- nothing but one seat is changed
abbrev pub with_seat : ℕ → Seat Op → ServerState coded → ServerState coded
with_seat i s v = record { text = v.text; history = v.history; seats = λ j. cond (j == i) s (v.seats j) }

-- whoever has more than 4,096 entries before it then, but for the sender at site i, has no connection any more
abbrev pub overflowed : ℕ → ServerState coded → ServerState coded
overflowed i v = record { text = v.text; history = v.history; seats = λ j. cond (j == i) (v.seats j) (bounded (v.seats j)) }

abbrev pub taken_bounded : ℕ → Submission Op → ServerState coded → ServerState coded
taken_bounded i m v = overflowed i (taken coded i m v)

-- an operation of site i stands at the end of the history, is done to the text with room for n letters, and is told to the other clients
abbrev pub added : ℕ → ℕ → Op → ServerState coded → ServerState coded
added n i o v = record {
  text = applied (min n 65536) o v.text;
  history = v.history ++ o ∷ [];
  seats = λ j. cond (j == i) (v.seats j) (bounded (told (record { place = length v.history; op = o }) (v.seats j)));
}

-- WHAT A CALL LEAVES
-- a state, and the room for letters that there was
pub record Leaves (was now : Server) (after : ServerState coded) : Type 0 where
  pub state : state_of now ≡ after
  pub room : room_of now ≡ room_of was

-- the answer and the state that the rules give; or memory was wanting, and nothing has changed
pub data Outcome {A : Type 0} (answer : Result A Refusal) (was : Server) (after : ServerState coded) (r : Result A Refusal) (now : Server) : Type 0 where
  done : r ≡ answer → Leaves was now after → Outcome answer was after r now
  no_memory : r ≡ Err OutOfMemory → Leaves was now (state_of was) → Outcome answer was after r now

abbrev pub answered : {A : Type 0} → Option Refusal → A → Result A Refusal
answered None x = Ok x
answered (Some e) x = Err e

-- TAKING an operation of site i: of a site that has no client it is refused and nothing changes; any other refusal ends the connection
abbrev pub after_taking : Option Refusal → ℕ → Submission Op → ServerState coded → ServerState coded
after_taking None i m v = taken_bounded i m v
after_taking (Some e) i m v = with_seat i free v

abbrev pub take_answer : ℕ → Submission Op → ServerState coded → Result (Entry Op) Refusal
take_answer n m v =
    cond (v.seats (site m.op)).connected
    (answered (take_refusal n m (v.seats (site m.op)) v) (record { place = length v.history; op = (arrival coded m (v.seats (site m.op))).one }))
    (Err NotConnected)

abbrev pub take_after : ℕ → Submission Op → ServerState coded → ServerState coded
take_after n m v = cond (v.seats (site m.op)).connected (after_taking (take_refusal n m (v.seats (site m.op)) v) (site m.op) m v) v

abbrev pub Taking : Submission Op → Server → Result (Entry Op) Refusal → Server → Type 0
Taking m was r now = Outcome (take_answer (room_of was) m (state_of was)) was (take_after (room_of was) m (state_of was)) r now

-- HEARING a revision so far
abbrev pub hear_answer : ℕ → ℕ → ServerState coded → Result (Unit {0}) Refusal
hear_answer i r v = cond (v.seats i).connected (cond (bad_revision (length v.history) r (v.seats i)) (Err BadRevision) (Ok tt)) (Err NotConnected)

abbrev pub hear_after : ℕ → ℕ → ServerState coded → ServerState coded
hear_after i r v = cond (v.seats i).connected (with_seat i (cond (bad_revision (length v.history) r (v.seats i)) free (heard r (v.seats i))) v) v

-- JOINING: the site that is wished for if it is free, else the highest that is free
unfoldable pub highest_free : ℕ → (ℕ → Seat Op) → Option ℕ
highest_free zero f = None
highest_free (suc n) f = cond (f n).connected (highest_free n f) (Some n)

abbrev pub site_for : ℕ → (ℕ → Seat Op) → Option ℕ
site_for w f = cond (nat_lt w 16) (cond (f w).connected (highest_free 16 f) (Some w)) (highest_free 16 f)

-- how many of the operations are of site i
abbrev pub site_count : ℕ → List Op → ℕ
site_count i os = count_by (λ o. site o == i) os

abbrev pub join_answer : Option ℕ → ServerState coded → Result Joined Refusal
join_answer None v = Err SitesInUse
join_answer (Some i) v = Ok (record { site = i; revision = length v.history; count = site_count i v.history })

abbrev pub join_after : Option ℕ → ServerState coded → ServerState coded
join_after None v = v
join_after (Some i) v = with_seat i (joined_at (length v.history)) v

-- THE HISTORY, entry by entry
abbrev pub entry_at : ℕ → List Op → Option (Entry Op)
entry_at p h = cond (nat_lt p (length h)) (Some (record { place = p; op = slice_index_or h p (Noop 0) })) None

-- RESTARTING after a crash: nobody is connected, and the text is what the history makes of the empty one,
-- up to the first operation that does not fit, if the history has such a one
pub record Replayed : Type 0 where
  pub failed : Option TextRefusal
  pub text : List Letter

abbrev pub or_stop : Option TextRefusal → Replayed → List Letter → Replayed
or_stop None r t = r
or_stop (Some e) r t = record { failed = Some e; text = t }

unfoldable pub replayed : ℕ → List Op → List Letter → Replayed
replayed n [] t = record { failed = None; text = t }
replayed n (o ∷ os) t = or_stop (refusal n o t) (replayed n os (apply (signed o) t)) t

abbrev pub restarted : ℕ → ServerState coded → ServerState coded
restarted n v = record { text = (replayed (min n 65536) v.history []).text; history = v.history; seats = λ i. free }
