-- The client's calls: what they answer and what they leave. Limits of the code are here.
use Rattle.std.specs.Prelude.{ℕ, ◌%◌, min, Bool, cond, ◌&&◌, List, length, Some, None, Ok, Err, Option, Result, ◌==◌, nat_le, nat_lt}
use Rattle.operation.specs.declared.operation.Operation.{Operation}
use Rattle.operation.specs.declared.entry.Entry.{Entry}
use Rattle.operation.specs.declared.entry.Submission.{Submission}
use Rattle.operation.specs.Edits.{site}
use Rattle.text.specs.declared.refusal.Refusal.{Refusal as TextRefusal}
use Rattle.text.specs.declared.refusal.Refusal.TheVariants as text
use Rattle.text.specs.Texts.{Letter, refusal}
use Rattle.text.specs.Documents.{TextState, copy_refusal}
use Rattle.text.specs.Coded.{coded}
use Rattle.client.specs.declared.refusal.Refusal.{Refusal}
use Rattle.client.specs.declared.refusal.Refusal.TheVariants.{BadLetter, BeyondText, PendingFull, NotNext, TextFull}
use Rattle.client.specs.declared.client.Client.{Client}
use Rattle.client.specs.Pendings.{pending_in}
use Rattle.client.specs.Replicas.{Replica, fresh, performed, submission, passed, received, seen}

-- A CLIENT: its site, how many letters its text has room for, and the rest
pub record ClientState : Type 0 where
  pub site : ℕ
  pub room : ℕ
  pub replica : Replica coded

abbrev pub replica : Client → Replica coded
replica c = record { text = c.text.letters; pending = pending_in c.pending; revision = c.revision }

abbrev pub client_of : Client → ClientState
client_of c = record { site = c.site; room = c.text.room; replica = replica c }

abbrev pub text_of : ClientState → TextState
text_of c = record { letters = c.replica.text; room = c.room }

-- the site and the room stay
abbrev pub with_replica : Replica coded → ClientState → ClientState
with_replica r c = record { site = c.site; room = c.room; replica = r }

-- another's operation is done to the text and pending is past it
abbrev pub merged : Operation ℕ → Replica coded → Replica coded
merged o c = record { text = (received coded o c).text; pending = (received coded o c).pending; revision = c.revision }

-- REFUSALS
-- a text's reason is the client's
abbrev pub reason : TextRefusal → Refusal
reason text.BadLetter = BadLetter
reason text.BeyondText = BeyondText
reason text.TextFull = TextFull

abbrev pub reasons : Option TextRefusal → Option Refusal
reasons None = None
reasons (Some e) = Some (reason e)

-- the text's reason, with 'pending is full' between the place and the length
abbrev pub lowest : Option TextRefusal → Bool → Option Refusal
lowest None full = cond full (Some PendingFull) None
lowest (Some text.BadLetter) full = Some BadLetter
lowest (Some text.BeyondText) full = Some BeyondText
lowest (Some text.TextFull) full = cond full (Some PendingFull) (Some TextFull)

-- what comes of a call: what was, if that is refused
abbrev pub unless : {E A : Type 0} → Option E → A → A → A
unless None x y = x
unless (Some r) x y = y

abbrev pub answered : {A : Type 0} → Option Refusal → A → Result A Refusal
answered None x = Ok x
answered (Some r) x = Err r

-- BEGINNING
-- a client at site i with this text, that has seen n entries and typed nothing
abbrev pub newcomer : ℕ → ℕ → TextState → ClientState
newcomer i n t = record { site = i; room = t.room; replica = fresh coded t.letters n }

-- one that begins anew with a copy of that text, if it has room
abbrev pub begun : ℕ → ℕ → List Letter → ClientState → ClientState
begun i n t c = unless (copy_refusal c.room t) (newcomer i n (record { letters = t; room = c.room })) c

-- TYPING AND STRIKING, in a text with room for n letters
abbrev pub edit_refusal : ℕ → Operation ℕ → Replica coded → Option Refusal
edit_refusal n o c = lowest (refusal (min n 65536) o c.text) (nat_le 256 (length c.pending))

abbrev pub edited : ℕ → Operation ℕ → Replica coded → Replica coded
edited n o c = unless (edit_refusal n o c) (performed coded o c) c

abbrev pub edit_answer : ℕ → Operation ℕ → Replica coded → Result (Submission (Operation ℕ)) Refusal
edit_answer n o c = answered (edit_refusal n o c) (submission coded o c)

abbrev pub after_edit : Operation ℕ → ClientState → ClientState
after_edit o c = with_replica (edited c.room o c.replica) c

abbrev pub answer_to : Operation ℕ → ClientState → Result (Submission (Operation ℕ)) Refusal
answer_to o c = edit_answer c.room o c.replica

-- SEEING
-- the entry is the next, and a place that a history can have
abbrev pub is_next : Entry (Operation ℕ) → Replica coded → Bool
is_next e c = e.place == c.revision && nat_lt e.place 4294967294

-- why the client with site i refuses an entry; what another's entry has become has to fit the text, which it does in every run with an honest server
abbrev pub see_refusal : ℕ → ℕ → Entry (Operation ℕ) → Replica coded → Option Refusal
see_refusal n i e c = cond (is_next e c) (cond (site e.op == i) None (reasons (refusal n (passed coded e.op c).one c.text))) (Some NotNext)

abbrev pub after_seeing : ℕ → ℕ → Entry (Operation ℕ) → Replica coded → Replica coded
after_seeing n i e c = unless (see_refusal n i e c) (seen coded i e.op c) c

abbrev pub entry_refusal : Entry (Operation ℕ) → ClientState → Option Refusal
entry_refusal e c = see_refusal c.room c.site e c.replica

abbrev pub after_entry : Entry (Operation ℕ) → ClientState → ClientState
after_entry e c = with_replica (after_seeing c.room c.site e c.replica) c

-- the client that is handed back, and the reason if the entry was refused
abbrev pub handed_back : Result Client (Client × Refusal) → Client
handed_back (Ok c) = c
handed_back (Err e) = e.0

abbrev pub refused_seeing : Result Client (Client × Refusal) → Option Refusal
refused_seeing (Ok c) = None
refused_seeing (Err e) = Some e.1

-- a 'revision so far' is due at each 1,024th entry
abbrev pub due : ℕ → Option ℕ
due n = cond (nat_lt 0 n && n % 1024 == 0) (Some n) None
