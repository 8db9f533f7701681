-- What holds of every net that is reached, in parts. Definitions only; what they lead to is proved beside.
use Rattle.std.proofs.Common.{◌≡◌, ℕ, suc, ◌+◌, ◌<◌, ◌≤◌, true, cond, List, [], ◌∷◌, ◌++◌, map, length, take, drop, Some, None, Option, ◌==◌, ◌≢◌}
use Rattle.operation.specs.declared.entry.Entry.{Entry}
use Rattle.operation.specs.declared.entry.Submission.{Submission}
use Rattle.operation.specs.Letters.{◌∈◌, Once, Apart}
use Rattle.operation.specs.Entries.{operations, replaced}
use Rattle.operation.specs.Transform.{Passed, through}
use Rattle.operation.specs.Laws.{Kind, apply_all}
use Rattle.server.specs.Sessions.{Seat, free, unseen}
use Rattle.network.specs.declared.message.Message.{Message}
use Rattle.network.specs.declared.message.Message.TheVariants as message
use Rattle.network.specs.Runs.{Row, ops, Deed, Life, Net, nobody, Connected}
use Rattle.network.specs.Messages.{operations_in}
use Rattle.network.specs.OneRecord.{taken_of}

module _ {A : Type 0} (k : Kind A) where
  -- LETTERS that operations put in, that entries of the history put in, and that were typed in one life
  unfoldable pub puts_all : List k.Op → List A
  puts_all [] = []
  puts_all (o ∷ os) = k.puts o ++ puts_all os

  abbrev pub put_in : List (Row k.Op) → List A
  put_in rows = puts_all (ops rows)

  abbrev pub typed_in : List (Deed k) → List A
  typed_in ds = puts_all (map (λ (d : Deed k). d.op) ds)

  -- the server's text after these entries
  abbrev pub replay : List (Row k.Op) → k.Text
  replay rows = apply_all k (ops rows) k.empty

  -- each fits the text that those before it leave
  unfoldable pub Fitting : List k.Op → k.Text → Type 0
  Fitting [] t = Unit {0}
  Fitting (o ∷ os) t = k.Fits o t × Fitting os (k.apply o t)

  -- OPERATIONS OF ONE SITE on top of a text: each fits the text that those before it leave, and is of site i
  unfoldable pub Mine : ℕ → List k.Op → k.Text → Type 0
  Mine i [] t = Unit {0}
  Mine i (o ∷ os) t = (k.site o ≡ i) × k.Fits o t × Mine i os (k.apply o t)

  -- known: all letters that were ever put into the text below
  pub record Stack (i : ℕ) (known : List A) (t : k.Text) (p : List k.Op) : Type 0 where
    pub mine : Mine i p t
    pub once : Once (known ++ puts_all p)
    pub from : (x : A) → x ∈ k.letters t → x ∈ known
    pub clean : Once (k.letters t)

  -- o, as it is to be done to t, is what was done as d: it puts in the same, and strikes what d struck and still stands
  pub record Means (known : List A) (o : k.Op) (t : k.Text) (d : Deed k) : Type 0 where
    pub puts : k.puts o ≡ k.puts d.op
    pub struck : (x : A) → x ∈ k.strikes o t → x ∈ k.strikes d.op d.before
    pub meant : (x : A) → x ∈ k.strikes d.op d.before → x ∈ k.letters t → x ∈ k.strikes o t
    pub stood : (x : A) → x ∈ k.strikes d.op d.before → x ∈ known

  unfoldable pub Chain : List A → List k.Op → k.Text → List (Deed k) → Type 0
  Chain known [] t [] = Unit {0}
  Chain known [] t (d ∷ ds) = ⊥
  Chain known (o ∷ os) t [] = ⊥
  Chain known (o ∷ os) t (d ∷ ds) = Means known o t d × Chain (known ++ k.puts o) os (k.apply o t) ds

  -- THE CLIENT'S SIDE: what would be pending in connection c, and what would have come over it, had it seen these entries, of which the first has place s
  pub record Ran : Type 0 where
    pub out : List k.Op
    pub top : List (Entry k.Op)

  abbrev pub over : k.Op → List k.Op → Passed k.Op
  over e p = through k.early k.late e p

  abbrev pub on_top : ℕ → k.Op → Ran → Ran
  on_top s o r = record { out = r.out; top = record { place = s; op = o } ∷ r.top }

  unfoldable pub run : ℕ → ℕ → List k.Op → List (Row k.Op) → Ran
  run c s p [] = record { out = p; top = [] }
  run c s p (e ∷ es) = cond (e.by == c) (run c (suc s) (drop 1 p) es) (on_top s (over e.op p).one (run c (suc s) (over e.op p).others es))

  -- THE SERVER'S SIDE: what will come of what is under way, and what will then be concurrent
  pub record Came : Type 0 where
    pub comes : List k.Op
    pub left : List (Entry k.Op)

  abbrev pub meet : Submission k.Op → List (Entry k.Op) → Passed k.Op
  meet m bs = through k.late k.early m.op (operations (unseen m.revision bs))

  abbrev pub leave : Submission k.Op → List (Entry k.Op) → List (Entry k.Op)
  leave m bs = replaced (unseen m.revision bs) (meet m bs).others

  abbrev pub first : k.Op → Came → Came
  first o r = record { comes = o ∷ r.comes; left = r.left }

  unfoldable pub desk : List (Entry k.Op) → List (Message k.Op) → Came
  desk bs [] = record { comes = []; left = bs }
  desk bs (message.Operation m ∷ ms) = first (meet m bs).one (desk (leave m bs) ms)
  desk bs (message.Revision r ∷ ms) = desk (unseen r bs) ms

  abbrev pub revision_of : Message k.Op → ℕ
  revision_of (message.Operation m) = m.revision
  revision_of (message.Revision r) = r

  -- revisions that never go back, from low to high
  unfoldable pub Said : ℕ → List (Message k.Op) → ℕ → Type 0
  Said low [] high = low ≤ high
  Said low (m ∷ ms) high = (low ≤ revision_of m) × Said (revision_of m) ms high

  -- THE GRID: the two sides come to the same. rest: what the client has not seen, the first at place s
  pub record Grid (c s : ℕ) (p : List k.Op) (rest : List (Row k.Op)) (seat : Seat k.Op) (queue : List (Message k.Op)) : Type 0 where
    pub outs : (run c s p rest).out ≡ (desk seat.concurrent queue).comes
    pub tops : (run c s p rest).top ≡ unseen s (desk seat.concurrent queue).left
    pub count : taken_of c rest + operations_in queue ≡ length p
    pub said : Said seat.said queue s

  -- WHAT IS PENDING AND ENTRIES: the connection's own among them are the first of what is pending, in their order, as long as something is pending
  abbrev pub Heads : List k.Op → k.Op → Type 0
  Heads [] o = Unit {0}
  Heads (f ∷ p) o = f ≡ o

  pub data Match (c : ℕ) : List k.Op → List (Row k.Op) → Type 0 where
    end : {p : List k.Op} → Match c p []
    own : {p : List k.Op} {e : Row k.Op} {es : List (Row k.Op)} → e.by ≡ c → Heads p e.op → Match c (drop 1 p) es → Match c p (e ∷ es)
    other : {p : List k.Op} {e : Row k.Op} {es : List (Row k.Op)} → e.by ≢ c → Match c (over e.op p).others es → Match c p (e ∷ es)

  -- A COPY: the first s entries, and operations of connection c with site i on top. h: how many entries c may come to see; typed: what was typed in c
  pub record Copy (c i : ℕ) (rows : List (Row k.Op)) (h : ℕ) (typed : List A) (s : ℕ) (p : List k.Op) (t : k.Text) : Type 0 where
    pub seen : s ≤ h
    pub within : h ≤ length rows
    pub text : t ≡ apply_all k p (replay (take s rows))
    pub stack : Stack i (put_in (take s rows)) (replay (take s rows)) p
    pub mine : (x : A) → x ∈ puts_all p → x ∈ typed
    pub match : Match c p (drop s (take h rows))
    pub foreign : (e : Row k.Op) → e ∈ drop s (take h rows) → e.by ≢ c → k.site e.op ≢ i

  abbrev pub horizon : ℕ → Option ℕ → ℕ
  horizon n None = n
  horizon n (Some e) = e

  abbrev pub horizon_of : List (Row k.Op) → Life k → ℕ
  horizon_of rows l = horizon (length rows) l.ended

  abbrev pub CopyOf : ℕ → List (Row k.Op) → Life k → ℕ → List k.Op → k.Text → Type 0
  CopyOf c rows l s p t = Copy c l.site rows (horizon_of rows l) (typed_in l.deeds) s p t

  -- what was pending then is a first part of what is to come of connection c
  pub record Future (c : ℕ) (rows : List (Row k.Op)) (seat : Seat k.Op) (queue : List (Message k.Op)) (s : ℕ) (p : List k.Op) : Type 0 where
    pub rest : List k.Op
    pub comes : (desk seat.concurrent queue).comes ≡ (run c s p (drop s rows)).out ++ rest

  -- a copy that life l of connection c once had
  pub record Kept (c : ℕ) (rows : List (Row k.Op)) (seat : Seat k.Op) (l : Life k) (s : ℕ) (p : List k.Op) (t : k.Text) : Type 0 where
    pub copy : CopyOf c rows l s p t
    pub future : seat.connected ≡ true → Future c rows seat l.queue s p

  -- a life and its seat as they are now
  pub record Alive (c : ℕ) (rows : List (Row k.Op)) (seat : Seat k.Op) (l : Life k) : Type 0 where
    pub copy : CopyOf c rows l l.replica.revision l.replica.pending l.replica.text
    pub grid : seat.connected ≡ true → Grid c l.replica.revision l.replica.pending (drop l.replica.revision rows) seat l.queue
    pub unended : seat.connected ≡ true → l.ended ≡ None
    pub performed : taken_of c (take l.replica.revision rows) + length l.replica.pending ≡ length l.deeds
    pub enough : taken_of c (drop l.replica.revision (take (horizon_of rows l) rows)) ≤ length l.replica.pending

  -- THE NET
  pub record Recorded (n : Net k) : Type 0 where
    pub history : n.server.history ≡ ops n.rows
    pub text : n.server.text ≡ replay n.rows
    pub fitting : Fitting (ops n.rows) k.empty
    pub once : Once (put_in n.rows)

  -- connections, and who has them
  pub record Seated (n : Net k) : Type 0 where
    pub given : (c : ℕ) → Connected k n c → c < n.connections
    pub unended : (c : ℕ) → c < n.connections → (n.lives c).ended ≡ None → Connected k n c
    pub sites : (c d : ℕ) → Connected k n c → Connected k n d → c ≢ d → (n.lives c).site ≢ (n.lives d).site
    pub last : (c d : ℕ) → Connected k n c → c < d → d < n.connections → (n.lives d).client ≢ (n.lives c).client
    pub unused : (c : ℕ) → n.connections ≤ c → (n.lives c ≡ nobody k) × (n.server.seats c ≡ free)

  -- letters, and whose they are
  pub record Lettered (n : Net k) : Type 0 where
    pub typed : (c : ℕ) (x : A) → x ∈ typed_in (n.lives c).deeds → x ∈ n.typed
    pub apart : (c d : ℕ) → c ≢ d → Apart (typed_in (n.lives c).deeds) (typed_in (n.lives d).deeds)
    pub owned : (e : Row k.Op) → e ∈ n.rows → (e.by < n.connections) × (k.site e.op ≡ (n.lives e.by).site) × ((x : A) → x ∈ k.puts e.op → x ∈ typed_in (n.lives e.by).deeds)
    pub after_end : (c h : ℕ) → (n.lives c).ended ≡ Some h → (e : Row k.Op) → e ∈ drop h n.rows → e.by ≢ c

  pub record Good (n : Net k) : Type 0 where
    pub recorded : Recorded n
    pub seated : Seated n
    pub lettered : Lettered n
    pub alive : (c : ℕ) → c < n.connections → Alive c n.rows (n.server.seats c) (n.lives c)

  -- the deeds behind the entries, by what each connection has done; and what entries and pending operations mean
  unfoldable pub done_by : (ℕ → List (Deed k)) → List (Row k.Op) → List (Deed k)
  done_by f [] = []
  done_by f (e ∷ es) = take 1 (f e.by) ++ done_by (λ c. cond (e.by == c) (drop 1 (f c)) (f c)) es

  pub record Meant (n : Net k) : Type 0 where
    pub rows : Chain [] (ops n.rows) k.empty (done_by (λ c. (n.lives c).deeds) n.rows)
    pub pending : (c : ℕ) → c < n.connections →
        Chain (put_in (take (n.lives c).replica.revision n.rows)) (n.lives c).replica.pending (replay (take (n.lives c).replica.revision n.rows))
        (drop (taken_of c (take (n.lives c).replica.revision n.rows)) (n.lives c).deeds)
