-- Rows of numbers, and what they do to a server and to a client.
use Rattle.std.specs.Prelude.{ℕ, cond, List, [], ◌∷◌, ◌++◌, length, take, drop, ◌==◌}
use Rattle.operation.specs.declared.operation.Operation.{Operation}
use Rattle.operation.specs.declared.operation.Operation.TheVariants.{Noop, Insert, Delete}
use Rattle.text.specs.Texts.{Letter}
use Rattle.text.specs.Coded.{coded}
use Rattle.client.specs.Clients.{ClientState, newcomer, after_edit, after_entry}
use Rattle.server.specs.Sessions.{ServerState}
use Rattle.server.specs.Servers.{started, site_for, join_after, take_after}
use Rattle.measured.specs.declared.row.Row.{Row}

-- the operation of a row: 1 inserts, 2 deletes, and any other kind does nothing
abbrev pub operation_of : Row → Operation ℕ
operation_of r = cond (r.kind == 1) (Insert r.site r.place r.letter) (cond (r.kind == 2) (Delete r.site r.place) (Noop r.site))

-- one row after the other
unfoldable pub run : {S : Type 0} → (Row → S → S) → List Row → S → S
run step [] s = s
run step (r ∷ rs) s = run step rs (step r s)

-- A SERVER whose text has room for n letters: 3 joins, and any other kind is taken
abbrev pub served : ℕ → Row → ServerState coded → ServerState coded
served n r v = cond (r.kind == 3) (join_after (site_for r.site v.seats) v) (take_after n (record { revision = r.revision; op = operation_of r }) v)

-- a new server's text after the rows
abbrev pub server_text : List Row → List Letter
server_text rs = (run (served 65536) rs (started [])).text

-- A CLIENT: 3 inserts and 4 deletes, and any other kind is an entry that it sees
abbrev pub stepped : Row → ClientState → ClientState
stepped r c =
    cond (r.kind == 3) (after_edit (Insert c.site r.place r.letter) c)
    (cond (r.kind == 4) (after_edit (Delete c.site r.place) c)
    (after_entry (record { place = r.revision; op = operation_of r }) c))

-- the text of a new client at site i after the rows
abbrev pub client_text : ℕ → List Row → List Letter
client_text i rs = (run stepped rs (newcomer i 0 (record { letters = []; room = 65792 }))).replica.text

-- as many of the first list as the second has room for, and then what is left of the second
abbrev pub over : {A : Type 0} → List A → List A → List A
over xs ys = take (length ys) xs ++ drop (length xs) ys
