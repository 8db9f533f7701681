-- A seat as the code has it, and its limit.
use Rattle.std.specs.Prelude.{ℕ, cond, List, map, length, vec_items, is_some, unwrap_or, nat_le, slice_index_or}
use Rattle.operation.specs.declared.operation.Operation.{Operation}
use Rattle.operation.specs.Entries.{operations, replaced}
use Rattle.operation.specs.Transform.{transformed, through}
use Rattle.server.specs.declared.session.Session.{Session}
use Rattle.server.specs.Sessions.{Seat, free}

abbrev pub Op : Type 0
Op = Operation ℕ

abbrev pub seat_of : Session → Seat Op
seat_of s = record { connected = is_some s.said; said = unwrap_or s.said 0; concurrent = vec_items s.list }

-- the seat of a site among the sessions; none beyond them
abbrev pub seats_in : List Session → ℕ → Seat Op
seats_in ss i = slice_index_or (map seat_of ss) i free

-- a client that has 4,096 entries before it is given no more: its connection is ended
abbrev pub bounded : Seat Op → Seat Op
bounded s = cond (nat_le (length s.concurrent) 4096) s free

-- what the client has not seen, past one more operation of its own
abbrev pub passed : Op → Seat Op → Seat Op
passed op s = record { connected = s.connected; said = s.said; concurrent = replaced s.concurrent (through transformed transformed op (operations s.concurrent)).others }
