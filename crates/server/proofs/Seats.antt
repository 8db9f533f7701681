-- The seats of a server whose sessions are changed one by one.
use Rattle.std.proofs.Common.{◌≡◌, ℕ, All, zero, suc, ◌<◌, ◌≤◌, true, cond, eqb, List, [], ◌∷◌, map, length, get_or, set, vec_items, sym, refl, ap, ◌∙◌, ⊎_elim, arith}
use Rattle.std.proofs.lemmas.List.{get_or-map, get_or_past, map-set, length-map}
use Rattle.std.proofs.lemmas.Bool.{cases_lt, false≢true}
use Rattle.std.proofs.lemmas.Grind.{common_steps}
use Rattle.std.proofs.lemmas.Bool.Decides.{nat_tests}
use Rattle.text.specs.Coded.{coded}
use Rattle.text.specs.Texts.{Letter}
use Rattle.server.specs.declared.server.Server.{Server}
use Rattle.server.specs.declared.session.Session.{Session}
use Rattle.server.specs.Sessions.{Seat, free, ServerState}
use Rattle.server.specs.Seats.{Op, seat_of, seats_in}
use Rattle.server.specs.Servers.{seats, with_seat}

pub seat_at : (ss : List Session) (i : ℕ) (s : Session) → i < length ss → s ≡ get_or ss i s → seats_in ss i ≡ seat_of s
seat_at ss i s h e = get_or-map seat_of ss i s free h ∙ ap seat_of (sym e)

pub seat_past : (ss : List Session) (i : ℕ) → length ss ≤ i → seats_in ss i ≡ free
seat_past ss i h = get_or_past (map seat_of ss) i free (let l = length-map ss seat_of in omega arith)

-- one session is another
pub seat_set : (ss : List Session) (i : ℕ) (s : Session) (x : Seat Op) → i < length ss → seat_of s ≡ x → (j : ℕ) → seats_in (set ss i s) j ≡ cond (eqb j i) x (seats_in ss j)
seat_set ss i s x h e j =
    let l = length-map ss seat_of in
    let m = map-set seat_of ss i s in
    rw m (grind (arith, common_steps, nat_tests, e))

-- the session of site k is another
pub seat_written : (t : List Letter) (h : List Op) (ss : List Session) (i k : ℕ) (s : Session) (x : Seat Op) → i ≡ k → i < length ss → seat_of s ≡ x →
    ◌≡◌ {A = ServerState coded} (record { text = t; history = h; seats = seats_in (set ss i s) }) (with_seat k x (record { text = t; history = h; seats = seats_in ss }))
seat_written t h ss i k s x e l is = λ u. record { text = t; history = h; seats = λ j. (seat_set ss i s x l is j ∙ ap (λ n. cond (eqb j n) x (seats_in ss j)) e) u }

pub seat_connected : (ss : List Session) (i : ℕ) → (seats_in ss i).connected ≡ true → i < length ss
seat_connected ss i e =
    ⊎_elim (λ l. l) (λ l. absurd (false≢true (sym (ap (λ (s : Seat Op). s.connected) (seat_past ss i l)) ∙ e))) (cases_lt i (length ss))

-- where every session is free, so is every site
pub all_free : (ss : List Session) → All (λ s. seat_of s ≡ free) ss → (i : ℕ) → seats_in ss i ≡ free
all_free [] all i = refl
all_free (s ∷ ss) all zero = all 0 s (omega arith)
all_free (s ∷ ss) all (suc i) = all_free ss (λ k d l. all (suc k) d (omega arith)) i

-- whoever is connected has one of the sixteen sites
pub connected_below : (v : Server) (i : ℕ) → (seats v i).connected ≡ true → i < 16
connected_below v i e = let l = seat_connected (vec_items v.sessions) i e in omega arith
