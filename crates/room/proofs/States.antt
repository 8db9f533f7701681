-- What the server's calls leave, as values.
use Rattle.std.proofs.Common.{◌≡◌, ℕ, ◌<◌, cond, eqb, length, Some, Ok, refl, ap, ◌∙◌}
use Rattle.std.proofs.lemmas.Bool.{lt-ltb, eq-eqb}
use Rattle.text.specs.Coded.{coded}
use Rattle.server.specs.Sessions.{Seat, free, joined_at, ServerState}
use Rattle.server.specs.Servers.{Op, with_seat, site_for, highest_free, join_answer, join_after}
use Rattle.room.specs.Scenes.{welcome, reconnected}

-- a site that was just freed is the one that a client gets
freed : (i : ℕ) (f g : ℕ → Seat Op) → i < 16 → f i ≡ cond (eqb i i) free (g i) → site_for i f ≡ Some i
freed i f g h e =
    rw (lt-ltb i 16 h) (ap (λ (s : Seat Op). cond s.connected (highest_free 16 f) (Some i)) (e ∙ ap (λ b. cond b free (g i)) (eq-eqb i i refl)))

-- v: the state where the connection of site i has ended, which was w
module _ {i : ℕ} {v : ServerState coded} (w : ServerState coded) (h : i < 16) (end : v ≡ with_seat i free w) where
  own : site_for i v.seats ≡ Some i
  own = freed i v.seats w.seats h (ap (λ (u : ServerState coded). u.seats i) end)

  pub welcomed : join_answer (site_for i v.seats) v ≡ Ok (welcome i w)
  welcomed = ap (λ a. join_answer a v) own ∙ ap (λ u. Ok (welcome i u)) end

  pub joined_again : join_after (site_for i v.seats) v ≡ reconnected i w
  joined_again = ap (λ a. join_after a v) own ∙ ap (λ (u : ServerState coded). with_seat i (joined_at (length u.history)) u) end
