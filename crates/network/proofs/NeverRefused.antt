-- The server refuses nothing for its place or its revision that came over a connection that it has, and a client refuses no entry that comes.
use Rattle.std.proofs.Common.{◌≡◌, ℕ, ◌<◌, ◌≤◌, ◌+◌, Some, None, Option, ◌∷◌, ◌++◌, length, take, drop, get_or, ◌==◌, ◌≢◌, refl, sym, ap, subst, ◌∙◌, ⊎_elim, arith}
use Rattle.std.proofs.lemmas.Bool.{cases_eq, eq-eqb, ne_eqb}
use Rattle.std.proofs.lemmas.List.{take-append-drop}
use mathlib.Core.List.Memᴰ
use Rattle.operation.specs.Laws.{Kind, Laws}
use Rattle.network.specs.Runs.{Row, ops, Net, Connected, Sendable, Reachable, entry_of}
use Rattle.network.specs.OneRecord.{taken_of, Comes, NeverRefused}
use Rattle.network.proofs.Invariants.{Fitting, over, replay, horizon, horizon_of, Alive, Good}
use Rattle.network.proofs.Lists.{next_at, next_of, next_rest}
use Rattle.network.proofs.Letters.{mem_of, mem_right, fitting_rows}
use Rattle.network.proofs.Grid.{taken_own, grid_head, grid_heard}
use Rattle.network.proofs.Stacks.{over_fits}
use Rattle.network.proofs.Copies.{grid_of}
use Rattle.network.proofs.Nets.{good, taken_entry, recorded_length}

module _ {A : Type 0} (k : Kind A) (l : Laws k) where
  revision_within : (n : Net k) → Good k n → (c : ℕ) → Connected k n c → (n.lives c).replica.revision ≤ length n.server.history
  revision_within n g c u = let y = (g.alive c (g.seated.given c u)).copy in omega (arith, y.seen, y.within, recorded_length k l n g.recorded)

  -- THE ENTRY THAT COMES NEXT to life c
  module _ (n : Net k) (r : Reachable k n) (c : ℕ) (u : c < n.connections) (e : Row k.Op) (x : Comes k n c e) where
    g : Good k n
    g = good k l n r

    a : Alive k c n.rows (n.server.seats c) (n.lives c)
    a = g.alive c u

    abbrev s : ℕ
    s = (n.lives c).replica.revision

    at_s : (get_or n.rows s e ≡ e) × (s < length n.rows)
    at_s = next_at n.rows e x.before x.after s x.whole x.place

    short_of : (d : Option ℕ) → Sendable k d s → s < horizon k (length n.rows) d
    short_of None h = at_s.1
    short_of (Some d) h = h

    next : drop s (take (horizon_of k n.rows (n.lives c)) n.rows) ≡ e ∷ drop (s + 1) (take (horizon_of k n.rows (n.lives c)) n.rows)
    next = next_of n.rows e s _ at_s.0 (short_of (n.lives c).ended x.sendable) a.copy.within

    other_site : e.by ≢ c → k.site e.op ≢ (n.lives c).site
    other_site ne = a.copy.foreign e (mem_of (sym next) (Memᴰ.head refl)) ne

    own_by_site : (k.site e.op == (n.lives c).site) ≡ (e.by == c)
    own_by_site = ⊎_elim
        (λ b. eq-eqb _ _ ((g.lettered.owned e (mem_of (sym x.whole) (mem_right x.before (Memᴰ.head refl)))).1 ∙ ap (λ j. (n.lives j).site) b) ∙ sym (eq-eqb _ _ b))
        (λ ne. ne_eqb _ _ (other_site ne) ∙ sym (ne_eqb _ _ ne)) (cases_eq e.by c)

    own_pending : e.by ≡ c → 0 < length (n.lives c).replica.pending
    own_pending b = omega (arith, a.enough, ap (taken_of c) next, taken_own c e (drop (s + 1) (take (horizon_of k n.rows (n.lives c)) n.rows)) b)

    fits : e.by ≢ c → k.Fits (over k e.op (n.lives c).replica.pending).one (n.lives c).replica.text
    unfolding Fitting
    fits ne = subst (k.Fits _) (sym a.copy.text) (over_fits k l (n.lives c).site _ (replay k (take s n.rows)) e.op (n.lives c).replica.pending a.copy.stack
        ((fitting_rows k (take s n.rows) (e ∷ drop (s + 1) n.rows) k.empty
        (subst (λ rows. Fitting k (ops rows) k.empty) (sym (take-append-drop s n.rows) ∙ ap (λ z. take s n.rows ++ z) (next_rest n.rows e s at_s.0 at_s.1)) g.recorded.fitting)).1.0)
        (other_site ne))

  pub never_refused : NeverRefused k
  never_refused = record {
    operation = λ n r c u m rest q. let g = good k l n r in let f = grid_head k (grid_of k (g.alive c (g.seated.given c u)) u q) in
        (subst (k.Fits (entry_of k c m n).op) (sym g.recorded.text) (taken_entry k l n g c m rest u q).0, f.1, omega (arith, f.2, revision_within n g c u));
    revision = λ n i c u r rest q. let g = good k l n i in let f = grid_heard k (grid_of k (g.alive c (g.seated.given c u)) u q) in
        (f.0, omega (arith, f.1, revision_within n g c u));
    own_by_site = own_by_site;
    own_pending = own_pending;
    entry = fits;
  }
