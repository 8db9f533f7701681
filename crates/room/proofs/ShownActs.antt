-- What is asked of a peer: typing and striking, joining, and joining anew.
use Rattle.std.proofs.Common.{◌≡◌, ℕ, ◌<◌, true, false, ltb, inl, refl, ap, ◌∙◌}
use Rattle.std.proofs.lemmas.Bool.{cond_both, ltb-true, and_parts}
use Rattle.operation.specs.Edits.{site}
use Rattle.room.specs.declared.action.Action.{Action}
use Rattle.room.specs.declared.action.Action.TheVariants as action
use Rattle.room.specs.declared.command.Command.TheVariants as command
use Rattle.room.specs.declared.edit.Edit.{Edit}
use Rattle.room.specs.declared.edit.Edit.TheVariants as edit
use Rattle.room.specs.Scenes.{Scene, RoomState, with, operation_of, connected, joining, named, performing, editing, acting, playing}
use Rattle.room.specs.Reached.{Onward, Asked, Keeps}
use Rattle.room.proofs.Paths.{Steps, Carries, carries_then, carries_same, carries_cond, carries_nothing, onward_same, site_now}
use Rattle.room.proofs.ShownJoins.{MayJoin, naming_peer, joining_anew}
use Rattle.room.proofs.ShownEdits.{performing_joined}

-- a peer that was named has joined, and keeps its site
pub named_joined : (s : Scene) → ((named s).peer.joined ≡ true) × ((named s).peer.site ≡ s.peer.site)
named_joined s = cond_both (connected s) s (joining s) (λ t. (t.peer.joined ≡ true) × (t.peer.site ≡ s.peer.site)) (λ e. ((and_parts _ _ e).0, refl)) (λ e. (refl, refl))

site_asked : (w : ℕ) (e : Edit) → site (operation_of w e) ≡ w
site_asked w (edit.Insert p x) = refl
site_asked w (edit.Delete p) = refl

module _ (w : ℕ) (below : w < 4) where
  pub acts_edit : (e : Edit) → Carries w (λ s. Unit {0}) (Asked w (action.Edit e)) (acting (action.Edit e))
  acts_edit e r a u =
      let P = Asked w (action.Edit e) in
      carries_then w below (λ s. s.peer.site ≡ w) (λ s. (s.peer.joined ≡ true) × (s.peer.site ≡ w)) P named (editing e)
      (λ r a q. naming_peer w below P (λ n u v. refl) r a tt)
      (λ s q. ((named_joined s).0, (named_joined s).1 ∙ q))
      (carries_same w (λ s. (s.peer.joined ≡ true) × (s.peer.site ≡ w)) P (performing (operation_of w e)) (editing e) (λ s q. ap (λ i. performing (operation_of i e) s) q.1)
      (λ r a q. performing_joined w below (operation_of w e) (site_asked w e) P (λ n c o u i f x y q h. (q, h)) r a q.0))
      r a (site_now a.shows w below)

  pub acts_join : Carries w (λ s. Unit {0}) (Asked w action.Join) (acting action.Join)
  acts_join = joining_anew w below (Asked w action.Join) (λ n u v. refl) (λ n c u q. inl (refl, q))

  -- by any steps that may be joins
  pub rejoining : (P : Steps) → MayJoin w P → Carries w (λ s. Unit {0}) P (acting action.Rejoin)
  rejoining P allowed = carries_cond w (λ s. Unit {0}) P (λ s. s.peer.joined) named (λ s. s)
      (λ r a q. naming_peer w below P allowed r a tt)
      (carries_nothing w (λ s. Unit {0} × (s.peer.joined ≡ false)) P (λ s. s) (λ s q. refl) (λ s q. refl))

  pub acts_rejoin : Carries w (λ s. Unit {0}) (Asked w action.Rejoin) (acting action.Rejoin)
  acts_rejoin = rejoining (Asked w action.Rejoin) (λ n u v. refl)

-- a command that names a peer keeps what holds of the room, if what is done with each of the four does
pub asked_keeps : (x : Action) → ((w : ℕ) → w < 4 → Carries w (λ s. Unit {0}) (Asked w x) (acting x)) → (w : ℕ) (r : RoomState) → Keeps (command.Ask w x) r (playing (command.Ask w x) r)
asked_keeps x h w r a = cond_both (ltb w 4) (with w (acting x) r) r (Onward (Asked w x) a.net) (λ e. h w (ltb-true w 4 e) r a tt) (λ e. onward_same (Asked w x) a refl refl)
