-- Seeing entries one after another.
use Rattle.std.proofs.Common.{◌≡◌, ℕ, suc, ◌+◌, ◌-◌, ◌<◌, ◌≤◌, Bool, true, false, cond, length, Some, None, Option, ltb, is_none, refl, ap, ◌∙◌, arith}
use Rattle.std.proofs.lemmas.Bool.{ltb-true, ltb-false}
use Rattle.std.proofs.lemmas.Option.{cond_some}
use Rattle.operation.specs.declared.entry.Entry.{Entry}
use Rattle.text.specs.Coded.{coded}
use Rattle.client.specs.Replicas.{Replica, seen as seen_by}
use Rattle.client.specs.Clients.{see_refusal, unless}
use Rattle.room.specs.Scenes.{Op, Scene, next_entry, takes_entry, seen, seeing, seeing_entry, seeing_up_to, seeing_all}

-- how many entries the peer has not seen
abbrev pub unseen : Scene → ℕ
unseen s = length s.server.history - s.peer.replica.revision

none_from : {A : Type 0} (b : Bool) (x : A) → cond b (Some x) None ≡ None → b ≡ false
none_from true x e = absurd (cc)
none_from false x e = refl

is_none_from : {A : Type 0} (o : Option A) → is_none o ≡ true → o ≡ None
is_none_from None e = refl
is_none_from (Some x) e = absurd (cc)

one_further : (b : Bool) (x y : Replica coded) (n : ℕ) → x.revision ≡ n → y.revision ≡ n → (cond b x y).revision ≡ n
one_further true x y n e f = e
one_further false x y n e f = f

step : (n : ℕ) (s : Scene) → seeing_up_to (suc n) s ≡ cond (takes_entry (next_entry s) s) (seeing_up_to n (seeing s)) (seeing s)
unfolding seeing_up_to
step n s = refl

-- there is none
pub see_none : (s : Scene) → next_entry s ≡ None → seeing_all s ≡ s
unfolding seeing_up_to
see_none s e =
    let h : length s.server.history ≤ s.peer.replica.revision = ltb-false _ _ (none_from (ltb s.peer.replica.revision (length s.server.history)) _ e) in
    let z : unseen s ≡ 0 = omega arith in
    ap (λ n. seeing_up_to n s) z

-- entry e is the next
module _ (s : Scene) (e : Entry Op) (next : next_entry s ≡ Some e) where
  abbrev then : Scene
  then = seeing_entry (Some e) s

  below : s.peer.replica.revision < length s.server.history
  below = ltb-true _ _ (cond_some (ltb s.peer.replica.revision (length s.server.history)) _ e next).0

  turn : (b : Bool) → takes_entry (Some e) s ≡ b → (n : ℕ) → unseen s ≡ suc n → seeing_all s ≡ cond b (seeing_up_to n then) then
  turn b test n k =
      ap (λ m. seeing_up_to m s) k ∙ step n s ∙ ap (λ o. cond (takes_entry o s) (seeing_up_to n (seeing_entry o s)) (seeing_entry o s)) next
      ∙ ap (λ c. cond c (seeing_up_to n then) then) test

  -- one entry less is left
  pub nearer : takes_entry (Some e) s ≡ true → unseen s ≡ suc (unseen then)
  nearer test =
      let none = is_none_from (see_refusal 65792 s.peer.site e s.peer.replica) test in
      let history : length then.server.history ≡ length s.server.history = ap (λ r. length (seen r e s).server.history) none in
      let revision : then.peer.replica.revision ≡ s.peer.replica.revision + 1 =
      ap (λ r. (seen r e s).peer.replica.revision) none
      ∙ ap (λ r. (unless r (seen_by coded s.peer.site e.op s.peer.replica) s.peer.replica).revision) none
      ∙ one_further _ _ _ (s.peer.replica.revision + 1) refl refl in
      let h = below in
      omega arith

  by_test : (b : Bool) → takes_entry (Some e) s ≡ b → seeing_all s ≡ cond b (seeing_all then) then
  by_test true test = turn true test (unseen then) (nearer test)
  by_test false test = let h = below in let k : unseen s ≡ suc (unseen s - 1) = omega arith in turn false test (unseen s - 1) k

  -- the rest is to be seen from there, or it was refused, and that is the end
  pub see_some : seeing_all s ≡ cond (takes_entry (Some e) s) (seeing_all then) then
  see_some = by_test (takes_entry (Some e) s) refl
