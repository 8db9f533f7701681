-- The peers of the room, one after another.
use Rattle.std.proofs.Common.{◌≡◌, ℕ, zero, suc, ◌+◌, ◌<◌, ◌≤◌, Bool, ◌||◌, ltb, List, [], ◌∷◌, ◌++◌, map, length, take, get_or, set, vec_items, sym, refl, ap, ◌∙◌, arith}
use Rattle.std.specs.List.{list_any}
use Rattle.std.proofs.lemmas.List.{get_or-map, length-map, map-set, take_all}
use Rattle.std.proofs.lemmas.List.Folds.{list_any_more}
use Rattle.std.proofs.lemmas.Bool.{cond-true, lt-ltb}
use Rattle.room.specs.declared.action.Action.{Action}
use Rattle.room.specs.declared.command.Command.TheVariants as command
use Rattle.room.specs.declared.host.Host.{Host}
use Rattle.room.specs.declared.peer.Peer.{Peer}
use Rattle.room.specs.declared.room.Room.{Room}
use Rattle.room.specs.Scenes.{PeerState, Scene, RoomState, hosted, peer_of, stage, room_state, waiting, opening, scene, with, with_each, ended, any_ended, acting, playing}

-- one peer more, as a room begins
pub one_more_waits : (i : ℕ) → i < 4 → take (i + 1) opening.peers ≡ take i opening.peers ++ waiting i ∷ []
one_more_waits zero h = refl
one_more_waits (suc zero) h = refl
one_more_waits (suc (suc zero)) h = refl
one_more_waits (suc (suc (suc zero))) h = refl
one_more_waits (suc (suc (suc (suc n)))) h = absurd (omega arith)

-- a room with these peers
abbrev pub gathered : Host → List Peer → RoomState
gathered h ws = record { server = hosted h; peers = map peer_of ws; events = vec_items h.events }

-- what is done with a peer on stage is done in the room
module _ (h : Host) (ws : List Peer) (i : ℕ) (d : Peer) (below : i < length ws) where
  on_stage : stage h (get_or ws i d) ≡ scene i (gathered h ws)
  on_stage = let e = get_or-map peer_of ws i d (waiting i) below in λ j. record { server = hosted h; peer = sym e j; events = vec_items h.events }

  pub done_with : (f : Scene → Scene) (k : Host) (y : Peer) → stage k y ≡ f (stage h (get_or ws i d)) → gathered k (set ws i y) ≡ with i f (gathered h ws)
  done_with f k y e =
      ap (λ zs. record { server = hosted k; peers = zs; events = vec_items k.events }) (map-set peer_of ws i y)
      ∙ ap (λ (s : Scene). record { server = s.server; peers = set (map peer_of ws) i s.peer; events = s.events }) (e ∙ ap f on_stage)

pub each_more : (i : ℕ) (f : Scene → Scene) (r : RoomState) → with_each (i + 1) f r ≡ with i f (with_each i f r)
unfolding with_each
each_more i f r = let next : i + 1 ≡ suc i = omega arith in ap (λ n. with_each n f r) next

-- has this peer of the room ended?
abbrev has_ended : RoomState → PeerState → Bool
has_ended r w = ended (record { server = r.server; peer = w; events = r.events })

any_of_first : (n : ℕ) (r : RoomState) → n ≤ length r.peers → any_ended n r ≡ list_any (has_ended r) (take n r.peers)
unfolding any_ended
any_of_first zero r h = refl
any_of_first (suc n) r h =
    let below : n < length r.peers = omega arith in
    let before : n ≤ length r.peers = omega arith in
    let next : suc n ≡ n + 1 = omega arith in
    ap (λ b. b || ended (scene n r)) (any_of_first n r before)
    ∙ sym (ap (λ m. list_any (has_ended r) (take m r.peers)) next ∙ list_any_more (has_ended r) r.peers n (waiting n) below)

list_any-map : {A B : Type 0} (p : B → Bool) (f : A → B) (xs : List A) → list_any p (map f xs) ≡ list_any (λ x. p (f x)) xs
list_any-map p f [] = refl
list_any-map p f (x ∷ xs) = ap (λ b. p (f x) || b) (list_any-map p f xs)

-- the four are all that there are
pub any_peer : (m : Room) → any_ended 4 (room_state m) ≡ list_any (λ w. ended (stage m.host w)) (vec_items m.peers)
any_peer m =
    let r = room_state m in
    let four : length r.peers ≡ 4 = omega (arith, length-map (vec_items m.peers) peer_of, m.four) in
    let h : 4 ≤ length r.peers = omega arith in
    let k : length r.peers ≤ 4 = omega arith in
    any_of_first 4 r h ∙ ap (list_any (has_ended r)) (take_all 4 r.peers k) ∙ list_any-map (has_ended r) peer_of (vec_items m.peers)

-- what one of the four does is what the room plays
pub peer_plays : (h : Host) (ws : List Peer) (w : ℕ) (a : Action) (d : Peer) → w < length ws → length ws ≡ 4 → (k : Host) (y : Peer) → stage k y ≡ acting a (stage h (get_or ws w d)) →
    gathered k (set ws w y) ≡ playing (command.Ask w a) (gathered h ws)
peer_plays h ws w a d below four k y e =
    done_with h ws w d below (acting a) k y e ∙ sym (cond-true (ltb w 4) (with w (acting a) (gathered h ws)) (gathered h ws) (lt-ltb w 4 (omega arith)))
