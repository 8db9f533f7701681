-- The server crashes: what its history makes of the empty text is the text that it had.
use Rattle.std.proofs.Common.{◌≡◌, ℕ, suc, ◌≤◌, List, [], ◌∷◌, map, length, take, None, sym, refl, ap, ◌∙◌, subst, arith}
use Rattle.std.proofs.lemmas.Bool.{false≢true}
use mathlib.Core.List.Memᴰ
use Rattle.operation.specs.Letters.{◌∈◌}
use Rattle.operation.specs.Laws.{apply_all}
use Rattle.text.specs.Texts.{refusal}
use Rattle.text.specs.Coded.{coded}
use Rattle.server.specs.Servers.{or_stop, replayed}
use Rattle.network.specs.Runs.{crashes, here, onward, after_crashing}
use Rattle.network.specs.Written.{Signed, written, Named}
use Rattle.network.proofs.Invariants.{Fitting, Good}
use Rattle.room.specs.declared.command.Command.TheVariants as command
use Rattle.room.specs.Scenes.{RoomState, scene, crashing}
use Rattle.room.specs.Reached.{NamedNet, NamedOp, text_of, op_of, Shows, Limited, Keeps, Crashes}
use Rattle.room.proofs.Naming.{IsLetter, apply_of, refusal_none}
use Rattle.room.proofs.Lengths.{longer}
use Rattle.room.proofs.Paths.{limited_lives, onward_by, plays_or_waits}
use Rattle.room.proofs.ShownJoins.{good_net}

-- no operation of a history within the limits is refused
replayed_all : (os : List NamedOp) (t : List (Signed Named)) → Fitting (written Named) os t → ((o : NamedOp) → o ∈ os → (x : Signed Named) → x ∈ (written Named).puts o → IsLetter x) →
    ((s : ℕ) → length (apply_all (written Named) (take s os) t) ≤ 65536) → (replayed 65536 (map op_of os) (text_of t)).text ≡ text_of (apply_all (written Named) os t)
unfolding Fitting apply_all replayed
replayed_all [] t f l h = refl
replayed_all (o ∷ os) t f l h =
    let none : refusal 65536 (op_of o) (text_of t) ≡ None =
    refusal_none 65536 o t f.0 (l o (Memᴰ.head refl)) (λ x m. let k = h 1 in let e = longer o t f.0 x m in omega arith) in
    ap (λ x. (or_stop x (replayed 65536 (map op_of os) (coded.apply (op_of o) (text_of t))) (text_of t)).text) none
    ∙ ap (λ u. (replayed 65536 (map op_of os) u).text) (apply_of o t)
    ∙ replayed_all os ((written Named).apply o t) f.1 (λ o m. l o (Memᴰ.tail m)) (λ s. h (suc s))

text_again : {n : NamedNet} → Good (written Named) n → Limited n → (replayed 65536 (map op_of n.server.history) []).text ≡ text_of n.server.text
text_again {n} g l =
    replayed_all n.server.history [] (subst (λ os. Fitting (written Named) os []) (sym g.recorded.history) g.recorded.fitting) l.letters l.texts
    ∙ ap text_of (ap (λ os. apply_all (written Named) os []) g.recorded.history ∙ sym g.recorded.text)

shows_crashed : {n : NamedNet} {c : ℕ → ℕ} {r : RoomState} → Good (written Named) n → Limited n → Shows n c r → Shows (after_crashing (written Named) n) c (crashing r)
shows_crashed {n} {c} {r} g l s = record {
  four = s.four;
  text = ap (λ os. (replayed 65536 os []).text) s.history ∙ text_again g l;
  history = s.history;
  peers = λ v h. (
    (s.peers v h).0,
    plays_or_waits (scene v r).peer.joined
        (λ p. record { current = p.current; client = p.client; replica = p.replica; its_seat = refl; queue = λ q. absurd (false≢true q) })
        (λ p. record { unknown = p.unknown; no_seat = refl; text = p.text })
        (s.peers v h).1,
  );
  others = λ i h. refl;
  clients = s.clients;
}

limited_crashes : {n : NamedNet} → Limited n → Limited (after_crashing (written Named) n)
limited_crashes {n} l = limited_lives l _ refl refl (λ c. record { pending = l.pending c; before = l.before c }) (λ c. omega arith)

pub crash_carried : (r : RoomState) → Keeps command.Crash r (crashing r)
crash_carried r a = onward_by Crashes a (onward here crashes tt) a.connection (shows_crashed (good_net a) a.limited a.shows) (limited_crashes a.limited)
