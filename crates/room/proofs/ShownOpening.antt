-- The room as it opens shows the net where nobody has joined. And a room whose events have been reported is what it was.
use Rattle.std.proofs.Common.{◌≡◌, ℕ, zero, suc, ◌<◌, ◌≤◌, length, take, [], refl, arith}
use mathlib.Core.List.Memᴰ
use Rattle.operation.specs.Laws.{apply_all}
use Rattle.network.specs.Runs.{start, here}
use Rattle.network.specs.Written.{written, Named}
use Rattle.network.proofs.Writing.{written_laws}
use Rattle.network.proofs.Promise.{one_record}
use Rattle.room.specs.Scenes.{RoomState, scene, waiting, opening, told}
use Rattle.room.specs.Reached.{PlaysOrWaits, Waits, Limited, Reached}
use Rattle.room.proofs.Paths.{shows_same}

waits : (w : ℕ) → Waits (start (written Named)) w (opening.server.seats w) (waiting w)
waits w = record { unknown = λ d h. absurd (omega arith); no_seat = refl; text = refl }

peers : (w : ℕ) → w < 4 → ((scene w opening).peer.site ≡ w) × PlaysOrWaits (scene w opening).peer.joined (start (written Named)) w 0 (opening.server.seats w) (scene w opening).peer
peers zero h = (refl, waits 0)
peers (suc zero) h = (refl, waits 1)
peers (suc (suc zero)) h = (refl, waits 2)
peers (suc (suc (suc zero))) h = (refl, waits 3)
peers (suc (suc (suc (suc n)))) h = absurd (omega arith)

no_text : (s : ℕ) → length (apply_all (written Named) (take s []) []) ≤ 65536
unfolding apply_all
no_text zero = omega arith
no_text (suc s) = omega arith

limited : Limited (start (written Named))
limited = record {
  texts = no_text;
  letters = λ o m. absurd (Memᴰ.not-nil m);
  history = omega arith;
  pending = λ c. omega arith;
  before = λ c d m. absurd (Memᴰ.not-nil m);
  concurrent = λ c. omega arith;
  serials = λ x m. absurd (Memᴰ.not-nil m);
}

pub reached_opening : Reached opening
reached_opening = record {
  net = start (written Named);
  connection = λ w. 0;
  shows = record { four = refl; text = refl; history = refl; peers = peers; others = λ i h. refl; clients = λ c h. absurd (omega arith) };
  limited = limited;
  reachable = here;
  promised = one_record (written Named) (written_laws Named);
}

-- WHAT HAS BEEN REPORTED is reported no more, and nothing else has changed
pub reached_told : {r : RoomState} → Reached r → Reached (told r)
reached_told a = record { net = a.net; connection = a.connection; shows = shows_same a.shows refl refl; limited = a.limited; reachable = a.reachable; promised = a.promised }
