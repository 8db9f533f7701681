-- A peer types or strikes: the step of the net, and what the room shows then; or it is refused.
use Rattle.std.proofs.Common.{◌≡◌, ℕ, ◌<◌, ◌≤◌, Bool, true, false, ⊎_elim, [], ◌∷◌, ◌++◌, map, length, Some, None, Option, leb, sym, refl, ap, ap₂, ◌∙◌, arith}
use Rattle.std.proofs.lemmas.Bool.{leb-false}
use Rattle.std.proofs.lemmas.List.{length-map, length-append, map-append}
use mathlib.Core.List.Memᴰ
use Rattle.operation.specs.declared.operation.Operation.TheVariants.{Noop, Insert, Delete}
use Rattle.operation.specs.declared.entry.Submission.{Submission}
use Rattle.operation.specs.Letters.{◌∈◌, Once, Apart}
use Rattle.operation.specs.Edits.{site}
use Rattle.text.specs.declared.refusal.Refusal.{Refusal as TextRefusal}
use Rattle.text.specs.declared.refusal.Refusal.TheVariants as text
use Rattle.text.specs.Texts.{refusal}
use Rattle.text.specs.Coded.{coded}
use Rattle.client.specs.declared.refusal.Refusal.{Refusal as ClientRefusal}
use Rattle.client.specs.Replicas.{Replica, performed, submission}
use Rattle.client.specs.Clients.{edit_refusal, unless, lowest}
use Rattle.network.specs.declared.message.Message.TheVariants as message
use Rattle.network.specs.Runs.{Deed, performs, here, onward, performing as performing_life, after_performing}
use Rattle.network.specs.Written.{Signed, written, Named}
use Rattle.network.proofs.Invariants.{Good}
use Rattle.network.proofs.Letters.{mem_parts}
use Rattle.network.proofs.Seats.{everywhere}
use Rattle.room.specs.Scenes.{Op, RoomState, scene, with, performing, sent_off}
use Rattle.room.specs.Reached.{NamedNet, NamedOp, op_of, text_of, message_of, replica_of, Plays, Shows, Limited, Reached, Onward}
use Rattle.room.proofs.Naming.{only_one, site_of, performed_of, none_fits, naming, naming_of}
use Rattle.room.proofs.Lengths.{text_short}
use Rattle.room.proofs.Paths.{at_place, at_other, put, Within, within, Steps, Carries, onward_by, carries_nothing, plays_now, shows_one}
use Rattle.room.proofs.ShownJoins.{good_net}

-- what is not refused
lowest_none : (x : Option TextRefusal) (b : Bool) → lowest x b ≡ None → (x ≡ None) × (b ≡ false)
lowest_none None true e = absurd (cc)
lowest_none None false e = (refl, refl)
lowest_none (Some text.BadLetter) b e = absurd (cc)
lowest_none (Some text.BeyondText) b e = absurd (cc)
lowest_none (Some text.TextFull) true e = absurd (cc)
lowest_none (Some text.TextFull) false e = absurd (cc)

-- THE NAME that a letter is given: no other letter has it
once_named : (i : ℕ) (o : Op) → Once ((written Named).puts (naming i o))
unfolding Once
once_named i (Noop j) = tt
once_named i (Insert j p x) = (λ m. Memᴰ.not-nil m, tt)
once_named i (Delete j p) = tt

serial_of : (i : ℕ) (o : Op) (x : Signed Named) → x ∈ (written Named).puts (naming i o) → (x.letter.serial ≡ i) × (0 < length ((written Named).puts (naming i o)))
serial_of i (Noop j) x m = absurd (Memᴰ.not-nil m)
serial_of i (Insert j p y) x m = (only_one (λ x. x.letter.serial ≡ i) _ x refl m, omega arith)
serial_of i (Delete j p) x m = absurd (Memᴰ.not-nil m)

-- THE LIMITS: one more pending, one more deed, and maybe one more letter
module _ {n : NamedNet} (g : Good (written Named) n) (l : Limited n) (c : ℕ) (given : c < n.connections) (o : Op) (few : length (n.lives c).replica.pending < 256) where
  abbrev named_op : NamedOp
  named_op = naming (length n.typed) o

  limited_performs : Limited (after_performing (written Named) c named_op n)
  limited_performs = record {
    texts = l.texts;
    letters = l.letters;
    history = l.history;
    pending = λ d. (all d).pending;
    before = λ d. (all d).before;
    concurrent = l.concurrent;
    serials = λ x m. let k = length-append n.typed ((written Named).puts named_op) in
        ⊎_elim (λ q. let h = l.serials x q in omega arith) (λ q. let h = serial_of (length n.typed) o x q in omega arith) (mem_parts n.typed m);
  }
    where
      all : (d : ℕ) → Within ((after_performing (written Named) c named_op n).lives d)
      all = everywhere (λ j f. Within f) c _ n.lives
          (record {
            pending = omega (arith, length-append (n.lives c).replica.pending (named_op ∷ []));
            before = λ d m. ⊎_elim (λ q. l.before c d q)
                (λ q. only_one (λ (d : Deed (written Named)). length d.before ≤ 65792) _ d (text_short g l c given) q) (mem_parts (n.lives c).deeds m);
          })
          (λ j h. within l j)

-- o, of the peer's site, is done to its screen and sent
module _ (w : ℕ) (below : w < 4) (o : Op) (own : site o ≡ w) (P : Steps)
    (allowed : (n : NamedNet) (c : ℕ) (e : NamedOp) (u : _) (i : _) (f : _) (x : _) (y : _) → (n.lives c).client ≡ w → op_of e ≡ o → P n _ (performs c e u i f x y)) where
  module _ (r : RoomState) (a : Reached r) (joined : (scene w r).peer.joined ≡ true) (none : edit_refusal 65792 o (scene w r).peer.replica ≡ None) where
    abbrev n : NamedNet
    n = a.net

    abbrev c : ℕ
    c = a.connection w

    abbrev e : NamedOp
    e = naming (length a.net.typed) o

    mine : Plays a.net w (a.connection w) (r.server.seats w) (scene w r).peer
    mine = plays_now a.shows w below joined

    not_refused : (refusal 65536 o (scene w r).peer.replica.text ≡ None) × (leb 256 (length (scene w r).peer.replica.pending) ≡ false)
    not_refused = lowest_none _ _ none

    none_named : refusal 65536 (op_of e) (text_of (n.lives c).replica.text) ≡ None
    none_named = ap₂ (refusal 65536) (naming_of (length n.typed) o) (ap (λ (x : Replica coded). x.text) (sym mine.replica)) ∙ not_refused.0

    few : length (n.lives c).replica.pending < 256
    few = let h = leb-false _ _ not_refused.1 in omega (arith, ap (λ (x : Replica coded). length x.pending) mine.replica, length-map (n.lives c).replica.pending op_of)

    its_site : site e ≡ (n.lives c).site
    its_site = sym (site_of e) ∙ ap site (naming_of (length n.typed) o) ∙ own ∙ sym ((a.shows.clients c mine.current.0).1 ∙ mine.client)

    fresh_letter : Apart ((written Named).puts e) n.typed
    fresh_letter x m t = let s = (serial_of (length n.typed) o x m).0 in let h = a.limited.serials x t in absurd (omega arith)

    shows_performed : Shows (after_performing (written Named) c e n) a.connection (with w (sent_off None o) r)
    shows_performed =
        let life = at_place c c (performing_life (written Named) e (n.lives c)) n.lives refl in
        shows_one a.shows below joined (record {
          lives = λ d ne. at_other c d _ n.lives ne;
          seats = λ d ne. refl;
          connections = refl;
          text = refl;
          history = refl;
          client = ap (λ l. l.client) life;
          its_site = ap (λ l. l.site) life;
          shown_text = refl;
          shown_history = refl;
          shown_seats = λ v ne. refl;
          site = refl;
          joined = joined;
          replica = ap (λ x. unless x (performed coded o (scene w r).peer.replica) (scene w r).peer.replica) none
              ∙ ap₂ (performed coded) (sym (naming_of (length n.typed) o)) mine.replica ∙ sym (performed_of e (n.lives c).replica) ∙ ap (λ l. replica_of l.replica) (sym life);
          its_seat = mine.its_seat;
          queue = λ q. ap₂ (λ ms (m : Submission Op). ms ++ message.Operation m ∷ []) (mine.queue q)
              (ap₂ (submission coded) (sym (naming_of (length n.typed) o)) mine.replica)
              ∙ sym (map-append message_of (n.lives c).queue _) ∙ ap (λ l. map message_of l.queue) (sym life);
        }) (sent_off None o) refl

    performs_then : Onward P a.net (with w (sent_off None o) r)
    performs_then = onward_by P a (onward here (performs c e mine.current its_site (none_fits 65536 e _ none_named) (once_named _ o) fresh_letter)
        (allowed n c e _ _ _ _ _ mine.client (naming_of (length n.typed) o)))
        a.connection shows_performed (limited_performs (good_net a) a.limited c mine.current.0 o few)

  pub performing_joined : Carries w (λ s. s.peer.joined ≡ true) P (performing o)
  performing_joined r a j = by (edit_refusal 65792 o (scene w r).peer.replica) refl
    where
      by : (x : Option ClientRefusal) → edit_refusal 65792 o (scene w r).peer.replica ≡ x → Onward P a.net (put w (sent_off x o (scene w r)) r)
      by (Some e) q = carries_nothing w (λ s. Unit {0}) P (sent_off (Some e) o) (λ s u. refl) (λ s u. refl) r a tt
      by None q = performs_then r a j q
