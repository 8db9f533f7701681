-- Whatever happens, nothing that was sent, put on the line, taken or acknowledged is gone or another in a later state.
use Rattle.std.proofs.Common.{◌≤◌, ◌==◌, List, [], ◌∷◌, ◌++◌, Some, None, Option, Ok, Err, Result, slice_get, ap, arith, le_trans}
use Rattle.std.proofs.lemmas.Bool.{cond_both}
use Rattle.link.specs.declared.datagram.Packet.{Packet}
use Rattle.link.specs.declared.datagram.Acknowledgement.{Acknowledgement}
use Rattle.link.specs.declared.refusal.Refusal.{Refusal}
use Rattle.link.specs.declared.receiver.Receiver.{Receiver}
use Rattle.link.specs.declared.window.Numbers.{Numbers}
use Rattle.link.specs.Numbering.{Sending, has_number, pushed, acknowledged_to, newly_sent, taken, acknowledgement_of}
use Rattle.link.specs.Deliveries.{Line, Event, Push, Tick, Packet_comes, Reply_comes, Stray_packet, Stray_reply, Grows, packets_of, sends, answers, decided, packet_came, reply_came, if_some, happens, run, Lasting}
use Rattle.link.proofs.Grown.{grows_none, grows_by, grows_on}
use Rattle.link.proofs.InOrder.{acknowledged_to_keeps, pushed_is}

module _ {M : Type 0} where
  pub lasts_same : (w : Line M) → Lasting w w
  lasts_same w = record { sent = grows_none _; packets = grows_none _; got = grows_none _; replies = grows_none _; acknowledged = omega arith }

  pub lasts_on : {u v w : Line M} → Lasting u v → Lasting v w → Lasting u w
  lasts_on f g = record {
    sent = grows_on f.sent g.sent;
    packets = grows_on f.packets g.packets;
    got = grows_on f.got g.got;
    replies = grows_on f.replies g.replies;
    acknowledged = le_trans f.acknowledged g.acknowledged;
  }

  module _ (w : Line M) where
    lasts_sends : (s : Sending) (ms : List M) (ns : Numbers) → Grows w.sent ms → w.sending.acknowledged ≤ s.acknowledged → Lasting w (sends s ms ns w)
    lasts_sends s ms ns g h = record {
      sent = g;
      packets = grows_by w.packets (packets_of w.receiver.connection ns ms);
      got = grows_none w.got;
      replies = grows_none w.replies;
      acknowledged = h;
    }

    lasts_answers : (r : Receiver) (ms : List M) → Lasting w (answers r ms w)
    lasts_answers r ms = record {
      sent = grows_none w.sent;
      packets = grows_none w.packets;
      got = grows_by w.got ms;
      replies = grows_by w.replies (acknowledgement_of r ∷ []);
      acknowledged = omega arith;
    }

    lasts_decided : (m : M) (t : Result Receiver Refusal) → Lasting w (decided m t w)
    lasts_decided m (Ok r) = lasts_answers r (m ∷ [])
    lasts_decided m (Err e) = lasts_answers w.receiver []

    lasts_packet : (p : Packet M) → Lasting w (packet_came p w)
    lasts_packet p = lasts_decided p.message (taken p.connection p.number w.receiver)

    lasts_reply : (a : Acknowledgement) → Lasting w (reply_came a w)
    lasts_reply a = cond_both (a.connection == w.receiver.connection) _ w (Lasting w)
        (λ e. lasts_sends (acknowledged_to a.last w.sending) w.sent (newly_sent w.sending (acknowledged_to a.last w.sending)) (grows_none w.sent) (acknowledged_to_keeps a.last w.sending).1)
        (λ e. lasts_same w)

    lasts_push : (m : M) → Lasting w (happens (Push m) w)
    lasts_push m = cond_both (has_number w.sending) _ w (Lasting w)
        (λ e. lasts_sends (pushed w.sending) (w.sent ++ m ∷ []) (newly_sent w.sending (pushed w.sending)) (grows_by w.sent (m ∷ []))
        (omega (arith, ap (λ (s : Sending). s.acknowledged) (pushed_is w.sending e))))
        (λ e. lasts_same w)

    lasts_some : {A : Type 0} (f : A → Line M → Line M) → ((x : A) → Lasting w (f x w)) → (o : Option A) → Lasting w (if_some f o w)
    lasts_some f h None = lasts_same w
    lasts_some f h (Some x) = h x

    pub lasts_happens : (e : Event M) → Lasting w (happens e w)
    lasts_happens (Push m) = lasts_push m
    lasts_happens Tick = lasts_sends w.sending w.sent _ (grows_none w.sent) (omega arith)
    lasts_happens (Packet_comes k) = lasts_some packet_came lasts_packet (slice_get w.packets k)
    lasts_happens (Reply_comes k) = lasts_some reply_came lasts_reply (slice_get w.replies k)
    lasts_happens (Stray_packet p) = cond_both (p.connection == w.receiver.connection) w (packet_came p w) (Lasting w) (λ e. lasts_same w) (λ e. lasts_packet p)
    lasts_happens (Stray_reply a) = cond_both (a.connection == w.receiver.connection) w (reply_came a w) (Lasting w) (λ e. lasts_same w) (λ e. lasts_reply a)

  pub lasts_run : (w : Line M) (es : List (Event M)) → Lasting w (run es w)
  unfolding run
  lasts_run w [] = lasts_same w
  lasts_run w (e ∷ es) = lasts_on (lasts_happens w e) (lasts_run (happens e w) es)
