-- The connections whose texts a client takes ascend.
use Rattle.std.proofs.Common.{◌≡◌, ℕ, Bool, true, false, cond, List, [], ◌∷◌, ◌++◌, Ok, Err, refl, ◌==◌, leb}
use Rattle.std.proofs.lemmas.Bool.{leb-false}
use Rattle.link.specs.declared.refusal.Refusal.TheVariants.{OtherConnection, NotNext}
use Rattle.link.specs.Connections.{ClientSide, begun}
use Rattle.link.specs.Lasting.{Text_comes, Entry_seen, Hears, Sends, if_admitted, one_if, all_begun, AscendsFrom, ConnectionsAscend}

-- a text: with the test at hand whether its connection is old, and whether its number is 1
text_step : (c n : ℕ) (s : ClientSide) (cs : ClientSide → List ℕ) (old first : Bool) → leb c s.highest ≡ old → ((t : ClientSide) → AscendsFrom t.highest (cs t)) →
    AscendsFrom s.highest (one_if (cond old (Err OtherConnection) (cond first (Ok tt) (Err NotNext))) c ++ cs (if_admitted (cond old (Err OtherConnection) (cond first (Ok tt) (Err NotNext))) c s))
unfolding AscendsFrom
text_step c n s cs true first e h = h s
text_step c n s cs false true e h = (leb-false c s.highest e, h (begun c))
text_step c n s cs false false e h = h s

pub ascends : ConnectionsAscend
unfolding all_begun AscendsFrom
ascends [] s = tt
ascends (Text_comes c n ∷ es) s = text_step c n s (all_begun es) (leb c s.highest) (n == 1) refl (λ t. ascends es t)
ascends (Entry_seen ∷ es) s = ascends es _
ascends (Hears a ∷ es) s = ascends es _
ascends (Sends m ∷ es) s = ascends es _
