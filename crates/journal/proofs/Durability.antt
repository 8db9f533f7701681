-- What lasts through any crash.
use Rattle.std.proofs.Common.{◌≡◌, ℕ, List, length, length-take, take, Some, refl, sym, ap, ◌∙◌, arith, inl, inr}
use Rattle.std.specs.Prelude.{◌⊎◌}
use Rattle.std.proofs.lemmas.Option.{none-some, same_Some}
use Rattle.journal.specs.declared.record.Record.{Record}
use Rattle.journal.specs.declared.refusal.Refusal.{Refusal}
use Rattle.journal.specs.declared.error.OpenError.TheVariants.{Damaged}
use Rattle.journal.specs.Records.{all_spelled}
use Rattle.journal.specs.Contents.{Contents, nothing_yet, with_records}
use Rattle.journal.specs.Stores.{now_all}
use Rattle.journal.specs.Journals.{JournalState, crashed}
use Rattle.journal.specs.Openings.{IsStuck, Opens, NotOpens}
use Rattle.journal.specs.Durability.{Life, Step, appends, tears, commits, stops, crashes, opens, fails, Runs, here, on, FirstPart, Survives, Durable}
use Rattle.journal.proofs.Bytes.{IsBytes-all_spelled, IsBytes-first}
use Rattle.journal.proofs.FirstParts.{first_itself, first_taken, first_further, first_shorter, first_both}
use Rattle.journal.proofs.Sequences.{can_be_written, only_spelled}
use Rattle.journal.proofs.Boundaries.{cut, unrefused_behind}
use Rattle.journal.proofs.Lives.{Sound, sound, sound_on, sound_crashed, written_can, committed_there, Opening, opening}

never_damaged : (a : Life) (now : JournalState) (n : ℕ) (why : Refusal) → Sound a → NotOpens (Damaged n why) a.journal now → ⊥
never_damaged a now n why s f =
    let all : now.all ≡ Some s.bytes = f.fails.1.all ∙ s.all in
    let stuck : IsStuck s.bytes (Damaged n why) = rw all at f.fails.0 in
    none-some why (sym (unrefused_behind a.written s.bytes n nothing_yet stuck.0 s.made (written_can a s) s.makes s.there stuck.2) ∙ stuck.3)

can_open : (a : Life) → Sound a → (now : JournalState) × (c : Contents) × Opens a.journal now c
can_open a s =
    let t = cut a.written s.bytes nothing_yet s.made (written_can a s) s.makes s.there in
    let whole = take t.at s.bytes in (
      record { bytes = whole; all = now_all whole a.journal.all; synced = length whole; contents = Some t.made },
      t.made,
      record { read = s.bytes; are_bytes = IsBytes-first s.there (IsBytes-all_spelled a.written (written_can a s)); all_read = rw s.all refl; whole = t.at; can = record { within = t.within; holds = t.holds; short = t.short; tail = t.tail }; opened = refl },
    )

opened : (a : Life) (now : JournalState) (c : Contents) → Sound a → Opens a.journal now c → Opening a.written a.committed now.bytes c
opened a now c s o =
    let read : now.bytes ≡ take o.whole o.read = ap (λ (j : JournalState). j.bytes) o.opened in
    rw read (opening a s o.read o.whole c o.all_read o.can)

survives : (a : Life) (now : JournalState) (c : Contents) → Sound a → Opens a.journal now c → Survives a now c
survives a now c s o =
    let t = opened a now c s o in
    let can = λ (rs : List Record) (makes : with_records rs nothing_yet ≡ Some c). can_be_written rs nothing_yet c (omega arith) makes in
    record {
      there = t.there;
      bytes = t.is;
      makes = t.makes;
      only = λ rs same makes. only_spelled rs t.there (can rs makes) (can t.there t.makes) (sym same ∙ t.is);
      written = t.no_more;
      committed = t.no_less;
    }

holds : (a : Life) (c : Contents) → Sound a → a.journal.contents ≡ Some c → (a.journal.bytes ≡ all_spelled a.written) × (with_records a.written nothing_yet ≡ Some c)
holds a c s is = let w = s.whole c is in (w.read ∙ w.all, s.makes ∙ ap Some (sym w.contents))

lasts_once : (a b : Life) → Sound a → Step a b → FirstPart a.committed b.committed
lasts_once a b s (appends r c is none) = first_itself a.committed
lasts_once a b s (tears n r c is none) = first_itself a.committed
lasts_once a b s (commits some) = s.among
lasts_once a b s stops = first_itself a.committed
lasts_once a b s (crashes n) = first_itself a.committed
lasts_once a b s (opens now c rs o bytes makes) = let t = survives a now c s o in rw (t.only rs bytes makes) t.committed
lasts_once a b s (fails now e f) = first_itself a.committed

lasts : (a b : Life) → Sound a → Runs a b → FirstPart a.committed b.committed
lasts a b s here = first_itself a.committed
lasts a b s (on {b = m} runs step) = first_further (lasts a m s runs) (lasts_once m b (sound_on a m s runs) step)

synced : (a : Life) → Sound a → (xs : List ℕ) × (a.journal.all ≡ Some xs) × FirstPart (all_spelled a.committed) (take a.journal.synced xs)
synced a s = (s.bytes, s.all, first_shorter (committed_there a s) (first_taken a.journal.synced s.bytes) (omega (arith, s.enough, s.synced, length-take a.journal.synced s.bytes)))

-- all that was written was committed, so it is there
module _ (a : Life) (c : Contents) (s : Sound a) (is : a.journal.contents ≡ Some c) (all : a.committed ≡ a.written) where
  same_again : (bytes : List ℕ) (e : Contents) → Opening a.written a.committed bytes e → (e ≡ c) × (bytes ≡ a.journal.bytes)
  same_again bytes e t =
      let same : t.there ≡ a.written = first_both t.no_more (rw all at t.no_less) in
      let h = holds a c s is in
      (same_Some e c (sym t.makes ∙ ap (λ (l : List Record). with_records l nothing_yet) same ∙ h.1), t.is ∙ ap all_spelled same ∙ sym h.0)

  again : (now : JournalState) (e : Contents) → Opens a.journal now e ⊎ ((n : ℕ) × Opens (crashed n a.journal) now e) → (e ≡ c) × (now.bytes ≡ a.journal.bytes)
  again now e (inl o) = same_again now.bytes e (opened a now e s o)
  again now e (inr o) = same_again now.bytes e (opened (record { journal = crashed o.0 a.journal; written = a.written; committed = a.committed }) now e (sound_crashed a s o.0) o.1)

pub durable : Durable
durable = record {
  never_damaged = λ a now n why runs f. never_damaged a now n why (sound a runs) f;
  can_open = λ a runs. can_open a (sound a runs);
  survives = λ a now c runs o. survives a now c (sound a runs) o;
  holds = λ a c runs is. holds a c (sound a runs) is;
  lasts = λ a b runs more. lasts a b (sound a runs) more;
  synced = λ a runs. synced a (sound a runs);
  again = λ a c runs is all now e o. again a c (sound a runs) is all now e o;
}
