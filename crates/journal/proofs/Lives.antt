-- What holds in every life of a journal.
use Rattle.std.proofs.Common.{◌≡◌, ℕ, ◌≤◌, List, [], ◌∷◌, ◌++◌, length, take, drop, Option, Some, None, refl, sym, ap, ◌∙◌, arith, inl, inr}
use Rattle.std.specs.Prelude.{IfSome, IsSome}
use Rattle.std.specs.List.{All}
use Rattle.std.proofs.lemmas.List.{append-nil, length-append, take_all, length-take, take-append-drop}
use Rattle.journal.specs.declared.record.Record.{Record}
use Rattle.journal.specs.declared.error.OpenError.{OpenError}
use Rattle.journal.specs.declared.error.OpenError.TheVariants.{Damaged, Store, OutOfMemory}
use Rattle.journal.specs.Records.{spelled, all_spelled, CanBeWritten}
use Rattle.journal.specs.Contents.{Contents, nothing_yet, counts_of, refusal, with_record, with_records}
use Rattle.journal.specs.Stores.{now_all, kept}
use Rattle.journal.specs.Journals.{JournalState, appended, torn, committed as committed_state, stopped, crashed}
use Rattle.journal.specs.Openings.{Whole, Opens, AsItWas, CutBack, NotOpens}
use Rattle.journal.specs.Durability.{Life, born, Step, appends, tears, commits, stops, crashes, opens, fails, Runs, here, on, FirstPart}
use Rattle.journal.proofs.Coming.{next-none}
use Rattle.journal.proofs.FirstParts.{first_itself, first_before, first_taken, first_further, first_no_longer, first_shorter, first_under}
use Rattle.journal.proofs.Sequences.{with_records-append, can_be_written, all_spelled-append, first_spelled}
use Rattle.journal.proofs.Boundaries.{ends, none_missed}

-- of an open journal all the bytes are there, and they are those of all that was written
pub record OpenWith (j : JournalState) (written : List Record) (made c : Contents) (bytes : List ℕ) : Type 0 where
  pub contents : c ≡ made
  pub read : j.bytes ≡ bytes
  pub all : bytes ≡ all_spelled written

-- a first part of the bytes of all that was written is there, which goes as far as all that was committed
pub record Sound (a : Life) : Type 0 where
  pub made : Contents
  pub makes : with_records a.written nothing_yet ≡ Some made
  pub among : FirstPart a.committed a.written
  pub bytes : List ℕ
  pub all : a.journal.all ≡ Some bytes
  pub there : FirstPart bytes (all_spelled a.written)
  pub enough : length (all_spelled a.committed) ≤ length bytes
  pub synced : length (all_spelled a.committed) ≤ a.journal.synced
  pub whole : (c : Contents) → a.journal.contents ≡ Some c → OpenWith a.journal a.written made c bytes

-- what is there when it is opened
pub record Opening (written committed : List Record) (bytes : List ℕ) (c : Contents) : Type 0 where
  pub there : List Record
  pub is : bytes ≡ all_spelled there
  pub makes : with_records there nothing_yet ≡ Some c
  pub no_more : FirstPart there written
  pub no_less : FirstPart committed there

value_of : {A : Type 0} (o : Option A) → IsSome o → (x : A) × (o ≡ Some x)
value_of (Some x) some = (x, refl)
value_of None some = absurd cc

sound_born : Sound born
unfolding with_records all_spelled
sound_born = record {
  made = nothing_yet;
  makes = refl;
  among = first_itself [];
  bytes = [];
  all = refl;
  there = first_itself [];
  enough = omega arith;
  synced = omega arith;
  whole = λ c e. absurd cc;
}

module _ (a : Life) (s : Sound a) where
  pub written_can : All CanBeWritten a.written
  written_can = can_be_written a.written nothing_yet s.made (omega arith) s.makes

  -- the bytes of all that was committed are there
  pub committed_there : FirstPart (all_spelled a.committed) s.bytes
  committed_there = first_shorter (first_spelled s.among) s.there s.enough

  -- ONE RECORD MORE

  module _ (r : Record) (c : Contents) (is : a.journal.contents ≡ Some c) (none : refusal r (counts_of c) ≡ None) where
    more_makes : with_records (a.written ++ r ∷ []) nothing_yet ≡ Some (with_record r c)
    unfolding with_records
    more_makes = let came = next-none r c none in with_records-append a.written (r ∷ []) nothing_yet s.made s.makes ∙ rw (← (s.whole c is).contents, came) refl

    more_spelled : all_spelled (a.written ++ r ∷ []) ≡ a.journal.bytes ++ spelled r
    unfolding all_spelled
    more_spelled = let w = s.whole c is in all_spelled-append a.written (r ∷ []) ∙ rw (append-nil (spelled r), w.read, w.all) refl

    -- or a part of it
    sound_grown : (j : JournalState) (part : List ℕ) → FirstPart part (spelled r) → j.bytes ≡ a.journal.bytes ++ part → j.all ≡ now_all j.bytes a.journal.all → j.synced ≡ a.journal.synced
        → ((d : Contents) → j.contents ≡ Some d → (d ≡ with_record r c) × (part ≡ spelled r)) → Sound (record { journal = j; written = a.written ++ r ∷ []; committed = a.committed })
    sound_grown j part first bytes all synced whole =
        let w = s.whole c is in
        record {
          made = with_record r c;
          makes = more_makes;
          among = first_further s.among (first_before a.written (r ∷ []));
          bytes = j.bytes;
          all = rw s.all at all;
          there = rw (bytes, more_spelled) (first_under a.journal.bytes first);
          enough = omega (arith, s.enough, ap length w.read, ap length bytes, length-append a.journal.bytes part);
          synced = omega (arith, s.synced);
          whole = λ d e. let t = whole d e in record { contents = t.0; read = refl; all = bytes ∙ rw t.1 (sym more_spelled) };
        }

    sound_appended : Sound (record { journal = appended r c a.journal; written = a.written ++ r ∷ []; committed = a.committed })
    sound_appended = sound_grown (appended r c a.journal) (spelled r) (first_itself (spelled r)) refl refl refl (λ d e. (cc, refl))

    sound_torn : (n : ℕ) → Sound (record { journal = torn n r a.journal; written = a.written ++ r ∷ []; committed = a.committed })
    sound_torn n = sound_grown (torn n r a.journal) (take n (spelled r)) (first_taken n (spelled r)) refl refl refl (λ d e. absurd cc)

  -- NOTHING MORE

  -- closed, with so many of its bytes
  sound_closed : (j : JournalState) (k : ℕ) → j.contents ≡ None → j.all ≡ Some (take k s.bytes) → length (all_spelled a.committed) ≤ k → length (all_spelled a.committed) ≤ j.synced
      → Sound (record { journal = j; written = a.written; committed = a.committed })
  sound_closed j k closed all enough synced =
      record {
        made = s.made;
        makes = s.makes;
        among = s.among;
        bytes = take k s.bytes;
        all = all;
        there = first_further (first_taken k s.bytes) s.there;
        enough = omega (arith, length-take k s.bytes, s.enough);
        synced = synced;
        whole = λ c e. absurd cc;
      }

  sound_stopped : Sound (record { journal = stopped a.journal; written = a.written; committed = a.committed })
  sound_stopped = sound_closed (stopped a.journal) (length s.bytes) refl (rw (take_all (length s.bytes) s.bytes (omega arith)) s.all) s.enough s.synced

  pub sound_crashed : (n : ℕ) → Sound (record { journal = crashed n a.journal; written = a.written; committed = a.committed })
  sound_crashed n =
      let k = kept n a.journal.synced (length s.bytes) in
      sound_closed (crashed n a.journal) k refl (rw s.all refl) (omega (arith, s.synced)) s.synced

  -- ALL SYNCED

  synced_with : (c : Contents) → a.journal.contents ≡ Some c → Sound (record { journal = committed_state a.journal; written = a.written; committed = a.written })
  synced_with c is =
      let w = s.whole c is in
      record {
        made = s.made;
        makes = s.makes;
        among = first_itself a.written;
        bytes = s.bytes;
        all = s.all;
        there = s.there;
        enough = omega (arith, ap length w.all);
        synced = omega (arith, ap length w.all, ap length w.read);
        whole = λ d e. let v = s.whole d e in record { contents = v.contents; read = v.read; all = v.all };
      }

  sound_committed : IsSome a.journal.contents → Sound (record { journal = committed_state a.journal; written = a.written; committed = a.written })
  sound_committed some = let t = value_of a.journal.contents some in synced_with t.0 t.1

  -- OPENING

  -- whole records that are found at the start, up to less than one more, are a first part of what was written, and all that was committed
  pub opening : (read : List ℕ) (whole : ℕ) (c : Contents) → IfSome a.journal.all (λ xs. read ≡ xs) → Whole read whole c → Opening a.written a.committed (take whole read) c
  opening read whole c all_read can =
      let same : read ≡ s.bytes = rw s.all at all_read in
      let first : FirstPart read (all_spelled a.written) = rw same s.there in
      let e = (ends a.written (take whole read) nothing_yet written_can (first_further (first_taken whole read) first)).at c can.holds in
      let parts : s.bytes ≡ all_spelled e.ahead ++ drop whole read = sym same ∙ sym (take-append-drop whole read) ∙ ap (λ (l : List ℕ). l ++ drop whole read) e.whole in
      let no_more : FirstPart e.ahead a.written = record { rest = e.rest; whole = e.parted } in
      record {
        there = e.ahead;
        is = e.whole;
        makes = e.makes;
        no_more = no_more;
        no_less = none_missed a.committed e.ahead a.written (drop whole read) s.among no_more (rw (← parts) committed_there) can.short;
      }

  sound_opened : (now : JournalState) (c : Contents) → Opens a.journal now c → (rs : List Record) → now.bytes ≡ all_spelled rs → with_records rs nothing_yet ≡ Some c
      → Sound (record { journal = now; written = rs; committed = rs })
  sound_opened now c o rs bytes makes =
      let read : now.bytes ≡ take o.whole o.read = ap (λ (j : JournalState). j.bytes) o.opened in
      let all : now.all ≡ now_all (take o.whole o.read) a.journal.all = ap (λ (j : JournalState). j.all) o.opened in
      let synced : now.synced ≡ length (take o.whole o.read) = ap (λ (j : JournalState). j.synced) o.opened in
      let contents : now.contents ≡ Some c = ap (λ (j : JournalState). j.contents) o.opened in
      record {
        made = c;
        makes = makes;
        among = first_itself rs;
        bytes = now.bytes;
        all = all ∙ rw (s.all, read) refl;
        there = rw bytes (first_itself (all_spelled rs));
        enough = omega (arith, ap length bytes);
        synced = omega (arith, ap length bytes, ap length read);
        whole = λ d e. record { contents = cc; read = refl; all = bytes };
      }

  -- OR NOT

  sound_as_it_was : (now : JournalState) → now.contents ≡ None → AsItWas a.journal now → Sound (record { journal = now; written = a.written; committed = a.committed })
  sound_as_it_was now closed w =
      sound_closed now (length s.bytes) closed (rw (take_all (length s.bytes) s.bytes (omega arith)) (w.all ∙ s.all)) s.enough (omega (arith, s.synced, w.synced))

  sound_cut : (now : JournalState) (c : Contents) → now.contents ≡ None → CutBack a.journal now c → Sound (record { journal = now; written = a.written; committed = a.committed })
  sound_cut now c closed w =
      let same : w.read ≡ s.bytes = rw s.all at w.all_read in
      let t = opening w.read w.whole c w.all_read w.can in
      let enough : length (all_spelled a.committed) ≤ w.whole = omega (arith, first_no_longer (first_spelled t.no_less), ap length t.is, length-take w.whole w.read) in
      sound_closed now w.whole closed (w.all ∙ rw (s.all, same) refl) enough (omega (arith, s.synced, w.synced))

  sound_failed : (now : JournalState) (e : OpenError) → NotOpens e a.journal now → Sound (record { journal = now; written = a.written; committed = a.committed })
  sound_failed now (Damaged n why) f = sound_as_it_was now f.closed f.fails.1
  sound_failed now (Store e) f = elim f.fails [ inl w ↦ sound_as_it_was now f.closed w | inr w ↦ sound_cut now w.0 f.closed w.1 ]
  sound_failed now OutOfMemory f = sound_as_it_was now f.closed f.fails

sound_step : (a b : Life) → Sound a → Step a b → Sound b
sound_step a b s (appends r c is none) = sound_appended a s r c is none
sound_step a b s (tears n r c is none) = sound_torn a s r c is none n
sound_step a b s (commits some) = sound_committed a s some
sound_step a b s stops = sound_stopped a s
sound_step a b s (crashes n) = sound_crashed a s n
sound_step a b s (opens now c rs o bytes makes) = sound_opened a s now c o rs bytes makes
sound_step a b s (fails now e f) = sound_failed a s now e f

pub sound_on : (a b : Life) → Sound a → Runs a b → Sound b
sound_on a b s here = s
sound_on a b s (on {b = m} runs step) = sound_step m b (sound_on a m s runs) step

pub sound : (a : Life) → Runs born a → Sound a
sound a runs = sound_on born a sound_born runs
