-- A journal that goes on with a record holds that, too.
use Rattle.std.proofs.Common.{◌≡◌, ℕ, List, ◌++◌, Option, Some, None, refl, ap, ◌∙◌}
use Rattle.std.specs.Prelude.{option_map}
use Rattle.std.proofs.lemmas.Option.{same_Some}
use Rattle.journal.specs.declared.record.Record.{Record}
use Rattle.journal.specs.declared.counts.Counts.{Counts}
use Rattle.journal.specs.Records.{spelled, CanBeWritten}
use Rattle.journal.specs.Contents.{Contents, counts_of, counts_after, refusal, with_record}
use Rattle.journal.specs.Replaying.{held}
use Rattle.journal.proofs.Coming.{next-none, next-counts}
use Rattle.journal.proofs.Replays.{behind-append, behind_spelled}

module _ (bytes news : List ℕ) (r : Record) (can : CanBeWritten r) (more : news ≡ bytes ++ spelled r) where
  pub held_more : (c : Contents) → refusal r (counts_of c) ≡ None → held bytes ≡ Some c → held news ≡ Some (with_record r c)
  held_more c fits before = ap held more ∙ behind-append bytes (spelled r) _ c before ∙ behind_spelled r c (with_record r c) can (next-none r c fits)

  counts_then : (n : Counts) (o : Option Contents) → held bytes ≡ o → refusal r n ≡ None → option_map counts_of o ≡ Some n → option_map counts_of (held news) ≡ Some (counts_after r n)
  counts_then n None before fits was = absurd cc
  counts_then n (Some c) before fits was =
      let same : counts_of c ≡ n = same_Some _ _ was in
      let none : refusal r (counts_of c) ≡ None = rw same fits in
      rw (held_more c none before, next-counts r c (with_record r c) (next-none r c none), same) refl

  pub counts_more : (n : Counts) → refusal r n ≡ None → option_map counts_of (held bytes) ≡ Some n → option_map counts_of (held news) ≡ Some (counts_after r n)
  counts_more n fits was = counts_then n (held bytes) refl fits was
