-- What comes of events is written one after the other.
use Rattle.std.proofs.Common.{◌≡◌, ℕ, ◌+◌, ◌<◌, ◌≤◌, List, [], ◌∷◌, ◌++◌, length, take, drop, get_or, set, sym, ap, subst, ◌∙◌, append_assoc, arith}
use Rattle.std.proofs.lemmas.List.{drop_more, drop_all, take_more_set, drop-set-lt, take-append-drop, append-nil, length-take-le}
use Rattle.std.proofs.lemmas.Grind.{drop_more_same}
use Rattle.measured.specs.declared.event.Event.{Event}
use Rattle.measured.specs.declared.event.Outcome.{Outcome}
use Rattle.measured.specs.Ends.{Plays, Played}

module _ {S : Type 0} (Step : S → Event → Outcome → S → Type 0) where
  -- after k events: whatever comes of the others comes behind what is written
  pub record SoFar (start : S) (events : List Event) (was : List Outcome) (k : ℕ) (now : List Outcome) (state : S) : Type 0 where
    pub plays : (os : List Outcome) → Plays Step state (drop k events) os → Plays Step start events (take k now ++ os)
    pub rest : drop k now ≡ drop k was

  module _ {start state : S} {es : List Event} {was now : List Outcome} {k : ℕ} (far : SoFar start es was k now state) where
    -- one event more
    pub so_far_more : (d : Event) (o : Outcome) (t : S) → k < length es → k < length now → Step state (get_or es k d) o t →
        SoFar start es was (k + 1) (set now k o) t
    unfolding Plays
    so_far_more d o t in_events in_outcomes step = record {
      plays = λ (os : List Outcome) h.
          let P : List Event → Type 0 = λ l. Plays Step state l (o ∷ os) in
          let Q : List Outcome → Type 0 = λ l. Plays Step start es l in
          let written : take k now ++ o ∷ os ≡ take (k + 1) (set now k o) ++ os =
          sym (ap (λ l. l ++ os) (take_more_set now k o in_outcomes) ∙ append_assoc (take k now) (o ∷ []) os) in
          subst Q written (far.plays (o ∷ os) (subst P (sym (drop_more es k d in_events)) (t, step, h)));
      rest = drop-set-lt (k + 1) now k o (omega arith) ∙ drop_more_same now was k far.rest;
    }

    -- all events
    pub played_all : length es ≤ k → k ≤ length now → Played Step start es was now
    unfolding Plays
    played_all none_left written =
        let P : List Event → Type 0 = λ l. Plays Step state l [] in
        let Q : List Outcome → Type 0 = λ l. Plays Step start es l in
        record {
          outcomes = take k now;
          plays = subst Q (append-nil (take k now)) (far.plays [] (subst P (sym (drop_all k es none_left)) tt));
          front = sym (take-append-drop k now) ∙ ap (λ l. take k now ++ l) far.rest ∙ ap (λ n. take k now ++ drop n was) (sym (length-take-le k now written));
        }
