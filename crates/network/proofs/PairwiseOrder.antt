-- Two letters that anybody ever saw in one order nobody ever sees in the other.
use Rattle.std.proofs.Common.{◌≡◌, ℕ, ◌<◌, List, [], ◌∷◌, ◌++◌, length, take, drop, Some, None, Option, ◌==◌, ◌≢◌, refl, sym, ap, ◌∙◌, subst, ⊎_elim, append-nil, arith}
use Rattle.std.proofs.lemmas.Bool.{cond_both, cases_eq, eqb-false}
use Rattle.std.proofs.lemmas.List.{take-append-drop, take_at, drop_all, length-append}
use mathlib.Core.List.Memᴰ
use Rattle.operation.specs.Letters.{◌∈◌, Once, Apart, Before}
use Rattle.operation.specs.Laws.{Kind, Laws, apply_all}
use Rattle.client.specs.Replicas.{Replica, confirmed, received}
use Rattle.server.specs.Sessions.{Seat}
use Rattle.network.specs.Runs.{Row, Deed, Life, Net, at, newborn, ended_at, performing, with_queue, with_replica, seeing, reporting, Step, performs, reports, takes, hears, sees, joins, ends, crashes, Path, here, onward, Reachable}
use Rattle.network.specs.OneRecord.{Viewer, server, life, text_of, Exists, PairwiseOrder}
use Rattle.network.proofs.Invariants.{puts_all, put_in, typed_in, replay, Good, Alive, horizon, horizon_of, over}
use Rattle.network.proofs.Letters.{mem_left, mem_right, mem_parts, mem_of, once_apart, puts_all_append, put_in_append, put_in_take, put_in_among, typed_append, apply_all_append, puts_one}
use Rattle.network.proofs.Seats.{everywhere}
use Rattle.network.proofs.Stacks.{stack_known, stack_clean}
use Rattle.network.proofs.Copies.{kept_now}
use Rattle.network.proofs.Lists.{Front, front_take}
use Rattle.network.proofs.Growth.{Later, grown, kept_path}
use Rattle.network.proofs.Forks.{fork_order, View, view_after, copies}
use Rattle.network.proofs.Paths.{reach_path}
use Rattle.network.proofs.Nets.{not_typed, put_in_typed, good}

module _ {A : Type 0} (k : Kind A) (l : Laws k) where
  -- ONE LIFE: the letters that it knows, from the entries that it has seen and from its own typing
  abbrev knows : List (Row k.Op) → Life k → List A
  knows rows v = put_in k (take v.replica.revision rows) ++ typed_in k v.deeds

  knows_text : (c : ℕ) (rows : List (Row k.Op)) (seat : Seat k.Op) (v : Life k) → Alive k c rows seat v → (x : A) → x ∈ k.letters v.replica.text → x ∈ knows rows v
  knows_text c rows seat v a x m = ⊎_elim (λ z. mem_left _ z) (λ z. mem_right _ (a.copy.mine x z))
      (mem_parts _ (stack_known k l v.site _ _ _ a.copy.stack (mem_of (ap k.letters a.copy.text) m)))

  put_front : {es fs : List (Row k.Op)} → Front es fs → (x : A) → x ∈ put_in k es → x ∈ put_in k fs
  put_front {es} f x m = mem_of (sym (ap (put_in k) f.whole ∙ put_in_append k es f.more)) (mem_left (put_in k f.more) m)

  typed_front : {ds es : List (Deed k)} → Front ds es → (x : A) → x ∈ typed_in k ds → x ∈ typed_in k es
  typed_front {ds} f x m = mem_of (sym (ap (typed_in k) f.whole ∙ typed_append k ds f.more)) (mem_left (typed_in k f.more) m)

  knows_more : (rows more : List (Row k.Op)) (v w : Life k) → Front rows more → Later k v w → (x : A) → x ∈ knows rows v → x ∈ knows more w
  knows_more rows more v w f h x m = ⊎_elim
      (λ z. mem_left (typed_in k w.deeds) (put_front (front_take v.replica.revision w.replica.revision h.revision f) x z))
      (λ z. mem_right (put_in k (take w.replica.revision more)) (typed_front h.deeds x z)) (mem_parts (put_in k (take v.replica.revision rows)) m)

  -- its later text comes of the earlier one by operations that put in no letter which it knew then
  record Goes (rows : List (Row k.Op)) (v w : Life k) : Type 0 where
    way : List k.Op
    text : w.replica.text ≡ apply_all k way v.replica.text
    new : Apart (puts_all k way) (knows rows v)

  goes_same : (rows : List (Row k.Op)) (v w : Life k) → w.replica.text ≡ v.replica.text → Goes rows v w
  unfolding puts_all apply_all
  goes_same rows v w e = record { way = []; text = e; new = λ x m g. Memᴰ.not-nil m }

  goes_one : (rows : List (Row k.Op)) (v w : Life k) (o : k.Op) → w.replica.text ≡ k.apply o v.replica.text → Apart (k.puts o) (knows rows v) → Goes rows v w
  unfolding puts_all apply_all
  goes_one rows v w o e h = record { way = o ∷ []; text = e; new = λ x m g. h x (mem_of (append-nil (k.puts o)) m) g }

  -- what is performed, or seen of somebody else, is new
  performed_new : (n : Net k) → Good k n → (c : ℕ) (o : k.Op) → Apart (k.puts o) n.typed → Apart (k.puts o) (knows n.rows (n.lives c))
  performed_new n g c o a x m h =
      let s = (n.lives c).replica.revision in
      a x m (⊎_elim (λ z. put_in_typed k l n g.lettered x (put_in_take k s n.rows z))
      (λ z. g.lettered.typed c x z) (mem_parts (put_in k (take s n.rows)) h))

  seen_new : (n : Net k) → Good k n → (c : ℕ) (e : Row k.Op) (before after : List (Row k.Op)) → n.rows ≡ before ++ e ∷ after →
      length before ≡ (n.lives c).replica.revision → e.by ≢ c → Apart (k.puts e.op) (knows n.rows (n.lives c))
  seen_new n g c e before after q f b x m h = ⊎_elim
      (λ z. once_apart (put_in k before) (put_in k (e ∷ after)) (subst Once (ap (put_in k) q ∙ put_in_append k before (e ∷ after)) g.recorded.once) x
      (mem_of (ap (put_in k) (ap (take (n.lives c).replica.revision) q ∙ take_at before (e ∷ after) _ f)) z) (put_in_among k {e = e} (Memᴰ.head refl) m))
      (λ z. not_typed k l n g.lettered c e (mem_of (sym q) (mem_right before (Memᴰ.head refl))) b x z m) (mem_parts _ h)

  -- one life is changed
  goes_at : (n : Net k) (d : ℕ) (w : Life k) → Goes n.rows (n.lives d) w → (c : ℕ) → Goes n.rows (n.lives c) (at d w n.lives c)
  goes_at n d w f = everywhere (λ j v. Goes n.rows (n.lives j) v) d w n.lives f (λ j _. goes_same n.rows (n.lives j) _ refl)

  goes_step : (n m : Net k) → Good k n → Step k n m → (c : ℕ) → c < n.connections → Goes n.rows (n.lives c) (m.lives c)
  goes_step n _ g (performs d o u i f x a) c h = goes_at n d (performing k o (n.lives d)) (goes_one n.rows (n.lives d) _ o refl (performed_new n g d o a)) c
  goes_step n _ g (reports d u) c h = goes_at n d (reporting k (n.lives d)) (goes_same n.rows (n.lives d) _ refl) c
  goes_step n _ g (takes d m rest u q) c h = goes_at n d (with_queue k rest (n.lives d)) (goes_same n.rows (n.lives d) _ refl) c
  goes_step n _ g (hears d r rest u q) c h = goes_at n d (with_queue k rest (n.lives d)) (goes_same n.rows (n.lives d) _ refl) c
  goes_step n _ g (sees d e before after u q f s) c h = goes_at n d (seeing k d e (n.lives d))
      (let v = n.lives d in cond_both (e.by == d) (confirmed k v.replica) (received k e.op v.replica) (λ (r : Replica k). Goes n.rows v (with_replica k r v))
      (λ _. goes_same n.rows v _ refl) (λ b. goes_one n.rows v _ (over k e.op v.replica.pending).one refl
      (subst (λ xs. Apart xs (knows n.rows v)) (sym (puts_one k l e.op v.replica.pending)) (seen_new n g d e before after q f (eqb-false e.by d b))))) c
  goes_step n _ g (joins p i a b) c h = everywhere (λ j w. j < n.connections → Goes n.rows (n.lives j) w)
      n.connections (newborn k p i n.server.text (length n.server.history)) n.lives
      (λ z. absurd (omega arith)) (λ j _ _. goes_same n.rows (n.lives j) _ refl) c h
  goes_step n _ g (ends d u) c h = goes_at n d (ended_at k (length n.server.history) (n.lives d)) (goes_same n.rows (n.lives d) _ refl) c
  goes_step n _ g crashes c h = goes_same n.rows (n.lives c) _ refl

  goes_on : (rows more : List (Row k.Op)) (u v w : Life k) → Goes rows u v → Goes more v w → Front rows more → Later k u v → Goes rows u w
  goes_on rows more u v w f g e h = record {
    way = f.way ++ g.way;
    text = g.text ∙ ap (apply_all k g.way) f.text ∙ sym (apply_all_append k f.way g.way u.replica.text);
    new = λ x m a. ⊎_elim (λ z. f.new x z a) (λ z. g.new x z (knows_more rows more u v e h x a)) (mem_parts _ (mem_of (puts_all_append k f.way g.way) m));
  }

  goes : (n m : Net k) → Reachable k n → Path k n m → (c : ℕ) → c < n.connections → Goes n.rows (n.lives c) (m.lives c)
  goes n _ r here c h = goes_same n.rows (n.lives c) _ refl
  goes n o r (onward {m} p s _) c h =
      let a = grown k l n m r p in
      goes_on n.rows m.rows (n.lives c) (m.lives c) (o.lives c) (goes n m r p c h)
      (goes_step m o (good k l m (reach_path k r p)) s c (omega (arith, a.connections))) a.rows (a.lives c h)

  same_life : (n m : Net k) → Reachable k n → Path k n m → (c : ℕ) → c < n.connections → (x y : A) →
      Before x y (k.letters (n.lives c).replica.text) → Before y x (k.letters (m.lives c).replica.text) → ⊥
  unfolding puts_all apply_all
  same_life n m r p c h x y b d =
      let v = n.lives c in
      let a = (good k l n r).alive c h in
      let f = goes n m r p c h in
      fork_order k l x y v.replica.text [] f.way (subst (λ t. Once (k.letters t)) (sym a.copy.text) (stack_clean k l v.site _ _ v.replica.pending a.copy.stack))
      (λ z m _. ((λ e. Memᴰ.not-nil e), (λ e. f.new z e (knows_text c n.rows (n.server.seats c) v a z m)))) b (subst (λ t. Before y x (k.letters t)) f.text d)

  -- ALL TEXTS, by the history as it is later
  not_behind : (n : Net k) → Good k n → (c : ℕ) (o : Option ℕ) → (n.lives c).ended ≡ o → (e : Row k.Op) → e ∈ drop (horizon k (length n.rows) o) n.rows → e.by ≢ c
  not_behind n g c None q e m = absurd (Memᴰ.not-nil (mem_of (drop_all (length n.rows) n.rows (omega arith)) m))
  not_behind n g c (Some h) q e m = g.lettered.after_end c h q e m

  abbrev typed_by : Net k → Viewer → List A
  typed_by n server = []
  typed_by n (life c) = typed_in k (n.lives c).deeds

  view : (n m : Net k) → Reachable k n → Path k n m → (v : Viewer) → Exists k n v → View k l m.rows (typed_by m v) (text_of k n v)
  view n m r p server h =
      let f = (grown k l n m r p).rows in
      view_after k l m.rows (good k l m (reach_path k r p)).recorded.once (length n.rows) (omega (arith, ap length f.whole, length-append n.rows f.more)) n.server.text
      ((good k l n r).recorded.text ∙ ap (replay k) (sym (ap (take (length n.rows)) f.whole ∙ take_at n.rows f.more _ refl)))
  view n m r p (life c) h =
      let v = (n.lives c).replica in
      let g = good k l m (reach_path k r p) in
      let s = horizon_of k m.rows (m.lives c) in
      record {
        connection = c;
        site = (m.lives c).site;
        horizon = s;
        revision = v.revision;
        pending = v.pending;
        copy = (kept_path k l r p c h v.revision v.pending v.text (kept_now k ((good k l n r).alive c h))).copy;
        others = not_typed k l m g.lettered c;
        behind = λ e z. not_typed k l m g.lettered c e (mem_of (take-append-drop s m.rows) (mem_right (take s m.rows) z)) (not_behind m g c (m.lives c).ended refl e z);
      }

  two_views : (n m : Net k) → Reachable k n → Path k n m → (v w : Viewer) → Exists k n v → Exists k m w → Apart (typed_by m v) (typed_by m w) → (x y : A) →
      Before x y (k.letters (text_of k n v)) → Before y x (k.letters (text_of k m w)) → ⊥
  two_views n m r p v w a b f =
      let q = reach_path k r p in
      let g = (good k l m q).recorded in
      copies k l m.rows g.once g.fitting (typed_by m v) (typed_by m w) (text_of k n v) (text_of k m w) (view n m r p v a) (view m m q here w b) f

  one_way : (n m : Net k) → Reachable k n → Path k n m → (v w : Viewer) → Exists k n v → Exists k m w → (x y : A) →
      Before x y (k.letters (text_of k n v)) → Before y x (k.letters (text_of k m w)) → ⊥
  one_way n m r p server w a b x y o q = two_views n m r p server w a b (λ z e f. Memᴰ.not-nil e) x y o q
  one_way n m r p (life c) server a b x y o q = two_views n m r p (life c) server a b (λ z e f. Memᴰ.not-nil f) x y o q
  one_way n m r p (life c) (life d) a b x y o q = ⊎_elim
      (λ e. same_life n m r p c a x y o (subst (λ j. Before y x (k.letters (m.lives j).replica.text)) (sym e) q))
      (λ ne. two_views n m r p (life c) (life d) a b ((good k l m (reach_path k r p)).lettered.apart c d ne) x y o q) (cases_eq c d)

  pub pairwise_order : PairwiseOrder k
  pairwise_order n m r p v w a b x y = (one_way n m r p v w a b x y, one_way n m r p v w a b y x)
