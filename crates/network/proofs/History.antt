-- The texts by the history; the history only grows; and what of a connection is in it.
use Rattle.std.proofs.Common.{◌++◌, List, length, take, drop, sym, ap, ◌∙◌, arith}
use Rattle.std.proofs.lemmas.List.{map-append, take-append-drop, take-append-le, take-map, take_all}
use Rattle.operation.specs.Laws.{Kind, Laws, apply_all}
use Rattle.network.specs.Runs.{Row, ops}
use Rattle.network.specs.OneRecord.{taken_of, TextsAre, HistoryGrows, TakenWasPerformed}
use Rattle.network.proofs.Grid.{taken_append}
use Rattle.network.proofs.Paths.{reach_path}
use Rattle.network.proofs.Nets.{good}
use Rattle.network.proofs.Growth.{grown}
use Rattle.network.proofs.Meant.{taken_enough}

module _ {A : Type 0} (k : Kind A) (l : Laws k) where
  pub texts_are : TextsAre k
  texts_are = record {
    of_server = λ n r. let g = (good k l n r).recorded in g.text ∙ ap (λ os. apply_all k os k.empty) (sym g.history);
    of_life = λ n r c u. let g = good k l n r in
        let v = (n.lives c).replica in
        (g.alive c u).copy.text
        ∙ ap (λ os. apply_all k v.pending (apply_all k os k.empty)) (sym (ap (take v.revision) g.recorded.history ∙ take-map (λ (e : Row k.Op). e.op) v.revision n.rows));
  }

  pub history_grows : HistoryGrows k
  history_grows n m r p =
      let h = (good k l n r).recorded.history in
      let f = (grown k l n m r p).rows in
      ap (take (length n.server.history))
      ((good k l m (reach_path k r p)).recorded.history ∙ ap (λ (rows : List (Row k.Op)). ops rows) f.whole ∙ map-append (λ (e : Row k.Op). e.op) n.rows f.more ∙ ap (λ os. os ++ ops f.more) (sym h))
      ∙ take-append-le (length n.server.history) n.server.history (ops f.more) (omega arith) ∙ take_all (length n.server.history) n.server.history (omega arith)

  pub taken_was_performed : TakenWasPerformed k
  taken_was_performed = record {
    no_more = taken_enough k l;
    under_way = λ n r c u. let g = good k l n r in
        let a = g.alive c (g.seated.given c u) in
        let s = (n.lives c).replica.revision in
        omega (arith, (a.grid u).count, a.performed, ap (taken_of c) (take-append-drop s n.rows), taken_append c (take s n.rows) (drop s n.rows));
    lost = λ n m r p c h u. (grown k l n m r p).over c h u;
  }
