use Rattle.std.proofs.Common.{ap}
use Rattle.room.proofs.Kept.{wants_memory, none_either}
use Rattle.room.proofs.keeping.keep.Goals as goal

pub out_of_memory-requires : goal.out_of_memory-requires
out_of_memory-requires c = wants_memory _ c.args.journal.now.contents c.in-Err.error (λ x kind. kind) (λ none. let z = (c.in-Err.ensures.closed none).0 in cc) (λ d is. (c.in-Err.ensures.taken d is (c.requires d is)).0)

pub returns-in-Err-clause-failed : goal.returns-in-Err-clause-failed
returns-in-Err-clause-failed c =
    none_either c.args.journal.now.contents c.append.new.self.contents (λ none. ap (λ j. j.contents) (c.in-Err.ensures.closed none).1) (λ d is. ap (λ j. j.contents) (c.in-Err.ensures.taken d is (c.requires d is)).2)
