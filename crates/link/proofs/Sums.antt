-- Sums of blocks of 64 bytes, cut to 16 bits.
use Rattle.std.proofs.Common.{◌≡◌, ℕ, ◌+◌, ◌*◌, ◌/◌, ◌%◌, ◌<◌, List, [], length, get_or, take, drop, sum, arith}
use Rattle.std.specs.Simd.{first_chunks}
use Rattle.std.proofs.Math.Seq.{take-add}
use Rattle.std.proofs.lemmas.List.Sums.{sum_by-append, sum_by-take-drop}
use Rattle.link.proofs.Chunks.{chunk_at}

-- one more block is added up
pub sum_more : (bytes : List ℕ) (blocks : List (List ℕ)) (i total : ℕ) → blocks ≡ first_chunks 64 (length bytes / 64) bytes → i < length bytes / 64
    → total ≡ sum (take (i * 64) bytes) % 65536 → (total + sum (get_or blocks i [])) % 65536 ≡ sum (take ((i + 1) * 64) bytes) % 65536
sum_more bytes blocks i total is lt so_far =
    let next : (i + 1) * 64 ≡ i * 64 + 64 = omega arith in
    let block : get_or blocks i [] ≡ take 64 (drop (i * 64) bytes) = rw is (chunk_at 64 (length bytes / 64) bytes i lt) in
    let more : sum (take (i * 64 + 64) bytes) ≡ sum (take (i * 64) bytes) + sum (take 64 (drop (i * 64) bytes)) =
    rw (take-add (i * 64) 64 bytes) (sum_by-append (λ x. x) (take (i * 64) bytes) (take 64 (drop (i * 64) bytes))) in
    rw (next, block, more) (omega (arith, so_far))

-- and the rest
pub sum_rest : (bytes rest : List ℕ) (i total : ℕ) → i ≡ length bytes / 64 → rest ≡ drop (length bytes / 64 * 64) bytes
    → total ≡ sum (take (i * 64) bytes) % 65536 → (total + sum rest) % 65536 ≡ sum bytes % 65536
sum_rest bytes rest i total end is so_far = rw (is, ← end) (omega (arith, so_far, sum_by-take-drop (λ x. x) bytes (i * 64)))
