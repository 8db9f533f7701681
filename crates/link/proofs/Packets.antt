-- Messages as packets: each stands there with its number, and nothing else does.
use Rattle.std.proofs.Common.{◌≡◌, ℕ, zero, suc, ◌+◌, ◌-◌, ◌<◌, ◌≤◌, List, [], ◌∷◌, take, drop, Some, slice_get, refl, sym, ap, ◌∙◌, subst, ⊎_elim, arith}
use Rattle.std.proofs.lemmas.List.{length-take}
use Rattle.std.proofs.lemmas.Option.{slice_get_within}
use mathlib.Core.List.Memᴰ
use Rattle.operation.specs.Letters.{◌∈◌}
use Rattle.link.specs.declared.datagram.Packet.{Packet}
use Rattle.link.specs.declared.window.Numbers.{Numbers}
use Rattle.link.specs.Deliveries.{numbered, packets_of}
use Rattle.link.proofs.Grown.{get_in}

-- a part of a list, by its places
module _ {A : Type 0} where
  pub get-part : (after count i : ℕ) (xs : List A) → i < count → slice_get (take count (drop after xs)) i ≡ slice_get xs (after + i)
  get-part zero zero i xs h = absurd (omega arith)
  get-part zero (suc count) i [] h = refl
  get-part zero (suc count) zero (x ∷ xs) h = refl
  get-part zero (suc count) (suc i) (x ∷ xs) h = get-part zero count i xs (omega arith) ∙ ap (slice_get (x ∷ xs)) (let e : suc (zero + i) ≡ zero + suc i = omega arith in e)
  get-part (suc after) zero i [] h = absurd (omega arith)
  get-part (suc after) (suc count) i [] h = refl
  get-part (suc after) count i (x ∷ xs) h = get-part after count i xs h ∙ ap (slice_get (x ∷ xs)) (let e : suc (after + i) ≡ suc after + i = omega arith in e)

module _ {M : Type 0} where
  -- the packet of a message
  abbrev pub packet : ℕ → ℕ → M → Packet M
  packet c n m = record { connection = c; number = n; message = m }

  pub get-numbered : (c n : ℕ) (ms : List M) (i : ℕ) (m : M) → slice_get ms i ≡ Some m → slice_get (numbered c n ms) i ≡ Some (packet c (n + i) m)
  unfolding numbered
  get-numbered c n [] i m e = absurd cc
  get-numbered c n (x ∷ ms) zero m e = let h : n ≡ n + zero = omega arith in let k : x ≡ m = cc in cc
  get-numbered c n (x ∷ ms) (suc i) m e = get-numbered c (suc n) ms i m e ∙ ap (λ k. Some (packet c k m)) (omega arith)

  -- what is among them
  pub record IsOf (c n : ℕ) (ms : List M) (p : Packet M) : Type 0 where
    pub connection : p.connection ≡ c
    pub place : ℕ
    pub number : p.number ≡ n + place
    pub message : slice_get ms place ≡ Some p.message

  pub of_numbered : (c n : ℕ) (ms : List M) (p : Packet M) → p ∈ numbered c n ms → IsOf c n ms p
  unfolding numbered
  of_numbered c n [] p m = absurd (Memᴰ.not-nil m)
  of_numbered c n (x ∷ ms) p m = ⊎_elim
      (λ e. record { connection = ap (λ (q : Packet M). q.connection) e; place = 0; number = ap (λ (q : Packet M). q.number) e ∙ (let h : n ≡ n + 0 = omega arith in h); message = ap (λ (q : Packet M). Some q.message) (sym e) })
      (λ t. let k = of_numbered c (suc n) ms p t in record { connection = k.connection; place = suc k.place; number = k.number ∙ (let h : suc n + k.place ≡ n + suc k.place = omega arith in h); message = k.message })
      (Memᴰ.cases_cons m)

  pub of_packets : (c : ℕ) (ns : Numbers) (ms : List M) (p : Packet M) → p ∈ packets_of c ns ms →
      (p.connection ≡ c) × (n : ℕ) × (p.number ≡ suc n) × (slice_get ms n ≡ Some p.message) × (n < ns.after + ns.count)
  of_packets c ns ms p m =
      let k = of_numbered c (ns.after + 1) (take ns.count (drop ns.after ms)) p m in
      let w = slice_get_within (take ns.count (drop ns.after ms)) k.place p.message k.message in
      let h : k.place < ns.count = omega (arith, w, length-take ns.count (drop ns.after ms)) in (
        k.connection,
        ns.after + k.place,
        k.number ∙ (let e : ns.after + 1 + k.place ≡ suc (ns.after + k.place) = omega arith in e),
        sym (get-part ns.after ns.count k.place ms h) ∙ k.message,
        omega arith,
      )

  -- the packet at each place, and so each that is to be there
  pub get-packets : (c : ℕ) (ns : Numbers) (ms : List M) (i : ℕ) (m : M) → i < ns.count → slice_get ms (ns.after + i) ≡ Some m →
      slice_get (packets_of c ns ms) i ≡ Some (packet c (suc (ns.after + i)) m)
  get-packets c ns ms i m h e = get-numbered c (ns.after + 1) (take ns.count (drop ns.after ms)) i m (get-part ns.after ns.count i ms h ∙ e)
      ∙ ap (λ k. Some (packet c k m)) (omega arith)

  pub in_packets : (c : ℕ) (ns : Numbers) (ms : List M) (n : ℕ) (m : M) → ns.after ≤ n → n < ns.after + ns.count → slice_get ms n ≡ Some m →
      packet c (suc n) m ∈ packets_of c ns ms
  in_packets c ns ms n m a b e =
      let h : ns.after + (n - ns.after) ≡ n = omega arith in
      subst (λ k. packet c (suc k) m ∈ packets_of c ns ms) h
      (get_in (packets_of c ns ms) (n - ns.after) (packet c (suc (ns.after + (n - ns.after))) m) (get-packets c ns ms (n - ns.after) m (omega arith) (ap (slice_get ms) h ∙ e)))
