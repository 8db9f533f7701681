-- Three letters stand in a circle in one run, which is computed; so no one line of all letters agrees with all its texts.
use Rattle.std.proofs.Common.{◌≡◌, ℕ, ◌<◌, false, List, [], ◌∷◌, ◌≢◌, refl, sym, subst, ⊎_elim, arith}
use Rattle.std.proofs.lemmas.Bool.{both_ways, ne_eqb, cases_eq, false≢true}
use mathlib.Core.List.Memᴰ
use Rattle.operation.specs.declared.operation.Operation.TheVariants.{Insert, Delete}
use Rattle.operation.specs.Letters.{◌∈◌, Once, Apart, Before}
use Rattle.operation.specs.Edits.{insert_at, delete_at}
use Rattle.operation.specs.Entries.{replaced}
use Rattle.operation.specs.Transform.{through}
use Rattle.operation.specs.Laws.{Kind, singles}
use Rattle.server.specs.Sessions.{unseen}
use Rattle.network.specs.Runs.{Net, start, after_performing, after_taking, after_joining, Current, Connected, Step, performs, takes, joins, Path, here, onward}
use Rattle.operation.specs.Letters as letters
use Rattle.network.specs.OneRecord.{life, server}
use Rattle.network.proofs.Letters.{before_trans, before_self}
use Rattle.network.specs.Cyclic.{last, earlier, CyclicRun, OneLine, NoOneLine}

-- THE RUN
abbrev one : Kind ℕ
one = singles ℕ

abbrev net1 : Net one
net1 = after_joining one 0 0 (start one)

abbrev net2 : Net one
net2 = after_performing one 0 (Insert 0 0 121) net1

abbrev net3 : Net one
net3 = after_taking one 0 (record { revision = 0; op = Insert 0 0 121 }) [] net2

abbrev net4 : Net one
net4 = after_joining one 1 1 net3

abbrev net5 : Net one
net5 = after_joining one 2 2 net4

-- x typed before y
abbrev net6 : Net one
net6 = after_performing one 2 (Insert 2 0 120) net5

-- z typed behind y
abbrev net7 : Net one
net7 = after_performing one 0 (Insert 0 1 122) net6

-- y struck
abbrev net8 : Net one
net8 = after_performing one 1 (Delete 1 0) net7

abbrev net9 : Net one
net9 = after_taking one 1 (record { revision = 1; op = Delete 1 0 }) [] net8

abbrev net10 : Net one
net10 = after_taking one 0 (record { revision = 0; op = Insert 0 1 122 }) [] net9

abbrev net11 : Net one
net11 = after_taking one 2 (record { revision = 1; op = Insert 2 0 120 }) [] net10

-- nobody joins at a site that is taken, or as a client that is there
with_one : (c : ℕ) → c ≢ 0 → (net3.server.seats c).connected ≡ false
with_one c n = rw (ne_eqb c 0 n) refl

with_two : (c : ℕ) → c ≢ 0 → c ≢ 1 → (net4.server.seats c).connected ≡ false
with_two c n m = rw (ne_eqb c 1 m) (with_one c n)

only_two : (n : Net one) → ((c : ℕ) → c ≢ 0 → c ≢ 1 → (n.server.seats c).connected ≡ false) → (P : ℕ → Type 0) → P 0 → P 1 → (c : ℕ) → Connected one n c → P c
only_two n f P p q c u = ⊎_elim (λ (e : c ≡ 0). subst P (sym e) p)
    (λ ne. ⊎_elim (λ (e : c ≡ 1). subst P (sym e) q) (λ nf. absurd (both_ways _ (f c ne nf) u)) (cases_eq c 1)) (cases_eq c 0)

-- each of three is the last connection of its client
module _ (n : Net one) (e : n.connections ≡ 3) (p : (n.lives 0).client ≡ 0) (q : (n.lives 1).client ≡ 1) (r : (n.lives 2).client ≡ 2) where
  client_of : (c : ℕ) → c < 3 → (n.lives c).client ≡ c
  client_of c h = ⊎_elim (λ z. of 0 z p) (λ ne. ⊎_elim (λ z. of 1 z q) (λ nf. of 2 (omega arith) r) (cases_eq c 1)) (cases_eq c 0)
    where
      of : (d : ℕ) → c ≡ d → (n.lives d).client ≡ d → (n.lives c).client ≡ c
      of d z = subst (λ j. (n.lives j).client ≡ j) (sym z)

  current : (c : ℕ) → c < 3 → Current one n c
  current c h = (omega arith, λ d g b z. let a = client_of c h in let b = client_of d (omega arith) in omega arith)

-- a letter that nobody typed before
fresh : (x : ℕ) (ys : List ℕ) → (x ∈ ys → ⊥) → Apart (x ∷ []) ys
fresh x ys n a m o = n (Memᴰ.cast (sym (Memᴰ.eq_of_singleton m)) o)

not_one : (x y : ℕ) → x ≢ y → x ∈ y ∷ [] → ⊥
not_one x y n m = n (Memᴰ.eq_of_singleton m)

not_two : (x y z : ℕ) → x ≢ y → x ≢ z → x ∈ y ∷ z ∷ [] → ⊥
not_two x y z n o m = ⊎_elim n (not_one x z o) (Memᴰ.cases_cons m)

alone : (x : ℕ) → Once (x ∷ [])
unfolding Once
alone x = (Memᴰ.not-nil, tt)

-- THE STEPS
step1 : Step one (start one) net1
step1 = joins 0 0 (λ c u. absurd (false≢true u)) (λ c u. absurd (false≢true u))

step2 : Step one net1 net2
step2 = performs 0 (Insert 0 0 121) (omega arith, λ d g h. absurd (omega arith)) refl (omega arith) (alone 121) (fresh 121 [] (λ m. Memᴰ.not-nil m))

step3 : Step one net2 net3
unfolding through unseen
step3 = takes 0 (record { revision = 0; op = Insert 0 0 121 }) [] refl refl

step4 : Step one net3 net4
step4 = joins 1 1 (only_two net3 (λ c n m. with_one c n) (λ c. (net3.lives c).site ≢ 1) (λ e. omega arith) (λ e. omega arith))
    (only_two net3 (λ c n m. with_one c n) (λ c. (net3.lives c).client ≢ 1) (λ e. omega arith) (λ e. omega arith))

step5 : Step one net4 net5
step5 = joins 2 2 (only_two net4 with_two (λ c. (net4.lives c).site ≢ 2) (λ e. omega arith) (λ e. omega arith))
    (only_two net4 with_two (λ c. (net4.lives c).client ≢ 2) (λ e. omega arith) (λ e. omega arith))

step6 : Step one net5 net6
step6 = performs 2 (Insert 2 0 120) (current net5 refl refl refl refl 2 (omega arith)) refl (omega arith) (alone 120)
    (fresh 120 (121 ∷ []) (not_one 120 121 (λ e. omega arith)))

step7 : Step one net6 net7
unfolding insert_at
step7 = performs 0 (Insert 0 1 122) (current net6 refl refl refl refl 0 (omega arith)) refl (omega arith) (alone 122)
    (fresh 122 (121 ∷ 120 ∷ []) (not_two 122 121 120 (λ e. omega arith) (λ e. omega arith)))

step8 : Step one net7 net8
unfolding insert_at through unseen Once
step8 = performs 1 (Delete 1 0) (current net7 refl refl refl refl 1 (omega arith)) refl (omega arith) tt (λ a m. absurd (Memᴰ.not-nil m))

step9 : Step one net8 net9
unfolding through unseen
step9 = takes 1 (record { revision = 1; op = Delete 1 0 }) [] refl refl

step10 : Step one net9 net10
unfolding through unseen
step10 = takes 0 (record { revision = 0; op = Insert 0 1 122 }) [] refl refl

step11 : Step one net10 net11
unfolding through unseen
step11 = takes 2 (record { revision = 1; op = Insert 2 0 120 }) [] refl refl

abbrev run6 : Path one (start one) net6
run6 = onward (onward (onward (onward (onward (onward here step1 tt) step2 tt) step3 tt) step4 tt) step5 tt) step6 tt

abbrev run11 : Path one (start one) net11
run11 = onward (onward (onward (onward (onward run6 step7 tt) step8 tt) step9 tt) step10 tt) step11 tt

first : {x y : ℕ} → Before x y (x ∷ y ∷ [])
first = letters.here (Memᴰ.head refl)

-- the screen of 2, that of 0, and the server's text
pub cyclic_run : CyclicRun one
unfolding insert_at delete_at through unseen replaced
cyclic_run = record {
  end = net11;
  run = run11;
  x = 120;
  y = 121;
  z = 122;
  x_before_y = record { net = net6; moment = earlier (earlier (earlier (earlier (earlier last)))); viewer = life 2; exists = omega arith; order = first };
  y_before_z = record { net = net7; moment = earlier (earlier (earlier (earlier last))); viewer = life 0; exists = omega arith; order = first };
  z_before_x = record { net = net11; moment = last; viewer = server; exists = tt; order = first };
}

-- No line has the letters of a circle in their order
pub circle_in_no_line : {A : Type 0} (k : Kind A) (c : CyclicRun k) → OneLine k c.run → ⊥
circle_in_no_line k c l =
    before_self l.once (before_trans l.once (before_trans l.once (l.agrees c.x c.y c.x_before_y) (l.agrees c.y c.z c.y_before_z)) (l.agrees c.z c.x c.z_before_x))

pub no_one_line : NoOneLine one
no_one_line = record { end = cyclic_run.end; run = cyclic_run.run; none = circle_in_no_line one cyclic_run }
