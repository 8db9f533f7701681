-- What holds of the value that a chain of steps gives, if it gives one.
use Rattle.std.proofs.Common.{◌≡◌, Bool, true, false, cond, Option, Some, None, refl, subst}
use Rattle.link.specs.Reading.{◌>>=◌}

-- P of the value, where there is one
pub record Gives {A : Type 0} (o : Option A) (P : A → Type 0) : Type 0 where
  pub at : (x : A) → o ≡ Some x → P x

-- a value
pub gives : {A : Type 0} (x : A) {P : A → Type 0} → P x → Gives (Some x) P
gives {A} x {P} h =
    let moved = λ (y : A) (e : x ≡ y). subst P e h in
    record { at = λ y e. moved y cc }

-- no value
pub nothing : {A : Type 0} {P : A → Type 0} → Gives None P
nothing = record { at = λ x e. absurd cc }

-- a step, and the steps behind it
pub then : {A B : Type 0} (o : Option A) (f : A → Option B) {P : A → Type 0} {Q : B → Type 0} → Gives o P → ((x : A) → P x → Gives (f x) Q) → Gives (o >>= f) Q
then (Some x) f g k = k x (g.at x refl)
then None f g k = nothing

-- a test
pub by_test : {A : Type 0} (b : Bool) (o p : Option A) {P : A → Type 0} → (b ≡ true → Gives o P) → (b ≡ false → Gives p P) → Gives (cond b o p) P
by_test true o p on_true on_false = on_true refl
by_test false o p on_true on_false = on_false refl

pub if_passed : {A : Type 0} (b : Bool) (o : Option A) {P : A → Type 0} → (b ≡ true → Gives o P) → Gives (cond b o None) P
if_passed b o on_true = by_test b o None on_true (λ _. nothing)
