-- What the theorems over whole runs need to know of operations, and nothing else.
-- Operations of single letters are one kind; a richer kind is another.
use Rattle.std.specs.Prelude.{◌≡◌, ℕ, ◌⊎◌, List, [], ◌∷◌, map, ◌≢◌}
use Rattle.operation.specs.declared.operation.Operation.{Operation}
use Rattle.operation.specs.Letters.{◌∈◌, Once, Apart, Before}
use Rattle.operation.specs.Edits.{site, apply, Fits, puts, strikes}
use Rattle.operation.specs.Transform.{transform, map_passed, through}

-- A kind of operations, on texts whose letters are of type A.
pub record Kind (A : Type 0) : Type 1 where
  pub Op : Type 0
  pub Text : Type 0
  pub letters : Text → List A
  pub empty : Text
  pub site : Op → ℕ
  pub apply : Op → Text → Text
  pub Fits : Op → Text → Type 0
  -- a past b, where b is the earlier in the history
  pub late : Op → Op → Op
  -- a past b, where b is the later
  pub early : Op → Op → Op
  -- the letters that it puts in, and those that it strikes out of a text
  pub puts : Op → List A
  pub strikes : Op → Text → List A

-- single letters: the table serves both sides
abbrev pub singles : (A : Type 0) → Kind A
singles A = record {
  Op = Operation A;
  Text = List A;
  letters = λ t. t;
  empty = [];
  site = site;
  apply = apply;
  Fits = Fits;
  late = transform;
  early = transform;
  puts = puts;
  strikes = strikes;
}

-- two operations of different sites that both fit a text
pub record Meet {A : Type 0} (k : Kind A) (a b : k.Op) (t : k.Text) : Type 0 where
  pub differ : k.site a ≡ k.site b → ⊥
  pub fits_a : k.Fits a t
  pub fits_b : k.Fits b t

-- `f a b` is a past b: of a's site, with a's letters, it fits the text after b, and strikes what a would and b has not
pub record Side {A : Type 0} (k : Kind A) (f : k.Op → k.Op → k.Op) : Type 0 where
  pub site_stays : (a b : k.Op) → k.site (f a b) ≡ k.site a
  pub puts_stay : (a b : k.Op) → k.puts (f a b) ≡ k.puts a
  pub fits : (a b : k.Op) (t : k.Text) → Meet k a b t → k.Fits (f a b) (k.apply b t)
  pub strikes_less : (a b : k.Op) (t : k.Text) (x : A) → Meet k a b t → Once (k.letters t) →
      x ∈ k.strikes (f a b) (k.apply b t) → (x ∈ k.strikes a t) × (x ∈ k.strikes b t → ⊥)
  pub strikes_rest : (a b : k.Op) (t : k.Text) (x : A) → Meet k a b t → Once (k.letters t) →
      x ∈ k.strikes a t → (x ∈ k.strikes b t → ⊥) → x ∈ k.strikes (f a b) (k.apply b t)

pub record Laws {A : Type 0} (k : Kind A) : Type 0 where
  pub empty_text : k.letters k.empty ≡ []
  -- transformation property 1: either of two may be done first
  pub tp1 : (a b : k.Op) (t : k.Text) → Meet k a b t → k.apply (k.late a b) (k.apply b t) ≡ k.apply (k.early b a) (k.apply a t)
  pub late_side : Side k k.late
  pub early_side : Side k k.early
  -- membership: what is put in stands there, what stood there is struck or stays, what is struck goes, and nothing else comes
  pub put_stands : (a : k.Op) (t : k.Text) (x : A) → x ∈ k.puts a → x ∈ k.letters (k.apply a t)
  pub struck_or_stays : (a : k.Op) (t : k.Text) (x : A) → x ∈ k.letters t → x ∈ k.strikes a t ⊎ x ∈ k.letters (k.apply a t)
  pub struck_goes : (a : k.Op) (t : k.Text) (x : A) → Once (k.letters t) → x ∈ k.strikes a t → x ∈ k.letters (k.apply a t) → x ∈ k.puts a
  pub comes_from : (a : k.Op) (t : k.Text) (x : A) → x ∈ k.letters (k.apply a t) → x ∈ k.puts a ⊎ x ∈ k.letters t
  pub struck_stood : (a : k.Op) (t : k.Text) (x : A) → x ∈ k.strikes a t → x ∈ k.letters t
  pub stays_once : (a : k.Op) (t : k.Text) → Once (k.letters t) → Once (k.puts a) → Apart (k.puts a) (k.letters t) → Once (k.letters (k.apply a t))
  -- order: of two letters that were there and stay, the first stays first; of two that were not put in, the first was first
  pub order_on : (a : k.Op) (t : k.Text) (x y : A) → (x ∈ k.strikes a t → ⊥) → (y ∈ k.strikes a t → ⊥) → Before x y (k.letters t) → Before x y (k.letters (k.apply a t))
  pub order_back : (a : k.Op) (t : k.Text) (x y : A) → (x ∈ k.puts a → ⊥) → (y ∈ k.puts a → ⊥) → Before x y (k.letters (k.apply a t)) → Before x y (k.letters t)

-- Several operations, one after another.
unfoldable pub apply_all : {A : Type 0} (k : Kind A) → List k.Op → k.Text → k.Text
apply_all k [] t = t
apply_all k (o ∷ os) t = apply_all k os (k.apply o t)

-- each fits the text that those before it leave, and is of another site than i
unfoldable pub Others : {A : Type 0} (k : Kind A) → ℕ → List k.Op → k.Text → Type 0
Others k i [] t = Unit {0}
Others k i (b ∷ bs) t = (i ≢ k.site b) × k.Fits b t × Others k i bs (k.apply b t)

-- one past several by f, and these past it by g: either way round the text is one, and all fit again
pub record Around {A : Type 0} (k : Kind A) (f g : k.Op → k.Op → k.Op) (a : k.Op) (bs : List k.Op) (t : k.Text) : Type 0 where
  pub one_text : k.apply (through f g a bs).one (apply_all k bs t) ≡ apply_all k (through f g a bs).others (k.apply a t)
  pub one_fits : k.Fits (through f g a bs).one (apply_all k bs t)
  pub others_fit : Others k (k.site a) (through f g a bs).others (k.apply a t)

-- TP1 through a list, with the one that goes through the later of the two, or the earlier
pub record Tp1Through {A : Type 0} (k : Kind A) : Type 0 where
  pub late_through : (a : k.Op) (bs : List k.Op) (t : k.Text) → k.Fits a t → Others k (k.site a) bs t → Around k k.late k.early a bs t
  pub early_through : (a : k.Op) (bs : List k.Op) (t : k.Text) → k.Fits a t → Others k (k.site a) bs t → Around k k.early k.late a bs t

-- Mapping the letters by f commutes with all of it: `op` maps an operation's letters, and `text` a text's.
pub record Renames {A B : Type 0} (k : Kind A) (m : Kind B) (f : A → B) (op : k.Op → m.Op) (text : k.Text → m.Text) : Type 0 where
  pub letters : (t : k.Text) → m.letters (text t) ≡ map f (k.letters t)
  pub empty : text k.empty ≡ m.empty
  pub site : (a : k.Op) → m.site (op a) ≡ k.site a
  pub apply : (a : k.Op) (t : k.Text) → m.apply (op a) (text t) ≡ text (k.apply a t)
  pub fits : (a : k.Op) (t : k.Text) → k.Fits a t → m.Fits (op a) (text t)
  pub fits_back : (a : k.Op) (t : k.Text) → m.Fits (op a) (text t) → k.Fits a t
  pub late : (a b : k.Op) → m.late (op a) (op b) ≡ op (k.late a b)
  pub early : (a b : k.Op) → m.early (op a) (op b) ≡ op (k.early a b)
  pub late_through : (a : k.Op) (bs : List k.Op) → through m.late m.early (op a) (map op bs) ≡ map_passed op (through k.late k.early a bs)
  pub early_through : (a : k.Op) (bs : List k.Op) → through m.early m.late (op a) (map op bs) ≡ map_passed op (through k.early k.late a bs)
  pub puts : (a : k.Op) → m.puts (op a) ≡ map f (k.puts a)
  pub strikes : (a : k.Op) (t : k.Text) → m.strikes (op a) (text t) ≡ map f (k.strikes a t)
