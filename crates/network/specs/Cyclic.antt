-- WHY NO ONE ORDER OF ALL LETTERS IS PROMISED. Two letters never change places, but three can stand in a circle, as they need never be on one screen together.
-- Such a run, of three clients and single letters. Client 0 types y, the server takes it, and clients 1 and 2 join: all show y.
-- 2 types x before it and shows xy; 0 types z behind it and shows yz; 1 strikes y.
-- The server takes 1's, and its text is empty; then 0's, and it is z; then 2's, now at the place of z, and of two at one place the lower site's comes first: zx.
use Rattle.std.specs.Prelude.{List}
use Rattle.operation.specs.Letters.{Once, Before}
use Rattle.operation.specs.Laws.{Kind}
use Rattle.network.specs.Runs.{Net, start, Step, Path, onward}
use Rattle.network.specs.OneRecord.{Viewer, text_of, Exists}

module _ {A : Type 0} (k : Kind A) where
  -- the nets that a run comes by, up to its end m
  pub data Moment : (m : Net k) → Path k (start k) m → Net k → Type 0 where
    last : {m : Net k} {run : Path k (start k) m} → Moment m run m
    earlier : {m o n : Net k} {run : Path k (start k) m} {s : Step k m o} {t : Unit {0}} → Moment m run n → Moment o (onward run s t) n

  -- at some moment of the run some text shows x before y
  pub record Shows {m : Net k} (run : Path k (start k) m) (x y : A) : Type 0 where
    pub net : Net k
    pub moment : Moment m run net
    pub viewer : Viewer
    pub exists : Exists k net viewer
    pub order : Before x y (k.letters (text_of k net viewer))

  -- A CIRCLE: in one run some text shows x before y, some text y before z, and some text z before x
  pub record CyclicRun : Type 0 where
    pub end : Net k
    pub run : Path k (start k) end
    pub x : A
    pub y : A
    pub z : A
    pub x_before_y : Shows run x y
    pub y_before_z : Shows run y z
    pub z_before_x : Shows run z x

  -- one line of all letters: each stands there once, and every text, at every moment of the run, has its letters in the order of that line
  pub record OneLine {m : Net k} (run : Path k (start k) m) : Type 0 where
    pub line : List A
    pub once : Once line
    pub agrees : (x y : A) → Shows run x y → Before x y line

  -- there is a run with no such line
  pub record NoOneLine : Type 0 where
    pub end : Net k
    pub run : Path k (start k) end
    pub none : OneLine run → ⊥
