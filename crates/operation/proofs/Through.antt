-- TP1 through a list, for any kind of operations that keeps the laws.
use Rattle.std.proofs.Common.{◌≡◌, ℕ, List, [], ◌∷◌, sym, refl, ap, ◌∙◌, subst}
use Rattle.operation.specs.Transform.{through}
use Rattle.operation.specs.Laws.{Kind, Meet, Side, Laws, apply_all, Others, Around, Tp1Through}

module _ {A : Type 0} (k : Kind A) where
  pub meet_other : (a b : k.Op) (t : k.Text) → Meet k a b t → Meet k b a t
  meet_other a b t m = record { differ = λ e. m.differ (sym e); fits_a = m.fits_b; fits_b = m.fits_a }

  pub others_of : (i j : ℕ) (bs : List k.Op) (t u : k.Text) → i ≡ j → t ≡ u → Others k i bs t → Others k j bs u
  others_of i j bs t u e f o = subst (λ z. Others k j bs z) f (subst (λ z. Others k z bs t) e o)

  -- the two transformations, in either part
  around : (f g : k.Op → k.Op → k.Op) →
      ((a b : k.Op) (t : k.Text) → Meet k a b t → k.apply (f a b) (k.apply b t) ≡ k.apply (g b a) (k.apply a t)) → Side k f → Side k g →
      (a : k.Op) (bs : List k.Op) (t : k.Text) → k.Fits a t → Others k (k.site a) bs t → Around k f g a bs t
  unfolding through apply_all Others
  around f g sq sf sg a [] t fa o = record { one_text = refl; one_fits = fa; others_fit = tt }
  around f g sq sf sg a (b ∷ bs) t fa o = more (around f g sq sf sg (f a b) bs (k.apply b t) (sf.fits a b t m) (others_of _ _ bs _ _ (sym (sf.site_stays a b)) refl o.2))
    where
      m : Meet k a b t
      m = record { differ = o.0; fits_a = fa; fits_b = o.1 }

      more : Around k f g (f a b) bs (k.apply b t) → Around k f g a (b ∷ bs) t
      more r = record {
        one_text = r.one_text ∙ ap (apply_all k (through f g (f a b) bs).others) (sq a b t m);
        one_fits = r.one_fits;
        others_fit = ((λ e. o.0 (e ∙ sg.site_stays b a)), sg.fits b a t (meet_other a b t m), others_of _ _ _ _ _ (sf.site_stays a b) (sq a b t m) r.others_fit);
      }

  pub tp1_through : Laws k → Tp1Through k
  tp1_through l = record {
    late_through = around k.late k.early l.tp1 l.late_side l.early_side;
    early_through = around k.early k.late (λ a b t m. sym (l.tp1 b a t (meet_other a b t m))) l.early_side l.late_side;
  }
