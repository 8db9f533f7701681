-- The kind that the code has keeps the laws, for letters of any type: signing commutes with the table.
use Rattle.std.proofs.Common.{◌≡◌, sym, refl, ap, ◌∙◌, subst}
use Rattle.operation.specs.declared.operation.Operation.{Operation}
use Rattle.operation.specs.Letters.{◌∈◌}
use Rattle.operation.specs.Edits.{site, apply, Fits, puts, strikes, rename}
use Rattle.operation.specs.Transform.{transform}
use Rattle.operation.specs.Laws.{singles, Meet, Side, Laws}
use Rattle.operation.proofs.Singles.{laws}
use Rattle.operation.proofs.Shapes.{site_stays}
use Rattle.operation.proofs.Renaming.{renames, transform-rename}
use Rattle.network.specs.Written.{Signed, signed, written}

module _ {N : Type 0} where
  site_signed : (a : Operation N) → site (signed a) ≡ site a
  site_signed a = (renames (λ (x : N). record { letter = x; site = site a })).site a

  transform_signed : (a b : Operation N) → transform (signed a) (signed b) ≡ signed (transform a b)
  transform_signed a b = transform-rename _ _ a b ∙ ap (λ i. rename (λ x. record { letter = x; site = i }) (transform a b)) (sym (site_stays a b))

  meet_signed : (a b : Operation N) (t : _) → Meet (written N) a b t → Meet (singles (Signed N)) (signed a) (signed b) t
  meet_signed a b t m = record { differ = λ e. m.differ (sym (site_signed a) ∙ e ∙ site_signed b); fits_a = m.fits_a; fits_b = m.fits_b }

side : (N : Type 0) → Side (written N) transform
side N = let s = (laws (Signed N)).late_side in record {
  site_stays = site_stays;
  puts_stay = λ a b. ap puts (sym (transform_signed a b)) ∙ s.puts_stay (signed a) (signed b);
  fits = λ a b t m. subst (λ o. Fits o (apply (signed b) t)) (transform_signed a b) (s.fits (signed a) (signed b) t (meet_signed a b t m));
  strikes_less = λ a b t x m u h. s.strikes_less (signed a) (signed b) t x (meet_signed a b t m) u
      (subst (λ o. x ∈ strikes o (apply (signed b) t)) (sym (transform_signed a b)) h);
  strikes_rest = λ a b t x m u h n. subst (λ o. x ∈ strikes o (apply (signed b) t)) (transform_signed a b)
      (s.strikes_rest (signed a) (signed b) t x (meet_signed a b t m) u h n);
}

pub written_laws : (N : Type 0) → Laws (written N)
written_laws N = let l = laws (Signed N) in record {
  empty_text = refl;
  tp1 = λ a b t m. ap (λ o. apply o (apply (signed b) t)) (sym (transform_signed a b)) ∙ l.tp1 (signed a) (signed b) t (meet_signed a b t m)
      ∙ ap (λ o. apply o (apply (signed a) t)) (transform_signed b a);
  late_side = side N;
  early_side = side N;
  put_stands = λ a. l.put_stands (signed a);
  struck_or_stays = λ a. l.struck_or_stays (signed a);
  struck_goes = λ a. l.struck_goes (signed a);
  comes_from = λ a. l.comes_from (signed a);
  struck_stood = λ a. l.struck_stood (signed a);
  stays_once = λ a. l.stays_once (signed a);
  order_on = λ a. l.order_on (signed a);
  order_back = λ a. l.order_back (signed a);
}
