-- Operations of single letters keep the laws, for letters of any type.
use Rattle.std.proofs.Common.{refl}
use Rattle.operation.specs.Transform.{transform}
use Rattle.operation.specs.Laws.{singles, Side, Laws}
use Rattle.operation.proofs.Tp1.{tp1, fits-transform}
use Rattle.operation.proofs.Standing.{put_stands, struck_or_stays, struck_goes, comes_from, struck_stood, stays_once, order_on, order_back}
use Rattle.operation.proofs.Struck.{strikes_less, strikes_rest}
use Rattle.operation.proofs.Shapes.{site_stays, puts_stay}

side : (A : Type 0) → Side (singles A) transform
side A = record {
  site_stays = site_stays;
  puts_stay = puts_stay;
  fits = λ a b t m. fits-transform a b t m.fits_a m.fits_b;
  strikes_less = λ a b t x m. strikes_less a b t x m.fits_a m.fits_b;
  strikes_rest = λ a b t x m. strikes_rest a b t x m.fits_a m.fits_b;
}

pub laws : (A : Type 0) → Laws (singles A)
laws A = record {
  empty_text = refl;
  tp1 = λ a b t m. tp1 a b t m.differ m.fits_a m.fits_b;
  late_side = side A;
  early_side = side A;
  put_stands = put_stands;
  struck_or_stays = struck_or_stays;
  struck_goes = struck_goes;
  comes_from = comes_from;
  struck_stood = struck_stood;
  stays_once = stays_once;
  order_on = order_on;
  order_back = order_back;
}
