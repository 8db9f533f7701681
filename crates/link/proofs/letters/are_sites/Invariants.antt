use Rattle.std.proofs.Common.{◌≡◌, nat_le, take}
use Rattle.std.specs.List.{list_all}
use Rattle.link.specs.Letters.{is_site}
use Rattle.link.proofs.letters.are_sites.Given as goal

abbrev pub invariant-loop-site : goal.invariant-loop-site
invariant-loop-site l = nat_le l.most 15 ≡ list_all is_site (take l.site-index l.sites)
