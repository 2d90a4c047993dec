use Rattle.std.proofs.Common.{refl}
use Rattle.om_chirotope.specs.Map.{map_of}
use Rattle.om_chirotope.proofs.ExchangeForms.{exchange_from_lists, exchange_of_lists, exchange_of_rank_zero}
use Rattle.om_chirotope.proofs.exchange.has_exchange.Goals as goal

pub returns-then-raw-eq0 : goal.returns-then-raw-eq0
returns-then-raw-eq0 c = (λ t. exchange_of_rank_zero (map_of c.args.raw.now) c.if-raw-eq0.true, λ h. refl)

pub returns : goal.returns
returns c =
    let m = map_of c.args.raw.now in (
      λ t. exchange_from_lists m (c.has_exchange_of_lists.ensures.0 t),
      λ h. c.has_exchange_of_lists.ensures.1 (exchange_of_lists m h),
    )
