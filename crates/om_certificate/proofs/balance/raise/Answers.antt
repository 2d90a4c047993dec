use Rattle.std.proofs.Common.{◌≡◌, subst}
use Rattle.om_subsets.specs.Subsets.{IsSubsetFrom, rank_of}
use Rattle.om_certificate.proofs.Counting.{raised}
use Rattle.om_certificate.proofs.balance.raise.Goals as goal

pub returns : goal.returns
returns c =
    raised c.args.first.n c.args.times c.rank.result c.rank-2.result c.args.table.now c.args.first.elements
    c.args.second.elements
    (record { list = c.rank.ensures.lawful; size = c.requires.first })
    (record {
      list = subst (λ n. IsSubsetFrom 1 n c.args.second.elements) c.requires.same c.rank-2.ensures.lawful;
      size = c.requires.second;
    })
    c.rank.ensures.value
    (subst (λ n. c.rank-2.result ≡ rank_of n c.args.second.elements) c.requires.same c.rank-2.ensures.value)
    c.requires.room
