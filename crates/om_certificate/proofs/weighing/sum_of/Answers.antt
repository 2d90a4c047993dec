use Rattle.std.proofs.Common.{refl, length, arith}
use Rattle.om_subsets.specs.Subsets.{rank_of}
use Rattle.om_certificate.proofs.Triples.{place_within}
use Rattle.om_certificate.proofs.Walking.{two_weights, two_weights_fit}
use Rattle.om_certificate.proofs.weighing.sum_of.Goals as goal

pub overflow_cast-result : goal.overflow_cast-result
overflow_cast-result c = let l = c.rank.type_inv in omega (arith, l)

pub offset_bounds-table-rank : goal.offset_bounds-table-rank
offset_bounds-table-rank c = let l = c.rank.type_inv in omega (arith, l)

pub overflow_cast-result-2 : goal.overflow_cast-result-2
overflow_cast-result-2 c = let l = c.rank-2.type_inv in omega (arith, l)

pub offset_bounds-table-rank-2 : goal.offset_bounds-table-rank-2
offset_bounds-table-rank-2 c = let l = c.rank-2.type_inv in omega (arith, l)

pub bounds-table-rank : goal.bounds-table-rank
bounds-table-rank c =
    place_within c.args.first.n c.args.first.n (length c.args.first.elements) c.rank.result
    (length c.args.table.now) refl c.requires.first c.rank.ensures.small c.requires.room

pub bounds-table-rank-2 : goal.bounds-table-rank-2
bounds-table-rank-2 c =
    place_within c.args.first.n c.args.second.n (length c.args.second.elements) c.rank-2.result
    (length c.args.table.now) c.requires.same c.requires.second c.rank-2.ensures.small c.requires.room

pub overflow_add-result : goal.overflow_add-result
overflow_add-result c = two_weights_fit c.args.table.now c.rank.result c.rank-2.result c.requires.small

pub returns : goal.returns
returns c =
    two_weights c.args.table.now c.rank.result c.rank-2.result
    (rank_of c.args.first.n c.args.first.elements) (rank_of c.args.second.n c.args.second.elements) c.requires.small
    c.rank.ensures.value c.rank-2.ensures.value
