use Rattle.std.proofs.Common.{◌≡◌, ◌-◌, ◌+◌, ap, arith, length, refl, rules, tests}
use Rattle.om_subsets.proofs.SetChains.{callable_at_sets, holds_of_all}
use Rattle.om_chirotope.specs.Pictures.{HasRelationsAt}
use Rattle.om_chirotope.proofs.NumberedSets.{sets_of_map}
use Rattle.om_chirotope.proofs.Rows.{relations_of_pictures}
use Rattle.om_chirotope.proofs.ThreeTermRelations.{relations_at, relations_of_low_rank}
use Rattle.om_chirotope.proofs.three_terms.has_relations.Goals as goal

pub returns-then-map-lt2 : goal.returns-then-map-lt2
returns-then-map-lt2 c = (λ t. relations_of_low_rank c.args.map.now (rw (← c.map.view_is) c.if-map-lt2.true), λ h. refl)

pub all-requires-2-clause-callable : goal.all-requires-2-clause-callable
all-requires-2-clause-callable c =
    let rank = c.if-map-lt2.false in
    let same = ap (λ m. m.rank) c.map.view_is in
    callable_at_sets c.args.map.now.elements (c.args.map.now.rank - 2)
    (sets_of_map (λ m. m.rank - 2) c.map.view_is refl c.all.ensures.sets) (λ x q k. search (rules, tests))
    (λ x set.
    let n = set.n_is in
    let many = set.size in
    let size : length x.elements + 2 ≡ c.args.map.now.rank = omega (arith, many, rank, same) in search rules)

pub returns : goal.returns
returns c =
    let m = c.args.map.now in
    let rank = c.if-map-lt2.false in
    let same = ap (λ m. m.rank) c.map.view_is in
    let all =
    holds_of_all m.elements (m.rank - 2) (HasRelationsAt m)
    (sets_of_map (λ m. m.rank - 2) c.map.view_is refl c.all.ensures.sets) _ _ c.all-2.result c.all-2.ensures.ran
    (λ x q k. search (rules, tests)) (λ x q k. search (rules, tests)) in (
      λ t. relations_of_pictures m (λ p list size. all.0 t p list (omega (arith, size))),
      λ h. all.1 (λ p list size. relations_at m h p list (omega (arith, size, rank, same))),
    )
