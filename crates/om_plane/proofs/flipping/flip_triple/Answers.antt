use Rattle.std.proofs.Common.{ap, sym, ◌∙◌}
use Rattle.om_representation.specs.Documents.{document_of}
use Rattle.om_reply.specs.Above.{first_above}
use Rattle.om_representation.specs.RankThree.{for_chirotope}
use Rattle.om_reply.specs.Answers.{says}
use Rattle.om_representation.proofs.ChoiceLaws.{elements_of, rank_refused}
use Rattle.om_plane.specs.Flips.{triple_of, IsFlipOfMap, other_rank, outside, inside}
use Rattle.om_plane.proofs.FlipLaws.{within_of_none}
use Rattle.om_plane.proofs.flipping.flip_triple.Goals as goal

pub returns-in-Some : goal.returns-in-Some
returns-in-Some c =
    let list = triple_of c.args.a c.args.b c.args.c in
    let above = sym c.in-Some.is ∙ c.place_above.ensures ∙ ap (λ k. first_above k list) c.elements.ensures.value in
    outside c.in-Some.e (sym above)

pub flip_triple_of-requires-clause-inside : goal.flip_triple_of-requires-clause-inside
flip_triple_of-requires-clause-inside c =
    let list = triple_of c.args.a c.args.b c.args.c in
    let none = sym c.in_default.is ∙ c.place_above.ensures ∙ ap (λ k. first_above k list) c.elements.ensures.value in
    let same = elements_of c.args.representation c.in-Ok.chirotope c.in-Ok.ensures.chosen in
    within_of_none _ c.args.a c.args.b c.args.c (ap (λ k. first_above k list) same ∙ sym none)

pub returns-in-Ok : goal.returns-in-Ok
returns-in-Ok c =
    let list = triple_of c.args.a c.args.b c.args.c in
    let none = sym c.in_default.is ∙ c.place_above.ensures ∙ ap (λ k. first_above k list) c.elements.ensures.value in
    inside _ (sym none) (for_chirotope c.in-Ok.chirotope _ c.in-Ok.ensures.chosen c.flip_triple_of.ensures)

pub returns-in_ok-rank_line-in-Err : goal.returns-in_ok-rank_line-in-Err
returns-in_ok-rank_line-in-Err c =
    let list = triple_of c.args.a c.args.b c.args.c in
    let none = sym c.in_default.is ∙ c.place_above.ensures ∙ ap (λ k. first_above k list) c.elements.ensures.value in
    inside _ (sym none)
    (rank_refused says (IsFlipOfMap list) (document_of c.args.representation) (λ m of other. other_rank other)
    c.in-Err.why c.in-Err.ensures.refused _ c.in_ok-rank_line-in-Err.ensures.line)
