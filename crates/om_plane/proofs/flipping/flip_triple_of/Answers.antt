use Rattle.std.specs.Prelude.{ℕ, ◌≤◌, List, length}
use Rattle.std.proofs.Common.{refl, sym, ap, subst, ◌∙◌, arith, rules}
use Rattle.om_signs.specs.declared.limits.TheConstants.{MAX_ELEMENTS, MAX_VALUES}
use Rattle.om_subsets.specs.Subsets.{choose}
use Rattle.om_chirotope.specs.Map.{SignMap}
use Rattle.om_chirotope.proofs.FewValues.{few_of_rank3}
use Rattle.om_certificate.proofs.Triples.{increasing_triple}
use Rattle.om_mutate.specs.Mutations.{flipped, IsMutation}
use Rattle.om_reply.specs.Answers.{says}
use Rattle.om_representation.specs.Documents.{map_document}
use Rattle.om_plane.specs.Flips.{flip_refusal, IsFlipOfMap, turned}
use Rattle.om_plane.proofs.FlipLaws.{refused_flip}
use Rattle.om_plane.proofs.flipping.flip_triple_of.Goals as goal

pub triple-requires : goal.triple-requires
triple-requires c =
    let within = c.requires.inside in
    let low = c.requires.increasing.low in
    let first = c.requires.increasing.first in
    let second = c.requires.increasing.second in
    let few = c.elements-n.ensures.high in
    let size = c.elements-n.ensures.value in
    record {
      small = search rules;
      x_low = omega arith;
      x_high = omega arith;
      y_low = omega arith;
      y_high = omega arith;
      z_low = omega arith;
      z_high = omega arith;
    }

pub flip-requires : goal.flip-requires
flip-requires c =
    record {
      n = c.triple.ensures.n ∙ c.elements-n.ensures.value;
      size =
          ap length
          (c.triple.ensures.elements
          ∙ increasing_triple c.args.a c.args.b c.args.c c.requires.increasing.first c.requires.increasing.second);
    }

pub map_document-requires : goal.map_document-requires
map_document-requires c other =
    let is = c.in-Ok.ensures.accepted.0 refl in
    let P : SignMap → Type 0 = λ m. choose m.elements m.rank ≤ MAX_VALUES in
    let high = subst (λ n. n ≤ MAX_ELEMENTS) c.elements-n.ensures.value c.elements-n.ensures.high in
    subst P (sym c.in-Ok.ensures.value) (few_of_rank3 (flipped c.args.chirotope c.triple.result.elements) is.0 high)

pub returns-in-Ok : goal.returns-in-Ok
returns-in-Ok c =
    let made = c.triple.ensures.elements
    ∙ increasing_triple c.args.a c.args.b c.args.c c.requires.increasing.first c.requires.increasing.second in
    let is = c.in-Ok.ensures.accepted.0 refl in
    let same = c.in-Ok.ensures.value ∙ ap (flipped c.args.chirotope) made in
    turned c.map_document.result is.0 (subst (IsMutation c.args.chirotope) made is.1)
    (c.map_document.ensures.value ∙ ap map_document same) c.map_document.ensures.form

pub returns-in-Err : goal.returns-in-Err
returns-in-Err c =
    let made = c.triple.ensures.elements
    ∙ increasing_triple c.args.a c.args.b c.args.c c.requires.increasing.first c.requires.increasing.second in
    let Q : List ℕ → Type 0 = λ t. IsFlipOfMap t c.args.chirotope (says (flip_refusal c.in-Err.bad.why)) in
    rw c.flip_refusal.ensures
    (subst Q made (refused_flip c.args.chirotope c.triple.result c.in-Err.bad.why c.in-Err.ensures.refused))
