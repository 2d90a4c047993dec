use Rattle.std.proofs.Common.{◌∙◌, [], ◌∷◌, ◌++◌, ap, map, sym, subst}
use Rattle.std.proofs.lemmas.List.{map_push}
use Rattle.om_subsets.specs.Members.{Chosen}
use Rattle.om_subsets.proofs.SetChains.{at_turn, mapped_at_end}
use Rattle.om_chirotope.specs.Map.{value_of}
use Rattle.om_chirotope.specs.Chirotope.{IsChirotope}
use Rattle.om_symmetry.specs.Permutations.{IsSignedPermutation, image_value}
use Rattle.om_symmetry.proofs.Axioms.{acted_chirotope}
use Rattle.om_symmetry.proofs.Making.{made_map}
use Rattle.om_symmetry.proofs.signed_permutation.SignedPermutation.act.Goals as goal

pub image_sign-requires : goal.image_sign-requires
image_sign-requires c =
    let turn =
    at_turn c.elements-elements.result c.rank-rank.result _ _ _
    (c.into_iter-s-iterator.ensures.into_iter_gives ∙ c.all-s-items.ensures.sets) c.loop-s.yielded_by c.in-Some.is
    c.next.ensures.steps in
    record {
      elements = c.requires;
      n = turn.at.n_is ∙ c.elements-elements.ensures.value ∙ c.requires;
      size = turn.at.size ∙ c.rank-rank.ensures.value;
    }

pub lawful-requires-clause-axioms : goal.lawful-requires-clause-axioms
lawful-requires-clause-axioms c =
    let m = c.args.chi.now in
    let w = c.args.self.now in
    let all =
    mapped_at_end c.elements-elements.result c.rank-rank.result (image_value w (value_of m)) _ _ _ _
    c.loop-s.invariant.2 (c.into_iter-s-iterator.ensures.into_iter_gives ∙ c.all-s-items.ensures.sets)
    c.loop-s.yielded_by c.in-None.is c.next.ensures.steps in
    subst IsChirotope
    (sym (made_map (image_value w (value_of m)) _ _ c.loop-s.signs all (c.elements-elements.ensures.value ∙ c.requires)
    c.rank-rank.ensures.value))
    (acted_chirotope m w (subst (λ k. IsSignedPermutation k w) c.requires c.elements-elements.ensures.lawful)
    c.rank-rank.ensures.lawful)

pub returns : goal.returns
returns c =
    let m = c.args.chi.now in
    let w = c.args.self.now in
    let all =
    mapped_at_end c.elements-elements.result c.rank-rank.result (image_value w (value_of m)) _ _ _ _
    c.loop-s.invariant.2 (c.into_iter-s-iterator.ensures.into_iter_gives ∙ c.all-s-items.ensures.sets)
    c.loop-s.yielded_by c.in-None.is c.next.ensures.steps in
    c.lawful.ensures
    ∙ made_map (image_value w (value_of m)) _ _ c.loop-s.signs all (c.elements-elements.ensures.value ∙ c.requires)
    c.rank-rank.ensures.value

pub loop-s-preserved : goal.loop-s-preserved
loop-s-preserved c =
    let rule = λ (s : Chosen). image_value c.args.self.now (value_of c.args.chi.now) s.elements in
    let made = c.in_ok-push.ensures.ok ∙ ap (λ l. l ++ c.image_sign.result ∷ []) c.loop-s.invariant.2
    ∙ ap (λ x. map rule c.loop-s.yielded ++ x ∷ []) c.image_sign.ensures
    ∙ sym (map_push rule c.loop-s.yielded c.in-Some.s) in
    (tt, tt, made)
