use Rattle.std.proofs.Common.{[], ◌∷◌, ◌++◌, ◌+◌, ◌∙◌, map, sym, ap, subst}
use Rattle.std.proofs.lemmas.List.{map_push}
use Rattle.om_subsets.specs.Members.{Chosen}
use Rattle.om_subsets.proofs.SetChains.{at_turn, mapped_at_end}
use Rattle.om_chirotope.specs.Chirotope.{IsChirotope}
use Rattle.om_localize.specs.Extensions.{IsExtension, signature_of}
use Rattle.om_localize.proofs.Localizations.{signature_size}
use Rattle.om_symmetry.proofs.Making.{made_map}
use Rattle.om_covers.specs.Growing.{grown_sign}
use Rattle.om_covers.proofs.GrownMaps.{grown_extension}
use Rattle.om_covers.proofs.growing.extension.Goals as goal

pub extended_sign-requires : goal.extended_sign-requires
extended_sign-requires c =
    let turn =
    at_turn (c.elements-elements.result + 1) c.rank-rank.result _ _ _
    (c.into_iter-s-iterator.ensures.into_iter_gives ∙ c.all-s-items.ensures.sets) c.loop-s.yielded_by c.in-Some.is
    c.next.ensures.steps in
    record {
      rank = c.requires.rank;
      room = c.requires.room;
      length = signature_size c.args.chi.now c.args.signature c.requires.signature;
      n = turn.at.n_is ∙ ap (λ k. k + 1) c.elements-elements.ensures.value;
      size = turn.at.size ∙ c.rank-rank.ensures.value ∙ c.requires.rank;
    }

pub lawful-requires-clause-axioms : goal.lawful-requires-clause-axioms
lawful-requires-clause-axioms c =
    let m = c.args.chi.now in
    let rule = grown_sign m c.args.signature in
    let all =
    mapped_at_end (c.elements-elements.result + 1) c.rank-rank.result rule _ _ _ _ c.loop-s.invariant.2
    (c.into_iter-s-iterator.ensures.into_iter_gives ∙ c.all-s-items.ensures.sets) c.loop-s.yielded_by c.in-None.is
    c.next.ensures.steps in
    subst IsChirotope
    (sym (made_map rule _ _ c.loop-s.signs all (ap (λ k. k + 1) c.elements-elements.ensures.value)
    c.rank-rank.ensures.value))
    (grown_extension m c.args.signature c.requires.rank c.requires.signature).extends.chirotope

pub returns-clause-value : goal.returns-clause-value
returns-clause-value c =
    let rule = grown_sign c.args.chi.now c.args.signature in
    let all =
    mapped_at_end (c.elements-elements.result + 1) c.rank-rank.result rule _ _ _ _ c.loop-s.invariant.2
    (c.into_iter-s-iterator.ensures.into_iter_gives ∙ c.all-s-items.ensures.sets) c.loop-s.yielded_by c.in-None.is
    c.next.ensures.steps in
    c.lawful.ensures
    ∙ made_map rule _ _ c.loop-s.signs all (ap (λ k. k + 1) c.elements-elements.ensures.value)
    c.rank-rank.ensures.value

pub returns-clause-extension : goal.returns-clause-extension
returns-clause-extension c =
    subst (IsExtension c.args.chi.now) (sym (returns-clause-value c))
    (grown_extension c.args.chi.now c.args.signature c.requires.rank c.requires.signature).extends

pub returns-clause-signature : goal.returns-clause-signature
returns-clause-signature c =
    ap (signature_of c.args.chi.now.elements) (returns-clause-value c)
    ∙ (grown_extension c.args.chi.now c.args.signature c.requires.rank c.requires.signature).signature

pub loop-s-preserved : goal.loop-s-preserved
loop-s-preserved c =
    let rule = λ (s : Chosen). grown_sign c.args.chi.now c.args.signature s.elements in
    let made = c.in_ok-push.ensures.ok ∙ ap (λ l. l ++ c.extended_sign.result ∷ []) c.loop-s.invariant.2
    ∙ ap (λ x. map rule c.loop-s.yielded ++ x ∷ []) c.extended_sign.ensures
    ∙ sym (map_push rule c.loop-s.yielded c.in-Some.s) in
    (tt, tt, made)
