use Rattle.std.proofs.Common.{refl, subst}
use Rattle.om_subsets.specs.Subsets.{IsSubsetFrom}
use Rattle.om_threeterm.proofs.RelationLaws.{frame_of, in_order, unbalanced_at, not_true, not_from}
use Rattle.om_threeterm.proofs.relations.is_unbalanced.Goals as goal

pub has_relation-requires-clause-frame : goal.has_relation-requires-clause-frame
has_relation-requires-clause-frame c =
    let list = c.requires.p_list in
    let four = subst (λ n. IsSubsetFrom 1 n c.args.q.elements) c.requires.q_n c.four_of-a.ensures.list in
    frame_of c.args.map.now c.args.p.elements c.args.q.elements _ _ _ _ list c.requires.p_size four
    c.four_of-a.ensures.elements (c.if-not-is_apart_from.ensures.0 refl)

pub has_relation-requires-clause-a_low : goal.has_relation-requires-clause-a_low
has_relation-requires-clause-a_low c =
    (in_order c.args.map.now.elements c.args.q.elements _ _ _ _
    (subst (λ n. IsSubsetFrom 1 n c.args.q.elements) c.requires.q_n c.four_of-a.ensures.list)
    c.four_of-a.ensures.elements).low

pub has_relation-requires-clause-a_b : goal.has_relation-requires-clause-a_b
has_relation-requires-clause-a_b c =
    (in_order c.args.map.now.elements c.args.q.elements _ _ _ _
    (subst (λ n. IsSubsetFrom 1 n c.args.q.elements) c.requires.q_n c.four_of-a.ensures.list)
    c.four_of-a.ensures.elements).a_b

pub has_relation-requires-clause-b_c : goal.has_relation-requires-clause-b_c
has_relation-requires-clause-b_c c =
    (in_order c.args.map.now.elements c.args.q.elements _ _ _ _
    (subst (λ n. IsSubsetFrom 1 n c.args.q.elements) c.requires.q_n c.four_of-a.ensures.list)
    c.four_of-a.ensures.elements).b_c

pub has_relation-requires-clause-c_d : goal.has_relation-requires-clause-c_d
has_relation-requires-clause-c_d c =
    (in_order c.args.map.now.elements c.args.q.elements _ _ _ _
    (subst (λ n. IsSubsetFrom 1 n c.args.q.elements) c.requires.q_n c.four_of-a.ensures.list)
    c.four_of-a.ensures.elements).c_d

pub has_relation-requires-clause-d_high : goal.has_relation-requires-clause-d_high
has_relation-requires-clause-d_high c =
    (in_order c.args.map.now.elements c.args.q.elements _ _ _ _
    (subst (λ n. IsSubsetFrom 1 n c.args.q.elements) c.requires.q_n c.four_of-a.ensures.list)
    c.four_of-a.ensures.elements).high

pub returns : goal.returns
returns c =
    let m = c.args.map.now in
    let list = c.requires.p_list in
    let four = subst (λ n. IsSubsetFrom 1 n c.args.q.elements) c.requires.q_n c.four_of-a.ensures.list in
    let frame = frame_of m c.args.p.elements c.args.q.elements c.four_of-a.result.0 c.four_of-a.result.1
    c.four_of-a.result.2 c.four_of-a.result.3 list c.requires.p_size four c.four_of-a.ensures.elements
    (c.if-not-is_apart_from.ensures.0 refl) in (
      λ t. (
        c.four_of-a.result.0,
        c.four_of-a.result.1,
        c.four_of-a.result.2,
        c.four_of-a.result.3,
        c.four_of-a.ensures.elements,
        record { frame = frame; violated = λ h. not_true c.has_relation.result t (c.has_relation.ensures.1 h) },
      ),
      λ u. not_from c.has_relation.result
          (λ r. unbalanced_at m c.args.p.elements c.args.q.elements _ _ _ _ c.four_of-a.ensures.elements u
          (c.has_relation.ensures.0 r)),
    )
