use Rattle.std.proofs.Common.{ℕ, List, ◌≡◌, ◌∙◌, sym, subst, map}
use Rattle.om_signs.specs.declared.sign.Sign.{Sign}
use Rattle.om_subsets.specs.Subsets.{all_subsets}
use Rattle.om_subsets.proofs.SetChains.{at_turn, mapped_at_end}
use Rattle.om_chirotope.specs.Map.{SignMap}
use Rattle.om_chirotope.specs.Chirotope.{IsChirotope, IsWithinLimits}
use Rattle.om_denotation.specs.Maps.{map_by, IsNormalFormOf}
use Rattle.om_denotation.proofs.sign_rule.normal_by.Goals as goal

-- the map with the signs of all sets is that of the rule
made_map : (rule : List ℕ → Sign) (n r : ℕ) (signs : List Sign) → signs ≡ map rule (all_subsets n r)
    → ◌≡◌ {A = SignMap} (record { rank = r; elements = n; signs = signs }) (map_by r n rule)
made_map rule n r signs made = λ i. record { rank = r; elements = n; signs = made i }

pub loop-s-init : goal.loop-s-init
loop-s-init g c = (tt, tt, c.new-signs.ensures)

pub sign-requires : goal.sign-requires
sign-requires g c =
    let turn =
    at_turn c.args.elements c.args.rank _ _ _
    (c.into_iter-s-iterator.ensures.into_iter_gives ∙ c.all-s-items.ensures.sets) c.loop-s.yielded_by c.in-Some.is
    c.next.ensures.steps in
    record {
      valid = c.requires.valid;
      n = turn.at.n_is ∙ sym c.requires.elements;
      size = turn.at.size ∙ sym c.requires.rank;
    }

pub lawful-requires : goal.lawful-requires
lawful-requires g c =
    let made =
    made_map (g.T.SignRule.rule c.args.rule.now) c.args.elements c.args.rank c.loop-s.signs
    (mapped_at_end c.args.elements c.args.rank (g.T.SignRule.rule c.args.rule.now) _ _ _ _ c.loop-s.invariant.2
    (c.into_iter-s-iterator.ensures.into_iter_gives ∙ c.all-s-items.ensures.sets) c.loop-s.yielded_by c.in-None.is
    c.next.ensures.steps) in
    record {
      axioms = subst IsChirotope (sym made) c.requires.axioms;
      limits = subst IsWithinLimits (sym made) c.requires.limits;
    }

pub returns : goal.returns
returns g c =
    let made =
    made_map (g.T.SignRule.rule c.args.rule.now) c.args.elements c.args.rank c.loop-s.signs
    (mapped_at_end c.args.elements c.args.rank (g.T.SignRule.rule c.args.rule.now) _ _ _ _ c.loop-s.invariant.2
    (c.into_iter-s-iterator.ensures.into_iter_gives ∙ c.all-s-items.ensures.sets) c.loop-s.yielded_by c.in-None.is
    c.next.ensures.steps) in
    subst (λ m. IsNormalFormOf m c.normal.result) (c.lawful.ensures ∙ made)
    (record { same = c.normal.ensures.same; normal = c.normal.ensures.normal })
