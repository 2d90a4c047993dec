use Rattle.std.specs.List.{Contains}
use Rattle.std.proofs.Common.{◌≡◌, ◌≤◌, length, inl, inr, true≢false, sym, ◌∙◌, subst, refl}
use Rattle.std.proofs.lemmas.Bool.{cases_lt}
use Rattle.om_signs.specs.declared.limits.TheConstants.{MAX_MEMBERS}
use Rattle.om_members.specs.Listings.{AreDistinct}
use Rattle.om_convert.specs.Gathering.{IsMemberSet, IsExtendedBy}
use Rattle.om_convert.proofs.GatheringLaws.{full}
use Rattle.om_convert.proofs.KeyLaws.{not_contained, inserted, inserted_set}
use Rattle.om_convert.proofs.member_set.MemberSet.insert.Goals as goal
use Rattle.om_convert.proofs.member_set.MemberSet.insert.Goals.{in-Ok, in-Err, else-is_full-via-else-is_full}
use Rattle.om_convert.proofs.member_set.MemberSet.insert.Goals.{else-is_full-via-then-is_full+else-not-contains}

pub returns-then-not-contains-clause-many : goal.returns-then-not-contains-clause-many
returns-then-not-contains-clause-many c =
    let n = not_contained c.self.inside.set.keys c.args.x (sym c.contains.ensures ∙ c.if-not-contains.true) in (
      refl,
      full c.args.self.now c.args.x (subst AreDistinct c.self.view_is c.self.invariant.distinct)
          (subst (λ l. Contains l c.args.x → ⊥) c.self.view_is n) (c.is_full.ensures.0 c.if-is_full.true),
    )

pub invariant_of-self : goal.invariant_of-self
invariant_of-self c = elim c.match-insert.branch [
  | in-Ok w ↦
      inserted_set c.self.inside.set.keys c.insert.new.self.keys c.args.x w.in-Ok.ensures.keys
      (λ absent. elim c.else-is_full.branch [
        | else-is_full-via-then-is_full+else-not-contains v ↦
            absurd (true≢false (sym v.if-not-contains.false ∙ v.contains.ensures ∙ absent))
        | else-is_full-via-else-is_full v ↦ elim (cases_lt (length c.self.inside.set.keys) MAX_MEMBERS) [
          | inl less ↦ less
          | inr most ↦
              absurd (true≢false (sym (c.is_full.ensures.1 (subst (λ l. MAX_MEMBERS ≤ length l) c.self.view_is most))
              ∙ v.if-is_full.false))
        ]
      ]) c.self.invariant
  | in-Err w ↦ subst IsMemberSet (sym w.in-Err.ensures.err) c.self.invariant
]

pub returns-clause-added : goal.returns-clause-added
returns-clause-added c = elim c.match-insert.branch [
  | in-Ok w ↦
      rw w.result-is (subst (λ l. IsExtendedBy (λ X. X ≡ c.args.x) l c.insert.new.self.keys) c.self.view_is
      (inserted c.self.inside.set.keys c.insert.new.self.keys c.args.x w.in-Ok.ensures.keys))
  | in-Err w ↦ rw w.result-is tt
]
