use Rattle.std.proofs.Common.{ℕ, List, Option, Some, ◌≡◌, true, false, inl, inr, refl, sym, subst}
use Rattle.std.specs.Prelude.{None, IfSome, IfNone}
use Rattle.std.specs.List.{Contains}
use Rattle.std.specs.Option.{is_some}
use Rattle.std.proofs.lemmas.Bool.{false≢true}
use Rattle.om_signs.specs.declared.sign.Sign.{Sign}
use Rattle.om_members.specs.Listings.{HaveLength}
use Rattle.om_members.specs.Vectors.{IsZero}
use Rattle.om_convert.specs.Hitting.{IsNonzeroOn, IsNonzeroMember, MeetsFamily, MissesOne}
use Rattle.om_convert.proofs.hitting.narrowed.Goals as goal

-- the vector that was found is one that the set misses
missed : (members : List (List Sign)) (s : List ℕ) (o : Option (List Sign)) → true ≡ is_some o
    → IfSome o (Contains members) → IfSome o (λ Y. IsZero Y → ⊥) → IfSome o (λ Y. IsNonzeroOn s Y → ⊥)
    → MissesOne (IsNonzeroMember members) s
missed members s None e m n h = absurd (false≢true (sym e))
missed members s (Some Y) e m n h = (Y, (m, n), h)

-- no vector was found, so the set meets each
met : (members : List (List Sign)) (s : List ℕ) (o : Option (List Sign)) → false ≡ is_some o
    → IfNone o (MeetsFamily (IsNonzeroMember members) s) → MeetsFamily (IsNonzeroMember members) s
met members s None e h = h
met members s (Some Y) e h = absurd (false≢true e)

pub missed_nonzero_vector-requires : goal.missed_nonzero_vector-requires
missed_nonzero_vector-requires c =
    subst (λ k. HaveLength k c.args.vectors.now) (sym c.without-rest.ensures.n) c.requires.lengths

pub returns-then-is_some-clause-narrowed : goal.returns-then-is_some-clause-narrowed
returns-then-is_some-clause-narrowed c =
    let found = c.missed_nonzero_vector.ensures in
    inr (
      refl,
      subst (MissesOne (IsNonzeroMember c.args.vectors.now)) c.without-rest.ensures.elements
          (missed c.args.vectors.now c.without-rest.result.elements c.missed_nonzero_vector.result c.if-is_some.ensures
          found.contained found.nonzero found.missed),
    )

pub returns-else-is_some-clause-narrowed : goal.returns-else-is_some-clause-narrowed
returns-else-is_some-clause-narrowed c =
    inl (
      c.without-rest.ensures.elements,
      met c.args.vectors.now c.without-rest.result.elements c.missed_nonzero_vector.result c.if-is_some.ensures
          c.missed_nonzero_vector.ensures.none,
    )
