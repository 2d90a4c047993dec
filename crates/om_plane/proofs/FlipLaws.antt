-- Why the triple of three elements isn't flipped.
--
-- Main results: no element is above n (within_of_none); a refusal (refused_flip).
use Rattle.std.specs.Prelude.{ℕ, ◌≡◌, ◌≤◌, Some, None, refl}
use Rattle.std.proofs.Common.{sym, ◌∙◌, inl, inr}
use Rattle.std.proofs.lemmas.Bool.{cases_lt, lt-ltb, le-ltb}
use Rattle.std.proofs.lemmas.Option.{none-some}
use Rattle.om_subsets.specs.Members.{Chosen}
use Rattle.om_chirotope.specs.Map.{SignMap}
use Rattle.om_mutate.specs.declared.flip_refused.FlipRefused.{FlipRefused}
use Rattle.om_mutate.specs.declared.flip_refused.FlipRefused.TheVariants as why
use Rattle.om_mutate.specs.Refusals.{IsRefusal}
use Rattle.om_reply.specs.Answers.{says}
use Rattle.om_reply.specs.Above.{first_above}
use Rattle.om_plane.specs.Flips.{triple_of, flip_refusal, IsFlipOfMap, other_rank, no_basis, no_mutation}

-- if none of three elements is above n, the third is at most n
pub within_of_none : (n a b c : ℕ) → first_above n (triple_of a b c) ≡ None → c ≤ n
within_of_none n a b c none = elim (cases_lt n c) [
  | inl lt ↦ elim (cases_lt n a) [
    | inl la ↦ let e : first_above n (triple_of a b c) ≡ Some a = rw (lt-ltb n a la) refl in
        absurd (none-some a (sym none ∙ e))
    | inr ga ↦ elim (cases_lt n b) [
      | inl lb ↦ let e : first_above n (triple_of a b c) ≡ Some b = rw (le-ltb n a ga, lt-ltb n b lb) refl in
          absurd (none-some b (sym none ∙ e))
      | inr gb ↦ let e : first_above n (triple_of a b c) ≡ Some c =
          rw (le-ltb n a ga, le-ltb n b gb, lt-ltb n c lt) refl in absurd (none-some c (sym none ∙ e))
    ]
  ]
  | inr ge ↦ ge
]

pub refused_flip : (m : SignMap) (t : Chosen) (why : FlipRefused) → IsRefusal m t why
    → IsFlipOfMap t.elements m (says (flip_refusal why))
refused_flip m t (why.NotRank3 r) (is, other) = rw is (other_rank other)
refused_flip m t why.NotBasis (three, null) = no_basis three null
refused_flip m t (why.NotMutation s a) is = no_mutation s a is.0 is.1 is.2
