-- The vectors that a number gives have one summary.
--
-- Main results: made_determined.
use Rattle.std.specs.Prelude.{ℕ, ◌≡◌, ◌≤◌, List, length}
use Rattle.std.proofs.Common.{sym, ◌∙◌, ap, arith}
use Rattle.om_signs.specs.declared.sign.Sign.{Sign}
use Rattle.om_chirotope.specs.Map.{SignMap}
use Rattle.om_convert.proofs.CountingLaws.{distinct_few}
use Rattle.om_vectors.specs.Realizations.{signs_map}
use Rattle.om_vectors.specs.declared.tally.Tally.{Tally}
use Rattle.om_make.specs.Generator.{made_vectors}
use Rattle.om_make.specs.Tallies.{HasExactly, IsTallyOfMap}
use Rattle.om_reply.specs.Answers.{makes}
use Rattle.om_reply.specs.Determined.{IsDetermined}
use Rattle.om_plane.specs.MadeInputs.{IsMade, made}
use Rattle.om_reply.proofs.Alike.{alike}
use Rattle.om_plane.proofs.OneRankThree.{one_mutation_list}

-- ---- what is counted

-- a family has one number of members
no_more : (k l : ℕ) (P : List Sign → Type 0) → HasExactly k P → HasExactly l P → k ≤ l
no_more k l P h g =
    let few = distinct_few h.members g.members h.distinct (λ X c. g.all.complete X (h.all.sound X c)) in
    let a = h.many in
    let b = g.many in
    omega arith

one_number : (k l : ℕ) (P : List Sign → Type 0) → HasExactly k P → HasExactly l P → k ≡ l
one_number k l P h g = let a = no_more k l P h g in let b = no_more l k P g h in omega arith

one_tally : (m : SignMap) (t u : Tally) → IsTallyOfMap m t → IsTallyOfMap m u → t ≡ u
one_tally m t u h g =
    λ i. record {
      plus = plus i;
      zero = zero i;
      minus = minus i;
      cocircuits = cocircuits i;
      covectors = covectors i;
      mutations = mutations i;
    }
  where
    plus : t.plus ≡ u.plus
    plus = h.plus ∙ sym g.plus

    zero : t.zero ≡ u.zero
    zero = h.zero ∙ sym g.zero

    minus : t.minus ≡ u.minus
    minus = h.minus ∙ sym g.minus

    cocircuits : t.cocircuits ≡ u.cocircuits
    cocircuits = one_number t.cocircuits u.cocircuits _ h.cocircuits g.cocircuits

    covectors : t.covectors ≡ u.covectors
    covectors = one_number t.covectors u.covectors _ h.covectors g.covectors

    mutations : t.mutations ≡ u.mutations
    mutations = sym h.mutations.many
        ∙ ap length (one_mutation_list m h.mutations.sets g.mutations.sets h.mutations.all g.mutations.all)
        ∙ g.mutations.many

-- ---- made inputs

-- all answers of `make` to the same number and the same count look alike
pub made_determined : (seed count : ℕ) → IsDetermined (IsMade seed count)
made_determined seed count a b (made t h back) (made u g also) =
    let vectors = made_vectors seed count in
    alike (makes vectors t) (makes vectors u) (ap (makes vectors) (one_tally (signs_map vectors) t u h g))
