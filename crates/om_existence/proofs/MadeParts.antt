-- The vectors that a number gives have their counts.
--
-- Main results: made_possible.
use Rattle.std.specs.Prelude.{ℕ, ◌≡◌, List, length, refl}
use Rattle.om_signs.specs.declared.sign.Sign.{Sign}
use Rattle.om_signs.specs.declared.sign.Sign.TheVariants.{Minus, Zero, Plus}
use Rattle.om_chirotope.specs.Map.{SignMap}
use Rattle.om_denotation.specs.Circuits.{IsCocircuitOfChirotope}
use Rattle.om_denotation.specs.Covectors.{IsCovectorOfChirotope}
use Rattle.om_denotation.proofs.ChirotopeBridge.{cocircuit_length}
use Rattle.om_vectors.specs.Realizations.{signs_map}
use Rattle.om_vectors.specs.declared.tally.Tally.{Tally}
use Rattle.om_make.specs.Generator.{made_vectors}
use Rattle.om_make.specs.Tallies.{count_of, HasExactly, IsTallyOfMap}
use Rattle.om_make.proofs.BackLaws.{comes_back}
use Rattle.om_make.proofs.GeneratorLaws.{units_span}
use Rattle.om_words.specs.Tasks.{IsCount}
use Rattle.om_reply.specs.declared.answer.Answer.{Answer}
use Rattle.om_reply.specs.Answers.{makes}
use Rattle.om_plane.specs.MadeInputs.{IsMade, made}
use Rattle.om_existence.specs.Possible.{IsPossible}
use Rattle.om_existence.proofs.Possible.{then, mapped}
use Rattle.om_existence.proofs.Listed.{listed_possible}
use Rattle.om_existence.proofs.MutationParts.{list_possible}
use Rattle.om_existence.proofs.VectorSigns.{chirotope_possible}

counted : (n : ℕ) (P : List Sign → Type 0) → ((X : List Sign) → P X → length X ≡ n)
    → IsPossible ((k : ℕ) × HasExactly k P)
counted n P long = mapped (λ h. (length h.0, record { members = h.0; many = refl; distinct = h.1.1; all = h.1.0 }))
    (listed_possible n P long)

-- the counts of a map
tally : (m : SignMap) (cocircuits covectors mutations : ℕ) → Tally
tally m cocircuits covectors mutations =
    record {
      plus = count_of Plus m.signs;
      zero = count_of Zero m.signs;
      minus = count_of Minus m.signs;
      cocircuits =
          cocircuits;
      covectors = covectors;
      mutations = mutations;
    }

tally_possible : (m : SignMap) → IsPossible ((t : Tally) × IsTallyOfMap m t)
unfolding tally
tally_possible m =
    then (counted m.elements (IsCocircuitOfChirotope m) (cocircuit_length m)) (λ y.
    then (counted m.elements (IsCovectorOfChirotope m) (λ X c. c.size)) (λ x.
    mapped (λ f. (
      tally m y.0 x.0 (length f.0),
      record {
        plus = refl;
        zero = refl;
        minus = refl;
        cocircuits = y.1;
        covectors = x.1;
        mutations =
            record { sets = f.0; many = refl; all = f.1 };
      },
    )) (list_possible m)))

pub made_possible : (seed count : ℕ) → IsCount count → IsPossible ((a : Answer) × IsMade seed count a)
made_possible seed count lawful =
    let vs = made_vectors seed count in
    then (chirotope_possible vs (units_span vs refl))
    (λ chirotope. mapped (λ t. (makes vs t.0, made t.0 t.1 (comes_back (signs_map vs) chirotope)))
    (tally_possible (signs_map vs)))
