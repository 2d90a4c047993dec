use Rattle.std.proofs.Common.{length, length-take, ap, subst, ◌∙◌, arith}
use Rattle.std.specs.Prelude.{◌≡◌, Err, refl}
use Rattle.om_vectors.specs.Realizations.{IsRankLow, signs_map}
use Rattle.om_vectors.specs.declared.signs_error.SignsError.{SignsError}
use Rattle.om_vectors.specs.declared.signs_error.SignsError.TheVariants.{RankLow, Memory}
use Rattle.om_make.proofs.GeneratorLaws.{units_span}
use Rattle.om_make.proofs.summarizing.chirotope_of.Goals as goal

-- the only error that isn't of the rank is of memory
memory_left : (e : SignsError) → (e ≡ RankLow → ⊥) → e ≡ Memory
memory_left RankLow high = absurd (high refl)
memory_left Memory high = refl

pub memory_alone-requires : goal.memory_alone-requires
memory_alone-requires c = memory_left c.in-Err.error (λ low. units_span c.args.vectors.now c.requires
    (subst IsRankLow c.as_slice.ensures.value (c.in-Err.ensures.rank_low.0 (ap Err low))))

pub signs_of-requires-clause-low : goal.signs_of-requires-clause-low
signs_of-requires-clause-low c =
    let three = ap length c.requires in
    let front = length-take 3 c.args.vectors.now in
    let same = ap length c.as_slice.ensures.value in
    omega (arith, three, front, same)

pub signs_of-requires-clause-high : goal.signs_of-requires-clause-high
signs_of-requires-clause-high c =
    let few = c.as_slice.ensures.few in
    let same = ap length c.as_slice.ensures.value in
    omega (arith, few, same)

pub returns-in-Ok : goal.returns-in-Ok
returns-in-Ok c = c.in-Ok.ensures.value ∙ ap signs_map c.as_slice.ensures.value
