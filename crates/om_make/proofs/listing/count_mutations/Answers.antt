use Rattle.std.specs.Prelude.{ℕ, ◌≡◌, Err, refl}
use Rattle.std.proofs.Common.{ap, arith}
use Rattle.om_subsets.proofs.Table.{choose_most}
use Rattle.om_mutate.specs.declared.mutation_error.MutationError.{MutationError}
use Rattle.om_mutate.specs.declared.mutation_error.MutationError.TheVariants.{NotRank3, Memory}
use Rattle.om_make.proofs.CountLaws.{few_mutations}
use Rattle.om_make.proofs.listing.count_mutations.Goals as goal

pub overflow_cast-result : goal.overflow_cast-result
overflow_cast-result c =
    let few = few_mutations c.args.chi.now c.in-Ok.sets c.in-Ok.ensures.listed in
    let high = c.mutations.ensures.few in
    let most = choose_most c.args.chi.now.elements 3 (omega arith) in
    omega arith

-- the only error that isn't of the rank is of memory
memory_left : (e : MutationError) → ((r : ℕ) → e ≡ NotRank3 r → ⊥) → e ≡ Memory
memory_left (NotRank3 r) three = absurd (three r refl)
memory_left Memory three = refl

pub memory_alone-requires : goal.memory_alone-requires
memory_alone-requires c =
    memory_left c.in-Err.error (λ r is. ((c.in-Err.ensures.rank r).0 (ap Err is)).1 c.requires)
