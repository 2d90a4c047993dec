use Rattle.std.specs.Prelude.{Err}
use Rattle.std.proofs.Common.{ap}
use Rattle.om_mutate.specs.declared.mutation_error.MutationError.TheVariants.{NotRank3}
use Rattle.om_plane.specs.MutationLists.{other_rank, listed}
use Rattle.om_plane.proofs.RankThreeLaws.{of_rank3, no_error}
use Rattle.om_plane.proofs.mutation_list.list_mutations_of.Goals as goal

pub returns-in-Ok : goal.returns-in-Ok
returns-in-Ok c =
    listed _ (of_rank3 c.args.chirotope.now c.mutations.result NotRank3 c.mutations.ensures.rank
    (λ r. no_error _ (NotRank3 r) _ c.in-Ok.is)) c.in-Ok.ensures.listed

pub returns-in-Err-NotRank3 : goal.returns-in-Err-NotRank3
returns-in-Err-NotRank3 c =
    let other = (c.in-Err-NotRank3.ensures.rank c.in-Err-NotRank3.r).0 (ap Err c.in-Err-NotRank3.field-0-is) in
    rw other.0 (other_rank other.1)
