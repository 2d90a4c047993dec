use Rattle.std.proofs.Common.{sym, ap, ◌∙◌, length}
use Rattle.om_covectors.proofs.DecisionLaws.{all_unblocked, blocked_found, some_blocked}
use Rattle.om_covectors.proofs.elimination.first_blocked.Goals as goal

pub returns-in_err-i-clause-none : goal.returns-in_err-i-clause-none
returns-in_err-i-clause-none g c =
    rw c.from_residual.ensures (all_unblocked c.args.members.now c.args.elements c.in_err-i.ensures)

pub returns-clause-first : goal.returns-clause-first
returns-clause-first g c = blocked_found c.args.members.now c.args.elements c.in_ok-i.i c.in_ok-j.j c.in_ok-j.e
    c.index-members-i.result c.index-members-i.is c.in_ok-i.ensures c.in_ok-j.ensures.first

pub bounds-members-i : goal.bounds-members-i
bounds-members-i g c = c.in_ok-i.ensures.below

pub first_blocked_with-requires : goal.first_blocked_with-requires
first_blocked_with-requires g c = record {
  high = c.requires.high;
  lengths = λ k d l. c.requires.lengths k d l ∙ sym (ap length c.index-members-i.is
      ∙ c.requires.lengths c.in_ok-i.i c.index-members-i.result c.in_ok-i.ensures.below);
}

pub returns-in_err-j : goal.returns-in_err-j
returns-in_err-j g c = absurd
    (some_blocked c.args.members.now c.args.elements c.in_ok-i.i c.index-members-i.result c.index-members-i.is
    c.in_ok-i.ensures c.in_err-j.ensures.none)
