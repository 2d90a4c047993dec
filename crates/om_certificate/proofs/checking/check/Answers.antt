use Rattle.std.proofs.Common.{sym, ◌∙◌, Err}
use Rattle.om_certificate.specs.declared.evidence.Evidence.TheVariants.{Vectors, Balanced, Weights}
use Rattle.om_certificate.specs.declared.cert_refused.CertRefused.TheVariants.{NotRank3}
use Rattle.om_certificate.proofs.Refusing.{settled_refused, matched_accepted, matched_refused, matched_shown}
use Rattle.om_certificate.proofs.Refusing.{rank_refused}
use Rattle.om_certificate.proofs.checking.check.Goals as goal

pub returns-then-rank-ne3-clause-refused : goal.returns-then-rank-ne3-clause-refused
returns-then-rank-ne3-clause-refused c =
    settled_refused c.args.chi.now c.args.evidence.now (Err (NotRank3 c.rank-then-rank-ne3.result)) tt
    (rank_refused c.args.chi.now c.args.evidence.now c.rank-then-rank-ne3.result c.rank-then-rank-ne3.ensures.value
    (λ e. c.if-rank-ne3.true (c.rank.ensures.value ∙ e)))

pub returns-in-Vectors-clause-accepted : goal.returns-in-Vectors-clause-accepted
returns-in-Vectors-clause-accepted c =
    matched_accepted c.args.chi.now c.args.evidence.now (Vectors c.in-Vectors.word) c.in-Vectors.is
    c.check_vectors.result (sym c.rank.ensures.value ∙ c.if-rank-ne3.false)
    c.check_vectors.ensures.accepted
    c.check_vectors.ensures.refused

pub returns-in-Vectors-clause-refused : goal.returns-in-Vectors-clause-refused
returns-in-Vectors-clause-refused c =
    matched_refused c.args.chi.now c.args.evidence.now (Vectors c.in-Vectors.word) c.in-Vectors.is
    c.check_vectors.result (sym c.rank.ensures.value ∙ c.if-rank-ne3.false)
    c.check_vectors.ensures.accepted
    c.check_vectors.ensures.refused

pub returns-in-Balanced-clause-accepted : goal.returns-in-Balanced-clause-accepted
returns-in-Balanced-clause-accepted c =
    matched_accepted c.args.chi.now c.args.evidence.now (Balanced c.in-Balanced.entries) c.in-Balanced.is
    c.check_entries.result (sym c.rank.ensures.value ∙ c.if-rank-ne3.false)
    (rw (← c.as_slice.ensures) c.check_entries.ensures.accepted)
    (rw (← c.as_slice.ensures) c.check_entries.ensures.refused)

pub returns-in-Balanced-clause-refused : goal.returns-in-Balanced-clause-refused
returns-in-Balanced-clause-refused c =
    matched_refused c.args.chi.now c.args.evidence.now (Balanced c.in-Balanced.entries) c.in-Balanced.is
    c.check_entries.result (sym c.rank.ensures.value ∙ c.if-rank-ne3.false)
    (rw (← c.as_slice.ensures) c.check_entries.ensures.accepted)
    (rw (← c.as_slice.ensures) c.check_entries.ensures.refused)

pub returns-in-Balanced-clause-shown : goal.returns-in-Balanced-clause-shown
returns-in-Balanced-clause-shown c =
    matched_shown c.args.chi.now c.args.evidence.now (Balanced c.in-Balanced.entries) c.in-Balanced.is
    c.check_entries.result (sym c.rank.ensures.value ∙ c.if-rank-ne3.false)
    (rw (← c.as_slice.ensures) c.check_entries.ensures.accepted)
    (rw (← c.as_slice.ensures) c.check_entries.ensures.refused)

pub returns-in-Weights-clause-accepted : goal.returns-in-Weights-clause-accepted
returns-in-Weights-clause-accepted c =
    matched_accepted c.args.chi.now c.args.evidence.now (Weights c.in-Weights.weights) c.in-Weights.is
    c.check_weights.result (sym c.rank.ensures.value ∙ c.if-rank-ne3.false)
    (rw (← c.as_slice-in-Weights.ensures) c.check_weights.ensures.accepted)
    (rw (← c.as_slice-in-Weights.ensures) c.check_weights.ensures.refused)

pub returns-in-Weights-clause-refused : goal.returns-in-Weights-clause-refused
returns-in-Weights-clause-refused c =
    matched_refused c.args.chi.now c.args.evidence.now (Weights c.in-Weights.weights) c.in-Weights.is
    c.check_weights.result (sym c.rank.ensures.value ∙ c.if-rank-ne3.false)
    (rw (← c.as_slice-in-Weights.ensures) c.check_weights.ensures.accepted)
    (rw (← c.as_slice-in-Weights.ensures) c.check_weights.ensures.refused)

pub returns-in-Weights-clause-shown : goal.returns-in-Weights-clause-shown
returns-in-Weights-clause-shown c =
    matched_shown c.args.chi.now c.args.evidence.now (Weights c.in-Weights.weights) c.in-Weights.is
    c.check_weights.result (sym c.rank.ensures.value ∙ c.if-rank-ne3.false)
    (rw (← c.as_slice-in-Weights.ensures) c.check_weights.ensures.accepted)
    (rw (← c.as_slice-in-Weights.ensures) c.check_weights.ensures.refused)
