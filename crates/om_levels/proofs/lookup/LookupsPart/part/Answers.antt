use Rattle.std.proofs.Common.{◌∙◌, ap, sym, get_or, arith}
use Rattle.std.proofs.lemmas.List.Elements.{All-get_or}
use Rattle.om_subsets.specs.Subsets.{choose}
use Rattle.om_localize.specs.Extensions.{IsSignature}
use Rattle.om_localize.proofs.Localizations.{signature_size}
use Rattle.om_levels.proofs.lookup.LookupsPart.part.Goals as goal

pub tries-requires-clause-size : goal.tries-requires-clause-size
tries-requires-clause-size c =
    let s = c.self.inside in
    let signs = c.index-self-k.result in
    signature_size s.chi.now (get_or s.lines.now c.args.k signs)
    (All-get_or (IsSignature s.chi.now) s.lines.now c.args.k signs (let l = c.if-k-self.false in omega arith)
    c.self.invariant.signatures)
    ∙ ap (λ k. choose k 2) (sym c.elements.ensures.value)
