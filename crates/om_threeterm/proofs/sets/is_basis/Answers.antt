use Rattle.std.proofs.Common.{sym, subst, ◌∙◌}
use Rattle.om_subsets.specs.Subsets.{IsSubsetFrom}
use Rattle.om_threeterm.proofs.sets.is_basis.Goals as goal

pub returns : goal.returns
returns c = (
  λ t. record {
    list = subst (λ n. IsSubsetFrom 1 n c.args.s.elements) c.requires.n c.sign_at.ensures.list;
    size = c.requires.size;
    nonzero = λ zero. c.is_nonzero.ensures.0 t (c.sign_at.ensures.value ∙ zero);
  },
  λ basis. c.is_nonzero.ensures.1 (λ zero. basis.nonzero (sym c.sign_at.ensures.value ∙ zero)),
)
