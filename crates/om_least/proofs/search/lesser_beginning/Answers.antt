use Rattle.std.proofs.Common.{◌∙◌, length, sym, ap, subst}
use Rattle.om_least.specs.Beginnings.{IsBeginning, first_signs, first_image_signs}
use Rattle.om_least.proofs.Entries.{tied_at_start, nothing_listed}
use Rattle.om_least.proofs.search.lesser_beginning.Goals as goal

pub lesser_behind-requires-clause-begun : goal.lesser_behind-requires-clause-begun
lesser_behind-requires-clause-begun c =
    subst (IsBeginning c.args.chi.now.elements) (sym c.empty.ensures) (nothing_listed c.args.chi.now.elements)

pub lesser_behind-requires-clause-tied : goal.lesser_behind-requires-clause-tied
lesser_behind-requires-clause-tied c =
    let m = c.args.chi.now in
    ap (first_image_signs m) c.empty.ensures ∙ tied_at_start m
    ∙ sym (ap (λ w. first_signs m (length w)) c.empty.ensures)
