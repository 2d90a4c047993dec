-- Documents of maps that are in form.
--
-- Main results: map_form: a map within the limits is the map of a document in form; rank3_form: so is each one of rank
-- 3.
use Rattle.std.specs.Prelude.{◌≡◌, ◌≤◌, refl}
use Rattle.std.proofs.Common.{inl}
use Rattle.om_signs.specs.declared.limits.TheConstants.{MAX_ELEMENTS, MAX_VALUES}
use Rattle.om_subsets.specs.Subsets.{choose}
use Rattle.om_chirotope.specs.Map.{SignMap, IsMap}
use Rattle.om_chirotope.proofs.FewValues.{few_of_rank3}
use Rattle.om_document.specs.Form.{IsInForm}
use Rattle.om_representation.specs.Documents.{map_document}

pub map_form : (m : SignMap) → IsMap m → 1 ≤ m.elements → m.elements ≤ MAX_ELEMENTS
    → choose m.elements m.rank ≤ MAX_VALUES → IsInForm (map_document m)
map_form m whole low high few = record {
  low = low;
  high = high;
  body = record { elements = refl; rank = whole.part; signs = whole.whole; few = few };
  names = inl refl;
}

pub rank3_form : (m : SignMap) → IsMap m → m.rank ≡ 3 → 1 ≤ m.elements → m.elements ≤ MAX_ELEMENTS
    → IsInForm (map_document m)
rank3_form m whole three low high = map_form m whole low high (few_of_rank3 m three high)
