-- Maps that are made sign by sign, in the order of the sets.
use Rattle.std.proofs.Common.{ℕ, List, ◌≡◌, ◌∙◌, map}
use Rattle.om_signs.specs.declared.sign.Sign.{Sign}
use Rattle.om_subsets.specs.Subsets.{all_subsets}
use Rattle.om_chirotope.specs.Map.{SignMap}
use Rattle.om_denotation.specs.Maps.{map_by}

-- once the signs of all sets are made by a rule, the map with these signs is the map by the rule
pub made_map : (rule : List ℕ → Sign) {rank elements : ℕ} (r n : ℕ) (signs : List Sign)
    → signs ≡ map rule (all_subsets n r) → n ≡ elements → r ≡ rank
    → ◌≡◌ {A = SignMap} (record { rank = r; elements = n; signs = signs }) (map_by rank elements rule)
made_map rule {rank} {elements} r n signs made qn qr =
    let same : ◌≡◌ {A = SignMap} (record { rank = r; elements = n; signs = signs }) (map_by r n rule) =
    (λ i. record { rank = r; elements = n; signs = made i }) in
    same ∙ (λ i. map_by (qr i) (qn i) rule)
