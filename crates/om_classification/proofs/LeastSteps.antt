-- One document more whose least map is written.
--
-- Main results: least_written
use Rattle.std.specs.Prelude.{ℕ, ◌≡◌, ◌+◌, List, [], ◌∷◌, ◌++◌}
use Rattle.std.proofs.Common.{sym, ap, ◌∙◌, append_assoc, append-nil, length-append, arith}
use Rattle.std.proofs.lemmas.List.Concat.{flat_map-append}
use Rattle.om_chirotope.specs.Map.{SignMap}
use Rattle.om_document.specs.Print.{printed, unnamed_map}
use Rattle.om_least.specs.Least.{IsLeast}
use Rattle.om_symmetry.specs.Permutations.{AreIsomorphic}
use Rattle.om_classification.specs.Documents.{IsMember}
use Rattle.om_classification.specs.LeastMaps.{AreLeastMaps, no_map, next_map, documents_text, IsLeastBetween}
use Rattle.om_classification.proofs.Steps.{more_documents}

abbrev document_text : SignMap → List ℕ
document_text m = printed (unnamed_map m.rank m.elements m.signs)

more_least : (maps least : List SignMap) (m k : SignMap) → AreLeastMaps maps least → AreIsomorphic m k → IsLeast k
    → AreLeastMaps (maps ++ m ∷ []) (least ++ k ∷ [])
more_least maps least m k no_map i l = next_map m k [] [] i l no_map
more_least maps least m k (next_map a b xs ys j n rest) i l =
    next_map a b (xs ++ m ∷ []) (ys ++ k ∷ []) j n (more_least xs ys m k rest i l)

more_text : (least : List SignMap) (k : SignMap)
    → documents_text (least ++ k ∷ []) ≡ documents_text least ++ document_text k
more_text least k =
    flat_map-append document_text least (k ∷ []) ∙ ap (λ t. documents_text least ++ t) (append-nil (document_text k))

pub least_written : (all : List (List ℕ)) (text : List ℕ) (n d : ℕ) (piece : List ℕ) (left : List (List ℕ))
    (m k : SignMap) (more : List ℕ) → IsLeastBetween all text n (piece ∷ left) → IsMember piece m → AreIsomorphic m k
    → IsLeast k → more ≡ document_text k → d ≡ n + 1 → IsLeastBetween all (text ++ more) d left
least_written all text n d piece left m k more b member iso least e count =
    record {
      front = b.front ++ piece ∷ [];
      parts = b.parts ∙ sym (append_assoc b.front (piece ∷ []) left);
      first = record {
        maps = b.first.maps ++ m ∷ [];
        least = b.first.least ++ k ∷ [];
        documents = more_documents b.front b.first.maps piece m b.first.documents member;
        images = more_least b.first.maps b.first.least m k b.first.images iso least;
        written = ap (λ t. t ++ more) b.first.written ∙ ap (λ t. documents_text b.first.least ++ t) e
            ∙ sym (more_text b.first.least k);
      };
      count = (let l = length-append b.front (piece ∷ []) in let c = b.count in omega (arith, l, c, count));
    }
