-- The kind line that is printed, as it is read.
--
-- Main definitions: kind_of_body, head_of, IsKindLine
-- Main results: kind_line_read
use Rattle.std.proofs.Common.{◌≡◌, ℕ, ◌<◌, ◌≤◌, ◌^◌, List, [], ◌∷◌, true, refl, ap, ◌∙◌, arith}
use Rattle.std.specs.Prelude.{codes, decimal, Some, option_and_then}
use Rattle.std.proofs.lemmas.Bool.{le-leb}
use Rattle.om_signs.specs.declared.limits.TheConstants.{MAX_ELEMENTS, MAX_VALUES}
use Rattle.om_subsets.specs.Subsets.{choose}
use Rattle.om_document.specs.declared.document.Document.{Document}
use Rattle.om_document.specs.declared.body.Body.{Body}
use Rattle.om_document.specs.declared.body.Body.TheVariants.{Chirotope, Circuits, Cocircuits, Covectors, Wiring, Points}
use Rattle.om_document.specs.declared.document_kind.DocumentKind.{DocumentKind}
use Rattle.om_document.specs.declared.document_kind.DocumentKind.TheVariants as kinds
use Rattle.om_lines.specs.Lines.{has_any, words}
use Rattle.om_document.specs.Heading.{kind_name, kind_of, heading, headed, opened, rank_of_body, has_elements, has_rank}
use Rattle.om_document.specs.Heading.{has_size}
use Rattle.om_document.specs.Form.{IsInForm, IsBodyOn}
use Rattle.om_document.specs.Print.{kind_text}
use Rattle.om_document.proofs.Feeds.{is_one_line}
use Rattle.om_document.proofs.Numerals.{IsNumber, number_word}
use Rattle.om_document.proofs.Texts.{words_two, words_three, two_one_line, three_one_line}

-- the kind of a body
abbrev pub kind_of_body : Body → DocumentKind
kind_of_body (Chirotope m) = kinds.Chirotope
kind_of_body (Circuits ms) = kinds.Circuits
kind_of_body (Cocircuits ms) = kinds.Cocircuits
kind_of_body (Covectors ms) = kinds.Covectors
kind_of_body (Wiring bs) = kinds.Wiring
kind_of_body (Points ps) = kinds.Points

-- the empty document that the kind line of a document opens
abbrev pub head_of : Document → Document
head_of d = headed (kind_of_body d.body) (rank_of_body d.body, d.elements)

-- the kind line of d is read as the words that open head
pub record IsKindLine (d head : Document) : Type 0 where
  pub kind_words : List (List ℕ)
  pub kind : words (kind_text d) ≡ kind_words
  pub any : has_any kind_words ≡ true
  pub one_line : is_one_line (kind_text d) ≡ true
  pub opens : heading kind_words ≡ Some head
  pub elements : has_elements head ≡ true
  pub rank : has_rank head ≡ true
  pub size : has_size head ≡ true

opens_list : (w : List ℕ) (k : DocumentKind) (n : ℕ) → IsNumber n → kind_of w ≡ Some k
    → opened k (decimal n ∷ []) ≡ Some (headed k (0, n)) → heading (w ∷ decimal n ∷ []) ≡ Some (headed k (0, n))
opens_list w k n h m o = ap (option_and_then (λ k. opened k (decimal n ∷ []))) m ∙ o

numbers_small : (n r : ℕ) → n ≤ MAX_ELEMENTS → r ≤ n → r < 10 ^ 6
numbers_small n r h l = omega arith

line_read : (n : ℕ) (b : Body) (names : List (List ℕ)) → 1 ≤ n → n ≤ MAX_ELEMENTS → IsBodyOn n b
    → IsKindLine (record { elements = n; body = b; names = names }) (headed (kind_of_body b) (rank_of_body b, n))
line_read n (Chirotope m) names low high f =
    let hr = number_word m.rank (numbers_small n m.rank high f.rank) in
    let hn = number_word n (numbers_small n n high (omega arith)) in
    record {
      kind_words = codes "chirotope" ∷ decimal m.rank ∷ decimal n ∷ [];
      kind = words_three (codes "chirotope") (decimal m.rank) (decimal n) refl refl hr.bytes hr.any hn.bytes hn.any;
      any = refl;
      one_line = three_one_line (codes "chirotope") (decimal m.rank) (decimal n) refl hr.bytes hn.bytes;
      opens = rw (hr.value, hn.value) refl;
      elements = rw (le-leb 1 n low, le-leb n MAX_ELEMENTS high) refl;
      rank = le-leb m.rank n f.rank;
      size = le-leb (choose n m.rank) MAX_VALUES f.few;
    }
line_read n b names low high f =
    let k = number_word n (numbers_small n n high (omega arith)) in
    record {
      kind_words = kind_name b ∷ decimal n ∷ [];
      kind = words_two (kind_name b) (decimal n) refl refl k.bytes k.any;
      any = refl;
      one_line = two_one_line (kind_name b) (decimal n) refl k.bytes;
      opens = opens_list (kind_name b) (kind_of_body b) n k refl (rw k.value refl);
      elements = rw (le-leb 1 n low, le-leb n MAX_ELEMENTS high) refl;
      rank = le-leb 0 n (omega arith);
      size = refl;
    }

pub kind_line_read : (d : Document) → IsInForm d → IsKindLine d (head_of d)
kind_line_read d f = line_read d.elements d.body d.names f.low f.high f.body
