-- What holds of the first bytes of pieces, as the cutter keeps them, holds of the pieces.
--
-- Main results: run_stopped
use Rattle.std.specs.Prelude.{ℕ, ◌≡◌, ◌+◌, ◌≤◌, List, [], ◌∷◌, ◌++◌, map, take, length, Option}
use Rattle.std.proofs.Common.{refl, ap, ◌∙◌, subst, arith, inl, inr}
use Rattle.std.proofs.lemmas.List.{length-take, take_all, length-map}
use Rattle.std.proofs.lemmas.Bool.{cases_lt}
use Rattle.om_signs.specs.declared.limits.TheConstants.{MAX_INPUT}
use Rattle.om_chirotope.specs.Map.{SignMap}
use Rattle.om_document.specs.Document.{IsDocument}
use Rattle.om_lines.specs.Lines.{lines}
use Rattle.om_text.specs.Fault.{IsFault}
use Rattle.om_pieces.specs.Making.{most, made, nothing}
use Rattle.om_pieces.proofs.Feeding.{cut_pieces, has_one_cut}
use Rattle.om_pieces.proofs.Steps.{parted}
use Rattle.om_reply.specs.declared.status.Status.{Status}
use Rattle.om_reply.specs.declared.status.Status.TheVariants.{Done, Refused, Usage, Limit, ReadFault, WriteFault}
use Rattle.om_reply.specs.declared.status.Status.TheVariants.{NoMemory}
use Rattle.om_classification.specs.declared.fault.Fault.{Fault as DocumentFault}
use Rattle.om_classification.specs.declared.line.Line.{Line}
use Rattle.om_classification.specs.declared.line.Line.TheVariants.{Fault}
use Rattle.om_classification.specs.declared.request.ListRequest.{ListRequest}
use Rattle.om_classification.specs.declared.request.Request.{Request}
use Rattle.om_classification.specs.declared.request.Request.TheVariants.{Lists, Least}
use Rattle.om_classification.specs.Answers.{IsAnswer, IsAnswerToFirst, IsAnswerUpToWrong, IsRight, IsStopped}
use Rattle.om_classification.specs.Documents.{IsDocumentOf, IsMember, IsAtFault, long, line, kind, axioms, rank}
use Rattle.om_classification.specs.Lists.{AreDocuments, none, one_more, AreRead, IsEnded, at_end, before, IsWrong}
use Rattle.om_classification.specs.Lists.{empty}
use Rattle.om_classification.specs.Lists.{fault, elements, unfit, gap, IsTextOfAll, IsTextOfFirst, IsTextUpToWrong}
use Rattle.om_classification.specs.LeastMaps.{IsTextOfLeast, IsTextOfFirstLeast, IsTextUpToFault}
use Rattle.om_classification.specs.Texts.{line_text}
use Rattle.om_classification.specs.Runs.{ends, HasRun}

-- ---- one piece

-- a piece of which the first bytes are no more than the limit is all of them
all_kept : (piece : List ℕ) → length (take most piece) ≤ MAX_INPUT → take most piece ≡ piece
all_kept piece short = elim (cases_lt MAX_INPUT (length piece)) [
  | inl l ↦ absurd (let k = length-take most piece in omega (arith, k, l, short))
  | inr s ↦ take_all most piece (omega (arith, s))
]

document_whole : (piece : List ℕ) (m : SignMap) → IsDocumentOf (take most piece) m → IsDocumentOf piece m
document_whole piece m d = subst (λ x. IsDocumentOf x m) (all_kept piece d.short) d

member_whole : (piece : List ℕ) (m : SignMap) → IsMember (take most piece) m → IsMember piece m
member_whole piece m d = record { document = document_whole piece m d.document; axioms = d.axioms; rank = d.rank }

fault_whole : (piece : List ℕ) (why : DocumentFault) → IsAtFault (take most piece) why → IsAtFault piece why
fault_whole piece why (long past) = long (let k = length-take most piece in omega (arith, k, past))
fault_whole piece why (line n c short h) =
    let e = all_kept piece short in
    line n c (subst (λ x. length x ≤ MAX_INPUT) e short) (subst (λ x. IsFault (lines x) n c) e h)
fault_whole piece why (kind d short h other) =
    let e = all_kept piece short in
    kind d (subst (λ x. length x ≤ MAX_INPUT) e short) (subst (λ x. IsDocument (lines x) d) e h) other
fault_whole piece why (axioms m d fails) = axioms m (document_whole piece m d) fails
fault_whole piece why (rank m d meets other) = rank m (document_whole piece m d) meets other

-- ---- pieces

empty_full : {A : Type 0} (x : A) (xs : List A) → ◌≡◌ {A = List A} [] (x ∷ xs) → ⊥
empty_full x xs e = cc

full_empty : {A : Type 0} (x : A) (xs : List A) → ◌≡◌ {A = List A} (x ∷ xs) [] → ⊥
full_empty x xs e = cc

heads : (a b : List ℕ) (xs ys : List (List ℕ)) → ◌≡◌ {A = List (List ℕ)} (a ∷ xs) (b ∷ ys) → a ≡ b
heads a b xs ys e = cc

tails : (a b : List ℕ) (xs ys : List (List ℕ)) → ◌≡◌ {A = List (List ℕ)} (a ∷ xs) (b ∷ ys) → xs ≡ ys
tails a b xs ys e = cc

documents_whole : (fronts pieces : List (List ℕ)) (maps : List SignMap) → fronts ≡ map (take most) pieces
    → AreDocuments fronts maps → AreDocuments pieces maps
documents_whole fronts [] maps e none = none
documents_whole fronts (q ∷ qs) maps e none = absurd (empty_full _ _ e)
documents_whole fronts [] maps e (one_more p ps m ms d ds) = absurd (full_empty _ _ e)
documents_whole fronts (q ∷ qs) maps e (one_more p ps m ms d ds) =
    one_more q qs m ms (member_whole q m (subst (λ x. IsMember x m) (heads _ _ _ _ e) d))
    (documents_whole ps qs ms (tails _ _ _ _ e) ds)

read_whole : (r : ListRequest) (fronts pieces : List (List ℕ)) (lists : List (List SignMap)) (maps : List SignMap)
    → fronts ≡ map (take most) pieces → AreRead r fronts lists maps → AreRead r pieces lists maps
read_whole r fronts pieces lists maps e h =
    record { documents = documents_whole fronts pieces _ e h.documents; shown = h.shown }

ended_whole : (n : ℕ) (fronts pieces : List (List ℕ)) → fronts ≡ map (take most) pieces → IsEnded n fronts
    → IsEnded n pieces
ended_whole n fronts [] e at_end = at_end
ended_whole n fronts (q ∷ qs) e at_end = absurd (empty_full _ _ e)
ended_whole n fronts [] e (before p ps m d size) = absurd (full_empty _ _ e)
ended_whole n fronts (q ∷ qs) e (before p ps m d size) =
    before q qs m (member_whole q m (subst (λ x. IsMember x m) (heads _ _ _ _ e) d)) size

wrong_whole : (r : ListRequest) (lists : List (List SignMap)) (maps : List SignMap) (k : ℕ)
    (fronts pieces : List (List ℕ))
    (l : Line) → fronts ≡ map (take most) pieces → IsWrong r lists maps k fronts l → IsWrong r lists maps k pieces l
wrong_whole r lists maps k fronts [] l e (empty first) = empty first
wrong_whole r lists maps k fronts (q ∷ qs) l e (empty first) = absurd (empty_full _ _ e)
wrong_whole r lists maps k fronts [] l e (fault p ps why d) = absurd (full_empty _ _ e)
wrong_whole r lists maps k fronts (q ∷ qs) l e (fault p ps why d) =
    fault q qs why (fault_whole q why (subst (λ x. IsAtFault x why) (heads _ _ _ _ e) d))
wrong_whole r lists maps k fronts [] l e (elements p ps m d other) = absurd (full_empty _ _ e)
wrong_whole r lists maps k fronts (q ∷ qs) l e (elements p ps m d other) =
    elements q qs m (member_whole q m (subst (λ x. IsMember x m) (heads _ _ _ _ e) d)) other
wrong_whole r lists maps k fronts [] l e (unfit p ps m why d size h) = absurd (full_empty _ _ e)
wrong_whole r lists maps k fronts (q ∷ qs) l e (unfit p ps m why d size h) =
    unfit q qs m why (member_whole q m (subst (λ x. IsMember x m) (heads _ _ _ _ e) d)) size h
wrong_whole r lists maps k fronts pieces l e (gap left why over h) = gap pieces why (ended_whole _ left pieces e over) h

-- ---- texts

lists_whole : (r : ListRequest) (pieces : List (List ℕ)) (text : List ℕ) → IsTextOfAll r (map (take most) pieces) text
    → IsTextOfAll r pieces text
lists_whole r pieces text h =
    record { lists = h.lists; some = h.some; read = read_whole r _ pieces h.lists [] refl h.read; lines = h.lines }

first_lists_whole : (r : ListRequest) (pieces : List (List ℕ)) (text : List ℕ)
    → IsTextOfFirst r (map (take most) pieces) text
    → IsTextOfFirst r pieces text
first_lists_whole r pieces text h =
    let p = parted pieces h.front h.left h.parts in
    record {
      lists = h.lists;
      maps = h.maps;
      front = p.first;
      left = p.last;
      parts = p.whole;
      read = read_whole r h.front p.first h.lists h.maps p.front h.read;
      lines = h.lines;
    }

wrong_lists_whole : (r : ListRequest) (pieces : List (List ℕ)) (t : Status) (text : List ℕ)
    → IsTextUpToWrong r (map (take most) pieces) t text → IsTextUpToWrong r pieces t text
wrong_lists_whole r pieces t text h =
    let p = parted pieces h.front h.left h.parts in
    let count : length h.front ≡ length p.first = ap length p.front ∙ length-map p.first (take most) in
    record {
      lists = h.lists;
      maps = h.maps;
      front = p.first;
      left = p.last;
      line = h.line;
      parts = p.whole;
      read = read_whole r h.front p.first h.lists h.maps p.front h.read;
      wrong = wrong_whole r h.lists h.maps (length p.first) h.left p.last h.line p.behind
          (subst (λ k. IsWrong r h.lists h.maps k h.left h.line) count h.wrong);
      status = h.status;
      lines = h.lines;
    }

-- ---- least maps

least_whole : (fronts pieces : List (List ℕ)) (text : List ℕ) → fronts ≡ map (take most) pieces
    → IsTextOfLeast fronts text → IsTextOfLeast pieces text
least_whole fronts pieces text e h =
    record {
      maps = h.maps;
      least = h.least;
      documents = documents_whole fronts pieces h.maps e h.documents;
      images = h.images;
      written = h.written;
    }

first_least_whole : (pieces : List (List ℕ)) (text : List ℕ) → IsTextOfFirstLeast (map (take most) pieces) text
    → IsTextOfFirstLeast pieces text
first_least_whole pieces text h =
    let p = parted pieces h.front h.left h.parts in
    record { front = p.first; left = p.last; parts = p.whole; first = least_whole h.front p.first text p.front h.first }

-- what is at fault with the first bytes of a piece is so with the piece
fault_behind : (front pieces last left : List (List ℕ)) (piece head text : List ℕ) (why : DocumentFault) (t : Status)
    → pieces ≡ front ++ last → piece ∷ left ≡ map (take most) last → IsTextOfLeast front head
    → IsAtFault piece why → t ≡ Refused → text ≡ head ++ line_text (Fault (length front + 1) why)
    → IsTextUpToFault pieces t text
fault_behind front pieces [] left piece head text why t parts e first bad status written = absurd (full_empty _ _ e)
fault_behind front pieces (q ∷ qs) left piece head text why t parts e first bad status written =
    record {
      front = front;
      piece = q;
      left = qs;
      why = why;
      before = head;
      parts = parts;
      first = first;
      fault = fault_whole q why (subst (λ x. IsAtFault x why) (heads _ _ _ _ e) bad);
      status = status;
      lines = written;
    }

fault_least_whole : (pieces : List (List ℕ)) (t : Status) (text : List ℕ)
    → IsTextUpToFault (map (take most) pieces) t text → IsTextUpToFault pieces t text
fault_least_whole pieces t text h =
    let p = parted pieces h.front (h.piece ∷ h.left) h.parts in
    let count : length h.front ≡ length p.first = ap length p.front ∙ length-map p.first (take most) in
    fault_behind p.first pieces p.last h.left h.piece h.before text h.why t p.whole p.behind
    (least_whole h.front p.first h.before p.front h.first) h.fault h.status
    (h.lines ∙ ap (λ k. h.before ++ line_text (Fault (k + 1) h.why)) count)

-- ---- answers

all_whole : (r : Request) (pieces : List (List ℕ)) (text : List ℕ) → IsAnswer r (map (take most) pieces) text
    → IsAnswer r pieces text
all_whole (Lists r) pieces text h = lists_whole r pieces text h
all_whole Least pieces text h = least_whole _ pieces text refl h

first_whole : (r : Request) (pieces : List (List ℕ)) (text : List ℕ)
    → IsAnswerToFirst r (map (take most) pieces) text → IsAnswerToFirst r pieces text
first_whole (Lists r) pieces text h = first_lists_whole r pieces text h
first_whole Least pieces text h = first_least_whole pieces text h

refused_whole : (r : Request) (pieces : List (List ℕ)) (t : Status) (text : List ℕ)
    → IsAnswerUpToWrong r (map (take most) pieces) t text → IsAnswerUpToWrong r pieces t text
refused_whole (Lists r) pieces t text h = wrong_lists_whole r pieces t text h
refused_whole Least pieces t text h = fault_least_whole pieces t text h

right_whole : (r : Request) (pieces : List (List ℕ)) (text : List ℕ) → IsRight r (map (take most) pieces) text
    → IsRight r pieces text
right_whole r pieces text (inl h) = inl (first_whole r pieces text h)
right_whole r pieces text (inr (t, h)) = inr (t, refused_whole r pieces t text h)

-- ---- runs

stopped_whole : (r : Request) (pieces : List (List ℕ)) (t : Status) (o p : Option (List ℕ))
    → IsStopped r (map (take most) pieces) t o p → IsStopped r pieces t o p
stopped_whole r pieces Done o p (text, (h, w)) = (text, (all_whole r pieces text h, w))
stopped_whole r pieces Refused o p (text, (h, w)) = (text, (refused_whole r pieces Refused text h, w))
stopped_whole r pieces Usage o p h = absurd h
stopped_whole r pieces Limit o p (text, (h, w)) = (text, (refused_whole r pieces Limit text h, w))
stopped_whole r pieces ReadFault o p (text, (h, w)) = (text, (first_whole r pieces text h, w))
stopped_whole r pieces NoMemory o p (text, (h, w)) = (text, (first_whole r pieces text h, w))
stopped_whole r pieces WriteFault o p (text, (h, w)) = (text, (right_whole r pieces text h, w))

pub run_stopped : (r : Request) (bytes : List ℕ) (t : Status) (o p : Option (List ℕ))
    → IsStopped r (made (nothing ends) bytes) t o p → HasRun r bytes t o p
run_stopped r bytes t o p h =
    let cut = has_one_cut ends bytes (omega arith) in (
      cut.0,
      (
        cut.1.0,
        stopped_whole r cut.0 t o p
            (subst (λ x. IsStopped r x t o p) (cut_pieces ends bytes cut.0 cut.1.0) h),
      ),
    )
