-- The lines that the reader's loop has read, and what follows where it stops.
--
-- Main definitions: IsRead
-- Main results: read_start, read_more, read_outcome, read_fault, read_part
use Rattle.std.proofs.Common.{◌≡◌, ◌⊎◌, inl, inr, ℕ, ◌+◌, ◌-◌, ◌<◌, ◌≤◌, min, List, [], ◌∷◌, ◌++◌, Bool, true, false}
use Rattle.std.proofs.Common.{length, take, drop, refl, sym, ap, subst, ◌∙◌, arith, append_assoc, append-nil}
use Rattle.std.proofs.Common.{length-append}
use Rattle.std.specs.Prelude.{Ok, Err}
use Rattle.std.specs.List.{list_all}
use Rattle.std.proofs.lemmas.Bool.{and_parts}
use Rattle.std.proofs.lemmas.List.{take_all, drop_all}
use Rattle.std.proofs.Math.Seq.{drop-append_seam, take-append_seam}
use Rattle.om_document.specs.declared.document.Document.{Document}
use Rattle.om_document.specs.declared.code.Code.{Code}
use Rattle.om_text.specs.declared.state.State.{State}
use Rattle.om_text.specs.declared.state.State.TheVariants.{Start, Closed}
use Rattle.om_lines.specs.Lines.{lines, wordful, IsSplit}
use Rattle.om_document.specs.Document.{IsDocument}
use Rattle.om_text.specs.Fault.{IsFault}
use Rattle.om_text.specs.Part.{EndsWithEnd, IsDocumentAtFront}
use Rattle.om_document.specs.Print.{text_of}
use Rattle.om_text.specs.Reading.{advance, is_closed, outcome}
use Rattle.om_document.proofs.Feeds.{is_one_line, lines_text, lines_one_line, one_line-append}
use Rattle.om_text.proofs.Course.{run_words}
use Rattle.om_document.proofs.Printing.{text_of-append}
use Rattle.om_text.proofs.Outcome.{fault_from, run_document, run_next, outcome_run}
use Rattle.om_text.proofs.DocumentEnds.{line_closes}

-- ---- what the loop keeps

-- the first n lines of the bytes lead to the state, and rest is what is left; if the reader is to stop at the end line,
-- a closed state has this line as its last one
pub record IsRead (bytes rest : List ℕ) (s : State) (n : ℕ) (stops : Bool) : Type 0 where
  pub front : List (List ℕ)
  pub one_line : list_all is_one_line front ≡ true
  pub count : length front ≡ n
  pub run : run_words Start (wordful front) ≡ Ok s
  pub left : lines bytes ≡ front ++ lines rest
  pub size : length bytes ≡ length rest + min (length bytes) (length (text_of front))
  pub feeds : (bytes ≡ text_of front ++ rest) ⊎ (rest ≡ [])
  pub last : stops ≡ true → is_closed s ≡ true → EndsWithEnd front

pub read_start : (bytes : List ℕ) (stops : Bool) → IsRead bytes bytes Start 0 stops
read_start bytes stops =
    record {
      front = [];
      one_line = refl;
      count = refl;
      run = refl;
      left = refl;
      size = omega arith;
      feeds = inl refl;
      last = λ a e. cc;
    }

-- the first line is one line
first_one_line : (rest line after : List ℕ) → lines rest ≡ line ∷ lines after → is_one_line line ≡ true
first_one_line rest line after h =
    (and_parts (is_one_line line) (list_all is_one_line (lines after))
    (sym (ap (list_all is_one_line) h) ∙ lines_one_line rest)).0

record IsLonger (bytes rest line after : List ℕ) (front : List (List ℕ)) : Type 0 where
  size : length bytes ≡ length after + min (length bytes) (length (text_of (front ++ line ∷ [])))
  feeds : (bytes ≡ text_of (front ++ line ∷ []) ++ after) ⊎ (after ≡ [])

text_more : (front : List (List ℕ)) (line : List ℕ) → text_of (front ++ line ∷ []) ≡ text_of front ++ (line ++ 10 ∷ [])
text_more front line = text_of-append front (line ∷ [])

longer : (bytes rest line after : List ℕ) (front : List (List ℕ)) → bytes ≡ text_of front ++ rest
    → IsSplit rest line after → IsLonger bytes rest line after front
longer bytes rest line after front e (inl h) =
    let t = text_more front line in
    let q : bytes ≡ text_of (front ++ line ∷ []) ++ after = e ∙ ap (λ x. text_of front ++ x) h
    ∙ ap (λ x. text_of front ++ x) (sym (append_assoc line (10 ∷ []) after))
    ∙ sym (append_assoc (text_of front) (line ++ 10 ∷ []) after) ∙ ap (λ x. x ++ after) (sym t) in
    record { size = omega (arith, ap length q, length-append (text_of (front ++ line ∷ [])) after); feeds = inl q }
longer bytes rest line after front e (inr (h, z)) =
    let t = text_more front line in
    let a = length-append (text_of front) rest in
    let b = length-append (text_of front) (line ++ 10 ∷ []) in
    let c = length-append line (10 ∷ []) in
    record { size = omega (arith, ap length e, ap length h, ap length z, ap length t, a, b, c); feeds = inr z }

-- bytes are left
in_front : (bytes rest : List ℕ) (front : List (List ℕ)) → 0 < length rest → (bytes ≡ text_of front ++ rest)
    ⊎ (rest ≡ []) → bytes ≡ text_of front ++ rest
in_front bytes rest front l (inl e) = e
in_front bytes rest front l (inr e) = absurd (omega (arith, ap length e))

pub read_more : (bytes rest line after : List ℕ) (s t : State) (n : ℕ) (stops : Bool) → IsRead bytes rest s n stops
    → 0 < length rest → (stops ≡ true → is_closed s ≡ false) → lines rest ≡ line ∷ lines after → IsSplit rest line after
    → advance s line ≡ Ok t → IsRead bytes after t (n + 1) stops
read_more bytes rest line after s t n stops r l u e f h =
    let m = longer bytes rest line after r.front (in_front bytes rest r.front l r.feeds) f in
    let one : list_all is_one_line (line ∷ []) ≡ true = rw (first_one_line rest line after e) refl in
    record {
      front = r.front ++ line ∷ [];
      one_line = one_line-append r.front (line ∷ []) r.one_line one;
      count = omega (arith, length-append r.front (line ∷ []), r.count);
      run = run_next r.front line s r.run ∙ h;
      left = r.left ∙ ap (λ x. r.front ++ x) e ∙ sym (append_assoc r.front (line ∷ []) (lines after));
      size = m.size;
      feeds = m.feeds;
      last = λ a c. record { before = r.front; line = line; lines = refl; words = line_closes s t line (u a) h c };
    }

-- ---- what follows from it

pub read_outcome : (bytes rest : List ℕ) (s : State) (n : ℕ) (stops : Bool) → IsRead bytes rest s n stops
    → outcome Start 0 (lines bytes) ≡ outcome s n (lines rest)
read_outcome bytes rest s n stops r = ap (outcome Start 0) r.left ∙ outcome_run r.front (lines rest) s r.run
    ∙ ap (λ k. outcome s k (lines rest)) r.count

pub read_fault : (bytes rest : List ℕ) (s : State) (n m : ℕ) (c : Code) (stops : Bool) → IsRead bytes rest s n stops
    → outcome s n (lines rest) ≡ Err (m, c) → IsFault (lines bytes) m c
read_fault bytes rest s n m c stops r h = fault_from (lines bytes) m c (read_outcome bytes rest s n stops r ∙ h)

-- the bytes of the lines so far, and the other bytes
record IsCut (bytes rest : List ℕ) (front : List (List ℕ)) (k : ℕ) : Type 0 where
  lines_before : lines (take k bytes) ≡ front
  bytes_after : drop k bytes ≡ rest

cut : (bytes rest : List ℕ) (front : List (List ℕ)) (k : ℕ) → list_all is_one_line front ≡ true
    → lines bytes ≡ front ++ lines rest → k + length rest ≡ length bytes → (bytes ≡ text_of front ++ rest) ⊎ (rest ≡ [])
    → IsCut bytes rest front k
cut bytes rest front k o l h (inl e) =
    let n : k ≡ length (text_of front) = omega (arith, ap length e, length-append (text_of front) rest) in
    let t : take k bytes ≡ text_of front = ap (λ x. take k x) e ∙ ap (λ k. take k (text_of front ++ rest)) n
    ∙ take-append_seam (text_of front) rest in
    let d : drop k bytes ≡ rest = ap (λ x. drop k x) e ∙ ap (λ k. drop k (text_of front ++ rest)) n
    ∙ drop-append_seam (text_of front) rest in
    record { lines_before = ap lines t ∙ lines_text front o; bytes_after = d }
cut bytes rest front k o l h (inr z) =
    let n : length bytes ≤ k = omega (arith, ap length z) in
    record {
      lines_before = ap lines (take_all k bytes n) ∙ l ∙ ap (λ r. front ++ lines r) z ∙ append-nil front;
      bytes_after = drop_all k bytes n ∙ sym z;
    }

pub read_part : (bytes rest : List ℕ) (d : Document) (n : ℕ) (stops : Bool) → stops ≡ true
    → IsRead bytes rest (Closed d) n stops → IsDocumentAtFront bytes d (length bytes - length rest) n
read_part bytes rest d n stops y r =
    let k : ℕ = length bytes - length rest in
    let f : take n (lines bytes) ≡ r.front = ap (take n) r.left ∙ ap (λ j. take j (r.front ++ lines rest)) (sym r.count)
    ∙ take-append_seam r.front (lines rest) in
    let g : drop n (lines bytes) ≡ lines rest = ap (drop n) r.left
    ∙ ap (λ j. drop j (r.front ++ lines rest)) (sym r.count) ∙ drop-append_seam r.front (lines rest) in
    let c = cut bytes rest r.front k r.one_line r.left (let z = r.size in omega arith) r.feeds in
    record {
      within = omega (arith, ap length r.left, length-append r.front (lines rest), r.count);
      document = subst (λ ls. IsDocument ls d) (sym f) (run_document r.front d r.run);
      last = subst EndsWithEnd (sym f) (r.last y refl);
      size = subst (λ ls. k ≡ min (length bytes) (length (text_of ls))) (sym f) (let z = r.size in omega arith);
      front = c.lines_before ∙ sym f;
      rest = ap lines c.bytes_after ∙ sym g;
    }
