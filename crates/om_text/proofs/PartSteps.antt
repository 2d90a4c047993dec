-- What the parts of the reader return on one more line.
--
-- Main definitions: list_with_line
-- Main results: memory_out, point_unread, point_beyond, point_added, word_refused, block_added, list_step,
-- signs_counted, no_signs_counted, no_values_read, values_beyond, values_added, still_refused, names_taken,
-- no_names_taken, name_refused, names_counted, closed, not_closed
use Rattle.std.proofs.Common.{◌≡◌, ℕ, ◌+◌, ◌<◌, ◌≤◌, List, [], ◌∷◌, ◌++◌, Bool, true, false, cond, length, refl}
use Rattle.std.proofs.Common.{sym, ap, subst, ◌∙◌, append_assoc, append-nil, arith, inl, inr}
use Rattle.std.specs.Prelude.{ℤ, Option, Some, None, Result, Ok, Err, IsOkAnd, IsErrAnd, MatchResult, nat_eq, nat_le}
use Rattle.std.specs.Prelude.{◌&&◌, ◌≢◌}
use Rattle.std.specs.Result.{result_map_both}
use Rattle.std.specs.List.{concat, list_all}
use Rattle.std.proofs.Math.Bool.{and-false}
use Rattle.std.proofs.lemmas.Bool.{le-leb, lt-leb, leb-false, eq-eqb, ne_eqb, eqb-true, eqb-false, cases_Bool}
use Rattle.std.proofs.lemmas.List.{length_push, length-append, length-map}
use Rattle.std.proofs.lemmas.List.Folds.{list_all-append}
use Rattle.om_signs.specs.declared.sign.Sign.{Sign}
use Rattle.om_signs.specs.declared.block.Block.{Block}
use Rattle.om_signs.specs.declared.raw_map.RawMap.{RawMap}
use Rattle.om_subsets.specs.Subsets.{choose}
use Rattle.om_lines.specs.Words.{sign_of_byte}
use Rattle.om_signs.specs.declared.limits.TheConstants.{MAX_MEMBERS}
use Rattle.om_document.specs.declared.document.Document.{Document}
use Rattle.om_document.specs.declared.body.Body.{Body}
use Rattle.om_document.specs.declared.body.Body.TheVariants.{Chirotope, Points}
use Rattle.om_document.specs.declared.code.Code.{Code}
use Rattle.om_document.specs.declared.code.Code.TheVariants as code
use Rattle.om_document.specs.declared.setting.Setting.{Setting}
use Rattle.om_document.specs.Document.{are_signs, signs_of_line, is_complete}
use Rattle.om_document.specs.Names.{is_name, are_different, are_names}
use Rattle.om_document.specs.Settings.{other_words, is_names_line}
use Rattle.om_document.proofs.NameForms.{AreKept, names_in}
use Rattle.om_document.specs.Blocks.{block_of, blocks_on}
use Rattle.om_document.specs.Points.{point_of}
use Rattle.om_text.specs.declared.refusal.Refusal.{Refusal}
use Rattle.om_text.specs.declared.refusal.Refusal.TheVariants as refusal
use Rattle.om_text.specs.declared.draft.Draft.{Draft}
use Rattle.om_text.specs.declared.state.State.TheVariants.{Open, Closed}
use Rattle.om_text.specs.Reading.{with_line_members, with_names, after_choice, after_names, finished_draft, after_end}
use Rattle.om_text.specs.ReaderParts.{IsStepUnlessMemory, sign_count, members_within_limit, members_with_line}
use Rattle.om_text.specs.ReaderParts.{list_tests, blocks_with_line, body_with_line}
use Rattle.om_text.specs.Steps.{if_passed}
use Rattle.om_text.proofs.PassedTests.{if_passed_map}

-- nothing is said of a part that memory ran out in
pub memory_out : {A : Type 0} (r : Result A Refusal) (read : Result A Code) → IsErrAnd r (λ e. e ≡ refusal.Memory)
    → IsStepUnlessMemory r read
memory_out (Ok x) read h = absurd h
memory_out (Err e) read h = rw h tt

-- ---- lines of points

-- a line that spells no point
pub point_unread : (s : Setting) (n : ℕ) (ps : List (List ℤ)) (w : List (List ℕ)) (o : Option (List ℤ)) → o ≡ None
    → o ≡ point_of w → body_with_line s n (Points ps) w ≡ Err code.Number
point_unread s n ps w o e h = rw (← h, e) refl

-- a point after the last
pub point_beyond : (s : Setting) (n : ℕ) (ps : List (List ℤ)) (w : List (List ℕ)) (o : Option (List ℤ)) (p : List ℤ)
    (k : ℕ) → o ≡ Some p → o ≡ point_of w → k ≡ length ps → n ≤ k → body_with_line s n (Points ps) w ≡ Err code.Many
point_beyond s n ps w o p k e h l m =
    rw (← h, e, lt-leb (length (ps ++ p ∷ [])) n (omega (arith, length_push ps p))) refl

-- one more point
pub point_added : (s : Setting) (n : ℕ) (ps qs : List (List ℤ)) (w : List (List ℕ)) (o : Option (List ℤ)) (p : List ℤ)
    (k : ℕ) → o ≡ Some p → o ≡ point_of w → k ≡ length ps → k < n → qs ≡ ps ++ p ∷ []
    → body_with_line s n (Points ps) w ≡ Ok (Points qs)
point_added s n ps qs w o p k e h l m q =
    rw (← h, e, le-leb (length (ps ++ p ∷ [])) n (omega (arith, length_push ps p)), q) refl

-- ---- lines of wirings

-- a word that is no block
pub word_refused : (bs : List Block) (w vs : List (List ℕ)) (v : List ℕ) (o : Option Block)
    (read : Result (List Block) Code) → o ≡ None → o ≡ block_of v → w ≡ v ∷ vs → blocks_with_line bs w ≡ read
    → read ≡ Err code.Block
word_refused bs w vs v o read e h q i = sym i ∙ rw (q, ← h, e) refl

-- one more block
pub block_added : (bs cs : List Block) (w vs : List (List ℕ)) (v : List ℕ) (o : Option Block) (b : Block)
    (read : Result (List Block) Code) → o ≡ Some b → o ≡ block_of v → w ≡ v ∷ vs → cs ≡ bs ++ b ∷ []
    → blocks_with_line bs w ≡ read → blocks_with_line cs vs ≡ read
block_added bs cs w vs v o b read e h q n i =
    rw (n, append_assoc bs (b ∷ []) (blocks_on vs)) (sym (rw (q, ← h, e) refl) ∙ i)

-- ---- lines of lists

-- a part that makes f of what another part reads
step_mapped : {A B : Type 0} (f : A → B) (r : Result A Refusal) (q : Result B Refusal) (read : Result A Code)
    → MatchResult r (λ x. IsOkAnd q (λ y. y ≡ f x)) (λ e. q ≡ Err e) → IsStepUnlessMemory r read
    → IsStepUnlessMemory q (result_map_both f (λ c. c) read)
step_mapped f (Ok x) (Ok y) read m h = rw (h, m) refl
step_mapped f (Ok x) (Err e) read m h = absurd m
step_mapped f (Err refusal.Memory) q read m h = rw m tt
step_mapped f (Err (refusal.Line c)) q read m h = rw (m, h) refl

-- what a list that is the body K of its members makes of a line
abbrev pub list_with_line : (List (List Sign) → Body) → Setting → ℕ → List (List Sign) → List (List ℕ)
    → Result Body Code
list_with_line K s n ms w =
    if_passed (list_tests s n ms w) (K (with_line_members s ms w))

-- a list reads a line as its members do
pub list_step : (K : List (List Sign) → Body) (s : Setting) (n : ℕ) (ms : List (List Sign)) (w : List (List ℕ))
    (r : Result (List (List Sign)) Refusal) (q : Result Body Refusal)
    → MatchResult r (λ x. IsOkAnd q (λ y. y ≡ K x)) (λ e. q ≡ Err e)
    → IsStepUnlessMemory r (members_with_line s n ms w) → IsStepUnlessMemory q (list_with_line K s n ms w)
list_step K s n ms w r q m h =
    let made = if_passed_map K (list_tests s n ms w) (with_line_members s ms w) in
    rw made (step_mapped K r q (members_with_line s n ms w) m h)

-- the signs of a line are counted if there is no other byte
pub signs_counted : (w : List (List ℕ)) (o : Option ℕ) (k : ℕ) → o ≡ Some k → o ≡ sign_count w
    → (are_signs w ≡ true) × (k ≡ length (concat w))
signs_counted w o k e h = at (are_signs w) (sym e ∙ h)
  where
    at : (b : Bool) → Some k ≡ cond b (Some (length (concat w))) None → (b ≡ true) × (k ≡ length (concat w))
    at true h = (refl, cc)
    at false h = cc

-- and otherwise not
pub no_signs_counted : (w : List (List ℕ)) (o : Option ℕ) → o ≡ None → o ≡ sign_count w → are_signs w ≡ false
no_signs_counted w o e h = at (are_signs w) (sym e ∙ h)
  where
    at : (b : Bool) → None ≡ cond b (Some (length (concat w))) None → b ≡ false
    at true h = cc
    at false h = refl

-- ---- lines of maps

-- a line with a byte that is no sign
pub no_values_read : (s : Setting) (n : ℕ) (m : RawMap) (w : List (List ℕ)) → are_signs w ≡ false
    → body_with_line s n (Chirotope m) w ≡ Err code.Sign
no_values_read s n m w a = rw a refl

-- a value after the last
pub values_beyond : (s : Setting) (n : ℕ) (m : RawMap) (w : List (List ℕ)) → are_signs w ≡ true
    → choose m.elements m.rank < length m.signs + length (concat w) → body_with_line s n (Chirotope m) w ≡ Err code.Many
values_beyond s n m w a l =
    rw (
      a,
      lt-leb (length (m.signs ++ signs_of_line w)) (choose m.elements m.rank)
          (omega (arith, length-append m.signs (signs_of_line w), length-map (concat w) sign_of_byte)),
    ) refl

-- more values
pub values_added : (s : Setting) (n : ℕ) (m : RawMap) (w : List (List ℕ)) (xs : List Sign) → are_signs w ≡ true
    → length m.signs + length (concat w) ≤ choose m.elements m.rank → xs ≡ m.signs ++ signs_of_line w
    → body_with_line s n (Chirotope m) w
    ≡ Ok (Chirotope (record { rank = m.rank; elements = m.elements; signs = xs }))
values_added s n m w xs a l q =
    rw (
      a,
      le-leb (length (m.signs ++ signs_of_line w)) (choose m.elements m.rank)
          (omega (arith, length-append m.signs (signs_of_line w), length-map (concat w) sign_of_byte)),
      q,
    ) refl

-- ---- members

-- members that are too many stay too many
pub still_refused : (ms ns : List (List Sign)) (e : Refusal) (r : Result (List (List Sign)) Refusal)
    → length ms ≤ length ns → IsErrAnd r (λ x. x ≡ e)
    → IsStepUnlessMemory {A = List (List Sign)} (Err e) (members_within_limit ms)
    → IsStepUnlessMemory r (members_within_limit ns)
still_refused ms ns refusal.Memory r l x h = memory_out r (members_within_limit ns) x
still_refused ms ns (refusal.Line c) (Ok b) l x h = absurd x
still_refused ms ns (refusal.Line c) (Err e) l x h = rw x (elim (cases_Bool (nat_le (length ms) MAX_MEMBERS)) [
  | inl y ↦ let z = rw y at h in cc
  | inr n ↦ let z = rw n at h in
      let m = leb-false (length ms) MAX_MEMBERS n in
      rw (lt-leb (length ns) MAX_MEMBERS (omega arith)) z
])

-- ---- setting lines

-- a line that gives names
pub names_taken : (d : Draft) (w names : List (List ℕ)) (o : Option (List (List ℕ))) → o ≡ Some names
    → o ≡ cond (is_names_line d.document.elements w) (Some (other_words w)) None
    → after_names d w ≡ Ok (Open (with_names d names))
names_taken d w names o e h = at (is_names_line d.document.elements w) (sym e ∙ h)
  where
    at : (b : Bool) → Some names ≡ cond b (Some (other_words w)) None
        → cond b (Ok (Open (with_names d (other_words w)))) (after_choice d w) ≡ Ok (Open (with_names d names))
    at true h = let q : names ≡ other_words w = cc in ap (λ x. Ok (Open (with_names d x))) (sym q)
    at false h = cc

-- a line that gives none
pub no_names_taken : (d : Draft) (w : List (List ℕ)) (o : Option (List (List ℕ))) → o ≡ None
    → o ≡ cond (is_names_line d.document.elements w) (Some (other_words w)) None → after_names d w ≡ after_choice d w
no_names_taken d w o e h = at (is_names_line d.document.elements w) (sym e ∙ h)
  where
    at : (b : Bool) → None ≡ cond b (Some (other_words w)) None
        → cond b (Ok (Open (with_names d (other_words w)))) (after_choice d w) ≡ after_choice d w
    at true h = cc
    at false h = refl

-- ---- names

-- a word that is no name
pub name_refused : (n : ℕ) (ws ns : List (List ℕ)) (w : List ℕ) (more rest : List (List ℕ)) (o : Option (List ℕ))
    → AreKept ws ns rest → rest ≡ w ∷ more → o ≡ None → o ≡ cond (is_name w) (Some w) None → None ≡ names_in n ws
name_refused n ws ns w more rest o k r e h =
    let f : is_name w ≡ false = at (is_name w) (sym e ∙ h) in
    let g : list_all is_name ws ≡ false = ap (list_all is_name) (k.same ∙ ap (λ x. ns ++ x) r)
    ∙ list_all-append is_name ns (w ∷ more) ∙ rw (k.names, f) refl in
    let a : are_names n ws ≡ false = ap (λ b. nat_eq (length ws) n && b && are_different ws) g
    ∙ ap (λ b. b && are_different ws) (and-false (nat_eq (length ws) n)) in
    rw a refl
  where
    at : (b : Bool) → None ≡ cond b (Some w) None → b ≡ false
    at true h = cc
    at false h = refl

all_words : (ws ns rest : List (List ℕ)) → AreKept ws ns rest → rest ≡ [] → ns ≡ ws
all_words ws ns rest k r = sym (k.same ∙ ap (λ x. ns ++ x) r ∙ append-nil ns)

-- a name for each element, and no words are left
all_names : (n m : ℕ) (ws ns rest : List (List ℕ)) → AreKept ws ns rest → rest ≡ [] → m ≡ length ns → m ≡ n
    → Some ns ≡ names_in n ws
all_names n m ws ns rest k r l e =
    subst (λ x. Some ns ≡ names_in n x) (all_words ws ns rest k r)
    (rw (eq-eqb (length ns) n (sym l ∙ e), k.names, k.different) refl)

-- more or fewer names than elements, and no words are left
names_missing : (n m : ℕ) (ws ns rest : List (List ℕ)) → AreKept ws ns rest → rest ≡ [] → m ≡ length ns → m ≢ n
    → None ≡ names_in n ws
names_missing n m ws ns rest k r l e =
    subst (λ x. None ≡ names_in n x) (all_words ws ns rest k r) (rw (ne_eqb (length ns) n (λ q. e (l ∙ q))) refl)

-- no words are left: there is a name for each element, or there are more or fewer
pub names_counted : (n m : ℕ) (ws ns rest : List (List ℕ)) → AreKept ws ns rest → rest ≡ [] → m ≡ length ns
    → cond (nat_eq m n) (Some ns) None ≡ names_in n ws
names_counted n m ws ns rest k r l = elim (cases_Bool (nat_eq m n)) [
  | inl y ↦ rw y (all_names n m ws ns rest k r l (eqb-true m n y))
  | inr f ↦ rw f (names_missing n m ws ns rest k r l (eqb-false m n f))
]

-- ---- the end line

-- the body is complete
pub closed : (d : Draft) (b : Bool) (x : Document) → b ≡ is_complete d.document → b ≡ true → x ≡ finished_draft d
    → after_end d ≡ Ok (Closed x)
closed d b x h e q = rw (← h, e, q) refl

-- the body isn't complete
pub not_closed : (d : Draft) (b : Bool) → b ≡ is_complete d.document → b ≡ false → after_end d ≡ Err code.Few
not_closed d b h e = rw (← h, e) refl
