-- A reader of any language of lines: from six facts about its step, what it comes to is a value or the first fault.
--
-- Main definitions: run_words, AreIn, IsCompletion
-- Main results: value_outcome, outcome_value, outcome_fault, fault_outcome
use Rattle.std.proofs.Common.{◌≡◌, ℕ, suc, ◌+◌, List, [], ◌∷◌, ◌++◌, ◌⊎◌, inl, inr, length, refl, sym, ap, subst, ◌∙◌}
use Rattle.std.proofs.Common.{arith, length-append, append_assoc, append-nil, map}
use Rattle.std.specs.Prelude.{Option, Some, None, Result, Ok, Err, filter}
use Rattle.om_signs.proofs.Results.{ok-injective}
use Rattle.om_document.specs.declared.code.Code.{Code}
use Rattle.om_document.specs.declared.code.Code.TheVariants as code
use Rattle.om_lines.specs.Lines.{words, wordful, has_any, Begins}
use Rattle.om_text.specs.Fault.{IsFaultIn, at_line, at_end}
use Rattle.om_lines.proofs.WordLines.{wordful-append}
use Rattle.om_text.specs.Steps.{step_if, advance_by, finish_by, then_lines, outcome_by}

abbrev pub bind : {S : Type 0} → Result S Code → (S → Result S Code) → Result S Code
bind (Ok t) f = f t
bind (Err c) f = Err c

-- the lines with words in turn
abbrev pub run_words : {S : Type 0} → (S → List (List ℕ) → Result S Code) → S → List (List (List ℕ)) → Result S Code
run_words step s [] = Ok s
run_words step s (w ∷ ws) = bind (step s w) (λ t. run_words step t ws)

-- a value of the lines with words is what the lines are
abbrev pub AreIn : {V : Type 0} → (List (List (List ℕ)) → V → Type 0) → List (List ℕ) → Type 0
AreIn {V = V} Language ls = (v : V) × Language (wordful ls) v

abbrev pub code_by : (List (List (List ℕ)) → List (List ℕ) → Option Code) → List (List ℕ) → List ℕ → Option Code
code_by code_at ls line = code_at (wordful ls) (words line)

-- lines that run a state to a value
pub record IsCompletion {S V : Type 0} (step : S → List (List ℕ) → Result S Code) (value : S → Option V) (s : S)
    (more : List (List ℕ)) : Type 0 where
  pub last : S
  pub is : V
  pub run : run_words step s (wordful more) ≡ Ok last
  pub gives : value last ≡ Some is

module _
    (S V : Type 0)
    (step : S → List (List ℕ) → Result S Code)
    (value : S → Option V)
    (start : S)
    (Language : List (List (List ℕ)) → V → Type 0)
    (code_at : List (List (List ℕ)) → List (List ℕ) → Option Code)
    (Shows : S → List (List (List ℕ)) → Type 0)
    (starts : Shows start [])
    (steps : (s : S) (ls : List (List (List ℕ))) (w : List (List ℕ)) (t : S) → Shows s ls → step s w ≡ Ok t
    → Shows t (ls ++ w ∷ []))
    (errors : (s : S) (ls : List (List (List ℕ))) (w : List (List ℕ)) (c : Code) → Shows s ls → step s w ≡ Err c
    → code_at ls w ≡ Some c)
    (ends : (s : S) (ls : List (List (List ℕ))) (v : V) → Shows s ls → value s ≡ Some v → Language ls v)
    (runs : (ls : List (List (List ℕ))) (v : V) → Language ls v → (s : S) × (run_words step start ls ≡ Ok s)
    × (value s ≡ Some v))
    (completes : (s : S) (ls : List (List (List ℕ))) → Shows s ls → (more : List (List ℕ))
    × IsCompletion step value s more)
  where
    bind_ok : (r : Result S Code) (f : S → Result S Code) (t : S) → bind r f ≡ Ok t → (s : S) × (r ≡ Ok s)
    bind_ok (Ok s) f t h = (s, refl)
    bind_ok (Err c) f t h = cc

    bind-bind : (r : Result S Code) (f g : S → Result S Code) → bind (bind r f) g ≡ bind r (λ s. bind (f s) g)
    bind-bind (Ok s) f g = refl
    bind-bind (Err c) f g = refl

    bind_each : (r : Result S Code) (f g : S → Result S Code) → ((s : S) → f s ≡ g s) → bind r f ≡ bind r g
    bind_each (Ok s) f g e = e s
    bind_each (Err c) f g e = refl

    run_words-append : (s : S) (xs ys : List (List (List ℕ)))
        → run_words step s (xs ++ ys) ≡ bind (run_words step s xs) (λ t. run_words step t ys)
    run_words-append s [] ys = refl
    run_words-append s (x ∷ xs) ys = bind_each (step s x) _ _ (λ t. run_words-append t xs ys)
        ∙ sym (bind-bind (step s x) (λ t. run_words step t xs) (λ t. run_words step t ys))

    one_line : (s : S) (l : List ℕ) → run_words step s (wordful (l ∷ [])) ≡ advance_by step s l
    one_line s l = at (words l)
      where
        back : (r : Result S Code) → bind r (λ t. Ok t) ≡ r
        back (Ok t) = refl
        back (Err c) = refl

        at : (w : List (List ℕ)) → run_words step s (filter has_any (w ∷ [])) ≡ step_if step (has_any w) s w
        at [] = refl
        at (x ∷ xs) = back (step s (x ∷ xs))

    first_line : (s : S) (l : List ℕ) (ls : List (List ℕ))
        → run_words step s (wordful (l ∷ ls)) ≡ bind (advance_by step s l) (λ t. run_words step t (wordful ls))
    first_line s l ls = at (words l)
      where
        at : (w : List (List ℕ)) → run_words step s (filter has_any (w ∷ map words ls))
            ≡ bind (step_if step (has_any w) s w) (λ t. run_words step t (wordful ls))
        at [] = refl
        at (x ∷ xs) = refl

    known : (r : Result S Code) → ((t : S) × (r ≡ Ok t)) ⊎ ((c : Code) × (r ≡ Err c))
    known (Ok t) = inl (t, refl)
    known (Err c) = inr (c, refl)

    known_value : (o : Option V) → ((v : V) × (o ≡ Some v)) ⊎ (o ≡ None)
    known_value None = inr refl
    known_value (Some v) = inl (v, refl)

    -- if lines run a state to another, this one shows them after those that the first one shows
    pub run_shows : (ws : List (List (List ℕ))) (ls : List (List (List ℕ))) (s t : S) → Shows s ls
        → run_words step s ws ≡ Ok t → Shows t (ls ++ ws)
    run_shows [] ls s t o h = rw (append-nil ls) (subst (λ x. Shows x ls) (ok-injective s t h) o)
    run_shows (w ∷ ws) ls s t o h =
        let n = bind_ok (step s w) (λ t. run_words step t ws) t h in
        let g = rw n.1 at h in
        subst (λ x. Shows t x) (append_assoc ls (w ∷ []) ws)
        (run_shows ws (ls ++ w ∷ []) n.0 t (steps s ls w n.0 o n.1) g)

    -- the state after lines
    abbrev pub run : List (List ℕ) → Result S Code
    run ls = run_words step start (wordful ls)

    -- a run goes on with further lines from the state to which the lines before them ran
    pub run-append : (xs ys : List (List ℕ)) (s : S) → run xs ≡ Ok s → run (xs ++ ys) ≡ run_words step s (wordful ys)
    run-append xs ys s h = ap (run_words step start) (wordful-append xs ys)
        ∙ run_words-append start (wordful xs) (wordful ys) ∙ ap (λ r. bind r (λ t. run_words step t (wordful ys))) h

    pub run_line : (xs : List (List ℕ)) (l : List ℕ) (s : S) → run xs ≡ Ok s → run (xs ++ l ∷ []) ≡ advance_by step s l
    run_line xs l s h = run-append xs (l ∷ []) s h ∙ one_line s l

    -- the value of the state to which lines run is their value in the language
    pub run_value : (ls : List (List ℕ)) (s : S) (v : V) → run ls ≡ Ok s → value s ≡ Some v → Language (wordful ls) v
    run_value ls s v h e = ends s (wordful ls) v (run_shows (wordful ls) [] start s starts h) e

    pub run_begins : (ls : List (List ℕ)) (s : S) → run ls ≡ Ok s → Begins (AreIn Language) ls
    run_begins ls s h =
        let c = completes s (wordful ls) (run_shows (wordful ls) [] start s starts h) in
        (c.0, (c.1.is, run_value (ls ++ c.0) c.1.last c.1.is (run-append ls c.0 s h ∙ c.1.run) c.1.gives))

    -- lines with which some lines of the language begin run to a state
    pub begins_run : (ls : List (List ℕ)) → Begins (AreIn Language) ls → (s : S) × (run ls ≡ Ok s)
    begins_run ls b =
        let r = runs (wordful (ls ++ b.0)) b.1.0 b.1.1 in
        let e = ap (run_words step start) (wordful-append ls b.0) ∙ run_words-append start (wordful ls) (wordful b.0) in
        bind_ok (run ls) (λ t. run_words step t (wordful b.0)) r.0 (sym e ∙ r.1)

    refused_code : (before : List (List ℕ)) (line : List ℕ) (s : S) (c : Code) → run before ≡ Ok s
        → advance_by step s line ≡ Err c → code_by code_at before line ≡ Some c
    refused_code before line s c h e =
        errors s (wordful before) (words line) c (run_shows (wordful before) [] start s starts h)
        (stepped (words line) e)
      where
        stepped : (w : List (List ℕ)) → step_if step (has_any w) s w ≡ Err c → step s w ≡ Err c
        stepped [] g = cc
        stepped (x ∷ xs) g = g

    refused_line : (before : List (List ℕ)) (line : List ℕ) (rest : List (List ℕ)) (s : S) (c : Code)
        → run before ≡ Ok s → advance_by step s line ≡ Err c
        → IsFaultIn (AreIn Language) (code_by code_at) (before ++ line ∷ rest) (length before + 1) c
    refused_line before line rest s c h e =
        at_line before line rest c (run_begins before s h) no (refused_code before line s c h e)
      where
        differ : (t : S) → ◌≡◌ {A = Result S Code} (Err c) (Ok t) → ⊥
        differ t g = cc

        no : Begins (AreIn Language) (before ++ line ∷ []) → ⊥
        no b = let r = begins_run (before ++ line ∷ []) b in differ r.0 (sym e ∙ sym (run_line before line s h) ∙ r.1)

    -- the outcome of lines is that of the later ones, from the state to which the first ones run
    pub outcome_passes : (xs ys : List (List ℕ)) (s t : S) (n : ℕ) → run_words step s (wordful xs) ≡ Ok t
        → outcome_by step value s n (xs ++ ys) ≡ outcome_by step value t (n + length xs) ys
    outcome_passes [] ys s t n h =
        let e : s ≡ t = ok-injective s t h in
        let z : n + 0 ≡ n = omega arith in
        rw (e, z) refl
    outcome_passes (x ∷ xs) ys s t n h =
        let g = sym (first_line s x xs) ∙ h in
        let b = bind_ok (advance_by step s x) (λ t. run_words step t (wordful xs)) t g in
        let k = rw b.1 at g in
        let z : n + 1 + length xs ≡ n + suc (length xs) = omega arith in
        ap (λ r. then_lines r n (λ t. outcome_by step value t (n + 1) (xs ++ ys))) b.1
        ∙ outcome_passes xs ys b.0 t (n + 1) k ∙ ap (λ k. outcome_by step value t k ys) z

    -- the outcome of lines of the language is their value
    pub value_outcome : (ls : List (List ℕ)) (v : V) → Language (wordful ls) v → outcome_by step value start 0 ls ≡ Ok v
    value_outcome ls v o =
        let r = runs (wordful ls) v o in
        sym (ap (outcome_by step value start 0) (append-nil ls)) ∙ outcome_passes ls [] start r.0 0 r.1
        ∙ ap (λ x. finish_by x (0 + length ls)) r.2

    finished : (o : Option V) (n : ℕ) (v : V) → finish_by o n ≡ Ok v → o ≡ Some v
    finished None n v h = cc
    finished (Some x) n v h = cc

    -- if the outcome of lines after others is a value, it is the value of all of them in the language
    pub outcome_value : (ls before : List (List ℕ)) (s : S) (n : ℕ) (v : V) → run before ≡ Ok s
        → outcome_by step value s n ls ≡ Ok v → Language (wordful (before ++ ls)) v
    outcome_value [] before s n v h o = rw (append-nil before) (run_value before s v h (finished (value s) n v o))
    outcome_value (l ∷ ls) before s n v h o = elim (known (advance_by step s l)) [
      | inl (t, e) ↦ let r = run_line before l s h ∙ e in
          let g = rw e at o in
          subst (λ x. Language (wordful x) v) (append_assoc before (l ∷ []) ls)
          (outcome_value ls (before ++ l ∷ []) t (n + 1) v r g)
      | inr (c, e) ↦ let g = rw e at o in cc
    ]

    err_same : (p q : ℕ × Code) → ◌≡◌ {A = Result V (ℕ × Code)} (Err p) (Err q) → p ≡ q
    err_same p q h = cc

    missing : (ls : List (List ℕ)) (s : S) → run ls ≡ Ok s → value s ≡ None
        → IsFaultIn (AreIn Language) (code_by code_at) ls (length ls + 1) code.Missing
    missing ls s h n = at_end ls (run_begins ls s h) none
      where
        apart : (v : V) → ◌≡◌ {A = Option V} None (Some v) → ⊥
        apart v e = cc

        none : AreIn Language ls → ⊥
        none p = let r = runs (wordful ls) p.0 p.1 in
            apart p.0 (sym n ∙ ap value (ok-injective s r.0 (sym h ∙ r.1)) ∙ r.2)

    ended : (o : Option V) (n m : ℕ) (c : Code) → finish_by o n ≡ Err (m, c) → (m ≡ n + 1) × (c ≡ code.Missing)
        × (o ≡ None)
    ended None n m c h = let q = err_same (n + 1, code.Missing) (m, c) h in
        (sym (ap (λ p. p.0) q), sym (ap (λ p. p.1) q), refl)
    ended (Some v) n m c h = cc

    -- if the outcome of lines after others is a line and a code, the line is the first at fault of all of them
    pub outcome_fault : (ls before : List (List ℕ)) (s : S) (n m : ℕ) (c : Code) → run before ≡ Ok s → n ≡ length before
        → outcome_by step value s n ls ≡ Err (m, c) → IsFaultIn (AreIn Language) (code_by code_at) (before ++ ls) m c
    outcome_fault [] before s n m c h l o =
        let e = ended (value s) n m c o in
        let q : m ≡ length before + 1 = omega (arith, e.0) in
        rw (append-nil before, q, e.1) (missing before s h e.2)
    outcome_fault (l ∷ ls) before s n m c h k o = elim (known (advance_by step s l)) [
      | inl (t, e) ↦ let r = run_line before l s h ∙ e in
          let g = rw e at o in
          subst (λ x. IsFaultIn (AreIn Language) (code_by code_at) x m c) (append_assoc before (l ∷ []) ls)
          (outcome_fault ls (before ++ l ∷ []) t (n + 1) m c r (omega (arith, length-append before (l ∷ []))) g)
      | inr (x, e) ↦ let g = err_same (n + 1, x) (m, c) (rw e at o) in
          let i : n + 1 ≡ m = ap (λ p. p.0) g in
          let q : m ≡ length before + 1 = omega arith in
          let y : x ≡ c = ap (λ p. p.1) g in
          rw q (refused_line before l ls s c h (e ∙ ap (λ y. Err y) y))
    ]

    some_same : (c x : Code) → ◌≡◌ {A = Option Code} (Some c) (Some x) → c ≡ x
    some_same c x h = cc

    -- the outcome of lines with a fault is the first line at fault, with its code
    pub fault_outcome : {ls : List (List ℕ)} {m : ℕ} {c : Code} → IsFaultIn (AreIn Language) (code_by code_at) ls m c
        → outcome_by step value start 0 ls ≡ Err (m, c)
    fault_outcome (at_line before line rest c b n e) =
        let r = begins_run before b in
        let p = outcome_passes before (line ∷ rest) start r.0 0 r.1 in
        p ∙ elim (known (advance_by step r.0 line)) [
          | inl (t, a) ↦ absurd (n (run_begins (before ++ line ∷ []) t (run_line before line r.0 r.1 ∙ a)))
          | inr (x, a) ↦ let y : x ≡ c = some_same x c (sym (refused_code before line r.0 x r.1 a) ∙ e) in
              let z : 0 + length before + 1 ≡ length before + 1 = omega arith in
              rw (a, y, z) refl
        ]
    fault_outcome (at_end ls b n) =
        let r = begins_run ls b in
        sym (ap (outcome_by step value start 0) (append-nil ls)) ∙ outcome_passes ls [] start r.0 0 r.1
        ∙ elim (known_value (value r.0)) [
          | inl (v, e) ↦ absurd (n (v, run_value ls r.0 v r.1 e))
          | inr e ↦ let z : 0 + length ls + 1 ≡ length ls + 1 = omega arith in rw (e, z) refl
        ]
