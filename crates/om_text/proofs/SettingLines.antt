-- The setting lines of a document, one after the other.
--
-- Main results: settings_begin, settings_names, names_begin, line_not_setting, lines_not_settings, settings_not_end,
-- front_of, behind_of, setting_same
use Rattle.std.proofs.Common.{◌≡◌, ℕ, List, [], ◌∷◌, ◌++◌, Bool, true, false, ◌&&◌, ◌||◌, inl, inr, ◌⊎◌, refl, sym, ap}
use Rattle.std.proofs.Common.{subst, ◌∙◌}
use Rattle.std.specs.Prelude.{Option, Some, None, codes, bytes_eq, option_map, is_some}
use Rattle.std.specs.List.{list_all, list_any}
use Rattle.std.proofs.lemmas.Slice.Eq.{bytes_eq-Decides}
use Rattle.std.proofs.lemmas.Bool.{cases_Bool, and_parts}
use Rattle.om_document.specs.declared.document.Document.{Document}
use Rattle.om_document.specs.declared.body.Body.{Body}
use Rattle.om_document.specs.declared.body.Body.TheVariants.{Chirotope, Wiring, Points}
use Rattle.om_document.specs.declared.version.Version.{Version}
use Rattle.om_document.specs.declared.version.Version.TheVariants.{One, Two}
use Rattle.om_document.specs.declared.setting.Setting.{Setting}
use Rattle.om_document.specs.declared.setting.Setting.TheVariants.{Plain}
use Rattle.om_lines.specs.Lines.{first_word, is_line, end_line}
use Rattle.om_document.specs.Names.{are_names}
use Rattle.om_document.specs.Settings.{begins_as_setting, other_words, is_names_line, setting_in, set_by, settings_in}
use Rattle.om_document.specs.Settings.{front_settings, behind_settings}
use Rattle.om_document.specs.Document.{are_signs, has_signs_in, has_length_in, has_blocks_in, has_numbers_in}
use Rattle.om_document.specs.Document.{is_body_line, filled_body}
use Rattle.om_document.specs.Points.{point_of}
use Rattle.om_lines.proofs.WordLines.{is_line-Decides}

-- ---- lines that begin as setting lines do

-- what such a line begins with
begun : (w : List (List ℕ)) → begins_as_setting w ≡ true → (first_word w ≡ codes "names")
    ⊎ ((first_word w ≡ codes "order") ⊎ (first_word w ≡ codes "half"))
begun w h = at (bytes_eq (first_word w) (codes "names")) (bytes_eq (first_word w) (codes "order"))
    (bytes_eq (first_word w) (codes "half")) refl refl refl h
  where
    at : (a b c : Bool) → bytes_eq (first_word w) (codes "names") ≡ a → bytes_eq (first_word w) (codes "order") ≡ b
        → bytes_eq (first_word w) (codes "half") ≡ c → (a || b || c) ≡ true → (first_word w ≡ codes "names")
        ⊎ ((first_word w ≡ codes "order") ⊎ (first_word w ≡ codes "half"))
    at true b c x y z h = inl ((bytes_eq-Decides (first_word w) (codes "names")).0 x)
    at false true c x y z h = inr (inl ((bytes_eq-Decides (first_word w) (codes "order")).0 y))
    at false false true x y z h = inr (inr ((bytes_eq-Decides (first_word w) (codes "half")).0 z))
    at false false false x y z h = cc

-- no test of body lines passes these
not_begun : (P : List (List ℕ) → Bool) → ((ws : List (List ℕ)) → P (codes "names" ∷ ws) ≡ false)
    → ((ws : List (List ℕ)) → P (codes "order" ∷ ws) ≡ false) → ((ws : List (List ℕ)) → P (codes "half" ∷ ws) ≡ false)
    → (w : List (List ℕ)) → P w ≡ true → begins_as_setting w ≡ false
not_begun P a b c [] h = refl
not_begun P a b c (v ∷ ws) h = elim (cases_Bool (begins_as_setting (v ∷ ws))) [
  | inr n ↦ n
  | inl y ↦ elim (begun (v ∷ ws) y) [
    | inl e ↦ let q : P (v ∷ ws) ≡ false = ap (λ x. P (x ∷ ws)) e ∙ a ws in cc
    | inr o ↦ elim o [
      | inl e ↦ let q : P (v ∷ ws) ≡ false = ap (λ x. P (x ∷ ws)) e ∙ b ws in cc
      | inr e ↦ let q : P (v ∷ ws) ≡ false = ap (λ x. P (x ∷ ws)) e ∙ c ws in cc
    ]
  ]
]

signs_not_setting : (w : List (List ℕ)) → are_signs w ≡ true → begins_as_setting w ≡ false
signs_not_setting = not_begun are_signs (λ ws. refl) (λ ws. refl) (λ ws. refl)

no_point : (v : List ℕ) → ((x y : List ℕ) → is_some (point_of (v ∷ x ∷ y ∷ [])) ≡ false) → (ws : List (List ℕ))
    → is_some (point_of (v ∷ ws)) ≡ false
no_point v h [] = refl
no_point v h (x ∷ []) = refl
no_point v h (x ∷ y ∷ []) = h x y
no_point v h (x ∷ y ∷ z ∷ ws) = refl

-- a line of a body isn't one of them
pub line_not_setting : (b : Body) (n : ℕ) (w : List (List ℕ))
    → (has_signs_in b w && has_length_in b n w && has_blocks_in b w && has_numbers_in b w) ≡ true
    → begins_as_setting w ≡ false
line_not_setting (Wiring bs) n w h =
    not_begun (λ w. has_blocks_in (Wiring bs) w) (λ ws. refl) (λ ws. refl) (λ ws. refl) w
    (and_parts (has_blocks_in (Wiring bs) w) true h).0
line_not_setting (Points ps) n w h =
    not_begun (λ w. has_numbers_in (Points ps) w) (no_point (codes "names") (λ x y. refl))
    (no_point (codes "order") (λ x y. refl)) (no_point (codes "half") (λ x y. refl)) w h
line_not_setting (Chirotope m) n w h =
    signs_not_setting w
    (and_parts (are_signs w) true
    (and_parts (are_signs w && true) true (and_parts (are_signs w && true && true) true h).0).0).0
line_not_setting b n w h =
    signs_not_setting w
    (and_parts (are_signs w) (has_length_in b n w)
    (and_parts (are_signs w && has_length_in b n w) true
    (and_parts (are_signs w && has_length_in b n w && true) true h).0).0).0

pub lines_not_settings : (head : Document) (ls : List (List (List ℕ))) → list_all (is_body_line head) ls ≡ true
    → list_any begins_as_setting ls ≡ false
lines_not_settings head [] h = refl
lines_not_settings head (l ∷ ls) h =
    let a = and_parts (is_body_line head l) (list_all (is_body_line head) ls) h in
    rw (line_not_setting head.body head.elements l a.0) (lines_not_settings head ls a.1)

-- and neither is the end line
begun_not_end : (w : List (List ℕ)) → begins_as_setting w ≡ true → is_line w end_line ≡ false
begun_not_end w h = elim (cases_Bool (is_line w end_line)) [
  | inl e ↦ let q : w ≡ end_line = (is_line-Decides w end_line).0 e in
      let bad : begins_as_setting end_line ≡ true = ap begins_as_setting (sym q) ∙ h in cc
  | inr n ↦ n
]

-- ---- setting lines

pub names_begin : (n : ℕ) (w : List (List ℕ)) → is_names_line n w ≡ true → begins_as_setting w ≡ true
names_begin n w h = let a = and_parts (bytes_eq (first_word w) (codes "names")) (are_names n (other_words w)) h in
    rw a.0 refl

setting_begins : (b : Body) (w : List (List ℕ)) (s : Setting) → setting_in b w ≡ Some s → begins_as_setting w ≡ true
setting_begins (Chirotope m) w s h = elim (cases_Bool (is_line w (codes "order" ∷ codes "lex" ∷ []))) [
  | inl e ↦ let q = (is_line-Decides w (codes "order" ∷ codes "lex" ∷ [])).0 e in ap begins_as_setting q
  | inr n ↦ elim (cases_Bool (is_line w (codes "order" ∷ codes "revlex" ∷ []))) [
    | inl e ↦ let q = (is_line-Decides w (codes "order" ∷ codes "revlex" ∷ [])).0 e in ap begins_as_setting q
    | inr m ↦ let z = rw (n, m) at h in cc
  ]
]
setting_begins (Wiring bs) w s h = cc
setting_begins (Points ps) w s h = cc
setting_begins b w s h = elim (cases_Bool (is_line w (codes "half" ∷ []))) [
  | inl e ↦ let q = (is_line-Decides w (codes "half" ∷ [])).0 e in ap begins_as_setting q
  | inr n ↦ let z = rw n at h in cc
]

mapped_some : {A B : Type 0} (o : Option A) (f : A → B) (y : B) → option_map f o ≡ Some y → (x : A) × (o ≡ Some x)
mapped_some None f y h = cc
mapped_some (Some x) f y h = (x, refl)

set_begins : (b : Body) (ls : List (List (List ℕ))) (s : Setting) → set_by b ls ≡ Some s
    → list_all begins_as_setting ls ≡ true
set_begins b [] s h = refl
set_begins b (w ∷ []) s h = rw (setting_begins b w s h) refl
set_begins b (w ∷ v ∷ ls) s h = cc

pub settings_begin : (v : Version) (d : Document) (ls : List (List (List ℕ))) (p : List (List ℕ) × Setting)
    → settings_in v d ls ≡ Some p → list_all begins_as_setting ls ≡ true
settings_begin v d [] p h = refl
settings_begin One d (w ∷ ls) p h = cc
settings_begin Two d (w ∷ ls) p h = elim (cases_Bool (is_names_line d.elements w)) [
  | inl y ↦ let g : option_map (λ s. (other_words w, s)) (set_by d.body ls) ≡ Some p = rw y at h in
      let m = mapped_some (set_by d.body ls) (λ s. (other_words w, s)) p g in
      rw (names_begin d.elements w y) (set_begins d.body ls m.0 m.1)
  | inr n ↦ let g : option_map (λ s. ([], s)) (set_by d.body (w ∷ ls)) ≡ Some p = rw n at h in
      let m = mapped_some (set_by d.body (w ∷ ls)) (λ s. ([], s)) p g in
      set_begins d.body (w ∷ ls) m.0 m.1
]

some_first : (a x : List (List ℕ)) (b y : Setting)
    → ◌≡◌ {A = Option (List (List ℕ) × Setting)} (Some (a, b)) (Some (x, y)) → a ≡ x
some_first a x b y h = let e : ◌≡◌ {A = List (List ℕ) × Setting} (a, b) (x, y) = cc in ap (λ p. p.0) e

-- setting lines give no names, or a name for each element
pub settings_names : (v : Version) (d : Document) (ls : List (List (List ℕ))) (names : List (List ℕ)) (s : Setting)
    → settings_in v d ls ≡ Some (names, s) → (names ≡ []) ⊎ (are_names d.elements names ≡ true)
settings_names One d [] names s h = inl (sym (some_first [] names Plain s h))
settings_names Two d [] names s h = inl (sym (some_first [] names Plain s h))
settings_names One d (w ∷ ls) names s h = cc
settings_names Two d (w ∷ ls) names s h = elim (cases_Bool (is_names_line d.elements w)) [
  | inl y ↦ let g : option_map (λ s. (other_words w, s)) (set_by d.body ls) ≡ Some (names, s) = rw y at h in
      let m = mapped_some (set_by d.body ls) (λ s. (other_words w, s)) (names, s) g in
      let k : ◌≡◌ {A = Option (List (List ℕ) × Setting)} (Some (other_words w, m.0)) (Some (names, s)) =
      sym (ap (option_map (λ s. (other_words w, s))) m.1) ∙ g in
      let e = some_first (other_words w) names m.0 s k in
      inr (subst (λ x. are_names d.elements x ≡ true) e
      (and_parts (bytes_eq (first_word w) (codes "names")) (are_names d.elements (other_words w)) y).1)
  | inr n ↦ let g : option_map (λ s. ([], s)) (set_by d.body (w ∷ ls)) ≡ Some (names, s) = rw n at h in
      let m = mapped_some (set_by d.body (w ∷ ls)) (λ s. ([], s)) (names, s) g in
      let k : ◌≡◌ {A = Option (List (List ℕ) × Setting)} (Some ([], m.0)) (Some (names, s)) =
      sym (ap (option_map (λ s. ([], s))) m.1) ∙ g in
      inl (sym (some_first [] names m.0 s k))
]

pub settings_not_end : (ls : List (List (List ℕ))) → list_all begins_as_setting ls ≡ true
    → list_any (λ l. is_line l end_line) ls ≡ false
settings_not_end [] h = refl
settings_not_end (l ∷ ls) h =
    let a = and_parts (begins_as_setting l) (list_all begins_as_setting ls) h in
    rw (begun_not_end l a.0) (settings_not_end ls a.1)

none_in_front : (ls : List (List (List ℕ))) → list_any begins_as_setting ls ≡ false → front_settings ls ≡ []
none_in_front [] h = refl
none_in_front (l ∷ ls) h = elim (cases_Bool (begins_as_setting l)) [
  | inl y ↦ let z = rw y at h in cc
  | inr n ↦ rw n refl
]

all_behind : (ls : List (List (List ℕ))) → list_any begins_as_setting ls ≡ false → behind_settings ls ≡ ls
all_behind [] h = refl
all_behind (l ∷ ls) h = elim (cases_Bool (begins_as_setting l)) [
  | inl y ↦ let z = rw y at h in cc
  | inr n ↦ rw n refl
]

-- the setting lines in front of lines of another kind
pub front_of : (ss ls : List (List (List ℕ))) → list_all begins_as_setting ss ≡ true
    → list_any begins_as_setting ls ≡ false → front_settings (ss ++ ls) ≡ ss
front_of [] ls a n = none_in_front ls n
front_of (s ∷ ss) ls a n =
    let b = and_parts (begins_as_setting s) (list_all begins_as_setting ss) a in
    rw b.0 (ap (λ x. s ∷ x) (front_of ss ls b.1 n))

pub behind_of : (ss ls : List (List (List ℕ))) → list_all begins_as_setting ss ≡ true
    → list_any begins_as_setting ls ≡ false → behind_settings (ss ++ ls) ≡ ls
behind_of [] ls a n = all_behind ls n
behind_of (s ∷ ss) ls a n =
    let b = and_parts (begins_as_setting s) (list_all begins_as_setting ss) a in
    rw b.0 (behind_of ss ls b.1 n)

-- a setting is by the kind of a body
pub setting_same : (s : Setting) (b : Body) (ls : List (List (List ℕ))) (w : List (List ℕ))
    → setting_in (filled_body s b ls) w ≡ setting_in b w
setting_same s (Chirotope m) ls w = refl
setting_same s (Wiring bs) ls w = refl
setting_same s (Points ps) ls w = refl
setting_same s b ls w = refl
