-- What is printed in version 2 is a document, with the names that are printed and the members in the order of its text.
--
-- Main definitions: IsRereadTwo
-- Main results: printed_two_spelled, printed_two_document
use Rattle.std.proofs.Common.{◌≡◌, ℕ, ◌≤◌, List, [], ◌∷◌, ◌++◌, true, ◌&&◌, length, map, refl, sym, ap, subst, ◌∙◌}
use Rattle.std.proofs.Common.{arith, nat_eq, nat_le, eq-eqb}
use Rattle.std.specs.Prelude.{codes, Some, option_map}
use Rattle.std.specs.List.{list_all, concat, flat_map}
use Rattle.std.specs.Fmt.{signed_decimal}
use Rattle.std.proofs.lemmas.Bool.{le-leb}
use Rattle.std.proofs.lemmas.List.Sorted.{length_permutation}
use Rattle.om_signs.specs.declared.limits.TheConstants.{MAX_MEMBERS, MAX_BLOCKS}
use Rattle.om_signs.specs.declared.raw_map.RawMap.{RawMap}
use Rattle.om_signs.specs.declared.sign.Sign.{Sign}
use Rattle.om_subsets.specs.Subsets.{choose}
use Rattle.om_document.specs.declared.document.Document.{Document}
use Rattle.om_document.specs.declared.body.Body.{Body}
use Rattle.om_document.specs.declared.body.Body.TheVariants.{Chirotope, Wiring, Points}
use Rattle.om_document.specs.declared.setting.Setting.{Setting}
use Rattle.om_document.specs.declared.setting.Setting.TheVariants.{Plain, Revlex, Half}
use Rattle.om_document.specs.declared.version.Version.TheVariants.{Two}
use Rattle.om_lines.specs.Lines.{lines, words, wordful, end_line}
use Rattle.om_lines.specs.Words.{sign_of_byte}
use Rattle.om_document.specs.Rows.{distinct}
use Rattle.om_document.specs.Names.{are_names}
use Rattle.om_document.specs.Settings.{version_two_line, set_by, settings_in, finished}
use Rattle.om_document.specs.Members.{members_of, with_members}
use Rattle.om_document.specs.Document.{IsDocument, IsSpelled, are_signs, is_body_line, all_signs, members_of_line}
use Rattle.om_document.specs.Document.{filled, has_room, is_complete}
use Rattle.om_document.specs.Form.{IsInForm, AreMembersOn}
use Rattle.om_document.specs.Print.{sign_lines, member_lines, block_lines, spaced, kind_text}
use Rattle.om_document.specs.PrintTwo.{printed_names, values_in_revlex, half_of, doubled, setting_lines, body_lines_two}
use Rattle.om_document.specs.PrintTwo.{printed_two_lines, printed_two, doubled_document, IsClosedUnderNegation}
use Rattle.om_document.proofs.BodyTexts.{map_rows, map_each, member_rows, members_long, points_reread, blocks_reread}
use Rattle.om_document.proofs.Feeds.{is_one_line, lines_text, one_line-append}
use Rattle.om_document.proofs.Halves.{IsClosed, doubled_permutes, half_long, half_read}
use Rattle.om_document.proofs.KindLines.{head_of, kind_line_read}
use Rattle.om_lines.proofs.WordLines.{wordful-append}
use Rattle.om_document.proofs.NameTexts.{printed_are_names, names_line}
use Rattle.om_document.proofs.Orders.{with_signs, length-values_in_revlex, values_back}
use Rattle.om_document.proofs.Texts.{words_spaced, wordful-cons, spaced_one_line, single, signs_of_bytes_of}

-- what is printed of d after its names is read as its setting and its body
record IsRereadTwo (d : Document) : Type 0 where
  settings : List (List (List ℕ))
  settings_words : wordful (setting_lines d.body) ≡ settings
  settings_one_line : list_all is_one_line (setting_lines d.body) ≡ true
  setting : Setting
  set : set_by (head_of d).body settings ≡ Some setting
  body : List (List (List ℕ))
  body_words : wordful (body_lines_two d.body) ≡ body
  body_one_line : list_all is_one_line (body_lines_two d.body) ≡ true
  each : list_all (is_body_line (head_of d)) body ≡ true
  value : finished (printed_names d.elements d.names) setting (filled setting (head_of d) body) ≡ doubled_document d
  room : has_room (filled setting (head_of d) body) ≡ true
  complete : is_complete (filled setting (head_of d) body) ≡ true

-- ---- any document

-- the words of the names line
abbrev names_of : Document → List (List ℕ)
names_of d = codes "names" ∷ printed_names d.elements d.names

-- the lines behind the names
abbrev rest_of : Document → List (List ℕ)
rest_of d = (setting_lines d.body ++ body_lines_two d.body) ++ codes "end" ∷ []

named : (d : Document) → IsInForm d → are_names d.elements (printed_names d.elements d.names) ≡ true
named d f = printed_are_names d.elements d.names (let h = f.high in omega arith) f.names

rest_one_line : (d : Document) → IsRereadTwo d → list_all is_one_line (rest_of d) ≡ true
rest_one_line d p = one_line-append (setting_lines d.body ++ body_lines_two d.body) (codes "end" ∷ [])
    (one_line-append (setting_lines d.body) (body_lines_two d.body) p.settings_one_line p.body_one_line) refl

rest_words : (d : Document) → (p : IsRereadTwo d) → wordful (rest_of d) ≡ (p.settings ++ p.body) ++ end_line ∷ []
rest_words d p =
    wordful-append (setting_lines d.body ++ body_lines_two d.body) (codes "end" ∷ [])
    ∙ ap (λ x. x ++ end_line ∷ []) (wordful-append (setting_lines d.body) (body_lines_two d.body)
    ∙ ap (λ x. x ++ wordful (body_lines_two d.body)) p.settings_words ∙ ap (λ x. p.settings ++ x) p.body_words)

one_lines : (d : Document) → IsInForm d → IsRereadTwo d → list_all is_one_line (printed_two_lines d) ≡ true
one_lines d f p =
    let k = kind_line_read d f in
    let n = spaced_one_line (names_of d) (names_line d.elements (printed_names d.elements d.names) (named d f)) in
    rw (k.one_line, n) (rest_one_line d p)

spelled_words : (d : Document) (f : IsInForm d) (p : IsRereadTwo d)
    → wordful (printed_two_lines d) ≡ version_two_line ∷ (kind_line_read d f).kind_words ∷ names_of d
    ∷ ((p.settings ++ p.body) ++ end_line ∷ [])
spelled_words d f p =
    let k = kind_line_read d f in
    let n : words (spaced (names_of d)) ≡ names_of d =
    words_spaced (names_of d) (names_line d.elements (printed_names d.elements d.names) (named d f)) in
    ap (λ x. version_two_line ∷ x)
    (wordful-cons (kind_text d) (spaced (names_of d) ∷ rest_of d) k.kind_words k.kind k.any
    ∙ ap (λ x. k.kind_words ∷ x) (wordful-cons (spaced (names_of d)) (rest_of d) (names_of d) n refl
    ∙ ap (λ x. names_of d ∷ x) (rest_words d p)))

settings_read : (d : Document) → IsInForm d → (p : IsRereadTwo d)
    → settings_in Two (head_of d) (names_of d ∷ p.settings) ≡ Some (printed_names d.elements d.names, p.setting)
settings_read d f p = rw (named d f) (ap (option_map (λ s. (printed_names d.elements d.names, s))) p.set)

reread_two : (d : Document) → IsInForm d → IsRereadTwo d
    → IsSpelled (wordful (printed_two_lines d)) (doubled_document d)
reread_two d f p =
    let k = kind_line_read d f in
    record {
      first_line = version_two_line;
      version = Two;
      kind_line = k.kind_words;
      head = head_of d;
      settings = names_of d ∷ p.settings;
      names = printed_names d.elements d.names;
      setting = p.setting;
      body = p.body;
      lines = spelled_words d f p;
      numbered = refl;
      heading = k.opens;
      elements = k.elements;
      rank = k.rank;
      size = k.size;
      set = settings_read d f p;
      each = p.each;
      room = p.room;
      complete = p.complete;
      value = sym p.value;
    }

-- ---- each kind

map_reread : (m : RawMap) (names : List (List ℕ)) → length m.signs ≡ choose m.elements m.rank
    → IsRereadTwo (record { elements = m.elements; body = Chirotope m; names = names })
map_reread m names h =
    let xs : List Sign = values_in_revlex m in
    let c = map_rows xs in
    let values : all_signs (single (sign_lines xs)) ≡ xs = ap (map sign_of_byte) c.joined ∙ signs_of_bytes_of xs in
    let long : length (all_signs (single (sign_lines xs))) ≡ choose m.elements m.rank = ap length values
    ∙ length-values_in_revlex m in
    record {
      settings = (codes "order" ∷ codes "revlex" ∷ []) ∷ [];
      settings_words = refl;
      settings_one_line = refl;
      setting = Revlex;
      set = refl;
      body = single (sign_lines xs);
      body_words = c.rows.lines_words;
      body_one_line = c.rows.one_line;
      each = map_each m.rank m.elements (single (sign_lines xs)) c.rows.signs;
      value =
          ap (λ ys. finished (printed_names m.elements names) Revlex
          (record { elements = m.elements; body = Chirotope (with_signs m ys); names = [] })) values
          ∙ ap (λ ys. record {
            elements = m.elements;
            body = Chirotope (with_signs m ys);
            names =
                printed_names m.elements names;
          }) (values_back m h);
      room = le-leb (length (all_signs (single (sign_lines xs)))) (choose m.elements m.rank) (omega arith);
      complete = eq-eqb (length (all_signs (single (sign_lines xs)))) (choose m.elements m.rank) long;
    }

-- what lists have in common
record AreReread (n : ℕ) (ms : List (List Sign)) : Type 0 where
  lines_words : wordful (member_lines (half_of ms)) ≡ single (member_lines (half_of ms))
  one_line : list_all is_one_line (member_lines (half_of ms)) ≡ true
  each : list_all (λ l. are_signs l && nat_eq (length (concat l)) n && true && true)
      (single (member_lines (half_of ms))) ≡ true
  value : distinct (flat_map (members_of_line Half) (single (member_lines (half_of ms)))) ≡ doubled (half_of ms)
  room : nat_le (length (distinct (flat_map (members_of_line Half) (single (member_lines (half_of ms)))))) MAX_MEMBERS
      ≡ true

members_reread : (n : ℕ) (ms : List (List Sign)) → 1 ≤ n → AreMembersOn n ms → IsClosed ms → AreReread n ms
members_reread n ms low f c =
    let long = half_long n ms f.long in
    let rows = member_rows n (half_of ms) low long in
    let value : distinct (flat_map (members_of_line Half) (single (member_lines (half_of ms)))) ≡ doubled (half_of ms) =
    ap distinct (half_read (half_of ms)) in
    let count : length (doubled (half_of ms)) ≡ length ms =
    length_permutation ms (doubled (half_of ms)) (doubled_permutes ms f.distinct c) in
    let e : length (distinct (flat_map (members_of_line Half) (single (member_lines (half_of ms))))) ≡ length ms =
    ap length value ∙ count in
    record {
      lines_words = rows.lines_words;
      one_line = rows.one_line;
      each = members_long n (half_of ms) long;
      value = value;
      room = le-leb _ MAX_MEMBERS (let a = f.few in omega arith);
    }

body_reread : (n : ℕ) (b : Body) (names : List (List ℕ)) → IsInForm (record { elements = n; body = b; names = names })
    → IsClosedUnderNegation b → IsRereadTwo (record { elements = n; body = b; names = names })
body_reread n (Chirotope m) names f c =
    subst (λ e. IsRereadTwo (record { elements = e; body = Chirotope m; names = names })) f.body.elements
    (map_reread m names (f.body.signs ∙ ap (λ e. choose e m.rank) (sym f.body.elements)))
body_reread n (Wiring bs) names f c =
    let p = blocks_reread bs f.body.short in
    record {
      settings = [];
      settings_words = refl;
      settings_one_line = refl;
      setting = Plain;
      set = refl;
      body = single (block_lines bs);
      body_words = p.lines_words;
      body_one_line = p.one_line;
      each = p.each;
      value = ap (λ bs. record { elements = n; body = Wiring bs; names = printed_names n names }) p.value;
      room = ap (λ bs. nat_le (length bs) MAX_BLOCKS) p.value ∙ le-leb (length bs) MAX_BLOCKS f.body.few;
      complete = refl;
    }
body_reread n (Points ps) names f c =
    let p = points_reread ps f.body.each in
    record {
      settings = [];
      settings_words = refl;
      settings_one_line = refl;
      setting = Plain;
      set = refl;
      body = map (map signed_decimal) ps;
      body_words = p.lines_words;
      body_one_line = p.one_line;
      each = p.each;
      value = ap (λ ps. record { elements = n; body = Points ps; names = printed_names n names }) p.value;
      room = ap (λ ps. nat_le (length ps) n) p.value ∙ le-leb (length ps) n (let e = f.body.count in omega arith);
      complete = ap (λ ps. nat_eq (length ps) n) p.value ∙ eq-eqb (length ps) n f.body.count;
    }
body_reread n b names f c =
    let p = members_reread n (members_of b) f.low f.body c in
    record {
      settings = (codes "half" ∷ []) ∷ [];
      settings_words = refl;
      settings_one_line = refl;
      setting = Half;
      set = refl;
      body = single (member_lines (half_of (members_of b)));
      body_words = p.lines_words;
      body_one_line = p.one_line;
      each = p.each;
      value = ap (λ ms. record { elements = n; body = with_members b ms; names = printed_names n names }) p.value;
      room = p.room;
      complete = refl;
    }

-- the lines that are printed in version 2 spell the document
pub printed_two_spelled : (d : Document) → IsInForm d → IsClosedUnderNegation d.body
    → IsSpelled (wordful (printed_two_lines d)) (doubled_document d)
printed_two_spelled d f c = reread_two d f (body_reread d.elements d.body d.names f c)

-- what is printed in version 2 is a document
pub printed_two_document : (d : Document) → IsInForm d → IsClosedUnderNegation d.body
    → IsDocument (lines (printed_two d)) (doubled_document d)
printed_two_document d f c =
    subst (λ ls. IsDocument ls (doubled_document d))
    (sym (lines_text (printed_two_lines d) (one_lines d f (body_reread d.elements d.body d.names f c))))
    (printed_two_spelled d f c)
