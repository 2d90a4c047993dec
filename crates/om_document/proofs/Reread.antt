-- The canonical form of a document is a document, and reads as this one with its members sorted.
--
-- Main definitions: IsReread
-- Main results: printed_one_line, printed_spelled, printed_document
use Rattle.std.proofs.Common.{◌≡◌, ℕ, ◌≤◌, List, [], ◌∷◌, ◌++◌, true, ◌&&◌, length, map, refl, sym, ap, subst, ◌∙◌}
use Rattle.std.proofs.Common.{arith, append-nil, nat_eq, nat_le, eq-eqb}
use Rattle.std.specs.Prelude.{codes}
use Rattle.std.specs.List.{list_all, concat, flat_map}
use Rattle.std.specs.Fmt.{signed_decimal}
use Rattle.std.proofs.lemmas.Bool.{le-leb}
use Rattle.om_signs.specs.declared.limits.TheConstants.{MAX_MEMBERS, MAX_BLOCKS}
use Rattle.om_signs.specs.declared.raw_map.RawMap.{RawMap}
use Rattle.om_signs.specs.declared.sign.Sign.{Sign}
use Rattle.om_subsets.specs.Subsets.{choose}
use Rattle.om_document.specs.declared.document.Document.{Document}
use Rattle.om_document.specs.declared.body.Body.{Body}
use Rattle.om_document.specs.declared.body.Body.TheVariants.{Chirotope, Wiring, Points}
use Rattle.om_document.specs.declared.setting.Setting.TheVariants.{Plain}
use Rattle.om_document.specs.declared.version.Version.TheVariants.{One}
use Rattle.om_lines.specs.Lines.{lines, wordful, end_line}
use Rattle.om_lines.specs.Words.{sign_of_byte, byte_of}
use Rattle.om_document.specs.Rows.{distinct, sorted}
use Rattle.om_document.specs.Members.{members_of, with_members}
use Rattle.om_document.specs.Settings.{version_one_line, finished}
use Rattle.om_document.specs.Document.{IsDocument, IsSpelled, are_signs, is_body_line, all_signs, members_of_line}
use Rattle.om_document.specs.Document.{filled, has_room, is_complete}
use Rattle.om_document.specs.Form.{IsInForm, AreMembersOn}
use Rattle.om_document.specs.Print.{sign_lines, member_lines, block_lines, kind_text, body_lines, printed_lines}
use Rattle.om_document.specs.Print.{printed, sorted_document}
use Rattle.om_document.proofs.BodyTexts.{map_rows, map_each, member_rows, members_long, points_reread, blocks_reread}
use Rattle.om_document.proofs.Feeds.{is_one_line, lines_text, one_line-append}
use Rattle.om_document.proofs.KindLines.{head_of, kind_line_read}
use Rattle.om_lines.proofs.WordLines.{wordful-append}
use Rattle.om_document.proofs.Sorting.{All-sorted, sorted_differ, length-sorted, distinct_itself}
use Rattle.om_document.proofs.Texts.{wordful-cons, single, signs_of_bytes_of}

-- ---- any document

-- what is printed of d after its kind line is read as its body
record IsReread (d : Document) : Type 0 where
  body : List (List (List ℕ))
  body_words : wordful (body_lines d.body) ≡ body
  body_one_line : list_all is_one_line (body_lines d.body) ≡ true
  each : list_all (is_body_line (head_of d)) body ≡ true
  value : filled Plain (head_of d) body ≡ sorted_document d
  room : has_room (sorted_document d) ≡ true
  complete : is_complete (sorted_document d) ≡ true

one_lines : (d : Document) → IsInForm d → IsReread d → list_all is_one_line (printed_lines d) ≡ true
one_lines d f p =
    rw (kind_line_read d f).one_line (one_line-append (body_lines d.body) (codes "end" ∷ []) p.body_one_line refl)

spelled_words : (d : Document) (f : IsInForm d) (p : IsReread d)
    → wordful (printed_lines d) ≡ version_one_line ∷ (kind_line_read d f).kind_words ∷ (p.body ++ end_line ∷ [])
spelled_words d f p =
    let k = kind_line_read d f in
    ap (λ x. version_one_line ∷ x)
    (wordful-cons (kind_text d) (body_lines d.body ++ codes "end" ∷ []) k.kind_words k.kind k.any
    ∙ ap (λ x. k.kind_words ∷ x) (wordful-append (body_lines d.body) (codes "end" ∷ [])
    ∙ ap (λ x. x ++ end_line ∷ []) p.body_words))

reread : (d : Document) → IsInForm d → IsReread d → IsSpelled (wordful (printed_lines d)) (sorted_document d)
reread d f p =
    let k = kind_line_read d f in
    record {
      first_line = version_one_line;
      version = One;
      kind_line = k.kind_words;
      head = head_of d;
      settings = [];
      names = [];
      setting = Plain;
      body = p.body;
      lines = spelled_words d f p;
      numbered = refl;
      heading = k.opens;
      elements = k.elements;
      rank = k.rank;
      size = k.size;
      set = refl;
      each = p.each;
      room = ap has_room p.value ∙ p.room;
      complete = ap is_complete p.value ∙ p.complete;
      value = ap (finished [] Plain) (sym p.value);
    }

-- ---- each kind

map_reread : (m : RawMap) (names : List (List ℕ)) → length m.signs ≡ choose m.elements m.rank
    → IsReread (record { elements = m.elements; body = Chirotope m; names = names })
map_reread m names h =
    let c = map_rows m.signs in
    let values : all_signs (single (sign_lines m.signs)) ≡ m.signs = ap (map sign_of_byte) c.joined
    ∙ signs_of_bytes_of m.signs in
    record {
      body = single (sign_lines m.signs);
      body_words = c.rows.lines_words;
      body_one_line = c.rows.one_line;
      each = map_each m.rank m.elements (single (sign_lines m.signs)) c.rows.signs;
      value = ap
          (λ xs. record {
            elements = m.elements;
            body =
                Chirotope (record { rank = m.rank; elements = m.elements; signs = xs });
            names = [];
          }) values;
      room = le-leb (length m.signs) (choose m.elements m.rank) (omega arith);
      complete = eq-eqb (length m.signs) (choose m.elements m.rank) h;
    }

members_read : (ms : List (List Sign)) → flat_map (members_of_line Plain) (single (member_lines ms)) ≡ ms
members_read [] = refl
members_read (x ∷ xs) =
    let e : map sign_of_byte (map byte_of x ++ []) ≡ x = ap (map sign_of_byte) (append-nil (map byte_of x))
    ∙ signs_of_bytes_of x in
    ap (λ y. y ∷ flat_map (members_of_line Plain) (single (member_lines xs))) e ∙ ap (λ r. x ∷ r) (members_read xs)

-- what lists have in common
record AreReread (n : ℕ) (ms : List (List Sign)) : Type 0 where
  lines_words : wordful (member_lines (sorted ms)) ≡ single (member_lines (sorted ms))
  one_line : list_all is_one_line (member_lines (sorted ms)) ≡ true
  each : list_all (λ l. are_signs l && nat_eq (length (concat l)) n && true && true) (single (member_lines (sorted ms)))
      ≡ true
  value : distinct (flat_map (members_of_line Plain) (single (member_lines (sorted ms)))) ≡ sorted ms
  room : nat_le (length (sorted ms)) MAX_MEMBERS ≡ true

members_reread : (n : ℕ) (ms : List (List Sign)) → 1 ≤ n → AreMembersOn n ms → AreReread n ms
members_reread n ms low f =
    let long = All-sorted (λ x. length x ≡ n) ms f.long in
    let rows = member_rows n (sorted ms) low long in
    record {
      lines_words = rows.lines_words;
      one_line = rows.one_line;
      each = members_long n (sorted ms) long;
      value = ap distinct (members_read (sorted ms)) ∙ distinct_itself (sorted ms) (sorted_differ ms f.distinct);
      room = le-leb (length (sorted ms)) MAX_MEMBERS (let e = length-sorted ms in let a = f.few in omega arith);
    }

body_reread : (n : ℕ) (b : Body) (names : List (List ℕ)) → IsInForm (record { elements = n; body = b; names = names })
    → IsReread (record { elements = n; body = b; names = names })
body_reread n (Chirotope m) names f =
    subst (λ e. IsReread (record { elements = e; body = Chirotope m; names = names })) f.body.elements
    (map_reread m names (f.body.signs ∙ ap (λ e. choose e m.rank) (sym f.body.elements)))
body_reread n (Wiring bs) names f =
    let p = blocks_reread bs f.body.short in
    record {
      body = single (block_lines bs);
      body_words = p.lines_words;
      body_one_line = p.one_line;
      each = p.each;
      value = ap (λ bs. record { elements = n; body = Wiring bs; names = [] }) p.value;
      room = le-leb (length bs) MAX_BLOCKS f.body.few;
      complete = refl;
    }
body_reread n (Points ps) names f =
    let p = points_reread ps f.body.each in
    record {
      body = map (map signed_decimal) ps;
      body_words = p.lines_words;
      body_one_line = p.one_line;
      each = p.each;
      value = ap (λ ps. record { elements = n; body = Points ps; names = [] }) p.value;
      room = le-leb (length ps) n (let c = f.body.count in omega arith);
      complete = eq-eqb (length ps) n f.body.count;
    }
body_reread n b names f =
    let p = members_reread n (members_of b) f.low f.body in
    record {
      body = single (member_lines (sorted (members_of b)));
      body_words = p.lines_words;
      body_one_line = p.one_line;
      each = p.each;
      value = ap (λ ms. record { elements = n; body = with_members b ms; names = [] }) p.value;
      room = p.room;
      complete = refl;
    }

-- the lines of the canonical form of a document are lines, and spell this one with its members sorted
pub printed_one_line : (d : Document) → IsInForm d → list_all is_one_line (printed_lines d) ≡ true
printed_one_line d f = one_lines d f (body_reread d.elements d.body d.names f)

-- the printed lines of a document within the limits spell it with its members sorted and without names
pub printed_spelled : (d : Document) → IsInForm d → IsSpelled (wordful (printed_lines d)) (sorted_document d)
printed_spelled d f = reread d f (body_reread d.elements d.body d.names f)

-- the canonical form of a document is a document, and its value is this one with its members sorted
pub printed_document : (d : Document) → IsInForm d → IsDocument (lines (printed d)) (sorted_document d)
printed_document d f = subst (λ ls. IsDocument ls (sorted_document d))
    (sym (lines_text (printed_lines d) (printed_one_line d f))) (printed_spelled d f)
