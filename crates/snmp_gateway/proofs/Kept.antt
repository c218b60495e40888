-- What a message keeps where an address in it is replaced.
use Rattle.std.proofs.Common.{◌≡◌, ℕ, zero, suc, ◌+◌, ◌-◌, ◌<◌, ◌≤◌, ◌==◌, ◌⊎◌, Bool, true, false, ◌&&◌, nat_le, List, [], ◌∷◌, ◌++◌, get_or, take}
use Rattle.std.proofs.Common.{drop, length, Option, Some, None, option_map, option_to_list, unwrap_or, inl, inr, refl, ap, subst, ◌∙◌, sym, arith}
use Rattle.std.proofs.Common.{length-drop, length-append, if◌then◌else◌}
use Rattle.std.proofs.lemmas.Bool.Decides.{nat_tests}
use Rattle.std.proofs.lemmas.Option.{same_Some}
use Rattle.std.proofs.lemmas.List.{length-take-le, get_or-take, get_or-drop, get_or_append_left, get_or-append_right}
use Rattle.gate_base.specs.Prelude.{◌>>=◌, u32_at, with_u32}
use Rattle.byteorder.specs.Endian.{big_bytes}
use Rattle.snmp_gateway.specs.Element.{element_at}
use Rattle.snmp_gateway.proofs.Elements.{element_room, element_alike}
use Rattle.snmp_gateway.specs.declared.message.SnmpKind.{SnmpKind}
use Rattle.snmp_gateway.specs.declared.part.Part.{Part}
use Rattle.snmp_gateway.specs.declared.part.Piece.{Piece}
use Rattle.snmp_gateway.specs.Parts.{has_right_size, piece_of, first_of, field, behind_fields, only, in_sequence}
use Rattle.snmp_gateway.specs.declared.part.TheConstants.{INTEGER, IP_ADDRESS, OBJECT_IDENTIFIER, SEQUENCE, TIME_TICKS}
use Rattle.snmp_gateway.specs.Message.{is_value_tag, address_in, binding, bindings_within, request, trap}
use Rattle.snmp_gateway.specs.Renaming.{renamed_at}
use Rattle.snmp_gateway.proofs.Reading.{bound, tested, Read, first_read, within_size, address_size}
use Rattle.snmp_gateway.proofs.Reading.{first_cut, field_cut, behind_follows, only_first, binding_leaves}

-- at most the four octets at a place are others
pub record Differs (place : ℕ) (old new : List ℕ) : Type 0 where
  pub size : length new ≡ length old
  pub same : (k : ℕ) → (k < place) ⊎ (place + 4 ≤ k) → get_or new k 0 ≡ get_or old k 0

with_differs : (place value : ℕ) (old : List ℕ) → place + 4 ≤ length old → Differs place old (with_u32 place value old)
with_differs place value old within =
    let front = take place old ++ big_bytes 4 value in
    let count : length front ≡ place + 4 = length-append (take place old) (big_bytes 4 value)
    ∙ ap (λ n. n + 4) (length-take-le place old (omega arith)) in
    record {
      size = length-append front (drop (place + 4) old) ∙ omega (arith, count, length-drop (place + 4) old);
      same = λ k apart. elim apart [
        | inl before ↦ (
            get_or_append_left front (drop (place + 4) old) 0 k (omega (arith, count))
            ∙ get_or_append_left (take place old) (big_bytes 4 value) 0 k (omega (arith, length-take-le place old (omega arith)))
            ∙ get_or-take place old k 0 before
            )
        | inr behind ↦ (
            get_or-append_right front (drop (place + 4) old) (place + 4) k 0 count behind
            ∙ get_or-drop (place + 4) old (k - (place + 4)) 0
            ∙ ap (λ n. get_or old n 0) (omega arith)
            )
      ];
    }

pub renamed_differs : (image : ℕ → Option ℕ) (place : ℕ) (old : List ℕ) → place + 4 ≤ length old → Differs place old (renamed_at image place old)
renamed_differs image place old within = by_image (image (u32_at place old))
  where
    by_image : (o : Option ℕ) → Differs place old (unwrap_or (option_map (λ new. with_u32 place new old) o) old)
    by_image None = record { size = refl; same = λ k apart. refl }
    by_image (Some value) = with_differs place value old within

inside_test : (start end size : ℕ) → start ≤ end → end ≤ size → (nat_le start end && nat_le end size) ≡ true
inside_test start end size a b = grind (arith, nat_tests)

-- octets of a part that stay
octet_same : (place : ℕ) (old new : List ℕ) → Differs place old new → (start count k : ℕ) → k < count → (start + k < place) ⊎ (place + 4 ≤ start + k)
    → get_or (take count (drop start new)) k 0 ≡ get_or (take count (drop start old)) k 0
octet_same place old new differs start count k below apart =
    get_or-take count (drop start new) k 0 below ∙ get_or-drop start new k 0
    ∙ differs.same (start + k) apart
    ∙ sym (get_or-take count (drop start old) k 0 below ∙ get_or-drop start old k 0)

apart_by : (place start head content k : ℕ) → (content ≤ place) ⊎ (place + 4 ≤ start) → start + head ≡ content → k < head → (start + k < place)
    ⊎ (place + 4 ≤ start + k)
apart_by place start head content k (inl before) is below = inl (omega arith)
apart_by place start head content k (inr behind) is below = inr (omega arith)

first_made : (octets : List ℕ) (part : Part) (piece : Piece) → Read octets part piece → first_of octets part ≡ Some piece
unfolding first_of
first_made octets part piece read =
    let test : (nat_le part.start part.end && nat_le part.end (length octets)) ≡ true =
    inside_test part.start part.end (length octets) read.ordered read.in_message in
    rw test (
    ap (λ within. element_at within >>= λ found. if has_right_size found.0.tag (length found.0.content) then Some (piece_of part found) else None)
    (sym read.within_is)
    ∙ ap (λ o. o >>= λ found. if has_right_size found.0.tag (length found.0.content) then Some (piece_of part found) else None) read.found
    ∙ ap (λ b. if b then Some (piece_of part (read.element, read.rest)) else None) read.right
    ∙ ap Some (sym read.piece_is)
    )

-- the places of an element by its sizes
abbrev pub piece_by : Part → ℕ → ℕ → ℕ → Piece
piece_by part tag count left =
    record {
      tag = tag;
      content = record { start = part.end - left - count; end = part.end - left };
      rest = record { start = part.end - left; end = part.end };
    }

-- an element stays where its head stays
pub first_same : (place : ℕ) (old new : List ℕ) → Differs place old new → (part : Part) (piece : Piece) → first_of old part ≡ Some piece
    → (piece.content.start ≤ place) ⊎ (place + 4 ≤ part.start) → first_of new part ≡ Some piece
first_same place old new differs part piece e clear =
    let read = first_read old part piece e in
    let size = within_size old read.within part.start part.end read.within_is read.ordered read.in_message in
    let start = ap (λ (p : Piece). p.content.start) read.piece_is in
    let within = take (part.end - part.start) (drop part.start new) in
    let again = within_size new within part.start part.end refl read.ordered (omega (arith, differs.size, read.in_message)) in
    let room = element_room read.within read.element read.rest read.found in
    let head = length read.within - length read.rest - length read.element.content in
    let content : part.start + head ≡ piece.content.start = omega (arith, size, room, start, read.ordered) in
    let same : (k : ℕ) → k < head → get_or within k 0 ≡ get_or read.within k 0 = λ k below.
    octet_same place old new differs part.start (part.end - part.start) k (omega (arith, size, below))
    (apart_by place part.start head piece.content.start k clear content below)
    ∙ ap (λ (xs : List ℕ). get_or xs k 0) (sym read.within_is)
    in
    let alike = element_alike read.within within read.element read.rest read.found (again ∙ sym size) same in
    first_made new part piece (record {
      within = within;
      within_is = refl;
      ordered = read.ordered;
      in_message = omega (arith, differs.size, read.in_message);
      element = alike.other;
      rest = alike.behind;
      found = alike.found;
      right = ap (λ n. has_right_size n (length alike.other.content)) alike.tag_is ∙ ap (has_right_size read.element.tag) alike.content_is
          ∙ read.right;
      piece_is = read.piece_is ∙ sym (
          ap (λ n. piece_by part n (length alike.other.content) (length alike.behind)) alike.tag_is
          ∙ ap (λ n. piece_by part read.element.tag n (length alike.behind)) alike.content_is
          ∙ ap (piece_by part read.element.tag (length read.element.content)) alike.rest_is
          );
    })

chosen_same : (test : Piece → Bool) (o other : Option Piece) (piece : Piece) → (o >>= λ p. if test p then Some p else None) ≡ Some piece
    → (o ≡ Some piece → other ≡ Some piece) → (other >>= λ p. if test p then Some p else None) ≡ Some piece
chosen_same test o other piece e next =
    let first = bound o _ piece e in
    let right = tested _ _ _ first.then_is in
    ap (λ o. o >>= λ p. if test p then Some p else None) (next (first.is ∙ ap Some right.same))
    ∙ ap (λ b. if b then Some piece else None) (ap test (sym right.same) ∙ right.holds)

pub field_same : (place : ℕ) (old new : List ℕ) → Differs place old new → (tag : ℕ) (part : Part) (piece : Piece) → field old tag part ≡ Some piece
    → (piece.content.start ≤ place) ⊎ (place + 4 ≤ part.start) → field new tag part ≡ Some piece
field_same place old new differs tag part piece e clear =
    chosen_same (λ p. p.tag == tag) (first_of old part) (first_of new part) piece e (λ first. first_same place old new differs part piece first clear)

pub only_same : (place : ℕ) (old new : List ℕ) → Differs place old new → (part : Part) (piece : Piece) → only old part ≡ Some piece
    → (piece.content.start ≤ place) ⊎ (place + 4 ≤ part.start) → only new part ≡ Some piece
only_same place old new differs part piece e clear =
    chosen_same (λ p. p.rest.start == p.rest.end) (first_of old part) (first_of new part) piece e
    (λ first. first_same place old new differs part piece first clear)

clear_on : (place start content next rest : ℕ) → start ≤ content → content ≤ next → next ≤ rest → (rest ≤ place) ⊎ (place + 4 ≤ start)
    → ((content ≤ place) ⊎ (place + 4 ≤ start)) × ((rest ≤ place) ⊎ (place + 4 ≤ next))
clear_on place start content next rest a b c (inl before) = (inl (omega arith), inl before)
clear_on place start content next rest a b c (inr behind) = (inr behind, inr (omega arith))

earlier : (place start content later from : ℕ) → content ≤ later → start ≤ from → (later ≤ place) ⊎ (place + 4 ≤ start) → (content ≤ place)
    ⊎ (place + 4 ≤ from)
earlier place start content later from a b (inl before) = inl (omega arith)
earlier place start content later from a b (inr behind) = inr (omega arith)

pub behind_same : (place : ℕ) (old new : List ℕ) → Differs place old new → (tags : List ℕ) (part rest : Part)
    → behind_fields old tags part ≡ Some rest → (rest.start ≤ place) ⊎ (place + 4 ≤ part.start) → behind_fields new tags part ≡ Some rest
unfolding behind_fields
behind_same place old new differs [] part rest e clear = e
behind_same place old new differs (tag ∷ tags) part rest e clear =
    let piece = bound (field old tag part) _ rest e in
    let cut = field_cut old tag part piece.value piece.is in
    let follows = behind_follows old tags piece.value.rest rest piece.then_is in
    let on = clear_on place part.start piece.value.content.start piece.value.rest.start rest.start (omega (arith, cut.head))
    (omega (arith, cut.content, cut.next)) follows.start clear in
    ap (λ o. o >>= λ piece. behind_fields new tags piece.rest) (field_same place old new differs tag part piece.value piece.is on.0)
    ∙ behind_same place old new differs tags piece.value.rest rest piece.then_is on.1

-- the content of a part's only element
pub record Fills (octets : List ℕ) (part content : Part) : Type 0 where
  pub start : part.start < content.start
  pub ordered : content.start ≤ content.end
  pub end : content.end ≡ part.end
  pub within : part.end ≤ length octets

pub sequence_fills : (octets : List ℕ) (part content : Part) → in_sequence octets part ≡ Some content → Fills octets part content
sequence_fills octets part content e =
    let piece = bound (only octets part) _ content e in
    let right = tested _ _ _ piece.then_is in
    let first = only_first octets part piece.value piece.is in
    let cut = first_cut octets part piece.value first.0 in
    let start = ap (λ (p : Part). p.start) right.same in
    let end = ap (λ (p : Part). p.end) right.same in
    record {
      start = omega (arith, cut.head, start);
      ordered = omega (arith, cut.content, start, end);
      end = sym end ∙ cut.next ∙ first.1 ∙ cut.end;
      within = cut.within;
    }

pub sequence_same : (place : ℕ) (old new : List ℕ) → Differs place old new → (part content : Part) → in_sequence old part ≡ Some content
    → (content.start ≤ place) ⊎ (place + 4 ≤ part.start) → in_sequence new part ≡ Some content
sequence_same place old new differs part content e clear =
    let piece = bound (only old part) _ content e in
    let right = tested _ _ _ piece.then_is in
    let here = subst (λ (n : ℕ). (n ≤ place) ⊎ (place + 4 ≤ part.start)) (sym (ap (λ (p : Part). p.start) right.same)) clear in
    ap (λ o. o >>= λ piece. if piece.tag == SEQUENCE then Some piece.content else None)
    (only_same place old new differs part piece.value piece.is here)
    ∙ ap (λ b. if b then Some piece.value.content else None) right.holds
    ∙ ap Some right.same

binding_kept : (place : ℕ) (old new : List ℕ) → Differs place old new → (kind : SnmpKind) (part : Part) (found : Option ℕ × Part)
    → binding old kind part ≡ Some found
    → ((value : Piece) → address_in value ≡ found.0 → value.content.start ≤ found.1.start → (value.content.start ≤ place) ⊎ (place + 4 ≤ part.start))
    → binding new kind part ≡ Some found
unfolding binding
binding_kept place old new differs kind part found e clear =
    let pair = bound (field old SEQUENCE part) _ found e in
    let name = bound (behind_fields old (OBJECT_IDENTIFIER ∷ []) pair.value.content) _ found pair.then_is in
    let value = bound (only old name.value) _ found name.then_is in
    let right = tested _ _ _ value.then_is in
    let cut = field_cut old SEQUENCE part pair.value pair.is in
    let follows = behind_follows old (OBJECT_IDENTIFIER ∷ []) pair.value.content name.value name.is in
    let first = only_first old name.value value.value value.is in
    let value_cut = first_cut old name.value value.value first.0 in
    let address = ap (λ (f : Option ℕ × Part). f.0) right.same in
    let rest = ap (λ (f : Option ℕ × Part). f.1.start) right.same in
    let here = clear value.value address (omega (arith, cut.next, follows.end, value_cut.content, value_cut.next, value_cut.end, first.1, rest)) in
    let pair_same = field_same place old new differs SEQUENCE part pair.value pair.is
    (earlier place part.start pair.value.content.start value.value.content.start part.start (omega (arith, follows.start, value_cut.head))
    (omega arith) here) in
    let name_same = behind_same place old new differs (OBJECT_IDENTIFIER ∷ []) pair.value.content name.value name.is
    (earlier place part.start name.value.start value.value.content.start pair.value.content.start (omega (arith, value_cut.head))
    (omega (arith, cut.head)) here) in
    let value_same = only_same place old new differs name.value value.value value.is
    (earlier place part.start value.value.content.start value.value.content.start name.value.start (omega arith)
    (omega (arith, cut.head, follows.start)) here) in
    ap (λ o. o >>= λ pair. behind_fields new (OBJECT_IDENTIFIER ∷ []) pair.content >>= λ rest. only new rest >>= λ value. if is_value_tag kind
    value.tag then Some (address_in value, pair.rest) else None) pair_same
    ∙ ap (λ o. o >>= λ rest. only new rest >>= λ value. if is_value_tag kind value.tag then Some (address_in value, pair.value.rest) else None)
    name_same
    ∙ ap (λ o. o >>= λ value. if is_value_tag kind value.tag then Some (address_in value, pair.value.rest) else None) value_same
    ∙ value.then_is

address_start : (value : Piece) (place : ℕ) → address_in value ≡ Some place → value.content.start ≡ place
address_start value place e = (tested _ _ _ e).same

-- a binding stays where only its address, or what stands before or behind it, is replaced
pub binding_same : (place : ℕ) (old new : List ℕ) → Differs place old new → (kind : SnmpKind) (part : Part) (found : Option ℕ × Part)
    → binding old kind part ≡ Some found → (found.0 ≡ Some place) ⊎ (found.1.start ≤ place) ⊎ (place + 4 ≤ part.start)
    → binding new kind part ≡ Some found
binding_same place old new differs kind part found e (inl address) =
    binding_kept place old new differs kind part found e (λ value is end. inl (omega (arith, address_start value place (is ∙ address))))
binding_same place old new differs kind part found e (inr (inl behind)) =
    binding_kept place old new differs kind part found e (λ value is end. inl (omega (arith, end, behind)))
binding_same place old new differs kind part found e (inr (inr before)) =
    binding_kept place old new differs kind part found e (λ value is end. inr before)

-- a place is among some
abbrev pub IsAmong : ℕ → List ℕ → Type 0
IsAmong place [] = ⊥
IsAmong place (other ∷ places) = (other ≡ place) ⊎ IsAmong place places

pub among_either : (place : ℕ) (first : Option ℕ) (places : List ℕ) → IsAmong place (option_to_list first ++ places) → (first ≡ Some place)
    ⊎ IsAmong place places
among_either place None places among = inr among
among_either place (Some other) places (inl is) = inl (ap Some is)
among_either place (Some other) places (inr among) = inr among

-- how bindings were read: none, or one and more
pub data Reads (octets : List ℕ) (f : ℕ) (kind : SnmpKind) (part : Part) (places : List ℕ) : Type 0 where
  Ends : (part.start == part.end) ≡ true → Some [] ≡ Some places → Reads octets f kind part places
  Goes : (part.start == part.end) ≡ false → (found : Option ℕ × Part) (more : List ℕ) → binding octets kind part ≡ Some found
      → bindings_within f octets kind found.1 ≡ Some more → option_to_list found.0 ++ more ≡ places → Reads octets f kind part places

reads_by : (octets : List ℕ) (f : ℕ) (kind : SnmpKind) (part : Part) (places : List ℕ) (test : Bool) → (part.start == part.end) ≡ test
    → (if test then Some [] else (binding octets kind part >>= λ found. bindings_within f octets kind found.1 >>= λ places. Some
    (option_to_list found.0 ++ places))) ≡ Some places → Reads octets f kind part places
reads_by octets f kind part places true is e = Ends is e
reads_by octets f kind part places false is e =
    let found = bound (binding octets kind part) _ places e in
    let more = bound (bindings_within f octets kind found.value.1) _ places found.then_is in
    Goes is found.value more.value found.is more.is (same_Some _ _ more.then_is)

pub bindings_read : (octets : List ℕ) (f : ℕ) (kind : SnmpKind) (part : Part) (places : List ℕ)
    → bindings_within (suc f) octets kind part ≡ Some places → Reads octets f kind part places
unfolding bindings_within
bindings_read octets f kind part places e = reads_by octets f kind part places (part.start == part.end) refl e

bindings_made : (octets : List ℕ) (f : ℕ) (kind : SnmpKind) (part : Part) (places : List ℕ) → Reads octets f kind part places
    → bindings_within (suc f) octets kind part ≡ Some places
unfolding bindings_within
bindings_made octets f kind part places (Ends test e) = rw test e
bindings_made octets f kind part places (Goes test found more is next all) =
    rw test (
    ap (λ o. o >>= λ found. bindings_within f octets kind found.1 >>= λ places. Some (option_to_list found.0 ++ places)) is
    ∙ ap (λ o. o >>= λ places. Some (option_to_list found.0 ++ places)) next
    ∙ ap Some all
    )

-- no place without bindings
pub none_among : (place : ℕ) (octets : List ℕ) (kind : SnmpKind) (part : Part) (places : List ℕ) → bindings_within zero octets kind part ≡ Some places
    → IsAmong place places → ⊥
unfolding bindings_within
none_among place octets kind part places e among = none_by (part.start == part.end) e
  where
    none_by : (test : Bool) → (if test then Some [] else None) ≡ Some places → ⊥
    none_by true is = subst (IsAmong place) (sym (same_Some _ _ is)) among
    none_by false is = cc

follows_by : (place : ℕ) (octets : List ℕ) (kind : SnmpKind) (part : Part) (found : Option ℕ × Part) (more : List ℕ)
    → binding octets kind part ≡ Some found → (IsAmong place more → (found.1.start ≤ place) × (place + 4 ≤ length octets))
    → IsAmong place (option_to_list found.0 ++ more) → (part.start ≤ place) × (place + 4 ≤ length octets)
follows_by place octets kind part found more is on among =
    let leaves = binding_leaves octets kind part found is in
    elim (among_either place found.0 more among) [
      | inl address ↦ let inside = leaves.inside place address in (inside.0, omega (arith, inside.1, leaves.ordered, leaves.end, leaves.within))
      | inr later ↦ let inside = on later in (omega (arith, inside.0, leaves.some), inside.1)
    ]

-- an address of bindings stands in their part
pub place_follows : (place : ℕ) (octets : List ℕ) (f : ℕ) (kind : SnmpKind) (part : Part) (places : List ℕ)
    → bindings_within f octets kind part ≡ Some places → IsAmong place places → (part.start ≤ place) × (place + 4 ≤ length octets)
place_follows place octets zero kind part places e among = absurd (none_among place octets kind part places e among)
place_follows place octets (suc f) kind part places e among = elim (bindings_read octets f kind part places e) [
  | Ends test is ↦ absurd (subst (IsAmong place) (sym (same_Some _ _ is)) among)
  | Goes test found more is next all ↦ follows_by place octets kind part found more is
      (λ later. place_follows place octets f kind found.1 more next later) (subst (IsAmong place) (sym all) among)
]

clear_next : (place : ℕ) (octets : List ℕ) (f : ℕ) (kind : SnmpKind) (part : Part) (found : Option ℕ × Part) (more : List ℕ)
    → binding octets kind part ≡ Some found → bindings_within f octets kind found.1 ≡ Some more → IsAmong place (option_to_list found.0 ++ more)
    ⊎ (place + 4 ≤ part.start) → ((found.0 ≡ Some place) ⊎ (found.1.start ≤ place) ⊎ (place + 4 ≤ part.start))
    × (IsAmong place more ⊎ (place + 4 ≤ found.1.start))
clear_next place octets f kind part found more is next (inr before) =
    let leaves = binding_leaves octets kind part found is in
    (inr (inr before), inr (omega (arith, leaves.some)))
clear_next place octets f kind part found more is next (inl among) =
    let leaves = binding_leaves octets kind part found is in
    elim (among_either place found.0 more among) [
      | inl address ↦ (inl address, inr (leaves.inside place address).1)
      | inr later ↦ (inr (inl (place_follows place octets f kind found.1 more next later).0), inl later)
    ]

-- bindings stay where only an address in them, or what stands before them, is replaced
pub bindings_same : (place : ℕ) (old new : List ℕ) → Differs place old new → (f : ℕ) (kind : SnmpKind) (part : Part) (places : List ℕ)
    → bindings_within f old kind part ≡ Some places → IsAmong place places ⊎ (place + 4 ≤ part.start) → bindings_within f new kind part ≡ Some places
unfolding bindings_within
bindings_same place old new differs zero kind part places e clear = e
bindings_same place old new differs (suc f) kind part places e clear = elim (bindings_read old f kind part places e) [
  | Ends test is ↦ bindings_made new f kind part places (Ends test is)
  | Goes test found more is next all ↦ (
      let on = clear_next place old f kind part found more is next
      (subst (λ (ps : List ℕ). IsAmong place ps ⊎ (place + 4 ≤ part.start)) (sym all) clear) in
      bindings_made new f kind part places
      (Goes test found more (binding_same place old new differs kind part found is on.0)
      (bindings_same place old new differs f kind found.1 more next on.1) all)
      )
]

-- what a PDU's fields leave
pub record Opens (part : Part) (agent : Option ℕ) (rest : Part) : Type 0 where
  pub start : part.start ≤ rest.start
  pub end : rest.end ≡ part.end
  pub inside : (place : ℕ) → agent ≡ Some place → (part.start ≤ place) × (place + 4 ≤ rest.start)

pub request_opens : (octets : List ℕ) (part : Part) (found : Option ℕ × Part) → request octets part ≡ Some found → Opens part found.0 found.1
request_opens octets part found e =
    let rest = bound (behind_fields octets (INTEGER ∷ INTEGER ∷ INTEGER ∷ []) part) _ found e in
    let follows = behind_follows octets (INTEGER ∷ INTEGER ∷ INTEGER ∷ []) part rest.value rest.is in
    let same = same_Some _ _ rest.then_is in
    record {
      start = omega (arith, follows.start, ap (λ (f : Option ℕ × Part). f.1.start) same);
      end = sym (ap (λ (f : Option ℕ × Part). f.1.end) same) ∙ follows.end;
      inside = λ place is. let none = ap (λ (f : Option ℕ × Part). f.0) same ∙ is in absurd cc;
    }

pub request_same : (place : ℕ) (old new : List ℕ) → Differs place old new → (part : Part) (found : Option ℕ × Part) → request old part ≡ Some found
    → (found.0 ≡ Some place) ⊎ (found.1.start ≤ place) → request new part ≡ Some found
request_same place old new differs part found e clear =
    let rest = bound (behind_fields old (INTEGER ∷ INTEGER ∷ INTEGER ∷ []) part) _ found e in
    let same = same_Some _ _ rest.then_is in
    let none : found.0 ≡ Some place → rest.value.start ≤ place = λ is. let wrong = ap (λ (f : Option ℕ × Part). f.0) same ∙ is in absurd cc in
    let behind : found.1.start ≤ place → rest.value.start ≤ place = λ h. omega (arith, h, ap (λ (f : Option ℕ × Part). f.1.start) same) in
    let here : rest.value.start ≤ place = elim clear [ inl is ↦ none is | inr h ↦ behind h ] in
    ap (λ o. o >>= λ rest. Some (None, rest)) (behind_same place old new differs (INTEGER ∷ INTEGER ∷ INTEGER ∷ []) part rest.value rest.is
    (inl here)) ∙ rest.then_is

-- how a trap was read
record ReadsTrap (octets : List ℕ) (part : Part) (found : Option ℕ × Part) : Type 0 where
  pub before : Part
  pub before_is : behind_fields octets (OBJECT_IDENTIFIER ∷ []) part ≡ Some before
  pub agent : Piece
  pub agent_is : field octets IP_ADDRESS before ≡ Some agent
  pub rest : Part
  pub rest_is : behind_fields octets (INTEGER ∷ INTEGER ∷ TIME_TICKS ∷ []) agent.rest ≡ Some rest
  pub found_is : found ≡ (Some agent.content.start, rest)

trap_read : (octets : List ℕ) (part : Part) (found : Option ℕ × Part) → trap octets part ≡ Some found → ReadsTrap octets part found
trap_read octets part found e =
    let before = bound (behind_fields octets (OBJECT_IDENTIFIER ∷ []) part) _ found e in
    let agent = bound (field octets IP_ADDRESS before.value) _ found before.then_is in
    let rest = bound (behind_fields octets (INTEGER ∷ INTEGER ∷ TIME_TICKS ∷ []) agent.value.rest) _ found agent.then_is in
    record {
      before = before.value;
      before_is = before.is;
      agent = agent.value;
      agent_is = agent.is;
      rest = rest.value;
      rest_is = rest.is;
      found_is = sym (same_Some _ _ rest.then_is);
    }

trap_made : (octets : List ℕ) (part : Part) (found : Option ℕ × Part) → ReadsTrap octets part found → trap octets part ≡ Some found
trap_made octets part found read =
    ap (λ o. o >>= λ rest. field octets IP_ADDRESS rest >>= λ agent. behind_fields octets (INTEGER ∷ INTEGER ∷ TIME_TICKS ∷ []) agent.rest
    >>= λ rest. Some (Some agent.content.start, rest)) read.before_is
    ∙ ap (λ o. o >>= λ agent. behind_fields octets (INTEGER ∷ INTEGER ∷ TIME_TICKS ∷ []) agent.rest >>= λ rest. Some (Some agent.content.start, rest))
    read.agent_is
    ∙ ap (λ o. o >>= λ rest. Some (Some read.agent.content.start, rest)) read.rest_is
    ∙ ap Some (sym read.found_is)

agent_size : (octets : List ℕ) (part : Part) (agent : Piece) → field octets IP_ADDRESS part ≡ Some agent → agent.content.start + 4 ≡ agent.content.end
agent_size octets part agent e =
    let first = bound (first_of octets part) _ agent e in
    let right = tested _ _ _ first.then_is in
    address_size octets part agent (first.is ∙ ap Some right.same) (ap (λ (p : Piece). p.tag == IP_ADDRESS) (sym right.same) ∙ right.holds)

pub trap_opens : (octets : List ℕ) (part : Part) (found : Option ℕ × Part) → trap octets part ≡ Some found → Opens part found.0 found.1
trap_opens octets part found e =
    let read = trap_read octets part found e in
    let before = behind_follows octets (OBJECT_IDENTIFIER ∷ []) part read.before read.before_is in
    let cut = field_cut octets IP_ADDRESS read.before read.agent read.agent_is in
    let size = agent_size octets read.before read.agent read.agent_is in
    let follows = behind_follows octets (INTEGER ∷ INTEGER ∷ TIME_TICKS ∷ []) read.agent.rest read.rest read.rest_is in
    let start = ap (λ (f : Option ℕ × Part). f.1.start) read.found_is in
    record {
      start = omega (arith, before.start, cut.head, cut.content, cut.next, follows.start, start);
      end = ap (λ (f : Option ℕ × Part). f.1.end) read.found_is ∙ follows.end ∙ cut.end ∙ before.end;
      inside = λ place is.
          let agent = same_Some _ _ (sym (ap (λ (f : Option ℕ × Part). f.0) read.found_is) ∙ is) in
          (omega (arith, agent, before.start, cut.head), omega (arith, agent, size, cut.next, follows.start, start));
    }

pub trap_same : (place : ℕ) (old new : List ℕ) → Differs place old new → (part : Part) (found : Option ℕ × Part) → trap old part ≡ Some found
    → (found.0 ≡ Some place) ⊎ (found.1.start ≤ place) → trap new part ≡ Some found
trap_same place old new differs part found e clear =
    let read = trap_read old part found e in
    let cut = field_cut old IP_ADDRESS read.before read.agent read.agent_is in
    let size = agent_size old read.before read.agent read.agent_is in
    let follows = behind_follows old (INTEGER ∷ INTEGER ∷ TIME_TICKS ∷ []) read.agent.rest read.rest read.rest_is in
    let start = ap (λ (f : Option ℕ × Part). f.1.start) read.found_is in
    let address : found.0 ≡ Some place → read.agent.content.start ≡ place =
    λ is. same_Some _ _ (sym (ap (λ (f : Option ℕ × Part). f.0) read.found_is) ∙ is) in
    let head : read.agent.content.start ≤ place =
    elim clear [ inl is ↦ omega (arith, address is) | inr h ↦ omega (arith, h, start, follows.start, cut.next, cut.content) ] in
    let behind : (read.rest.start ≤ place) ⊎ (place + 4 ≤ read.agent.rest.start) =
    elim clear [ inl is ↦ inr (omega (arith, address is, size, cut.next)) | inr h ↦ inl (omega (arith, h, start)) ] in
    trap_made new part found (record {
      before = read.before;
      before_is = behind_same place old new differs (OBJECT_IDENTIFIER ∷ []) part read.before read.before_is (inl (omega (arith, head, cut.head)));
      agent = read.agent;
      agent_is = field_same place old new differs IP_ADDRESS read.before read.agent read.agent_is (inl head);
      rest = read.rest;
      rest_is = behind_same place old new differs (INTEGER ∷ INTEGER ∷ TIME_TICKS ∷ []) read.agent.rest read.rest read.rest_is behind;
      found_is = read.found_is;
    })
