-- One element or one binding, and those that follow it.
use Rattle.std.proofs.Common.{◌≡◌, ℕ, zero, suc, ◌+◌, ◌-◌, ◌<◌, ◌≤◌, ◌==◌, Bool, true, false, List, [], ◌∷◌, ◌++◌}
use Rattle.std.proofs.Common.{get_or, take, drop, length, Option, Some, None, option_map, option_to_list, refl}
use Rattle.std.proofs.Common.{ap, ◌∙◌, sym, arith, length-drop, drop-cons, add-one, if◌then◌else◌, eqb-true}
use Rattle.std.proofs.lemmas.Bool.Decides.{nat_tests}
use Rattle.std.proofs.lemmas.Option.{same_Some}
use Rattle.std.proofs.lemmas.List.{length-take-le, drop_all}
use Rattle.gate_base.specs.Prelude.{◌>>=◌}
use Rattle.snmp_gateway.specs.Element.{Element, element_at}
use Rattle.snmp_gateway.proofs.Elements.{element_room}
use Rattle.snmp_gateway.specs.declared.message.SnmpKind.{SnmpKind}
use Rattle.snmp_gateway.specs.declared.part.Part.{Part}
use Rattle.snmp_gateway.specs.declared.part.Piece.{Piece}
use Rattle.snmp_gateway.specs.Parts.{has_right_size, octets_in, piece_of, first_of, field, behind_fields, only}
use Rattle.snmp_gateway.specs.declared.part.TheConstants.{IP_ADDRESS, OBJECT_IDENTIFIER, SEQUENCE}
use Rattle.snmp_gateway.specs.declared.outline.Outline.{Outline}
use Rattle.snmp_gateway.specs.Message.{binding, bindings_within, bindings, outline_of, places_ahead, message, kind_of}

-- the step that a chain of steps took first
pub record Bound {A B : Type 0} (o : Option A) (f : A → Option B) (r : B) : Type 0 where
  pub value : A
  pub is : o ≡ Some value
  pub then_is : f value ≡ Some r

pub bound : {A B : Type 0} (o : Option A) (f : A → Option B) (r : B) → (o >>= f) ≡ Some r → Bound o f r
bound None f r e = cc
bound (Some x) f r e = record { value = x; is = refl; then_is = e }

pub record Tested {A : Type 0} (test : Bool) (x y : A) : Type 0 where
  pub holds : test ≡ true
  pub same : x ≡ y

pub tested : {A : Type 0} (test : Bool) (x y : A) → (if test then Some x else None) ≡ Some y → Tested test x y
tested true x y e = record { holds = refl; same = same_Some x y e }
tested false x y e = cc

-- how an element was read
pub record Read (octets : List ℕ) (part : Part) (piece : Piece) : Type 0 where
  pub within : List ℕ
  pub within_is : within ≡ take (part.end - part.start) (drop part.start octets)
  pub ordered : part.start ≤ part.end
  pub in_message : part.end ≤ length octets
  pub element : Element
  pub rest : List ℕ
  pub found : element_at within ≡ Some (element, rest)
  pub right : has_right_size element.tag (length element.content) ≡ true
  pub piece_is : piece ≡ piece_of part (element, rest)

pub first_read : (octets : List ℕ) (part : Part) (piece : Piece) → first_of octets part ≡ Some piece → Read octets part piece
unfolding first_of
first_read octets part piece e =
    let part_read = bound (octets_in octets part) _ piece e in
    let element_read = bound (element_at part_read.value) _ piece part_read.then_is in
    let sized = tested _ _ _ element_read.then_is in
    let inside = tested _ _ _ part_read.is in
    let ordered : part.start ≤ part.end = grind (arith, nat_tests, inside.holds) in
    let in_message : part.end ≤ length octets = grind (arith, nat_tests, inside.holds) in
    record {
      within = part_read.value;
      within_is = sym inside.same;
      ordered = ordered;
      in_message = in_message;
      element = element_read.value.0;
      rest = element_read.value.1;
      found = element_read.is;
      right = sized.holds;
      piece_is = sym sized.same;
    }

pub within_size : (octets within : List ℕ) (start end : ℕ) → within ≡ take (end - start) (drop start octets) → start ≤ end → end ≤ length octets
    → length within ≡ end - start
within_size octets within start end is ordered inside = ap length is
    ∙ length-take-le (end - start) (drop start octets) (omega (arith, length-drop start octets))

-- the places of an element in a part
pub record IsCut (octets : List ℕ) (part : Part) (piece : Piece) : Type 0 where
  pub head : part.start + 2 ≤ piece.content.start
  pub content : piece.content.start ≤ piece.content.end
  pub next : piece.content.end ≡ piece.rest.start
  pub rest : piece.rest.start ≤ piece.rest.end
  pub end : piece.rest.end ≡ part.end
  pub within : part.end ≤ length octets

pub first_cut : (octets : List ℕ) (part : Part) (piece : Piece) → first_of octets part ≡ Some piece → IsCut octets part piece
first_cut octets part piece e =
    let read = first_read octets part piece e in
    let size = within_size octets read.within part.start part.end read.within_is read.ordered read.in_message in
    let room = element_room read.within read.element read.rest read.found in
    let start = ap (λ (p : Piece). p.content.start) read.piece_is in
    let stop = ap (λ (p : Piece). p.content.end) read.piece_is in
    let next = ap (λ (p : Piece). p.rest.start) read.piece_is in
    let end = ap (λ (p : Piece). p.rest.end) read.piece_is in
    record {
      head = omega (arith, size, room, start);
      content = omega (arith, size, room, start, stop);
      next = stop ∙ sym next;
      rest = omega (arith, size, room, next, end);
      end = end;
      within = read.in_message;
    }

-- what is behind fields, one after another
behind_more : (octets tags : List ℕ) (part : Part) (i : ℕ) → i < length tags
    → behind_fields octets (drop i tags) part ≡ (field octets (get_or tags i 0) part >>= λ piece. behind_fields octets (drop (i + 1) tags) piece.rest)
unfolding behind_fields
behind_more octets tags part i below = rw (add-one, drop-cons tags i 0)

pub behind_next : (octets tags : List ℕ) (part : Part) (i : ℕ) (o : Option Piece) (piece : Piece) → i < length tags
    → o ≡ field octets (get_or tags i 0) part → o ≡ Some piece
    → behind_fields octets (drop i tags) part ≡ behind_fields octets (drop (i + 1) tags) piece.rest
behind_next octets tags part i o piece below is found =
    behind_more octets tags part i below ∙ ap (λ o. o >>= λ piece. behind_fields octets (drop (i + 1) tags) piece.rest) (sym is ∙ found)

pub behind_fails : (octets tags : List ℕ) (part : Part) (i : ℕ) (o : Option Piece) → i < length tags → o ≡ field octets (get_or tags i 0) part
    → o ≡ None → behind_fields octets (drop i tags) part ≡ None
behind_fails octets tags part i o below is none =
    behind_more octets tags part i below ∙ ap (λ o. o >>= λ piece. behind_fields octets (drop (i + 1) tags) piece.rest) (sym is ∙ none)

pub behind_none : (octets tags : List ℕ) (part : Part) (i : ℕ) → length tags ≤ i → behind_fields octets (drop i tags) part ≡ Some part
unfolding behind_fields
behind_none octets tags part i past = rw drop_all

pub field_cut : (octets : List ℕ) (tag : ℕ) (part : Part) (piece : Piece) → field octets tag part ≡ Some piece → IsCut octets part piece
field_cut octets tag part piece e =
    let first = bound (first_of octets part) _ piece e in
    let right = tested _ _ _ first.then_is in
    first_cut octets part piece (first.is ∙ ap Some right.same)

-- an address has four octets
pub address_size : (octets : List ℕ) (part : Part) (piece : Piece) → first_of octets part ≡ Some piece → (piece.tag == IP_ADDRESS) ≡ true
    → piece.content.start + 4 ≡ piece.content.end
address_size octets part piece e is =
    let read = first_read octets part piece e in
    let size = within_size octets read.within part.start part.end read.within_is read.ordered read.in_message in
    let room = element_room read.within read.element read.rest read.found in
    let tag : read.element.tag ≡ IP_ADDRESS = sym (ap (λ (p : Piece). p.tag) read.piece_is) ∙ eqb-true _ _ is in
    let four = eqb-true _ _ (sym (ap (λ n. has_right_size n (length read.element.content)) tag) ∙ read.right) in
    let start = ap (λ (p : Piece). p.content.start) read.piece_is in
    let stop = ap (λ (p : Piece). p.content.end) read.piece_is in
    omega (arith, size, room, four, start, stop)

-- what is behind fields follows them
pub record Follows (part rest : Part) : Type 0 where
  pub start : part.start ≤ rest.start
  pub end : rest.end ≡ part.end

pub behind_follows : (octets tags : List ℕ) (part rest : Part) → behind_fields octets tags part ≡ Some rest → Follows part rest
unfolding behind_fields
behind_follows octets [] part rest e = let same = same_Some _ _ e in
    record { start = omega (arith, ap (λ (p : Part). p.start) same); end = sym (ap (λ (p : Part). p.end) same) }
behind_follows octets (tag ∷ tags) part rest e =
    let piece = bound (field octets tag part) _ rest e in
    let cut = field_cut octets tag part piece.value piece.is in
    let more = behind_follows octets tags piece.value.rest rest piece.then_is in
    record { start = omega (arith, cut.head, cut.content, cut.next, more.start); end = more.end ∙ cut.end }

pub only_first : (octets : List ℕ) (part : Part) (piece : Piece) → only octets part ≡ Some piece → (first_of octets part ≡ Some piece)
    × (piece.rest.start ≡ piece.rest.end)
only_first octets part piece e =
    let first = bound (first_of octets part) _ piece e in
    let alone = tested _ _ _ first.then_is in
    (first.is ∙ ap Some alone.same, eqb-true _ _ (ap (λ (p : Piece). p.rest.start == p.rest.end) (sym alone.same) ∙ alone.holds))

-- what a binding leaves
pub record Leaves (octets : List ℕ) (part : Part) (address : Option ℕ) (rest : Part) : Type 0 where
  pub some : part.start < rest.start
  pub end : rest.end ≡ part.end
  pub ordered : rest.start ≤ rest.end
  pub within : part.end ≤ length octets
  pub inside : (place : ℕ) → address ≡ Some place → (part.start ≤ place) × (place + 4 ≤ rest.start)

pub binding_leaves : (octets : List ℕ) (kind : SnmpKind) (part : Part) (found : Option ℕ × Part) → binding octets kind part ≡ Some found
    → Leaves octets part found.0 found.1
unfolding binding
binding_leaves octets kind part found e =
    let pair = bound (field octets SEQUENCE part) _ found e in
    let name = bound (behind_fields octets (OBJECT_IDENTIFIER ∷ []) pair.value.content) _ found pair.then_is in
    let value = bound (only octets name.value) _ found name.then_is in
    let right = tested _ _ _ value.then_is in
    let cut = field_cut octets SEQUENCE part pair.value pair.is in
    let rest = ap (λ (f : Option ℕ × Part). f.1.start) right.same in
    let end = ap (λ (f : Option ℕ × Part). f.1.end) right.same in
    let follows = behind_follows octets (OBJECT_IDENTIFIER ∷ []) pair.value.content name.value name.is in
    let first = only_first octets name.value value.value value.is in
    let value_cut = first_cut octets name.value value.value first.0 in
    record {
      some = omega (arith, cut.head, cut.content, cut.next, rest);
      end = sym end ∙ cut.end;
      ordered = omega (arith, cut.rest, rest, end);
      within = cut.within;
      inside = λ place is.
          let address = tested _ _ _ (ap (λ (f : Option ℕ × Part). f.0) right.same ∙ is) in
          let size = address_size octets name.value value.value first.0 address.holds in (
            omega (arith, address.same, cut.head, follows.start, value_cut.head),
            omega (arith, address.same, size, cut.next, follows.end, value_cut.next, value_cut.end, first.1, rest),
          );
    }

-- more is enough
within_by : (f g : ℕ) (octets : List ℕ) (kind : SnmpKind) (part : Part) (test : Bool) (o : Option (Option ℕ × Part))
    → ((found : Option ℕ × Part) → o ≡ Some found → bindings_within f octets kind found.1 ≡ bindings_within g octets kind found.1)
    → (if test then Some [] else (o >>= λ found. bindings_within f octets kind found.1 >>= λ places. Some (option_to_list found.0 ++ places)))
    ≡ (if test then Some [] else (o >>= λ found. bindings_within g octets kind found.1 >>= λ places. Some (option_to_list found.0 ++ places)))
within_by f g octets kind part true o same = refl
within_by f g octets kind part false None same = refl
within_by f g octets kind part false (Some found) same = ap (λ o. o >>= λ places. Some (option_to_list found.0 ++ places)) (same found refl)

none_by : (octets : List ℕ) (kind : SnmpKind) (part : Part) (most : ℕ) (test : Bool) (o : Option (Option ℕ × Part))
    → ((found : Option ℕ × Part) → o ≡ Some found → ⊥)
    → (if test then Some [] else (o >>= λ found. bindings_within most octets kind found.1 >>= λ places. Some (option_to_list found.0 ++ places)))
    ≡ (if test then Some [] else None)
none_by octets kind part most true o never = refl
none_by octets kind part most false None never = refl
none_by octets kind part most false (Some found) never = absurd (never found refl)

within_none : (octets : List ℕ) (kind : SnmpKind) (part : Part) (most : ℕ) → part.end - part.start ≤ 0
    → bindings_within most octets kind part ≡ bindings_within zero octets kind part
unfolding bindings_within
within_none octets kind part zero none = refl
within_none octets kind part (suc most) none = none_by octets kind part most (part.start == part.end) (binding octets kind part)
    (λ found e. let leaves = binding_leaves octets kind part found e in omega arith)

within_same : (f g : ℕ) (octets : List ℕ) (kind : SnmpKind) (part : Part) → part.end - part.start ≤ f → part.end - part.start ≤ g
    → bindings_within f octets kind part ≡ bindings_within g octets kind part
unfolding bindings_within
within_same zero g octets kind part a b = sym (within_none octets kind part g a)
within_same (suc f) zero octets kind part a b = within_none octets kind part (suc f) b
within_same (suc f) (suc g) octets kind part a b = within_by f g octets kind part (part.start == part.end) (binding octets kind part)
    (λ found e. let leaves = binding_leaves octets kind part found e in within_same f g octets kind found.1 (omega arith) (omega arith))

within_more : (octets : List ℕ) (kind : SnmpKind) (part : Part) (o : Option (Option ℕ × Part)) → binding octets kind part ≡ o
    → bindings octets kind part
    ≡ (if part.start == part.end then Some
    [] else (o >>= λ found. bindings_within (part.end - part.start) octets kind found.1 >>= λ places. Some (option_to_list found.0 ++ places)))
unfolding bindings_within
within_more octets kind part o e =
    within_same (part.end - part.start) (suc (part.end - part.start)) octets kind part (omega arith) (omega arith)
    ∙ ap (λ o. if part.start == part.end then Some
    [] else (o >>= λ found. bindings_within (part.end - part.start) octets kind found.1 >>= λ places. Some (option_to_list found.0 ++ places))) e

-- bindings go on
pub bindings_next : (octets : List ℕ) (kind : SnmpKind) (part : Part) (found : Option ℕ × Part) → binding octets kind part ≡ Some found
    → bindings octets kind part ≡ (bindings octets kind found.1 >>= λ places. Some (option_to_list found.0 ++ places))
bindings_next octets kind part found e =
    let leaves = binding_leaves octets kind part found e in
    let some : (part.start == part.end) ≡ false = grind (arith, nat_tests, leaves.some, leaves.end, leaves.ordered) in
    within_more octets kind part (Some found) e
    ∙ ap (λ b. if b then Some
    [] else (bindings_within (part.end - part.start) octets kind found.1 >>= λ places. Some (option_to_list found.0 ++ places))) some
    ∙ ap (λ o. o >>= λ places. Some (option_to_list found.0 ++ places))
    (within_same (part.end - part.start) (found.1.end - found.1.start) octets kind found.1 (omega arith) (omega arith))

-- or end
pub bindings_stop : (octets : List ℕ) (kind : SnmpKind) (part : Part) → binding octets kind part ≡ None
    → bindings octets kind part ≡ (if part.start == part.end then Some [] else None)
bindings_stop octets kind part e = within_more octets kind part None e

-- the bindings of a message are those of its outline
pub message_by : (octets : List ℕ) (o : Option Outline) → outline_of octets ≡ o
    → message octets ≡ (o >>= λ outline. places_ahead octets outline >>= λ places. Some (outline.kind, places))
unfolding message
message_by octets o e = ap (λ o. o >>= λ outline. places_ahead octets outline >>= λ places. Some (outline.kind, places)) e

pub no_outline : (octets : List ℕ) → outline_of octets ≡ None → kind_of octets ≡ None
no_outline octets e = ap (option_map (λ m. m.0)) (message_by octets None e)
