-- The whole message, and its addresses one after another.
use Rattle.std.proofs.Common.{◌≡◌, ℕ, zero, suc, ◌+◌, ◌-◌, ◌≤◌, ◌==◌, ◌⊎◌, Bool, true, false, List, [], ◌∷◌, ◌++◌, slice_index, length, Option}
use Rattle.std.proofs.Common.{Some, None, option_map, option_to_list, unwrap_or, IsSome, inl, inr, refl, ap, subst, ◌∙◌, sym, arith, if◌then◌else◌}
use Rattle.std.proofs.lemmas.Bool.{cases_Bool, eqb-true}
use Rattle.std.proofs.lemmas.Option.{same_Some}
use Rattle.gate_base.specs.Prelude.{◌>>=◌}
use Rattle.snmp_gateway.specs.declared.part.Part.{Part}
use Rattle.snmp_gateway.specs.declared.part.Piece.{Piece}
use Rattle.snmp_gateway.specs.declared.outline.Outline.{Outline}
use Rattle.snmp_gateway.specs.declared.message.SnmpKind.{SnmpKind}
use Rattle.snmp_gateway.specs.declared.message.SnmpKind.TheVariants.{V1, V2, V3}
use Rattle.snmp_gateway.specs.Parts.{field, behind_fields, only, in_sequence}
use Rattle.snmp_gateway.specs.declared.part.TheConstants.{INTEGER, OCTET_STRING}
use Rattle.snmp_gateway.specs.Message.{bindings_within, bindings, request, trap, is_pdu_tag, pdu, with_community}
use Rattle.snmp_gateway.specs.Message.{by_version, outline_of, places_ahead, message, kind_of, places_of, AreApart}
use Rattle.snmp_gateway.specs.declared.outline.TheConstants.{TRAP}
use Rattle.snmp_gateway.specs.Renaming.{renamed_at, renamed}
use Rattle.snmp_gateway.proofs.Reading.{bound, first_cut, field_cut, behind_follows, only_first, binding_leaves}
use Rattle.snmp_gateway.proofs.Kept.{Differs, renamed_differs, IsAmong, among_either, none_among, Ends, Goes, bindings_read}
use Rattle.snmp_gateway.proofs.Kept.{place_follows, bindings_same, Opens, request_opens, request_same, trap_opens}
use Rattle.snmp_gateway.proofs.Kept.{trap_same, sequence_fills, sequence_same, field_same, behind_same, only_same}

pub tested_first : {A : Type 0} (test : Bool) (o : Option A) (x : A) → (if test then o else None) ≡ Some x → (test ≡ true) × (o ≡ Some x)
tested_first true o x e = (refl, e)
tested_first false o x e = absurd cc

-- a trap or another PDU
one_of : {P : Type 0} (test : Bool) (trap other result : Option (Option ℕ × Part)) → (if test then trap else other) ≡ result → (trap ≡ result → P)
    → (other ≡ result → P) → P
one_of true trap other result e of_trap of_other = of_trap e
one_of false trap other result e of_trap of_other = of_other e

pdu_opens : (octets : List ℕ) (kind : SnmpKind) (piece : Piece) (found : Option ℕ × Part) → pdu octets kind piece ≡ Some found
    → Opens piece.content found.0 found.1
pdu_opens octets kind piece found e =
    let right = tested_first (is_pdu_tag kind piece.tag) _ found e in
    one_of (piece.tag == TRAP) (trap octets piece.content) (request octets piece.content) (Some found) right.1
    (trap_opens octets piece.content found) (request_opens octets piece.content found)

pdu_same : (place : ℕ) (old new : List ℕ) → Differs place old new → (kind : SnmpKind) (piece : Piece) (found : Option ℕ × Part)
    → pdu old kind piece ≡ Some found → (found.0 ≡ Some place) ⊎ (found.1.start ≤ place) → pdu new kind piece ≡ Some found
pdu_same place old new differs kind piece found e clear =
    let right = tested_first (is_pdu_tag kind piece.tag) _ found e in
    ap (λ b. if b then (if piece.tag == TRAP then trap new piece.content else request new piece.content) else None) right.0
    ∙ by_tag (piece.tag == TRAP) right.1
  where
    by_tag : (test : Bool) → (if test then trap old piece.content else request old piece.content) ≡ Some found
        → (if test then trap new piece.content else request new piece.content) ≡ Some found
    by_tag true is = trap_same place old new differs piece.content found is clear
    by_tag false is = request_same place old new differs piece.content found is clear

-- how a message with a community was read
record ReadsCommunity (octets : List ℕ) (kind : SnmpKind) (part : Part) (outline : Outline) : Type 0 where
  pub rest : Part
  pub rest_is : behind_fields octets (OCTET_STRING ∷ []) part ≡ Some rest
  pub piece : Piece
  pub piece_is : only octets rest ≡ Some piece
  pub behind : Part
  pub behind_is : pdu octets kind piece ≡ Some (outline.agent, behind)
  pub bindings_are : in_sequence octets behind ≡ Some outline.bindings
  pub kind_is : outline.kind ≡ kind

community_read : (octets : List ℕ) (kind : SnmpKind) (part : Part) (outline : Outline) → with_community octets kind part ≡ Some outline
    → ReadsCommunity octets kind part outline
community_read octets kind part outline e =
    let rest = bound (behind_fields octets (OCTET_STRING ∷ []) part) _ outline e in
    let piece = bound (only octets rest.value) _ outline rest.then_is in
    let found = bound (pdu octets kind piece.value) _ outline piece.then_is in
    let sequence = bound (in_sequence octets found.value.1) _ outline found.then_is in
    let same = same_Some _ _ sequence.then_is in
    record {
      rest = rest.value;
      rest_is = rest.is;
      piece = piece.value;
      piece_is = piece.is;
      behind = found.value.1;
      behind_is = found.is ∙ ap (λ (o : Outline). Some (o.agent, found.value.1)) same;
      bindings_are = sequence.is ∙ ap (λ (o : Outline). Some o.bindings) same;
      kind_is = sym (ap (λ (o : Outline). o.kind) same);
    }

community_made : (octets : List ℕ) (kind : SnmpKind) (part : Part) (outline : Outline) → ReadsCommunity octets kind part outline
    → with_community octets kind part ≡ Some outline
community_made octets kind part outline read =
    ap (λ o. o >>= λ rest. only octets rest >>= λ piece. pdu octets kind piece >>= λ found. in_sequence octets found.1 >>= λ bindings. Some
    (record { kind = kind; agent = found.0; bindings = bindings })) read.rest_is
    ∙ ap (λ o. o >>= λ piece. pdu octets kind piece >>= λ found. in_sequence octets found.1 >>= λ bindings. Some
    (record { kind = kind; agent = found.0; bindings = bindings })) read.piece_is
    ∙ ap (λ o. o >>= λ found. in_sequence octets found.1 >>= λ bindings. Some (record { kind = kind; agent = found.0; bindings = bindings }))
    read.behind_is
    ∙ ap (λ o. o >>= λ bindings. Some (record { kind = kind; agent = outline.agent; bindings = bindings })) read.bindings_are
    ∙ ap (λ k. Some (record { kind = k; agent = outline.agent; bindings = outline.bindings })) (sym read.kind_is)

-- where the address of an outline and its bindings stand
pub record Stands (octets : List ℕ) (start : ℕ) (outline : Outline) : Type 0 where
  pub inside : (place : ℕ) → outline.agent ≡ Some place → (start ≤ place) × (place + 4 ≤ outline.bindings.start)
  pub start_is : start ≤ outline.bindings.start
  pub ordered : outline.bindings.start ≤ outline.bindings.end
  pub end : outline.bindings.end ≤ length octets

community_stands : (octets : List ℕ) (kind : SnmpKind) (part : Part) (outline : Outline) → ReadsCommunity octets kind part outline
    → Stands octets part.start outline
community_stands octets kind part outline read =
    let follows = behind_follows octets (OCTET_STRING ∷ []) part read.rest read.rest_is in
    let first = only_first octets read.rest read.piece read.piece_is in
    let cut = first_cut octets read.rest read.piece first.0 in
    let opens = pdu_opens octets kind read.piece (outline.agent, read.behind) read.behind_is in
    let fills = sequence_fills octets read.behind outline.bindings read.bindings_are in
    record {
      inside = λ place is. let inside = opens.inside place is in
          (omega (arith, follows.start, cut.head, inside.0), omega (arith, inside.1, fills.start));
      start_is = omega (arith, follows.start, cut.head, opens.start, fills.start);
      ordered = fills.ordered;
      end = omega (arith, fills.end, fills.within);
    }

community_same : (place : ℕ) (old new : List ℕ) → Differs place old new → (kind : SnmpKind) (part : Part) (outline : Outline)
    → ReadsCommunity old kind part outline → (outline.agent ≡ Some place) ⊎ (outline.bindings.start ≤ place) → ReadsCommunity new kind part outline
community_same place old new differs kind part outline read clear =
    let first = only_first old read.rest read.piece read.piece_is in
    let cut = first_cut old read.rest read.piece first.0 in
    let opens = pdu_opens old kind read.piece (outline.agent, read.behind) read.behind_is in
    let fills = sequence_fills old read.behind outline.bindings read.bindings_are in
    let behind : (outline.agent ≡ Some place) ⊎ (read.behind.start ≤ place) =
    elim clear [ inl is ↦ inl is | inr h ↦ inr (omega (arith, h, fills.start)) ] in
    let sequence : (outline.bindings.start ≤ place) ⊎ (place + 4 ≤ read.behind.start) =
    elim clear [ inl is ↦ inr (opens.inside place is).1 | inr h ↦ inl h ] in
    let head : read.piece.content.start ≤ place =
    elim clear [ inl is ↦ (opens.inside place is).0 | inr h ↦ omega (arith, h, fills.start, opens.start) ] in
    record {
      rest = read.rest;
      rest_is = behind_same place old new differs (OCTET_STRING ∷ []) part read.rest read.rest_is (inl (omega (arith, head, cut.head)));
      piece = read.piece;
      piece_is = only_same place old new differs read.rest read.piece read.piece_is (inl head);
      behind = read.behind;
      behind_is = pdu_same place old new differs kind read.piece (outline.agent, read.behind) read.behind_is behind;
      bindings_are = sequence_same place old new differs read.behind outline.bindings read.bindings_are sequence;
      kind_is = read.kind_is;
    }

community_kept : (place : ℕ) (old new : List ℕ) → Differs place old new → (kind : SnmpKind) (part : Part) (outline : Outline)
    → with_community old kind part ≡ Some outline → (outline.agent ≡ Some place) ⊎ (outline.bindings.start ≤ place)
    → with_community new kind part ≡ Some outline
community_kept place old new differs kind part outline e clear =
    community_made new kind part outline (community_same place old new differs kind part outline (community_read old kind part outline e) clear)

by_version_stands : (octets : List ℕ) (version : ℕ) (part : Part) (outline : Outline) → part.start ≤ length octets
    → by_version octets version part ≡ Some outline → Stands octets part.start outline
by_version_stands octets version part outline within e = elim (cases_Bool (version == 0)) [
  | inl is ↦ community_stands octets V1 part outline (community_read octets V1 part outline (rw is at e))
  | inr other ↦ elim (cases_Bool (version == 1)) [
    | inl is ↦ community_stands octets V2 part outline (community_read octets V2 part outline (rw (other, is) at e))
    | inr more ↦ elim (cases_Bool (version == 3)) [
      | inl is ↦ (
          let same = same_Some _ _ (rw (other, more, is) at e) in
          let start = ap (λ (o : Outline). o.bindings.start) same in
          let end = ap (λ (o : Outline). o.bindings.end) same in
          record {
            inside = λ place is. let none = ap (λ (o : Outline). o.agent) same ∙ is in absurd cc;
            start_is = omega (arith, start, within);
            ordered = omega (arith, start, end);
            end = omega (arith, end);
          }
          )
      | inr none ↦ (let wrong = rw (other, more, none) at e in absurd cc)
    ]
  ]
]

by_version_same : (place : ℕ) (old new : List ℕ) → Differs place old new → (version : ℕ) (part : Part) (outline : Outline)
    → by_version old version part ≡ Some outline → (outline.agent ≡ Some place) ⊎ (outline.bindings.start ≤ place)
    → by_version new version part ≡ Some outline
by_version_same place old new differs version part outline e clear = elim (cases_Bool (version == 0)) [
  | inl is ↦ rw is (community_kept place old new differs V1 part outline (rw is at e) clear)
  | inr other ↦ elim (cases_Bool (version == 1)) [
    | inl is ↦ rw (other, is) (community_kept place old new differs V2 part outline (rw (other, is) at e) clear)
    | inr more ↦ elim (cases_Bool (version == 3)) [
      | inl is ↦ rw (other, more, is)
          (ap (λ n. Some (record { kind = V3; agent = None; bindings = record { start = n; end = n } })) differs.size ∙ (rw (other, more, is) at e))
      | inr none ↦ (let wrong = rw (other, more, none) at e in absurd cc)
    ]
  ]
]

-- how an outline was read
record ReadsOutline (octets : List ℕ) (outline : Outline) : Type 0 where
  pub content : Part
  pub content_is : in_sequence octets (record { start = 0; end = length octets }) ≡ Some content
  pub version : Piece
  pub version_is : field octets INTEGER content ≡ Some version
  pub one : (version.content.end - version.content.start == 1) ≡ true
  pub outline_is : by_version octets (slice_index octets version.content.start) version.rest ≡ Some outline

outline_read : (octets : List ℕ) (outline : Outline) → outline_of octets ≡ Some outline → ReadsOutline octets outline
unfolding outline_of
outline_read octets outline e =
    let content = bound (in_sequence octets (record { start = 0; end = length octets })) _ outline e in
    let version = bound (field octets INTEGER content.value) _ outline content.then_is in
    let right = tested_first _ _ _ version.then_is in
    record { content = content.value; content_is = content.is; version = version.value; version_is = version.is; one = right.0; outline_is = right.1 }

outline_made : (octets : List ℕ) (outline : Outline) → ReadsOutline octets outline → outline_of octets ≡ Some outline
unfolding outline_of
outline_made octets outline read =
    ap (λ o. o >>= λ content. field octets INTEGER content >>= λ version. if version.content.end - version.content.start == 1 then by_version octets
    (slice_index octets version.content.start) version.rest else None) read.content_is
    ∙ ap (λ o. o >>= λ version. if version.content.end - version.content.start == 1 then by_version octets (slice_index octets version.content.start)
    version.rest else None) read.version_is
    ∙ ap (λ b. if b then by_version octets (slice_index octets read.version.content.start) read.version.rest else None) read.one
    ∙ read.outline_is

pub outline_stands : (octets : List ℕ) (outline : Outline) → outline_of octets ≡ Some outline → Stands octets 1 outline
outline_stands octets outline e =
    let read = outline_read octets outline e in
    let cut = field_cut octets INTEGER read.content read.version read.version_is in
    let stands = by_version_stands octets (slice_index octets read.version.content.start) read.version.rest outline
    (omega (arith, cut.rest, cut.end, cut.within)) read.outline_is in
    record {
      inside = λ place is. let inside = stands.inside place is in (omega (arith, inside.0, cut.head, cut.content, cut.next), inside.1);
      start_is = omega (arith, stands.start_is, cut.head, cut.content, cut.next);
      ordered = stands.ordered;
      end = stands.end;
    }

pub outline_same : (place : ℕ) (old new : List ℕ) → Differs place old new → (outline : Outline) → outline_of old ≡ Some outline
    → (outline.agent ≡ Some place) ⊎ (outline.bindings.start ≤ place) → outline_of new ≡ Some outline
outline_same place old new differs outline e clear =
    let read = outline_read old outline e in
    let cut = field_cut old INTEGER read.content read.version read.version_is in
    let stands = by_version_stands old (slice_index old read.version.content.start) read.version.rest outline
    (omega (arith, cut.rest, cut.end, cut.within)) read.outline_is in
    let size = eqb-true _ _ read.one in
    let head : read.version.rest.start ≤ place = elim clear [ inl is ↦ (stands.inside place is).0 | inr h ↦ omega (arith, h, stands.start_is) ] in
    let octet = differs.same read.version.content.start (inl (omega (arith, head, size, cut.next))) in
    let whole = ap (λ n. in_sequence new (record { start = 0; end = n })) differs.size in
    outline_made new outline (record {
      content = read.content;
      content_is = whole ∙ sequence_same place old new differs (record { start = 0; end = length old }) read.content read.content_is
          (inl (omega (arith, head, cut.head, cut.content, cut.next)));
      version = read.version;
      version_is = field_same place old new differs INTEGER read.content read.version read.version_is
          (inl (omega (arith, head, cut.content, cut.next)));
      one = read.one;
      outline_is = ap (λ n. by_version new n read.version.rest) octet
          ∙ by_version_same place old new differs (slice_index old read.version.content.start) read.version.rest outline read.outline_is clear;
    })

-- how a message was read
record ReadsMessage (octets : List ℕ) (found : SnmpKind × List ℕ) : Type 0 where
  pub outline : Outline
  pub outline_is : outline_of octets ≡ Some outline
  pub places : List ℕ
  pub bindings_are : bindings octets outline.kind outline.bindings ≡ Some places
  pub found_is : (outline.kind, option_to_list outline.agent ++ places) ≡ found

message_read : (octets : List ℕ) (found : SnmpKind × List ℕ) → message octets ≡ Some found → ReadsMessage octets found
unfolding message
message_read octets found e =
    let outline = bound (outline_of octets) _ found e in
    let all = bound (places_ahead octets outline.value) _ found outline.then_is in
    let places = bound (bindings octets outline.value.kind outline.value.bindings) _ all.value all.is in
    record {
      outline = outline.value;
      outline_is = outline.is;
      places = places.value;
      bindings_are = places.is;
      found_is = ap (λ (ps : List ℕ). (outline.value.kind, ps)) (same_Some _ _ places.then_is) ∙ same_Some _ _ all.then_is;
    }

message_made : (octets : List ℕ) (found : SnmpKind × List ℕ) → ReadsMessage octets found → message octets ≡ Some found
unfolding message
message_made octets found read =
    ap (λ o. o >>= λ outline. places_ahead octets outline >>= λ places. Some (outline.kind, places)) read.outline_is
    ∙ ap (λ o. (o >>= λ places. Some (option_to_list read.outline.agent ++ places)) >>= λ places. Some (read.outline.kind, places)) read.bindings_are
    ∙ ap Some read.found_is

among_read : (place : ℕ) (octets : List ℕ) (found : SnmpKind × List ℕ) (read : ReadsMessage octets found) → IsAmong place found.1
    → (read.outline.agent ≡ Some place) ⊎ IsAmong place read.places
among_read place octets found read among = among_either place read.outline.agent read.places
    (subst (IsAmong place) (sym (ap (λ (f : SnmpKind × List ℕ). f.1) read.found_is)) among)

-- the addresses of a message stand in it
place_inside : (place : ℕ) (octets : List ℕ) (found : SnmpKind × List ℕ) → message octets ≡ Some found → IsAmong place found.1
    → place + 4 ≤ length octets
place_inside place octets found e among =
    let read = message_read octets found e in
    let stands = outline_stands octets read.outline read.outline_is in
    elim (among_read place octets found read among) [
      | inl agent ↦ omega (arith, (stands.inside place agent).1, stands.ordered, stands.end)
      | inr later ↦ (place_follows place octets (read.outline.bindings.end - read.outline.bindings.start) read.outline.kind read.outline.bindings
          read.places read.bindings_are later).1
    ]

message_same : (place : ℕ) (old new : List ℕ) → Differs place old new → (found : SnmpKind × List ℕ) → message old ≡ Some found → IsAmong place found.1
    → message new ≡ Some found
message_same place old new differs found e among =
    let read = message_read old found e in
    let part = read.outline.bindings in
    let stands = outline_stands old read.outline read.outline_is in
    let made : ((read.outline.agent ≡ Some place) ⊎ (part.start ≤ place)) → (IsAmong place read.places ⊎ (place + 4 ≤ part.start))
    → message new ≡ Some found = λ clear later.
    message_made new found (record {
      outline = read.outline;
      outline_is = outline_same place old new differs read.outline read.outline_is clear;
      places = read.places;
      bindings_are = bindings_same place old new differs (part.end - part.start) read.outline.kind part read.places read.bindings_are later;
      found_is = read.found_is;
    })
    in
    elim (among_read place old found read among) [
      | inl agent ↦ made (inl agent) (inr (stands.inside place agent).1)
      | inr later ↦ made (inr (place_follows place old (part.end - part.start) read.outline.kind part read.places read.bindings_are later).0)
          (inl later)
    ]

renamed_same : (image : ℕ → Option ℕ) (places octets : List ℕ) (found : SnmpKind × List ℕ) → message octets ≡ Some found
    → ((place : ℕ) → IsAmong place places → IsAmong place found.1) → message (renamed image places octets) ≡ Some found
unfolding renamed
renamed_same image [] octets found e among = e
renamed_same image (place ∷ places) octets found e among =
    let here = among place (inl refl) in
    let differs = renamed_differs image place octets (place_inside place octets found e here) in
    renamed_same image places (renamed_at image place octets) found (message_same place octets (renamed_at image place octets) differs found e here)
    (λ other later. among other (inr later))

-- a message keeps its kind and the places of its addresses
pub renamed_message : (image : ℕ → Option ℕ) (octets : List ℕ) → IsSome (message octets) → message (renamed image (places_of octets) octets)
    ≡ message octets
renamed_message image octets some = by_message (message octets) refl some
  where
    by_message : (o : Option (SnmpKind × List ℕ)) → message octets ≡ o → IsSome o
        → message (renamed image (unwrap_or (option_map (λ m. m.1) o) []) octets) ≡ o
    by_message None e none = absurd cc
    by_message (Some found) e some = renamed_same image found.1 octets found e (λ place among. among)

-- the value that there is
record Known {A : Type 0} (o : Option A) : Type 0 where
  pub value : A
  pub is : o ≡ Some value

known : {A : Type 0} (o : Option A) → IsSome o → Known o
known None none = absurd cc
known (Some x) some = record { value = x; is = refl }

pub some_kind : (octets : List ℕ) → IsSome (kind_of octets) → IsSome (message octets)
some_kind octets some = by_message (message octets) some
  where
    by_message : (o : Option (SnmpKind × List ℕ)) → IsSome (option_map (λ m. m.0) o) → IsSome o
    by_message None none = none
    by_message (Some found) some = refl

pub no_message : (octets : List ℕ) → outline_of octets ≡ None → IsSome (message octets) → ⊥
no_message octets none some =
    let found = known (message octets) some in
    let read = message_read octets found.value found.is in
    let wrong = sym none ∙ read.outline_is in
    cc

apart_weaker : (start from : ℕ) (places : List ℕ) (end : ℕ) → start ≤ from → AreApart from places end → AreApart start places end
apart_weaker start from [] end below apart = omega arith
apart_weaker start from (place ∷ places) end below apart = (omega (arith, apart.0), apart.1)

apart_first : (start next : ℕ) (first : Option ℕ) (places : List ℕ) (end : ℕ) → start ≤ next
    → ((place : ℕ) → first ≡ Some place → (start ≤ place) × (place + 4 ≤ next)) → AreApart next places end
    → AreApart start (option_to_list first ++ places) end
apart_first start next None places end below inside apart = apart_weaker start next places end below apart
apart_first start next (Some place) places end below inside apart = let here = inside place refl in
    (here.0, apart_weaker (place + 4) next places end here.1 apart)

-- the addresses of bindings are apart
bindings_apart : (octets : List ℕ) (f : ℕ) (kind : SnmpKind) (part : Part) (places : List ℕ) → part.start ≤ length octets
    → bindings_within f octets kind part ≡ Some places → AreApart part.start places (length octets)
bindings_apart octets zero kind part [] within e = within
bindings_apart octets zero kind part (place ∷ places) within e = absurd (none_among place octets kind part (place ∷ places) e (inl refl))
bindings_apart octets (suc f) kind part places within e = elim (bindings_read octets f kind part places e) [
  | Ends test is ↦ subst (λ (ps : List ℕ). AreApart part.start ps (length octets)) (same_Some _ _ is) within
  | Goes test found more is next all ↦ (
      let leaves = binding_leaves octets kind part found is in
      subst (λ (ps : List ℕ). AreApart part.start ps (length octets)) all (
      apart_first part.start found.1.start found.0 more (length octets) (omega (arith, leaves.some)) leaves.inside
      (bindings_apart octets f kind found.1 more (omega (arith, leaves.ordered, leaves.end, leaves.within)) next)
      )
      )
]

-- the addresses of a message are apart
pub places_apart : (octets : List ℕ) → AreApart 0 (places_of octets) (length octets)
places_apart octets = by_message (message octets) refl
  where
    by_message : (o : Option (SnmpKind × List ℕ)) → message octets ≡ o → AreApart 0 (unwrap_or (option_map (λ m. m.1) o) []) (length octets)
    by_message None e = omega arith
    by_message (Some found) e =
        let read = message_read octets found e in
        let stands = outline_stands octets read.outline read.outline_is in
        let part = read.outline.bindings in
        let behind = bindings_apart octets (part.end - part.start) read.outline.kind part read.places (omega (arith, stands.ordered, stands.end))
        read.bindings_are in
        subst (λ (ps : List ℕ). AreApart 0 ps (length octets)) (ap (λ (f : SnmpKind × List ℕ). f.1) read.found_is)
        (apart_first 0 part.start read.outline.agent read.places (length octets) (omega arith)
        (λ place is. let inside = stands.inside place is in (omega arith, inside.1)) behind)
