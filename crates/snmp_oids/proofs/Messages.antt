-- What a message of the versions 1 and 2c becomes with no rule.
use Rattle.std.proofs.Common.{◌≡◌, ℕ, zero, suc, ◌-◌, ◌/◌, ◌%◌, ◌≤◌, ◌==◌, ◌&&◌, ◌||◌, not, Bool, true, false, nat_le, if◌then◌else◌, List, [], ◌∷◌}
use Rattle.std.proofs.Common.{◌++◌, slice_index, length, Option, Some, None, IsSome, option_map, option_to_list, unwrap_or, refl, ap, sym, subst, ◌∙◌}
use Rattle.std.proofs.Common.{arith, append-nil, inl, inr, lit≤}
use Rattle.std.specs.List.{list_all, list_any}
use Rattle.std.proofs.lemmas.Bool.{eqb-true, and_parts, or_cases, not-true}
use Rattle.std.proofs.lemmas.Bool.Decides.{nat_tests}
use Rattle.std.proofs.lemmas.Option.{same_Some}
use Rattle.gate_base.specs.Prelude.{◌>>=◌}
use Rattle.snmp_gateway.specs.declared.message.SnmpKind.{SnmpKind}
use Rattle.snmp_gateway.specs.declared.message.SnmpKind.TheVariants.{V1, V2, V3}
use Rattle.snmp_gateway.specs.Parts.{first_of, field, behind_fields, only, in_sequence}
use Rattle.snmp_gateway.specs.declared.part.TheConstants.{COUNTER_64, INTEGER, IP_ADDRESS, NO_SUCH_INSTANCE, NO_SUCH_OBJECT}
use Rattle.snmp_gateway.specs.declared.part.TheConstants.{OBJECT_IDENTIFIER, OCTET_STRING, SEQUENCE, TIME_TICKS}
use Rattle.snmp_gateway.specs.Message.{common_value_tags, is_common_value_tag, is_value_tag, address_in, binding}
use Rattle.snmp_gateway.specs.Message.{bindings_within, bindings, request, trap, is_pdu_tag, pdu, with_community}
use Rattle.snmp_gateway.specs.Message.{by_version, outline_of, places_ahead, message, kind_of, places_of}
use Rattle.snmp_gateway.specs.declared.outline.TheConstants.{TRAP}
use Rattle.snmp_gateway.specs.Renaming.{renamed}
use Rattle.snmp_gateway.proofs.Reading.{bound, tested, only_first}
use Rattle.snmp_gateway.proofs.Walk.{none_renamed}
use Rattle.snmp_gateway.proofs.Whole.{tested_first}
use Rattle.snmp_oids.specs.Elements.{is_constructed, elements_renamed, by_kind, oid_renamed}
use Rattle.snmp_oids.proofs.Grammar.{Part, Piece, Outline, At, Claim, Reads, reads, node_kept, node_address, node_in, claim_none, is_kept}

neither : (a b : Bool) → a ≡ false → b ≡ false → (not a && not b) ≡ true
neither true b one two = cc
neither false true one two = cc
neither false false one two = refl

-- a field with a tag
record Field (octets : List ℕ) (tag : ℕ) (part : Part) (piece : Piece) : Type 0 where
  first : first_of octets part ≡ Some piece
  tag_is : piece.tag ≡ tag

field_is : (octets : List ℕ) (tag : ℕ) (part : Part) (piece : Piece) → field octets tag part ≡ Some piece → Field octets tag part piece
field_is octets tag part piece e =
    let first = bound (first_of octets part) _ piece e in
    let right = tested _ _ _ first.then_is in
    record { first = first.is ∙ ap Some right.same; tag_is = ap (λ (p : Piece). p.tag) (sym right.same) ∙ eqb-true _ _ right.holds }

-- what stands behind skipped fields, and what it does to the whole part
record Behind (octets : List ℕ) (part rest : Part) (xs : List ℕ) : Type 0 where
  left : List ℕ
  left_at : At octets rest left
  goes : (image : ℕ → Option ℕ) (ps : List ℕ) → Claim image ps rest left → Claim image ps part xs

behind_each : (octets tags : List ℕ) (part rest : Part) (xs : List ℕ) → list_all is_kept tags ≡ true → At octets part xs
    → behind_fields octets tags part ≡ Some rest → Behind octets part rest xs
unfolding behind_fields
behind_each octets [] part rest xs kept at e =
    let same = same_Some _ _ e in
    record {
      left = xs;
      left_at = subst (λ (p : Part). At octets p xs) same at;
      goes = λ image ps claim. subst (λ (p : Part). Claim image ps p xs) (sym same) claim;
    }
behind_each octets (tag ∷ tags) part rest xs kept at e =
    let both = and_parts (is_kept tag) (list_all is_kept tags) kept in
    let piece = bound (field octets tag part) _ rest e in
    let found = field_is octets tag part piece.value piece.is in
    let r = reads octets part xs piece.value at found.first in
    let more = behind_each octets tags piece.value.rest rest r.rest both.1 r.rest_at piece.then_is in
    record {
      left = more.left;
      left_at = more.left_at;
      goes = λ image ps claim. node_kept image ps octets part xs piece.value r (ap is_kept found.tag_is ∙ both.0) (more.goes image ps claim);
    }

-- the only element of a part
pub record Alone (octets : List ℕ) (part : Part) (xs : List ℕ) (piece : Piece) : Type 0 where
  pub r : Reads octets part xs piece
  pub behind : (image : ℕ → Option ℕ) → Claim image [] piece.rest r.rest

alone : (octets : List ℕ) (part : Part) (xs : List ℕ) (piece : Piece) → At octets part xs → only octets part ≡ Some piece → Alone octets part xs piece
alone octets part xs piece at e =
    let first = only_first octets part piece e in
    let r = reads octets part xs piece at first.0 in
    record { r = r; behind = λ image. claim_none image piece.rest r.rest (omega (arith, first.1, r.rest_at.end_is)) }

plain_at : (tag known : ℕ) → (known == tag) ≡ true → is_constructed known ≡ false → is_constructed tag ≡ false
plain_at tag known is plain = ap is_constructed (sym (eqb-true _ _ is)) ∙ plain

plain_among : (tag : ℕ) (tags : List ℕ) → list_all (λ known. not (is_constructed known)) tags ≡ true → list_any (λ known. known == tag) tags ≡ true
    → is_constructed tag ≡ false
plain_among tag [] plain is = cc
plain_among tag (known ∷ tags) plain is =
    let both = and_parts (not (is_constructed known)) (list_all (λ known. not (is_constructed known)) tags) plain in
    elim (or_cases (known == tag) _ is) [
      | inl same ↦ plain_at tag known same (not-true _ both.0)
      | inr among ↦ plain_among tag tags both.1 among
    ]

value_plain : (kind : SnmpKind) (tag : ℕ) → is_value_tag kind tag ≡ true → is_constructed tag ≡ false
value_plain V1 tag is = plain_among tag common_value_tags refl is
value_plain V2 tag is = elim (or_cases (is_common_value_tag tag) _ is) [
  | inl common ↦ plain_among tag common_value_tags refl common
  | inr other ↦ elim (or_cases (tag == COUNTER_64) _ other) [
    | inl counter ↦ ap is_constructed (eqb-true _ _ counter)
    | inr exception ↦ elim (or_cases (tag == NO_SUCH_OBJECT || tag == NO_SUCH_INSTANCE) _ exception) [
      | inl none ↦ elim (or_cases (tag == NO_SUCH_OBJECT) _ none) [
        | inl object ↦ ap is_constructed (eqb-true _ _ object)
        | inr instance ↦ ap is_constructed (eqb-true _ _ instance)
      ]
      | inr end ↦ ap is_constructed (eqb-true _ _ end)
    ]
  ]
]
value_plain V3 tag is = cc

in_range : (tag low high : ℕ) → (nat_le low tag && nat_le tag high) ≡ true → 160 ≤ low → high ≤ 168 → is_constructed tag ≡ true
in_range tag low high is above below =
    let low_is : nat_le low tag ≡ true = (and_parts (nat_le low tag) (nat_le tag high) is).0 in
    let high_is : nat_le tag high ≡ true = (and_parts (nat_le low tag) (nat_le tag high) is).1 in
    let least : low ≤ tag = grind (arith, nat_tests) in
    let most : tag ≤ high = grind (arith, nat_tests) in
    let five : tag / 32 ≡ 5 = omega arith in
    ap (λ n. n % 2 == 1) five

pdu_constructed : (kind : SnmpKind) (tag : ℕ) → is_pdu_tag kind tag ≡ true → is_constructed tag ≡ true
pdu_constructed V1 tag is = in_range tag 160 164 is (lit≤ tt) (lit≤ tt)
pdu_constructed V2 tag is = elim (or_cases (nat_le 0xA0 tag && nat_le tag 0xA3) _ is) [
  | inl early ↦ in_range tag 160 163 early (lit≤ tt) (lit≤ tt)
  | inr late ↦ in_range tag 165 168 late (lit≤ tt) (lit≤ tt)
]
pdu_constructed V3 tag is = cc

pub by_value : (image : ℕ → Option ℕ) (octets : List ℕ) (kind : SnmpKind) (part : Part) (xs : List ℕ) (piece : Piece) → Alone octets part xs piece
    → is_value_tag kind piece.tag ≡ true → Claim image (option_to_list (address_in piece)) part xs
by_value image octets kind part xs piece a is = by_test (piece.tag == IP_ADDRESS) refl
  where
    by_test : (b : Bool) → (piece.tag == IP_ADDRESS) ≡ b → Claim image (option_to_list (if b then Some piece.content.start else None)) part xs
    by_test true same = node_address image [] octets part xs piece a.r (eqb-true _ _ same) (a.behind image)
    by_test false other = node_kept image [] octets part xs piece a.r (neither _ _ (value_plain kind piece.tag is) other) (a.behind image)

-- what stands behind a binding, or behind the fields of a PDU, and what both do to the whole part
pub record Binds (octets : List ℕ) (part : Part) (address : Option ℕ) (rest : Part) (xs : List ℕ) : Type 0 where
  pub left : List ℕ
  pub left_at : At octets rest left
  pub goes : (image : ℕ → Option ℕ) (ps : List ℕ) → Claim image ps rest left → Claim image (option_to_list address ++ ps) part xs

binds : (octets : List ℕ) (kind : SnmpKind) (part : Part) (xs : List ℕ) (found : Option ℕ × Part) → At octets part xs
    → binding octets kind part ≡ Some found → Binds octets part found.0 found.1 xs
unfolding binding
binds octets kind part xs found at e =
    let pair = bound (field octets SEQUENCE part) _ found e in
    let name = bound (behind_fields octets (OBJECT_IDENTIFIER ∷ []) pair.value.content) _ found pair.then_is in
    let value = bound (only octets name.value) _ found name.then_is in
    let right = tested _ _ _ value.then_is in
    let first = field_is octets SEQUENCE part pair.value pair.is in
    let r = reads octets part xs pair.value at first.first in
    let skipped = behind_each octets (OBJECT_IDENTIFIER ∷ []) pair.value.content name.value r.element.content refl r.content_at name.is in
    let a = alone octets name.value skipped.left value.value skipped.left_at value.is in
    let rest = ap (λ (f : Option ℕ × Part). f.1) right.same in
    let address = ap (λ (f : Option ℕ × Part). f.0) right.same in
    record {
      left = r.rest;
      left_at = subst (λ (p : Part). At octets p r.rest) rest r.rest_at;
      goes = λ image ps claim.
          let content = skipped.goes image (option_to_list (address_in value.value))
          (by_value image octets kind name.value skipped.left value.value a right.holds) in
          subst (λ (o : Option ℕ). Claim image (option_to_list o ++ ps) part xs) address
          (node_in image (option_to_list (address_in value.value)) ps octets part xs pair.value r (ap is_constructed first.tag_is) content
          (subst (λ (p : Part). Claim image ps p r.rest) (sym rest) claim));
    }

no_more : (octets : List ℕ) (part : Part) (xs places : List ℕ) → At octets part xs → (part.start == part.end) ≡ true → (image : ℕ → Option ℕ)
    → [] ≡ places → Claim image places part xs
no_more octets part xs places at end image same =
    let ends = eqb-true _ _ end in
    subst (λ (ps : List ℕ). Claim image ps part xs) same (claim_none image part xs (omega (arith, at.end_is)))

pub binding_claims : (most : ℕ) (octets : List ℕ) (kind : SnmpKind) (part : Part) (xs places : List ℕ) → At octets part xs
    → bindings_within most octets kind part ≡ Some places → (image : ℕ → Option ℕ) → Claim image places part xs
unfolding bindings_within
binding_claims zero octets kind part xs places at e image = by_test (part.start == part.end) refl e
  where
    by_test : (b : Bool) → (part.start == part.end) ≡ b → (if b then Some [] else None) ≡ Some places → Claim image places part xs
    by_test true end e = no_more octets part xs places at end image (same_Some _ _ e)
    by_test false goes e = cc
binding_claims (suc most) octets kind part xs places at e image =
    by_test (λ rest left more left_at is. binding_claims most octets kind rest left more left_at is image) (part.start == part.end) refl e
  where
    by_test : ((rest : Part) (left more : List ℕ) → At octets rest left → bindings_within most octets kind rest ≡ Some more
        → Claim image more rest left) → (b : Bool) → (part.start == part.end) ≡ b
        → (if b then Some [] else (binding octets kind part >>= λ found. bindings_within most octets kind found.1 >>= λ more. Some
        (option_to_list found.0 ++ more))) ≡ Some places → Claim image places part xs
    by_test later true end e = no_more octets part xs places at end image (same_Some _ _ e)
    by_test later false goes e =
        let found = bound (binding octets kind part) _ places e in
        let more = bound (bindings_within most octets kind found.value.1) _ places found.then_is in
        let b = binds octets kind part xs found.value at found.is in
        subst (λ (ps : List ℕ). Claim image ps part xs) (same_Some _ _ more.then_is)
        (b.goes image more.value (later found.value.1 b.left more.value b.left_at more.is))

-- the fields of a PDU before its bindings
request_binds : (octets : List ℕ) (part : Part) (xs : List ℕ) (found : Option ℕ × Part) → At octets part xs → request octets part ≡ Some found
    → Binds octets part found.0 found.1 xs
request_binds octets part xs found at e =
    let rest = bound (behind_fields octets (INTEGER ∷ INTEGER ∷ INTEGER ∷ []) part) _ found e in
    let skipped = behind_each octets (INTEGER ∷ INTEGER ∷ INTEGER ∷ []) part rest.value xs refl at rest.is in
    let same = same_Some _ _ rest.then_is in
    subst (λ (f : Option ℕ × Part). Binds octets part f.0 f.1 xs) same
    (record { left = skipped.left; left_at = skipped.left_at; goes = skipped.goes })

trap_binds : (octets : List ℕ) (part : Part) (xs : List ℕ) (found : Option ℕ × Part) → At octets part xs → trap octets part ≡ Some found
    → Binds octets part found.0 found.1 xs
trap_binds octets part xs found at e =
    let enterprise = bound (behind_fields octets (OBJECT_IDENTIFIER ∷ []) part) _ found e in
    let agent = bound (field octets IP_ADDRESS enterprise.value) _ found enterprise.then_is in
    let rest = bound (behind_fields octets (INTEGER ∷ INTEGER ∷ TIME_TICKS ∷ []) agent.value.rest) _ found agent.then_is in
    let first = behind_each octets (OBJECT_IDENTIFIER ∷ []) part enterprise.value xs refl at enterprise.is in
    let found_agent = field_is octets IP_ADDRESS enterprise.value agent.value agent.is in
    let r = reads octets enterprise.value first.left agent.value first.left_at found_agent.first in
    let last = behind_each octets (INTEGER ∷ INTEGER ∷ TIME_TICKS ∷ []) agent.value.rest rest.value r.rest refl r.rest_at rest.is in
    let same = same_Some _ _ rest.then_is in
    subst (λ (f : Option ℕ × Part). Binds octets part f.0 f.1 xs) same (record {
      left = last.left;
      left_at = last.left_at;
      goes = λ image ps claim. first.goes image (agent.value.content.start ∷ ps)
          (node_address image ps octets enterprise.value first.left agent.value r found_agent.tag_is (last.goes image ps claim));
    })

pdu_binds : (octets : List ℕ) (kind : SnmpKind) (piece : Piece) (xs : List ℕ) (found : Option ℕ × Part) → At octets piece.content xs
    → pdu octets kind piece ≡ Some found → (is_pdu_tag kind piece.tag ≡ true) × Binds octets piece.content found.0 found.1 xs
pdu_binds octets kind piece xs found at e = by_test (is_pdu_tag kind piece.tag) (piece.tag == TRAP) refl e
  where
    by_test : (a b : Bool) → is_pdu_tag kind piece.tag ≡ a
        → (if a then (if b then trap octets piece.content else request octets piece.content) else None) ≡ Some found
        → (is_pdu_tag kind piece.tag ≡ true) × Binds octets piece.content found.0 found.1 xs
    by_test true true is e = (is, trap_binds octets piece.content xs found at e)
    by_test true false is e = (is, request_binds octets piece.content xs found at e)
    by_test false b is e = cc

-- the content of the sequence that fills a part
record Inside (octets : List ℕ) (part content : Part) (xs : List ℕ) : Type 0 where
  left : List ℕ
  left_at : At octets content left
  goes : (image : ℕ → Option ℕ) (ps : List ℕ) → Claim image ps content left → Claim image ps part xs

without_nil : (image : ℕ → Option ℕ) (ps : List ℕ) (part : Part) (xs : List ℕ) → Claim image (ps ++ []) part xs → Claim image ps part xs
without_nil image ps part xs claim = subst (λ (qs : List ℕ). Claim image qs part xs) (append-nil ps) claim

inside : (octets : List ℕ) (part content : Part) (xs : List ℕ) → At octets part xs → in_sequence octets part ≡ Some content
    → Inside octets part content xs
inside octets part content xs at e =
    let piece = bound (only octets part) _ content e in
    let right = tested _ _ _ piece.then_is in
    let a = alone octets part xs piece.value at piece.is in
    subst (λ (c : Part). Inside octets part c xs) right.same (record {
      left = a.r.element.content;
      left_at = a.r.content_at;
      goes = λ image ps claim. without_nil image ps part xs
          (node_in image ps [] octets part xs piece.value a.r (ap is_constructed (eqb-true _ _ right.holds)) claim (a.behind image));
    })

-- what the places of a message do to a part of it
abbrev Meets : List ℕ → Part → List ℕ → SnmpKind → List ℕ → Type 0
Meets octets part xs V1 places = (image : ℕ → Option ℕ) → Claim image places part xs
Meets octets part xs V2 places = (image : ℕ → Option ℕ) → Claim image places part xs
Meets octets part xs V3 places = places ≡ []

wider : (octets : List ℕ) (part whole : Part) (xs ys : List ℕ) (kind : SnmpKind) (places : List ℕ)
    → ((image : ℕ → Option ℕ) → Claim image places part xs → Claim image places whole ys) → Meets octets part xs kind places
    → Meets octets whole ys kind places
wider octets part whole xs ys V1 places goes meets = λ image. goes image (meets image)
wider octets part whole xs ys V2 places goes meets = λ image. goes image (meets image)
wider octets part whole xs ys V3 places goes meets = meets

community_claims : (octets : List ℕ) (kind : SnmpKind) (part : Part) (xs : List ℕ) (outline : Outline) (places : List ℕ) → At octets part xs
    → with_community octets kind part ≡ Some outline → places_ahead octets outline ≡ Some places → (outline.kind ≡ kind)
    × ((image : ℕ → Option ℕ) → Claim image places part xs)
community_claims octets kind part xs outline places at e ahead =
    let rest = bound (behind_fields octets (OCTET_STRING ∷ []) part) _ outline e in
    let piece = bound (only octets rest.value) _ outline rest.then_is in
    let found = bound (pdu octets kind piece.value) _ outline piece.then_is in
    let inner = bound (in_sequence octets found.value.1) _ outline found.then_is in
    let same = same_Some _ _ inner.then_is in
    let listed = bound (bindings octets kind inner.value) _ places (ap (places_ahead octets) same ∙ ahead) in
    let skipped = behind_each octets (OCTET_STRING ∷ []) part rest.value xs refl at rest.is in
    let a = alone octets rest.value skipped.left piece.value skipped.left_at piece.is in
    let fields = pdu_binds octets kind piece.value a.r.element.content found.value a.r.content_at found.is in
    let sequence_in = inside octets found.value.1 inner.value fields.1.left fields.1.left_at inner.is in (
      ap (λ (o : Outline). o.kind) (sym same),
      λ image.
          let claim = sequence_in.goes image listed.value
          (binding_claims (inner.value.end - inner.value.start) octets kind inner.value sequence_in.left listed.value sequence_in.left_at
          listed.is image) in
          let content = fields.1.goes image listed.value claim in
          subst (λ (ps : List ℕ). Claim image ps part xs) (same_Some (option_to_list found.value.0 ++ listed.value) places listed.then_is)
          (skipped.goes image (option_to_list found.value.0 ++ listed.value)
          (without_nil image (option_to_list found.value.0 ++ listed.value) rest.value skipped.left
          (node_in image (option_to_list found.value.0 ++ listed.value) [] octets rest.value skipped.left piece.value a.r
          (pdu_constructed kind piece.value.tag fields.0) content (a.behind image)))),
    )

none_listed : (n : ℕ) (octets : List ℕ) (kind : SnmpKind) → bindings octets kind (record { start = n; end = n }) ≡ Some []
unfolding bindings_within
none_listed n octets kind =
    let none : n - n ≡ 0 = omega arith in
    let end : (n == n) ≡ true = grind (arith, nat_tests) in
    ap (λ m. bindings_within m octets kind (record { start = n; end = n })) none ∙ ap (λ b. if b then Some [] else None) end

version_meets : (octets : List ℕ) (version : ℕ) (part : Part) (xs : List ℕ) (outline : Outline) (places : List ℕ) → At octets part xs
    → by_version octets version part ≡ Some outline → places_ahead octets outline ≡ Some places → Meets octets part xs outline.kind places
version_meets octets version part xs outline places at e ahead = by_test (version == 0) (version == 1) (version == 3) e
  where
    by_test : (a b c : Bool)
        → (if a then with_community octets V1 part else if b then with_community octets V2 part else if c then Some
        (record { kind = V3; agent = None; bindings = record { start = length octets; end = length octets } }) else None) ≡ Some outline
        → Meets octets part xs outline.kind places
    by_test true b c e =
        let claims = community_claims octets V1 part xs outline places at e ahead in
        subst (λ (k : SnmpKind). Meets octets part xs k places) (sym claims.0) claims.1
    by_test false true c e =
        let claims = community_claims octets V2 part xs outline places at e ahead in
        subst (λ (k : SnmpKind). Meets octets part xs k places) (sym claims.0) claims.1
    by_test false false true e =
        let same = same_Some _ _ e in
        let listed = bound (bindings octets V3 (record { start = length octets; end = length octets })) _ places
        (ap (places_ahead octets) same ∙ ahead) in
        let none : places ≡ [] = sym (same_Some _ _ listed.then_is) ∙ same_Some _ _ (sym listed.is ∙ none_listed (length octets) octets V3) in
        subst (λ (k : SnmpKind). Meets octets part xs k places) (ap (λ (o : Outline). o.kind) same) none
    by_test false false false e = cc

outline_meets : (octets : List ℕ) (outline : Outline) (places : List ℕ) → outline_of octets ≡ Some outline → places_ahead octets outline ≡ Some places
    → Meets octets (record { start = 0; end = length octets }) octets outline.kind places
unfolding outline_of
outline_meets octets outline places e ahead =
    let content = bound (in_sequence octets (record { start = 0; end = length octets })) _ outline e in
    let version = bound (field octets INTEGER content.value) _ outline content.then_is in
    let at : At octets (record { start = 0; end = length octets }) octets =
    record { before = []; after = []; whole = sym (append-nil octets); start_is = refl; end_is = omega arith } in
    let seq = inside octets (record { start = 0; end = length octets }) content.value octets at content.is in
    let first = field_is octets INTEGER content.value version.value version.is in
    let r = reads octets content.value seq.left version.value seq.left_at first.first in
    wider octets version.value.rest (record { start = 0; end = length octets }) r.rest octets outline.kind places
    (λ image claim. seq.goes image places (node_kept image places octets content.value seq.left version.value r (ap is_kept first.tag_is) claim))
    (version_meets octets (slice_index octets version.value.content.start) version.value.rest r.rest outline places r.rest_at
    (tested_first (version.value.content.end - version.value.content.start == 1)
    (by_version octets (slice_index octets version.value.content.start) version.value.rest) outline version.then_is).1 ahead)

message_meets : (octets : List ℕ) (m : SnmpKind × List ℕ) → message octets ≡ Some m
    → Meets octets (record { start = 0; end = length octets }) octets m.0 m.1
unfolding message
message_meets octets m e =
    let outline = bound (outline_of octets) _ m e in
    let places = bound (places_ahead octets outline.value) _ m outline.then_is in
    subst (λ (n : SnmpKind × List ℕ). Meets octets (record { start = 0; end = length octets }) octets n.0 n.1) (same_Some _ _ places.then_is)
    (outline_meets octets outline.value places.value outline.is places.is)

by_meeting : (image : ℕ → Option ℕ) (octets : List ℕ) (kind : SnmpKind) (places : List ℕ)
    → Meets octets (record { start = 0; end = length octets }) octets kind places → by_kind (Some kind) octets (elements_renamed image [] octets)
    ≡ renamed image places octets
by_meeting image octets V1 places meets = sym (append-nil (elements_renamed image [] octets)) ∙ sym ((meets image).is [] [] refl)
    ∙ ap (renamed image places) (append-nil octets)
by_meeting image octets V2 places meets = sym (append-nil (elements_renamed image [] octets)) ∙ sym ((meets image).is [] [] refl)
    ∙ ap (renamed image places) (append-nil octets)
by_meeting image octets V3 places meets = sym (ap (λ ps. renamed image ps octets) meets ∙ none_renamed image octets)

-- with no rule a message becomes what the renaming in place makes of it
pub no_rule : (image : ℕ → Option ℕ) (octets : List ℕ) → IsSome (kind_of octets)
    → oid_renamed image [] octets ≡ renamed image (places_of octets) octets
no_rule image octets some = by_message (message octets) refl some
  where
    by_message : (o : Option (SnmpKind × List ℕ)) → message octets ≡ o → IsSome (option_map (λ m. m.0) o)
        → oid_renamed image [] octets ≡ renamed image (places_of octets) octets
    by_message None is some = cc
    by_message (Some m) is some =
        let kind = ap (option_map (λ (m : SnmpKind × List ℕ). m.0)) is in
        let places = ap (λ (o : Option (SnmpKind × List ℕ)). unwrap_or (option_map (λ m. m.1) o) []) is in
        ap (λ (k : Option SnmpKind). by_kind k octets (elements_renamed image [] octets)) kind
        ∙ by_meeting image octets m.0 m.1 (message_meets octets m is)
        ∙ ap (λ ps. renamed image ps octets) (sym places)
