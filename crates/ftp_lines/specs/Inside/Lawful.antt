-- Lines keep the laws of a dialogue. Lemmas, which stand here since an impl cites them for its laws.
use Rattle.std.proofs.Common.{◌≡◌, ◌≤◌, ◌<◌, ◌+◌, ◌-◌, ◌*◌, ◌/◌, ◌%◌, ◌^◌, ℕ, Bool, true, false, List, [], ◌∷◌, ◌++◌, length, take, drop, refl, sym, ◌∙◌, ap, arith, inl, inr, ◌⊎◌, decimal, length-drop}
use Rattle.std.specs.Prelude.{Option, Some, None, is_some, nat_lt, nat_le, ◌&&◌, ◌||◌}
use Rattle.std.specs.List.{list_any}
use Rattle.std.specs.Char.{eq_ignore_ascii_case}
use Rattle.std.proofs.lemmas.List.{append-nil, length-append, length-take-le}
use Rattle.std.proofs.Math.Seq.{take-append-add}
use Rattle.std.proofs.lemmas.Bool.{cases_Bool, and_parts, and_from, le-leb, lt-ltb, leb-true}
use Rattle.std.proofs.lemmas.Fmt.{length-decimal-le, decimal_nonempty}
use Rattle.gate_base.specs.declared.event.Pair.{Pair}
use Rattle.dialogue.specs.Prelude.{IsLawful}
use Rattle.ftp_lines.specs.declared.grammar.AddressText.{AddressText}
use Rattle.ftp_lines.specs.Grammar.{line_end, agrees, held_rest, client_fronts, server_fronts, client_text, server_text}
use Rattle.ftp_lines.specs.Renaming.{client_partner, server_partner, spelled, replaced, renamed, image_of, lines, client_lines, server_lines}
use Rattle.ftp_lines.specs.Inside.LineEnds.{within, follows, alone, ends}
use Rattle.ftp_lines.specs.Inside.Texts.{IsInLine, Bears, client-bears, server-bears}
use Rattle.ftp_lines.specs.declared.grammar.TheConstants.{MOST_HELD}

-- what agrees with a front, has agreed with it with fewer octets
agrees-front : (front r t : List ℕ) → agrees front (r ++ t) ≡ true → agrees front r ≡ true
agrees-front [] r t e = refl
agrees-front (f ∷ front) [] t e = refl
agrees-front (f ∷ front) (x ∷ r) t e =
    let both : (eq_ignore_ascii_case f x ≡ true) × (agrees front (r ++ t) ≡ true) = and_parts _ _ e in
    and_from _ _ both.0 (agrees-front front r t both.1)

any_agrees-front : (fronts : List (List ℕ)) (r t : List ℕ) → list_any (λ front. agrees front (r ++ t)) fronts ≡ true
    → list_any (λ front. agrees front r) fronts ≡ true
any_agrees-front [] r t e = e
any_agrees-front (front ∷ fronts) r t e =
    elim (cases_Bool (agrees front r)) [
      | inl here ↦ rw here refl
      | inr not_here ↦
          let off : agrees front (r ++ t) ≡ false = off_later (agrees front (r ++ t)) (agrees-front front r t) not_here in
          let later : list_any (λ front. agrees front (r ++ t)) fronts ≡ true = second off e in
          rw not_here (any_agrees-front fronts r t later)
    ]
  where
    off_later : (b : Bool) {c : Bool} → (b ≡ true → c ≡ true) → c ≡ false → b ≡ false
    off_later true h e = absurd (let f : true ≡ false = sym (h refl) ∙ e in cc)
    off_later false h e = refl

    second : {x y : Bool} → x ≡ false → (x || y) ≡ true → y ≡ true
    second {x = true} e h = cc
    second {x = false} e h = h

-- what is held has at most MOST_HELD octets
pub held-short : (fronts : List (List ℕ)) (r : List ℕ) → held_rest fronts r ≡ true → length r ≤ MOST_HELD
held-short fronts r e =
    let both : ((nat_lt 0 (length r) && nat_le (length r) MOST_HELD) ≡ true) × (list_any (λ front. agrees front r) fronts ≡ true) = and_parts _ _ e in
    leb-true (length r) MOST_HELD (and_parts _ _ both.0).1

-- what is held, has been held with fewer octets
held-front : (fronts : List (List ℕ)) (r t : List ℕ) → 1 ≤ length r → held_rest fronts (r ++ t) ≡ true → held_rest fronts r ≡ true
held-front fronts r t some e =
    let both : ((nat_lt 0 (length (r ++ t)) && nat_le (length (r ++ t)) MOST_HELD) ≡ true)
    × (list_any (λ front. agrees front (r ++ t)) fronts ≡ true) =
    and_parts _ _ e in
    let long : length (r ++ t) ≤ MOST_HELD = held-short fronts (r ++ t) e in
    and_from _ _ (and_from _ _ (lt-ltb 0 (length r) (omega arith)) (le-leb (length r) MOST_HELD (omega (arith, length-append r t))))
    (any_agrees-front fronts r t both.1)

-- a front of a line that bears, without its LF, is held
bears-held : (fronts : List (List ℕ)) (r t : List ℕ) (text : AddressText) → 1 ≤ length r → line_end r ≡ None
    → line_end (r ++ t) ≡ Some (length (r ++ t)) → Bears fronts (r ++ t) text → held_rest fronts r ≡ true
bears-held fronts r [] text some rest unit bears =
    let same : line_end (r ++ []) ≡ None = ap line_end (append-nil r) ∙ rest in
    absurd (let f : Some (length (r ++ [])) ≡ None = sym unit ∙ same in cc)
bears-held fronts r (y ∷ t) text some rest unit bears =
    let len : length (r ++ y ∷ t) ≡ length r + (length t + 1) = omega (arith, length-append r (y ∷ t)) in
    let n_is : length (r ++ y ∷ t) - 1 ≡ length r + length t = omega arith in
    let content : take (length (r ++ y ∷ t) - 1) (r ++ y ∷ t) ≡ r ++ take (length t) (y ∷ t) = ap (λ n. take n (r ++ y ∷ t)) n_is
    ∙ take-append-add r (y ∷ t) (length t) in
    let front : list_any (λ front. agrees front (r ++ take (length t) (y ∷ t))) fronts ≡ true =
    ap (λ u. list_any (λ front. agrees front u) fronts) (sym content) ∙ bears.front in
    and_from _ _ (and_from _ _ (lt-ltb 0 (length r) (omega arith)) (le-leb (length r) MOST_HELD (omega (arith, bears.short))))
    (any_agrees-front fronts r (take (length t) (y ∷ t)) front)

released : (fronts : List (List ℕ)) (text : List ℕ → Option AddressText)
    → ((line : List ℕ) (x : AddressText) → text line ≡ Some x → Bears fronts line x) → (r t : List ℕ) → 1 ≤ length r → line_end r ≡ None
    → held_rest fronts r ≡ false → line_end (r ++ t) ≡ Some (length (r ++ t)) → is_some (text (r ++ t)) ≡ false
released fronts text bears r t some rest free unit = from (text (r ++ t)) refl
  where
    from : (o : Option AddressText) → text (r ++ t) ≡ o → is_some o ≡ false
    from None e = refl
    from (Some x) e =
        let held : held_rest fronts r ≡ true = bears-held fronts r t x some rest unit (bears (r ++ t) x e) in
        absurd (let f : true ≡ false = sym held ∙ free in cc)

stays : (fronts : List (List ℕ)) (r t : List ℕ) → 1 ≤ length r → held_rest fronts r ≡ false → held_rest fronts (r ++ t) ≡ false
stays fronts r t some free =
    elim (cases_Bool (held_rest fronts (r ++ t))) [
      | inl e ↦ let held : held_rest fronts r ≡ true = held-front fronts r t some e in cc
      | inr e ↦ e
    ]

-- a number below 256 has one to three digits
decimal-short : (n : ℕ) → n < 256 → (1 ≤ length (decimal n)) × (length (decimal n) ≤ 3)
decimal-short n l = (omega (arith, decimal_nonempty n (omega arith)), length-decimal-le 3 n (omega arith) (omega arith) (omega arith))

-- an address has seven to fifteen octets
length-spelled : (mark address : ℕ) → (7 ≤ length (spelled mark address)) × (length (spelled mark address) ≤ 15)
unfolding spelled
length-spelled mark address =
    let a = decimal (address / 2 ^ 24 % 256) in
    let b = decimal (address / 2 ^ 16 % 256) in
    let c = decimal (address / 2 ^ 8 % 256) in
    let d = decimal (address % 256) in
    let m = mark ∷ [] in
    let len : length (a ++ m ++ b ++ m ++ c ++ m ++ d) ≡ length a + 1 + length b + 1 + length c + 1 + length d = simp length-append (omega arith) in
    let one : (1 ≤ length a) × (length a ≤ 3) = decimal-short (address / 2 ^ 24 % 256) (omega arith) in
    let two : (1 ≤ length b) × (length b ≤ 3) = decimal-short (address / 2 ^ 16 % 256) (omega arith) in
    let three : (1 ≤ length c) × (length c ≤ 3) = decimal-short (address / 2 ^ 8 % 256) (omega arith) in
    let four : (1 ≤ length d) × (length d ≤ 3) = decimal-short (address % 256) (omega arith) in
    (omega arith, omega arith)

-- the line with another address in the place of a text
length-replaced : (line : List ℕ) (text : AddressText) (address : ℕ) → IsInLine line text → (1 ≤ length (replaced line text address))
    × (2 * length (replaced line text address) ≤ 3 * length line)
length-replaced line text address inside =
    let front : length (take text.start line) ≡ text.start = length-take-le text.start line (omega (arith, inside.long, inside.within)) in
    let rest : length (drop text.end line) ≡ length line - text.end = length-drop text.end line in
    let middle : (7 ≤ length (spelled text.mark address)) × (length (spelled text.mark address) ≤ 15) = length-spelled text.mark address in
    let all : length (replaced line text address) ≡ text.start + length (spelled text.mark address) + (length line - text.end) =
    omega (
      arith,
      length-append (take text.start line ++ spelled text.mark address) (drop text.end line),
      length-append (take text.start line) (spelled text.mark address),
    ) in
    (omega arith, omega (arith, inside.long, inside.within, inside.around))

-- an image is the line, or the line with another address in the place of its text
image-cases : (partner : ℕ → Option ℕ) (o : Option AddressText) (line : List ℕ) → (image_of line (renamed partner o) ≡ line)
    ⊎ ((x : AddressText) × (address : ℕ) × (o ≡ Some x) × (image_of line (renamed partner o) ≡ replaced line x address))
image-cases partner None line = inl refl
image-cases partner (Some x) line = from (partner x.address.0) refl
  where
    from : (p : Option ℕ) → partner x.address.0 ≡ p → (image_of line (renamed partner (Some x)) ≡ line)
        ⊎ ((y : AddressText) × (address : ℕ) × (Some x ≡ Some y) × (image_of line (renamed partner (Some x)) ≡ replaced line y address))
    from None e = inl (rw e refl)
    from (Some a) e = inr (x, a, refl, rw e refl)

image-size : (fronts : List (List ℕ)) (text : List ℕ → Option AddressText) (partner : ℕ → Option ℕ)
    → ((line : List ℕ) (x : AddressText) → text line ≡ Some x → Bears fronts line x) → (line : List ℕ) → 1 ≤ length line → let image =
    image_of line (renamed partner (text line)) in (1 ≤ length image) × (2 * length image ≤ 3 * length line)
image-size fronts text partner bears line some =
    elim (image-cases partner (text line) line) [
      | inl e ↦ (omega (arith, ap length e), omega (arith, ap length e))
      | inr p ↦
          let size : (1 ≤ length (replaced line p.0 p.1)) × (2 * length (replaced line p.0 p.1) ≤ 3 * length line) =
          length-replaced line p.0 p.1 (bears line p.0 p.2).in_line in
          (omega (arith, ap length p.3), omega (arith, ap length p.3))
    ]

image-kept : (partner : ℕ → Option ℕ) (o : Option AddressText) (line : List ℕ) → is_some o ≡ false → image_of line (renamed partner o) ≡ line
image-kept partner None line e = refl
image-kept partner (Some x) line e = cc

lawful : (fronts : List (List ℕ)) (text : List ℕ → Option AddressText) (partner : ℕ → Option ℕ)
    → ((line : List ℕ) (x : AddressText) → text line ≡ Some x → Bears fronts line x) → IsLawful (lines fronts text partner)
lawful fronts text partner bears = record {
  within = within;
  alone = alone;
  follows = follows;
  released = λ r t h unit. released fronts text bears r t h.some h.rest h.free unit;
  stays = λ r t h rest. stays fronts r t h.some h.free;
  ends = λ r t h. ends r t h.rest;
  kept = λ u unit e. image-kept partner (text u) u e;
  some = λ u unit. (image-size fronts text partner bears u (within u (length u) unit).0).0;
  small = λ u unit. (image-size fronts text partner bears u (within u (length u) unit).0).1;
}

-- the lines of a client keep the laws
pub client_lines-lawful : (pair : Pair) → IsLawful (client_lines pair)
client_lines-lawful pair = lawful client_fronts client_text (client_partner pair) client-bears

-- the lines of a server keep the laws
pub server_lines-lawful : (pair : Pair) → IsLawful (server_lines pair)
server_lines-lawful pair = lawful server_fronts server_text (server_partner pair) server-bears
