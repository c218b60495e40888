-- Pieces one after the other.
use Rattle.std.proofs.Common.{◌≡◌, ◌≤◌, ◌+◌, ◌-◌, ◌*◌, ◌/◌, ℕ, zero, suc, Bool, true, false, not, ◌&&◌, List, [], ◌∷◌, length, take, drop, refl, sym, ◌∙◌, ap, arith, map, nat_lt, slice_range, take_all, length-drop, drop-drop, lt-ltb, le-ltb}
use Rattle.std.specs.List.{range_with_len}
use Rattle.std.proofs.Math.Nat.{div-mul-le_self}
use Rattle.resegment.specs.Pieces.{piece_count, cut_at}
use Rattle.stream_model.specs.Sending.{Piece, piece_at, pieces}

-- so many whole pieces of the limit, and the last one with what is left
abbrev pub pieces_from : ℕ → ℕ → ℕ → List ℕ → Bool → Bool → List Piece
pieces_from zero limit offset octets fin push = record { offset = offset; octets = octets; fin = fin; push = push } ∷ []
pieces_from (suc whole) limit offset octets fin push =
    record { offset = offset; octets = take limit octets; fin = false; push = false }
    ∷ pieces_from whole limit (offset + limit) (drop limit octets) fin push

abbrev piece : ℕ → ℕ → ℕ → List ℕ → Bool → Bool → Bool → Piece
piece offset start end octets more fin push =
    record { offset = offset + start; octets = slice_range octets start end; fin = not more && fin; push = not more && push }

-- the pieces from one on
from_piece : (limit offset : ℕ) (octets : List ℕ) (fin push : Bool) (whole index at : ℕ) → at ≡ index * limit
    → index + suc whole ≡ piece_count (length octets) limit → at + whole * limit ≤ length octets
    → map (piece_at limit offset octets fin push) (range_with_len index (suc whole)) ≡ pieces_from whole limit (offset + at) (drop at octets) fin push
from_piece limit offset octets fin push zero index at is last fits =
    let count : ℕ = length octets in
    let start : cut_at (length octets) limit index ≡ at = rw (lt-ltb index (piece_count (length octets) limit) (omega (arith, last))) (sym is) in
    let behind : nat_lt (index + 1) (piece_count (length octets) limit) ≡ false =
    le-ltb (index + 1) (piece_count (length octets) limit) (omega (arith, last)) in
    let end : cut_at (length octets) limit (index + 1) ≡ length octets = rw behind refl in
    let rest : slice_range octets at (length octets) ≡ drop at octets =
    take_all (length octets - at) (drop at octets) (omega (arith, length-drop at octets)) in
    ap (λ b. piece offset (cut_at (length octets) limit index) (cut_at (length octets) limit (index + 1)) octets b fin push ∷ []) behind
    ∙ ap (λ n. piece offset n (cut_at (length octets) limit (index + 1)) octets false fin push ∷ []) start
    ∙ ap (λ n. piece offset at n octets false fin push ∷ []) end
    ∙ ap (λ (xs : List ℕ). (record { offset = offset + at; octets = xs; fin = fin; push = push } ∷ [])) rest
from_piece limit offset octets fin push (suc whole) index at is last fits =
    let next : (index + 1) * limit ≡ at + limit = grind arith in
    let times : suc whole * limit ≡ limit + whole * limit = grind arith in
    let start : cut_at (length octets) limit index ≡ at = rw (lt-ltb index (piece_count (length octets) limit) (omega (arith, last))) (sym is) in
    let follow : nat_lt (index + 1) (piece_count (length octets) limit) ≡ true =
    lt-ltb (index + 1) (piece_count (length octets) limit) (omega (arith, last)) in
    let end : cut_at (length octets) limit (index + 1) ≡ at + limit = rw follow next in
    let part : slice_range octets at (at + limit) ≡ take limit (drop at octets) = ap (λ n. take n (drop at octets)) (omega arith) in
    let rest : List Piece = map (piece_at limit offset octets fin push) (range_with_len (index + 1) (suc whole)) in
    ap (λ b. piece offset (cut_at (length octets) limit index) (cut_at (length octets) limit (index + 1)) octets b fin push ∷ rest) follow
    ∙ ap (λ n. piece offset n (cut_at (length octets) limit (index + 1)) octets true fin push ∷ rest) start
    ∙ ap (λ n. piece offset at n octets true fin push ∷ rest) end
    ∙ ap (λ (xs : List ℕ). (record { offset = offset + at; octets = xs; fin = false; push = false } ∷ rest)) part
    ∙ ap (λ (ps : List Piece). (record { offset = offset + at; octets = take limit (drop at octets); fin = false; push = false } ∷ ps))
    (from_piece limit offset octets fin push whole (index + 1) (at + limit) (sym next) (omega (arith, last)) (omega (arith, fits, times))
    ∙ ap (λ (n : ℕ). pieces_from whole limit n (drop (at + limit) octets) fin push) (omega arith)
    ∙ ap (λ (xs : List ℕ). pieces_from whole limit (offset + at + limit) xs fin push)
    (ap (λ (n : ℕ). drop n octets) (omega arith) ∙ sym (drop-drop limit at octets)))

-- all pieces
pub pieces_are : (limit offset : ℕ) (octets : List ℕ) (fin push : Bool)
    → pieces limit offset octets fin push ≡ pieces_from ((length octets - 1) / limit) limit offset octets fin push
pieces_are limit offset octets fin push =
    let whole : (length octets - 1) / limit * limit ≤ length octets - 1 = div-mul-le_self (length octets - 1) limit in
    from_piece limit offset octets fin push ((length octets - 1) / limit) 0 0 (grind arith) (omega arith) (omega (arith, whole))
    ∙ ap (λ (n : ℕ). pieces_from ((length octets - 1) / limit) limit n octets fin push) (omega arith)
