-- The ways in which what goes out for a segment of a session may be cut into segments (RFC 9293, 3.7.1).
use Rattle.std.specs.Prelude.{◌≡◌, ◌≤◌, ◌+◌, ℕ, true, ◌&&◌, ◌==◌, List, [], ◌∷◌, ◌++◌, length, map}
use Rattle.stream_model.specs.Session.{Outgoing}
use Rattle.stream_model.specs.Sending.{Sent, Piece, segment_with, alone}

-- a piece of octets that begin so far behind the first one, with those behind it: it has an octet or more, no more than the limit, FIN where
-- it is the last and what goes out has FIN, and PSH only where what goes out has PSH
pub record IsPiece (s : Sent) (place : ℕ) (all behind : List ℕ) (p : Piece) : Type 0 where
  pub joined : all ≡ p.octets ++ behind
  pub stands : p.offset ≡ place
  pub some : 1 ≤ length p.octets
  pub few : length p.octets ≤ s.limit
  pub ends : p.fin ≡ (length behind == 0 && s.flags.fin)
  pub pushes : p.push ≡ true → s.flags.push ≡ true

-- these octets, which begin so far behind the first one, in pieces
abbrev pub ArePieces : Sent → ℕ → List ℕ → List Piece → Type 0
ArePieces s place all [] = all ≡ []
ArePieces s place all (p ∷ ps) = (behind : List ℕ) × IsPiece s place all behind p × ArePieces s (place + length p.octets) behind ps

-- these segments are a lawful way to send it: the one segment without octets, or the octets in pieces
abbrev pub MaySend : Sent → List ℕ → List Outgoing → Type 0
MaySend s [] outs = outs ≡ alone s ∷ []
MaySend s (octet ∷ octets) outs = (ps : List Piece) × ArePieces s 0 (octet ∷ octets) ps × (outs ≡ map (segment_with s) ps)

abbrev pub IsLawfulWay : Sent → List Outgoing → Type 0
IsLawfulWay s outs = MaySend s s.octets outs
