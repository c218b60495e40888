-- Streams whose dialogue learns one more entry.
use Rattle.std.proofs.Common.{◌≡◌, ℕ, Bool, List, [], ◌∷◌, ◌++◌, length, refl, ◌∙◌, ap, not, ◌&&◌, flat_map}
use Rattle.dialogue.specs.Prelude.{Meaning, is_empty, is_released, Plain, Push, changed_ends, Cut, cut, pushes_of, ReadAlike}
use Rattle.dialogue.proofs.Alike.{cut_alike, image_alike, spans_alike, pushes_alike}
use Rattle.audit_streams.specs.Inside.Transcripts.{Transcribed, transcript_of, IsOf}
use Rattle.audit_streams.proofs.TranscriptLemmas.{made_is}

ends_alike : (m n : Meaning) (s : List ℕ) → ReadAlike m n s
    → (let c = cut m s in changed_ends 0 (pushes_of m c c.rest)) ≡ (let c = cut n s in changed_ends 0 (pushes_of n c c.rest))
ends_alike m n s a =
    ap (λ (ps : List Push). changed_ends 0 (ps ++ Plain (length (cut m s).rest) ∷ [])) (pushes_alike m n (cut m s).units a.image)
    ∙ ap (λ (c : Cut). changed_ends 0 (pushes_of n c c.rest)) (cut_alike m n s a)

-- a stream that is read alike has the same lists
transcripts_alike : (m n : Meaning) (s : List ℕ) → ReadAlike m n s → transcript_of m s ≡ transcript_of n s
transcripts_alike m n s a =
    made_is _ _ _ _ _ _ _ _ _ _
    refl
    (image_alike m n s a)
    (spans_alike m n s a)
    (ends_alike m n s a)
    (ap (λ (c : Cut). length (flat_map (λ u. u) c.units)) (cut_alike m n s a))

released_alike : (m n : Meaning) → ((r : List ℕ) → m.holds r ≡ n.holds r) → (r : List ℕ) → is_released m r ≡ is_released n r
released_alike m n h [] = refl
released_alike m n h (x ∷ r) = ap (λ b. not b && not (is_empty (x ∷ r))) (h (x ∷ r))

pub of_alike : (m n : Meaning) (l : Transcribed) (released : Bool) → ReadAlike m n l.octets → IsOf m l released → IsOf n l released
of_alike m n l released a is = record {
  lists = is.lists ∙ transcripts_alike m n l.octets a;
  free = is.free ∙ released_alike m n a.holds (cut m l.octets).rest ∙ ap (λ (c : Cut). is_released n c.rest) (cut_alike m n l.octets a);
}
