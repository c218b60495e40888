-- Laws of the log of starts.
use Rattle.std.proofs.Common.{◌≡◌, ℕ, ◌+◌, ◌*◌, ◌≤◌, List, [], ◌∷◌, ◌++◌, take, drop, length, sym, ap, ◌∙◌, arith, length-drop}
use Rattle.std.proofs.lemmas.List.{length-take-le, take-append-le, drop-append-le, take_all, nil_from_length}
use Rattle.memory_desks.specs.declared.log.Entry.{Entry}
use Rattle.gate_desk.specs.Outside.{Start, names_size}
use Rattle.memory_desks.specs.Inside.Log.{starts_in, total_len}

pub names_size-starts_in : (es : List Entry) (names : List ℕ) → total_len es ≤ length names
    → names_size (starts_in es names) ≡ total_len es + 3 * length es
names_size-starts_in [] names h = omega arith
names_size-starts_in (e ∷ es) names h =
    omega (arith, length-take-le e.len names (omega arith), names_size-starts_in es (drop e.len names) (omega (arith, length-drop e.len names)))

pub total_len-append : (es fs : List Entry) → total_len (es ++ fs) ≡ total_len es + total_len fs
total_len-append [] fs = omega arith
total_len-append (e ∷ es) fs = omega (arith, total_len-append es fs)

one-start : (e : Entry) (more : List ℕ) → e.len ≡ length more
    → starts_in (e ∷ []) more ≡ (record { slot = e.slot; name = more; access = e.access }) ∷ []
one-start e more h =
    ap (λ (xs : List ℕ). let x : List Start = (record { slot = e.slot; name = xs; access = e.access }) ∷ [] in x) (take_all e.len more (omega arith))

pub starts_in-push : (es : List Entry) (names : List ℕ) (e : Entry) (more : List ℕ) → total_len es ≡ length names → e.len ≡ length more
    → starts_in (es ++ e ∷ []) (names ++ more) ≡ starts_in es names ++ (record { slot = e.slot; name = more; access = e.access }) ∷ []
starts_in-push [] names e more h k = ap (λ (xs : List ℕ). starts_in (e ∷ []) (xs ++ more)) (nil_from_length names (sym h)) ∙ one-start e more k
starts_in-push (d ∷ es) names e more h k =
    let fits : d.len ≤ length names = omega arith in
    let front = take-append-le d.len names more fits in
    let back = drop-append-le d.len names more fits in
    let rest = starts_in-push es (drop d.len names) e more (omega (arith, length-drop d.len names)) k in
    ap (λ (xs : List ℕ). let x : List Start =
    (record { slot = d.slot; name = xs; access = d.access }) ∷ starts_in (es ++ e ∷ []) (drop d.len (names ++ more)) in x) front
    ∙ ap (λ (xs : List ℕ). let x : List Start =
    (record { slot = d.slot; name = take d.len names; access = d.access }) ∷ starts_in (es ++ e ∷ []) xs in x) back
    ∙ ap (λ (ss : List Start). let x : List Start = (record { slot = d.slot; name = take d.len names; access = d.access }) ∷ ss in x) rest
