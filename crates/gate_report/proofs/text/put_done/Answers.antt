use Rattle.std.proofs.Common.{◌≡◌, ◌++◌, ℕ, List, [], codes, decimal, drop, ap, ◌∙◌, append_assoc, arith}
use Rattle.std.proofs.lemmas.List.{append-nil, drop_all}
use Rattle.gate_report.specs.Lines.{done_text}
use Rattle.gate_report.proofs.text.put_done.Goals as goal

-- pieces that were put before one another
joined : (a b c d e f g h i j k l m : List ℕ)
    → a ++ (b ++ (c ++ (d ++ (e ++ (f ++ (g ++ (h ++ (i ++ (j ++ (k ++ (l ++ (m ++ [])))))))))))) ≡ a ++ b ++ c ++ d ++ e ++ f ++ g ++ h ++ i ++ j
    ++ k ++ l ++ m
joined a b c d e f g h i j k l m = simp (append_assoc, append-nil)

pub returns-clause-line : goal.returns-clause-line
unfolding done_text
returns-clause-line c =
    let last : drop 192 c.args.room.now ≡ [] = drop_all 192 c.args.room.now (omega (arith, c.requires)) in
    c.put_field_before.ensures.octets
    ∙ ap (λ xs. codes "done events=" ++ (decimal c.args.totals.events ++ xs)) (c.put_field_before-end-5.ensures.octets
    ∙ ap (λ xs. codes " passed=" ++ (decimal c.args.totals.passed ++ xs)) (c.put_field_before-end-4.ensures.octets
    ∙ ap (λ xs. codes " refused=" ++ (decimal c.args.totals.refused ++ xs)) (c.put_field_before-end-3.ensures.octets
    ∙ ap (λ xs. codes " to_left=" ++ (decimal c.args.totals.to_left ++ xs)) (c.put_field_before-end-2.ensures.octets
    ∙ ap (λ xs. codes " to_right=" ++ (decimal c.args.totals.to_right ++ xs)) (c.put_field_before-end.ensures.octets
    ∙ ap (λ xs. codes " pending=" ++ (decimal c.args.pending ++ xs)) (c.put_word_before-end.ensures.octets ∙ ap (λ xs. codes "\n" ++ xs) last))))))
    ∙ joined (codes "done events=") (decimal c.args.totals.events) (codes " passed=") (decimal c.args.totals.passed) (codes " refused=")
    (decimal c.args.totals.refused) (codes " to_left=") (decimal c.args.totals.to_left) (codes " to_right=") (decimal c.args.totals.to_right)
    (codes " pending=") (decimal c.args.pending) (codes "\n")
