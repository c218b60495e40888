use Rattle.std.proofs.Common.{◌≡◌, ◌++◌, ℕ, List, [], codes, decimal, drop, ap, ◌∙◌, append_assoc, arith}
use Rattle.std.proofs.lemmas.List.{append-nil, drop_all}
use Rattle.gate_base.specs.Prelude.{name_of}
use Rattle.verdicts.specs.Prelude.{verdict_name}
use Rattle.gate_report.specs.Lines.{event_text}
use Rattle.gate_report.proofs.text.put_event.Goals as goal

-- pieces that were put before one another
joined : (a b c d e f g h i j : List ℕ)
    → a ++ (b ++ (c ++ (d ++ (e ++ (f ++ (g ++ (h ++ (i ++ (j ++ []))))))))) ≡ a ++ b ++ c ++ d ++ e ++ f ++ g ++ h ++ i ++ j
joined a b c d e f g h i j = simp (append_assoc, append-nil)

pub returns-clause-line : goal.returns-clause-line
unfolding event_text
returns-clause-line c =
    let number = decimal c.args.number in
    let space = codes " " in
    let side = name_of c.args.side in
    let moment = decimal c.args.moment in
    let verdict = verdict_name c.args.verdict in
    let frames = decimal c.from.result in
    let last : drop 192 c.args.room.now ≡ [] = drop_all 192 c.args.room.now (omega (arith, c.requires)) in
    let pieces = c.put_number_before.ensures.octets
    ∙ ap (λ xs. number ++ xs) (c.put_word_before-end-5.ensures.octets
    ∙ ap (λ xs. space ++ xs) (c.put_side_before-end.ensures.octets
    ∙ ap (λ xs. side ++ xs) (c.put_word_before-end-4.ensures.octets
    ∙ ap (λ xs. space ++ xs) (c.put_number_before-end-2.ensures.octets
    ∙ ap (λ xs. moment ++ xs) (c.put_word_before-end-3.ensures.octets
    ∙ ap (λ xs. space ++ xs) (c.put_verdict_before-end.ensures.octets
    ∙ ap (λ xs. verdict ++ xs) (c.put_word_before-end-2.ensures.octets
    ∙ ap (λ xs. space ++ xs) (c.put_number_before-end.ensures.octets
    ∙ ap (λ xs. frames ++ xs) (c.put_word_before-end.ensures.octets ∙ ap (λ xs. codes "\n" ++ xs) last))))))))) in
    pieces ∙ joined number space side space moment space verdict space frames (codes "\n")
    ∙ ap (λ n. number ++ space ++ name_of c.args.side ++ space ++ moment ++ space ++ verdict_name c.args.verdict ++ space ++ decimal n ++ codes "\n")
    c.from.ensures
