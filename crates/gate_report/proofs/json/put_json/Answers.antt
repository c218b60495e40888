use Rattle.std.proofs.Common.{ap, ◌∙◌, ◌++◌, ◌∷◌, []}
use Rattle.serde_json.proofs.FreeTexts.{text_of_value}
use Rattle.gate_report.specs.Values.{value_of}
use Rattle.gate_report.proofs.Texts.{no_floats, json_text}
use Rattle.gate_report.proofs.json.put_json.Goals as goal

pub returns : goal.returns
returns c =
    let line = c.args.line.now in
    let sent = c.in-Ok.ensures.events in
    let text = text_of_value (value_of line) sent.0 c.in-Ok.made.items sent.1 sent.2 (no_floats line) in
    c.in_ok-push.ensures.items ∙ ap (λ xs. xs ++ 10 ∷ []) text ∙ json_text line
