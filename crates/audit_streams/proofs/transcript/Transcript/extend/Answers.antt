use Rattle.std.proofs.Common.{◌≡◌, ◌++◌, ◌∙◌, ap, rules, tests}
use Rattle.audit_streams.specs.Inside.Transcripts.{Transcribed, with_octets}
use Rattle.audit_streams.proofs.Places.{kept, kept_on}
use Rattle.audit_streams.proofs.transcript.Transcript.extend.Goals as goal

pub returns-clause-ok : goal.returns-clause-ok
returns-clause-ok c =
    let a = c.self.inside in
    let t = c.args.octets.now in
    let octets : c.extend_from_slice.new.self.items ≡ a.octets.items ++ t = search (rules, tests) in
    let image : c.extend_from_slice-fits.new.self.items ≡ a.image.items ++ t = search (rules, tests) in
    ap (λ v. kept v c.extend_from_slice-fits.new.self.items a.units.items a.rest) octets
    ∙ ap (λ v. kept (a.octets.items ++ t) v a.units.items a.rest) image
    ∙ kept_on a.octets.items a.image.items a.units.items a.rest c.self.invariant t
    ∙ ap (λ (l : Transcribed). with_octets l t) c.self.view_is
