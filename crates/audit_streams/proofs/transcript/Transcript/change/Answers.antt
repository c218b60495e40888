use Rattle.std.proofs.Common.{◌≡◌, ◌+◌, ◌-◌, ◌++◌, ◌∷◌, [], List, length, take, sym, ◌∙◌, ap, subst, refl, arith, rules, tests}
use Rattle.audit_streams.specs.declared.transcript.ChangedUnit.{ChangedUnit}
use Rattle.audit_streams.specs.Inside.Transcripts.{Transcribed, IsTranscript, changed, with_octets}
use Rattle.audit_streams.proofs.Places.{kept, kept_changed, changed_transcript}
use Rattle.audit_streams.proofs.transcript.Transcript.change.Goals as goal
use Rattle.audit_streams.proofs.transcript.Transcript.change.Goals.{After-self-1}

-- the unit that is appended
abbrev unit : After-self-1 → ChangedUnit
unit c =
    let at = c.len-2.result - (c.len-3.result - c.self.inside.rest) in
    record { first = c.self.inside.rest; past = c.len.result + length c.args.octets.now; at = at; end = at + length c.args.image.now }

octets : (c : After-self-1) → c.extend_from_slice.new.self.items ≡ c.self.inside.octets.items ++ c.args.octets.now
octets c = search (rules, tests)

image : (c : After-self-1) → c.extend_from_slice-fits.new.self.items ≡ take (unit c).at c.self.inside.image.items ++ c.args.image.now
image c = search (rules, tests)

units : (c : After-self-1) → c.push_reserved.new.self.items ≡ c.self.inside.units.items ++ unit c ∷ []
units c = search (rules, tests)

-- what is known of the unit
past : (c : After-self-1) → (unit c).past ≡ length c.self.inside.octets.items + length c.args.octets.now
past c = ap (λ n. n + length c.args.octets.now) (c.len.ensures ∙ c.self.inside.octets.ok.0)

at : (c : After-self-1) → (unit c).at ≡ length c.self.inside.image.items - (length c.self.inside.octets.items - c.self.inside.rest)
at c = omega (arith, c.len-2.ensures, c.len-3.ensures, c.self.inside.octets.ok.0, c.self.inside.image.ok.0)

pub invariant_of-self-2 : goal.invariant_of-self-2
invariant_of-self-2 c =
    let a = c.self.inside in
    let t = c.args.octets.now in
    let octets_is = ap (λ (l : Transcribed). length l.octets) c.self.view_is in
    let rest_is = ap (λ (l : Transcribed). l.rest) c.self.view_is in
    let image_is = ap (λ (l : Transcribed). length l.image) c.self.view_is in
    let new =
    changed_transcript a.octets.items a.image.items a.units.items a.rest c.self.invariant t c.args.image.now (unit c) refl (past c) (at c) refl
    (omega (arith, c.requires.some, octets_is, rest_is))
    (omega (arith, c.requires.few, octets_is))
    (omega (arith, at c, c.requires.short, octets_is, rest_is, image_is))
    in
    let n : length a.octets.items ≡ c.len.result = sym (c.len.ensures ∙ a.octets.ok.0) in
    subst (λ v. IsTranscript v c.extend_from_slice-fits.new.self.items c.push_reserved.new.self.items (c.len.result + length t)) (sym (octets c))
    (subst (λ v. IsTranscript (a.octets.items ++ t) v c.push_reserved.new.self.items (c.len.result + length t)) (sym (image c))
    (subst (λ (us : List ChangedUnit). IsTranscript (a.octets.items ++ t) (take (unit c).at a.image.items ++ c.args.image.now) us
    (c.len.result + length t)) (sym (units c))
    (subst (λ k. IsTranscript (a.octets.items ++ t) (take (unit c).at a.image.items ++ c.args.image.now) (a.units.items ++ unit c ∷ [])
    (k + length t)) n new)))

pub returns-clause-ok : goal.returns-clause-ok
returns-clause-ok c =
    let a = c.self.inside in
    let t = c.args.octets.now in
    let new = c.args.image.now in
    ap (λ v. kept v c.extend_from_slice-fits.new.self.items c.push_reserved.new.self.items (c.len.result + length t)) (octets c)
    ∙ ap (λ v. kept (a.octets.items ++ t) v c.push_reserved.new.self.items (c.len.result + length t)) (image c)
    ∙ ap (λ (us : List ChangedUnit). kept (a.octets.items ++ t) (take (unit c).at a.image.items ++ new) us (c.len.result + length t)) (units c)
    ∙ ap (λ k. kept (a.octets.items ++ t) (take (unit c).at a.image.items ++ new) (a.units.items ++ unit c ∷ []) (k + length t))
    (c.len.ensures ∙ a.octets.ok.0)
    ∙ kept_changed a.octets.items a.image.items a.units.items a.rest c.self.invariant t new (unit c) refl (past c) (at c) refl
    ∙ ap (λ (l : Transcribed). changed (with_octets l t) new) c.self.view_is
