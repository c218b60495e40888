use Rattle.std.proofs.Common.{◌∷◌, ◌++◌, [], List, sym, ◌∙◌, ap, subst}
use Rattle.dialogue.specs.Prelude.{Entry, AllUnitsListed}
use Rattle.audit_streams.specs.Inside.Hosts.{HeardStream}
use Rattle.dialogue.proofs.Alike.{longer}
use Rattle.audit_streams.proofs.Longer.{of_alike}
use Rattle.audit_streams.proofs.host.WholeStream.learn.Goals as goal

pub invariant_of-self : goal.invariant_of-self
invariant_of-self g c =
    let a = c.self.inside in
    let known : AllUnitsListed g.D.Learns.addresses (g.D.Dialogue.meaning a.dialogue) (g.D.Learns.entries a.dialogue) a.transcript.octets =
    subst (λ (h : HeardStream _). AllUnitsListed g.D.Learns.addresses (g.D.Dialogue.meaning h.dialogue)
    (g.D.Learns.entries h.dialogue) h.heard.octets) (sym c.self.view_is) c.requires.known
    in
    of_alike (g.D.Dialogue.meaning a.dialogue) (g.D.Dialogue.meaning c.learn.new.self) a.transcript a.released
    (longer g.D.Dialogue.meaning g.D.Learns.entries g.D.Learns.meaning_with g.D.Learns.addresses g.met.D.Learns.learning g.met.D.Learns.by_entries _ _
    _ c.learn.ensures a.transcript.octets known)
    c.self.invariant

pub returns-clause-alike : goal.returns-clause-alike
returns-clause-alike g c =
    let more : List Entry = (c.args.address, c.args.image) ∷ [] in
    λ s known.
    longer g.D.Dialogue.meaning g.D.Learns.entries g.D.Learns.meaning_with g.D.Learns.addresses g.met.D.Learns.learning g.met.D.Learns.by_entries
    c.args.self.now.dialogue c.learn.new.self more
    (c.learn.ensures ∙ ap (λ (h : HeardStream _). g.D.Learns.entries h.dialogue ++ more) c.self.view_is) s known
