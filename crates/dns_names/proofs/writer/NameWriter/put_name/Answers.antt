use Rattle.std.proofs.Common.{List, ℕ, sym, subst}
use Rattle.dns_names.specs.Prelude.{IsSpelled, Text, BeginsWith, starts_in}
use Rattle.dns_names.proofs.Walking.{labels_in-spelled}
use Rattle.dns_names.proofs.Putting.{put_name-is, begins-with-itself}
use Rattle.dns_names.proofs.writer.NameWriter.put_name.Goals as goal

pub put_labels-requires-clause-spelled : goal.put_labels-requires-clause-spelled
put_labels-requires-clause-spelled c =
    let back = labels_in-spelled c.octets-octets.result.now c.args.name.now c.octets-octets.ensures.octets_are in
    subst (λ (x : List (List ℕ)). IsSpelled c.octets-octets.result.now x) (sym back) c.octets-octets.ensures

pub returns-clause-text : goal.returns-clause-text
returns-clause-text c =
    let back = labels_in-spelled c.octets-octets.result.now c.args.name.now c.octets-octets.ensures.octets_are in
    rw (← c.self.view_is) (put_name-is c.self.inside.octets.items c.put_labels.new.out.items (starts_in c.self.inside.places)
    (starts_in c.put_labels.new.places) c.args.name.now (rw back at c.in_ok-edge.ensures.octets) (rw back at c.in_ok-edge.ensures.starts))

pub returns-in_default-clause-kept : goal.returns-in_default-clause-kept
returns-in_default-clause-kept c = subst (λ (t : Text). BeginsWith c.args.self.now t) (sym c.self.view_is) (begins-with-itself c.args.self.now)
