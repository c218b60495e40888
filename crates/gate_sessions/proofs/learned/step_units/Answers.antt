use Rattle.std.proofs.Common.{◌≡◌, ◌≤◌, List, length, take, ◌∙◌, ap, sym, subst, arith}
use Rattle.gate_base.specs.declared.host.Host.{Host}
use Rattle.gate_base.specs.Prelude.{peer}
use Rattle.dialogue.specs.Prelude.{Entry, AreImages}
use Rattle.dialogue.specs.declared.learns.UnitImage.{UnitImage}
use Rattle.dns_stream.specs.Prelude.{unit_addresses, dns_units}
use Rattle.compact_stream.specs.Prelude.{sender_kept}
use Rattle.stream_gate.specs.Prelude.{IsListedStream}
use Rattle.dns_plans.specs.Prelude.{entered_all}
use Rattle.gate_sessions.specs.Inside.Directions.{DnsKept, listed_of}
use Rattle.dns_plans.proofs.EnteredLemmas.{all-more}
use Rattle.gate_sessions.proofs.ListedLemmas.{can_forget, front_of, other_same, forgotten_is}
use Rattle.gate_sessions.proofs.learned.step_units.Goals as goal

-- the images are by the list that its sender has now
pub expect-requires : goal.expect-requires
expect-requires c =
    let images : List UnitImage = c.args.completed.images.items in
    let g : DnsKept = c.learn_all.new.session in
    let right : AreImages (dns_units (listed_of c.args.passing.now.from g)) images =
    subst (λ (xs : List Entry). AreImages (dns_units xs) images) (sym c.learn_all.ensures.list) c.requires.images in
    record {
      client = λ e. subst (λ (b : Host). AreImages (dns_units (listed_of b g)) images) e right;
      server = λ e. subst (λ (b : Host). AreImages (dns_units (listed_of b g)) images) e right;
    }

pub forget_from-requires : goal.forget_from-requires
forget_from-requires c =
    let b : Host = c.args.passing.now.from in
    let old : DnsKept = c.args.session.now in
    let g : DnsKept = c.put_segments.new.session in
    let same : g ≡ c.learn_all.new.session = c.in-Err.ensures.same ∙ c.expect.ensures in
    let l : listed_of b g ≡ entered_all (listed_of b old) c.args.completed.entries.now = ap (λ (d : DnsKept). listed_of b d) same
    ∙ c.learn_all.ensures.list in
    let k : g.kept ≡ old.kept = ap (λ (d : DnsKept). d.kept) same ∙ c.learn_all.ensures.kept in
    let count : c.listed-listed.result ≡ length (listed_of b old) = c.listed-listed.ensures in
    let stream = can_forget b old g c.args.completed.entries.now c.listed-listed.result c.requires.stream count l k in
    let within : c.listed-listed.result ≤ length (listed_of b g) =
    omega (arith, count, ap length l, all-more (listed_of b old) c.args.completed.entries.now) in
    let at : (x : Host) → b ≡ x
    → IsListedStream unit_addresses (dns_units (listed_of x g)) (take c.listed-listed.result (listed_of x g)) (sender_kept x g.kept) =
    λ x e. subst
    (λ (y : Host). IsListedStream unit_addresses (dns_units (listed_of y g)) (take c.listed-listed.result (listed_of y g))
    (sender_kept y g.kept)) e stream in
    record { within = within; client_stream = λ e. at _ e; server_stream = λ e. at _ e }

pub returns-in-Err-clause-same : goal.returns-in-Err-clause-same
returns-in-Err-clause-same c =
    let b : Host = c.args.passing.now.from in
    let old : DnsKept = c.args.session.now in
    let g : DnsKept = c.put_segments.new.session in
    let new : DnsKept = c.forget_from.new.self in
    let same : g ≡ c.learn_all.new.session = c.in-Err.ensures.same ∙ c.expect.ensures in
    let l : listed_of b g ≡ entered_all (listed_of b old) c.args.completed.entries.now = ap (λ (d : DnsKept). listed_of b d) same
    ∙ c.learn_all.ensures.list in
    let k : g.kept ≡ old.kept = ap (λ (d : DnsKept). d.kept) same ∙ c.learn_all.ensures.kept in
    let o : listed_of (peer b) g ≡ listed_of (peer b) old = ap (λ (d : DnsKept). listed_of (peer b) d) same ∙ c.learn_all.ensures.other in
    forgotten_is b old new
    (c.forget_from.ensures.entries ∙ ap (λ (xs : List Entry). take c.listed-listed.result xs) l
    ∙ front_of (listed_of b old) c.args.completed.entries.now c.listed-listed.result c.listed-listed.ensures)
    (other_same b new g c.forget_from.ensures.server c.forget_from.ensures.client ∙ o)
    (c.forget_from.ensures.kept ∙ k)
