use Rattle.std.proofs.Common.{◌≡◌, ◌==◌, ◌∙◌, ℕ, ap, sym, not, get_or, take}
use Rattle.std.specs.List.{list_any}
use Rattle.gate_base.specs.declared.side.Side.TheVariants.{Left}
use Rattle.gate_settings.specs.declared.settings.Fixed.{Fixed}
use Rattle.settings_file.specs.Inside.Numbers.{host_number, alias_number}
use Rattle.settings_file.proofs.Repeated.{collides_next, has_alias, has_host, numbers_more, passes_next}
use Rattle.settings_file.proofs.cross.repeated.Goals as goal
use Rattle.settings_file.proofs.cross.repeated.Goals.{In_ok-new_alias}

abbrev none : Fixed
none = record { side = Left; host = record { 0 = 0 }; alias = record { 0 = 0 } }

new_host_is : (c : In_ok-new_alias)
    → c.in_ok-new_host.new_host ≡ not (has_host c.args.statics.now c.loop-index.index (get_or c.args.statics.now c.loop-index.index none))
new_host_is c =
    c.in_ok-new_host.ensures.added
    ∙ ap not (c.loop-index.invariant.hosts c.number_of.result
    ∙ ap (λ (key : ℕ). list_any (λ (e : Fixed). host_number e == key) (take c.loop-index.index c.args.statics.now)) c.number_of.ensures)

new_alias_is : (c : In_ok-new_alias)
    → c.in_ok-new_alias.new_alias ≡ not (has_alias c.args.statics.now c.loop-index.index (get_or c.args.statics.now c.loop-index.index none))
new_alias_is c =
    c.in_ok-new_alias.ensures.added
    ∙ ap not (c.loop-index.invariant.aliases c.number_of-in-loop-index.result
    ∙ ap (λ (key : ℕ). list_any (λ (e : Fixed). alias_number e == key) (take c.loop-index.index c.args.statics.now))
    c.number_of-in-loop-index.ensures)

pub returns-then-not-new_host : goal.returns-then-not-new_host
returns-then-not-new_host c =
    let before = (goal.at.returns-then-not-new_host c).In_ok-new_alias in
    sym (collides_next c.args.statics.now c.loop-index.index none c.in_ok-new_host.new_host c.in_ok-new_alias.new_alias c.loop-index-test.true
    (new_host_is before) (new_alias_is before) c.then-not-new_host.either)
    ∙ c.loop-index.invariant.same

pub loop-index-preserved : goal.loop-index-preserved
loop-index-preserved c =
    let before = (goal.at.loop-index-preserved c).In_ok-new_alias in
    record {
      same = sym
          (passes_next c.args.statics.now c.loop-index.index none c.in_ok-new_host.new_host c.in_ok-new_alias.new_alias c.loop-index-test.true
          (new_host_is before) (new_alias_is before) c.if-not-new_host.false c.if-not-new_alias.false) ∙ c.loop-index.invariant.same;
      hosts = λ q. numbers_more host_number c.loop-index.hosts c.insert.new.self c.args.statics.now c.loop-index.index none c.number_of.result q
          c.loop-index-test.true c.number_of.ensures c.in_ok-new_host.ensures.updates (c.loop-index.invariant.hosts q);
      aliases = λ q. numbers_more alias_number c.loop-index.aliases c.insert-in-loop-index.new.self c.args.statics.now c.loop-index.index none
          c.number_of-in-loop-index.result q c.loop-index-test.true c.number_of-in-loop-index.ensures c.in_ok-new_alias.ensures.updates
          (c.loop-index.invariant.aliases q);
    }
