use Rattle.std.proofs.Common.{◌+◌, ◌∙◌, ap, List, ℕ, option_map, position}
use Rattle.gate_settings.specs.Cross.{host_is_taken}
use Rattle.gate_settings.specs.declared.settings.Block.{Block}
use Rattle.settings_file.specs.declared.fault.SettingsFault.TheVariants.{HostInPool}
use Rattle.settings_file.specs.Accepting.{host_in_pool}
use Rattle.settings_file.specs.Inside.Numbers as keys
use Rattle.settings_file.proofs.cross.host_in_pool.Goals as goal

pub returns-in-Some : goal.returns-in-Some
unfolding host_in_pool host_is_taken
returns-in-Some c =
    let same = c.in_ok-same.ensures ∙ c.items.ensures in
    ap (option_map (λ (place : ℕ). HostInPool (place + 1)))
    (c.in-Some.ensures.value ∙ ap (λ (xs : List Block). position (keys.host_is_taken c.args.settings.now xs) c.items-2.result.now) same
    ∙ ap (position (host_is_taken c.args.settings.now)) c.items-2.ensures)

pub returns : goal.returns
unfolding host_in_pool host_is_taken
returns c =
    let same = c.in_ok-same.ensures ∙ c.items.ensures in
    ap (option_map (λ (place : ℕ). HostInPool (place + 1)))
    (c.in-None.ensures.value ∙ ap (λ (xs : List Block). position (keys.host_is_taken c.args.settings.now xs) c.items-2.result.now) same
    ∙ ap (position (host_is_taken c.args.settings.now)) c.items-2.ensures)
