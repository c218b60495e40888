-- The names of this crate that others cite most, passed on from one place. Declares nothing.
pub use Rattle.gate_base.specs.Address.{cut_at, digit_of, is_unicast_number, number_of, quad, ◌>>=◌}
pub use Rattle.gate_base.specs.Fields.{u16_at, u32_at, with_u16, with_u32}
pub use Rattle.gate_base.specs.Side.{name_of, other, same_side}
pub use Rattle.gate_base.specs.Hosts.{peer}
pub use Rattle.gate_base.specs.Events.{Event, event_of}
pub use Rattle.gate_base.specs.Rules.{AreRules, is_prefix, is_rule}
pub use Rattle.gate_base.specs.Moments.{IsMoment, IsTimeout}
